-- The names that lines begin with.
use Rattle.std.specs.Prelude.{ℕ, max, List, [], ◌∷◌, codes, nat_eq}
use Rattle.std.specs.List.{common_prefix_len}
use Rattle.text.specs.declared.form_name.FormName.{FormName}
use Rattle.text.specs.declared.form_name.FormName.TheVariants.{Order, Notice, Open, Watch, Link, End, Bare}

-- the bracket, the name and the blank behind it, if one belongs to the form
abbrev pub name : FormName → List ℕ
name Order = codes "(order "
name Notice = codes "(notice "
name Open = codes "(open"
name Watch = codes "(watch "
name Link = codes "(link "
name End = codes "(end "
name Bare = codes "(bare "

-- the names of a book's lines
abbrev pub names : List FormName
names = Order ∷ Notice ∷ Open ∷ Watch ∷ Link ∷ End ∷ Bare ∷ []

-- the names of what can be carried out
abbrev pub rule_names : List FormName
rule_names = Order ∷ Notice ∷ []

-- how many bytes w and s have in common from the front
abbrev pub agree : List ℕ → List ℕ → ℕ
agree w s = common_prefix_len nat_eq w s

-- the most that one of these names has in common with s
abbrev pub furthest : List FormName → List ℕ → ℕ
furthest [] s = 0
furthest (f ∷ fs) s = max (agree (name f) s) (furthest fs s)
