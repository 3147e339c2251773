-- The bytes of a line's text: printable, so that the byte that ends a line is not among them. Assumes nothing.
use Rattle.std.proofs.Common.{◌≡◌, ℕ, ◌+◌, ◌%◌, ◌^◌, ◌<◌, ◌≤◌, List, [], ◌∷◌, map, length, decimal, sym, subst, arith, rules}
use Rattle.std.specs.List.{flat_map, AllByRecursion}
use Rattle.std.proofs.ByRecursion.{All-append, All-push, all-has, All-weaker}
use Rattle.std.proofs.lemmas.Fmt.{decimal_by_steps}
use Rattle.text.specs.declared.line.Line.{Line}
use Rattle.text.specs.declared.line.Line.TheVariants.{Order, Notice, Open, Watch, Link, End, Bare}
use Rattle.text.specs.Phases.{members}
use Rattle.text.specs.Forms.{Part, Values, word, number, wagons, rising, listed, blank_number, blank_wagon, spelled, text, forms}
use Rattle.text.specs.Meaning.{Within}
use Rattle.text.proofs.Values.{Under, upto_under, members_under, wagons_text, Small, small_form, formed}

-- a printable byte of ASCII, or the one after these
abbrev pub Plain : ℕ → Type 0
Plain b = (32 ≤ b) × (b < 128)

plain_decimal : (n : ℕ) → n < 2 ^ 64 → AllByRecursion Plain (decimal n)
plain_decimal =
    decimal_by_steps (λ n ds. AllByRecursion Plain ds) (λ n lt. ((omega arith, omega arith), tt))
    (λ n ds ge h. All-push Plain ds (48 + n % 10) h (omega arith, omega arith))

plain_joined : (most : ℕ) (ns : List ℕ) → most < 100 → Under most ns → AllByRecursion Plain (flat_map blank_number ns)
plain_joined most [] small h = tt
plain_joined most (n ∷ ns) small h =
    ((omega arith, omega arith), All-append Plain (decimal n) (flat_map blank_number ns) (plain_decimal n (omega arith)) (plain_joined most ns small h.1))

-- the words of a form are plain
abbrev Worded : List Part → Type 0
Worded [] = Unit {0}
Worded (word w ∷ ps) = AllByRecursion Plain w × Worded ps
Worded (number most ∷ ps) = Worded ps
Worded (wagons ∷ ps) = Worded ps
Worded (rising ∷ ps) = Worded ps

worded_forms : AllByRecursion (λ f. Worded f.parts) forms
worded_forms = search rules

plain_spelled : (ps : List Part) → Small ps → Worded ps → (v : Values ps) → AllByRecursion Plain (spelled ps v)
plain_spelled [] small h v = tt
plain_spelled (word w ∷ ps) small h v = All-append Plain w (spelled ps v) h.0 (plain_spelled ps small h.1 v)
plain_spelled (number most ∷ ps) small h v =
    let le : v.0.value ≤ most = v.0.fits in
    All-append Plain (decimal v.0.value) (spelled ps v.1) (plain_decimal v.0.value (omega arith)) (plain_spelled ps small.1 h v.1)
plain_spelled (wagons ∷ ps) small h v =
    let xs = listed v.0 in
    let list : AllByRecursion Plain (flat_map blank_wagon xs) =
    rw (wagons_text xs) (plain_joined 31 (map (λ x. x.value) xs) (omega arith) (upto_under 31 xs))
    in
    All-append Plain (flat_map blank_wagon xs) (spelled ps v.1) list (plain_spelled ps small h v.1)
plain_spelled (rising ∷ ps) small h v =
    All-append Plain (flat_map blank_number (members v.0)) (spelled ps v.1) (plain_joined 63 (members v.0) (omega arith) (members_under v.0))
    (plain_spelled ps small h v.1)

pub plain_text : (l : Line) → Within l → AllByRecursion Plain (text l)
plain_text l w =
    let s = formed l w in
    let words = all-has (λ f. Worded f.parts) forms s.form worded_forms s.among in
    subst (AllByRecursion Plain) (sym s.text_is) (plain_spelled s.form.parts (small_form s.form s.among) words s.values)

-- byte 10 ends a line, and is no byte of it
pub text_one_line : (l : Line) → Within l → AllByRecursion (λ b. b ≡ 10 → ⊥) (text l)
text_one_line l w = All-weaker Plain (λ b. b ≡ 10 → ⊥) (λ b h e. omega arith) (text l) (plain_text l w)

pub text_ascii : (l : Line) → Within l → AllByRecursion (λ b. b < 128) (text l)
text_ascii l w = All-weaker Plain (λ b. b < 128) (λ b h. h.1) (text l) (plain_text l w)

pub text_some : (l : Line) → 0 < length (text l)
text_some (Order o) = omega arith
text_some (Notice n) = omega arith
text_some (Open F) = omega arith
text_some (Watch c) = omega arith
text_some (Link c) = omega arith
text_some (End t) = omega arith
text_some (Bare p) = omega arith
