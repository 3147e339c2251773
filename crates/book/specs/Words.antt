-- Entering a text, in words: what is said when it joins a book, and when it is refused.
use Rattle.std.specs.Prelude.{◌≡◌, ℕ, ◌<◌, true, ◌⊎◌, ◌↔◌, List, length, Some, None, Ok, Err, Option, slice_index_or}
use Rattle.std.specs.List.{ContainsAt as Has}
use Rattle.text.specs.declared.line.Line.{Line}
use Rattle.text.specs.declared.line.Line.TheVariants.{Order, Notice, Open, Watch, Link, End, Bare}
use Rattle.text.specs.Meaning.{Says}
use Rattle.book.specs.declared.refusal.Refusal.{Refusal}
use Rattle.book.specs.declared.refusal.Refusal.TheVariants.{Line as Misread, Stands, Full, NoRoom}
use Rattle.book.specs.Entering.{full}

-- the number of an order or a notice
abbrev pub number : Line → Option ℕ
number (Order o) = Some o.number.value
number (Notice n) = Some n.number.value
number (Open F) = None
number (Watch w) = None
number (Link k) = None
number (End t) = None
number (Bare p) = None

-- x is this very line, or they are orders or notices with one number
abbrev pub Bars : Line → Line → Type 0
Bars x l = (x ≡ l) ⊎ ((n : ℕ) × ((number x ≡ Some n) × (number l ≡ Some n)))

-- such a line stands among them
abbrev pub Clash : List Line → Line → Type 0
Clash ls l = (x : Line) × (Has ls x × Bars x l)

-- what stands once stands nowhere else: neither this line nor its number
abbrev pub Once : List Line → Type 0
Once ls = (i j : ℕ) (d : Line) → i < length ls → j < length ls → Bars (slice_index_or ls i d) (slice_index_or ls j d) → i ≡ j

-- the text says a line that nothing bars and that there is room for; with it, the lines ls become the lines ms
pub record Joins (ls : List Line) (s : List ℕ) (ms : List Line) : Type 0 where
  pub line : Line
  pub said : Says s (Ok line)
  pub free : Clash ls line → ⊥
  pub room : full ls line ≡ true → ⊥
  pub members : (x : Line) → Has ms x ↔ (Has ls x ⊎ (x ≡ line))

-- why a text is refused where these lines stand
abbrev pub Refused : List Line → List ℕ → Refusal → Type 0
Refused ls s (Misread e) = Says s (Err e)
Refused ls s Stands = (l : Line) × (Says s (Ok l) × Clash ls l)
Refused ls s Full = (l : Line) × (Says s (Ok l) × ((Clash ls l → ⊥) × (full ls l ≡ true)))
Refused ls s NoRoom = ⊥
