-- What a text says, in the words of the forms: it is the text of a line, or it is refused in one of three ways.
use Rattle.std.specs.Prelude.{◌≡◌, ℕ, ◌+◌, ◌-◌, ◌^◌, ◌<◌, ◌≤◌, Bool, true, false, cond, ◌⊎◌, List, [], ◌∷◌, ◌++◌, length, take, Ok, Err}
use Rattle.std.specs.List.{ContainsAt as Has, flat_map, AllByRecursion}
use Rattle.text.specs.declared.line.Line.{Line}
use Rattle.text.specs.declared.line.Line.TheVariants.{Order, Notice, Open, Watch, Link, End, Bare}
use Rattle.text.specs.declared.refusal.LineRefusal.{LineRefusal}
use Rattle.text.specs.declared.refusal.LineRefusal.TheVariants.{Syntax, TooLarge, NotRising}
use Rattle.text.specs.Numerals.{Numeral, value}
use Rattle.text.specs.Forms.{Part, Form, Values, word, number, wagons, rising, text, forms}
use Rattle.text.specs.Reading.{Outcome, read}

-- what the parts of a form may be filled with: any numbers, each by its digits
abbrev pub Filling : List Part → Type 0
Filling [] = Unit {0}
Filling (word w ∷ ps) = Filling ps
Filling (number most ∷ ps) = List ℕ × Filling ps
Filling (wagons ∷ ps) = List (List ℕ) × Filling ps
Filling (rising ∷ ps) = List (List ℕ) × Filling ps

-- each number is written as a number is, and there are at most two wagons
abbrev pub Proper : (ps : List Part) → Filling ps → Type 0
Proper [] r = Unit {0}
Proper (word w ∷ ps) r = Proper ps r
Proper (number most ∷ ps) r = Numeral r.0 × Proper ps r.1
Proper (wagons ∷ ps) r = AllByRecursion Numeral r.0 × ((length r.0 ≤ 2) × Proper ps r.1)
Proper (rising ∷ ps) r = AllByRecursion Numeral r.0 × Proper ps r.1

-- digits behind a blank
abbrev pub blank_digits : List ℕ → List ℕ
blank_digits ds = 32 ∷ ds

abbrev pub filled : (ps : List Part) → Filling ps → List ℕ
filled [] r = []
filled (word w ∷ ps) r = w ++ filled ps r
filled (number most ∷ ps) r = r.0 ++ filled ps r.1
filled (wagons ∷ ps) r = flat_map blank_digits r.0 ++ filled ps r.1
filled (rising ∷ ps) r = flat_map blank_digits r.0 ++ filled ps r.1

-- a number in a text: where it begins, its limit, its value, and the least value that rises, 0 where it need not rise
pub record Mark : Type 0 where
  pub place : ℕ
  pub limit : ℕ
  pub least : ℕ
  pub value : ℕ

-- numbers from place p on, a blank before each
abbrev pub list_marks : ℕ → Bool → ℕ → ℕ → List (List ℕ) → List Mark
list_marks limit rise p least [] = []
list_marks limit rise p least (ds ∷ dss) =
    record { place = p + 1; limit = limit; least = least; value = value ds }
    ∷ list_marks limit rise (p + 1 + length ds) (cond rise (value ds + 1) 0) dss

-- the numbers of a form from place p on
abbrev pub marks : (ps : List Part) → Filling ps → ℕ → List Mark
marks [] r p = []
marks (word w ∷ ps) r p = marks ps r (p + length w)
marks (number most ∷ ps) r p =
    record { place = p; limit = most; least = 0; value = value r.0 } ∷ marks ps r.1 (p + length r.0)
marks (wagons ∷ ps) r p = list_marks 31 false p 0 r.0 ++ marks ps r.1 (p + length (flat_map blank_digits r.0))
marks (rising ∷ ps) r p = list_marks 63 true p 0 r.0 ++ marks ps r.1 (p + length (flat_map blank_digits r.0))

-- s has one of these forms, with numbers of any size
pub record Shape (fs : List Form) (s : List ℕ) : Type 0 where
  pub form : Form
  pub among : Has fs form
  pub filling : Filling form.parts
  pub proper : Proper form.parts filling
  pub is : s ≡ filled form.parts filling

-- some text that goes on from s has one of these forms
abbrev pub Begins : List Form → List ℕ → Type 0
Begins fs s = (t : List ℕ) × Shape fs (s ++ t)

-- the first byte of s, or its end, at which no form goes on
pub record Stops (fs : List Form) (s : List ℕ) (q : ℕ) : Type 0 where
  pub some : 1 ≤ q
  pub most : q ≤ length s + 1
  pub before : Begins fs (take (q - 1) s)
  pub here : q ≤ length s → Begins fs (take q s) → ⊥
  pub whole : Shape fs s → ⊥

-- the first of these marks that is bad begins at q
abbrev pub FirstAt : (Mark → Type 0) → List Mark → ℕ → Type 0
FirstAt Bad [] q = ⊥
FirstAt Bad (m ∷ ms) q = (Bad m × (q ≡ m.place)) ⊎ ((Bad m → ⊥) × FirstAt Bad ms q)

abbrev pub Above : Mark → Type 0
Above m = m.limit < m.value

abbrev pub Falls : Mark → Type 0
Falls m = m.value < m.least

-- the numbers of a text of one of these forms
abbrev pub numbers : {fs : List Form} {s : List ℕ} → Shape fs s → List Mark
numbers h = marks h.form.parts h.filling 1

-- a line within the limits: those of its numbers stand in their types
abbrev pub Within : Line → Type 0
Within (Order o) = Unit {0}
Within (Notice n) = Unit {0}
Within (Open F) = F < 2 ^ 64
Within (Watch w) = Unit {0}
Within (Link l) = Unit {0}
Within (End t) = Unit {0}
Within (Bare p) = Unit {0}

-- a line of one of these forms
abbrev pub HasForm : List Form → Line → Type 0
HasForm fs l = (f : Form) × Has fs f × (v : Values f.parts) × (f.line v ≡ l)

-- why and where a text is refused, where it may have any of these forms
abbrev pub Refuses : List Form → List ℕ → LineRefusal → Type 0
Refuses fs s (Syntax q) = ((512 < length s) × (q ≡ 513)) ⊎ ((length s ≤ 512) × Stops fs s q)
Refuses fs s (TooLarge q) = (length s ≤ 512) × ((h : Shape fs s) × FirstAt Above (numbers h) q)
Refuses fs s (NotRising q) =
    (length s ≤ 512) × ((h : Shape fs s) × ((AllByRecursion (λ m. Above m → ⊥) (numbers h)) × FirstAt Falls (numbers h) q))

-- what a text says, and just this, where it may have any of these forms
abbrev pub SaysAs : List Form → List ℕ → Outcome → Type 0
SaysAs fs s (Ok l) = Within l × (s ≡ text l) × HasForm fs l
SaysAs fs s (Err e) = Refuses fs s e

-- what a text says, and just this: every line within the limits has one of the seven forms
abbrev pub Says : List ℕ → Outcome → Type 0
Says s (Ok l) = Within l × (s ≡ text l)
Says s (Err e) = Refuses forms s e

-- reading a text gives what it says, and nothing else is said
abbrev pub ReadsRight : Type 0
ReadsRight = (s : List ℕ) → Says s (read s) × ((x : Outcome) → Says s x → x ≡ read s)
