-- The numbers that a book's lines name, and those among them under which nothing stands.
use Rattle.std.specs.Prelude.{◌≡◌, ℕ, ◌≤◌, ◌⊎◌, List, Some, None, Option}
use Rattle.std.specs.List.{Contains}
use Rattle.grade.specs.declared.upto.UpTo.{UpTo}
use Rattle.text.specs.declared.line.NoticeLine.{NoticeLine}
use Rattle.text.specs.declared.line.Rule.{Rule}
use Rattle.text.specs.declared.line.Rule.TheVariants as rule
use Rattle.text.specs.declared.line.Line.{Line}
use Rattle.text.specs.declared.line.Line.TheVariants.{Order, Notice, Open, Watch, Link, End, Bare}
use Rattle.model.specs.Phases.{Stands, InForce}
use Rattle.model.specs.Laws.{rule_number}

-- a notice names its own number, the one that it withdraws and the one that it puts in force; an open line, those of its phase
abbrev pub Mentions : Line → ℕ → Type 0
Mentions (Notice n) m = (n.number.value ≡ m) ⊎ ((n.loses.value ≡ m) ⊎ (n.gains.value ≡ m))
Mentions (Open F) m = InForce F m
Mentions (Order o) m = ⊥
Mentions (Watch w) m = ⊥
Mentions (Link k) m = ⊥
Mentions (End t) m = ⊥
Mentions (Bare p) m = ⊥

-- a notice or an open line that stands names m
abbrev pub Names : List Line → ℕ → Type 0
Names ls m = (l : Line) × Stands ls l × Mentions l m

-- an order or a notice with number m stands
abbrev pub Accepted : List Line → ℕ → Type 0
Accepted ls m = (l : Line) × Stands ls l × (rule_number l ≡ Some m)

-- m is named and not accepted
abbrev pub Missing : List Line → ℕ → Type 0
Missing ls m = Names ls m × (Accepted ls m → ⊥)

abbrev pub NoneMissing : List Line → Type 0
NoneMissing ls = (m : ℕ) → Missing ls m → ⊥

-- m is the least number named and not accepted
pub record LeastMissing (ls : List Line) (m : ℕ) : Type 0 where
  pub missing : Missing ls m
  pub least : (k : ℕ) → Missing ls k → m ≤ k

-- ---- on the way there

-- how many numbers are below the least; 64, which is all of them, where there is none
abbrev pub below : Option (UpTo 63) → ℕ
below None = 64
below (Some n) = n.value

-- r is the least of `least` and the numbers that are P and not accepted
pub record Lowered (ls : List Line) (P : ℕ → Type 0) (least r : Option (UpTo 63)) : Type 0 where
  pub low : below r ≤ below least
  pub one : (r ≡ least) ⊎ (P (below r) × (Accepted ls (below r) → ⊥))
  pub all : (m : ℕ) → P m → (Accepted ls m → ⊥) → below r ≤ m

-- the rule is a notice that withdraws m or puts m in force
abbrev pub RuleMentions : Option Rule → ℕ → Type 0
RuleMentions r m = (n : NoticeLine) × (r ≡ Some (rule.Notice n)) × ((n.loses.value ≡ m) ⊎ (n.gains.value ≡ m))

-- one of these names m, by what P says of each
abbrev pub AnyMentions : {X : Type 0} → (X → ℕ → Type 0) → List X → ℕ → Type 0
AnyMentions {X} P xs m = (x : X) × Contains xs x × P x m
