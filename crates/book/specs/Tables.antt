-- The tables of a book: what stands in them, and what a place holds that is not in use.
use Rattle.std.specs.Prelude.{◌≡◌, ℕ, ◌+◌, Bool, true, false, cond, List, [], ◌∷◌, ◌++◌, Some, None, Option}
use Rattle.std.proofs.Common.{zero-le}
use Rattle.grade.specs.declared.upto.UpTo.{UpTo}
use Rattle.text.specs.declared.line.Line.{Line}
use Rattle.text.specs.declared.line.Line.TheVariants as line
use Rattle.text.specs.declared.line.WatchLine.{WatchLine}
use Rattle.text.specs.declared.line.LinkLine.{LinkLine}
use Rattle.text.specs.declared.line.Rule.{Rule}
use Rattle.text.specs.declared.line.Rule.TheVariants.{Order, Notice}
use Rattle.text.specs.Numerals.{kept}
use Rattle.text.specs.Reading.{rule_line as as_line}

-- the number of a blank row
abbrev pub nought : (max : ℕ) → UpTo max
nought max = record { value = 0; fits = zero-le }

-- the row of a table of watch lines, or of link lines, that is not in use
abbrev pub blank_watch : WatchLine
blank_watch = record { mode = nought 15; wagon = nought 31; node = nought 63 }

abbrev pub blank_link : LinkLine
blank_link = record { node = nought 63; wagon = nought 31; to = nought 63 }

-- the rule, if any, stands at its own number
abbrev pub AtNumber : ℕ → Option Rule → Type 0
AtNumber k None = Unit {0}
AtNumber k (Some (Order o)) = o.number.value ≡ k
AtNumber k (Some (Notice n)) = n.number.value ≡ k

-- each of these holds of its number, where the first has number k
abbrev pub Along : {X : Type 0} → (ℕ → X → Type 0) → ℕ → List X → Type 0
Along P k [] = Unit {0}
Along P k (x ∷ xs) = P k x × Along P (k + 1) xs

-- the line, if any, at a place k of a table in which places go by number
abbrev pub rule_line : ℕ → Option Rule → List Line
rule_line k None = []
rule_line k (Some r) = as_line r ∷ []

-- a place that is set stands for the line with the place's number, which is within its limit
abbrev pub mark_line : (max : ℕ) → (UpTo max → Line) → ℕ → Bool → List Line
mark_line max line k set = cond set (line (kept max k) ∷ []) []

abbrev pub end_line : ℕ → Bool → List Line
end_line k set = mark_line 63 line.End k set

abbrev pub bare_line : ℕ → Bool → List Line
bare_line k set = mark_line 15 line.Bare k set

-- whether a line stands there
abbrev pub filled : List Line → Bool
filled [] = false
filled (l ∷ ls) = true

-- the lines of such a table, whose first place has number k
abbrev pub by_number : {X : Type 0} → (ℕ → X → List Line) → ℕ → List X → List Line
by_number at k [] = []
by_number at k (x ∷ xs) = at k x ++ by_number at (k + 1) xs
