-- What a filling of a form's parts stands for, and which values a line can hold. Assumes nothing.
use Rattle.std.proofs.Common.{ℕ, ◌^◌, ◌<◌, List, [], ◌∷◌, map}
use Rattle.grade.specs.declared.upto.UpTo.{UpTo}
use Rattle.text.specs.Phases.{with_all}
use Rattle.text.specs.Numerals.{value, kept}
use Rattle.text.specs.Forms.{Part, Values, word, number, wagons, rising}
use Rattle.text.specs.Reading.{wagons_of, values_of}
use Rattle.text.specs.Meaning.{Filling}

-- the numbers of digits, each 0 where it is above its limit
abbrev pub kept_all : (most : ℕ) → List (List ℕ) → List (UpTo most)
kept_all most dss = map (λ ds. kept most (value ds)) dss

-- what the reader hands to the line: numbers above their limit count as 0
abbrev pub meant : (ps : List Part) → Filling ps → Values ps
meant [] r = tt
meant (word w ∷ ps) r = meant ps r
meant (number most ∷ ps) r = (kept most (value r.0), meant ps r.1)
meant (wagons ∷ ps) r = (wagons_of (kept_all 31 r.0), meant ps r.1)
meant (rising ∷ ps) r = (with_all 0 (values_of (kept_all 63 r.0)), meant ps r.1)

-- phases are phases of the numbers 0 to 63
abbrev pub Sized : (ps : List Part) → Values ps → Type 0
Sized [] v = Unit {0}
Sized (word w ∷ ps) v = Sized ps v
Sized (number most ∷ ps) v = Sized ps v.1
Sized (wagons ∷ ps) v = Sized ps v.1
Sized (rising ∷ ps) v = (v.0 < 2 ^ 64) × Sized ps v.1
