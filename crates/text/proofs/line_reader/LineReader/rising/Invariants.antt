use Rattle.std.proofs.Common.{◌≡◌, ℕ, ◌*◌, ◌<◌, true, List, ◌∷◌, length}
use Rattle.text.specs.declared.line.Line.{Line}
use Rattle.text.specs.Phases.{with_all}
use Rattle.text.specs.Forms.{Part, Values, rising}
use Rattle.text.specs.Reading.{scan, values_of}
use Rattle.text.specs.Steps.{scanned, numbers_then}
use Rattle.text.proofs.line_reader.LineReader.rising.Given as goal

-- at most n numbers more are read, and what is left of the line has fewer, since each takes two bytes
abbrev pub invariant-loop-number : goal.invariant-loop-number
invariant-loop-number l =
    (n : ℕ) × (length l.self.rest.now < 2 * n)
    × ((ps : List Part) (line : Values (rising ∷ ps) → Line) → scanned (rising ∷ ps) line l.initial.self
    ≡ numbers_then n 63 true l.least l.self (λ xs. scan ps (λ v. line (with_all l.phase (values_of xs), v))))

abbrev pub decreases-loop-number : goal.decreases-loop-number
decreases-loop-number l = length l.self.rest.now
