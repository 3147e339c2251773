use Rattle.std.proofs.Common.{◌≡◌, ℕ, ◌+◌, ◌≤◌, min, length}
use Rattle.text.specs.Numerals.{digits}
use Rattle.text.proofs.line_reader.LineReader.digits.Given as goal

-- v is the value so far, and what is left of the line goes on from it
abbrev pub invariant-loop-rest : goal.invariant-loop-rest
invariant-loop-rest l =
    (l.place + length l.rest ≤ 513)
    × ((v : ℕ) × (l.n ≡ min v 65536) × (digits v l.place l.rest ≡ digits 0 l.self.place l.self.rest.now))

abbrev pub decreases-loop-rest : goal.decreases-loop-rest
decreases-loop-rest l = length l.rest
