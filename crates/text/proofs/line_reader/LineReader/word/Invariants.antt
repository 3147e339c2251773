use Rattle.std.proofs.Common.{◌≡◌, drop}
use Rattle.text.specs.Reading.{Next}
use Rattle.text.specs.Steps.{word_then}
use Rattle.text.proofs.line_reader.LineReader.word.Given as goal

abbrev pub invariant-loop-b : goal.invariant-loop-b
invariant-loop-b l = (next : Next) → word_then l.w l.initial.self next ≡ word_then (drop l.b-index l.w) l.self next
