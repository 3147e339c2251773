use Rattle.std.proofs.Common.{◌≡◌, ◌+◌, ◌*◌, ◌≤◌, ◌++◌, length}
use Rattle.std.specs.List.{flat_map}
use Rattle.text.specs.Phases.{members_below}
use Rattle.text.specs.Forms.{blank_number}
use Rattle.text.proofs.line_text.LineText.phase.Given as goal

abbrev pub invariant-loop-n : goal.invariant-loop-n
invariant-loop-n l = (length l.self ≤ length l.initial.self + 6 * l.n) × (l.self ≡ l.initial.self ++ flat_map blank_number (members_below l.n l.phase))
