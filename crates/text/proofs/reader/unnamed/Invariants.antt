use Rattle.std.proofs.Common.{◌≡◌, ◌≤◌, max, drop}
use Rattle.text.specs.Names.{furthest}
use Rattle.text.proofs.reader.unnamed.Given as goal

abbrev pub invariant-loop-name : goal.invariant-loop-name
invariant-loop-name l = (l.most ≤ 8) × (max l.most (furthest (drop l.name-index l.names) l.line) ≡ furthest l.names l.line)
