-- Each watch line that fits marks its node, and no other does.
use Rattle.std.proofs.Common.{take, rules}
use Rattle.text.specs.declared.line.Line.TheVariants.{Watch}
use Rattle.book.proofs.Standing.{watch_stands}
use Rattle.phases.specs.Nodes.{watch_fits, watch_to}
use Rattle.phases.proofs.Marking.{marks_told}
use Rattle.phases.proofs.nodes.first_nodes.Goals as goal

pub returns : goal.returns
returns c =
    let b = c.args.book.now in
    marks_told b Watch c.watches_in_use.result.now (take b.watching b.watches) c.watches_in_use.ensures (watch_stands b) (watch_fits c.args.mode c.args.wagon) watch_to c.marks.result c.marks.ensures
    (λ x u a. search rules) (λ x r a fit. search rules)
