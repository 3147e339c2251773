-- Each link line that fits marks its node, and no other does.
use Rattle.std.proofs.Common.{take, rules}
use Rattle.text.specs.declared.line.Line.TheVariants.{Link}
use Rattle.book.proofs.Standing.{link_stands}
use Rattle.phases.specs.Nodes.{Marked, link_fits, link_to}
use Rattle.phases.proofs.Marking.{marks_told}
use Rattle.phases.proofs.nodes.next_nodes.Goals as goal

pub returns : goal.returns
returns c =
    let b = c.args.book.now in
    marks_told b Link c.links_in_use.result.now (take b.linking b.links) c.links_in_use.ensures (link_stands b) (link_fits (Marked c.args.from.now) c.args.wagon) link_to c.marks.result c.marks.ensures
    (λ x u a. search rules) (λ x r a fit. search rules)
