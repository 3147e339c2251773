use Rattle.std.proofs.Common.{◌+◌, get_or, drop, sym, subst}
use Rattle.std.proofs.lemmas.List.{drop_more, drop_all}
use Rattle.book.specs.Lines.{lines}
use Rattle.phases.specs.Nodes.{Marked, Links, LeadsFrom}
use Rattle.phases.proofs.Holding.{leads_end, end_leads, leads_on, on_leads, leads_like}
use Rattle.phases.proofs.nodes.leads.Goals as goal

pub loop-wagon-preserved : goal.loop-wagon-preserved
loop-wagon-preserved c =
    let ls = lines c.args.book.now in
    let ws = c.args.wagons.now in
    let i = c.loop-wagon.wagon-index in
    let k = get_or ws i 0 in
    let rest = drop (i + 1) ws in
    let here = Marked c.loop-wagon.nodes in
    let next = Marked c.next_nodes-nodes.result in
    let first = drop_more ws i 0 c.loop-wagon-test.true in
    let just = c.next_nodes-nodes.ensures.just in (
      λ h. leads_like ls (Links ls here k) next rest (λ t. (just t).1) (leads_on ls here k rest (subst (LeadsFrom ls here) first (c.loop-wagon.invariant.0 h))),
      λ h. c.loop-wagon.invariant.1 (subst (LeadsFrom ls here) (sym first) (on_leads ls here k rest (leads_like ls next (Links ls here k) rest (λ t. (just t).0) h))),
    )

pub returns : goal.returns
returns c =
    let ls = lines c.args.book.now in
    let ws = c.args.wagons.now in
    let here = Marked c.loop-wagon.nodes in
    let done = drop_all c.loop-wagon.wagon-index ws c.loop-wagon-test.false in (
      λ e. c.loop-wagon.invariant.1 (subst (LeadsFrom ls here) (sym done) (end_leads ls here (c.any_end.ensures.0 e))),
      λ h. c.any_end.ensures.1 (leads_end ls here (subst (LeadsFrom ls here) done (c.loop-wagon.invariant.0 h))),
    )
