use Rattle.std.proofs.Common.{◌≡◌, ◌&&◌, Decides, sym, subst, rules, tests}
use Rattle.std.proofs.lemmas.Iterator.{YieldsList-from_slice, YieldsList-from_zip}
use Rattle.std.proofs.lemmas.Iterator.Search.{any_from_yields_List}
use Rattle.book.specs.Lines.{lines}
use Rattle.phases.specs.Nodes.{Marked, EndsIn}
use Rattle.phases.proofs.Marking.{any_both}
use Rattle.phases.proofs.Holding.{any_ends}
use Rattle.phases.proofs.nodes.any_end.Goals as goal

pub returns : goal.returns
returns c =
    let b = c.args.book.now in
    let nodes = c.args.nodes.now in
    let is : c.any.result ≡ any_both nodes b.ends = any_from_yields_List (λ p. p.0 && p.1) c.any.new.self _ c.any.result c.any.ensures.ran (YieldsList-from_zip (YieldsList-from_slice nodes cc) (YieldsList-from_slice b.ends cc)) (λ x r q k. search (rules, tests)) in
    subst (λ t. Decides t (EndsIn (lines b) (Marked nodes))) (sym is) (any_ends b nodes)
