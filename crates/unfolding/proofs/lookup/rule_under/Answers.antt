use Rattle.std.proofs.Common.{◌≡◌, None, get_or, sym, subst, rules}
use Rattle.book.specs.Lines.{lines}
use Rattle.unfolding.specs.Shows.{Under}
use Rattle.unfolding.proofs.Finding.{found_under}
use Rattle.unfolding.proofs.lookup.rule_under.Goals as goal

pub returns : goal.returns
returns c =
    let b = c.args.book.now in
    let is : c.in_ok-get.field-0.now ≡ get_or b.rules c.args.number None = search rules in
    subst (Under (lines b) c.args.number) (sym is) (found_under b c.args.number)
