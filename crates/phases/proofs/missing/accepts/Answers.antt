use Rattle.std.proofs.Common.{◌<◌, ◌∙◌, Decides, None, get_or, sym, ap, subst, arith}
use Rattle.std.specs.Option.{is_some}
use Rattle.std.proofs.lemmas.List.{get_or_default}
use Rattle.book.specs.Lines.{lines}
use Rattle.phases.specs.Missing.{Accepted}
use Rattle.phases.proofs.Naming.{accepted_at}
use Rattle.phases.proofs.missing.accepts.Goals as goal

pub returns : goal.returns
returns c =
    let b = c.args.book.now in
    let n = c.args.number.value in
    let fits = c.args.number.fits in
    let long = b.numbered.0 in
    let lt : n < 64 = omega arith in
    let at = get_or_default b.rules c.from.result None c.index-book-from.result (let e = c.from.ensures in omega arith) in
    subst (λ r. Decides r (Accepted (lines b) n)) (sym (c.is_some.ensures ∙ ap is_some (sym at)))
    (accepted_at b n lt (get_or b.rules c.from.result None) (ap (λ k. get_or b.rules k None) (sym c.from.ensures)))
