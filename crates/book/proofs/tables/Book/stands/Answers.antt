-- A line clashes only with lines of its own kind, which stand in one table.
use Rattle.std.proofs.Common.{sym, refl, ap, ◌∙◌, subst, arith}
use Rattle.text.specs.declared.line.Line.TheVariants.{Order, Notice}
use Rattle.text.specs.Meaning.{Within}
use Rattle.book.specs.Order.{among}
use Rattle.book.specs.Ranks.{phase_rank, watch_rank, link_rank}
use Rattle.book.specs.Lines.{lines}
use Rattle.book.specs.Entering.{clashes}
use Rattle.book.proofs.Entries.{opens_rows, watches_rows, links_rows, rows_clash, rule_stands, end_clash, bare_clash}
use Rattle.book.proofs.Orders.{any_among, watch_eq, link_eq}
use Rattle.book.proofs.tables.Book.stands.Goals as goal

pub returns-in-Order : goal.returns-in-Order
returns-in-Order c =
    let b = c.args.self.now in
    let fits = c.in-Order.o.number.fits in
    c.is_some.ensures ∙ rule_stands b (Order c.in-Order.o) c.from.result _ refl tt (sym c.from.ensures) (omega arith) ∙ sym (ap (clashes (lines b)) c.in-Order.is)

pub returns-in-Notice : goal.returns-in-Notice
returns-in-Notice c =
    let b = c.args.self.now in
    let fits = c.in-Notice.n.number.fits in
    c.is_some-in-Notice.ensures ∙ rule_stands b (Notice c.in-Notice.n) c.from-in-Notice.result _ refl tt (sym c.from-in-Notice.ensures) (omega arith) ∙ sym (ap (clashes (lines b)) c.in-Notice.is)

pub returns-in-Open : goal.returns-in-Open
returns-in-Open c =
    let b = c.args.self.now in
    let x = c.in-Open.phase in
    c.contains.ensures.value ∙ any_among _ phase_rank (λ y z. refl) x _ ∙ ap (among phase_rank (phase_rank x)) c.opens_in_use.ensures ∙ sym (ap (clashes (lines b)) c.in-Open.is ∙ rows_clash (opens_rows b) x (subst Within c.in-Open.is c.requires))

pub returns-in-Watch : goal.returns-in-Watch
returns-in-Watch c =
    let b = c.args.self.now in
    let x = c.in-Watch.w in
    c.contains-in-Watch.ensures.value ∙ any_among _ watch_rank watch_eq x _ ∙ ap (among watch_rank (watch_rank x)) c.watches_in_use.ensures ∙ sym (ap (clashes (lines b)) c.in-Watch.is ∙ rows_clash (watches_rows b) x tt)

pub returns-in-Link : goal.returns-in-Link
returns-in-Link c =
    let b = c.args.self.now in
    let x = c.in-Link.k in
    c.contains-in-Link.ensures.value ∙ any_among _ link_rank link_eq x _ ∙ ap (among link_rank (link_rank x)) c.links_in_use.ensures ∙ sym (ap (clashes (lines b)) c.in-Link.is ∙ rows_clash (links_rows b) x tt)

pub returns-in-End : goal.returns-in-End
returns-in-End c =
    let b = c.args.self.now in
    sym (ap (clashes (lines b)) c.in-End.is ∙ end_clash b c.in-End.t c.from-in-End.result c.from-in-End.ensures)

pub returns-in-Bare : goal.returns-in-Bare
returns-in-Bare c =
    let b = c.args.self.now in
    sym (ap (clashes (lines b)) c.in-Bare.is ∙ bare_clash b c.in-Bare.p c.from-in-Bare.result c.from-in-Bare.ensures)
