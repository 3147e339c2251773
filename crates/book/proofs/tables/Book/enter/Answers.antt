-- Each arm puts the line into one table, which stays in order, and leaves the others.
use Rattle.std.proofs.Common.{◌≡◌, ◌^◌, ◌<◌, false, Some, sym, refl, ap, ◌∙◌, subst, arith}
use Rattle.std.proofs.lemmas.List.{length-set}
use Rattle.text.specs.declared.line.Line.TheVariants.{Order, Notice, Open, Watch, Link, End, Bare}
use Rattle.text.specs.Meaning.{Within}
use Rattle.text.specs.declared.line.Rule.TheVariants as rule
use Rattle.book.specs.Order.{put}
use Rattle.book.specs.Ranks.{rank, phase_rank, watch_rank, link_rank}
use Rattle.book.specs.Tables.{AtNumber}
use Rattle.book.specs.Lines.{lines}
use Rattle.book.specs.Entering.{clashes, full}
use Rattle.book.proofs.Orders.{watch_cmp, link_cmp}
use Rattle.book.proofs.Seats.{along_set}
use Rattle.book.proofs.Books.{at_numbers, phases, put_lines}
use Rattle.book.proofs.Entries.{opens_rows, watches_rows, links_rows, rows_room, rows_put, rows_up, rows_tidy, all_placed, rule_put, end_put, bare_put}
use Rattle.book.proofs.tables.Book.enter.Goals as goal

pub place-requires : goal.place-requires
place-requires c =
    let b = c.args.self.now in
    let long = b.opened.0 in
    let room = rows_room (opens_rows b) (subst (λ l. full (lines b) l ≡ false) c.in-Open.is c.requires.room) in
    omega arith

pub place-requires-in-Watch : goal.place-requires-in-Watch
place-requires-in-Watch c =
    let b = c.args.self.now in
    let long = b.watched.0 in
    let room = rows_room (watches_rows b) (subst (λ l. full (lines b) l ≡ false) c.in-Watch.is c.requires.room) in
    omega arith

pub place-requires-in-Link : goal.place-requires-in-Link
place-requires-in-Link c =
    let b = c.args.self.now in
    let long = b.linked.0 in
    let room = rows_room (links_rows b) (subst (λ l. full (lines b) l ≡ false) c.in-Link.is c.requires.room) in
    omega arith

pub invariant_of-self : goal.invariant_of-self
invariant_of-self c =
    let b = c.args.self.now in
    let i = c.from.result in
    let r = Some (rule.Order c.in-Order.o) in record { numbered = (length-set b.rules i r ∙ b.numbered.0, ∣ along_set AtNumber 0 b.rules i i r (omega arith) (sym c.from.ensures) (at_numbers b) ∣₁); phases = b.phases; opened = b.opened; watched = b.watched; linked = b.linked; marked = b.marked }

pub invariant_of-self-in-Notice : goal.invariant_of-self-in-Notice
invariant_of-self-in-Notice c =
    let b = c.args.self.now in
    let i = c.from-in-Notice.result in
    let r = Some (rule.Notice c.in-Notice.n) in record { numbered = (length-set b.rules i r ∙ b.numbered.0, ∣ along_set AtNumber 0 b.rules i i r (omega arith) (sym c.from-in-Notice.ensures) (at_numbers b) ∣₁); phases = b.phases; opened = b.opened; watched = b.watched; linked = b.linked; marked = b.marked }

pub invariant_of-self-in-Open : goal.invariant_of-self-in-Open
invariant_of-self-in-Open c =
    let b = c.args.self.now in
    let x = c.in-Open.phase in
    let after = c.place.new.rows in
    let used = c.place.ensures.used phase_rank (λ y z. refl) (rows_up (opens_rows b)) in
    let rest = c.place.ensures.rest in
    let within = subst Within c.in-Open.is c.requires.within in
    let tidy = rows_tidy (opens_rows b) x after used within (subst (λ l. clashes (lines b) l ≡ false) c.in-Open.is c.requires.new) (subst (λ l. full (lines b) l ≡ false) c.in-Open.is c.requires.room) c.place.auto.rows rest in
    record { numbered = b.numbered; phases = ∣ all_placed phase_rank (λ F. F < 2 ^ 64) b.opens after b.opening x within (phases b) used rest ∣₁; opened = tidy; watched = b.watched; linked = b.linked; marked = b.marked }

pub invariant_of-self-in-Watch : goal.invariant_of-self-in-Watch
invariant_of-self-in-Watch c =
    let b = c.args.self.now in
    let x = c.in-Watch.w in
    let after = c.place-in-Watch.new.rows in
    let used = c.place-in-Watch.ensures.used watch_rank watch_cmp (rows_up (watches_rows b)) in
    let rest = c.place-in-Watch.ensures.rest in
    let tidy = rows_tidy (watches_rows b) x after used tt (subst (λ l. clashes (lines b) l ≡ false) c.in-Watch.is c.requires.new) (subst (λ l. full (lines b) l ≡ false) c.in-Watch.is c.requires.room) c.place-in-Watch.auto.rows rest in
    record { numbered = b.numbered; phases = b.phases; opened = b.opened; watched = tidy; linked = b.linked; marked = b.marked }

pub invariant_of-self-in-Link : goal.invariant_of-self-in-Link
invariant_of-self-in-Link c =
    let b = c.args.self.now in
    let x = c.in-Link.k in
    let after = c.place-in-Link.new.rows in
    let used = c.place-in-Link.ensures.used link_rank link_cmp (rows_up (links_rows b)) in
    let rest = c.place-in-Link.ensures.rest in
    let tidy = rows_tidy (links_rows b) x after used tt (subst (λ l. clashes (lines b) l ≡ false) c.in-Link.is c.requires.new) (subst (λ l. full (lines b) l ≡ false) c.in-Link.is c.requires.room) c.place-in-Link.auto.rows rest in
    record { numbered = b.numbered; phases = b.phases; opened = b.opened; watched = b.watched; linked = tidy; marked = b.marked }

pub returns-in-Order : goal.returns-in-Order
returns-in-Order c =
    let b = c.args.self.now in
    let l = Order c.in-Order.o in
    let fits = c.in-Order.o.number.fits in
    let new = subst (λ m. clashes (lines b) m ≡ false) c.in-Order.is c.requires.new in
    put_lines b _ l tt tt (refl, (refl, (refl, (refl, (refl, tt))))) (rule_put b l c.from.result refl tt (sym c.from.ensures) (omega arith) new (Some (rule.Order c.in-Order.o)) refl)
    ∙ ap (λ m. put rank m (lines b)) (sym c.in-Order.is)

pub returns-in-Notice : goal.returns-in-Notice
returns-in-Notice c =
    let b = c.args.self.now in
    let l = Notice c.in-Notice.n in
    let fits = c.in-Notice.n.number.fits in
    let new = subst (λ m. clashes (lines b) m ≡ false) c.in-Notice.is c.requires.new in
    put_lines b _ l tt tt (refl, (refl, (refl, (refl, (refl, tt))))) (rule_put b l c.from-in-Notice.result refl tt (sym c.from-in-Notice.ensures) (omega arith) new (Some (rule.Notice c.in-Notice.n)) refl)
    ∙ ap (λ m. put rank m (lines b)) (sym c.in-Notice.is)

pub returns-in-Open : goal.returns-in-Open
returns-in-Open c =
    let b = c.args.self.now in
    let x = c.in-Open.phase in
    put_lines b _ (Open x) (subst Within c.in-Open.is c.requires.within) (refl, tt) (refl, (refl, (refl, (refl, tt)))) (rows_put (opens_rows b) x c.place.new.rows (c.place.ensures.used phase_rank (λ y z. refl) (rows_up (opens_rows b))))
    ∙ ap (λ m. put rank m (lines b)) (sym c.in-Open.is)

pub returns-in-Watch : goal.returns-in-Watch
returns-in-Watch c =
    let b = c.args.self.now in
    let x = c.in-Watch.w in
    put_lines b _ (Watch x) tt (refl, (refl, tt)) (refl, (refl, (refl, tt))) (rows_put (watches_rows b) x c.place-in-Watch.new.rows (c.place-in-Watch.ensures.used watch_rank watch_cmp (rows_up (watches_rows b))))
    ∙ ap (λ m. put rank m (lines b)) (sym c.in-Watch.is)

pub returns-in-Link : goal.returns-in-Link
returns-in-Link c =
    let b = c.args.self.now in
    let x = c.in-Link.k in
    put_lines b _ (Link x) tt (refl, (refl, (refl, tt))) (refl, (refl, tt)) (rows_put (links_rows b) x c.place-in-Link.new.rows (c.place-in-Link.ensures.used link_rank link_cmp (rows_up (links_rows b))))
    ∙ ap (λ m. put rank m (lines b)) (sym c.in-Link.is)

pub returns-in-End : goal.returns-in-End
returns-in-End c =
    let b = c.args.self.now in
    let x = c.in-End.t in
    let new = subst (λ m. clashes (lines b) m ≡ false) c.in-End.is c.requires.new in
    put_lines b _ (End x) tt (refl, (refl, (refl, (refl, tt)))) (refl, tt) (end_put b x c.from-in-End.result c.from-in-End.ensures new)
    ∙ ap (λ m. put rank m (lines b)) (sym c.in-End.is)

pub returns-in-Bare : goal.returns-in-Bare
returns-in-Bare c =
    let b = c.args.self.now in
    let x = c.in-Bare.p in
    let new = subst (λ m. clashes (lines b) m ≡ false) c.in-Bare.is c.requires.new in
    put_lines b _ (Bare x) tt (refl, (refl, (refl, (refl, (refl, tt))))) tt (bare_put b x c.from-in-Bare.result c.from-in-Bare.ensures new)
    ∙ ap (λ m. put rank m (lines b)) (sym c.in-Bare.is)
