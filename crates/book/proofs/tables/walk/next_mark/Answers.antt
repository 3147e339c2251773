use Rattle.std.proofs.Common.{refl, arith, rules}
use Rattle.book.proofs.Walk.{no_more, next_mark}
use Rattle.book.proofs.tables.walk.next_mark.Goals as goal

pub returns-in_err-number-clause-next : goal.returns-in_err-number-clause-next
returns-in_err-number-clause-next g c =
    let none = no_more g.row.MAX (λ p x b q h. search rules) c.args.marks.now c.find.new.self _ c.in_err-number.ensures.ran in
    λ line. rw c.from_residual.ensures (none.1 line)

pub returns-in_err-number-clause-end : goal.returns-in_err-number-clause-end
returns-in_err-number-clause-end g c = (no_more g.row.MAX (λ p x b q h. search rules) c.args.marks.now c.find.new.self _ c.in_err-number.ensures.ran).0

pub overflow_cast-result : goal.overflow_cast-result
overflow_cast-result g c =
    let low = (next_mark g.row.MAX (λ p x b q h. search rules) c.args.marks.now c.find.new.self _ _ c.in_ok-number.ensures.ran c.requires).0 in
    let max = g.MAX.fits in
    omega arith

pub invariant_of-result : goal.invariant_of-result
invariant_of-result g c = record { fits = (next_mark g.row.MAX (λ p x b q h. search rules) c.args.marks.now c.find.new.self _ _ c.in_ok-number.ensures.ran c.requires).0 }

pub returns : goal.returns
returns g c =
    let one = next_mark g.row.MAX (λ p x b q h. search rules) c.args.marks.now c.find.new.self _ _ c.in_ok-number.ensures.ran c.requires in
    record { next = λ line. one.2 line _ refl; end = one.1 }
