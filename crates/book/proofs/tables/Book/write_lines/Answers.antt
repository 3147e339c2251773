use Rattle.std.proofs.Common.{◌+◌, [], ◌∷◌, ◌++◌, length, drop, sym, ap, ◌∙◌, append_assoc, arith}
use Rattle.std.proofs.lemmas.List.{length-append, length-drop, take_rest}
use Rattle.book.specs.Walk.{rest}
use Rattle.book.specs.Writing.{ended, book_text}
use Rattle.book.proofs.Written.{no_text, text_more, text_left, one_written}
use Rattle.book.proofs.tables.Book.write_lines.Goals as goal

pub loop-line-init : goal.loop-line-init
loop-line-init c = (ap rest c.into_iter-line-iterator.ensures.into_iter_gives ∙ c.lines-line-items.ensures, sym (ap length no_text), sym (ap (λ t. t ++ c.args.out.now) no_text))

-- the whole text fits, so there is room for the next line
pub write_ended-n-requires : goal.write_ended-n-requires
write_ended-n-requires c =
    let fits = text_left c.loop-line.yielded c.in-Some.line (rest c.next.new.self) _ (ap (λ ls. c.loop-line.yielded ++ ls) (sym c.in-Some.ensures.steps) ∙ c.loop-line.invariant.0) in
    let count = c.loop-line.invariant.1 in
    let left = length-drop c.loop-line.n c.loop-line.out in
    let all = ap length (take_rest c.loop-line.out c.loop-line.n) in
    let kept = c.loop-line.auto.out in
    omega arith

pub loop-line-preserved : goal.loop-line-preserved
loop-line-preserved c =
    let ys = c.loop-line.yielded in
    let l = c.in-Some.line in
    let n = c.loop-line.n in
    let old = c.loop-line.invariant in
    let r = c.write_ended-n.result in
    let more = text_more ys l in
    let size = c.write_ended-n.ensures.count in
    let long = ap length more ∙ length-append (book_text ys) (ended l) in
    let count = old.1 in (
      append_assoc ys (l ∷ []) (rest c.next.new.self) ∙ ap (λ ls. ys ++ ls) (sym c.in-Some.ensures.steps) ∙ old.0,
      omega arith,
      one_written (book_text ys) (ended l) c.args.out.now c.loop-line.out c.write_ended-n.new.out n r (sym count) old.2 size c.write_ended-n.ensures.text
          ∙ ap (λ t. t ++ drop (n + r) c.args.out.now) (sym more),
    )
