use Rattle.std.proofs.Common.{Ok, Err, sym, subst}
use Rattle.std.proofs.lemmas.Result.{err_from_is_err_and}
use Rattle.moves.specs.Moving.{handed}
use Rattle.moves.specs.Meaning.{Right}
use Rattle.moves.proofs.Right.{text_right}
use Rattle.moves.proofs.moving.move_lane.Goals as goal

pub returns-in_err-rule-clause-right : goal.returns-in_err-rule-clause-right
returns-in_err-rule-clause-right c =
    let h = handed c.args.stage c.args.buffer.now c.args.number in
    let read = c.in_err-rule.ensures in
    let told = err_from_is_err_and c.from_residual.result c.from_residual.ensures.1 in
    rw told.1 (text_right c.args.line.now h (Err c.in_err-rule.field-0.0) read.says read.alone)

pub returns-clause-right : goal.returns-clause-right
returns-clause-right c =
    let s = c.args.line.now in
    let h = handed c.args.stage c.args.buffer.now c.args.number in
    let read = c.in_ok-rule.ensures in
    subst (λ t. Right s h t.answer t.buffer) (sym c.carry_out.ensures) (text_right s h (Ok c.in_ok-rule.rule) read.says read.alone)
