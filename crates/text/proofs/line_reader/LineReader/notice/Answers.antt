use Rattle.std.proofs.Common.{Err, sym, ap, ◌∙◌}
use Rattle.std.proofs.lemmas.Result.{err_from_is_err_and}
use Rattle.text.proofs.line_reader.LineReader.notice.Goals as goal

pub returns-in_err-word-3 : goal.returns-in_err-word-3
returns-in_err-word-3 c =
    let x = err_from_is_err_and c.from_residual-in_err-word-3.result c.from_residual-in_err-word-3.ensures.1 in
    rw x.1 (c.in_ok-number.ensures _ _ ∙ c.in_ok-word.ensures _ _ ∙ c.in_ok-mode.ensures _ _ ∙ c.in_ok-word-2.ensures _ _ ∙ c.in_ok-loses.ensures _ _ ∙ c.in_err-word-3.ensures _ _ ∙ ap Err (sym x.2))

pub returns-in_err-toll : goal.returns-in_err-toll
returns-in_err-toll c =
    let x = err_from_is_err_and c.from_residual-in_err-toll.result c.from_residual-in_err-toll.ensures.1 in
    rw x.1 (c.in_ok-number.ensures _ _ ∙ c.in_ok-word.ensures _ _ ∙ c.in_ok-mode.ensures _ _ ∙ c.in_ok-word-2.ensures _ _ ∙ c.in_ok-loses.ensures _ _ ∙ c.in_ok-word-3.ensures _ _ ∙ c.in_err-toll.ensures _ ∙ ap Err (sym x.2))

pub returns-in_err-end : goal.returns-in_err-end
returns-in_err-end c =
    let x = err_from_is_err_and c.from_residual-in_err-end.result c.from_residual-in_err-end.ensures.1 in
    rw x.1 (c.in_ok-number.ensures _ _ ∙ c.in_ok-word.ensures _ _ ∙ c.in_ok-mode.ensures _ _ ∙ c.in_ok-word-2.ensures _ _ ∙ c.in_ok-loses.ensures _ _ ∙ c.in_ok-word-3.ensures _ _ ∙ c.in_ok-toll.ensures _ ∙ c.in_err-end.ensures _ ∙ ap Err (sym x.2))
