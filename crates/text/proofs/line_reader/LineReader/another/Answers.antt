use Rattle.std.proofs.Common.{◌+◌, cond, ◌∷◌, Err, sym, ap, ◌∙◌}
use Rattle.std.proofs.lemmas.Result.{err_from_is_err_and}
use Rattle.text.specs.Reading.{take_numbers}
use Rattle.text.proofs.Readers.{blank_on}
use Rattle.text.proofs.line_reader.LineReader.another.Goals as goal

pub returns-in_err-x-clause-value : goal.returns-in_err-x-clause-value
returns-in_err-x-clause-value g c =
    let x = err_from_is_err_and c.from_residual.result c.from_residual.ensures.1 in
    rw x.1 (λ n rise next. blank_on n g.row.MAX c.args.least rise c.args.self.now c.takes.new.self next c.if-not-takes.ensures
    ∙ c.in_err-x.ensures.value (λ x t q o f. take_numbers n g.row.MAX rise (cond rise (x.value + 1) 0) t q o f (λ xs. next (x ∷ xs))) ∙ ap Err (sym x.2))

pub returns-clause-value : goal.returns-clause-value
returns-clause-value g c =
    λ n rise next. blank_on n g.row.MAX c.args.least rise c.args.self.now c.takes.new.self next c.if-not-takes.ensures
    ∙ c.in_ok-x.ensures.value (λ x t q o f. take_numbers n g.row.MAX rise (cond rise (x.value + 1) 0) t q o f (λ xs. next (x ∷ xs)))
