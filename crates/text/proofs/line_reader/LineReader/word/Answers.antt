use Rattle.std.proofs.Common.{Err, sym, ap, ◌∙◌, arith}
use Rattle.std.proofs.lemmas.List.{at_drop_more, at_drop_all}
use Rattle.text.specs.declared.refusal.LineRefusal.TheVariants.{Syntax}
use Rattle.text.specs.declared.line_reader.LineReader.{LineReader}
use Rattle.text.specs.Reading.{scan}
use Rattle.text.specs.Steps.{word_then}
use Rattle.text.proofs.Readers.{word_on, word_off}
use Rattle.text.proofs.line_reader.LineReader.word.Goals as goal

pub returns-then-not-takes : goal.returns-then-not-takes
unfolding scan
returns-then-not-takes c =
    λ ps line. c.loop-b.invariant (scan ps line) ∙ at_drop_more (λ l. word_then l c.loop-b.self (scan ps line)) c.args.w.now c.loop-b.b-index 0 (omega arith)
    ∙ word_off _ _ c.loop-b.self _ c.if-not-takes.ensures.1 ∙ ap (λ (r : LineReader). Err (Syntax r.place)) (sym c.if-not-takes.ensures.0)

pub loop-b-preserved : goal.loop-b-preserved
loop-b-preserved c =
    λ next. c.loop-b.invariant next ∙ at_drop_more (λ l. word_then l c.loop-b.self next) c.args.w.now c.loop-b.b-index 0 (omega arith)
    ∙ word_on _ _ _ _ next c.if-not-takes.ensures

pub returns : goal.returns
unfolding scan
returns c = λ ps line. c.loop-b.invariant (scan ps line) ∙ at_drop_all (λ l. word_then l c.loop-b.self (scan ps line)) c.args.w.now c.loop-b.b-index (omega arith)
