use Rattle.std.proofs.Common.{Ok, sym, refl, ap, ◌∙◌}
use Rattle.std.proofs.lemmas.Result.{err_from_is_err_and}
use Rattle.book.specs.Lines.{lines}
use Rattle.book.proofs.Books.{within_lines}
use Rattle.book.proofs.Barred.{clash_right}
use Rattle.book.proofs.Joining.{misread, unbarred, stood, was_full, went_in, joins}
use Rattle.book.proofs.tables.Book.accept.Goals as goal

pub returns-in_err-line-clause-entered : goal.returns-in_err-line-clause-entered
returns-in_err-line-clause-entered c =
    let h = c.in_err-line.ensures in
    let p = err_from_is_err_and c.from_residual.result c.from_residual.ensures.1 in
    rw (p.1, p.2) (misread (lines c.args.self.now) c.args.text.now c.in_err-line.field-0.0 h.value, refl)

pub returns-then-stands : goal.returns-then-stands
returns-then-stands c =
    let ls = lines c.args.self.now in
    let s = c.args.text.now in
    let l = c.in_ok-line.line in
    let h = c.in_ok-line.ensures in
    let clash = sym c.stands.ensures ∙ c.if-stands.true in
    record {
      entered = (stood ls s l h.value clash, refl);
      words = (l, (h.says, clash_right ls l (within_lines c.args.self.now) h.says.0 clash));
    }

pub returns-then-is_full : goal.returns-then-is_full
returns-then-is_full c =
    let ls = lines c.args.self.now in
    let s = c.args.text.now in
    let l = c.in_ok-line.line in
    let h = c.in_ok-line.ensures in
    let new = sym c.stands.ensures ∙ c.if-stands.false in
    let most = sym c.is_full.ensures ∙ c.if-is_full.true in
    record {
      entered = (was_full ls s l h.value new most, refl);
      words = (l, (h.says, (unbarred ls l new, most)));
    }

pub returns : goal.returns
returns c =
    let ls = lines c.args.self.now in
    let s = c.args.text.now in
    let l = c.in_ok-line.line in
    let h = c.in_ok-line.ensures in
    let new = sym c.stands.ensures ∙ c.if-stands.false in
    let room = sym c.is_full.ensures ∙ c.if-is_full.false in
    record {
      entered = went_in ls s l h.value new room ∙ ap Ok (sym c.enter.ensures);
      words = joins ls s l h.value new room h.says (lines c.enter.new.self) c.enter.ensures;
    }
