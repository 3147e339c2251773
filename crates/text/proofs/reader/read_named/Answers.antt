use Rattle.std.proofs.Common.{ℕ, Err, sym, ap, ◌∙◌}
use Rattle.std.proofs.lemmas.Result.{err_from_is_err_and}
use Rattle.text.specs.declared.refusal.LineRefusal.TheVariants.{Syntax}
use Rattle.text.specs.Forms.{forms, watch_of, link_of, end_of, bare_of}
use Rattle.text.proofs.Named.{read_order, read_notice, read_open, read_watch, read_link, read_end, read_bare, read_none, too_long}
use Rattle.text.proofs.reader.read_named.Goals as goal

pub returns-in_err-reader : goal.returns-in_err-reader
returns-in_err-reader c =
    let x = err_from_is_err_and c.from_residual.result c.from_residual.ensures.1 in
    let h = c.in_err-reader.ensures in
    rw x.1 (ap Err (x.2 ∙ h.1) ∙ sym (too_long forms c.args.line.now h.0))

pub returns-in_err-order-in-Some-Order : goal.returns-in_err-order-in-Some-Order
returns-in_err-order-in-Some-Order c =
    let x = err_from_is_err_and c.from_residual-in_err-order-in-Some-Order.result c.from_residual-in_err-order-in-Some-Order.ensures.1 in
    rw x.1 (ap Err x.2 ∙ sym (read_order _ _ _ c.in_ok-reader.ensures.0 c.in_ok-reader.ensures.1 (rw c.in-Some-Order.field-0-is at c.in-Some-Order.ensures) ∙ c.in_err-order-in-Some-Order.ensures))

pub returns-in_ok-order-in-Some-Order : goal.returns-in_ok-order-in-Some-Order
returns-in_ok-order-in-Some-Order c = sym (read_order _ _ _ c.in_ok-reader.ensures.0 c.in_ok-reader.ensures.1 (rw c.in-Some-Order.field-0-is at c.in-Some-Order.ensures) ∙ c.in_ok-order-in-Some-Order.ensures)

pub returns-in_err-notice-in-Some-Notice : goal.returns-in_err-notice-in-Some-Notice
returns-in_err-notice-in-Some-Notice c =
    let x = err_from_is_err_and c.from_residual-in_err-notice-in-Some-Notice.result c.from_residual-in_err-notice-in-Some-Notice.ensures.1 in
    rw x.1 (ap Err x.2 ∙ sym (read_notice _ _ _ c.in_ok-reader.ensures.0 c.in_ok-reader.ensures.1 (rw c.in-Some-Notice.field-0-is at c.in-Some-Notice.ensures) ∙ c.in_err-notice-in-Some-Notice.ensures))

pub returns-in_ok-notice-in-Some-Notice : goal.returns-in_ok-notice-in-Some-Notice
returns-in_ok-notice-in-Some-Notice c = sym (read_notice _ _ _ c.in_ok-reader.ensures.0 c.in_ok-reader.ensures.1 (rw c.in-Some-Notice.field-0-is at c.in-Some-Notice.ensures) ∙ c.in_ok-notice-in-Some-Notice.ensures)

pub returns-in_err-mode-in-Some-Watch : goal.returns-in_err-mode-in-Some-Watch
returns-in_err-mode-in-Some-Watch c =
    let x = err_from_is_err_and c.from_residual-in_err-mode-in-Some-Watch.result c.from_residual-in_err-mode-in-Some-Watch.ensures.1 in
    rw x.1 (ap Err x.2 ∙ sym (read_watch _ _ _ c.in_ok-reader.ensures.0 c.in_ok-reader.ensures.1 (rw c.in-Some-Watch.field-0-is at c.in-Some-Watch.ensures) ∙ c.in_err-mode-in-Some-Watch.ensures watch_of))

pub returns-in_ok-mode-in-Some-Watch : goal.returns-in_ok-mode-in-Some-Watch
returns-in_ok-mode-in-Some-Watch c = sym (read_watch _ _ _ c.in_ok-reader.ensures.0 c.in_ok-reader.ensures.1 (rw c.in-Some-Watch.field-0-is at c.in-Some-Watch.ensures) ∙ c.in_ok-mode-in-Some-Watch.ensures watch_of)

pub returns-in_err-node-in-Some-Link : goal.returns-in_err-node-in-Some-Link
returns-in_err-node-in-Some-Link c =
    let x = err_from_is_err_and c.from_residual-in_err-node-in-Some-Link.result c.from_residual-in_err-node-in-Some-Link.ensures.1 in
    rw x.1 (ap Err x.2 ∙ sym (read_link _ _ _ c.in_ok-reader.ensures.0 c.in_ok-reader.ensures.1 (rw c.in-Some-Link.field-0-is at c.in-Some-Link.ensures) ∙ c.in_err-node-in-Some-Link.ensures link_of))

pub returns-in_ok-node-in-Some-Link : goal.returns-in_ok-node-in-Some-Link
returns-in_ok-node-in-Some-Link c = sym (read_link _ _ _ c.in_ok-reader.ensures.0 c.in_ok-reader.ensures.1 (rw c.in-Some-Link.field-0-is at c.in-Some-Link.ensures) ∙ c.in_ok-node-in-Some-Link.ensures link_of)

pub returns-in_err-one-in-Some-End : goal.returns-in_err-one-in-Some-End
returns-in_err-one-in-Some-End c =
    let x = err_from_is_err_and c.from_residual-in_err-one-in-Some-End.result c.from_residual-in_err-one-in-Some-End.ensures.1 in
    rw x.1 (ap Err x.2 ∙ sym (read_end _ _ _ c.in_ok-reader.ensures.0 c.in_ok-reader.ensures.1 (rw c.in-Some-End.field-0-is at c.in-Some-End.ensures) ∙ c.in_err-one-in-Some-End.ensures end_of))

pub returns-in_ok-one-in-Some-End : goal.returns-in_ok-one-in-Some-End
returns-in_ok-one-in-Some-End c = sym (read_end _ _ _ c.in_ok-reader.ensures.0 c.in_ok-reader.ensures.1 (rw c.in-Some-End.field-0-is at c.in-Some-End.ensures) ∙ c.in_ok-one-in-Some-End.ensures end_of)

pub returns-in_err-one-in-Some-Bare : goal.returns-in_err-one-in-Some-Bare
returns-in_err-one-in-Some-Bare c =
    let x = err_from_is_err_and c.from_residual-in_err-one-in-Some-Bare.result c.from_residual-in_err-one-in-Some-Bare.ensures.1 in
    rw x.1 (ap Err x.2 ∙ sym (read_bare _ _ _ c.in_ok-reader.ensures.0 c.in_ok-reader.ensures.1 (rw c.in-Some-Bare.field-0-is at c.in-Some-Bare.ensures) ∙ c.in_err-one-in-Some-Bare.ensures bare_of))

pub returns-in_ok-one-in-Some-Bare : goal.returns-in_ok-one-in-Some-Bare
returns-in_ok-one-in-Some-Bare c = sym (read_bare _ _ _ c.in_ok-reader.ensures.0 c.in_ok-reader.ensures.1 (rw c.in-Some-Bare.field-0-is at c.in-Some-Bare.ensures) ∙ c.in_ok-one-in-Some-Bare.ensures bare_of)

pub returns-in-Some-Open : goal.returns-in-Some-Open
returns-in-Some-Open c = c.phase.ensures ∙ sym (read_open _ _ _ c.in_ok-reader.ensures.0 c.in_ok-reader.ensures.1 (rw c.in-Some-Open.field-0-is at c.in-Some-Open.ensures))

pub returns-in-None : goal.returns-in-None
returns-in-None c =
    ap (λ (n : ℕ). Err (Syntax n)) c.unnamed.ensures
    ∙ sym (read_none c.args.line.now c.in_ok-reader.ensures.0 (λ f t e. c.in-None.ensures f t (c.in_ok-reader.ensures.1.rest ∙ e)))
