use Rattle.std.proofs.Common.{length, sym, refl, subst, arith}
use Rattle.book.specs.Lines.{lines}
use Rattle.rowtable.specs.Tables.{blank_row}
use Rattle.unfolding.specs.Stacks.{Fit, Put}
use Rattle.unfolding.proofs.Showing.{none_past, none_line, none_found, none_led, none_order, none_notice, order_stuck, order_shown, notice_stuck, notice_shown}
use Rattle.unfolding.proofs.show.show_top.Goals as goal

pub returns-in_err-row : goal.returns-in_err-row
returns-in_err-row g c =
    rw c.from_residual.ensures (none_past g.G.Grade (lines c.args.book.now) c.args.rows.now c.args.list.now c.args.top c.args.stage c.in_err-row.ensures.lookup.3, refl)

pub returns-in_err-number : goal.returns-in_err-number
returns-in_err-number g c =
    let here = c.in_ok-row.ensures.lookup.3 in
    rw c.from_residual-in_err-number.ensures
    (none_line g.G.Grade (lines c.args.book.now) c.args.rows.now c.args.list.now c.args.top c.args.stage c.requires c.in_ok-row.row.now (here.1 (blank_row g.G.Grade.best)) c.in_err-number.ensures, refl)

pub returns-in_err-rule : goal.returns-in_err-rule
returns-in_err-rule g c =
    let here = c.in_ok-row.ensures.lookup.3 in
    rw c.from_residual-in_err-rule.ensures
    (none_found g.G.Grade (lines c.args.book.now) c.args.rows.now c.args.list.now c.args.top c.args.stage c.requires c.in_ok-row.row.now (here.1 (blank_row g.G.Grade.best)) c.in_ok-number.ensures c.in_err-rule.ensures refl, refl)

pub returns-in_err-after : goal.returns-in_err-after
returns-in_err-after g c =
    let here = c.in_ok-row.ensures.lookup.3 in
    rw c.from_residual-in_err-after.ensures
    (none_led g.G.Grade (lines c.args.book.now) c.args.rows.now c.args.list.now c.args.top c.args.stage c.requires c.in_ok-row.row.now (here.1 (blank_row g.G.Grade.best)) c.in_ok-number.ensures c.in_ok-rule.ensures c.in_ok-rule.rule refl c.in_err-after.ensures, refl)

pub returns-in_err-length-in-Order-Order : goal.returns-in_err-length-in-Order-Order
returns-in_err-length-in-Order-Order g c =
    let here = c.in_ok-row.ensures.lookup.3 in
    let (stuck, same) = c.in_err-length-in-Order-Order.ensures in
    rw c.from_residual-in_err-length-in-Order-Order.ensures (
      order_stuck g.G.Grade (lines c.args.book.now) c.args.rows.now c.args.list.now c.args.top c.args.stage c.requires c.in_ok-row.row.now (here.1 (blank_row g.G.Grade.best)) c.in_ok-number.ensures c.in_ok-rule.ensures refl c.in-Order-Order.is-0 c.in-Order-Order.is-1
          (λ fits. stuck (subst (Fit g.G.Grade c.args.rows.now c.in_ok-row.row.now.rank (length c.args.list.now) c.args.top) (sym c.parts_of.ensures) fits)),
      same,
    )

pub returns-in_err-length-in-Notice-Notice : goal.returns-in_err-length-in-Notice-Notice
returns-in_err-length-in-Notice-Notice g c =
    let here = c.in_ok-row.ensures.lookup.3 in
    let (stuck, same) = c.in_err-length-in-Notice-Notice.ensures in
    rw c.from_residual-in_err-length-in-Notice-Notice.ensures
    (notice_stuck g.G.Grade (lines c.args.book.now) c.args.rows.now c.args.list.now c.args.top c.args.stage c.requires c.in_ok-row.row.now (here.1 (blank_row g.G.Grade.best)) c.in_ok-number.ensures c.in_ok-rule.ensures refl c.in-Notice-Notice.is-0 c.in-Notice-Notice.is-1 stuck, same)

pub returns-in_default : goal.returns-in_default
returns-in_default g c =
    let here = c.in_ok-row.ensures.lookup.3 in
    (none_order g.G.Grade (lines c.args.book.now) c.args.rows.now c.args.list.now c.args.top c.args.stage c.requires c.in_ok-row.row.now (here.1 (blank_row g.G.Grade.best)) c.in_ok-number.ensures c.in_ok-rule.ensures refl c.in_default.is-0 c.in_default.not-Order-1, refl)

pub returns-in_default-2 : goal.returns-in_default-2
returns-in_default-2 g c =
    let here = c.in_ok-row.ensures.lookup.3 in
    (none_notice g.G.Grade (lines c.args.book.now) c.args.rows.now c.args.list.now c.args.top c.args.stage c.requires c.in_ok-row.row.now (here.1 (blank_row g.G.Grade.best)) c.in_ok-number.ensures c.in_ok-rule.ensures refl c.in_default.is-0 c.in_default.not-Notice-1, refl)

pub returns-in_ok-length-in-Order-Order : goal.returns-in_ok-length-in-Order-Order
returns-in_ok-length-in-Order-Order g c =
    let here = c.in_ok-row.ensures.lookup.3 in
    let count = c.in_ok-length-in-Order-Order.length in
    let after = c.make_way.new.list in
    let put = subst (λ ps. Put g.G.Grade c.args.rows.now c.in_ok-row.row.now.rank c.args.list.now c.args.top ps after count) c.parts_of.ensures c.in_ok-length-in-Order-Order.ensures in
    (let kept = put.kept in let listed = put.listed in omega arith, order_shown g.G.Grade (lines c.args.book.now) c.args.rows.now c.args.list.now c.args.top c.args.stage c.requires c.in_ok-row.row.now (here.1 (blank_row g.G.Grade.best)) c.in_ok-number.ensures c.in_ok-rule.ensures refl c.in-Order-Order.is-0 c.in-Order-Order.is-1 here.0 c.in_ok-after.after c.in_ok-after.ensures after count put)

pub returns-in_ok-length-in-Notice-Notice : goal.returns-in_ok-length-in-Notice-Notice
returns-in_ok-length-in-Notice-Notice g c =
    let here = c.in_ok-row.ensures.lookup.3 in
    let put = c.in_ok-length-in-Notice-Notice.ensures in
    (let kept = put.kept in let listed = put.listed in omega arith, notice_shown g.G.Grade (lines c.args.book.now) c.args.rows.now c.args.list.now c.args.top c.args.stage c.requires c.in_ok-row.row.now (here.1 (blank_row g.G.Grade.best)) c.in_ok-number.ensures c.in_ok-rule.ensures refl c.in-Notice-Notice.is-0 c.in-Notice-Notice.is-1 here.0 c.in_ok-after.after c.in_ok-after.ensures c.make_way-in-Notice-Notice.new.list c.in_ok-length-in-Notice-Notice.length put)
