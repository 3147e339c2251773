use Rattle.std.proofs.Common.{get_or, Some, None, Ok, Err, refl, ◌∙◌, inr}
use Rattle.std.proofs.lemmas.Slice.{between_from_start}
use Rattle.book.specs.Lines.{lines}
use Rattle.unfolding.specs.Rest.{stack}
use Rattle.unfolding.specs.declared.stage.UnfoldRefusal.TheVariants.{BrokenRow}
use Rattle.unfolding.specs.Shows.{Unfolded}
use Rattle.unfolding.proofs.Finding.{found_once}
use Rattle.unfolding.proofs.Advancing.{advances_from}
use Rattle.unfolding.proofs.Cutting.{shows, shows_none, all_lines, topmost}
use Rattle.unfolding.proofs.unfold.unfold.Goals as goal

pub returns-in_default-topmost : goal.returns-in_default-topmost
returns-in_default-topmost g c =
    let m = g.G.Grade in
    let ls = lines c.args.book.now in
    let rows = c.args.rows.now in
    let n = c.args.count in
    let list = c.args.list.now in
    let count = c.args.stage.length in
    let (low, le, cut, short) = c.in-Some-Some.ensures.lookup.0 in
    let (first, listed, held, even) = c.in-Some-Some.ensures'.lookup.0 in
    let told : Unfolded m ls rows n list c.args.stage list (Ok None) = (
      (listed, all_lines m ls rows c.in-Some-Some.rows.now n le (cut ∙ between_from_start rows n) list count listed c.in-Some-Some.stack.now (held ∙ between_from_start list count) c.in_default-topmost.ensures),
      refl,
    ) in
    record { told = told; runs = advances_from m ls rows n (found_once c.args.book.now) list list c.args.stage (Ok None) told refl }

pub returns-in_default-show_top : goal.returns-in_default-show_top
returns-in_default-show_top g c =
    let m = g.G.Grade in
    let ls = lines c.args.book.now in
    let rows = c.args.rows.now in
    let n = c.args.count in
    let list = c.args.list.now in
    let count = c.args.stage.length in
    let after = c.show_top.new.list in
    let top = c.in-Some.top in
    let used = c.in-Some-Some.rows.now in
    let (low, le, cut, short) = c.in-Some-Some.ensures.lookup.0 in
    let (first, listed, held, even) = c.in-Some-Some.ensures'.lookup.0 in
    let in_use = cut ∙ between_from_start rows n in
    let (none, kept) = c.in_default-show_top.ensures in
    let told : Unfolded m ls rows n list c.args.stage after (Err BrokenRow) = (
      refl,
      (
        inr (inr (
          get_or list top 0,
          stack list top,
          topmost m ls rows used n le in_use list count listed c.in-Some-Some.stack.now (held ∙ between_from_start list count) top c.in-Some.ensures,
          shows_none m ls rows used n le in_use none,
        )),
        kept,
      ),
    ) in
    record { told = told; runs = advances_from m ls rows n (found_once c.args.book.now) list after c.args.stage (Err BrokenRow) told c.show_top.auto.list }

pub returns : goal.returns
returns g c =
    let m = g.G.Grade in
    let ls = lines c.args.book.now in
    let rows = c.args.rows.now in
    let n = c.args.count in
    let list = c.args.list.now in
    let count = c.args.stage.length in
    let after = c.show_top.new.list in
    let top = c.in-Some.top in
    let used = c.in-Some-Some.rows.now in
    let shown = c.in-Some-show_top.shown in
    let (low, le, cut, short) = c.in-Some-Some.ensures.lookup.0 in
    let (first, listed, held, even) = c.in-Some-Some.ensures'.lookup.0 in
    let in_use = cut ∙ between_from_start rows n in
    let (left, by_row) = c.in-Some-show_top.ensures in
    let told : Unfolded m ls rows n list c.args.stage after (Ok (Some shown)) = record {
      row = get_or list top 0;
      below = stack list top;
      topmost = topmost m ls rows used n le in_use list count listed c.in-Some-Some.stack.now (held ∙ between_from_start list count) top c.in-Some.ensures;
      listed = left;
      shows = shows m ls rows used n le in_use by_row;
    } in
    record { told = told; runs = advances_from m ls rows n (found_once c.args.book.now) list after c.args.stage (Ok (Some shown)) told c.show_top.auto.list }
