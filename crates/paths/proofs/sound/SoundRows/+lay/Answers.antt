use Rattle.std.proofs.Common.{◌≡◌, ◌-◌, ◌<◌, [], None, Some, length, get_or, take, drop, sym, refl, ap, ◌∙◌, subst, rules, arith}
use Rattle.std.proofs.lemmas.List.{get_or_default, nil_from_length, length-drop}
use Rattle.book.specs.Lines.{lines}
use Rattle.rowtable.specs.Tables.{Exists, blank_row, row_at}
use Rattle.paths.specs.Cells.{index, cell_at}
use Rattle.paths.specs.Layers.{Layered}
use Rattle.paths.proofs.Layering.{front_whole, front_layer}
use Rattle.paths.proofs.Laying.{Laid, laid_end, lane_behind, lane_without, lane_below, lane_on, from_one, names_none, names_row, names_read}
use Rattle.paths.proofs.Taken.{all_sound}
use Rattle.paths.proofs.sound.SoundRows.+lay.Goals as goal

pub bounds-cells-index : goal.bounds-cells-index
bounds-cells-index g t c =
    let rows = c.args.self.now.rows.now in
    let low = c.index.ensures.within in
    let whole = front_whole g.G.Grade (lines c.args.self.now.book.now) rows (length rows) c.args.self.now.phases.now c.args.lane.now c.args.cells.now c.requires.layered in
    omega arith

pub offset_bounds-cells-index : goal.offset_bounds-cells-index
offset_bounds-cells-index g t c = let lt = bounds-cells-index g t c in search rules

pub split_at-requires : goal.split_at-requires
split_at-requires g t c =
    let rows = c.args.self.now.rows.now in
    let wide = c.width.ensures in
    let whole = front_whole g.G.Grade (lines c.args.self.now.book.now) rows (length rows) c.args.self.now.phases.now c.args.lane.now c.args.cells.now c.requires.layered in
    omega arith

pub returns-in_default : goal.returns-in_default
returns-in_default g t c =
    let m = g.G.Grade in
    let ls = lines c.args.self.now.book.now in
    let rows = c.args.self.now.rows.now in
    let Fs = c.args.self.now.phases.now in
    let s = c.args.state in
    let cells = c.args.cells.now in
    let here = cell_at cells (index Fs s) in
    let list = c.args.list.now in
    let lane = c.args.lane.now in
    let gone = c.in_default.ensures.cases in
    let none : lane ≡ [] = nil_from_length lane (sym c.requires.places ∙ gone) in
    let nothing : list ≡ [] = nil_from_length list gone in
    subst (λ w. Laid m ls rows (length rows) here s w list list) (sym none)
    (subst (λ l. Laid m ls rows (length rows) here s [] l l) (sym nothing)
    (laid_end m ls rows (length rows) s here (front_layer m ls rows (length rows) Fs [] cells (subst (λ w. Layered m ls rows (length rows) Fs w cells) none c.requires.layered) s c.requires.exists)))

pub returns-in_default-cell : goal.returns-in_default-cell
returns-in_default-cell g t c =
    let m = g.G.Grade in
    let ls = lines c.args.self.now.book.now in
    let rows = c.args.self.now.rows.now in
    let Fs = c.args.self.now.phases.now in
    let s = c.args.state in
    let cells = c.args.cells.now in
    let lane = c.args.lane.now in
    let list = c.args.list.now in
    let some : 0 < length lane = let less = c.in-Some.ensures.cases.1 in let places = c.requires.places in omega arith in
    let row = names_none m ls rows (length rows) c.index-cells-index.result c.in_default-cell.not-By in
    subst (Laid m ls rows (length rows) (cell_at cells (index Fs s)) s lane list) c.in-Some.ensures.cases.0
    (lane_without m ls rows (length rows) Fs lane (drop 1 lane) some refl cells _ refl c.requires.layered s c.requires.exists
    (names_read m ls rows (length rows) Fs lane cells c.requires.layered s c.index.result c.index-cells-index.result None c.index.ensures.within c.index.ensures.is c.index-cells-index.is row) list)

pub bounds-self-place : goal.bounds-self-place
bounds-self-place g t c =
    let m = g.G.Grade in
    let ls = lines c.args.self.now.book.now in
    let rows = c.args.self.now.rows.now in
    let Fs = c.args.self.now.phases.now in
    let s = c.args.state in
    let cells = c.args.cells.now in
    let lane = c.args.lane.now in
    let place = c.in-By.place in
    let some : 0 < length lane = let less = c.in-Some.ensures.cases.1 in let places = c.requires.places in omega arith in
    let row = names_row m ls rows (length rows) c.index-cells-index.result c.in-By.is in
    lane_below m ls rows (length rows) Fs lane (drop 1 lane) some refl cells _ refl c.requires.layered s c.requires.exists place
    (names_read m ls rows (length rows) Fs lane cells c.requires.layered s c.index.result c.index-cells-index.result (Some place) c.index.ensures.within c.index.ensures.is c.index-cells-index.is row)

pub offset_bounds-self-place : goal.offset_bounds-self-place
offset_bounds-self-place g t c = let lt : c.in-By.place < length c.args.self.now.rows.now = bounds-self-place g t c in search rules

pub lay-requires : goal.lay-requires
lay-requires g t c κs within =
    let m = g.G.Grade in
    let ls = lines c.args.self.now.book.now in
    let rows = c.args.self.now.rows.now in
    let Fs = c.args.self.now.phases.now in
    let s = c.args.state in
    let cells = c.args.cells.now in
    let lane = c.args.lane.now in
    let place = c.in-By.place in
    let some : 0 < length lane = let less = c.in-Some.ensures.cases.1 in let places = c.requires.places in omega arith in
    let tail = from_one lane in
    let cut = c.split_at.ensures.back ∙ ap (λ w. drop w cells) c.width.ensures in
    let rest = take (length lane - 1) (drop 1 lane) in
    let behind = c.split_at.result.1.now in
    let row = names_row m ls rows (length rows) c.index-cells-index.result c.in-By.is in
    let names = names_read m ls rows (length rows) Fs lane cells c.requires.layered s c.index.result c.index-cells-index.result (Some place) c.index.ensures.within c.index.ensures.is c.index-cells-index.is row in
    let below = lane_below m ls rows (length rows) Fs lane rest some tail cells behind cut c.requires.layered s c.requires.exists place names in
    let exists : Exists Fs (get_or rows place c.index-self-place.result).to = (c.args.self.now.sound place c.index-self-place.result below).1 in
    let places : length c.in-Some.below.now ≡ length rest = let e = ap length tail ∙ length-drop 1 lane in let less = c.in-Some.ensures.cases.1 in let places = c.requires.places in omega arith in
    (search rules, (search rules, (exists, (places, lane_behind m ls rows (length rows) Fs lane rest some tail cells behind cut c.requires.layered s c.requires.exists))))

pub returns : goal.returns
returns g t c =
    let m = g.G.Grade in
    let ls = lines c.args.self.now.book.now in
    let rows = c.args.self.now.rows.now in
    let Fs = c.args.self.now.phases.now in
    let s = c.args.state in
    let cells = c.args.cells.now in
    let lane = c.args.lane.now in
    let place = c.in-By.place in
    let some : 0 < length lane = let less = c.in-Some.ensures.cases.1 in let places = c.requires.places in omega arith in
    let cut = c.split_at.ensures.back ∙ ap (λ w. drop w cells) c.width.ensures in
    let rest = take (length lane - 1) (drop 1 lane) in
    let behind = c.split_at.result.1.now in
    let row = names_row m ls rows (length rows) c.index-cells-index.result c.in-By.is in
    let names = names_read m ls rows (length rows) Fs lane cells c.requires.layered s c.index.result c.index-cells-index.result (Some place) c.index.ensures.within c.index.ensures.is c.index-cells-index.is row in
    let below = lane_below m ls rows (length rows) Fs lane rest some (from_one lane) cells behind cut c.requires.layered s c.requires.exists place names in
    let is : get_or rows place c.index-self-place.result ≡ row_at m rows place = get_or_default rows place c.index-self-place.result (blank_row m.best) below in
    lane_on m ls rows (length rows) Fs lane rest some (from_one lane) cells behind cut c.requires.layered s c.requires.exists c.lawful.ensures (all_sound m c.args.self.now.sound) place names c.args.list.now c.in-Some.below.now c.lay.new.list
    (subst (λ r. Laid m ls rows (length rows) (cell_at behind (index Fs r.to)) r.to rest c.in-Some.below.now c.lay.new.list) is c.lay.ensures)
