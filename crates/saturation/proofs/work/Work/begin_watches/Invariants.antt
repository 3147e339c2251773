use Rattle.std.proofs.Common.{ℕ, ◌<◌, length}
use Rattle.saturation.specs.Start.{WatchBegun}
use Rattle.saturation.specs.AtHand.{SameSlices, WentOf}
use Rattle.saturation.specs.Work.{Begins}
use Rattle.book.specs.Lines.{lines}
use Rattle.saturation.proofs.work.Work.begin_watches.Given as goal

abbrev pub invariant-loop-watch : goal.invariant-loop-watch
invariant-loop-watch g l =
    let m = g.G.Grade in
    let e = l.setting in
    SameSlices l.initial.self l.self
    × WentOf m e (Begins m e.phases.now (lines e.book.now)) l.initial.self l.self
    ((k : ℕ) → k < l.watch-index → (i : ℕ) → i < length e.phases.now → WatchBegun m e.phases.now e.book.now k i l.self.rows.now l.self.found)

abbrev pub invariant-loop-place : goal.invariant-loop-place
invariant-loop-place g l =
    let m = g.G.Grade in
    let e = l.setting in
    SameSlices l.fn.self l.self
    × WentOf m e (Begins m e.phases.now (lines e.book.now)) l.fn.self l.self
    (((k : ℕ) → k < l.watch-index → (i : ℕ) → i < length e.phases.now → WatchBegun m e.phases.now e.book.now k i l.self.rows.now l.self.found)
    × ((i : ℕ) → i < l.place → WatchBegun m e.phases.now e.book.now l.watch-index i l.self.rows.now l.self.found))
