-- What is told of the rows of any table, where the phases are those that the lines open.
use Rattle.std.proofs.Common.{ℕ, List, reverse, length, take, Ok, Err, Result, sym, refl, ◌∙◌, subst, arith}
use Rattle.grade.specs.declared.grade.Grade.{Ghosts}
use Rattle.grade.specs.Lawful.{Lawful}
use Rattle.text.specs.declared.line.Line.{Line}
use Rattle.model.specs.Phases.{Opened}
use Rattle.model.specs.Moves.{Position, Move}
use Rattle.model.specs.Watch.{Reaches}
use Rattle.model.specs.Grades.{RunGrade, Best}
use Rattle.rows.specs.Rows.{head}
use Rattle.rows.specs.Ways.{Way, Saturated}
use Rattle.rows.proofs.Graded.{saturated_best, saturated_some}
use Rattle.phases.specs.declared.table.Phases.{Phases}
use Rattle.phases.specs.Table.{used, Holds, OpenedBy}
use Rattle.rowtable.specs.declared.row.TableState.{TableState}
use Rattle.rowtable.specs.declared.row.TableState.TheVariants.{Head}
use Rattle.rowtable.specs.declared.row.TableRow.{TableRow}
use Rattle.rowtable.specs.Tables.{Exists, Held}
use Rattle.rowtable.specs.Paths.{RowsSay}
use Rattle.rowtable.specs.Saturated.{SaturatedTable}
use Rattle.paths.specs.declared.refusal.PathRefusal.{PathRefusal}
use Rattle.paths.specs.declared.refusal.PathRefusal.TheVariants.{TooLarge, NotOpened, ScratchShort, ListShort, NoWay, BrokenRow}
use Rattle.paths.specs.Cells.{Sound}
use Rattle.paths.specs.Layers.{RowWay, PathOf}
use Rattle.paths.specs.Runs.{Reasoned}
use Rattle.paths.specs.Answers.{Asked, BestTold, RunsTold, PathLaid, LaidTold, RunLaid}
use Rattle.paths.specs.Outcomes.{Starts, RowsSayOf, BestRowsTold, RowsLaid, RowsLaidTold, SaturatedTold, RestLaid}
use Rattle.unfolding.proofs.Standing.{paths_stand as unfolds}
use Rattle.paths.proofs.Asking.{saturated_sound, opened_opens, used_length, start_head}
use Rattle.paths.proofs.Bridge.{best_way, no_way, path_of}
use Rattle.paths.proofs.Standing.{paths_stand}

module _ {G : Type 0} (m : Ghosts G) (ls : List Line) (p : Phases) (rows : List (TableRow G)) (n : ℕ) (x : Position) (places : ℕ) where
  abbrev WaysOf : G → Type 0
  WaysOf = RowWay m ls (used p) rows n (head x.mode x.phase) x.lane

  start_exists : Asked p x places → (s : TableState) → Starts p x s → Exists (used p) s
  start_exists asked s starts =
      let e = used_length p in
      let lt = starts.1.1.within in
      subst (Exists (used p)) (sym starts.1.0) (asked.fits.mode_fits, omega arith)

  module _ (asked : Asked p x places) (sound : Sound m (used p) rows n) (opened : OpenedBy ls p) where
    best_ways : (v : G) → Best m (RowsSayOf m ls p rows n x) v → Best m WaysOf v
    best_ways v best =
        let (s, (starts, say)) = best.attained in
        let here : Best m (RowsSay m ls rows n s x.lane) v = record { attained = say; no_better = λ u other. best.no_better u (s, (starts, other)) } in
        subst (λ t. Best m (Way m ls (Held (used p) rows n) t x.lane) v) (start_head p x s starts)
        (best_way ls (used p) (opened_opens p ls opened) m rows n sound x.lane s v (start_exists asked s starts) here)

    -- the start: the phases are different, so the place of the phase is its first
    start : Holds p x.phase → (s : TableState) × Starts p x s
    start (k, lt, is) =
        (Head x.mode k, (k, (refl, record { within = lt; here = is; before = λ j less same. let e = opened.filled.different.apart j k (omega arith) lt (same ∙ sym is) in absurd (omega arith) })))

    no_ways : ((v : G) → RowsSayOf m ls p rows n x v → ⊥) → (v : G) → WaysOf v → ⊥
    no_ways none v way =
        let (s, starts) = start asked.opened in
        no_way ls (used p) (opened_opens p ls opened) m rows n sound x.lane s (start_exists asked s starts) (λ u say. none u (s, (starts, say))) v
        (subst (λ t. Way m ls (Held (used p) rows n) t x.lane v) (sym (start_head p x s starts)) way)

  pub best_told : (r : Result G PathRefusal) → BestRowsTold m ls p rows n x places r → BestTold m ls p rows n x places r
  best_told (Ok v) (asked, (sound, best)) = (asked, (sound, λ opened. best_ways asked sound opened v best))
  best_told (Err TooLarge) why = why
  best_told (Err NotOpened) why = why
  best_told (Err ScratchShort) why = why
  best_told (Err ListShort) why = why
  best_told (Err NoWay) (asked, (sound, none)) = (asked, (sound, λ opened. no_ways asked sound opened none))
  best_told (Err BrokenRow) why = why

  laid_path : (list : List ℕ) (v : G) → Asked p x places → Sound m (used p) rows n → RowsLaid m ls p rows n x places list v → OpenedBy ls p → PathLaid m ls p rows n x places list v
  laid_path list v asked sound laid opened = record {
    path = subst (λ t. PathOf m ls (used p) rows n t x.lane (reverse (take (length x.lane) list)) v) (start_head p x laid.start laid.starts) (path_of ls (used p) (opened_opens p ls opened) m rows n sound (start_exists asked laid.start laid.starts) laid.path);
    best = best_ways asked sound opened v laid.best;
  }

  pub laid_told : (list : List ℕ) (r : Result G PathRefusal) → RowsLaidTold m ls p rows n x places list r → LaidTold m ls p rows n x places list r
  laid_told list (Ok v) (asked, (room, (sound, laid))) = (asked, (room, (sound, laid_path list v asked sound laid)))
  laid_told list (Err TooLarge) why = why
  laid_told list (Err NotOpened) why = why
  laid_told list (Err ScratchShort) why = why
  laid_told list (Err ListShort) why = why
  laid_told list (Err NoWay) (room, (asked, (sound, none))) = (room, (asked, (sound, λ opened. no_ways asked sound opened none)))
  laid_told list (Err BrokenRow) why = why

  -- over the saturated rows, the best way is the best run, and without a way there is no run
  module _ (lawful : Lawful m) (opened : OpenedBy ls p) (saturated : Saturated m ls (Held (used p) rows n)) where
    is_open : Holds p x.phase → Opened ls x.phase
    is_open (k, lt, is) = subst (Opened ls) is (opened.filled.different.each k lt)

    best_run : Asked p x places → (v : G) → Best m WaysOf v → Best m (RunGrade m ls x) v
    best_run asked v best = (saturated_best lawful saturated x (is_open asked.opened) v).0 best

    no_run : Asked p x places → ((v : G) → WaysOf v → ⊥) → (ms : List Move) → Reaches ls x ms → ⊥
    no_run asked none ms reaches = let (v, way) = (saturated_some lawful saturated x (is_open asked.opened)).1 (ms, reaches) in none v way

    pub best_runs : (r : Result G PathRefusal) → BestTold m ls p rows n x places r → RunsTold m ls p rows n x places r
    best_runs (Ok v) (asked, (sound, best)) = best_run asked v (best opened)
    best_runs (Err TooLarge) why = λ same. absurd (omega arith)
    best_runs (Err NotOpened) why = λ same. absurd (omega arith)
    best_runs (Err ScratchShort) why = λ same. absurd (omega arith)
    best_runs (Err ListShort) why = λ same. absurd (omega arith)
    best_runs (Err NoWay) (asked, (sound, none)) = λ same. no_run asked (none opened)
    best_runs (Err BrokenRow) why = λ same. absurd (omega arith)

    pub laid_runs : (list : List ℕ) (r : Result G PathRefusal) → LaidTold m ls p rows n x places list r → RunsTold m ls p rows n x places r
    laid_runs list (Ok v) (asked, (room, (sound, laid))) = best_run asked v (laid opened).best
    laid_runs list (Err TooLarge) why = λ same. absurd (omega arith)
    laid_runs list (Err NotOpened) why = λ same. absurd (omega arith)
    laid_runs list (Err ScratchShort) why = λ same. absurd (omega arith)
    laid_runs list (Err ListShort) why = λ same. absurd (omega arith)
    laid_runs list (Err NoWay) (room, (asked, (sound, none))) = λ same. no_run asked (none opened)
    laid_runs list (Err BrokenRow) why = λ same. absurd (omega arith)

  -- and over rows with right reasons a path laid out stands for a run
  pub laid_stands : Lawful m → (list : List ℕ) (r : Result G PathRefusal) → LaidTold m ls p rows n x places list r → OpenedBy ls p → Reasoned m ls (used p) rows n → RunLaid m ls p rows n x places list r
  laid_stands lawful list (Ok v) (asked, (room, (sound, laid))) opened reasoned = paths_stand m ls (used p) rows n lawful reasoned x (reverse (take (length x.lane) list)) v (laid opened).path
  laid_stands lawful list (Err e) told opened reasoned = tt

  -- over a table of the saturated rows too, and the path laid out unfolds to it
  module _ (lawful : Lawful m) (opened : OpenedBy ls p) (table : SaturatedTable m ls (used p) rows n) where
    pub best_saturated : (r : Result G PathRefusal) → BestRowsTold m ls p rows n x places r → SaturatedTold m ls x r
    best_saturated (Ok v) (asked, (sound, best)) = best_run lawful opened table.saturated asked v (best_ways asked sound opened v best)
    best_saturated (Err TooLarge) why = tt
    best_saturated (Err NotOpened) why = tt
    best_saturated (Err ScratchShort) why = tt
    best_saturated (Err ListShort) why = tt
    best_saturated (Err NoWay) (asked, (sound, none)) = no_run lawful opened table.saturated asked (no_ways asked sound opened none)
    best_saturated (Err BrokenRow) (asked, broken) = broken (saturated_sound m ls (used p) rows n table)

    pub laid_saturated : (list : List ℕ) (r : Result G PathRefusal) → RowsLaidTold m ls p rows n x places list r → SaturatedTold m ls x r
    laid_saturated list (Ok v) (asked, (room, (sound, laid))) = best_run lawful opened table.saturated asked v (best_ways asked sound opened v laid.best)
    laid_saturated list (Err TooLarge) why = tt
    laid_saturated list (Err NotOpened) why = tt
    laid_saturated list (Err ScratchShort) why = tt
    laid_saturated list (Err ListShort) why = tt
    laid_saturated list (Err NoWay) (room, (asked, (sound, none))) = no_run lawful opened table.saturated asked (no_ways asked sound opened none)
    laid_saturated list (Err BrokenRow) (room, (asked, broken)) = broken (saturated_sound m ls (used p) rows n table)

    pub laid_unfolds : (list : List ℕ) (r : Result G PathRefusal) → RowsLaidTold m ls p rows n x places list r → RestLaid m ls rows n x list r
    laid_unfolds list (Ok v) (asked, (room, (sound, laid))) =
        unfolds m lawful ls rows n (used p) (opened_opens p ls opened) table x laid.start (start_exists asked laid.start laid.starts) (start_head p x laid.start laid.starts) list v room laid.path
    laid_unfolds list (Err e) told = tt
