-- The facts of `Work`, of the work at hand: the lent row table and queue, with what stays as it is while rows are brought in.
use Rattle.std.specs.Prelude.{◌≡◌, ℕ, List, Option}
use Rattle.grade.specs.declared.grade.Grade.{Ghosts}
use Rattle.book.specs.Lines.{lines}
use Rattle.rowtable.specs.declared.row.TableRow.{TableRow}
use Rattle.rowtable.specs.Reasons.{SettledAt}
use Rattle.saturation.specs.declared.premise.Premise.{Premise}
use Rattle.saturation.specs.declared.setting.Setting.{Setting}
use Rattle.saturation.specs.declared.work.Work.{Work}
use Rattle.saturation.specs.Work.{Table, Later, Last, Went, Ends, Brings, BringsBoth, Begins, Worked, Settles, Turned, Proceeded}

-- the same slices are lent
pub record SameSlices {G : Type 0} (old new : Work G) : Type 0 where
  pub rows : new.rows.ghost_name ≡ old.rows.ghost_name
  pub waiting : new.waiting.ghost_name ≡ old.waiting.ghost_name

module _ {G : Type 0} (m : Ghosts G) (e : Setting) where
  abbrev pub TableOf : Work G → Type 0
  TableOf w = Table m e.phases.now (lines e.book.now) w.rows.now e.settled w.found w.waiting.now

  abbrev pub SettledIn : Work G → ℕ → TableRow G → Type 0
  SettledIn w p r = SettledAt m w.rows.now w.found e.settled p r

  abbrev pub LaterOf : Work G → G → Type 0
  LaterOf w g = Later m e.phases.now (lines e.book.now) w.rows.now e.settled w.found g

  abbrev pub LastOf : Work G → Premise G → Type 0
  LastOf w x = Last m e.phases.now (lines e.book.now) w.rows.now e.settled w.found x.place x.row

  abbrev pub WentOf : (TableRow G → Type 0) → (old new : Work G) → Type 0 → Type 0
  WentOf New old new C = Went m e.phases.now (lines e.book.now) e.settled New old.rows.now old.found old.waiting.now new.rows.now new.found new.waiting.now C

  abbrev pub EndsOf : (TableRow G → Type 0) → (old new : Work G) → (List (TableRow G) → ℕ → Type 0) → Option (Unit {0}) → Type 0
  EndsOf New old new C r = Ends m e.phases.now (lines e.book.now) e.settled New old.rows.now old.found old.waiting.now new.rows.now new.found new.waiting.now C r

  -- how bringing in what x brings ends, ..
  abbrev pub BringsOf : Premise G → (old new : Work G) → (List (TableRow G) → ℕ → Type 0) → Option (Unit {0}) → Type 0
  BringsOf x old new C r = EndsOf (Brings m e.phases.now (lines e.book.now) old.rows.now e.settled old.found x.row) old new C r

  -- .. what x and y bring together, ..
  abbrev pub BringsBothOf : (x y : Premise G) → (old new : Work G) → (List (TableRow G) → ℕ → Type 0) → Option (Unit {0}) → Type 0
  BringsBothOf x y old new C r = EndsOf (BringsBoth m e.phases.now (lines e.book.now) old.rows.now e.settled old.found x.row y.row) old new C r

  -- .. and what waits at the start
  abbrev pub BeginsOf : (old new : Work G) → (List (TableRow G) → ℕ → Type 0) → Option (Unit {0}) → Type 0
  BeginsOf old new C r = EndsOf (Begins m e.phases.now (lines e.book.now)) old new C r

  abbrev pub SettlesOf : Work G → ℕ → Work G → Type 0
  SettlesOf old a new = Settles m e.phases.now (lines e.book.now) old.rows.now e.settled old.found old.waiting.now a new.rows.now new.waiting.now

  -- with s rows settled
  abbrev pub WorkedOf : ℕ → Work G → Type 0
  WorkedOf s w = Worked m e.phases.now (lines e.book.now) w.rows.now s w.found w.waiting.now

  abbrev pub TurnedOf : Work G → ℕ → Work G → Option (Unit {0}) → Type 0
  TurnedOf old s new r = Turned m e.phases.now (lines e.book.now) old.rows.now old.waiting.now s new.rows.now new.found new.waiting.now r

  -- how settling so many more rows ends
  abbrev pub ProceededOf : Work G → ℕ → Work G → Option ℕ → Type 0
  ProceededOf old count new r = Proceeded m e.phases.now (lines e.book.now) old.rows.now old.waiting.now e.settled count new.rows.now new.found new.waiting.now r
