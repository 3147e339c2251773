-- What is defined of a book depends only on which lines stand.
use Rattle.std.proofs.Common.{ℕ, List}
use Rattle.text.specs.declared.line.Line.{Line}
use Rattle.model.specs.Phases.{Stands, Opened, opened, noticed}
use Rattle.model.specs.Moves.{Position, Move, Step, by_order, by_notice, Run, stay, go}
use Rattle.model.specs.Watch.{Leads, ends, links, Watched, bare, read, Reaches}
use Rattle.model.specs.Laws.{Unchanged, LinesAreAll}

-- every line of ls stands in ks
module _ {ls ks : List Line} (also : (l : Line) → Stands ls l → Stands ks l) where
  pub opened_also : {F : ℕ} → Opened ls F → Opened ks F
  opened_also (opened stands) = opened (also _ stands)
  opened_also (noticed before stands allows) = noticed (opened_also before) (also _ stands) allows

  pub step_also : {x y : Position} {m : Move} → Step ls x m y → Step ks x m y
  step_also (by_order stands in_force) = by_order (also _ stands) in_force
  step_also (by_notice stands allows) = by_notice (also _ stands) allows

  pub run_also : {x y : Position} {ms : List Move} → Run ls x ms y → Run ks x ms y
  run_also stay = stay
  run_also (go step rest) = go (step_also step) (run_also rest)

  pub leads_also : {t : ℕ} {w : List ℕ} → Leads ls t w → Leads ks t w
  leads_also (ends stands) = ends (also _ stands)
  leads_also (links stands rest) = links (also _ stands) (leads_also rest)

  pub watched_also : {x : Position} → Watched ls x → Watched ks x
  watched_also (bare stands phase) = bare (also _ stands) (opened_also phase)
  watched_also (read stands phase leads) = read (also _ stands) (opened_also phase) (leads_also leads)

  pub reaches_also : {x : Position} {ms : List Move} → Reaches ls x ms → Reaches ks x ms
  reaches_also way = record { last = way.last; run = run_also way.run; held = watched_also way.held }

  unchanged : Unchanged ls ks
  unchanged = record {
    opened = λ F. opened_also;
    steps = λ x y m. step_also;
    runs = λ x y ms. run_also;
    watched = λ x. watched_also;
    reaches = λ x ms. reaches_also;
  }

pub lines_are_all : LinesAreAll
lines_are_all ls ks same = (unchanged (λ l. (same l).0), unchanged (λ l. (same l).1))
