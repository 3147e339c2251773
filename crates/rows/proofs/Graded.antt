-- Grades of paths and of runs, and tables of rows against runs.
use Rattle.std.proofs.Common.{◌≡◌, ℕ, ◌⊎◌, ◌↔◌, List, ◌++◌, map, sym, refl, ap, ◌∙◌, subst, inl, inr, ⊎_elim}
use Rattle.std.proofs.lemmas.List.{map-append}
use Rattle.grade.specs.declared.grade.Grade.{Ghosts}
use Rattle.grade.specs.Lawful.{Lawful}
use Rattle.grade.specs.Runs.{run_grade}
use Rattle.grade.proofs.Joins.{run_grade_append}
use Rattle.deduction.specs.Grades.{NoWorse, Laws}
use Rattle.deduction.specs.Derivations.{Derived}
use Rattle.deduction.specs.Saturation.{Invariant, WaitsBelow}
use Rattle.deduction.proofs.Derivations.{of_all, all_derived, derived_by, joined_weaker, joined_better, joined_grade_follows}
use Rattle.deduction.proofs.Bounds.{settled_final, finished_all, list_bound}
use Rattle.text.specs.declared.line.Line.{Line}
use Rattle.model.specs.Phases.{Opened}
use Rattle.model.specs.Moves.{Position, Move}
use Rattle.model.specs.Watch.{Reaches}
use Rattle.model.specs.Grades.{moves_grade, RunGrade, Best}
use Rattle.rows.specs.Rows.{State, head, Row, Rule, link_rule, watch_rule, order_rule, notice_rule, rule_moves}
use Rattle.rows.specs.Paths.{Accepts, accept_moves, move_system}
use Rattle.rows.specs.Ways.{grading, rule_grade, row_system, accept_grade, Way, Saturated}
use Rattle.rows.specs.Theorems.{AcceptsFrom, MovesGrade, WaysAreRuns, TableBest, TableSome, PartBounds}
use Rattle.rows.proofs.Unfold.{sound}
use Rattle.rows.proofs.Complete.{complete}

-- what a grade keeps, in the words of derivations
pub laws_of : {G : Type 0} {m : Ghosts G} → Lawful m → Laws (grading m)
laws_of lawful = record {
  total = lawful.total;
  transitive = lawful.transitive;
  antisymmetric = lawful.antisymmetric;
  associative = lawful.assoc;
  best_left = lawful.unitl;
  best_right = lawful.unitr;
  keeps_left = lawful.monol;
  keeps_right = lawful.monor;
  first_part = lawful.growsl;
  second_part = lawful.growsr;
}

-- ways over rows that are all in another table too, or with grades no worse
module _ {G : Type 0} {m : Ghosts G} {ls : List Line} {Has Other : Row → G → Type 0} {s : State} {w : List ℕ} {v : G} where
  pub way_also : ((i : Row) (x : G) → Has i x → Other i x) → Way m ls Has s w v → Way m ls Other s w v
  way_also also way = record { rows = way.rows; last = way.last; path = way.path; joined = joined_weaker also way.joined; stop = way.stop }

  pub way_better : Laws (grading m) → ((i : Row) (x : G) → Has i x → (y : G) × Other i y × NoWorse (grading m) y x) → Way m ls Has s w v → (u : G) × Way m ls Other s w u × NoWorse (grading m) u v
  way_better laws better way =
      let (u, joined, no_worse) = joined_better laws better way.joined in
      (u, record { rows = way.rows; last = way.last; path = way.path; joined = joined; stop = way.stop }, no_worse)

module _ {G : Type 0} {m : Ghosts G} (lawful : Lawful m) where
  laws : Laws (grading m)
  laws = laws_of lawful

  -- The grade of moves goes from appending to joining.
  pub append_grade : (ms ns : List Move) → moves_grade m (ms ++ ns) ≡ m.join (moves_grade m ms) (moves_grade m ns)
  append_grade ms ns = ap (run_grade m) (map-append (λ x. x.toll) ms ns) ∙ run_grade_append lawful (map (λ x. x.toll) ms) (map (λ x. x.toll) ns)

  pub rule_moves_grade : {ls : List Line} (r : Rule ls) → moves_grade m (rule_moves r) ≡ rule_grade m r
  rule_moves_grade (link_rule l stands) = refl
  rule_moves_grade (watch_rule v F stands is_open) = refl
  rule_moves_grade (order_rule o F stands is_open in_force path) = lawful.unitl (m.priced o.toll)
  rule_moves_grade (notice_rule n F l s stands is_open allows) = lawful.unitl (m.priced n.toll)

  pub moves_graded : MovesGrade m
  moves_graded ls s w a = joined_grade_follows (move_system ls) (grading m) (rule_grade m) (moves_grade m) refl append_grade rule_moves_grade a.derived

  -- accepting paths are the ways over the derivable rows
  way_path : {ls : List Line} {s : State} {w : List ℕ} {v : G} → Way m ls (Derived (row_system m ls)) s w v → (a : Accepts ls s w) × (accept_grade m a ≡ v)
  way_path {ls} way =
      let (ds, graded) = all_derived (row_system m ls) way.joined in
      (record { rows = way.rows; last = way.last; path = way.path; derived = ds; stop = way.stop }, graded)

  path_way : {ls : List Line} {s : State} {w : List ℕ} (a : Accepts ls s w) → Way m ls (Derived (row_system m ls)) s w (accept_grade m a)
  path_way {ls} a = record {
    rows = a.rows;
    last = a.last;
    path = a.path;
    joined = of_all (row_system m ls) (Derived (row_system m ls)) (derived_by (row_system m ls)) a.derived;
    stop = a.stop;
  }

  -- an accepting path is a run of its grade
  pub path_run : {ls : List Line} (x : Position) (a : AcceptsFrom ls x) → RunGrade m ls x (accept_grade m a)
  path_run {ls} x a = record { moves = accept_moves a; reaches = sound ls x a; graded = moves_graded ls (head x.mode x.phase) x.lane a }

  -- a run from an opened phase is an accepting path of its grade
  pub run_path : {ls : List Line} (x : Position) {v : G} → Opened ls x.phase → RunGrade m ls x v → (a : AcceptsFrom ls x) × (accept_grade m a ≡ v)
  run_path {ls} x is_open run =
      let (a, same) = complete ls x run.moves is_open run.reaches in
      (a, sym (moves_graded ls (head x.mode x.phase) x.lane a) ∙ ap (moves_grade m) same ∙ run.graded)

  way_run : {ls : List Line} (x : Position) {v : G} → Way m ls (Derived (row_system m ls)) (head x.mode x.phase) x.lane v → RunGrade m ls x v
  way_run {ls} x way = let (a, graded) = way_path way in subst (RunGrade m ls x) graded (path_run x a)

  run_way : {ls : List Line} (x : Position) {v : G} → Opened ls x.phase → RunGrade m ls x v → Way m ls (Derived (row_system m ls)) (head x.mode x.phase) x.lane v
  run_way {ls} x is_open run =
      let (a, graded) = run_path x is_open run in
      subst (Way m ls (Derived (row_system m ls)) (head x.mode x.phase) x.lane) graded (path_way a)

  pub ways_are_runs : WaysAreRuns m
  ways_are_runs ls x is_open v = (way_run x, run_way x is_open)

  -- Tables of the saturated rows.
  module _ {ls : List Line} {Has : Row → G → Type 0} (saturated : Saturated m ls Has) (x : Position) (is_open : Opened ls x.phase) where
    abbrev Here : G → Type 0
    Here = Way m ls Has (head x.mode x.phase) x.lane

    -- a derivable row stands in the table with a grade no worse
    has_better : (i : Row) (v : G) → Derived (row_system m ls) i v → (u : G) × Has i u × NoWorse (grading m) u v
    has_better i v (d, graded) =
        let (u, has) = saturated.all i d in
        (u, has, subst (NoWorse (grading m) u) graded ((saturated.best i u has).no_better d))

    -- a way over the table is a run, and every run has a way that is no worse
    pub table_run : (v : G) → Here v → RunGrade m ls x v
    table_run v way = way_run x (way_also (λ i u has. (saturated.best i u has).attained) way)

    pub run_table : (v : G) → RunGrade m ls x v → (u : G) × Here u × NoWorse (grading m) u v
    run_table v run = way_better laws has_better (run_way x is_open run)

    pub saturated_best : (v : G) → Best m Here v ↔ Best m (RunGrade m ls x) v
    saturated_best v = (to_runs, to_ways)
      where
        to_runs : Best m Here v → Best m (RunGrade m ls x) v
        to_runs best = record {
          attained = table_run v best.attained;
          no_better = λ u run. let (y, way, no_worse) = run_table u run in laws.transitive v y u (best.no_better y way) no_worse;
        }

        to_ways : Best m (RunGrade m ls x) v → Best m Here v
        to_ways best =
            let (u, way, no_worse) = run_table v best.attained in
            let same = laws.antisymmetric u v no_worse (best.no_better u (table_run u way)) in
            record { attained = subst Here same way; no_better = λ y other. best.no_better y (table_run y other) }

    pub saturated_some : ((v : G) × Here v) ↔ ((ms : List Move) × Reaches ls x ms)
    saturated_some = (
      λ found. let run = table_run found.0 found.1 in (run.moves, run.reaches),
      λ found. let (u, way, no_worse) = run_table (moves_grade m found.0) (record { moves = found.0; reaches = found.1; graded = refl }) in (u, way),
    )

  -- Rows while some wait.
  module _ {ls : List Line} {Settled Waiting : Row → G → Type 0} (inv : Invariant (row_system m ls) Settled Waiting) where
    -- nothing waits: the settled rows are the saturated ones
    pub finished_saturated : ((i : Row) (v : G) → Waiting i v → ⊥) → Saturated m ls Settled
    finished_saturated done = record { best = settled_final laws inv; all = finished_all laws inv done }

    module _ (x : Position) where
      abbrev SettledWay : G → Type 0
      SettledWay = Way m ls Settled (head x.mode x.phase) x.lane

      pub settled_run : (v : G) → SettledWay v → RunGrade m ls x v
      settled_run v way = way_run x (way_also inv.settled_derived way)

      pub run_bound : Opened ls x.phase → (v : G) → RunGrade m ls x v → ((u : G) × SettledWay u × NoWorse (grading m) u v) ⊎ WaitsBelow (row_system m ls) Waiting v
      run_bound is_open v run =
          let (a, graded) = run_path x is_open run in
          subst (λ y. ((u : G) × SettledWay u × NoWorse (grading m) u y) ⊎ WaitsBelow (row_system m ls) Waiting y) graded
          (⊎_elim (λ c. inl (c.0, record { rows = a.rows; last = a.last; path = a.path; joined = c.1; stop = a.stop }, c.2)) inr (list_bound laws inv a.derived))

  pub table_best : {E : Type 0} → TableBest m E
  table_best ls table saturated x is_open v = saturated_best saturated x is_open v

  pub table_some : {E : Type 0} → TableSome m E
  table_some ls table saturated x is_open = saturated_some saturated x is_open

  pub part_bounds : {S W : Type 0} → PartBounds m S W
  part_bounds ls settled waiting inv x is_open = (settled_run inv x, run_bound inv x is_open)
