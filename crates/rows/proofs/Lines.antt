-- Rows, their grades and ways depend only on which lines stand.
use Rattle.std.proofs.Common.{◌≡◌, ℕ, ◌↔◌, List, refl, subst}
use Rattle.grade.specs.declared.grade.Grade.{Ghosts}
use Rattle.deduction.specs.Grades.{NoWorse}
use Rattle.deduction.specs.Derivations.{Derivation, grade, Derived, BestOf}
use Rattle.deduction.proofs.Derivations.{derived_also}
use Rattle.deduction.proofs.Counting.{same_length}
use Rattle.text.specs.declared.line.Line.{Line}
use Rattle.model.specs.Phases.{Stands}
use Rattle.model.proofs.Lines.{opened_also}
use Rattle.rows.specs.Rows.{State, Row, Rule, link_rule, watch_rule, order_rule, notice_rule, premises, conclusion, row_rules}
use Rattle.rows.specs.Paths.{Stop, end_stop, bare_stop}
use Rattle.rows.specs.Ways.{grading, rule_grade, row_system, Way, Saturated}
use Rattle.rows.specs.Theorems.{SameRows}

-- every line of ls stands in ks
module _ (ls ks : List Line) (also : (l : Line) → Stands ls l → Stands ks l) where
  abbrev rule_also : Rule ls → Rule ks
  rule_also (link_rule l stands) = link_rule l (also _ stands)
  rule_also (watch_rule v F stands is_open) = watch_rule v F (also _ stands) (opened_also also is_open)
  rule_also (order_rule o F stands is_open in_force path) = order_rule o F (also _ stands) (opened_also also is_open) in_force path
  rule_also (notice_rule n F l s stands is_open allows) = notice_rule n F l s (also _ stands) (opened_also also is_open) allows

  same_premises : (r : Rule ls) → premises (rule_also r) ≡ premises r
  same_premises (link_rule l stands) = refl
  same_premises (watch_rule v F stands is_open) = refl
  same_premises (order_rule o F stands is_open in_force path) = refl
  same_premises (notice_rule n F l s stands is_open allows) = refl

  same_conclusion : (r : Rule ls) → conclusion (rule_also r) ≡ conclusion r
  same_conclusion (link_rule l stands) = refl
  same_conclusion (watch_rule v F stands is_open) = refl
  same_conclusion (order_rule o F stands is_open in_force path) = refl
  same_conclusion (notice_rule n F l s stands is_open allows) = refl

  pub stop_also : {s : State} → Stop ls s → Stop ks s
  stop_also (end_stop t stands) = end_stop t (also _ stands)
  stop_also (bare_stop p F stands is_open) = bare_stop p F (also _ stands) (opened_also also is_open)

  module _ {G : Type 0} (m : Ghosts G) where
    same_toll : (r : Rule ls) → rule_grade m (rule_also r) ≡ rule_grade m r
    same_toll (link_rule l stands) = refl
    same_toll (watch_rule v F stands is_open) = refl
    same_toll (order_rule o F stands is_open in_force path) = refl
    same_toll (notice_rule n F l s stands is_open allows) = refl

    pub row_also : (i : Row) (v : G) → Derived (row_system m ls) i v → Derived (row_system m ks) i v
    row_also = derived_also (row_system m ls) (row_rules ks) (rule_grade m) rule_also same_premises same_conclusion same_toll

    way_also : {Has : Row → G → Type 0} {s : State} {w : List ℕ} {v : G} → Way m ls Has s w v → Way m ks Has s w v
    way_also way = record { rows = way.rows; last = way.last; path = way.path; joined = way.joined; stop = stop_also way.stop }

-- both ways
module _ {G : Type 0} (m : Ghosts G) (ls ks : List Line) (to : (l : Line) → Stands ls l → Stands ks l) (back : (l : Line) → Stands ks l → Stands ls l) where
  derivation_also : (i : Row) → Derivation (row_rules ls) i → Derivation (row_rules ks) i
  derivation_also i d = (row_also ls ks to m i (grade (row_system m ls) d) (d, refl)).0

  best_also : (i : Row) (v : G) → BestOf (row_system m ls) i v → BestOf (row_system m ks) i v
  best_also i v best = record {
    attained = row_also ls ks to m i v best.attained;
    no_better = λ d. let (e, graded) = row_also ks ls back m i (grade (row_system m ks) d) (d, refl) in subst (NoWorse (grading m) v) graded (best.no_better e);
  }

module _ {G : Type 0} (m : Ghosts G) (ls ks : List Line) (to : (l : Line) → Stands ls l → Stands ks l) (back : (l : Line) → Stands ks l → Stands ls l) where
  saturated_also : {Has : Row → G → Type 0} → Saturated m ls Has → Saturated m ks Has
  saturated_also saturated = record {
    best = λ i v has. best_also m ls ks to back i v (saturated.best i v has);
    all = λ i d. saturated.all i (derivation_also m ks ls back to i d);
  }

pub same_rows : {G : Type 0} {m : Ghosts G} {E : Type 0} → SameRows m E
same_rows {m = m} ls ks same =
    let to : (l : Line) → Stands ls l → Stands ks l = λ l. (same l).0 in
    let back : (l : Line) → Stands ks l → Stands ls l = λ l. (same l).1 in
    let rows : (i : Row) → Derivation (row_rules ls) i ↔ Derivation (row_rules ks) i = λ i. (derivation_also m ls ks to back i, derivation_also m ks ls back to i) in
    record {
      derived = λ i v. (row_also ls ks to m i v, row_also ks ls back m i v);
      best = λ i v. (best_also m ls ks to back i v, best_also m ks ls back to i v);
      saturated = λ table. (saturated_also m ls ks to back, saturated_also m ks ls back to);
      ways = λ table s w v. (way_also ls ks to m, way_also ks ls back m);
      count = λ is js listed_is listed_js. same_length is js listed_is.distinct listed_js.distinct
          (λ i. (λ among. (listed_js.exactly i).1 ((rows i).0 ((listed_is.exactly i).0 among)), λ among. (listed_is.exactly i).1 ((rows i).1 ((listed_js.exactly i).0 among))));
    }
