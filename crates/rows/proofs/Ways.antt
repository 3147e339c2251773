-- Ways one wagon at a time, for whoever looks for the best.
use Rattle.std.proofs.Common.{◌≡◌, ℕ, ◌↔◌, List, [], ◌∷◌, sym, refl, subst}
use Rattle.grade.specs.declared.grade.Grade.{Ghosts}
use Rattle.grade.specs.Lawful.{Lawful}
use Rattle.deduction.specs.Grades.{NoWorse}
use Rattle.deduction.specs.Derivations.{Joined, joined_none, joined_more}
use Rattle.deduction.proofs.Grades.{no_worse_itself}
use Rattle.text.specs.declared.line.Line.{Line}
use Rattle.model.specs.Grades.{Best}
use Rattle.rows.specs.Rows.{State, wagon, Row, row, Path, stay, step}
use Rattle.rows.specs.Paths.{Stop}
use Rattle.rows.specs.Ways.{grading, Way}
use Rattle.rows.proofs.Graded.{laws_of}

-- the first row of a way, from s by k, and a way from where it leads
pub record First {G : Type 0} (m : Ghosts G) (ls : List Line) (Has : Row → G → Type 0) (s : State) (k : ℕ) (w : List ℕ) (v : G) : Type 0 where
  pub mid : State
  pub first : G
  pub rest : G
  pub has : Has (row s (wagon k) mid) first
  pub way : Way m ls Has mid w rest
  pub joins : m.join first rest ≡ v

module _ {G : Type 0} (m : Ghosts G) {ls : List Line} {Has : Row → G → Type 0} where
  none_stops : {s t : State} {is : List Row} {v : G} → Path s [] is t → Joined (grading m) Has is v → Stop ls t → Stop ls s × (v ≡ m.best)
  none_stops stay joined_none stop = (stop, refl)

  more_first : {s t : State} {k : ℕ} {w : List ℕ} {is : List Row} {v : G} → Path s (k ∷ w) is t → Joined (grading m) Has is v → Stop ls t → First m ls Has s k w v
  more_first {t = t} (step {t = u} {is = is} p) (joined_more {g = x} {h = y} has joined) stop =
      record { mid = u; first = x; rest = y; has = has; way = record { rows = is; last = t; path = p; joined = joined; stop = stop }; joins = refl }

module _ {G : Type 0} {m : Ghosts G} {ls : List Line} {Has : Row → G → Type 0} where
  -- with no wagon left, a way stops where it is
  pub way_none : {s : State} {v : G} → Way m ls Has s [] v ↔ (Stop ls s × (v ≡ m.best))
  way_none {s} = (
    λ way. none_stops m way.path way.joined way.stop,
    λ stops. subst (Way m ls Has s []) (sym stops.1) (record { rows = []; last = s; path = stay; joined = joined_none; stop = stops.0 }),
  )

  -- with a wagon on top, it goes by a row and then by a way
  pub way_more : {s : State} {k : ℕ} {w : List ℕ} {v : G} → Way m ls Has s (k ∷ w) v ↔ First m ls Has s k w v
  way_more {s} {k} {w} = (
    λ way. more_first m way.path way.joined way.stop,
    λ f. subst (Way m ls Has s (k ∷ w)) f.joins
        (record { rows = row s (wagon k) f.mid ∷ f.way.rows; last = f.way.last; path = step f.way.path; joined = joined_more f.has f.way.joined; stop = f.way.stop }),
  )

  module _ (lawful : Lawful m) where
    pub best_none : {s : State} → Stop ls s → Best m (Way m ls Has s []) m.best
    best_none {s} stop = record {
      attained = way_none.1 (stop, refl);
      no_better = λ u way. subst (NoWorse (grading m) m.best) (sym (way_none.0 way).1) (no_worse_itself (laws_of lawful) m.best);
    }

    -- The best way with a wagon on top goes by a row and then by a best way: it is the best of these joins.
    pub best_more : {s : State} {k : ℕ} {w : List ℕ} {v : G} → (f : First m ls Has s k w v) → Best m (Way m ls Has f.mid w) f.rest
        → ((t : State) (x y : G) → Has (row s (wagon k) t) x → Way m ls Has t w y → (z : G) × Best m (Way m ls Has t w) z × NoWorse (grading m) v (m.join x z))
        → Best m (Way m ls Has s (k ∷ w)) v
    best_more {v = v} f best each = record {
      attained = way_more.1 f;
      no_better = λ u way.
          let other = way_more.0 way in
          let (z, best_there, no_worse) = each other.mid other.first other.rest other.has other.way in
          subst (NoWorse (grading m) v) other.joins
          (lawful.transitive v (m.join other.first z) (m.join other.first other.rest) no_worse (lawful.monol z other.rest other.first (best_there.no_better other.rest other.way)));
    }
