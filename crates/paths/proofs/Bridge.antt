-- Paths over the places of a table are ways over the states that these stand for, where the phases are different opened ones.
use Rattle.std.proofs.Common.{◌≡◌, ℕ, ◌<◌, List, [], ◌∷◌, length, get_or, sym, refl, ap, ◌∙◌, subst, arith}
use Rattle.std.proofs.lemmas.List.{get_or_default}
use Rattle.grade.specs.declared.grade.Grade.{Ghosts}
use Rattle.deduction.specs.Counting.{Different}
use Rattle.text.specs.declared.line.Line.{Line}
use Rattle.model.specs.Phases.{Opened}
use Rattle.model.specs.Grades.{Best}
use Rattle.rows.specs.Rows.{State, head, node, wagon, Row, row}
use Rattle.rows.specs.Paths.{Stop, end_stop, bare_stop}
use Rattle.rows.specs.Ways.{Way}
use Rattle.rows.proofs.Ways.{way_none, way_more}
use Rattle.rowtable.specs.declared.row.TableState.{TableState}
use Rattle.rowtable.specs.declared.row.TableState.TheVariants.{Node, Head}
use Rattle.rowtable.specs.declared.row.TableRow.{TableRow}
use Rattle.rowtable.specs.Tables.{state_of, row_of, row_at, Exists, blank_row, Held}
use Rattle.rowtable.specs.Paths.{Ending, at_end, at_bare, RowPath, path_end, path_on, RowsSay}
use Rattle.paths.specs.Cells.{Sound}
use Rattle.paths.specs.Layers.{PathOf, path_end as of_end, path_on as of_on}

module _ (ls : List Line) (Fs : List ℕ) (opens : Different (Opened ls) (λ k. get_or Fs k 0) (length Fs)) where
  -- states that exist stand for states of their own
  same_state : (s t : TableState) → Exists Fs s → Exists Fs t → state_of Fs s ≡ state_of Fs t → s ≡ t
  same_state (Node a) (Node b) here there same = let e : a ≡ b = cc in ap Node e
  same_state (Node a) (Head p i) here there same = let never : ◌≡◌ {A = ℕ} 0 1 = cc in absurd (omega arith)
  same_state (Head p i) (Node b) here there same = let never : ◌≡◌ {A = ℕ} 0 1 = cc in absurd (omega arith)
  same_state (Head p i) (Head q j) here there same =
      let e : p ≡ q = cc in
      let phase : get_or Fs i 0 ≡ get_or Fs j 0 = cc in
      let f : i ≡ j = opens.apart i j here.1 there.1 phase in
      cc

  ending_stop : {s : TableState} → Exists Fs s → Ending ls s → Stop ls (state_of Fs s)
  ending_stop exists (at_end t stands) = end_stop t stands
  ending_stop exists (at_bare p i stands) = bare_stop p (get_or Fs i 0) stands (opens.each i exists.1)

  stop_node : {t : ℕ} → Stop ls (node t) → Ending ls (Node t)
  stop_node (end_stop t stands) = at_end t stands

  stop_head : {p F : ℕ} (i : ℕ) → Stop ls (head p F) → Ending ls (Head p i)
  stop_head i (bare_stop p F stands is_open) = at_bare p i stands

  stop_ending : (s : TableState) → Stop ls (state_of Fs s) → Ending ls s
  stop_ending (Node t) stop = stop_node stop
  stop_ending (Head p i) stop = stop_head i stop

  module _ {G : Type 0} (m : Ghosts G) (rows : List (TableRow G)) (n : ℕ) (sound : Sound m Fs rows n) where
    abbrev Ways : State → List ℕ → G → Type 0
    Ways = Way m ls (Held Fs rows n)

    held : (k : ℕ) (i : Row) → k < n → row_of Fs (row_at m rows k) ≡ i → Held Fs rows n i (row_at m rows k).grade
    held k i lt is =
        let enough = sound.enough in
        let at : (d : TableRow G) → get_or rows k d ≡ row_at m rows k = λ d. get_or_default rows k d (blank_row m.best) (omega arith) in
        record { place = k; below = lt; is = λ d. ap (row_of Fs) (at d) ∙ is; graded = λ d. ap (λ r. r.grade) (at d) }

    path_way : {s : TableState} {w ks : List ℕ} {v : G} → Exists Fs s → RowPath m ls rows n s w ks v → Ways (state_of Fs s) w v
    path_way exists (path_end ending) = way_none.1 (ending_stop exists ending, refl)
    path_way {s} exists (path_on {x = x} {k = k} {rest = rest} lt from by path) =
        let t = state_of Fs (row_at m rows k).to in
        way_more.1 (record {
          mid = t;
          first = (row_at m rows k).grade;
          rest = rest;
          has = held k (row (state_of Fs s) (wagon x) t) lt (ap (λ q. row (state_of Fs q) (wagon (row_at m rows k).wagon) t) from ∙ ap (λ y. row (state_of Fs s) (wagon y) t) by);
          way = path_way (sound.to k lt) path;
          joins = refl;
        })

    pub path_of : {s : TableState} {w ks : List ℕ} {v : G} → Exists Fs s → RowPath m ls rows n s w ks v → PathOf m ls Fs rows n (state_of Fs s) w ks v
    path_of exists (path_end ending) = of_end (ending_stop exists ending)
    path_of {s} exists (path_on {x = x} {k = k} lt from by path) =
        let t = state_of Fs (row_at m rows k).to in
        of_on lt (ap (λ q. row (state_of Fs q) (wagon (row_at m rows k).wagon) t) from ∙ ap (λ y. row (state_of Fs s) (wagon y) t) by) (path_of (sound.to k lt) path)

    way_path : (w : List ℕ) (s : TableState) (v : G) → Exists Fs s → Ways (state_of Fs s) w v → RowsSay m ls rows n s w v
    way_path [] s v exists way = let (stop, best) = way_none.0 way in ([], subst (RowPath m ls rows n s [] []) (sym best) (path_end (stop_ending s stop)))
    way_path (x ∷ w) s v exists way =
        let f = way_more.0 way in
        let k = f.has.place in
        let r = row_at m rows k in
        let is : row_of Fs r ≡ row (state_of Fs s) (wagon x) f.mid = f.has.is (blank_row m.best) in
        let from : state_of Fs r.from ≡ state_of Fs s = ap (λ i. i.from) is in
        let to : state_of Fs r.to ≡ f.mid = ap (λ i. i.to) is in
        let wagons : wagon r.wagon ≡ wagon x = ap (λ i. i.by) is in
        let by : r.wagon ≡ x = cc in
        let lt = f.has.below in
        let (ks, path) = way_path w r.to f.rest (sound.to k lt) (subst (λ t. Ways t w f.rest) (sym to) f.way) in
        (k ∷ ks, subst (RowPath m ls rows n s (x ∷ w) (k ∷ ks)) (ap (λ g. m.join g f.rest) (f.has.graded (blank_row m.best)) ∙ f.joins) (path_on lt (same_state r.from s (sound.from k lt) exists from) by path))

    pub best_way : (w : List ℕ) (s : TableState) (v : G) → Exists Fs s → Best m (RowsSay m ls rows n s w) v → Best m (Ways (state_of Fs s) w) v
    best_way w s v exists best = record { attained = path_way exists best.attained.1; no_better = λ u way. best.no_better u (way_path w s u exists way) }

    pub no_way : (w : List ℕ) (s : TableState) → Exists Fs s → ((v : G) → RowsSay m ls rows n s w v → ⊥) → (v : G) → Ways (state_of Fs s) w v → ⊥
    no_way w s exists none v way = none v (way_path w s v exists way)
