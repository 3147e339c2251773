-- Paths row by row, and from the cells behind to the paths by one wagon more.
use Rattle.std.proofs.Common.{◌≡◌, ℕ, ◌<◌, T, List, [], ◌∷◌, Some, None, Option, refl, sym, subst}
use Rattle.std.proofs.lemmas.Option.{MatchOption-at_some}
use Rattle.std.specs.Prelude.{slice_get}
use Rattle.grade.specs.declared.grade.Grade.{Ghosts}
use Rattle.grade.specs.Lawful.{Lawful}
use Rattle.text.specs.declared.line.Line.{Line}
use Rattle.rowtable.specs.declared.row.TableState.{TableState}
use Rattle.rowtable.specs.declared.row.TableRow.{TableRow}
use Rattle.rowtable.specs.Tables.{row_at}
use Rattle.rowtable.specs.Paths.{RowPath, path_end, path_on}
use Rattle.paths.specs.declared.cell.Cell.{Cell}
use Rattle.paths.specs.Cells.{Known, index, cell_at, grade_of, Says, Layer, Offers, Sound}
use Rattle.paths.specs.Layers.{Stopping, Onward, BestSaid}

module _ {G : Type 0} (m : Ghosts G) (ls : List Line) (rows : List (TableRow G)) (n : ℕ) where
  abbrev On : List ℕ → TableState → Option ℕ → G → Type 0
  On = Onward m ls rows n

  -- a path's first row, and the path from where it leads
  pub record First (s : TableState) (x : ℕ) (w : List ℕ) (o : Option ℕ) (v : G) : Type 0 where
    pub place : ℕ
    pub behind : List ℕ
    pub begins : Some place ≡ o
    pub below : place < n
    pub from : (row_at m rows place).from ≡ s
    pub by : (row_at m rows place).wagon ≡ x
    pub rest : G
    pub path : RowPath m ls rows n (row_at m rows place).to w behind rest
    pub joins : m.join (row_at m rows place).grade rest ≡ v

  first_of : {s : TableState} {x : ℕ} {w ks : List ℕ} {v : G} (o : Option ℕ) → slice_get ks 0 ≡ o → RowPath m ls rows n s (x ∷ w) ks v → First s x w o v
  first_of o is (path_on {k = k} {ks = ks} {rest = rest} below from by path) =
      record { place = k; behind = ks; begins = is; below = below; from = from; by = by; rest = rest; path = path; joins = refl }

  pub first_row : {s : TableState} {x : ℕ} {w : List ℕ} {o : Option ℕ} {v : G} → On (x ∷ w) s o v → First s x w o v
  first_row {o = o} (ks, (is, path)) = first_of o is path

  stopping_of : {s : TableState} {ks : List ℕ} {v : G} (o : Option ℕ) → slice_get ks 0 ≡ o → RowPath m ls rows n s [] ks v → Stopping m ls s o v
  stopping_of o is (path_end ending) = (sym is, (ending, refl))

  -- the layer with no wagon left is that of where a path may end
  pub stopping_layer : (Fs : List ℕ) (cells : List (Cell G)) → Layer m Fs cells (Stopping m ls) → Layer m Fs cells (On [])
  stopping_layer Fs cells layer s exists = says (cell_at cells (index Fs s)) (layer s exists)
    where
      to : (o : Option ℕ) (v : G) → Stopping m ls s o v → On [] s o v
      to o v (is, (ending, best)) = ([], (sym is, subst (RowPath m ls rows n s [] []) (sym best) (path_end ending)))

      says : (c : Known G) → Says m (Stopping m ls s) c → Says m (On [] s) c
      says None none = λ o v (ks, (is, path)). none o v (stopping_of o is path)
      says (Some t) c = record { offered = to t.row t.grade c.offered; no_better = λ o v (ks, (is, path)). c.no_better o v (stopping_of o is path) }

  -- a cell that says what goes on has the best that the rows say
  pub says_best : (w : List ℕ) (s : TableState) (c : Known G) → Says m (On w s) c → BestSaid m ls rows n s w (grade_of c)
  says_best w s None none = λ v (ks, path). none (slice_get ks 0) v (ks, (refl, path))
  says_best w s (Some t) c = record {
    attained = (c.offered.0, c.offered.1.1);
    no_better = λ v (ks, path). c.no_better (slice_get ks 0) v (ks, (refl, path));
  }

  module _ (lawful : Lawful m) {Fs : List ℕ} (sound : Sound m Fs rows n) (x : ℕ) (w : List ℕ) (behind layer : List (Cell G)) (there : Layer m Fs behind (On w)) where
    -- the cell behind the other end of row k
    abbrev rest_cell : ℕ → Known G
    rest_cell k = cell_at behind (index Fs (row_at m rows k).to)

    abbrev By : TableState → Option ℕ → G → Type 0
    By = Offers m Fs rows n x behind

    told : (k : ℕ) → k < n → Says m (On w (row_at m rows k).to) (rest_cell k)
    told k lt = there (row_at m rows k).to (sound.to k lt)

    -- what a row offers is a path by that row ..
    offer_path : (s : TableState) (o : Option ℕ) (v : G) → By s o v → On (x ∷ w) s o v
    offer_path s None v h = absurd h
    offer_path s (Some k) v h =
        let (ks, (is, path)) = (MatchOption-at_some _ _ h.rest h.has (told k h.below)).offered in
        (k ∷ ks, (refl, subst (RowPath m ls rows n s (x ∷ w) (k ∷ ks)) h.joins (path_on h.below h.from h.by path)))

    -- .. and for every path by a row, the row offers one that is no worse
    best_offer : (s : TableState) (o : Option ℕ) (v : G) (f : First s x w o v) (c : Known G) → rest_cell f.place ≡ c → Says m (On w (row_at m rows f.place).to) c → (u : G) × By s o u × T (m.noworse u v)
    best_offer s o v f None has none = absurd (none (slice_get f.behind 0) f.rest (f.behind, (refl, f.path)))
    best_offer s o v f (Some g) has best =
        let grade = (row_at m rows f.place).grade in (
          m.join grade g.grade,
          subst (λ p. By s p (m.join grade g.grade)) f.begins (record { below = f.below; from = f.from; by = f.by; rest = g; has = has; joins = refl }),
          subst (λ z. T (m.noworse (m.join grade g.grade) z)) f.joins (lawful.monol g.grade f.rest grade (best.no_better (slice_get f.behind 0) f.rest (f.behind, (refl, f.path)))),
        )

    path_offer : (s : TableState) (o : Option ℕ) (v : G) → On (x ∷ w) s o v → (u : G) × By s o u × T (m.noworse u v)
    path_offer s o v by = let f = first_row by in best_offer s o v f (rest_cell f.place) refl (told f.place f.below)

    onward_says : (s : TableState) (c : Known G) → Says m (By s) c → Says m (On (x ∷ w) s) c
    onward_says s None none = λ o v by. let (u, h, less) = path_offer s o v by in none o u h
    onward_says s (Some g) c = record {
      offered = offer_path s g.row g.grade c.offered;
      no_better = λ o v by. let (u, h, less) = path_offer s o v by in lawful.transitive g.grade u v (c.no_better o u h) less;
    }

    -- the layer from the rows' offers is the layer of the paths by one wagon more
    pub filled_onward : Layer m Fs layer By → Layer m Fs layer (On (x ∷ w))
    filled_onward told s exists = onward_says s (cell_at layer (index Fs s)) (told s exists)
