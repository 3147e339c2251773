-- The rows in use, cut off from a table.
use Rattle.std.proofs.Common.{◌≡◌, ℕ, ◌<◌, ◌≤◌, List, ◌∷◌, length, take, Some, None, Option, sym, ap, ◌∙◌, subst, arith}
use Rattle.std.specs.List.{All}
use Rattle.std.proofs.lemmas.List.{get_or-take, length-take-le, get_or_default}
use Rattle.grade.specs.declared.grade.Grade.{Ghosts}
use Rattle.text.specs.declared.line.Line.{Line}
use Rattle.rowtable.specs.declared.row.TableState.{TableState}
use Rattle.rowtable.specs.declared.row.TableRow.{TableRow}
use Rattle.rowtable.specs.Tables.{blank_row, row_at}
use Rattle.rowtable.specs.Paths.{RowPath, path_end, path_on}
use Rattle.paths.specs.Cells.{Leads, Sound}
use Rattle.paths.specs.Layers.{BestSaid}

-- all rows of a slice lead between states that exist
pub all_sound : {G : Type 0} (m : Ghosts G) {Fs : List ℕ} {rows : List (TableRow G)} → All (Leads Fs) rows → Sound m Fs rows (length rows)
all_sound m lead = record { enough = omega arith; from = λ k lt. (lead k (blank_row m.best) lt).0; to = λ k lt. (lead k (blank_row m.best) lt).1 }

module _ {G : Type 0} (m : Ghosts G) (rows : List (TableRow G)) (n : ℕ) (enough : n ≤ length rows) where
  abbrev cut : List (TableRow G)
  cut = take n rows

  many : length cut ≡ n
  many = length-take-le n rows enough

  same_row : (k : ℕ) → k < n → row_at m cut k ≡ row_at m rows k
  same_row k lt = get_or-take n rows k (blank_row m.best) lt

  pub cut_sound : {Fs : List ℕ} → All (Leads Fs) cut → Sound m Fs rows n
  cut_sound {Fs} lead =
      let long = many in
      let at : (k : ℕ) → k < n → Leads Fs (row_at m rows k) = λ k lt. subst (Leads Fs) (same_row k lt) (lead k (blank_row m.best) (omega arith)) in
      record { enough = enough; from = λ k lt. (at k lt).0; to = λ k lt. (at k lt).1 }

  pub sound_cut : {Fs : List ℕ} → Sound m Fs rows n → All (Leads Fs) cut
  sound_cut {Fs} sound k d lt =
      let long = many in
      let less : k < n = omega arith in
      subst (Leads Fs) (sym (get_or_default cut k d (blank_row m.best) lt ∙ same_row k less)) (sound.from k less, sound.to k less)

  module _ (ls : List Line) where
    pub path_of_cut : {s : TableState} {w ks : List ℕ} {v : G} → RowPath m ls cut (length cut) s w ks v → RowPath m ls rows n s w ks v
    path_of_cut (path_end ending) = path_end ending
    path_of_cut {s} (path_on {x = x} {w = w} {k = k} {ks = ks} {rest = rest} lt from by path) =
        let long = many in
        let less : k < n = omega arith in
        let e = same_row k less in
        subst (λ r. RowPath m ls rows n s (x ∷ w) (k ∷ ks) (m.join r.grade rest)) (sym e)
        (path_on less (ap (λ r. r.from) (sym e) ∙ from) (ap (λ r. r.wagon) (sym e) ∙ by) (subst (λ r. RowPath m ls rows n r.to w ks rest) e (path_of_cut path)))

    path_in_cut : {s : TableState} {w ks : List ℕ} {v : G} → RowPath m ls rows n s w ks v → RowPath m ls cut (length cut) s w ks v
    path_in_cut (path_end ending) = path_end ending
    path_in_cut {s} (path_on {x = x} {w = w} {k = k} {ks = ks} {rest = rest} lt from by path) =
        let long = many in
        let e = same_row k lt in
        subst (λ r. RowPath m ls cut (length cut) s (x ∷ w) (k ∷ ks) (m.join r.grade rest)) e
        (path_on (omega arith) (ap (λ r. r.from) e ∙ from) (ap (λ r. r.wagon) e ∙ by) (subst (λ r. RowPath m ls cut (length cut) r.to w ks rest) (sym e) (path_in_cut path)))

    -- what is best of what the rows in use say is best of what the first n say
    pub best_of_cut : (s : TableState) (w : List ℕ) (o : Option G) → BestSaid m ls cut (length cut) s w o → BestSaid m ls rows n s w o
    best_of_cut s w None none = λ v (ks, path). none v (ks, path_in_cut path)
    best_of_cut s w (Some v) best = record {
      attained = (best.attained.0, path_of_cut best.attained.1);
      no_better = λ u (ks, path). best.no_better u (ks, path_in_cut path);
    }
