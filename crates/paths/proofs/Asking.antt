-- Phases in use, and what is asked of them.
use Rattle.std.proofs.Common.{◌≡◌, ℕ, ◌+◌, ◌<◌, ◌≤◌, List, length, take, reverse, get_or, Ok, Err, Some, None, Option, MatchOption, sym, refl, ap, ◌∙◌, subst, ⊎_elim, arith}
use Rattle.std.specs.Option.{ok_or}
use Rattle.std.proofs.lemmas.List.{length-take-le, get_or-take}
use Rattle.std.proofs.lemmas.Bool.{cases_lt}
use Rattle.grade.specs.declared.grade.Grade.{Ghosts}
use Rattle.deduction.specs.Counting.{Different}
use Rattle.text.specs.declared.line.Line.{Line}
use Rattle.model.specs.Phases.{Opened}
use Rattle.model.specs.Moves.{Position}
use Rattle.model.specs.Grades.{Best}
use Rattle.rows.specs.Rows.{head}
use Rattle.phases.specs.declared.table.Phases.{Phases}
use Rattle.phases.specs.Table.{phase_at, used, FirstAt, OpenedBy}
use Rattle.rowtable.specs.declared.row.TableState.{TableState}
use Rattle.rowtable.specs.declared.row.TableState.TheVariants.{Head}
use Rattle.rowtable.specs.declared.row.TableRow.{TableRow}
use Rattle.rowtable.specs.Tables.{state_of}
use Rattle.rowtable.specs.Paths.{RowPath, RowsSay}
use Rattle.rowtable.specs.Saturated.{SaturatedTable}
use Rattle.paths.specs.declared.refusal.PathRefusal.{PathRefusal}
use Rattle.paths.specs.declared.refusal.PathRefusal.TheVariants.{NoWay}
use Rattle.paths.specs.Answers.{Asked}
use Rattle.paths.specs.Outcomes.{Starts, RowsSayOf, BestRowsTold, RowsLaidTold}
use Rattle.paths.specs.Cells.{Known, grade_of, Sound}
use Rattle.paths.specs.Layers.{BestSaid}
use Rattle.paths.proofs.Taken.{best_of_cut, path_of_cut}

-- rows that are saturated lead between states that exist
pub saturated_sound : {G : Type 0} (m : Ghosts G) (ls : List Line) (Fs : List ℕ) (rows : List (TableRow G)) (n : ℕ) → SaturatedTable m ls Fs rows n → Sound m Fs rows n
saturated_sound m ls Fs rows n table = record { enough = table.enough; from = λ k lt. (table.exist k lt).0; to = λ k lt. (table.exist k lt).1 }

module _ (p : Phases) where
  pub used_length : length (used p) ≡ p.count
  used_length = let long = p.places.0 in let few = p.places.1 in length-take-le p.count p.table (omega arith)

  used_at : (k : ℕ) → k < p.count → get_or (used p) k 0 ≡ phase_at p k
  used_at k lt = get_or-take p.count p.table k 0 lt

  pub opened_opens : (ls : List Line) → OpenedBy ls p → Different (Opened ls) (λ k. get_or (used p) k 0) (length (used p))
  opened_opens ls opened =
      let e = used_length in
      record {
        apart = λ k l lt less same. opened.filled.different.apart k l (omega arith) (omega arith) (sym (used_at k (omega arith)) ∙ same ∙ used_at l (omega arith));
        each = λ k lt. subst (Opened ls) (sym (used_at k (omega arith))) (opened.filled.different.each k (omega arith));
      }

  -- a phase stands first at one place
  first_once : (F i j : ℕ) → FirstAt p F i → FirstAt p F j → i ≡ j
  first_once F i j here there =
      ⊎_elim (λ less. absurd (there.before i less here.here)) (λ le. ⊎_elim (λ less. absurd (here.before j less there.here)) (λ more. omega arith) (cases_lt j i)) (cases_lt i j)

  module _ (x : Position) (s : TableState) (starts : Starts p x s) where
    starts_once : (t : TableState) → Starts p x t → t ≡ s
    starts_once t (j, (is, there)) = is ∙ ap (Head x.mode) (first_once x.phase j starts.0 there starts.1.1) ∙ sym starts.1.0

    pub start_head : state_of (used p) s ≡ head x.mode x.phase
    start_head = ap (state_of (used p)) starts.1.0 ∙ ap (head x.mode) (used_at starts.0 starts.1.1.within ∙ starts.1.1.here)

    module _ {G : Type 0} (m : Ghosts G) (ls : List Line) (rows : List (TableRow G)) (n : ℕ) where
      -- what the rows say at the start they say of the position
      pub best_of : (v : G) → Best m (RowsSay m ls rows n s x.lane) v → Best m (RowsSayOf m ls p rows n x) v
      best_of v best = record {
        attained = (s, (starts, best.attained));
        no_better = λ u (t, (other, say)). best.no_better u (subst (λ q. RowsSay m ls rows n q x.lane u) (starts_once t other) say);
      }

      pub none_of : ((v : G) → RowsSay m ls rows n s x.lane v → ⊥) → (v : G) → RowsSayOf m ls p rows n x v → ⊥
      none_of none v (t, (other, say)) = none v (subst (λ q. RowsSay m ls rows n q x.lane v) (starts_once t other) say)

-- What is told of the start, over the rows in use, is told of the position, over the table's first rows.
module _ {G : Type 0} (m : Ghosts G) (ls : List Line) (p : Phases) (rows : List (TableRow G)) (n : ℕ) (x : Position) (places : ℕ) (asked : Asked p x places) (sound : Sound m (used p) rows n)
    (s : TableState) (starts : Starts p x s) where
  best_in_use : {ks : List Line} {in_use : List (TableRow G)} → ks ≡ ls → in_use ≡ take n rows → (o : Option G) → BestSaid m ks in_use (length in_use) s x.lane o → BestSaid m ls rows n s x.lane o
  best_in_use {ks} same is o said =
      best_of_cut m rows n sound.enough ls s x.lane o (subst (λ k. BestSaid m k (take n rows) (length (take n rows)) s x.lane o) same (subst (λ r. BestSaid m ks r (length r) s x.lane o) is said))

  by_grade : (o : Option G) → BestSaid m ls rows n s x.lane o → BestRowsTold m ls p rows n x places (ok_or o NoWay)
  by_grade None none = (asked, (sound, none_of p x s starts m ls rows n none))
  by_grade (Some v) best = (asked, (sound, best_of p x s starts m ls rows n v best))

  pub rows_told : {ks : List Line} {in_use : List (TableRow G)} → ks ≡ ls → in_use ≡ take n rows → (o : Option G) → BestSaid m ks in_use (length in_use) s x.lane o → BestRowsTold m ls p rows n x places (ok_or o NoWay)
  rows_told same is o said = by_grade o (best_in_use same is o said)

  laid_by_grade : (list : List ℕ) → length x.lane + n ≤ length list → (o : Option G) → BestSaid m ls rows n s x.lane o
      → ((v : G) → o ≡ Some v → RowPath m ls rows n s x.lane (reverse (take (length x.lane) list)) v) → RowsLaidTold m ls p rows n x places list (ok_or o NoWay)
  laid_by_grade list room None none path = (room, (asked, (sound, none_of p x s starts m ls rows n none)))
  laid_by_grade list room (Some v) best path = (asked, (room, (sound, record { start = s; starts = starts; path = path v refl; best = best_of p x s starts m ls rows n v best })))

  pub rows_laid : {ks : List Line} {in_use : List (TableRow G)} → ks ≡ ls → in_use ≡ take n rows → (list : List ℕ) → length x.lane + n ≤ length list → (o : Option G) → BestSaid m ks in_use (length in_use) s x.lane o
      → ((v : G) → o ≡ Some v → RowPath m ks in_use (length in_use) s x.lane (reverse (take (length x.lane) list)) v) → RowsLaidTold m ls p rows n x places list (ok_or o NoWay)
  rows_laid {ks} {in_use} same is list room o said path =
      let ws = reverse (take (length x.lane) list) in
      laid_by_grade list room o (best_in_use same is o said)
      (λ v e. path_of_cut m rows n sound.enough ls (subst (λ k. RowPath m k (take n rows) (length (take n rows)) s x.lane ws v) same (subst (λ r. RowPath m ks r (length r) s x.lane ws v) is (path v e))))

-- what holds of the cell's grade
pub of_grade : {G : Type 0} (A : Type 0) (Q : G → Type 0) (c : Known G) → MatchOption c A (λ t. Q t.grade) → (o : Option G) → o ≡ grade_of c → (v : G) → o ≡ Some v → Q v
of_grade A Q None held o is v e = let some : None ≡ Some v = sym is ∙ e in let never : ◌≡◌ {A = ℕ} 0 1 = cc in absurd (omega arith)
of_grade A Q (Some t) held o is v e = let same : Some t.grade ≡ Some v = sym is ∙ e in let grade : t.grade ≡ v = cc in subst Q grade held

-- no grade is refused
pub refused : {G P : Type 0} {o : Option G} {e : PathRefusal} {v : G} → Err e ≡ ok_or o NoWay → o ≡ Some v → P
refused {e = e} {v = v} is some = let both : Err e ≡ Ok v = is ∙ ap (λ p. ok_or p NoWay) some in let never : ◌≡◌ {A = ℕ} 0 1 = cc in absurd (omega arith)
