-- A path laid out row by row.
use Rattle.std.proofs.Common.{◌≡◌, ℕ, ◌-◌, ◌<◌, T, List, [], ◌∷◌, ◌++◌, reverse, length, get_or, take, drop, Some, None, Option, MatchOption, sym, refl, ap, ◌∙◌, subst, arith}
use Rattle.std.proofs.lemmas.List.{reverse-append, drop_more}
use Rattle.std.proofs.lemmas.Grind.{common_steps}
use Rattle.std.specs.Prelude.{slice_get}
use Rattle.grade.specs.declared.grade.Grade.{Ghosts}
use Rattle.grade.specs.Lawful.{Lawful}
use Rattle.text.specs.declared.line.Line.{Line}
use Rattle.rowtable.specs.declared.row.TableState.{TableState}
use Rattle.rowtable.specs.declared.row.TableRow.{TableRow}
use Rattle.rowtable.specs.Tables.{Exists, row_at}
use Rattle.rowtable.specs.Paths.{RowPath, path_end, path_on}
use Rattle.paths.specs.declared.cell.Cell.{Cell}
use Rattle.paths.specs.declared.cell.Cell.TheVariants.{Unknown, Ends, By}
use Rattle.paths.specs.Cells.{Step, Known, known, width, index, cell_at, Chosen, Says, Sound}
use Rattle.paths.specs.Layers.{Onward, Layered}
use Rattle.paths.proofs.Layering.{cell_read, front_whole, front_layer}
use Rattle.paths.proofs.Onward.{First, first_row}

-- a row is there or not
never_none : {P : Type 0} {k : ℕ} → Some k ≡ None → P
never_none e = let never : ◌≡◌ {A = ℕ} 0 1 = cc in absurd (omega arith)

module _ {G : Type 0} (m : Ghosts G) (ls : List Line) (rows : List (TableRow G)) (n : ℕ) where
  -- the list has a path of the grade that the cell has, or is as it was
  abbrev pub Laid : Known G → TableState → List ℕ → List ℕ → List ℕ → Type 0
  Laid c s w old new = MatchOption c (new ≡ old) (λ t. RowPath m ls rows n s w (reverse new) t.grade)

  abbrev On : List ℕ → TableState → Option ℕ → G → Type 0
  On = Onward m ls rows n

  pub laid_end : (s : TableState) (c : Known G) → Says m (On [] s) c → Laid c s [] [] []
  laid_end s None says = refl
  laid_end s (Some t) says = let (ks, (is, path)) = says.offered in ended path
    where
      ended : {ks : List ℕ} {v : G} → RowPath m ls rows n s [] ks v → RowPath m ls rows n s [] [] v
      ended (path_end ending) = path_end ending

  -- the row that a cell names, if any
  abbrev pub Names : Known G → Option ℕ → Type 0
  Names c o = MatchOption c (o ≡ None) (λ t. o ≡ t.row)

  -- a cell that has no row names none
  pub names_none : (c : Cell G) → ((v : G) (k : ℕ) → c ≡ By v k → ⊥) → Names (known c) None
  names_none Unknown other = refl
  names_none (Ends v) other = refl
  names_none (By v k) other = absurd (other v k refl)

  -- .. and one that has a row names it
  pub names_row : (c : Cell G) {v : G} {k : ℕ} → c ≡ By v k → Names (known c) (Some k)
  names_row c {k = k} is = subst (λ d. Names (known d) (Some k)) (sym is) refl

  -- with a wagon left and no row there is no path
  laid_without : (s : TableState) (x : ℕ) (w : List ℕ) (c : Known G) → Names c None → Says m (On (x ∷ w) s) c → (old : List ℕ) → Laid c s (x ∷ w) old old
  laid_without s x w None row says old = refl
  laid_without s x w (Some t) row says old = let f = first_row m ls rows n says.offered in never_none (f.begins ∙ sym row)

  -- what the cell's row begins
  module _ (s : TableState) (x : ℕ) (w : List ℕ) (k : ℕ) where
    abbrev to : TableState
    to = (row_at m rows k).to

    first : (t : Step G) → Some k ≡ t.row → Chosen m (On (x ∷ w) s) t → First m ls rows n s x w (Some k) t.grade
    first t row chosen = subst (λ o. First m ls rows n s x w o t.grade) (sym row) (first_row m ls rows n chosen.offered)

    place : {v : G} (f : First m ls rows n s x w (Some k) v) → f.place ≡ k
    place f = let e = f.begins in cc

    row_below : (c : Known G) → Names c (Some k) → Says m (On (x ∷ w) s) c → k < n
    row_below None row says = never_none row
    row_below (Some t) row says = let f = first t row says in subst (λ j. j < n) (place f) f.below

    module _ (lawful : Lawful m) where
      -- going on by a path of the grade there is as good
      as_good : (t : Step G) → Chosen m (On (x ∷ w) s) t → (f : First m ls rows n s x w (Some k) t.grade) → f.place ≡ k → (c : Known G) → Says m (On w to) c → (old new : List ℕ) → Laid c to w old new
          → RowPath m ls rows n s (x ∷ w) (reverse (new ++ k ∷ [])) t.grade
      as_good t chosen f is None none old new laid = absurd (none (slice_get f.behind 0) f.rest (f.behind, (refl, subst (λ j. RowPath m ls rows n (row_at m rows j).to w f.behind f.rest) is f.path)))
      as_good t chosen f is (Some g) says old new laid =
          let grade = (row_at m rows k).grade in
          let below : k < n = subst (λ j. j < n) is f.below in
          let from : (row_at m rows k).from ≡ s = ap (λ j. (row_at m rows j).from) (sym is) ∙ f.from in
          let by : (row_at m rows k).wagon ≡ x = ap (λ j. (row_at m rows j).wagon) (sym is) ∙ f.by in
          let joins : m.join grade f.rest ≡ t.grade = ap (λ j. m.join (row_at m rows j).grade f.rest) (sym is) ∙ f.joins in
          let less : T (m.noworse g.grade f.rest) =
          says.no_better (slice_get f.behind 0) f.rest (f.behind, (refl, subst (λ j. RowPath m ls rows n (row_at m rows j).to w f.behind f.rest) is f.path)) in
          let path : RowPath m ls rows n s (x ∷ w) (k ∷ reverse new) (m.join grade g.grade) = path_on below from by laid in
          let best : T (m.noworse t.grade (m.join grade g.grade)) = chosen.no_better (Some k) (m.join grade g.grade) (k ∷ reverse new, (refl, path)) in
          let good : T (m.noworse (m.join grade g.grade) t.grade) = subst (λ z. T (m.noworse (m.join grade g.grade) z)) joins (lawful.monol g.grade f.rest grade less) in
          subst (λ ks. RowPath m ls rows n s (x ∷ w) ks t.grade) (sym (reverse-append new (k ∷ [])))
          (subst (RowPath m ls rows n s (x ∷ w) (k ∷ reverse new)) (lawful.antisymmetric (m.join grade g.grade) t.grade good best) path)

      laid_on : (c : Known G) → Names c (Some k) → Says m (On (x ∷ w) s) c → (d : Known G) → Says m (On w to) d → (old below new : List ℕ) → Laid d to w below new → Laid c s (x ∷ w) old (new ++ k ∷ [])
      laid_on None row says d there old below new laid = never_none row
      laid_on (Some t) row says d there old below new laid = let f = first t row says in as_good t says f (place f) d there below new laid

-- at a state with wagons left, over layers for them
module _ {G : Type 0} (m : Ghosts G) (ls : List Line) (rows : List (TableRow G)) (n : ℕ) (Fs lane rest : List ℕ) (some : 0 < length lane) (tail : rest ≡ drop 1 lane)
    (cells behind : List (Cell G)) (cut : behind ≡ drop (width Fs) cells) where
  abbrev top : ℕ
  top = get_or lane 0 0

  opened : lane ≡ top ∷ rest
  opened = drop_more lane 0 0 some ∙ ap (λ w. top ∷ w) (sym tail)

  module _ (layered : Layered m ls rows n Fs lane cells) (s : TableState) (exists : Exists Fs s) where
    abbrev here : Known G
    here = cell_at cells (index Fs s)

    both : Layered m ls rows n Fs (top ∷ rest) cells
    both = subst (λ w. Layered m ls rows n Fs w cells) opened layered

    pub lane_behind : Layered m ls rows n Fs rest behind
    lane_behind = subst (Layered m ls rows n Fs rest) (sym cut) both.1.1

    pub lane_without : Names m ls rows n here None → (old : List ℕ) → Laid m ls rows n here s lane old old
    lane_without row old = subst (λ w. Laid m ls rows n here s w old old) (sym opened) (laid_without m ls rows n s top rest here row (both.1.0 s exists) old)

    pub lane_below : (k : ℕ) → Names m ls rows n here (Some k) → k < n
    lane_below k row = row_below m ls rows n s top rest k here row (both.1.0 s exists)

    pub lane_on : Lawful m → Sound m Fs rows n → (k : ℕ) → Names m ls rows n here (Some k) → (old below new : List ℕ)
        → Laid m ls rows n (cell_at behind (index Fs (row_at m rows k).to)) (row_at m rows k).to rest below new → Laid m ls rows n here s lane old (new ++ k ∷ [])
    lane_on lawful sound k row old below new laid =
        let t = (row_at m rows k).to in
        subst (λ w. Laid m ls rows n here s w old (new ++ k ∷ [])) (sym opened)
        (laid_on m ls rows n s top rest k lawful here row (both.1.0 s exists) (cell_at behind (index Fs t)) (front_layer m ls rows n Fs rest behind lane_behind t (sound.to k (lane_below k row))) old below new laid)

-- a list but for its first
pub from_one : (w : List ℕ) → take (length w - 1) (drop 1 w) ≡ drop 1 w
from_one w = grind (arith, common_steps)

-- the row that a cell names, as the program reads it
pub names_read : {G : Type 0} (m : Ghosts G) (ls : List Line) (rows : List (TableRow G)) (n : ℕ) (Fs lane : List ℕ) (cells : List (Cell G)) → Layered m ls rows n Fs lane cells → (s : TableState) (i : ℕ) (c : Cell G) (o : Option ℕ)
    → i < width Fs → i ≡ index Fs s → c ≡ get_or cells i c → Names m ls rows n (known c) o → Names m ls rows n (cell_at cells (index Fs s)) o
names_read m ls rows n Fs lane cells layered s i c o low is read row =
    let whole = front_whole m ls rows n Fs lane cells layered in
    subst (λ d. Names m ls rows n d o) (cell_read cells i (index Fs s) c (omega arith) read is) row
