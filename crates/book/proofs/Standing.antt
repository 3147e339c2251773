-- Which lines stand in a book, read off its tables: a line stands just where its row, its number or its mark is. Assumes nothing.
use Rattle.std.proofs.Common.{◌≡◌, ℕ, zero, suc, ◌+◌, ◌<◌, ◌≤◌, Bool, true, false, cond, ◌⊎◌, ◌↔◌, List, [], ◌∷◌, ◌++◌, map, length, get_or, take, Some, None, Option, sym, refl, ap, ◌∙◌, subst, inl, inr, ⊎_elim, arith}
use Rattle.std.specs.List.{ContainsAt as Has, flat_map}
use Rattle.std.proofs.ByRecursion.{all-has, has_append_left, has_append_right}
use Rattle.grade.specs.declared.upto.UpTo.{UpTo}
use Rattle.grade.specs.ValuesLemmas.{same_upto}
use Rattle.text.specs.declared.line.Line.{Line}
use Rattle.text.specs.declared.line.Line.TheVariants as line
use Rattle.text.specs.declared.line.OrderLine.{OrderLine}
use Rattle.text.specs.declared.line.NoticeLine.{NoticeLine}
use Rattle.text.specs.declared.line.WatchLine.{WatchLine}
use Rattle.text.specs.declared.line.LinkLine.{LinkLine}
use Rattle.text.specs.Numerals.{kept}
use Rattle.text.specs.Meaning.{Within}
use Rattle.text.specs.declared.line.Rule.{Rule}
use Rattle.text.specs.declared.line.Rule.TheVariants.{Order, Notice}
use Rattle.book.specs.declared.tables.Book.{Book}
use Rattle.book.specs.Ranks.{rules, kind, start, stop, rank}
use Rattle.book.specs.Tables.{Along, AtNumber, rule_line, by_number}
use Rattle.book.specs.Lines.{lines_of, lines}
use Rattle.book.specs.Words.{number}
use Rattle.book.proofs.Ascent.{head_same, no_cons, has_here, has_there, has_none, has_cases}
use Rattle.book.proofs.ByKind.{before, behind, rank_low, rank_high, framed, front_low, back_high}
use Rattle.book.proofs.Books.{kept_is, at_numbers, of_kind, within_lines}

-- ---- members

pub has_either : {X : Type 0} (xs ys : List X) (x : X) → Has (xs ++ ys) x → Has xs x ⊎ Has ys x
has_either [] ys x h = inr h
has_either (y ∷ xs) ys x h =
    ⊎_elim
    (λ e. inl (subst (Has (y ∷ xs)) e (has_here y xs)))
    (λ at. ⊎_elim (λ front. inl (has_there y xs x front)) inr (has_either xs ys x at))
    (has_cases y (xs ++ ys) x h)

map_has : {X Y : Type 0} (f : X → Y) (xs : List X) (x : X) → Has xs x → Has (map f xs) (f x)
map_has f [] x h = absurd (has_none x h)
map_has f (y ∷ xs) x h =
    ⊎_elim (λ e. subst (λ z. Has (map f (y ∷ xs)) (f z)) e (has_here (f y) (map f xs))) (λ at. has_there (f y) (map f xs) (f x) (map_has f xs x at)) (has_cases y xs x h)

has_map : {X Y : Type 0} (f : X → Y) → ((x y : X) → f x ≡ f y → x ≡ y) → (xs : List X) (x : X) → Has (map f xs) (f x) → Has xs x
has_map f one [] x h = absurd (has_none (f x) h)
has_map f one (y ∷ xs) x h =
    ⊎_elim (λ e. subst (Has (y ∷ xs)) (one y x e) (has_here y xs)) (λ at. has_there y xs x (has_map f one xs x at)) (has_cases (f y) (map f xs) (f x) h)

-- a line of a table in which places go by number stands at one of its places
module _ {X : Type 0} (at : ℕ → X → List Line) where
  by_number_has : (n : ℕ) (xs : List X) (i j : ℕ) (d : X) (l : Line) → n + i ≡ j → i < length xs → Has (at j (get_or xs i d)) l → Has (by_number at n xs) l
  by_number_has n [] i j d l e lt h = absurd (omega arith)
  by_number_has n (x ∷ xs) zero j d l e lt h =
      let same : j ≡ n = omega arith in has_append_left (at n x) (by_number at (n + 1) xs) l (subst (λ m. Has (at m x) l) same h)
  by_number_has n (x ∷ xs) (suc i) j d l e lt h =
      has_append_right (at n x) (by_number at (n + 1) xs) l (by_number_has (n + 1) xs i j d l (omega arith) (omega arith) h)

  has_by_number : (n : ℕ) (xs : List X) (d : X) (l : Line) → Has (by_number at n xs) l → (i : ℕ) × (i < length xs) × Has (at (n + i) (get_or xs i d)) l
  has_by_number n [] d l h = absurd (has_none l h)
  has_by_number n (x ∷ xs) d l h =
      ⊎_elim
      (λ here. let same : n ≡ n + 0 = omega arith in (0, omega arith, subst (λ m. Has (at m x) l) same here))
      (λ more.
      let h = has_by_number (n + 1) xs d l more in
      let same : n + 1 + h.0 ≡ n + suc h.0 = omega arith in
      let lt = h.1 in
      (suc h.0, omega arith, subst (λ m. Has (at m (get_or xs h.0 d)) l) same h.2))
      (has_either (at n x) (by_number at (n + 1) xs) l h)

-- ---- a line stands just where it stands among its kind

pub kind_stands : (b : Book) (l : Line) → Has (lines_of b (kind l)) l → Has (lines b) l
unfolding lines
kind_stands b l h =
    let k = kind l in
    subst (λ ls. Has ls l) (sym (framed (lines_of b) k))
    (has_append_right (flat_map (lines_of b) (before k)) _ l (has_append_left (lines_of b k) (flat_map (lines_of b) (behind k)) l h))

pub stands_kind : (b : Book) (l : Line) → Has (lines b) l → Has (lines_of b (kind l)) l
unfolding lines
stands_kind b l h =
    let k = kind l in
    let w = all-has Within (lines b) l (within_lines b) h in
    let low = rank_low l in
    let high = rank_high l w in
    ⊎_elim
    (λ front. let lt = all-has (λ x. rank x < start k) (flat_map (lines_of b) (before k)) l (front_low (lines_of b) (of_kind b) k) front in absurd (omega arith))
    (⊎_elim
    (λ mid. mid)
    (λ back. let le = all-has (λ x. stop k ≤ rank x) (flat_map (lines_of b) (behind k)) l (back_high (lines_of b) (of_kind b) k) back in absurd (omega arith)))
    (⊎_elim inl (λ rest. inr (has_either (lines_of b k) (flat_map (lines_of b) (behind k)) l rest))
    (has_either (flat_map (lines_of b) (before k)) (lines_of b k ++ flat_map (lines_of b) (behind k)) l (subst (λ ls. Has ls l) (framed (lines_of b) k) h)))

-- ---- rows

pub open_stands : (b : Book) (F : ℕ) → Has (lines b) (line.Open F) ↔ Has (take b.opening b.opens) F
open_stands b F = (
  λ h. has_map line.Open (λ x y e. cc) (take b.opening b.opens) F (stands_kind b (line.Open F) h),
  λ h. kind_stands b (line.Open F) (map_has line.Open (take b.opening b.opens) F h),
)

pub watch_stands : (b : Book) (w : WatchLine) → Has (lines b) (line.Watch w) ↔ Has (take b.watching b.watches) w
watch_stands b w = (
  λ h. has_map line.Watch (λ x y e. cc) (take b.watching b.watches) w (stands_kind b (line.Watch w) h),
  λ h. kind_stands b (line.Watch w) (map_has line.Watch (take b.watching b.watches) w h),
)

pub link_stands : (b : Book) (k : LinkLine) → Has (lines b) (line.Link k) ↔ Has (take b.linking b.links) k
link_stands b k = (
  λ h. has_map line.Link (λ x y e. cc) (take b.linking b.links) k (stands_kind b (line.Link k) h),
  λ h. kind_stands b (line.Link k) (map_has line.Link (take b.linking b.links) k h),
)

-- ---- numbers and marks

-- the rule that a line makes
line_rule : Line → Option Rule
line_rule (line.Order o) = Some (Order o)
line_rule (line.Notice n) = Some (Notice n)
line_rule (line.Open F) = None
line_rule (line.Watch w) = None
line_rule (line.Link k) = None
line_rule (line.End t) = None
line_rule (line.Bare p) = None

along_getD : {X : Type 0} (P : ℕ → X → Type 0) (n : ℕ) (xs : List X) (i j : ℕ) (d : X) → n + i ≡ j → i < length xs → Along P n xs → P j (get_or xs i d)
along_getD P n [] i j d e lt h = absurd (omega arith)
along_getD P n (x ∷ xs) zero j d e lt h = let same : n ≡ j = omega arith in subst (λ m. P m x) same h.0
along_getD P n (x ∷ xs) (suc i) j d e lt h = along_getD P (n + 1) xs i j d (omega arith) (omega arith) h.1

pub only : {X : Type 0} (x y : X) → Has (x ∷ []) y → x ≡ y
only x y h = ⊎_elim (λ e. e) (λ at. absurd (has_none y at)) (has_cases x [] y h)

seated : (n : ℕ) (r : Option Rule) (l : Line) → AtNumber n r → Has (rule_line n r) l → (r ≡ line_rule l) × (rank l ≡ n)
unfolding line_rule
seated n None l is h = absurd (has_none l h)
seated n (Some (Order o)) l is h = let e = only (line.Order o) l h in (ap line_rule e, ap rank (sym e) ∙ is)
seated n (Some (Notice m)) l is h = let e = only (line.Notice m) l h in (ap line_rule e, ap rank (sym e) ∙ is)

module _ (b : Book) where
  rule_there : (l : Line) → Has (lines_of b rules) l → get_or b.rules (rank l) None ≡ line_rule l
  rule_there l h =
      let (i, lt, at) = has_by_number rule_line 0 b.rules None l h in
      let same : 0 + i ≡ i = omega arith in
      let at_i = subst (λ j. Has (rule_line j (get_or b.rules i None)) l) same at in
      let s = seated i (get_or b.rules i None) l (along_getD AtNumber 0 b.rules i i None same lt (at_numbers b)) at_i in
      subst (λ j. get_or b.rules j None ≡ line_rule l) (sym s.1) s.0

  there_rule : (l : Line) → rank l < 64 → Has (rule_line (rank l) (line_rule l)) l → get_or b.rules (rank l) None ≡ line_rule l → Has (lines_of b rules) l
  there_rule l lt here e =
      let long = b.numbered.0 in
      by_number_has rule_line 0 b.rules (rank l) (rank l) None l (omega arith) (omega arith) (subst (λ r. Has (rule_line (rank l) r) l) (sym e) here)

  pub order_stands : (o : OrderLine) → Has (lines b) (line.Order o) ↔ (get_or b.rules o.number.value None ≡ Some (Order o))
  unfolding line_rule
  order_stands o =
      let fits = o.number.fits in (
        λ h. rule_there (line.Order o) (stands_kind b (line.Order o) h),
        λ e. kind_stands b (line.Order o) (there_rule (line.Order o) (omega arith) (has_here (line.Order o) []) e),
      )

  pub notice_stands : (n : NoticeLine) → Has (lines b) (line.Notice n) ↔ (get_or b.rules n.number.value None ≡ Some (Notice n))
  unfolding line_rule
  notice_stands n =
      let fits = n.number.fits in (
        λ h. rule_there (line.Notice n) (stands_kind b (line.Notice n) h),
        λ e. kind_stands b (line.Notice n) (there_rule (line.Notice n) (omega arith) (has_here (line.Notice n) []) e),
      )

  placed : (k : ℕ) (r : Option Rule) → k < 64 → get_or b.rules k None ≡ r → AtNumber k r
  placed k r lt e = let long = b.numbered.0 in subst (AtNumber k) e (along_getD AtNumber 0 b.rules k k None (omega arith) (omega arith) (at_numbers b))

  -- what is found at a place stands, and has the place's number
  pub order_at : (k : ℕ) (o : OrderLine) → k < 64 → get_or b.rules k None ≡ Some (Order o) → Has (lines b) (line.Order o) × (o.number.value ≡ k)
  order_at k o lt e = let is = placed k (Some (Order o)) lt e in ((order_stands o).1 (subst (λ m. get_or b.rules m None ≡ Some (Order o)) (sym is) e), is)

  pub notice_at : (k : ℕ) (n : NoticeLine) → k < 64 → get_or b.rules k None ≡ Some (Notice n) → Has (lines b) (line.Notice n) × (n.number.value ≡ k)
  notice_at k n lt e = let is = placed k (Some (Notice n)) lt e in ((notice_stands n).1 (subst (λ m. get_or b.rules m None ≡ Some (Notice n)) (sym is) e), is)

  -- what stands under a number, and that it is the line's own
  numbered_rule : (l : Line) (n : ℕ) → number l ≡ Some n → Has (lines b) l → (get_or b.rules n None ≡ line_rule l) × (rule_line n (line_rule l) ≡ l ∷ [])
  unfolding line_rule
  numbered_rule (line.Order o) n e h = let same : o.number.value ≡ n = cc in (subst (λ m. get_or b.rules m None ≡ Some (Order o)) same ((order_stands o).0 h), refl)
  numbered_rule (line.Notice m) n e h = let same : m.number.value ≡ n = cc in (subst (λ k. get_or b.rules k None ≡ Some (Notice m)) same ((notice_stands m).0 h), refl)
  numbered_rule (line.Open F) n e h = let z : ◌≡◌ {A = ℕ} 0 1 = cc in absurd (omega arith)
  numbered_rule (line.Watch w) n e h = let z : ◌≡◌ {A = ℕ} 0 1 = cc in absurd (omega arith)
  numbered_rule (line.Link k) n e h = let z : ◌≡◌ {A = ℕ} 0 1 = cc in absurd (omega arith)
  numbered_rule (line.End t) n e h = let z : ◌≡◌ {A = ℕ} 0 1 = cc in absurd (omega arith)
  numbered_rule (line.Bare p) n e h = let z : ◌≡◌ {A = ℕ} 0 1 = cc in absurd (omega arith)

  -- under a number that is free no line stands
  pub free_number : (n : ℕ) → get_or b.rules n None ≡ None → (l : Line) → number l ≡ Some n → Has (lines b) l → ⊥
  free_number n free l is h = let a = numbered_rule l n is h in no_cons l [] (sym a.1 ∙ ap (rule_line n) (sym a.0 ∙ free))

  -- a number stands once
  pub numbers_once : (k l : Line) (n : ℕ) → Has (lines b) k → Has (lines b) l → number k ≡ Some n → number l ≡ Some n → k ≡ l
  numbers_once k l n at_k at_l is_k is_l =
      let a = numbered_rule k n is_k at_k in
      let c = numbered_rule l n is_l at_l in
      head_same k l [] [] (sym a.1 ∙ ap (rule_line n) (sym a.0 ∙ c.0) ∙ c.1)

-- marks at the places of a table, which go by number
module _ (max : ℕ) (f : UpTo max → Line) (one : (s t : UpTo max) → f s ≡ f t → s ≡ t) (xs : List Bool) (long : length xs ≡ max + 1) where
  abbrev mark : ℕ → Bool → List Line
  mark k set = cond set (f (kept max k) ∷ []) []

  marked_at : (i : ℕ) (t : Bool) (u : UpTo max) → i ≤ max → Has (mark i t) (f u) → (i ≡ u.value) × (t ≡ true)
  marked_at i true u le h = (sym (kept_is max i le) ∙ ap (λ v. v.value) (one (kept max i) u (only (f (kept max i)) (f u) h)), refl)
  marked_at i false u le h = absurd (has_none (f u) h)

  has_mark : (u : UpTo max) → Has (by_number mark 0 xs) (f u) → get_or xs u.value false ≡ true
  has_mark u h =
      let (i, lt, at) = has_by_number mark 0 xs false (f u) h in
      let same : 0 + i ≡ i = omega arith in
      let m = marked_at i (get_or xs i false) u (omega arith) (subst (λ j. Has (mark j (get_or xs i false)) (f u)) same at) in
      subst (λ j. get_or xs j false ≡ true) m.0 m.1

  mark_has : (u : UpTo max) → get_or xs u.value false ≡ true → Has (by_number mark 0 xs) (f u)
  mark_has u e =
      let fits = u.fits in
      by_number_has mark 0 xs u.value u.value false (f u) (omega arith) (omega arith)
      (subst (λ t. Has (mark u.value t) (f u)) (sym e) (subst (λ v. Has (f v ∷ []) (f u)) (sym (same_upto max (kept max u.value) u (kept_is max u.value fits))) (has_here (f u) [])))

pub end_stands : (b : Book) (t : UpTo 63) → Has (lines b) (line.End t) ↔ (get_or b.ends t.value false ≡ true)
end_stands b t = (
  λ h. has_mark 63 line.End (λ s u e. cc) b.ends b.marked.0 t (stands_kind b (line.End t) h),
  λ e. kind_stands b (line.End t) (mark_has 63 line.End (λ s u e. cc) b.ends b.marked.0 t e),
)

pub bare_stands : (b : Book) (p : UpTo 15) → Has (lines b) (line.Bare p) ↔ (get_or b.bares p.value false ≡ true)
bare_stands b p = (
  λ h. has_mark 15 line.Bare (λ s u e. cc) b.bares b.marked.1 p (stands_kind b (line.Bare p) h),
  λ e. kind_stands b (line.Bare p) (mark_has 15 line.Bare (λ s u e. cc) b.bares b.marked.1 p e),
)
