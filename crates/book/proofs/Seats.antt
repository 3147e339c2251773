-- Tables in which places go by number: at most one line stands at a place. Assumes nothing.
use Rattle.std.proofs.Common.{◌≡◌, ℕ, zero, suc, ◌+◌, ◌<◌, ◌≤◌, false, ◌||◌, ◌⊎◌, List, [], ◌∷◌, ◌++◌, length, get_or, set, sym, refl, ap, ◌∙◌, subst, ⊎_elim, arith}
use mathlib.Core.Logic.{∥∥₁_elim}
use Rattle.std.specs.List.{AllByRecursion}
use Rattle.std.proofs.Math.Bool.{or-false}
use Rattle.std.proofs.lemmas.Bool.{eq-eqb}
use Rattle.std.proofs.ByRecursion.{All-weaker, All-append}
use Rattle.text.specs.declared.line.Line.{Line}
use Rattle.book.specs.Order.{Ascending, among, put}
use Rattle.book.specs.Ranks.{Kind, start, rank}
use Rattle.book.specs.Tables.{Along, filled, by_number}
use Rattle.book.proofs.Ascent.{ascending_append, put_low, put_front, among_append, among_none, parted}
use Rattle.book.proofs.ByKind.{Of}

-- at the place with number n of this kind: no line, or one with this number
abbrev pub Seat : Kind → ℕ → List Line → Type 0
Seat k n ls = (ls ≡ []) ⊎ ((l : Line) × ((ls ≡ l ∷ []) × (Of k l × (rank l ≡ start k + n))))

along_prop : {X : Type 0} (P : ℕ → X → Type 0) → ((n : ℕ) (x : X) → IsProp (P n x)) → (n : ℕ) (xs : List X) → IsProp (Along P n xs)
along_prop P one n [] p q = refl
along_prop P one n (x ∷ xs) p q = λ i. (one n x p.0 q.0 i, along_prop P one (n + 1) xs p.1 q.1 i)

-- out of a ghost field
pub along_told : {X : Type 0} (P : ℕ → X → Type 0) → ((n : ℕ) (x : X) → IsProp (P n x)) → (n : ℕ) (xs : List X) → ∥ Along P n xs ∥₁ → Along P n xs
along_told P one n xs h = ∥∥₁_elim h (along_prop P one n xs) (λ p. p)

pub along_weaker : {X : Type 0} (P Q : ℕ → X → Type 0) → ((n : ℕ) (x : X) → P n x → Q n x) → (n : ℕ) (xs : List X) → Along P n xs → Along Q n xs
along_weaker P Q f n [] h = tt
along_weaker P Q f n (x ∷ xs) h = (f n x h.0, along_weaker P Q f (n + 1) xs h.1)

pub along_below : {X : Type 0} (m n : ℕ) (xs : List X) → n + length xs ≤ m → Along (λ i _. i < m) n xs
along_below m n [] h = tt
along_below m n (x ∷ xs) h = (omega arith, along_below m (n + 1) xs (omega arith))

pub along_set : {X : Type 0} (P : ℕ → X → Type 0) (n : ℕ) (xs : List X) (i j : ℕ) (y : X) → n + i ≡ j → P j y → Along P n xs → Along P n (set xs i y)
along_set P n [] i j y e p h = tt
along_set P n (x ∷ xs) zero j y e p h = let same : j ≡ n = omega arith in (subst (λ m. P m y) same p, h.1)
along_set P n (x ∷ xs) (suc i) j y e p h = (h.0, along_set P (n + 1) xs i j y (omega arith) p h.1)

seat_all : (k : Kind) (n : ℕ) (P : Line → Type 0) (ls : List Line) → ((l : Line) → Of k l → rank l ≡ start k + n → P l) → Seat k n ls → AllByRecursion P ls
seat_all k n P ls f = ⊎_elim (λ e. subst (AllByRecursion P) (sym e) tt) (λ h. subst (AllByRecursion P) (sym h.1.0) (f h.0 h.1.1.0 h.1.1.1, tt))

seat_up : (k : Kind) (n : ℕ) (ls : List Line) → Seat k n ls → Ascending rank ls
seat_up k n ls = ⊎_elim (λ e. subst (Ascending rank) (sym e) tt) (λ h. subst (Ascending rank) (sym h.1.0) (tt, tt))

seat_filled : (k : Kind) (n : ℕ) (ls : List Line) → Seat k n ls → among rank (start k + n) ls ≡ filled ls
seat_filled k n ls =
    ⊎_elim (λ e. ap (among rank (start k + n)) e ∙ ap filled (sym e))
    (λ h. ap (among rank (start k + n)) h.1.0 ∙ (λ i. eq-eqb (rank h.0) (start k + n) h.1.1.1 i || false) ∙ ap filled (sym h.1.0))

module _ {X : Type 0} (at : ℕ → X → List Line) (k : Kind) where
  abbrev pub Seated : ℕ → List X → Type 0
  Seated n xs = Along (λ m x. Seat k m (at m x)) n xs

  pub seats_of : (n : ℕ) (xs : List X) → Seated n xs → AllByRecursion (Of k) (by_number at n xs)
  seats_of n [] h = tt
  seats_of n (x ∷ xs) h = All-append (Of k) (at n x) (by_number at (n + 1) xs) (seat_all k n (Of k) (at n x) (λ l o e. o) h.0) (seats_of (n + 1) xs h.1)

  pub seats_low : (n : ℕ) (xs : List X) → Seated n xs → AllByRecursion (λ l. start k + n ≤ rank l) (by_number at n xs)
  seats_low n [] h = tt
  seats_low n (x ∷ xs) h =
      All-append (λ l. start k + n ≤ rank l) (at n x) (by_number at (n + 1) xs) (seat_all k n (λ l. start k + n ≤ rank l) (at n x) (λ l o e. omega arith) h.0)
      (All-weaker (λ l. start k + (n + 1) ≤ rank l) (λ l. start k + n ≤ rank l) (λ l le. omega arith) (by_number at (n + 1) xs) (seats_low (n + 1) xs h.1))

  seat_below : (n m : ℕ) (x : X) → n < m → Seat k n (at n x) → AllByRecursion (λ l. rank l < start k + m) (at n x)
  seat_below n m x lt h = seat_all k n (λ l. rank l < start k + m) (at n x) (λ l o e. omega arith) h

  pub seats_up : (n : ℕ) (xs : List X) → Seated n xs → Ascending rank (by_number at n xs)
  seats_up n [] h = tt
  seats_up n (x ∷ xs) h =
      ascending_append rank (start k + (n + 1)) (at n x) (by_number at (n + 1) xs) (seat_up k n (at n x) h.0) (seats_up (n + 1) xs h.1)
      (seat_below n (n + 1) x (omega arith) h.0) (seats_low (n + 1) xs h.1)

  -- a line put at the place with number j, which is free
  pub seats_put : (n : ℕ) (xs : List X) (i j : ℕ) (d y : X) (l : Line) → n + i ≡ j → i < length xs → Seated n xs → at j (get_or xs i d) ≡ [] → at j y ≡ l ∷ [] → rank l ≡ start k + j
      → by_number at n (set xs i y) ≡ put rank l (by_number at n xs)
  seats_put n [] i j d y l e lt h free new is = absurd (omega arith)
  seats_put n (x ∷ xs) zero j d y l e lt h free new is =
      let same : j ≡ n = omega arith in
      let rest = by_number at (n + 1) xs in
      ap (λ ls. ls ++ rest) (subst (λ m. at m y ≡ l ∷ []) same new)
      ∙ sym (ap (λ ls. put rank l (ls ++ rest)) (subst (λ m. at m x ≡ []) same free)
      ∙ put_front rank l rest (All-weaker (λ z. start k + (n + 1) ≤ rank z) (λ z. rank l < rank z) (λ z le. omega arith) rest (seats_low (n + 1) xs h.1)))
  seats_put n (x ∷ xs) (suc i) j d y l e lt h free new is =
      ap (λ ls. at n x ++ ls) (seats_put (n + 1) xs i j d y l (omega arith) (omega arith) h.1 free new is)
      ∙ sym (put_low rank l (at n x) (by_number at (n + 1) xs) (All-weaker (λ z. rank z < start k + j) (λ z. rank z < rank l) (λ z lt. omega arith) (at n x) (seat_below n j x (omega arith) h.0)))

  -- whether a line stands at the place with number j
  pub seats_among : (n : ℕ) (xs : List X) (i j : ℕ) (d : X) → n + i ≡ j → i < length xs → Seated n xs → among rank (start k + j) (by_number at n xs) ≡ filled (at j (get_or xs i d))
  seats_among n [] i j d e lt h = absurd (omega arith)
  seats_among n (x ∷ xs) zero j d e lt h =
      let same : n ≡ j = omega arith in
      let rest = by_number at (n + 1) xs in
      let r = start k + j in
      let none = among_none rank r rest (All-weaker (λ z. start k + (n + 1) ≤ rank z) (λ z. rank z ≡ r → ⊥) (λ z le eq. omega arith) rest (seats_low (n + 1) xs h.1)) in
      among_append rank r (at n x) rest ∙ ap (λ t. among rank r (at n x) || t) none ∙ or-false (among rank r (at n x))
      ∙ subst (λ m. among rank (start k + m) (at n x) ≡ filled (at m x)) same (seat_filled k n (at n x) h.0)
  seats_among n (x ∷ xs) (suc i) j d e lt h =
      let r = start k + j in
      let none = among_none rank r (at n x) (All-weaker (λ z. rank z < r) (λ z. rank z ≡ r → ⊥) (λ z lt eq. omega arith) (at n x) (seat_below n j x (omega arith) h.0)) in
      among_append rank r (at n x) (by_number at (n + 1) xs) ∙ ap (λ t. t || among rank r (by_number at (n + 1) xs)) none ∙ seats_among (n + 1) xs i j d (omega arith) (omega arith) h.1

  -- the table is told by its lines
  pub seats_same : ((m : ℕ) (x y : X) → at m x ≡ at m y → x ≡ y) → (n : ℕ) (xs ys : List X) → length xs ≡ length ys → Seated n xs → Seated n ys → by_number at n xs ≡ by_number at n ys → xs ≡ ys
  seats_same one n [] [] long h g e = refl
  seats_same one n [] (y ∷ ys) long h g e = absurd (omega arith)
  seats_same one n (x ∷ xs) [] long h g e = absurd (omega arith)
  seats_same one n (x ∷ xs) (y ∷ ys) long h g e =
      let both = parted rank (start k + (n + 1)) (at n x) (by_number at (n + 1) xs) (at n y) (by_number at (n + 1) ys)
      (seat_below n (n + 1) x (omega arith) h.0) (seat_below n (n + 1) y (omega arith) g.0) (seats_low (n + 1) xs h.1) (seats_low (n + 1) ys g.1) e in
      let first = one n x y both.0 in
      let more = seats_same one (n + 1) xs ys (omega arith) h.1 g.1 both.1 in
      λ i. first i ∷ more i
