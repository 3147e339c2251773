-- Lists in the order of a rank: how they are joined, told apart and added to. Assumes nothing.
use Rattle.std.proofs.Common.{◌≡◌, ℕ, zero, suc, ◌+◌, ◌<◌, ◌≤◌, true, false, cond, ◌||◌, eqb, ltb, ◌⊎◌, List, [], ◌∷◌, ◌++◌, map, length, get_or, sym, refl, ap, ◌∙◌, subst, inl, inr, ⊎_elim, arith}
use mathlib.Core.Logic.{∥∥₁_elim}
use native.Mathlib.Bridge.{le_prop}
use Rattle.std.specs.List.{ContainsAt as Has, AllByRecursion, AllByRecursion-prop}
use Rattle.std.proofs.lemmas.Bool.{ltb-true, ltb-false, lt-ltb, le-ltb, eqb-true, eqb-false, eq-eqb, ne_eqb, cases_lt, cases_eq, cond-true, cond-false, cond_both, or_parts, or_from, or_cases, or_left, or_right, false≢true}
use Rattle.std.proofs.ByRecursion.{All-weaker, all-has, All-append, All-map, All-get_or}
use Rattle.book.specs.Order.{Ascending, among, put}

-- ---- heads and tails

pub head_same : {X : Type 0} (x y : X) (xs ys : List X) → x ∷ xs ≡ y ∷ ys → x ≡ y
head_same x y xs ys e = cc

pub tail_same : {X : Type 0} (x y : X) (xs ys : List X) → x ∷ xs ≡ y ∷ ys → xs ≡ ys
tail_same x y xs ys e = cc

pub no_cons : {X : Type 0} (x : X) (xs : List X) → x ∷ xs ≡ [] → ⊥
no_cons x xs e = cc

-- ---- members

pub has_here : {X : Type 0} (x : X) (xs : List X) → Has (x ∷ xs) x
has_here x xs = (0, omega arith, λ d. refl)

pub has_there : {X : Type 0} (y : X) (xs : List X) (x : X) → Has xs x → Has (y ∷ xs) x
has_there y xs x h = let lt = h.1 in (suc h.0, omega arith, h.2)

pub has_none : {X : Type 0} (x : X) → Has [] x → ⊥
has_none x h = let lt = h.1 in omega arith

pub has_cases : {X : Type 0} (y : X) (xs : List X) (x : X) → Has (y ∷ xs) x → (y ≡ x) ⊎ Has xs x
has_cases {X} y xs x h = at h.0 h.1 h.2
  where
    at : (k : ℕ) → k < suc (length xs) → ((d : X) → get_or (y ∷ xs) k d ≡ x) → (y ≡ x) ⊎ Has xs x
    at zero lt is = inl (is x)
    at (suc k) lt is = inr (k, omega arith, is)

ascending_prop : {X : Type 0} (rank : X → ℕ) (xs : List X) → IsProp (Ascending rank xs)
ascending_prop rank [] p q = refl
ascending_prop rank (x ∷ xs) p q =
    λ i. (AllByRecursion-prop (λ y. rank x < rank y) (λ y. le_prop) xs p.0 q.0 i, ascending_prop rank xs p.1 q.1 i)

-- out of a ghost field
pub all_told : {X : Type 0} (P : X → Type 0) → ((x : X) → IsProp (P x)) → (xs : List X) → ∥ AllByRecursion P xs ∥₁ → AllByRecursion P xs
all_told P one xs h = ∥∥₁_elim h (AllByRecursion-prop P one xs) (λ p. p)

pub ascending_told : {X : Type 0} (rank : X → ℕ) (xs : List X) → ∥ Ascending rank xs ∥₁ → Ascending rank xs
ascending_told rank xs h = ∥∥₁_elim h (ascending_prop rank xs) (λ p. p)

module _ {X : Type 0} (rank : X → ℕ) where
  -- ---- one more

  pub put_all : (P : X → Type 0) (x : X) (xs : List X) → P x → AllByRecursion P xs → AllByRecursion P (put rank x xs)
  put_all P x [] p h = (p, tt)
  put_all P x (y ∷ ys) p h =
      cond_both (ltb (rank y) (rank x)) (y ∷ put rank x ys) (x ∷ (y ∷ ys)) (AllByRecursion P) (λ _. (h.0, put_all P x ys p h.1)) (λ _. (p, h))

  pub put_ascending : (x : X) (xs : List X) → Ascending rank xs → among rank (rank x) xs ≡ false → Ascending rank (put rank x xs)
  put_ascending x [] up new = (tt, tt)
  put_ascending x (y ∷ ys) up new =
      let apart = or_parts (eqb (rank y) (rank x)) (among rank (rank x) ys) new in
      cond_both (ltb (rank y) (rank x)) (y ∷ put rank x ys) (x ∷ (y ∷ ys)) (Ascending rank)
      (λ e. (put_all (λ z. rank y < rank z) x ys (ltb-true (rank y) (rank x) e) up.0, put_ascending x ys up.1 apart.1))
      (λ e.
      let le = ltb-false (rank y) (rank x) e in
      let ne = eqb-false (rank y) (rank x) apart.0 in
      let lt : rank x < rank y = omega arith in
      ((lt, All-weaker (λ z. rank y < rank z) (λ z. rank x < rank z) (λ z more. omega arith) ys up.0), up))

  pub put_has : (x : X) (xs : List X) (z : X) → Has (put rank x xs) z → Has xs z ⊎ (z ≡ x)
  put_has x [] z h = ⊎_elim (λ e. inr (sym e)) (λ at. absurd (has_none z at)) (has_cases x [] z h)
  put_has x (y ∷ ys) z h =
      cond_both (ltb (rank y) (rank x)) (y ∷ put rank x ys) (x ∷ (y ∷ ys)) (λ l. Has l z → Has (y ∷ ys) z ⊎ (z ≡ x))
      (λ _ at. ⊎_elim (λ e. inl (subst (Has (y ∷ ys)) e (has_here y ys))) (λ more. ⊎_elim (λ old. inl (has_there y ys z old)) inr (put_has x ys z more)) (has_cases y (put rank x ys) z at))
      (λ _ at. ⊎_elim (λ e. inr (sym e)) inl (has_cases x (y ∷ ys) z at))
      h

  pub has_put : (x : X) (xs : List X) (z : X) → Has xs z ⊎ (z ≡ x) → Has (put rank x xs) z
  has_put x [] z h = ⊎_elim (λ at. absurd (has_none z at)) (λ e. subst (Has (x ∷ [])) (sym e) (has_here x [])) h
  has_put x (y ∷ ys) z h =
      cond_both (ltb (rank y) (rank x)) (y ∷ put rank x ys) (x ∷ (y ∷ ys)) (λ l. Has l z)
      (λ _. ⊎_elim
      (λ at. ⊎_elim (λ e. subst (Has (y ∷ put rank x ys)) e (has_here y (put rank x ys))) (λ in'. has_there y (put rank x ys) z (has_put x ys z (inl in'))) (has_cases y ys z at))
      (λ e. has_there y (put rank x ys) z (has_put x ys z (inr e))) h)
      (λ _. ⊎_elim (λ at. has_there x (y ∷ ys) z at) (λ e. subst (Has (x ∷ (y ∷ ys))) (sym e) (has_here x (y ∷ ys))) h)

  -- ---- between lower and higher ranks

  pub put_low : (x : X) (xs ys : List X) → AllByRecursion (λ y. rank y < rank x) xs → put rank x (xs ++ ys) ≡ xs ++ put rank x ys
  put_low x [] ys h = refl
  put_low x (y ∷ xs) ys h =
      cond-true (ltb (rank y) (rank x)) (y ∷ put rank x (xs ++ ys)) (x ∷ (y ∷ xs ++ ys)) (lt-ltb (rank y) (rank x) h.0)
      ∙ ap (λ l. y ∷ l) (put_low x xs ys h.1)

  pub put_front : (x : X) (ys : List X) → AllByRecursion (λ y. rank x < rank y) ys → put rank x ys ≡ x ∷ ys
  put_front x [] h = refl
  put_front x (y ∷ ys) h =
      let lt = h.0 in
      cond-false (ltb (rank y) (rank x)) (y ∷ put rank x ys) (x ∷ (y ∷ ys)) (le-ltb (rank y) (rank x) (omega arith))

  pub put_high : (x : X) (xs ys : List X) → AllByRecursion (λ y. rank x < rank y) ys → put rank x (xs ++ ys) ≡ put rank x xs ++ ys
  put_high x [] ys h = put_front x ys h
  put_high x (y ∷ xs) ys h =
      let more = put_high x xs ys h in
      elim (ltb (rank y) (rank x)) as (λ t. cond t (y ∷ put rank x (xs ++ ys)) (x ∷ (y ∷ (xs ++ ys))) ≡ cond t (y ∷ put rank x xs) (x ∷ (y ∷ xs)) ++ ys) [
        | true ↦ ap (λ l. y ∷ l) more
        | false ↦ refl
      ]

  pub ascending_append : (m : ℕ) (xs ys : List X) → Ascending rank xs → Ascending rank ys → AllByRecursion (λ x. rank x < m) xs → AllByRecursion (λ y. m ≤ rank y) ys → Ascending rank (xs ++ ys)
  ascending_append m [] ys up vp low high = vp
  ascending_append m (x ∷ xs) ys up vp low high =
      let below = low.0 in (
        All-append (λ y. rank x < rank y) xs ys up.0 (All-weaker (λ y. m ≤ rank y) (λ y. rank x < rank y) (λ y le. omega arith) ys high),
        ascending_append m xs ys up.1 vp low.1 high,
      )

  pub ascending_at : (xs : List X) (i j : ℕ) (d : X) → Ascending rank xs → i < j → j < length xs → rank (get_or xs i d) < rank (get_or xs j d)
  ascending_at [] i j d up lt within = absurd (omega arith)
  ascending_at (x ∷ xs) zero zero d up lt within = absurd (omega arith)
  ascending_at (x ∷ xs) zero (suc j) d up lt within = All-get_or (λ y. rank x < rank y) xs j d (omega arith) up.0
  ascending_at (x ∷ xs) (suc i) zero d up lt within = absurd (omega arith)
  ascending_at (x ∷ xs) (suc i) (suc j) d up lt within = ascending_at xs i j d up.1 (omega arith) (omega arith)

  -- a list falls in one way into ranks below m and others
  pub parted : (m : ℕ) (xs ys us vs : List X) → AllByRecursion (λ x. rank x < m) xs → AllByRecursion (λ x. rank x < m) us → AllByRecursion (λ y. m ≤ rank y) ys → AllByRecursion (λ y. m ≤ rank y) vs
      → xs ++ ys ≡ us ++ vs → (xs ≡ us) × (ys ≡ vs)
  parted m [] ys [] vs a b c d e = (refl, e)
  parted m [] [] (u ∷ us) vs a b c d e = absurd (no_cons _ _ (sym e))
  parted m [] (y ∷ ys) (u ∷ us) vs a b c d e = let lt = b.0 in let le = c.0 in let same = ap rank (head_same _ _ _ _ e) in absurd (omega arith)
  parted m (x ∷ xs) ys [] [] a b c d e = absurd (no_cons _ _ e)
  parted m (x ∷ xs) ys [] (v ∷ vs) a b c d e = let lt = a.0 in let le = d.0 in let same = ap rank (head_same _ _ _ _ e) in absurd (omega arith)
  parted m (x ∷ xs) ys (u ∷ us) vs a b c d e =
      let more = parted m xs ys us vs a.1 b.1 c d (tail_same _ _ _ _ e) in
      ((λ i. head_same _ _ _ _ e i ∷ more.0 i), more.1)

  -- ---- ranks that stand among others

  pub among_append : (r : ℕ) (xs ys : List X) → among rank r (xs ++ ys) ≡ (among rank r xs || among rank r ys)
  among_append r [] ys = refl
  among_append r (x ∷ xs) ys =
      let more = among_append r xs ys in
      elim (eqb (rank x) r) as (λ t. (t || among rank r (xs ++ ys)) ≡ ((t || among rank r xs) || among rank r ys)) [ true ↦ refl | false ↦ more ]

  pub among_none : (r : ℕ) (xs : List X) → AllByRecursion (λ x. rank x ≡ r → ⊥) xs → among rank r xs ≡ false
  among_none r [] h = refl
  among_none r (x ∷ xs) h = or_from (eqb (rank x) r) (among rank r xs) (ne_eqb (rank x) r h.0) (among_none r xs h.1)

  pub among_has : (r : ℕ) (xs : List X) → among rank r xs ≡ true → (x : X) × (Has xs x × (rank x ≡ r))
  among_has r [] h = absurd (false≢true h)
  among_has r (x ∷ xs) h =
      ⊎_elim
      (λ e. (x, (has_here x xs, eqb-true (rank x) r e)))
      (λ e. let more = among_has r xs e in (more.0, (has_there x xs more.0 more.1.0, more.1.1)))
      (or_cases (eqb (rank x) r) (among rank r xs) h)

  pub has_among : (xs : List X) (x : X) → Has xs x → among rank (rank x) xs ≡ true
  has_among [] x h = absurd (has_none x h)
  has_among (y ∷ xs) x h =
      ⊎_elim
      (λ e. or_left (eqb (rank y) (rank x)) (among rank (rank x) xs) (eq-eqb (rank y) (rank x) (ap rank e)))
      (λ at. or_right (eqb (rank y) (rank x)) (among rank (rank x) xs) (has_among xs x at))
      (has_cases y xs x h)

  -- ---- a list that ascends is told by its members

  behind : (x y : X) (ys : List X) → Ascending rank (y ∷ ys) → Has (y ∷ ys) x → (y ≡ x) ⊎ (rank y < rank x)
  behind x y ys up h = ⊎_elim inl (λ at. inr (all-has (λ z. rank y < rank z) ys x up.0 at)) (has_cases y ys x h)

  -- a member of x ∷ xs behind x is a member of any list with the same head behind that head
  inner : (x y z : X) (xs ys : List X) → Ascending rank (x ∷ xs) → x ≡ y → Has xs z → Has (y ∷ ys) z → Has ys z
  inner x y z xs ys up e at h =
      ⊎_elim
      (λ same. let lt = all-has (λ w. rank x < rank w) xs z up.0 at in let eq = ap rank (e ∙ same) in absurd (omega arith))
      (λ in'. in')
      (has_cases y ys z h)

  pub same_members : (xs ys : List X) → Ascending rank xs → Ascending rank ys → ((x : X) → Has xs x → Has ys x) → ((x : X) → Has ys x → Has xs x) → xs ≡ ys
  same_members [] [] up vp to from = refl
  same_members [] (y ∷ ys) up vp to from = absurd (has_none y (from y (has_here y ys)))
  same_members (x ∷ xs) [] up vp to from = absurd (has_none x (to x (has_here x xs)))
  same_members (x ∷ xs) (y ∷ ys) up vp to from =
      let e : x ≡ y =
      ⊎_elim sym (λ lt. ⊎_elim (λ e. e) (λ gt. absurd (omega arith)) (behind y x xs up (from y (has_here y ys))))
      (behind x y ys vp (to x (has_here x xs))) in
      let more = same_members xs ys up.1 vp.1
      (λ z at. inner x y z xs ys up e at (to z (has_there x xs z at)))
      (λ z at. inner y x z ys xs vp (sym e) at (from z (has_there y ys z at))) in
      λ i. e i ∷ more i

-- ---- lists of one type as lists of another

module _ {X Y : Type 0} (f : Y → X) (rank : X → ℕ) (low : Y → ℕ) (base : ℕ) (is : (y : Y) → rank (f y) ≡ base + low y) where
  pub put_map : (x : Y) (ys : List Y) → put rank (f x) (map f ys) ≡ map f (put low x ys)
  put_map x [] = refl
  put_map x (y ∷ ys) =
      let a = is x in
      let b = is y in
      let more = put_map x ys in
      ⊎_elim
      (λ lt. cond-true (ltb (rank (f y)) (rank (f x))) (f y ∷ put rank (f x) (map f ys)) (f x ∷ (f y ∷ map f ys)) (lt-ltb (rank (f y)) (rank (f x)) (omega arith))
      ∙ ap (λ l. f y ∷ l) more ∙ sym (ap (map f) (cond-true (ltb (low y) (low x)) (y ∷ put low x ys) (x ∷ (y ∷ ys)) (lt-ltb (low y) (low x) lt))))
      (λ le. cond-false (ltb (rank (f y)) (rank (f x))) (f y ∷ put rank (f x) (map f ys)) (f x ∷ (f y ∷ map f ys)) (le-ltb (rank (f y)) (rank (f x)) (omega arith))
      ∙ sym (ap (map f) (cond-false (ltb (low y) (low x)) (y ∷ put low x ys) (x ∷ (y ∷ ys)) (le-ltb (low y) (low x) le))))
      (cases_lt (low y) (low x))

  pub ascending_map : (ys : List Y) → Ascending low ys → Ascending rank (map f ys)
  ascending_map [] up = tt
  ascending_map (y ∷ ys) up =
      let a = is y in (
        All-map (λ x. rank (f y) < rank x) f ys (All-weaker (λ z. low y < low z) (λ z. rank (f y) < rank (f z)) (λ z lt. let b = is z in omega arith) ys up.0),
        ascending_map ys up.1,
      )

  pub among_map : (x : Y) (ys : List Y) → among rank (rank (f x)) (map f ys) ≡ among low (low x) ys
  among_map x [] = refl
  among_map x (y ∷ ys) =
      let a = is x in
      let b = is y in
      let same : eqb (rank (f y)) (rank (f x)) ≡ eqb (low y) (low x) =
      ⊎_elim (λ e. eq-eqb (rank (f y)) (rank (f x)) (omega arith) ∙ sym (eq-eqb (low y) (low x) e)) (λ ne. ne_eqb (rank (f y)) (rank (f x)) (λ e. ne (omega arith)) ∙ sym (ne_eqb (low y) (low x) ne)) (cases_eq (low y) (low x)) in
      let more = among_map x ys in
      λ i. same i || more i
