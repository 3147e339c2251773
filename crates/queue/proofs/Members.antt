-- What the queue's contracts say of each entry, for whoever uses the queue: which entries are in it
-- after a call, where no entry is in it twice.
use Rattle.std.proofs.Common.{◌≡◌, ℕ, zero, suc, ◌+◌, ◌-◌, ◌<◌, Bool, ◌≢◌, ◌⊎◌, ◌↔◌, List, ◌∷◌, length, get_or, take, sym, refl, ap, ◌∙◌, inl, inr, ⊎_elim, arith}
use Rattle.std.specs.List.Sorted.{IsPermutation}
use Rattle.std.specs.List.{swap, Contains}
use Rattle.std.proofs.lemmas.List.{length-take, get_or-take, get_or_default}
use Rattle.std.proofs.lemmas.List.Sorted.{IsPermutation-sym, IsPermutation-keeps, Contains-permutation}
use Rattle.std.proofs.lemmas.List.Edits.{length-swap, swapped_from_swap}
use Rattle.queue.specs.Queues.{Holds, StandsAt, Single, Queue, Put, Taken, Replaced}
use Rattle.std.proofs.lemmas.Bool.{cases_eq}

module _ {X : Type 0} where
  -- no element stands twice in the list
  abbrev Distinct : List X → Type 0
  Distinct xs = (i j : ℕ) (d : X) → i < length xs → j < length xs → get_or xs i d ≡ get_or xs j d → i ≡ j

  Contains-first : (x y : X) (xs : List X) → y ≡ x → Contains (x ∷ xs) y
  Contains-first x y xs e = (0, omega arith, sym e)

  Contains-later : (x y : X) (xs : List X) → Contains xs y → Contains (x ∷ xs) y
  Contains-later x y xs (k, low, is) = (suc k, omega arith, is)

  Contains-cases : (x y : X) (xs : List X) → Contains (x ∷ xs) y → (y ≡ x) ⊎ Contains xs y
  Contains-cases x y xs (zero, low, is) = inl (sym is)
  Contains-cases x y xs (suc k, low, is) = inr (k, omega arith, is)

  distinct_first : (x y : X) (xs : List X) → Distinct (x ∷ xs) → Contains xs y → y ≢ x
  distinct_first x y xs apart (k, low, is) e = let s = apart 0 (suc k) x (omega arith) (omega arith) (sym (get_or_default xs k x y (omega arith) ∙ is ∙ e)) in omega arith

  distinct_rest : (x : X) (xs : List X) → Distinct (x ∷ xs) → Distinct xs
  distinct_rest x xs apart i j d p q e = let s = apart (suc i) (suc j) d (omega arith) (omega arith) e in omega arith

  distinct_cons : (x : X) (xs : List X) → Distinct xs → (Contains xs x → ⊥) → Distinct (x ∷ xs)
  distinct_cons x xs apart new zero zero d p q e = refl
  distinct_cons x xs apart new zero (suc j) d p q e = absurd (new (j, omega arith, get_or_default xs j x d (omega arith) ∙ sym e))
  distinct_cons x xs apart new (suc i) zero d p q e = absurd (new (i, omega arith, get_or_default xs i x d (omega arith) ∙ e))
  distinct_cons x xs apart new (suc i) (suc j) d p q e = ap suc (apart i j d (omega arith) (omega arith) e)

  -- where the element at k stood before i and j changed places
  came : (xs : List X) (i j : ℕ) (d : X) → i < length xs → j < length xs → (k : ℕ) → k < length xs
      → (m : ℕ) × (m < length xs) × (get_or (swap xs i j) k d ≡ get_or xs m d) × (((k ≡ i) × (m ≡ j)) ⊎ (((k ≡ j) × (m ≡ i)) ⊎ ((k ≢ i) × (k ≢ j) × (m ≡ k))))
  came xs i j d p q k l =
      let s = swapped_from_swap xs (swap xs i j) i j d p q refl in
      let v : ℕ → X = λ m. get_or (swap xs i j) m d in ⊎_elim
      (λ e. (j, q, ap v e ∙ s.0, inl (e, refl)))
      (λ u. ⊎_elim
      (λ e. (i, p, ap v e ∙ s.1, inr (inl (e, refl))))
      (λ w. (k, l, s.2 k u w, inr (inr (u, w, refl))))
      (cases_eq k j))
      (cases_eq k i)

  distinct_exchanged : (xs : List X) (i j : ℕ) → i < length xs → j < length xs → Distinct xs → Distinct (swap xs i j)
  distinct_exchanged xs i j p q apart a b d la lb e =
      let long = length-swap xs i j in
      let from_a = came xs i j d p q a (omega arith) in
      let from_b = came xs i j d p q b (omega arith) in
      let same = apart from_a.0 from_b.0 d from_a.1 from_b.1 (sym from_a.2 ∙ e ∙ from_b.2) in
      omega (arith, same, from_a.3, from_b.3)

  distinct_shuffled : (xs ys : List X) → IsPermutation xs ys → Distinct xs → Distinct ys
  distinct_shuffled xs ys sh apart = IsPermutation-keeps xs Distinct apart distinct_exchanged ys sh

  -- an entry in the queue has a place there
  pub holds_place : (xs : List X) (n : ℕ) (e : X) (k : ℕ) → k < length (take n xs) → get_or (take n xs) k e ≡ e → StandsAt xs n k e
  holds_place xs n e k low is =
      let long = length-take n xs in
      record { low = omega arith; inside = omega arith; is = λ d. get_or_default xs k d e (omega arith) ∙ sym (get_or-take n xs k e (omega arith)) ∙ is }

  pub place_holds : {xs : List X} {n k : ℕ} {e : X} → StandsAt xs n k e → Holds xs n e
  place_holds {xs} {n} {k} {e} s =
      let long = length-take n xs in
      (k, omega (arith, s.low, s.inside), get_or-take n xs k e s.low ∙ s.is e)

  distinct_from_single : (xs : List X) (n : ℕ) → Single xs n → Distinct (take n xs)
  distinct_from_single xs n single i j d p q e =
      let long = length-take n xs in
      let here : (k : ℕ) → k < length (take n xs) → get_or (take n xs) k d ≡ get_or (take n xs) i d → StandsAt xs n k (get_or (take n xs) i d) =
      λ k l is. record { low = omega arith; inside = omega arith; is = λ y. get_or_default xs k y d (omega arith) ∙ sym (get_or-take n xs k d (omega arith)) ∙ is } in
      single i j (get_or (take n xs) i d) (here i p refl) (here j q (sym e))

  single_from_distinct : (xs : List X) (n : ℕ) → Distinct (take n xs) → Single xs n
  single_from_distinct xs n apart i j e p q =
      let long = length-take n xs in
      apart i j e (omega (arith, p.low, p.inside)) (omega (arith, q.low, q.inside))
      (get_or-take n xs i e p.low ∙ p.is e ∙ sym (q.is e) ∙ sym (get_or-take n xs j e q.low))

  -- an empty queue
  pub single_none : (xs : List X) → Single xs 0
  single_none xs i j e p q = absurd (omega (arith, p.low))

  pub holds_none : (xs : List X) (e : X) → Holds xs 0 e → ⊥
  holds_none xs e (k, low, is) = let long = length-take 0 xs in omega arith

  pub queue_none : (f : X → X → Bool) (xs : List X) → Queue f xs 0
  queue_none f xs = record { room = omega arith; heap = λ d p k low c l. absurd (omega arith) }

module _ {X : Type 0} {f : X → X → Bool} {xs ys : List X} {n : ℕ} {e : X} where
  module _ (put : Put f xs ys n e) where
    pub put_holds : (x : X) → Holds ys (n + 1) x ↔ (Holds xs n x ⊎ (x ≡ e))
    put_holds x = (
      λ h. ⊎_elim inr inl (Contains-cases e x (take n xs) (Contains-permutation _ _ x (IsPermutation-sym _ _ put.entries) h)),
      λ h. Contains-permutation _ _ x put.entries (⊎_elim (Contains-later e x (take n xs)) (Contains-first e x (take n xs)) h),
    )

    pub put_single : Single xs n → (Holds xs n e → ⊥) → Single ys (n + 1)
    put_single single new =
        single_from_distinct ys (n + 1) (distinct_shuffled _ _ put.entries (distinct_cons e (take n xs) (distinct_from_single xs n single) new))

  module _ (taken : Taken f xs ys n e) (single : Single xs n) where
    apart_taken : Distinct (e ∷ take (n - 1) ys)
    apart_taken = distinct_shuffled _ _ taken.entries (distinct_from_single xs n single)

    pub taken_holds : (x : X) → Holds ys (n - 1) x ↔ (Holds xs n x × (x ≢ e))
    taken_holds x = (
      λ h. (Contains-permutation _ _ x (IsPermutation-sym _ _ taken.entries) (Contains-later e x (take (n - 1) ys) h), distinct_first e x (take (n - 1) ys) apart_taken h),
      λ h. ⊎_elim (λ is. absurd (h.1 is)) (λ l. l) (Contains-cases e x (take (n - 1) ys) (Contains-permutation _ _ x taken.entries h.0)),
    )

    pub taken_single : Single ys (n - 1)
    taken_single = single_from_distinct ys (n - 1) (distinct_rest e (take (n - 1) ys) apart_taken)

  module _ {old : X} (replaced : Replaced f xs ys n old e) (single : Single xs n) where
    apart_others : Distinct (old ∷ replaced.others)
    apart_others = distinct_shuffled _ _ replaced.before (distinct_from_single xs n single)

    pub replaced_holds : (x : X) → Holds ys n x ↔ ((Holds xs n x × (x ≢ old)) ⊎ (x ≡ e))
    replaced_holds x = (
      λ h. ⊎_elim inr (λ o. inl (Contains-permutation _ _ x (IsPermutation-sym _ _ replaced.before) (Contains-later old x rest o), distinct_first old x rest apart_others o)) (Contains-cases e x rest (Contains-permutation _ _ x (IsPermutation-sym _ _ replaced.after) h)),
      λ h. Contains-permutation _ _ x replaced.after (⊎_elim (λ o. Contains-later e x rest (⊎_elim (λ is. absurd (o.1 is)) (λ l. l) (Contains-cases old x rest (Contains-permutation _ _ x replaced.before o.0)))) (Contains-first e x rest) h),
    )
      where
        rest : List X
        rest = replaced.others

    pub replaced_single : (Holds xs n e → e ≡ old) → Single ys n
    replaced_single new =
        let rest = replaced.others in
        let away : Contains rest e → ⊥ = λ o. distinct_first old e rest apart_others o (new (Contains-permutation _ _ e (IsPermutation-sym _ _ replaced.before) (Contains-later old e rest o))) in
        single_from_distinct ys n (distinct_shuffled _ _ replaced.after (distinct_cons e rest (distinct_rest old rest apart_others) away))
