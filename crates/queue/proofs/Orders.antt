-- How entries that move keep the heap. v and w say what stands at each place.
use Rattle.std.proofs.Common.{◌≡◌, ℕ, zero, suc, ◌+◌, ◌-◌, ◌*◌, ◌/◌, ◌<◌, ◌≤◌, Bool, true, false, ◌||◌, T, ◌⊎◌, sym, refl, ap, ◌∙◌, subst, inl, inr, ⊎_elim, arith}
use Rattle.std.proofs.lemmas.Bool.{cases_eq}
use Rattle.std.proofs.lemmas.List.Edits.{Swapped}
use Rattle.grade.specs.Laws.{Total, Transitive}
use Rattle.queue.specs.Heaps.{Child, InOrder, HeapBelow, Heap, BestChild, Rising, Sinking}

or_cases : (x y : Bool) → T (x || y) → T x ⊎ T y
or_cases true y h = inl tt
or_cases false y h = inr h

-- a test came out true
pub holds : (r b : Bool) → r ≡ b → r ≡ true → T b
holds r b e t = subst T (sym t ∙ e) tt

module _ {X : Type 0} (f : X → X → Bool) where
  -- a and b are x and y under other names
  pub both : {a b x y : X} → a ≡ x → b ≡ y → T (f x y) → T (f a b)
  both {a} {b} {x} {y} p q h = subst (λ u. T (f u b)) (sym p) (subst (λ u. T (f x u)) (sym q) h)

  pub begins : (v : ℕ → X) (n : ℕ) → HeapBelow f v 1 n → Sinking f v 0 n
  begins v n h = record {
    others = λ p k c l ne. h p k (omega arith) c l;
    bridged = λ p k c e l. absurd (omega arith);
  }

  -- nothing stands below the entry that sinks
  pub at_leaf : (v : ℕ → X) (p n : ℕ) → n ≤ p * 2 + 1 → Sinking f v p n → Heap f v n
  at_leaf v p n leaf h = λ q k low c l. h.others q k c l (omega arith)

  -- the entry that rises is no better than what stands above it
  pub risen : (v : ℕ → X) (j n : ℕ) → ((p : ℕ) → Child p j → InOrder f v p j) → Rising f v j n → Heap f v n
  risen v j n fits h = λ p k low c l. ⊎_elim
      (λ e. both refl (ap v e) (fits p (omega arith, omega arith)))
      (λ ne. h.others p k c l ne)
      (cases_eq k j)

  module _ (total : Total f) (chain : Transitive f) where
    itself : (a : X) → T (f a a)
    itself a = ⊎_elim (λ h. h) (λ h. h) (or_cases _ _ (total a a))

    -- a test came out false
    pub turned : (a b : X) (r : Bool) → r ≡ f a b → r ≡ false → T (f b a)
    turned a b r e t = ⊎_elim (λ h. absurd (subst T (sym e ∙ t) h)) (λ h. h) (or_cases _ _ (total a b))

    module _ (v : ℕ → X) where
      -- no place but c and o stands right below p
      pub better_child : (p c o n : ℕ) → ((k : ℕ) → Child p k → k < n → (k ≡ c → ⊥) → k ≡ o) → InOrder f v c o → BestChild f v p c n
      better_child p c o n two t = λ k ch l. ⊎_elim
          (λ e. both refl (ap v e) (itself (v c)))
          (λ ne. both refl (ap v (two k ch l ne)) t)
          (cases_eq k c)

      -- the entry that sinks is no worse than the better one below it
      pub rests : (p c n : ℕ) → InOrder f v p c → BestChild f v p c n → Sinking f v p n → Heap f v n
      rests p c n t best h = λ q k low ch l. ⊎_elim
          (λ e. both (ap v e) refl (chain _ _ _ t (best k (omega arith, omega arith) l)))
          (λ ne. h.others q k ch l ne)
          (cases_eq q p)

      below_top : (n : ℕ) → Heap f v n → (fuel k : ℕ) → k ≤ fuel → k < n → InOrder f v 0 k
      below_top n h zero k a b = let e : k ≡ 0 = omega arith in both refl (ap v e) (itself (v 0))
      below_top n h (suc fuel) k a b = ⊎_elim
          (λ e. both refl (ap v e) (itself (v 0)))
          (λ ne. chain _ _ _ (below_top n h fuel ((k - 1) / 2) (omega arith) (omega arith)) (h ((k - 1) / 2) k (omega arith) (omega arith, omega arith) b))
          (cases_eq k 0)

      -- no entry of a heap is better than the first
      pub first_best : (n : ℕ) → Heap f v n → (k : ℕ) → k < n → InOrder f v 0 k
      first_best n h k l = below_top n h k k (omega arith) l

    -- the entries at p and at c, right below it, have changed places
    module _ (v w : ℕ → X) (p c n : ℕ) (pc : Child p c) (low : c < n) (s : Swapped v w p c) (t : InOrder f v c p) where
      pub sinks : BestChild f v p c n → Sinking f v p n → Sinking f w c n
      sinks best h = record {
        others = λ q k ch l u. ⊎_elim
            (λ e. ⊎_elim
            (λ d. both (ap w e ∙ s.0) (ap w d ∙ s.1) t)
            (λ d. both (ap w e ∙ s.0) (s.2 k (omega arith) d) (best k (omega arith, omega arith) l))
            (cases_eq k c))
            (λ e. ⊎_elim
            (λ d. both (s.2 q e u) (ap w d ∙ s.0) (h.bridged q c (omega arith, omega arith) pc low))
            (λ d. both (s.2 q e u) (s.2 k d (omega arith)) (h.others q k ch l e))
            (cases_eq k p))
            (cases_eq q p);
        bridged = λ q k qc ck l. let e : q ≡ p = omega arith in
            both (ap w e ∙ s.0) (s.2 k (omega arith) (omega arith)) (h.others c k ck l (omega arith));
      }

      pub rises : Rising f v c n → Rising f w p n
      rises h = record {
        others = λ q k ch l u. ⊎_elim
            (λ e. ⊎_elim
            (λ d. both (ap w e ∙ s.0) (ap w d ∙ s.1) t)
            (λ d. both (ap w e ∙ s.0) (s.2 k u d) (chain _ _ _ t (h.others p k (omega arith, omega arith) l d)))
            (cases_eq k c))
            (λ e. ⊎_elim
            (λ d. both (ap w d ∙ s.1) (s.2 k u (omega arith)) (h.bridged p k pc (omega arith, omega arith) l))
            (λ d. both (s.2 q e d) (s.2 k u (omega arith)) (h.others q k ch l (omega arith)))
            (cases_eq q c))
            (cases_eq q p);
        bridged = λ q k qp pk l.
            let over = h.others q p qp (omega arith) (omega arith) in
            let same = s.2 q (omega arith) (omega arith) in
            ⊎_elim
            (λ d. both same (ap w d ∙ s.1) over)
            (λ d. both same (s.2 k (omega arith) d) (chain _ _ _ over (h.others p k pk l d)))
            (cases_eq k c);
      }
