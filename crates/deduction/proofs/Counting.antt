-- Lists without repetition and how long they are.
use mathlib.Core.Path.{◌≡◌, refl, sym, ap, ◌∙◌, subst}
use mathlib.Core.List.{List, [], ◌∷◌}
use mathlib.Core.Logic.{◌⊎◌, inl, inr, ⊎_elim, ◌↔◌}
use Prim.Native.Nat.{ℕ, zero, suc, ◌≤◌, ◌<◌, zero-le}
use native.Mathlib.Omega.{arith}
use native.Mathlib.Decide.{dec_lt}
use lib.ListN.{length}
use Rattle.deduction.specs.Lists.{In, Distinct}
use Rattle.deduction.specs.Counting.{Outnumber, NoRoom, Listing, Different, Filled, Overfull}

module _ {X : Type 0} where
  -- the list with one place of x taken out
  without : (x : X) (ys : List X) → In x ys → (zs : List X) × (length ys ≡ suc (length zs)) × ((y : X) → In y ys → (y ≡ x) ⊎ In y zs)
  without x [] there = absurd there
  without x (y ∷ ys) (inl here) = (ys, refl, λ z. ⊎_elim (λ e. inl (e ∙ sym here)) inr)
  without x (y ∷ ys) (inr there) =
      let rest = without x ys there in
      (y ∷ rest.0, ap suc rest.1, λ z. ⊎_elim (λ e. inr (inl e)) (λ h. ⊎_elim inl (λ k. inr (inr k)) (rest.2 z h)))

  -- different members of a list are no more than its places
  pub no_longer : (xs ys : List X) → Distinct xs → ((x : X) → In x xs → In x ys) → length xs ≤ length ys
  no_longer [] ys distinct within = zero-le
  no_longer (x ∷ xs) ys (new, distinct) within =
      let rest = without x ys (within x (inl refl)) in
      let shorter = no_longer xs rest.0 distinct (λ z h. ⊎_elim (λ e. absurd (new (subst (λ y. In y xs) e h))) (λ k. k) (rest.2 z (within z (inr h)))) in
      omega (arith, rest.1)

  pub same_length : (xs ys : List X) → Distinct xs → Distinct ys → ((x : X) → In x xs ↔ In x ys) → length xs ≡ length ys
  same_length xs ys distinct_xs distinct_ys same =
      let a = no_longer xs ys distinct_xs (λ x. (same x).0) in
      let b = no_longer ys xs distinct_ys (λ x. (same x).1) in
      omega arith

  module _ (P : X → Type 0) where
    pub outnumber_no_room : (n : ℕ) → Outnumber P n → NoRoom P n
    outnumber_no_room n out xs short all =
        let fewer = no_longer out.some xs out.distinct (λ x h. all x (out.each x h)) in
        omega (arith, out.longer)

    -- where those that are P can be listed, both say that the list is longer
    module _ (all : List X) (listing : Listing P all) (n : ℕ) where
      no_room_longer : NoRoom P n → n < length all
      no_room_longer no_room = from (dec_lt n (length all))
        where
          from : Dec (n < length all) → n < length all
          from (yes longer) = longer
          from (no not_longer) = absurd (no_room all (omega arith) (λ x. (listing.exactly x).1))

      longer_outnumber : n < length all → Outnumber P n
      longer_outnumber longer = record { some = all; distinct = listing.distinct; each = λ x. (listing.exactly x).0; longer = longer }

      pub listed_outnumber : Outnumber P n ↔ (n < length all)
      listed_outnumber = (λ out. no_room_longer (outnumber_no_room n out), longer_outnumber)

      pub listed_no_room : NoRoom P n ↔ (n < length all)
      listed_no_room = (no_room_longer, λ longer. outnumber_no_room n (longer_outnumber longer))

-- what the first n places of a table hold, the last first
module _ {X : Type 0} (at : ℕ → X) where
  abbrev pub held : ℕ → List X
  held zero = []
  held (suc n) = at n ∷ held n

  pub length_held : (n : ℕ) → length (held n) ≡ n
  length_held zero = refl
  length_held (suc n) = ap suc (length_held n)

  pub held_place : (n : ℕ) (x : X) → In x (held n) → (k : ℕ) × (k < n) × (at k ≡ x)
  held_place zero x among = absurd among
  held_place (suc n) x (inl here) = (n, omega arith, sym here)
  held_place (suc n) x (inr there) = let (k, less, is_x) = held_place n x there in (k, omega arith, is_x)

  pub place_held : (n k : ℕ) → k < n → In (at k) (held n)
  place_held zero k less = absurd (omega arith)
  place_held (suc n) k less = from (place_held n k) (dec_lt k n)
    where
      from : (k < n → In (at k) (held n)) → Dec (k < n) → In (at k) (held (suc n))
      from below (yes earlier) = inr (below earlier)
      from below (no not_Earlier) = let last : k ≡ n = omega arith in inl (ap at last)

  pub held_distinct : (n : ℕ) → ((k l : ℕ) → k < n → l < n → at k ≡ at l → k ≡ l) → Distinct (held n)
  held_distinct zero apart = tt
  held_distinct (suc n) apart = (
    λ among. let (k, less, same) = held_place n (at n) among in let e = apart k n (omega arith) (omega arith) same in omega arith,
    held_distinct n (λ k l less_k less_l. apart k l (omega arith) (omega arith)),
  )

module _ {X : Type 0} (P : X → Type 0) (at : ℕ → X) (n : ℕ) where
  held_each : Different P at n → (x : X) → In x (held at n) → P x
  held_each different x among = let (k, less, is_x) = held_place at n x among in subst P is_x (different.each k less)

  pub filled_listing : Filled P at n → Listing P (held at n)
  filled_listing filled = record {
    distinct = held_distinct at n filled.different.apart;
    exactly = λ x. (held_each filled.different x, λ p. let (k, less, is_x) = filled.all x p in subst (λ y. In y (held at n)) is_x (place_held at n k less));
  }

  pub filled_outnumber : Filled P at n → (places : ℕ) → Outnumber P places ↔ (places < n)
  filled_outnumber filled places = subst (λ long. Outnumber P places ↔ (places < long)) (length_held at n) (listed_outnumber P (held at n) (filled_listing filled) places)

  pub overfull_outnumber : Overfull P at n → Outnumber P n
  overfull_outnumber over = record {
    some = over.another ∷ held at n;
    distinct = (λ among. let (k, less, same) = held_place at n over.another among in over.nowhere k less same, held_distinct at n over.different.apart);
    each = λ x. ⊎_elim (λ e. subst P (sym e) over.also) (held_each over.different x);
    longer = omega (arith, length_held at n);
  }
