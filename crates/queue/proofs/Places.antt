-- Lists whose elements change places.
use Rattle.std.proofs.Common.{◌≡◌, ℕ, zero, suc, ◌<◌, ◌≤◌, List, [], ◌∷◌, length, get_or, take, drop, set, sym, refl, ap, ◌∙◌, arith}
use Rattle.std.specs.List.{swap}
use Rattle.std.specs.List.Sorted.{IsPermutation}
use Rattle.std.proofs.lemmas.List.{length-take-le, get_or-take, drop-set-lt, set-set}
use Rattle.std.proofs.lemmas.List.Sorted.{IsPermutation-refl, IsPermutation-trans}
use Rattle.std.proofs.Math.Seq.{take-set-lt}
use Rattle.queue.specs.Heaps.{Reordered}

module _ {X : Type 0} where
  take_exchanged : (n : ℕ) (xs : List X) (i j : ℕ) → i < n → j < n → take n (swap xs i j) ≡ swap (take n xs) i j
  take_exchanged zero xs i j p q = absurd (omega arith)
  take_exchanged (suc n) [] i j p q = refl
  take_exchanged (suc n) (e ∷ xs) i j p q =
      let l = e ∷ xs in
      let a = get_or l j e in
      let b = get_or l i e in
      let t = take (suc n) l in
      take-set-lt (suc n) (set l i a) j b q
      ∙ ap (λ (m : List X). set m j b) (take-set-lt (suc n) l i a p)
      ∙ ap (λ (u : X). set (set t i u) j b) (sym (get_or-take (suc n) l j e q))
      ∙ ap (λ (u : X). set (set t i (get_or t j e)) j u) (sym (get_or-take (suc n) l i e p))

  drop_exchanged : (n : ℕ) (xs : List X) (i j : ℕ) → i < n → j < n → drop n (swap xs i j) ≡ drop n xs
  drop_exchanged n [] i j p q = refl
  drop_exchanged n (e ∷ xs) i j p q =
      let l = e ∷ xs in
      drop-set-lt n (set l i (get_or l j e)) j (get_or l i e) q ∙ drop-set-lt n l i (get_or l j e) p

  pub same_order : (xs : List X) (n : ℕ) → Reordered xs xs n
  same_order xs n = record { front = IsPermutation-refl _; back = refl }

  pub again : {xs ys zs : List X} {n : ℕ} → Reordered xs ys n → Reordered ys zs n → Reordered xs zs n
  again a b = record { front = IsPermutation-trans _ _ _ a.front b.front; back = b.back ∙ a.back }

  pub swaps : (xs ys : List X) (i j n : ℕ) → i < n → j < n → n ≤ length xs → ys ≡ swap xs i j → Reordered xs ys n
  swaps xs ys i j n p q le is =
      let long : length (take n xs) ≡ n = length-take-le n xs le in record {
        front = record {
          moves = (i, j) ∷ [];
          below = (omega arith, omega arith, tt);
          is = ap (take n) is ∙ take_exchanged n xs i j p q;
        };
        back = ap (drop n) is ∙ drop_exchanged n xs i j p q;
      }

  -- all but the element at k, once the first has come to its place
  abbrev pub others : List X → ℕ → List X
  others [] k = []
  others (x ∷ xs) zero = xs
  others (x ∷ xs) (suc k) = set xs k x

  pub to_front : (xs : List X) (k : ℕ) (a : X) → k < length xs → ((d : X) → get_or xs k d ≡ a) → IsPermutation xs (a ∷ others xs k)
  to_front xs k a l is = record { moves = (0, k) ∷ []; below = (omega arith, l, tt); is = front xs k l is }
    where
      front : (ys : List X) (j : ℕ) → j < length ys → ((d : X) → get_or ys j d ≡ a) → a ∷ others ys j ≡ swap ys 0 j
      front [] j p e = absurd (omega arith)
      front (y ∷ ys) zero p e = ap (λ (u : X). u ∷ ys) (sym (e y))
      front (y ∷ ys) (suc j) p e = ap (λ (u : X). u ∷ set ys j y) (sym (e y))

  pub others_set : (xs : List X) (k : ℕ) (e : X) → others (set xs k e) k ≡ others xs k
  others_set [] k e = refl
  others_set (x ∷ xs) zero e = refl
  others_set (x ∷ xs) (suc k) e = set-set xs k e x
