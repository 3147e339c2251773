-- The row that is put in at its place. Assumes nothing.
use Rattle.std.proofs.Common.{◌≡◌, ℕ, zero, suc, ◌+◌, ◌-◌, ◌<◌, ◌≤◌, true, false, cond, ltb, List, [], ◌∷◌, ◌++◌, length, take, drop, set, sym, refl, ap, ◌∙◌, arith}
use borrow.Rule.Slice.PartMut.{put_mid}
use Rattle.std.specs.List.{between}
use Rattle.std.specs.List.Sorted.{IsPartitionPoint}
use Rattle.std.proofs.lemmas.List.{take_more_set, length-append, length-take-le, length-drop, take-set-le, take_at, drop_at, drop-append-le, take-take, length-set, drop-set-lt}
use Rattle.std.proofs.lemmas.Slice.{take-put_mid, drop-put_mid, between_is}
use Rattle.book.specs.Order.{put}

-- a place with lower ranks in front of it, and none behind it
pub put_at : {X : Type 0} (rank : X → ℕ) (x : X) (xs : List X) (p : ℕ) → p ≤ length xs → IsPartitionPoint (λ y. ltb (rank y) (rank x) ≡ true) (λ y. ltb (rank y) (rank x) ≡ false) xs p
    → put rank x xs ≡ take p xs ++ x ∷ drop p xs
put_at rank x [] zero le h = refl
put_at rank x [] (suc p) le h = absurd (omega arith)
put_at rank x (y ∷ ys) zero le h = ap (λ t. cond t (y ∷ put rank x ys) (x ∷ (y ∷ ys))) (h.1 0 y (omega arith) (omega arith))
put_at rank x (y ∷ ys) (suc p) le h =
    ap (λ t. cond t (y ∷ put rank x ys) (x ∷ (y ∷ ys))) (h.0 0 y (omega arith) (omega arith))
    ∙ ap (λ l. y ∷ l) (put_at rank x ys p (omega arith) ((λ k d low high. h.0 (suc k) d (omega arith) (omega arith)), (λ k d low high. h.1 (suc k) d (omega arith) (omega arith))))

-- x written behind the first n rows, and brought back to its place p
module _ {X : Type 0} (rows : List X) (n p : ℕ) (x : X) (within : n < length rows) (few : p ≤ n) where
  part : between p (n + 1) (set rows n x) ≡ drop p (take n rows) ++ x ∷ []
  part =
      between_is (set rows n x) p (n + 1) ∙ ap (drop p) (take_more_set rows n x within)
      ∙ drop-append-le p (take n rows) (x ∷ []) (let b = length-take-le n rows (omega arith) in omega arith)

  module _ (ys : List X) (is : ys ≡ drop (length (between p (n + 1) (set rows n x)) - 1) (between p (n + 1) (set rows n x)) ++ take (length (between p (n + 1) (set rows n x)) - 1) (between p (n + 1) (set rows n x))) where
    turned : ys ≡ x ∷ drop p (take n rows)
    turned =
        let ds = drop p (take n rows) in
        let m = length (between p (n + 1) (set rows n x)) - 1 in
        let size : length ds ≡ m = let a = ap length part in let b = length-append ds (x ∷ []) in omega arith in
        is ∙ (λ i. drop m (part i) ++ take m (part i)) ∙ (λ i. drop_at ds (x ∷ []) m size i ++ take_at ds (x ∷ []) m size i)

    long : length ys ≡ n + 1 - p
    long =
        let a = ap length turned in
        let b = length-drop p (take n rows) in
        let c = length-take-le n rows (omega arith) in
        omega arith

    pub placed_used : take (n + 1) (put_mid p (n + 1 - p) (set rows n x) ys) ≡ take p (take n rows) ++ x ∷ drop p (take n rows)
    placed_used =
        let b = long in
        let c = length-set rows n x in
        take-put_mid p (n + 1 - p) (set rows n x) ys (n + 1) (omega arith) (omega arith)
        ∙ (λ i. (take-set-le p rows n x few ∙ sym (take-take p n rows few)) i ++ turned i)

    pub placed_rest : drop (n + 1) (put_mid p (n + 1 - p) (set rows n x) ys) ≡ drop (n + 1) rows
    placed_rest =
        let c = length-set rows n x in
        drop-put_mid p (n + 1 - p) (set rows n x) ys (n + 1) (omega arith) (omega arith) long ∙ drop-set-lt (n + 1) rows n x (omega arith)
