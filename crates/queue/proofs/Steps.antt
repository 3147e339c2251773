-- What `put`, `take` and `replace` come to.
use Rattle.std.proofs.Common.{◌≡◌, ℕ, ◌+◌, ◌-◌, ◌<◌, ◌≤◌, Bool, T, List, [], ◌∷◌, ◌++◌, length, get_or, take, drop, set, sym, ap, ◌∙◌, subst, ⊎_elim, arith}
use Rattle.std.specs.List.{swap}
use Rattle.std.specs.List.Sorted.{IsPermutation}
use Rattle.std.proofs.lemmas.List.{get_or_read, get_or-take, get_or-set_same, get_or-set_other, length-set, length-take-le, take_more, take_more_set, drop_more, drop-set-lt}
use Rattle.std.proofs.lemmas.List.Sorted.{IsPermutation-sym, IsPermutation-trans, IsPermutation-cons, IsPermutation-to_front}
use Rattle.std.proofs.lemmas.List.Edits.{Swapped}
use Rattle.std.proofs.lemmas.Bool.{cases_eq}
use Rattle.std.proofs.Math.Seq.{take-set-lt}
use Rattle.grade.specs.Laws.{Total, Transitive}
use Rattle.queue.specs.Heaps.{at, Heap, HeapBelow, Rising, Reordered}
use Rattle.queue.specs.Queues.{Put, Taken, Replaced}
use Rattle.queue.proofs.Orders.{both, first_best}
use Rattle.queue.proofs.Places.{swaps, others, to_front, others_set}

module _ {X : Type 0} (f : X → X → Bool) (xs ys : List X) (n : ℕ) (long : length ys ≡ length xs) where
  -- e stood behind the queue and rose
  pub puts : (e : X) → n < length xs
      → ((m : ℕ) → n < m → m ≤ length (set xs n e) → Reordered (set xs n e) ys m)
      → ((m : ℕ) (d : X) → n < m → Rising f (at (set xs n e) d) n m → Heap f (at ys d) m)
      → Put f xs ys n e
  puts e l moved heap =
      let r = moved (n + 1) (omega arith) (omega (arith, length-set xs n e)) in record {
        room = l;
        entries = IsPermutation-trans _ _ _ (IsPermutation-sym _ _ (IsPermutation-to_front (take n xs) e)) (subst (λ (t : List X). IsPermutation t (take (n + 1) ys)) (take_more_set xs n e l) r.front);
        behind = r.back ∙ drop-set-lt (n + 1) xs n e (omega arith);
        queue = λ q. record { room = omega arith; heap = λ d. heap (n + 1) d (omega arith) (lifted d (q.heap d)) };
      }
    where
      lifted : (d : X) → Heap f (at xs d) n → Rising f (at (set xs n e) d) n (n + 1)
      lifted d h = record {
        others = λ p k c m u. both f (get_or-set_other xs n p e d (omega arith)) (get_or-set_other xs n k e d u) (h p k (omega arith) c (omega arith));
        bridged = λ p k c b m. absurd (omega arith);
      }

  module _ (total : Total f) (chain : Transitive f) where
    -- e stood where old had stood, and rose
    pub replaces : (k : ℕ) (old e : X) → k < n → n ≤ length xs → ((d : X) → get_or xs k d ≡ old) → T (f e old)
        → ((m : ℕ) → k < m → m ≤ length (set xs k e) → Reordered (set xs k e) ys m)
        → ((m : ℕ) (d : X) → k < m → Rising f (at (set xs k e) d) k m → Heap f (at ys d) m)
        → Replaced f xs ys n old e
    replaces k old e l le is better moved heap =
        let long_set = length-set xs k e in
        let r = moved n l (omega arith) in
        let cut = length-take-le n xs le in
        let cut_set = length-set (take n xs) k e in
        let here : (d : X) → get_or (set (take n xs) k e) k d ≡ e = λ d. get_or-set_same (take n xs) k e d (omega arith) in
        let come : IsPermutation (set (take n xs) k e) (e ∷ others (take n xs) k) = subst (λ (t : List X). IsPermutation (set (take n xs) k e) (e ∷ t)) (others_set (take n xs) k e) (to_front (set (take n xs) k e) k e (omega arith) here) in record {
          room = le;
          better = better;
          others = others (take n xs) k;
          before = to_front (take n xs) k old (omega arith) (λ d. get_or-take n xs k d l ∙ is d);
          after = IsPermutation-trans _ _ _ (IsPermutation-sym _ _ come) (subst (λ (t : List X). IsPermutation t (take n ys)) (take-set-lt n xs k e l) r.front);
          behind = r.back ∙ drop-set-lt n xs k e l;
          queue = λ q. record { room = omega arith; heap = λ d. heap n d l (lifted d (q.heap d)) };
        }
      where
        -- e is no worse than what was no worse than these
        over : (d : X) (q : ℕ) → T (f (get_or xs k d) (get_or xs q d)) → T (f e (get_or xs q d))
        over d q h = chain _ _ _ better (subst (λ u. T (f u (get_or xs q d))) (is d) h)

        lifted : (d : X) → Heap f (at xs d) n → Rising f (at (set xs k e) d) k n
        lifted d h = record {
          others = λ p q c m u. ⊎_elim
              (λ s. both f (ap (at (set xs k e) d) s ∙ get_or-set_same xs k e d (omega arith)) (get_or-set_other xs k q e d u) (over d q (h k q (omega arith) (omega arith, omega arith) m)))
              (λ s. both f (get_or-set_other xs k p e d s) (get_or-set_other xs k q e d u) (h p q (omega arith) c m))
              (cases_eq p k);
          bridged = λ p q c b m. both f (get_or-set_other xs k p e d (omega arith)) (get_or-set_other xs k q e d (omega arith)) (chain _ _ _ (h p k (omega arith) c l) (h k q (omega arith) b m));
        }

    -- e stood first, changed places with the last entry ws, which sank
    pub takes : (ws : List X) (e : X) → 0 < n → n ≤ length xs → e ≡ get_or xs 0 e
        → ws ≡ swap xs 0 (n - 1) → length ws ≡ length xs → ((d : X) → Swapped (at xs d) (at ws d) 0 (n - 1))
        → Reordered ws ys (n - 1) → ((d : X) → HeapBelow f (at ws d) 1 (n - 1) → Heap f (at ys d) (n - 1))
        → Taken f xs ys n e
    takes ws e pos le read is as_long s r heap =
        let m = n - 1 in
        let up : m + 1 ≡ n = omega arith in
        let first : (d : X) → e ≡ get_or xs 0 d = get_or_read xs 0 e (omega arith) read in
        let last : get_or ws m e ≡ e = (s e).1 ∙ sym read in
        let w = swaps xs ws 0 m n pos (omega arith) le is in
        let inside : m < length ws = omega arith in
        let cut : take n ws ≡ take m ws ++ (e ∷ []) = ap (λ (k : ℕ). take k ws) (sym up) ∙ take_more ws m e inside ∙ ap (λ (y : X). take m ws ++ (y ∷ [])) last in
        let out : drop m ws ≡ e ∷ drop n ws = drop_more ws m e inside ∙ ap (λ (y : X). y ∷ drop (m + 1) ws) last ∙ ap (λ (k : ℕ). e ∷ drop k ws) up in
        let long_take = length-take-le n xs le in record {
          some = pos;
          room = le;
          held = (0, omega arith, get_or-take n xs 0 e pos ∙ sym (first e));
          best = λ q x h.
              let k : h.0 < n = omega (arith, h.1) in
              both f (first x) (sym h.2 ∙ get_or-take n xs h.0 x k) (first_best f total chain (at xs x) n (q.heap x) h.0 k);
          entries = IsPermutation-trans _ _ _ (subst (IsPermutation (take n xs)) cut w.front) (IsPermutation-trans _ _ _ (IsPermutation-to_front (take m ws) e) (IsPermutation-cons e _ _ r.front));
          behind = r.back ∙ out ∙ ap (λ (l : List X). e ∷ l) w.back;
          queue = λ q. record {
            room = omega arith;
            heap = λ d. heap d (λ p k lo c l. both f ((s d).2 p (omega arith) (omega arith)) ((s d).2 k (omega arith) (omega arith)) (q.heap d p k (omega arith) c (omega arith)));
          };
        }
