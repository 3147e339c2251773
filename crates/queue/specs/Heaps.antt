-- The heap inside the queue. That f a b is true says that a is no worse than b.
use Rattle.std.specs.Prelude.{◌≡◌, ℕ, ◌+◌, ◌*◌, ◌<◌, ◌≤◌, Bool, T, List, take, drop, ◌≢◌, slice_index_or}
use Rattle.std.specs.List.Sorted.{IsPermutation}

-- ys is xs with its first n entries in another order
pub record Reordered {X : Type 0} (xs ys : List X) (n : ℕ) : Type 0 where
  pub front : IsPermutation (take n xs) (take n ys)
  pub back : drop n ys ≡ drop n xs

-- what stands at each place, and d where there is none
abbrev pub at : {X : Type 0} → List X → X → ℕ → X
at xs d k = slice_index_or xs k d

-- place k is right below place p
abbrev pub Child : ℕ → ℕ → Type 0
Child p k = (p * 2 + 1 ≤ k) × (k ≤ p * 2 + 2)

-- v k stands at place k
module _ {X : Type 0} (f : X → X → Bool) (v : ℕ → X) where
  abbrev pub InOrder : ℕ → ℕ → Type 0
  InOrder p k = T (f (v p) (v k))

  -- among the first n, each entry from place low on is no worse than those right below it
  abbrev pub HeapBelow : ℕ → ℕ → Type 0
  HeapBelow low n = (p k : ℕ) → low ≤ p → Child p k → k < n → InOrder p k

  abbrev pub Heap : ℕ → Type 0
  Heap n = HeapBelow 0 n

  -- the entry at c is no worse than those right below p
  abbrev pub BestChild : ℕ → ℕ → ℕ → Type 0
  BestChild p c n = (k : ℕ) → Child p k → k < n → InOrder c k

  -- the entry right above j is no worse than those right below it
  abbrev pub Bridged : ℕ → ℕ → Type 0
  Bridged j n = (p k : ℕ) → Child p j → Child j k → k < n → InOrder p k

  -- a heap, but that the entry at j may be better than the one above it
  pub record Rising (j n : ℕ) : Type 0 where
    pub others : (p k : ℕ) → Child p k → k < n → (k ≢ j) → InOrder p k
    pub bridged : Bridged j n

  -- a heap, but that the entry at j may be worse than those below it
  pub record Sinking (j n : ℕ) : Type 0 where
    pub others : (p k : ℕ) → Child p k → k < n → (p ≢ j) → InOrder p k
    pub bridged : Bridged j n
