-- What the queue's contracts cite. The queue is the first n places of a list, and that f a b is
-- true says that a is no worse than b. IsPermutation xs ys says that ys has the same elements as xs, each
-- as often, in whatever order.
use Rattle.std.specs.Prelude.{◌≡◌, ℕ, ◌+◌, ◌-◌, ◌<◌, ◌≤◌, Bool, T, List, ◌∷◌, length, take, drop, slice_index_or}
use Rattle.std.specs.List.Sorted.{IsPermutation}
use Rattle.std.specs.List.{Contains}
use Rattle.queue.specs.Heaps.{at, Heap}

module _ {X : Type 0} where
  -- e is one of the entries in the queue
  abbrev pub Holds : List X → ℕ → X → Type 0
  Holds xs n e = Contains (take n xs) e

  -- e stands at this place of the queue
  pub record StandsAt (xs : List X) (n place : ℕ) (e : X) : Type 0 where
    pub low : place < n
    pub inside : place < length xs
    pub is : (d : X) → slice_index_or xs place d ≡ e

  -- no entry is in the queue twice
  abbrev pub Single : List X → ℕ → Type 0
  Single xs n = (i j : ℕ) (e : X) → StandsAt xs n i e → StandsAt xs n j e → i ≡ j

module _ {X : Type 0} (f : X → X → Bool) where
  -- The first n places hold a queue: there are so many, and they are a heap.
  pub record Queue (xs : List X) (n : ℕ) : Type 0 where
    pub room : n ≤ length xs
    pub heap : (d : X) → Heap f (at xs d) n

  -- From xs to ys, e has come to the n entries of the queue.
  pub record Put (xs ys : List X) (n : ℕ) (e : X) : Type 0 where
    pub room : n < length xs
    pub entries : IsPermutation (e ∷ take n xs) (take (n + 1) ys)
    pub behind : drop (n + 1) ys ≡ drop (n + 1) xs
    pub queue : Queue xs n → Queue ys (n + 1)

  -- From xs to ys, e has gone from the n entries of the queue; it stands in the place that fell free.
  pub record Taken (xs ys : List X) (n : ℕ) (e : X) : Type 0 where
    pub some : 0 < n
    pub room : n ≤ length xs
    pub held : Holds xs n e
    pub best : Queue xs n → (x : X) → Holds xs n x → T (f e x)
    pub entries : IsPermutation (take n xs) (e ∷ take (n - 1) ys)
    pub behind : drop (n - 1) ys ≡ e ∷ drop n xs
    pub queue : Queue xs n → Queue ys (n - 1)

  -- e may come for what stands at this place: it is no worse
  pub record MayReplace (xs : List X) (n place : ℕ) (e : X) : Type 0 where
    pub room : n ≤ length xs
    pub low : place < n
    pub better : (d : X) → T (f e (slice_index_or xs place d))

  -- From xs to ys, e has come to the n entries of the queue for one that was old; the others are left.
  pub record Replaced (xs ys : List X) (n : ℕ) (old e : X) : Type 0 where
    pub room : n ≤ length xs
    pub better : T (f e old)
    pub others : List X
    pub before : IsPermutation (take n xs) (old ∷ others)
    pub after : IsPermutation (e ∷ others) (take n ys)
    pub behind : drop n ys ≡ drop n xs
    pub queue : Queue xs n → Queue ys n
