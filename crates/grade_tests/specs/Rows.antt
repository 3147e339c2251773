-- Waiting rows in the queue, in the words of whoever works them off.
use Rattle.std.specs.Prelude.{◌≡◌, ℕ, Bool, T, ◌≢◌, ◌⊎◌, ◌↔◌, List}
use Rattle.grade.specs.declared.waiting.Waiting.{Waiting}
use Rattle.queue.specs.Queues.{Holds}

module _ {G : Type 0} where
  -- no row that waits has a grade better than this one's
  abbrev pub NoneBetter : (G → G → Bool) → List (Waiting G) → ℕ → Waiting G → Type 0
  NoneBetter noworse rows n next = (x : Waiting G) → Holds rows n x → T (noworse next.grade x.grade)

  abbrev pub waits : ℕ → G → Waiting G
  waits row grade = record { grade = grade; row = row }

  -- The row waits with another grade, and all others wait as they did.
  abbrev pub Regraded : List (Waiting G) → List (Waiting G) → ℕ → ℕ → G → G → Type 0
  Regraded rows then n row old new =
      (x : Waiting G) → Holds then n x ↔ ((Holds rows n x × (x ≢ waits row old)) ⊎ (x ≡ waits row new))
