use Rattle.std.proofs.Common.{◌≡◌, ℕ, ◌<◌, ◌≢◌, List, Some, None, Option, length, take, MatchOption, arith, rules}
use Rattle.std.specs.List.{AllWithin, HoldsAt}
use Rattle.std.proofs.lemmas.Iterator.{IsFirst-from_position, YieldsList-from_slice, YieldsList-from_take}
use Rattle.queue.specs.Queues.{Holds, StandsAt}
use Rattle.queue.proofs.Members.{holds_place}
use Rattle.queue.proofs.find.Goals as goal

module _ {X : Type 0} (xs : List X) (n : ℕ) (e : X) where
  found : (r : Option ℕ) → MatchOption r (AllWithin (λ x. x ≢ e) (take n xs) 0 (length (take n xs))) (λ i. (i < length (take n xs)) × HoldsAt (λ x. x ≡ e) (take n xs) i × AllWithin (λ x. x ≢ e) (take n xs) 0 i)
      → MatchOption r (Holds xs n e → ⊥) (λ place. StandsAt xs n place e)
  found None h = λ (k, low, is). h k e (omega arith) low is
  found (Some i) (low, is, first) = holds_place xs n e i low (is e)

pub returns : goal.returns
returns g c =
    let q = c.args.queue.now in
    let n = c.args.count in
    let w = c.args.wanted.now in
    found q n w c.position.result
    (IsFirst-from_position _ _ c.position.result (λ x. x ≡ w) (λ x. x ≢ w) c.position.ensures.ran (YieldsList-from_take n (YieldsList-from_slice q cc) cc) (λ x f k. search rules) (λ x f k. search rules))
