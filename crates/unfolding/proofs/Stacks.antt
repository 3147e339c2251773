-- Stacks: the first places of a list, the last on top.
use Rattle.std.proofs.Common.{◌≡◌, ℕ, ◌+◌, ◌-◌, ◌<◌, ◌≤◌, List, [], ◌∷◌, reverse, length, get_or, take, set, sym, ap, ◌∙◌, arith}
use Rattle.std.proofs.lemmas.List.{take_more, take_more_set, reverse-append, length-reverse, length-take-le}
use Rattle.unfolding.specs.Rest.{stack}

pub stack_long : (list : List ℕ) (count : ℕ) → count ≤ length list → length (stack list count) ≡ count
stack_long list count le = length-reverse (take count list) ∙ length-take-le count list le

-- one row more stands on top
pub stack_more : (list : List ℕ) (count : ℕ) → count < length list → stack list (count + 1) ≡ get_or list count 0 ∷ stack list count
stack_more list count lt = ap reverse (take_more list count 0 lt) ∙ reverse-append (take count list) (get_or list count 0 ∷ [])

-- the top, and what is below it
pub stack_top : (list : List ℕ) (count : ℕ) → 0 < count → count ≤ length list → stack list count ≡ get_or list (count - 1) 0 ∷ stack list (count - 1)
stack_top list count some le = let e : count - 1 + 1 ≡ count = omega arith in ap (stack list) (sym e) ∙ stack_more list (count - 1) (omega arith)

-- a row put where the stack ends
pub stack_put : (list : List ℕ) (count k : ℕ) → count < length list → stack (set list count k) (count + 1) ≡ k ∷ stack list count
stack_put list count k lt = ap reverse (take_more_set list count k lt) ∙ reverse-append (take count list) (k ∷ [])
