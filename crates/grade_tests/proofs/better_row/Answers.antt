use Rattle.std.proofs.Common.{◌≡◌, ℕ, Bool, ◌≢◌, ◌⊎◌, ◌↔◌, List, is_some, Some, None, MatchBool, Option, sym, ◌∙◌, subst, MatchOption}
use Rattle.queue.specs.Queues.{Holds, Single, StandsAt, Replaced}
use Rattle.queue.proofs.Members.{replaced_holds}
use Rattle.grade_tests.proofs.better_row.Goals as goal

-- what was found at the place is what was replaced there
module _ {X : Type 0} (f : X → X → Bool) (xs ys : List X) (n place : ℕ) (old new : X) (found : StandsAt xs n place old) where
  abbrev Told : Bool → Type 0
  Told r = MatchBool r (Single xs n → (x : X) → Holds ys n x ↔ ((Holds xs n x × (x ≢ old)) ⊎ (x ≡ new))) (ys ≡ xs)

  told : (P : Type 0) (o : Option X) → MatchOption o (P × (ys ≡ xs)) (λ a. StandsAt xs n place a × Replaced f xs ys n a new) → Told (is_some o)
  told P None h = h.1
  told P (Some a) (stood, replaced) =
      λ single. replaced_holds (subst (λ y. Replaced f xs ys n y new) (sym (stood.is a) ∙ found.is a) replaced) single

  told_by : (P : Type 0) (o : Option X) (r : Bool) → r ≡ is_some o → MatchOption o (P × (ys ≡ xs)) (λ a. StandsAt xs n place a × Replaced f xs ys n a new) → Told r
  told_by P o r e h = subst Told (sym e) (told P o h)

pub returns-in-Some : goal.returns-in-Some
returns-in-Some g c =
    told_by _ c.args.waiting.now c.replace.new.queue c.args.count c.in-Some.place _ _ c.in-Some.ensures _ c.replace.result _ c.is_some.ensures c.replace.ensures
