use Rattle.std.proofs.Common.{Bool, true, false, ◌&&◌, T, Some, None, Option, subst, MatchOption}
use Rattle.grade_tests.proofs.next_row.Goals as goal

weaker : {X : Type 0} (o : Option X) (P P' : Type 0) (Q Q' : X → Type 0) → (P → P') → ((x : X) → Q x → Q' x) → MatchOption o P Q → MatchOption o P' Q'
weaker None P P' Q Q' none some h = none h
weaker (Some x) P P' Q Q' none some h = some x h

and_first : (x y : Bool) → T (x && y) → T x
and_first true y h = tt
and_first false y h = h

pub returns : goal.returns
returns g c = weaker c.take.result _ _ _ _ (λ h. h.0)
    (λ next taken queue x held. subst T (c.agrees.ensures next.grade x.grade) (and_first _ _ (taken.best queue x held)))
    c.take.ensures
