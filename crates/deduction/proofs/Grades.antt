-- What follows at once from the laws of grades.
use mathlib.Core.Path.{◌≡◌, subst, fun_ext}
use mathlib.Core.Bool.{Bool, true, false, ◌||◌}
use mathlib.Core.Logic.{◌⊎◌, inl, inr, ⊎_elim}
use lib.Dec.{T}
use Rattle.deduction.specs.Grades.{Grading, NoWorse, Laws}

one_of : (x y : Bool) → T (x || y) → T x ⊎ T y
one_of true y h = inl tt
one_of false y h = inr h

module _ {G : Type 0} {grading : Grading G} (laws : Laws grading) where
  -- of two grades one is no worse
  pub either : (a b : G) → NoWorse grading a b ⊎ NoWorse grading b a
  either a b = one_of (grading.no_worse a b) (grading.no_worse b a) (laws.total a b)

  pub no_worse_itself : (a : G) → NoWorse grading a a
  no_worse_itself a = ⊎_elim (λ h. h) (λ h. h) (either a a)

  -- joining keeps which is no worse, in both parts at once
  pub joins_no_worse : (a b c d : G) → NoWorse grading a b → NoWorse grading c d → NoWorse grading (grading.join a c) (grading.join b d)
  joins_no_worse a b c d ab cd =
      laws.transitive (grading.join a c) (grading.join b c) (grading.join b d) (laws.keeps_right a b c ab) (laws.keeps_left c d b cd)

-- The laws of a grading whose order agrees with another relation, from what is known of that relation and of joining.
pub laws_from_order : {G : Type 0} (grading : Grading G) (before : G → G → Bool) → ((a b : G) → before a b ≡ grading.no_worse a b)
    → ((a b : G) → T (before a b || before b a)) → ((a b c : G) → T (before a b) → T (before b c) → T (before a c)) → ((a b : G) → T (before a b) → T (before b a) → a ≡ b)
    → ((a b c : G) → grading.join (grading.join a b) c ≡ grading.join a (grading.join b c)) → ((a : G) → grading.join grading.best a ≡ a) → ((a : G) → grading.join a grading.best ≡ a)
    → ((a b c : G) → NoWorse grading a b → NoWorse grading (grading.join c a) (grading.join c b)) → ((a b c : G) → NoWorse grading a b → NoWorse grading (grading.join a c) (grading.join b c))
    → ((a b : G) → NoWorse grading a (grading.join a b)) → ((a b : G) → NoWorse grading b (grading.join a b)) → Laws grading
laws_from_order {G} grading before agrees total transitive antisymmetric associative best_left best_right keeps_left keeps_right first_part second_part =
    let same : before ≡ grading.no_worse = fun_ext (λ a. fun_ext (agrees a)) in
    record {
      total = subst (λ (r : G → G → Bool). (a b : G) → T (r a b || r b a)) same total;
      transitive = subst (λ (r : G → G → Bool). (a b c : G) → T (r a b) → T (r b c) → T (r a c)) same transitive;
      antisymmetric = subst (λ (r : G → G → Bool). (a b : G) → T (r a b) → T (r b a) → a ≡ b) same antisymmetric;
      associative = associative;
      best_left = best_left;
      best_right = best_right;
      keeps_left = keeps_left;
      keeps_right = keeps_right;
      first_part = first_part;
      second_part = second_part;
    }
