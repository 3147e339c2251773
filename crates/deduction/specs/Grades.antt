-- Grades: how they are compared and joined, and the laws that this has to keep.
use Rattle.std.specs.Prelude.{◌≡◌, Bool, ◌||◌, T}

-- What is known of grades of type G: which of two is no worse, which is the best, and how two are joined.
pub record Grading (G : Type 0) : Type 0 where
  pub no_worse : G → G → Bool
  pub best : G
  pub join : G → G → G

-- a is no worse than b
abbrev pub NoWorse : {G : Type 0} → Grading G → G → G → Type 0
NoWorse grading a b = T (grading.no_worse a b)

-- The laws of grades. Nothing else about grades is ever used. Joining need not be commutative.
pub record Laws {G : Type 0} (grading : Grading G) : Type 0 where
  -- a total order
  pub total : (a b : G) → T (grading.no_worse a b || grading.no_worse b a)
  pub transitive : (a b c : G) → NoWorse grading a b → NoWorse grading b c → NoWorse grading a c
  pub antisymmetric : (a b : G) → NoWorse grading a b → NoWorse grading b a → a ≡ b
  -- joining is associative, and joining with the best changes nothing
  pub associative : (a b c : G) → grading.join (grading.join a b) c ≡ grading.join a (grading.join b c)
  pub best_left : (a : G) → grading.join grading.best a ≡ a
  pub best_right : (a : G) → grading.join a grading.best ≡ a
  -- joining the same on one side of both keeps which is no worse
  pub keeps_left : (a b c : G) → NoWorse grading a b → NoWorse grading (grading.join c a) (grading.join c b)
  pub keeps_right : (a b c : G) → NoWorse grading a b → NoWorse grading (grading.join a c) (grading.join b c)
  -- a join is never better than either part
  pub first_part : (a b : G) → NoWorse grading a (grading.join a b)
  pub second_part : (a b : G) → NoWorse grading b (grading.join a b)
