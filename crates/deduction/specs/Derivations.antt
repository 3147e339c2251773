-- Items, rules, derivations and their grades.
use Rattle.std.specs.Prelude.{◌≡◌, List, [], ◌∷◌}
use Rattle.deduction.specs.Grades.{Grading, NoWorse}

-- Rules over items of type I. Each rule of R leads from its premises, any number of items in order, to its conclusion.
-- A rule is one instance, with every item named. One without premises is an axiom.
pub record Rules (I R : Type 0) : Type 0 where
  pub premises : R → List I
  pub conclusion : R → I

-- A deduction system: rules, grades, and the grade of each rule's toll. An axiom's toll is the grade that it gives.
pub record System (I R G : Type 0) : Type 0 where
  pub rules : Rules I R
  pub grading : Grading G
  pub toll : R → G

module _ {I R : Type 0} (rules : Rules I R) where
  -- `Derivation i`: the ways to derive i, by a rule that concludes it, with a derivation of each premise.
  -- `Derivations is`: a derivation of each item of the list, in order.
  mutual
    pub data Derivation : I → Type 0 where
      by : (r : R) → Derivations (rules.premises r) → Derivation (rules.conclusion r)

    pub data Derivations : List I → Type 0 where
      none : Derivations []
      more : {i : I} {is : List I} → Derivation i → Derivations is → Derivations (i ∷ is)

module _ {I R G : Type 0} (s : System I R G) where
  -- The grade of a derivation: its rule's toll joined with its premises' grades in order.
  -- With no premise that is the toll itself, since joining with the best changes nothing.
  abbrev mutual
    pub grade : {i : I} → Derivation s.rules i → G
    grade (by r ds) = s.grading.join (s.toll r) (joined_grade ds)

    -- the grades of a list of derivations, joined in order
    pub joined_grade : {is : List I} → Derivations s.rules is → G
    joined_grade none = s.grading.best
    joined_grade (more d ds) = s.grading.join (grade d) (joined_grade ds)

  -- some derivation of i has the grade g
  abbrev pub Derived : I → G → Type 0
  Derived i g = (d : Derivation s.rules i) × (grade d ≡ g)

  -- b is the best grade over all derivations of i: one has it, and none is better
  pub record BestOf (i : I) (b : G) : Type 0 where
    pub attained : Derived i b
    pub no_better : (d : Derivation s.rules i) → NoWorse s.grading b (grade d)

-- `Joined grading P is g`: each item of the list has a grade by P, and g is these grades joined in order
pub data Joined {I G : Type 0} (grading : Grading G) (P : I → G → Type 0) : List I → G → Type 0 where
  joined_none : Joined grading P [] grading.best
  joined_more : {i : I} {is : List I} {g h : G} → P i g → Joined grading P is h → Joined grading P (i ∷ is) (grading.join g h)
