-- Induction over derivations, and derivations put together.
use mathlib.Core.Path.{◌≡◌, refl, sym, ap, ap₂, subst, subst₂, ◌∙◌}
use mathlib.Core.List.{List, []}
use mathlib.Core.Logic.{inl, inr}
use Prim.Native.Nat.{ℕ}
use native.Mathlib.Omega.{arith}
use Rattle.deduction.specs.Lists.{In}
use Rattle.deduction.specs.Grades.{Grading, NoWorse, Laws}
use Rattle.deduction.specs.Derivations.{Rules, System, Derivation, Derivations, by, none, more, grade, joined_grade, Derived, BestOf, Joined, joined_none, joined_more}
use Rattle.deduction.proofs.Grades.{no_worse_itself, joins_no_worse}

-- What the rules keep holds of every derivation with its grade.
module _ {I R G : Type 0} (s : System I R G) (P : I → G → Type 0)
    (keeps : (r : R) (g : G) → Joined s.grading P (s.rules.premises r) g → P (s.rules.conclusion r) (s.grading.join (s.toll r) g)) where
  mutual
    pub of_each : {i : I} (d : Derivation s.rules i) → P i (grade s d)
    of_each (by r ds) = keeps r (joined_grade s ds) (of_all ds)

    pub of_all : {is : List I} (ds : Derivations s.rules is) → Joined s.grading P is (joined_grade s ds)
    of_all none = joined_none
    of_all (more d ds) = joined_more (of_each d) (of_all ds)

module _ {I G : Type 0} {grading : Grading G} {P : I → G → Type 0} where
  pub joined_weaker : {Q : I → G → Type 0} → ((i : I) (g : G) → P i g → Q i g) → {is : List I} {g : G} → Joined grading P is g → Joined grading Q is g
  joined_weaker f joined_none = joined_none
  joined_weaker f (joined_more p ps) = joined_more (f _ _ p) (joined_weaker f ps)

  -- where P has nothing, the only grades to join are those of no item
  pub joined_nothing : ((i : I) (g : G) → P i g → ⊥) → {is : List I} {g : G} → Joined grading P is g → (is ≡ []) × (g ≡ grading.best)
  joined_nothing nothing joined_none = (refl, refl)
  joined_nothing nothing (joined_more {i = i} {g = g} p ps) = absurd (nothing i g p)

  -- where Q has a grade no worse for each, it has grades that join to one no worse
  pub joined_better : {Q : I → G → Type 0} → Laws grading → ((i : I) (g : G) → P i g → (h : G) × Q i h × NoWorse grading h g) → {is : List I} {g : G} → Joined grading P is g → (h : G) × Joined grading Q is h × NoWorse grading h g
  joined_better laws better joined_none = (grading.best, joined_none, no_worse_itself laws grading.best)
  joined_better laws better (joined_more {i = i} {g = g} {h = h} p ps) =
      let (x, q, le) = better i g p in
      let (y, qs, les) = joined_better laws better ps in
      (grading.join x y, joined_more q qs, joins_no_worse laws x g y h le les)

  -- each part of a join has a grade no worse than the whole
  pub joined_part : Laws grading → (j : I) {is : List I} {g : G} → Joined grading P is g → In j is → (h : G) × P j h × NoWorse grading h g
  joined_part laws j joined_none among = absurd among
  joined_part laws j (joined_more {g = g} {h = h} p ps) (inl here) = (g, subst (λ i. P i g) (sym here) p, laws.first_part g h)
  joined_part laws j (joined_more {g = g} {h = h} p ps) (inr there) =
      let (k, part, le) = joined_part laws j ps there in
      (k, part, laws.transitive k h (grading.join g h) le (laws.second_part g h))

module _ {I R G : Type 0} (s : System I R G) where
  -- what is derived one by one is derived in a list
  pub all_derived : {is : List I} {g : G} → Joined s.grading (Derived s) is g → (ds : Derivations s.rules is) × (joined_grade s ds ≡ g)
  all_derived joined_none = (none, refl)
  all_derived (joined_more d ds) = let rest = all_derived ds in (more d.0 rest.0, ap₂ s.grading.join d.1 rest.1)

  -- a rule over derived premises
  pub derived_by : (r : R) (g : G) → Joined s.grading (Derived s) (s.rules.premises r) g → Derived s (s.rules.conclusion r) (s.grading.join (s.toll r) g)
  derived_by r g ds = let all = all_derived ds in (by r all.0, ap (s.grading.join (s.toll r)) all.1)

  -- an axiom gives its toll
  no_grade : {is : List I} (ds : Derivations s.rules is) → is ≡ [] → joined_grade s ds ≡ s.grading.best
  no_grade none empty = refl
  no_grade (more d ds) empty = let never : ◌≡◌ {A = ℕ} 0 1 = cc in absurd (omega arith)

  pub axiom_grade : Laws s.grading → (r : R) → s.rules.premises r ≡ [] → (ds : Derivations s.rules (s.rules.premises r)) → grade s (by r ds) ≡ s.toll r
  axiom_grade laws r empty ds = ap (s.grading.join (s.toll r)) (no_grade ds empty) ∙ laws.best_right (s.toll r)

  -- an item has one best grade
  pub best_once : Laws s.grading → (i : I) (a b : G) → BestOf s i a → BestOf s i b → a ≡ b
  best_once laws i a b best_a best_b =
      laws.antisymmetric a b (subst (NoWorse s.grading a) best_b.attained.1 (best_a.no_better best_b.attained.0))
      (subst (NoWorse s.grading b) best_a.attained.1 (best_b.no_better best_a.attained.0))

-- Where each rule of s is one of these too, they derive what s does.
module _ {I R Q G : Type 0} (s : System I R G) (rules : Rules I Q) (toll : Q → G) (f : R → Q)
    (same_premises : (r : R) → rules.premises (f r) ≡ s.rules.premises r) (same_conclusion : (r : R) → rules.conclusion (f r) ≡ s.rules.conclusion r) (same_toll : (r : R) → toll (f r) ≡ s.toll r) where
  abbrev other : System I Q G
  other = record { rules = rules; grading = s.grading; toll = toll }

  derives_more : (r : R) (g : G) → Joined s.grading (Derived other) (s.rules.premises r) g → Derived other (s.rules.conclusion r) (s.grading.join (s.toll r) g)
  derives_more r g ds =
      subst₂ (Derived other) (same_conclusion r) (ap (λ t. s.grading.join t g) (same_toll r))
      (derived_by other (f r) g (subst (λ is. Joined s.grading (Derived other) is g) (sym (same_premises r)) ds))

  pub derived_also : (i : I) (g : G) → Derived s i g → Derived other i g
  derived_also i g (d, graded) = subst (Derived other i) graded (of_each s (Derived other) derives_more d)

-- Grades follow along a map that keeps the best, joins and tolls.
module _ {I R G H : Type 0} (s : System I R G) (grading : Grading H) (toll : R → H) (f : G → H)
    (keeps_best : f s.grading.best ≡ grading.best) (keeps_join : (a b : G) → f (s.grading.join a b) ≡ grading.join (f a) (f b)) (keeps_toll : (r : R) → f (s.toll r) ≡ toll r) where
  abbrev mapped : System I R H
  mapped = record { rules = s.rules; grading = grading; toll = toll }

  mutual
    pub grade_follows : {i : I} (d : Derivation s.rules i) → f (grade s d) ≡ grade mapped d
    grade_follows (by r ds) = keeps_join (s.toll r) (joined_grade s ds) ∙ ap₂ grading.join (keeps_toll r) (joined_grade_follows ds)

    pub joined_grade_follows : {is : List I} (ds : Derivations s.rules is) → f (joined_grade s ds) ≡ joined_grade mapped ds
    joined_grade_follows none = keeps_best
    joined_grade_follows (more d ds) = keeps_join (grade s d) (joined_grade s ds) ∙ ap₂ grading.join (grade_follows d) (joined_grade_follows ds)
