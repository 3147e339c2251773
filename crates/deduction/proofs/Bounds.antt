-- Every derivation is bounded from below by what is settled or waits; the rest of the theory follows from this.
use mathlib.Core.Path.{subst}
use mathlib.Core.List.{List, ◌∷◌}
use mathlib.Core.Logic.{◌⊎◌, inl, inr, ⊎_elim}
use Rattle.deduction.specs.Lists.{In}
use Rattle.deduction.specs.Grades.{NoWorse, Laws}
use Rattle.deduction.specs.Derivations.{System, Derivation, Derivations, grade, joined_grade, Derived, BestOf, Joined, joined_none, joined_more}
use Rattle.deduction.specs.Saturation.{Reached, WaitsBelow, Invariant, Next}
use Rattle.deduction.proofs.Grades.{no_worse_itself, joins_no_worse}
use Rattle.deduction.proofs.Derivations.{of_each, of_all, joined_part, derived_by, best_once}

module _ {I R G : Type 0} {s : System I R G} (laws : Laws s.grading) {Settled Waiting : I → G → Type 0} (inv : Invariant s Settled Waiting) where
  -- i is settled no worse than g, or something waits no worse than g
  abbrev Bound : I → G → Type 0
  Bound i g = Reached s Settled i g ⊎ WaitsBelow s Waiting g

  -- all are settled, with grades that join to one no worse than g, or something waits no worse than g
  abbrev ListBound : List I → G → Type 0
  ListBound is g = ((h : G) × Joined s.grading Settled is h × NoWorse s.grading h g) ⊎ WaitsBelow s Waiting g

  below_later : (g h : G) → NoWorse s.grading g h → WaitsBelow s Waiting g → WaitsBelow s Waiting h
  below_later g h le (i, (k, waits, below)) = (i, (k, waits, laws.transitive k g h below le))

  pair : {i : I} {is : List I} (g h : G) → Bound i g → ListBound is h → ListBound (i ∷ is) (s.grading.join g h)
  pair g h (inl (x, settled, le)) (inl (y, all, les)) = inl (s.grading.join x y, joined_more settled all, joins_no_worse laws x g y h le les)
  pair g h (inl settled) (inr w) = inr (below_later h (s.grading.join g h) (laws.second_part g h) w)
  pair g h (inr w) all = inr (below_later g (s.grading.join g h) (laws.first_part g h) w)

  all_bound : {is : List I} {g : G} → Joined s.grading Bound is g → ListBound is g
  all_bound joined_none = inl (s.grading.best, joined_none, no_worse_itself laws s.grading.best)
  all_bound (joined_more {g = g} {h = h} b bs) = pair g h b (all_bound bs)

  apply : (r : R) (g : G) → ListBound (s.rules.premises r) g → Bound (s.rules.conclusion r) (s.grading.join (s.toll r) g)
  apply r g (inr w) = inr (below_later g (s.grading.join (s.toll r) g) (laws.second_part (s.toll r) g) w)
  apply r g (inl (h, all, le)) = known (inv.covered r h all)
    where
      known : Reached s Settled (s.rules.conclusion r) (s.grading.join (s.toll r) h) ⊎ Reached s Waiting (s.rules.conclusion r) (s.grading.join (s.toll r) h) → Bound (s.rules.conclusion r) (s.grading.join (s.toll r) g)
      known k =
          let later : (x : G) → NoWorse s.grading x (s.grading.join (s.toll r) h) → NoWorse s.grading x (s.grading.join (s.toll r) g) = λ x below. laws.transitive x (s.grading.join (s.toll r) h) (s.grading.join (s.toll r) g) below (laws.keeps_left h g (s.toll r) le) in
          ⊎_elim (λ c. inl (c.0, c.1, later c.0 c.2)) (λ w. inr (s.rules.conclusion r, (w.0, w.1, later w.0 w.2))) k

  keeps_bound : (r : R) (g : G) → Joined s.grading Bound (s.rules.premises r) g → Bound (s.rules.conclusion r) (s.grading.join (s.toll r) g)
  keeps_bound r g bs = apply r g (all_bound bs)

  pub bound : {i : I} (d : Derivation s.rules i) → Reached s Settled i (grade s d) ⊎ WaitsBelow s Waiting (grade s d)
  bound d = of_each s Bound keeps_bound d

  pub list_bound : {is : List I} (ds : Derivations s.rules is) → ((h : G) × Joined s.grading Settled is h × NoWorse s.grading h (joined_grade s ds)) ⊎ WaitsBelow s Waiting (joined_grade s ds)
  list_bound ds = all_bound (of_all s Bound keeps_bound ds)

  -- Settled grades are final.
  pub settled_final : (i : I) (g : G) → Settled i g → BestOf s i g
  settled_final i g here = record { attained = inv.settled_derived i g here; no_better = λ d. from d (bound d) }
    where
      from : (d : Derivation s.rules i) → Reached s Settled i (grade s d) ⊎ WaitsBelow s Waiting (grade s d) → NoWorse s.grading g (grade s d)
      from d (inl (h, there, le)) = subst (λ x. NoWorse s.grading x (grade s d)) (inv.once i h g there here) le
      from d (inr (j, (h, waits, le))) = laws.transitive g h (grade s d) (inv.in_order i j g h here waits) le

  -- What isn't settled is bounded by what waits.
  pub unsettled_bound : {i : I} → ((g : G) → Settled i g → ⊥) → (d : Derivation s.rules i) → WaitsBelow s Waiting (grade s d)
  unsettled_bound unsettled d = ⊎_elim (λ settled. absurd (unsettled settled.0 settled.1)) (λ w. w) (bound d)

  -- Nothing that waits is better than b: then neither is anything unsettled, ..
  module _ (b : G) (least : (i : I) (g : G) → Waiting i g → NoWorse s.grading b g) where
    pub unsettled_no_better : {i : I} → ((g : G) → Settled i g → ⊥) → (d : Derivation s.rules i) → NoWorse s.grading b (grade s d)
    unsettled_no_better unsettled d =
        let (j, (h, waits, le)) = unsettled_bound unsettled d in
        laws.transitive b h (grade s d) (least j h waits) le

    -- .. nor a list of derivations with an unsettled item among theirs
    pub list_no_better : (i : I) → ((g : G) → Settled i g → ⊥) → {is : List I} → In i is → (ds : Derivations s.rules is) → NoWorse s.grading b (joined_grade s ds)
    list_no_better i unsettled among ds =
        let (h, d, le) = joined_part laws i (of_all s (Derived s) (derived_by s) ds) among in
        laws.transitive b h (joined_grade s ds) (subst (NoWorse s.grading b) d.1 (unsettled_no_better unsettled d.0)) le

  -- The next to settle has the best grade.
  pub next_best : (j : I) (b : G) → Next s Settled Waiting j b → BestOf s j b
  next_best j b next = record { attained = inv.waiting_derived j b next.waits; no_better = unsettled_no_better b next.least next.fresh }

  -- Nothing waits: exactly the derivable items are settled, each with its best grade.
  module _ (done : (i : I) (g : G) → Waiting i g → ⊥) where
    pub finished_all : (i : I) → Derivation s.rules i → (g : G) × Settled i g
    finished_all i d = ⊎_elim (λ settled. (settled.0, settled.1)) (λ w. absurd (done w.0 w.1.0 w.1.1)) (bound d)

    pub finished_best : (i : I) (g : G) → BestOf s i g → Settled i g
    finished_best i g best =
        let (h, settled) = finished_all i best.attained.0 in
        subst (Settled i) (best_once s laws i h g (settled_final i h settled) best) settled
