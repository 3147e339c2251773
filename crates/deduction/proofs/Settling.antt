-- The invariant holds at the start, and a settling keeps it.
use mathlib.Core.Path.{◌≡◌, sym, ap, subst, subst₂, ◌∙◌}
use mathlib.Core.List.{List, [], ◌∷◌}
use mathlib.Core.Logic.{◌⊎◌, inl, inr, ⊎_elim}
use Rattle.deduction.specs.Lists.{In}
use Rattle.deduction.specs.Grades.{NoWorse, Laws}
use Rattle.deduction.specs.Derivations.{System, Derived, Joined, joined_none, joined_more}
use Rattle.deduction.specs.Saturation.{Reached, Known, Invariant, Next, Brought, Settling, Start}
use Rattle.deduction.proofs.Grades.{no_worse_itself}
use Rattle.deduction.proofs.Derivations.{joined_weaker, joined_nothing, joined_part, derived_by}

module _ {I R G : Type 0} {s : System I R G} (laws : Laws s.grading) {Settled Waiting : I → G → Type 0} where
  pub start_holds : ((i : I) (g : G) → Settled i g → ⊥) → Start s Waiting → Invariant s Settled Waiting
  start_holds nothing start = record {
    settled_derived = λ i g settled. absurd (nothing i g settled);
    waiting_derived = λ i g waits. given i g (start.axioms i g waits);
    covered = λ r g all. inr (given_waits r g (joined_nothing nothing all));
    in_order = λ i j g h settled waits. absurd (nothing i g settled);
    once = λ i g h settled again. absurd (nothing i g settled);
  }
    where
      given : (i : I) (g : G) → (r : R) × (s.rules.premises r ≡ []) × (s.rules.conclusion r ≡ i) × (s.toll r ≡ g) → Derived s i g
      given i g (r, no_premises, concludes, toll) =
          subst₂ (Derived s) concludes (laws.best_right (s.toll r) ∙ toll) (derived_by s r s.grading.best (subst (λ is. Joined s.grading (Derived s) is s.grading.best) (sym no_premises) joined_none))

      given_waits : (r : R) (g : G) → (s.rules.premises r ≡ []) × (g ≡ s.grading.best) → Reached s Waiting (s.rules.conclusion r) (s.grading.join (s.toll r) g)
      given_waits r g (no_premises, is_best) =
          let e : s.toll r ≡ s.grading.join (s.toll r) g = sym (ap (s.grading.join (s.toll r)) is_best ∙ laws.best_right (s.toll r)) in
          subst (Reached s Waiting (s.rules.conclusion r)) e (start.all r no_premises)

module _ {I R G : Type 0} {s : System I R G} (laws : Laws s.grading) {Settled Waiting Settled' Waiting' : I → G → Type 0} (inv : Invariant s Settled Waiting)
    {j : I} {b : G} (next : Next s Settled Waiting j b) (step : Settling s Settled Waiting Settled' Waiting' j b) where
  settled_derived' : (i : I) (g : G) → Settled' i g → Derived s i g
  settled_derived' i g settled = from (step.nothing_else i g settled)
    where
      from : Settled i g ⊎ ((i ≡ j) × (g ≡ b)) → Derived s i g
      from (inl before) = inv.settled_derived i g before
      from (inr (is_j, is_b)) = subst₂ (Derived s) (sym is_j) (sym is_b) (inv.waiting_derived j b next.waits)

  settled_no_worse : (i : I) (g : G) → Settled' i g → NoWorse s.grading g b
  settled_no_worse i g settled = from (step.nothing_else i g settled)
    where
      from : Settled i g ⊎ ((i ≡ j) × (g ≡ b)) → NoWorse s.grading g b
      from (inl before) = inv.in_order i j g b before next.waits
      from (inr (is_j, is_b)) = subst (λ x. NoWorse s.grading x b) (sym is_b) (no_worse_itself laws b)

  once' : (i : I) (g h : G) → Settled' i g → Settled' i h → g ≡ h
  once' i g h one two = from (step.nothing_else i g one) (step.nothing_else i h two)
    where
      from : Settled i g ⊎ ((i ≡ j) × (g ≡ b)) → Settled i h ⊎ ((i ≡ j) × (h ≡ b)) → g ≡ h
      from (inl before) (inl also) = inv.once i g h before also
      from (inl before) (inr (is_j, is_b)) = absurd (next.fresh g (subst (λ x. Settled x g) is_j before))
      from (inr (is_j, is_b)) (inl before) = absurd (next.fresh h (subst (λ x. Settled x h) is_j before))
      from (inr (is_j, is_b)) (inr (also_j, also_b)) = is_b ∙ sym also_b

  -- what j brings is derived, and no better than b
  brought_derived : (i : I) (g : G) → Brought s Settled' j i g → Derived s i g
  brought_derived i g from = subst₂ (Derived s) from.concludes from.graded (derived_by s from.rule from.parts (joined_weaker settled_derived' from.settled))

  brought_no_better : (i : I) (g : G) → Brought s Settled' j i g → NoWorse s.grading b g
  brought_no_better i g from =
      let (h, settled, le) = joined_part laws j from.settled from.uses in
      let parts_no_better : NoWorse s.grading b from.parts = subst (λ x. NoWorse s.grading x from.parts) (once' j h b settled step.added) le in
      subst (NoWorse s.grading b) from.graded (laws.transitive b from.parts (s.grading.join (s.toll from.rule) from.parts) parts_no_better (laws.second_part (s.toll from.rule) from.parts))

  -- either all were settled before, or j is among them
  before_or_j : {is : List I} {g : G} → Joined s.grading Settled' is g → Joined s.grading Settled is g ⊎ In j is
  before_or_j joined_none = inl joined_none
  before_or_j (joined_more {i = i} {is = is} {g = g} {h = h} settled all) = both (step.nothing_else i g settled) (before_or_j all)
    where
      both : Settled i g ⊎ ((i ≡ j) × (g ≡ b)) → Joined s.grading Settled is h ⊎ In j is → Joined s.grading Settled (i ∷ is) (s.grading.join g h) ⊎ In j (i ∷ is)
      both (inl before) (inl all_before) = inl (joined_more before all_before)
      both (inl before) (inr among) = inr (inr among)
      both (inr (is_j, is_b)) rest = inr (inl (sym is_j))

  -- what was known still is
  still : (i : I) (g : G) → Known s Settled Waiting i g → Known s Settled' Waiting' i g
  still i g (inl (h, settled, le)) = inl (h, step.kept i h settled, le)
  still i g (inr (h, waits, le)) =
      ⊎_elim (λ c. inl (c.0, c.1, laws.transitive c.0 h g c.2 le)) (λ w. inr (w.0, w.1, laws.transitive w.0 h g w.2 le)) (step.still_known i h waits)

  covered' : (r : R) (g : G) → Joined s.grading Settled' (s.rules.premises r) g → Known s Settled' Waiting' (s.rules.conclusion r) (s.grading.join (s.toll r) g)
  covered' r g all =
      ⊎_elim (λ before. still (s.rules.conclusion r) (s.grading.join (s.toll r) g) (inv.covered r g before)) (λ among. step.tried r g among all) (before_or_j all)

  pub settling_keeps : Invariant s Settled' Waiting'
  settling_keeps = record {
    settled_derived = settled_derived';
    waiting_derived = λ i g waits. ⊎_elim (inv.waiting_derived i g) (brought_derived i g) (step.brought i g waits);
    covered = covered';
    in_order = λ i k g h settled waits. laws.transitive g b h (settled_no_worse i g settled) (⊎_elim (next.least k h) (brought_no_better k h) (step.brought k h waits));
    once = once';
  }
