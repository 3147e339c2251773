-- Best-first saturation: what holds between two settlings, and what a settling does.
-- `Settled i g` and `Waiting i g` say that item i is settled, or waits, with grade g. How they are stored is left open.
use Rattle.std.specs.Prelude.{◌≡◌, [], ◌⊎◌}
use Rattle.deduction.specs.Lists.{In}
use Rattle.deduction.specs.Grades.{NoWorse}
use Rattle.deduction.specs.Derivations.{System, Derived, Joined}

module _ {I R G : Type 0} (s : System I R G) where
  -- P has a grade for i that is no worse than g
  abbrev pub Reached : (I → G → Type 0) → I → G → Type 0
  Reached P i g = (h : G) × P i h × NoWorse s.grading h g

  -- i is settled or waits, with a grade no worse than g
  abbrev pub Known : (Settled Waiting : I → G → Type 0) → I → G → Type 0
  Known Settled Waiting i g = Reached Settled i g ⊎ Reached Waiting i g

  -- something waits with a grade no worse than g
  abbrev pub WaitsBelow : (Waiting : I → G → Type 0) → G → Type 0
  WaitsBelow Waiting g = (i : I) × Reached Waiting i g

  -- The loop's invariant, which holds between two settlings.
  pub record Invariant (Settled Waiting : I → G → Type 0) : Type 0 where
    -- soundness: every settled or waiting grade is that of some derivation
    pub settled_derived : (i : I) (g : G) → Settled i g → Derived s i g
    pub waiting_derived : (i : I) (g : G) → Waiting i g → Derived s i g
    -- covering: what a rule gives from settled premises is known
    pub covered : (r : R) (g : G) → Joined s.grading Settled (s.rules.premises r) g → Known Settled Waiting (s.rules.conclusion r) (s.grading.join (s.toll r) g)
    -- nothing that waits is better than what is settled
    pub in_order : (i j : I) (g h : G) → Settled i g → Waiting j h → NoWorse s.grading g h
    -- a settled item has one grade
    pub once : (i : I) (g h : G) → Settled i g → Settled i h → g ≡ h

  -- (j, b) may be settled next: it waits, nothing that waits is better, and j isn't settled.
  pub record Next (Settled Waiting : I → G → Type 0) (j : I) (b : G) : Type 0 where
    pub waits : Waiting j b
    pub least : (i : I) (g : G) → Waiting i g → NoWorse s.grading b g
    pub fresh : (g : G) → Settled j g → ⊥

  -- a rule with j among its premises, which are all settled, gives i at grade g
  pub record Brought (Settled : I → G → Type 0) (j i : I) (g : G) : Type 0 where
    pub rule : R
    pub parts : G
    pub uses : In j (s.rules.premises rule)
    pub settled : Joined s.grading Settled (s.rules.premises rule) parts
    pub concludes : s.rules.conclusion rule ≡ i
    pub graded : s.grading.join (s.toll rule) parts ≡ g

  -- One settling, of (j, b). What waited may make way for something no worse.
  pub record Settling (Settled Waiting Settled' Waiting' : I → G → Type 0) (j : I) (b : G) : Type 0 where
    -- (j, b) is settled besides what was, and nothing else
    pub kept : (i : I) (g : G) → Settled i g → Settled' i g
    pub added : Settled' j b
    pub nothing_else : (i : I) (g : G) → Settled' i g → Settled i g ⊎ ((i ≡ j) × (g ≡ b))
    -- what waited is still known, and what waits newly was brought by j
    pub still_known : (i : I) (g : G) → Waiting i g → Known Settled' Waiting' i g
    pub brought : (i : I) (g : G) → Waiting' i g → Waiting i g ⊎ Brought Settled' j i g
    -- every rule that has j among its premises was tried
    pub tried : (r : R) (g : G) → In j (s.rules.premises r) → Joined s.grading Settled' (s.rules.premises r) g → Known Settled' Waiting' (s.rules.conclusion r) (s.grading.join (s.toll r) g)

  -- At the start the axioms wait, and nothing else.
  pub record Start (Waiting : I → G → Type 0) : Type 0 where
    pub axioms : (i : I) (g : G) → Waiting i g → (r : R) × (s.rules.premises r ≡ []) × (s.rules.conclusion r ≡ i) × (s.toll r ≡ g)
    pub all : (r : R) → s.rules.premises r ≡ [] → Reached Waiting (s.rules.conclusion r) (s.toll r)
