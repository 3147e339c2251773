-- The theorems, for entries of any types.
use mathlib.Core.Path.{◌≡◌, refl, sym, subst}
use mathlib.Core.Logic.{inl, inr, ⊎_elim}
use Rattle.deduction.specs.Lists.{In}
use Rattle.deduction.specs.Grades.{NoWorse}
use Rattle.deduction.specs.Derivations.{Derivation, joined_grade}
use Rattle.deduction.specs.Theorems.{Holds, Moment, Unsettled, BestWaiting, NextIsBest, SettledIsFinal, FinishedIsAll, FinishedIsBest, UnsettledIsBounded, ListIsBounded, ListIsKnown}
use Rattle.deduction.specs.Theorems.{StartHolds, SettlingKeeps, SameLength, KnownOutnumber, OutnumberNoRoom, OutnumberExactly, OverfullOutnumber, FilledExactly}
use Rattle.deduction.specs.Theorems.{NoneLeadsBack, FollowingEnds, AxiomGrade, GradesFollow, MoreRules}
use Rattle.deduction.proofs.Derivations as derivations
use Rattle.deduction.proofs.Bounds as bounds
use Rattle.deduction.proofs.Settling as settling
use Rattle.deduction.proofs.Counting as counting
use Rattle.deduction.proofs.Reasons as reasons

-- a moment in the words of the lemmas
module _ {I R G S W : Type 0} (m : Moment I R G S W) where
  settled_item : (i : I) → ((e : S) × (m.settled.item e ≡ i)) → Derivation m.system.rules i
  settled_item i (e, item) = (m.invariant.settled_derived i (m.settled.grade e) (e, item, refl)).0

  waiting_item : (i : I) → ((w : W) × (m.waiting.item w ≡ i)) → Derivation m.system.rules i
  waiting_item i (w, item) = (m.invariant.waiting_derived i (m.waiting.grade w) (w, item, refl)).0

  least : (w : W) → BestWaiting m w → (i : I) (g : G) → Holds m.waiting i g → NoWorse m.system.grading (m.waiting.grade w) g
  least w best i g (v, item, grade) = subst (NoWorse m.system.grading (m.waiting.grade w)) grade (best v)

  fresh : (i : I) → Unsettled m i → (g : G) → Holds m.settled i g → ⊥
  fresh i unsettled g (e, item, grade) = unsettled e item

  nothing_waits : (W → ⊥) → (i : I) (g : G) → Holds m.waiting i g → ⊥
  nothing_waits done i g (w, item, grade) = done w

module _ {I R G S W : Type 0} where
  pub next_is_best : NextIsBest I R G S W
  next_is_best m w best unsettled =
      let j = m.waiting.item w in
      bounds.next_best m.laws m.invariant j (m.waiting.grade w) (record { waits = (w, refl, refl); least = least m w best; fresh = fresh m j unsettled })

  pub settled_is_final : SettledIsFinal I R G S W
  settled_is_final m e = bounds.settled_final m.laws m.invariant (m.settled.item e) (m.settled.grade e) (e, refl, refl)

  pub finished_is_all : FinishedIsAll I R G S W
  finished_is_all m done i = (
    settled_item m i,
    λ d. let (g, (e, item, grade)) = bounds.finished_all m.laws m.invariant (nothing_waits m done) i d in (e, item),
  )

  pub finished_is_best : FinishedIsBest I R G S W
  finished_is_best m done i g = (bounds.settled_final m.laws m.invariant i g, bounds.finished_best m.laws m.invariant (nothing_waits m done) i g)

  pub unsettled_is_bounded : UnsettledIsBounded I R G S W
  unsettled_is_bounded m w best i unsettled d = bounds.unsettled_no_better m.laws m.invariant (m.waiting.grade w) (least m w best) (fresh m i unsettled) d

  pub list_is_bounded : ListIsBounded I R G S W
  list_is_bounded m w best is i among unsettled ds =
      bounds.list_no_better m.laws m.invariant (m.waiting.grade w) (least m w best) i (fresh m i unsettled) among ds

  pub list_is_known : ListIsKnown I R G S W
  list_is_known m is ds =
      ⊎_elim inl
      (λ below. let (i, (g, (w, item, grade), le)) = below in inr (w, subst (λ x. NoWorse m.system.grading x (joined_grade m.system ds)) (sym grade) le))
      (bounds.list_bound m.laws m.invariant ds)

  pub start_holds : StartHolds I R G S W
  start_holds s laws settled waiting nothing start = settling.start_holds laws (λ i g e. nothing e.0) start

  pub known_outnumber : KnownOutnumber I R G S W
  known_outnumber m n is distinct each longer =
      record { some = is; distinct = distinct; each = λ i among. ⊎_elim (settled_item m i) (waiting_item m i) (each i among); longer = longer }

pub settling_keeps : {I R G S W S' W' : Type 0} → SettlingKeeps I R G S W S' W'
settling_keeps m j b settled' waiting' next step = settling.settling_keeps m.laws m.invariant next step

pub same_length : {X : Type 0} → SameLength X
same_length xs ys distinct_xs distinct_ys same = counting.same_length xs ys distinct_xs distinct_ys same

module _ {I R : Type 0} where
  pub outnumber_no_room : OutnumberNoRoom I R
  outnumber_no_room rules n out = counting.outnumber_no_room (Derivation rules) n out

  pub outnumber_exactly : OutnumberExactly I R
  outnumber_exactly rules all listing n = (counting.listed_outnumber (Derivation rules) all listing n, counting.listed_no_room (Derivation rules) all listing n)

  pub overfull_outnumber : OverfullOutnumber I R
  overfull_outnumber rules at n = counting.overfull_outnumber (Derivation rules) at n

  pub filled_exactly : FilledExactly I R
  filled_exactly rules at n = counting.filled_outnumber (Derivation rules) at n

module _ {X : Type 0} where
  pub none_leads_back : NoneLeadsBack X
  none_leads_back named rank descends x back = reasons.none_leads_back (λ x y. In y (named x)) rank descends x back

  pub following_ends : FollowingEnds X
  following_ends named rank descends x =
      (reasons.following_ends (λ x y. In y (named x)) rank descends x, λ n follows. reasons.follows_few (λ x y. In y (named x)) rank descends follows)

pub axiom_grade : {I R G : Type 0} → AxiomGrade I R G
axiom_grade s laws r empty ds = derivations.axiom_grade s laws r empty ds

pub grades_follow : {I R G H : Type 0} → GradesFollow I R G H
grades_follow s grading toll f keeps_best keeps_join keeps_toll i d = derivations.grade_follows s grading toll f keeps_best keeps_join keeps_toll d

pub more_rules : {I R Q G : Type 0} → MoreRules I R Q G
more_rules s rules toll f same_premises same_conclusion same_toll i g d = derivations.derived_also s rules toll f same_premises same_conclusion same_toll i g d
