-- The phase after a notice, as a set.
use Rattle.std.proofs.Common.{◌≡◌, ℕ, ◌^◌, ◌<◌, List, sym, refl, ap, ◌∙◌, subst, arith}
use Rattle.text.specs.declared.line.NoticeLine.{NoticeLine}
use Rattle.text.specs.declared.line.Line.{Line}
use Rattle.text.specs.declared.line.Line.TheVariants.{Notice, Open}
use Rattle.text.specs.Phases.{has}
use Rattle.model.specs.Phases.{Stands, InForce, without, with, Allows, after, Opened, opened, noticed}
use Rattle.model.specs.Laws.{NoticesChangePhases, PhasesMeet}
use Rattle.model.proofs.Sets.{has_with, has_with_other, has_without, has_without_other, with_without, with_below, without_below}

module _ (n : NoticeLine) (F : ℕ) where
  gained : InForce (after n F) n.gains.value
  unfolding after
  gained = has_with (without F n.loses.value) n.gains.value

  -- a number that isn't gained
  not_gained : (m : ℕ) → (m ≡ n.gains.value → ⊥) → has (after n F) m ≡ has (without F n.loses.value) m
  unfolding after
  not_gained m other = has_with_other (without F n.loses.value) n.gains.value m other

  renewed : n.loses.value ≡ n.gains.value → InForce F n.loses.value → after n F ≡ F
  unfolding after
  renewed same inside = ap (with (without F n.loses.value)) (sym same) ∙ with_without F n.loses.value inside

  -- a phase of numbers up to 63 stays one
  pub after_fits : F < 2 ^ 64 → after n F < 2 ^ 64
  unfolding after
  after_fits fits = with_below 64 (without F n.loses.value) n.gains.value (without_below 64 F n.loses.value fits) (omega (arith, n.gains.fits))

-- what holds of the phases of open lines, and with a phase of those after its notices, holds of every opened phase
pub opened_within : {ls : List Line} (P : ℕ → Type 0) → ((F : ℕ) → Stands ls (Open F) → P F) → ((F : ℕ) (n : NoticeLine) → P F → Stands ls (Notice n) → Allows n F → P (after n F))
    → {F : ℕ} → Opened ls F → P F
opened_within P lines notices (opened {F = F} stands) = lines F stands
opened_within P lines notices (noticed {F = F} {n = n} before stands allows) = notices F n (opened_within P lines notices before) stands allows

pub notices_change_phases : NoticesChangePhases
notices_change_phases n F = record {
  gained = gained n F;
  lost = λ apart. not_gained n F n.loses.value apart ∙ has_without F n.loses.value;
  others = λ m not_gains not_loses. not_gained n F m not_gains ∙ has_without_other F n.loses.value m not_loses;
  renewed = renewed n F;
  itself_lost = λ same inside. record { itself = inside; withdrawn = subst (InForce F) same inside };
  itself_gained = λ same. subst (InForce (after n F)) (sym same) (gained n F);
}

-- Notice 0 loses 0 and gains 1: from the phase of 0, and from that of 0 and 1, it leads to the phase of 1.
meeting : NoticeLine
meeting = record {
  number = record { value = 0; fits = omega arith };
  mode = record { value = 0; fits = omega arith };
  to = record { value = 0; fits = omega arith };
  loses = record { value = 0; fits = omega arith };
  gains = record { value = 1; fits = omega arith };
  toll = record { minutes = record { value = 0; fits = omega arith }; class = record { value = 0; fits = omega arith } };
}

pub phases_meet : PhasesMeet
unfolding meeting after
phases_meet = (meeting, (1, (3, (λ e. omega (arith, e), (record { itself = refl; withdrawn = refl }, (record { itself = refl; withdrawn = refl }, refl))))))
