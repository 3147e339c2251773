-- The moves of a book of one line, against what its rule asks and where it leads. Assumes nothing.
use Rattle.std.proofs.Common.{◌≡◌, ℕ, zero, suc, true, eqb, List, [], ◌∷◌, Ok, Result, sym, refl, ap, ◌∙◌, subst, arith}
use Rattle.std.proofs.lemmas.Bool.{false≢true, eq-eqb, eqb-true, and_from, and_parts}
use Rattle.std.specs.List.{ContainsAt as Has}
use Rattle.text.specs.declared.line.OrderLine.{OrderLine}
use Rattle.text.specs.declared.line.NoticeLine.{NoticeLine}
use Rattle.text.specs.declared.line.Line.{Line}
use Rattle.text.specs.declared.line.Rule.{Rule}
use Rattle.text.specs.declared.line.Rule.TheVariants.{Order, Notice}
use Rattle.text.specs.declared.refusal.LineRefusal.{LineRefusal}
use Rattle.text.specs.Phases.{has}
use Rattle.text.specs.Reading.{rule_line, as_rule}
use Rattle.text.proofs.Rules.{as_rule_line}
use Rattle.model.specs.Phases.{InForce, Allows}
use Rattle.model.specs.Moves.{Position, at, Move, order_move, notice_move, Step, by_order, by_notice}
use Rattle.moves.specs.Moving.{number_of, in_phase, takes, carried}

-- the rule can be carried out at x under this number, and leads to y
pub record Carries (r : Rule) (x : Position) (number : ℕ) (y : Position) : Type 0 where
  pub force : in_phase r x.phase ≡ true
  pub top : takes r x.mode x.lane ≡ true
  pub numbered : number ≡ number_of r
  pub to : y ≡ carried r x

order_carries : (o : OrderLine) (F : ℕ) (w : List ℕ) → InForce F o.number.value → Carries (Order o) (at o.mode.value F (o.wagon.value ∷ w)) o.number.value (carried (Order o) (at o.mode.value F (o.wagon.value ∷ w)))
order_carries o F w f = record {
  force = f;
  top = and_from _ _ (eq-eqb o.mode.value o.mode.value refl) (eq-eqb o.wagon.value o.wagon.value refl);
  numbered = refl;
  to = refl;
}

notice_carries : (n : NoticeLine) (F k : ℕ) (w : List ℕ) → Allows n F → Carries (Notice n) (at n.mode.value F (k ∷ w)) n.number.value (carried (Notice n) (at n.mode.value F (k ∷ w)))
notice_carries n F k w a = record {
  force = and_from _ _ a.itself a.withdrawn;
  top = eq-eqb n.mode.value n.mode.value refl;
  numbered = refl;
  to = refl;
}

-- what stands in a book of one line is that line
only_line : (l k : Line) → Has (l ∷ []) k → l ≡ k
only_line l k (zero, lt, h) = h l
only_line l k (suc i, lt, h) = absurd (omega arith)

-- a line is the line of one rule
rule_once : (r s : Rule) → rule_line r ≡ rule_line s → s ≡ r
rule_once r s e =
    let same : ◌≡◌ {A = Result Rule LineRefusal} (Ok s) (Ok r) = sym (as_rule_line (Ok s)) ∙ ap (λ l. as_rule (Ok l)) (sym e) ∙ as_rule_line (Ok r) in
    cc same

pub step_carries : (r : Rule) (x y : Position) (m : Move) → Step (rule_line r ∷ []) x m y → Carries r x m.number y
step_carries r x y m (by_order {o} {F} {w} stands f) =
    subst (λ s. Carries s x m.number y) (rule_once r (Order o) (only_line (rule_line r) (rule_line (Order o)) stands)) (order_carries o F w f)
step_carries r x y m (by_notice {n} {F} {k} {w} stands a) =
    subst (λ s. Carries s x m.number y) (rule_once r (Notice n) (only_line (rule_line r) (rule_line (Notice n)) stands)) (notice_carries n F k w a)

-- a move of the book of this line
abbrev pub MoveOf : Rule → Position → Position → Type 0
MoveOf r x y = (m : Move) × (m.number ≡ number_of r) × Step (rule_line r ∷ []) x m y

pub carries_step : (r : Rule) (mode F : ℕ) (w : List ℕ) → in_phase r F ≡ true → takes r mode w ≡ true → MoveOf r (at mode F w) (carried r (at mode F w))
carries_step (Order o) mode F [] f t = absurd (false≢true t)
carries_step (Order o) mode F (k ∷ w) f t =
    let (p, q) = and_parts (eqb mode o.mode.value) (eqb k o.wagon.value) t in
    let here : at o.mode.value F (o.wagon.value ∷ w) ≡ at mode F (k ∷ w) =
    λ i. at (sym (eqb-true mode o.mode.value p) i) F (sym (eqb-true k o.wagon.value q) i ∷ w)
    in
    subst (λ x. MoveOf (Order o) x (carried (Order o) x)) here (order_move o, refl, by_order (0, omega arith, λ d. refl) f)
carries_step (Notice n) mode F [] f t = absurd (false≢true t)
carries_step (Notice n) mode F (k ∷ w) f t =
    let (p, q) = and_parts (has F n.number.value) (has F n.loses.value) f in
    let here : at n.mode.value F (k ∷ w) ≡ at mode F (k ∷ w) = λ i. at (sym (eqb-true mode n.mode.value t) i) F (k ∷ w) in
    subst (λ x. MoveOf (Notice n) x (carried (Notice n) x)) here
    (notice_move n, refl, by_notice (0, omega arith, λ d. refl) (record { itself = p; withdrawn = q }))
