-- The call makes the move of the model, and refuses only where there is none. Assumes nothing.
use Rattle.std.proofs.Common.{◌≡◌, ℕ, ◌≤◌, Bool, true, false, eqb, leb, List, [], ◌∷◌, length, take, drop, Ok, Err, Result, sym, refl, ◌∙◌, subst, arith, rules, tests}
use Rattle.std.proofs.lemmas.Grind.{common_steps}
use Rattle.std.proofs.lemmas.Bool.{both_ways, cond_both, eq-eqb, eqb-true, le-leb, leb-true}
use Rattle.std.specs.List.{AllByRecursion}
use Rattle.text.specs.declared.line.Line.{Line}
use Rattle.text.specs.declared.line.Rule.{Rule}
use Rattle.text.specs.declared.refusal.LineRefusal.{LineRefusal}
use Rattle.text.specs.Forms.{rule_forms}
use Rattle.text.specs.Reading.{Outcome, rule_line, as_line}
use Rattle.text.specs.Meaning.{SaysAs}
use Rattle.model.specs.Moves.{Position, at, Step}
use Rattle.moves.specs.declared.refusal.MoveRefusal.TheVariants.{NoPosition, NotAccepted, NotInForce, Forbidden, NoRoom}
use Rattle.moves.specs.Moving.{Handed, start, wagons_fit, is_position, number_of, in_phase, takes, carried, Told, refused, moved, text_says}
use Rattle.moves.specs.Meaning.{Proper, MovesTo, Right}
use Rattle.moves.proofs.Steps.{Carries, step_carries, carries_step}

fit_all : (w : List ℕ) → wagons_fit w ≡ true → AllByRecursion (λ k. k ≤ 31) w
fit_all [] e = tt
fit_all (k ∷ w) e = search (rules, tests, fit_all w)

all_fit : (w : List ℕ) → AllByRecursion (λ k. k ≤ 31) w → wagons_fit w ≡ true
all_fit [] h = refl
all_fit (k ∷ w) h = search (rules, tests, all_fit w)

module _ (h : Handed) where
  proper_from : is_position h.stage h.buffer ≡ true → Proper h
  proper_from e = record { within = search (rules, tests); mode = search (rules, tests); wagons = fit_all _ (search (rules, tests)) }

  proper_to : Proper h → is_position h.stage h.buffer ≡ true
  proper_to p = let fit = all_fit _ p.wagons in search (rules, tests)

  -- the lane after a move, in front of the buffer
  module _ (y : Position) (le : length y.lane ≤ length h.buffer) where
    abbrev after : List ℕ
    after = (moved h.buffer y).buffer

    lane_after : take (length y.lane) after ≡ y.lane
    lane_after = grind (arith, common_steps)

    behind_after : drop (length y.lane) after ≡ drop (length y.lane) h.buffer
    behind_after = grind (arith, common_steps)

    within_after : length y.lane ≤ length after
    within_after = grind (arith, common_steps)

abbrev Whole : List ℕ → Handed → Told → Type 0
Whole s h t = Right s h t.answer t.buffer

-- what a rule makes of what is handed over: one of five refusals, or the move
rule_cases : (h : Handed) (r : Rule) (P : Told → Type 0)
    → (is_position h.stage h.buffer ≡ false → P (refused h.buffer NoPosition))
    → (eqb h.number (number_of r) ≡ false → P (refused h.buffer (NotAccepted h.number)))
    → (in_phase r h.stage.phase ≡ false → P (refused h.buffer NotInForce))
    → (takes r h.stage.mode (start h).lane ≡ false → P (refused h.buffer Forbidden))
    → (leb (length (carried r (start h)).lane) (length h.buffer) ≡ false → P (refused h.buffer NoRoom))
    → (is_position h.stage h.buffer ≡ true → eqb h.number (number_of r) ≡ true → in_phase r h.stage.phase ≡ true
    → takes r h.stage.mode (start h).lane ≡ true
    → leb (length (carried r (start h)).lane) (length h.buffer) ≡ true
    → P (moved h.buffer (carried r (start h))))
    → P (text_says (Ok r) h)
rule_cases h r P no_position not_accepted no_force forbidden no_room all =
    cond_both (is_position h.stage h.buffer) _ _ P
    (λ a. cond_both (eqb h.number (number_of r)) _ _ P
    (λ b. cond_both (in_phase r h.stage.phase) _ _ P
    (λ c. cond_both (takes r h.stage.mode (start h).lane) _ _ P
    (λ d. cond_both (leb (length (carried r (start h)).lane) (length h.buffer)) _ _ P (all a b c d) no_room) forbidden) no_force) not_accepted) no_position

module _ (s : List ℕ) (h : Handed) (r : Rule) (says : SaysAs rule_forms s (Ok (rule_line r))) (alone : (l : Line) → SaysAs rule_forms s (Ok l) → l ≡ rule_line r) where
  -- what a move to y says of the rule
  known : (y : Position) → MovesTo s h y → Carries r (start h) h.number y
  known y m =
      subst (λ n. Carries r (start h) n y) m.number
      (step_carries r (start h) y m.move (subst (λ l. Step (l ∷ []) (start h) m.move y) (alone m.line m.says) m.step))

  -- a test that every move passes has failed
  no_move : (test : Bool) → ((y : Position) → MovesTo s h y → test ≡ true) → test ≡ false → (y : Position) → MovesTo s h y → ⊥
  no_move test every fails y m = both_ways test fails (every y m)

  made : Proper h → eqb h.number (number_of r) ≡ true → in_phase r h.stage.phase ≡ true → takes r h.stage.mode (start h).lane ≡ true
      → leb (length (carried r (start h)).lane) (length h.buffer) ≡ true → Whole s h (moved h.buffer (carried r (start h)))
  made proper named force top fits =
      let y = carried r (start h) in
      let le : length y.lane ≤ length h.buffer = leb-true _ _ fits in
      let (m, n, step) = carries_step r h.stage.mode h.stage.phase (start h).lane force top in
      let same : y ≡ at y.mode y.phase (take (length y.lane) (after h y le)) = λ i. at y.mode y.phase (sym (lane_after h y le) i) in
      record {
        moves = subst (MovesTo s h) same
            (record {
              line = rule_line r;
              says = says;
              proper = proper;
              move = m;
              number = n ∙ sym (eqb-true h.number (number_of r) named);
              step = step;
              room = le;
            });
        only = λ z mz. (known z mz).to ∙ same;
        within = within_after h y le;
        behind = behind_after h y le;
      }

  pub rule_right : Whole s h (text_says (Ok r) h)
  rule_right =
      rule_cases h r (Whole s h)
      (λ no. record { none = no_move _ (λ y m. proper_to h m.proper) no; stands = refl })
      (λ no. record { none = no_move _ (λ y m. eq-eqb h.number (number_of r) (known y m).numbered) no; stands = refl })
      (λ no. record { none = no_move _ (λ y m. (known y m).force) no; stands = refl })
      (λ no. record { none = no_move _ (λ y m. (known y m).top) no; stands = refl })
      (λ no. record { none = no_move _ (λ y m. le-leb _ _ (subst (λ z. length z.lane ≤ length h.buffer) (known y m).to m.room)) no; stands = refl })
      (λ proper. made (proper_from h proper))

ok_same : (l k : Line) → ◌≡◌ {A = Outcome} (Ok l) (Ok k) → l ≡ k
ok_same l k e = cc e

-- whatever the text says
pub text_right : (s : List ℕ) (h : Handed) (x : Result Rule LineRefusal) → SaysAs rule_forms s (as_line x)
    → ((y : Outcome) → SaysAs rule_forms s y → y ≡ as_line x)
    → Whole s h (text_says x h)
text_right s h (Ok r) says alone = rule_right s h r says (λ l m. ok_same l (rule_line r) (alone (Ok l) m))
text_right s h (Err e) says alone =
    record {
      none = λ y m. let e : ◌≡◌ {A = Outcome} (Ok m.line) (Err e) = alone (Ok m.line) m.says in let z : ◌≡◌ {A = ℕ} 0 1 = cc in omega arith;
      stands = refl;
    }
