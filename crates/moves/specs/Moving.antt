-- The call that makes one move: what it is handed, what it answers, and what the buffer then holds.
use Rattle.std.specs.Prelude.{◌≡◌, ℕ, ◌≤◌, Bool, false, cond, ◌&&◌, List, [], ◌∷◌, ◌++◌, map, length, take, drop, Ok, Err, Result, ◌==◌, nat_le}
use Rattle.std.specs.List.{list_all}
use Rattle.text.specs.declared.line.Wagons.{Wagons}
use Rattle.text.specs.declared.line.Rule.{Rule}
use Rattle.text.specs.declared.line.Rule.TheVariants.{Order, Notice}
use Rattle.text.specs.declared.refusal.LineRefusal.{LineRefusal}
use Rattle.text.specs.Phases.{has}
use Rattle.text.specs.Forms.{listed}
use Rattle.text.specs.Reading.{read_rule}
use Rattle.model.specs.Phases.{after}
use Rattle.model.specs.Moves.{Position, at}
use Rattle.moves.specs.declared.stage.Stage.{Stage}
use Rattle.moves.specs.declared.refusal.MoveRefusal.{MoveRefusal}
use Rattle.moves.specs.declared.refusal.MoveRefusal.TheVariants.{Text, NoPosition, NotAccepted, NotInForce, Forbidden, NoRoom}

-- a mode, a phase, and how many of a buffer's first bytes are the lane
abbrev pub stage : ℕ → ℕ → ℕ → Stage
stage mode phase length = record { mode = mode; phase = phase; length = length }

-- a stage, a buffer that has its lane in front, and the number to carry out
pub record Handed : Type 0 where
  pub stage : Stage
  pub buffer : List ℕ
  pub number : ℕ

abbrev pub handed : Stage → List ℕ → ℕ → Handed
handed s buffer number = record { stage = s; buffer = buffer; number = number }

-- the position handed over, the top being the buffer's first byte
abbrev pub start : Handed → Position
start h = at h.stage.mode h.stage.phase (take h.stage.length h.buffer)

-- each is a wagon
abbrev pub wagons_fit : List ℕ → Bool
wagons_fit w = list_all (λ k. nat_le k 31) w

-- the lane lies in its buffer, and the mode and each wagon are within their limits
abbrev pub is_position : Stage → List ℕ → Bool
is_position s buffer = nat_le s.length (length buffer) && (nat_le s.mode 15 && wagons_fit (take s.length buffer))

abbrev pub number_of : Rule → ℕ
number_of (Order o) = o.number.value
number_of (Notice n) = n.number.value

-- the phase has the rule's number and, for a notice, the number that it withdraws
abbrev pub in_phase : Rule → ℕ → Bool
in_phase (Order o) F = has F o.number.value
in_phase (Notice n) F = has F n.number.value && has F n.loses.value

-- the mode is the rule's; an order's wagon is on top, and for a notice there is any wagon
abbrev pub takes : Rule → ℕ → List ℕ → Bool
takes (Order o) mode [] = false
takes (Order o) mode (k ∷ w) = mode == o.mode.value && k == o.wagon.value
takes (Notice n) mode [] = false
takes (Notice n) mode (k ∷ w) = mode == n.mode.value

-- the lane with these wagons in the place of its top
abbrev pub replaced : Wagons → List ℕ → List ℕ
replaced ks w = map (λ k. k.value) (listed ks) ++ drop 1 w

-- the lane w stands in front of the buffer `after`, n is its length, and the bytes behind it are those of `before`
pub record InFront (before w after : List ℕ) (n : ℕ) : Type 0 where
  pub count : n ≡ length w
  pub fits : n ≤ length before
  pub is : after ≡ w ++ drop n before

-- where the rule leads
abbrev pub carried : Rule → Position → Position
carried (Order o) x = at o.to.value x.phase (replaced o.wagons x.lane)
carried (Notice n) x = at n.to.value (after n x.phase) x.lane

-- what the call answers, and what the buffer then holds
pub record Told : Type 0 where
  pub answer : Result Stage MoveRefusal
  pub buffer : List ℕ

abbrev pub told : Result Stage MoveRefusal → List ℕ → Told
told answer buffer = record { answer = answer; buffer = buffer }

-- a refusal leaves the buffer as it was
abbrev pub refused : List ℕ → MoveRefusal → Told
refused buffer e = told (Err e) buffer

-- the new lane stands in front, and the bytes behind it stay
abbrev pub moved : List ℕ → Position → Told
moved buffer y =
    told (Ok (stage y.mode y.phase (length y.lane))) (y.lane ++ drop (length y.lane) buffer)

-- refuses where the test fails, and goes on where it holds
abbrev pub unless : Bool → List ℕ → MoveRefusal → Told → Told
unless test buffer e next = cond test next (refused buffer e)

-- what a rule makes of a position whose lane lies in the buffer
abbrev pub rule_says : Rule → Position → List ℕ → Told
rule_says r x buffer =
    unless (in_phase r x.phase) buffer NotInForce
    (unless (takes r x.mode x.lane) buffer Forbidden
    (unless (nat_le (length (carried r x).lane) (length buffer)) buffer NoRoom
    (moved buffer (carried r x))))

-- what is made of a text that says a rule, or is refused
abbrev pub text_says : Result Rule LineRefusal → Handed → Told
text_says (Err e) h = refused h.buffer (Text e)
text_says (Ok r) h =
    unless (is_position h.stage h.buffer) h.buffer NoPosition
    (unless (h.number == number_of r) h.buffer (NotAccepted h.number)
    (rule_says r (start h) h.buffer))

-- the call, with a line as text: the checks in their order, and then the move
abbrev pub move_says : List ℕ → Handed → Told
move_says line h = text_says (read_rule line) h
