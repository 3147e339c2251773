-- What the call promises, in the words of the model.
use Rattle.std.specs.Prelude.{◌≡◌, ℕ, ◌≤◌, List, [], ◌∷◌, length, take, drop, Ok, Err, Result}
use Rattle.std.specs.List.{AllByRecursion}
use Rattle.text.specs.declared.line.Line.{Line}
use Rattle.text.specs.Forms.{rule_forms}
use Rattle.text.specs.Meaning.{SaysAs}
use Rattle.model.specs.Moves.{Position, at, Move, Step}
use Rattle.moves.specs.declared.stage.Stage.{Stage}
use Rattle.moves.specs.declared.refusal.MoveRefusal.{MoveRefusal}
use Rattle.moves.specs.Moving.{Handed, start}

-- what is handed over is a position in a buffer
pub record Proper (h : Handed) : Type 0 where
  pub within : h.stage.length ≤ length h.buffer
  pub mode : h.stage.mode ≤ 15
  pub wagons : AllByRecursion (λ k. k ≤ 31) (start h).lane

-- The text says a line, and the book that holds just this line has a move from the position to y, by the number handed over,
-- after which the lane has room in the buffer.
pub record MovesTo (text : List ℕ) (h : Handed) (y : Position) : Type 0 where
  pub line : Line
  pub says : SaysAs rule_forms text (Ok line)
  pub proper : Proper h
  pub move : Move
  pub number : move.number ≡ h.number
  pub step : Step (line ∷ []) (start h) move y
  pub room : length y.lane ≤ length h.buffer

-- the position that is answered, with the lane that the buffer then holds
abbrev pub reached : Stage → List ℕ → Position
reached v buffer = at v.mode v.phase (take v.length buffer)

-- the move was made, it is the only one, and the bytes behind the lane stay
pub record Made (text : List ℕ) (h : Handed) (v : Stage) (buffer : List ℕ) : Type 0 where
  pub moves : MovesTo text h (reached v buffer)
  pub only : (y : Position) → MovesTo text h y → y ≡ reached v buffer
  pub within : v.length ≤ length buffer
  pub behind : drop v.length buffer ≡ drop v.length h.buffer

-- there is no such move, and the buffer stands as it was
pub record Declined (text : List ℕ) (h : Handed) (buffer : List ℕ) : Type 0 where
  pub none : (y : Position) → MovesTo text h y → ⊥
  pub stands : buffer ≡ h.buffer

-- an answer and what the buffer then holds are right
abbrev pub Right : List ℕ → Handed → Result Stage MoveRefusal → List ℕ → Type 0
Right text h (Ok v) buffer = Made text h v buffer
Right text h (Err e) buffer = Declined text h buffer
