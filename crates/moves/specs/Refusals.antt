-- The number and the place that each refusal of a move is told by.
use Rattle.std.specs.Prelude.{ℕ}
use Rattle.text.specs.Refusals.{line_number, line_place}
use Rattle.moves.specs.declared.refusal.MoveRefusal.{MoveRefusal}
use Rattle.moves.specs.declared.refusal.MoveRefusal.TheVariants.{Text, NoPosition, NotAccepted, NotInForce, Forbidden, NoRoom}

abbrev pub refusal_number : MoveRefusal → ℕ
refusal_number (Text e) = line_number e
refusal_number NoPosition = 9
refusal_number (NotAccepted n) = 6
refusal_number NotInForce = 15
refusal_number Forbidden = 16
refusal_number NoRoom = 17

-- the byte of the text, counted from 1; the number that is not accepted; 0 where a refusal names none
abbrev pub refusal_place : MoveRefusal → ℕ
refusal_place (Text e) = line_place e
refusal_place NoPosition = 0
refusal_place (NotAccepted n) = n
refusal_place NotInForce = 0
refusal_place Forbidden = 0
refusal_place NoRoom = 0
