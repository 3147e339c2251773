-- What a move answers in plain numbers.
use Rattle.std.specs.Prelude.{Ok, Err, Result}
use Rattle.moves.specs.declared.stage.Stage.{Stage}
use Rattle.moves.specs.declared.refusal.MoveRefusal.{MoveRefusal}
use Rattle.moves.specs.declared.export.MoveAnswer.{MoveAnswer}
use Rattle.moves.specs.Refusals.{refusal_number, refusal_place}

-- refusal 0 where the move was made; else its number and place, and the mode, phase and length as they were handed over
abbrev pub in_numbers : Stage → Result Stage MoveRefusal → MoveAnswer
in_numbers s (Ok v) = record { refusal = 0; mode = v.mode; place = 0; phase = v.phase; len = v.length }
in_numbers s (Err e) =
    record { refusal = refusal_number e; mode = s.mode; place = refusal_place e; phase = s.phase; len = s.length }
