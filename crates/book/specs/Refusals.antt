-- The number and the place that each refusal is told by.
use Rattle.std.specs.Prelude.{ℕ}
use Rattle.text.specs.Refusals.{line_number, line_place}
use Rattle.book.specs.declared.refusal.Refusal.{Refusal}
use Rattle.book.specs.declared.refusal.Refusal.TheVariants.{Line, Stands, Full, NoRoom}

-- the number of a refusal
abbrev pub number_of : Refusal → ℕ
number_of (Line e) = line_number e
number_of Stands = 3
number_of Full = 4
number_of NoRoom = 17

-- the byte of the line, counted from 1; 0 where a refusal names none
abbrev pub place_of : Refusal → ℕ
place_of (Line e) = line_place e
place_of Stands = 0
place_of Full = 0
place_of NoRoom = 0
