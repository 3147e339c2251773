-- The number and the place that the refusal of a line is told by.
use Rattle.std.specs.Prelude.{ℕ}
use Rattle.text.specs.declared.refusal.LineRefusal.{LineRefusal}
use Rattle.text.specs.declared.refusal.LineRefusal.TheVariants.{Syntax, TooLarge, NotRising}

-- the number of a refusal
abbrev pub line_number : LineRefusal → ℕ
line_number (Syntax p) = 1
line_number (TooLarge p) = 2
line_number (NotRising p) = 5

-- the byte of the line, counted from 1
abbrev pub line_place : LineRefusal → ℕ
line_place (Syntax p) = p
line_place (TooLarge p) = p
line_place (NotRising p) = p
