-- The lines that are left of a table while it is gone through.
use Rattle.std.specs.Prelude.{ℕ, ◌+◌, Bool, List, length, Option}
use Rattle.std.specs.declared.iter.Enumerate.{Enumerate}
use Rattle.std.specs.declared.slice.Iter.{Iter}
use Rattle.std.specs.Iterator.Adapters.{enumerate_count, enumerate_source}
use Rattle.std.specs.Slice.Iter.{iter_rest}
use Rattle.grade.specs.declared.upto.UpTo.{UpTo}
use Rattle.text.specs.declared.line.Line.{Line}
use Rattle.text.specs.declared.line.Rule.{Rule}
use Rattle.book.specs.Tables.{rule_line, mark_line, by_number}

-- those of the orders and notices
abbrev pub rules_left : Iter (Option Rule) → List Line
rules_left rules = by_number rule_line 0 (iter_rest rules)

-- those of marks, which go by number
abbrev pub marks_left : (max : ℕ) → (UpTo max → Line) → Enumerate (Iter Bool) → List Line
marks_left max line marks = by_number (mark_line max line) (enumerate_count marks) (iter_rest (enumerate_source marks))

-- the number behind that of the last mark
abbrev pub marks_end : Enumerate (Iter Bool) → ℕ
marks_end marks = enumerate_count marks + length (iter_rest (enumerate_source marks))
