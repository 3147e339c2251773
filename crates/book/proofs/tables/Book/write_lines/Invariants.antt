use Rattle.std.proofs.Common.{◌≡◌, ◌++◌, length, drop}
use Rattle.book.specs.Lines.{lines}
use Rattle.book.specs.Walk.{rest}
use Rattle.book.specs.Writing.{book_text}
use Rattle.book.proofs.tables.Book.write_lines.Given as goal

abbrev pub invariant-loop-line : goal.invariant-loop-line
invariant-loop-line l = (l.yielded ++ rest l.line-iterator ≡ lines l.self) × (l.n ≡ length (book_text l.yielded)) × (l.out ≡ book_text l.yielded ++ drop l.n l.initial.out)
