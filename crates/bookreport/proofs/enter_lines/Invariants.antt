use Rattle.std.proofs.Common.{◌≡◌, ◌+◌, ◌≤◌, [], ◌++◌, length, vec_items}
use Rattle.std.specs.List.{flat_map}
use Rattle.std.specs.Slice.Iter.{split_inclusive_rest}
use Rattle.book.specs.Lines.{lines}
use Rattle.book.specs.Writing.{split}
use Rattle.bookreport.specs.Report.{book_after, refused, note_text}
use Rattle.bookreport.proofs.enter_lines.Given as goal

-- what is still to be entered gives the rest
abbrev pub invariant-loop-line : goal.invariant-loop-line
invariant-loop-line l = record {
  book : book_after (lines l.entries.book) (split (split_inclusive_rest l.line-iterator)) ≡ book_after [] (split l.text);
  notes : vec_items l.entries.notes ++ flat_map note_text (refused (lines l.entries.book) (l.entries.read + 1) (split (split_inclusive_rest l.line-iterator))) ≡ flat_map note_text (refused [] 1 (split l.text));
  read : l.entries.read + length (split (split_inclusive_rest l.line-iterator)) ≡ length (split l.text);
  refused : l.entries.refused + length (refused (lines l.entries.book) (l.entries.read + 1) (split (split_inclusive_rest l.line-iterator))) ≡ length (refused [] 1 (split l.text));
  room : l.entries.read + length (split_inclusive_rest l.line-iterator) ≤ length l.text;
}
