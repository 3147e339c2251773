-- What a line more does to what the lines before it left.
use Rattle.std.specs.Prelude.{◌≡◌, ℕ, ◌+◌, List, ◌++◌, length}
use Rattle.std.specs.List.{flat_map}
use Rattle.book.specs.Lines.{lines}
use Rattle.book.specs.Entering.{entered}
use Rattle.bookreport.specs.declared.Entries.{Entries}
use Rattle.bookreport.specs.Report.{kept, noted, note_text}

-- the line is entered, and its refusal noted under its number
pub record Enters (old : Entries) (s : List ℕ) (new : Entries) : Type 0 where
  pub book : lines new.book ≡ kept (lines old.book) (entered (lines old.book) s)
  pub notes : new.notes.items ≡ old.notes.items ++ flat_map note_text (noted (old.read + 1) (entered (lines old.book) s))
  pub read : new.read ≡ old.read + 1
  pub refused : new.refused ≡ old.refused + length (noted (old.read + 1) (entered (lines old.book) s))
