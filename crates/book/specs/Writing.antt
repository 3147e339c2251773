-- The text of a book, and what it tells.
use Rattle.std.specs.Prelude.{◌≡◌, ℕ, cond, ◌↔◌, List, [], ◌∷◌, ◌++◌, Ok, ◌==◌}
use Rattle.std.specs.List.{ContainsAt as Has, flat_map}
use Rattle.text.specs.declared.line.Line.{Line}
use Rattle.text.specs.Forms.{text}
use Rattle.book.specs.declared.tables.Book.{Book}
use Rattle.book.specs.Ranks.{Sorted}
use Rattle.book.specs.Lines.{lines}
use Rattle.book.specs.Entering.{entered_all}
use Rattle.book.specs.Words.{Once}

-- a line with the byte that ends it
abbrev pub ended : Line → List ℕ
ended l = text l ++ 10 ∷ []

-- the text of these lines, one after another
unfoldable pub book_text : List Line → List ℕ
book_text ls = flat_map ended ls

-- a byte more in front of the first line
abbrev pub before_first : ℕ → List (List ℕ) → List (List ℕ)
before_first b [] = (b ∷ []) ∷ []
before_first b (s ∷ ss) = (b ∷ s) ∷ ss

-- a text cut into lines at byte 10, which belongs to none of them; a last line need not be ended
abbrev pub split : List ℕ → List (List ℕ)
split [] = []
split (b ∷ bs) = cond (b == 10) ([] ∷ split bs) (before_first b (split bs))

-- entered line by line into a book with no lines, the text of these lines gives them again
abbrev pub ReadsBack : List Line → Type 0
ReadsBack ls = entered_all [] (split (book_text ls)) ≡ Ok ls

-- the same lines stand in both
abbrev pub SameLines : Book → Book → Type 0
SameLines b c = (x : Line) → Has (lines b) x ↔ Has (lines c) x

-- books are told apart by their texts
abbrev pub ToldByText : Book → Type 0
ToldByText b = (c : Book) → SameLines b c ↔ (book_text (lines c) ≡ book_text (lines b))

-- books with the same lines are the same record
abbrev pub ToldByLines : Book → Type 0
ToldByLines b = (c : Book) → SameLines b c → c ≡ b

-- what the lines and the text of a book tell
pub record Tells (b : Book) : Type 0 where
  pub sorted : Sorted (lines b)
  pub once : Once (lines b)
  pub back : ReadsBack (lines b)
  pub text : ToldByText b
  pub same : ToldByLines b
