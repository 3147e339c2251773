-- What it gives to enter a text into a book with these lines.
use Rattle.std.specs.Prelude.{ℕ, Bool, false, cond, List, [], ◌∷◌, length, Ok, Err, filter, Result, ◌==◌, nat_le}
use Rattle.text.specs.declared.line.Line.{Line}
use Rattle.text.specs.declared.line.Line.TheVariants.{Order, Notice, Open, Watch, Link, End, Bare}
use Rattle.text.specs.Reading.{Outcome, read}
use Rattle.book.specs.declared.refusal.Refusal.{Refusal}
use Rattle.book.specs.declared.refusal.Refusal.TheVariants.{Line as Misread, Stands, Full}
use Rattle.book.specs.Order.{among, put}
use Rattle.book.specs.Ranks.{Kind, opens, watches, links, kind, start, rank}

-- an order or notice with this number, or this very line, stands among them: a line of its rank
abbrev pub clashes : List Line → Line → Bool
clashes ls l = among rank (rank l) ls

-- kinds are told by where their ranks start
abbrev pub same_kind : Kind → Kind → Bool
same_kind j k = start j == start k

-- how many of them are of this kind
abbrev pub many : Kind → List Line → ℕ
many k ls = length (filter (λ l. same_kind (kind l) k) ls)

-- as many lines as a book holds stand among them, and l is one more of their kind
abbrev pub full : List Line → Line → Bool
full ls (Order o) = false
full ls (Notice n) = false
full ls (Open F) = nat_le 8 (many opens ls)
full ls (Watch w) = nat_le 128 (many watches ls)
full ls (Link k) = nat_le 128 (many links ls)
full ls (End t) = false
full ls (Bare p) = false

-- a line that was read goes to its place, unless it clashes, or else there is no room for it
abbrev pub entered_line : List Line → Outcome → Result (List Line) Refusal
entered_line ls (Err e) = Err (Misread e)
entered_line ls (Ok l) = cond (clashes ls l) (Err Stands) (cond (full ls l) (Err Full) (Ok (put rank l ls)))

-- entering a text: what it says, then whether it clashes, then whether there is room
unfoldable pub entered : List Line → List ℕ → Result (List Line) Refusal
entered ls s = entered_line ls (read s)

-- what follows, unless something was refused
abbrev pub and_then : Result (List Line) Refusal → (List Line → Result (List Line) Refusal) → Result (List Line) Refusal
and_then (Ok ls) next = next ls
and_then (Err e) next = Err e

-- entering texts one after another, up to the first that is refused
abbrev pub entered_all : List Line → List (List ℕ) → Result (List Line) Refusal
entered_all ls [] = Ok ls
entered_all ls (s ∷ ss) = and_then (entered ls s) (λ ms. entered_all ms ss)
