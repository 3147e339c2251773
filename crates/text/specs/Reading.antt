-- What a line of text says, worked out from its first byte on.
use Rattle.std.specs.Prelude.{ℕ, zero, suc, ◌+◌, max, Bool, true, false, cond, List, [], ◌∷◌, map, length, Some, None, Option, Ok, Err, Result, ◌==◌, nat_lt}
use Rattle.std.specs.Bool.{then_some}
use Rattle.std.specs.Option.{option_or}
use Rattle.grade.specs.declared.upto.UpTo.{UpTo}
use Rattle.text.specs.declared.line.Line.{Line}
use Rattle.text.specs.declared.line.Line.TheVariants.{Order, Notice, Open, Watch, Link, End, Bare}
use Rattle.text.specs.declared.line.Rule.{Rule}
use Rattle.text.specs.declared.line.Rule.TheVariants as rule
use Rattle.text.specs.declared.line.Wagons.{Wagons}
use Rattle.text.specs.declared.line.Wagons.TheVariants.{Zero, One, Two}
use Rattle.text.specs.declared.refusal.LineRefusal.{LineRefusal}
use Rattle.text.specs.declared.refusal.LineRefusal.TheVariants.{Syntax, TooLarge, NotRising}
use Rattle.text.specs.Numerals.{Taken, numeral, starts, kept}
use Rattle.text.specs.Phases.{with_all}
use Rattle.text.specs.Forms.{Part, Form, Values, word, number, wagons, rising, forms, rule_forms}

abbrev pub Outcome : Type 0
Outcome = Result Line LineRefusal

-- what follows a part: the text behind it, its place, and the places of the first number above its limit and of the first
-- that does not rise, where there is one
abbrev pub Next : Type 0
Next = List ℕ → ℕ → Option ℕ → Option ℕ → Outcome

-- the first place that was noted stays
abbrev pub noted : Option ℕ → ℕ → Bool → Option ℕ
noted place here now = option_or place (then_some now here)

abbrev pub take_word : List ℕ → List ℕ → ℕ → Option ℕ → Option ℕ → Next → Outcome
take_word [] s p over falls next = next s p over falls
take_word (c ∷ w) [] p over falls next = Err (Syntax p)
take_word (c ∷ w) (b ∷ s) p over falls next = cond (b == c) (take_word w s (p + 1) over falls next) (Err (Syntax p))

-- a number up to `most`, which does not rise where it is below `least`
abbrev pub take_number : (most least : ℕ) → List ℕ → ℕ → Option ℕ → Option ℕ → (UpTo most → Next) → Outcome
take_number most least s p over falls next =
    let n : Taken = numeral p s in
    let x : UpTo most = kept most n.value in
    cond (starts s) (next x n.rest n.place (noted over p (nat_lt most n.value)) (noted falls p (nat_lt x.value least))) (Err (Syntax p))

-- at most n numbers, a blank before each; where they are to rise, the next is at least `least`
abbrev pub take_numbers : ℕ → (most : ℕ) → Bool → ℕ → List ℕ → ℕ → Option ℕ → Option ℕ → (List (UpTo most) → Next) → Outcome
take_numbers zero most rise least s p over falls next = next [] s p over falls
take_numbers (suc n) most rise least [] p over falls next = next [] [] p over falls
take_numbers (suc n) most rise least (b ∷ s) p over falls next =
    cond (b == 32)
    (take_number most least s (p + 1) over falls (λ x t q o f.
    take_numbers n most rise (cond rise (x.value + 1) 0) t q o f (λ xs. next (x ∷ xs))))
    (next [] (b ∷ s) p over falls)

-- the first two
abbrev pub wagons_of : List (UpTo 31) → Wagons
wagons_of [] = Zero
wagons_of (a ∷ []) = One a
wagons_of (a ∷ (b ∷ cs)) = Two a b

abbrev pub values_of : List (UpTo 63) → List ℕ
values_of xs = map (λ x. x.value) xs

-- a line of at most 512 bytes has fewer numbers than this
abbrev pub many : ℕ
many = 512

-- where all parts are read: a number above its limit is refused before one that does not rise
abbrev pub settled : Line → Option ℕ → Option ℕ → Outcome
settled l None None = Ok l
settled l None (Some q) = Err (NotRising q)
settled l (Some q) falls = Err (TooLarge q)

unfoldable pub scan : (ps : List Part) → (Values ps → Line) → Next
scan [] line [] p over falls = settled (line tt) over falls
scan [] line (b ∷ s) p over falls = Err (Syntax p)
scan (word w ∷ ps) line s p over falls = take_word w s p over falls (scan ps line)
scan (number most ∷ ps) line s p over falls = take_number most 0 s p over falls (λ x. scan ps (λ v. line (x, v)))
scan (wagons ∷ ps) line s p over falls =
    take_numbers 2 31 false 0 s p over falls (λ xs. scan ps (λ v. line (wagons_of xs, v)))
scan (rising ∷ ps) line s p over falls =
    take_numbers many 63 true 0 s p over falls (λ xs. scan ps (λ v. line (with_all 0 (values_of xs), v)))

-- what one form makes of a text
abbrev pub by_form : Form → List ℕ → Outcome
by_form f s = scan f.parts f.line s 1 None None

-- of two outcomes the one that came further
abbrev pub further : Outcome → Outcome → Outcome
further (Err (Syntax p)) (Err (Syntax q)) = Err (Syntax (max p q))
further (Err (Syntax p)) (Err (TooLarge q)) = Err (TooLarge q)
further (Err (Syntax p)) (Err (NotRising q)) = Err (NotRising q)
further (Err (Syntax p)) (Ok l) = Ok l
further (Err (TooLarge q)) y = Err (TooLarge q)
further (Err (NotRising q)) y = Err (NotRising q)
further (Ok l) y = Ok l

-- what the form that comes furthest makes of a text
abbrev pub by_forms : List Form → List ℕ → Outcome
by_forms [] s = Err (Syntax 1)
by_forms (f ∷ fs) s = further (by_form f s) (by_forms fs s)

-- what a line of text says, where it may be any of these forms
abbrev pub read_as : List Form → List ℕ → Outcome
read_as fs s = cond (nat_lt 512 (length s)) (Err (Syntax 513)) (by_forms fs s)

abbrev pub read : List ℕ → Outcome
read s = read_as forms s

-- an order or a notice is a line
abbrev pub rule_line : Rule → Line
rule_line (rule.Order o) = Order o
rule_line (rule.Notice n) = Notice n

abbrev pub as_line : Result Rule LineRefusal → Outcome
as_line (Ok r) = Ok (rule_line r)
as_line (Err e) = Err e

-- Back again. No other line has one of the two forms, so what is said of the others does not occur.
abbrev pub as_rule : Outcome → Result Rule LineRefusal
as_rule (Ok (Order o)) = Ok (rule.Order o)
as_rule (Ok (Notice n)) = Ok (rule.Notice n)
as_rule (Ok (Open F)) = Err (Syntax 1)
as_rule (Ok (Watch w)) = Err (Syntax 1)
as_rule (Ok (Link l)) = Err (Syntax 1)
as_rule (Ok (End t)) = Err (Syntax 1)
as_rule (Ok (Bare p)) = Err (Syntax 1)
as_rule (Err e) = Err e

-- what a line of text says, where it may be an order or a notice only
abbrev pub read_rule : List ℕ → Result Rule LineRefusal
read_rule s = as_rule (read_as rule_forms s)
