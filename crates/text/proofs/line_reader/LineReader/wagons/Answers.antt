use Rattle.std.proofs.Common.{false, List, ◌∷◌, Err, sym, ap, ◌∙◌}
use Rattle.std.proofs.lemmas.Result.{err_from_is_err_and}
use Rattle.grade.specs.declared.upto.UpTo.{UpTo}
use Rattle.text.specs.declared.line.Line.{Line}
use Rattle.text.specs.Forms.{Part, Values, wagons}
use Rattle.text.specs.Reading.{Next, scan, wagons_of}
use Rattle.text.specs.Steps.{after_another}
use Rattle.text.proofs.line_reader.LineReader.wagons.Goals as goal

-- what follows these wagons
abbrev then : (ps : List Part) → (Values (wagons ∷ ps) → Line) → List (UpTo 31) → Next
then ps line xs = scan ps (λ v. line (wagons_of xs, v))

pub returns-in_err-first : goal.returns-in_err-first
unfolding scan
returns-in_err-first c =
    let x = err_from_is_err_and c.from_residual.result c.from_residual.ensures.1 in
    rw x.1 (λ ps line. c.in_err-first.ensures.value 1 false (then ps line) ∙ ap Err (sym x.2))

pub returns-in_default : goal.returns-in_default
unfolding scan
returns-in_default c =
    λ ps line. c.in_ok-first.ensures.value 1 false (then ps line) ∙ ap (λ o. after_another 1 31 false o c.another.new.self (then ps line)) c.in_default.is

pub returns-in_err-second : goal.returns-in_err-second
unfolding scan
returns-in_err-second c =
    let x = err_from_is_err_and c.from_residual-in_err-second.result c.from_residual-in_err-second.ensures.1 in
    rw x.1 (λ ps line. c.in_ok-first.ensures.value 1 false (then ps line) ∙ ap (λ o. after_another 1 31 false o c.another.new.self (then ps line)) c.in-Some.is
    ∙ c.in_err-second.ensures.value 0 false (λ xs. then ps line (c.in-Some.first ∷ xs)) ∙ ap Err (sym x.2))

pub returns-in_default-2 : goal.returns-in_default-2
unfolding scan
returns-in_default-2 c =
    λ ps line. c.in_ok-first.ensures.value 1 false (then ps line) ∙ ap (λ o. after_another 1 31 false o c.another.new.self (then ps line)) c.in-Some.is
    ∙ c.in_ok-second.ensures.value 0 false (λ xs. then ps line (c.in-Some.first ∷ xs))
    ∙ ap (λ o. after_another 0 31 false o c.another-2.new.self (λ xs. then ps line (c.in-Some.first ∷ xs))) c.in_default-2.is

pub returns : goal.returns
unfolding scan
returns c =
    λ ps line. c.in_ok-first.ensures.value 1 false (then ps line) ∙ ap (λ o. after_another 1 31 false o c.another.new.self (then ps line)) c.in-Some.is
    ∙ c.in_ok-second.ensures.value 0 false (λ xs. then ps line (c.in-Some.first ∷ xs))
    ∙ ap (λ o. after_another 0 31 false o c.another-2.new.self (λ xs. then ps line (c.in-Some.first ∷ xs))) c.in-Some-2.is
