use Rattle.std.proofs.Common.{◌≡◌, ℕ, suc, ◌+◌, ◌-◌, ◌*◌, ◌≤◌, true, List, ◌∷◌, length, OnSome, Option, Err, sym, refl, ap, ◌∙◌, subst, arith}
use lib.Bits.{bit_or}
use Rattle.std.proofs.lemmas.Result.{err_from_is_err_and}
use Rattle.grade.specs.declared.upto.UpTo.{UpTo}
use Rattle.text.specs.declared.line.Line.{Line}
use Rattle.text.specs.declared.line_reader.LineReader.{LineReader}
use Rattle.text.specs.Phases.{with_all}
use Rattle.text.specs.Forms.{Part, Values, rising}
use Rattle.text.specs.Reading.{Next, scan, values_of}
use Rattle.text.specs.Steps.{after_another, numbers_then}
use Rattle.text.proofs.line_reader.LineReader.rising.Goals as goal

-- what follows these numbers, where the phase has some already
abbrev then : ℕ → (ps : List Part) → (Values (rising ∷ ps) → Line) → List (UpTo 63) → Next
then phase ps line xs = scan ps (λ v. line (with_all phase (values_of xs), v))

-- one number at least may still come
one_more : (n least phase : ℕ) (r : LineReader) (ps : List Part) (line : Values (rising ∷ ps) → Line) → length r.rest.now + 1 ≤ 2 * n → numbers_then n 63 true least r (then phase ps line) ≡ numbers_then (suc (n - 1)) 63 true least r (then phase ps line)
one_more n least phase r ps line some =
    let e : n ≡ suc (n - 1) = omega arith in
    ap (λ k. numbers_then k 63 true least r (then phase ps line)) e

pub loop-number-init : goal.loop-number-init
unfolding scan
loop-number-init c = (512, omega (arith, c.args.self.now.fits), λ ps line. refl)

pub returns-in_err-number : goal.returns-in_err-number
returns-in_err-number c =
    let x = err_from_is_err_and c.from_residual.result c.from_residual.ensures.1 in
    let l = c.loop-number in
    let h = l.invariant in
    rw x.1 (λ ps line. h.2 ps line ∙ one_more h.0 l.least l.phase l.self ps line (omega (arith, h.1))
    ∙ c.in_err-number.ensures.value (h.0 - 1) true (then l.phase ps line) ∙ ap Err (sym x.2))

pub returns : goal.returns
returns c =
    let l = c.loop-number in
    let h = l.invariant in
    λ ps line. h.2 ps line ∙ one_more h.0 l.least l.phase l.self ps line (omega (arith, h.1))
    ∙ c.in_ok-number.ensures.value (h.0 - 1) true (then l.phase ps line)
    ∙ ap (λ o. after_another (h.0 - 1) 63 true o c.another.new.self (then l.phase ps line)) c.in_default.is

pub loop-number-preserved : goal.loop-number-preserved
loop-number-preserved c =
    let l = c.loop-number in
    let h = l.invariant in
    let n = h.0 - 1 in
    let r = c.in-Some.number in
    let P : Option (UpTo 63) → Type 0 = λ o. OnSome o (length c.another.new.self.rest.now + 2 ≤ length l.self.rest.now) in
    let short = subst P c.in-Some.is c.in_ok-number.ensures.shorter in (
      n,
      omega (arith, h.1, short),
      λ ps line. h.2 ps line ∙ one_more h.0 l.least l.phase l.self ps line (omega (arith, h.1))
          ∙ c.in_ok-number.ensures.value n true (then l.phase ps line)
          ∙ ap (λ o. after_another n 63 true o c.another.new.self (then l.phase ps line)) c.in-Some.is
          ∙ ap (λ b. numbers_then n 63 true (r.value + 1) c.another.new.self (then (bit_or l.phase b) ps line)) (sym c.bit-phase.ensures),
    )
