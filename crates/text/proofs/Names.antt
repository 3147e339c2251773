-- The names of the forms at the front of a line. Assumes nothing.
use Rattle.std.proofs.Common.{◌≡◌, ℕ, ◌+◌, eqb, List, [], ◌∷◌, ◌++◌, Err, Option, sym, refl, ap, ◌∙◌, ⊎_elim, arith}
use Rattle.std.proofs.lemmas.Bool.{eq-eqb, ne_eqb, cond-true, cond-false, eqb-true, cases_Bool, both_ways}
use Rattle.text.specs.declared.refusal.LineRefusal.TheVariants.{Syntax}
use Rattle.text.specs.Names.{agree}
use Rattle.text.specs.Reading.{Next, take_word}

-- a line that does not begin with w is refused where it leaves w
pub word_fails : (w s : List ℕ) (p : ℕ) (over falls : Option ℕ) (next : Next) → ((t : List ℕ) → s ≡ w ++ t → ⊥) → take_word w s p over falls next ≡ Err (Syntax (p + agree w s))
word_fails [] s p over falls next other = absurd (other s refl)
word_fails (a ∷ w) [] p over falls next other = ap (λ (n : ℕ). Err (Syntax n)) (omega arith)
word_fails (a ∷ w) (b ∷ s) p over falls next other =
    ⊎_elim
    (λ y.
    let e = eqb-true b a y in
    cond-true (eqb b a) (take_word w s (p + 1) over falls next) (Err (Syntax p)) y
    ∙ word_fails w s (p + 1) over falls next (λ t h. other t (λ i. e i ∷ h i))
    ∙ ap (λ (n : ℕ). Err (Syntax n)) (let z : p + 1 + agree w s ≡ p + (1 + agree w s) = omega arith in z)
    ∙ ap (λ (n : ℕ). Err (Syntax (p + n))) (sym (cond-true (eqb a b) (1 + agree w s) 0 (eq-eqb a b (sym e)))))
    (λ y.
    cond-false (eqb b a) (take_word w s (p + 1) over falls next) (Err (Syntax p)) y
    ∙ ap (λ (n : ℕ). Err (Syntax n)) (let z : p ≡ p + 0 = omega arith in z)
    ∙ ap (λ (n : ℕ). Err (Syntax (p + n))) (sym (cond-false (eqb a b) (1 + agree w s) 0 (ne_eqb a b (λ e. both_ways (eqb b a) y (eq-eqb b a (sym e)))))))
    (cases_Bool (eqb b a))
