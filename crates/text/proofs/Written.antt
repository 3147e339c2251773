-- The digits of a number behind a text. Assumes nothing.
use Rattle.std.proofs.Common.{◌≡◌, ℕ, ◌+◌, ◌/◌, ◌%◌, ◌^◌, ◌<◌, ◌≤◌, List, [], ◌∷◌, ◌++◌, length, decimal, sym, ap, ◌∙◌, append_assoc, arith}
use Rattle.std.proofs.lemmas.Fmt.{decimal_digit, decimal_step, length-decimal-le}
use Rattle.std.proofs.lemmas.List.{length-append}

-- the last digit behind the others
pub last_digit : (r s t : List ℕ) (n : ℕ) → 10 ≤ n → n < 2 ^ 64 → s ≡ r ++ decimal (n / 10) → t ≡ s ++ (48 + n % 10) ∷ [] → t ≡ r ++ decimal n
last_digit r s t n ge lt p q =
    q ∙ ap (λ l. l ++ (48 + n % 10) ∷ []) p ∙ append_assoc r (decimal (n / 10)) ((48 + n % 10) ∷ []) ∙ ap (λ l. r ++ l) (sym (decimal_step n ge lt))

pub one_digit : (r t : List ℕ) (n : ℕ) → n < 10 → t ≡ r ++ (48 + n % 10) ∷ [] → t ≡ r ++ decimal n
one_digit r t n lt q =
    let same : n % 10 ≡ n = omega arith in
    q ∙ ap (λ d. r ++ (48 + d) ∷ []) same ∙ ap (λ l. r ++ l) (sym (decimal_digit n lt))

-- a number of k digits
pub few_digits : (k : ℕ) (r t : List ℕ) (n : ℕ) → 0 < k → n < 10 ^ k → n < 2 ^ 64 → t ≡ r ++ decimal n → length t ≤ length r + k
few_digits k r t n some lt fits p = omega (arith, ap (λ l. length l) p, length-append r (decimal n), length-decimal-le k n some lt fits)
