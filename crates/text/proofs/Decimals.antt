-- The numbers of a line are the decimals of their values. Assumes nothing.
use Rattle.std.proofs.Common.{◌≡◌, ℕ, suc, ◌^◌, ◌<◌, List, [], ◌∷◌, length, get_or, decimal, sym, refl, ap, ◌∙◌, subst, inl, inr, ⊎_elim, arith, rules}
use Rattle.std.proofs.lemmas.Bool.{cases_eq}
use Rattle.std.proofs.lemmas.Str.Parse.{IsNumeralModel, numerals_by_fold}
use Rattle.std.proofs.lemmas.Fmt.{decimal-digits_value, digits_decimal, digits_value-decimal, decimal_digit, decimal_nonempty, first_decimal}
use Rattle.text.specs.Numerals.{digit, Digits, Numeral, value_after, value}

own : IsNumeralModel Digits value
own = numerals_by_fold Digits (search rules) value_after (search rules)

-- a number as a line has it is digits, and the first is 0 only where it is the whole
numeral_digits : (ds : List ℕ) → Numeral ds → Digits ds × ((0 < length ds) × (get_or ds 0 0 ≡ 48 → length ds ≡ 1))
numeral_digits [] n = absurd n
numeral_digits (b ∷ bs) (inl z) = ((ap digit z.0, subst Digits (sym z.1) tt), (omega arith, λ e. ap (λ l. suc (length l)) z.1))
numeral_digits (b ∷ bs) (inr d) = ((d.0, d.1.1), (omega arith, λ e. absurd (d.1.0 e)))

numeral_from : (ds : List ℕ) → Digits ds → 0 < length ds → 48 < get_or ds 0 0 → Numeral ds
numeral_from [] h some first = absurd (omega arith)
numeral_from (b ∷ bs) h some first = inr (h.0, ((λ e. omega arith), h.1))

pub decimal_numeral : (ds : List ℕ) → Numeral ds → value ds < 2 ^ 64 → decimal (value ds) ≡ ds
decimal_numeral ds n lt =
    let h = numeral_digits ds n in
    decimal-digits_value own ds h.0 h.1.0 h.1.1 lt

pub numeral_decimal : (n : ℕ) → n < 2 ^ 64 → Numeral (decimal n)
numeral_decimal n lt =
    ⊎_elim
    (λ e. subst Numeral (sym (ap decimal e ∙ decimal_digit 0 (omega arith))) (inl (refl, refl)))
    (λ ne. numeral_from (decimal n) (digits_decimal own n lt) (decimal_nonempty n lt) (first_decimal n (omega arith) lt))
    (cases_eq n 0)

pub value_of_decimal : (n : ℕ) → n < 2 ^ 64 → value (decimal n) ≡ n
value_of_decimal n lt = digits_value-decimal own n lt
