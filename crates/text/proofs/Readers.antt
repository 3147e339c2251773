-- What a reader has taken off its line. Assumes nothing.
use Rattle.std.proofs.Common.{◌≡◌, ℕ, suc, ◌+◌, ◌-◌, ◌*◌, ◌≤◌, Bool, true, cond, eqb, List, [], ◌∷◌, length, Err, Option, sym, refl, ap, ◌∙◌, arith}
use Rattle.std.proofs.lemmas.Bool.{eq-eqb, ne_eqb, false≢true, cond-true, cond-false, cond_both}
use Rattle.grade.specs.declared.upto.UpTo.{UpTo}
use Rattle.text.specs.declared.refusal.LineRefusal.TheVariants.{Syntax}
use Rattle.text.specs.declared.line_reader.LineReader.{LineReader}
use Rattle.text.specs.Numerals.{Taken, digit, digits, numeral, starts}
use Rattle.text.specs.Reading.{Next, take_word, take_number, take_numbers}
use Rattle.text.specs.Steps.{Off, NumberOff, Lacks, word_then, numbers_then, another_then}

-- a number takes a byte at least
digits_shorter : (v p : ℕ) (s : List ℕ) → length (digits v p s).rest ≤ length s
digits_shorter v p [] = omega arith
digits_shorter v p (b ∷ s) =
    cond_both (digit b) _ _ (λ (t : Taken). length t.rest ≤ length (b ∷ s)) (λ y. omega (arith, digits_shorter (v * 10 + (b - 48)) (p + 1) s)) (λ z. omega arith)

numeral_shorter : (p : ℕ) (s : List ℕ) → starts s ≡ true → length (numeral p s).rest + 1 ≤ length s
numeral_shorter p [] e = absurd (false≢true e)
numeral_shorter p (b ∷ s) e =
    cond_both (eqb b 48) _ _ (λ (t : Taken). length t.rest + 1 ≤ length (b ∷ s)) (λ y. omega arith)
    (λ z.
    let v : ℕ = 0 * 10 + (b - 48) in
    let same : digits 0 p (b ∷ s) ≡ digits v (p + 1) s = cond-true (digit b) _ _ e in
    omega (arith, ap (λ (t : Taken). length t.rest) same, digits_shorter v (p + 1) s))

pub number_shorter : (before after : LineReader) (n : Option ℕ) → NumberOff before after n → length after.rest.now + 1 ≤ length before.rest.now
number_shorter before after n h =
    omega (arith, ap length h.rest, numeral_shorter before.place before.rest.now h.begins)

-- a byte of a word is taken, or it is not there
pub word_on : (b : ℕ) (w : List ℕ) (before after : LineReader) (next : Next) → Off (b ∷ []) before after → word_then (b ∷ w) before next ≡ word_then w after next
word_on b w before after next h =
    ap (λ l. take_word (b ∷ w) l before.place before.over before.falls next) h.rest
    ∙ cond-true (eqb b b) (take_word w after.rest.now (before.place + 1) before.over before.falls next) (Err (Syntax before.place)) (eq-eqb b b refl)
    ∙ (λ i. take_word w after.rest.now (sym h.place i) (sym h.over i) (sym h.falls i) next)

byte_fails : (b : ℕ) (w s : List ℕ) (p : ℕ) (over falls : Option ℕ) (next : Next) → Lacks (b ∷ []) s → take_word (b ∷ w) s p over falls next ≡ Err (Syntax p)
byte_fails b w [] p over falls next other = refl
byte_fails b w (c ∷ s) p over falls next other =
    cond-false (eqb c b) (take_word w s (p + 1) over falls next) (Err (Syntax p)) (ne_eqb c b (λ e. other s (λ i. e i ∷ s)))

pub word_off : (b : ℕ) (w : List ℕ) (before : LineReader) (next : Next) → Lacks (b ∷ []) before.rest.now → word_then (b ∷ w) before next ≡ Err (Syntax before.place)
word_off b w before next other = byte_fails b w before.rest.now before.place before.over before.falls next other

-- a blank stands next
blank_next : (s t : List ℕ) (p : ℕ) (over falls : Option ℕ) (n most least : ℕ) (rise : Bool) (next : List (UpTo most) → Next) → s ≡ 32 ∷ t
    → take_numbers (suc n) most rise least s p over falls next
    ≡ take_number most least t (p + 1) over falls (λ x t q o f. take_numbers n most rise (cond rise (x.value + 1) 0) t q o f (λ xs. next (x ∷ xs)))
blank_next s t p over falls n most least rise next e = ap (λ l. take_numbers (suc n) most rise least l p over falls next) e

-- a blank is taken
pub blank_on : (n most least : ℕ) (rise : Bool) (before after : LineReader) (next : List (UpTo most) → Next) → Off (32 ∷ []) before after → numbers_then (suc n) most rise least before next ≡ another_then n most rise least after next
blank_on n most least rise before after next h =
    blank_next before.rest.now after.rest.now before.place before.over before.falls n most least rise next h.rest
    ∙ (λ i. take_number most least after.rest.now (sym h.place i) (sym h.over i) (sym h.falls i) (λ x t q o f. take_numbers n most rise (cond rise (x.value + 1) 0) t q o f (λ xs. next (x ∷ xs))))
