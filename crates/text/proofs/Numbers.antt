-- A number that stands at the front of a text, and how the reader takes it. Assumes nothing.
use Rattle.std.proofs.Common.{◌≡◌, ℕ, suc, ◌+◌, ◌-◌, ◌*◌, ◌≤◌, true, false, cond, eqb, ltb, ◌⊎◌, List, [], ◌∷◌, ◌++◌, length, Err, sym, refl, ap, ◌∙◌, inl, inr, ⊎_elim, arith, Option}
use Rattle.std.proofs.lemmas.Bool.{cond-true, cond-false, cases_Bool, cases_eq, ne_eqb}
use Rattle.text.specs.declared.refusal.LineRefusal.TheVariants.{Syntax}
use Rattle.grade.specs.declared.upto.UpTo.{UpTo}
use Rattle.text.specs.Numerals.{digit, Digits, Numeral, value, value_after, Taken, digits, numeral, starts, kept}
use Rattle.text.specs.Reading.{Next, noted, take_number}

-- a number with these digits ends where t begins
abbrev pub Ended : List ℕ → List ℕ → Type 0
Ended ds t = (ds ≡ 48 ∷ []) ⊎ (starts t ≡ false)

digits_stop : (t : List ℕ) (n p : ℕ) → starts t ≡ false → digits n p t ≡ record { value = n; place = p; rest = t }
digits_stop [] n p e = refl
digits_stop (b ∷ t) n p e = cond-false (digit b) _ _ e

digits_taken : (ds t : List ℕ) (n p : ℕ) → Digits ds → starts t ≡ false → digits n p (ds ++ t) ≡ record { value = value_after n ds; place = p + length ds; rest = t }
digits_taken [] t n p h e = let same : p ≡ p + 0 = omega arith in digits_stop t n p e ∙ (λ i. record { value = n; place = same i; rest = t })
digits_taken (b ∷ ds) t n p h e =
    let same : p + 1 + length ds ≡ p + suc (length ds) = omega arith in
    cond-true (digit b) _ _ h.0 ∙ digits_taken ds t (n * 10 + (b - 48)) (p + 1) h.1 e
    ∙ (λ i. record { value = value_after (n * 10 + (b - 48)) ds; place = same i; rest = t })

zero_taken : (ds t : List ℕ) (p : ℕ) → ds ≡ 48 ∷ [] → numeral p (ds ++ t) ≡ record { value = value ds; place = p + length ds; rest = t }
zero_taken ds t p e = ap (λ l. numeral p (l ++ t)) e ∙ (λ i. record { value = value (sym e i); place = p + length (sym e i); rest = t })

pub numeral_taken : (ds t : List ℕ) (p : ℕ) → Numeral ds → Ended ds t → numeral p (ds ++ t) ≡ record { value = value ds; place = p + length ds; rest = t }
numeral_taken [] t p h e = absurd h
numeral_taken (b ∷ ds) t p (inl z) e = zero_taken (b ∷ ds) t p (λ i. z.0 i ∷ z.1 i)
numeral_taken (b ∷ ds) t p (inr h) (inl z) = zero_taken (b ∷ ds) t p z
numeral_taken (b ∷ ds) t p (inr h) (inr e) =
    cond-false (eqb b 48) _ _ (ne_eqb b 48 h.1.0) ∙ digits_taken (b ∷ ds) t 0 p (h.0, h.1.1) e

pub numeral_starts : (ds t : List ℕ) → Numeral ds → starts (ds ++ t) ≡ true
numeral_starts [] t h = absurd h
numeral_starts (b ∷ ds) t (inl z) = ap digit z.0
numeral_starts (b ∷ ds) t (inr h) = h.0

-- each number takes a byte at least
pub numeral_some : (ds : List ℕ) → Numeral ds → 1 ≤ length ds
numeral_some [] h = absurd h
numeral_some (b ∷ ds) h = omega arith

module _ (most least : ℕ) (ds t : List ℕ) (p : ℕ) (over falls : Option ℕ) (next : UpTo most → Next) where
  -- the reader goes on behind the number
  pub number_taken : Numeral ds → Ended ds t → take_number most least (ds ++ t) p over falls next ≡ next (kept most (value ds)) t (p + length ds) (noted over p (ltb most (value ds))) (noted falls p (ltb (kept most (value ds)).value least))
  number_taken h e =
      cond-true (starts (ds ++ t)) _ _ (numeral_starts ds t h)
      ∙ ap (λ (n : Taken). next (kept most n.value) n.rest n.place (noted over p (ltb most n.value)) (noted falls p (ltb (kept most n.value).value least))) (numeral_taken ds t p h e)

-- a text that begins with a number
pub record Numbered (s : List ℕ) : Type 0 where
  pub digits : List ℕ
  pub rest : List ℕ
  pub is : s ≡ digits ++ rest
  pub proper : Numeral digits
  pub ended : Ended digits rest

abbrev Front : List ℕ → Type 0
Front s = (ds : List ℕ) × (t : List ℕ) × (s ≡ ds ++ t) × Digits ds × (starts t ≡ false)

front_of : (s : List ℕ) → Front s
front_of [] = ([], [], refl, tt, refl)
front_of (b ∷ s) =
    let h = front_of s in
    ⊎_elim
    (λ y. (b ∷ h.0, h.1, ap (λ l. b ∷ l) h.2, (y, h.3), h.4))
    (λ z. ([], b ∷ s, refl, tt, z))
    (cases_Bool (digit b))

pub numbered : (s : List ℕ) → starts s ≡ true → Numbered s
numbered [] e = let z : ◌≡◌ {A = ℕ} 0 1 = ap (λ b. cond b 1 0) e in absurd (omega arith)
numbered (b ∷ s) e =
    let h = front_of s in
    ⊎_elim
    (λ y. record { digits = b ∷ []; rest = s; is = refl; proper = inl (y, refl); ended = inl (ap (λ c. c ∷ []) y) })
    (λ z. record { digits = b ∷ h.0; rest = h.1; is = ap (λ l. b ∷ l) h.2; proper = inr (e, (z, h.3)); ended = inr h.4 })
    (cases_eq b 48)

-- where no number begins, the reader stops
pub number_refused : (most least : ℕ) (s : List ℕ) (p : ℕ) (over falls : Option ℕ) (next : UpTo most → Next) → starts s ≡ false → take_number most least s p over falls next ≡ Err (Syntax p)
number_refused most least s p over falls next e = cond-false (starts s) _ _ e
