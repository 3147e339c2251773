-- A text that the reader takes to its end has the form; one that it stops at begins the form. Assumes nothing.
use Rattle.std.proofs.Common.{◌≡◌, ℕ, zero, suc, ◌+◌, ◌-◌, ◌≤◌, Bool, true, false, cond, eqb, ◌⊎◌, List, [], ◌∷◌, ◌++◌, length, take, Err, sym, refl, ap, ◌∙◌, subst, inl, inr, ⊎_elim, arith, Option}
use Rattle.std.proofs.lemmas.List.{append_assoc, length-append}
use Rattle.std.proofs.lemmas.Bool.{cases_Bool, cond_both, eqb-true}
use Rattle.std.specs.List.{flat_map, AllByRecursion}
use Rattle.grade.specs.declared.upto.UpTo.{UpTo}
use Rattle.text.specs.declared.line.Line.{Line}
use Rattle.text.specs.declared.refusal.LineRefusal.TheVariants.{Syntax}
use Rattle.text.specs.Phases.{with_all}
use Rattle.text.specs.Numerals.{Numeral, starts}
use Rattle.text.specs.Forms.{Part, Values, word, number, wagons, rising}
use Rattle.text.specs.Reading.{Outcome, Next, take_word, take_number, take_numbers, wagons_of, values_of, many, scan}
use Rattle.text.specs.Meaning.{Filling, Proper, blank_digits, filled}
use Rattle.text.proofs.Filled.{Clear, settled_clear}
use Rattle.text.proofs.Numbers.{numbered, number_taken, number_refused}

abbrev pub Texts : Type 1
Texts = List ℕ → Type 0

-- the texts of a form
abbrev pub Of : List Part → Texts
Of ps s = (r : Filling ps) × (Proper ps r × (s ≡ filled ps r))

-- the reader, which began at p, stops at `at`, and what stands before begins one of these texts
pub record Halts (L : Texts) (s : List ℕ) (p : ℕ) (x : Outcome) : Type 0 where
  pub at : ℕ
  pub is : x ≡ Err (Syntax at)
  pub low : p ≤ at
  pub high : at ≤ p + length s
  pub more : List ℕ
  pub begins : L (take (at - p) s ++ more)

abbrev pub Tells : Texts → List ℕ → ℕ → Outcome → Type 0
Tells L s p x = Halts L s p x ⊎ (L s × Clear x)

abbrev Some : Texts → Type 0
Some L = (t : List ℕ) × L t

take_past : (w s : List ℕ) (m n : ℕ) → m ≡ length w + n → take m (w ++ s) ≡ w ++ take n s
take_past [] s m n e = ap (λ k. take k s) (omega arith)
take_past (c ∷ w) s m n e =
    let k : m ≡ suc (length w + n) = omega arith in
    ap (λ j. take j (c ∷ (w ++ s))) k ∙ ap (λ l. c ∷ l) (take_past w s (length w + n) n refl)

-- what is told behind w
tells_after : (L M : Texts) (w : List ℕ) → ((t : List ℕ) → L t → M (w ++ t)) → (s : List ℕ) (p q : ℕ) (x : Outcome) → q ≡ p + length w → Tells L s q x → Tells M (w ++ s) p x
tells_after L M w to s p q x e (inl h) =
    let lo = h.low in
    let hi = h.high in
    let f = take_past w s (h.at - p) (h.at - q) (omega arith) in
    inl (record {
      at = h.at;
      is = h.is;
      low = omega arith;
      high = omega (arith, length-append w s);
      more = h.more;
      begins = subst M (sym (ap (λ l. l ++ h.more) f ∙ append_assoc w (take (h.at - q) s) h.more)) (to _ h.begins);
    })
tells_after L M w to s p q x e (inr h) = inr (to s h.0, h.1)

tells_here : (L : Texts) → Some L → (s : List ℕ) (p : ℕ) (x : Outcome) → x ≡ Err (Syntax p) → Tells L s p x
tells_here L some s p x e =
    let z : 0 ≡ p - p = omega arith in
    inl (record { at = p; is = e; low = omega arith; high = omega arith; more = some.0; begins = subst (λ n. L (take n s ++ some.0)) z some.1 })

-- this word, and one of L behind it
abbrev Worded : List ℕ → Texts → Texts
Worded w L s = (t : List ℕ) × L t × (s ≡ w ++ t)

-- a number, and one of L behind it
abbrev Number : Texts → Texts
Number L s = (ds : List ℕ) × Numeral ds × (t : List ℕ) × L t × (s ≡ ds ++ t)

-- at most n numbers, a blank before each, and one of L behind them
abbrev Lists : ℕ → Texts → Texts
Lists n L s = (dss : List (List ℕ)) × AllByRecursion Numeral dss × (length dss ≤ n) × (t : List ℕ) × L t × (s ≡ flat_map blank_digits dss ++ t)

abbrev Told : Texts → Next → Type 0
Told L next = (s : List ℕ) (p : ℕ) (over falls : Option ℕ) → Tells L s p (next s p over falls)

module _ (L : Texts) (some : Some L) where
  told_word : (next : Next) → Told L next → (w : List ℕ) → Told (Worded w L) (λ s p o f. take_word w s p o f next)
  told_word next on [] s p over falls = tells_after L (Worded [] L) [] (λ t h. (t, h, refl)) s p p _ (omega arith) (on s p over falls)
  told_word next on (c ∷ w) [] p over falls =
      tells_here (Worded (c ∷ w) L) (c ∷ w ++ some.0, (some.0, some.1, refl)) [] p _ refl
  told_word next on (c ∷ w) (b ∷ s) p over falls =
      let M : Texts = Worded (c ∷ w) L in
      cond_both (eqb b c) _ _ (λ x. Tells M (b ∷ s) p x)
      (λ y. tells_after (Worded w L) M (b ∷ []) (λ t h. (h.0, h.1, λ i. eqb-true b c y i ∷ h.2 i)) s p (p + 1) _ refl (told_word next on w s (p + 1) over falls))
      (λ z. tells_here M (c ∷ w ++ some.0, (some.0, some.1, refl)) (b ∷ s) p _ refl)

  zero_first : Some (Number L)
  zero_first = (48 ∷ some.0, (48 ∷ [], inl (refl, refl), some.0, some.1, refl))

  told_number : (most least : ℕ) (next : UpTo most → Next) → ((x : UpTo most) → Told L (next x)) → Told (Number L) (λ s p o f. take_number most least s p o f next)
  told_number most least next on s p over falls =
      ⊎_elim
      (λ y.
      let n = numbered s y in
      let e = ap (λ l. take_number most least l p over falls next) n.is ∙ number_taken most least n.digits n.rest p over falls next n.proper n.ended in
      let h = tells_after L (Number L) n.digits (λ t h. (n.digits, n.proper, t, h, refl)) n.rest p (p + length n.digits) _ refl (on _ n.rest (p + length n.digits) _ _) in
      subst (λ l. Tells (Number L) l p (take_number most least s p over falls next)) (sym n.is) (subst (λ x. Tells (Number L) (n.digits ++ n.rest) p x) (sym e) h))
      (λ z. tells_here (Number L) zero_first s p _ (number_refused most least s p over falls next z))
      (cases_Bool (starts s))

module _ (L : Texts) (some : Some L) where
  lists_none : (n : ℕ) (t : List ℕ) → L t → Lists n L t
  lists_none n t h = ([], tt, omega arith, t, h, refl)

  lists_more : (n : ℕ) (t : List ℕ) → Number (Lists n L) t → Lists (suc n) L (32 ∷ t)
  lists_more n t (ds, d, u, (dss, all, le, v, h, e), f) =
      (ds ∷ dss, (d, all), omega arith, v, h, ap (λ l. 32 ∷ l) (f ∙ ap (λ l. ds ++ l) e ∙ sym (append_assoc ds (flat_map blank_digits dss) v)))

  told_numbers : (n most : ℕ) (rise : Bool) (least : ℕ) (next : List (UpTo most) → Next) → ((xs : List (UpTo most)) → Told L (next xs)) → Told (Lists n L) (λ s p o f. take_numbers n most rise least s p o f next)
  told_numbers zero most rise least next on s p over falls = tells_after L (Lists zero L) [] (lists_none zero) s p p _ (omega arith) (on [] s p over falls)
  told_numbers (suc n) most rise least next on [] p over falls = tells_after L (Lists (suc n) L) [] (lists_none (suc n)) [] p p _ (omega arith) (on [] [] p over falls)
  told_numbers (suc n) most rise least next on (b ∷ s) p over falls =
      let M : Texts = Lists (suc n) L in
      let then : UpTo most → Next = λ x t q o f. take_numbers n most rise (cond rise (x.value + 1) 0) t q o f (λ xs. next (x ∷ xs)) in
      cond_both (eqb b 32) _ _ (λ x. Tells M (b ∷ s) p x)
      (λ y.
      tells_after (Number (Lists n L)) M (b ∷ []) (λ t h. subst (λ c. M (c ∷ t)) (sym (eqb-true b 32 y)) (lists_more n t h)) s p (p + 1) _ refl
      (told_number (Lists n L) (some.0, lists_none n some.0 some.1) most least then
      (λ x. told_numbers n most rise (cond rise (x.value + 1) 0) (λ xs. next (x ∷ xs)) (λ xs. on (x ∷ xs))) s (p + 1) over falls))
      (λ z. tells_after L M [] (lists_none (suc n)) (b ∷ s) p p _ (omega arith) (on [] (b ∷ s) p over falls))

-- every form can be filled
pub complete : (ps : List Part) → Some (Of ps)
complete [] = ([], (tt, (tt, refl)))
complete (word w ∷ ps) = let (t, (r, (h, e))) = complete ps in (w ++ t, (r, (h, ap (λ l. w ++ l) e)))
complete (number most ∷ ps) = let (t, (r, (h, e))) = complete ps in (48 ∷ t, ((48 ∷ [], r), ((inl (refl, refl), h), ap (λ l. 48 ∷ l) e)))
complete (wagons ∷ ps) = let (t, (r, (h, e))) = complete ps in (t, (([], r), ((tt, (omega arith, h)), e)))
complete (rising ∷ ps) = let (t, (r, (h, e))) = complete ps in (t, (([], r), ((tt, h), e)))

tells_weaker : (L M : Texts) → ((t : List ℕ) → L t → M t) → (s : List ℕ) (p : ℕ) (x : Outcome) → Tells L s p x → Tells M s p x
tells_weaker L M to s p x h = tells_after L M [] to s p p x (omega arith) h

-- the reader stops in a text that begins the form, or it does not, and the text has the form
pub scan_tells : (ps : List Part) (line : Values ps → Line) → Told (Of ps) (scan ps line)
unfolding scan
scan_tells [] line [] p over falls = inr ((tt, (tt, refl)), settled_clear (line tt) over falls)
scan_tells [] line (b ∷ s) p over falls = tells_here (Of []) (complete []) (b ∷ s) p _ refl
scan_tells (word w ∷ ps) line s p over falls =
    tells_weaker (Worded w (Of ps)) (Of (word w ∷ ps)) (λ s (t, (r, (h, e)), f). (r, (h, f ∙ ap (λ l. w ++ l) e))) s p _
    (told_word (Of ps) (complete ps) (scan ps line) (scan_tells ps line) w s p over falls)
scan_tells (number most ∷ ps) line s p over falls =
    tells_weaker (Number (Of ps)) (Of (number most ∷ ps)) (λ s (ds, d, t, (r, (h, e)), f). ((ds, r), ((d, h), f ∙ ap (λ l. ds ++ l) e))) s p _
    (told_number (Of ps) (complete ps) most 0 (λ x. scan ps (λ v. line (x, v))) (λ x. scan_tells ps (λ v. line (x, v))) s p over falls)
scan_tells (wagons ∷ ps) line s p over falls =
    tells_weaker (Lists 2 (Of ps)) (Of (wagons ∷ ps)) (λ s (dss, d, le, t, (r, (h, e)), f). ((dss, r), ((d, (le, h)), f ∙ ap (λ l. flat_map blank_digits dss ++ l) e))) s p _
    (told_numbers (Of ps) (complete ps) 2 31 false 0 (λ xs. scan ps (λ v. line (wagons_of xs, v))) (λ xs. scan_tells ps (λ v. line (wagons_of xs, v))) s p over falls)
scan_tells (rising ∷ ps) line s p over falls =
    tells_weaker (Lists many (Of ps)) (Of (rising ∷ ps)) (λ s (dss, d, le, t, (r, (h, e)), f). ((dss, r), ((d, h), f ∙ ap (λ l. flat_map blank_digits dss ++ l) e))) s p _
    (told_numbers (Of ps) (complete ps) many 63 true 0 (λ xs. scan ps (λ v. line (with_all 0 (values_of xs), v))) (λ xs. scan_tells ps (λ v. line (with_all 0 (values_of xs), v))) s p over falls)
