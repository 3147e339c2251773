-- What the reader makes of a text that has a form. Assumes nothing.
use Rattle.std.proofs.Common.{◌≡◌, ℕ, zero, suc, ◌+◌, ◌*◌, ◌<◌, ◌≤◌, Bool, true, false, cond, not, ◌&&◌, eqb, ltb, ◌⊎◌, List, [], ◌∷◌, ◌++◌, length, Option, Some, None, Ok, Err, sym, refl, ap, ◌∙◌, inl, inr, ⊎_elim, arith}
use Rattle.std.proofs.lemmas.List.{append_assoc, length-append}
use Rattle.std.proofs.lemmas.Bool.{false≢true, cond-true, cond-false, cases_lt, eq-eqb, ne_eqb, eqb-false, and_parts, not-true}
use Rattle.std.specs.List.{flat_map, AllByRecursion}
use Rattle.grade.specs.declared.upto.UpTo.{UpTo}
use Rattle.text.specs.declared.line.Line.{Line}
use Rattle.text.specs.declared.refusal.LineRefusal.TheVariants.{Syntax, TooLarge, NotRising}
use Rattle.text.specs.Phases.{with_all}
use Rattle.text.specs.Numerals.{digit, Numeral, value, starts, kept}
use Rattle.text.specs.Forms.{Part, Values, word, number, wagons, rising}
use Rattle.text.specs.Reading.{Outcome, Next, noted, take_word, take_number, take_numbers, wagons_of, values_of, many, settled, scan}
use Rattle.text.specs.Meaning.{Filling, Proper, blank_digits, filled, Mark, list_marks, marks}
use Rattle.text.proofs.Fillings.{kept_all, meant}
use Rattle.text.proofs.Numbers.{Ended, numeral_some, number_taken}

abbrev pub blank : List ℕ → Bool
blank [] = false
blank (b ∷ bs) = eqb b 32

-- what may stand behind a number begins with no digit
abbrev pub breaks : List Part → Bool
breaks [] = true
breaks (word [] ∷ ps) = false
breaks (word (c ∷ w) ∷ ps) = not (digit c)
breaks (number most ∷ ps) = false
breaks (wagons ∷ ps) = true
breaks (rising ∷ ps) = true

-- what stands behind a list of numbers begins with a word that has neither a digit nor a blank in front
abbrev pub ends : List Part → Bool
ends [] = false
ends (word [] ∷ ps) = false
ends (word (c ∷ w) ∷ ps) = not (digit c) && not (eqb c 32)
ends (number most ∷ ps) = false
ends (wagons ∷ ps) = false
ends (rising ∷ ps) = false

-- no number runs into what stands behind it
abbrev pub parted : List Part → Bool
parted [] = true
parted (word w ∷ ps) = parted ps
parted (number most ∷ ps) = breaks ps && parted ps
parted (wagons ∷ ps) = ends ps && parted ps
parted (rising ∷ ps) = ends ps && parted ps

abbrev pub is_syntax : Outcome → Bool
is_syntax (Ok l) = false
is_syntax (Err (Syntax q)) = true
is_syntax (Err (TooLarge q)) = false
is_syntax (Err (NotRising q)) = false

-- no refusal of the syntax
abbrev pub Clear : Outcome → Type 0
Clear x = (q : ℕ) → x ≡ Err (Syntax q) → ⊥

pub clear_from : (x : Outcome) → is_syntax x ≡ false → Clear x
clear_from x h q e = false≢true (sym h ∙ ap is_syntax e)

-- where the line may end, it is no longer a matter of syntax
pub settled_clear : (l : Line) (over falls : Option ℕ) → Clear (settled l over falls)
settled_clear l None None = clear_from (Ok l) refl
settled_clear l None (Some q) = clear_from (Err (NotRising q)) refl
settled_clear l (Some q) falls = clear_from (Err (TooLarge q)) refl

abbrev pub above : Mark → Bool
above m = ltb m.limit m.value

abbrev pub fell : Mark → Bool
fell m = ltb m.value m.least

-- the place noted, or else that of the first mark that passes
abbrev pub first : (Mark → Bool) → Option ℕ → List Mark → Option ℕ
first test place [] = place
first test place (m ∷ ms) = first test (noted place m.place (test m)) ms

pub first_append : (test : Mark → Bool) (place : Option ℕ) (ms ns : List Mark) → first test (first test place ms) ns ≡ first test place (ms ++ ns)
first_append test place [] ns = refl
first_append test place (m ∷ ms) ns = first_append test (noted place m.place (test m)) ms ns

-- the marks as the reader sees them, which keeps 0 for a number above its limit
abbrev pub kept_list : ℕ → Bool → ℕ → ℕ → List (List ℕ) → List Mark
kept_list most rise p least [] = []
kept_list most rise p least (ds ∷ dss) =
    record { place = p + 1; limit = most; least = least; value = (kept most (value ds)).value }
    ∷ kept_list most rise (p + 1 + length ds) (cond rise ((kept most (value ds)).value + 1) 0) dss

abbrev pub kept_marks : (ps : List Part) → Filling ps → ℕ → List Mark
kept_marks [] r p = []
kept_marks (word w ∷ ps) r p = kept_marks ps r (p + length w)
kept_marks (number most ∷ ps) r p =
    record { place = p; limit = most; least = 0; value = (kept most (value r.0)).value } ∷ kept_marks ps r.1 (p + length r.0)
kept_marks (wagons ∷ ps) r p = kept_list 31 false p 0 r.0 ++ kept_marks ps r.1 (p + length (flat_map blank_digits r.0))
kept_marks (rising ∷ ps) r p = kept_list 63 true p 0 r.0 ++ kept_marks ps r.1 (p + length (flat_map blank_digits r.0))

word_taken : (w s : List ℕ) (p : ℕ) (over falls : Option ℕ) (next : Next) → take_word w (w ++ s) p over falls next ≡ next s (p + length w) over falls
word_taken [] s p over falls next = let same : p ≡ p + 0 = omega arith in ap (λ q. next s q over falls) same
word_taken (c ∷ w) s p over falls next =
    let same : p + 1 + length w ≡ p + suc (length w) = omega arith in
    cond-true (eqb c c) _ _ (eq-eqb c c refl) ∙ word_taken w s (p + 1) over falls next ∙ ap (λ q. next s q over falls) same

list_ended : (ds : List ℕ) (dss : List (List ℕ)) (t : List ℕ) → starts t ≡ false → Ended ds (flat_map blank_digits dss ++ t)
list_ended ds [] t e = inr e
list_ended ds (ds' ∷ dss) t e = inr refl

none_taken : (n most : ℕ) (rise : Bool) (least : ℕ) (t : List ℕ) (p : ℕ) (over falls : Option ℕ) (next : List (UpTo most) → Next) → blank t ≡ false → take_numbers n most rise least t p over falls next ≡ next [] t p over falls
none_taken zero most rise least t p over falls next e = refl
none_taken (suc n) most rise least [] p over falls next e = refl
none_taken (suc n) most rise least (b ∷ t) p over falls next e = cond-false (eqb b 32) _ _ e

module _ (most : ℕ) (rise : Bool) (t : List ℕ) (no_digit : starts t ≡ false) where
  -- a list of numbers that is not too long is taken whole
  numbers_taken : (n : ℕ) (dss : List (List ℕ)) → AllByRecursion Numeral dss → length dss ≤ n → blank t ≡ false → (least low p : ℕ) (over falls : Option ℕ) (next : List (UpTo most) → Next) → take_numbers n most rise least (flat_map blank_digits dss ++ t) p over falls next ≡ next (kept_all most dss) t (p + length (flat_map blank_digits dss)) (first above over (list_marks most rise p low dss)) (first fell falls (kept_list most rise p least dss))
  numbers_taken n [] h le no_blank least low p over falls next =
      let same : p ≡ p + 0 = omega arith in
      none_taken n most rise least t p over falls next no_blank ∙ ap (λ q. next [] t q over falls) same
  numbers_taken zero (ds ∷ dss) h le no_blank least low p over falls next = absurd (omega arith)
  numbers_taken (suc n) (ds ∷ dss) h le no_blank least low p over falls next =
      let on : UpTo most → Next = λ x u q o f. take_numbers n most rise (cond rise (x.value + 1) 0) u q o f (λ xs. next (x ∷ xs)) in
      let x : UpTo most = kept most (value ds) in
      let u : List ℕ = flat_map blank_digits dss in
      let o : Option ℕ = noted over (p + 1) (ltb most (value ds)) in
      let f : Option ℕ = noted falls (p + 1) (ltb x.value least) in
      let same : p + 1 + length ds + length u ≡ p + suc (length (ds ++ u)) = omega (arith, length-append ds u) in
      ap (λ l. take_number most least l (p + 1) over falls on) (append_assoc ds u t)
      ∙ number_taken most least ds (u ++ t) (p + 1) over falls on h.0 (list_ended ds dss t no_digit)
      ∙ numbers_taken n dss h.1 (omega arith) no_blank (cond rise (x.value + 1) 0) (cond rise (value ds + 1) 0) (p + 1 + length ds) o f (λ xs. next (x ∷ xs))
      ∙ ap (λ q. next (kept_all most (ds ∷ dss)) t q (first above over (list_marks most rise p low (ds ∷ dss))) (first fell falls (kept_list most rise p least (ds ∷ dss)))) same

  -- of a longer list the reader leaves a blank and what stands behind it
  abbrev Leaves : ℕ → (List (UpTo most) → Next) → ℕ → Outcome → Type 0
  Leaves n next p x =
      (xs : List (UpTo most)) × (u : List ℕ) × (q : ℕ) × (over : Option ℕ) × (falls : Option ℕ) × (p + 2 * n ≤ q) × (x ≡ next xs (32 ∷ u) q over falls)

  numbers_left : (n : ℕ) (dss : List (List ℕ)) → AllByRecursion Numeral dss → n < length dss → (least p : ℕ) (over falls : Option ℕ) (next : List (UpTo most) → Next) → Leaves n next p (take_numbers n most rise least (flat_map blank_digits dss ++ t) p over falls next)
  numbers_left n [] h lt least p over falls next = absurd (omega arith)
  numbers_left zero (ds ∷ dss) h lt least p over falls next = ([], ds ++ flat_map blank_digits dss ++ t, p, over, falls, omega arith, refl)
  numbers_left (suc n) (ds ∷ dss) h lt least p over falls next =
      let on : UpTo most → Next = λ x u q o f. take_numbers n most rise (cond rise (x.value + 1) 0) u q o f (λ xs. next (x ∷ xs)) in
      let x : UpTo most = kept most (value ds) in
      let u : List ℕ = flat_map blank_digits dss in
      let o : Option ℕ = noted over (p + 1) (ltb most (value ds)) in
      let f : Option ℕ = noted falls (p + 1) (ltb x.value least) in
      let e =
      ap (λ l. take_number most least l (p + 1) over falls on) (append_assoc ds u t)
      ∙ number_taken most least ds (u ++ t) (p + 1) over falls on h.0 (list_ended ds dss t no_digit)
      in
      let some = numeral_some ds h.0 in
      let m = numbers_left n dss h.1 (omega arith) (cond rise (x.value + 1) 0) (p + 1 + length ds) o f (λ xs. next (x ∷ xs)) in
      (x ∷ m.0, m.1, m.2, m.3, m.4, omega arith, e ∙ m.6)

-- what stands behind a list of numbers begins with neither a digit nor a blank
filled_ends : (ps : List Part) (r : Filling ps) → ends ps ≡ true → (starts (filled ps r) ≡ false) × (blank (filled ps r) ≡ false)
filled_ends [] r e = absurd (false≢true e)
filled_ends (word [] ∷ ps) r e = absurd (false≢true e)
filled_ends (word (c ∷ w) ∷ ps) r e =
    let h = and_parts (not (digit c)) (not (eqb c 32)) e in
    (not-true (digit c) h.0, not-true (eqb c 32) h.1)
filled_ends (number most ∷ ps) r e = absurd (false≢true e)
filled_ends (wagons ∷ ps) r e = absurd (false≢true e)
filled_ends (rising ∷ ps) r e = absurd (false≢true e)

list_starts : (dss : List (List ℕ)) (t : List ℕ) → starts t ≡ false → starts (flat_map blank_digits dss ++ t) ≡ false
list_starts [] t e = e
list_starts (ds ∷ dss) t e = refl

-- what stands behind a number begins with no digit
filled_breaks : (ps : List Part) (r : Filling ps) → parted ps ≡ true → breaks ps ≡ true → starts (filled ps r) ≡ false
filled_breaks [] r a e = refl
filled_breaks (word [] ∷ ps) r a e = absurd (false≢true e)
filled_breaks (word (c ∷ w) ∷ ps) r a e = not-true (digit c) e
filled_breaks (number most ∷ ps) r a e = absurd (false≢true e)
filled_breaks (wagons ∷ ps) r a e = list_starts r.0 (filled ps r.1) (filled_ends ps r.1 (and_parts (ends ps) (parted ps) a).0).0
filled_breaks (rising ∷ ps) r a e = list_starts r.0 (filled ps r.1) (filled_ends ps r.1 (and_parts (ends ps) (parted ps) a).0).0

blank_refused : (ps : List Part) (line : Values ps → Line) (u : List ℕ) (p : ℕ) (over falls : Option ℕ) → ends ps ≡ true → scan ps line (32 ∷ u) p over falls ≡ Err (Syntax p)
unfolding scan
blank_refused [] line u p over falls e = absurd (false≢true e)
blank_refused (word [] ∷ ps) line u p over falls e = absurd (false≢true e)
blank_refused (word (c ∷ w) ∷ ps) line u p over falls e =
    let h = and_parts (not (digit c)) (not (eqb c 32)) e in
    cond-false (eqb 32 c) _ _ (ne_eqb 32 c (λ x. eqb-false c 32 (not-true (eqb c 32) h.1) (sym x)))
blank_refused (number most ∷ ps) line u p over falls e = absurd (false≢true e)
blank_refused (wagons ∷ ps) line u p over falls e = absurd (false≢true e)
blank_refused (rising ∷ ps) line u p over falls e = absurd (false≢true e)

-- x is y, or a refusal so far on that no text of 512 bytes reaches it
abbrev pub Late : ℕ → Outcome → Type 0
Late p x = (q : ℕ) × (p + 1024 ≤ q) × (x ≡ Err (Syntax q))

abbrev pub Comes : ℕ → Outcome → Outcome → Type 0
Comes p x y = Late p x ⊎ (x ≡ y)

comes_from : (p q : ℕ) (x x' y y' : Outcome) → p ≤ q → x ≡ x' → y ≡ y' → Comes q x' y → Comes p x y'
comes_from p q x x' y y' le e f (inl h) = inl (h.0, omega arith, e ∙ h.2)
comes_from p q x x' y y' le e f (inr h) = inr (e ∙ h ∙ f)

module _ (ps : List Part) (line : Values ps → Line) (r : Filling ps) (p : ℕ) (over falls : Option ℕ) where
  -- a text that has a form is read to its end, and the first places are noted
  abbrev pub TakenWhole : Type 0
  TakenWhole = Comes p (scan ps line (filled ps r) p over falls) (settled (line (meant ps r)) (first above over (marks ps r p)) (first fell falls (kept_marks ps r p)))

module _ (ps : List Part) (closed : ends ps ≡ true) (n most : ℕ) (rise : Bool) {V : Type 0} (g : List (UpTo most) → V) (line : V × Values ps → Line) (dss : List (List ℕ)) (proper : AllByRecursion Numeral dss) (r : Filling ps) (p : ℕ) (over falls : Option ℕ) where
  abbrev after : List (UpTo most) → Next
  after xs = scan ps (λ v. line (g xs, v))

  abbrev place : ℕ
  place = p + length (flat_map blank_digits dss)

  list_filled : length dss ≤ n → ((l : Values ps → Line) (o f : Option ℕ) → TakenWhole ps l r place o f) → Comes p (take_numbers n most rise 0 (flat_map blank_digits dss ++ filled ps r) p over falls after) (settled (line (g (kept_all most dss), meant ps r)) (first above over (list_marks most rise p 0 dss ++ marks ps r place)) (first fell falls (kept_list most rise p 0 dss ++ kept_marks ps r place)))
  list_filled le ih =
      let c = filled_ends ps r closed in
      let o : Option ℕ = first above over (list_marks most rise p 0 dss) in
      let f : Option ℕ = first fell falls (kept_list most rise p 0 dss) in
      let eo = first_append above over (list_marks most rise p 0 dss) (marks ps r place) in
      let ef = first_append fell falls (kept_list most rise p 0 dss) (kept_marks ps r place) in
      comes_from p place _ _ _ _ (omega arith)
      (numbers_taken most rise (filled ps r) c.0 n dss proper le c.1 0 0 p over falls after)
      (λ i. settled (line (g (kept_all most dss), meant ps r)) (eo i) (ef i))
      (ih (λ v. line (g (kept_all most dss), v)) o f)

  list_late : n < length dss → 512 ≤ n → Late p (take_numbers n most rise 0 (flat_map blank_digits dss ++ filled ps r) p over falls after)
  list_late lt le =
      let c = filled_ends ps r closed in
      let m = numbers_left most rise (filled ps r) c.0 n dss proper lt 0 p over falls after in
      (m.2, omega arith, m.6 ∙ blank_refused ps (λ v. line (g m.0, v)) m.1 m.2 m.3 m.4 closed)

pub scan_filled : (ps : List Part) → parted ps ≡ true → (line : Values ps → Line) (r : Filling ps) → Proper ps r → (p : ℕ) (over falls : Option ℕ) → TakenWhole ps line r p over falls
unfolding scan
scan_filled [] a line r h p over falls = inr refl
scan_filled (word w ∷ ps) a line r h p over falls =
    comes_from p (p + length w) _ _ _ _ (omega arith) (word_taken w (filled ps r) p over falls (scan ps line)) refl
    (scan_filled ps a line r h (p + length w) over falls)
scan_filled (number most ∷ ps) a line r h p over falls =
    let b = and_parts (breaks ps) (parted ps) a in
    let t = filled ps r.1 in
    let x : UpTo most = kept most (value r.0) in
    comes_from p (p + length r.0) _ _ _ _ (omega arith)
    (number_taken most 0 r.0 t p over falls (λ y. scan ps (λ v. line (y, v))) h.0 (inr (filled_breaks ps r.1 b.1 b.0)))
    refl
    (scan_filled ps b.1 (λ v. line (x, v)) r.1 h.1 (p + length r.0) (noted over p (ltb most (value r.0))) (noted falls p (ltb x.value 0)))
scan_filled (wagons ∷ ps) a line r h p over falls =
    let b = and_parts (ends ps) (parted ps) a in
    list_filled ps b.0 2 31 false wagons_of line r.0 h.0 r.1 p over falls h.1.0
    (λ l o f. scan_filled ps b.1 l r.1 h.1.1 (p + length (flat_map blank_digits r.0)) o f)
scan_filled (rising ∷ ps) a line r h p over falls =
    let b = and_parts (ends ps) (parted ps) a in
    let phase : List (UpTo 63) → ℕ = λ xs. with_all 0 (values_of xs) in
    ⊎_elim
    (λ lt. inl (list_late ps b.0 many 63 true phase line r.0 h.0 r.1 p over falls lt (omega arith)))
    (λ le. list_filled ps b.0 many 63 true phase line r.0 h.0 r.1 p over falls le
    (λ l o f. scan_filled ps b.1 l r.1 h.1 (p + length (flat_map blank_digits r.0)) o f))
    (cases_lt many (length r.0))
