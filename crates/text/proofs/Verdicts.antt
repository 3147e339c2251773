-- What is said of a text that has a form, by its marks. Assumes nothing.
use Rattle.std.proofs.Common.{◌≡◌, ℕ, ◌+◌, ◌<◌, Bool, true, false, cond, ltb, ◌⊎◌, List, [], ◌∷◌, ◌++◌, length, Some, None, Ok, Err, sym, refl, ap, ◌∙◌, inl, inr, ⊎_elim, arith}
use Rattle.std.proofs.lemmas.Bool.{cond-false, cases_Bool, ltb-true, ltb-false, le-ltb}
use Rattle.std.specs.Bool.{then_some}
use Rattle.std.specs.List.{flat_map, AllByRecursion}
use Rattle.text.specs.declared.line.Line.{Line}
use Rattle.text.specs.declared.refusal.LineRefusal.TheVariants.{TooLarge, NotRising}
use Rattle.text.specs.Numerals.{value}
use Rattle.text.specs.Forms.{Part, word, number, wagons, rising}
use Rattle.text.specs.Reading.{Outcome, settled}
use Rattle.text.specs.Meaning.{Filling, blank_digits, Mark, list_marks, marks, FirstAt, Above, Falls}
use Rattle.text.proofs.Filled.{above, fell, first, kept_list, kept_marks}

abbrev pub Not : {X : Type 0} → (X → Type 0) → X → Type 0
Not Bad x = Bad x → ⊥

pub all_parts : {X : Type 0} (P : X → Type 0) (xs ys : List X) → AllByRecursion P (xs ++ ys) → AllByRecursion P xs × AllByRecursion P ys
all_parts P [] ys h = (tt, h)
all_parts P (x ∷ xs) ys h = let r = all_parts P xs ys h.1 in ((h.0, r.0), r.1)

-- of numbers within their limits the reader keeps the values
kept_within : (most v : ℕ) → (most < v → ⊥) → cond (ltb most v) 0 v ≡ v
kept_within most v h = cond-false (ltb most v) 0 v (le-ltb most v (omega arith))

list_within : (most : ℕ) (rise : Bool) (p least : ℕ) (dss : List (List ℕ)) → AllByRecursion (Not Above) (list_marks most rise p least dss) → kept_list most rise p least dss ≡ list_marks most rise p least dss
list_within most rise p least [] h = refl
list_within most rise p least (ds ∷ dss) h =
    let e = kept_within most (value ds) h.0 in
    let q : ℕ = p + 1 + length ds in
    (λ i. record { place = p + 1; limit = most; least = least; value = e i } ∷ kept_list most rise q (cond rise (e i + 1) 0) dss)
    ∙ (λ i. record { place = p + 1; limit = most; least = least; value = value ds } ∷ list_within most rise q (cond rise (value ds + 1) 0) dss h.1 i)

behind_within : (most : ℕ) (rise : Bool) (p : ℕ) (dss : List (List ℕ)) (ks ms : List Mark) → (AllByRecursion (Not Above) ms → ks ≡ ms) → AllByRecursion (Not Above) (list_marks most rise p 0 dss ++ ms) → kept_list most rise p 0 dss ++ ks ≡ list_marks most rise p 0 dss ++ ms
behind_within most rise p dss ks ms to h =
    let hs = all_parts (Not Above) (list_marks most rise p 0 dss) ms h in
    let e = list_within most rise p 0 dss hs.0 in
    let f = to hs.1 in
    λ i. e i ++ f i

marks_within : (ps : List Part) (r : Filling ps) (p : ℕ) → AllByRecursion (Not Above) (marks ps r p) → kept_marks ps r p ≡ marks ps r p
marks_within [] r p h = refl
marks_within (word w ∷ ps) r p h = marks_within ps r (p + length w) h
marks_within (number most ∷ ps) r p h =
    let e = kept_within most (value r.0) h.0 in
    let ih = marks_within ps r.1 (p + length r.0) h.1 in
    λ i. record { place = p; limit = most; least = 0; value = e i } ∷ ih i
marks_within (wagons ∷ ps) r p h =
    let q : ℕ = p + length (flat_map blank_digits r.0) in
    behind_within 31 false p r.0 (kept_marks ps r.1 q) (marks ps r.1 q) (marks_within ps r.1 q) h
marks_within (rising ∷ ps) r p h =
    let q : ℕ = p + length (flat_map blank_digits r.0) in
    behind_within 63 true p r.0 (kept_marks ps r.1 q) (marks ps r.1 q) (marks_within ps r.1 q) h

-- a place that is noted stays
first_stays : (test : Mark → Bool) (q : ℕ) (ms : List Mark) → first test (Some q) ms ≡ Some q
first_stays test q [] = refl
first_stays test q (m ∷ ms) = first_stays test q ms

module _ (Bad : Mark → Type 0) (test : Mark → Bool) (hit : (m : Mark) → test m ≡ true → Bad m) (miss : (m : Mark) → test m ≡ false → Bad m → ⊥) where
  -- what is noted in the end is the place of the first bad mark, if there is one
  first_cases : (ms : List Mark) → (AllByRecursion (Not Bad) ms × (first test None ms ≡ None)) ⊎ ((q : ℕ) × (first test None ms ≡ Some q) × FirstAt Bad ms q)
  first_cases [] = inl (tt, refl)
  first_cases (m ∷ ms) =
      ⊎_elim
      (λ y. inr (m.place, ap (λ b. first test (then_some b m.place) ms) y ∙ first_stays test m.place ms, inl (hit m y, refl)))
      (λ z.
      let e : first test None (m ∷ ms) ≡ first test None ms = ap (λ b. first test (then_some b m.place) ms) z in
      ⊎_elim
      (λ n. inl ((miss m z, n.0), e ∙ n.1))
      (λ (q, f, at). inr (q, e ∙ f, inr (miss m z, at)))
      (first_cases ms))
      (cases_Bool (test m))

module _ (Bad : Mark → Type 0) where
  -- one mark is the first bad one at most
  pub first_none : (ms : List Mark) (q : ℕ) → AllByRecursion (Not Bad) ms → FirstAt Bad ms q → ⊥
  first_none [] q h f = f
  first_none (m ∷ ms) q h (inl f) = h.0 f.0
  first_none (m ∷ ms) q h (inr f) = first_none ms q h.1 f.1

  pub first_one : (ms : List Mark) (q q' : ℕ) → FirstAt Bad ms q → FirstAt Bad ms q' → q ≡ q'
  first_one [] q q' f g = absurd f
  first_one (m ∷ ms) q q' (inl f) (inl g) = f.1 ∙ sym g.1
  first_one (m ∷ ms) q q' (inl f) (inr g) = absurd (g.0 f.0)
  first_one (m ∷ ms) q q' (inr f) (inl g) = absurd (f.0 g.0)
  first_one (m ∷ ms) q q' (inr f) (inr g) = first_one ms q q' f.1 g.1

-- what is said of a line with these marks
pub data Verdict (l : Line) (ms : List Mark) (x : Outcome) : Type 0 where
  fine : AllByRecursion (Not Above) ms → AllByRecursion (Not Falls) ms → x ≡ Ok l → Verdict l ms x
  large : (q : ℕ) → FirstAt Above ms q → x ≡ Err (TooLarge q) → Verdict l ms x
  falling : (q : ℕ) → AllByRecursion (Not Above) ms → FirstAt Falls ms q → x ≡ Err (NotRising q) → Verdict l ms x

settled_within : (l : Line) (ms : List Mark) (x : Outcome) → AllByRecursion (Not Above) ms → x ≡ settled l None (first fell None ms) → Verdict l ms x
settled_within l ms x n e =
    ⊎_elim
    (λ m. fine n m.0 (e ∙ ap (settled l None) m.1))
    (λ (q, f, at). falling q n at (e ∙ ap (settled l None) f))
    (first_cases Falls fell (λ m y. ltb-true m.value m.least y) (λ m z b. omega (arith, ltb-false m.value m.least z)) ms)

pub verdict : (ps : List Part) (r : Filling ps) (p : ℕ) (l : Line) (x : Outcome) → x ≡ settled l (first above None (marks ps r p)) (first fell None (kept_marks ps r p)) → Verdict l (marks ps r p) x
verdict ps r p l x e =
    let ms : List Mark = marks ps r p in
    ⊎_elim
    (λ n. let w = marks_within ps r p n.0 in settled_within l ms x n.0 (e ∙ (λ i. settled l (n.1 i) (first fell None (w i)))))
    (λ (q, f, at). large q at (e ∙ ap (λ o. settled l o (first fell None (kept_marks ps r p))) f))
    (first_cases Above above (λ m y. ltb-true m.limit m.value y) (λ m z b. omega (arith, ltb-false m.limit m.value z)) ms)
