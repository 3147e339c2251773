-- A refusal of the syntax looks no further than its place. Assumes nothing.
use Rattle.std.proofs.Common.{◌≡◌, ℕ, zero, suc, ◌+◌, ◌-◌, ◌≤◌, Bool, true, false, cond, eqb, ltb, List, [], ◌∷◌, ◌++◌, length, take, Err, sym, refl, ap, ◌∙◌, subst, inl, inr, ⊎_elim, arith, Option}
use Rattle.std.proofs.lemmas.Bool.{cases_Bool, cond-true, cond-false}
use Rattle.grade.specs.declared.upto.UpTo.{UpTo}
use Rattle.text.specs.declared.line.Line.{Line}
use Rattle.text.specs.declared.refusal.LineRefusal.TheVariants.{Syntax}
use Rattle.text.specs.Phases.{with_all}
use Rattle.text.specs.Numerals.{value, starts, kept}
use Rattle.text.specs.Forms.{Part, Values, word, number, wagons, rising}
use Rattle.text.specs.Reading.{Outcome, Next, noted, take_word, take_number, take_numbers, wagons_of, values_of, many, scan}
use Rattle.text.proofs.Numbers.{Ended, numbered, number_taken, number_refused}
use Rattle.text.proofs.Filled.{settled_clear}

front_nil : (m : ℕ) (u : List ℕ) → take (suc m) u ≡ [] → u ≡ []
front_nil m [] e = refl
front_nil m (a ∷ u) e = let h = ap length e in absurd (omega arith)

front_cons : (m b : ℕ) (s u : List ℕ) → take (suc m) u ≡ b ∷ take m s → (t : List ℕ) × (u ≡ b ∷ t) × (take m t ≡ take m s)
front_cons m b s [] e = let h = ap length e in absurd (omega arith)
front_cons m b s (a ∷ t) e = let x : a ≡ b = cc in (t, ap (λ z. z ∷ t) x, (cc))

-- u begins with w, and goes on as s does for n bytes
abbrev Goes_on : List ℕ → List ℕ → List ℕ → ℕ → Type 0
Goes_on w s u n = (t : List ℕ) × (u ≡ w ++ t) × (take n t ≡ take n s)

goes_on_more : (b : ℕ) (w s t u : List ℕ) (n : ℕ) → u ≡ b ∷ t → Goes_on w s t n → Goes_on (b ∷ w) s u n
goes_on_more b w s t u n e (v, f, g) = (v, e ∙ ap (λ l. b ∷ l) f, g)

-- a text with the same front as w ++ s begins with w
front_past : (w s u : List ℕ) (m n : ℕ) → m ≡ length w + n → take m u ≡ take m (w ++ s) → Goes_on w s u n
front_past [] s u m n e f = let k : m ≡ n = omega arith in (u, refl, subst (λ j. take j u ≡ take j s) k f)
front_past (b ∷ w) s u m n e f =
    let k : m ≡ suc (length w + n) = omega arith in
    let h = front_cons (length w + n) b (w ++ s) u (subst (λ j. take j u ≡ take j (b ∷ (w ++ s))) k f) in
    goes_on_more b w s h.0 u n h.1 (front_past w s h.0 (length w + n) n refl h.2)

starts_alike : (m : ℕ) (s u : List ℕ) → take (suc m) u ≡ take (suc m) s → starts u ≡ starts s
starts_alike m [] u e = ap starts (front_nil m u e)
starts_alike m (b ∷ s) u e = ap starts (front_cons m b s u e).1

pub same_place : (p q : ℕ) → ◌≡◌ {A = Outcome} (Err (Syntax p)) (Err (Syntax q)) → p ≡ q
same_place p q e = cc

-- a refusal at q of what stands from p on holds of every text with the same front as far as q
abbrev pub LocalAt : (List ℕ → Outcome) → List ℕ → ℕ → ℕ → Type 0
LocalAt read s p q = (p ≤ q) × ((u : List ℕ) → take (suc (q - p)) u ≡ take (suc (q - p)) s → read u ≡ Err (Syntax q))

abbrev pub Local : Next → Type 0
Local next = (s : List ℕ) (p : ℕ) (over falls : Option ℕ) (q : ℕ) → next s p over falls ≡ Err (Syntax q) → LocalAt (λ u. next u p over falls) s p q

-- what is local behind w is local from w on
local_after : (read next : List ℕ → Outcome) (w s : List ℕ) (p q : ℕ) → ((t : List ℕ) → take (suc (q - (p + length w))) t ≡ take (suc (q - (p + length w))) s → read (w ++ t) ≡ next t) → LocalAt next s (p + length w) q → LocalAt read (w ++ s) p q
local_after read next w s p q to h =
    let le = h.0 in (
      omega arith,
      λ u f.
          let g = front_past w s u (suc (q - p)) (suc (q - (p + length w))) (omega arith) f in
          ap read g.1 ∙ to g.0 g.2 ∙ h.1 g.0 g.2,
    )

-- a refusal at the very place hangs on the first byte alone
local_here : (read : List ℕ → Outcome) (s : List ℕ) (p q : ℕ) → p ≡ q → ((u : List ℕ) → take 1 u ≡ take 1 s → read u ≡ Err (Syntax p)) → LocalAt read s p q
local_here read s p q e h =
    let k : suc (q - p) ≡ 1 = omega arith in
    (omega arith, λ u f. h u (subst (λ n. take n u ≡ take n s) k f) ∙ ap (λ (n : ℕ). Err (Syntax n)) e)

local_word : (next : Next) → Local next → (w : List ℕ) → Local (λ s p o f. take_word w s p o f next)
local_word next on [] s p over falls q e = on s p over falls q e
local_word next on (c ∷ w) [] p over falls q e =
    local_here (λ u. take_word (c ∷ w) u p over falls next) [] p q (same_place p q e)
    (λ u f. ap (λ l. take_word (c ∷ w) l p over falls next) (front_nil 0 u f))
local_word next on (c ∷ w) (b ∷ s) p over falls q e =
    let read : List ℕ → Outcome = λ u. take_word (c ∷ w) u p over falls next in
    let then : List ℕ → Outcome = λ u. take_word w u (p + 1) over falls next in
    ⊎_elim
    (λ y.
    let to : (t : List ℕ) → read (b ∷ t) ≡ then t = λ t. cond-true (eqb b c) (then t) (Err (Syntax p)) y in
    local_after read then (b ∷ []) s p q (λ t f. to t) (local_word next on w s (p + 1) over falls q (sym (to s) ∙ e)))
    (λ z.
    let to : (t : List ℕ) → read (b ∷ t) ≡ Err (Syntax p) = λ t. cond-false (eqb b c) (then t) (Err (Syntax p)) z in
    local_here read (b ∷ s) p q (same_place p q (sym (to s) ∙ e)) (λ u f. let g = front_cons 0 b s u f in ap read g.1 ∙ to g.0))
    (cases_Bool (eqb b c))

ended_alike : (ds s u : List ℕ) (m : ℕ) → take (suc m) u ≡ take (suc m) s → Ended ds s → Ended ds u
ended_alike ds s u m f (inl z) = inl z
ended_alike ds s u m f (inr z) = inr (starts_alike m s u f ∙ z)

local_number : (most least : ℕ) (next : UpTo most → Next) → ((x : UpTo most) → Local (next x)) → Local (λ s p o f. take_number most least s p o f next)
local_number most least next on s p over falls q e =
    let read : List ℕ → Outcome = λ u. take_number most least u p over falls next in
    ⊎_elim
    (λ y.
    let n = numbered s y in
    let ds = n.digits in
    let x : UpTo most = kept most (value ds) in
    let o : Option ℕ = noted over p (ltb most (value ds)) in
    let f : Option ℕ = noted falls p (ltb x.value least) in
    let then : List ℕ → Outcome = λ u. next x u (p + length ds) o f in
    let to : (t : List ℕ) → Ended ds t → read (ds ++ t) ≡ then t = λ t d. number_taken most least ds t p over falls next n.proper d in
    let h : LocalAt then n.rest (p + length ds) q = on x n.rest (p + length ds) o f q (sym (to n.rest n.ended) ∙ ap read (sym n.is) ∙ e) in
    let g : LocalAt read (ds ++ n.rest) p q = local_after read then ds n.rest p q (λ t a. to t (ended_alike ds n.rest t (q - (p + length ds)) a n.ended)) h in
    subst (λ l. LocalAt read l p q) (sym n.is) g)
    (λ z.
    let pq = same_place p q (sym (number_refused most least s p over falls next z) ∙ e) in
    local_here read s p q pq (λ u f. number_refused most least u p over falls next (starts_alike 0 s u f ∙ z)))
    (cases_Bool (starts s))

local_numbers : (n most : ℕ) (rise : Bool) (least : ℕ) (next : List (UpTo most) → Next) → ((xs : List (UpTo most)) → Local (next xs)) → Local (λ s p o f. take_numbers n most rise least s p o f next)
local_numbers zero most rise least next on s p over falls q e = on [] s p over falls q e
local_numbers (suc n) most rise least next on [] p over falls q e =
    let h = on [] [] p over falls q e in
    (h.0, λ u f. ap (λ l. take_numbers (suc n) most rise least l p over falls next) (front_nil (q - p) u f) ∙ e)
local_numbers (suc n) most rise least next on (b ∷ s) p over falls q e =
    let read : List ℕ → Outcome = λ u. take_numbers (suc n) most rise least u p over falls next in
    let go : UpTo most → Next = λ x t q o f. take_numbers n most rise (cond rise (x.value + 1) 0) t q o f (λ xs. next (x ∷ xs)) in
    let then : List ℕ → Outcome = λ u. take_number most least u (p + 1) over falls go in
    ⊎_elim
    (λ y.
    let to : (t : List ℕ) → read (b ∷ t) ≡ then t = λ t. cond-true (eqb b 32) (then t) (next [] (b ∷ t) p over falls) y in
    let ih : (x : UpTo most) → Local (go x) = λ x. local_numbers n most rise (cond rise (x.value + 1) 0) (λ xs. next (x ∷ xs)) (λ xs. on (x ∷ xs)) in
    local_after read then (b ∷ []) s p q (λ t f. to t) (local_number most least go ih s (p + 1) over falls q (sym (to s) ∙ e)))
    (λ z.
    let to : (t : List ℕ) → read (b ∷ t) ≡ next [] (b ∷ t) p over falls = λ t. cond-false (eqb b 32) (then t) (next [] (b ∷ t) p over falls) z in
    let h = on [] (b ∷ s) p over falls q (sym (to s) ∙ e) in (
      h.0,
      λ u f.
          let g = front_cons (q - p) b s u f in
          ap read g.1 ∙ to g.0 ∙ h.1 (b ∷ g.0) (ap (λ l. b ∷ l) g.2),
    ))
    (cases_Bool (eqb b 32))

pub scan_local : (ps : List Part) (line : Values ps → Line) → Local (scan ps line)
unfolding scan
scan_local [] line [] p over falls q e = absurd (settled_clear (line tt) over falls q e)
scan_local [] line (b ∷ s) p over falls q e =
    local_here (λ l. scan [] line l p over falls) (b ∷ s) p q (same_place p q e) (λ u f. ap (λ l. scan [] line l p over falls) (front_cons 0 b s u f).1)
scan_local (word w ∷ ps) line s p over falls q e = local_word (scan ps line) (scan_local ps line) w s p over falls q e
scan_local (number most ∷ ps) line s p over falls q e =
    local_number most 0 (λ x. scan ps (λ v. line (x, v))) (λ x. scan_local ps (λ v. line (x, v))) s p over falls q e
scan_local (wagons ∷ ps) line s p over falls q e =
    local_numbers 2 31 false 0 (λ xs. scan ps (λ v. line (wagons_of xs, v))) (λ xs. scan_local ps (λ v. line (wagons_of xs, v))) s p over falls q e
scan_local (rising ∷ ps) line s p over falls q e =
    local_numbers many 63 true 0 (λ xs. scan ps (λ v. line (with_all 0 (values_of xs), v))) (λ xs. scan_local ps (λ v. line (with_all 0 (values_of xs), v))) s p over falls q e
