-- Going through what is left of a book's tables. Assumes nothing.
use Rattle.std.proofs.Common.{◌≡◌, ℕ, ◌+◌, ◌<◌, ◌≤◌, Bool, true, false, List, [], ◌∷◌, ◌++◌, length, is_some, Some, None, Option, Bor, Iter, sym, refl, ap, ◌∙◌, subst, arith}
use Rattle.std.proofs.lemmas.Bool.{false≢true}
use Rattle.std.proofs.lemmas.List.{nil_from_length}
use Rattle.std.specs.declared.iter.Enumerate.{Enumerate}
use Rattle.std.specs.Fn.{CalledAt, Mut}
use Rattle.std.specs.Iterator.{Yields, FindsItem}
use Rattle.std.specs.Iterator.Adapters.{enumerate_count, enumerate_source, enumerate_steps}
use Rattle.std.specs.List.{FoldsTo}
use Rattle.std.specs.Option.{MatchOption, option_copied, option_flatten}
use Rattle.std.specs.Slice.Iter.{iter_rest, iter_steps}
use Rattle.grade.specs.declared.upto.UpTo.{UpTo}
use Rattle.grade.specs.ValuesLemmas.{same_upto}
use Rattle.text.specs.declared.line.Line.{Line}
use Rattle.text.specs.declared.line.Line.TheVariants.{Open}
use Rattle.text.specs.declared.line.Rule.{Rule}
use Rattle.text.specs.Numerals.{kept}
use Rattle.text.specs.Reading.{rule_line as as_line}
use Rattle.book.specs.Tables.{rule_line, mark_line, by_number}
use Rattle.book.specs.Left.{rules_left, marks_left, marks_end}
use Rattle.book.proofs.Books.{kept_is}

-- lines are left, of which an item that comes takes the first, or none; what `find` passes over takes none
module _ {S A F : Type 0} (steps : S → Option A → S → Type 0) (left : S → List Line) (taken : A → List Line) (number : A → ℕ) (size : S → ℕ)
    (last : (s t : S) → steps s None t → (left s ≡ []) × (left t ≡ []) × (size t ≡ size s))
    (one : (s t : S) (x : A) → steps s (Some x) t → (left s ≡ taken x ++ left t) × (size t ≡ size s) × (number x < size s))
    (g : Mut F (Bor A × Unit {0}) Bool) (passes : A → Bool) (tells : (p : F) (x : A) (b : Bool) (q : F) → CalledAt g p x b q → b ≡ passes x)
    (blank : (x : A) → passes x ≡ false → taken x ≡ []) where
  passed : (f e : F) (s t : S) (xs : List A) → Yields steps s xs t → FoldsTo (λ p x q. CalledAt g p x false q) f xs e → (left s ≡ left t) × (size t ≡ size s)
  passed f e s t [] y h = (ap left y, sym (ap size y))
  passed f e s t (x ∷ xs) y h =
      let first = one s y.0 x y.1 in
      let more = passed h.0 e y.0 t xs y.2 h.2 in
      (first.0 ∙ ap (λ l. l ++ left y.0) (blank x (sym (tells f x false h.0 h.1))) ∙ more.0, more.1 ∙ first.1)

  found : (s u : S) (f : F) (r : Option A) → FindsItem steps g s f r u
      → MatchOption r ((left s ≡ []) × (left u ≡ [])) (λ x. (left s ≡ taken x ++ left u) × (passes x ≡ true) × (number x < size s)) × (size u ≡ size s)
  found s u f None h =
      let front = passed f h.1 s h.2.0 h.0 h.2.1 h.3 in
      let end = last h.2.0 u h.2.2 in
      ((front.0 ∙ end.0, end.1), end.2 ∙ front.1)
  found s u f (Some x) h =
      let front = passed f h.1 s h.2.0 h.0 h.2.1 h.3 in
      let item = one h.2.0 u x h.2.2 in
      let low = item.2 in
      let same = front.1 in
      ((front.0 ∙ item.0, sym (tells h.1 x true h.4.0 h.4.1), omega arith), item.1 ∙ front.1)

-- ---- orders and notices

rule_anywhere : (m n : ℕ) (r : Option Rule) → rule_line m r ≡ rule_line n r
rule_anywhere m n None = refl
rule_anywhere m n (Some r) = refl

rules_anywhere : (m n : ℕ) (rs : List (Option Rule)) → by_number rule_line m rs ≡ by_number rule_line n rs
rules_anywhere m n [] = refl
rules_anywhere m n (r ∷ rs) = λ i. rule_anywhere m n r i ++ rules_anywhere (m + 1) (n + 1) rs i

no_rule : (r : Option Rule) → is_some r ≡ false → rule_line 0 r ≡ []
no_rule None e = refl
no_rule (Some r) e = absurd (false≢true (sym e))

a_rule : (r : Option Rule) (ls ms : List Line) → is_some r ≡ true → ls ≡ rule_line 0 r ++ ms → MatchOption r ((ls ≡ []) × (ms ≡ [])) (λ v. ls ≡ as_line v ∷ ms)
a_rule None ls ms e h = absurd (false≢true e)
a_rule (Some r) ls ms e h = h

module _ {F : Type 0} {g : Mut F (Bor (Bor (Option Rule)) × Unit {0}) Bool} (tells : (p : F) (x : Bor (Option Rule)) (b : Bool) (q : F) → CalledAt g p x b q → b ≡ is_some x.now) where
  pub next_rule : (s u : Iter (Option Rule)) (f : F) (r : Option (Bor (Option Rule))) → FindsItem iter_steps g s f r u
      → (o : Option Rule) → o ≡ option_flatten (option_copied r) → MatchOption o ((rules_left s ≡ []) × (rules_left u ≡ [])) (λ v. rules_left s ≡ as_line v ∷ rules_left u)
  next_rule s u f r h o is =
      let P : Option Rule → Type 0 = λ v. MatchOption v ((rules_left s ≡ []) × (rules_left u ≡ [])) (λ x. rules_left s ≡ as_line x ∷ rules_left u) in
      let k = found iter_steps rules_left (λ x. rule_line 0 x.now) (λ _. 0) (λ _. 1)
      (λ a b e. let none : rules_left a ≡ [] = ap (by_number rule_line 0) (nil_from_length (iter_rest a) e.0) in (none, ap rules_left e.1 ∙ none, refl))
      (λ a b x e. (ap (by_number rule_line 0) e ∙ ap (λ ls. rule_line 0 x.now ++ ls) (rules_anywhere 1 0 (iter_rest b)), refl, omega arith))
      g (λ x. is_some x.now) tells (λ x. no_rule x.now) s u f r h in
      subst P (sym is) (there r k.0)
    where
      there : (r : Option (Bor (Option Rule))) → MatchOption r ((rules_left s ≡ []) × (rules_left u ≡ [])) (λ x. (rules_left s ≡ rule_line 0 x.now ++ rules_left u) × (is_some x.now ≡ true) × (0 < 1))
          → MatchOption (option_flatten (option_copied r)) ((rules_left s ≡ []) × (rules_left u ≡ [])) (λ v. rules_left s ≡ as_line v ∷ rules_left u)
      there None h = h
      there (Some x) h = a_rule x.now (rules_left s) (rules_left u) h.1 h.0

-- ---- marks

module _ (max : ℕ) {F : Type 0} {g : Mut F (Bor (ℕ × Bor Bool) × Unit {0}) Bool} (tells : (p : F) (x : ℕ × Bor Bool) (b : Bool) (q : F) → CalledAt g p x b q → b ≡ x.1.now) where
  a_mark : (line : UpTo max → Line) (s u : Enumerate (Iter Bool)) (f : F) (r : Option (ℕ × Bor Bool)) → FindsItem (enumerate_steps iter_steps) g s f r u
      → MatchOption r ((marks_left max line s ≡ []) × (marks_left max line u ≡ [])) (λ x. (marks_left max line s ≡ mark_line max line x.0 x.1.now ++ marks_left max line u) × (x.1.now ≡ true) × (x.0 < marks_end s)) × (marks_end u ≡ marks_end s)
  a_mark line s u f r h = found (enumerate_steps iter_steps) (marks_left max line) (λ x. mark_line max line x.0 x.1.now) (λ x. x.0) marks_end
      (λ a b e. let none = nil_from_length (iter_rest (enumerate_source a)) e.0.0 in
      (ap (by_number (mark_line max line) (enumerate_count a)) none, ap (λ i. by_number (mark_line max line) (enumerate_count b) (iter_rest i)) e.0.1 ∙ ap (by_number (mark_line max line) (enumerate_count b)) none, (λ i. e.1 i + length (iter_rest (e.0.1 i)))))
      (λ a b x e. let long = ap length e.0 in let same = e.1 in let count = e.2 in
      (ap (by_number (mark_line max line) (enumerate_count a)) e.0 ∙ (λ i. mark_line max line (sym e.1 i) x.1.now ++ by_number (mark_line max line) (sym e.2 i) (iter_rest (enumerate_source b))), omega arith, omega arith))
      g (λ x. x.1.now) tells (λ x no. ap (mark_line max line x.0) no) s u f r h

  -- none is left
  pub no_more : (s u : Enumerate (Iter Bool)) (f : F) → FindsItem (enumerate_steps iter_steps) g s f None u
      → (marks_end u ≡ marks_end s) × ((line : UpTo max → Line) → (marks_left max line s ≡ []) × (marks_left max line u ≡ []))
  no_more s u f h = ((a_mark (λ _. Open 0) s u f None h).1, λ line. (a_mark line s u f None h).0)

  -- one comes, whose number is this
  pub next_mark : (s u : Enumerate (Iter Bool)) (f : F) (x : ℕ × Bor Bool) → FindsItem (enumerate_steps iter_steps) g s f (Some x) u → marks_end s ≤ max + 1
      → (x.0 ≤ max) × (marks_end u ≡ marks_end s) × ((line : UpTo max → Line) (n : UpTo max) → n.value ≡ x.0 → marks_left max line s ≡ line n ∷ marks_left max line u)
  next_mark s u f x h le =
      let k = a_mark (λ _. Open 0) s u f (Some x) h in
      let lt = k.0.2 in
      let low : x.0 ≤ max = omega arith in (
        low,
        k.1,
        λ line n is. (a_mark line s u f (Some x) h).0.0 ∙ ap (λ t. mark_line max line x.0 t ++ marks_left max line u) k.0.1
            ∙ ap (λ m. line m ∷ marks_left max line u) (same_upto max (kept max x.0) n (kept_is max x.0 low ∙ sym is)),
      )
