-- Which numbers are named, which are accepted, and the least that is named only. Assumes nothing.
use Rattle.std.proofs.Common.{◌≡◌, ℕ, ◌+◌, ◌/◌, ◌%◌, ◌^◌, ◌<◌, ◌⊎◌, List, length, get_or, take, is_some, Some, None, Option, MatchOption, Decides, sym, refl, ap, ◌∙◌, subst, inl, inr, ⊎_elim, lt_of_lt_of_le, arith}
use native.Mathlib.Nat.{div-eq_of_lt, pow-le-pow_right}
use Rattle.std.specs.List.{ContainsAt as Has}
use Rattle.std.proofs.ByRecursion.{all-has}
use Rattle.std.proofs.lemmas.List.{get_or_default}
use Rattle.std.proofs.lemmas.List.Elements.{Contains-from_at, at_from_Contains}
use Rattle.std.proofs.lemmas.Bool.{cases_lt, eqb-true, false≢true}
use Rattle.grade.specs.declared.upto.UpTo.{UpTo}
use Rattle.text.specs.declared.line.NoticeLine.{NoticeLine}
use Rattle.text.specs.declared.line.Rule.{Rule}
use Rattle.text.specs.declared.line.Rule.TheVariants as rule
use Rattle.text.specs.declared.line.Line.{Line}
use Rattle.text.specs.declared.line.Line.TheVariants.{Order, Notice, Open, Watch, Link, End, Bare}
use Rattle.text.specs.Meaning.{Within}
use Rattle.model.specs.Phases.{InForce}
use Rattle.model.specs.Laws.{rule_number, NumbersOnce}
use Rattle.book.specs.declared.tables.Book.{Book}
use Rattle.book.specs.Lines.{lines}
use Rattle.book.specs.Words.{number}
use Rattle.book.proofs.Books.{within_lines}
use Rattle.book.proofs.Standing.{open_stands, notice_stands, order_at, notice_at, free_number, numbers_once}
use Rattle.phases.specs.Missing.{Mentions, Names, Accepted, Missing, NoneMissing, LeastMissing, below, Lowered, RuleMentions, AnyMentions}
use Rattle.phases.proofs.Rows.{more_front, more_last, more_cases}

-- ---- the model's number of a line is the book's

same_number : (l : Line) → number l ≡ rule_number l
same_number (Order o) = refl
same_number (Notice n) = refl
same_number (Open F) = refl
same_number (Watch w) = refl
same_number (Link k) = refl
same_number (End t) = refl
same_number (Bare p) = refl

pub numbers_stand_once : (b : Book) → NumbersOnce (lines b)
numbers_stand_once b k l n at_k at_l is_k is_l = numbers_once b k l n at_k at_l (same_number k ∙ is_k) (same_number l ∙ is_l)

-- ---- what is accepted

module _ (b : Book) (n : ℕ) (lt : n < 64) where
  accepted : (r : Rule) → get_or b.rules n None ≡ Some r → Accepted (lines b) n
  accepted (rule.Order o) e = let h = order_at b n o lt e in (Order o, h.0, ap Some h.1)
  accepted (rule.Notice o) e = let h = notice_at b n o lt e in (Notice o, h.0, ap Some h.1)

  -- just where the number's place holds a rule
  pub accepted_at : (r : Option Rule) → get_or b.rules n None ≡ r → Decides (is_some r) (Accepted (lines b) n)
  accepted_at None free = (λ e. absurd (false≢true e), λ h. absurd (free_number b n free h.0 (same_number h.0 ∙ h.2) h.1))
  accepted_at (Some r) e = (λ _. accepted r e, λ _. refl)

-- ---- the least of some numbers

module _ (ls : List Line) where
  lowered_like : (P Q : ℕ → Type 0) (a r : Option (UpTo 63)) → ((m : ℕ) → P m → Q m) → ((m : ℕ) → Q m → (Accepted ls m → ⊥) → P m) → Lowered ls P a r → Lowered ls Q a r
  lowered_like P Q a r to from h = record {
    low = h.low;
    one = ⊎_elim inl (λ p. inr (to (below r) p.0, p.1)) h.one;
    all = λ m q none. h.all m (from m q none) none;
  }

  pub lowered_join : (P Q : ℕ → Type 0) (a b c : Option (UpTo 63)) → Lowered ls P a b → Lowered ls Q b c → Lowered ls (λ m. P m ⊎ Q m) a c
  lowered_join P Q a b c h g =
      let le = h.low in
      let more = g.low in
      record {
        low = omega arith;
        one =
            ⊎_elim
            (λ e. ⊎_elim (λ f. inl (e ∙ f)) (λ p. inr (inl (subst (λ r. P (below r)) (sym e) p.0), subst (λ r. Accepted ls (below r) → ⊥) (sym e) p.1)) h.one)
            (λ q. inr (inr q.0, q.1)) g.one;
        all = λ m which none. ⊎_elim (λ p. let b_m = h.all m p none in omega arith) (λ q. g.all m q none) which;
      }

  -- among one more of those that name numbers
  pub lowered_more : {X : Type 0} (P : X → ℕ → Type 0) (xs : List X) (i : ℕ) (d : X) → i < length xs → (a b c : Option (UpTo 63))
      → Lowered ls (AnyMentions P (take i xs)) a b → Lowered ls (P (get_or xs i d)) b c → Lowered ls (AnyMentions P (take (i + 1) xs)) a c
  lowered_more P xs i d lt a b c h g =
      lowered_like (λ m. AnyMentions P (take i xs) m ⊎ P (get_or xs i d) m) (AnyMentions P (take (i + 1) xs)) a c
      (λ m. ⊎_elim (λ h. (h.0, more_front xs i d lt h.0 h.1, h.2)) (λ p. (get_or xs i d, more_last xs i d lt, p)))
      (λ m h none. ⊎_elim (λ front. inl (h.0, front, h.2)) (λ e. inr (subst (λ y. P y m) (sym e) h.2)) (more_cases xs i d lt h.0 h.1))
      (lowered_join (AnyMentions P (take i xs)) (P (get_or xs i d)) a b c h g)

  pub notice_lowered : (r : Option Rule) (n : NoticeLine) → r ≡ Some (rule.Notice n) → (a b c : Option (UpTo 63))
      → Lowered ls (λ m. n.loses.value ≡ m) a b → Lowered ls (λ m. n.gains.value ≡ m) b c → Lowered ls (RuleMentions r) a c
  notice_lowered r n e a b c h g =
      lowered_like (λ m. (n.loses.value ≡ m) ⊎ (n.gains.value ≡ m)) (RuleMentions r) a c
      (λ m p. (n, e, p))
      (λ m h none. let same : h.0 ≡ n = let f = h.1 in cc in subst (λ o. (o.loses.value ≡ m) ⊎ (o.gains.value ≡ m)) same h.2)
      (lowered_join (λ m. n.loses.value ≡ m) (λ m. n.gains.value ≡ m) a b c h g)

-- ---- what is named

in_phase : (F m : ℕ) → F < 2 ^ 64 → InForce F m → m < 64
in_phase F m lt h =
    ⊎_elim (λ less. less)
    (λ le.
    let z : F / 2 ^ m ≡ 0 = div-eq_of_lt (lt_of_lt_of_le lt (pow-le-pow_right (omega arith) le)) in
    let one = eqb-true (F / 2 ^ m % 2) 1 h in
    let e : F / 2 ^ m % 2 ≡ 0 = ap (λ q. q % 2) z in
    absurd (omega arith))
    (cases_lt m 64)

module _ (b : Book) where
  named_small : (m : ℕ) → Names (lines b) m → m < 64
  named_small m (l, s, p) = small l s p
    where
      small : (l : Line) → Has (lines b) l → Mentions l m → m < 64
      small (Notice n) s p =
          let x = n.number.fits in
          let y = n.loses.fits in
          let z = n.gains.fits in
          ⊎_elim (λ e. omega arith) (⊎_elim (λ e. omega arith) (λ e. omega arith)) p
      small (Open F) s p = in_phase F m (all-has Within (lines b) (Open F) (within_lines b) s) p
      small (Order o) s p = absurd p
      small (Watch w) s p = absurd p
      small (Link k) s p = absurd p
      small (End t) s p = absurd p
      small (Bare q) s p = absurd p

  abbrev pub AllMention : ℕ → Type 0
  AllMention m = AnyMentions RuleMentions b.rules m ⊎ AnyMentions InForce (take b.opening b.opens) m

  mention_names : (m : ℕ) → AllMention m → Names (lines b) m
  mention_names m =
      ⊎_elim
      (λ (r, (k, lt, is), (n, e, p)). let long = b.numbered.0 in (Notice n, (notice_at b k n (omega arith) (get_or_default b.rules k None r lt ∙ is ∙ e)).0, inr p))
      (λ (F, h, p). (Open F, (open_stands b F).1 (at_from_Contains (take b.opening b.opens) F h), p))

  -- a notice's own number is accepted
  names_mention : (m : ℕ) → Missing (lines b) m → AllMention m
  names_mention m ((l, s, p), none) = mention l s p
    where
      mention : (l : Line) → Has (lines b) l → Mentions l m → AllMention m
      mention (Notice n) s p =
          let fits = n.number.fits in
          let long = b.numbered.0 in
          let at = (notice_stands b n).0 s in
          ⊎_elim (λ own. absurd (none (Notice n, s, ap Some own)))
          (λ p. inl (Some (rule.Notice n), (n.number.value, omega arith, get_or_default b.rules n.number.value (Some (rule.Notice n)) None (omega arith) ∙ at), (n, refl, p))) p
      mention (Open F) s p = inr (F, Contains-from_at (take b.opening b.opens) F ((open_stands b F).0 s), p)
      mention (Order o) s p = absurd p
      mention (Watch w) s p = absurd p
      mention (Link k) s p = absurd p
      mention (End t) s p = absurd p
      mention (Bare q) s p = absurd p

  -- what is least of all the numbers that are named
  pub least_told : (r : Option (UpTo 63)) → Lowered (lines b) AllMention None r → MatchOption r (NoneMissing (lines b)) (λ n. LeastMissing (lines b) n.value)
  least_told None all = λ m h. let a = all.all m (names_mention m h) h.1 in let c = named_small m h.0 in omega arith
  least_told (Some n) all = record {
    missing = ⊎_elim (λ e. let z : ◌≡◌ {A = ℕ} 0 1 = cc in absurd (omega arith)) (λ p. (mention_names n.value p.0, p.1)) all.one;
    least = λ k h. all.all k (names_mention k h) h.1;
  }
