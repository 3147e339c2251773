-- Marks in a table, by what is answered at rows. Assumes nothing.
use Rattle.std.proofs.Common.{◌≡◌, ℕ, zero, suc, ◌+◌, ◌<◌, Bool, true, false, ◌&&◌, ◌↔◌, List, [], ◌∷◌, length, get_or, take, set, replicate, Some, None, Option, sym, refl, ◌∙◌, subst, ⊎_elim, arith}
use Rattle.std.specs.List.{Contains, ContainsAt as Has, list_any, zip}
use Rattle.std.specs.Option.{IfSome, IsSomeAnd}
use Rattle.std.proofs.lemmas.List.{get_or-set_same, get_or-set_other, get_or-replicate, get_or_past, length-set, length-replicate}
use Rattle.std.proofs.lemmas.List.Elements.{Contains-from_at, at_from_Contains}
use Rattle.std.proofs.lemmas.Bool.{cases_lt, cases_eq, false≢true}
use Rattle.grade.specs.declared.upto.UpTo.{UpTo}
use Rattle.text.specs.declared.line.Line.{Line}
use Rattle.book.specs.declared.tables.Book.{Book}
use Rattle.book.specs.Lines.{lines}
use Rattle.phases.specs.Nodes.{Marked, Marks, MarkedBy, Goes}
use Rattle.phases.proofs.Rows.{more_front, more_last, more_cases}

no_mark : (t : ℕ) → Marked (replicate 64 false) t → ⊥
no_mark t h =
    ⊎_elim
    (λ lt. false≢true (sym (get_or-replicate 64 t false false lt) ∙ h))
    (λ le. let long = length-replicate 64 false in false≢true (sym (get_or_past (replicate 64 false) t false (omega arith)) ∙ h))
    (cases_lt t 64)

-- ---- row by row

module _ {X : Type 0} {Answers : X → Option (UpTo 63) → Type 0} where
  pub marked_none : MarkedBy Answers [] (replicate 64 false)
  marked_none = record {
    long = length-replicate 64 false;
    just = λ t h. absurd (no_mark t h);
    all = λ x h. let lt = h.1 in absurd (omega arith);
  }

  module _ (rows : List X) (i : ℕ) (d : X) (lt : i < length rows) (is : d ≡ get_or rows i d) (s : List Bool) (m : MarkedBy Answers (take i rows) s) where
    abbrev row : X
    row = get_or rows i d

    pub marked_miss : Answers d None → MarkedBy Answers (take (i + 1) rows) s
    marked_miss a = record {
      long = m.long;
      just = λ t h. let p = m.just t h in (p.0, more_front rows i d lt p.0 p.1, p.2, p.3, p.4);
      all = λ x at. ⊎_elim (m.all x) (λ e. subst (λ y. (r : Option (UpTo 63)) × Answers y r × IfSome r (λ u. Marked s u.value)) (is ∙ e) (None, a, tt)) (more_cases rows i d lt x at);
    }

    pub marked_hit : (u : UpTo 63) → Answers d (Some u) → MarkedBy Answers (take (i + 1) rows) (set s u.value true)
    marked_hit u a =
        let long = m.long in
        let fits = u.fits in
        let here : Marked (set s u.value true) u.value = get_or-set_same s u.value true false (omega arith) in
        let kept : (t : ℕ) → Marked s t → Marked (set s u.value true) t =
        λ t h. ⊎_elim (λ e. subst (Marked (set s u.value true)) (sym e) here) (λ ne. get_or-set_other s u.value t true false ne ∙ h) (cases_eq t u.value)
        in
        record {
          long = length-set s u.value true ∙ long;
          just = λ t h. ⊎_elim
              (λ e. (row, more_last rows i d lt, u, subst (λ y. Answers y (Some u)) is a, sym e))
              (λ ne. let p = m.just t (sym (get_or-set_other s u.value t true false ne) ∙ h) in (p.0, more_front rows i d lt p.0 p.1, p.2, p.3, p.4))
              (cases_eq t u.value);
          all = λ x at. ⊎_elim
              (λ front. let (r, b, h) = m.all x front in (r, b, marked_still r h kept))
              (λ e. subst (λ y. (r : Option (UpTo 63)) × Answers y r × IfSome r (λ v. Marked (set s u.value true) v.value)) (is ∙ e) (Some u, a, here))
              (more_cases rows i d lt x at);
        }
      where
        marked_still : (r : Option (UpTo 63)) → IfSome r (λ v. Marked s v.value) → ((t : ℕ) → Marked s t → Marked (set s u.value true) t) → IfSome r (λ v. Marked (set s u.value true) v.value)
        marked_still None h kept = tt
        marked_still (Some v) h kept = kept v.value h

-- ---- the rows as lines that stand, of which those go that fit

pub marks_told : {X : Type 0} {Answers : X → Option (UpTo 63) → Type 0} (b : Book) (line : X → Line) (xs rows : List X) → xs ≡ rows → ((x : X) → Has (lines b) (line x) ↔ Has rows x)
    → (fits : X → Type 0) (to : X → ℕ) (s : List Bool) → MarkedBy Answers xs s
    → ((x : X) (u : UpTo 63) → Answers x (Some u) → fits x × (u.value ≡ to x))
    → ((x : X) (r : Option (UpTo 63)) → Answers x r → fits x → IsSomeAnd r (λ u. u.value ≡ to x))
    → Marks s (Goes (lines b) line fits to)
marks_told b line xs rows same stands fits to s by just all =
    record {
      long = by.long;
      just = λ t. (
        λ m. let p = by.just t m in let f = just p.0 p.2 p.3 in (p.0, (stands p.0).1 (at_from_Contains rows p.0 (subst (λ ys. Contains ys p.0) same p.1)), f.0, sym f.1 ∙ p.4),
        λ (x, st, fit, is). let p = by.all x (subst (λ ys. Contains ys x) (sym same) (Contains-from_at rows x ((stands x).0 st))) in goes t p.0 (to x) is (all x p.0 p.1 fit) p.2,
      );
    }
  where
    goes : (t : ℕ) (r : Option (UpTo 63)) (n : ℕ) → n ≡ t → IsSomeAnd r (λ u. u.value ≡ n) → IfSome r (λ u. Marked s u.value) → Marked s t
    goes t None n is e m = absurd e
    goes t (Some u) n is e m = subst (Marked s) (e ∙ is) m

-- ---- a place that is marked in two tables

abbrev pub any_both : List Bool → List Bool → Bool
any_both xs ys = list_any (λ p. p.0 && p.1) (zip xs ys)

pub both_from : (xs ys : List Bool) → any_both xs ys ≡ true → (t : ℕ) × (t < length ys) × Marked xs t × Marked ys t
both_from [] ys e = absurd (false≢true e)
both_from (x ∷ xs) [] e = absurd (false≢true e)
both_from (true ∷ xs) (true ∷ ys) e = (0, omega arith, refl, refl)
both_from (true ∷ xs) (false ∷ ys) e = let h = both_from xs ys e in let lt = h.1 in (suc h.0, omega arith, h.2, h.3)
both_from (false ∷ xs) (y ∷ ys) e = let h = both_from xs ys e in let lt = h.1 in (suc h.0, omega arith, h.2, h.3)

pub from_both : (xs ys : List Bool) (t : ℕ) → Marked xs t → Marked ys t → any_both xs ys ≡ true
from_both [] ys t m n = absurd (false≢true m)
from_both (x ∷ xs) [] t m n = absurd (false≢true n)
from_both (true ∷ xs) (true ∷ ys) t m n = refl
from_both (true ∷ xs) (false ∷ ys) zero m n = absurd (false≢true n)
from_both (true ∷ xs) (false ∷ ys) (suc t) m n = from_both xs ys t m n
from_both (false ∷ xs) (y ∷ ys) zero m n = absurd (false≢true m)
from_both (false ∷ xs) (y ∷ ys) (suc t) m n = from_both xs ys t m n
