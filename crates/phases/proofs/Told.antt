-- A ghost field holds that phases are the opened ones only as a truncated fact. The fact itself comes out of it again, since
-- going on round by round finds each opened phase. Assumes nothing.
use Rattle.std.proofs.Common.{◌≡◌, ℕ, zero, suc, ◌+◌, ◌<◌, Bool, true, false, cond, ◌&&◌, List, [], ◌∷◌, ◌++◌, sym, ◌∙◌, subst, ⊎_elim, arith}
use mathlib.Core.HLevel.{is_prop→PathP}
use mathlib.Core.Logic.{∥∥₁_elim, ∥∥₁_map}
use native.Mathlib.Bridge.{le_prop}
use base.Stored.{Coded-set, coded_ℕ, coded_bool}
use Rattle.std.specs.List.{ContainsAt as Has, flat_map}
use Rattle.std.proofs.ByRecursion.{has_append_left, has_append_right}
use Rattle.std.proofs.lemmas.Bool.{cases_lt, cases_order, cases_Bool, and_parts, and_from, cond_both, cond-true, both_ways}
use Rattle.text.specs.declared.line.Line.{Line}
use Rattle.text.specs.declared.line.Line.TheVariants.{Order, Notice, Open, Watch, Link, End, Bare}
use Rattle.text.specs.Phases.{has}
use Rattle.model.specs.Phases.{Stands, after, Opened}
use Rattle.book.specs.Order.{among}
use Rattle.book.specs.Ranks.{phase_rank}
use Rattle.book.proofs.Ascent.{has_here, has_there, has_none, has_cases, among_has, has_among}
use Rattle.book.proofs.Standing.{has_either, only}
use Rattle.phases.specs.declared.table.Phases.{Phases}
use Rattle.phases.specs.Table.{phase_at, Holds, OpenedBy}

-- ---- members of joined lists

module _ {X A : Type 0} (f : X → List A) where
  has_joined : (xs : List X) (y : A) → Has (flat_map f xs) y → (x : X) × Has xs x × Has (f x) y
  has_joined [] y h = absurd (has_none y h)
  has_joined (x ∷ xs) y h =
      ⊎_elim (λ at. (x, has_here x xs, at)) (λ at. let (z, in', here) = has_joined xs y at in (z, has_there x xs z in', here)) (has_either (f x) (flat_map f xs) y h)

  joined_has : (xs : List X) (x : X) (y : A) → Has xs x → Has (f x) y → Has (flat_map f xs) y
  joined_has [] x y in' h = absurd (has_none x in')
  joined_has (z ∷ xs) x y in' h =
      ⊎_elim (λ e. has_append_left (f z) (flat_map f xs) y (subst (λ w. Has (f w) y) (sym e) h)) (λ at. has_append_right (f z) (flat_map f xs) y (joined_has xs x y at h)) (has_cases z xs x in')

-- ---- the opened phases, round by round

first : Line → List ℕ
first (Open F) = F ∷ []
first (Order o) = []
first (Notice n) = []
first (Watch w) = []
first (Link k) = []
first (End t) = []
first (Bare p) = []

next : ℕ → Line → List ℕ
next F (Notice n) = cond (has F n.number.value && has F n.loses.value) (after n F ∷ []) []
next F (Order o) = []
next F (Open G) = []
next F (Watch w) = []
next F (Link k) = []
next F (End t) = []
next F (Bare p) = []

rounds : List Line → ℕ → List ℕ
rounds ls zero = flat_map first ls
rounds ls (suc n) = rounds ls n ++ flat_map (λ F. flat_map (next F) ls) (rounds ls n)

module _ (ls : List Line) where
  first_opened : (l : Line) (F : ℕ) → Stands ls l → Has (first l) F → Opened ls F
  unfolding first
  first_opened (Open G) F s h = subst (Opened ls) (only G F h) (Opened.opened s)
  first_opened (Order o) F s h = absurd (has_none F h)
  first_opened (Notice n) F s h = absurd (has_none F h)
  first_opened (Watch w) F s h = absurd (has_none F h)
  first_opened (Link k) F s h = absurd (has_none F h)
  first_opened (End t) F s h = absurd (has_none F h)
  first_opened (Bare p) F s h = absurd (has_none F h)

  next_opened : (l : Line) (F G : ℕ) → Opened ls F → Stands ls l → Has (next F l) G → Opened ls G
  unfolding next
  next_opened (Notice n) F G o s h =
      let both = has F n.number.value && has F n.loses.value in
      cond_both both (after n F ∷ []) [] (λ xs. Has xs G → Opened ls G)
      (λ e at. let parts = and_parts (has F n.number.value) (has F n.loses.value) e in subst (Opened ls) (only (after n F) G at) (Opened.noticed o s (record { itself = parts.0; withdrawn = parts.1 })))
      (λ e at. absurd (has_none G at))
      h
  next_opened (Order m) F G o s h = absurd (has_none G h)
  next_opened (Open H) F G o s h = absurd (has_none G h)
  next_opened (Watch w) F G o s h = absurd (has_none G h)
  next_opened (Link k) F G o s h = absurd (has_none G h)
  next_opened (End t) F G o s h = absurd (has_none G h)
  next_opened (Bare p) F G o s h = absurd (has_none G h)

  sound : (n F : ℕ) → Has (rounds ls n) F → Opened ls F
  unfolding rounds
  sound zero F h = let (l, s, at) = has_joined first ls F h in first_opened l F s at
  sound (suc n) F h =
      ⊎_elim (sound n F)
      (λ more.
      let (G, in', at) = has_joined (λ H. flat_map (next H) ls) (rounds ls n) F more in
      let (l, s, here) = has_joined (next G) ls F at in
      next_opened l G F (sound n G in') s here)
      (has_either (rounds ls n) (flat_map (λ H. flat_map (next H) ls) (rounds ls n)) F h)

  complete : (F : ℕ) → Opened ls F → (n : ℕ) × Has (rounds ls n) F
  unfolding rounds first next
  complete F (Opened.opened s) = (0, joined_has first ls (Open F) F s (has_here F []))
  complete F (Opened.noticed {F = G} {n = n} o s a) =
      let (k, h) = complete G o in
      let both = has G n.number.value && has G n.loses.value in
      let e = and_from (has G n.number.value) (has G n.loses.value) a.itself a.withdrawn in
      let here = subst (λ xs. Has xs (after n G)) (sym (cond-true both (after n G ∷ []) [] e)) (has_here (after n G) []) in (
        suc k,
        has_append_right (rounds ls k) (flat_map (λ H. flat_map (next H) ls) (rounds ls k)) (after n G)
            (joined_has (λ H. flat_map (next H) ls) (rounds ls k) G (after n G) h (joined_has (next G) ls (Notice n) (after n G) s here)),
      )

-- ---- the first place at which a test passes

module _ (f : ℕ → Bool) where
  abbrev First : Type 0
  First = (m : ℕ) × (f m ≡ true) × ((k : ℕ) → k < m → f k ≡ false)

  first_from : (n m : ℕ) → ((k : ℕ) → k < m → f k ≡ false) → f (m + n) ≡ true → First
  first_from zero m below e = let same : m + 0 ≡ m = omega arith in (m, subst (λ k. f k ≡ true) same e, below)
  first_from (suc n) m below e =
      let same : m + suc n ≡ suc m + n = omega arith in
      ⊎_elim
      (λ here. (m, here, below))
      (λ not_here. first_from n (suc m) (λ k lt. ⊎_elim (below k) (λ le. let is : m ≡ k = omega arith in subst (λ j. f j ≡ false) is not_here) (cases_lt k m)) (subst (λ k. f k ≡ true) same e))
      (cases_Bool (f m))

  first_prop : IsProp First
  first_prop a b =
      let less : (a b : First) → a.0 < b.0 → ⊥ = λ a b lt. both_ways (f a.0) (b.2 a.0 lt) a.1 in
      let e : a.0 ≡ b.0 = ⊎_elim (λ e. e) (⊎_elim (λ lt. absurd (less a b lt)) (λ gt. absurd (less b a gt))) (cases_order a.0 b.0) in
      λ i. (
        e i,
        is_prop→PathP (λ j. f (e j) ≡ true) (λ j. Coded-set coded_bool (f (e j)) true) a.1 b.1 i,
        is_prop→PathP (λ j. (k : ℕ) → k < e j → f k ≡ false) (λ j g h u k lt. Coded-set coded_bool (f k) false (g k lt) (h k lt) u) a.2 b.2 i,
      )

-- ---- out of a ghost field

told : (ls : List Line) (F : ℕ) → ∥ Opened ls F ∥₁ → Opened ls F
told ls F h =
    let found : ℕ → Bool = λ n. among phase_rank F (rounds ls n) in
    let w = ∥∥₁_elim h (first_prop found) (λ o.
    let (n, at) = complete ls F o in
    let same : n ≡ 0 + n = omega arith in
    first_from found n 0 (λ k lt. absurd (omega arith)) (subst (λ k. found k ≡ true) same (has_among phase_rank (rounds ls n) F at))) in
    let (G, (at, is)) = among_has phase_rank F (rounds ls w.0) w.1 in
    subst (Opened ls) is (sound ls w.0 G at)

pub opened_by_told : (ls : List Line) (p : Phases) → ∥ OpenedBy ls p ∥₁ → OpenedBy ls p
opened_by_told ls p h =
    let apart : (k l : ℕ) → k < p.count → l < p.count → phase_at p k ≡ phase_at p l → k ≡ l = λ k l a b e. ∥∥₁_elim h (Coded-set coded_ℕ k l) (λ by. by.filled.different.apart k l a b e) in
    let one : (F : ℕ) → IsProp (Holds p F) = λ F a b.
    let e = apart a.0 b.0 a.1 b.1 (a.2 ∙ sym b.2) in
    λ i. (e i, is_prop→PathP (λ j. e j < p.count) (λ j. le_prop) a.1 b.1 i, is_prop→PathP (λ j. phase_at p (e j) ≡ F) (λ j. Coded-set coded_ℕ (phase_at p (e j)) F) a.2 b.2 i) in
    record {
      filled = record {
        different = record { apart = apart; each = λ k lt. told ls (phase_at p k) (∥∥₁_map h (λ by. by.filled.different.each k lt)) };
        all = λ F o. ∥∥₁_elim h (one F) (λ by. by.filled.all F o);
      };
      blank = λ k le. ∥∥₁_elim h (Coded-set coded_ℕ (phase_at p k) 0) (λ by. by.blank k le);
    }
