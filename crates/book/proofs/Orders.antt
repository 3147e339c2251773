-- Rows are in the order of their ranks. Assumes nothing.
use Rattle.std.proofs.Common.{◌≡◌, ℕ, ◌<◌, Bool, true, false, cond, ◌&&◌, ◌||◌, eqb, ltb, List, [], ◌∷◌, get_or, sym, refl, ap, ◌∙◌, ⊎_elim, arith}
use Rattle.std.specs.declared.cmp.Ordering.TheVariants.{Less, Equal, Greater}
use Rattle.std.specs.Ordering.{nat_cmp, is_lt, is_eq, ordering_then}
use Rattle.std.specs.Cmp.{nat_cmp_is, tied_then, unsigned_tied}
use Rattle.std.specs.List.{list_any}
use Rattle.std.specs.List.Sorted.{IsNonDecreasingBy}
use Rattle.std.proofs.lemmas.Bool.{cases_order, cases_lt}
use Rattle.text.specs.declared.line.WatchLine.{WatchLine}
use Rattle.text.specs.declared.line.LinkLine.{LinkLine}
use Rattle.book.specs.Order.{Ascending, among}
use Rattle.book.specs.Ranks.{from_left, watch_rank, link_rank}
use Rattle.book.proofs.Ascent.{ascending_at}

-- three numbers are compared from the left
left_cmp : (a b c i j k : ℕ) → b < 32 → c < 64 → j < 32 → k < 64 → ordering_then (nat_cmp a i) (ordering_then (nat_cmp b j) (nat_cmp c k)) ≡ nat_cmp (from_left a b c) (from_left i j k)
left_cmp a b c i j k lb lc lj lk =
    ⊎_elim
    (λ e. ap (λ o. ordering_then o (ordering_then (nat_cmp b j) (nat_cmp c k))) (sym (nat_cmp_is a i Equal e))
    ∙ ⊎_elim
    (λ f. ap (λ o. ordering_then o (nat_cmp c k)) (sym (nat_cmp_is b j Equal f))
    ∙ ⊎_elim (λ g. sym (nat_cmp_is c k Equal g) ∙ nat_cmp_is (from_left a b c) (from_left i j k) Equal (omega arith))
    (⊎_elim (λ lt. sym (nat_cmp_is c k Less lt) ∙ nat_cmp_is (from_left a b c) (from_left i j k) Less (omega arith)) (λ gt. sym (nat_cmp_is c k Greater gt) ∙ nat_cmp_is (from_left a b c) (from_left i j k) Greater (omega arith)))
    (cases_order c k))
    (⊎_elim
    (λ lt. ap (λ o. ordering_then o (nat_cmp c k)) (sym (nat_cmp_is b j Less lt)) ∙ nat_cmp_is (from_left a b c) (from_left i j k) Less (omega arith))
    (λ gt. ap (λ o. ordering_then o (nat_cmp c k)) (sym (nat_cmp_is b j Greater gt)) ∙ nat_cmp_is (from_left a b c) (from_left i j k) Greater (omega arith)))
    (cases_order b j))
    (⊎_elim
    (λ lt. ap (λ o. ordering_then o (ordering_then (nat_cmp b j) (nat_cmp c k))) (sym (nat_cmp_is a i Less lt)) ∙ nat_cmp_is (from_left a b c) (from_left i j k) Less (omega arith))
    (λ gt. ap (λ o. ordering_then o (ordering_then (nat_cmp b j) (nat_cmp c k))) (sym (nat_cmp_is a i Greater gt)) ∙ nat_cmp_is (from_left a b c) (from_left i j k) Greater (omega arith)))
    (cases_order a i)

pub watch_cmp : (x y : WatchLine) → ordering_then (nat_cmp x.mode.value y.mode.value) (ordering_then (nat_cmp x.wagon.value y.wagon.value) (nat_cmp x.node.value y.node.value)) ≡ nat_cmp (watch_rank x) (watch_rank y)
watch_cmp x y =
    let a = x.wagon.fits in
    let b = x.node.fits in
    let c = y.wagon.fits in
    let d = y.node.fits in
    left_cmp x.mode.value x.wagon.value x.node.value y.mode.value y.wagon.value y.node.value (omega arith) (omega arith) (omega arith) (omega arith)

pub link_cmp : (x y : LinkLine) → ordering_then (nat_cmp x.node.value y.node.value) (ordering_then (nat_cmp x.wagon.value y.wagon.value) (nat_cmp x.to.value y.to.value)) ≡ nat_cmp (link_rank x) (link_rank y)
link_cmp x y =
    let a = x.wagon.fits in
    let b = x.to.fits in
    let c = y.wagon.fits in
    let d = y.to.fits in
    left_cmp x.node.value x.wagon.value x.to.value y.node.value y.wagon.value y.to.value (omega arith) (omega arith) (omega arith) (omega arith)

-- rows are equal where their ranks are
alike : (a b c i j k : ℕ) → b < 32 → c < 64 → j < 32 → k < 64 → (eqb a i && (eqb b j && eqb c k)) ≡ eqb (from_left a b c) (from_left i j k)
alike a b c i j k lb lc lj lk =
    (λ n. sym (unsigned_tied a i) n && (sym (unsigned_tied b j) n && sym (unsigned_tied c k) n))
    ∙ ap (λ t. is_eq (nat_cmp a i) && t) (tied_then (nat_cmp b j) (nat_cmp c k))
    ∙ tied_then (nat_cmp a i) (ordering_then (nat_cmp b j) (nat_cmp c k))
    ∙ ap is_eq (left_cmp a b c i j k lb lc lj lk) ∙ unsigned_tied (from_left a b c) (from_left i j k)

pub watch_eq : (x y : WatchLine) → (eqb x.mode.value y.mode.value && (eqb x.wagon.value y.wagon.value && eqb x.node.value y.node.value)) ≡ eqb (watch_rank x) (watch_rank y)
watch_eq x y =
    let a = x.wagon.fits in
    let b = x.node.fits in
    let c = y.wagon.fits in
    let d = y.node.fits in
    alike x.mode.value x.wagon.value x.node.value y.mode.value y.wagon.value y.node.value (omega arith) (omega arith) (omega arith) (omega arith)

pub link_eq : (x y : LinkLine) → (eqb x.node.value y.node.value && (eqb x.wagon.value y.wagon.value && eqb x.to.value y.to.value)) ≡ eqb (link_rank x) (link_rank y)
link_eq x y =
    let a = x.wagon.fits in
    let b = x.to.fits in
    let c = y.wagon.fits in
    let d = y.to.fits in
    alike x.node.value x.wagon.value x.to.value y.node.value y.wagon.value y.to.value (omega arith) (omega arith) (omega arith) (omega arith)

-- which values stand below r
pub lower_rank : (n r : ℕ) → is_lt (nat_cmp n r) ≡ ltb n r
lower_rank n r = elim (ltb n r) as (λ t. is_lt (cond t Less (cond (eqb n r) Equal Greater)) ≡ t) [ true ↦ refl | false ↦ elim (eqb n r) as (λ t. is_lt (cond t Equal Greater) ≡ false) [ true ↦ refl | false ↦ refl ] ]

pub rising : {X : Type 0} (rank : X → ℕ) (xs : List X) → Ascending rank xs → IsNonDecreasingBy rank xs
rising rank xs up i j d le lt =
    ⊎_elim (λ less. let a = ascending_at rank xs i j d up less lt in omega arith) (λ ge. let e : i ≡ j = omega arith in let f = ap (λ k. rank (get_or xs k d)) e in omega arith) (cases_lt i j)

pub any_among : {X : Type 0} (eq : X → X → Bool) (rank : X → ℕ) → ((x y : X) → eq x y ≡ eqb (rank x) (rank y)) → (x : X) (xs : List X) → list_any (λ y. eq y x) xs ≡ among rank (rank x) xs
any_among eq rank one x [] = refl
any_among eq rank one x (y ∷ ys) = λ i. one y x i || any_among eq rank one x ys i
