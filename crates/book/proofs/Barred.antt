-- Two lines have one rank just where they are the same, or orders or notices with one number. Assumes nothing.
use Rattle.std.proofs.Common.{◌≡◌, ℕ, ◌+◌, ◌-◌, ◌/◌, ◌%◌, ◌<◌, ◌≤◌, true, cond, ltb, List, get_or, Some, None, Option, sym, refl, ap, ◌∙◌, subst, inl, inr, ⊎_elim, arith}
use Rattle.std.specs.List.{AllByRecursion}
use Rattle.std.proofs.lemmas.Bool.{cond-true, cond-false, lt-ltb, le-ltb, cases_lt, cases_order}
use Rattle.std.proofs.ByRecursion.{all-has}
use Rattle.grade.specs.declared.upto.UpTo.{UpTo}
use Rattle.grade.specs.ValuesLemmas.{same_upto}
use Rattle.text.specs.declared.line.Line.{Line}
use Rattle.text.specs.declared.line.Line.TheVariants.{Order, Notice, Open, Watch, Link, End, Bare}
use Rattle.text.specs.Numerals.{kept}
use Rattle.text.specs.Meaning.{Within}
use Rattle.book.specs.Ranks.{opens, watches, links, ends, bares, start, stop, rank, Sorted}
use Rattle.book.specs.Order.{among}
use Rattle.book.specs.Entering.{clashes}
use Rattle.book.specs.Words.{number, Bars, Clash, Once}
use Rattle.book.proofs.Ascent.{among_has, has_among, ascending_at}
use Rattle.book.proofs.Books.{kept_is}

-- of these, the one for the kind that a rank is of
by_rank : ℕ → Line → Line → Line → Line → Line → Line
by_rank r a b c d e = cond (ltb r (stop opens)) a (cond (ltb r (stop watches)) b (cond (ltb r (stop links)) c (cond (ltb r (stop ends)) d e)))

first : {A : Type 0} (r m : ℕ) (x y : A) → r < m → cond (ltb r m) x y ≡ x
first r m x y lt = cond-true (ltb r m) x y (lt-ltb r m lt)

later : {A : Type 0} (r m : ℕ) (x y : A) → m ≤ r → cond (ltb r m) x y ≡ y
later r m x y le = cond-false (ltb r m) x y (le-ltb r m le)

module _ (r : ℕ) (a b c d e : Line) where
  past_opens : stop opens ≤ r → by_rank r a b c d e ≡ cond (ltb r (stop watches)) b (cond (ltb r (stop links)) c (cond (ltb r (stop ends)) d e))
  unfolding by_rank
  past_opens le = later r (stop opens) a _ le

  past_watches : stop watches ≤ r → by_rank r a b c d e ≡ cond (ltb r (stop links)) c (cond (ltb r (stop ends)) d e)
  past_watches le = past_opens (omega arith) ∙ later r (stop watches) b _ le

  past_links : stop links ≤ r → by_rank r a b c d e ≡ cond (ltb r (stop ends)) d e
  past_links le = past_watches (omega arith) ∙ later r (stop links) c _ le

  an_open : r < stop opens → by_rank r a b c d e ≡ a
  unfolding by_rank
  an_open lt = first r (stop opens) a _ lt

  a_watch : stop opens ≤ r → r < stop watches → by_rank r a b c d e ≡ b
  a_watch le lt = past_opens le ∙ first r (stop watches) b _ lt

  a_link : stop watches ≤ r → r < stop links → by_rank r a b c d e ≡ c
  a_link le lt = past_watches le ∙ first r (stop links) c _ lt

  an_end : stop links ≤ r → r < stop ends → by_rank r a b c d e ≡ d
  an_end le lt = past_links le ∙ first r (stop ends) d e lt

  a_bare : stop ends ≤ r → by_rank r a b c d e ≡ e
  a_bare le = past_links (omega arith) ∙ later r (stop ends) d e le

-- the line of a rank, unless it is that of an order or a notice
back : ℕ → Line
back r =
    by_rank r (Open (r - start opens))
    (Watch (record { mode = kept 15 ((r - start watches) / 2048); wagon = kept 31 ((r - start watches) / 64 % 32); node = kept 63 ((r - start watches) % 64) }))
    (Link (record { node = kept 63 ((r - start links) / 2048); wagon = kept 31 ((r - start links) / 64 % 32); to = kept 63 ((r - start links) % 64) }))
    (End (kept 63 (r - start ends)))
    (Bare (kept 15 (r - start bares)))

again : (max : ℕ) (x : UpTo max) (n : ℕ) → n ≡ x.value → kept max n ≡ x
again max x n e = let fits = x.fits in same_upto max (kept max n) x (kept_is max n (omega arith) ∙ e)

told : (l : Line) → Within l → 64 ≤ rank l → back (rank l) ≡ l
unfolding back
told (Order o) w le = let a = o.number.fits in absurd (omega arith)
told (Notice n) w le = let a = n.number.fits in absurd (omega arith)
told (Open F) w le = let e : 64 + F - 64 ≡ F = omega arith in an_open _ _ _ _ _ _ (omega arith) ∙ ap Open e
told (Watch w) h le =
    let a = w.mode.fits in
    let b = w.wagon.fits in
    let c = w.node.fits in
    let r = rank (Watch w) - start watches in
    let mode = again 15 w.mode (r / 2048) (omega arith) in
    let wagon = again 31 w.wagon (r / 64 % 32) (omega arith) in
    let node = again 63 w.node (r % 64) (omega arith) in
    a_watch _ _ _ _ _ _ (omega arith) (omega arith) ∙ (λ i. Watch (record { mode = mode i; wagon = wagon i; node = node i }))
told (Link k) h le =
    let a = k.node.fits in
    let b = k.wagon.fits in
    let c = k.to.fits in
    let r = rank (Link k) - start links in
    let node = again 63 k.node (r / 2048) (omega arith) in
    let wagon = again 31 k.wagon (r / 64 % 32) (omega arith) in
    let to = again 63 k.to (r % 64) (omega arith) in
    a_link _ _ _ _ _ _ (omega arith) (omega arith) ∙ (λ i. Link (record { node = node i; wagon = wagon i; to = to i }))
told (End t) h le =
    let a = t.fits in
    an_end _ _ _ _ _ _ (omega arith) (omega arith) ∙ ap End (again 63 t (rank (End t) - start ends) (omega arith))
told (Bare p) h le =
    let a = p.fits in
    a_bare _ _ _ _ _ _ (omega arith) ∙ ap Bare (again 15 p (rank (Bare p) - start bares) (omega arith))

numbered : (l : Line) → rank l < 64 → number l ≡ Some (rank l)
numbered (Order o) lt = refl
numbered (Notice n) lt = refl
numbered (Open F) lt = absurd (omega arith)
numbered (Watch w) lt = absurd (omega arith)
numbered (Link k) lt = absurd (omega arith)
numbered (End t) lt = absurd (omega arith)
numbered (Bare p) lt = absurd (omega arith)

or_zero : Option ℕ → ℕ
or_zero None = 0
or_zero (Some n) = n

by_number : (l : Line) (n : ℕ) → number l ≡ Some n → rank l ≡ n
unfolding or_zero
by_number (Order o) n e = ap or_zero e
by_number (Notice o) n e = ap or_zero e
by_number (Open F) n e = let z : ◌≡◌ {A = ℕ} 0 1 = cc in absurd (omega arith)
by_number (Watch w) n e = let z : ◌≡◌ {A = ℕ} 0 1 = cc in absurd (omega arith)
by_number (Link k) n e = let z : ◌≡◌ {A = ℕ} 0 1 = cc in absurd (omega arith)
by_number (End t) n e = let z : ◌≡◌ {A = ℕ} 0 1 = cc in absurd (omega arith)
by_number (Bare p) n e = let z : ◌≡◌ {A = ℕ} 0 1 = cc in absurd (omega arith)

pub bars_rank : (x l : Line) → Bars x l → rank x ≡ rank l
bars_rank x l = ⊎_elim (ap rank) (λ h. by_number x h.0 h.1.0 ∙ sym (by_number l h.0 h.1.1))

pub rank_bars : (x l : Line) → Within x → Within l → rank x ≡ rank l → Bars x l
rank_bars x l v w e =
    ⊎_elim
    (λ lt. inr (rank l, (numbered x (omega arith) ∙ ap Some e, numbered l lt)))
    (λ le. inl (sym (told x v (omega arith)) ∙ ap back e ∙ told l w le))
    (cases_lt (rank l) 64)

pub clash_right : (ls : List Line) (l : Line) → AllByRecursion Within ls → Within l → clashes ls l ≡ true → Clash ls l
clash_right ls l all w e = let h = among_has rank (rank l) ls e in (h.0, (h.1.0, rank_bars h.0 l (all-has Within ls h.0 all h.1.0) w h.1.1))

pub clash_only : (ls : List Line) (l : Line) → Clash ls l → clashes ls l ≡ true
clash_only ls l h = subst (λ r. among rank r ls ≡ true) (bars_rank h.0 l h.1.1) (has_among rank ls h.0 h.1.0)

-- in a sorted list each rank has one place
pub sorted_once : (ls : List Line) → Sorted ls → Once ls
sorted_once ls up i j d a b bars =
    let e = bars_rank (get_or ls i d) (get_or ls j d) bars in
    ⊎_elim (λ same. same) (⊎_elim (λ lt. let less = ascending_at rank ls i j d up lt b in absurd (omega arith)) (λ gt. let more = ascending_at rank ls j i d up gt a in absurd (omega arith))) (cases_order i j)
