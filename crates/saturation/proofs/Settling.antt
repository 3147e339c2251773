-- The best row that waits is settled where it stands.
use Rattle.std.proofs.Common.{◌≡◌, ℕ, ◌+◌, ◌-◌, ◌<◌, ◌≤◌, Bool, true, false, ◌&&◌, T, ◌≢◌, ◌⊎◌, ◌↔◌, List, length, set, sym, refl, ap, ◌∙◌, subst, inl, inr, ⊎_elim, arith, length-set, get_or-set_other, get_or-set_same}
use native.Mathlib.Decide.{ℕ_discrete}
use Rattle.grade.specs.declared.grade.Grade.{Ghosts}
use Rattle.grade.specs.declared.waiting.Waiting.{Waiting}
use Rattle.grade.specs.Waits.{sooner}
use Rattle.queue.specs.Queues.{Queue, Single, Holds, Taken}
use Rattle.queue.proofs.Members.{taken_holds, taken_single}
use Rattle.text.specs.declared.line.Line.{Line}
use Rattle.rowtable.specs.declared.row.TableRow.{TableRow}
use Rattle.rowtable.specs.Tables.{blank_row, row_at}
use Rattle.saturation.specs.Work.{unranked, key, ranked_as, Table, Settles}
use Rattle.saturation.proofs.Growth.{key_placed}

and_left : (x y : Bool) → T (x && y) → T x
and_left true y h = tt
and_left false y h = h

-- what the queue's order takes is what the grade's own relation takes, where the two agree
pub taken_as : {G : Type 0} {f h : G → G → Bool} {xs ys : List (Waiting G)} {k : ℕ} {e : Waiting G} → ((a b : G) → f a b ≡ h a b) → Taken (sooner f) xs ys k e → Taken (sooner h) xs ys k e
taken_as {f = f} {h = h} {xs = xs} {ys = ys} {k = k} {e = e} agree taken = let same : f ≡ h = λ j a b. agree a b j in subst (λ z. Taken (sooner z) xs ys k e) same taken

module _ {G : Type 0} {m : Ghosts G} {Fs : List ℕ} {ls : List Line} {rows : List (TableRow G)} {s n : ℕ} {queue after : List (Waiting G)} (t : Table m Fs ls rows s n queue) (e : Waiting G)
    (taken : Taken (sooner m.noworse) queue after (n - s) e) where
  a : ℕ
  a = e.row

  pub taken_within : e.row < n
  taken_within = ((t.holds e).0 taken.held).0

  pub taken_low : e.row < length rows
  taken_low = let lt = taken_within in let r = t.room in omega arith

  waits : (row_at m rows e.row).rank ≡ unranked
  waits = ((t.holds e).0 taken.held).1

  some_waits : s < n
  some_waits = let h = taken.some in omega arith

  not_all : s < unranked
  not_all = let x = some_waits in let y = t.room in let z = t.few in omega arith

  least : (k : ℕ) → k < n → (row_at m rows k).rank ≡ unranked → T (m.noworse (row_at m rows e.row).grade (row_at m rows k).grade)
  least k lt w =
      subst (λ g. T (m.noworse g (row_at m rows k).grade)) ((t.holds e).0 taken.held).2
      (and_left (m.noworse e.grade (row_at m rows k).grade) _ (taken.best t.ordered (record { grade = (row_at m rows k).grade; row = k }) ((t.holds (record { grade = (row_at m rows k).grade; row = k })).1 (lt, w, refl))))

  module _ (new : TableRow G) (is : new ≡ ranked_as (row_at m rows e.row) s) where
    at_a : row_at m (set rows e.row new) e.row ≡ ranked_as (row_at m rows e.row) s
    at_a = let fits = t.room in let lt = taken_within in get_or-set_same rows e.row new (blank_row m.best) (omega arith) ∙ is

    at_other : (k : ℕ) → k ≢ e.row → row_at m (set rows e.row new) k ≡ row_at m rows k
    at_other k ne = get_or-set_other rows e.row k new (blank_row m.best) ne

    rank_a : (k : ℕ) → k ≡ e.row → (row_at m (set rows e.row new) k).rank ≡ s
    rank_a k here = ap (λ j. (row_at m (set rows e.row new) j).rank) here ∙ ap (λ r. r.rank) at_a

    rank_other : (k : ℕ) → k ≢ e.row → (row_at m (set rows e.row new) k).rank ≡ (row_at m rows k).rank
    rank_other k ne = ap (λ r. r.rank) (at_other k ne)

    keys_stay : (k : ℕ) → key (row_at m (set rows e.row new) k) ≡ key (row_at m rows k)
    keys_stay k = from (ℕ_discrete k e.row)
      where
        from : Dec (k ≡ e.row) → key (row_at m (set rows e.row new) k) ≡ key (row_at m rows k)
        from (yes here) = subst (λ j. key (row_at m (set rows e.row new) j) ≡ key (row_at m rows j)) (sym here) (ap key at_a)
        from (no ne) = ap key (at_other k ne)

    ranked_now : (k : ℕ) → k < n → ((row_at m (set rows e.row new) k).rank < s + 1) ⊎ ((row_at m (set rows e.row new) k).rank ≡ unranked)
    ranked_now k lt = from (ℕ_discrete k e.row)
      where
        from : Dec (k ≡ e.row) → ((row_at m (set rows e.row new) k).rank < s + 1) ⊎ ((row_at m (set rows e.row new) k).rank ≡ unranked)
        from (yes here) = inl (let r = rank_a k here in omega arith)
        from (no ne) = ⊎_elim (λ low. inl (let r = rank_other k ne in omega arith)) (λ w. inr (rank_other k ne ∙ w)) (t.ranked k lt)

    -- no other row has the new rank
    only_a : (k : ℕ) → k < n → k ≢ e.row → (row_at m (set rows e.row new) k).rank ≡ s → ⊥
    only_a k lt ne r = let o = rank_other k ne in let f = not_all in ⊎_elim (λ low. omega arith) (λ w. omega arith) (t.ranked k lt)

    ranks_now : (k l : ℕ) → k < n → l < n → (row_at m (set rows e.row new) k).rank < s + 1 → (row_at m (set rows e.row new) k).rank ≡ (row_at m (set rows e.row new) l).rank → k ≡ l
    ranks_now k l hk hl low same = from (ℕ_discrete k e.row) (ℕ_discrete l e.row)
      where
        from : Dec (k ≡ e.row) → Dec (l ≡ e.row) → k ≡ l
        from (yes hk') (yes hl') = hk' ∙ sym hl'
        from (yes hk') (no nl) = absurd (only_a l hl nl (sym same ∙ rank_a k hk'))
        from (no nk) (yes hl') = absurd (only_a k hk nk (same ∙ rank_a l hl'))
        from (no nk) (no nl) =
            let rk = rank_other k nk in
            let rl = rank_other l nl in
            let f = not_all in
            let lower : (row_at m rows k).rank < s = ⊎_elim (λ x. x) (λ w. absurd (omega arith)) (t.ranked k hk) in
            t.ranks k l hk hl lower (sym rk ∙ same ∙ rl)

    one_less : n - s - 1 ≡ n - (s + 1)
    one_less = omega arith

    holds_now : (x : Waiting G) → Holds after (n - s - 1) x ↔ ((x.row < n) × ((row_at m (set rows e.row new) x.row).rank ≡ unranked) × (x.grade ≡ (row_at m (set rows e.row new) x.row).grade))
    holds_now x = (λ held. was ((taken_holds taken t.single x).0 held), λ w. (taken_holds taken t.single x).1 (back w))
      where
        same_entry : Holds queue (n - s) x → x.row ≡ e.row → x ≡ e
        same_entry held at =
            let g : x.grade ≡ e.grade = ((t.holds x).0 held).2 ∙ ap (λ k. (row_at m rows k).grade) at ∙ sym ((t.holds e).0 taken.held).2 in λ j. record { grade = g j; row = at j }

        was : Holds queue (n - s) x × (x ≢ e) → (x.row < n) × ((row_at m (set rows e.row new) x.row).rank ≡ unranked) × (x.grade ≡ (row_at m (set rows e.row new) x.row).grade)
        was (held, ne) =
            let (lt, w, g) = (t.holds x).0 held in
            let o = at_other x.row (λ at. ne (same_entry held at)) in
            (lt, ap (λ r. r.rank) o ∙ w, g ∙ ap (λ r. r.grade) (sym o))

        back : (x.row < n) × ((row_at m (set rows e.row new) x.row).rank ≡ unranked) × (x.grade ≡ (row_at m (set rows e.row new) x.row).grade) → Holds queue (n - s) x × (x ≢ e)
        back (lt, w, g) =
            let ne : x.row ≢ e.row = λ at. let r = rank_a x.row at in let f = not_all in omega arith in
            let o = at_other x.row ne in
            ((t.holds x).1 (lt, ap (λ r. r.rank) (sym o) ∙ w, g ∙ ap (λ r. r.grade) o), λ same. ne (ap (λ y. y.row) same))

    pub settles : length after ≡ length queue → Settles m Fs ls rows s n queue e.row (set rows e.row new) after
    settles long = record {
      within = taken_within;
      waits = waits;
      least = least;
      here = at_a;
      others = at_other;
      table = record {
        lawful = t.lawful;
        phases = t.phases;
        few = subst (λ x. x ≤ unranked) (sym (length-set rows e.row new)) t.few;
        in_range = let x = some_waits in omega arith;
        room = subst (λ x. n ≤ x) (sym (length-set rows e.row new)) t.room;
        entries = subst (λ x. n ≤ x) (sym long) t.entries;
        apart = λ k l hk hl same. t.apart k l hk hl (sym (keys_stay k) ∙ same ∙ keys_stay l);
        placed = λ k h. key_placed m Fs (row_at m rows k) (row_at m (set rows e.row new) k) (sym (keys_stay k)) (t.placed k h);
        ranked = ranked_now;
        ranks = ranks_now;
        blank = λ k h. at_other k (λ at. let lt = taken_within in omega arith) ∙ t.blank k h;
        ordered = subst (Queue (sooner m.noworse) after) one_less (taken.queue t.ordered);
        single = subst (Single after) one_less (taken_single taken t.single);
        holds = λ x. subst (λ c. Holds after c x ↔ ((x.row < n) × ((row_at m (set rows e.row new) x.row).rank ≡ unranked) × (x.grade ≡ (row_at m (set rows e.row new) x.row).grade))) one_less (holds_now x);
      };
      rows_long = length-set rows e.row new;
      queue_long = long;
    }
