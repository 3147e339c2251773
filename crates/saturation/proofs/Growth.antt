-- How the row table and the queue grow.
use Rattle.std.proofs.Common.{◌≡◌, ℕ, ◌+◌, ◌-◌, ◌<◌, ◌≤◌, min, Bool, true, false, ◌||◌, T, ◌≢◌, ◌⊎◌, ◌↔◌, List, length, set, Some, None, Option, sym, refl, ap, ◌∙◌, subst, inl, inr, ⊎_elim, arith, length-set, get_or-set_other, get_or-set_same, MatchOption}
use native.Mathlib.Decide.{dec_lt, ℕ_discrete}
use Rattle.grade.specs.declared.grade.Grade.{Ghosts}
use Rattle.grade.specs.declared.waiting.Waiting.{Waiting}
use Rattle.grade.specs.Waits.{sooner}
use Rattle.grade.specs.Lawful.{Lawful}
use Rattle.queue.specs.Queues.{Queue, Single, Holds, StandsAt, MayReplace, Put, Replaced}
use Rattle.queue.proofs.Members.{put_holds, put_single, replaced_holds, replaced_single}
use Rattle.deduction.proofs.Grades.{no_worse_itself}
use Rattle.text.specs.declared.line.Line.{Line}
use Rattle.rows.specs.Rows.{Row}
use Rattle.rows.proofs.Graded.{laws_of}
use Rattle.rowtable.specs.declared.row.TableRow.{TableRow}
use Rattle.rowtable.specs.Tables.{state_of, Exists, row_of, blank_row, row_at}
use Rattle.rowtable.specs.Reasons.{SettledAt}
use Rattle.rows.specs.Rows.{row, wagon}
use Rattle.saturation.specs.declared.work.Work.{Work}
use Rattle.saturation.specs.AtHand.{SameSlices}
use Rattle.saturation.specs.Work.{unranked, key, Covers, Placed, Grown, Table, Went, Full, Ends}

-- the queue's calls, where they cannot fail
pub replaces : {X : Type 0} (f : X → X → Bool) {xs ys : List X} {n place : ℕ} {old e : X} (r : Option X) → n ≤ length xs → StandsAt xs n place old → T (f e old)
    → MatchOption r ((MayReplace f xs n place e → ⊥) × (ys ≡ xs)) (λ o. StandsAt xs n place o × Replaced f xs ys n o e) → Replaced f xs ys n old e
replaces f {e = e} None room at better told = absurd (told.0 (record { room = room; low = at.low; better = λ d. subst (λ x. T (f e x)) (sym (at.is d)) better }))
replaces f {xs} {ys} {n} {e = e} (Some o) room at better told = subst (λ x. Replaced f xs ys n x e) (sym (told.0.is e) ∙ at.is e) told.1

-- of two grades one is no worse
or_false : (x y : Bool) → y ≡ false → T (x || y) → T x
or_false true y e h = tt
or_false false y e h = subst T e h

module _ {G : Type 0} (f : G → G → Bool) (total : (a b : G) → T (f a b || f b a)) where
  pub turned : (a b : G) → f b a ≡ false → T (f a b)
  turned a b worse = or_false (f a b) (f b a) worse (total a b)

  pub worse_as : {h : G → G → Bool} → ((a b : G) → f a b ≡ h a b) → (a b : G) → f b a ≡ false → T (h a b)
  worse_as agree a b worse = subst T (agree a b) (turned a b worse)

-- rows with one key stand for one row, and their states exist alike
pub key_row : {G : Type 0} (Fs : List ℕ) (a b : TableRow G) → key a ≡ key b → row_of Fs a ≡ row_of Fs b
key_row Fs a b e = ap (λ k. row (state_of Fs k.0) (wagon k.1) (state_of Fs k.2)) e

pub key_placed : {G : Type 0} (m : Ghosts G) (Fs : List ℕ) (a b : TableRow G) → key a ≡ key b → Placed m Fs a → Placed m Fs b
key_placed m Fs a b e p = subst (λ k. Exists Fs k.0 × Exists Fs k.2) e p

module _ {G : Type 0} {m : Ghosts G} {Fs : List ℕ} {ls : List Line} {rows : List (TableRow G)} {s n : ℕ} {queue : List (Waiting G)} (t : Table m Fs ls rows s n queue) where
  itself : (g : G) → T (m.noworse g g)
  itself g = no_worse_itself (laws_of t.lawful) g

  -- what has no rank below s waits
  pub waits_at : (k : ℕ) → k < n → s ≤ (row_at m rows k).rank → (row_at m rows k).rank ≡ unranked
  waits_at k lt le = ⊎_elim (λ low. absurd (omega arith)) (λ e. e) (t.ranked k lt)

  pub low_rank : s ≤ unranked
  low_rank = let a = t.in_range in let b = t.room in let c = t.few in omega arith

  pub grown_none : {New : TableRow G → Type 0} → Grown m Fs s New rows n rows n
  grown_none = record {
    more = omega arith;
    kept = λ p r h. h;
    back = λ p r h. h;
    keys = λ k h. refl;
    better = λ k h. itself _;
    rightly = λ k h. inl (h, refl);
  }

  pub went_none : {New : TableRow G → Type 0} {C : Type 0} → C → Went m Fs ls s New rows n queue rows n queue C
  went_none c = record { table = t; grown = grown_none; rows_long = refl; queue_long = refl; done = c }

  -- a row that waits makes way for a better one
  module _ (i : ℕ) (new : TableRow G) (low : i < n) (same : key (row_at m rows i) ≡ key new) (waits : new.rank ≡ unranked) (unsettled : s ≤ (row_at m rows i).rank)
      (improves : T (m.noworse new.grade (row_at m rows i).grade)) where
    changed : List (TableRow G)
    changed = set rows i new

    at_i : row_at m (set rows i new) i ≡ new
    at_i = let fits = t.room in get_or-set_same rows i new (blank_row m.best) (omega arith)

    at_other : (k : ℕ) → k ≢ i → row_at m (set rows i new) k ≡ row_at m rows k
    at_other k ne = get_or-set_other rows i k new (blank_row m.best) ne

    -- what the two have in common
    both : {X : Type 0} (f : TableRow G → X) → f new ≡ f (row_at m rows i) → (k : ℕ) → f (row_at m (set rows i new) k) ≡ f (row_at m rows k)
    both f e k = from (ℕ_discrete k i)
      where
        from : Dec (k ≡ i) → f (row_at m (set rows i new) k) ≡ f (row_at m rows k)
        from (yes is) = subst (λ j. f (row_at m (set rows i new) j) ≡ f (row_at m rows j)) (sym is) (ap f at_i ∙ e)
        from (no ne) = ap f (at_other k ne)

    ranks_stay : (k : ℕ) → (row_at m (set rows i new) k).rank ≡ (row_at m rows k).rank
    ranks_stay = both (λ r. r.rank) (waits ∙ sym (waits_at i low unsettled))

    keys_stay : (k : ℕ) → key (row_at m (set rows i new) k) ≡ key (row_at m rows k)
    keys_stay = both key (sym same)

    better_at : (k : ℕ) → T (m.noworse (row_at m (set rows i new) k).grade (row_at m rows k).grade)
    better_at k = from (ℕ_discrete k i)
      where
        from : Dec (k ≡ i) → T (m.noworse (row_at m (set rows i new) k).grade (row_at m rows k).grade)
        from (yes is) = subst (λ j. T (m.noworse (row_at m (set rows i new) j).grade (row_at m rows j).grade)) (sym is) (subst (λ r. T (m.noworse r.grade (row_at m rows i).grade)) (sym at_i) improves)
        from (no ne) = subst (λ r. T (m.noworse r.grade (row_at m rows k).grade)) (sym (at_other k ne)) (itself _)

    -- a settled row is another
    settled_other : (p : ℕ) → (row_at m rows p).rank < s → p ≢ i
    settled_other p ranked is = let e = ap (λ j. (row_at m rows j).rank) is in omega arith

    grown_better : Grown m Fs s (λ r. r ≡ new) rows n (set rows i new) n
    grown_better = record {
      more = omega arith;
      kept = λ p r h. record {
        within = h.within;
        here = at_other p (settled_other p (subst (λ x. x.rank < s) (sym h.here) h.ranked)) ∙ h.here;
        ranked = h.ranked;
      };
      back = λ p r h.
          let ranked : (row_at m rows p).rank < s = subst (λ x. x < s) (ranks_stay p) (subst (λ x. x.rank < s) (sym h.here) h.ranked) in
          record { within = h.within; here = sym (at_other p (settled_other p ranked)) ∙ h.here; ranked = h.ranked };
      keys = λ k h. keys_stay k;
      better = λ k h. better_at k;
      rightly = λ k h. only_new k h (ℕ_discrete k i);
    }
      where
        only_new : (k : ℕ) → k < n → Dec (k ≡ i) → ((k < n) × (row_at m (set rows i new) k ≡ row_at m rows k)) ⊎ (row_at m (set rows i new) k ≡ new)
        only_new k h (yes is) = inr (ap (row_at m (set rows i new)) is ∙ at_i)
        only_new k h (no ne) = inl (h, at_other k ne)

    -- the entries that stand for it before and after
    abbrev pub entry : Waiting G
    entry = record { grade = new.grade; row = i }

    abbrev pub old_entry : Waiting G
    old_entry = record { grade = (row_at m rows i).grade; row = i }

    pub old_held : Holds queue (n - s) old_entry
    old_held = (t.holds old_entry).1 (low, waits_at i low unsettled, refl)

    is_old : (e : Waiting G) → Holds queue (n - s) e → e.row ≡ i → e ≡ old_entry
    is_old e held at = let grade : e.grade ≡ (row_at m rows i).grade = ((t.holds e).0 held).2 ∙ ap (λ k. (row_at m rows k).grade) at in λ j. record { grade = grade j; row = at j }

    module _ {after : List (Waiting G)} (replaced : Replaced (sooner m.noworse) queue after (n - s) old_entry entry) where
      holds_after : (e : Waiting G) → Holds after (n - s) e ↔ ((e.row < n) × ((row_at m (set rows i new) e.row).rank ≡ unranked) × (e.grade ≡ (row_at m (set rows i new) e.row).grade))
      holds_after e = (λ held. ⊎_elim was is_new ((replaced_holds replaced t.single e).0 held), λ w. (replaced_holds replaced t.single e).1 (back w (ℕ_discrete e.row i)))
        where
          was : Holds queue (n - s) e × (e ≢ old_entry) → (e.row < n) × ((row_at m (set rows i new) e.row).rank ≡ unranked) × (e.grade ≡ (row_at m (set rows i new) e.row).grade)
          was (held, other) =
              let (lt, rank, grade) = (t.holds e).0 held in
              (lt, ranks_stay e.row ∙ rank, grade ∙ ap (λ r. r.grade) (sym (at_other e.row (λ at. other (is_old e held at)))))

          is_new : e ≡ entry → (e.row < n) × ((row_at m (set rows i new) e.row).rank ≡ unranked) × (e.grade ≡ (row_at m (set rows i new) e.row).grade)
          is_new is =
              subst (λ x. (x.row < n) × ((row_at m (set rows i new) x.row).rank ≡ unranked) × (x.grade ≡ (row_at m (set rows i new) x.row).grade)) (sym is) (low, ap (λ r. r.rank) at_i ∙ waits, ap (λ r. r.grade) (sym at_i))

          back : (e.row < n) × ((row_at m (set rows i new) e.row).rank ≡ unranked) × (e.grade ≡ (row_at m (set rows i new) e.row).grade) → Dec (e.row ≡ i) → (Holds queue (n - s) e × (e ≢ old_entry)) ⊎ (e ≡ entry)
          back (lt, rank, grade) (yes at) = let g : e.grade ≡ new.grade = grade ∙ ap (λ k. (row_at m (set rows i new) k).grade) at ∙ ap (λ r. r.grade) at_i in inr (λ j. record { grade = g j; row = at j })
          back (lt, rank, grade) (no ne) =
              inl ((t.holds e).1 (lt, sym (ranks_stay e.row) ∙ rank, grade ∙ ap (λ r. r.grade) (at_other e.row ne)), λ is. ne (ap (λ x. x.row) is))

      table_better : length after ≡ length queue → Table m Fs ls (set rows i new) s n after
      table_better long = record {
        lawful = t.lawful;
        phases = t.phases;
        few = subst (λ x. x ≤ unranked) (sym (length-set rows i new)) t.few;
        in_range = t.in_range;
        room = subst (λ x. n ≤ x) (sym (length-set rows i new)) t.room;
        entries = subst (λ x. n ≤ x) (sym long) t.entries;
        apart = λ k l hk hl e. t.apart k l hk hl (sym (keys_stay k) ∙ e ∙ keys_stay l);
        placed = λ k h. key_placed m Fs (row_at m rows k) (row_at m (set rows i new) k) (sym (keys_stay k)) (t.placed k h);
        ranked = λ k h. subst (λ x. (x < s) ⊎ (x ≡ unranked)) (sym (ranks_stay k)) (t.ranked k h);
        ranks = λ k l hk hl lt e. t.ranks k l hk hl (subst (λ x. x < s) (ranks_stay k) lt) (sym (ranks_stay k) ∙ e ∙ ranks_stay l);
        blank = λ k h. at_other k (λ is. omega arith) ∙ t.blank k h;
        ordered = replaced.queue t.ordered;
        single = replaced_single replaced t.single (λ held. is_old entry held refl);
        holds = holds_after;
      }

      pub went_better : length after ≡ length queue → Went m Fs ls s (λ r. r ≡ new) rows n queue (set rows i new) n after (Covers m Fs (set rows i new) n (row_of Fs new) new.grade)
      went_better long = record {
        table = table_better long;
        grown = grown_better;
        rows_long = length-set rows i new;
        queue_long = long;
        done = (i, low, ap (row_of Fs) at_i, subst (λ r. T (m.noworse r.grade new.grade)) (sym at_i) (itself _));
      }

  -- one more row waits
  module _ (new : TableRow G) (fits : n < length rows) (waits : new.rank ≡ unranked) (exist : Placed m Fs new) (nowhere : (k : ℕ) → k < n → key (row_at m rows k) ≡ key new → ⊥) where
    at_n : row_at m (set rows n new) n ≡ new
    at_n = get_or-set_same rows n new (blank_row m.best) fits

    at_old : (k : ℕ) → k ≢ n → row_at m (set rows n new) k ≡ row_at m rows k
    at_old k ne = get_or-set_other rows n k new (blank_row m.best) ne

    -- what holds of the rows that there were, and of the new one
    each : (P : ℕ → TableRow G → Type 0) → ((k : ℕ) → k < n → P k (row_at m rows k)) → P n new → (k : ℕ) → k < n + 1 → P k (row_at m (set rows n new) k)
    each P old one k h = from (dec_lt k n)
      where
        from : Dec (k < n) → P k (row_at m (set rows n new) k)
        from (yes before) = subst (P k) (sym (at_old k (λ is. omega arith))) (old k before)
        from (no late) = let is : k ≡ n = omega arith in subst (λ j. P j (row_at m (set rows n new) j)) (sym is) (subst (P n) (sym at_n) one)

    unsettled_new : (r : TableRow G) → r ≡ new → r.rank < s → ⊥
    unsettled_new r is lt = let e = ap (λ x. x.rank) is ∙ waits in let l = low_rank in omega arith

    grown_push : Grown m Fs s (λ r. r ≡ new) rows n (set rows n new) (n + 1)
    grown_push = record {
      more = omega arith;
      kept = λ p r h. let w = h.within in record { within = omega arith; here = at_old p (λ is. omega arith) ∙ h.here; ranked = h.ranked };
      back = λ p r h. was p r h (dec_lt p n);
      keys = λ k h. ap key (at_old k (λ is. omega arith));
      better = λ k h. subst (λ r. T (m.noworse r.grade (row_at m rows k).grade)) (sym (at_old k (λ is. omega arith))) (itself _);
      rightly = λ k h. each (λ k r. ((k < n) × (r ≡ row_at m rows k)) ⊎ (r ≡ new)) (λ k h. inl (h, refl)) (inr refl) k h;
    }
      where
        was : (p : ℕ) (r : TableRow G) → SettledAt m (set rows n new) (n + 1) s p r → Dec (p < n) → SettledAt m rows n s p r
        was p r h (yes before) = record { within = before; here = sym (at_old p (λ is. omega arith)) ∙ h.here; ranked = h.ranked }
        was p r h (no late) = let w = h.within in let is : p ≡ n = omega arith in absurd (unsettled_new r (sym h.here ∙ ap (row_at m (set rows n new)) is ∙ at_n) h.ranked)

    apart_push : (k l : ℕ) → k < n + 1 → l < n + 1 → key (row_at m (set rows n new) k) ≡ key (row_at m (set rows n new) l) → k ≡ l
    apart_push k l hk hl e = from (dec_lt k n) (dec_lt l n)
      where
        from : Dec (k < n) → Dec (l < n) → k ≡ l
        from (yes bk) (yes bl) = t.apart k l bk bl (sym (ap key (at_old k (λ is. omega arith))) ∙ e ∙ ap key (at_old l (λ is. omega arith)))
        from (yes bk) (no nl) =
            let is : l ≡ n = omega arith in
            absurd (nowhere k bk (sym (ap key (at_old k (λ is. omega arith))) ∙ e ∙ ap (λ j. key (row_at m (set rows n new) j)) is ∙ ap key at_n))
        from (no nk) (yes bl) =
            let is : k ≡ n = omega arith in
            absurd (nowhere l bl (sym (ap key (at_old l (λ is. omega arith))) ∙ sym e ∙ ap (λ j. key (row_at m (set rows n new) j)) is ∙ ap key at_n))
        from (no nk) (no nl) = omega arith

    ranks_push : (k l : ℕ) → k < n + 1 → l < n + 1 → (row_at m (set rows n new) k).rank < s → (row_at m (set rows n new) k).rank ≡ (row_at m (set rows n new) l).rank → k ≡ l
    ranks_push k l hk hl lt e = from (dec_lt k n) (dec_lt l n)
      where
        late : (j : ℕ) → j < n + 1 → (j < n → ⊥) → (row_at m (set rows n new) j).rank < s → ⊥
        late j hj nj lj = let is : j ≡ n = omega arith in unsettled_new (row_at m (set rows n new) j) (ap (row_at m (set rows n new)) is ∙ at_n) lj

        from : Dec (k < n) → Dec (l < n) → k ≡ l
        from (yes bk) (yes bl) =
            let ek = ap (λ r. r.rank) (at_old k (λ is. omega arith)) in
            let el = ap (λ r. r.rank) (at_old l (λ is. omega arith)) in
            t.ranks k l bk bl (omega arith) (sym ek ∙ e ∙ el)
        from (no nk) dl = absurd (late k hk nk lt)
        from (yes bk) (no nl) = absurd (late l hl nl (omega arith))

    module _ {after : List (Waiting G)} (put : Put (sooner m.noworse) queue after (n - s) (record { grade = new.grade; row = n })) (wide : n < length queue) (long : length after ≡ length queue) where
      one_more : n - s + 1 ≡ n + 1 - s
      one_more = let le = t.in_range in omega arith

      holds_push : (e : Waiting G) → Holds after (n - s + 1) e ↔ ((e.row < n + 1) × ((row_at m (set rows n new) e.row).rank ≡ unranked) × (e.grade ≡ (row_at m (set rows n new) e.row).grade))
      holds_push e = (λ held. ⊎_elim was is_new ((put_holds put e).0 held), λ w. (put_holds put e).1 (back w (dec_lt e.row n)))
        where
          was : Holds queue (n - s) e → (e.row < n + 1) × ((row_at m (set rows n new) e.row).rank ≡ unranked) × (e.grade ≡ (row_at m (set rows n new) e.row).grade)
          was held =
              let (lt, rank, grade) = (t.holds e).0 held in
              let same = at_old e.row (λ is. omega arith) in
              (omega arith, ap (λ r. r.rank) same ∙ rank, grade ∙ ap (λ r. r.grade) (sym same))

          is_new : e ≡ record { grade = new.grade; row = n } → (e.row < n + 1) × ((row_at m (set rows n new) e.row).rank ≡ unranked) × (e.grade ≡ (row_at m (set rows n new) e.row).grade)
          is_new is =
              subst (λ x. (x.row < n + 1) × ((row_at m (set rows n new) x.row).rank ≡ unranked) × (x.grade ≡ (row_at m (set rows n new) x.row).grade)) (sym is) (omega arith, ap (λ r. r.rank) at_n ∙ waits, ap (λ r. r.grade) (sym at_n))

          back : (e.row < n + 1) × ((row_at m (set rows n new) e.row).rank ≡ unranked) × (e.grade ≡ (row_at m (set rows n new) e.row).grade) → Dec (e.row < n) → Holds queue (n - s) e ⊎ (e ≡ record { grade = new.grade; row = n })
          back (lt, rank, grade) (yes before) = let same = at_old e.row (λ is. omega arith) in inl ((t.holds e).1 (before, ap (λ r. r.rank) (sym same) ∙ rank, grade ∙ ap (λ r. r.grade) same))
          back (lt, rank, grade) (no late) =
              let is : e.row ≡ n = omega arith in
              let g : e.grade ≡ new.grade = grade ∙ ap (λ k. (row_at m (set rows n new) k).grade) is ∙ ap (λ r. r.grade) at_n in
              inr (λ j. record { grade = g j; row = is j })

      new_entry : Holds queue (n - s) (record { grade = new.grade; row = n }) → ⊥
      new_entry held = let lt = ((t.holds (record { grade = new.grade; row = n })).0 held).0 in omega arith

      table_push : Table m Fs ls (set rows n new) s (n + 1) after
      table_push = record {
        lawful = t.lawful;
        phases = t.phases;
        few = subst (λ x. x ≤ unranked) (sym (length-set rows n new)) t.few;
        in_range = let le = t.in_range in omega arith;
        room = let e = length-set rows n new in omega arith;
        entries = omega arith;
        apart = apart_push;
        placed = λ k h. each (λ k r. Placed m Fs r) t.placed exist k h;
        ranked = λ k h. each (λ k r. (r.rank < s) ⊎ (r.rank ≡ unranked)) t.ranked (inr waits) k h;
        ranks = ranks_push;
        blank = λ k h. at_old k (λ is. omega arith) ∙ t.blank k (omega arith);
        ordered = subst (Queue (sooner m.noworse) after) one_more (put.queue t.ordered);
        single = subst (Single after) one_more (put_single put t.single new_entry);
        holds = λ e. subst (λ c. Holds after c e ↔ ((e.row < n + 1) × ((row_at m (set rows n new) e.row).rank ≡ unranked) × (e.grade ≡ (row_at m (set rows n new) e.row).grade))) one_more (holds_push e);
      }

      pub went_push : Went m Fs ls s (λ r. r ≡ new) rows n queue (set rows n new) (n + 1) after (Covers m Fs (set rows n new) (n + 1) (row_of Fs new) new.grade)
      went_push = record {
        table = table_push;
        grown = grown_push;
        rows_long = length-set rows n new;
        queue_long = long;
        done = (n, omega arith, ap (row_of Fs) at_n, subst (λ r. T (m.noworse r.grade new.grade)) (sym at_n) (itself _));
      }

  -- no place is left
  pub full_now : (new : TableRow G) → (length rows ≤ n) ⊎ (length queue ≤ n) → ((k : ℕ) → k < n → key (row_at m rows k) ≡ key new → ⊥) → Full m Fs ls s (λ r. r ≡ new) rows n (min (length rows) (length queue))
  full_now new none nowhere =
      let is : n ≡ min (length rows) (length queue) = let a = t.room in let b = t.entries in ⊎_elim (λ h. omega arith) (λ h. omega arith) none in
      subst (Full m Fs ls s (λ r. r ≡ new) rows n) is (record { rows = rows; queue = queue; table = t; grown = grown_none; row = new; new = refl; nowhere = nowhere })

-- one growth after another
module _ {G : Type 0} {m : Ghosts G} {Fs : List ℕ} where
  pub grown_then : {s : ℕ} {New New' : TableRow G → Type 0} {a b c : List (TableRow G)} {l k n : ℕ} → Lawful m → ((r : TableRow G) → New' r → New r) → Grown m Fs s New a l b k → Grown m Fs s New' b k c n → Grown m Fs s New a l c n
  grown_then {New} {New'} {a} {b} {c} {l} {k} {n} lawful weaken one two = record {
    more = let x = one.more in let y = two.more in omega arith;
    kept = λ p r h. two.kept p r (one.kept p r h);
    back = λ p r h. one.back p r (two.back p r h);
    keys = λ j h. two.keys j (let x = one.more in omega arith) ∙ one.keys j h;
    better = λ j h. lawful.transitive _ _ _ (two.better j (let x = one.more in omega arith)) (one.better j h);
    rightly = λ j h. ⊎_elim (λ old. ⊎_elim (λ older. inl (older.0, old.1 ∙ older.1)) (λ new. inr (subst New (sym old.1) new)) (one.rightly j old.0)) (λ new. inr (weaken (row_at m c j) new)) (two.rightly j h);
  }

  pub covers_later : {s : ℕ} {New : TableRow G → Type 0} {a b : List (TableRow G)} {k n : ℕ} (i : Row) (g : G) → Lawful m → Grown m Fs s New a k b n → Covers m Fs a k i g → Covers m Fs b n i g
  covers_later {a = a} {b = b} i g lawful grown (j, h, is, le) =
      (j, let x = grown.more in omega arith, key_row Fs (row_at m b j) (row_at m a j) (grown.keys j h) ∙ is, lawful.transitive _ _ _ (grown.better j h) le)

module _ {G : Type 0} {m : Ghosts G} {Fs : List ℕ} {ls : List Line} where
  pub went_so : {s : ℕ} {New : TableRow G → Type 0} {old new : List (TableRow G)} {n l : ℕ} {waited queue : List (Waiting G)} {B C : Type 0} → (B → C) → Went m Fs ls s New old n waited new l queue B → Went m Fs ls s New old n waited new l queue C
  went_so f w = record { table = w.table; grown = w.grown; rows_long = w.rows_long; queue_long = w.queue_long; done = f w.done }

  module _ {s : ℕ} {New New' : TableRow G → Type 0} {old mid : List (TableRow G)} {n k : ℕ} {waited q : List (Waiting G)} {A : Type 0} (went : Went m Fs ls s New old n waited mid k q A) (weaken : (r : TableRow G) → New' r → New r) where
    lawful_now : Lawful m
    lawful_now = went.table.lawful

    pub full_on : Full m Fs ls s New' mid k (min (length mid) (length q)) → Full m Fs ls s New old n (min (length old) (length waited))
    full_on full =
        subst (Full m Fs ls s New old n) (ap (λ x. min x (length q)) went.rows_long ∙ ap (min (length old)) went.queue_long) (record {
          rows = full.rows;
          queue = full.queue;
          table = full.table;
          grown = grown_then lawful_now weaken went.grown full.grown;
          row = full.row;
          new = weaken full.row full.new;
          nowhere = full.nowhere;
        })

    pub went_on : {new : List (TableRow G)} {l : ℕ} {queue : List (Waiting G)} {B C : Type 0} → (Grown m Fs s New' mid k new l → A → B → C) → Went m Fs ls s New' mid k q new l queue B → Went m Fs ls s New old n waited new l queue C
    went_on f two = record {
      table = two.table;
      grown = grown_then lawful_now weaken went.grown two.grown;
      rows_long = two.rows_long ∙ went.rows_long;
      queue_long = two.queue_long ∙ went.queue_long;
      done = f two.grown went.done two.done;
    }

    pub ends_on : (new : List (TableRow G)) (l : ℕ) (queue : List (Waiting G)) (B C : List (TableRow G) → ℕ → Type 0) (r : Option (Unit {0})) → (Grown m Fs s New' mid k new l → A → B new l → C new l)
        → Ends m Fs ls s New' mid k q new l queue B r → Ends m Fs ls s New old n waited new l queue C r
    ends_on new l queue B C None f stuck = full_on stuck
    ends_on new l queue B C (Some done) f two = went_on f two

-- a weaker end
module _ {G : Type 0} (m : Ghosts G) (Fs : List ℕ) (ls : List Line) (s : ℕ) (New : TableRow G → Type 0) (old : List (TableRow G)) (n : ℕ) (waited : List (Waiting G)) (new : List (TableRow G)) (l : ℕ) (queue : List (Waiting G)) (B C : List (TableRow G) → ℕ → Type 0) where
  pub ends_so : (r : Option (Unit {0})) → (B new l → C new l) → Ends m Fs ls s New old n waited new l queue B r → Ends m Fs ls s New old n waited new l queue C r
  ends_so None f stuck = stuck
  ends_so (Some done) f w = went_so f w

-- the same slices, from one to another
pub slices_then : {G : Type 0} {a b c : Work G} → SameSlices a b → SameSlices b c → SameSlices a c
slices_then one two = record { rows = two.rows ∙ one.rows; waiting = two.waiting ∙ one.waiting }

-- at the exit of a `?`
pub at_none : {X : Type 0} (P : Type 0) (Q : X → Type 0) (o : Option X) → o ≡ None → P → MatchOption o P Q
at_none P Q o e p = subst (λ x. MatchOption x P Q) (sym e) p
