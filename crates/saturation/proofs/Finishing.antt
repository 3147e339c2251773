-- Nothing waits: the table holds exactly the saturated rows.
use Rattle.std.proofs.Common.{◌≡◌, ℕ, ◌-◌, ◌<◌, ◌≤◌, min, List, length, get_or, take, Some, None, Option, MatchOption, sym, refl, ap, ap₂, ◌∙◌, subst, ⊎_elim, arith, zero, suc, [], ◌∷◌}
use Rattle.std.specs.List.{FoldsTo}
use Rattle.std.proofs.lemmas.List.{get_or_default, get_or-take, length-take}
use Rattle.grade.specs.declared.grade.Grade.{Ghosts}
use Rattle.grade.specs.declared.waiting.Waiting.{Waiting}
use Rattle.queue.specs.Queues.{Holds}
use Rattle.queue.proofs.Members.{holds_none}
use Rattle.deduction.specs.Counting.{Filled, Outnumber}
use Rattle.deduction.specs.Derivations.{Derivation}
use Rattle.deduction.proofs.Bounds.{settled_final, finished_all}
use Rattle.deduction.proofs.Counting.{filled_outnumber}
use Rattle.text.specs.declared.line.Line.{Line}
use Rattle.model.specs.Phases.{Opened}
use Rattle.rows.specs.Rows.{Row, row_rules}
use Rattle.rows.proofs.Graded.{laws_of}
use Rattle.rowtable.specs.declared.row.TableRow.{TableRow}
use Rattle.rowtable.specs.Tables.{Held, row_of, blank_row, row_at}
use Rattle.rowtable.specs.Reasons.{SettledAt}
use Rattle.saturation.specs.Work.{unranked, WaitsAt, Has, Table, Worked, Proceeded}
use Rattle.saturation.specs.Complete.{Complete}
use Rattle.saturation.proofs.Turns.{key_once}

module _ {G : Type 0} {m : Ghosts G} {Fs : List ℕ} {ls : List Line} {rows : List (TableRow G)} {s n : ℕ} {queue : List (Waiting G)} (w : Worked m Fs ls rows s n queue) (all : s ≡ n) where
  t : Table m Fs ls rows s n queue
  t = w.table

  none_waits : (k : ℕ) → k < n → (row_at m rows k).rank ≡ unranked → ⊥
  none_waits k lt u =
      let e : Waiting G = record { grade = (row_at m rows k).grade; row = k } in
      let empty : n - s ≡ 0 = omega arith in
      holds_none queue e (subst (λ c. Holds queue c e) empty ((t.holds e).1 (lt, u, refl)))

  rank_low : (k : ℕ) → k < n → (row_at m rows k).rank < s
  rank_low k lt = ⊎_elim (λ low. low) (λ u. absurd (none_waits k lt u)) (t.ranked k lt)

  settled : (k : ℕ) → k < n → SettledAt m rows n s k (row_at m rows k)
  settled k lt = record { within = lt; here = refl; ranked = rank_low k lt }

  done : (i : Row) (g : G) → Has m Fs (WaitsAt m rows n) i g → ⊥
  done i g h = none_waits h.0 h.2.within (ap (λ r. r.rank) h.2.here ∙ h.2.waits)

  read : (k : ℕ) → k < n → (d : TableRow G) → get_or rows k d ≡ row_at m rows k
  read k lt d = let r = t.room in get_or_default rows k d (blank_row m.best) (omega arith)

  held : (i : Row) (g : G) → Has m Fs (SettledAt m rows n s) i g → Held Fs rows n i g
  held i g (p, r, at, is, grade) = record {
    place = p;
    below = at.within;
    is = λ d. ap (row_of Fs) (read p at.within d ∙ at.here) ∙ is;
    graded = λ d. ap (λ y. y.grade) (read p at.within d ∙ at.here) ∙ grade;
  }

  has : (i : Row) (g : G) → Held Fs rows n i g → Has m Fs (SettledAt m rows n s) i g
  has i g h = (h.place, row_at m rows h.place, settled h.place h.below, h.is (blank_row m.best), h.graded (blank_row m.best))

  once : (k l : ℕ) → k < n → l < n → row_of Fs (row_at m rows k) ≡ row_of Fs (row_at m rows l) → k ≡ l
  once k l hk hl e = t.apart k l hk hl (key_once Fs t.phases.different.apart m (row_at m rows k) (row_at m rows l) (t.placed k hk) (t.placed l hl) e)

  derivable : (i : Row) → Derivation (row_rules ls) i → (k : ℕ) × (k < n) × (row_of Fs (row_at m rows k) ≡ i)
  derivable i d =
      let (g, (p, r, at, is, grade)) = finished_all (laws_of t.lawful) w.invariant done i d in
      (p, at.within, ap (row_of Fs) at.here ∙ is)

  pub finished : Complete m Fs ls (min (length rows) (length queue)) rows n
  finished = record {
    table = record {
      enough = t.room;
      saturated = record {
        best = λ i v h. settled_final (laws_of t.lawful) w.invariant i v (has i v h);
        all = λ i d. let f = finished_all (laws_of t.lawful) w.invariant done i d in (f.0, held i f.0 f.1);
      };
      once = once;
      exist = t.placed;
      ranked = λ k h. let low = rank_low k h in omega arith;
      ranks = λ k l hk hl e. t.ranks k l hk hl (rank_low k hk) e;
      climbing = λ k l hk hl less. w.climbing k l (row_at m rows k) (row_at m rows l) (settled k hk) (settled l hl) less;
      reasons = λ k h. w.settled_reasons k (row_at m rows k) (settled k h);
    };
    blank = t.blank;
    room = let a = t.room in let b = t.entries in omega arith;
    fits = λ out.
        let filled : Filled (Derivation (row_rules ls)) (λ k. row_of Fs (row_at m rows k)) n = record {
          different = record { apart = once; each = λ k h. (w.invariant.settled_derived _ _ (k, row_at m rows k, settled k h, refl, refl)).0 };
          all = derivable;
        } in
        let less = (filled_outnumber (Derivation (row_rules ls)) (λ k. row_of Fs (row_at m rows k)) n filled (min (length rows) (length queue))).0 out in
        let a = t.room in
        let b = t.entries in
        omega arith;
  }

-- all rows are settled, as begin and the turns leave them
pub filled_ends : {G : Type 0} (m : Ghosts G) (Fs : List ℕ) (ls : List Line) (old mid new : List (TableRow G)) (waited q queue : List (Waiting G)) (n : ℕ) (r : Option ℕ) → length mid ≡ length old → length q ≡ length waited → Proceeded m Fs ls mid q 0 (length mid) new n queue r
    → MatchOption r (Outnumber (Derivation (row_rules ls)) (min (length old) (length waited))) (λ _. Complete m Fs ls (min (length old) (length waited)) new n)
filled_ends m Fs ls old mid new waited q queue n None long wide out = subst (Outnumber (Derivation (row_rules ls))) (ap₂ min long wide) out
filled_ends m Fs ls old mid new waited q queue n (Some s) long wide (worked, long_2, wide_2, end) =
    let all : s ≡ n = ⊎_elim (λ e. let a = worked.table.in_range in let b = worked.table.room in omega arith) (λ e. e.0) end in
    subst (λ places. Complete m Fs ls places new n) (ap₂ min (long_2 ∙ long) (wide_2 ∙ wide)) (finished worked all)

-- what each call gives stands at each place
pub filled_with : {X F : Type 0} (R : F → X → F → Type 0) (P : X → Type 0) → ((p : F) (x : X) (q : F) → R p x q → P x) → (xs : List X) (p q : F) → FoldsTo R p xs q → (k : ℕ) (d : X) → P d → P (get_or xs k d)
filled_with R P each [] p q ran k d at = at
filled_with R P each (x ∷ xs) p q (j, here, rest) zero d at = each p x j here
filled_with R P each (x ∷ xs) p q (j, here, rest) (suc k) d at = filled_with R P each xs j q rest k d at

-- the opened phases as a slice of their table
pub phases_listed : {ls : List Line} (table : List ℕ) (count : ℕ) → count ≤ length table → Filled (Opened ls) (λ k. get_or table k 0) count → Filled (Opened ls) (λ k. get_or (take count table) k 0) (length (take count table))
phases_listed {ls} table count fits filled =
    let long : length (take count table) ≡ count = length-take count table ∙ (let e : min count (length table) ≡ count = omega arith in e) in
    let read : (k : ℕ) → k < count → get_or (take count table) k 0 ≡ get_or table k 0 = λ k lt. get_or-take count table k 0 lt in
    subst (Filled (Opened ls) (λ k. get_or (take count table) k 0)) (sym long) (record {
      different = record { apart = λ k l hk hl e. filled.different.apart k l hk hl (sym (read k hk) ∙ e ∙ read l hl); each = λ k h. subst (Opened ls) (sym (read k h)) (filled.different.each k h) };
      all = λ F is_open. let (k, lt, is) = filled.all F is_open in (k, lt, read k lt ∙ is);
    })
