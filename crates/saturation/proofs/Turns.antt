-- A turn, which settles a row and brings in what it gives, keeps all that holds between two settlings.
use Rattle.std.proofs.Common.{◌≡◌, ℕ, ◌+◌, ◌<◌, ◌≤◌, min, T, ◌≢◌, ◌⊎◌, List, [], ◌∷◌, map, length, get_or, Some, None, Option, sym, refl, ap, ◌∙◌, subst, ap₂, subst₂, inl, inr, ⊎_elim, arith}
use native.Mathlib.Decide.{ℕ_discrete}
use Rattle.grade.specs.declared.grade.Grade.{Ghosts}
use Rattle.grade.specs.declared.waiting.Waiting.{Waiting}
use Rattle.grade.specs.Lawful.{Lawful}
use Rattle.deduction.specs.Counting.{Outnumber}
use Rattle.deduction.specs.Derivations.{Derivation, Derived, Joined, joined_none, joined_more}
use Rattle.deduction.specs.Saturation.{Known, Next, Brought, Settling}
use Rattle.deduction.proofs.Grades.{no_worse_itself}
use Rattle.deduction.proofs.Derivations.{joined_weaker, derived_by}
use Rattle.deduction.proofs.Settling.{settling_keeps}
use Rattle.deduction.proofs.Counting.{overfull_outnumber}
use Rattle.text.specs.declared.line.Line.{Line}
use Rattle.text.specs.declared.line.OrderLine.{OrderLine}
use Rattle.text.specs.declared.line.NoticeLine.{NoticeLine}
use Rattle.text.specs.declared.line.Wagons.{Wagons}
use Rattle.text.specs.declared.line.Wagons.TheVariants.{Zero, One, Two}
use Rattle.text.specs.Forms.{listed}
use Rattle.model.specs.Phases.{InForce, Allows, after, Opened}
use Rattle.book.specs.declared.tables.Book.{Book}
use Rattle.book.specs.Lines.{lines}
use Rattle.book.proofs.Standing.{order_stands, notice_stands}
use Rattle.rows.specs.Rows.{State, head, Label, Row, row, wagon, row_rules, premises, order_row, notice_row, noticed_row}
use Rattle.rows.specs.Ways.{grading, row_system}
use Rattle.rows.specs.Chains.{ChainWith, GivesWith}
use Rattle.rows.proofs.Rules.{all_brought}
use Rattle.rows.proofs.Graded.{laws_of}
use Rattle.rowtable.specs.declared.row.TableState.{TableState}
use Rattle.rowtable.specs.declared.row.TableState.TheVariants.{Node, Head}
use Rattle.rowtable.specs.declared.row.TableRow.{TableRow}
use Rattle.rowtable.specs.Tables.{state_of, Exists, row_of, row_at}
use Rattle.rowtable.specs.Reasons.{places, Rests, Reasoned, SettledAt}
use Rattle.saturation.specs.Work.{unranked, key, ranked_as, WaitsAt, Has, Covers, Placed, Grown, Table, Went, Full, Ends, Last, Brings, Starts, Goes, Noticed, TriedOrder, TriedRule, Worked, Settles, Turned}
use Rattle.saturation.proofs.Growth.{key_row}
use Rattle.saturation.proofs.Brings.{reasoned_on}

-- ---- states and rows of the table stand for one state and row each
module _ (Fs : List ℕ) (apart : (k l : ℕ) → k < length Fs → l < length Fs → get_or Fs k 0 ≡ get_or Fs l 0 → k ≡ l) where
  pub state_once : (a b : TableState) → Exists Fs a → Exists Fs b → state_of Fs a ≡ state_of Fs b → a ≡ b
  state_once (Node t) (Node u) ea eb e = cc
  state_once (Node t) (Head q j) ea eb e = let z : ◌≡◌ {A = ℕ} 0 1 = cc in absurd (omega arith)
  state_once (Head p i) (Node u) ea eb e = let z : ◌≡◌ {A = ℕ} 0 1 = cc in absurd (omega arith)
  state_once (Head p i) (Head q j) ea eb e =
      let same : get_or Fs i 0 ≡ get_or Fs j 0 = cc in
      let mode : p ≡ q = cc in
      ap₂ Head mode (apart i j ea.1 eb.1 same)

  pub key_once : {G : Type 0} (m : Ghosts G) (a b : TableRow G) → Placed m Fs a → Placed m Fs b → row_of Fs a ≡ row_of Fs b → key a ≡ key b
  key_once m a b pa pb e =
      let from = state_once a.from b.from pa.0 pb.0 (ap (λ r. r.from) e) in
      let to = state_once a.to b.to pa.1 pb.1 (ap (λ r. r.to) e) in
      let label : wagon a.wagon ≡ wagon b.wagon = ap (λ r. r.by) e in
      let by : a.wagon ≡ b.wagon = cc in
      λ i. (from i, by i, to i)

  -- a state of the table that stands for a head
  pub head_of : (f : TableState) (p F : ℕ) → Exists Fs f → state_of Fs f ≡ head p F → (i : ℕ) × (f ≡ Head p i) × (i < length Fs) × (get_or Fs i 0 ≡ F)
  head_of (Node t) p F ex e = let z : ◌≡◌ {A = ℕ} 0 1 = cc in absurd (omega arith)
  head_of (Head q i) p F ex e = let mode : q ≡ p = cc in let phase : get_or Fs i 0 ≡ F = cc in (i, ap (λ z. Head z i) mode, ex.1, phase)

-- ---- reasons as derivations
module _ {G : Type 0} (m : Ghosts G) (Fs : List ℕ) {At : ℕ → TableRow G → Type 0} where
  pub rests_joined : (is : List Row) (ps : List ℕ) (g : G) → Rests m Fs At is ps g → Joined (grading m) (Has m Fs At) is g
  rests_joined [] [] g is_best = subst (Joined (grading m) (Has m Fs At) []) (sym is_best) joined_none
  rests_joined [] (p ∷ ps) g (zero, rest) = rests_joined [] ps g rest
  rests_joined (i ∷ is) [] g never = absurd never
  rests_joined (i ∷ is) (p ∷ ps) g (x, h, at, is_i, rest, joins) = subst (Joined (grading m) (Has m Fs At) (i ∷ is)) (sym joins) (joined_more (p, x, at, is_i, refl) (rests_joined is ps h rest))

  pub reasoned_derived : (ls : List Line) → ((p : ℕ) (r : TableRow G) → At p r → Derived (row_system m ls) (row_of Fs r) r.grade) → (r : TableRow G) → Reasoned m ls Fs At r → Derived (row_system m ls) (row_of Fs r) r.grade
  reasoned_derived ls derived r why =
      subst₂ (Derived (row_system m ls)) why.concludes (sym why.graded)
      (derived_by (row_system m ls) why.rule why.parts
      (joined_weaker (λ i g h. subst₂ (Derived (row_system m ls)) h.3 h.4 (derived h.0 h.1 h.2)) (rests_joined (premises why.rule) (places r.reason) why.parts why.rests)))

-- ---- one turn
module _ {G : Type 0} {m : Ghosts G} {Fs : List ℕ} (b : Book) {old mid : List (TableRow G)} {s n a : ℕ} {queue middle : List (Waiting G)}
    (w : Worked m Fs (lines b) old s n queue) (st : Settles m Fs (lines b) old s n queue a mid middle) (x : TableRow G) (is_x : x ≡ ranked_as (row_at m old a) s) where
  lawful : Lawful m
  lawful = w.table.lawful

  itself : (g : G) → T (m.noworse g g)
  itself g = no_worse_itself (laws_of lawful) g

  low_s : s < unranked
  low_s = let a' = st.table.in_range in let b' = st.table.room in let c' = st.table.few in omega arith

  x_here : row_at m mid a ≡ x
  x_here = st.here ∙ sym is_x

  x_rank : x.rank ≡ s
  x_rank = ap (λ r. r.rank) is_x

  x_row : row_of Fs (row_at m old a) ≡ row_of Fs x
  x_row = ap (row_of Fs) (sym is_x)

  x_grade : (row_at m old a).grade ≡ x.grade
  x_grade = ap (λ r. r.grade) (sym is_x)

  x_waited : Has m Fs (WaitsAt m old n) (row_of Fs x) x.grade
  x_waited = (a, row_at m old a, record { within = st.within; here = refl; waits = st.waits }, x_row, x_grade)

  x_settled : SettledAt m mid n (s + 1) a x
  x_settled = record { within = st.within; here = x_here; ranked = let r = x_rank in omega arith }

  -- what was settled is another row
  not_a : (p : ℕ) → (row_at m old p).rank < s → p ≢ a
  not_a p low here = let e = ap (λ k. (row_at m old k).rank) here in let u = st.waits in let l = low_s in omega arith

  old_mid : (p : ℕ) (r : TableRow G) → SettledAt m old n s p r → SettledAt m mid n (s + 1) p r
  old_mid p r h =
      let low = h.ranked in
      record { within = h.within; here = st.others p (not_a p (subst (λ y. y.rank < s) (sym h.here) h.ranked)) ∙ h.here; ranked = omega arith }

  mid_old : (p : ℕ) (r : TableRow G) → SettledAt m mid n (s + 1) p r → ((p ≡ a) × (r ≡ x)) ⊎ SettledAt m old n s p r
  mid_old p r h = from (ℕ_discrete p a)
    where
      from : Dec (p ≡ a) → ((p ≡ a) × (r ≡ x)) ⊎ SettledAt m old n s p r
      from (yes here) = inl (here, sym h.here ∙ ap (row_at m mid) here ∙ x_here)
      from (no ne) =
          let is : row_at m old p ≡ r = sym (st.others p ne) ∙ h.here in
          let rank = ap (λ y. y.rank) is in
          let low = h.ranked in
          let l = low_s in
          inr (record { within = h.within; here = is; ranked = ⊎_elim (λ lt. omega arith) (λ u. absurd (omega arith)) (w.table.ranked p h.within) })

  mid_waits : (p : ℕ) → p < n → (row_at m mid p).rank ≡ unranked → WaitsAt m old n p (row_at m mid p)
  mid_waits p lt u =
      let ne : p ≢ a = λ here. let e = ap (λ k. (row_at m mid k).rank) here ∙ ap (λ r. r.rank) x_here ∙ x_rank in let l = low_s in omega arith in
      record { within = lt; here = sym (st.others p ne); waits = u }

  pub last_now : Last m Fs (lines b) mid (s + 1) n a x
  last_now = record { here = x_settled; climbing = λ p r h. from p r (mid_old p r h) }
    where
      from : (p : ℕ) (r : TableRow G) → ((p ≡ a) × (r ≡ x)) ⊎ SettledAt m old n s p r → T (m.noworse r.grade x.grade)
      from p r (inl (here, is)) = subst (λ y. T (m.noworse y.grade x.grade)) (sym is) (itself x.grade)
      from p r (inr h) = w.invariant.in_order (row_of Fs r) (row_of Fs x) r.grade x.grade (p, r, h, refl, refl) x_waited

  -- every row is derived
  old_derived : (p : ℕ) → p < n → Derived (row_system m (lines b)) (row_of Fs (row_at m old p)) (row_at m old p).grade
  old_derived p lt =
      ⊎_elim (λ low. w.invariant.settled_derived _ _ (p, row_at m old p, record { within = lt; here = refl; ranked = low }, refl, refl))
      (λ u. w.invariant.waiting_derived _ _ (p, row_at m old p, record { within = lt; here = refl; waits = u }, refl, refl)) (w.table.ranked p lt)

  mid_derived : (p : ℕ) → p < n → Derived (row_system m (lines b)) (row_of Fs (row_at m mid p)) (row_at m mid p).grade
  mid_derived p lt = from (ℕ_discrete p a)
    where
      from : Dec (p ≡ a) → Derived (row_system m (lines b)) (row_of Fs (row_at m mid p)) (row_at m mid p).grade
      from (yes here) = subst (λ k. Derived (row_system m (lines b)) (row_of Fs (row_at m mid k)) (row_at m mid k).grade) (sym here) (subst (λ r. Derived (row_system m (lines b)) (row_of Fs r) r.grade) (sym st.here) (old_derived a st.within))
      from (no ne) = subst (λ r. Derived (row_system m (lines b)) (row_of Fs r) r.grade) (sym (st.others p ne)) (old_derived p lt)

  given_derived : (r : TableRow G) → Brings m Fs (lines b) mid (s + 1) n x r → Derived (row_system m (lines b)) (row_of Fs r) r.grade
  given_derived r new =
      reasoned_derived m Fs (lines b) (λ p y h. subst (λ z. Derived (row_system m (lines b)) (row_of Fs z) z.grade) h.here (mid_derived p h.within)) r new.reasoned

  module _ {new : List (TableRow G)} {l : ℕ} (grown : Grown m Fs (s + 1) (Brings m Fs (lines b) mid (s + 1) n x) mid n new l) where
    new_derived : (k : ℕ) → k < l → Derived (row_system m (lines b)) (row_of Fs (row_at m new k)) (row_at m new k).grade
    new_derived k h =
        ⊎_elim (λ same. subst (λ r. Derived (row_system m (lines b)) (row_of Fs r) r.grade) (sym same.1) (mid_derived k same.0)) (λ brought. given_derived (row_at m new k) brought) (grown.rightly k h)

  -- no place is left
  pub turn_full : {places : ℕ} → Full m Fs (lines b) (s + 1) (Brings m Fs (lines b) mid (s + 1) n x) mid n places → Outnumber (Derivation (row_rules (lines b))) places
  turn_full {places} full =
      let t = full.table in
      overfull_outnumber (Derivation (row_rules (lines b))) (λ k. row_of Fs (row_at m full.rows k)) places (record {
        different = record {
          apart = λ k j hk hj e. t.apart k j hk hj (key_once Fs t.phases.different.apart m (row_at m full.rows k) (row_at m full.rows j) (t.placed k hk) (t.placed j hj) e);
          each = λ k h. (new_derived full.grown k h).0;
        };
        another = row_of Fs full.row;
        also = (given_derived full.row full.new).0;
        nowhere = λ k h e. full.nowhere k h (key_once Fs t.phases.different.apart m (row_at m full.rows k) full.row (t.placed k h) full.new.placed e);
      })

  module _ {new : List (TableRow G)} {l : ℕ} {rest : List (Waiting G)} (went : Went m Fs (lines b) (s + 1) (Brings m Fs (lines b) mid (s + 1) n x) mid n middle new l rest ((k : ℕ) → k < 64 → TriedRule m Fs (get_or b.rules k None) (SettledAt m mid n (s + 1)) x new l)) where
    grown : Grown m Fs (s + 1) (Brings m Fs (lines b) mid (s + 1) n x) mid n new l
    grown = went.grown

    t : Table m Fs (lines b) new (s + 1) l rest
    t = went.table

    old_new : (p : ℕ) (r : TableRow G) → SettledAt m old n s p r → SettledAt m new l (s + 1) p r
    old_new p r h = grown.kept p r (old_mid p r h)

    x_new : SettledAt m new l (s + 1) a x
    x_new = grown.kept a x x_settled

    placed_new : {p : ℕ} {r : TableRow G} → SettledAt m new l (s + 1) p r → Placed m Fs r
    placed_new {p} h = subst (Placed m Fs) h.here (t.placed p h.within)

    -- a settled row that stands for the same is x
    is_last : (p : ℕ) (r : TableRow G) → SettledAt m new l (s + 1) p r → row_of Fs x ≡ row_of Fs r → r ≡ x
    is_last p r h same =
        let here : p ≡ a = t.apart p a h.within x_new.within (key_once Fs t.phases.different.apart m (row_at m new p) (row_at m new a) (t.placed p h.within) (t.placed a x_new.within) (ap (row_of Fs) h.here ∙ sym same ∙ ap (row_of Fs) (sym x_new.here))) in
        sym h.here ∙ ap (row_at m new) here ∙ x_new.here

    -- what is covered is settled or waits
    known : (i : Row) (g : G) → Covers m Fs new l i g → Known (row_system m (lines b)) (Has m Fs (SettledAt m new l (s + 1))) (Has m Fs (WaitsAt m new l)) i g
    known i g (k, lt, is, le) =
        ⊎_elim (λ low. inl ((row_at m new k).grade, (k, row_at m new k, record { within = lt; here = refl; ranked = low }, is, refl), le))
        (λ u. inr ((row_at m new k).grade, (k, row_at m new k, record { within = lt; here = refl; waits = u }, is, refl), le)) (t.ranked k lt)

    next : Next (row_system m (lines b)) (Has m Fs (SettledAt m old n s)) (Has m Fs (WaitsAt m old n)) (row_of Fs x) x.grade
    next = record {
      waits = x_waited;
      least = λ i g h. subst₂ (λ y z. T (m.noworse y z)) x_grade (ap (λ r. r.grade) h.2.here ∙ h.4) (st.least h.0 h.2.within (ap (λ r. r.rank) h.2.here ∙ h.2.waits));
      fresh = λ g h.
          let settled = h.2 in
          let here : h.0 ≡ a = w.table.apart h.0 a settled.within st.within (key_once Fs w.table.phases.different.apart m (row_at m old h.0) (row_at m old a) (w.table.placed h.0 settled.within) (w.table.placed a st.within) (ap (row_of Fs) settled.here ∙ h.3 ∙ sym x_row)) in
          not_a h.0 (subst (λ y. y.rank < s) (sym settled.here) settled.ranked) here;
    }

    still_known : (i : Row) (g : G) → Has m Fs (WaitsAt m old n) i g → Known (row_system m (lines b)) (Has m Fs (SettledAt m new l (s + 1))) (Has m Fs (WaitsAt m new l)) i g
    still_known i g (p, r, at, is, grade) = from (ℕ_discrete p a)
      where
        from : Dec (p ≡ a) → Known (row_system m (lines b)) (Has m Fs (SettledAt m new l (s + 1))) (Has m Fs (WaitsAt m new l)) i g
        from (yes here) =
            let same : row_at m old a ≡ r = ap (row_at m old) (sym here) ∙ at.here in
            inl (x.grade, (a, x, x_new, sym x_row ∙ ap (row_of Fs) same ∙ is, refl), subst (λ y. T (m.noworse x.grade y)) (sym x_grade ∙ ap (λ z. z.grade) same ∙ grade) (itself x.grade))
        from (no ne) =
            let lt = at.within in
            let same : row_at m mid p ≡ r = st.others p ne ∙ at.here in
            let more = grown.more in
            known i g (p, omega arith, key_row Fs (row_at m new p) (row_at m mid p) (grown.keys p lt) ∙ ap (row_of Fs) same ∙ is, subst (λ y. T (m.noworse (row_at m new p).grade y)) (ap (λ z. z.grade) same ∙ grade) (grown.better p lt))

    brought : (i : Row) (g : G) → Has m Fs (WaitsAt m new l) i g → Has m Fs (WaitsAt m old n) i g ⊎ Brought (row_system m (lines b)) (Has m Fs (SettledAt m new l (s + 1))) (row_of Fs x) i g
    brought i g (p, r, at, is, grade) = from (grown.rightly p at.within)
      where
        from : ((p < n) × (row_at m new p ≡ row_at m mid p)) ⊎ Brings m Fs (lines b) mid (s + 1) n x (row_at m new p) → Has m Fs (WaitsAt m old n) i g ⊎ Brought (row_system m (lines b)) (Has m Fs (SettledAt m new l (s + 1))) (row_of Fs x) i g
        from (inl (lt, same)) =
            let e : row_at m mid p ≡ r = sym same ∙ at.here in
            inl (p, row_at m mid p, mid_waits p lt (ap (λ y. y.rank) e ∙ at.waits), ap (row_of Fs) e ∙ is, ap (λ y. y.grade) e ∙ grade)
        from (inr given) =
            let why = given.reasoned in
            inr (record {
              rule = why.rule;
              parts = why.parts;
              uses = given.fit;
              settled = joined_weaker (λ j h y. (y.0, y.1, grown.kept y.0 y.1 y.2, y.3, y.4)) (rests_joined m Fs (premises why.rule) (places (row_at m new p).reason) why.parts why.rests);
              concludes = why.concludes ∙ ap (row_of Fs) at.here ∙ is;
              graded = sym why.graded ∙ ap (λ y. y.grade) at.here ∙ grade;
            })

    -- ---- every rule that x is a premise of was tried
    abbrev HasNow : Row → G → Type 0
    HasNow = Has m Fs (SettledAt m new l (s + 1))

    starts_at : (o : OrderLine) (k F : ℕ) (u : State) (r : TableRow G) → Placed m Fs r → InForce F o.number.value → row_of Fs r ≡ row (head o.to.value F) (wagon k) u → (i : ℕ) × Starts m Fs o k r i × (get_or Fs i 0 ≡ F)
    starts_at o k F u r placed in_force is =
        let (i, from, lt, phase) = head_of Fs t.phases.different.apart r.from o.to.value F placed.0 (ap (λ y. y.from) is) in
        let label : wagon r.wagon ≡ wagon k = ap (λ y. y.by) is in
        let by : r.wagon ≡ k = cc in
        (i, record { from = from; by = by; within = lt; in_force = subst (λ F. InForce F o.number.value) (sym phase) in_force }, phase)

    goes_on : (k : ℕ) (f : State) (c : Label) (u v : State) (r y : TableRow G) → Placed m Fs r → Placed m Fs y → row_of Fs r ≡ row f c u → row_of Fs y ≡ row u (wagon k) v → Goes k r y
    goes_on k f c u v r y pr py is_r is_y =
        let label : wagon y.wagon ≡ wagon k = ap (λ z. z.by) is_y in
        let by : y.wagon ≡ k = cc in
        record { from = state_once Fs t.phases.different.apart y.from r.to py.0 pr.1 (ap (λ z. z.from) is_y ∙ sym (ap (λ z. z.to) is_r)); by = by }

    by_order : (o : OrderLine) (ws : Wagons) → TriedOrder m Fs o ws (SettledAt m mid n (s + 1)) x new l → (F : ℕ) (u : State) (g : G) → InForce F o.number.value
        → ChainWith m HasNow (row_of Fs x) (head o.to.value F) (map (λ k. k.value) (listed ws)) u g → Covers m Fs new l (order_row o F u) (m.join (m.priced o.toll) g)
    by_order o Zero tried F u g in_force chain = absurd chain
    by_order o (One k) tried F u g in_force (is_j, (p, r, at, is, grade)) =
        let same = is_last p r at (is_j ∙ sym is) in
        let (i, starts, phase) = starts_at o k.value F u x (placed_new x_new) in_force is_j in
        let grades : x.grade ≡ g = ap (λ y. y.grade) (sym same) ∙ grade in
        subst₂ (λ c h. Covers m Fs new l c (m.join (m.priced o.toll) h)) (ap₂ (order_row o) phase (ap (λ y. y.to) is_j)) grades (tried i starts)
    by_order o (Two k j) tried F u g in_force (v, gx, gy, (p, r, at, is, grade), second, joins) = from second
      where
        two : (r y : TableRow G) → Placed m Fs r → Placed m Fs y → row_of Fs r ≡ row (head o.to.value F) (wagon k.value) v → row_of Fs y ≡ row v (wagon j.value) u → r.grade ≡ gx → y.grade ≡ gy
            → ((i : ℕ) → Starts m Fs o k.value r i → Goes j.value r y → Covers m Fs new l (order_row o (get_or Fs i 0) (state_of Fs y.to)) (m.join (m.priced o.toll) (m.join r.grade y.grade)))
            → Covers m Fs new l (order_row o F u) (m.join (m.priced o.toll) g)
        two r y pr py is_r is_y er ey done =
            let (i, starts, phase) = starts_at o k.value F v r pr in_force is_r in
            subst₂ (λ c h. Covers m Fs new l c (m.join (m.priced o.toll) h)) (ap₂ (order_row o) phase (ap (λ z. z.to) is_y)) (ap₂ m.join er ey ∙ sym joins)
            (done i starts (goes_on j.value _ _ v u r y pr py is_r is_y))

        from : ((row_of Fs x ≡ row (head o.to.value F) (wagon k.value) v) × HasNow (row v (wagon j.value) u) gy) ⊎ ((row_of Fs x ≡ row v (wagon j.value) u) × HasNow (row v (wagon j.value) u) gy)
            → Covers m Fs new l (order_row o F u) (m.join (m.priced o.toll) g)
        from (inl (is_j, (q, y, there, is_y, grade_y))) =
            let same = is_last p r at (is_j ∙ sym is) in
            two x y (placed_new x_new) (placed_new there) is_j is_y (ap (λ z. z.grade) (sym same) ∙ grade) grade_y (tried q y (grown.back q y there)).0
        from (inr (is_j, (q, y, there, is_y, grade_y))) =
            let same = is_last q y there (is_j ∙ sym is_y) in
            two r x (placed_new at) (placed_new x_new) is is_j grade (ap (λ z. z.grade) (sym same) ∙ grade_y) (tried p r (grown.back p r at)).1

    by_notice : (c : NoticeLine) → ((i : ℕ) → i < length Fs → Noticed m Fs c x i → Covers m Fs new l (notice_row c (get_or Fs i 0) (wagon x.wagon) (state_of Fs x.to)) (m.join (m.priced c.toll) x.grade))
        → (F : ℕ) (d : Label) (u : State) (g : G) → Opened (lines b) F → Allows c F → row_of Fs x ≡ noticed_row c F d u → HasNow (row_of Fs x) g → Covers m Fs new l (notice_row c F d u) (m.join (m.priced c.toll) g)
    by_notice c tried F d u g is_open allows is_j (p, r, at, is, grade) =
        let same = is_last p r at (sym is) in
        let (i, lt, phase) = t.phases.all F is_open in
        let (j, from, low, then) = head_of Fs t.phases.different.apart x.from c.to.value (after c F) (placed_new x_new).0 (ap (λ y. y.from) is_j) in
        let noticed : Noticed m Fs c x i = record { j = j; from = from; within = lt; allows = subst (Allows c) (sym phase) allows; low = low; then = then ∙ ap (after c) (sym phase) } in
        let rows_same : notice_row c (get_or Fs i 0) (wagon x.wagon) (state_of Fs x.to) ≡ notice_row c F d u = λ z. notice_row c (phase z) (is_j z).by (is_j z).to in
        subst₂ (λ y h. Covers m Fs new l y (m.join (m.priced c.toll) h)) rows_same (ap (λ y. y.grade) (sym same) ∙ grade) (tried i lt noticed)

    gives : GivesWith m (lines b) HasNow (row_of Fs x) (Known (row_system m (lines b)) HasNow (Has m Fs (WaitsAt m new l)))
    gives = record {
      orders = λ o F u g stands is_open in_force chain.
          let fits = o.number.fits in
          known _ _ (by_order o o.wagons ((went.done o.number.value (omega arith)).orders o ((order_stands b o).0 stands)) F u g in_force chain);
      notices = λ c F d u g stands is_open allows is_j has.
          let fits = c.number.fits in
          known _ _ (by_notice c ((went.done c.number.value (omega arith)).notices c ((notice_stands b c).0 stands)) F d u g is_open allows is_j has);
    }

    settling : Settling (row_system m (lines b)) (Has m Fs (SettledAt m old n s)) (Has m Fs (WaitsAt m old n)) HasNow (Has m Fs (WaitsAt m new l)) (row_of Fs x) x.grade
    settling = record {
      kept = λ i g h. (h.0, h.1, old_new h.0 h.1 h.2, h.3, h.4);
      added = (a, x, x_new, refl, refl);
      nothing_else = λ i g h. ⊎_elim (λ e. inr (sym h.3 ∙ ap (row_of Fs) e.1, sym h.4 ∙ ap (λ y. y.grade) e.1)) (λ before. inl (h.0, h.1, before, h.3, h.4)) (mid_old h.0 h.1 (grown.back h.0 h.1 h.2));
      still_known = still_known;
      brought = brought;
      tried = λ r g among all. all_brought lawful (row_of Fs x) gives r g among all;
    }

    -- ---- reasons
    older : (limit : ℕ) → limit ≤ s → (p : ℕ) (r : TableRow G) → SettledAt m old n limit p r → SettledAt m new l limit p r
    older limit le p r h =
        let low = h.ranked in
        let now = old_new p r (record { within = h.within; here = h.here; ranked = omega arith }) in
        record { within = now.within; here = now.here; ranked = h.ranked }

    settled_reasons : (p : ℕ) (r : TableRow G) → SettledAt m new l (s + 1) p r → Reasoned m (lines b) Fs (SettledAt m new l r.rank) r
    settled_reasons p r h = from (mid_old p r (grown.back p r h))
      where
        again : Reasoned m (lines b) Fs (SettledAt m old n s) (row_at m old a) → Reasoned m (lines b) Fs (SettledAt m old n s) (ranked_as (row_at m old a) s)
        again why = record { rule = why.rule; named = why.named; concludes = why.concludes; parts = why.parts; rests = why.rests; graded = why.graded }

        last_reason : Reasoned m (lines b) Fs (SettledAt m new l x.rank) x
        last_reason =
            let why = again (w.waiting_reasons a (row_at m old a) (record { within = st.within; here = refl; waits = st.waits })) in
            reasoned_on (λ q y at. subst (λ c. SettledAt m new l c q y) (sym x_rank) (older s (omega arith) q y at)) (subst (Reasoned m (lines b) Fs (SettledAt m old n s)) (sym is_x) why)

        from : ((p ≡ a) × (r ≡ x)) ⊎ SettledAt m old n s p r → Reasoned m (lines b) Fs (SettledAt m new l r.rank) r
        from (inl (here, is)) = subst (λ y. Reasoned m (lines b) Fs (SettledAt m new l y.rank) y) (sym is) last_reason
        from (inr before) = let low = before.ranked in reasoned_on (older r.rank (omega arith)) (w.settled_reasons p r before)

    waiting_reasons : (p : ℕ) (r : TableRow G) → WaitsAt m new l p r → Reasoned m (lines b) Fs (SettledAt m new l (s + 1)) r
    waiting_reasons p r h = from (grown.rightly p h.within)
      where
        from : ((p < n) × (row_at m new p ≡ row_at m mid p)) ⊎ Brings m Fs (lines b) mid (s + 1) n x (row_at m new p) → Reasoned m (lines b) Fs (SettledAt m new l (s + 1)) r
        from (inl (lt, same)) =
            let e : row_at m mid p ≡ r = sym same ∙ h.here in
            subst (Reasoned m (lines b) Fs (SettledAt m new l (s + 1))) e (reasoned_on old_new (w.waiting_reasons p (row_at m mid p) (mid_waits p lt (ap (λ y. y.rank) e ∙ h.waits))))
        from (inr given) = subst (Reasoned m (lines b) Fs (SettledAt m new l (s + 1))) h.here (reasoned_on grown.kept given.reasoned)

    -- ---- ranks go by grades
    climbing : (p q : ℕ) (r y : TableRow G) → SettledAt m new l (s + 1) p r → SettledAt m new l (s + 1) q y → r.rank < y.rank → T (m.noworse r.grade y.grade)
    climbing p q r y at_p at_q less = from (mid_old p r (grown.back p r at_p)) (mid_old q y (grown.back q y at_q))
      where
        from : ((p ≡ a) × (r ≡ x)) ⊎ SettledAt m old n s p r → ((q ≡ a) × (y ≡ x)) ⊎ SettledAt m old n s q y → T (m.noworse r.grade y.grade)
        from before (inl (here, is)) = subst (λ z. T (m.noworse r.grade z.grade)) (sym is) (last_now.climbing p r (grown.back p r at_p))
        from (inl (here, is)) (inr later) = let low = later.ranked in let rank = ap (λ z. z.rank) is in let e = x_rank in absurd (omega arith)
        from (inr before) (inr later) = w.climbing p q r y before later less

    pub turn_keeps : Worked m Fs (lines b) new (s + 1) l rest
    turn_keeps = record {
      table = t;
      settled_reasons = settled_reasons;
      waiting_reasons = waiting_reasons;
      climbing = climbing;
      invariant = settling_keeps (laws_of lawful) w.invariant next settling;
    }

  -- a turn, as its two calls leave it
  pub turn_ends : (new : List (TableRow G)) (l : ℕ) (after : List (Waiting G)) (r : Option (Unit {0}))
      → Ends m Fs (lines b) (s + 1) (Brings m Fs (lines b) mid (s + 1) n x) mid n middle new l after (λ rows l. (k : ℕ) → k < 64 → TriedRule m Fs (get_or b.rules k None) (SettledAt m mid n (s + 1)) x rows l) r → Turned m Fs (lines b) old queue (s + 1) new l after r
  turn_ends new l after None full = subst (Outnumber (Derivation (row_rules (lines b)))) (ap₂ min st.rows_long st.queue_long) (turn_full full)
  turn_ends new l after (Some done) went = (turn_keeps went, went.rows_long ∙ st.rows_long, went.queue_long ∙ st.queue_long)
