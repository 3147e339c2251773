-- How one row after another makes a layer.
use Rattle.std.proofs.Common.{◌≡◌, ℕ, ◌+◌, ◌≤◌, Bool, true, false, cond, T, eqb, ◌⊎◌, List, length, get_or, replicate, set, Some, None, Option, sym, refl, ap, ◌∙◌, subst, inl, inr, ⊎_elim, arith, eq-eqb, eqb-true}
use Rattle.std.proofs.lemmas.List.{get_or-set_same, get_or-set_other, get_or-replicate}
use Rattle.std.proofs.lemmas.Bool.{cases_lt, cases_eq}
use Rattle.grade.specs.declared.grade.Grade.{Ghosts}
use Rattle.grade.specs.Lawful.{Lawful}
use Rattle.deduction.proofs.Grades.{either, no_worse_itself}
use Rattle.rows.proofs.Graded.{laws_of}
use Rattle.rowtable.specs.declared.row.TableState.{TableState}
use Rattle.rowtable.specs.declared.row.TableRow.{TableRow}
use Rattle.rowtable.specs.Tables.{row_at}
use Rattle.paths.specs.declared.cell.Cell.{Cell}
use Rattle.paths.specs.declared.cell.Cell.TheVariants.{Unknown, Ends, By as by_row}
use Rattle.paths.specs.Cells.{Step, Known, known, width, index, cell_at, Chosen, Says, Layer, Offers, Leads, bettered, brought_by, brought}
use Rattle.paths.proofs.Indexes.{index_below, same_index}

module _ {G : Type 0} (m : Ghosts G) where
  says_like : {P Q : Option ℕ → G → Type 0} (c : Known G) → ((o : Option ℕ) (v : G) → P o v → Q o v) → ((o : Option ℕ) (v : G) → Q o v → P o v) → Says m P c → Says m Q c
  says_like None to from none = λ o v q. none o v (from o v q)
  says_like (Some s) to from c = record { offered = to s.row s.grade c.offered; no_better = λ o v q. c.no_better o v (from o v q) }

  -- where nothing is known and no row was brought in
  none_first : (Fs : List ℕ) (rows : List (TableRow G)) (x : ℕ) (behind : List (Cell G)) (s : TableState) (o : Option ℕ) (v : G) → Offers m Fs rows 0 x behind s o v → ⊥
  none_first Fs rows x behind s None v h = h
  none_first Fs rows x behind s (Some k) v h = let none = h.below in omega arith

  pub layer_none : (Fs : List ℕ) (rows : List (TableRow G)) (x places : ℕ) (behind : List (Cell G)) → width Fs ≤ places → Layer m Fs (replicate places Unknown) (Offers m Fs rows 0 x behind)
  layer_none Fs rows x places behind wide s exists =
      let lt = index_below Fs s exists in
      subst (λ c. Says m (Offers m Fs rows 0 x behind s) (known c)) (sym (get_or-replicate places (index Fs s) Unknown Unknown (omega arith))) (none_first Fs rows x behind s)

module _ {G : Type 0} {m : Ghosts G} (lawful : Lawful m) where
  itself : (v : G) → T (m.noworse v v)
  itself = no_worse_itself (laws_of lawful)

  better_than : (u v : G) → m.noworse u v ≡ false → T (m.noworse v u)
  better_than u v e = ⊎_elim (λ t. absurd (subst T e t)) (λ t. t) (either (laws_of lawful) u v)

  -- a cell says what is offered when row k offered one grade more
  module _ {P Q : Option ℕ → G → Type 0} (k : ℕ) (v : G) (on : (o : Option ℕ) (u : G) → P o u → Q o u)
      (offered : Q (Some k) v) (back : (o : Option ℕ) (u : G) → Q o u → P o u ⊎ (u ≡ v)) where
    at_least : (y : G) → T (m.noworse y v) → ((o : Option ℕ) (u : G) → P o u → T (m.noworse y u)) → (o : Option ℕ) (u : G) → Q o u → T (m.noworse y u)
    at_least y low all o u q = ⊎_elim (all o u) (λ e. subst (λ z. T (m.noworse y z)) (sym e) low) (back o u q)

    choose_by : (c : Cell G) (t : Step G) → known c ≡ Some t → (b : Bool) → m.noworse t.grade v ≡ b → Chosen m P t
        → Says m Q (known (cond b c (by_row v k)))
    choose_by c t is true e best =
        let low = subst T (sym e) tt in
        subst (Says m Q) (sym is) (record { offered = on t.row t.grade best.offered; no_better = at_least t.grade low best.no_better })
    choose_by c t is false e best =
        let better = better_than t.grade v e in
        record { offered = offered; no_better = at_least v (itself v) (λ o y p. lawful.transitive v t.grade y better (best.no_better o y p)) }

    pub choose : (c : Cell G) → Says m P (known c) → Says m Q (known (bettered m c k v))
    choose Unknown none = record { offered = offered; no_better = at_least v (itself v) (λ o u p. absurd (none o u p)) }
    choose (Ends u) best = choose_by (Ends u) (record { grade = u; row = None }) refl (m.noworse u v) refl best
    choose (by_row u l) best = choose_by (by_row u l) (record { grade = u; row = Some l }) refl (m.noworse u v) refl best

  -- row k brought into a layer, into which the rows before it were brought
  module _ (Fs : List ℕ) (rows : List (TableRow G)) (x k : ℕ) (behind layer : List (Cell G)) (room : width Fs ≤ length layer) (leads : Leads Fs (row_at m rows k)) (told : Layer m Fs layer (Offers m Fs rows k x behind)) where
    abbrev r : TableRow G
    r = row_at m rows k

    abbrev By : ℕ → TableState → Option ℕ → G → Type 0
    By n = Offers m Fs rows n x behind

    on : (s : TableState) (o : Option ℕ) (u : G) → By k s o u → By (k + 1) s o u
    on s None u h = h
    on s (Some l) u h = let lt = h.below in record { below = omega arith; from = h.from; by = h.by; rest = h.rest; has = h.has; joins = h.joins }

    back : (s : TableState) (o : Option ℕ) (u : G) → By (k + 1) s o u → By k s o u ⊎ By (k + 1) s (Some k) u
    back s None u h = absurd h
    back s (Some l) u h =
        let lt = h.below in
        ⊎_elim
        (λ less. inl (record { below = less; from = h.from; by = h.by; rest = h.rest; has = h.has; joins = h.joins }))
        (λ le. let e : l ≡ k = omega arith in inr (subst (λ j. By (k + 1) s (Some j) u) e h))
        (cases_lt l k)

    -- a state for which row k offers nothing
    keep : (s : TableState) (c : Known G) → ((u : G) → By (k + 1) s (Some k) u → ⊥) → Says m (By k s) c → Says m (By (k + 1) s) c
    keep s c none says = says_like m c (on s) (λ o u h. ⊎_elim (λ p. p) (λ q. absurd (none u q)) (back s o u h)) says

    abbrev Brought : List (Cell G) → Type 0
    Brought new = Layer m Fs new (By (k + 1))

    module _ (by : r.wagon ≡ x) (rest : Step G) (has : cell_at behind (index Fs r.to) ≡ Some rest) where
      abbrev place : ℕ
      place = index Fs r.from

      abbrev joined : G
      joined = m.join r.grade rest.grade

      abbrev new_cell : Cell G
      new_cell = bettered m (get_or layer place Unknown) k joined

      abbrev after : List (Cell G)
      after = set layer place new_cell

      offers : By (k + 1) r.from (Some k) joined
      offers = record { below = omega arith; from = refl; by = by; rest = rest; has = has; joins = refl }

      only : (s : TableState) (u : G) → By (k + 1) s (Some k) u → u ≡ joined
      only s u h =
          let e : Some h.rest ≡ Some rest = sym h.has ∙ has in
          let f : h.rest ≡ rest = cc in
          sym h.joins ∙ ap (λ t. m.join r.grade t.grade) f

      chosen : Says m (By (k + 1) r.from) (cell_at after place)
      chosen =
          let lt = index_below Fs r.from leads.0 in
          subst (λ c. Says m (By (k + 1) r.from) (known c)) (sym (get_or-set_same layer place new_cell Unknown (omega arith)))
          (choose k joined (on r.from) offers (λ o u h. ⊎_elim inl (λ q. inr (only r.from u q)) (back r.from o u h)) (get_or layer place Unknown) (told r.from leads.0))

      taken : Brought after
      taken s exists =
          ⊎_elim
          (λ e. let is = same_index Fs r.from s leads.0 exists (sym e) in subst (λ t. Says m (By (k + 1) t) (cell_at after (index Fs t))) is chosen)
          (λ ne. subst (λ c. Says m (By (k + 1) s) (known c)) (sym (get_or-set_other layer place (index Fs s) new_cell Unknown ne))
          (keep s (cell_at layer (index Fs s)) (λ u h. ne (ap (index Fs) (sym h.from))) (told s exists)))
          (cases_eq (index Fs s) place)

    brought_cases : (b : Bool) (c : Known G) → eqb r.wagon x ≡ b → cell_at behind (index Fs r.to) ≡ c → Brought (cond b (brought_by m c layer (index Fs r.from) k r.grade) layer)
    brought_cases false c e has =
        λ s exists. keep s (cell_at layer (index Fs s)) (λ u h. let t : true ≡ false = sym (eq-eqb r.wagon x h.by) ∙ e in let never : ◌≡◌ {A = ℕ} 0 1 = cc in omega arith) (told s exists)
    brought_cases true None e has =
        λ s exists. keep s (cell_at layer (index Fs s)) (λ u h. let t : Some h.rest ≡ None = sym h.has ∙ has in let never : ◌≡◌ {A = ℕ} 0 1 = cc in omega arith) (told s exists)
    brought_cases true (Some rest) e has = taken (eqb-true r.wagon x e) rest has

    pub bring_step : Brought (brought m Fs behind layer x k r)
    bring_step = brought_cases (eqb r.wagon x) (cell_at behind (index Fs r.to)) refl refl
