-- What a settled row brings by one rule.
use Rattle.std.proofs.Common.{◌≡◌, ℕ, ◌<◌, ◌⊎◌, min, List, [], ◌∷◌, length, get_or, Some, None, Option, sym, refl, ap, ◌∙◌, subst, ap₂, inl, inr, arith}
use Rattle.grade.specs.declared.grade.Grade.{Ghosts}
use Rattle.grade.specs.declared.waiting.Waiting.{Waiting}
use Rattle.grade.specs.Lawful.{Lawful}
use Rattle.text.specs.declared.line.Line.{Line}
use Rattle.text.specs.declared.line.Line.TheVariants as line
use Rattle.text.specs.declared.line.Rule.{Rule as LineRule}
use Rattle.text.specs.declared.line.Rule.TheVariants as rule
use Rattle.text.specs.declared.line.OrderLine.{OrderLine}
use Rattle.text.specs.declared.line.NoticeLine.{NoticeLine}
use Rattle.text.specs.declared.line.Wagons.{Wagons}
use Rattle.text.specs.declared.line.Wagons.TheVariants.{Zero, One, Two}
use Rattle.model.specs.Phases.{Stands}
use Rattle.model.specs.Moves.{laid_down}
use Rattle.rows.specs.Rows.{State, head, Row, row, wagon, Path, stay, step, Rule, order_rule, notice_rule, premises, noticed_row}
use Rattle.rowtable.specs.declared.row.TableRow.{TableRow}
use Rattle.rowtable.specs.Tables.{state_of, row_of}
use Rattle.rowtable.specs.Reasons.{places, Rests, Reasoned, SettledAt}
use Rattle.saturation.specs.Work.{Covers, Placed, Grown, Table, Given, Went, Full, Ends, Later, Last, Brings, BringsBoth, Starts, Goes, Noticed, row_by_order, row_by_notice, TriedOrder, TriedNotice, TriedRule}
use Rattle.saturation.proofs.Growth.{ends_on, went_none, went_on, full_on, covers_later}

-- reasons speak only of what is At its place
module _ {G : Type 0} (m : Ghosts G) (Fs : List ℕ) {At At' : ℕ → TableRow G → Type 0} (on : (p : ℕ) (r : TableRow G) → At p r → At' p r) where
  pub rests_on : (is : List Row) (ps : List ℕ) (g : G) → Rests m Fs At is ps g → Rests m Fs At' is ps g
  rests_on [] [] g best = best
  rests_on [] (p ∷ ps) g (zero, rest) = (zero, rests_on [] ps g rest)
  rests_on (i ∷ is) [] g never = never
  rests_on (i ∷ is) (p ∷ ps) g (x, h, at, is_i, rest, joins) = (x, h, on p x at, is_i, rests_on is ps h rest, joins)

module _ {G : Type 0} {m : Ghosts G} {Fs : List ℕ} where
  module _ {ls : List Line} where
    pub reasoned_on : {At At' : ℕ → TableRow G → Type 0} → ((p : ℕ) (r : TableRow G) → At p r → At' p r) → {r : TableRow G} → Reasoned m ls Fs At r → Reasoned m ls Fs At' r
    reasoned_on on {r} why = record {
      rule = why.rule;
      named = why.named;
      concludes = why.concludes;
      parts = why.parts;
      rests = rests_on m Fs on (premises why.rule) (places r.reason) why.parts why.rests;
      graded = why.graded;
    }

    pub given_on : {At At' : ℕ → TableRow G → Type 0} {Fit Fit' : Rule ls → Type 0} → ((p : ℕ) (r : TableRow G) → At p r → At' p r) → ((r : Rule ls) → Fit r → Fit' r) → (r : TableRow G) → Given m Fs ls At Fit r → Given m Fs ls At' Fit' r
    unfolding reasoned_on
    given_on on fits r new = record { reasoned = reasoned_on on new.reasoned; fit = fits new.reasoned.rule new.fit; waits = new.waits; placed = new.placed }

    -- an offer of a row that is New
    pub offered : {s n : ℕ} {old : List (TableRow G)} {waited : List (Waiting G)} (New : TableRow G → Type 0) (t : Table m Fs ls old s n waited) (new : List (TableRow G)) (l : ℕ) (queue : List (Waiting G)) (given row : TableRow G) → given ≡ row → New row
        → (C : List (TableRow G) → ℕ → Type 0) (r : Option (Unit {0})) → (Covers m Fs new l (row_of Fs row) row.grade → C new l)
        → Ends m Fs ls s (λ x. x ≡ given) old n waited new l queue (λ rows l. Covers m Fs rows l (row_of Fs given) given.grade) r → Ends m Fs ls s New old n waited new l queue C r
    offered New t new l queue given row is fits C r f ends =
        ends_on (went_none t {New = New} {C = Unit {0}} tt) (λ x e. subst New (sym (e ∙ is)) fits) new l queue (λ rows l. Covers m Fs rows l (row_of Fs given) given.grade) C r
        (λ grown a covers. f (subst (λ x. Covers m Fs new l (row_of Fs x) x.grade) is covers)) ends

    -- one after others, in a loop
    pub offered_on : {s n k l : ℕ} {old mid new : List (TableRow G)} {waited q queue : List (Waiting G)} {New : TableRow G → Type 0} {A C : Type 0} (went : Went m Fs ls s New old n waited mid k q A) {given row : TableRow G} → given ≡ row → New row
        → (((i : Row) (g : G) → Covers m Fs mid k i g → Covers m Fs new l i g) → A → Covers m Fs new l (row_of Fs row) row.grade → C)
        → Went m Fs ls s (λ x. x ≡ given) mid k q new l queue (Covers m Fs new l (row_of Fs given) given.grade) → Went m Fs ls s New old n waited new l queue C
    offered_on {l = l} {new = new} {New = New} went {given} {row} is fits f two =
        went_on went (λ x e. subst New (sym (e ∙ is)) fits)
        (λ grown a covers. f (λ i g. covers_later i g went.table.lawful grown) a (subst (λ x. Covers m Fs new l (row_of Fs x) x.grade) is covers)) two

    pub offered_full : {s n k : ℕ} {old mid : List (TableRow G)} {waited q : List (Waiting G)} {New : TableRow G → Type 0} {A : Type 0} (went : Went m Fs ls s New old n waited mid k q A) {given row : TableRow G} → given ≡ row → New row
        → Full m Fs ls s (λ x. x ≡ given) mid k (min (length mid) (length q)) → Full m Fs ls s New old n (min (length old) (length waited))
    offered_full {New = New} went is fits full = full_on went (λ x e. subst New (sym (e ∙ is)) fits) full

    -- rows that rules give from settled rows
    module _ {rows : List (TableRow G)} {s n : ℕ} {queue : List (Waiting G)} (t : Table m Fs ls rows s n queue) where
      settled_placed : {p : ℕ} {r : TableRow G} → SettledAt m rows n s p r → Placed m Fs r
      settled_placed h = subst (Placed m Fs) h.here (t.placed _ h.within)

      module _ (o : OrderLine) (stands : Stands ls (line.Order o)) where
        pub brings_one : (k i a : ℕ) (x : TableRow G) → laid_down o ≡ k ∷ [] → Starts m Fs o k x i → SettledAt m rows n s a x → Brings m Fs ls rows s n x (row_by_order m o i x.to x.grade a 0)
        brings_one k i a x laid st here =
            let F = get_or Fs i 0 in
            let from : State = head o.to.value F in
            let is_x : row_of Fs x ≡ row from (wagon k) (state_of Fs x.to) = ap₂ (λ f w. row (state_of Fs f) (wagon w) (state_of Fs x.to)) st.from st.by in
            let path : Path from (k ∷ []) (row_of Fs x ∷ []) (state_of Fs x.to) = subst (λ j. Path from (k ∷ []) (j ∷ []) (state_of Fs x.to)) (sym is_x) (step stay) in
            record {
              reasoned = record {
                rule = order_rule o F stands (t.phases.different.each i st.within) st.in_force (subst (λ w. Path from w (row_of Fs x ∷ []) (state_of Fs x.to)) (sym laid) path);
                named = refl;
                concludes = refl;
                parts = x.grade;
                rests = (x, m.best, here, refl, (refl, refl), sym (t.lawful.unitr x.grade));
                graded = refl;
              };
              fit = inl refl;
              waits = refl;
              placed = ((o.mode.fits, st.within), (settled_placed here).1);
            }

        pub brings_two : (k l i a b : ℕ) (x y : TableRow G) → laid_down o ≡ k ∷ (l ∷ []) → Starts m Fs o k x i → Goes l x y → SettledAt m rows n s a x → SettledAt m rows n s b y
            → BringsBoth m Fs ls rows s n x y (row_by_order m o i y.to (m.join x.grade y.grade) a b)
        brings_two k l i a b x y laid st go here there =
            let F = get_or Fs i 0 in
            let from : State = head o.to.value F in
            let is_x : row_of Fs x ≡ row from (wagon k) (state_of Fs x.to) = ap₂ (λ f w. row (state_of Fs f) (wagon w) (state_of Fs x.to)) st.from st.by in
            let is_y : row_of Fs y ≡ row (state_of Fs x.to) (wagon l) (state_of Fs y.to) = ap₂ (λ f w. row (state_of Fs f) (wagon w) (state_of Fs y.to)) go.from go.by in
            let rest : Path (state_of Fs x.to) (l ∷ []) (row_of Fs y ∷ []) (state_of Fs y.to) = subst (λ j. Path (state_of Fs x.to) (l ∷ []) (j ∷ []) (state_of Fs y.to)) (sym is_y) (step stay) in
            let path : Path from (k ∷ (l ∷ [])) (row_of Fs x ∷ (row_of Fs y ∷ [])) (state_of Fs y.to) = subst (λ j. Path from (k ∷ (l ∷ [])) (j ∷ (row_of Fs y ∷ [])) (state_of Fs y.to)) (sym is_x) (step rest) in
            record {
              reasoned = record {
                rule = order_rule o F stands (t.phases.different.each i st.within) st.in_force (subst (λ w. Path from w (row_of Fs x ∷ (row_of Fs y ∷ [])) (state_of Fs y.to)) (sym laid) path);
                named = refl;
                concludes = refl;
                parts = m.join x.grade y.grade;
                rests = (x, y.grade, here, refl, (y, m.best, there, refl, refl, sym (t.lawful.unitr y.grade)), refl);
                graded = refl;
              };
              fit = (inl refl, inr (inl refl));
              waits = refl;
              placed = ((o.mode.fits, st.within), (settled_placed there).1);
            }

      pub brings_notice : (c : NoticeLine) → Stands ls (line.Notice c) → (i a : ℕ) (x : TableRow G) → Noticed m Fs c x i → SettledAt m rows n s a x → Brings m Fs ls rows s n x (row_by_notice m c i x a)
      brings_notice c stands i a x ntc here =
          let F = get_or Fs i 0 in
          let is_x : row_of Fs x ≡ noticed_row c F (wagon x.wagon) (state_of Fs x.to) =
          ap (λ f. row (state_of Fs f) (wagon x.wagon) (state_of Fs x.to)) ntc.from ∙ ap (λ F. row (head c.to.value F) (wagon x.wagon) (state_of Fs x.to)) ntc.then in
          record {
            reasoned = record {
              rule = notice_rule c F (wagon x.wagon) (state_of Fs x.to) stands (t.phases.different.each i ntc.within) ntc.allows;
              named = refl;
              concludes = refl;
              parts = x.grade;
              rests = (x, m.best, here, is_x, refl, sym (t.lawful.unitr x.grade));
              graded = refl;
            };
            fit = inl is_x;
            waits = refl;
            placed = ((c.mode.fits, ntc.within), (settled_placed here).1);
          }

      -- they are no better than what is settled
      pub later_one : {a : ℕ} {x : TableRow G} (toll : G) → Last m Fs ls rows s n a x → Later m Fs ls rows s n (m.join toll x.grade)
      later_one {x = x} toll last p r h = t.lawful.transitive _ _ _ (last.climbing p r h) (t.lawful.growsr toll x.grade)

      pub later_two : {a b : ℕ} {x y : TableRow G} (toll : G) → Last m Fs ls rows s n a x ⊎ Last m Fs ls rows s n b y → Later m Fs ls rows s n (m.join toll (m.join x.grade y.grade))
      later_two {x = x} {y = y} toll (inl last) p r h =
          t.lawful.transitive _ _ _ (last.climbing p r h) (t.lawful.transitive _ _ _ (t.lawful.growsl x.grade y.grade) (t.lawful.growsr toll (m.join x.grade y.grade)))
      later_two {x = x} {y = y} toll (inr last) p r h =
          t.lawful.transitive _ _ _ (last.climbing p r h) (t.lawful.transitive _ _ _ (t.lawful.growsr x.grade y.grade) (t.lawful.growsr toll (m.join x.grade y.grade)))

    -- what x brings from rows as they are now it brings from those at the start
    pub brings_back : {s n k : ℕ} {New : TableRow G → Type 0} {old mid : List (TableRow G)} (x : TableRow G) → Grown m Fs s New old n mid k → (r : TableRow G) → Brings m Fs ls mid s k x r → Brings m Fs ls old s n x r
    brings_back x grown = given_on grown.back (λ r f. f)

    -- the row settled last stays so
    pub last_on : {s n k a : ℕ} {New : TableRow G → Type 0} {old mid : List (TableRow G)} {x : TableRow G} → Grown m Fs s New old n mid k → Last m Fs ls old s n a x → Last m Fs ls mid s k a x
    last_on {a = a} {x = x} grown last = record { here = grown.kept a x last.here; climbing = λ p r h. last.climbing p r (grown.back p r h) }

-- a row starts in one phase
module _ {G : Type 0} {m : Ghosts G} {Fs : List ℕ} where
  pub starts_once : {o : OrderLine} {k i j : ℕ} {x : TableRow G} → Starts m Fs o k x i → Starts m Fs o k x j → i ≡ j
  starts_once p q = let a = p.from in let b = q.from in cc

-- what was tried once stays so, and trying it on what is settled now is trying it on what was settled at the start
module _ {G : Type 0} (m : Ghosts G) (Fs : List ℕ) (x : TableRow G) where
  module _ {s : ℕ} {New : TableRow G → Type 0} {mid new : List (TableRow G)} {k n : ℕ} (lawful : Lawful m) (grown : Grown m Fs s New mid k new n) where
    pub order_later : (At : ℕ → TableRow G → Type 0) (o : OrderLine) (w : Wagons) → TriedOrder m Fs o w At x mid k → TriedOrder m Fs o w At x new n
    order_later At o Zero tried = tt
    order_later At o (One w) tried = λ i st. covers_later _ _ lawful grown (tried i st)
    order_later At o (Two v w) tried = λ p y at. ((λ i st go. covers_later _ _ lawful grown ((tried p y at).0 i st go)), (λ i st go. covers_later _ _ lawful grown ((tried p y at).1 i st go)))

    pub rule_later : (f : Option LineRule) (At : ℕ → TableRow G → Type 0) → TriedRule m Fs f At x mid k → TriedRule m Fs f At x new n
    rule_later f At tried = record {
      orders = λ o e. order_later At o o.wagons (tried.orders o e);
      notices = λ c e i h ntc. covers_later _ _ lawful grown (tried.notices c e i h ntc);
    }

  module _ {At At' : ℕ → TableRow G → Type 0} (on : (p : ℕ) (r : TableRow G) → At' p r → At p r) (rows : List (TableRow G)) (n : ℕ) where
    pub order_from : (o : OrderLine) (w : Wagons) → TriedOrder m Fs o w At x rows n → TriedOrder m Fs o w At' x rows n
    order_from o Zero tried = tt
    order_from o (One w) tried = tried
    order_from o (Two v w) tried = λ p y at. tried p y (on p y at)

    pub rule_from : (f : Option LineRule) → TriedRule m Fs f At x rows n → TriedRule m Fs f At' x rows n
    rule_from f tried = record { orders = λ o e. order_from o o.wagons (tried.orders o e); notices = tried.notices }

  -- it is one rule that is tried
  module _ (f : Option LineRule) (At : ℕ → TableRow G → Type 0) (rows : List (TableRow G)) (n : ℕ) where
    pub rule_none : f ≡ None → TriedRule m Fs f At x rows n
    rule_none e = record {
      orders = λ o is. let z : ◌≡◌ {A = ℕ} 0 1 = cc in absurd (omega arith);
      notices = λ c is. let z : ◌≡◌ {A = ℕ} 0 1 = cc in absurd (omega arith);
    }

    pub rule_order : (o : OrderLine) → f ≡ Some (rule.Order o) → TriedOrder m Fs o o.wagons At x rows n → TriedRule m Fs f At x rows n
    rule_order o e tried = record {
      orders = λ c is. let same : o ≡ c = cc in subst (λ z. TriedOrder m Fs z z.wagons At x rows n) same tried;
      notices = λ c is. let z : ◌≡◌ {A = ℕ} 0 1 = cc in absurd (omega arith);
    }

    pub rule_notice : (c : NoticeLine) → f ≡ Some (rule.Notice c) → ((i : ℕ) → i < length Fs → TriedNotice m Fs c x i rows n) → TriedRule m Fs f At x rows n
    rule_notice c e tried = record {
      orders = λ o is. let z : ◌≡◌ {A = ℕ} 0 1 = cc in absurd (omega arith);
      notices = λ d is. let same : c ≡ d = cc in subst (λ z. (i : ℕ) → i < length Fs → TriedNotice m Fs z x i rows n) same tried;
    }
