-- The rules one by one, for whoever saturates: which axioms there are, what a row brings, and that it does.
use Rattle.std.proofs.Common.{◌≡◌, ℕ, List, [], ◌∷◌, sym, refl, subst, inl, inr, arith}
use Rattle.grade.specs.declared.grade.Grade.{Ghosts}
use Rattle.grade.specs.Lawful.{Lawful}
use Rattle.deduction.specs.Lists.{In}
use Rattle.deduction.specs.Derivations.{Joined, joined_none, joined_more}
use Rattle.deduction.specs.Saturation.{Brought}
use Rattle.text.specs.declared.line.OrderLine.{OrderLine}
use Rattle.text.specs.declared.line.NoticeLine.{NoticeLine}
use Rattle.text.specs.declared.line.Line.{Line}
use Rattle.text.specs.declared.line.Line.TheVariants.{Order, Notice}
use Rattle.model.specs.Phases.{Stands, InForce, Allows, Opened}
use Rattle.model.specs.Moves.{laid_down}
use Rattle.rows.specs.Rows.{State, head, Label, wagon, Row, row, Path, stay, step, order_row, notice_row, noticed_row, Rule, link_rule, watch_rule, order_rule, notice_rule, premises, conclusion}
use Rattle.rows.specs.Ways.{grading, rule_grade, row_system}
use Rattle.rows.specs.Chains.{Chain, ChainWith, GivesAxioms, GivesWith}

-- rows of a table on a path, with their grades joined
pub record Linked {G : Type 0} (m : Ghosts G) (Has : Row → G → Type 0) (s : State) (w : List ℕ) (t : State) (g : G) : Type 0 where
  pub rows : List Row
  pub path : Path s w rows t
  pub joined : Joined (grading m) Has rows g

-- Chains are paths with joined grades.
module _ {G : Type 0} {m : Ghosts G} (lawful : Lawful m) {Has : Row → G → Type 0} where
  -- one row, and one row before others
  abbrev one_row : {s t : State} {k : ℕ} {g : G} → Has (row s (wagon k) t) g → Linked m Has s (k ∷ []) t g
  one_row {s} {t} {k} {g} has = record {
    rows = row s (wagon k) t ∷ [];
    path = step stay;
    joined = subst (Joined (grading m) Has (row s (wagon k) t ∷ [])) (lawful.unitr g) (joined_more has joined_none);
  }

  abbrev row_before : {s u t : State} {k : ℕ} {w : List ℕ} {x y g : G} → Has (row s (wagon k) u) x → Linked m Has u w t y → g ≡ m.join x y → Linked m Has s (k ∷ w) t g
  row_before {s} {u} {k = k} has rest joins = record {
    rows = row s (wagon k) u ∷ rest.rows;
    path = step rest.path;
    joined = subst (Joined (grading m) Has (row s (wagon k) u ∷ rest.rows)) (sym joins) (joined_more has rest.joined);
  }

  pub chain_linked : (w : List ℕ) {s t : State} {g : G} → Chain m Has s w t g → Linked m Has s w t g
  chain_linked [] {s = s} {g = g} (here, is_best) =
      subst (λ t. Linked m Has s [] t g) here (subst (Linked m Has s [] s) (sym is_best) (record { rows = []; path = stay; joined = joined_none }))
  chain_linked (k ∷ []) has = one_row has
  chain_linked (k ∷ (l ∷ w)) (u, x, y, has, rest, joins) = row_before has (chain_linked (l ∷ w) rest) joins

  -- .. with j among the rows, too
  pub with_linked : (j : Row) (w : List ℕ) {s t : State} {g : G} → ChainWith m Has j s w t g → (linked : Linked m Has s w t g) × In j linked.rows
  with_linked j [] never = absurd never
  with_linked j (k ∷ []) (is_j, has) = (one_row has, inl is_j)
  with_linked j (k ∷ (l ∷ w)) (u, x, y, has, inl (is_j, rest), joins) = (row_before has (chain_linked (l ∷ w) rest) joins, inl is_j)
  with_linked j (k ∷ (l ∷ w)) (u, x, y, has, inr rest, joins) = let (linked, among) = with_linked j (l ∷ w) rest in (row_before has linked joins, inr among)

  pub linked_chain : {s t : State} {w : List ℕ} {is : List Row} {g : G} → Path s w is t → Joined (grading m) Has is g → Chain m Has s w t g
  linked_chain stay joined_none = (refl, refl)
  linked_chain {s} {t} (step {k = k} stay) (joined_more {g = x} has joined_none) = subst (Has (row s (wagon k) t)) (sym (lawful.unitr x)) has
  linked_chain (step {t = u} (step p)) (joined_more {g = x} {h = y} has rest) = (u, x, y, has, linked_chain (step p) rest, refl)

  pub linked_with : (j : Row) {s t : State} {w : List ℕ} {is : List Row} {g : G} → Path s w is t → Joined (grading m) Has is g → In j is → ChainWith m Has j s w t g
  linked_with j stay joined_none among = absurd among
  linked_with j {s = s} {t = t} (step {k = k} stay) (joined_more {g = x} has joined_none) (inl is_j) = (is_j, subst (Has (row s (wagon k) t)) (sym (lawful.unitr x)) has)
  linked_with j (step stay) (joined_more has joined_none) (inr among) = absurd among
  linked_with j (step (step p)) (joined_more {g = x} {h = y} has rest) (inl is_j) = (_, x, y, has, inl (is_j, linked_chain (step p) rest), refl)
  linked_with j (step (step p)) (joined_more {g = x} {h = y} has rest) (inr among) = (_, x, y, has, inr (linked_with j (step p) rest among), refl)

-- Which axioms there are.

no_rows : {s t : State} {w : List ℕ} {is : List Row} → Path s w is t → is ≡ [] → (w ≡ []) × (s ≡ t)
no_rows stay empty = (refl, refl)
no_rows (step p) empty = let never : ◌≡◌ {A = ℕ} 0 1 = cc in absurd (omega arith)

module _ {G : Type 0} (m : Ghosts G) {ls : List Line} where
  -- an order that lays nothing down is an axiom
  pub order_axiom : (o : OrderLine) (F : ℕ) → Stands ls (Order o) → Opened ls F → InForce F o.number.value → laid_down o ≡ []
      → (r : Rule ls) × (premises r ≡ []) × (conclusion r ≡ order_row o F (head o.to.value F)) × (rule_grade m r ≡ m.priced o.toll)
  order_axiom o F stands is_open in_force nothing =
      let here = head o.to.value F in
      (order_rule o F stands is_open in_force (subst (λ w. Path here w [] here) (sym nothing) stay), refl, refl, refl)

  -- what has those of lines and orders has all axioms
  pub all_axioms : {P : Row → G → Type 0} → GivesAxioms m ls P → (r : Rule ls) → premises r ≡ [] → P (conclusion r) (rule_grade m r)
  all_axioms gives (link_rule l stands) none = gives.links l stands
  all_axioms gives (watch_rule v F stands is_open) none = gives.watches v F stands is_open
  all_axioms {P} gives (order_rule o F stands is_open in_force path) none =
      let (nothing, here) = no_rows path none in
      subst (λ s. P (order_row o F s) (m.priced o.toll)) here (gives.orders o F stands is_open in_force nothing)
  all_axioms gives (notice_rule n F l s stands is_open allows) none = let never : ◌≡◌ {A = ℕ} 0 1 = cc in absurd (omega arith)

-- What a row brings.
module _ {G : Type 0} {m : Ghosts G} (lawful : Lawful m) {ls : List Line} {Has : Row → G → Type 0} (j : Row) where
  pub order_brought : (o : OrderLine) (F : ℕ) (s : State) (g : G) → Stands ls (Order o) → Opened ls F → InForce F o.number.value → ChainWith m Has j (head o.to.value F) (laid_down o) s g
      → Brought (row_system m ls) Has j (order_row o F s) (m.join (m.priced o.toll) g)
  order_brought o F s g stands is_open in_force chain =
      let (linked, among) = with_linked lawful j (laid_down o) chain in
      record { rule = order_rule o F stands is_open in_force linked.path; parts = g; uses = among; settled = linked.joined; concludes = refl; graded = refl }

  pub notice_brought : (n : NoticeLine) (F : ℕ) (l : Label) (s : State) (g : G) → Stands ls (Notice n) → Opened ls F → Allows n F → j ≡ noticed_row n F l s → Has j g
      → Brought (row_system m ls) Has j (notice_row n F l s) (m.join (m.priced n.toll) g)
  notice_brought n F l s g stands is_open allows is_j has = record {
    rule = notice_rule n F l s stands is_open allows;
    parts = g;
    uses = inl is_j;
    settled = subst (Joined (grading m) Has (noticed_row n F l s ∷ [])) (lawful.unitr g) (joined_more (subst (λ i. Has i g) is_j has) joined_none);
    concludes = refl;
    graded = refl;
  }

  -- what has those of orders and notices has all that a row brings
  pub all_brought : {P : Row → G → Type 0} → GivesWith m ls Has j P → (r : Rule ls) (g : G) → In j (premises r) → Joined (grading m) Has (premises r) g → P (conclusion r) (m.join (rule_grade m r) g)
  all_brought gives (link_rule l stands) g among all = absurd among
  all_brought gives (watch_rule v F stands is_open) g among all = absurd among
  all_brought gives (order_rule o F {s = s} stands is_open in_force path) g among all = gives.orders o F s g stands is_open in_force (linked_with lawful j path all among)
  all_brought {P} gives (notice_rule n F l s stands is_open allows) g (inl is_j) (joined_more {g = x} has joined_none) =
      subst (λ y. P (notice_row n F l s) (m.join (m.priced n.toll) y)) (sym (lawful.unitr x)) (gives.notices n F l s x stands is_open allows is_j (subst (λ i. Has i x) (sym is_j) has))
  all_brought gives (notice_rule n F l s stands is_open allows) g (inr among) all = absurd among
