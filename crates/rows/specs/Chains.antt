-- What the rules give from the rows of a table, in the words of whoever tries them one by one.
use Rattle.std.specs.Prelude.{◌≡◌, ℕ, ◌⊎◌, List, [], ◌∷◌}
use Rattle.grade.specs.declared.grade.Grade.{Ghosts}
use Rattle.text.specs.declared.line.OrderLine.{OrderLine}
use Rattle.text.specs.declared.line.NoticeLine.{NoticeLine}
use Rattle.text.specs.declared.line.WatchLine.{WatchLine}
use Rattle.text.specs.declared.line.LinkLine.{LinkLine}
use Rattle.text.specs.declared.line.Line.{Line}
use Rattle.text.specs.declared.line.Line.TheVariants.{Order, Notice, Watch, Link}
use Rattle.model.specs.Phases.{Stands, InForce, Allows, Opened}
use Rattle.model.specs.Moves.{laid_down}
use Rattle.rows.specs.Rows.{State, head, Label, wagon, Row, row, link_row, watch_row, order_row, notice_row, noticed_row}

module _ {G : Type 0} (m : Ghosts G) (Has : Row → G → Type 0) where
  -- Rows of the table lead from a state by the wagons to a state, and their grades join to g.
  -- By one wagon that is one row; by two, two rows with the state between them; and so on.
  abbrev pub Chain : State → List ℕ → State → G → Type 0
  Chain s [] t g = (s ≡ t) × (g ≡ m.best)
  Chain s (k ∷ []) t g = Has (row s (wagon k) t) g
  Chain s (k ∷ (l ∷ w)) t g = (u : State) × (x : G) × (y : G) × Has (row s (wagon k) u) x × Chain u (l ∷ w) t y × (g ≡ m.join x y)

  -- the same, where j is among the rows
  abbrev pub ChainWith : (j : Row) → State → List ℕ → State → G → Type 0
  ChainWith j s [] t g = ⊥
  ChainWith j s (k ∷ []) t g = (j ≡ row s (wagon k) t) × Has (row s (wagon k) t) g
  ChainWith j s (k ∷ (l ∷ w)) t g =
      (u : State) × (x : G) × (y : G) × Has (row s (wagon k) u) x × (((j ≡ row s (wagon k) u) × Chain u (l ∷ w) t y) ⊎ ChainWith j u (l ∷ w) t y) × (g ≡ m.join x y)

-- P has what the rules without premises give: the rows of link lines, of watch lines, and of orders that lay nothing down.
pub record GivesAxioms {G : Type 0} (m : Ghosts G) (ls : List Line) (P : Row → G → Type 0) : Type 0 where
  pub links : (l : LinkLine) → Stands ls (Link l) → P (link_row l) m.best
  pub watches : (v : WatchLine) (F : ℕ) → Stands ls (Watch v) → Opened ls F → P (watch_row v F) m.best
  pub orders : (o : OrderLine) (F : ℕ) → Stands ls (Order o) → Opened ls F → InForce F o.number.value → laid_down o ≡ [] → P (order_row o F (head o.to.value F)) (m.priced o.toll)

-- P has what the rules give from rows of the table, j among them: by an order whose wagons lead through j, and by a notice whose head after it j starts from.
pub record GivesWith {G : Type 0} (m : Ghosts G) (ls : List Line) (Has : Row → G → Type 0) (j : Row) (P : Row → G → Type 0) : Type 0 where
  pub orders : (o : OrderLine) (F : ℕ) (s : State) (g : G) → Stands ls (Order o) → Opened ls F → InForce F o.number.value → ChainWith m Has j (head o.to.value F) (laid_down o) s g
      → P (order_row o F s) (m.join (m.priced o.toll) g)
  pub notices : (n : NoticeLine) (F : ℕ) (l : Label) (s : State) (g : G) → Stands ls (Notice n) → Opened ls F → Allows n F → j ≡ noticed_row n F l s → Has j g
      → P (notice_row n F l s) (m.join (m.priced n.toll) g)
