-- Rows: what one wagon can bring about, and the rules by which the rows of a book are derived.
use Rattle.std.specs.Prelude.{ℕ, List, [], ◌∷◌}
use Rattle.deduction.specs.Derivations.{Rules}
use Rattle.text.specs.declared.line.OrderLine.{OrderLine}
use Rattle.text.specs.declared.line.NoticeLine.{NoticeLine}
use Rattle.text.specs.declared.line.WatchLine.{WatchLine}
use Rattle.text.specs.declared.line.LinkLine.{LinkLine}
use Rattle.text.specs.declared.line.Line.{Line}
use Rattle.text.specs.declared.line.Line.TheVariants.{Order, Notice, Watch, Link}
use Rattle.model.specs.Phases.{Stands, InForce, Allows, after, Opened}
use Rattle.model.specs.Moves.{Move, order_move, notice_move, laid_down}

-- a head, that is a mode with a phase, or a node of the watch
pub data State : Type 0 where
  head : (mode phase : ℕ) → State
  node : ℕ → State

-- what a row goes by: a wagon
pub data Label : Type 0 where
  wagon : ℕ → Label

-- A row leads from a state by a label to a state: a transition of an automaton over wagons.
-- From a head it stands for moves that work the wagon off, or for the watch that reads it; from a node, for the watch that goes on reading.
pub record Row : Type 0 where
  pub from : State
  pub by : Label
  pub to : State

abbrev pub row : State → Label → State → Row
row s l t = record { from = s; by = l; to = t }

-- `Path s w is t`: the rows lead from s by the wagons, in order, to t. Each starts where the one before it ended.
pub data Path : State → List ℕ → List Row → State → Type 0 where
  stay : {s : State} → Path s [] [] s
  step : {s t u : State} {k : ℕ} {w : List ℕ} {is : List Row} → Path t w is u → Path s (k ∷ w) (row s (wagon k) t ∷ is) u

-- the rows that rules speak of: those of a link line and of a watch line in phase F, ..
abbrev pub link_row : LinkLine → Row
link_row l = row (node l.node.value) (wagon l.wagon.value) (node l.to.value)

abbrev pub watch_row : WatchLine → (F : ℕ) → Row
watch_row v F = row (head v.mode.value F) (wagon v.wagon.value) (node v.node.value)

-- .. that from the head before an order by the wagon that it takes, and those from the heads before and after a notice
abbrev pub order_row : OrderLine → (F : ℕ) → State → Row
order_row o F s = row (head o.mode.value F) (wagon o.wagon.value) s

abbrev pub notice_row : NoticeLine → (F : ℕ) → Label → State → Row
notice_row n F l s = row (head n.mode.value F) l s

abbrev pub noticed_row : NoticeLine → (F : ℕ) → Label → State → Row
noticed_row n F l s = row (head n.to.value (after n F)) l s

-- The rules for the rows of a book, each with every part named.
pub data Rule (ls : List Line) : Type 0 where
  -- a link line is a row
  link_rule : (l : LinkLine) → Stands ls (Link l) → Rule ls
  -- a watch line is a row from its mode in each opened phase
  watch_rule : (v : WatchLine) (F : ℕ) → Stands ls (Watch v) → Opened ls F → Rule ls
  -- an order in an opened phase that has its number: rows from the head after it, by the wagons that it lays down, make a row by the wagon that it takes
  order_rule : (o : OrderLine) (F : ℕ) {is : List Row} {s : State} → Stands ls (Order o) → Opened ls F → InForce F o.number.value → Path (head o.to.value F) (laid_down o) is s → Rule ls
  -- a notice in an opened phase that allows it: a row from the head after it makes a row from the head before it
  notice_rule : (n : NoticeLine) (F : ℕ) (l : Label) (s : State) → Stands ls (Notice n) → Opened ls F → Allows n F → Rule ls

module _ {ls : List Line} where
  -- the rows that a rule starts from, in order
  abbrev pub premises : Rule ls → List Row
  premises (link_rule l stands) = []
  premises (watch_rule v F stands is_open) = []
  premises (order_rule o F {is} stands is_open in_force path) = is
  premises (notice_rule n F l s stands is_open allows) = noticed_row n F l s ∷ []

  -- the row that it gives
  abbrev pub conclusion : Rule ls → Row
  conclusion (link_rule l stands) = link_row l
  conclusion (watch_rule v F stands is_open) = watch_row v F
  conclusion (order_rule o F {s = s} stands is_open in_force path) = order_row o F s
  conclusion (notice_rule n F l s stands is_open allows) = notice_row n F l s

  -- the move that it stands for, if it is one
  abbrev pub rule_moves : Rule ls → List Move
  rule_moves (link_rule l stands) = []
  rule_moves (watch_rule v F stands is_open) = []
  rule_moves (order_rule o F stands is_open in_force path) = order_move o ∷ []
  rule_moves (notice_rule n F l s stands is_open allows) = notice_move n ∷ []

-- the saturated rows of a book are those with a derivation by these rules
abbrev pub row_rules : (ls : List Line) → Rules Row (Rule ls)
row_rules ls = record { premises = premises; conclusion = conclusion }
