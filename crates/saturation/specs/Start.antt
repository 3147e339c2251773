-- What waits at the start: the rows of lines, and of orders that lay nothing down.
use Rattle.std.specs.Prelude.{◌≡◌, ℕ, ◌<◌, List, [], length, slice_index, slice_index_or, Some, Option}
use Rattle.grade.specs.declared.grade.Grade.{Ghosts}
use Rattle.text.specs.declared.line.Rule.{Rule}
use Rattle.text.specs.declared.line.Rule.TheVariants as rule
use Rattle.text.specs.declared.line.OrderLine.{OrderLine}
use Rattle.model.specs.Phases.{InForce}
use Rattle.model.specs.Moves.{laid_down}
use Rattle.book.specs.declared.tables.Book.{Book}
use Rattle.book.specs.Tables.{blank_watch, blank_link}
use Rattle.rows.specs.Rows.{head, link_row, watch_row, order_row}
use Rattle.rowtable.specs.declared.row.TableRow.{TableRow}
use Rattle.saturation.specs.Work.{Covers}

module _ {G : Type 0} (m : Ghosts G) (Fs : List ℕ) where
  -- the row of the link line at place k is there
  abbrev pub LinkBegun : Book → ℕ → List (TableRow G) → ℕ → Type 0
  LinkBegun b k rows n = Covers m Fs rows n (link_row (slice_index_or b.links k blank_link)) m.best

  -- the row of the watch line at place k in the phase at place i is there
  abbrev pub WatchBegun : Book → ℕ → ℕ → List (TableRow G) → ℕ → Type 0
  WatchBegun b k i rows n = Covers m Fs rows n (watch_row (slice_index_or b.watches k blank_watch) (slice_index Fs i)) m.best

  -- the row of the order in the phase at place i is there, if it is one
  abbrev pub OrderBegun : OrderLine → ℕ → List (TableRow G) → ℕ → Type 0
  OrderBegun o i rows n = laid_down o ≡ [] → InForce (slice_index Fs i) o.number.value → Covers m Fs rows n (order_row o (slice_index Fs i) (head o.to.value (slice_index Fs i))) (m.priced o.toll)

  -- those of the rule are there, if it is an order
  abbrev pub RuleBegun : Option Rule → List (TableRow G) → ℕ → Type 0
  RuleBegun f rows n = (o : OrderLine) → f ≡ Some (rule.Order o) → (i : ℕ) → i < length Fs → OrderBegun o i rows n
