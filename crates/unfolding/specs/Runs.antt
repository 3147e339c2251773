-- Rows, by their reasons, stand for the moves of a run.
use Rattle.std.specs.Prelude.{◌≡◌, ℕ, ◌<◌, List, [], ◌∷◌, ◌++◌}
use Rattle.std.specs.List.{AllByRecursion}
use Rattle.grade.specs.declared.grade.Grade.{Ghosts}
use Rattle.text.specs.declared.line.OrderLine.{OrderLine}
use Rattle.text.specs.declared.line.NoticeLine.{NoticeLine}
use Rattle.text.specs.declared.line.Wagons.{Wagons}
use Rattle.text.specs.declared.line.Wagons.TheVariants.{Zero, One, Two}
use Rattle.text.specs.declared.line.Line.{Line}
use Rattle.text.specs.declared.line.Line.TheVariants.{Order, Notice}
use Rattle.model.specs.Phases.{Stands, InForce, Allows, after}
use Rattle.model.specs.Moves.{Position, at, Move, order_move, notice_move, laid_down}
use Rattle.model.specs.Watch.{Watched}
use Rattle.rowtable.specs.declared.row.Reason.TheVariants as reason
use Rattle.rowtable.specs.declared.row.TableRow.{TableRow}
use Rattle.rowtable.specs.Tables.{row_at}

-- the places of the rows that an order's row rests on: one for each wagon that it sets down
abbrev pub parts : Wagons → ℕ → ℕ → List ℕ
parts Zero a b = []
parts (One x) a b = a ∷ []
parts (Two x y) a b = a ∷ b ∷ []

module _ {G : Type 0} (m : Ghosts G) (rows : List (TableRow G)) (n : ℕ) where
  -- row a is one of the first n, and of smaller rank than row k
  abbrev pub Earlier : ℕ → ℕ → Type 0
  Earlier k a = (a < n) × ((row_at m rows a).rank < (row_at m rows k).rank)

  -- row k is one of the first n, and there by a watch line or a link line
  abbrev pub LineRow : ℕ → Type 0
  LineRow k = (k < n) × ((row_at m rows k).reason ≡ reason.Line)

module _ {G : Type 0} (m : Ghosts G) (ls : List Line) (rows : List (TableRow G)) (n : ℕ) where
  -- `StandsFor x ks ms`: the rows at the places ks, the top first, stand for the moves ms of a run from x into the watch.
  -- Rows of lines stand for none. A row by an order or a notice stands for its move and then for what the rows that it rests on stand for, in its place.
  pub data StandsFor : Position → List ℕ → List Move → Type 0 where
    arrived : {x : Position} {ks : List ℕ} → Watched ls x → AllByRecursion (LineRow m rows n) ks → StandsFor x ks []
    on_order : {o : OrderLine} {F : ℕ} {w : List ℕ} {k : ℕ} {ks : List ℕ} {a b : ℕ} {ms : List Move} → Stands ls (Order o) → InForce F o.number.value → k < n
        → (row_at m rows k).reason ≡ reason.Order o.number.value a b → AllByRecursion (Earlier m rows n k) (parts o.wagons a b)
        → StandsFor (at o.to.value F (laid_down o ++ w)) (parts o.wagons a b ++ ks) ms → StandsFor (at o.mode.value F (o.wagon.value ∷ w)) (k ∷ ks) (order_move o ∷ ms)
    on_notice : {v : NoticeLine} {F x : ℕ} {w : List ℕ} {k : ℕ} {ks : List ℕ} {a : ℕ} {ms : List Move} → Stands ls (Notice v) → Allows v F → k < n
        → (row_at m rows k).reason ≡ reason.Notice v.number.value a → Earlier m rows n k a
        → StandsFor (at v.to.value (after v F) (x ∷ w)) (a ∷ ks) ms → StandsFor (at v.mode.value F (x ∷ w)) (k ∷ ks) (notice_move v ∷ ms)
