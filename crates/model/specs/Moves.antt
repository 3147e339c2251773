-- Positions, moves and runs: configurations and transitions of a self-modifying pushdown system.
use Rattle.std.specs.Prelude.{ℕ, List, [], ◌∷◌, ◌++◌, map}
use Rattle.grade.specs.declared.toll.Toll.{Toll}
use Rattle.text.specs.declared.line.OrderLine.{OrderLine}
use Rattle.text.specs.declared.line.NoticeLine.{NoticeLine}
use Rattle.text.specs.declared.line.Line.{Line}
use Rattle.text.specs.declared.line.Line.TheVariants.{Order, Notice}
use Rattle.text.specs.Forms.{listed}
use Rattle.model.specs.Phases.{Stands, InForce, Allows, after}

-- a mode, a phase and a lane of wagons, the top first
pub record Position : Type 0 where
  pub mode : ℕ
  pub phase : ℕ
  pub lane : List ℕ

abbrev pub at : ℕ → ℕ → List ℕ → Position
at p F w = record { mode = p; phase = F; lane = w }

-- what a run shows of a move: the number carried out, and its toll
pub record Move : Type 0 where
  pub number : ℕ
  pub toll : Toll

abbrev pub order_move : OrderLine → Move
order_move o = record { number = o.number.value; toll = o.toll }

abbrev pub notice_move : NoticeLine → Move
notice_move n = record { number = n.number.value; toll = n.toll }

-- the wagons that an order sets down, the first on top
abbrev pub laid_down : OrderLine → List ℕ
laid_down o = map (λ k. k.value) (listed o.wagons)

-- One move. An order asks for its number in the phase, its mode and its wagon on top, and sets its wagons in that one's place.
-- A notice asks for what it needs of the phase, its mode and a wagon, and changes the phase.
pub data Step (ls : List Line) : Position → Move → Position → Type 0 where
  by_order : {o : OrderLine} {F : ℕ} {w : List ℕ} → Stands ls (Order o) → InForce F o.number.value
      → Step ls (at o.mode.value F (o.wagon.value ∷ w)) (order_move o) (at o.to.value F (laid_down o ++ w))
  by_notice : {n : NoticeLine} {F k : ℕ} {w : List ℕ} → Stands ls (Notice n) → Allows n F
      → Step ls (at n.mode.value F (k ∷ w)) (notice_move n) (at n.to.value (after n F) (k ∷ w))

-- a finite list of moves, possibly empty
pub data Run (ls : List Line) : Position → List Move → Position → Type 0 where
  stay : {x : Position} → Run ls x [] x
  go : {x y z : Position} {m : Move} {ms : List Move} → Step ls x m y → Run ls y ms z → Run ls x (m ∷ ms) z
