-- Paths laid out over rows with right reasons, and the runs that they stand for.
use Rattle.std.specs.Prelude.{◌≡◌, ℕ, ◌<◌, List, [], ◌∷◌, ◌++◌}
use Rattle.std.specs.List.{AllByRecursion}
use Rattle.grade.specs.declared.grade.Grade.{Ghosts}
use Rattle.text.specs.declared.line.OrderLine.{OrderLine}
use Rattle.text.specs.declared.line.NoticeLine.{NoticeLine}
use Rattle.text.specs.declared.line.WatchLine.{WatchLine}
use Rattle.text.specs.declared.line.LinkLine.{LinkLine}
use Rattle.text.specs.declared.line.Wagons.{Wagons}
use Rattle.text.specs.declared.line.Wagons.TheVariants.{Zero, One, Two}
use Rattle.text.specs.declared.line.Line.{Line}
use Rattle.text.specs.declared.line.Line.TheVariants.{Order, Notice, Watch, Link}
use Rattle.model.specs.Phases.{Stands, InForce, Allows, after, Opened}
use Rattle.model.specs.Moves.{Position, at, Move, order_move, notice_move, laid_down}
use Rattle.model.specs.Watch.{Watched, Reaches}
use Rattle.model.specs.Grades.{moves_grade}
use Rattle.rows.specs.Rows.{State, head, wagon, row, link_row, watch_row, order_row, notice_row, noticed_row}
use Rattle.rowtable.specs.declared.row.Reason.{Reason}
use Rattle.rowtable.specs.declared.row.Reason.TheVariants as reason
use Rattle.rowtable.specs.declared.row.TableRow.{TableRow}
use Rattle.rowtable.specs.Tables.{row_of, row_at}
use Rattle.paths.specs.Layers.{PathOf}

-- the places of the rows that an order's row rests on: one for each wagon that it sets down
abbrev pub parts : Wagons → ℕ → ℕ → List ℕ
parts Zero a b = []
parts (One x) a b = a ∷ []
parts (Two x y) a b = a ∷ b ∷ []

module _ {G : Type 0} (m : Ghosts G) (ls : List Line) (Fs : List ℕ) (rows : List (TableRow G)) (n : ℕ) where
  -- row a is one of the first n, and of smaller rank than row k
  abbrev pub Earlier : ℕ → ℕ → Type 0
  Earlier k a = (a < n) × ((row_at m rows a).rank < (row_at m rows k).rank)

  -- row k is there by a watch line or a link line
  abbrev pub LineRow : ℕ → Type 0
  LineRow k = (k < n) × ((row_at m rows k).reason ≡ reason.Line)

  -- `StandsFor x ks ms`: the rows at the places ks, the top first, stand for the moves ms of a run from x into the watch.
  -- Rows of lines stand for none. A row by an order or a notice stands for its move and then what the rows that it rests on stand for, in its place.
  pub data StandsFor : Position → List ℕ → List Move → Type 0 where
    arrived : {x : Position} {ks : List ℕ} → Watched ls x → AllByRecursion LineRow ks → StandsFor x ks []
    on_order : {o : OrderLine} {F : ℕ} {w : List ℕ} {k : ℕ} {ks : List ℕ} {a b : ℕ} {ms : List Move} → Stands ls (Order o) → InForce F o.number.value → k < n
        → (row_at m rows k).reason ≡ reason.Order o.number.value a b → AllByRecursion (Earlier k) (parts o.wagons a b)
        → StandsFor (at o.to.value F (laid_down o ++ w)) (parts o.wagons a b ++ ks) ms → StandsFor (at o.mode.value F (o.wagon.value ∷ w)) (k ∷ ks) (order_move o ∷ ms)
    on_notice : {v : NoticeLine} {F x : ℕ} {w : List ℕ} {k : ℕ} {ks : List ℕ} {a : ℕ} {ms : List Move} → Stands ls (Notice v) → Allows v F → k < n
        → (row_at m rows k).reason ≡ reason.Notice v.number.value a → Earlier k a
        → StandsFor (at v.to.value (after v F) (x ∷ w)) (a ∷ ks) ms → StandsFor (at v.mode.value F (x ∷ w)) (k ∷ ks) (notice_move v ∷ ms)

  -- rows at these places lead from a state by the wagons to a state, with their grades joined in order
  pub data Chain : State → List ℕ → List ℕ → State → G → Type 0 where
    chain_none : {s : State} → Chain s [] [] s m.best
    chain_on : {s t u : State} {x : ℕ} {w : List ℕ} {k : ℕ} {ks : List ℕ} {rest : G} → row_of Fs (row_at m rows k) ≡ row s (wagon x) t
        → Chain t w ks u rest → Chain s (x ∷ w) (k ∷ ks) u (m.join (row_at m rows k).grade rest)

  -- A right reason of row k. A line: the row is a link line's, or a watch line's in an opened phase, and has the best grade; ..
  pub data RightLine (k : ℕ) : Type 0 where
    right_link : (l : LinkLine) → Stands ls (Link l) → row_of Fs (row_at m rows k) ≡ link_row l → (row_at m rows k).grade ≡ m.best → RightLine k
    right_watch : (v : WatchLine) (F : ℕ) → Stands ls (Watch v) → Opened ls F → row_of Fs (row_at m rows k) ≡ watch_row v F → (row_at m rows k).grade ≡ m.best → RightLine k

  -- .. an order that stands, in force in the row's phase: rows of smaller rank lead by its wagons from the head after it to where the row leads; ..
  pub record RightOrder (k number a b : ℕ) : Type 0 where
    pub line : OrderLine
    pub phase : ℕ
    pub to : State
    pub rest : G
    pub stands : Stands ls (Order line)
    pub numbered : line.number.value ≡ number
    pub in_force : InForce phase line.number.value
    pub is : row_of Fs (row_at m rows k) ≡ order_row line phase to
    pub earlier : AllByRecursion (Earlier k) (parts line.wagons a b)
    pub chain : Chain (head line.to.value phase) (laid_down line) (parts line.wagons a b) to rest
    pub graded : m.join (m.priced line.toll) rest ≡ (row_at m rows k).grade

  -- .. or a notice that stands and that the row's phase allows, and a row of smaller rank from the head after it.
  pub record RightNotice (k number a : ℕ) : Type 0 where
    pub line : NoticeLine
    pub phase : ℕ
    pub by : ℕ
    pub to : State
    pub stands : Stands ls (Notice line)
    pub numbered : line.number.value ≡ number
    pub allows : Allows line phase
    pub is : row_of Fs (row_at m rows k) ≡ notice_row line phase (wagon by) to
    pub earlier : Earlier k a
    pub rests : row_of Fs (row_at m rows a) ≡ noticed_row line phase (wagon by) to
    pub graded : m.join (m.priced line.toll) (row_at m rows a).grade ≡ (row_at m rows k).grade

  abbrev pub Right : ℕ → Reason → Type 0
  Right k reason.Line = RightLine k
  Right k (reason.Order number a b) = RightOrder k number a b
  Right k (reason.Notice number a) = RightNotice k number a

  -- each row's reason is right
  abbrev pub Reasoned : Type 0
  Reasoned = (k : ℕ) → k < n → Right k (row_at m rows k).reason

  -- A path laid out over rows with right reasons stands for a run into the watch, whose moves have the path's grade, ..
  abbrev pub PathsStand : Type 0
  PathsStand = Reasoned → (x : Position) (ks : List ℕ) (v : G) → PathOf m ls Fs rows n (head x.mode x.phase) x.lane ks v → (ms : List Move) × (StandsFor x ks ms × (moves_grade m ms ≡ v))

  -- .. and what stands for moves stands for those of a run into the watch.
  abbrev pub StandsReach : Type 0
  StandsReach = (x : Position) (ks : List ℕ) (ms : List Move) → StandsFor x ks ms → Reaches ls x ms
