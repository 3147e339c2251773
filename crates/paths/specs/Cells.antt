-- Cells: the best that is known of a state with the wagons that are left, kept in layers over a lent table.
use Rattle.std.specs.Prelude.{◌≡◌, ℕ, ◌+◌, ◌*◌, ◌<◌, ◌≤◌, cond, T, List, length, Some, None, Option, MatchOption, ◌==◌, slice_index_or, slice_set}
use Rattle.std.specs.List.{All}
use Rattle.std.specs.Option.{option_map}
use Rattle.std.specs.Coded.{×_prop, Π_prop, le_prop}
use Rattle.grade.specs.declared.grade.Grade.{Ghosts}
use Rattle.rowtable.specs.declared.row.TableState.{TableState}
use Rattle.rowtable.specs.declared.row.TableState.TheVariants.{Node, Head}
use Rattle.rowtable.specs.declared.row.TableRow.{TableRow}
use Rattle.rowtable.specs.Tables.{Exists, row_at}
use Rattle.paths.specs.declared.cell.Cell.{Cell}
use Rattle.paths.specs.declared.cell.Cell.TheVariants.{Unknown, Ends, By}

-- the best grade of a path from a state, and the place of the row that such a path begins with, or None where it ends there
pub record Step (G : Type 0) : Type 0 where
  pub grade : G
  pub row : Option ℕ

-- what is known of a state: the best step from there, or None where no path leads on
abbrev pub Known : Type 0 → Type 0
Known G = Option (Step G)

-- what a cell says of its state
abbrev pub known : {G : Type 0} → Cell G → Known G
known Unknown = None
known (Ends v) = Some (record { grade = v; row = None })
known (By v k) = Some (record { grade = v; row = Some k })

-- the places of a layer: one for each state, 16 for each phase and 64 for the nodes
abbrev pub width : List ℕ → ℕ
width Fs = 16 * length Fs + 64

-- the place of a state in its layer
abbrev pub index : List ℕ → TableState → ℕ
index Fs (Node t) = 16 * length Fs + t
index Fs (Head p i) = 16 * i + p

abbrev pub cell_at : {G : Type 0} → List (Cell G) → ℕ → Known G
cell_at cells k = known (slice_index_or cells k Unknown)

-- the grade that is known, if any
abbrev pub grade_of : {G : Type 0} → Known G → Option G
grade_of c = option_map (λ s. s.grade) c

-- an offer that a row makes: none comes without a row
abbrev pub WithRow : {G : Type 0} → (ℕ → G → Type 0) → Option ℕ → G → Type 0
WithRow P None v = ⊥
WithRow P (Some k) v = P k v

module _ {G : Type 0} (m : Ghosts G) where
  -- `P o v`: the grade v is offered, by the row at the place o or, at None, by ending here. Here the step is offered, and nothing better is.
  pub record Chosen (P : Option ℕ → G → Type 0) (s : Step G) : Type 0 where
    pub offered : P s.row s.grade
    pub no_better : (o : Option ℕ) (u : G) → P o u → T (m.noworse s.grade u)

  -- the cell has the best that is offered, with what offers it, or has nothing where nothing is
  abbrev pub Says : (Option ℕ → G → Type 0) → Known G → Type 0
  Says P c = MatchOption c ((o : Option ℕ) (v : G) → P o v → ⊥) (Chosen P)

  -- the cells of all states
  abbrev pub Layer : List ℕ → List (Cell G) → (TableState → Option ℕ → G → Type 0) → Type 0
  Layer Fs cells P = (s : TableState) → Exists Fs s → Says (P s) (cell_at cells (index Fs s))

  -- what row k offers at the state s with the wagon x on top: its grade joined with what the cell of its other end, in the layer behind, has
  pub record Via (Fs : List ℕ) (rows : List (TableRow G)) (n x : ℕ) (behind : List (Cell G)) (s : TableState) (k : ℕ) (v : G) : Type 0 where
    pub below : k < n
    pub from : (row_at m rows k).from ≡ s
    pub by : (row_at m rows k).wagon ≡ x
    pub rest : Step G
    pub has : cell_at behind (index Fs (row_at m rows k).to) ≡ Some rest
    pub joins : m.join (row_at m rows k).grade rest.grade ≡ v

  -- what the first n rows offer
  abbrev pub Offers : (Fs : List ℕ) (rows : List (TableRow G)) (n x : ℕ) (behind : List (Cell G)) → TableState → Option ℕ → G → Type 0
  Offers Fs rows n x behind s = WithRow (Via Fs rows n x behind s)

  -- a cell after row k offered a grade: the better of both, and of equals the one that it had
  abbrev pub bettered : Cell G → ℕ → G → Cell G
  bettered Unknown k v = By v k
  bettered (Ends u) k v = cond (m.noworse u v) (Ends u) (By v k)
  bettered (By u l) k v = cond (m.noworse u v) (By u l) (By v k)

  -- the layer after row k was brought in at a place, where this is known of its other end
  abbrev pub brought_by : Known G → List (Cell G) → ℕ → ℕ → G → List (Cell G)
  brought_by None layer place k v = layer
  brought_by (Some rest) layer place k v = slice_set layer place (bettered (slice_index_or layer place Unknown) k (m.join v rest.grade))

  abbrev pub brought : List ℕ → List (Cell G) → List (Cell G) → ℕ → ℕ → TableRow G → List (Cell G)
  brought Fs behind layer x k r = cond (r.wagon == x) (brought_by (cell_at behind (index Fs r.to)) layer (index Fs r.from) k r.grade) layer

-- the row leads from a state that exists to one
abbrev pub Leads : {G : Type 0} → List ℕ → TableRow G → Type 0
Leads Fs r = Exists Fs r.from × Exists Fs r.to

-- .. which has one proof at most
exists_prop : (Fs : List ℕ) (s : TableState) → IsProp (Exists Fs s)
exists_prop Fs (Node t) = le_prop
exists_prop Fs (Head p i) = ×_prop le_prop le_prop

pub all_lead_prop : {G : Type 0} (Fs : List ℕ) (rows : List (TableRow G)) → IsProp (All (Leads Fs) rows)
all_lead_prop Fs rows = Π_prop λ k. Π_prop λ d. Π_prop λ _. ×_prop (exists_prop Fs (slice_index_or rows k d).from) (exists_prop Fs (slice_index_or rows k d).to)

-- each of the first n rows leads from a state that exists to one
pub record Sound {G : Type 0} (m : Ghosts G) (Fs : List ℕ) (rows : List (TableRow G)) (n : ℕ) : Type 0 where
  pub enough : n ≤ length rows
  pub from : (k : ℕ) → k < n → Exists Fs (row_at m rows k).from
  pub to : (k : ℕ) → k < n → Exists Fs (row_at m rows k).to
