-- Sets of nodes of the watch, as marks in a table.
use Rattle.std.specs.Prelude.{◌≡◌, ℕ, Bool, true, false, ◌↔◌, List, length, Some, Option, IfSome, slice_index_or}
use Rattle.std.specs.List.{Contains}
use Rattle.grade.specs.declared.upto.UpTo.{UpTo}
use Rattle.text.specs.declared.line.WatchLine.{WatchLine}
use Rattle.text.specs.declared.line.LinkLine.{LinkLine}
use Rattle.text.specs.declared.line.Line.{Line}
use Rattle.text.specs.declared.line.Line.TheVariants.{Watch, Link, End}
use Rattle.model.specs.Phases.{Stands}
use Rattle.model.specs.Watch.{Leads}

abbrev pub Marked : List Bool → ℕ → Type 0
Marked s t = slice_index_or s t false ≡ true

-- the nodes that are marked are those that are P
pub record Marks (s : List Bool) (P : ℕ → Type 0) : Type 0 where
  pub long : length s ≡ 64
  pub just : (t : ℕ) → Marked s t ↔ P t

-- the line of an x stands that fits and goes to the node t
abbrev pub Goes : {X : Type 0} → List Line → (X → Line) → (X → Type 0) → (X → ℕ) → ℕ → Type 0
Goes {X} ls line fits to t = (x : X) × Stands ls (line x) × fits x × (to x ≡ t)

abbrev pub watch_fits : ℕ → ℕ → WatchLine → Type 0
watch_fits mode wagon v = (v.mode.value ≡ mode) × (v.wagon.value ≡ wagon)

abbrev pub watch_to : WatchLine → ℕ
watch_to v = v.node.value

-- a watch line goes from the mode by the wagon to the node
abbrev pub Enters : List Line → ℕ → ℕ → ℕ → Type 0
Enters ls mode wagon = Goes ls Watch (watch_fits mode wagon) watch_to

abbrev pub link_fits : (ℕ → Type 0) → ℕ → LinkLine → Type 0
link_fits P wagon k = P k.node.value × (k.wagon.value ≡ wagon)

abbrev pub link_to : LinkLine → ℕ
link_to k = k.to.value

-- a link line goes from one of these nodes by the wagon to the node
abbrev pub Links : List Line → (ℕ → Type 0) → ℕ → ℕ → Type 0
Links ls P wagon = Goes ls Link (link_fits P wagon) link_to

-- one of these nodes has an end line
abbrev pub EndsIn : List Line → (ℕ → Type 0) → Type 0
EndsIn ls P = (t : UpTo 63) × Stands ls (End t) × P t.value

-- link lines lead from one of these nodes by the wagons to an end
abbrev pub LeadsFrom : List Line → (ℕ → Type 0) → List ℕ → Type 0
LeadsFrom ls P w = (t : ℕ) × P t × Leads ls t w

-- ---- on the way there

-- what is answered at each row is marked, if it is a node, and no other node is
pub record MarkedBy {X : Type 0} (Answers : X → Option (UpTo 63) → Type 0) (rows : List X) (s : List Bool) : Type 0 where
  pub long : length s ≡ 64
  pub just : (t : ℕ) → Marked s t → (x : X) × Contains rows x × (u : UpTo 63) × Answers x (Some u) × (u.value ≡ t)
  pub all : (x : X) → Contains rows x → (r : Option (UpTo 63)) × Answers x r × IfSome r (λ u. Marked s u.value)
