-- What the rows of any table show next.
use Rattle.std.specs.Prelude.{◌≡◌, ℕ, ◌<◌, ◌≤◌, ◌⊎◌, ◌↔◌, List, ◌∷◌, ◌++◌, length, Some, Option, Result, MatchOption, MatchResult, slice_index}
use Rattle.std.specs.List.{AllByRecursion}
use Rattle.grade.specs.declared.grade.Grade.{Ghosts}
use Rattle.text.specs.declared.line.OrderLine.{OrderLine}
use Rattle.text.specs.declared.line.NoticeLine.{NoticeLine}
use Rattle.text.specs.declared.line.Line.{Line}
use Rattle.text.specs.declared.line.Line.TheVariants.{Order, Notice}
use Rattle.text.specs.declared.line.Rule.{Rule}
use Rattle.text.specs.declared.line.Rule.TheVariants as rule
use Rattle.text.specs.Reading.{rule_line}
use Rattle.model.specs.Phases.{Stands, InForce, Allows, after}
use Rattle.rowtable.specs.declared.row.Reason.TheVariants as reason
use Rattle.rowtable.specs.declared.row.TableRow.{TableRow}
use Rattle.rowtable.specs.Tables.{row_at}
use Rattle.moves.specs.declared.stage.Stage.{Stage}
use Rattle.moves.specs.Moving.{number_of}
use Rattle.unfolding.specs.declared.stage.Shown.{Shown}
use Rattle.unfolding.specs.declared.stage.UnfoldRefusal.{UnfoldRefusal}
use Rattle.unfolding.specs.declared.stage.UnfoldRefusal.TheVariants.{BrokenRow}
use Rattle.unfolding.specs.Runs.{parts, Earlier, LineRow}
use Rattle.unfolding.specs.Rest.{stack}

-- the number that the refusal is told by; its place is 0
abbrev pub unfold_number : UnfoldRefusal → ℕ
unfold_number BrokenRow = 14

module _ {G : Type 0} (m : Ghosts G) (ls : List Line) (rows : List (TableRow G)) (n places : ℕ) where
  -- Row k, with the rows ks below it, shows the order in this mode and phase: the order stands and can be carried out there, for all that is known of the lane;
  -- the rows that the row rests on are there, of smaller rank, and the list has places for them.
  pub record ByOrder (k : ℕ) (ks : List ℕ) (mode phase : ℕ) (o : OrderLine) (a b : ℕ) : Type 0 where
    pub below : k < n
    pub why : (row_at m rows k).reason ≡ reason.Order o.number.value a b
    pub stands : Stands ls (Order o)
    pub in_mode : o.mode.value ≡ mode
    pub in_force : InForce phase o.number.value
    pub earlier : AllByRecursion (Earlier m rows n k) (parts o.wagons a b)
    pub room : length (parts o.wagons a b ++ ks) ≤ places

  -- .. or the notice
  pub record ByNotice (k : ℕ) (mode phase : ℕ) (v : NoticeLine) (a : ℕ) : Type 0 where
    pub below : k < n
    pub why : (row_at m rows k).reason ≡ reason.Notice v.number.value a
    pub stands : Stands ls (Notice v)
    pub in_mode : v.mode.value ≡ mode
    pub allows : Allows v phase
    pub earlier : Earlier m rows n k a

  -- `Shows k ks mode phase number to then js`: what row k shows, which leads to the mode `to` in the phase `then`, and the rows js that take its place and stand on those below it
  pub data Shows (k : ℕ) (ks : List ℕ) (mode phase : ℕ) : (number to then : ℕ) → List ℕ → Type 0 where
    shows_order : (o : OrderLine) (a b : ℕ) → ByOrder k ks mode phase o a b → Shows k ks mode phase o.number.value o.to.value phase (parts o.wagons a b ++ ks)
    shows_notice : (v : NoticeLine) (a : ℕ) → ByNotice k mode phase v a → Shows k ks mode phase v.number.value v.to.value (after v phase) (a ∷ ks)

  -- the row shows nothing
  abbrev pub ShowsNone : (k : ℕ) (ks : List ℕ) (mode phase : ℕ) → Type 0
  ShowsNone k ks mode phase = (number to then : ℕ) (js : List ℕ) → Shows k ks mode phase number to then js → ⊥

-- what stands under a number: the order or notice with it, if there is one
abbrev pub Under : List Line → (number : ℕ) → Option Rule → Type 0
Under ls number r = (x : Rule) → (Stands ls (rule_line x) × (number_of x ≡ number)) ↔ (r ≡ Some x)

-- row a is one of these, and of a rank below this one
abbrev pub Below : {G : Type 0} → Ghosts G → List (TableRow G) → (rank : ℕ) → ℕ → Type 0
Below m rows rank a = (a < length rows) × ((row_at m rows a).rank < rank)

-- Where a rule leads from a stage, for all that is known of the lane: to its other mode and, by a notice, to another phase.
abbrev pub Led : Rule → Stage → Option Stage → Type 0
Led (rule.Order o) stage r =
    MatchOption r (o.mode.value ≡ stage.mode → InForce stage.phase o.number.value → ⊥)
    (λ s. (o.mode.value ≡ stage.mode) × InForce stage.phase o.number.value × (s ≡ record stage { mode = o.to.value }))
Led (rule.Notice v) stage r =
    MatchOption r (v.mode.value ≡ stage.mode → Allows v stage.phase → ⊥)
    (λ s. (v.mode.value ≡ stage.mode) × Allows v stage.phase × (s ≡ record stage { mode = v.to.value; phase = after v stage.phase }))

-- What the row at the top shows from a stage. The list then holds the rows that are left to unfold, one for each wagon; it is unchanged where nothing is shown.
abbrev pub TopShown : {G : Type 0} → Ghosts G → List Line → (rows : List (TableRow G)) (list : List ℕ) (top : ℕ) → Stage → List ℕ → Option Shown → Type 0
TopShown m ls rows list top stage after r =
    MatchOption r
    (ShowsNone m ls rows (length rows) (length list) (slice_index list top) (stack list top) stage.mode stage.phase × (after ≡ list))
    (λ s. (s.after.length ≤ length after)
    × Shows m ls rows (length rows) (length list) (slice_index list top) (stack list top) stage.mode stage.phase s.number s.after.mode s.after.phase (stack after s.after.length))

-- k is the topmost row on the stack that is not a line's, and ks are the rows below it
pub record Topmost {G : Type 0} (m : Ghosts G) (rows : List (TableRow G)) (n : ℕ) (all : List ℕ) (k : ℕ) (ks : List ℕ) : Type 0 where
  pub passed : List ℕ
  pub lines : AllByRecursion (LineRow m rows n) passed
  pub is : all ≡ passed ++ (k ∷ ks)
  pub other : LineRow m rows n k → ⊥

-- What is shown from a stage. The list then holds the rows that are left to unfold, one for each wagon.
pub record RowShown {G : Type 0} (m : Ghosts G) (ls : List Line) (rows : List (TableRow G)) (n : ℕ) (list : List ℕ) (stage : Stage) (after : List ℕ) (s : Shown) : Type 0 where
  pub row : ℕ
  pub below : List ℕ
  pub topmost : Topmost m rows n (stack list stage.length) row below
  pub listed : s.after.length ≤ length after
  pub shows : Shows m ls rows n (length list) row below stage.mode stage.phase s.number s.after.mode s.after.phase (stack after s.after.length)

module _ {G : Type 0} (m : Ghosts G) (ls : List Line) (rows : List (TableRow G)) (n : ℕ) (list : List ℕ) (stage : Stage) where
  -- no row is left but those of lines
  abbrev pub NoneLeft : Type 0
  NoneLeft = (stage.length ≤ length list) × AllByRecursion (LineRow m rows n) (stack list stage.length)

  -- there are not so many rows or places, or the topmost row that is not a line's shows nothing
  abbrev pub Broken : Type 0
  Broken =
      (length rows < n) ⊎ ((length list < stage.length)
      ⊎ ((k : ℕ) × (ks : List ℕ) × Topmost m rows n (stack list stage.length) k ks × ShowsNone m ls rows n (length list) k ks stage.mode stage.phase))

  -- What unfolding tells, over any table and any list: a move, that none is left, or 14. Only a move that is shown changes the list.
  abbrev pub Unfolded : List ℕ → Result (Option Shown) UnfoldRefusal → Type 0
  Unfolded after r =
      MatchResult r
      (λ shown. MatchOption shown (NoneLeft × (after ≡ list)) (RowShown m ls rows n list stage after))
      (λ e. (unfold_number e ≡ 14) × (Broken × (after ≡ list)))
