-- Why a row is there: the rule that gives it, and the rows of the table that it rests on.
use Rattle.std.specs.Prelude.{◌≡◌, List, [], ◌∷◌, ℕ, ◌<◌, Some, None, Option}
use Rattle.grade.specs.declared.grade.Grade.{Ghosts}
use Rattle.text.specs.declared.line.Line.{Line}
use Rattle.rows.specs.Rows.{Row, Rule, link_rule, watch_rule, order_rule, notice_rule, premises, conclusion}
use Rattle.rows.specs.Ways.{rule_grade}
use Rattle.rowtable.specs.declared.row.Reason.{Reason}
use Rattle.rowtable.specs.declared.row.Reason.TheVariants as reason
use Rattle.rowtable.specs.declared.row.TableRow.{TableRow}
use Rattle.rowtable.specs.Tables.{row_of, row_at}

-- the places of the rows that a reason names
abbrev pub places : Reason → List ℕ
places reason.Line = []
places (reason.Order n a b) = a ∷ (b ∷ [])
places (reason.Notice n a) = a ∷ []

-- the number of the order or notice that it names
abbrev pub reason_number : Reason → Option ℕ
reason_number reason.Line = None
reason_number (reason.Order n a b) = Some n
reason_number (reason.Notice n a) = Some n

-- The reason names the rule: that of a link or watch line, or of the order or notice with its number.
abbrev pub Names : {ls : List Line} → Rule ls → Reason → Type 0
Names (link_rule l stands) reason.Line = Unit {0}
Names (link_rule l stands) (reason.Order n a b) = ⊥
Names (link_rule l stands) (reason.Notice n a) = ⊥
Names (watch_rule v F stands is_open) reason.Line = Unit {0}
Names (watch_rule v F stands is_open) (reason.Order n a b) = ⊥
Names (watch_rule v F stands is_open) (reason.Notice n a) = ⊥
Names (order_rule o F stands is_open in_force path) reason.Line = ⊥
Names (order_rule o F stands is_open in_force path) (reason.Order n a b) = o.number.value ≡ n
Names (order_rule o F stands is_open in_force path) (reason.Notice n a) = ⊥
Names (notice_rule c F l s stands is_open allows) reason.Line = ⊥
Names (notice_rule c F l s stands is_open allows) (reason.Order n a b) = ⊥
Names (notice_rule c F l s stands is_open allows) (reason.Notice n a) = c.number.value ≡ n

-- The premises stand at these places in order, where `At p x` says that place p holds the row x, and their grades join to g.
-- Places that no premise needs are 0.
module _ {G : Type 0} (m : Ghosts G) (Fs : List ℕ) (At : ℕ → TableRow G → Type 0) where
  abbrev pub Rests : List Row → List ℕ → G → Type 0
  Rests [] [] g = g ≡ m.best
  Rests [] (p ∷ ps) g = (p ≡ 0) × Rests [] ps g
  Rests (i ∷ is) [] g = ⊥
  Rests (i ∷ is) (p ∷ ps) g = (x : TableRow G) × (h : G) × At p x × (row_of Fs x ≡ i) × Rests is ps h × (g ≡ m.join x.grade h)

-- The row's reason is right: it names a rule that gives the row, from the rows at the places that it names, with the row's grade,
-- which is the toll's joined with theirs in order.
pub record Reasoned {G : Type 0} (m : Ghosts G) (ls : List Line) (Fs : List ℕ) (At : ℕ → TableRow G → Type 0) (r : TableRow G) : Type 0 where
  pub rule : Rule ls
  pub named : Names rule r.reason
  pub concludes : conclusion rule ≡ row_of Fs r
  pub parts : G
  pub rests : Rests m Fs At (premises rule) (places r.reason) parts
  pub graded : r.grade ≡ m.join (rule_grade m rule) parts

-- one of the first n places, p, holds the row r, which has a rank below s
pub record SettledAt {G : Type 0} (m : Ghosts G) (rows : List (TableRow G)) (n s p : ℕ) (r : TableRow G) : Type 0 where
  pub within : p < n
  pub here : row_at m rows p ≡ r
  pub ranked : r.rank < s
