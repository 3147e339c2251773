-- Why a row is there: the rule that gives it, and the rows of the table that it rests on.
use Rattle.std.specs.Prelude.{◌≡◌, ℕ, List, [], ◌∷◌}
use Rattle.grade.specs.declared.grade.Grade.{Ghosts}
use Rattle.text.specs.declared.line.Line.{Line}
use Rattle.rows.specs.Rows.{Row, Rule, premises, conclusion}
use Rattle.rows.specs.Ways.{rule_grade}
use Rattle.rowtable.specs.declared.row.TableRow.{TableRow}
use Rattle.rowtable.specs.Tables.{row_of}
use Rattle.rowtable.specs.Reasons.{places, Names}

-- The premises stand at these places in order, where `At p x` says that place p holds the row x, and their grades join to g.
-- Places beyond the last premise count for nothing.
module _ {G : Type 0} (m : Ghosts G) (Fs : List ℕ) (At : ℕ → TableRow G → Type 0) where
  abbrev pub Rests : List Row → List ℕ → G → Type 0
  Rests [] ps g = g ≡ m.best
  Rests (i ∷ is) [] g = ⊥
  Rests (i ∷ is) (p ∷ ps) g = (x : TableRow G) × (h : G) × At p x × (row_of Fs x ≡ i) × Rests is ps h × (g ≡ m.join x.grade h)

-- The row's reason is right: it names a rule that gives the row, from the rows at the places that it names, with the row's grade,
-- which is the toll's joined with theirs in order.
pub record Reasoned {G : Type 0} (m : Ghosts G) (ls : List Line) (Fs : List ℕ) (At : ℕ → TableRow G → Type 0) (r : TableRow G) : Type 0 where
  pub rule : Rule ls
  pub named : Names rule r.reason
  pub concludes : conclusion rule ≡ row_of Fs r
  pub parts : G
  pub rests : Rests m Fs At (premises rule) (places r.reason) parts
  pub graded : r.grade ≡ m.join (rule_grade m rule) parts
