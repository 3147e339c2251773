-- Reasons: entries of a table that name the entries they were made from, and the moves that these show one by one.
use Rattle.std.specs.Prelude.{◌≡◌, ℕ, ◌<◌, List, [], ◌∷◌, ◌++◌, map}
use Rattle.grade.specs.declared.grade.Grade.{Ghosts}
use Rattle.deduction.specs.Lists.{In}
use Rattle.text.specs.declared.line.Line.{Line}
use Rattle.model.specs.Moves.{Position, Move, Step}
use Rattle.model.specs.Watch.{Watched}
use Rattle.rows.specs.Rows.{State, head, Row, Path, Rule, premises, conclusion, rule_moves}
use Rattle.rows.specs.Ways.{rule_grade}

-- Entries of any kind K, as the numbers of rows in a table: the row of each, the move that it names, if it names one, and the entries that it names as its parts.
pub record Named (K : Type 0) : Type 0 where
  pub item : K → Row
  pub moves : K → List Move
  pub parts : K → List K

module _ (ls : List Line) {K : Type 0} (table : Named K) where
  -- what k names is a rule: one that gives its row by its move from the rows of its parts, in order
  pub record MadeBy (k : K) (r : Rule ls) : Type 0 where
    pub gives : conclusion r ≡ table.item k
    pub by : rule_moves r ≡ table.moves k
    pub from : premises r ≡ map table.item (table.parts k)

  -- The moves that a list of entries shows: the first entry shows its own move, if it has one, and its parts take its place.
  pub data Unrolls : List K → List Move → Type 0 where
    nothing_left : Unrolls [] []
    unroll : {k : K} {ks : List K} {ms : List Move} (r : Rule ls) → MadeBy k r → Unrolls (table.parts k ++ ks) ms → Unrolls (k ∷ ks) (table.moves k ++ ms)

  -- One move of that, where the entries' rows lead from a position to u: it has arrived and nothing is shown,
  -- or the first entry shows a move that can be made, and its parts and the other entries lead on from the position after it.
  pub data Turn (x : Position) (u : State) : List K → List Move → Type 0 where
    has_arrived : {ks : List K} → Watched ls x → Turn x u ks []
    makes_move : {k : K} {ks : List K} {m : Move} {y : Position} {ms : List Move} → table.moves k ≡ m ∷ [] → Step ls x m y
        → Path (head y.mode y.phase) y.lane (map table.item (table.parts k ++ ks)) u → Unrolls (table.parts k ++ ks) ms → Turn x u (k ∷ ks) (m ∷ ms)

-- the grades of entries, joined in order
abbrev pub joined_price : {G K : Type 0} → Ghosts G → (K → G) → List K → G
joined_price m price [] = m.best
joined_price m price (k ∷ ks) = m.join (price k) (joined_price m price ks)

-- k has a reason: a rule gives its row and its grade from its parts, which all have smaller ranks
pub record Reasoned {G : Type 0} (m : Ghosts G) (ls : List Line) {K : Type 0} (table : Named K) (price : K → G) (rank : K → ℕ) (k : K) : Type 0 where
  pub rule : Rule ls
  pub made : MadeBy ls table k rule
  pub graded : m.join (rule_grade m rule) (joined_price m price (table.parts k)) ≡ price k
  pub earlier : (p : K) → In p (table.parts k) → rank p < rank k
