-- From derived rows to runs, move by move.
use Rattle.std.proofs.Common.{◌≡◌, ℕ, List, [], ◌∷◌, ◌++◌, sym, refl, subst}
use Rattle.deduction.specs.Derivations.{Derivations, by, none, more}
use Rattle.text.specs.declared.line.Line.{Line}
use Rattle.model.specs.Moves.{Position, at, Move, Step, by_order, by_notice, stay as no_move, go}
use Rattle.model.specs.Watch.{Leads, ends, links, Watched, bare, read, Reaches}
use Rattle.rows.specs.Rows.{State, head, node, wagon, Row, Path, stay, step, Rule, link_rule, watch_rule, order_rule, notice_rule, premises, conclusion, rule_moves, row_rules}
use Rattle.rows.specs.Paths.{Stop, end_stop, bare_stop}
use Rattle.rows.specs.Theorems.{Sound, Shows, arrived, moves_on, Unfolds}
use Rattle.rows.proofs.Paths.{append_paths, row_moves, append_derivations, append_moves}

-- The first row of a path is given by a rule with these premises and moves.
-- From a node, the watch reads the first wagon, and the other rows lead on from a node, ..
pub data FromNode (ls : List Line) (t : ℕ) (w : List ℕ) (is : List Row) (u : State) : List Row → List Move → Type 0 where
  node_reads : {v : ℕ} {rest : List ℕ} → Path (node v) rest is u → (Leads ls v rest → Leads ls t w) → FromNode ls t w is u [] []

-- .. and so they may from a head; or a move is made, after which the premises and then the other rows lead on from a head.
pub data FromHead (ls : List Line) (x : Position) (is : List Row) (u : State) : List Row → List Move → Type 0 where
  head_reads : {v : ℕ} {rest : List ℕ} → Path (node v) rest is u → (Leads ls v rest → Watched ls x) → FromHead ls x is u [] []
  head_moves : {parts : List Row} {m : Move} {y : Position} → Step ls x m y → Path (head y.mode y.phase) y.lane (parts ++ is) u → FromHead ls x is u parts (m ∷ [])

pub from_node : {ls : List Line} {t : ℕ} {w : List ℕ} {is : List Row} {u : State} (r : Rule ls) → Path (node t) w (conclusion r ∷ is) u → FromNode ls t w is u (premises r) (rule_moves r)
from_node (link_rule l stands) (step p) = node_reads p (links stands)
from_node (watch_rule v F stands is_open) p = elim p [ ]
from_node (order_rule o F stands is_open in_force path) p = elim p [ ]
from_node (notice_rule n F l s stands is_open allows) p = elim p [ ]

pub from_head : {ls : List Line} {p F : ℕ} {w : List ℕ} {is : List Row} {u : State} (r : Rule ls) → Path (head p F) w (conclusion r ∷ is) u → FromHead ls (at p F w) is u (premises r) (rule_moves r)
from_head (link_rule l stands) p = elim p [ ]
from_head (watch_rule v F stands is_open) (step p) = head_reads p (read stands is_open)
from_head (order_rule o F stands is_open in_force path) (step p) = head_moves (by_order stands in_force) (append_paths path p)
from_head (notice_rule n F (wagon k) s stands is_open allows) (step p) = head_moves (by_notice stands allows) (step p)

module _ {ls : List Line} where
  node_rest : {t : ℕ} {w : List ℕ} {is js : List Row} {u : State} {ms : List Move} → FromNode ls t w js u is ms → (ds : Derivations (row_rules ls) is) (ns : List Move)
      → ((v : ℕ) (rest : List ℕ) → Path (node v) rest js u → Leads ls v rest × (ns ≡ [])) → Leads ls t w × ((ms ++ row_moves ds) ++ ns ≡ [])
  node_rest (node_reads {v = v} {rest = rest} p leads) none ns after = let (reads, no_moves) = after v rest p in (leads reads, no_moves)

  -- derived rows from a node are links, and make no move
  pub node_path : {t : ℕ} {w : List ℕ} {is : List Row} {u : State} → Path (node t) w is u → (ds : Derivations (row_rules ls) is) → Stop ls u → Leads ls t w × (row_moves ds ≡ [])
  node_path stay none (end_stop t stands) = (ends stands, refl)
  node_path {t = t} {w = w} p (more (by r ds) es) stop = node_rest (from_node r p) ds (row_moves es) (λ v rest q. node_path {t = v} {w = rest} q es stop)

  head_rest : {x : Position} {is js : List Row} {u : State} {ms : List Move} → FromHead ls x js u is ms → (ds : Derivations (row_rules ls) is) (es : Derivations (row_rules ls) js) → Stop ls u
      → Shows ls x ((ms ++ row_moves ds) ++ row_moves es)
  head_rest {x} (head_reads p leads) none es stop = let (rest, no_moves) = node_path p es stop in subst (Shows ls x) (sym no_moves) (arrived (leads rest))
  head_rest {js = js} {u = u} (head_moves {parts = is} makes p) ds es stop =
      moves_on makes (record { rows = is ++ js; last = u; path = p; derived = append_derivations ds es; stop = stop }) (append_moves ds es)

  head_path : {p F : ℕ} {w : List ℕ} {is : List Row} {u : State} → Path (head p F) w is u → (ds : Derivations (row_rules ls) is) → Stop ls u → Shows ls (at p F w) (row_moves ds)
  head_path stay none (bare_stop p F stands is_open) = arrived (bare stands is_open)
  head_path p (more (by r ds) es) stop = head_rest (from_head r p) ds es stop

pub unfolds : Unfolds
unfolds ls x a = head_path a.path a.derived a.stop

-- Each move that is shown can be made, so all of them make a run.
shown_run : (ls : List Line) (ms : List Move) {x : Position} → Shows ls x ms → Reaches ls x ms
shown_run ls [] {x} (arrived held) = record { last = x; run = no_move; held = held }
shown_run ls (m ∷ ms) (moves_on {y = y} makes a same) =
    let rest = shown_run ls ms (subst (Shows ls y) same (unfolds ls y a)) in
    record { last = rest.last; run = go makes rest.run; held = rest.held }

pub sound : Sound
sound ls x a = shown_run ls _ (unfolds ls x a)
