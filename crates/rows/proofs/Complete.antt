-- From runs to derived rows.
use Rattle.std.proofs.Common.{◌≡◌, ℕ, List, [], ◌∷◌, ◌++◌, refl, ap, ◌∙◌, append-nil}
use Rattle.deduction.specs.Derivations.{Derivations, by, none, more, grade}
use Rattle.text.specs.declared.line.NoticeLine.{NoticeLine}
use Rattle.text.specs.declared.line.Line.{Line}
use Rattle.text.specs.declared.line.Line.TheVariants.{Notice}
use Rattle.model.specs.Phases.{Stands, Allows, after, Opened}
use Rattle.model.specs.Moves.{Position, Move, order_move, notice_move, laid_down, Step, by_order, by_notice, Run, stay as no_move, go}
use Rattle.model.specs.Watch.{Leads, ends, links, Watched, bare, read}
use Rattle.model.proofs.Moves.{step_opened}
use Rattle.rows.specs.Rows.{State, head, node, wagon, Row, Path, stay, step, link_rule, watch_rule, order_rule, notice_rule, row_rules}
use Rattle.rows.specs.Paths.{Stop, end_stop, bare_stop, move_system, Accepts, accept_moves}
use Rattle.rows.specs.Theorems.{AcceptsFrom, Complete}
use Rattle.rows.proofs.Paths.{row_moves, parts}

-- an accepting path with these moves
abbrev With : List Line → State → List ℕ → List Move → Type 0
With ls s w ms = (a : Accepts ls s w) × (accept_moves a ≡ ms)

abbrev WithFrom : List Line → Position → List Move → Type 0
WithFrom ls x ms = (a : AcceptsFrom ls x) × (accept_moves a ≡ ms)

module _ {ls : List Line} where
  lead_path : {t : ℕ} {w : List ℕ} → Leads ls t w → With ls (node t) w []
  lead_path (ends {t = t} stands) = (record { rows = []; last = node t.value; path = stay; derived = none; stop = end_stop t stands }, refl)
  lead_path (links {l = l} stands leads) =
      let (rest, no_moves) = lead_path leads in (
        record { rows = _; last = rest.last; path = step rest.path; derived = more (by (link_rule l stands) none) rest.derived; stop = rest.stop },
        no_moves,
      )

  watched_path : {x : Position} → Watched ls x → WithFrom ls x []
  watched_path (bare {p = p} {F = F} stands is_open) = (record { rows = []; last = head p.value F; path = stay; derived = none; stop = bare_stop p F stands is_open }, refl)
  watched_path (read {v = v} {F = F} stands is_open leads) =
      let (rest, no_moves) = lead_path leads in (
        record { rows = _; last = rest.last; path = step rest.path; derived = more (by (watch_rule v F stands is_open) none) rest.derived; stop = rest.stop },
        no_moves,
      )

  -- a notice before a path with a first wagon
  notice_path : {n : NoticeLine} {F k : ℕ} {w : List ℕ} {u : State} {is : List Row} → Stands ls (Notice n) → Opened ls F → Allows n F
      → Path (head n.to.value (after n F)) (k ∷ w) is u → (ds : Derivations (row_rules ls) is) → Stop ls u → With ls (head n.mode.value F) (k ∷ w) (notice_move n ∷ row_moves ds)
  notice_path {n} {F} {k} {u = u} stands is_open allows (step {t = t} p) (more d ds) stop = (
    record { rows = _; last = u; path = step p; derived = more (by (notice_rule n F (wagon k) t stands is_open allows) (more d none)) ds; stop = stop },
    ap (λ ms. notice_move n ∷ (ms ++ row_moves ds)) (append-nil (grade (move_system ls) d)),
  )

  -- one move more in front
  step_path : {x y : Position} {m : Move} {ms : List Move} → Step ls x m y → Opened ls x.phase → WithFrom ls y ms → WithFrom ls x (m ∷ ms)
  step_path (by_order {o = o} {F = F} stands in_force) is_open (a, same) =
      let q = parts (laid_down o) a.path a.derived in (
        record {
          rows = _;
          last = a.last;
          path = step q.back_path;
          derived = more (by (order_rule o F stands is_open in_force q.front_path) q.front_derived) q.back_derived;
          stop = a.stop;
        },
        ap (λ ms. order_move o ∷ ms) (q.same_moves ∙ same),
      )
  step_path (by_notice {n = n} stands allows) is_open (a, same) =
      let (b, moves) = notice_path stands is_open allows a.path a.derived a.stop in
      (b, moves ∙ ap (λ ms. notice_move n ∷ ms) same)

  run_path : {x y : Position} {ms : List Move} → Run ls x ms y → Opened ls x.phase → Watched ls y → WithFrom ls x ms
  run_path no_move is_open held = watched_path held
  run_path (go makes rest) is_open held = step_path makes is_open (run_path rest (step_opened makes is_open) held)

pub complete : Complete
complete ls x ms is_open reaches = run_path reaches.run is_open reaches.held
