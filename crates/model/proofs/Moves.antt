-- Runs stay in opened phases, and a move goes by its number.
use Rattle.std.proofs.Common.{◌≡◌, ℕ, List, [], ◌∷◌, ◌++◌, Some, None, Option, sym, refl, ap, ◌∙◌}
use Rattle.text.specs.declared.line.Line.{Line}
use Rattle.text.specs.declared.line.Line.TheVariants.{Order, Notice, Open, Watch, Link, End, Bare}
use Rattle.model.specs.Phases.{Stands, Opened, noticed, after}
use Rattle.model.specs.Moves.{Position, at, Move, order_move, notice_move, laid_down, Step, by_order, by_notice, Run, stay, go}
use Rattle.model.specs.Laws.{RunsStayOpened, rule_number, MovesByNumber}

pub step_opened : {ls : List Line} {x y : Position} {m : Move} → Step ls x m y → Opened ls x.phase → Opened ls y.phase
step_opened (by_order stands in_force) phase = phase
step_opened (by_notice stands allows) phase = noticed phase stands allows

pub run_opened : {ls : List Line} {x y : Position} {ms : List Move} → Run ls x ms y → Opened ls x.phase → Opened ls y.phase
run_opened stay phase = phase
run_opened (go step rest) phase = run_opened rest (step_opened step phase)

pub runs_stay_opened : RunsStayOpened
runs_stay_opened ls x y ms phase run = run_opened run phase

-- what a line shows when it is carried out, and where it leads from a position in which it can be

shown : Line → Option Move
shown (Order o) = Some (order_move o)
shown (Notice n) = Some (notice_move n)
shown (Open F) = None
shown (Watch w) = None
shown (Link l) = None
shown (End t) = None
shown (Bare p) = None

rest : List ℕ → List ℕ
rest [] = []
rest (k ∷ w) = w

target : Line → Position → Position
target (Order o) x = at o.to.value x.phase (laid_down o ++ rest x.lane)
target (Notice n) x = at n.to.value (after n x.phase) x.lane
target (Open F) x = x
target (Watch w) x = x
target (Link l) x = x
target (End t) x = x
target (Bare p) x = x

record ByLine (ls : List Line) (x : Position) (m : Move) (y : Position) : Type 0 where
  line : Line
  stands : Stands ls line
  number : rule_number line ≡ Some m.number
  shows : shown line ≡ Some m
  leads : target line x ≡ y

by_line : {ls : List Line} {x y : Position} {m : Move} → Step ls x m y → ByLine ls x m y
unfolding shown rest target
by_line (by_order {o = o} stands in_force) = record { line = Order o; stands = stands; number = refl; shows = refl; leads = refl }
by_line (by_notice {n = n} stands allows) = record { line = Notice n; stands = stands; number = refl; shows = refl; leads = refl }

pub moves_by_number : MovesByNumber
moves_by_number ls once x y z l m to_y to_z same =
    let a = by_line to_y in
    let b = by_line to_z in
    let lines : a.line ≡ b.line = once a.line b.line m.number a.stands b.stands (a.number ∙ ap Some same) b.number in
    let shows : Some l ≡ Some m = sym a.shows ∙ ap shown lines ∙ b.shows in
    (cc, sym a.leads ∙ ap (λ k. target k x) lines ∙ b.leads)
