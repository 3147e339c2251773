-- Over rows that stand for the rest of a run, what unfolding tells is the run's next move.
use Rattle.std.proofs.Common.{◌≡◌, ℕ, suc, ◌≤◌, List, [], ◌∷◌, ◌++◌, map, length, Some, None, Ok, Err, Option, Result, sym, refl, ap, ◌∙◌, subst, ⊎_elim, arith}
use Rattle.std.specs.List.{AllByRecursion}
use Rattle.grade.specs.declared.grade.Grade.{Ghosts}
use Rattle.text.specs.declared.line.OrderLine.{OrderLine}
use Rattle.text.specs.declared.line.NoticeLine.{NoticeLine}
use Rattle.text.specs.declared.line.Wagons.{Wagons}
use Rattle.text.specs.declared.line.Wagons.TheVariants.{Zero, One, Two}
use Rattle.text.specs.declared.line.Line.{Line}
use Rattle.text.specs.declared.line.Line.TheVariants.{Order, Notice}
use Rattle.text.specs.declared.line.Rule.{Rule}
use Rattle.text.specs.declared.line.Rule.TheVariants as rule
use Rattle.text.specs.Forms.{listed}
use Rattle.model.specs.Phases.{Stands, after}
use Rattle.model.specs.Moves.{Position, at, Move, laid_down, Step, by_order, by_notice}
use Rattle.rowtable.specs.declared.row.Reason.TheVariants as reason
use Rattle.rowtable.specs.declared.row.TableRow.{TableRow}
use Rattle.moves.specs.declared.stage.Stage.{Stage}
use Rattle.unfolding.specs.declared.stage.Shown.{Shown}
use Rattle.unfolding.specs.declared.stage.UnfoldRefusal.{UnfoldRefusal}
use Rattle.unfolding.specs.Runs.{parts, Earlier, LineRow, StandsFor, arrived, on_order, on_notice}
use Rattle.unfolding.specs.Rest.{stage_of, stack, Roomy, Rest, Advances}
use Rattle.unfolding.specs.Shows.{Under, Shows, shows_order, shows_notice, Topmost, RowShown, Unfolded}
use Rattle.unfolding.proofs.Stacks.{stack_long}

-- a number stands for one order and for one notice
module _ (ls : List Line) (once : (number : ℕ) → (found : Option Rule) × Under ls number found) where
  one_order : (o p : OrderLine) → Stands ls (Order o) → Stands ls (Order p) → o.number.value ≡ p.number.value → o ≡ p
  one_order o p stands other same =
      let (found, under) = once p.number.value in
      let e : Some (rule.Order o) ≡ Some (rule.Order p) = sym ((under (rule.Order o)).0 (stands, same)) ∙ (under (rule.Order p)).0 (other, refl) in cc

  one_notice : (v w : NoticeLine) → Stands ls (Notice v) → Stands ls (Notice w) → v.number.value ≡ w.number.value → v ≡ w
  one_notice v w stands other same =
      let (found, under) = once w.number.value in
      let e : Some (rule.Notice v) ≡ Some (rule.Notice w) = sym ((under (rule.Notice v)).0 (stands, same)) ∙ (under (rule.Notice w)).0 (other, refl) in cc

-- what a row shows is one thing
record Same (number to then : ℕ) (js : List ℕ) (number' to' then' : ℕ) (js' : List ℕ) : Type 0 where
  pub numbers : number ≡ number'
  pub modes : to ≡ to'
  pub phases : then ≡ then'
  pub stacks : js ≡ js'

-- an order sets down as many wagons as its row rests on rows
parts_long : (ws : Wagons) (a b : ℕ) (w ks : List ℕ) → length ks ≡ length w → length (parts ws a b ++ ks) ≡ length (map (λ k. k.value) (listed ws) ++ w)
parts_long Zero a b w ks even = even
parts_long (One x) a b w ks even = ap suc even
parts_long (Two x y) a b w ks even = ap (λ k. suc (suc k)) even

abbrev made : (number mode phase long : ℕ) → Shown
made number mode phase long = record { number = number; after = record { mode = mode; phase = phase; length = long } }

-- a move that is shown with the stage after it
tells : (s : Shown) (number : ℕ) (y : Position) → number ≡ s.number → y.mode ≡ s.after.mode → y.phase ≡ s.after.phase → length y.lane ≡ s.after.length → s ≡ record { number = number; after = stage_of y }
tells s number y numbers modes phases lanes =
    sym (ap (λ k. made k y.mode y.phase (length y.lane)) numbers ∙ ap (λ k. made s.number k y.phase (length y.lane)) modes ∙ ap (λ k. made s.number s.after.mode k (length y.lane)) phases ∙ ap (made s.number s.after.mode s.after.phase) lanes)

last_of : (P : ℕ → Type 0) (js ks : List ℕ) (k : ℕ) → AllByRecursion P (js ++ (k ∷ ks)) → P k
last_of P [] ks k all = all.0
last_of P (j ∷ js) ks k all = last_of P js ks k all.1

module _ {G : Type 0} (m : Ghosts G) (ls : List Line) (rows : List (TableRow G)) (n : ℕ) where
  shows_one : (once : (number : ℕ) → (found : Option Rule) × Under ls number found) {places k : ℕ} {ks : List ℕ} {mode phase number to then number' to' then' : ℕ} {js js' : List ℕ} → Shows m ls rows n places k ks mode phase number to then js
      → Shows m ls rows n places k ks mode phase number' to' then' js' → Same number to then js number' to' then' js'
  shows_one once {ks = ks} (shows_order o a b by) (shows_order p c d other) =
      let e : reason.Order o.number.value a b ≡ reason.Order p.number.value c d = sym by.why ∙ other.why in
      let numbers : o.number.value ≡ p.number.value = cc in
      let first : a ≡ c = cc in
      let second : b ≡ d = cc in
      let same : o ≡ p = one_order ls once o p by.stands other.stands numbers in
      record {
        numbers = numbers;
        modes = ap (λ q. q.to.value) same;
        phases = refl;
        stacks = ap (λ q. parts q.wagons a b ++ ks) same ∙ ap (λ j. parts p.wagons j b ++ ks) first ∙ ap (λ j. parts p.wagons c j ++ ks) second;
      }
  shows_one once {ks = ks} {phase = F} (shows_notice v a by) (shows_notice w c other) =
      let e : reason.Notice v.number.value a ≡ reason.Notice w.number.value c = sym by.why ∙ other.why in
      let numbers : v.number.value ≡ w.number.value = cc in
      let first : a ≡ c = cc in
      let same : v ≡ w = one_notice ls once v w by.stands other.stands numbers in
      record { numbers = numbers; modes = ap (λ q. q.to.value) same; phases = ap (λ q. after q F) same; stacks = ap (λ j. j ∷ ks) first }
  shows_one once (shows_order o a b by) (shows_notice w c other) =
      let e : reason.Order o.number.value a b ≡ reason.Notice w.number.value c = sym by.why ∙ other.why in
      let never : ◌≡◌ {A = ℕ} 0 1 = cc in
      absurd (omega arith)
  shows_one once (shows_notice v a by) (shows_order p c d other) =
      let e : reason.Notice v.number.value a ≡ reason.Order p.number.value c d = sym by.why ∙ other.why in
      let never : ◌≡◌ {A = ℕ} 0 1 = cc in
      absurd (omega arith)

  -- the rows that an order's row makes way for have room where it has
  parts_roomy : (ws : Wagons) (a b k : ℕ) (ks : List ℕ) (places : ℕ) → AllByRecursion (Earlier m rows n k) (parts ws a b) → Roomy m rows places (k ∷ ks) → Roomy m rows places (parts ws a b ++ ks) × (length (parts ws a b ++ ks) ≤ places)
  parts_roomy Zero a b k ks places earlier (room, roomy) = (roomy, omega arith)
  parts_roomy (One x) a b k ks places (first, more) (room, roomy) = let less = first.1 in ((omega arith, roomy), omega arith)
  parts_roomy (Two x y) a b k ks places (first, (second, more)) (room, roomy) = let less = first.1 in let lower = second.1 in ((omega arith, (omega arith, roomy)), omega arith)

  -- the next move of rows that stand for moves: what the top shows, where it leads, and what stands for the moves after it
  record Next (x : Position) (v : Move) (ms : List Move) (places k : ℕ) (ks : List ℕ) : Type 0 where
    pub to : Position
    pub move : Step ls x v to
    pub left : List ℕ
    pub shows : Shows m ls rows n places k ks x.mode x.phase v.number to.mode to.phase left
    pub stands : StandsFor m ls rows n to left ms
    pub roomy : Roomy m rows places left
    pub even : length left ≡ length to.lane
    pub other : LineRow m rows n k → ⊥

  next : {x : Position} {v : Move} {ms : List Move} {k : ℕ} {ks : List ℕ} (places : ℕ) → StandsFor m ls rows n x (k ∷ ks) (v ∷ ms) → Roomy m rows places (k ∷ ks) → suc (length ks) ≡ length x.lane → Next x v ms places k ks
  next {k = k} {ks = ks} places (on_order {o = o} {F = F} {w = w} {a = a} {b = b} stands in_force lt why earlier more) roomy even =
      let (left, room) = parts_roomy o.wagons a b k ks places earlier roomy in
      record {
        to = at o.to.value F (laid_down o ++ w);
        move = by_order stands in_force;
        left = parts o.wagons a b ++ ks;
        shows = shows_order o a b (record { below = lt; why = why; stands = stands; in_mode = refl; in_force = in_force; earlier = earlier; room = room });
        stands = more;
        roomy = left;
        even = parts_long o.wagons a b w ks (omega arith);
        other = λ (low, line). let e : reason.Line ≡ reason.Order o.number.value a b = sym line ∙ why in let never : ◌≡◌ {A = ℕ} 0 1 = cc in omega arith;
      }
  next {k = k} {ks = ks} places (on_notice {v = v} {F = F} {x = y} {w = w} {a = a} stands allows lt why earlier more) (room, roomy) even =
      record {
        to = at v.to.value (after v F) (y ∷ w);
        move = by_notice stands allows;
        left = a ∷ ks;
        shows = shows_notice v a (record { below = lt; why = why; stands = stands; in_mode = refl; allows = allows; earlier = earlier });
        stands = more;
        roomy = (let less = earlier.1 in omega arith, roomy);
        even = even;
        other = λ (low, line). let e : reason.Line ≡ reason.Notice v.number.value a = sym line ∙ why in let never : ◌≡◌ {A = ℕ} 0 1 = cc in omega arith;
      }

  -- nothing but lines on the stack: none is left
  lines_none : {x : Position} {ks : List ℕ} {ms : List Move} → StandsFor m ls rows n x ks ms → AllByRecursion (LineRow m rows n) ks → ms ≡ []
  lines_none (arrived held lines) all = refl
  lines_none (on_order {o = o} {a = a} {b = b} stands in_force lt why earlier more) ((low, line), others) =
      let e : reason.Line ≡ reason.Order o.number.value a b = sym line ∙ why in let never : ◌≡◌ {A = ℕ} 0 1 = cc in absurd (omega arith)
  lines_none (on_notice {v = v} {a = a} stands allows lt why earlier more) ((low, line), others) =
      let e : reason.Line ≡ reason.Notice v.number.value a = sym line ∙ why in let never : ◌≡◌ {A = ℕ} 0 1 = cc in absurd (omega arith)

  all_lines : {x : Position} {ks : List ℕ} → StandsFor m ls rows n x ks [] → AllByRecursion (LineRow m rows n) ks
  all_lines (arrived held lines) = lines

  not_topmost : (all : List ℕ) (k : ℕ) (ks : List ℕ) → AllByRecursion (LineRow m rows n) all → Topmost m rows n all k ks → ⊥
  not_topmost all k ks lines top = top.other (last_of (LineRow m rows n) top.passed ks k (subst (AllByRecursion (LineRow m rows n)) top.is lines))

  -- rows that stand for a move begin with it
  begins : {x : Position} {v : Move} {ms : List Move} {all : List ℕ} → StandsFor m ls rows n x all (v ∷ ms) → (k : ℕ) × (ks : List ℕ) × (all ≡ k ∷ ks)
  begins (on_order {k = k} {ks = ks} stands in_force lt why earlier more) = (k, ks, refl)
  begins (on_notice {k = k} {ks = ks} stands allows lt why earlier more) = (k, ks, refl)

  -- where the stack begins with a move, that is the topmost
  topmost_first : (k : ℕ) (ks : List ℕ) (l : ℕ) (ls' : List ℕ) → (LineRow m rows n k → ⊥) → (passed : List ℕ) → AllByRecursion (LineRow m rows n) passed → k ∷ ks ≡ passed ++ (l ∷ ls') → (k ≡ l) × (ks ≡ ls')
  topmost_first k ks l ls' other [] lines is = (cc, cc)
  topmost_first k ks l ls' other (j ∷ js) lines is = let same : k ≡ j = cc in absurd (other (subst (LineRow m rows n) (sym same) lines.0))

  module _ (once : (number : ℕ) → (found : Option Rule) × Under ls number found) (list after : List ℕ) (x : Position) where
    abbrev all : List ℕ
    all = stack list (length x.lane)

    advances_none : (r : Result (Option Shown) UnfoldRefusal) → Rest m ls rows n list x [] → Unfolded m ls rows n list (stage_of x) after r → Advances m ls rows n after x [] r
    advances_none (Ok None) rest (none, same) = (refl, subst (λ l. Rest m ls rows n l x []) (sym same) rest)
    advances_none (Ok (Some s)) rest shown = absurd (not_topmost all shown.row shown.below (all_lines rest.stands) shown.topmost)
    advances_none (Err e) rest (number, (broken, same)) =
        let enough = rest.enough in
        let listed = rest.listed in
        absurd (⊎_elim (λ few. omega arith) (λ more. ⊎_elim (λ short. omega arith) (λ (k, ks, top, none). not_topmost all k ks (all_lines rest.stands) top) more) broken)

    module _ (v : Move) (ms : List Move) (rest : Rest m ls rows n list x (v ∷ ms)) where
      first : (k : ℕ) × (ks : List ℕ) × (all ≡ k ∷ ks)
      first = begins rest.stands

      here : Next x v ms (length list) first.0 first.1
      here =
          let is = first.2 in
          let long = stack_long list (length x.lane) rest.listed in
          let same = ap length is in
          next (length list) (subst (λ ks. StandsFor m ls rows n x ks (v ∷ ms)) is rest.stands) (subst (Roomy m rows (length list)) is rest.roomy) (omega arith)

      is_first : (k : ℕ) (ks : List ℕ) → Topmost m rows n all k ks → (first.0 ≡ k) × (first.1 ≡ ks)
      is_first k ks top = topmost_first first.0 first.1 k ks here.other top.passed top.lines (sym first.2 ∙ top.is)

      advances_on : (s : Shown) → RowShown m ls rows n list (stage_of x) after s → length after ≡ length list → Advances m ls rows n after x (v ∷ ms) (Ok (Some s))
      advances_on s shown kept =
          let (top, below) = is_first shown.row shown.below shown.topmost in
          let shows = subst (λ ks. Shows m ls rows n (length list) shown.row ks x.mode x.phase v.number here.to.mode here.to.phase here.left) below
          (subst (λ k. Shows m ls rows n (length list) k first.1 x.mode x.phase v.number here.to.mode here.to.phase here.left) top here.shows) in
          let same = shows_one once shows shown.shows in
          let long = stack_long after s.after.length shown.listed in
          let more = ap length same.stacks in
          let even = here.even in
          let lane : length here.to.lane ≡ s.after.length = omega arith in
          let stacks : here.left ≡ stack after (length here.to.lane) = same.stacks ∙ ap (stack after) (sym lane) in (
            here.to,
            (
              here.move,
              (
                ap (λ q. Ok (Some q)) (tells s v.number here.to same.numbers same.modes same.phases lane),
                record {
                  enough = rest.enough;
                  listed = let le = shown.listed in omega arith;
                  stands = subst (λ ks. StandsFor m ls rows n here.to ks ms) stacks here.stands;
                  roomy = subst (λ p. Roomy m rows p (stack after (length here.to.lane))) (sym kept) (subst (Roomy m rows (length list)) stacks here.roomy);
                },
              ),
            ),
          )

      advances_move : (r : Result (Option Shown) UnfoldRefusal) → Unfolded m ls rows n list (stage_of x) after r → length after ≡ length list → Advances m ls rows n after x (v ∷ ms) r
      advances_move (Ok None) (none, same) kept =
          let empty : v ∷ ms ≡ [] = lines_none rest.stands none.1 in let never : ◌≡◌ {A = ℕ} 0 1 = cc in absurd (omega arith)
      advances_move (Ok (Some s)) shown kept = advances_on s shown kept
      advances_move (Err e) (number, (broken, same)) kept =
          let enough = rest.enough in
          let listed = rest.listed in
          absurd (⊎_elim (λ few. omega arith) (λ more. ⊎_elim (λ short. omega arith) (λ (k, ks, top, none).
          let (at_top, below) = is_first k ks top in
          none v.number here.to.mode here.to.phase here.left
          (subst (λ js. Shows m ls rows n (length list) k js x.mode x.phase v.number here.to.mode here.to.phase here.left) below
          (subst (λ j. Shows m ls rows n (length list) j first.1 x.mode x.phase v.number here.to.mode here.to.phase here.left) at_top here.shows))) more) broken)

    advances : (ms : List Move) (r : Result (Option Shown) UnfoldRefusal) → Rest m ls rows n list x ms → Unfolded m ls rows n list (stage_of x) after r → length after ≡ length list → Advances m ls rows n after x ms r
    advances [] r rest told kept = advances_none r rest told
    advances (v ∷ ms) r rest told kept = advances_move v ms rest r told kept

  -- the same from a stage
  pub advances_from : ((number : ℕ) → (found : Option Rule) × Under ls number found) → (list after : List ℕ) (stage : Stage) (r : Result (Option Shown) UnfoldRefusal) → Unfolded m ls rows n list stage after r → length after ≡ length list
      → (x : Position) (ms : List Move) → stage ≡ stage_of x → Rest m ls rows n list x ms → Advances m ls rows n after x ms r
  advances_from once list after stage r told kept x ms is rest = advances once list after x ms r rest (subst (λ s. Unfolded m ls rows n list s after r) is told) kept
