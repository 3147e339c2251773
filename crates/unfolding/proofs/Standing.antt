-- Paths over a table of the saturated rows stand for runs.
use Rattle.std.proofs.Common.{◌≡◌, ℕ, zero, suc, ◌+◌, ◌<◌, ◌≤◌, List, [], ◌∷◌, ◌++◌, map, length, get_or, sym, refl, ap, ◌∙◌, subst, append_assoc, arith}
use Rattle.std.specs.List.{AllByRecursion}
use Rattle.grade.specs.declared.grade.Grade.{Ghosts}
use Rattle.grade.specs.Lawful.{Lawful}
use Rattle.grade.proofs.Joins.{run_grade_cons}
use Rattle.deduction.specs.Counting.{Different}
use Rattle.text.specs.declared.line.Wagons.{Wagons}
use Rattle.text.specs.declared.line.Wagons.TheVariants.{Zero, One, Two}
use Rattle.text.specs.declared.line.Line.{Line}
use Rattle.text.specs.Forms.{listed}
use Rattle.model.specs.Phases.{after, Opened}
use Rattle.model.specs.Moves.{Position, at, Move, order_move, notice_move, laid_down, by_order, by_notice, stay as no_move, go}
use Rattle.model.specs.Watch.{Leads, ends, links, bare, read, Reaches}
use Rattle.model.specs.Grades.{moves_grade}
use Rattle.rows.specs.Rows.{State, head, node, wagon, Row, row, Path, stay, step, Rule, link_rule, watch_rule, order_rule, notice_rule, premises, conclusion}
use Rattle.rows.specs.Ways.{rule_grade}
use Rattle.rows.proofs.Graded.{append_grade}
use Rattle.rowtable.specs.declared.row.Reason.{Reason}
use Rattle.rowtable.specs.declared.row.Reason.TheVariants as reason
use Rattle.rowtable.specs.declared.row.TableState.{TableState}
use Rattle.rowtable.specs.declared.row.TableRow.{TableRow}
use Rattle.rowtable.specs.Tables.{row_of, row_at, state_of, Exists}
use Rattle.rowtable.proofs.Reasons.{rests_none}
use Rattle.rowtable.specs.Reasons.{places, Names, Rests, SettledAt}
use Rattle.rowtable.specs.Paths.{Ending, at_end, at_bare, RowPath, path_end, path_on}
use Rattle.rowtable.specs.Saturated.{SaturatedTable}
use Rattle.unfolding.specs.Runs.{parts, Earlier, LineRow, StandsFor, arrived, on_order, on_notice}
use Rattle.unfolding.specs.Rest.{stack, Roomy, RestReaches, PathsStand}
use Rattle.unfolding.proofs.Stacks.{stack_long}

stands_reach : {G : Type 0} {m : Ghosts G} {ls : List Line} {rows : List (TableRow G)} {n : ℕ} {x : Position} {ks : List ℕ} {ms : List Move} → StandsFor m ls rows n x ks ms → Reaches ls x ms
stands_reach {x = x} (arrived held lines) = record { last = x; run = no_move; held = held }
stands_reach (on_order stands in_force lt why earlier more) = let rest = stands_reach more in record { last = rest.last; run = go (by_order stands in_force) rest.run; held = rest.held }
stands_reach (on_notice stands allows lt why earlier more) = let rest = stands_reach more in record { last = rest.last; run = go (by_notice stands allows) rest.run; held = rest.held }

pub rest_reaches : {G : Type 0} (m : Ghosts G) (ls : List Line) (rows : List (TableRow G)) (n : ℕ) → RestReaches m ls rows n
rest_reaches m ls rows n list x ms rest = stands_reach rest.stands

-- the places that are used of those that a reason names: one for each premise
abbrev front : List Row → List ℕ → List ℕ
front [] ps = []
front (i ∷ is) [] = []
front (i ∷ is) (p ∷ ps) = p ∷ front is ps

front_parts : (ws : Wagons) (a b : ℕ) {s u : State} {is : List Row} → Path s (map (λ k. k.value) (listed ws)) is u → front is (a ∷ b ∷ []) ≡ parts ws a b
front_parts Zero a b stay = refl
front_parts (One x) a b (step stay) = refl
front_parts (Two x y) a b (step (step stay)) = refl

module _ {G : Type 0} (m : Ghosts G) (ls : List Line) (Fs : List ℕ) (rows : List (TableRow G)) (n : ℕ) where
  abbrev r : ℕ → TableRow G
  r = row_at m rows

  -- what places stand for from a state: from a node, link lines alone
  abbrev Good : State → List ℕ → List ℕ → List Move → Type 0
  Good (head p F) w ks ms = StandsFor m ls rows n (at p F w) ks ms
  Good (node t) w ks ms = Leads ls t w × (AllByRecursion (LineRow m rows n) ks × (ms ≡ []))

  -- moves that a row stands for, whatever comes behind it
  record RowGood (k : ℕ) : Type 0 where
    pub moves : List Move
    pub graded : moves_grade m moves ≡ (r k).grade
    pub shows : (s t : State) (x : ℕ) → row_of Fs (r k) ≡ row s (wagon x) t → (w ks : List ℕ) (ms : List Move) → Good t w ks ms → Good s (x ∷ w) (k ∷ ks) (moves ++ ms)

  record ChainGood (s : State) (v qs : List ℕ) (u : State) (g : G) : Type 0 where
    pub moves : List Move
    pub graded : moves_grade m moves ≡ g
    pub shows : (w ks : List ℕ) (ms : List Move) → Good u w ks ms → Good s (v ++ w) (qs ++ ks) (moves ++ ms)

  -- what is given of a row as a rule has it, at the row's own states
  module _ (k : ℕ) {s₀ t₀ : State} {x₀ : ℕ} (moves : List Move) (is : row_of Fs (r k) ≡ row s₀ (wagon x₀) t₀) where
    at_row : ((w ks : List ℕ) (ms : List Move) → Good t₀ w ks ms → Good s₀ (x₀ ∷ w) (k ∷ ks) (moves ++ ms))
        → (s t : State) (x : ℕ) → row_of Fs (r k) ≡ row s (wagon x) t → (w ks : List ℕ) (ms : List Move) → Good t w ks ms → Good s (x ∷ w) (k ∷ ks) (moves ++ ms)
    at_row good s t x same w ks ms behind =
        let e = sym is ∙ same in
        let from : s₀ ≡ s = ap (λ i. i.from) e in
        let to : t₀ ≡ t = ap (λ i. i.to) e in
        let label : wagon x₀ ≡ wagon x = ap (λ i. i.by) e in
        let by : x₀ ≡ x = cc in
        subst (λ q. Good q (x ∷ w) (k ∷ ks) (moves ++ ms)) from
        (subst (λ y. Good s₀ (y ∷ w) (k ∷ ks) (moves ++ ms)) by (good w ks ms (subst (λ q. Good q w ks ms) (sym to) behind)))

  module _ (lawful : Lawful m) where
    -- a move, and then the others
    one_more : (mv : Move) (ms : List Move) → moves_grade m (mv ∷ ms) ≡ m.join (m.priced mv.toll) (moves_grade m ms)
    one_more mv ms = run_grade_cons lawful mv.toll (map (λ x. x.toll) ms)

    -- row k, where rows of smaller rank are good
    module _ (k : ℕ) (lt : k < n) (each : (a : ℕ) → Earlier m rows n k a → RowGood a) where
      abbrev Before : ℕ → TableRow G → Type 0
      Before = SettledAt m rows n (r k).rank

      is_earlier : (p : ℕ) (x : TableRow G) → Before p x → Earlier m rows n k p
      is_earlier p x at = (at.within, let low = at.ranked in let e = ap (λ y. y.rank) at.here in omega arith)

      chain_good : {s u : State} {w : List ℕ} {is : List Row} → Path s w is u → (ps : List ℕ) (g : G) → Rests m Fs Before is ps g → ChainGood s w (front is ps) u g
      chain_good stay ps g rests = record { moves = []; graded = sym (rests_none m Fs Before ps g rests); shows = λ w ks ms behind. behind }
      chain_good (step p) [] g never = absurd never
      chain_good {s} (step {t = t} {k = x} {w = v} {is = is} p) (q ∷ ps) g (y, h, at, is_y, rests, joins) =
          let first = each q (is_earlier q y at) in
          let rest = chain_good p ps h rests in
          record {
            moves = first.moves ++ rest.moves;
            graded = append_grade lawful first.moves rest.moves ∙ ap (λ z. m.join z (moves_grade m rest.moves)) (first.graded ∙ ap (λ z. z.grade) at.here) ∙ ap (m.join y.grade) rest.graded ∙ sym joins;
            shows = λ w ks ms behind. subst (Good s (x ∷ (v ++ w)) (q ∷ (front is ps ++ ks))) (sym (append_assoc first.moves rest.moves ms))
                (first.shows s t x (ap (row_of Fs) at.here ∙ is_y) (v ++ w) (front is ps ++ ks) (rest.moves ++ ms) (rest.shows w ks ms behind));
          }

      all_earlier : (is : List Row) (ps : List ℕ) (g : G) → Rests m Fs Before is ps g → AllByRecursion (Earlier m rows n k) (front is ps)
      all_earlier [] ps g best = tt
      all_earlier (i ∷ is) [] g never = tt
      all_earlier (i ∷ is) (p ∷ ps) g (y, h, at, is_y, rests, joins) = (is_earlier p y at, all_earlier is ps h rests)

      -- a line's row, given what goes on behind it
      line_graded : (parts : G) → parts ≡ m.best → (r k).grade ≡ m.join m.best parts → moves_grade m [] ≡ (r k).grade
      line_graded parts none graded = sym (graded ∙ ap (m.join m.best) none ∙ lawful.unitl m.best)

      by_rule : (why : Reason) → (r k).reason ≡ why → (rule : Rule ls) → Names rule why → row_of Fs (r k) ≡ conclusion rule → (rest : G) → Rests m Fs Before (premises rule) (places why) rest
          → (r k).grade ≡ m.join (rule_grade m rule) rest → RowGood k
      by_rule reason.Line is (link_rule l stands) named gives rest rests graded = record {
        moves = [];
        graded = line_graded rest rests graded;
        shows = at_row k [] gives (λ w ks ms (leads, (lines, none)). (links stands leads, (((lt, is), lines), none)));
      }
      by_rule reason.Line is (watch_rule v F stands is_open) named gives rest rests graded = record {
        moves = [];
        graded = line_graded rest rests graded;
        shows = at_row k [] gives (λ w ks ms (leads, (lines, none)). subst (StandsFor m ls rows n (at v.mode.value F (v.wagon.value ∷ w)) (k ∷ ks)) (sym none) (arrived (read stands is_open leads) ((lt, is), lines)));
      }
      by_rule reason.Line is (order_rule o F stands is_open in_force path) named gives rest rests graded = absurd named
      by_rule reason.Line is (notice_rule c F l s stands is_open allows) named gives rest rests graded = absurd named
      by_rule (reason.Order number a b) is (link_rule l stands) named gives rest rests graded = absurd named
      by_rule (reason.Order number a b) is (watch_rule v F stands is_open) named gives rest rests graded = absurd named
      by_rule (reason.Order number a b) is (order_rule o F {is = js} {s = u} stands is_open in_force path) named gives rest rests graded =
          let chain : ChainGood (head o.to.value F) (laid_down o) (parts o.wagons a b) u rest = subst (λ qs. ChainGood (head o.to.value F) (laid_down o) qs u rest) (front_parts o.wagons a b path) (chain_good path (a ∷ b ∷ []) rest rests) in
          let earlier : AllByRecursion (Earlier m rows n k) (parts o.wagons a b) = subst (AllByRecursion (Earlier m rows n k)) (front_parts o.wagons a b path) (all_earlier js (a ∷ b ∷ []) rest rests) in
          let mv = order_move o in
          record {
            moves = mv ∷ chain.moves;
            graded = one_more mv chain.moves ∙ ap (m.join (m.priced o.toll)) chain.graded ∙ sym graded;
            shows = at_row k (mv ∷ chain.moves) gives (λ w ks ms behind.
                on_order {b = b} stands in_force lt (subst (λ j. (r k).reason ≡ reason.Order j a b) (sym named) is) earlier (chain.shows w ks ms behind));
          }
      by_rule (reason.Order number a b) is (notice_rule c F l s stands is_open allows) named gives rest rests graded = absurd named
      by_rule (reason.Notice number a) is (link_rule l stands) named gives rest rests graded = absurd named
      by_rule (reason.Notice number a) is (watch_rule v F stands is_open) named gives rest rests graded = absurd named
      by_rule (reason.Notice number a) is (order_rule o F stands is_open in_force path) named gives rest rests graded = absurd named
      by_rule (reason.Notice number a) is (notice_rule c F (wagon y) s stands is_open allows) named gives rest (x, h, at, is_x, none, joins) graded =
          let first = each a (is_earlier a x at) in
          let mv = notice_move c in
          let parts_grade : moves_grade m first.moves ≡ rest = first.graded ∙ ap (λ z. z.grade) at.here ∙ sym (joins ∙ ap (m.join x.grade) none ∙ lawful.unitr x.grade) in
          record {
            moves = mv ∷ first.moves;
            graded = one_more mv first.moves ∙ ap (m.join (m.priced c.toll)) parts_grade ∙ sym graded;
            shows = at_row k (mv ∷ first.moves) gives (λ w ks ms behind.
                on_notice stands allows lt (subst (λ j. (r k).reason ≡ reason.Notice j a) (sym named) is) (is_earlier a x at)
                (first.shows (head c.to.value (after c F)) s y (ap (row_of Fs) at.here ∙ is_x) w ks ms behind));
          }

    module _ (table : SaturatedTable m ls Fs rows n) where
      -- by the rank
      row_good : (bound k : ℕ) → (r k).rank < bound → k < n → RowGood k
      row_good zero k below lt = absurd (omega arith)
      row_good (suc bound) k below lt =
          let why = table.reasons k lt in
          by_rule k lt (λ a (within, less). row_good bound a (omega arith) within) (r k).reason refl why.rule why.named (sym why.concludes) why.parts why.rests why.graded

      module _ (opens : Different (Opened ls) (λ k. get_or Fs k 0) (length Fs)) where
        stop_good : {s : TableState} → Ending ls s → Exists Fs s → Good (state_of Fs s) [] [] []
        stop_good (at_end t stands) exists = (ends stands, (tt, refl))
        stop_good (at_bare p i stands) exists = arrived (bare stands (opens.each i exists.1)) tt

        path_good : {s : TableState} {w ks : List ℕ} {v : G} → Exists Fs s → RowPath m ls rows n s w ks v → (ms : List Move) × (Good (state_of Fs s) w ks ms × (moves_grade m ms ≡ v))
        path_good exists (path_end ending) = ([], (stop_good ending exists, refl))
        path_good {s} exists (path_on {x = x} {w = w} {k = k} {ks = ks} lt from by path) =
            let (ms, (good, graded)) = path_good (table.exist k lt).1 path in
            let first = row_good ((r k).rank + 1) k (omega arith) lt in
            let t = state_of Fs (r k).to in
            let is : row_of Fs (r k) ≡ row (state_of Fs s) (wagon x) t = ap (λ q. row (state_of Fs q) (wagon (r k).wagon) t) from ∙ ap (λ y. row (state_of Fs s) (wagon y) t) by in
            (first.moves ++ ms, (first.shows (state_of Fs s) t x is w ks ms good, append_grade lawful first.moves ms ∙ ap (λ g. m.join g (moves_grade m ms)) first.graded ∙ ap (m.join (r k).grade) graded))

      path_roomy : {s : TableState} {w ks : List ℕ} {v : G} (places : ℕ) → length ks + n ≤ places → RowPath m ls rows n s w ks v → Roomy m rows places ks
      path_roomy places fits (path_end ending) = tt
      path_roomy places fits (path_on {k = k} {ks = ks} lt from by path) = (let low = table.ranked k lt in omega arith, path_roomy places (omega arith) path)

pub paths_stand : {G : Type 0} (m : Ghosts G) → Lawful m → (ls : List Line) (rows : List (TableRow G)) (n : ℕ) → PathsStand m ls rows n
paths_stand m lawful ls rows n Fs opens table x s exists is list v fits path =
    let (ms, (good, graded)) = path_good m ls Fs rows n lawful table opens exists path in
    let long = stack_long list (length x.lane) (omega arith) in (
      ms,
      (
        record {
          enough = table.enough;
          listed = omega arith;
          stands = subst (λ q. Good m ls Fs rows n q x.lane (stack list (length x.lane)) ms) is good;
          roomy = path_roomy m ls Fs rows n lawful table (length list) (omega arith) path;
        },
        graded,
      ),
    )
