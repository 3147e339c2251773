-- Paths laid out stand for runs.
use Rattle.std.proofs.Common.{◌≡◌, ℕ, zero, suc, ◌+◌, ◌<◌, List, [], ◌∷◌, ◌++◌, sym, refl, ap, ◌∙◌, subst, append_assoc, arith}
use Rattle.std.specs.List.{AllByRecursion}
use Rattle.grade.specs.declared.grade.Grade.{Ghosts}
use Rattle.grade.specs.Lawful.{Lawful}
use Rattle.text.specs.declared.line.Line.{Line}
use Rattle.model.specs.Phases.{after}
use Rattle.model.specs.Moves.{Position, at, Move, order_move, notice_move, laid_down, by_order, by_notice, stay, go}
use Rattle.model.specs.Watch.{Leads, ends, links, bare, read}
use Rattle.model.specs.Grades.{moves_grade}
use Rattle.rows.specs.Rows.{State, head, node, wagon, row}
use Rattle.rows.specs.Paths.{Stop, end_stop, bare_stop}
use Rattle.rows.proofs.Graded.{append_grade}
use Rattle.rowtable.specs.declared.row.Reason.{Reason}
use Rattle.rowtable.specs.declared.row.Reason.TheVariants as reason
use Rattle.rowtable.specs.declared.row.TableRow.{TableRow}
use Rattle.rowtable.specs.Tables.{row_of, row_at}
use Rattle.paths.specs.Layers.{PathOf, path_end, path_on}
use Rattle.paths.specs.Runs.{parts, Earlier, LineRow, StandsFor, arrived, on_order, on_notice, Chain, chain_none, chain_on, RightLine, right_link, right_watch, RightOrder, RightNotice, Right, Reasoned, StandsReach}

pub stands_reach : {G : Type 0} (m : Ghosts G) (ls : List Line) (Fs : List ℕ) (rows : List (TableRow G)) (n : ℕ) → StandsReach m ls Fs rows n
stands_reach m ls Fs rows n x ks ms (arrived held lines) = record { last = x; run = stay; held = held }
stands_reach m ls Fs rows n x ks ms (on_order {o = o} {F = F} {w = w} {ks = qs} {a = a} {b = b} {ms = ns} stands in_force lt why earlier more) =
    let rest = stands_reach m ls Fs rows n (at o.to.value F (laid_down o ++ w)) (parts o.wagons a b ++ qs) ns more in
    record { last = rest.last; run = go (by_order stands in_force) rest.run; held = rest.held }
stands_reach m ls Fs rows n x ks ms (on_notice {v = v} {F = F} {x = k} {w = w} {ks = qs} {a = a} {ms = ns} stands allows lt why earlier more) =
    let rest = stands_reach m ls Fs rows n (at v.to.value (after v F) (k ∷ w)) (a ∷ qs) ns more in
    record { last = rest.last; run = go (by_notice stands allows) rest.run; held = rest.held }

module _ {G : Type 0} (m : Ghosts G) (ls : List Line) (Fs : List ℕ) (rows : List (TableRow G)) (n : ℕ) where
  abbrev r : ℕ → TableRow G
  r = row_at m rows

  -- what places stand for from a state: from a node, link lines alone
  abbrev Good : State → List ℕ → List ℕ → List Move → Type 0
  Good (head p F) w ks ms = StandsFor m ls Fs rows n (at p F w) ks ms
  Good (node t) w ks ms = Leads ls t w × (AllByRecursion (LineRow m ls Fs rows n) ks × (ms ≡ []))

  -- moves that a row stands for, whatever comes behind it
  pub record RowGood (k : ℕ) : Type 0 where
    pub moves : List Move
    pub graded : moves_grade m moves ≡ (r k).grade
    pub shows : (s t : State) (x : ℕ) → row_of Fs (r k) ≡ row s (wagon x) t → (w ks : List ℕ) (ms : List Move) → Good t w ks ms → Good s (x ∷ w) (k ∷ ks) (moves ++ ms)

  pub record ChainGood (s : State) (v qs : List ℕ) (u : State) (g : G) : Type 0 where
    pub moves : List Move
    pub graded : moves_grade m moves ≡ g
    pub shows : (w ks : List ℕ) (ms : List Move) → Good u w ks ms → Good s (v ++ w) (qs ++ ks) (moves ++ ms)

  -- what is given of a row as a rule has it, at the row's own states
  module _ (k : ℕ) {s₀ t₀ : State} {x₀ : ℕ} (moves : List Move) (is : row_of Fs (r k) ≡ row s₀ (wagon x₀) t₀) where
    at_row : ((w ks : List ℕ) (ms : List Move) → Good t₀ w ks ms → Good s₀ (x₀ ∷ w) (k ∷ ks) (moves ++ ms))
        → (s t : State) (x : ℕ) → row_of Fs (r k) ≡ row s (wagon x) t → (w ks : List ℕ) (ms : List Move) → Good t w ks ms → Good s (x ∷ w) (k ∷ ks) (moves ++ ms)
    at_row good s t x same w ks ms behind =
        let e = sym is ∙ same in
        let from : s₀ ≡ s = ap (λ i. i.from) e in
        let to : t₀ ≡ t = ap (λ i. i.to) e in
        let label : wagon x₀ ≡ wagon x = ap (λ i. i.by) e in
        let by : x₀ ≡ x = cc in
        subst (λ q. Good q (x ∷ w) (k ∷ ks) (moves ++ ms)) from
        (subst (λ y. Good s₀ (y ∷ w) (k ∷ ks) (moves ++ ms)) by (good w ks ms (subst (λ q. Good q w ks ms) (sym to) behind)))

  module _ (lawful : Lawful m) where
    one_more : (mv : Move) (ms : List Move) → moves_grade m (mv ∷ ms) ≡ m.join (m.priced mv.toll) (moves_grade m ms)
    one_more mv ms = append_grade lawful (mv ∷ []) ms ∙ ap (λ g. m.join g (moves_grade m ms)) (lawful.unitl (m.priced mv.toll))

    chain_good : {s u : State} {v qs : List ℕ} {g : G} → Chain m ls Fs rows n s v qs u g → AllByRecursion RowGood qs → ChainGood s v qs u g
    chain_good chain_none good = record { moves = []; graded = refl; shows = λ w ks ms behind. behind }
    chain_good {s} (chain_on {t = t} {x = x} {w = v} {k = k} {ks = qs} is chain) (first, others) =
        let rest = chain_good chain others in
        record {
          moves = first.moves ++ rest.moves;
          graded = append_grade lawful first.moves rest.moves ∙ ap (λ g. m.join g (moves_grade m rest.moves)) first.graded ∙ ap (m.join (r k).grade) rest.graded;
          shows = λ w ks ms behind. subst (Good s (x ∷ (v ++ w)) (k ∷ (qs ++ ks))) (sym (append_assoc first.moves rest.moves ms))
              (first.shows s t x is (v ++ w) (qs ++ ks) (rest.moves ++ ms) (rest.shows w ks ms behind));
        }

    line_good : (k : ℕ) → k < n → (r k).reason ≡ reason.Line → RightLine m ls Fs rows n k → RowGood k
    line_good k lt why (right_link l stands is grade) = record {
      moves = [];
      graded = sym grade;
      shows = at_row k [] is (λ w ks ms (leads, (lines, none)). (links stands leads, (((lt, why), lines), none)));
    }
    line_good k lt why (right_watch v F stands is_open is grade) = record {
      moves = [];
      graded = sym grade;
      shows = at_row k [] is (λ w ks ms (leads, (lines, none)). subst (StandsFor m ls Fs rows n (at v.mode.value F (v.wagon.value ∷ w)) (k ∷ ks)) (sym none) (arrived (read stands is_open leads) ((lt, why), lines)));
    }

    order_good : (k number a b : ℕ) → k < n → (r k).reason ≡ reason.Order number a b → (o : RightOrder m ls Fs rows n k number a b) → AllByRecursion RowGood (parts o.line.wagons a b) → RowGood k
    order_good k number a b lt why o good =
        let rest = chain_good o.chain good in
        let mv = order_move o.line in
        record {
          moves = mv ∷ rest.moves;
          graded = one_more mv rest.moves ∙ ap (m.join (m.priced o.line.toll)) rest.graded ∙ o.graded;
          shows = at_row k (mv ∷ rest.moves) o.is (λ w ks ms behind.
              on_order {b = b} o.stands o.in_force lt (subst (λ j. (r k).reason ≡ reason.Order j a b) (sym o.numbered) why) o.earlier (rest.shows w ks ms behind));
        }

    notice_good : (k number a : ℕ) → k < n → (r k).reason ≡ reason.Notice number a → RightNotice m ls Fs rows n k number a → RowGood a → RowGood k
    notice_good k number a lt why o rest =
        let mv = notice_move o.line in
        record {
          moves = mv ∷ rest.moves;
          graded = one_more mv rest.moves ∙ ap (m.join (m.priced o.line.toll)) rest.graded ∙ o.graded;
          shows = at_row k (mv ∷ rest.moves) o.is (λ w ks ms behind.
              on_notice o.stands o.allows lt (subst (λ j. (r k).reason ≡ reason.Notice j a) (sym o.numbered) why) o.earlier
              (rest.shows (head o.line.to.value (after o.line o.phase)) o.to o.by o.rests w ks ms behind));
        }

    module _ (reasoned : Reasoned m ls Fs rows n) where
      all_good : (k : ℕ) (qs : List ℕ) → ((a : ℕ) → Earlier m ls Fs rows n k a → RowGood a) → AllByRecursion (Earlier m ls Fs rows n k) qs → AllByRecursion RowGood qs
      all_good k [] each all = tt
      all_good k (a ∷ qs) each (first, others) = (each a first, all_good k qs each others)

      by_reason : (k : ℕ) → k < n → ((a : ℕ) → Earlier m ls Fs rows n k a → RowGood a) → (why : Reason) → (r k).reason ≡ why → Right m ls Fs rows n k why → RowGood k
      by_reason k lt each reason.Line is right = line_good k lt is right
      by_reason k lt each (reason.Order number a b) is right = order_good k number a b lt is right (all_good k (parts right.line.wagons a b) each right.earlier)
      by_reason k lt each (reason.Notice number a) is right = notice_good k number a lt is right (each a right.earlier)

      -- by the rank
      row_good : (bound k : ℕ) → (r k).rank < bound → k < n → RowGood k
      row_good zero k below lt = absurd (omega arith)
      row_good (suc bound) k below lt = by_reason k lt (λ a (within, less). row_good bound a (omega arith) within) (r k).reason refl (reasoned k lt)

      stop_good : {s : State} → Stop ls s → Good s [] [] []
      stop_good (end_stop t stands) = (ends stands, (tt, refl))
      stop_good (bare_stop p F stands is_open) = arrived (bare stands is_open) tt

      path_good : {s : State} {w ks : List ℕ} {v : G} → PathOf m ls Fs rows n s w ks v → (ms : List Move) × (Good s w ks ms × (moves_grade m ms ≡ v))
      path_good (path_end stop) = ([], (stop_good stop, refl))
      path_good {s} (path_on {t = t} {x = x} {w = w} {k = k} {ks = ks} lt is path) =
          let (ms, (good, graded)) = path_good path in
          let first = row_good ((r k).rank + 1) k (omega arith) lt in
          (first.moves ++ ms, (first.shows s t x is w ks ms good, append_grade lawful first.moves ms ∙ ap (λ g. m.join g (moves_grade m ms)) first.graded ∙ ap (m.join (r k).grade) graded))

      pub paths_stand : (x : Position) (ks : List ℕ) (v : G) → PathOf m ls Fs rows n (head x.mode x.phase) x.lane ks v → (ms : List Move) × (StandsFor m ls Fs rows n x ks ms × (moves_grade m ms ≡ v))
      paths_stand x ks v path = path_good path
