-- The row table while rows are settled: rows stay at their places, and each that is settled has its rank.
use Rattle.std.specs.Prelude.{◌≡◌, ℕ, ◌+◌, ◌-◌, ◌<◌, ◌≤◌, min, T, ◌⊎◌, ◌↔◌, List, [], length, get_or, Some, Option, MatchOption, ◌≢◌, slice_index}
use Rattle.grade.specs.declared.grade.Grade.{Ghosts}
use Rattle.grade.specs.declared.waiting.Waiting.{Waiting}
use Rattle.grade.specs.Lawful.{Lawful}
use Rattle.grade.specs.Waits.{sooner}
use Rattle.queue.specs.Queues.{Queue, Single, Holds}
use Rattle.deduction.specs.Counting.{Filled, Outnumber}
use Rattle.deduction.specs.Derivations.{Derivation}
use Rattle.deduction.specs.Lists.{In}
use Rattle.deduction.specs.Saturation.{Invariant}
use Rattle.text.specs.declared.line.Line.{Line}
use Rattle.text.specs.declared.line.Rule.{Rule}
use Rattle.text.specs.declared.line.Rule.TheVariants as rule
use Rattle.text.specs.declared.line.OrderLine.{OrderLine}
use Rattle.text.specs.declared.line.NoticeLine.{NoticeLine}
use Rattle.text.specs.declared.line.Wagons.{Wagons}
use Rattle.text.specs.declared.line.Wagons.TheVariants.{Zero, One, Two}
use Rattle.model.specs.Phases.{InForce, Allows, after, Opened}
use Rattle.rows.specs.Rows.{Row, wagon, Rule as RowRule, premises, order_row, notice_row, row_rules}
use Rattle.rows.specs.Ways.{row_system}
use Rattle.rowtable.specs.declared.row.TableState.{TableState}
use Rattle.rowtable.specs.declared.row.TableState.TheVariants.{Head}
use Rattle.rowtable.specs.declared.row.TableRow.{TableRow}
use Rattle.rowtable.specs.declared.row.Reason.TheVariants as reason
use Rattle.rowtable.specs.Tables.{state_of, Exists, row_of, blank_row, row_at}
use Rattle.rowtable.specs.Reasons.{Reasoned, SettledAt}

-- the rank of a row that waits: no table has so many places
abbrev pub unranked : ℕ
unranked = 18446744073709551615

-- what tells rows apart
abbrev pub key : {G : Type 0} → TableRow G → TableState × ℕ × TableState
key r = (r.from, r.wagon, r.to)

-- the row that an order gives in the phase at place i, over rows at a and b whose grades join to g
abbrev pub row_by_order : {G : Type 0} → Ghosts G → OrderLine → ℕ → TableState → G → ℕ → ℕ → TableRow G
row_by_order m o i t g a b = record { from = Head o.mode.value i; wagon = o.wagon.value; to = t; grade = m.join (m.priced o.toll) g; rank = unranked; reason = reason.Order o.number.value a b }

-- the row that a notice gives in the phase at place i, over the row x at a
abbrev pub row_by_notice : {G : Type 0} → Ghosts G → NoticeLine → ℕ → TableRow G → ℕ → TableRow G
row_by_notice m c i x a = record { from = Head c.mode.value i; wagon = x.wagon; to = x.to; grade = m.join (m.priced c.toll) x.grade; rank = unranked; reason = reason.Notice c.number.value a }

-- the row of a line
abbrev pub row_by_line : {G : Type 0} → Ghosts G → TableState → ℕ → TableState → TableRow G
row_by_line m s k t = record { from = s; wagon = k; to = t; grade = m.best; rank = unranked; reason = reason.Line }

-- the same row with another rank
abbrev pub ranked_as : {G : Type 0} → TableRow G → ℕ → TableRow G
ranked_as r s = record { from = r.from; wagon = r.wagon; to = r.to; grade = r.grade; rank = s; reason = r.reason }

-- y goes on from x by the wagon k
pub record Goes {G : Type 0} (k : ℕ) (x y : TableRow G) : Type 0 where
  pub from : y.from ≡ x.to
  pub by : y.wagon ≡ k

module _ {G : Type 0} (m : Ghosts G) where
  -- one of the first n places holds the row r, which waits
  pub record WaitsAt (rows : List (TableRow G)) (n p : ℕ) (r : TableRow G) : Type 0 where
    pub within : p < n
    pub here : row_at m rows p ≡ r
    pub waits : r.rank ≡ unranked

  module _ (Fs : List ℕ) where
    -- some place has the row i with the grade g
    abbrev pub Has : (ℕ → TableRow G → Type 0) → Row → G → Type 0
    Has At i g = (p : ℕ) × (r : TableRow G) × At p r × (row_of Fs r ≡ i) × (r.grade ≡ g)

    -- one of the first n places has the row i with a grade no worse than g
    abbrev pub Covers : List (TableRow G) → ℕ → Row → G → Type 0
    Covers rows n i g = (k : ℕ) × (k < n) × (row_of Fs (row_at m rows k) ≡ i) × T (m.noworse (row_at m rows k).grade g)

    -- both its states exist
    abbrev pub Placed : TableRow G → Type 0
    Placed r = Exists Fs r.from × Exists Fs r.to

    -- From the first n rows of old to the first l of new: settled rows stay, the others keep their keys and may get better, and what is new is New.
    pub record Grown (s : ℕ) (New : TableRow G → Type 0) (old : List (TableRow G)) (n : ℕ) (new : List (TableRow G)) (l : ℕ) : Type 0 where
      pub more : n ≤ l
      pub kept : (p : ℕ) (r : TableRow G) → SettledAt m old n s p r → SettledAt m new l s p r
      pub back : (p : ℕ) (r : TableRow G) → SettledAt m new l s p r → SettledAt m old n s p r
      pub keys : (k : ℕ) → k < n → key (row_at m new k) ≡ key (row_at m old k)
      pub better : (k : ℕ) → k < n → T (m.noworse (row_at m new k).grade (row_at m old k).grade)
      pub rightly : (k : ℕ) → k < l → ((k < n) × (row_at m new k ≡ row_at m old k)) ⊎ New (row_at m new k)

    module _ (ls : List Line) where
      -- The table as it is at any moment, with s rows settled of n: each is there once, and the rest is blank. The queue holds the places of those that
      -- wait, each with its row's grade.
      pub record Table (rows : List (TableRow G)) (s n : ℕ) (queue : List (Waiting G)) : Type 0 where
        pub lawful : Lawful m
        pub phases : Filled (Opened ls) (λ k. slice_index Fs k) (length Fs)
        pub few : length rows ≤ unranked
        pub in_range : s ≤ n
        pub room : n ≤ length rows
        pub entries : n ≤ length queue
        pub apart : (k l : ℕ) → k < n → l < n → key (row_at m rows k) ≡ key (row_at m rows l) → k ≡ l
        pub placed : (k : ℕ) → k < n → Placed (row_at m rows k)
        pub ranked : (k : ℕ) → k < n → ((row_at m rows k).rank < s) ⊎ ((row_at m rows k).rank ≡ unranked)
        pub ranks : (k l : ℕ) → k < n → l < n → (row_at m rows k).rank < s → (row_at m rows k).rank ≡ (row_at m rows l).rank → k ≡ l
        pub blank : (k : ℕ) → n ≤ k → row_at m rows k ≡ blank_row m.best
        pub ordered : Queue (sooner m.noworse) queue (n - s)
        pub single : Single queue (n - s)
        pub holds : (e : Waiting G) → Holds queue (n - s) e ↔ ((e.row < n) × ((row_at m rows e.row).rank ≡ unranked) × (e.grade ≡ (row_at m rows e.row).grade))

      -- a row to wait, given by a rule that is Fit from rows that are At their places
      pub record Given (At : ℕ → TableRow G → Type 0) (Fit : RowRule ls → Type 0) (r : TableRow G) : Type 0 where
        pub reasoned : Reasoned m ls Fs At r
        pub fit : Fit reasoned.rule
        pub waits : r.rank ≡ unranked
        pub placed : Placed r

      -- From old to new, New rows came, until C holds.
      pub record Went (s : ℕ) (New : TableRow G → Type 0) (old : List (TableRow G)) (n : ℕ) (waited : List (Waiting G)) (new : List (TableRow G)) (l : ℕ) (queue : List (Waiting G)) (C : Type 0) : Type 0 where
        pub table : Table new s l queue
        pub grown : Grown s New old n new l
        pub rows_long : length new ≡ length old
        pub queue_long : length queue ≡ length waited
        pub done : C

      -- New rows came until no place was left, and one that is New stands nowhere.
      pub record Full (s : ℕ) (New : TableRow G → Type 0) (old : List (TableRow G)) (n places : ℕ) : Type 0 where
        pub rows : List (TableRow G)
        pub queue : List (Waiting G)
        pub table : Table rows s places queue
        pub grown : Grown s New old n rows places
        pub row : TableRow G
        pub new : New row
        pub nowhere : (k : ℕ) → k < places → key (row_at m rows k) ≢ key row

      -- how bringing New rows in ends: so that C holds of the rows, or for want of a place in the table or the queue
      abbrev pub Ends : (s : ℕ) (New : TableRow G → Type 0) (old : List (TableRow G)) (n : ℕ) (waited : List (Waiting G)) (new : List (TableRow G)) (l : ℕ) (queue : List (Waiting G)) (C : List (TableRow G) → ℕ → Type 0) → Option (Unit {0}) → Type 0
      Ends s New old n waited new l queue C r = MatchOption r (Full s New old n (min (length old) (length waited))) (λ _. Went s New old n waited new l queue (C new l))

      -- what is settled is no worse than the grade g
      abbrev pub Later : List (TableRow G) → (s n : ℕ) → G → Type 0
      Later rows s n g = (p : ℕ) (r : TableRow G) → SettledAt m rows n s p r → T (m.noworse r.grade g)

      -- x, at place a, was settled last: what is settled is no worse
      pub record Last (rows : List (TableRow G)) (s n a : ℕ) (x : TableRow G) : Type 0 where
        pub here : SettledAt m rows n s a x
        pub climbing : Later rows s n x.grade

      -- what x brings: rows by a rule that has x among its premises, all settled
      abbrev pub Brings : List (TableRow G) → (s n : ℕ) → TableRow G → TableRow G → Type 0
      Brings rows s n x = Given (SettledAt m rows n s) (λ r. In (row_of Fs x) (premises r))

      -- what x and y bring together
      abbrev pub BringsBoth : List (TableRow G) → (s n : ℕ) → (x y : TableRow G) → TableRow G → Type 0
      BringsBoth rows s n x y = Given (SettledAt m rows n s) (λ r. In (row_of Fs x) (premises r) × In (row_of Fs y) (premises r))

      -- what lines and orders that lay nothing down give
      abbrev pub Begins : TableRow G → Type 0
      Begins = Given (λ p r. ⊥) (λ r. premises r ≡ [])

    -- x starts at the head after the order, in the phase at place i, by the wagon k
    pub record Starts (o : OrderLine) (k : ℕ) (x : TableRow G) (i : ℕ) : Type 0 where
      pub from : x.from ≡ Head o.to.value i
      pub by : x.wagon ≡ k
      pub within : i < length Fs
      pub in_force : InForce (slice_index Fs i) o.number.value

    -- x starts at the head after the notice, which can be carried out in the phase at place i
    pub record Noticed (c : NoticeLine) (x : TableRow G) (i : ℕ) : Type 0 where
      pub j : ℕ
      pub from : x.from ≡ Head c.to.value j
      pub within : i < length Fs
      pub allows : Allows c (slice_index Fs i)
      pub low : j < length Fs
      pub then : get_or Fs j 0 ≡ after c (slice_index Fs i)

    -- What was tried: the order on x alone, ..
    abbrev pub TriedOne : OrderLine → ℕ → TableRow G → List (TableRow G) → ℕ → Type 0
    TriedOne o k x rows n = (i : ℕ) → Starts o k x i → Covers rows n (order_row o (slice_index Fs i) (state_of Fs x.to)) (m.join (m.priced o.toll) x.grade)

    -- .. on x and then y, ..
    abbrev pub TriedTwo : OrderLine → (k l : ℕ) → (x y : TableRow G) → List (TableRow G) → ℕ → Type 0
    TriedTwo o k l x y rows n =
        (i : ℕ) → Starts o k x i → Goes l x y → Covers rows n (order_row o (slice_index Fs i) (state_of Fs y.to)) (m.join (m.priced o.toll) (m.join x.grade y.grade))

    -- .. on x with y before and behind it, ..
    abbrev pub TriedPair : OrderLine → (k l : ℕ) → (x y : TableRow G) → List (TableRow G) → ℕ → Type 0
    TriedPair o k l x y rows n = TriedTwo o k l x y rows n × TriedTwo o k l y x rows n

    -- .. if y was settled at place b, ..
    abbrev pub TriedPairAt : OrderLine → (k l : ℕ) → TableRow G → List (TableRow G) → (n s b : ℕ) → List (TableRow G) → ℕ → Type 0
    TriedPairAt o k l x old n s b rows later = (y : TableRow G) → SettledAt m old n s b y → TriedPair o k l x y rows later

    -- .. on x and whatever was settled, by the wagons that the order lays down, ..
    abbrev pub TriedOrder : OrderLine → Wagons → (ℕ → TableRow G → Type 0) → TableRow G → List (TableRow G) → ℕ → Type 0
    TriedOrder o Zero At x rows n = Unit {0}
    TriedOrder o (One k) At x rows n = TriedOne o k.value x rows n
    TriedOrder o (Two k l) At x rows n = (p : ℕ) (y : TableRow G) → At p y → TriedPair o k.value l.value x y rows n

    -- .. and the notice on x, in the phase at place i.
    abbrev pub TriedNotice : NoticeLine → TableRow G → ℕ → List (TableRow G) → ℕ → Type 0
    TriedNotice c x i rows n = Noticed c x i → Covers rows n (notice_row c (slice_index Fs i) (wagon x.wagon) (state_of Fs x.to)) (m.join (m.priced c.toll) x.grade)

    -- the rule, if there is one, was tried on x
    pub record TriedRule (f : Option Rule) (At : ℕ → TableRow G → Type 0) (x : TableRow G) (rows : List (TableRow G)) (n : ℕ) : Type 0 where
      pub orders : (o : OrderLine) → f ≡ Some (rule.Order o) → TriedOrder o o.wagons At x rows n
      pub notices : (c : NoticeLine) → f ≡ Some (rule.Notice c) → (i : ℕ) → i < length Fs → TriedNotice c x i rows n

    -- Between two settlings: every row has a right reason among rows settled before it, rows were settled best grade first, and best-first saturation's invariant holds.
    pub record Worked (ls : List Line) (rows : List (TableRow G)) (s n : ℕ) (queue : List (Waiting G)) : Type 0 where
      pub table : Table ls rows s n queue
      pub settled_reasons : (p : ℕ) (r : TableRow G) → SettledAt m rows n s p r → Reasoned m ls Fs (SettledAt m rows n r.rank) r
      pub waiting_reasons : (p : ℕ) (r : TableRow G) → WaitsAt rows n p r → Reasoned m ls Fs (SettledAt m rows n s) r
      pub climbing : (p q : ℕ) (r y : TableRow G) → SettledAt m rows n s p r → SettledAt m rows n s q y → r.rank < y.rank → T (m.noworse r.grade y.grade)
      pub invariant : Invariant (row_system m ls) (Has (SettledAt m rows n s)) (Has (WaitsAt rows n))

    -- The best row that waits, at place a, was settled with the next rank; nothing else changed.
    pub record Settles (ls : List Line) (old : List (TableRow G)) (s n : ℕ) (waited : List (Waiting G)) (a : ℕ) (new : List (TableRow G)) (queue : List (Waiting G)) : Type 0 where
      pub within : a < n
      pub waits : (row_at m old a).rank ≡ unranked
      pub least : (k : ℕ) → k < n → (row_at m old k).rank ≡ unranked → T (m.noworse (row_at m old a).grade (row_at m old k).grade)
      pub here : row_at m new a ≡ ranked_as (row_at m old a) s
      pub others : (k : ℕ) → (k ≢ a) → row_at m new k ≡ row_at m old k
      pub table : Table ls new (s + 1) n queue
      pub rows_long : length new ≡ length old
      pub queue_long : length queue ≡ length waited

    -- how a turn ends: s rows are settled, or the saturated rows outnumber the places
    abbrev pub Turned : (ls : List Line) (old : List (TableRow G)) (waited : List (Waiting G)) (s : ℕ) (new : List (TableRow G)) (n : ℕ) (queue : List (Waiting G)) → Option (Unit {0}) → Type 0
    Turned ls old waited s new n queue r =
        MatchOption r (Outnumber (Derivation (row_rules ls)) (min (length old) (length waited))) (λ _. Worked ls new s n queue × (length new ≡ length old) × (length queue ≡ length waited))

    -- how settling so many more rows ends: so many are settled, or all; or the saturated rows outnumber the places
    abbrev pub Proceeded : (ls : List Line) (old : List (TableRow G)) (waited : List (Waiting G)) (s count : ℕ) (new : List (TableRow G)) (n : ℕ) (queue : List (Waiting G)) → Option ℕ → Type 0
    Proceeded ls old waited s count new n queue r =
        MatchOption r (Outnumber (Derivation (row_rules ls)) (min (length old) (length waited)))
        (λ q. Worked ls new q n queue × (length new ≡ length old) × (length queue ≡ length waited) × ((q ≡ s + count) ⊎ ((q ≡ n) × (q ≤ s + count))))
