-- What entries with reasons show.
use Rattle.std.proofs.Common.{◌≡◌, ℕ, zero, suc, ◌+◌, ◌<◌, List, [], ◌∷◌, ◌++◌, map, sym, refl, ap, ◌∙◌, subst, ap₂, inl, inr, append_assoc, arith}
use Rattle.std.proofs.lemmas.List.{map-append}
use Rattle.grade.specs.declared.grade.Grade.{Ghosts}
use Rattle.grade.specs.Lawful.{Lawful}
use Rattle.deduction.specs.Lists.{In}
use Rattle.text.specs.declared.line.Line.{Line}
use Rattle.model.specs.Moves.{Position, Move, stay as no_move, go}
use Rattle.model.specs.Watch.{Leads, ends, bare, Reaches}
use Rattle.model.specs.Grades.{moves_grade}
use Rattle.rows.specs.Rows.{State, head, node, Row, Path, stay}
use Rattle.rows.specs.Ways.{rule_grade}
use Rattle.rows.specs.Paths.{Stop, end_stop, bare_stop}
use Rattle.rows.specs.Reasons.{Named, Unrolls, nothing_left, unroll, Turn, has_arrived, makes_move, joined_price, Reasoned}
use Rattle.rows.specs.Theorems.{ReasonsShow, ReasonsTurn}
use Rattle.rows.proofs.Unfold.{FromNode, node_reads, FromHead, head_reads, head_moves, from_node, from_head}
use Rattle.rows.proofs.Graded.{append_grade, rule_moves_grade}

no_parts : {K : Type 0} (item : K → Row) (ks : List K) → [] ≡ map item ks → ks ≡ []
no_parts item [] none = refl
no_parts item (k ∷ ks) none = let never : ◌≡◌ {A = ℕ} 0 1 = cc in absurd (omega arith)

module _ {K : Type 0} (table : Named K) (k : K) (ks : List K) where
  -- the rows of the other entries, and those of what is left when the parts of k have taken its place
  abbrev others : List Row
  others = map table.item ks

  abbrev left : List Row
  left = map table.item (table.parts k ++ ks)

  -- where the rule of k has no premises, k has no parts, so a path of the others is one of what is left
  left_path : {s u : State} {w : List ℕ} → [] ≡ map table.item (table.parts k) → Path s w others u → Path s w left u
  left_path {s} {u} {w} none p = subst (λ ps. Path s w (map table.item (ps ++ ks)) u) (sym (no_parts table.item (table.parts k) none)) p

  -- the row of k is the one that its rule gives
  given_path : {s u : State} {w : List ℕ} {i : Row} → i ≡ table.item k → Path s w (table.item k ∷ others) u → Path s w (i ∷ others) u
  given_path {s} {u} {w} gives p = subst (λ i. Path s w (i ∷ others) u) (sym gives) p

  node_top : {ls : List Line} {t : ℕ} {w : List ℕ} {u : State} {is : List Row} {ns ms : List Move} → FromNode ls t w others u is ns → is ≡ map table.item (table.parts k) → ns ≡ table.moves k
      → ((v : ℕ) (rest : List ℕ) → Path (node v) rest left u → Leads ls v rest × (ms ≡ [])) → Leads ls t w × (table.moves k ++ ms ≡ [])
  node_top {ms = ms} (node_reads {v = v} {rest = rest} p leads) none no_own after =
      let (reads, no_moves) = after v rest (left_path none p) in
      (leads reads, ap (λ ns. ns ++ ms) (sym no_own) ∙ no_moves)

module _ {ls : List Line} {K : Type 0} {table : Named K} where
  -- from a node, entries are links and show no move
  pub node_unrolls : {ks : List K} {ms : List Move} → Unrolls ls table ks ms → (t : ℕ) (w : List ℕ) (u : State) → Path (node t) w (map table.item ks) u → Stop ls u → Leads ls t w × (ms ≡ [])
  node_unrolls nothing_left t w u stay (end_stop _ stands) = (ends stands, refl)
  node_unrolls (unroll {k = k} {ks = ks} r made rest) t w u p stop =
      node_top table k ks (from_node r (given_path table k ks made.gives p)) made.from made.by (λ v w' q. node_unrolls rest v w' u q stop)

  turn_top : (k : K) (ks : List K) {x : Position} {u : State} {is : List Row} {ns ms : List Move} → FromHead ls x (others table k ks) u is ns → is ≡ map table.item (table.parts k) → ns ≡ table.moves k
      → Unrolls ls table (table.parts k ++ ks) ms → Stop ls u → Turn ls table x u (k ∷ ks) (table.moves k ++ ms)
  turn_top k ks {x = x} {u = u} {ms = ms} (head_reads {v = v} {rest = w} p leads) none no_own rest stop =
      let (reads, no_moves) = node_unrolls rest v w u (left_path table k ks none p) stop in
      subst (Turn ls table x u (k ∷ ks)) (sym no_moves ∙ ap (λ ns. ns ++ ms) no_own) (has_arrived (leads reads))
  turn_top k ks {x = x} {u = u} {ms = ms} (head_moves {y = y} makes p) from is_move rest stop =
      let here = head y.mode y.phase in
      let led = subst (λ is. Path here y.lane (is ++ others table k ks) u) from p in
      let path = subst (λ is. Path here y.lane is u) (sym (map-append table.item (table.parts k) ks)) led in
      subst (λ ns. Turn ls table x u (k ∷ ks) (ns ++ ms)) is_move (makes_move (sym is_move) makes path rest)

  -- One move of what entries show, from a head.
  pub turn : {x : Position} {u : State} {ks : List K} {ms : List Move} → Path (head x.mode x.phase) x.lane (map table.item ks) u → Stop ls u → Unrolls ls table ks ms → Turn ls table x u ks ms
  turn stay (bare_stop p F stands is_open) nothing_left = has_arrived (bare stands is_open)
  turn p stop (unroll {k = k} {ks = ks} r made rest) = turn_top k ks (from_head r (given_path table k ks made.gives p)) made.from made.by rest stop

  -- All that they show is a run into the watch.
  turns : (ms : List Move) {x : Position} {u : State} {ks : List K} → Turn ls table x u ks ms → Stop ls u → Reaches ls x ms
  turns [] {x = x} (has_arrived held) stop = record { last = x; run = no_move; held = held }
  turns (m ∷ ms) (makes_move {y = y} is_move makes p rest) stop =
      let after = turns ms (turn {x = y} p stop rest) stop in
      record { last = after.last; run = go makes after.run; held = after.held }

  pub unrolls_run : {x : Position} {u : State} {ks : List K} {ms : List Move} → Path (head x.mode x.phase) x.lane (map table.item ks) u → Stop ls u → Unrolls ls table ks ms → Reaches ls x ms
  unrolls_run {x} {ms = ms} p stop shown = turns ms (turn {x = x} p stop shown) stop

  -- Entries one after another show the moves of the first and then those of the others.
  pub append_unrolls : {js ks : List K} {ms ns : List Move} → Unrolls ls table js ms → Unrolls ls table ks ns → Unrolls ls table (js ++ ks) (ms ++ ns)
  append_unrolls nothing_left others = others
  append_unrolls {ks = ks} {ns = ns} (unroll {k = k} {ks = js} {ms = ms} r made rest) others =
      subst (Unrolls ls table (k ∷ js ++ ks)) (sym (append_assoc (table.moves k) ms ns))
      (unroll r made (subst (λ is. Unrolls ls table is (ms ++ ns)) (append_assoc (table.parts k) js ks) (append_unrolls rest others)))

-- moves that entries show, of the grade that theirs join to
pub record Shown {G : Type 0} (m : Ghosts G) (ls : List Line) {K : Type 0} (table : Named K) (price : K → G) (ks : List K) : Type 0 where
  pub moves : List Move
  pub unrolls : Unrolls ls table ks moves
  pub graded : moves_grade m moves ≡ joined_price m price ks

-- Entries that have reasons, down to the last, show moves.
module _ {G : Type 0} {m : Ghosts G} (lawful : Lawful m) {ls : List Line} {K : Type 0} {table : Named K} {price : K → G} {rank : K → ℕ} where
  shown_more : {k : K} {ks : List K} → Reasoned m ls table price rank k → Shown m ls table price (table.parts k) → Shown m ls table price ks → Shown m ls table price (k ∷ ks)
  shown_more {k} {ks} reason parts rest =
      let own = table.moves k in
      let parts_price = joined_price m price (table.parts k) in
      let rest_price = joined_price m price ks in
      record {
        moves = own ++ (parts.moves ++ rest.moves);
        unrolls = unroll reason.rule reason.made (append_unrolls parts.unrolls rest.unrolls);
        graded =
            append_grade lawful own (parts.moves ++ rest.moves)
            ∙ ap₂ m.join (ap (moves_grade m) (sym reason.made.by) ∙ rule_moves_grade lawful reason.rule) (append_grade lawful parts.moves rest.moves ∙ ap₂ m.join parts.graded rest.graded)
            ∙ sym (lawful.assoc (rule_grade m reason.rule) parts_price rest_price)
            ∙ ap (λ x. m.join x rest_price) reason.graded;
      }

  module _ (Known : K → Type 0) (reasoned : (k : K) → Known k → Reasoned m ls table price rank k) (known_parts : (k p : K) → Known k → In p (table.parts k) → Known p) where
    pub shown_below : (n : ℕ) (ks : List K) → ((k : K) → In k ks → Known k × (rank k < n)) → Shown m ls table price ks
    shown_below n [] each = record { moves = []; unrolls = nothing_left; graded = refl }
    shown_below zero (k ∷ ks) each = absurd (omega (arith, (each k (inl refl)).1))
    shown_below (suc n) (k ∷ ks) each =
        let (known, low) = each k (inl refl) in
        let reason = reasoned k known in
        shown_more reason
        (shown_below n (table.parts k) (λ p among. (known_parts k p known among, omega (arith, reason.earlier p among, low))))
        (shown_below (suc n) ks (λ p among. each p (inr among)))

-- a bound for the ranks of a list
rank_bound : {K : Type 0} → (K → ℕ) → List K → ℕ
rank_bound rank [] = 0
rank_bound rank (k ∷ ks) = suc (rank k) + rank_bound rank ks

below_bound : {K : Type 0} (rank : K → ℕ) (ks : List K) (k : K) → In k ks → rank k < rank_bound rank ks
unfolding rank_bound
below_bound rank [] k among = absurd among
below_bound rank (j ∷ ks) k (inl is_j) = let same : rank k ≡ rank j = ap rank is_j in omega arith
below_bound rank (j ∷ ks) k (inr among) = let less = below_bound rank ks k among in omega arith

pub reasons_show : {G : Type 0} {m : Ghosts G} → Lawful m → {K : Type 0} → ReasonsShow m K
reasons_show lawful ls table price rank reasoned x u ks p stop =
    let shown = shown_below lawful (λ k. Unit {0}) (λ k known. reasoned k) (λ k p known among. tt) (rank_bound rank ks) ks (λ k among. (tt, below_bound rank ks k among)) in
    (shown.moves, shown.unrolls, unrolls_run p stop shown.unrolls, shown.graded)

pub reasons_turn : {K : Type 0} → ReasonsTurn K
reasons_turn ls table x u ks ms p stop shown = turn p stop shown
