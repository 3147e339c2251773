-- What a row can show, by the order or notice that its reason names.
use Rattle.std.proofs.Common.{◌≡◌, ℕ, ◌-◌, ◌<◌, ◌≤◌, true, false, List, [], ◌∷◌, ◌++◌, All, reverse, length, get_or, Some, None, Option, sym, ap, ◌∙◌, subst, arith, length-append}
use Rattle.std.specs.List.{AllByRecursion}
use Rattle.std.proofs.lemmas.List.{get_or-reverse, length-reverse, reverse-reverse}
use Rattle.std.proofs.lemmas.List.Elements.{All-from_recursion, recursion_from_All}
use Rattle.grade.specs.declared.grade.Grade.{Ghosts}
use Rattle.text.specs.declared.line.OrderLine.{OrderLine}
use Rattle.text.specs.declared.line.NoticeLine.{NoticeLine}
use Rattle.text.specs.declared.line.Line.{Line}
use Rattle.text.specs.declared.line.Rule.{Rule}
use Rattle.text.specs.declared.line.Rule.TheVariants as rule
use Rattle.model.specs.Phases.{InForce, Allows}
use Rattle.moves.specs.declared.stage.Stage.{Stage}
use Rattle.rowtable.specs.declared.row.Reason.TheVariants as reason
use Rattle.rowtable.specs.declared.row.TableRow.{TableRow}
use Rattle.rowtable.specs.Reasons.{reason_number}
use Rattle.rowtable.specs.Tables.{row_at}
use Rattle.unfolding.specs.Rest.{stack}
use Rattle.unfolding.specs.Runs.{parts, Earlier}
use Rattle.unfolding.specs.Shows.{Under, Below, Led, ByOrder, ByNotice, Shows, shows_order, shows_notice, ShowsNone}
use Rattle.unfolding.specs.Stacks.{Fit, Put}
use Rattle.unfolding.proofs.Stacks.{stack_long}

-- an answer cannot be both
pub clash : false ≡ true → ⊥
clash e = let never : ◌≡◌ {A = ℕ} 0 1 = cc in omega arith

-- what holds of all holds of all in the other order
pub all_back : {X : Type 0} (P : X → Type 0) (xs : List X) → All P xs → All P (reverse xs)
all_back P xs all k d lt =
    let long = length-reverse xs in
    subst P (sym (get_or-reverse xs k d (omega arith))) (all (length xs - 1 - k) d (omega arith))

module _ {G : Type 0} {m : Ghosts G} {ls : List Line} {rows : List (TableRow G)} {n places k : ℕ} {ks : List ℕ} {mode phase : ℕ} where
  -- what is shown, under other names
  shows_same : {number to then number' to' then' : ℕ} {js js' : List ℕ} → number ≡ number' → to ≡ to' → then ≡ then' → js ≡ js' → Shows m ls rows n places k ks mode phase number to then js
      → Shows m ls rows n places k ks mode phase number' to' then' js'
  shows_same {number} {to} {then} {number'} {to'} {then'} {js} {js'} p q r e shows =
      subst (λ i. Shows m ls rows n places k ks mode phase i to' then' js') p
      (subst (λ i. Shows m ls rows n places k ks mode phase number i then' js') q
      (subst (λ i. Shows m ls rows n places k ks mode phase number to i js') r
      (subst (Shows m ls rows n places k ks mode phase number to then) e shows)))

module _ {G : Type 0} (m : Ghosts G) (ls : List Line) (rows : List (TableRow G)) (list : List ℕ) (top : ℕ) (stage : Stage) where
  abbrev k : ℕ
  k = get_or list top 0

  abbrev n : ℕ
  n = length rows

  abbrev below : List ℕ
  below = stack list top

  -- the row at the top shows nothing
  abbrev Nothing : Type 0
  Nothing = ShowsNone m ls rows n (length list) k below stage.mode stage.phase

  -- a row that is not there
  pub none_past : n ≤ k → Nothing
  none_past past number to then js (shows_order o a b by) = let low = by.below in omega arith
  none_past past number to then js (shows_notice v a by) = let low = by.below in omega arith

  -- the rows that are to make way for the top are there exactly where they fit
  fit : (rank : ℕ) (ps : List ℕ) → top < length list → rank ≡ (row_at m rows k).rank → AllByRecursion (Earlier m rows n k) ps → length (ps ++ below) ≤ length list → Fit m rows rank (length list) top (reverse ps)
  fit rank ps low is earlier room =
      let long = stack_long list top (omega arith) in
      let both = length-append ps below in
      let back = length-reverse ps in
      record { earlier = subst (λ i. All (Below m rows i) (reverse ps)) (sym is) (all_back (Earlier m rows n k) ps (All-from_recursion (Earlier m rows n k) ps earlier)); room = omega arith }

  earlier : (rank : ℕ) (ps : List ℕ) → rank ≡ (row_at m rows k).rank → Fit m rows rank (length list) top (reverse ps) → AllByRecursion (Earlier m rows n k) ps
  earlier rank ps is fits = recursion_from_All (Earlier m rows n k) ps (subst (All (Earlier m rows n k)) (reverse-reverse ps) (all_back (Earlier m rows n k) (reverse ps) (subst (λ i. All (Below m rows i) (reverse ps)) is fits.earlier)))

  room : (rank : ℕ) (ps : List ℕ) → top < length list → Fit m rows rank (length list) top (reverse ps) → length (ps ++ below) ≤ length list
  room rank ps low fits =
      let long = stack_long list top (omega arith) in
      let both = length-append ps below in
      let back = length-reverse ps in
      let le = fits.room in
      omega arith

  -- r is the row at the top
  module _ (low : top < length list) (r : TableRow G) (here : r ≡ row_at m rows k) where
    pub none_line : None ≡ reason_number r.reason → Nothing
    none_line line number to then js (shows_order o a b by) =
        let e : None ≡ Some o.number.value = line ∙ ap (λ x. reason_number x.reason) here ∙ ap reason_number by.why in let never : ◌≡◌ {A = ℕ} 0 1 = cc in omega arith
    none_line line number to then js (shows_notice v a by) =
        let e : None ≡ Some v.number.value = line ∙ ap (λ x. reason_number x.reason) here ∙ ap reason_number by.why in let never : ◌≡◌ {A = ℕ} 0 1 = cc in omega arith

    module _ {number : ℕ} {found : Option Rule} (named : Some number ≡ reason_number r.reason) (under : Under ls number found) where
      -- at most the order or notice under its number
      only : ((o : OrderLine) (a b : ℕ) → found ≡ Some (rule.Order o) → r.reason ≡ reason.Order o.number.value a b → ByOrder m ls rows n (length list) k below stage.mode stage.phase o a b → ⊥)
          → ((v : NoticeLine) (a : ℕ) → found ≡ Some (rule.Notice v) → r.reason ≡ reason.Notice v.number.value a → ByNotice m ls rows n (length list) k stage.mode stage.phase v a → ⊥) → Nothing
      only none_order none_notice j to then js (shows_order o a b by) =
          let why = ap (λ x. x.reason) here ∙ by.why in
          let e : Some number ≡ Some o.number.value = named ∙ ap reason_number why in
          let same : o.number.value ≡ number = cc in
          none_order o a b ((under (rule.Order o)).0 (by.stands, same)) why by
      only none_order none_notice j to then js (shows_notice v a by) =
          let why = ap (λ x. x.reason) here ∙ by.why in
          let e : Some number ≡ Some v.number.value = named ∙ ap reason_number why in
          let same : v.number.value ≡ number = cc in
          none_notice v a ((under (rule.Notice v)).0 (by.stands, same)) why by

      pub none_found : found ≡ None → Nothing
      none_found none = only
          (λ o a b is why by. let e : None ≡ Some (rule.Order o) = sym none ∙ is in let never : ◌≡◌ {A = ℕ} 0 1 = cc in omega arith)
          (λ v a is why by. let e : None ≡ Some (rule.Notice v) = sym none ∙ is in let never : ◌≡◌ {A = ℕ} 0 1 = cc in omega arith)

      -- it cannot be carried out
      pub none_led : (x : Rule) → found ≡ Some x → Led x stage None → Nothing
      none_led (rule.Order p) found_is stuck = only
          (λ o a b is why by. let e : Some (rule.Order o) ≡ Some (rule.Order p) = sym is ∙ found_is in let same : o ≡ p = cc in
          stuck (subst (λ q. q.mode.value ≡ stage.mode) same by.in_mode) (subst (λ q. InForce stage.phase q.number.value) same by.in_force))
          (λ v a is why by. let e : Some (rule.Notice v) ≡ Some (rule.Order p) = sym is ∙ found_is in let never : ◌≡◌ {A = ℕ} 0 1 = cc in omega arith)
      none_led (rule.Notice w) found_is stuck = only
          (λ o a b is why by. let e : Some (rule.Order o) ≡ Some (rule.Notice w) = sym is ∙ found_is in let never : ◌≡◌ {A = ℕ} 0 1 = cc in omega arith)
          (λ v a is why by. let e : Some (rule.Notice v) ≡ Some (rule.Notice w) = sym is ∙ found_is in let same : v ≡ w = cc in
          stuck (subst (λ q. q.mode.value ≡ stage.mode) same by.in_mode) (subst (λ q. Allows q stage.phase) same by.allows))

      -- the reason names another kind of rule
      pub none_order : {x : Rule} {p : OrderLine} → found ≡ Some x → x ≡ rule.Order p → ((j a b : ℕ) → r.reason ≡ reason.Order j a b → ⊥) → Nothing
      none_order {x} {p} found_is kind other = only
          (λ o a b is why by. other o.number.value a b why)
          (λ v a is why by. let e : Some (rule.Notice v) ≡ Some (rule.Order p) = sym is ∙ found_is ∙ ap Some kind in let never : ◌≡◌ {A = ℕ} 0 1 = cc in omega arith)

      pub none_notice : {x : Rule} {w : NoticeLine} → found ≡ Some x → x ≡ rule.Notice w → ((j a : ℕ) → r.reason ≡ reason.Notice j a → ⊥) → Nothing
      none_notice {x} {w} found_is kind other = only
          (λ o a b is why by. let e : Some (rule.Order o) ≡ Some (rule.Notice w) = sym is ∙ found_is ∙ ap Some kind in let never : ◌≡◌ {A = ℕ} 0 1 = cc in omega arith)
          (λ v a is why by. other v.number.value a why)

      module _ {x : Rule} (found_is : found ≡ Some x) where
        -- an order, and what it rests on
        module _ {p : OrderLine} {j c d : ℕ} (kind : x ≡ rule.Order p) (why : r.reason ≡ reason.Order j c d) where
          pub order_stuck : (Fit m rows r.rank (length list) top (reverse (parts p.wagons c d)) → ⊥) → Nothing
          order_stuck stuck = only
              (λ o a b is named_so by.
              let e : Some (rule.Order o) ≡ Some (rule.Order p) = sym is ∙ found_is ∙ ap Some kind in
              let same : o ≡ p = cc in
              let f : reason.Order o.number.value a b ≡ reason.Order j c d = sym named_so ∙ why in
              let first : a ≡ c = cc in
              let second : b ≡ d = cc in
              let by' = subst (λ q. ByOrder m ls rows n (length list) k below stage.mode stage.phase q c d) same
              (subst (λ i. ByOrder m ls rows n (length list) k below stage.mode stage.phase o c i) second (subst (λ i. ByOrder m ls rows n (length list) k below stage.mode stage.phase o i b) first by)) in
              stuck (fit r.rank (parts p.wagons c d) low (ap (λ y. y.rank) here) by'.earlier by'.room))
              (λ v a is named_so by. let e : Some (rule.Notice v) ≡ Some (rule.Order p) = sym is ∙ found_is ∙ ap Some kind in let never : ◌≡◌ {A = ℕ} 0 1 = cc in omega arith)

          pub order_shown : k < n → (s : Stage) → Led x stage (Some s) → (after : List ℕ) (count : ℕ) → Put m rows r.rank list top (reverse (parts p.wagons c d)) after count
              → Shows m ls rows n (length list) k below stage.mode stage.phase number s.mode s.phase (stack after count)
          order_shown lt s led after count put =
              let (in_mode, in_force, is) = subst (λ y. Led y stage (Some s)) kind led in
              let (stands, same) = (under (rule.Order p)).1 (found_is ∙ ap Some kind) in
              let e : Some number ≡ Some j = named ∙ ap reason_number why in
              let numbers : j ≡ p.number.value = cc in
              shows_same same (sym (ap (λ y. y.mode) is)) (sym (ap (λ y. y.phase) is)) (ap (λ ps. ps ++ below) (sym (reverse-reverse (parts p.wagons c d))) ∙ sym put.stands)
              (shows_order p c d (record {
                below = lt;
                why = sym (ap (λ y. y.reason) here) ∙ why ∙ ap (λ i. reason.Order i c d) numbers;
                stands = stands;
                in_mode = in_mode;
                in_force = in_force;
                earlier = earlier r.rank (parts p.wagons c d) (ap (λ y. y.rank) here) put.fit;
                room = room r.rank (parts p.wagons c d) low put.fit;
              }))

        -- a notice, and what it rests on
        module _ {w : NoticeLine} {j c : ℕ} (kind : x ≡ rule.Notice w) (why : r.reason ≡ reason.Notice j c) where
          pub notice_stuck : (Fit m rows r.rank (length list) top (c ∷ []) → ⊥) → Nothing
          notice_stuck stuck = only
              (λ o a b is named_so by. let e : Some (rule.Order o) ≡ Some (rule.Notice w) = sym is ∙ found_is ∙ ap Some kind in let never : ◌≡◌ {A = ℕ} 0 1 = cc in omega arith)
              (λ v a is named_so by.
              let f : reason.Notice v.number.value a ≡ reason.Notice j c = sym named_so ∙ why in
              let first : a ≡ c = cc in
              let long = stack_long list top (omega arith) in
              stuck (fit r.rank (c ∷ []) low (ap (λ y. y.rank) here) (subst (Earlier m rows n k) first by.earlier, tt) (omega arith)))

          pub notice_shown : k < n → (s : Stage) → Led x stage (Some s) → (after : List ℕ) (count : ℕ) → Put m rows r.rank list top (c ∷ []) after count
              → Shows m ls rows n (length list) k below stage.mode stage.phase number s.mode s.phase (stack after count)
          notice_shown lt s led after count put =
              let (in_mode, allows, is) = subst (λ y. Led y stage (Some s)) kind led in
              let (stands, same) = (under (rule.Notice w)).1 (found_is ∙ ap Some kind) in
              let e : Some number ≡ Some j = named ∙ ap reason_number why in
              let numbers : j ≡ w.number.value = cc in
              shows_same same (sym (ap (λ y. y.mode) is)) (sym (ap (λ y. y.phase) is)) (sym put.stands)
              (shows_notice w c (record {
                below = lt;
                why = sym (ap (λ y. y.reason) here) ∙ why ∙ ap (λ i. reason.Notice i c) numbers;
                stands = stands;
                in_mode = in_mode;
                allows = allows;
                earlier = (earlier r.rank (c ∷ []) (ap (λ y. y.rank) here) put.fit).0;
              }))
