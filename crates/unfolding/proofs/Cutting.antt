-- What is told of the rows in use, the first n, is told of the table.
use Rattle.std.proofs.Common.{◌≡◌, ℕ, ◌+◌, ◌-◌, ◌<◌, ◌≤◌, List, ◌++◌, All, reverse, length, get_or, take, drop, sym, ap, ◌∙◌, subst, arith}
use Rattle.std.specs.List.{AllByRecursion}
use Rattle.std.proofs.Math.Seq.{take-add}
use Rattle.std.proofs.lemmas.List.{length-take-le, get_or-take, drop-take, reverse-append}
use Rattle.std.proofs.lemmas.List.Elements.{All-weaker, All-from_recursion, recursion_from_All}
use Rattle.grade.specs.declared.grade.Grade.{Ghosts}
use Rattle.text.specs.declared.line.Line.{Line}
use Rattle.rowtable.specs.declared.row.TableRow.{TableRow}
use Rattle.rowtable.specs.Tables.{row_at, blank_row}
use Rattle.unfolding.specs.Rest.{stack}
use Rattle.unfolding.specs.Runs.{parts, Earlier, LineRow}
use Rattle.unfolding.specs.Shows.{Shows, shows_order, shows_notice, ShowsNone, Topmost}
use Rattle.unfolding.specs.Stacks.{PassedLines}
use Rattle.unfolding.proofs.Showing.{all_back}
use Rattle.unfolding.proofs.Stacks.{stack_more}

-- two tables that agree where they are in use
module _ {G : Type 0} (m : Ghosts G) (ls : List Line) (rows rows' : List (TableRow G)) (n n' : ℕ) (long : n ≡ n') (same : (k : ℕ) → k < n → row_at m rows k ≡ row_at m rows' k) where
  line_along : (k : ℕ) → LineRow m rows n k → LineRow m rows' n' k
  line_along k (lt, is) = (omega arith, ap (λ r. r.reason) (sym (same k lt)) ∙ is)

  earlier_along : (k : ℕ) → k < n → (a : ℕ) → Earlier m rows n k a → Earlier m rows' n' k a
  earlier_along k low a (lt, less) = (omega arith, let one = ap (λ r. r.rank) (same a lt) in let other = ap (λ r. r.rank) (same k low) in omega arith)

  shows_along : {places k : ℕ} {ks : List ℕ} {mode phase number to then : ℕ} {js : List ℕ} → Shows m ls rows n places k ks mode phase number to then js → Shows m ls rows' n' places k ks mode phase number to then js
  shows_along {k = k} (shows_order o a b by) = shows_order o a b (record {
    below = let lt = by.below in omega arith;
    why = ap (λ r. r.reason) (sym (same k by.below)) ∙ by.why;
    stands = by.stands;
    in_mode = by.in_mode;
    in_force = by.in_force;
    earlier = let ps = parts o.wagons a b in recursion_from_All (Earlier m rows' n' k) ps (All-weaker (Earlier m rows n k) (Earlier m rows' n' k) (earlier_along k by.below) ps (All-from_recursion (Earlier m rows n k) ps by.earlier));
    room = by.room;
  })
  shows_along {k = k} (shows_notice v a by) = shows_notice v a (record {
    below = let lt = by.below in omega arith;
    why = ap (λ r. r.reason) (sym (same k by.below)) ∙ by.why;
    stands = by.stands;
    in_mode = by.in_mode;
    allows = by.allows;
    earlier = earlier_along k by.below a by.earlier;
  })

module _ {G : Type 0} (m : Ghosts G) (ls : List Line) (rows used : List (TableRow G)) (n : ℕ) (le : n ≤ length rows) (cut : used ≡ take n rows) where
  long : length used ≡ n
  long = ap length cut ∙ length-take-le n rows le

  same : (k : ℕ) → k < length used → row_at m used k ≡ row_at m rows k
  same k lt = ap (λ rs. get_or rs k (blank_row m.best)) cut ∙ get_or-take n rows k (blank_row m.best) (let e = long in omega arith)

  back : (k : ℕ) → k < n → row_at m rows k ≡ row_at m used k
  back k lt = sym (same k (let e = long in omega arith))

  line : (k : ℕ) → LineRow m used (length used) k → LineRow m rows n k
  line = line_along m ls used rows (length used) n long same

  pub shows : {places k : ℕ} {ks : List ℕ} {mode phase number to then : ℕ} {js : List ℕ} → Shows m ls used (length used) places k ks mode phase number to then js → Shows m ls rows n places k ks mode phase number to then js
  shows = shows_along m ls used rows (length used) n long same

  pub shows_none : {places k : ℕ} {ks : List ℕ} {mode phase : ℕ} → ShowsNone m ls used (length used) places k ks mode phase → ShowsNone m ls rows n places k ks mode phase
  shows_none none number to then js shown = none number to then js (shows_along m ls rows used n (length used) (sym long) back shown)

  -- the first places of the list are the stack
  module _ (list : List ℕ) (count : ℕ) (listed : count ≤ length list) (held : List ℕ) (is : held ≡ take count list) where
    lines_back : (js : List ℕ) → All (LineRow m used (length used)) js → AllByRecursion (LineRow m rows n) (reverse js)
    lines_back js all = recursion_from_All (LineRow m rows n) (reverse js) (all_back (LineRow m rows n) js (All-weaker (LineRow m used (length used)) (LineRow m rows n) line js all))

    -- all are rows of lines
    pub all_lines : All (LineRow m used (length used)) held → AllByRecursion (LineRow m rows n) (stack list count)
    all_lines all = lines_back (take count list) (subst (All (LineRow m used (length used))) is all)

    -- or one is the topmost that is not
    pub topmost : (top : ℕ) → PassedLines m used held top → Topmost m rows n (stack list count) (get_or list top 0) (stack list top)
    topmost top passed =
        let low : top < count = let l = passed.low in let e = ap length is in let f = length-take-le count list listed in omega arith in
        let rest = count - (top + 1) in
        let e : top + 1 + rest ≡ count = omega arith in
        let behind = take rest (drop (top + 1) list) in
        let above : drop (top + 1) held ≡ behind = ap (drop (top + 1)) (is ∙ ap (λ k. take k list) (sym e)) ∙ drop-take (top + 1) rest list in
        record {
          passed = reverse behind;
          lines = lines_back behind (subst (All (LineRow m used (length used))) above passed.lines);
          is =
              ap (stack list) (sym e) ∙ ap reverse (take-add (top + 1) rest list) ∙ reverse-append (take (top + 1) list) behind
              ∙ ap (λ ks. reverse behind ++ ks) (stack_more list top (omega arith));
          other = λ line. passed.other (line_along m ls rows used n (length used) (sym long) back (get_or held top 0)
              (subst (LineRow m rows n) (sym (get_or-take count list top 0 low) ∙ ap (λ ks. get_or ks top 0) (sym is)) line));
        }
