-- A line more in one of a book's tables: the table stays in order, and the line is put among the book's lines. Assumes nothing.
use Rattle.std.proofs.Common.{◌≡◌, ℕ, ◌+◌, ◌-◌, ◌<◌, Bool, true, false, cond, leb, List, [], ◌∷◌, map, length, get_or, take, drop, set, replicate, is_some, Some, None, Option, sym, refl, ap, ◌∙◌, subst, arith}
use Rattle.std.proofs.lemmas.List.{length-map, length-take-le, take-append-drop, drop-drop, drop-replicate, get_or_default}
use Rattle.std.proofs.lemmas.Bool.{leb-false, true≢false}
use Rattle.std.specs.List.{AllByRecursion}
use Rattle.std.proofs.ByRecursion.{All-append, All-take, All-drop}
use Rattle.grade.specs.ValuesLemmas.{same_upto}
use Rattle.grade.specs.declared.upto.UpTo.{UpTo}
use Rattle.text.specs.declared.line.Line.{Line}
use Rattle.text.specs.declared.line.Line.TheVariants as line
use Rattle.text.specs.declared.line.WatchLine.{WatchLine}
use Rattle.text.specs.declared.line.LinkLine.{LinkLine}
use Rattle.text.specs.Numerals.{kept}
use Rattle.text.specs.Meaning.{Within}
use Rattle.text.specs.declared.line.Rule.{Rule}
use Rattle.text.specs.declared.line.Rule.TheVariants.{Order, Notice}
use Rattle.book.specs.declared.tables.Book.{Book}
use Rattle.book.specs.Order.{Ascending, Tidy, among, put}
use Rattle.book.specs.Ranks.{Kind, rules, opens, watches, links, ends, bares, kind, start, rank, phase_rank, watch_rank, link_rank}
use Rattle.book.specs.Tables.{blank_watch, blank_link, filled, rule_line, end_line, bare_line, by_number}
use Rattle.book.specs.Lines.{lines_of, lines}
use Rattle.book.specs.Entering.{clashes, many}
use Rattle.book.proofs.Ascent.{ascending_told, put_all, put_ascending, put_map, among_map}
use Rattle.book.proofs.Seats.{Seated, seats_put, seats_among}
use Rattle.book.proofs.Books.{kept_is, clash_kind, many_lines, rules_seated, ends_seated, bares_seated}

-- the table of a kind whose rows are in use from the first on
pub record Rows (b : Book) (k : Kind) (X : Type 0) : Type 0 where
  pub line : X → Line
  pub low : X → ℕ
  pub blank : X
  pub size : ℕ
  pub rows : List X
  pub used : ℕ
  pub rank_is : (x : X) → rank (line x) ≡ start k + low x
  pub kind_is : (x : X) → kind (line x) ≡ k
  pub lines_are : lines_of b k ≡ map line (take used rows)
  pub tidy : Tidy low blank size rows used

abbrev pub opens_rows : (b : Book) → Rows b opens ℕ
opens_rows b = record { line = line.Open; low = phase_rank; blank = 0; size = 8; rows = b.opens; used = b.opening; rank_is = λ _. refl; kind_is = λ _. refl; lines_are = refl; tidy = b.opened }

abbrev pub watches_rows : (b : Book) → Rows b watches WatchLine
watches_rows b = record { line = line.Watch; low = watch_rank; blank = blank_watch; size = 128; rows = b.watches; used = b.watching; rank_is = λ _. refl; kind_is = λ _. refl; lines_are = refl; tidy = b.watched }

abbrev pub links_rows : (b : Book) → Rows b links LinkLine
links_rows b = record { line = line.Link; low = link_rank; blank = blank_link; size = 128; rows = b.links; used = b.linking; rank_is = λ _. refl; kind_is = λ _. refl; lines_are = refl; tidy = b.linked }

module _ {b : Book} {k : Kind} {X : Type 0} (t : Rows b k X) where
  pub rows_many : many k (lines b) ≡ t.used
  rows_many =
      let long = t.tidy.0 in
      let few = t.tidy.1 in
      many_lines b k ∙ ap length t.lines_are ∙ length-map (take t.used t.rows) t.line ∙ length-take-le t.used t.rows (omega arith)

  pub rows_up : Ascending t.low (take t.used t.rows)
  rows_up = ascending_told t.low (take t.used t.rows) t.tidy.2

  -- where the kind is not full, a row is free
  pub rows_room : leb t.size (many k (lines b)) ≡ false → t.used < t.size
  rows_room room = let lt = leb-false t.size (many k (lines b)) room in let e = rows_many in omega arith

  pub rows_clash : (x : X) → Within (t.line x) → clashes (lines b) (t.line x) ≡ among t.low (t.low x) (take t.used t.rows)
  rows_clash x w =
      clash_kind b (t.line x) w ∙ ap (λ j. among rank (rank (t.line x)) (lines_of b j)) (t.kind_is x) ∙ ap (among rank (rank (t.line x))) t.lines_are
      ∙ among_map t.line rank t.low (start k) t.rank_is x (take t.used t.rows)

  -- x placed among the rows in use
  module _ (x : X) (after : List X) (placed : take (t.used + 1) after ≡ put t.low x (take t.used t.rows)) where
    pub rows_put : map t.line (take (t.used + 1) after) ≡ put rank (t.line x) (lines_of b k)
    rows_put = ap (map t.line) placed ∙ sym (ap (put rank (t.line x)) t.lines_are ∙ put_map t.line rank t.low (start k) t.rank_is x (take t.used t.rows))

    pub rows_tidy : Within (t.line x) → clashes (lines b) (t.line x) ≡ false → leb t.size (many k (lines b)) ≡ false → length after ≡ length t.rows → drop (t.used + 1) after ≡ drop (t.used + 1) t.rows
        → Tidy t.low t.blank t.size after (t.used + 1)
    rows_tidy w new room long rest =
        let free = rows_room room in
        let e : t.size - t.used - 1 ≡ t.size - (t.used + 1) = omega arith in (
          long ∙ t.tidy.0,
          omega arith,
          ∣ subst (Ascending t.low) (sym placed) (put_ascending t.low x (take t.used t.rows) rows_up (sym (rows_clash x w) ∙ new)) ∣₁,
          rest ∙ sym (drop-drop 1 t.used t.rows) ∙ ap (drop 1) t.tidy.3 ∙ drop-replicate 1 (t.size - t.used) t.blank ∙ ap (λ m. replicate m t.blank) e,
        )

-- what holds of each row, and of x, holds of each row after x was placed among the first n
pub all_placed : {X : Type 0} (low : X → ℕ) (P : X → Type 0) (rows after : List X) (n : ℕ) (x : X) → P x → AllByRecursion P rows → take (n + 1) after ≡ put low x (take n rows) → drop (n + 1) after ≡ drop (n + 1) rows → AllByRecursion P after
all_placed low P rows after n x p h used rest =
    subst (AllByRecursion P) (take-append-drop (n + 1) after)
    (All-append P (take (n + 1) after) (drop (n + 1) after) (subst (AllByRecursion P) (sym used) (put_all low P x (take n rows) p (All-take P n rows h))) (subst (AllByRecursion P) (sym rest) (All-drop P (n + 1) rows h)))

-- a place that goes by number
seat_clash : {X : Type 0} (at : ℕ → X → List Line) (k : Kind) (b : Book) (xs : List X) (d : X) → lines_of b k ≡ by_number at 0 xs → Seated at k 0 xs
    → (l : Line) (i : ℕ) → kind l ≡ k → Within l → rank l ≡ start k + i → i < length xs → clashes (lines b) l ≡ filled (at i (get_or xs i d))
seat_clash at k b xs d own seated l i of w is lt =
    clash_kind b l w ∙ ap (λ j. among rank (rank l) (lines_of b j)) of ∙ (λ j. among rank (is j) (own j)) ∙ seats_among at k 0 xs i i d (omega arith) lt seated

unfilled : (ls : List Line) → filled ls ≡ false → ls ≡ []
unfilled [] e = refl
unfilled (l ∷ ls) e = absurd (true≢false e)

seat_put : {X : Type 0} (at : ℕ → X → List Line) (k : Kind) (b : Book) (xs : List X) (d : X) → lines_of b k ≡ by_number at 0 xs → Seated at k 0 xs
    → (l : Line) (i : ℕ) → kind l ≡ k → Within l → rank l ≡ start k + i → i < length xs → clashes (lines b) l ≡ false
    → (y : X) → at i y ≡ l ∷ [] → by_number at 0 (set xs i y) ≡ put rank l (lines_of b k)
seat_put at k b xs d own seated l i of w is lt new y one =
    seats_put at k 0 xs i i d y l (omega arith) lt seated (unfilled (at i (get_or xs i d)) (sym (seat_clash at k b xs d own seated l i of w is lt) ∙ new)) one is
    ∙ ap (put rank l) (sym own)

pub rule_put : (b : Book) (l : Line) (i : ℕ) → kind l ≡ rules → Within l → rank l ≡ i → i < 64 → clashes (lines b) l ≡ false
    → (r : Option Rule) → rule_line i r ≡ l ∷ [] → by_number rule_line 0 (set b.rules i r) ≡ put rank l (lines_of b rules)
rule_put b l i of w is lt new r one = let long = b.numbered.0 in seat_put rule_line rules b b.rules None refl (rules_seated b) l i of w (omega arith) (omega arith) new r one

pub end_put : (b : Book) (t : UpTo 63) (i : ℕ) → i ≡ t.value → clashes (lines b) (line.End t) ≡ false → by_number end_line 0 (set b.ends i true) ≡ put rank (line.End t) (lines_of b ends)
end_put b t i is new =
    let long = b.marked.0 in
    let fits = t.fits in
    seat_put end_line ends b b.ends false refl (ends_seated b) (line.End t) i refl tt (omega arith) (omega arith) new true
    (ap (λ u. line.End u ∷ []) (same_upto 63 (kept 63 i) t (kept_is 63 i (omega arith) ∙ is)))

pub bare_put : (b : Book) (p : UpTo 15) (i : ℕ) → i ≡ p.value → clashes (lines b) (line.Bare p) ≡ false → by_number bare_line 0 (set b.bares i true) ≡ put rank (line.Bare p) (lines_of b bares)
bare_put b p i is new =
    let long = b.marked.1 in
    let fits = p.fits in
    seat_put bare_line bares b b.bares false refl (bares_seated b) (line.Bare p) i refl tt (omega arith) (omega arith) new true
    (ap (λ u. line.Bare u ∷ []) (same_upto 15 (kept 15 i) p (kept_is 15 i (omega arith) ∙ is)))

is_filled : (i : ℕ) (r : Option Rule) → is_some r ≡ filled (rule_line i r)
is_filled i None = refl
is_filled i (Some (Order o)) = refl
is_filled i (Some (Notice n)) = refl

pub rule_stands : (b : Book) (l : Line) (i : ℕ) (d : Option Rule) → kind l ≡ rules → Within l → rank l ≡ i → i < 64 → is_some (get_or b.rules i d) ≡ clashes (lines b) l
rule_stands b l i d of w is lt =
    let long = b.numbered.0 in
    ap is_some (get_or_default b.rules i d None (omega arith)) ∙ is_filled i (get_or b.rules i None)
    ∙ sym (seat_clash rule_line rules b b.rules None refl (rules_seated b) l i of w (omega arith) (omega arith))

flag : (l : Line) (t : Bool) → filled (cond t (l ∷ []) []) ≡ t
flag l true = refl
flag l false = refl

pub end_clash : (b : Book) (t : UpTo 63) (i : ℕ) → i ≡ t.value → clashes (lines b) (line.End t) ≡ get_or b.ends i false
end_clash b t i is =
    let long = b.marked.0 in
    let fits = t.fits in
    seat_clash end_line ends b b.ends false refl (ends_seated b) (line.End t) i refl tt (omega arith) (omega arith) ∙ flag (line.End (kept 63 i)) (get_or b.ends i false)

pub bare_clash : (b : Book) (p : UpTo 15) (i : ℕ) → i ≡ p.value → clashes (lines b) (line.Bare p) ≡ get_or b.bares i false
bare_clash b p i is =
    let long = b.marked.1 in
    let fits = p.fits in
    seat_clash bare_line bares b b.bares false refl (bares_seated b) (line.Bare p) i refl tt (omega arith) (omega arith) ∙ flag (line.Bare (kept 15 i)) (get_or b.bares i false)
