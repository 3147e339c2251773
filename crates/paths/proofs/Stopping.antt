-- Where a path may end, read off the book's marks.
use Rattle.std.proofs.Common.{◌≡◌, ℕ, ◌-◌, ◌*◌, ◌%◌, ◌<◌, ◌≤◌, true, false, List, length, get_or, Decides, sym, subst, arith}
use Rattle.grade.specs.declared.upto.UpTo.{UpTo}
use Rattle.book.specs.declared.tables.Book.{Book}
use Rattle.book.specs.Lines.{lines}
use Rattle.book.proofs.Standing.{end_stands, bare_stands}
use Rattle.rowtable.specs.declared.row.TableState.{TableState}
use Rattle.rowtable.specs.declared.row.TableState.TheVariants.{Node, Head}
use Rattle.rowtable.specs.Tables.{Exists}
use Rattle.rowtable.specs.Paths.{Ending, at_end, at_bare}
use Rattle.paths.specs.Cells.{index}

module _ (b : Book) where
  bare_marked : {p i : ℕ} → Ending (lines b) (Head p i) → get_or b.bares p false ≡ true
  bare_marked (at_bare p i stands) = (bare_stands b p).0 stands

  marked_bare : (p i : ℕ) → p ≤ 15 → get_or b.bares p false ≡ true → Ending (lines b) (Head p i)
  marked_bare p i low mark = let u : UpTo 15 = record { value = p; fits = low } in at_bare u i ((bare_stands b u).1 mark)

  end_marked : {t : ℕ} → Ending (lines b) (Node t) → get_or b.ends t false ≡ true
  end_marked (at_end t stands) = (end_stands b t).0 stands

  marked_end : (t : ℕ) → t ≤ 63 → get_or b.ends t false ≡ true → Ending (lines b) (Node t)
  marked_end t low mark = let u : UpTo 63 = record { value = t; fits = low } in at_end u ((end_stands b u).1 mark)

  module _ (Fs : List ℕ) (k : ℕ) where
    pub head_decides : k < 16 * length Fs → (s : TableState) → Exists Fs s → index Fs s ≡ k → Decides (get_or b.bares (k % 16) false) (Ending (lines b) s)
    head_decides lt (Node t) exists is = absurd (omega arith)
    head_decides lt (Head p i) exists is =
        let low = exists.0 in
        let e : p ≡ k % 16 = omega arith in (
          λ mark. marked_bare p i low (subst (λ q. get_or b.bares q false ≡ true) (sym e) mark),
          λ ending. subst (λ q. get_or b.bares q false ≡ true) e (bare_marked ending),
        )

    pub node_decides : 16 * length Fs ≤ k → (s : TableState) → Exists Fs s → index Fs s ≡ k → Decides (get_or b.ends (k - 16 * length Fs) false) (Ending (lines b) s)
    node_decides le (Head p i) exists is = let low = exists.0 in let few = exists.1 in absurd (omega arith)
    node_decides le (Node t) exists is =
        let e : t ≡ k - 16 * length Fs = omega arith in (
          λ mark. marked_end t exists (subst (λ q. get_or b.ends q false ≡ true) (sym e) mark),
          λ ending. subst (λ q. get_or b.ends q false ≡ true) e (end_marked ending),
        )
