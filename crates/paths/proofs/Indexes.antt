-- States by number.
use Rattle.std.proofs.Common.{◌≡◌, ℕ, ◌<◌, List, ap, arith}
use Rattle.rowtable.specs.declared.row.TableState.{TableState}
use Rattle.rowtable.specs.declared.row.TableState.TheVariants.{Node, Head}
use Rattle.rowtable.specs.Tables.{Exists}
use Rattle.paths.specs.Cells.{width, index}

pub index_below : (Fs : List ℕ) (s : TableState) → Exists Fs s → index Fs s < width Fs
index_below Fs (Node t) exists = omega arith
index_below Fs (Head p i) exists = let low = exists.0 in let few = exists.1 in omega arith

-- states that exist have places of their own
pub same_index : (Fs : List ℕ) (s t : TableState) → Exists Fs s → Exists Fs t → index Fs s ≡ index Fs t → s ≡ t
same_index Fs (Node a) (Node b) here there same = let e : a ≡ b = omega arith in ap Node e
same_index Fs (Node a) (Head p i) here there same = let low = there.0 in let few = there.1 in absurd (omega arith)
same_index Fs (Head p i) (Node b) here there same = let low = here.0 in let few = here.1 in absurd (omega arith)
same_index Fs (Head p i) (Head q j) here there same =
    let low = here.0 in
    let lower = there.0 in
    let e : p ≡ q = omega arith in
    let f : i ≡ j = omega arith in
    cc
