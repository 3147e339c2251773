-- Layers one after another in a table.
use Rattle.std.proofs.Common.{◌≡◌, ℕ, ◌+◌, ◌*◌, ◌<◌, ◌≤◌, List, [], ◌∷◌, ◌++◌, length, get_or, drop, Option, sym, ap, ◌∙◌, subst, add-mul, one-mul, arith}
use Rattle.std.proofs.lemmas.List.{get_or_append_left, get_or_read, length-append}
use Rattle.std.proofs.Math.Seq.{drop-append_seam}
use Rattle.grade.specs.declared.grade.Grade.{Ghosts}
use Rattle.grade.specs.Lawful.{Lawful}
use Rattle.text.specs.declared.line.Line.{Line}
use Rattle.rowtable.specs.declared.row.TableState.{TableState}
use Rattle.rowtable.specs.declared.row.TableRow.{TableRow}
use Rattle.paths.specs.declared.cell.Cell.{Cell}
use Rattle.paths.specs.declared.cell.Cell.TheVariants.{Unknown}
use Rattle.paths.specs.Cells.{known, width, index, cell_at, Says, Layer, Offers, Sound}
use Rattle.paths.specs.Layers.{Stopping, Onward, Layered}
use Rattle.paths.proofs.Indexes.{index_below}
use Rattle.paths.proofs.Onward.{filled_onward, stopping_layer}

-- room for a wagon more is a layer and room for the others
pub next_layer : (k w : ℕ) → (k + 1) * w ≡ k * w + w
next_layer k w = add-mul k 1 w ∙ ap (λ n. k * w + n) (one-mul w)

module _ {G : Type 0} (m : Ghosts G) (Fs : List ℕ) where
  -- what the first places say, whatever stands behind them
  pub layer_front : (P : TableState → Option ℕ → G → Type 0) (layer behind : List (Cell G)) → length layer ≡ width Fs → Layer m Fs layer P → Layer m Fs (layer ++ behind) P
  layer_front P layer behind wide told s exists =
      let lt = index_below Fs s exists in
      subst (λ c. Says m (P s) (known c)) (sym (get_or_append_left layer behind Unknown (index Fs s) (omega arith))) (told s exists)

module _ {G : Type 0} (m : Ghosts G) (ls : List Line) (rows : List (TableRow G)) (n : ℕ) (Fs : List ℕ) where
  pub front_whole : (w : List ℕ) (cells : List (Cell G)) → Layered m ls rows n Fs w cells → width Fs ≤ length cells
  front_whole [] cells layered = layered.0
  front_whole (x ∷ w) cells layered = layered.0

  pub front_layer : (w : List ℕ) (cells : List (Cell G)) → Layered m ls rows n Fs w cells → Layer m Fs cells (Onward m ls rows n w)
  front_layer [] cells layered = layered.1
  front_layer (x ∷ w) cells layered = layered.1.0

  whole : (layer behind : List (Cell G)) → length layer ≡ width Fs → width Fs ≤ length (layer ++ behind)
  whole layer behind wide = let both = length-append layer behind in omega arith

  -- the last layer is that of no wagons ..
  pub layered_last : (layer behind : List (Cell G)) → length layer ≡ width Fs → Layer m Fs layer (Stopping m ls) → Layered m ls rows n Fs [] (layer ++ behind)
  layered_last layer behind wide told = (whole layer behind wide, layer_front m Fs (Onward m ls rows n []) layer behind wide (stopping_layer m ls rows n Fs layer told))

  -- .. and before layers comes one by one wagon more
  pub layered_more : Lawful m → Sound m Fs rows n → (x : ℕ) (w : List ℕ) (layer behind : List (Cell G)) → length layer ≡ width Fs → Layer m Fs layer (Offers m Fs rows n x behind)
      → Layered m ls rows n Fs w behind → Layered m ls rows n Fs (x ∷ w) (layer ++ behind)
  layered_more lawful sound x w layer behind wide told layered = (
    whole layer behind wide,
    (
      layer_front m Fs (Onward m ls rows n (x ∷ w)) layer behind wide (filled_onward m ls rows n lawful sound x w behind layer (front_layer w behind layered) told),
      subst (Layered m ls rows n Fs w) (sym (ap (λ k. drop k (layer ++ behind)) (sym wide) ∙ drop-append_seam layer behind)) layered,
    ),
  )

-- a cell that was read
pub cell_read : {G : Type 0} (cells : List (Cell G)) (i j : ℕ) (c : Cell G) → i < length cells → c ≡ get_or cells i c → i ≡ j → known c ≡ cell_at cells j
cell_read cells i j c lt read same = ap known (get_or_read cells i c lt read Unknown) ∙ ap (cell_at cells) same
