-- A table that is complete is finished: what is told of it besides is left out.
use Rattle.std.proofs.Common.{ℕ, List, [], ◌∷◌}
use Rattle.grade.specs.declared.grade.Grade.{Ghosts}
use Rattle.text.specs.declared.line.Line.{Line}
use Rattle.rows.specs.Rows.{Row, premises}
use Rattle.rowtable.specs.declared.row.TableRow.{TableRow}
use Rattle.rowtable.specs.Reasons.{Rests as RestsThere, Reasoned as ReasonedThere, places}
use Rattle.saturation.specs.Reasons.{Rests, Reasoned}
use Rattle.saturation.specs.Complete.{Complete}
use Rattle.saturation.specs.Finished.{Finished}

module _ {G : Type 0} (m : Ghosts G) (Fs : List ℕ) (At : ℕ → TableRow G → Type 0) where
  rests : (is : List Row) (ps : List ℕ) (g : G) → RestsThere m Fs At is ps g → Rests m Fs At is ps g
  rests [] [] g e = e
  rests [] (p ∷ ps) g (none, more) = rests [] ps g more
  rests (i ∷ is) [] g none = none
  rests (i ∷ is) (p ∷ ps) g (x, h, at, here, more, joins) = (x, h, at, here, rests is ps h more, joins)

  reasoned : (ls : List Line) (r : TableRow G) → ReasonedThere m ls Fs At r → Reasoned m ls Fs At r
  reasoned ls r why = record {
    rule = why.rule;
    named = why.named;
    concludes = why.concludes;
    parts = why.parts;
    rests = rests (premises why.rule) (places r.reason) why.parts why.rests;
    graded = why.graded;
  }

pub complete_finished : {G : Type 0} (m : Ghosts G) (Fs : List ℕ) (ls : List Line) (places : ℕ) (rows : List (TableRow G)) (n : ℕ) → Complete m Fs ls places rows n → Finished m Fs ls places rows n
complete_finished m Fs ls places rows n done = record {
  room = done.room;
  saturated = done.table.saturated;
  once = done.table.once;
  exist = done.table.exist;
  ranked = done.table.ranked;
  ranks = done.table.ranks;
  reasons = λ k lt. reasoned m Fs _ ls _ (done.table.reasons k lt);
  blank = done.blank;
  fits = done.fits;
}
