use Rattle.std.proofs.Common.{arith}
use Rattle.std.proofs.lemmas.Option.{MatchOption-at_some}
use Rattle.saturation.proofs.Finishing.{phases_listed}
use Rattle.saturation.proofs.Finished.{complete_finished}
use Rattle.saturation.proofs.book_rows.saturate_book.Goals as goal

pub saturate-requires : goal.saturate-requires
saturate-requires g c =
    let p = c.in_ok-phases.phases in
    let long = p.places.0 in
    let few = p.places.1 in
    phases_listed p.table p.count (omega arith) c.in_ok-phases.ensures.1.filled

pub returns-clause-told : goal.returns-clause-told
returns-clause-told g c = record { allowed = c.in_ok-phases.ensures.0; opened = c.in_ok-phases.ensures.1; finished = complete_finished _ _ _ _ _ _ (MatchOption-at_some _ _ c.in_ok-rows.rows c.in_ok-rows.ensures.ok_part c.saturate.ensures) }
