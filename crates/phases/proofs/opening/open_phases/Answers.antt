use Rattle.std.proofs.Common.{refl}
use Rattle.book.specs.Lines.{lines}
use Rattle.phases.proofs.Listing.{found_none, blank_none, opened_by, not_refused}
use Rattle.phases.proofs.opening.open_phases.Goals as goal

pub start-requires : goal.start-requires
start-requires c = found_none (lines c.args.book.now) _ refl blank_none

pub returns : goal.returns
returns c =
    let ls = lines c.args.book.now in
    let q = c.close.new.phases in
    let by = opened_by ls c.start.new.phases q c.in_ok-start.ensures.reached c.in_ok-close.ensures in
    (not_refused ls q c.in_default.ensures by, by)
