use Rattle.std.proofs.Common.{refl}
use Rattle.book.specs.Lines.{lines}
use Rattle.book.proofs.tables.Book.new.Goals as goal

pub returns : goal.returns
unfolding lines
returns c = refl
