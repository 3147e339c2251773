use Rattle.book.proofs.Told.{tells}
use Rattle.book.proofs.tables.Book.write.Goals as goal

pub returns-then-out-text_len-clause-tells : goal.returns-then-out-text_len-clause-tells
returns-then-out-text_len-clause-tells c = tells c.args.self.now

pub returns-clause-tells : goal.returns-clause-tells
returns-clause-tells c = tells c.args.self.now
