use Rattle.std.proofs.Common.{ap, inl, length, arith}
use Rattle.book.proofs.Written.{few_lines}
use Rattle.book.proofs.tables.Book.len.Goals as goal

pub count-requires-clause-fits : goal.count-requires-clause-fits
count-requires-clause-fits c = let few = few_lines c.args.self.now in let same = ap length c.lines.ensures in inl (omega arith)
