use Rattle.std.proofs.Common.{rules}
use Rattle.text.proofs.Values.{length_text}
use Rattle.book.proofs.tables.write.line_len.Goals as goal

pub unwrap-requires : goal.unwrap-requires
unwrap-requires c = let short = length_text c.args.line.now c.requires in grind (rules, short)
