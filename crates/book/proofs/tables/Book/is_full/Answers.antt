-- As many lines of a kind stand as its table has rows in use.
use Rattle.std.proofs.Common.{leb, sym, ap, ◌∙◌}
use Rattle.book.specs.Lines.{lines}
use Rattle.book.specs.Entering.{full}
use Rattle.book.proofs.Entries.{opens_rows, watches_rows, links_rows, rows_many}
use Rattle.book.proofs.tables.Book.is_full.Goals as goal

pub returns-in-Open : goal.returns-in-Open
returns-in-Open c = let b = c.args.self.now in sym (ap (full (lines b)) c.in-Open.is ∙ ap (leb 8) (rows_many (opens_rows b)))

pub returns-in-Watch : goal.returns-in-Watch
returns-in-Watch c = let b = c.args.self.now in sym (ap (full (lines b)) c.in-Watch.is ∙ ap (leb 128) (rows_many (watches_rows b)))

pub returns-in-Link : goal.returns-in-Link
returns-in-Link c = let b = c.args.self.now in sym (ap (full (lines b)) c.in-Link.is ∙ ap (leb 128) (rows_many (links_rows b)))
