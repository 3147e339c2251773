-- The lines that stand in a book, in the order of writing.
use Rattle.std.specs.Prelude.{List, map, take}
use Rattle.std.specs.List.{flat_map}
use Rattle.text.specs.declared.line.Line.{Line}
use Rattle.text.specs.declared.line.Line.TheVariants.{Open, Watch, Link}
use Rattle.book.specs.declared.tables.Book.{Book}
use Rattle.book.specs.Ranks.{Kind, kinds, rules, opens, watches, links, ends, bares}
use Rattle.book.specs.Tables.{rule_line, end_line, bare_line, by_number}

-- the lines of one kind
abbrev pub lines_of : Book → Kind → List Line
lines_of b rules = by_number rule_line 0 b.rules
lines_of b opens = map Open (take b.opening b.opens)
lines_of b watches = map Watch (take b.watching b.watches)
lines_of b links = map Link (take b.linking b.links)
lines_of b ends = by_number end_line 0 b.ends
lines_of b bares = by_number bare_line 0 b.bares

-- the lines of all kinds, one kind after another
unfoldable pub lines : Book → List Line
lines b = flat_map (lines_of b) kinds
