-- The lines of a book that are left while it is gone through.
use Rattle.std.specs.Prelude.{List, ◌++◌, map}
use Rattle.std.specs.Slice.Iter.{iter_rest}
use Rattle.text.specs.declared.line.Line.{Line}
use Rattle.text.specs.declared.line.Line.TheVariants.{Open, Watch, Link, End, Bare}
use Rattle.book.specs.declared.tables.walk.Lines.{Lines}
use Rattle.book.specs.Left.{rules_left, marks_left}

-- those of each table, one after another
abbrev pub rest : Lines → List Line
rest s = rules_left s.rules ++ (map Open (iter_rest s.opens) ++ (map Watch (iter_rest s.watches) ++ (map Link (iter_rest s.links) ++ (marks_left 63 End s.ends ++ marks_left 15 Bare s.bares))))
