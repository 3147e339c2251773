use Rattle.std.proofs.Common.{◌++◌, map, sym, ap, ◌∙◌, append-nil}
use Rattle.std.specs.Slice.Iter.{iter_rest}
use Rattle.text.specs.declared.line.Line.TheVariants.{Open, Watch, Link}
use Rattle.book.specs.Tables.{rule_line, end_line, bare_line, by_number}
use Rattle.book.specs.Lines.{lines}
use Rattle.book.proofs.tables.Book.lines.Goals as goal

pub returns : goal.returns
unfolding lines
returns c =
    let opens = c.iter-2.ensures.rest ∙ c.opens_in_use.ensures in
    let watches = c.iter-3.ensures.rest ∙ c.watches_in_use.ensures in
    let links = c.iter-4.ensures.rest ∙ c.links_in_use.ensures in
    let e = c.enumerate.ensures in
    let p = c.enumerate-2.ensures in
    let ends = (λ i. by_number end_line (e.count i) (iter_rest (e.source i))) ∙ ap (by_number end_line 0) c.iter-5.ensures.rest in
    let bares = (λ i. by_number bare_line (p.count i) (iter_rest (p.source i))) ∙ ap (by_number bare_line 0) c.iter-6.ensures.rest ∙ sym (append-nil (by_number bare_line 0 c.args.self.now.bares)) in
    λ i. by_number rule_line 0 (c.iter.ensures.rest i) ++ (map Open (opens i) ++ (map Watch (watches i) ++ (map Link (links i) ++ (ends i ++ bares i))))
