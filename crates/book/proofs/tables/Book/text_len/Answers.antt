use Rattle.std.proofs.Common.{◌+◌, ◌^◌, length, sym, ◌∙◌, rules}
use Rattle.std.proofs.lemmas.Iterator.{YieldsList-from_map}
use Rattle.std.proofs.lemmas.Iterator.Consumers.{YieldsList-from_first, YieldsList-at, sum_by_from_yields_List, fits_by_from_yields_list}
use Rattle.text.specs.declared.line.Line.{Line}
use Rattle.text.specs.Forms.{text}
use Rattle.book.specs.Lines.{lines}
use Rattle.book.specs.Walk.{rest}
use Rattle.book.proofs.Written.{text_size, short_text}
use Rattle.book.proofs.tables.Book.text_len.Goals as goal

pub sum-requires-clause-fits : goal.sum-requires-clause-fits
sum-requires-clause-fits c =
    let b = c.args.self.now in
    fits_by_from_yields_list (λ (l : Line). length (text l) + 1) (lines b) c.map.result (2 ^ 64)
    (YieldsList-from_map _ (λ l. length (text l) + 1) (YieldsList-at c.map.ensures.source (YieldsList-from_first (λ x. x) rest (lines b) c.lines.ensures)) c.map.ensures.closure (λ x r q k. search rules))
    (short_text b)

pub returns : goal.returns
returns c =
    let b = c.args.self.now in
    sum_by_from_yields_List (λ (l : Line). length (text l) + 1) (lines b) c.map.result c.sum.result c.sum.ensures.ran
    (YieldsList-from_map _ (λ l. length (text l) + 1) (YieldsList-at c.map.ensures.source (YieldsList-from_first (λ x. x) rest (lines b) c.lines.ensures)) c.map.ensures.closure (λ x r q k. search rules))
    ∙ sym (text_size (lines b))
