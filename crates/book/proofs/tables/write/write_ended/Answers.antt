use Rattle.std.proofs.Common.{set, ap, ◌∙◌, arith}
use Rattle.std.proofs.lemmas.Option.{MatchOption-at_some}
use Rattle.text.specs.Forms.{text}
use Rattle.book.proofs.Written.{ended_length, one_ended}
use Rattle.book.proofs.tables.write.write_ended.Goals as goal

pub returns-clause-text : goal.returns-clause-text
returns-clause-text c =
    let l = c.args.line.now in
    let n = c.unwrap-n.result in
    let end = ended_length l in
    let h = MatchOption-at_some _ _ n c.unwrap-n.ensures c.write_line.ensures in
    ap (λ o. set o n 10) h.1 ∙ one_ended (text l) c.args.out.now n h.0 (omega arith)
