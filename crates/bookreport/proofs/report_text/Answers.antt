use Rattle.std.proofs.Common.{◌++◌, vec_items, ap, ◌∙◌}
use Rattle.bookreport.proofs.Turns.{report_is}
use Rattle.bookreport.proofs.report_text.Goals as goal

pub returns : goal.returns
returns c =
    c.in_ok-extend_from_slice.ensures.items ∙ ap (λ l. vec_items c.append_book.new.out ++ l) (c.as_bytes.ensures.value ∙ c.in_ok-last.ensures)
    ∙ report_is _ c.args.text.now _ _ _ _ c.in_ok-entries.ensures c.in_ok-append_book.ensures
