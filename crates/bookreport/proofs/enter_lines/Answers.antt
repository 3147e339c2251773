use Rattle.std.proofs.Common.{◌+◌, ◌∷◌, ◌++◌, eqb, length, vec_items, ap, sym, ◌∙◌, arith, rules}
use Rattle.std.proofs.lemmas.List.{length-append}
use Rattle.std.proofs.lemmas.List.Sorted.{answers_always}
use Rattle.std.specs.List.{flat_map}
use Rattle.std.specs.Slice.Iter.{split_inclusive_rest}
use Rattle.book.specs.Lines.{lines}
use Rattle.book.specs.Writing.{split}
use Rattle.bookreport.specs.Report.{note_text, refused}
use Rattle.bookreport.proofs.Cuts.{cut}
use Rattle.bookreport.proofs.Turns.{book_on, notes_on, count_on}
use Rattle.bookreport.proofs.enter_lines.Goals as goal

pub loop-line-preserved : goal.loop-line-preserved
loop-line-preserved c =
    let w = split_inclusive_rest c.loop-line.line-iterator in
    let t = split_inclusive_rest c.next.new.self in
    let s = c.in-Some.ensures.steps in
    let e = cut w t c.in-Some.line s.1.0 c.strip_suffix.result s.0 s.1.1 (s.1.2 (λ b. eqb b 10) (answers_always _ _ _ (λ f a r g h. search rules))).1 s.2 c.strip_suffix.ensures.cases in
    let ls = lines c.loop-line.entries.book in
    let ms = lines c.enter.new.self.book in
    let l = c.unwrap_or.result.now in
    let is = e ∙ ap (λ u. u.now ∷ split t) (sym c.unwrap_or.ensures) in
    let n = c.loop-line.entries.read + 1 in
    let h = c.loop-line.invariant in
    let k = c.in_ok-enter.ensures in
    let same = k.read in
    let cut_off = ap length s.0 ∙ length-append c.in-Some.line.now t in
    let more = count_on ls ms l (split t) (split w) n is k.book in
    let lines_left = ap length is in
    let refused_now = k.refused in
    record {
      book = book_on ls ms l (split t) (split w) n is k.book ∙ h.book;
      notes = (λ i. vec_items c.enter.new.self.notes ++ flat_map note_text (refused ms (same i + 1) (split t)))
          ∙ notes_on ls ms l (split t) (split w) n is k.book (vec_items c.loop-line.entries.notes) (vec_items c.enter.new.self.notes) k.notes ∙ h.notes;
      read = omega (arith, same, lines_left, h.read);
      refused = (let f = ap (λ m. length (refused ms (m + 1) (split t))) same in omega (arith, f, refused_now, more, h.refused));
      room = (let size = s.1.1 in let some = s.2 in omega (arith, same, cut_off, size, some, h.room));
    }
