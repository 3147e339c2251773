-- What entering a text gives, from what reading it gave. Assumes nothing.
use Rattle.std.proofs.Common.{◌≡◌, ℕ, true, false, cond, List, Ok, Err, Result, sym, ap, ◌∙◌, subst}
use Rattle.std.specs.List.{ContainsAt as Has}
use Rattle.std.proofs.lemmas.Bool.{cond-true, cond-false, both_ways}
use Rattle.text.specs.declared.line.Line.{Line}
use Rattle.text.specs.declared.refusal.LineRefusal.{LineRefusal}
use Rattle.text.specs.Reading.{Outcome, read}
use Rattle.text.specs.Meaning.{Says}
use Rattle.book.specs.declared.refusal.Refusal.{Refusal}
use Rattle.book.specs.declared.refusal.Refusal.TheVariants.{Line as Misread, Stands, Full}
use Rattle.book.specs.Order.{put}
use Rattle.book.specs.Ranks.{rank}
use Rattle.book.specs.Entering.{clashes, full, entered_line, entered}
use Rattle.book.specs.Words.{Clash, Joins}
use Rattle.book.proofs.Ascent.{put_has, has_put}
use Rattle.book.proofs.Barred.{clash_only}

pub misread : (ls : List Line) (s : List ℕ) (e : LineRefusal) → ◌≡◌ {A = Outcome} (Err e) (read s) → entered ls s ≡ Err (Misread e)
unfolding entered
misread ls s e is = ap (entered_line ls) (sym is)

pub unbarred : (ls : List Line) (l : Line) → clashes ls l ≡ false → Clash ls l → ⊥
unbarred ls l new clash = both_ways (clashes ls l) new (clash_only ls l clash)

module _ (ls : List Line) (s : List ℕ) (l : Line) (is : ◌≡◌ {A = Outcome} (Ok l) (read s)) where
  rest : Result (List Line) Refusal
  rest = cond (full ls l) (Err Full) (Ok (put rank l ls))

  pub stood : clashes ls l ≡ true → entered ls s ≡ Err Stands
  unfolding entered rest
  stood clash = ap (entered_line ls) (sym is) ∙ cond-true (clashes ls l) (Err Stands) rest clash

  past : clashes ls l ≡ false → entered ls s ≡ rest
  unfolding entered rest
  past new = ap (entered_line ls) (sym is) ∙ cond-false (clashes ls l) (Err Stands) rest new

  pub was_full : clashes ls l ≡ false → full ls l ≡ true → entered ls s ≡ Err Full
  unfolding rest
  was_full new most = past new ∙ cond-true (full ls l) (Err Full) (Ok (put rank l ls)) most

  pub went_in : clashes ls l ≡ false → full ls l ≡ false → entered ls s ≡ Ok (put rank l ls)
  unfolding rest
  went_in new room = past new ∙ cond-false (full ls l) (Err Full) (Ok (put rank l ls)) room

  pub joins : clashes ls l ≡ false → full ls l ≡ false → Says s (Ok l) → (ms : List Line) → ms ≡ put rank l ls → Joins ls s ms
  joins new room said ms now = record {
    line = l;
    said = said;
    free = unbarred ls l new;
    room = both_ways (full ls l) room;
    members = λ x. ((λ h. put_has rank l ls x (subst (λ m. Has m x) now h)), (λ h. subst (λ m. Has m x) (sym now) (has_put rank l ls x h)));
  }
