-- What a book holds under a number.
use Rattle.std.proofs.Common.{◌≡◌, ℕ, ◌<◌, Some, None, Option, get_or, sym, ◌∙◌, subst, arith}
use native.Mathlib.Decide.{dec_lt}
use Rattle.std.proofs.lemmas.List.{get_or_past}
use Rattle.text.specs.declared.line.Rule.{Rule}
use Rattle.text.specs.declared.line.Rule.TheVariants.{Order, Notice}
use Rattle.text.specs.Reading.{rule_line}
use Rattle.model.specs.Phases.{Stands}
use Rattle.moves.specs.Moving.{number_of}
use Rattle.book.specs.declared.tables.Book.{Book}
use Rattle.book.specs.Lines.{lines}
use Rattle.book.proofs.Standing.{order_stands, notice_stands, order_at, notice_at}
use Rattle.unfolding.specs.Shows.{Under}

module _ (b : Book) (number : ℕ) where
  stands_at : (x : Rule) → Stands (lines b) (rule_line x) → get_or b.rules (number_of x) None ≡ Some x
  stands_at (Order o) stands = (order_stands b o).0 stands
  stands_at (Notice v) stands = (notice_stands b v).0 stands

  at_stands : number < 64 → (x : Rule) → get_or b.rules number None ≡ Some x → Stands (lines b) (rule_line x) × (number_of x ≡ number)
  at_stands lt (Order o) is = order_at b number o lt is
  at_stands lt (Notice v) is = notice_at b number v lt is

  pub found_under : Under (lines b) number (get_or b.rules number None)
  found_under x = (λ (stands, is). subst (λ k. get_or b.rules k None ≡ Some x) is (stands_at x stands), λ is. from is (dec_lt number 64))
    where
      from : get_or b.rules number None ≡ Some x → Dec (number < 64) → Stands (lines b) (rule_line x) × (number_of x ≡ number)
      from is (yes lt) = at_stands lt x is
      from is (no late) =
          let long = b.numbered.0 in
          let e : None ≡ Some x = sym (get_or_past b.rules number None (omega arith)) ∙ is in
          let never : ◌≡◌ {A = ℕ} 0 1 = cc in
          absurd (omega arith)

pub found_once : (b : Book) (number : ℕ) → (found : Option Rule) × Under (lines b) number found
found_once b number = (get_or b.rules number None, found_under b number)
