-- The rows that wait at the start.
use Rattle.std.proofs.Common.{◌≡◌, ℕ, ◌<◌, ◌≤◌, List, [], length, get_or, take, Some, Option, sym, refl, ap, ◌∙◌, subst, arith}
use Rattle.std.specs.List.{ContainsAt as Has}
use Rattle.std.proofs.lemmas.List.{length-take, get_or-take, get_or_default}
use Rattle.grade.specs.declared.grade.Grade.{Ghosts}
use Rattle.grade.specs.Lawful.{Lawful}
use Rattle.text.specs.declared.line.Line.TheVariants as line
use Rattle.text.specs.declared.line.Rule.{Rule}
use Rattle.text.specs.declared.line.Rule.TheVariants as rule
use Rattle.text.specs.declared.line.OrderLine.{OrderLine}
use Rattle.text.specs.declared.line.WatchLine.{WatchLine}
use Rattle.text.specs.declared.line.LinkLine.{LinkLine}
use Rattle.model.specs.Phases.{Stands, InForce, Opened}
use Rattle.model.specs.Moves.{laid_down}
use Rattle.book.specs.declared.tables.Book.{Book}
use Rattle.book.specs.Tables.{blank_watch, blank_link}
use Rattle.book.specs.Lines.{lines}
use Rattle.book.proofs.Standing.{link_stands, watch_stands}
use Rattle.rows.specs.Rows.{head, Path, stay, link_rule, watch_rule, order_rule}
use Rattle.rowtable.specs.declared.row.TableState.TheVariants.{Node, Head}
use Rattle.rowtable.specs.declared.row.TableRow.{TableRow}
use Rattle.saturation.specs.Work.{Begins, row_by_line, row_by_order}
use Rattle.saturation.specs.Start.{RuleBegun, OrderBegun}

-- what stands at one of the first places is among them
pub row_taken : {X : Type 0} (xs : List X) (n k : ℕ) (d x : X) → k < n → n ≤ length xs → get_or xs k d ≡ x → Has (take n xs) x
row_taken xs n k d x low fits is = let long = length-take n xs in (k, omega arith, λ e. get_or-take n xs k e low ∙ get_or_default xs k e d (omega arith) ∙ is)

-- what is read of the first places is what stands there in the whole
pub item_read : {X : Type 0} (xs items : List X) (n k : ℕ) (x d : X) → items ≡ take n xs → n ≤ length xs → k < length items → x ≡ get_or items k x → (k < n) × (x ≡ get_or xs k d)
item_read xs items n k x d first fits within read =
    let long = ap length first ∙ length-take n xs in
    let low : k < n = omega arith in
    (low, read ∙ ap (λ ys. get_or ys k x) first ∙ get_or-take n xs k x low ∙ get_or_default xs k x d (omega arith))

module _ {G : Type 0} {m : Ghosts G} (lawful : Lawful m) (Fs : List ℕ) (b : Book) where
  pub begins_link : (k : ℕ) (v : LinkLine) → k < b.linking → get_or b.links k blank_link ≡ v → Begins m Fs (lines b) (row_by_line m (Node v.node.value) v.wagon.value (Node v.to.value))
  begins_link k v low is = record {
    reasoned = record {
      rule = link_rule v ((link_stands b v).1 (row_taken b.links b.linking k blank_link v low (let long = b.linked.0 in let few = b.linked.1 in omega arith) is));
      named = tt;
      concludes = refl;
      parts = m.best;
      rests = refl;
      graded = sym (lawful.unitl m.best);
    };
    fit = refl;
    waits = refl;
    placed = (v.node.fits, v.to.fits);
  }

  pub begins_watch : (k : ℕ) (v : WatchLine) → k < b.watching → get_or b.watches k blank_watch ≡ v → (i : ℕ) → i < length Fs → Opened (lines b) (get_or Fs i 0)
      → Begins m Fs (lines b) (row_by_line m (Head v.mode.value i) v.wagon.value (Node v.node.value))
  begins_watch k v low is i lt is_open = record {
    reasoned = record {
      rule = watch_rule v (get_or Fs i 0) ((watch_stands b v).1 (row_taken b.watches b.watching k blank_watch v low (let long = b.watched.0 in let few = b.watched.1 in omega arith) is)) is_open;
      named = tt;
      concludes = refl;
      parts = m.best;
      rests = refl;
      graded = sym (lawful.unitl m.best);
    };
    fit = refl;
    waits = refl;
    placed = ((v.mode.fits, lt), v.node.fits);
  }

  pub begins_order : (o : OrderLine) → Stands (lines b) (line.Order o) → laid_down o ≡ [] → (i : ℕ) → i < length Fs → Opened (lines b) (get_or Fs i 0) → InForce (get_or Fs i 0) o.number.value
      → Begins m Fs (lines b) (row_by_order m o i (Head o.to.value i) m.best 0 0)
  begins_order o stands lone i lt is_open in_force = record {
    reasoned = record {
      rule = order_rule o (get_or Fs i 0) stands is_open in_force (subst (λ w. Path (head o.to.value (get_or Fs i 0)) w [] (head o.to.value (get_or Fs i 0))) (sym lone) stay);
      named = refl;
      concludes = refl;
      parts = m.best;
      rests = (refl, (refl, refl));
      graded = refl;
    };
    fit = refl;
    waits = refl;
    placed = ((o.mode.fits, lt), (o.to.fits, lt));
  }

-- it is one rule whose rows wait
module _ {G : Type 0} (m : Ghosts G) (Fs : List ℕ) (f : Option Rule) (rows : List (TableRow G)) (n : ℕ) where
  pub rule_other : ((o : OrderLine) → f ≡ Some (rule.Order o) → ⊥) → RuleBegun m Fs f rows n
  rule_other none o e = absurd (none o e)

  pub rule_lone : (o : OrderLine) → f ≡ Some (rule.Order o) → ((i : ℕ) → i < length Fs → OrderBegun m Fs o i rows n) → RuleBegun m Fs f rows n
  rule_lone o e begun c is = let same : o ≡ c = cc in subst (λ z. (i : ℕ) → i < length Fs → OrderBegun m Fs z i rows n) same begun
