-- What a text says where only orders and notices exist. Assumes nothing.
use Rattle.std.proofs.Common.{◌≡◌, ℕ, ◌+◌, false, List, [], ◌∷◌, length, Ok, Err, Result, refl, subst, arith}
use Rattle.std.specs.List.{flat_map, AllByRecursion}
use Rattle.std.proofs.ByRecursion.{All-append, all-has}
use Rattle.text.specs.declared.line.Rule.{Rule}
use Rattle.text.specs.declared.line.Rule.TheVariants.{Order, Notice}
use Rattle.text.specs.declared.refusal.LineRefusal.{LineRefusal}
use Rattle.text.specs.declared.refusal.LineRefusal.TheVariants.{NotRising}
use Rattle.text.specs.Forms.{Part, Form, word, number, wagons, rising, rule_forms}
use Rattle.text.specs.Reading.{as_line, as_rule}
use Rattle.text.specs.Meaning.{Filling, blank_digits, list_marks, marks, Falls, SaysAs}
use Rattle.text.proofs.Verdicts.{Not, first_none}

-- there and back
pub as_rule_line : (x : Result Rule LineRefusal) → as_rule (as_line x) ≡ x
as_rule_line (Ok (Order o)) = refl
as_rule_line (Ok (Notice n)) = refl
as_rule_line (Err e) = refl

-- no number of the form has to rise
abbrev Free : List Part → Type 0
Free [] = Unit {0}
Free (word w ∷ ps) = Free ps
Free (number most ∷ ps) = Free ps
Free (wagons ∷ ps) = Free ps
Free (rising ∷ ps) = ⊥

list_free : (most p : ℕ) (dss : List (List ℕ)) → AllByRecursion (Not Falls) (list_marks most false p 0 dss)
list_free most p [] = tt
list_free most p (ds ∷ dss) = ((λ lt. omega arith), list_free most (p + 1 + length ds) dss)

marks_free : (ps : List Part) → Free ps → (r : Filling ps) (p : ℕ) → AllByRecursion (Not Falls) (marks ps r p)
marks_free [] free r p = tt
marks_free (word w ∷ ps) free r p = marks_free ps free r (p + length w)
marks_free (number most ∷ ps) free r p = ((λ lt. omega arith), marks_free ps free r.1 (p + length r.0))
marks_free (wagons ∷ ps) free r p =
    All-append (Not Falls) _ _ (list_free 31 p r.0) (marks_free ps free r.1 (p + length (flat_map blank_digits r.0)))
marks_free (rising ∷ ps) free r p = absurd free

abbrev FreeForm : Form → Type 0
FreeForm f = Free f.parts

rules_free : AllByRecursion FreeForm rule_forms
rules_free = (tt, (tt, tt))

-- so none is refused for not rising
pub rules_rise : (s : List ℕ) (x : Result Rule LineRefusal) → SaysAs rule_forms s (as_line x) → (q : ℕ) → x ≡ Err (NotRising q) → ⊥
rules_rise s x says q e =
    let (_, (h, (_, f))) = subst (λ y. SaysAs rule_forms s (as_line y)) e says in
    let free = all-has FreeForm rule_forms h.form rules_free h.among in
    first_none Falls (marks h.form.parts h.filling 1) q (marks_free h.form.parts free h.filling 1) f
