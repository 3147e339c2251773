use Rattle.std.proofs.Common.{◌≡◌, ℕ, ◌+◌, Bool, cond, eqb, List, [], ◌∷◌, refl, ap, ◌∙◌, rules, tests}
use Rattle.std.specs.List.{zip, prefix_len}
use Rattle.std.proofs.lemmas.Iterator.{YieldsList-from_slice, YieldsList-from_zip}
use Rattle.std.proofs.lemmas.Iterator.Search.{YieldsList-from_take_while}
use Rattle.std.proofs.lemmas.Iterator.Consumers.{YieldsList-at, count_from_yields_List}
use Rattle.std.proofs.lemmas.List.Folds.{length-prefix_len}
use Rattle.text.specs.Names.{agree}
use Rattle.text.proofs.reader.agreeing.Goals as goal

abbrev alike : ℕ × ℕ → Bool
alike p = eqb p.0 p.1

alike-zip : (w s : List ℕ) → prefix_len alike (zip w s) ≡ agree w s
alike-zip [] s = refl
alike-zip (a ∷ w) [] = refl
alike-zip (a ∷ w) (b ∷ s) = ap (λ n. cond (eqb a b) (1 + n) 0) (alike-zip w s)

pub returns : goal.returns
returns c =
    let w = c.args.word.now in
    let s = c.args.line.now in
    let pairs = YieldsList-at c.take_while.ensures.source (YieldsList-from_zip (YieldsList-from_slice w (search rules)) (YieldsList-from_slice s (search rules))) in
    count_from_yields_List c.take_while.result _ c.count.ensures.ran
    (YieldsList-from_take_while _ alike pairs c.take_while.ensures.closure c.take_while.ensures.done (λ x b q k. search (rules, tests)))
    ∙ length-prefix_len alike (zip w s) ∙ alike-zip w s
