-- The grade of a run goes from lists to joins, in a grade m that keeps the laws.
use Rattle.std.proofs.Common.{◌≡◌, List, [], ◌∷◌, ◌++◌, sym, refl, ap, ◌∙◌}
use Rattle.grade.specs.Lawful.{Lawful}
use Rattle.grade.specs.Runs.{joined_on, run_grade, GoesToJoin}
use Rattle.grade.specs.declared.toll.Toll.{Toll}
use Rattle.grade.specs.declared.grade.Grade.{Ghosts}

module _ {G : Type 0} {m : Ghosts G} (laws : Lawful m) where
  -- what stands before all tolls can be joined last
  pub joined_on_is : (a : G) (ts : List Toll) → joined_on m a ts ≡ m.join a (run_grade m ts)
  joined_on_is a [] = sym (laws.unitr a)
  joined_on_is a (t ∷ ts) =
      let rest = run_grade m ts in
      let first = joined_on_is (m.join m.best (m.priced t)) ts ∙ ap (λ x. m.join x rest) (laws.unitl (m.priced t)) in
      joined_on_is (m.join a (m.priced t)) ts ∙ laws.assoc a (m.priced t) rest ∙ ap (m.join a) (sym first)

  -- a move's toll, and then the others
  pub run_grade_cons : (t : Toll) (ts : List Toll) → run_grade m (t ∷ ts) ≡ m.join (m.priced t) (run_grade m ts)
  run_grade_cons t ts = ap (λ a. joined_on m a ts) (laws.unitl (m.priced t)) ∙ joined_on_is (m.priced t) ts

  joined_on_append : (a : G) (ts us : List Toll) → joined_on m a (ts ++ us) ≡ joined_on m (joined_on m a ts) us
  joined_on_append a [] us = refl
  joined_on_append a (t ∷ ts) us = joined_on_append (m.join a (m.priced t)) ts us

  pub run_grade_append : GoesToJoin m
  run_grade_append ts us = joined_on_append m.best ts us ∙ joined_on_is (run_grade m ts) us
