-- At the start exactly what rests on no other row waits.
use Rattle.std.proofs.Common.{◌≡◌, ℕ, ◌<◌, List, [], length, get_or, Some, None, Option, sym, refl, ap, ◌∙◌, subst, subst₂, ⊎_elim, arith}
use Rattle.std.proofs.lemmas.List.{length-take, get_or-take}
use Rattle.grade.specs.declared.grade.Grade.{Ghosts}
use Rattle.grade.specs.declared.waiting.Waiting.{Waiting}
use Rattle.grade.specs.Lawful.{Lawful}
use Rattle.deduction.specs.Counting.{Outnumber}
use Rattle.deduction.specs.Derivations.{Derivation, Derived}
use Rattle.deduction.specs.Saturation.{Reached}
use Rattle.deduction.proofs.Settling.{start_holds}
use Rattle.deduction.proofs.Counting.{overfull_outnumber}
use Rattle.model.specs.Phases.{InForce}
use Rattle.book.specs.declared.tables.Book.{Book}
use Rattle.book.specs.Tables.{blank_watch, blank_link}
use Rattle.book.specs.Lines.{lines}
use Rattle.book.proofs.Standing.{order_stands, watch_stands, link_stands}
use Rattle.rows.specs.Rows.{Row, head, Rule, row_rules, premises, conclusion, link_row, watch_row, order_row}
use Rattle.rows.specs.Ways.{rule_grade, row_system}
use Rattle.rows.specs.Chains.{GivesAxioms}
use Rattle.rows.proofs.Rules.{all_axioms}
use Rattle.rows.proofs.Graded.{laws_of}
use Rattle.rowtable.specs.declared.row.TableRow.{TableRow}
use Rattle.rowtable.specs.Tables.{row_of, row_at}
use Rattle.rowtable.proofs.Reasons.{rests_none}
use Rattle.rowtable.specs.Reasons.{places, Rests, Reasoned, SettledAt}
use Rattle.saturation.specs.Work.{WaitsAt, Has, Covers, Grown, Table, Went, Full, Ends, Begins, Worked, Turned}
use Rattle.saturation.specs.Start.{LinkBegun, WatchBegun, RuleBegun}
use Rattle.saturation.proofs.Brings.{reasoned_on}
use Rattle.saturation.proofs.Turns.{key_once, reasoned_derived}

-- the rows of all lines, and of all orders that lay nothing down, are there
abbrev pub Begun : {G : Type 0} (m : Ghosts G) (Fs : List ℕ) (b : Book) → List (TableRow G) → ℕ → Type 0
Begun m Fs b rows n =
    ((k : ℕ) → k < b.linking → LinkBegun m Fs b k rows n) × ((k : ℕ) → k < b.watching → (i : ℕ) → i < length Fs → WatchBegun m Fs b k i rows n) × ((k : ℕ) → k < 64 → RuleBegun m Fs (get_or b.rules k None) rows n)

module _ {G : Type 0} (m : Ghosts G) (Fs : List ℕ) (b : Book) where
  begins_derived : (r : TableRow G) → Begins m Fs (lines b) r → Derived (row_system m (lines b)) (row_of Fs r) r.grade
  begins_derived r new = reasoned_derived m Fs (lines b) (λ p y never. absurd never) r new.reasoned

  all_new : {old new : List (TableRow G)} {l : ℕ} → Grown m Fs 0 (Begins m Fs (lines b)) old 0 new l → (k : ℕ) → k < l → Begins m Fs (lines b) (row_at m new k)
  all_new grown k h = ⊎_elim (λ same. let lt = same.0 in absurd (omega arith)) (λ new. new) (grown.rightly k h)

  pub start_full : {old : List (TableRow G)} {n : ℕ} → Full m Fs (lines b) 0 (Begins m Fs (lines b)) old 0 n → Outnumber (Derivation (row_rules (lines b))) n
  start_full {n = n} full =
      let t = full.table in
      overfull_outnumber (Derivation (row_rules (lines b))) (λ k. row_of Fs (row_at m full.rows k)) n (record {
        different = record {
          apart = λ k j hk hj e. t.apart k j hk hj (key_once Fs t.phases.different.apart m (row_at m full.rows k) (row_at m full.rows j) (t.placed k hk) (t.placed j hj) e);
          each = λ k h. (begins_derived (row_at m full.rows k) (all_new full.grown k h)).0;
        };
        another = row_of Fs full.row;
        also = (begins_derived full.row full.new).0;
        nowhere = λ k h e. full.nowhere k h (key_once Fs t.phases.different.apart m (row_at m full.rows k) full.row (t.placed k h) full.new.placed e);
      })

  module _ {old new : List (TableRow G)} {l : ℕ} {waited queue : List (Waiting G)} (went : Went m Fs (lines b) 0 (Begins m Fs (lines b)) old 0 waited new l queue (Begun m Fs b new l)) where
    t : Table m Fs (lines b) new 0 l queue
    t = went.table

    lawful : Lawful m
    lawful = t.lawful

    reached : (i : Row) (g : G) → Covers m Fs new l i g → Reached (row_system m (lines b)) (Has m Fs (WaitsAt m new l)) i g
    reached i g (k, lt, is, le) =
        ⊎_elim (λ low. absurd (omega arith)) (λ u. ((row_at m new k).grade, (k, row_at m new k, record { within = lt; here = refl; waits = u }, is, refl), le)) (t.ranked k lt)

    gives : GivesAxioms m (lines b) (Reached (row_system m (lines b)) (Has m Fs (WaitsAt m new l)))
    gives = record {
      links = λ v stands.
          let (k, lt, is) = (link_stands b v).0 stands in
          let long = length-take b.linking b.links in
          let low : k < b.linking = omega arith in
          reached _ _ (subst (λ y. Covers m Fs new l (link_row y) m.best) (sym (get_or-take b.linking b.links k blank_link low) ∙ is blank_link) (went.done.0 k low));
      watches = λ v F stands is_open.
          let (k, lt, is) = (watch_stands b v).0 stands in
          let long = length-take b.watching b.watches in
          let low : k < b.watching = omega arith in
          let (i, within, phase) = t.phases.all F is_open in
          reached _ _ (subst₂ (λ y F. Covers m Fs new l (watch_row y F) m.best) (sym (get_or-take b.watching b.watches k blank_watch low) ∙ is blank_watch) phase (went.done.1 k low i within));
      orders = λ o F stands is_open in_force lone.
          let fits = o.number.fits in
          let (i, within, phase) = t.phases.all F is_open in
          reached _ _ (subst (λ F. Covers m Fs new l (order_row o F (head o.to.value F)) (m.priced o.toll)) phase (went.done.2 o.number.value (omega arith) o ((order_stands b o).0 stands) i within lone (subst (λ F. InForce F o.number.value) (sym phase) in_force)));
    }

    axiom_of : (i : Row) (g : G) → Has m Fs (WaitsAt m new l) i g → (r : Rule (lines b)) × (premises r ≡ []) × (conclusion r ≡ i) × (rule_grade m r ≡ g)
    axiom_of i g (p, r, at, is, grade) =
        let given = all_new went.grown p at.within in
        let why = given.reasoned in
        let is_best : why.parts ≡ m.best = rests_none m Fs (λ p r. ⊥) (places (row_at m new p).reason) why.parts (subst (λ is. Rests m Fs (λ p r. ⊥) is (places (row_at m new p).reason) why.parts) given.fit why.rests) in
        (why.rule, given.fit, why.concludes ∙ ap (row_of Fs) at.here ∙ is, sym (lawful.unitr (rule_grade m why.rule)) ∙ ap (m.join (rule_grade m why.rule)) (sym is_best) ∙ sym why.graded ∙ ap (λ y. y.grade) at.here ∙ grade)

    pub start_worked : Worked m Fs (lines b) new 0 l queue
    start_worked = record {
      table = t;
      settled_reasons = λ p r h. let low = h.ranked in absurd (omega arith);
      waiting_reasons = λ p r h. subst (Reasoned m (lines b) Fs (SettledAt m new l 0)) h.here (reasoned_on (λ q y never. absurd never) (all_new went.grown p h.within).reasoned);
      climbing = λ p q r y at_p at_q less. let low = at_p.ranked in absurd (omega arith);
      invariant = start_holds (laws_of lawful) (λ i g h. let low = h.2.ranked in omega arith) (record { axioms = axiom_of; all = all_axioms m gives });
    }

  pub begin_ends : (old : List (TableRow G)) (waited : List (Waiting G)) (new : List (TableRow G)) (l : ℕ) (queue : List (Waiting G)) (r : Option (Unit {0})) → (s n : ℕ) → s ≡ 0 → n ≡ 0
      → Ends m Fs (lines b) s (Begins m Fs (lines b)) old n waited new l queue (Begun m Fs b) r → Turned m Fs (lines b) old waited s new l queue r
  begin_ends old waited new l queue r s n none_settled none_found =
      subst₂ (λ s n. Ends m Fs (lines b) s (Begins m Fs (lines b)) old n waited new l queue (Begun m Fs b) r → Turned m Fs (lines b) old waited s new l queue r) (sym none_settled) (sym none_found) (from r)
    where
      from : (r : Option (Unit {0})) → Ends m Fs (lines b) 0 (Begins m Fs (lines b)) old 0 waited new l queue (Begun m Fs b) r → Turned m Fs (lines b) old waited 0 new l queue r
      from None full = start_full full
      from (Some done) went = (start_worked went, went.rows_long, went.queue_long)
