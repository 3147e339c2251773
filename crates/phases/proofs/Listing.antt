-- How the table of phases grows, and what it holds when no notice leads out of it. Assumes nothing.
use Rattle.std.proofs.Common.{◌≡◌, ℕ, ◌+◌, ◌<◌, ◌≤◌, ◌⊎◌, List, length, get_or, take, replicate, is_some, Some, None, Option, sym, refl, ap, ◌∙◌, subst, inl, inr, ⊎_elim, arith}
use Rattle.std.specs.List.{Contains}
use Rattle.std.proofs.lemmas.List.Elements.{Contains-from_at, at_from_Contains}
use Rattle.std.proofs.lemmas.List.{get_or_default, get_or-set_same, get_or-set_other, get_or-replicate, get_or_past, length-replicate}
use Rattle.std.proofs.lemmas.Bool.{cases_lt, false≢true}
use Rattle.text.specs.declared.line.NoticeLine.{NoticeLine}
use Rattle.text.specs.declared.line.Rule.{Rule}
use Rattle.text.specs.declared.line.Rule.TheVariants as rule
use Rattle.text.specs.declared.line.Line.{Line}
use Rattle.deduction.specs.Counting.{Different}
use Rattle.deduction.proofs.Counting.{filled_outnumber, overfull_outnumber}
use Rattle.model.specs.Phases.{Allows, after, Opened}
use Rattle.book.specs.declared.tables.Book.{Book}
use Rattle.book.specs.Lines.{lines}
use Rattle.book.proofs.Standing.{open_stands, notice_stands, notice_at}
use Rattle.phases.specs.declared.table.Phases.{Phases}
use Rattle.phases.specs.declared.refusal.PhaseRefusal.{PhaseRefusal}
use Rattle.phases.specs.Table.{phase_at, Holds, Blank, OpenedBy}
use Rattle.phases.specs.Missing.{NoneMissing}
use Rattle.phases.specs.Refusals.{PhasesAllowed}
use Rattle.phases.specs.Growth.{Pushed, Added, Lacking, Found, Grown, Went, Stuck, Started, NextBy, RuleFollowed, Followed, Closed}
use Rattle.phases.proofs.Rows.{more_cases}

pub grown_same : (p : Phases) → Grown p p
grown_same p = record { longer = omega arith; same = λ k lt. refl }

pub grown_more : (p q r : Phases) → Grown p q → Grown q r → Grown p r
grown_more p q r a b =
    let le = a.longer in
    let more = b.longer in
    record { longer = omega arith; same = λ k lt. b.same k (omega arith) ∙ a.same k lt }

pub holds_more : (p q : Phases) (F : ℕ) → Grown p q → Holds p F → Holds q F
holds_more p q F g h = let lt = h.1 in let le = g.longer in (h.0, omega arith, g.same h.0 lt ∙ h.2)

module _ (ls : List Line) where
  pub went_none : (p : Phases) (C : Type 0) → Found ls p → C → Went ls p p C
  went_none p C found reached = record { found = found; grown = grown_same p; reached = reached }

  -- one after the other
  pub went_then : (p q r : Phases) (C D E : Type 0) → Went ls p q C → Went ls q r D → (Grown q r → C → D → E) → Went ls p r E
  went_then p q r C D E a b f = record {
    found = b.found;
    grown = grown_more p q r a.grown b.grown;
    reached = f b.grown a.reached b.reached;
  }

  -- what is one place more
  module _ (p q : Phases) (F : ℕ) (push : Pushed p F q) where
    fits : p.count < length p.table
    fits = let a = q.places.1 in let b = push.longer in let c = p.places.0 in omega arith

    last : phase_at q p.count ≡ F
    last = ap (λ t. get_or t p.count 0) push.written ∙ get_or-set_same p.table p.count F 0 fits

    other : (k : ℕ) → (k ≡ p.count → ⊥) → phase_at q k ≡ phase_at p k
    other k ne = ap (λ t. get_or t k 0) push.written ∙ get_or-set_other p.table p.count k F 0 ne

    module _ (found : Found ls p) (yet : Opened ls F) where
      -- place k holds what it held, or F and is the last
      cases : (k : ℕ) → k < q.count → ((k < p.count) × (phase_at q k ≡ phase_at p k)) ⊎ ((k ≡ p.count) × (phase_at q k ≡ F))
      cases k lt =
          let e = push.longer in
          ⊎_elim (λ less. inl (less, other k (λ same. omega arith))) (λ le. let same : k ≡ p.count = omega arith in inr (same, ap (phase_at q) same ∙ last)) (cases_lt k p.count)

      apart : (k l : ℕ) → k < q.count → l < q.count → phase_at q k ≡ phase_at q l → k ≡ l
      apart k l lt less same =
          ⊎_elim
          (λ a. ⊎_elim
          (λ b. found.different.apart k l a.0 b.0 (sym a.1 ∙ same ∙ b.1))
          (λ b. absurd (push.new (k, a.0, sym a.1 ∙ same ∙ b.1))) (cases l less))
          (λ a. ⊎_elim
          (λ b. absurd (push.new (l, b.0, sym b.1 ∙ sym same ∙ a.1)))
          (λ b. a.0 ∙ sym b.0) (cases l less))
          (cases k lt)

      pub pushed_found : Found ls q
      pushed_found = record {
        different = record {
          apart = apart;
          each = λ k lt. ⊎_elim (λ a. subst (Opened ls) (sym a.1) (found.different.each k a.0)) (λ a. subst (Opened ls) (sym a.1) yet) (cases k lt);
        };
        blank = λ k le. let e = push.longer in other k (λ same. omega arith) ∙ found.blank k (omega arith);
      }

      pub pushed_went : Went ls p q (Holds q F)
      pushed_went =
          let e = push.longer in
          record {
            found = pushed_found;
            grown = record { longer = omega arith; same = λ k lt. other k (λ same. omega arith) };
            reached = (p.count, omega arith, last);
          }

  pub added_went : (p q : Phases) (F : ℕ) → Found ls p → Opened ls F → Added p F q → Went ls p q (Holds q F)
  added_went p q F found yet =
      ⊎_elim (λ h. subst (λ r. Went ls p r (Holds r F)) (sym h.1) (went_none p (Holds p F) found h.0)) (λ push. pushed_went p q F push found yet)

  pub lacking_stuck : (p : Phases) (F : ℕ) (e : PhaseRefusal) → Found ls p → Opened ls F → Lacking p F e → Stuck ls e
  lacking_stuck p F e found yet lack =
      let full = lack.full in (
        lack.is,
        overfull_outnumber (Opened ls) (phase_at p) 32 (record {
          different = subst (Different (Opened ls) (phase_at p)) full found.different;
          another = F;
          also = yet;
          nowhere = λ k lt is. lack.new (k, omega arith, is);
        }),
      )

  -- ---- when nothing is left to add

  all_opened : (p : Phases) → Started ls p → Closed ls p p.count → (F : ℕ) → Opened ls F → Holds p F
  all_opened p started closed F (Opened.opened s) = started F s
  all_opened p started closed F (Opened.noticed {F = G} {n = n} o s a) =
      let (k, lt, is) = all_opened p started closed G o in
      subst (λ H. Holds p (after n H)) is (closed k lt n s (subst (Allows n) (sym is) a))

  pub opened_by : (p q : Phases) → Started ls p → Went ls p q (Closed ls q q.count) → OpenedBy ls q
  opened_by p q started went = record {
    filled = record {
      different = went.found.different;
      all = all_opened q (λ F s. holds_more p q F went.grown (started F s)) went.reached;
    };
    blank = went.found.blank;
  }

  -- then no more phases are opened than there are places
  pub not_refused : (p : Phases) → NoneMissing ls → OpenedBy ls p → PhasesAllowed ls
  not_refused p none by number place =
      ⊎_elim (λ h. none place h.1.missing) (λ h. let over = (filled_outnumber (Opened ls) (phase_at p) p.count by.filled 32).0 h.3 in let few = p.places.1 in omega arith)

  pub found_none : (p : Phases) → p.count ≡ 0 → Blank p → Found ls p
  found_none p none blank = record { different = record { apart = λ k l lt. absurd (omega arith); each = λ k lt. absurd (omega arith) }; blank = blank }

-- nothing stands in a blank table
pub blank_none : (k : ℕ) → 0 ≤ k → ◌≡◌ {A = ℕ} (get_or (replicate 32 0) k 0) 0
blank_none k le = let long = length-replicate {A = ℕ} 32 0 in ⊎_elim (λ lt. get_or-replicate 32 k 0 0 lt) (λ ge. get_or_past (replicate 32 0) k 0 (omega arith)) (cases_lt k 32)

-- ---- by the tables of a book

module _ (b : Book) where
  pub open_opened : (F : ℕ) → Contains (take b.opening b.opens) F → Opened (lines b) F
  open_opened F h = Opened.opened ((open_stands b F).1 (at_from_Contains (take b.opening b.opens) F h))

  pub started_all : (p : Phases) → ((F : ℕ) → Contains (take b.opening b.opens) F → Holds p F) → Started (lines b) p
  started_all p each F s = each F (Contains-from_at (take b.opening b.opens) F ((open_stands b F).0 s))

  pub closed_more : (p q : Phases) (done : ℕ) → done < p.count → Grown p q → Closed (lines b) p done → Followed (lines b) q (phase_at p done) → Closed (lines b) q (done + 1)
  closed_more p q done within g closed now k lt =
      ⊎_elim
      (λ less. subst (Followed (lines b) q) (sym (g.same k (omega arith))) (λ n s allows. holds_more p q (after n (phase_at p k)) g (closed k less n s allows)))
      (λ le. let e : k ≡ done = omega arith in subst (Followed (lines b) q) (sym (ap (phase_at q) e ∙ g.same done within)) now)
      (cases_lt k done)

rule_followed_more : (p q : Phases) (F : ℕ) (r : Option Rule) → Grown p q → RuleFollowed p F r → RuleFollowed q F r
rule_followed_more p q F r g h n e allows = holds_more p q (after n F) g (h n e allows)

-- ---- rule by rule

abbrev pub RulesFollowed : Phases → ℕ → List (Option Rule) → Type 0
RulesFollowed p F rules = (r : Option Rule) → Contains rules r → RuleFollowed p F r

no_next : (G : ℕ) → ◌≡◌ {A = Option ℕ} None (Some G) → ⊥
no_next G e = false≢true (ap is_some e)

some_same : (G H : ℕ) → ◌≡◌ {A = Option ℕ} (Some G) (Some H) → G ≡ H
some_same G H e = cc e

-- nothing is added where the rule leads nowhere, and else the phase that it leads to
pub none_followed : (q : Phases) (F : ℕ) (r : Option Rule) → NextBy r F None → RuleFollowed q F r
none_followed q F r by n e allows = absurd (no_next (after n F) (by.all n e allows))

next_followed : (q : Phases) (F G : ℕ) (r : Option Rule) → NextBy r F (Some G) → Holds q G → RuleFollowed q F r
next_followed q F G r by held n e allows = subst (Holds q) (some_same G (after n F) (by.all n e allows)) held

module _ (b : Book) where
  pub next_opened : (F G : ℕ) (r : Option Rule) → Contains b.rules r → Opened (lines b) F → NextBy r F (Some G) → Opened (lines b) G
  next_opened F G r (k, lt, is) yet by =
      let (n, e, allows, to) = by.just G refl in
      let long = b.numbered.0 in
      let at = get_or_default b.rules k None r lt ∙ is ∙ e in
      subst (Opened (lines b)) (sym to) (Opened.noticed yet (notice_at b k n (omega arith) at).0 allows)

  pub went_next : (p q : Phases) (F G : ℕ) (r : Option Rule) → Found (lines b) p → Opened (lines b) G → NextBy r F (Some G) → Added p G q → Went (lines b) p q (RuleFollowed q F r)
  went_next p q F G r found yet by added =
      let went = added_went (lines b) p q G found yet added in
      record { found = went.found; grown = went.grown; reached = next_followed q F G r by went.reached }

  -- the rules up to a place are followed, and one more
  pub rules_more : (o p q : Phases) (F i : ℕ) (d : Option Rule) → i < length b.rules → Went (lines b) o p (RulesFollowed p F (take i b.rules))
      → Went (lines b) p q (RuleFollowed q F (get_or b.rules i d)) → Went (lines b) o q (RulesFollowed q F (take (i + 1) b.rules))
  rules_more o p q F i d lt before now =
      went_then (lines b) o p q (RulesFollowed p F (take i b.rules)) (RuleFollowed q F (get_or b.rules i d)) (RulesFollowed q F (take (i + 1) b.rules)) before now
      (λ grown each here r in'. ⊎_elim (λ front. rule_followed_more p q F r grown (each r front)) (λ e. subst (RuleFollowed q F) e here) (more_cases b.rules i d lt r in'))

  pub followed_all : (p : Phases) (F : ℕ) → RulesFollowed p F b.rules → Followed (lines b) p F
  followed_all p F each n s allows =
      let fits = n.number.fits in
      let long = b.numbered.0 in
      let at = get_or_default b.rules n.number.value (Some (rule.Notice n)) None (omega arith) ∙ (notice_stands b n).0 s in
      each (Some (rule.Notice n)) (n.number.value, omega arith, at) n refl allows

-- a notice that can be carried out leads on
pub next_by : (r : Option Rule) (n : NoticeLine) (F G : ℕ) → r ≡ Some (rule.Notice n) → Allows n F → G ≡ after n F → NextBy r F (Some G)
next_by r n F G is allows to = record {
  just = λ H e. (n, is, allows, sym (some_same G H e) ∙ to);
  all = λ m e _. let same : n ≡ m = cc in ap Some (to ∙ ap (λ o. after o F) same);
}
