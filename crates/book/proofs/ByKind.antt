-- Lines of one kind after another: each kind has ranks of its own. Assumes nothing.
use Rattle.std.proofs.Common.{◌≡◌, ℕ, ◌<◌, ◌≤◌, Bool, true, false, ◌||◌, List, [], ◌∷◌, ◌++◌, length, filter, sym, refl, ap, ◌∙◌, subst, append-nil, arith}
use Rattle.std.specs.List.{flat_map, AllByRecursion}
use Rattle.std.proofs.lemmas.Bool.{eq-eqb, ne_eqb, cond-true, cond-false}
use Rattle.std.proofs.Math.Bool.{or-false}
use Rattle.std.proofs.lemmas.Grind.{flat_map-append}
use Rattle.std.proofs.lemmas.List.Elements.{filter-append}
use Rattle.std.proofs.ByRecursion.{All-weaker, All-append}
use Rattle.text.specs.declared.line.Line.{Line}
use Rattle.text.specs.declared.line.Line.TheVariants.{Order, Notice, Open, Watch, Link, End, Bare}
use Rattle.text.specs.Meaning.{Within}
use Rattle.book.specs.Order.{Ascending, among, put}
use Rattle.book.specs.Ranks.{Kind, kinds, rules, opens, watches, links, ends, bares, kind, span, start, stop, rank, Sorted}
use Rattle.book.specs.Entering.{same_kind, many}
use Rattle.book.proofs.Ascent.{ascending_append, put_low, put_high, among_append, among_none}

pub rank_low : (l : Line) → start (kind l) ≤ rank l
rank_low (Order o) = omega arith
rank_low (Notice n) = omega arith
rank_low (Open F) = omega arith
rank_low (Watch w) = omega arith
rank_low (Link k) = omega arith
rank_low (End t) = omega arith
rank_low (Bare p) = omega arith

pub rank_high : (l : Line) → Within l → rank l < stop (kind l)
rank_high (Order o) h = let a = o.number.fits in omega arith
rank_high (Notice n) h = let a = n.number.fits in omega arith
rank_high (Open F) h = omega arith
rank_high (Watch w) h = let a = w.mode.fits in let b = w.wagon.fits in let c = w.node.fits in omega arith
rank_high (Link k) h = let a = k.node.fits in let b = k.wagon.fits in let c = k.to.fits in omega arith
rank_high (End t) h = let a = t.fits in omega arith
rank_high (Bare p) h = let a = p.fits in omega arith

-- a line within the limits, of this kind
abbrev pub Of : Kind → Line → Type 0
Of k l = (kind l ≡ k) × Within l

pub of_low : (k : Kind) (l : Line) → Of k l → start k ≤ rank l
of_low k l h = subst (λ j. start j ≤ rank l) h.0 (rank_low l)

pub of_high : (k : Kind) (l : Line) → Of k l → rank l < stop k
of_high k l h = subst (λ j. rank l < stop j) h.0 (rank_high l h.1)

-- ---- the kinds before and behind one

abbrev pub before : Kind → List Kind
before rules = []
before opens = rules ∷ []
before watches = rules ∷ opens ∷ []
before links = rules ∷ opens ∷ watches ∷ []
before ends = rules ∷ opens ∷ watches ∷ links ∷ []
before bares = rules ∷ opens ∷ watches ∷ links ∷ ends ∷ []

abbrev pub behind : Kind → List Kind
behind rules = opens ∷ watches ∷ links ∷ ends ∷ bares ∷ []
behind opens = watches ∷ links ∷ ends ∷ bares ∷ []
behind watches = links ∷ ends ∷ bares ∷ []
behind links = ends ∷ bares ∷ []
behind ends = bares ∷ []
behind bares = []

pub around : (k : Kind) → kinds ≡ before k ++ k ∷ behind k
around rules = refl
around opens = refl
around watches = refl
around links = refl
around ends = refl
around bares = refl

stops_before : (k : Kind) → AllByRecursion (λ j. stop j ≤ start k) (before k)
stops_before rules = tt
stops_before opens = omega arith
stops_before watches = omega arith
stops_before links = omega arith
stops_before ends = omega arith
stops_before bares = omega arith

starts_behind : (k : Kind) → AllByRecursion (λ j. stop k ≤ start j) (behind k)
starts_behind rules = omega arith
starts_behind opens = omega arith
starts_behind watches = omega arith
starts_behind links = omega arith
starts_behind ends = omega arith
starts_behind bares = tt

span_some : (k : Kind) → 0 < span k
span_some rules = omega arith
span_some opens = omega arith
span_some watches = omega arith
span_some links = omega arith
span_some ends = omega arith
span_some bares = omega arith

kept_none : (p : Line → Bool) (ls : List Line) → AllByRecursion (λ l. p l ≡ false) ls → filter p ls ≡ []
kept_none p [] h = refl
kept_none p (l ∷ ls) h = cond-false (p l) (l ∷ filter p ls) (filter p ls) h.0 ∙ kept_none p ls h.1

kept_all : (p : Line → Bool) (ls : List Line) → AllByRecursion (λ l. p l ≡ true) ls → filter p ls ≡ ls
kept_all p [] h = refl
kept_all p (l ∷ ls) h = cond-true (p l) (l ∷ filter p ls) (filter p ls) h.0 ∙ ap (λ r. l ∷ r) (kept_all p ls h.1)

-- ---- the lines of every kind

module _ (of : Kind → List Line) where
  pub framed : (k : Kind) → flat_map of kinds ≡ flat_map of (before k) ++ (of k ++ flat_map of (behind k))
  framed k = ap (flat_map of) (around k) ∙ flat_map-append of (before k) (k ∷ behind k)

  module _ (each : (k : Kind) → AllByRecursion (Of k) (of k)) where
    all_joined : (P : Line → Type 0) (js : List Kind) → AllByRecursion (λ j. (l : Line) → Of j l → P l) js → AllByRecursion P (flat_map of js)
    all_joined P [] h = tt
    all_joined P (j ∷ js) h = All-append P (of j) (flat_map of js) (All-weaker (Of j) P h.0 (of j) (each j)) (all_joined P js h.1)

    pub all_within : AllByRecursion Within (flat_map of kinds)
    all_within = let own : (j : Kind) (l : Line) → Of j l → Within l = λ j l o. o.1 in all_joined Within kinds (own rules, (own opens, (own watches, (own links, (own ends, (own bares, tt))))))

    pub front_low : (k : Kind) → AllByRecursion (λ l. rank l < start k) (flat_map of (before k))
    front_low k = all_joined (λ l. rank l < start k) (before k) (All-weaker (λ j. stop j ≤ start k) (λ j. (l : Line) → Of j l → rank l < start k) (λ j le l o. let lt = of_high j l o in omega arith) (before k) (stops_before k))

    pub back_high : (k : Kind) → AllByRecursion (λ l. stop k ≤ rank l) (flat_map of (behind k))
    back_high k = all_joined (λ l. stop k ≤ rank l) (behind k) (All-weaker (λ j. stop k ≤ start j) (λ j. (l : Line) → Of j l → stop k ≤ rank l) (λ j le l o. let lt = of_low j l o in omega arith) (behind k) (starts_behind k))

    -- each kind of these begins where the one before has ended
    abbrev Follow : ℕ → List Kind → Type 0
    Follow m [] = Unit {0}
    Follow m (j ∷ js) = (m ≤ start j) × Follow (stop j) js

    all_follow : (m : ℕ) (js : List Kind) → Follow m js → AllByRecursion (λ l. m ≤ rank l) (flat_map of js)
    all_follow m [] h = tt
    all_follow m (j ∷ js) h =
        let le = h.0 in
        All-append (λ l. m ≤ rank l) (of j) (flat_map of js) (All-weaker (Of j) (λ l. m ≤ rank l) (λ l o. let a = of_low j l o in omega arith) (of j) (each j))
        (All-weaker (λ l. stop j ≤ rank l) (λ l. m ≤ rank l) (λ l a. omega arith) (flat_map of js) (all_follow (stop j) js h.1))

    sorted_follow : ((k : Kind) → Ascending rank (of k)) → (m : ℕ) (js : List Kind) → Follow m js → Ascending rank (flat_map of js)
    sorted_follow up m [] h = tt
    sorted_follow up m (j ∷ js) h =
        ascending_append rank (stop j) (of j) (flat_map of js) (up j) (sorted_follow up (stop j) js h.1)
        (All-weaker (Of j) (λ l. rank l < stop j) (of_high j) (of j) (each j)) (all_follow (stop j) js h.1)

    pub sorted : ((k : Kind) → Ascending rank (of k)) → Sorted (flat_map of kinds)
    sorted up = sorted_follow up 0 kinds (omega arith)

    -- a line finds its own rank only among its kind
    pub among_kind : (l : Line) → Within l → among rank (rank l) (flat_map of kinds) ≡ among rank (rank l) (of (kind l))
    among_kind l w =
        let k = kind l in
        let low = rank_low l in
        let high = rank_high l w in
        let none = among_none rank (rank l) (flat_map of (before k)) (All-weaker (λ x. rank x < start k) (λ x. rank x ≡ rank l → ⊥) (λ x lt e. omega arith) (flat_map of (before k)) (front_low k)) in
        let none' = among_none rank (rank l) (flat_map of (behind k)) (All-weaker (λ x. stop k ≤ rank x) (λ x. rank x ≡ rank l → ⊥) (λ x le e. omega arith) (flat_map of (behind k)) (back_high k)) in
        ap (among rank (rank l)) (framed k) ∙ among_append rank (rank l) (flat_map of (before k)) (of k ++ flat_map of (behind k))
        ∙ (λ i. none i || (among_append rank (rank l) (of k) (flat_map of (behind k)) ∙ (λ j. among rank (rank l) (of k) || none' j) ∙ or-false (among rank (rank l) (of k))) i)

    -- and is put among its kind
    pub put_kind : (l : Line) → Within l → put rank l (flat_map of kinds) ≡ flat_map of (before (kind l)) ++ (put rank l (of (kind l)) ++ flat_map of (behind (kind l)))
    put_kind l w =
        let k = kind l in
        let low = rank_low l in
        let high = rank_high l w in
        ap (put rank l) (framed k)
        ∙ put_low rank l (flat_map of (before k)) (of k ++ flat_map of (behind k)) (All-weaker (λ x. rank x < start k) (λ x. rank x < rank l) (λ x lt. omega arith) (flat_map of (before k)) (front_low k))
        ∙ ap (λ r. flat_map of (before k) ++ r) (put_high rank l (of k) (flat_map of (behind k)) (All-weaker (λ x. stop k ≤ rank x) (λ x. rank l < rank x) (λ x le. omega arith) (flat_map of (behind k)) (back_high k)))

    -- the lines of a kind are those that stand under it
    pub many_kind : (k : Kind) → many k (flat_map of kinds) ≡ length (of k)
    many_kind k =
        let p : Line → Bool = λ l. same_kind (kind l) k in
        let other : (j : Kind) → (start j ≡ start k → ⊥) → (l : Line) → Of j l → p l ≡ false = λ j ne l o. ne_eqb (start (kind l)) (start k) (λ e. ne (ap start (sym o.0) ∙ e)) in
        let front = all_joined (λ l. p l ≡ false) (before k) (All-weaker (λ j. stop j ≤ start k) (λ j. (l : Line) → Of j l → p l ≡ false) (λ j le. let s = span_some j in other j (λ e. omega arith)) (before k) (stops_before k)) in
        let back = all_joined (λ l. p l ≡ false) (behind k) (All-weaker (λ j. stop k ≤ start j) (λ j. (l : Line) → Of j l → p l ≡ false) (λ j le. let s = span_some k in other j (λ e. omega arith)) (behind k) (starts_behind k)) in
        let mid = All-weaker (Of k) (λ l. p l ≡ true) (λ l o. eq-eqb (start (kind l)) (start k) (ap start o.0)) (of k) (each k) in
        ap length (ap (filter p) (framed k) ∙ filter-append p (flat_map of (before k)) (of k ++ flat_map of (behind k))
        ∙ (λ i. kept_none p (flat_map of (before k)) front i ++ (filter-append p (of k) (flat_map of (behind k)) ∙ (λ j. kept_all p (of k) mid j ++ kept_none p (flat_map of (behind k)) back j) ∙ append-nil (of k)) i))
