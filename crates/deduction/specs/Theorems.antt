-- The theorems, each as one statement. Settled and waiting entries are the values of any two types, S and W.
use Rattle.std.specs.Prelude.{◌≡◌, List, [], ◌⊎◌, ◌↔◌, ℕ, ◌<◌, ◌≤◌, length}
use Rattle.deduction.specs.Lists.{In, Distinct}
use Rattle.deduction.specs.Grades.{Grading, NoWorse, Laws}
use Rattle.deduction.specs.Derivations.{Rules, System, Derivation, Derivations, by, grade, joined_grade, Derived, Joined, BestOf}
use Rattle.deduction.specs.Saturation.{Invariant, Next, Settling, Start}
use Rattle.deduction.specs.Counting.{Outnumber, NoRoom, Listing, Filled, Overfull}
use Rattle.deduction.specs.Reasons.{Leads, Follows, Ends, Descends}

-- entries, each with an item and a grade
pub record Entries (E I G : Type 0) : Type 0 where
  pub item : E → I
  pub grade : E → G

-- some entry has the item and the grade
abbrev pub Holds : {E I G : Type 0} → Entries E I G → I → G → Type 0
Holds {E} entries i g = (e : E) × (entries.item e ≡ i) × (entries.grade e ≡ g)

-- a moment of the work: any system that keeps the laws, and any entries under the invariant
pub record Moment (I R G S W : Type 0) : Type 0 where
  pub system : System I R G
  pub laws : Laws system.grading
  pub settled : Entries S I G
  pub waiting : Entries W I G
  pub invariant : Invariant system (Holds settled) (Holds waiting)

module _ {I R G S W : Type 0} (m : Moment I R G S W) where
  -- i isn't settled
  abbrev pub Unsettled : I → Type 0
  Unsettled i = (e : S) → m.settled.item e ≡ i → ⊥

  -- nothing that waits is better than w
  abbrev pub BestWaiting : W → Type 0
  BestWaiting w = (v : W) → NoWorse m.system.grading (m.waiting.grade w) (m.waiting.grade v)

module _ (I R G S W : Type 0) where
  -- The next to settle has the best grade over all its derivations.
  abbrev pub NextIsBest : Type 0
  NextIsBest = (m : Moment I R G S W) (w : W) → BestWaiting m w → Unsettled m (m.waiting.item w) → BestOf m.system (m.waiting.item w) (m.waiting.grade w)

  -- Settled grades are final at any moment: each is the best over all derivations.
  abbrev pub SettledIsFinal : Type 0
  SettledIsFinal = (m : Moment I R G S W) (e : S) → BestOf m.system (m.settled.item e) (m.settled.grade e)

  -- When nothing waits, exactly the derivable items are settled, ..
  abbrev pub FinishedIsAll : Type 0
  FinishedIsAll = (m : Moment I R G S W) → (W → ⊥) → (i : I) → ((e : S) × (m.settled.item e ≡ i)) ↔ Derivation m.system.rules i

  -- .. each with its best grade.
  abbrev pub FinishedIsBest : Type 0
  FinishedIsBest = (m : Moment I R G S W) → (W → ⊥) → (i : I) (g : G) → Holds m.settled i g ↔ BestOf m.system i g

  -- While something waits, nothing unsettled is better than the best that waits, ..
  abbrev pub UnsettledIsBounded : Type 0
  UnsettledIsBounded = (m : Moment I R G S W) (w : W) → BestWaiting m w → (i : I) → Unsettled m i → (d : Derivation m.system.rules i) → NoWorse m.system.grading (m.waiting.grade w) (grade m.system d)

  -- .. nor is a list of items, joined in order, with an unsettled one among them.
  abbrev pub ListIsBounded : Type 0
  ListIsBounded =
      (m : Moment I R G S W) (w : W) → BestWaiting m w → (is : List I) (i : I) → In i is → Unsettled m i → (ds : Derivations m.system.rules is)
      → NoWorse m.system.grading (m.waiting.grade w) (joined_grade m.system ds)

  -- Of any list of derivations: their items are settled with grades that join to one no worse, or something waits that is no worse.
  abbrev pub ListIsKnown : Type 0
  ListIsKnown =
      (m : Moment I R G S W) (is : List I) (ds : Derivations m.system.rules is)
      → ((g : G) × Joined m.system.grading (Holds m.settled) is g × NoWorse m.system.grading g (joined_grade m.system ds))
      ⊎ ((w : W) × NoWorse m.system.grading (m.waiting.grade w) (joined_grade m.system ds))

  -- Where the axioms wait and nothing is settled, the invariant holds.
  abbrev pub StartHolds : Type 0
  StartHolds =
      (s : System I R G) → Laws s.grading → (settled : Entries S I G) (waiting : Entries W I G) → (S → ⊥) → Start s (Holds waiting)
      → Invariant s (Holds settled) (Holds waiting)

  -- More than n different items, each settled or waiting: the derivable items outnumber n places.
  abbrev pub KnownOutnumber : Type 0
  KnownOutnumber =
      (m : Moment I R G S W) (n : ℕ) (is : List I) → Distinct is → ((i : I) → In i is → ((e : S) × (m.settled.item e ≡ i)) ⊎ ((w : W) × (m.waiting.item w ≡ i)))
      → n < length is → Outnumber (Derivation m.system.rules) n

-- A settling of the next keeps the invariant.
abbrev pub SettlingKeeps : (I R G S W S' W' : Type 0) → Type 0
SettlingKeeps I R G S W S' W' =
    (m : Moment I R G S W) (j : I) (b : G) (settled' : Entries S' I G) (waiting' : Entries W' I G)
    → Next m.system (Holds m.settled) (Holds m.waiting) j b
    → Settling m.system (Holds m.settled) (Holds m.waiting) (Holds settled') (Holds waiting') j b
    → Invariant m.system (Holds settled') (Holds waiting')

-- Two lists without repetition and with the same members are equally long.
abbrev pub SameLength : Type 0 → Type 0
SameLength X = (xs ys : List X) → Distinct xs → Distinct ys → ((x : X) → In x xs ↔ In x ys) → length xs ≡ length ys

module _ (I R : Type 0) where
  -- Where the derivable items outnumber n places, no list of at most n places holds them all.
  abbrev pub OutnumberNoRoom : Type 0
  OutnumberNoRoom = (rules : Rules I R) (n : ℕ) → Outnumber (Derivation rules) n → NoRoom (Derivation rules) n

  -- Where the derivable items can be listed, the two say the same, namely that they are more than n.
  abbrev pub OutnumberExactly : Type 0
  OutnumberExactly =
      (rules : Rules I R) (all : List I) → Listing (Derivation rules) all → (n : ℕ)
      → (Outnumber (Derivation rules) n ↔ (n < length all)) × (NoRoom (Derivation rules) n ↔ (n < length all))

  -- The same of a table: full of derivable items, with one more that it has no place for, it is outnumbered, ..
  abbrev pub OverfullOutnumber : Type 0
  OverfullOutnumber = (rules : Rules I R) (at : ℕ → I) (n : ℕ) → Overfull (Derivation rules) at n → Outnumber (Derivation rules) n

  -- .. and where n of its places hold exactly the derivable items, they outnumber just the tables with fewer places.
  abbrev pub FilledExactly : Type 0
  FilledExactly = (rules : Rules I R) (at : ℕ → I) (n : ℕ) → Filled (Derivation rules) at n → (places : ℕ) → Outnumber (Derivation rules) places ↔ (places < n)

module _ (X : Type 0) where
  -- Where reasons have smaller ranks, no x's reasons lead back to x, ..
  abbrev pub NoneLeadsBack : Type 0
  NoneLeadsBack = (reasons : X → List X) (rank : X → ℕ) → Descends (λ x y. In y (reasons x)) rank → (x : X) → Leads (λ x y. In y (reasons x)) x x → ⊥

  -- .. and following them ends, after at most as many steps as the rank says.
  abbrev pub FollowingEnds : Type 0
  FollowingEnds =
      (reasons : X → List X) (rank : X → ℕ) → Descends (λ x y. In y (reasons x)) rank → (x : X)
      → Ends (λ x y. In y (reasons x)) x × ((n : ℕ) → Follows (λ x y. In y (reasons x)) x n → n ≤ rank x)

-- The grade of a derivation by an axiom is the grade that the axiom gives.
abbrev pub AxiomGrade : (I R G : Type 0) → Type 0
AxiomGrade I R G = (s : System I R G) → Laws s.grading → (r : R) → s.rules.premises r ≡ [] → (ds : Derivations s.rules (s.rules.premises r)) → grade s (by r ds) ≡ s.toll r

-- Along a map of grades that keeps the best, joins and tolls, the grade of a derivation goes to its grade.
abbrev pub GradesFollow : (I R G H : Type 0) → Type 0
GradesFollow I R G H =
    (s : System I R G) (grading : Grading H) (toll : R → H) (f : G → H)
    → f s.grading.best ≡ grading.best → ((a b : G) → f (s.grading.join a b) ≡ grading.join (f a) (f b)) → ((r : R) → f (s.toll r) ≡ toll r)
    → (i : I) (d : Derivation s.rules i) → f (grade s d) ≡ grade (record { rules = s.rules; grading = grading; toll = toll }) d

-- Where each rule of one system is one of another, with the same premises, conclusion and toll, the other derives all that the one does, at the same grades.
abbrev pub MoreRules : (I R Q G : Type 0) → Type 0
MoreRules I R Q G =
    (s : System I R G) (rules : Rules I Q) (toll : Q → G) (f : R → Q)
    → ((r : R) → rules.premises (f r) ≡ s.rules.premises r) → ((r : R) → rules.conclusion (f r) ≡ s.rules.conclusion r) → ((r : R) → toll (f r) ≡ s.toll r)
    → (i : I) (g : G) → Derived s i g → Derived (record { rules = rules; grading = s.grading; toll = toll }) i g
