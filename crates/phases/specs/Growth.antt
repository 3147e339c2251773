-- How the table of phases grows while they are listed.
use Rattle.std.specs.Prelude.{◌≡◌, ℕ, ◌+◌, ◌<◌, ◌≤◌, ◌⊎◌, List, Some, Option, slice_set}
use Rattle.text.specs.declared.line.NoticeLine.{NoticeLine}
use Rattle.text.specs.declared.line.Rule.{Rule}
use Rattle.text.specs.declared.line.Rule.TheVariants as rule
use Rattle.text.specs.declared.line.Line.{Line}
use Rattle.text.specs.declared.line.Line.TheVariants.{Notice, Open}
use Rattle.deduction.specs.Counting.{Different, Outnumber}
use Rattle.model.specs.Phases.{Stands, Allows, after, Opened}
use Rattle.phases.specs.declared.table.Phases.{Phases}
use Rattle.phases.specs.declared.refusal.PhaseRefusal.{PhaseRefusal}
use Rattle.phases.specs.declared.refusal.PhaseRefusal.TheVariants.{TooMany}
use Rattle.phases.specs.Table.{phase_at, Holds, Blank}

-- F stands behind the phases of p
pub record Pushed (p : Phases) (F : ℕ) (q : Phases) : Type 0 where
  pub new : Holds p F → ⊥
  pub longer : q.count ≡ p.count + 1
  pub written : q.table ≡ slice_set p.table p.count F

-- nothing has changed where F was there, and else it stands behind the others
abbrev pub Added : Phases → ℕ → Phases → Type 0
Added p F q = (Holds p F × (q ≡ p)) ⊎ Pushed p F q

-- F is not there, and there is no place for it
pub record Lacking (p : Phases) (F : ℕ) (e : PhaseRefusal) : Type 0 where
  pub is : e ≡ TooMany
  pub new : Holds p F → ⊥
  pub full : p.count ≡ 32

-- opened phases, each once, and the rest blank
pub record Found (ls : List Line) (p : Phases) : Type 0 where
  pub different : Different (Opened ls) (phase_at p) p.count
  pub blank : Blank p

-- every place of p is as it was
pub record Grown (p q : Phases) : Type 0 where
  pub longer : p.count ≤ q.count
  pub same : (k : ℕ) → k < p.count → phase_at q k ≡ phase_at p k

-- opened phases were added, until C holds
pub record Went (ls : List Line) (p q : Phases) (C : Type 0) : Type 0 where
  pub found : Found ls q
  pub grown : Grown p q
  pub reached : C

-- more phases are opened than there are places
abbrev pub Stuck : List Line → PhaseRefusal → Type 0
Stuck ls e = (e ≡ TooMany) × Outnumber (Opened ls) 32

-- the phase of each open line is there
abbrev pub Started : List Line → Phases → Type 0
Started ls p = (F : ℕ) → Stands ls (Open F) → Holds p F

-- o is the phase after F by the rule, if that is a notice which can be carried out
pub record NextBy (r : Option Rule) (F : ℕ) (o : Option ℕ) : Type 0 where
  pub just : (G : ℕ) → o ≡ Some G → (n : NoticeLine) × (r ≡ Some (rule.Notice n)) × Allows n F × (G ≡ after n F)
  pub all : (n : NoticeLine) → r ≡ Some (rule.Notice n) → Allows n F → o ≡ Some (after n F)

-- the phase after F by the rule, if that is a notice, is there
abbrev pub RuleFollowed : Phases → ℕ → Option Rule → Type 0
RuleFollowed p F r = (n : NoticeLine) → r ≡ Some (rule.Notice n) → Allows n F → Holds p (after n F)

-- each phase after F by a notice is there
abbrev pub Followed : List Line → Phases → ℕ → Type 0
Followed ls p F = (n : NoticeLine) → Stands ls (Notice n) → Allows n F → Holds p (after n F)

-- so it is for the phases at the first places
abbrev pub Closed : List Line → Phases → ℕ → Type 0
Closed ls p done = (k : ℕ) → k < done → Followed ls p (phase_at p k)
