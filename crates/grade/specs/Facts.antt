-- Two facts: minutes stop at 1,000,000, and a ranking that is no grade.
use Rattle.std.specs.Prelude.{◌≡◌, ℕ, ◌≤◌, Bool, not, ◌&&◌, ◌||◌, T}
use Rattle.std.proofs.Common.{arith}
use Rattle.grade.specs.Laws.{KeptRight}
use Rattle.grade.specs.Grades.{add_minutes, fewer_minutes, larger_class, lower_class}
use Rattle.grade.specs.declared.minutes.Minutes.{Minutes}
use Rattle.grade.specs.declared.class.Class.{Class}

-- 999,999 minutes joined with 1 and then 9,999 are 1,000,000.
abbrev pub MinutesStop : Type 0
MinutesStop =
    (a b c d : Minutes) → a.value ≡ 999999 → b.value ≡ 1 → c.value ≡ 9999 → d.value ≡ 1000000 → add_minutes (add_minutes a b) c ≡ d

-- a class with minutes
pub record Ranked : Type 0 where
  pub class : Class
  pub minutes : Minutes

-- Ranking by class and then minutes: the lower class is better, and of equal classes the fewer minutes.
abbrev pub ranks_first : Ranked → Ranked → Bool
ranks_first a b =
    lower_class a.class b.class && (not (lower_class b.class a.class) || fewer_minutes a.minutes b.minutes)

-- joined part by part
abbrev pub join_parts : Ranked → Ranked → Ranked
join_parts a b = record {
  class = larger_class a.class b.class;
  minutes = add_minutes a.minutes b.minutes;
}

-- class c with m minutes
abbrev pub ranked : (c m : ℕ) → c ≤ 9 → m ≤ 1000000 → Ranked
ranked c m low few = record {
  class = record { class = record { value = c; fits = low } };
  minutes = record { value = m; capped = few };
}

abbrev pub class_1_minutes_5 : Ranked
class_1_minutes_5 = ranked 1 5 (omega arith) (omega arith)

abbrev pub class_2_minutes_1 : Ranked
class_2_minutes_1 = ranked 2 1 (omega arith) (omega arith)

abbrev pub class_2_minutes_0 : Ranked
class_2_minutes_0 = ranked 2 0 (omega arith) (omega arith)

-- a is no worse than b, and b is worse than a
abbrev pub Beats : Ranked → Ranked → Type 0
Beats a b = T (ranks_first a b) × (T (ranks_first b a) → ⊥)

-- Class 1 with 5 minutes beats class 2 with 1; class 2 with 0 minutes joined to both turns that round.
abbrev pub RankingTurnsRound : Type 0
RankingTurnsRound =
    Beats class_1_minutes_5 class_2_minutes_1
    × Beats (join_parts class_2_minutes_1 class_2_minutes_0) (join_parts class_1_minutes_5 class_2_minutes_0)

-- So this ranking breaks a law that every grade keeps.
abbrev pub RankingIsNoGrade : Type 0
RankingIsNoGrade = KeptRight ranks_first join_parts → ⊥
