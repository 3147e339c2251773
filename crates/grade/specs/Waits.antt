-- Which of two waiting rows goes first.
use Rattle.std.specs.Prelude.{Bool, not, ◌&&◌, ◌||◌, nat_le}
use Rattle.grade.specs.declared.waiting.Waiting.{Waiting}

-- The better grade, and of equal grades the smaller row number. That f g h is true says that g is
-- no worse than h.
abbrev pub sooner : {X : Type 0} → (X → X → Bool) → Waiting X → Waiting X → Bool
sooner f a b = f a.grade b.grade && (not (f b.grade a.grade) || nat_le a.row b.row)
