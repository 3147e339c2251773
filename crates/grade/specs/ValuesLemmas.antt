-- Two numbers of one type with one value are the same, since a bound has one proof.
use Rattle.std.specs.Prelude.{◌≡◌, ℕ, ◌≤◌}
use mathlib.Core.HLevel.{is_prop→PathP}
use Rattle.std.proofs.Math.Bridge.{le_prop}
use Rattle.grade.specs.declared.upto.UpTo.{UpTo}
use Rattle.grade.specs.declared.minutes.Minutes.{Minutes}
use Rattle.grade.specs.declared.class.Class.{Class}

pub same_upto : (max : ℕ) (a b : UpTo max) → a.value ≡ b.value → a ≡ b
same_upto max a b e = λ i. record {
  value = e i;
  fits = is_prop→PathP (λ k. e k ≤ max) (λ k. le_prop) a.fits b.fits i;
}

pub same_minutes : (a b : Minutes) → a.value ≡ b.value → a ≡ b
same_minutes a b e = λ i. record {
  value = e i;
  capped = is_prop→PathP (λ k. e k ≤ 1000000) (λ k. le_prop) a.capped b.capped i;
}

pub same_class : (a b : Class) → a.class.value ≡ b.class.value → a ≡ b
same_class a b e = λ i. record { class = same_upto 9 a.class b.class e i }
