-- The grades minutes and class. In both, less is better.
use Rattle.std.specs.Prelude.{◌+◌, min, max, Bool, nat_le}
use Rattle.std.proofs.Common.{arith}
use Rattle.grade.specs.declared.toll.Toll.{Toll}
use Rattle.grade.specs.declared.minutes.Minutes.{Minutes}
use Rattle.grade.specs.declared.class.Class.{Class}

abbrev pub no_minutes : Minutes
no_minutes = record { value = 0; capped = omega arith }

abbrev pub toll_minutes : Toll → Minutes
toll_minutes t = record { value = t.minutes.value; capped = omega (arith, t.minutes.fits) }

-- minutes add up, and stop at 1,000,000
abbrev pub add_minutes : Minutes → Minutes → Minutes
add_minutes a b = record { value = min (a.value + b.value) 1000000; capped = omega arith }

abbrev pub fewer_minutes : Minutes → Minutes → Bool
fewer_minutes a b = nat_le a.value b.value

abbrev pub no_class : Class
no_class = record { class = record { value = 0; fits = omega arith } }

abbrev pub toll_class : Toll → Class
toll_class t = record { class = t.class }

abbrev pub larger_class : Class → Class → Class
larger_class a b = record {
  class = record {
    value = max a.class.value b.class.value;
    fits = omega (arith, a.class.fits, b.class.fits);
  };
}

abbrev pub lower_class : Class → Class → Bool
lower_class a b = nat_le a.class.value b.class.value
