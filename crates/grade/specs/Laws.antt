-- What an order and a grade keep. That f a b is true says that a is no worse than b.
use Rattle.std.specs.Prelude.{◌≡◌, Bool, ◌||◌, T}

module _ {X : Type 0} (f : X → X → Bool) where
  -- of any two, one is no worse than the other
  abbrev pub Total : Type 0
  Total = (a b : X) → T (f a b || f b a)

  abbrev pub Transitive : Type 0
  Transitive = (a b c : X) → T (f a b) → T (f b c) → T (f a c)

  -- two that are each no worse than the other are the same
  abbrev pub Antisymmetric : Type 0
  Antisymmetric = (a b : X) → T (f a b) → T (f b a) → a ≡ b

module _ {X : Type 0} (join : X → X → X) where
  abbrev pub Associative : Type 0
  Associative = (a b c : X) → join (join a b) c ≡ join a (join b c)

  -- joining with the best changes nothing
  abbrev pub UnitLeft : X → Type 0
  UnitLeft best = (a : X) → join best a ≡ a

  abbrev pub UnitRight : X → Type 0
  UnitRight best = (a : X) → join a best ≡ a

module _ {X : Type 0} (f : X → X → Bool) (join : X → X → X) where
  -- what is no worse stays no worse when the same is joined before it
  abbrev pub KeptLeft : Type 0
  KeptLeft = (a b c : X) → T (f a b) → T (f (join c a) (join c b))

  -- or behind it
  abbrev pub KeptRight : Type 0
  KeptRight = (a b c : X) → T (f a b) → T (f (join a c) (join b c))

  -- a join is never better than either part
  abbrev pub FirstNoWorse : Type 0
  FirstNoWorse = (a b : X) → T (f a (join a b))

  abbrev pub SecondNoWorse : Type 0
  SecondNoWorse = (a b : X) → T (f b (join a b))
