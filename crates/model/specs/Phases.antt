-- Phases: which orders and notices are in force, and how a notice changes that.
use Rattle.std.specs.Prelude.{◌≡◌, ℕ, ◌^◌, true, List, bit_and, bit_or, bit_xor}
use Rattle.std.specs.List.{ContainsAt as Has}
use Rattle.text.specs.declared.line.NoticeLine.{NoticeLine}
use Rattle.text.specs.declared.line.Line.{Line}
use Rattle.text.specs.declared.line.Line.TheVariants.{Notice, Open}
use Rattle.text.specs.Phases.{has}

-- The lines of a book say all that counts, and only by which of them stand.
abbrev pub Stands : List Line → Line → Type 0
Stands ls l = Has ls l

-- n is in force in phase F
abbrev pub InForce : ℕ → ℕ → Type 0
InForce F n = has F n ≡ true

abbrev pub without : ℕ → ℕ → ℕ
without F n = bit_xor F (bit_and F (2 ^ n))

abbrev pub with : ℕ → ℕ → ℕ
with F n = bit_or F (2 ^ n)

-- a notice can be carried out in a phase that has its number and the number that it withdraws
pub record Allows (n : NoticeLine) (F : ℕ) : Type 0 where
  pub itself : InForce F n.number.value
  pub withdrawn : InForce F n.loses.value

-- the phase after a notice: one number is lost, and then one is gained
unfoldable pub after : NoticeLine → ℕ → ℕ
after n F = with (without F n.loses.value) n.gains.value

-- The opened phases: the least set that holds the phase of each open line and, with a phase, those after its notices.
pub data Opened (ls : List Line) : ℕ → Type 0 where
  opened : {F : ℕ} → Stands ls (Open F) → Opened ls F
  noticed : {F : ℕ} {n : NoticeLine} → Opened ls F → Stands ls (Notice n) → Allows n F → Opened ls (after n F)
