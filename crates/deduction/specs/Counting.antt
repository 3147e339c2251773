-- How many there are: what it means that a table has too few places.
use Rattle.std.specs.Prelude.{◌≡◌, List, ◌↔◌, ℕ, ◌<◌, ◌≤◌, length}
use Rattle.deduction.specs.Lists.{In, Distinct}

module _ {X : Type 0} (P : X → Type 0) where
  -- more than n are P: a list of that many shows it, each of them there once
  pub record Outnumber (n : ℕ) : Type 0 where
    pub some : List X
    pub distinct : Distinct some
    pub each : (x : X) → In x some → P x
    pub longer : n < length some

  -- no list of at most n places holds all that are P
  abbrev pub NoRoom : ℕ → Type 0
  NoRoom n = (xs : List X) → length xs ≤ n → ((x : X) → P x → In x xs) → ⊥

  -- the list holds exactly those that are P, each once
  pub record Listing (xs : List X) : Type 0 where
    pub distinct : Distinct xs
    pub exactly : (x : X) → In x xs ↔ P x

  -- The first n places of a table, where place k holds `at k`, hold different ones that are P, ..
  pub record Different (at : ℕ → X) (n : ℕ) : Type 0 where
    pub apart : (k l : ℕ) → k < n → l < n → at k ≡ at l → k ≡ l
    pub each : (k : ℕ) → k < n → P (at k)

  -- .. and all of them;
  pub record Filled (at : ℕ → X) (n : ℕ) : Type 0 where
    pub different : Different at n
    pub all : (x : X) → P x → (k : ℕ) × (k < n) × (at k ≡ x)

  -- .. or there is one more, which stands in none of these places.
  pub record Overfull (at : ℕ → X) (n : ℕ) : Type 0 where
    pub different : Different at n
    pub another : X
    pub also : P another
    pub nowhere : (k : ℕ) → k < n → at k ≡ another → ⊥
