-- What is left to read of a line, as a reader has it.
use Rattle.std.specs.Prelude.{◌≡◌, ℕ, ◌+◌, Bool, true, cond, List, [], ◌∷◌, ◌++◌, length, Some, None, Option, ◌≢◌}
use Rattle.grade.specs.declared.upto.UpTo.{UpTo}
use Rattle.text.specs.declared.line.Line.{Line}
use Rattle.text.specs.declared.form_name.FormName.{FormName}
use Rattle.text.specs.declared.line_reader.LineReader.{LineReader}
use Rattle.text.specs.Names.{name}
use Rattle.text.specs.Numerals.{digits, numeral, held, starts}
use Rattle.text.specs.Forms.{Part, Values}
use Rattle.text.specs.Reading.{Outcome, Next, scan, take_word, take_number, take_numbers}

-- what the rest of the line says, where these parts are still to come
abbrev pub scanned : (ps : List Part) → (Values ps → Line) → LineReader → Outcome
scanned ps line r = scan ps line r.rest.now r.place r.over r.falls

abbrev pub word_then : List ℕ → LineReader → Next → Outcome
word_then w r next = take_word w r.rest.now r.place r.over r.falls next

abbrev pub number_then : (most least : ℕ) → LineReader → (UpTo most → Next) → Outcome
number_then most least r next = take_number most least r.rest.now r.place r.over r.falls next

abbrev pub goes_on : Next → LineReader → Outcome
goes_on next r = next r.rest.now r.place r.over r.falls

abbrev pub numbers_then : ℕ → (most : ℕ) → Bool → ℕ → LineReader → (List (UpTo most) → Next) → Outcome
numbers_then n most rise least r next = take_numbers n most rise least r.rest.now r.place r.over r.falls next

-- one number, and at most n more
abbrev pub another_then : ℕ → (most : ℕ) → Bool → ℕ → LineReader → (List (UpTo most) → Next) → Outcome
another_then n most rise least r next =
    number_then most least r (λ x t q o f. take_numbers n most rise (cond rise (x.value + 1) 0) t q o f (λ xs. next (x ∷ xs)))

-- what follows where a number was or was not taken
abbrev pub after_another : ℕ → (most : ℕ) → Bool → Option (UpTo most) → LineReader → (List (UpTo most) → Next) → Outcome
after_another n most rise None r next = goes_on (next []) r
after_another n most rise (Some x) r next = numbers_then n most rise (cond rise (x.value + 1) 0) r (λ xs. next (x ∷ xs))

-- digits were taken off the line as far as they go, and n is their value, where 16 bits hold it
pub record DigitsOff (before after : LineReader) (n : Option ℕ) : Type 0 where
  pub value : n ≡ held (digits 0 before.place before.rest.now).value
  pub place : after.place ≡ (digits 0 before.place before.rest.now).place
  pub rest : after.rest.now ≡ (digits 0 before.place before.rest.now).rest
  pub over : after.over ≡ before.over
  pub falls : after.falls ≡ before.falls

-- a number was taken off the line, and n is its value, where 16 bits hold it
pub record NumberOff (before after : LineReader) (n : Option ℕ) : Type 0 where
  pub begins : starts before.rest.now ≡ true
  pub value : n ≡ held (numeral before.place before.rest.now).value
  pub place : after.place ≡ (numeral before.place before.rest.now).place
  pub rest : after.rest.now ≡ (numeral before.place before.rest.now).rest
  pub over : after.over ≡ before.over
  pub falls : after.falls ≡ before.falls

-- the bytes w were taken off the line
pub record Off (w : List ℕ) (before after : LineReader) : Type 0 where
  pub rest : before.rest.now ≡ w ++ after.rest.now
  pub place : after.place ≡ before.place + length w
  pub over : after.over ≡ before.over
  pub falls : after.falls ≡ before.falls

-- s does not begin with w
abbrev pub Lacks : List ℕ → List ℕ → Type 0
Lacks w s = (t : List ℕ) → s ≢ w ++ t

-- a name was taken off the line, or it begins with none
abbrev pub NameOff : LineReader → LineReader → Option FormName → Type 0
NameOff before after None = (f : FormName) → Lacks (name f) before.rest.now
NameOff before after (Some f) = Off (name f) before after

-- nothing is read yet of the line s
pub record Unread (s : List ℕ) (r : LineReader) : Type 0 where
  pub rest : r.rest.now ≡ s
  pub place : r.place ≡ 1
  pub over : r.over ≡ None
  pub falls : r.falls ≡ None
