-- Paths put together and taken apart, and the derivations of their rows with them.
use Rattle.std.proofs.Common.{◌≡◌, ℕ, List, [], ◌∷◌, ◌++◌, sym, refl, ap, ◌∙◌, append_assoc}
use Rattle.deduction.specs.Derivations.{Derivations, none, more, grade, joined_grade}
use Rattle.text.specs.declared.line.Line.{Line}
use Rattle.model.specs.Moves.{Move}
use Rattle.rows.specs.Rows.{State, wagon, Row, row, Path, stay, step, row_rules}
use Rattle.rows.specs.Paths.{move_system}

-- a path with no wagons, and one with a first wagon

pub path_none : {s t : State} {is : List Row} → Path s [] is t → (is ≡ []) × (s ≡ t)
path_none stay = (refl, refl)

pub path_more : {s t : State} {k : ℕ} {w : List ℕ} {is : List Row} → Path s (k ∷ w) is t → (u : State) × (js : List Row) × (is ≡ row s (wagon k) u ∷ js) × Path u w js t
path_more (step {t = u} {is = js} p) = (u, js, refl, p)

-- one path after another

pub append_paths : {s t u : State} {v w : List ℕ} {is js : List Row} → Path s v is t → Path t w js u → Path s (v ++ w) (is ++ js) u
append_paths stay q = q
append_paths (step p) q = step (append_paths p q)

module _ {ls : List Line} where
  -- the moves of derivations, in order
  abbrev pub row_moves : {is : List Row} → Derivations (row_rules ls) is → List Move
  row_moves ds = joined_grade (move_system ls) ds

  pub append_derivations : {is js : List Row} → Derivations (row_rules ls) is → Derivations (row_rules ls) js → Derivations (row_rules ls) (is ++ js)
  append_derivations none es = es
  append_derivations (more d ds) es = more d (append_derivations ds es)

  pub append_moves : {is js : List Row} (ds : Derivations (row_rules ls) is) (es : Derivations (row_rules ls) js) → row_moves (append_derivations ds es) ≡ row_moves ds ++ row_moves es
  unfolding append_derivations
  append_moves none es = refl
  append_moves (more d ds) es =
      let first = grade (move_system ls) d in
      ap (λ ms. first ++ ms) (append_moves ds es) ∙ sym (append_assoc first (row_moves ds) (row_moves es))

-- a path by the wagons of v and then those of w, in two parts
pub record Parts (ls : List Line) (s : State) (v w : List ℕ) (t : State) (ms : List Move) : Type 0 where
  pub between : State
  pub front : List Row
  pub back : List Row
  pub front_path : Path s v front between
  pub back_path : Path between w back t
  pub front_derived : Derivations (row_rules ls) front
  pub back_derived : Derivations (row_rules ls) back
  pub same_moves : row_moves front_derived ++ row_moves back_derived ≡ ms

pub parts : {ls : List Line} (v : List ℕ) {w : List ℕ} {s t : State} {is : List Row} → Path s (v ++ w) is t → (ds : Derivations (row_rules ls) is) → Parts ls s v w t (row_moves ds)
parts [] {s = s} {is = is} p ds =
    record { between = s; front = []; back = is; front_path = stay; back_path = p; front_derived = none; back_derived = ds; same_moves = refl }
parts {ls} (k ∷ v) {s = s} (step {t = u} p) (more d ds) =
    let rest = parts v p ds in
    let first = grade (move_system ls) d in
    record {
      between = rest.between;
      front = row s (wagon k) u ∷ rest.front;
      back = rest.back;
      front_path = step rest.front_path;
      back_path = rest.back_path;
      front_derived = more d rest.front_derived;
      back_derived = rest.back_derived;
      same_moves = append_assoc first (row_moves rest.front_derived) (row_moves rest.back_derived) ∙ ap (λ ms. first ++ ms) rest.same_moves;
    }
