-- What several forms make of a text together. Assumes nothing.
use Rattle.std.proofs.Common.{◌≡◌, ℕ, zero, suc, ◌+◌, ◌-◌, ◌*◌, ◌≤◌, max, true, ◌⊎◌, List, [], ◌∷◌, ◌++◌, length, get_or, take, Ok, Err, sym, refl, ap, ◌∙◌, subst, inl, inr, ⊎_elim, arith, None}
use Rattle.std.proofs.lemmas.List.{length-take-le, get_or_append_left, take-append-le, take-take}
use Rattle.std.proofs.lemmas.Bool.{cases_lt}
use Rattle.std.proofs.ByRecursion.{all-has, All-weaker}
use Rattle.std.specs.List.{ContainsAt as Has, AllByRecursion}
use Rattle.text.specs.declared.line.Line.{Line}
use Rattle.text.specs.declared.refusal.LineRefusal.TheVariants.{Syntax, TooLarge, NotRising}
use Rattle.text.specs.Forms.{Part, Form, word, number, wagons, rising, forms}
use Rattle.text.specs.Reading.{Outcome, by_form, further, by_forms}
use Rattle.text.specs.Meaning.{Filling, Proper, filled, Mark, marks, Shape, Begins, Stops}
use Rattle.text.proofs.Fillings.{meant}
use Rattle.text.proofs.Filled.{is_syntax, Clear, clear_from, Late, parted, scan_filled}
use Rattle.text.proofs.Verdicts.{Verdict, fine, large, falling, verdict}
use Rattle.text.proofs.Shapes.{Of, complete, scan_tells}
use Rattle.text.proofs.Local.{scan_local, same_place}

has_head : {X : Type 0} (x : X) (xs : List X) → Has (x ∷ xs) x
has_head x xs = (0, omega arith, λ d. refl)

has_tail : {X : Type 0} (x : X) (xs : List X) (y : X) → Has xs y → Has (x ∷ xs) y
has_tail x xs y (k, lt, h) = (suc k, omega arith, h)

has_cases : {X : Type 0} (x : X) (xs : List X) (y : X) → Has (x ∷ xs) y → (x ≡ y) ⊎ Has xs y
has_cases x xs y (zero, lt, h) = inl (h x)
has_cases x xs y (suc k, lt, h) = inr (k, omega arith, h)

-- the first word of a form
abbrev pub lead : List Part → List ℕ
lead [] = []
lead (word w ∷ ps) = w
lead (number most ∷ ps) = []
lead (wagons ∷ ps) = []
lead (rising ∷ ps) = []

-- its second and third byte tell a form from the others
abbrev pub key : List ℕ → ℕ
key s = get_or s 1 0 * 256 + get_or s 2 0

-- no number runs into what stands behind it, and the form begins with a word
abbrev pub Good : Form → Type 0
Good f = (parted f.parts ≡ true) × (3 ≤ length (lead f.parts))

abbrev pub Apart : List Form → Type 0
Apart [] = Unit {0}
Apart (f ∷ fs) = AllByRecursion (λ g. key (lead f.parts) ≡ key (lead g.parts) → ⊥) fs × Apart fs

key_filled : (ps : List Part) (r : Filling ps) → 3 ≤ length (lead ps) → key (filled ps r) ≡ key (lead ps)
key_filled [] r le = absurd (omega arith)
key_filled (word w ∷ ps) r le =
    let a = get_or_append_left w (filled ps r) 0 1 (omega arith) in
    let b = get_or_append_left w (filled ps r) 0 2 (omega arith) in
    λ i. a i * 256 + b i
key_filled (number most ∷ ps) r le = absurd (omega arith)
key_filled (wagons ∷ ps) r le = absurd (omega arith)
key_filled (rising ∷ ps) r le = absurd (omega arith)

key_of : (f : Form) → Good f → (s : List ℕ) → Of f.parts s → key s ≡ key (lead f.parts)
key_of f good s (r, (h, e)) = ap key e ∙ key_filled f.parts r good.1

pub syntax_cases : (x : Outcome) → ((q : ℕ) × (x ≡ Err (Syntax q))) ⊎ Clear x
syntax_cases (Ok l) = inr (clear_from (Ok l) refl)
syntax_cases (Err (Syntax q)) = inl (q, refl)
syntax_cases (Err (TooLarge p)) = inr (clear_from (Err (TooLarge p)) refl)
syntax_cases (Err (NotRising p)) = inr (clear_from (Err (NotRising p)) refl)

verdict_clear : (l : Line) (ms : List Mark) (x : Outcome) → Verdict l ms x → Clear x
verdict_clear l ms x (fine a b e) = clear_from x (ap is_syntax e)
verdict_clear l ms x (large p a e) = clear_from x (ap is_syntax e)
verdict_clear l ms x (falling p a b e) = clear_from x (ap is_syntax e)

further_clear : (x y : Outcome) → Clear x → further x y ≡ x
further_clear (Ok l) y h = refl
further_clear (Err (Syntax p)) y h = absurd (h p refl)
further_clear (Err (TooLarge p)) y h = refl
further_clear (Err (NotRising p)) y h = refl

further_past : (p : ℕ) (y : Outcome) → Clear y → further (Err (Syntax p)) y ≡ y
further_past p (Ok l) h = refl
further_past p (Err (Syntax q)) h = absurd (h q refl)
further_past p (Err (TooLarge q)) h = refl
further_past p (Err (NotRising q)) h = refl

-- both stop where the further one does
abbrev Both : Outcome → Outcome → ℕ → Type 0
Both x y q = (a : ℕ) × (b : ℕ) × (x ≡ Err (Syntax a)) × (y ≡ Err (Syntax b)) × (q ≡ max a b)

further_stops : (x y : Outcome) (q : ℕ) → further x y ≡ Err (Syntax q) → Both x y q
further_stops (Ok l) y q e = absurd (clear_from (Ok l) refl q e)
further_stops (Err (TooLarge p)) y q e = absurd (clear_from (Err (TooLarge p)) refl q e)
further_stops (Err (NotRising p)) y q e = absurd (clear_from (Err (NotRising p)) refl q e)
further_stops (Err (Syntax p)) (Ok l) q e = absurd (clear_from (Ok l) refl q e)
further_stops (Err (Syntax p)) (Err (TooLarge r)) q e = absurd (clear_from (Err (TooLarge r)) refl q e)
further_stops (Err (Syntax p)) (Err (NotRising r)) q e = absurd (clear_from (Err (NotRising r)) refl q e)
further_stops (Err (Syntax p)) (Err (Syntax r)) q e = (p, r, refl, refl, sym (same_place (max p r) q e))

module _ (f : Form) (good : Good f) where
  -- where the reader of a form stops
  abbrev Stopped : List ℕ → ℕ → Type 0
  Stopped s q = (1 ≤ q) × (q ≤ length s + 1) × (t : List ℕ) × Of f.parts (take (q - 1) s ++ t)

  stopped : (s : List ℕ) (q : ℕ) → by_form f s ≡ Err (Syntax q) → Stopped s q
  stopped s q e =
      ⊎_elim
      (λ h. subst (Stopped s) (same_place h.at q (sym h.is ∙ e)) (h.low, omega (arith, h.high), h.more, h.begins))
      (λ h. absurd (h.1 q e))
      (scan_tells f.parts f.line s 1 None None)

  -- a text of the form is read to its end, or very far on
  comes : (s : List ℕ) (r : Filling f.parts) → Proper f.parts r → s ≡ filled f.parts r → Late 1 (by_form f s) ⊎ Verdict (f.line (meant f.parts r)) (marks f.parts r 1) (by_form f s)
  comes s r h is =
      ⊎_elim
      (λ (k, lt, y). inl (k, lt, ap (by_form f) is ∙ y))
      (λ y. inr (verdict f.parts r 1 (f.line (meant f.parts r)) (by_form f s) (ap (by_form f) is ∙ y)))
      (scan_filled f.parts good.0 f.line r h 1 None None)

  near_clear : (s : List ℕ) (q : ℕ) → Of f.parts s → q ≤ 513 → by_form f s ≡ Err (Syntax q) → ⊥
  near_clear s q (r, (h, is)) le e =
      ⊎_elim
      (λ (k, lt, y). let same = same_place k q (sym y ∙ e) in omega arith)
      (λ v. verdict_clear (f.line (meant f.parts r)) (marks f.parts r 1) (by_form f s) v q e)
      (comes s r h is)

  -- a text of the form that is not too long is read to its end
  pub form_verdict : (s : List ℕ) → length s ≤ 512 → (r : Filling f.parts) → Proper f.parts r → s ≡ filled f.parts r → Verdict (f.line (meant f.parts r)) (marks f.parts r 1) (by_form f s)
  form_verdict s le r h is =
      ⊎_elim
      (λ (k, lt, y). let b = stopped s k y in absurd (omega (arith, b.1)))
      (λ v. v)
      (comes s r h is)

  form_clear : (s : List ℕ) → length s ≤ 512 → Of f.parts s → Clear (by_form f s)
  form_clear s le (r, (h, is)) = verdict_clear (f.line (meant f.parts r)) (marks f.parts r 1) (by_form f s) (form_verdict s le r h is)

  -- what it stops at stands before any text of the form goes on
  form_local : (s t : List ℕ) (q m : ℕ) → by_form f s ≡ Err (Syntax q) → q ≤ m → m ≤ length s → by_form f (take m s ++ t) ≡ Err (Syntax q)
  form_local s t q m e le lt =
      let h = scan_local f.parts f.line s 1 None None q e in
      let k : suc (q - 1) ≡ q = omega (arith, h.0) in
      let l = length-take-le m s lt in
      let same : take q (take m s ++ t) ≡ take q s = take-append-le q (take m s) t (omega arith) ∙ take-take q m s le in
      h.1 (take m s ++ t) (subst (λ n. take n (take m s ++ t) ≡ take n s) (sym k) same)

abbrev Refused : List ℕ → ℕ → Form → Type 0
Refused s q f = (p : ℕ) × (p ≤ q) × (by_form f s ≡ Err (Syntax p))

-- where the forms stop together, each stops there or before
stops_all : (fs : List Form) (s : List ℕ) (q : ℕ) → by_forms fs s ≡ Err (Syntax q) → AllByRecursion (Refused s q) fs
stops_all [] s q e = tt
stops_all (f ∷ fs) s q e =
    let (a, b, x, y, m) = further_stops (by_form f s) (by_forms fs s) q e in
    ((a, omega arith, x), All-weaker (Refused s b) (Refused s q) (λ g (p, le, z). (p, omega arith, z)) fs (stops_all fs s b y))

-- and one of them just there
stops_one : (fs : List Form) (s : List ℕ) (q : ℕ) → by_forms fs s ≡ Err (Syntax q) → (q ≡ 1) ⊎ ((f : Form) × Has fs f × (by_form f s ≡ Err (Syntax q)))
stops_one [] s q e = inl (sym (same_place 1 q e))
stops_one (f ∷ fs) s q e =
    let (a, b, x, y, m) = further_stops (by_form f s) (by_forms fs s) q e in
    ⊎_elim
    (λ lt.
    let k : b ≡ q = omega arith in
    ⊎_elim
    (λ z. inl (sym k ∙ z))
    (λ (g, h, z). inr (g, has_tail f fs g h, z ∙ ap (λ (n : ℕ). Err (Syntax n)) k))
    (stops_one fs s b y))
    (λ le. let k : a ≡ q = omega arith in inr (f, has_head f fs, x ∙ ap (λ (n : ℕ). Err (Syntax n)) k))
    (cases_lt a b)

abbrev pub shape : (fs : List Form) (f : Form) → Has fs f → (s : List ℕ) → Of f.parts s → Shape fs s
shape fs f h s o = record { form = f; among = h; filling = o.0; proper = o.1.0; is = o.1.1 }

module _ (fs : List Form) (good : AllByRecursion Good fs) (s : List ℕ) (short : length s ≤ 512) where
  -- where all forms stop, no form goes on
  pub forms_stop : (f : Form) → Has fs f → (q : ℕ) → by_forms fs s ≡ Err (Syntax q) → Stops fs s q
  forms_stop f has q e =
      let each = stops_all fs s q e in
      let first_place : (q ≡ 1) → ((1 ≤ q) × (q ≤ length s + 1)) × Begins fs (take (q - 1) s) = λ z.
      let k : 0 ≡ q - 1 = omega arith in
      let (t, o) = complete f.parts in
      (omega arith, subst (λ n. Begins fs (take n s)) k (t, shape fs f has t o))
      in
      let later : (g : Form) × Has fs g × (by_form g s ≡ Err (Syntax q)) → ((1 ≤ q) × (q ≤ length s + 1)) × Begins fs (take (q - 1) s) = λ (g, h, z).
      let (lo, hi, t, o) = stopped g (all-has Good fs g good h) s q z in
      ((lo, hi), (t, shape fs g h (take (q - 1) s ++ t) o))
      in
      let b = ⊎_elim first_place later (stops_one fs s q e) in
      record {
        some = b.0.0;
        most = b.0.1;
        before = b.1;
        here = λ le (t, h).
            let g = h.form in
            let (p, lp, x) = all-has (Refused s q) fs g each h.among in
            near_clear g (all-has Good fs g good h.among) (take q s ++ t) p (h.filling, (h.proper, h.is)) (omega arith)
            (form_local g (all-has Good fs g good h.among) s t p q x lp le);
        whole = λ h.
            let g = h.form in
            let (p, lp, x) = all-has (Refused s q) fs g each h.among in
            form_clear g (all-has Good fs g good h.among) s short (h.filling, (h.proper, h.is)) p x;
      }

past_clear : (p : ℕ) (y : Outcome) → Clear (further (Err (Syntax p)) y) → Clear y
past_clear p y c q e = c (max p q) (ap (further (Err (Syntax p))) e)

-- what the forms make of a text that they do not refuse for its syntax, one of them makes of it
pub forms_shape : (fs : List Form) (s : List ℕ) → Clear (by_forms fs s) → (f : Form) × Has fs f × (by_form f s ≡ by_forms fs s)
forms_shape [] s c = absurd (c 1 refl)
forms_shape (f ∷ fs) s c =
    ⊎_elim
    (λ (p, e).
    let x : by_forms (f ∷ fs) s ≡ further (Err (Syntax p)) (by_forms fs s) = ap (λ o. further o (by_forms fs s)) e in
    let d : Clear (by_forms fs s) = past_clear p (by_forms fs s) (subst Clear x c) in
    let (g, h, y) = forms_shape fs s d in
    (g, has_tail f fs g h, y ∙ sym (x ∙ further_past p (by_forms fs s) d)))
    (λ d. (f, has_head f fs, sym (further_clear (by_form f s) (by_forms fs s) d)))
    (syntax_cases (by_form f s))

-- that form is the text's own
pub form_of : (f : Form) (s : List ℕ) → Clear (by_form f s) → Of f.parts s
form_of f s c =
    ⊎_elim
    (λ h. absurd (c h.at h.is))
    (λ h. h.0)
    (scan_tells f.parts f.line s 1 None None)

-- a text of one of the forms is read by that form
pub forms_own : (fs : List Form) → AllByRecursion Good fs → Apart fs → (s : List ℕ) → length s ≤ 512 → (f : Form) → Has fs f → Of f.parts s → by_forms fs s ≡ by_form f s
forms_own [] good apart s short f has o = absurd (omega (arith, has.1))
forms_own (g ∷ fs) good apart s short f has o =
    let c : Clear (by_form f s) = form_clear f (all-has Good (g ∷ fs) f good has) s short o in
    let own : g ≡ f → by_forms (g ∷ fs) s ≡ by_form f s = λ e.
    let x = ap (λ k. by_form k s) e in
    further_clear (by_form g s) (by_forms fs s) (subst Clear (sym x) c) ∙ x
    in
    let other : Has fs f → by_forms (g ∷ fs) s ≡ by_form f s = λ h.
    let ih = forms_own fs good.1 apart.1 s short f h o in
    ⊎_elim
    (λ (p, e). ap (λ y. further y (by_forms fs s)) e ∙ further_past p (by_forms fs s) (subst Clear (sym ih) c) ∙ ih)
    (λ d.
    let a = all-has (λ k. key (lead g.parts) ≡ key (lead k.parts) → ⊥) fs f apart.0 h in
    absurd (a (sym (key_of g good.0 s (form_of g s d)) ∙ key_of f (all-has Good fs f good.1 h) s o)))
    (syntax_cases (by_form g s))
    in
    ⊎_elim own other (has_cases g fs f has)

pub forms_good : AllByRecursion Good forms
forms_good =
    ((refl, omega arith), ((refl, omega arith), ((refl, omega arith), ((refl, omega arith), ((refl, omega arith), ((refl, omega arith), ((refl, omega arith), tt)))))))

pub forms_apart : Apart forms
forms_apart = omega arith
