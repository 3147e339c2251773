-- Reading a text gives what it says, and nothing else is said. Assumes nothing.
use Rattle.std.proofs.Common.{◌≡◌, ℕ, ◌-◌, ◌<◌, ◌≤◌, ltb, List, ◌++◌, length, take, drop, Ok, Err, sym, refl, ap, ◌∙◌, subst, inl, inr, ⊎_elim, arith}
use Rattle.std.proofs.lemmas.List.{append_assoc, take-append-drop, take-take}
use Rattle.std.proofs.lemmas.Bool.{cond_both, cases_order, ltb-true, ltb-false}
use Rattle.std.proofs.ByRecursion.{all-has, has_append_left}
use Rattle.std.specs.List.{ContainsAt as Has, AllByRecursion}
use Rattle.text.specs.declared.line.Line.{Line}
use Rattle.text.specs.declared.refusal.LineRefusal.TheVariants.{Syntax, TooLarge, NotRising}
use Rattle.text.specs.Forms.{Form, text, forms, rule_forms, order_form}
use Rattle.text.specs.Reading.{Outcome, by_forms, read_as, read}
use Rattle.text.specs.Meaning.{Mark, Shape, Begins, Stops, FirstAt, Above, Falls, numbers, Within, HasForm, SaysAs, Says, ReadsRight}
use Rattle.text.proofs.Fillings.{meant}
use Rattle.text.proofs.Values.{filled_spelled, spelled_filled, small_form, text_form, sized_form, formed, length_text}
use Rattle.text.proofs.Filled.{Clear}
use Rattle.text.proofs.Verdicts.{Not, Verdict, fine, large, falling, first_none, first_one}
use Rattle.text.proofs.Furthest.{syntax_cases, shape, forms_stop, forms_shape, form_of, form_verdict, forms_own, Good, Apart, forms_good, forms_apart}

-- no number is above its limit, and none falls
abbrev pub Sound : List Mark → Type 0
Sound ms = AllByRecursion (Not Above) ms × AllByRecursion (Not Falls) ms

-- a verdict is the only one
fine_is : (l : Line) (ms : List Mark) (x : Outcome) → Sound ms → Verdict l ms x → Ok l ≡ x
fine_is l ms x s (fine a b e) = sym e
fine_is l ms x s (large p g e) = absurd (first_none Above ms p s.0 g)
fine_is l ms x s (falling p a g e) = absurd (first_none Falls ms p s.1 g)

large_is : (l : Line) (ms : List Mark) (x : Outcome) (q : ℕ) → FirstAt Above ms q → Verdict l ms x → Err (TooLarge q) ≡ x
large_is l ms x q f (fine a b e) = absurd (first_none Above ms q a f)
large_is l ms x q f (large p g e) = ap (λ (n : ℕ). Err (TooLarge n)) (first_one Above ms q p f g) ∙ sym e
large_is l ms x q f (falling p a g e) = absurd (first_none Above ms q a f)

falling_is : (l : Line) (ms : List Mark) (x : Outcome) (q : ℕ) → AllByRecursion (Not Above) ms → FirstAt Falls ms q → Verdict l ms x → Err (NotRising q) ≡ x
falling_is l ms x q n f (fine a b e) = absurd (first_none Falls ms q b f)
falling_is l ms x q n f (large p g e) = absurd (first_none Above ms p n g)
falling_is l ms x q n f (falling p a g e) = ap (λ (m : ℕ). Err (NotRising m)) (first_one Falls ms q p f g) ∙ sym e

-- what begins a form, each front of it begins
begins_front : (fs : List Form) (s : List ℕ) (m n : ℕ) → m ≤ n → Begins fs (take n s) → Begins fs (take m s)
begins_front fs s m n le (t, h) =
    let l : List ℕ = take n s in
    let rest : List ℕ = drop m l in
    let e : l ≡ take m s ++ rest = sym (take-append-drop m l) ∙ ap (λ k. k ++ rest) (take-take m n s le) in
    (rest ++ t, subst (Shape fs) (ap (λ k. k ++ t) e ∙ append_assoc (take m s) rest t) h)

stops_before : (fs : List Form) (s : List ℕ) (q q' : ℕ) → Stops fs s q → Stops fs s q' → q < q' → ⊥
stops_before fs s q q' a b lt =
    let m = b.most in
    a.here (omega arith) (begins_front fs s q (q' - 1) (omega arith) b.before)

stops_once : (fs : List Form) (s : List ℕ) (q q' : ℕ) → Stops fs s q → Stops fs s q' → q ≡ q'
stops_once fs s q q' a b =
    ⊎_elim
    (λ e. e)
    (λ o. ⊎_elim (λ lt. absurd (stops_before fs s q q' a b lt)) (λ gt. absurd (stops_before fs s q' q b a gt)) o)
    (cases_order q q')

-- the line of a text that has a form
abbrev line_of : {fs : List Form} {s : List ℕ} → Shape fs s → Line
line_of h = h.form.line (meant h.form.parts h.filling)

-- some of the seven forms, and one of them at least
pub record Chosen (fs : List Form) : Type 0 where
  pub among : (f : Form) → Has fs f → Has forms f
  pub good : AllByRecursion Good fs
  pub apart : Apart fs
  pub one : Form
  pub one_among : Has fs one

module _ (fs : List Form) (c : Chosen fs) where
  module _ (s : List ℕ) (short : length s ≤ 512) where
    shape_verdict : (h : Shape fs s) → Verdict (line_of h) (numbers h) (by_forms fs s)
    shape_verdict h =
        let f = h.form in
        let own = forms_own fs c.good c.apart s short f h.among (h.filling, (h.proper, h.is)) in
        let good = all-has Good fs f c.good h.among in
        subst (Verdict (line_of h) (numbers h)) (sym own) (form_verdict f good s short h.filling h.proper h.is)

    shape_found : Clear (by_forms fs s) → Shape fs s
    shape_found clear =
        let (f, has, e) = forms_shape fs s clear in
        shape fs f has s (form_of f s (subst Clear (sym e) clear))

    place_found : (q : ℕ) → by_forms fs s ≡ Err (Syntax q) → Stops fs s q
    place_found q e = forms_stop fs c.good s short c.one c.one_among q e

    syntax_is : (q : ℕ) → Stops fs s q → Err (Syntax q) ≡ by_forms fs s
    syntax_is q st =
        ⊎_elim
        (λ (p, e). ap (λ (n : ℕ). Err (Syntax n)) (stops_once fs s q p st (place_found p e)) ∙ sym e)
        (λ clear. absurd (st.whole (shape_found clear)))
        (syntax_cases (by_forms fs s))

  -- a text of a form with sound numbers is the text of its line
  fine_says : (s : List ℕ) (h : Shape fs s) → Sound (numbers h) → SaysAs fs s (Ok (line_of h))
  fine_says s h sound =
      let f = h.form in
      let among = c.among f h.among in
      let v = meant f.parts h.filling in
      let (e, sized) = filled_spelled f.parts (small_form f among) h.filling h.proper 1 sound.0 sound.1 in
      let (w, t) = text_form f among v sized in
      (w, h.is ∙ e ∙ sym t, (f, h.among, v, refl))

  -- and the text of a line is such a text
  text_shape : (l : Line) → Within l → HasForm fs l → (h : Shape fs (text l)) × Sound (numbers h) × (line_of h ≡ l)
  text_shape l w (f, has, v, e) =
      let among = c.among f has in
      let sized = sized_form f among v (subst Within (sym e) w) in
      let (r, (proper, (same, (m, sound)))) = spelled_filled f.parts (small_form f among) v sized in
      (shape fs f has (text l) (r, (proper, sym (ap text e) ∙ (text_form f among v sized).1 ∙ sym same)), sound 1, ap f.line m ∙ e)

  verdict_says : (s : List ℕ) → length s ≤ 512 → (h : Shape fs s) (x : Outcome) → Verdict (line_of h) (numbers h) x → SaysAs fs s x
  verdict_says s le h x (fine a b e) = subst (SaysAs fs s) (sym e) (fine_says s h (a, b))
  verdict_says s le h x (large q f e) = subst (SaysAs fs s) (sym e) (le, (h, f))
  verdict_says s le h x (falling q a f e) = subst (SaysAs fs s) (sym e) (le, (h, (a, f)))

  -- what the forms make of a text of at most 512 bytes, it says
  forms_say : (s : List ℕ) → length s ≤ 512 → SaysAs fs s (by_forms fs s)
  forms_say s le =
      ⊎_elim
      (λ (q, e). subst (SaysAs fs s) (sym e) (inr (le, place_found s le q e)))
      (λ clear. let h = shape_found s le clear in verdict_says s le h (by_forms fs s) (shape_verdict s le h))
      (syntax_cases (by_forms fs s))

  text_reads : (l : Line) → Within l → HasForm fs l → Ok l ≡ by_forms fs (text l)
  text_reads l w f =
      let (h, sound, e) = text_shape l w f in
      ap Ok (sym e) ∙ fine_is (line_of h) (numbers h) (by_forms fs (text l)) sound (shape_verdict (text l) (length_text l w) h)

  -- and it says nothing else
  forms_only : (s : List ℕ) → length s ≤ 512 → (x : Outcome) → SaysAs fs s x → x ≡ by_forms fs s
  forms_only s le (Ok l) (w, e, f) = text_reads l w f ∙ ap (by_forms fs) (sym e)
  forms_only s le (Err (Syntax q)) (inl long) = absurd (omega (arith, long.0))
  forms_only s le (Err (Syntax q)) (inr st) = syntax_is s le q st.1
  forms_only s le (Err (TooLarge q)) (_, (h, f)) = large_is (line_of h) (numbers h) (by_forms fs s) q f (shape_verdict s le h)
  forms_only s le (Err (NotRising q)) (_, (h, (a, f))) = falling_is (line_of h) (numbers h) (by_forms fs s) q a f (shape_verdict s le h)

  -- a longer text is refused at its byte 513
  long_only : (s : List ℕ) → 512 < length s → (x : Outcome) → SaysAs fs s x → x ≡ Err (Syntax 513)
  long_only s lt (Ok l) (w, e, f) = absurd (omega (arith, length_text l w, ap length e))
  long_only s lt (Err (Syntax q)) (inl long) = ap (λ (n : ℕ). Err (Syntax n)) long.1
  long_only s lt (Err (Syntax q)) (inr st) = absurd (omega (arith, st.0))
  long_only s lt (Err (TooLarge q)) (le, h) = absurd (omega arith)
  long_only s lt (Err (NotRising q)) (le, h) = absurd (omega arith)

  pub reads_as : (s : List ℕ) → SaysAs fs s (read_as fs s) × ((x : Outcome) → SaysAs fs s x → x ≡ read_as fs s)
  reads_as s =
      cond_both (ltb 512 (length s)) (Err (Syntax 513)) (by_forms fs s) (λ y. SaysAs fs s y × ((x : Outcome) → SaysAs fs s x → x ≡ y))
      (λ long. let lt = ltb-true 512 (length s) long in (inl (lt, refl), long_only s lt))
      (λ short. let le = ltb-false 512 (length s) short in (forms_say s le, forms_only s le))

all_chosen : Chosen forms
all_chosen = record {
  among = λ f has. has;
  good = forms_good;
  apart = forms_apart;
  one = order_form;
  one_among = (0, omega arith, λ d. refl);
}

pub rules_chosen : Chosen rule_forms
rules_chosen = record {
  among = λ f has. has_append_left rule_forms (drop 2 forms) f has;
  good = (forms_good.0, (forms_good.1.0, tt));
  apart = omega arith;
  one = order_form;
  one_among = (0, omega arith, λ d. refl);
}

-- every line within the limits has one of the seven forms
says_all : (s : List ℕ) (x : Outcome) → Says s x → SaysAs forms s x
says_all s (Ok l) (w, e) = let c = formed l w in (w, e, (c.form, c.among, c.values, c.line_is))
says_all s (Err e) h = h

all_says : (s : List ℕ) (x : Outcome) → SaysAs forms s x → Says s x
all_says s (Ok l) (w, e, f) = (w, e)
all_says s (Err e) h = h

pub reads_right : ReadsRight
reads_right s =
    let (says, alone) = reads_as forms all_chosen s in
    (all_says s (read s) says, λ x h. alone x (says_all s x h))
