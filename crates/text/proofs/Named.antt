-- A line that begins with a form's name is read by that form. Assumes nothing.
use Rattle.std.proofs.Common.{◌≡◌, ℕ, ◌+◌, ◌<◌, ◌≤◌, max, cond, ltb, List, [], ◌∷◌, ◌++◌, map, length, Ok, Err, Option, Some, None, sym, refl, ap, ◌∙◌, subst, ⊎_elim, arith}
use Rattle.std.proofs.lemmas.Bool.{cond-true, cond-false, lt-ltb, le-ltb}
use Rattle.std.specs.List.{AllByRecursion}
use Rattle.text.specs.declared.line.Line.{Line}
use Rattle.text.specs.declared.form_name.FormName.{FormName}
use Rattle.text.specs.declared.form_name.FormName.TheVariants as n
use Rattle.text.specs.declared.line_reader.LineReader.{LineReader}
use Rattle.text.specs.declared.refusal.LineRefusal.TheVariants.{Syntax, TooLarge, NotRising}
use Rattle.text.specs.Forms.{Part, Form, Values, forms, rule_forms, order_form, notice_form, open_form, watch_form, link_form, end_form, bare_form, order_tail, order_of, notice_tail, notice_of, open_tail, open_of, watch_tail, watch_of, link_tail, link_of, end_tail, end_of, bare_tail, bare_of}
use Rattle.text.specs.Reading.{Outcome, scan, further, by_form, by_forms, read_as, read}
use Rattle.text.specs.Names.{name, names, rule_names, agree, furthest}
use Rattle.text.specs.Steps.{Off, NameOff, Unread, Lacks, scanned}
use Rattle.text.proofs.Names.{word_fails}
use Rattle.text.proofs.Shapes.{scan_tells}
use Rattle.text.proofs.Local.{same_place}
use Rattle.text.proofs.Furthest.{key}

-- x is no refusal of the syntax before place k
abbrev Past : ℕ → Outcome → Type 0
Past k x = (q : ℕ) → x ≡ Err (Syntax q) → k ≤ q

scan_past : (ps : List Part) (line : Values ps → Line) (s : List ℕ) (p : ℕ) (over falls : Option ℕ) → Past p (scan ps line s p over falls)
scan_past ps line s p over falls q e =
    ⊎_elim (λ h. omega (arith, h.low, same_place h.at q (sym h.is ∙ e))) (λ h. absurd (h.1 q e)) (scan_tells ps line s p over falls)

first_wins : (x : Outcome) (k : ℕ) → Past k x → further x (Err (Syntax k)) ≡ x
first_wins (Ok l) k past = refl
first_wins (Err (Syntax p)) k past = let h = past p refl in ap (λ (n : ℕ). Err (Syntax n)) (omega arith)
first_wins (Err (TooLarge p)) k past = refl
first_wins (Err (NotRising p)) k past = refl

last_wins : (x : Outcome) (k : ℕ) → Past k x → further (Err (Syntax k)) x ≡ x
last_wins (Ok l) k past = refl
last_wins (Err (Syntax p)) k past = let h = past p refl in ap (λ (n : ℕ). Err (Syntax n)) (omega arith)
last_wins (Err (TooLarge p)) k past = refl
last_wins (Err (NotRising p)) k past = refl

-- x behind forms that stop at these places
abbrev behind : List ℕ → Outcome → Outcome
behind [] x = x
behind (k ∷ ks) x = further (Err (Syntax k)) (behind ks x)

behind_wins : (x : Outcome) (n : ℕ) → Past n x → (ks : List ℕ) → AllByRecursion (λ k. k ≤ n) ks → behind ks x ≡ x
behind_wins x n past [] le = refl
behind_wins x n past (k ∷ ks) le =
    ap (further (Err (Syntax k))) (behind_wins x n past ks le.1) ∙ last_wins x k (λ q e. let h = past q e in let m = le.0 in omega arith)

short : (s : List ℕ) (x : Outcome) → length s ≤ 512 → cond (ltb 512 (length s)) (Err (Syntax 513)) x ≡ x
short s x le = cond-false (ltb 512 (length s)) _ _ (le-ltb 512 (length s) le)

-- a line that is too long is no line of any form
pub too_long : (fs : List Form) (s : List ℕ) → 512 < length s → read_as fs s ≡ Err (Syntax 513)
too_long fs s lt = cond-true (ltb 512 (length s)) _ _ (lt-ltb 512 (length s) lt)

-- the forms before and behind stop at these places, within the name
named : (fs : List Form) (s : List ℕ) (x : Outcome) (n : ℕ) (ks : List ℕ) (k : ℕ) → length s ≤ 512 → Past n x → AllByRecursion (λ j. j ≤ n) ks → k ≤ n → by_forms fs s ≡ behind ks (further x (Err (Syntax k))) → read_as fs s ≡ x
named fs s x n ks k le past low least e =
    short s (by_forms fs s) le ∙ e
    ∙ ap (behind ks) (first_wins x k (λ q f. let h = past q f in omega arith)) ∙ behind_wins x n past ks low

-- what is read behind a name goes on from where its reader stands
behind_name : (s w : List ℕ) (x : Outcome) (ps : List Part) (line : Values ps → Line) (before after : LineReader) → ((t : List ℕ) → s ≡ w ++ t → x ≡ scan ps line t (1 + length w) None None) → Unread s before → Off w before after → x ≡ scanned ps line after
behind_name s w x ps line before after to new off =
    to after.rest.now (sym new.rest ∙ off.rest)
    ∙ (λ i. scan ps line after.rest.now ((ap (λ p. p + length w) (sym new.place) ∙ sym off.place) i) ((sym new.over ∙ sym off.over) i) ((sym new.falls ∙ sym off.falls) i))

module _ (s : List ℕ) (before after : LineReader) (le : length s ≤ 512) (new : Unread s before) where
  pub read_order : Off (name n.Order) before after → read s ≡ scanned order_tail order_of after
  unfolding scan
  read_order = behind_name s (name n.Order) (read s) order_tail order_of before after (λ t e. named forms s _ 8 [] 3 le (scan_past order_tail order_of t 8 None None) tt (omega arith) (ap (by_forms forms) e)) new

  pub read_notice : Off (name n.Notice) before after → read s ≡ scanned notice_tail notice_of after
  unfolding scan
  read_notice = behind_name s (name n.Notice) (read s) notice_tail notice_of before after (λ t e. named forms s _ 9 (2 ∷ []) 2 le (scan_past notice_tail notice_of t 9 None None) (omega arith, tt) (omega arith) (ap (by_forms forms) e)) new

  pub read_open : Off (name n.Open) before after → read s ≡ scanned open_tail open_of after
  unfolding scan
  read_open = behind_name s (name n.Open) (read s) open_tail open_of before after (λ t e. named forms s _ 6 (3 ∷ (2 ∷ [])) 2 le (scan_past open_tail open_of t 6 None None) (omega arith, (omega arith, tt)) (omega arith) (ap (by_forms forms) e)) new

  pub read_watch : Off (name n.Watch) before after → read s ≡ scanned watch_tail watch_of after
  unfolding scan
  read_watch = behind_name s (name n.Watch) (read s) watch_tail watch_of before after (λ t e. named forms s _ 8 (2 ∷ (2 ∷ (2 ∷ []))) 2 le (scan_past watch_tail watch_of t 8 None None) (omega arith, (omega arith, (omega arith, tt))) (omega arith) (ap (by_forms forms) e)) new

  pub read_link : Off (name n.Link) before after → read s ≡ scanned link_tail link_of after
  unfolding scan
  read_link = behind_name s (name n.Link) (read s) link_tail link_of before after (λ t e. named forms s _ 7 (2 ∷ (2 ∷ (2 ∷ (2 ∷ [])))) 2 le (scan_past link_tail link_of t 7 None None) (omega arith, (omega arith, (omega arith, (omega arith, tt)))) (omega arith) (ap (by_forms forms) e)) new

  pub read_end : Off (name n.End) before after → read s ≡ scanned end_tail end_of after
  unfolding scan
  read_end = behind_name s (name n.End) (read s) end_tail end_of before after (λ t e. named forms s _ 6 (2 ∷ (2 ∷ (2 ∷ (2 ∷ (2 ∷ []))))) 2 le (scan_past end_tail end_of t 6 None None) (omega arith, (omega arith, (omega arith, (omega arith, (omega arith, tt))))) (omega arith) (ap (by_forms forms) e)) new

  pub read_bare : Off (name n.Bare) before after → read s ≡ scanned bare_tail bare_of after
  unfolding scan
  read_bare = behind_name s (name n.Bare) (read s) bare_tail bare_of before after (λ t e. named forms s _ 7 (2 ∷ (2 ∷ (2 ∷ (2 ∷ (2 ∷ (2 ∷ [])))))) 1 le (scan_past bare_tail bare_of t 7 None None) (omega arith, (omega arith, (omega arith, (omega arith, (omega arith, (omega arith, tt)))))) (omega arith) (ap (by_forms forms) e)) new

  -- where only orders and notices exist
  pub read_rule_order : Off (name n.Order) before after → read_as rule_forms s ≡ scanned order_tail order_of after
  unfolding scan
  read_rule_order = behind_name s (name n.Order) (read_as rule_forms s) order_tail order_of before after (λ t e. named rule_forms s _ 8 [] 2 le (scan_past order_tail order_of t 8 None None) tt (omega arith) (ap (by_forms rule_forms) e)) new

  pub read_rule_notice : Off (name n.Notice) before after → read_as rule_forms s ≡ scanned notice_tail notice_of after
  unfolding scan
  read_rule_notice = behind_name s (name n.Notice) (read_as rule_forms s) notice_tail notice_of before after (λ t e. named rule_forms s _ 9 (2 ∷ []) 1 le (scan_past notice_tail notice_of t 9 None None) (omega arith, tt) (omega arith) (ap (by_forms rule_forms) e)) new

-- the form of a name
abbrev form : FormName → Form
form n.Order = order_form
form n.Notice = notice_form
form n.Open = open_form
form n.Watch = watch_form
form n.Link = link_form
form n.End = end_form
form n.Bare = bare_form

module _ (s : List ℕ) where
  abbrev Without : FormName → Type 0
  Without f = Lacks (name f) s

  -- a form is refused behind what the line has in common with its name
  stops : (f : FormName) → Without f → by_form (form f) s ≡ Err (Syntax (1 + agree (name f) s))
  unfolding scan
  stops n.Order other = word_fails (name n.Order) s 1 None None (scan order_tail order_of) other
  stops n.Notice other = word_fails (name n.Notice) s 1 None None (scan notice_tail notice_of) other
  stops n.Open other = word_fails (name n.Open) s 1 None None (scan open_tail open_of) other
  stops n.Watch other = word_fails (name n.Watch) s 1 None None (scan watch_tail watch_of) other
  stops n.Link other = word_fails (name n.Link) s 1 None None (scan link_tail link_of) other
  stops n.End other = word_fails (name n.End) s 1 None None (scan end_tail end_of) other
  stops n.Bare other = word_fails (name n.Bare) s 1 None None (scan bare_tail bare_of) other

  -- a line that begins with none of these names is refused behind what it has in common with one
  none : (fs : List FormName) → AllByRecursion Without fs → by_forms (map form fs) s ≡ Err (Syntax (1 + furthest fs s))
  none [] other = refl
  none (f ∷ fs) other =
      (λ i. further (stops f other.0 i) (none fs other.1 i))
      ∙ ap (λ (k : ℕ). Err (Syntax k)) (let e : max (1 + agree (name f) s) (1 + furthest fs s) ≡ 1 + furthest (f ∷ fs) s = omega arith in e)

  pub read_none : length s ≤ 512 → ((f : FormName) → Without f) → read s ≡ Err (Syntax (1 + furthest names s))
  read_none le other =
      short s (by_forms forms s) le
      ∙ none names (other n.Order, (other n.Notice, (other n.Open, (other n.Watch, (other n.Link, (other n.End, (other n.Bare, tt)))))))

  pub read_no_rule : length s ≤ 512 → Without n.Order → Without n.Notice → read_as rule_forms s ≡ Err (Syntax (1 + furthest rule_names s))
  read_no_rule le order notice = short s (by_forms rule_forms s) le ∙ none rule_names (order, (notice, tt))

clash : (v w s t u : List ℕ) → s ≡ v ++ t → s ≡ w ++ u → key (v ++ t) ≡ key (w ++ u)
clash v w s t u d e = ap key (sym d ∙ e)

-- behind another name than these two stands neither of them
other_name : (f : FormName) (s t : List ℕ) → s ≡ name f ++ t → (f ≡ n.Order → ⊥) → (f ≡ n.Notice → ⊥) → Without s n.Order × Without s n.Notice
other_name n.Order s t e order notice = absurd (order refl)
other_name n.Notice s t e order notice = absurd (notice refl)
other_name n.Open s t e order notice =
    ((λ u d. let h = clash (name n.Open) (name n.Order) s t u e d in omega arith), (λ u d. let h = clash (name n.Open) (name n.Notice) s t u e d in omega arith))
other_name n.Watch s t e order notice =
    ((λ u d. let h = clash (name n.Watch) (name n.Order) s t u e d in omega arith), (λ u d. let h = clash (name n.Watch) (name n.Notice) s t u e d in omega arith))
other_name n.Link s t e order notice =
    ((λ u d. let h = clash (name n.Link) (name n.Order) s t u e d in omega arith), (λ u d. let h = clash (name n.Link) (name n.Notice) s t u e d in omega arith))
other_name n.End s t e order notice =
    ((λ u d. let h = clash (name n.End) (name n.Order) s t u e d in omega arith), (λ u d. let h = clash (name n.End) (name n.Notice) s t u e d in omega arith))
other_name n.Bare s t e order notice =
    ((λ u d. let h = clash (name n.Bare) (name n.Order) s t u e d in omega arith), (λ u d. let h = clash (name n.Bare) (name n.Notice) s t u e d in omega arith))

-- where the reader took no name, the line begins with none
pub no_name : (s : List ℕ) (before after : LineReader) (o : Option FormName) → Unread s before → NameOff before after o → o ≡ None → (f : FormName) → Without s f
no_name s before after o new off none f t e = subst (NameOff before after) none off f t (new.rest ∙ e)

-- where it took another name, the line begins with neither of these two
pub no_rule_named : (s : List ℕ) (before after : LineReader) (o : Option FormName) (f : FormName) → Unread s before → NameOff before after o → o ≡ Some f → (f ≡ n.Order → ⊥) → (f ≡ n.Notice → ⊥) → Without s n.Order × Without s n.Notice
no_rule_named s before after o f new off is order notice =
    other_name f s after.rest.now (sym new.rest ∙ (subst (NameOff before after) is off).rest) order notice
