-- The values of a line: a filling within the limits is the text of what it means, each line has such a filling, and its text
-- is short. Assumes nothing.
use Rattle.std.proofs.Common.{◌≡◌, ℕ, ◌+◌, ◌*◌, ◌^◌, ◌<◌, ◌≤◌, Bool, true, false, ltb, List, [], ◌∷◌, ◌++◌, map, length, decimal, sym, refl, ap, ◌∙◌, subst, ap₂, arith, rules}
use Rattle.std.specs.List.{ContainsAt as Has, flat_map, AllByRecursion}
use Rattle.std.proofs.lemmas.List.{length-append, length-map}
use Rattle.std.proofs.lemmas.Bool.{cond-false, le-ltb}
use Rattle.std.proofs.ByRecursion.{All-append, all-has, All-weaker}
use Rattle.std.proofs.lemmas.Fmt.{length-decimal-le}
use Rattle.grade.specs.declared.upto.UpTo.{UpTo}
use Rattle.grade.specs.ValuesLemmas.{same_upto}
use Rattle.text.specs.declared.line.Wagons.{Wagons}
use Rattle.text.specs.declared.line.Wagons.TheVariants.{Zero, One, Two}
use Rattle.text.specs.declared.line.Line.{Line}
use Rattle.text.specs.declared.line.Line.TheVariants.{Order, Notice, Open, Watch, Link, End, Bare}
use Rattle.text.specs.Phases.{members, with_all}
use Rattle.text.specs.Numerals.{Numeral, value, kept}
use Rattle.text.specs.Forms.{Part, Form, Values, word, number, wagons, rising, listed, blank_number, blank_wagon, spelled, text, order_form, notice_form, open_form, watch_form, link_form, end_form, bare_form, forms}
use Rattle.text.specs.Reading.{wagons_of, values_of}
use Rattle.text.specs.Meaning.{Filling, Proper, blank_digits, filled, Mark, list_marks, marks, Above, Falls, Within}
use Rattle.text.proofs.Fillings.{kept_all, meant, Sized}
use Rattle.text.proofs.Phases.{Rising, rising_all, rising_members, length_members, with_members, with_all_fits, members_with_all}
use Rattle.text.proofs.Decimals.{decimal_numeral, numeral_decimal, value_of_decimal}

-- the limits have at most four digits
abbrev pub Small : List Part → Type 0
Small [] = Unit {0}
Small (word w ∷ ps) = Small ps
Small (number most ∷ ps) = (most < 10000) × Small ps
Small (wagons ∷ ps) = Small ps
Small (rising ∷ ps) = Small ps

-- each number is within its limit and rises where it is to
abbrev pub Fits : (ps : List Part) → Filling ps → Type 0
Fits [] r = Unit {0}
Fits (word w ∷ ps) r = Fits ps r
Fits (number most ∷ ps) r = (value r.0 ≤ most) × Fits ps r.1
Fits (wagons ∷ ps) r = AllByRecursion (λ n. n ≤ 31) (map value r.0) × Fits ps r.1
Fits (rising ∷ ps) r = Rising 0 64 (map value r.0) × Fits ps r.1

-- each number is within the limit
abbrev pub Under : ℕ → List ℕ → Type 0
Under most ns = AllByRecursion (λ n. n ≤ most) ns

rising_under : (ns : List ℕ) → Rising 0 64 ns → Under 63 ns
rising_under ns r = All-weaker (λ n. n < 64) (λ n. n ≤ 63) (λ n lt. omega arith) ns (rising_all 0 64 ns r)

-- the marks of a filling say whether it fits

all_split : {X : Type 0} (P : X → Type 0) (xs ys : List X) → AllByRecursion P (xs ++ ys) → AllByRecursion P xs × AllByRecursion P ys
all_split P [] ys h = (tt, h)
all_split P (x ∷ xs) ys h = let t = all_split P xs ys h.1 in ((h.0, t.0), t.1)

abbrev Low : List Mark → Type 0
Low ms = AllByRecursion (λ m. Above m → ⊥) ms

abbrev Rises : List Mark → Type 0
Rises ms = AllByRecursion (λ m. Falls m → ⊥) ms

list_low : (most : ℕ) (rise : Bool) (dss : List (List ℕ)) (p least : ℕ) → Low (list_marks most rise p least dss) → Under most (map value dss)
list_low most rise [] p least h = tt
list_low most rise (ds ∷ dss) p least h = (omega (arith, h.0), list_low most rise dss _ _ h.1)

list_rises : (dss : List (List ℕ)) (p least : ℕ) → Low (list_marks 63 true p least dss) → Rises (list_marks 63 true p least dss) → Rising least 64 (map value dss)
list_rises [] p least h f = tt
list_rises (ds ∷ dss) p least h f = (omega (arith, f.0), (omega (arith, h.0), list_rises dss _ _ h.1 f.1))

pub fits_from_marks : (ps : List Part) (r : Filling ps) (p : ℕ) → AllByRecursion (λ m. Above m → ⊥) (marks ps r p) → AllByRecursion (λ m. Falls m → ⊥) (marks ps r p) → Fits ps r
fits_from_marks [] r p h f = tt
fits_from_marks (word w ∷ ps) r p h f = fits_from_marks ps r _ h f
fits_from_marks (number most ∷ ps) r p h f = (omega (arith, h.0), fits_from_marks ps r.1 _ h.1 f.1)
fits_from_marks (wagons ∷ ps) r p h f =
    let a = all_split (λ m. Above m → ⊥) (list_marks 31 false p 0 r.0) _ h in
    let b = all_split (λ m. Falls m → ⊥) (list_marks 31 false p 0 r.0) _ f in
    (list_low 31 false r.0 p 0 a.0, fits_from_marks ps r.1 _ a.1 b.1)
fits_from_marks (rising ∷ ps) r p h f =
    let a = all_split (λ m. Above m → ⊥) (list_marks 63 true p 0 r.0) _ h in
    let b = all_split (λ m. Falls m → ⊥) (list_marks 63 true p 0 r.0) _ f in
    (list_rises r.0 p 0 a.0 b.0, fits_from_marks ps r.1 _ a.1 b.1)

low_list : (most : ℕ) (rise : Bool) (dss : List (List ℕ)) (p least : ℕ) → Under most (map value dss) → Low (list_marks most rise p least dss)
low_list most rise [] p least h = tt
low_list most rise (ds ∷ dss) p least h = ((λ a. omega arith), low_list most rise dss _ _ h.1)

plain_list : (most : ℕ) (dss : List (List ℕ)) (p : ℕ) → Rises (list_marks most false p 0 dss)
plain_list most [] p = tt
plain_list most (ds ∷ dss) p = ((λ a. omega arith), plain_list most dss _)

rising_list : (most top : ℕ) (dss : List (List ℕ)) (p least : ℕ) → Rising least top (map value dss) → Rises (list_marks most true p least dss)
rising_list most top [] p least h = tt
rising_list most top (ds ∷ dss) p least h = ((λ a. omega arith), rising_list most top dss _ _ h.1.1)

pub marks_from_fits : (ps : List Part) (r : Filling ps) → Fits ps r → (p : ℕ) → AllByRecursion (λ m. Above m → ⊥) (marks ps r p) × AllByRecursion (λ m. Falls m → ⊥) (marks ps r p)
marks_from_fits [] r h p = (tt, tt)
marks_from_fits (word w ∷ ps) r h p = marks_from_fits ps r h _
marks_from_fits (number most ∷ ps) r h p =
    let t = marks_from_fits ps r.1 h.1 (p + length r.0) in
    (((λ a. omega arith), t.0), ((λ a. omega arith), t.1))
marks_from_fits (wagons ∷ ps) r h p =
    let t = marks_from_fits ps r.1 h.1 _ in
    (All-append _ _ _ (low_list 31 false r.0 p 0 h.0) t.0, All-append _ _ _ (plain_list 31 r.0 p) t.1)
marks_from_fits (rising ∷ ps) r h p =
    let t = marks_from_fits ps r.1 h.1 _ in
    (All-append _ _ _ (low_list 63 true r.0 p 0 (rising_under (map value r.0) h.0)) t.0, All-append _ _ _ (rising_list 63 64 r.0 p 0 h.0) t.1)

-- a filling that fits is the text of what it means

kept_value : (most n : ℕ) → n ≤ most → (kept most n).value ≡ n
kept_value most n le = cond-false (ltb most n) 0 n (le-ltb most n le)

kept_values : (most : ℕ) (dss : List (List ℕ)) → Under most (map value dss) → map (λ x. x.value) (kept_all most dss) ≡ map value dss
kept_values most [] h = refl
kept_values most (ds ∷ dss) h = ap₂ ◌∷◌ (kept_value most (value ds) h.0) (kept_values most dss h.1)

joined_map : {X Y : Type 0} (f : Y → List ℕ) (g : X → Y) (xs : List X) → flat_map f (map g xs) ≡ flat_map (λ x. f (g x)) xs
joined_map f g [] = refl
joined_map f g (x ∷ xs) = ap (λ t. f (g x) ++ t) (joined_map f g xs)

joined_digits : (most : ℕ) (dss : List (List ℕ)) → most < 10000 → AllByRecursion Numeral dss → Under most (map value dss) → flat_map blank_digits dss ≡ flat_map blank_number (map value dss)
joined_digits most [] small n h = refl
joined_digits most (ds ∷ dss) small n h =
    ap₂ (λ s t. (32 ∷ s) ++ t) (sym (decimal_numeral ds n.0 (omega (arith, h.0)))) (joined_digits most dss small n.1 h.1)

pub wagons_text : (xs : List (UpTo 31)) → flat_map blank_wagon xs ≡ flat_map blank_number (map (λ x. x.value) xs)
wagons_text xs = sym (joined_map blank_number (λ x. x.value) xs)

listed_of : (xs : List (UpTo 31)) → length xs ≤ 2 → listed (wagons_of xs) ≡ xs
listed_of [] le = refl
listed_of (a ∷ []) le = refl
listed_of (a ∷ (b ∷ [])) le = refl
listed_of (a ∷ (b ∷ (c ∷ cs))) le = absurd (omega arith)

pub filled_fits : (ps : List Part) → Small ps → (r : Filling ps) → Proper ps r → Fits ps r → (filled ps r ≡ spelled ps (meant ps r)) × Sized ps (meant ps r)
filled_fits [] small r pr h = (refl, tt)
filled_fits (word w ∷ ps) small r pr h =
    let t = filled_fits ps small r pr h in
    (ap (λ s. w ++ s) t.0, t.1)
filled_fits (number most ∷ ps) small r pr h =
    let t = filled_fits ps small.1 r.1 pr.1 h.1 in
    let e : r.0 ≡ decimal (kept most (value r.0)).value =
    sym (ap decimal (kept_value most (value r.0) h.0) ∙ decimal_numeral r.0 pr.0 (omega arith))
    in
    (ap₂ ◌++◌ e t.0, t.1)
filled_fits (wagons ∷ ps) small r pr h =
    let t = filled_fits ps small r.1 pr.1.1 h.1 in
    let xs = kept_all 31 r.0 in
    let e : flat_map blank_digits r.0 ≡ flat_map blank_wagon (listed (wagons_of xs)) =
    joined_digits 31 r.0 (omega arith) pr.0 h.0 ∙ ap (flat_map blank_number) (sym (kept_values 31 r.0 h.0))
    ∙ sym (wagons_text xs)
    ∙ ap (flat_map blank_wagon) (sym (listed_of xs (simp length-map pr.1.0)))
    in
    (ap₂ ◌++◌ e t.0, t.1)
filled_fits (rising ∷ ps) small r pr h =
    let t = filled_fits ps small r.1 pr.1 h.1 in
    let ns = map value r.0 in
    let low = rising_under ns h.0 in
    let k : values_of (kept_all 63 r.0) ≡ ns = kept_values 63 r.0 low in
    let e : flat_map blank_digits r.0 ≡ flat_map blank_number (members (with_all 0 (values_of (kept_all 63 r.0)))) =
    joined_digits 63 r.0 (omega arith) pr.0 low
    ∙ ap (flat_map blank_number) (sym (ap (λ ms. members (with_all 0 ms)) k ∙ members_with_all ns h.0))
    in
    (ap₂ ◌++◌ e t.0, (subst (λ ms. with_all 0 ms < 2 ^ 64) (sym k) (with_all_fits ns h.0), t.1))

pub filled_spelled : (ps : List Part) → Small ps → (r : Filling ps) → Proper ps r → (p : ℕ) → AllByRecursion (λ m. Above m → ⊥) (marks ps r p) → AllByRecursion (λ m. Falls m → ⊥) (marks ps r p) → (filled ps r ≡ spelled ps (meant ps r)) × Sized ps (meant ps r)
filled_spelled ps small r pr p low rises = filled_fits ps small r pr (fits_from_marks ps r p low rises)

-- the filling that values stand in

abbrev pub written : (ps : List Part) → Values ps → Filling ps
written [] v = tt
written (word w ∷ ps) v = written ps v
written (number most ∷ ps) v = (decimal v.0.value, written ps v.1)
written (wagons ∷ ps) v = (map decimal (map (λ x. x.value) (listed v.0)), written ps v.1)
written (rising ∷ ps) v = (map decimal (members v.0), written ps v.1)

pub upto_under : (most : ℕ) (xs : List (UpTo most)) → Under most (map (λ x. x.value) xs)
upto_under most [] = tt
upto_under most (x ∷ xs) = (x.fits, upto_under most xs)

pub members_under : (F : ℕ) → Under 63 (members F)
members_under F = rising_under (members F) (rising_members F)

numeral_decimals : (most : ℕ) (ns : List ℕ) → most < 10000 → Under most ns → AllByRecursion Numeral (map decimal ns)
numeral_decimals most [] small h = tt
numeral_decimals most (n ∷ ns) small h = (numeral_decimal n (omega arith), numeral_decimals most ns small h.1)

value_decimals : (most : ℕ) (ns : List ℕ) → most < 10000 → Under most ns → map value (map decimal ns) ≡ ns
value_decimals most [] small h = refl
value_decimals most (n ∷ ns) small h = ap₂ ◌∷◌ (value_of_decimal n (omega arith)) (value_decimals most ns small h.1)

length_listed : (w : Wagons) → length (listed w) ≤ 2
length_listed Zero = omega arith
length_listed (One a) = omega arith
length_listed (Two a b) = omega arith

wagons_listed : (w : Wagons) → wagons_of (listed w) ≡ w
wagons_listed Zero = refl
wagons_listed (One a) = refl
wagons_listed (Two a b) = refl

kept_back : (most : ℕ) (x : UpTo most) → most < 10000 → kept most (value (decimal x.value)) ≡ x
kept_back most x small =
    let n = x.value in
    let le : n ≤ most = x.fits in
    let e : value (decimal n) ≡ n = value_of_decimal n (omega arith) in
    same_upto most (kept most (value (decimal n))) x (kept_value most (value (decimal n)) (omega arith) ∙ e)

kept_all_back : (most : ℕ) (xs : List (UpTo most)) → most < 10000 → kept_all most (map decimal (map (λ x. x.value) xs)) ≡ xs
kept_all_back most [] small = refl
kept_all_back most (x ∷ xs) small = ap₂ ◌∷◌ (kept_back most x small) (kept_all_back most xs small)

pub written_proper : (ps : List Part) → Small ps → (v : Values ps) → Proper ps (written ps v)
written_proper [] small v = tt
written_proper (word w ∷ ps) small v = written_proper ps small v
written_proper (number most ∷ ps) small v =
    let le : v.0.value ≤ most = v.0.fits in
    (numeral_decimal v.0.value (omega arith), written_proper ps small.1 v.1)
written_proper (wagons ∷ ps) small v =
    let ns = map (λ x. x.value) (listed v.0) in
    (numeral_decimals 31 ns (omega arith) (upto_under 31 (listed v.0)), (simp length-map (length_listed v.0), written_proper ps small v.1))
written_proper (rising ∷ ps) small v =
    (numeral_decimals 63 (members v.0) (omega arith) (members_under v.0), written_proper ps small v.1)

pub written_fits : (ps : List Part) → Small ps → (v : Values ps) → Fits ps (written ps v)
written_fits [] small v = tt
written_fits (word w ∷ ps) small v = written_fits ps small v
written_fits (number most ∷ ps) small v =
    let le : v.0.value ≤ most = v.0.fits in
    (omega (arith, value_of_decimal v.0.value (omega arith)), written_fits ps small.1 v.1)
written_fits (wagons ∷ ps) small v =
    let ns = map (λ x. x.value) (listed v.0) in
    let under = upto_under 31 (listed v.0) in
    (subst (Under 31) (sym (value_decimals 31 ns (omega arith) under)) under, written_fits ps small v.1)
written_fits (rising ∷ ps) small v =
    let e = value_decimals 63 (members v.0) (omega arith) (members_under v.0) in
    (subst (Rising 0 64) (sym e) (rising_members v.0), written_fits ps small v.1)

pub filled_written : (ps : List Part) (v : Values ps) → filled ps (written ps v) ≡ spelled ps v
filled_written [] v = refl
filled_written (word w ∷ ps) v = ap (λ s. w ++ s) (filled_written ps v)
filled_written (number most ∷ ps) v = ap (λ s. decimal v.0.value ++ s) (filled_written ps v.1)
filled_written (wagons ∷ ps) v =
    let xs = listed v.0 in
    ap₂ ◌++◌ (joined_map blank_digits decimal (map (λ x. x.value) xs) ∙ sym (wagons_text xs)) (filled_written ps v.1)
filled_written (rising ∷ ps) v = ap₂ ◌++◌ (joined_map blank_digits decimal (members v.0)) (filled_written ps v.1)

pub meant_written : (ps : List Part) → Small ps → (v : Values ps) → Sized ps v → meant ps (written ps v) ≡ v
meant_written [] small v sized = refl
meant_written (word w ∷ ps) small v sized = meant_written ps small v sized
meant_written (number most ∷ ps) small v sized =
    λ i. (kept_back most v.0 small.0 i, meant_written ps small.1 v.1 sized i)
meant_written (wagons ∷ ps) small v sized =
    let e = ap wagons_of (kept_all_back 31 (listed v.0) (omega arith)) ∙ wagons_listed v.0 in
    λ i. (e i, meant_written ps small v.1 sized i)
meant_written (rising ∷ ps) small v sized =
    let ns = members v.0 in
    let back : map value (map decimal ns) ≡ ns = value_decimals 63 ns (omega arith) (members_under v.0) in
    let under = subst (Under 63) (sym back) (members_under v.0) in
    let e : with_all 0 (values_of (kept_all 63 (map decimal ns))) ≡ v.0 =
    ap (with_all 0) (kept_values 63 (map decimal ns) under ∙ back) ∙ with_members v.0 sized.0
    in
    λ i. (e i, meant_written ps small v.1 sized.1 i)

pub spelled_filled : (ps : List Part) → Small ps → (v : Values ps) → Sized ps v → (r : Filling ps) × (Proper ps r × ((filled ps r ≡ spelled ps v) × ((meant ps r ≡ v) × ((p : ℕ) → AllByRecursion (λ m. Above m → ⊥) (marks ps r p) × AllByRecursion (λ m. Falls m → ⊥) (marks ps r p)))))
spelled_filled ps small v sized =
    (written ps v, (written_proper ps small v, (filled_written ps v, (meant_written ps small v sized, marks_from_fits ps (written ps v) (written_fits ps small v)))))

-- the text of values is short

abbrev room : List Part → ℕ
room [] = 0
room (word w ∷ ps) = length w + room ps
room (number most ∷ ps) = 4 + room ps
room (wagons ∷ ps) = 6 + room ps
room (rising ∷ ps) = 192 + room ps

length_joined : (most : ℕ) (ns : List ℕ) → most < 100 → Under most ns → length (flat_map blank_number ns) ≤ 3 * length ns
length_joined most [] small h = omega arith
length_joined most (n ∷ ns) small h =
    omega (arith, length-append (decimal n) (flat_map blank_number ns), length-decimal-le 2 n (omega arith) (omega arith) (omega arith), length_joined most ns small h.1)

length_spelled : (ps : List Part) → Small ps → (v : Values ps) → length (spelled ps v) ≤ room ps
length_spelled [] small v = omega arith
length_spelled (word w ∷ ps) small v = omega (arith, length-append w (spelled ps v), length_spelled ps small v)
length_spelled (number most ∷ ps) small v =
    let n = v.0.value in
    let le : n ≤ most = v.0.fits in
    omega (arith, length-append (decimal n) (spelled ps v.1), length-decimal-le 4 n (omega arith) (omega arith) (omega arith), length_spelled ps small.1 v.1)
length_spelled (wagons ∷ ps) small v =
    let xs = listed v.0 in
    let three = length_joined 31 (map (λ x. x.value) xs) (omega arith) (upto_under 31 xs) in
    let two : length (map (λ x. x.value) xs) ≤ 2 = simp length-map (length_listed v.0) in
    omega (arith, length-append (flat_map blank_wagon xs) (spelled ps v.1), ap length (wagons_text xs), three, two, length_spelled ps small v.1)
length_spelled (rising ∷ ps) small v =
    let three = length_joined 63 (members v.0) (omega arith) (members_under v.0) in
    omega (arith, length-append (flat_map blank_number (members v.0)) (spelled ps v.1), three, length_members v.0, length_spelled ps small v.1)

-- the seven forms

small_forms : AllByRecursion (λ f. Small f.parts) forms
small_forms = search rules

pub small_form : (f : Form) → Has forms f → Small f.parts
small_form f among = all-has (λ f. Small f.parts) forms f small_forms among

short_forms : AllByRecursion (λ f. room f.parts ≤ 512) forms
short_forms = search rules

-- a line of this form is within the limits where its values are, and its text is theirs
abbrev pub Tells : Form → Type 0
Tells f = (v : Values f.parts) → Sized f.parts v → Within (f.line v) × (text (f.line v) ≡ spelled f.parts v)

text_forms : AllByRecursion Tells forms
text_forms =
    ((λ v s. (tt, refl)), ((λ v s. (tt, refl)), ((λ v s. (s.0, refl)), ((λ v s. (tt, refl)), ((λ v s. (tt, refl)), ((λ v s. (tt, refl)), ((λ v s. (tt, refl)), tt)))))))

pub text_form : (f : Form) → Has forms f → Tells f
text_form f among = all-has Tells forms f text_forms among

-- and the values are within the limits where the line is
abbrev pub Limits : Form → Type 0
Limits f = (v : Values f.parts) → Within (f.line v) → Sized f.parts v

sized_forms : AllByRecursion Limits forms
sized_forms = ((λ v w. tt), ((λ v w. tt), ((λ v w. (w, tt)), ((λ v w. tt), ((λ v w. tt), ((λ v w. tt), ((λ v w. tt), tt)))))))

pub sized_form : (f : Form) → Has forms f → Limits f
sized_form f among = all-has Limits forms f sized_forms among

-- a line as the values of a form
pub record Formed (l : Line) : Type 0 where
  pub form : Form
  pub among : Has forms form
  pub values : Values form.parts
  pub sized : Sized form.parts values
  pub line_is : form.line values ≡ l
  pub text_is : text l ≡ spelled form.parts values

formed_as : {l : Line} (f : Form) → Has forms f → (v : Values f.parts) → Sized f.parts v → f.line v ≡ l → Formed l
formed_as f among v sized e = record {
  form = f;
  among = among;
  values = v;
  sized = sized;
  line_is = e;
  text_is = sym (ap text e) ∙ (text_form f among v sized).1;
}

pub formed : (l : Line) → Within l → Formed l
formed (Order o) w =
    formed_as order_form (0, omega arith, λ d. refl) (o.number, (o.mode, (o.wagon, (o.to, (o.wagons, (o.toll.minutes, (o.toll.class, tt))))))) tt refl
formed (Notice n) w =
    formed_as notice_form (1, omega arith, λ d. refl) (n.number, (n.mode, (n.to, (n.loses, (n.gains, (n.toll.minutes, (n.toll.class, tt))))))) tt refl
formed (Open F) w = formed_as open_form (2, omega arith, λ d. refl) (F, tt) (w, tt) refl
formed (Watch c) w = formed_as watch_form (3, omega arith, λ d. refl) (c.mode, (c.wagon, (c.node, tt))) tt refl
formed (Link c) w = formed_as link_form (4, omega arith, λ d. refl) (c.node, (c.wagon, (c.to, tt))) tt refl
formed (End t) w = formed_as end_form (5, omega arith, λ d. refl) (t, tt) tt refl
formed (Bare p) w = formed_as bare_form (6, omega arith, λ d. refl) (p, tt) tt refl

pub length_text : (l : Line) → Within l → length (text l) ≤ 512
length_text l w =
    let s = formed l w in
    omega (arith, ap length s.text_is, length_spelled s.form.parts (small_form s.form s.among) s.values, all-has (λ f. room f.parts ≤ 512) forms s.form short_forms s.among)
