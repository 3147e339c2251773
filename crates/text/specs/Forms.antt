-- The seven forms of a line, part by part, and the one text of each line.
use Rattle.std.specs.Prelude.{ℕ, List, [], ◌∷◌, ◌++◌, codes, decimal}
use Rattle.std.specs.List.{flat_map}
use Rattle.grade.specs.declared.upto.UpTo.{UpTo}
use Rattle.text.specs.declared.line.Wagons.{Wagons}
use Rattle.text.specs.declared.line.Wagons.TheVariants.{Zero, One, Two}
use Rattle.text.specs.declared.line.Line.{Line}
use Rattle.text.specs.declared.line.Line.TheVariants.{Order, Notice, Open, Watch, Link, End, Bare}
use Rattle.text.specs.Phases.{members}

-- what may stand in a form
pub data Part : Type 0 where
  -- these very bytes
  word : List ℕ → Part
  -- a number up to this limit
  number : ℕ → Part
  -- none to two wagons, a blank before each
  wagons : Part
  -- numbers up to 63 that rise strictly, or none, a blank before each
  rising : Part

-- what the parts of a form stand for
abbrev pub Values : List Part → Type 0
Values [] = Unit {0}
Values (word w ∷ ps) = Values ps
Values (number max ∷ ps) = UpTo max × Values ps
Values (wagons ∷ ps) = Wagons × Values ps
Values (rising ∷ ps) = ℕ × Values ps

pub record Form : Type 0 where
  pub parts : List Part
  pub line : Values parts → Line

-- the toll of an order or a notice, with the bracket that closes the line
abbrev pub toll_parts : List Part
toll_parts = word (codes " (") ∷ number 9999 ∷ word (codes " ") ∷ number 9 ∷ word (codes "))") ∷ []

abbrev pub order_tail : List Part
order_tail =
    number 63 ∷ word (codes " (") ∷ number 15 ∷ word (codes " ") ∷ number 31 ∷ word (codes ") (") ∷ number 15
    ∷ wagons ∷ word (codes ")") ∷ toll_parts

abbrev pub notice_tail : List Part
notice_tail =
    number 63 ∷ word (codes " ") ∷ number 15 ∷ word (codes " ") ∷ number 15 ∷ word (codes " (") ∷ number 63
    ∷ word (codes " ") ∷ number 63 ∷ word (codes ")") ∷ toll_parts

abbrev pub open_tail : List Part
open_tail = rising ∷ word (codes ")") ∷ []

-- three numbers up to these limits, to the end of the line
abbrev pub three_tail : ℕ → ℕ → ℕ → List Part
three_tail a b c = number a ∷ word (codes " ") ∷ number b ∷ word (codes " ") ∷ number c ∷ word (codes ")") ∷ []

-- one number up to this limit, to the end of the line
abbrev pub one_tail : ℕ → List Part
one_tail most = number most ∷ word (codes ")") ∷ []

abbrev pub watch_tail : List Part
watch_tail = three_tail 15 31 63

abbrev pub link_tail : List Part
link_tail = three_tail 63 31 63

abbrev pub end_tail : List Part
end_tail = one_tail 63

abbrev pub bare_tail : List Part
bare_tail = one_tail 15

abbrev pub order_of : Values order_tail → Line
order_of v =
    Order (record {
      number = v.0;
      mode = v.1.0;
      wagon = v.1.1.0;
      to = v.1.1.1.0;
      wagons = v.1.1.1.1.0;
      toll = record { minutes = v.1.1.1.1.1.0; class = v.1.1.1.1.1.1.0 };
    })

abbrev pub notice_of : Values notice_tail → Line
notice_of v =
    Notice (record {
      number = v.0;
      mode = v.1.0;
      to = v.1.1.0;
      loses = v.1.1.1.0;
      gains = v.1.1.1.1.0;
      toll = record { minutes = v.1.1.1.1.1.0; class = v.1.1.1.1.1.1.0 };
    })

abbrev pub open_of : Values open_tail → Line
open_of v = Open v.0

abbrev pub watch_of : Values watch_tail → Line
watch_of v = Watch (record { mode = v.0; wagon = v.1.0; node = v.1.1.0 })

abbrev pub link_of : Values link_tail → Line
link_of v = Link (record { node = v.0; wagon = v.1.0; to = v.1.1.0 })

abbrev pub end_of : Values end_tail → Line
end_of v = End v.0

abbrev pub bare_of : Values bare_tail → Line
bare_of v = Bare v.0

-- the forms of a book's lines
abbrev pub order_form : Form
order_form = record { parts = word (codes "(order ") ∷ order_tail; line = order_of }

abbrev pub notice_form : Form
notice_form = record { parts = word (codes "(notice ") ∷ notice_tail; line = notice_of }

abbrev pub open_form : Form
open_form = record { parts = word (codes "(open") ∷ open_tail; line = open_of }

abbrev pub watch_form : Form
watch_form = record { parts = word (codes "(watch ") ∷ watch_tail; line = watch_of }

abbrev pub link_form : Form
link_form = record { parts = word (codes "(link ") ∷ link_tail; line = link_of }

abbrev pub end_form : Form
end_form = record { parts = word (codes "(end ") ∷ end_tail; line = end_of }

abbrev pub bare_form : Form
bare_form = record { parts = word (codes "(bare ") ∷ bare_tail; line = bare_of }

abbrev pub forms : List Form
forms = order_form ∷ notice_form ∷ open_form ∷ watch_form ∷ link_form ∷ end_form ∷ bare_form ∷ []

-- the forms of what can be carried out
abbrev pub rule_forms : List Form
rule_forms = order_form ∷ notice_form ∷ []

-- the wagons as a list, the first on top
abbrev pub listed : Wagons → List (UpTo 31)
listed Zero = []
listed (One a) = a ∷ []
listed (Two a b) = a ∷ (b ∷ [])

-- a number behind a blank
abbrev pub blank_number : ℕ → List ℕ
blank_number n = 32 ∷ decimal n

abbrev pub blank_wagon : UpTo 31 → List ℕ
blank_wagon k = blank_number k.value

-- the text of the parts of a form
abbrev pub spelled : (ps : List Part) → Values ps → List ℕ
spelled [] v = []
spelled (word w ∷ ps) v = w ++ spelled ps v
spelled (number max ∷ ps) v = decimal v.0.value ++ spelled ps v.1
spelled (wagons ∷ ps) v = flat_map blank_wagon (listed v.0) ++ spelled ps v.1
spelled (rising ∷ ps) v = flat_map blank_number (members v.0) ++ spelled ps v.1

-- the one text of a line
abbrev pub text : Line → List ℕ
text (Order o) =
    spelled order_form.parts (o.number, (o.mode, (o.wagon, (o.to, (o.wagons, (o.toll.minutes, (o.toll.class, tt)))))))
text (Notice n) =
    spelled notice_form.parts (n.number, (n.mode, (n.to, (n.loses, (n.gains, (n.toll.minutes, (n.toll.class, tt)))))))
text (Open F) = spelled open_form.parts (F, tt)
text (Watch w) = spelled watch_form.parts (w.mode, (w.wagon, (w.node, tt)))
text (Link l) = spelled link_form.parts (l.node, (l.wagon, (l.to, tt)))
text (End t) = spelled end_form.parts (t, tt)
text (Bare p) = spelled bare_form.parts (p, tt)
