-- The order in which a book's lines are written: orders and notices by number, then open lines by their phase, then watch,
-- link, end and bare lines, each by its numbers from the left.
use Rattle.std.specs.Prelude.{ℕ, ◌+◌, ◌*◌, ◌^◌, List, [], ◌∷◌}
use Rattle.text.specs.declared.line.Line.{Line}
use Rattle.text.specs.declared.line.Line.TheVariants.{Order, Notice, Open, Watch, Link, End, Bare}
use Rattle.text.specs.declared.line.WatchLine.{WatchLine}
use Rattle.text.specs.declared.line.LinkLine.{LinkLine}
use Rattle.book.specs.Order.{Ascending}

-- the kinds of lines; an order and a notice are rules
pub data Kind : Type 0 where
  rules : Kind
  opens : Kind
  watches : Kind
  links : Kind
  ends : Kind
  bares : Kind

-- in the order in which they are written
abbrev pub kinds : List Kind
kinds = rules ∷ opens ∷ watches ∷ links ∷ ends ∷ bares ∷ []

-- the kind of a line
abbrev pub kind : Line → Kind
kind (Order o) = rules
kind (Notice n) = rules
kind (Open F) = opens
kind (Watch w) = watches
kind (Link k) = links
kind (End t) = ends
kind (Bare p) = bares

-- how many lines of a kind can be told apart by their numbers
abbrev pub span : Kind → ℕ
span rules = 64
span opens = 2 ^ 64
span watches = 16 * 32 * 64
span links = 64 * 32 * 64
span ends = 64
span bares = 16

-- the ranks of a kind begin where those of the kind before end
abbrev pub start : Kind → ℕ
start rules = 0
start opens = span rules
start watches = span rules + span opens
start links = span rules + span opens + span watches
start ends = span rules + span opens + span watches + span links
start bares = span rules + span opens + span watches + span links + span ends

-- the ranks of a kind are below this
abbrev pub stop : Kind → ℕ
stop k = start k + span k

-- three numbers, the second below 32 and the third below 64, from the left
abbrev pub from_left : ℕ → ℕ → ℕ → ℕ
from_left a k t = (a * 32 + k) * 64 + t

-- the place of a phase, a watch line and a link line among its like
abbrev pub phase_rank : ℕ → ℕ
phase_rank F = F

abbrev pub watch_rank : WatchLine → ℕ
watch_rank w = from_left w.mode.value w.wagon.value w.node.value

abbrev pub link_rank : LinkLine → ℕ
link_rank k = from_left k.node.value k.wagon.value k.to.value

-- the place of a line in the order of writing
abbrev pub rank : Line → ℕ
rank (Order o) = o.number.value
rank (Notice n) = n.number.value
rank (Open F) = start opens + phase_rank F
rank (Watch w) = start watches + watch_rank w
rank (Link k) = start links + link_rank k
rank (End t) = start ends + t.value
rank (Bare p) = start bares + p.value

-- lines in this order, no rank twice
abbrev pub Sorted : List Line → Type 0
Sorted ls = Ascending rank ls
