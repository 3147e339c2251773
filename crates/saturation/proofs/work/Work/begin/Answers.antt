use Rattle.std.proofs.Common.{ℕ, ◌<◌, length, get_or, None}
use Rattle.saturation.specs.Start.{LinkBegun, WatchBegun, RuleBegun}
use Rattle.saturation.proofs.Growth.{full_on, went_on, ends_on, covers_later, at_none}
use Rattle.saturation.proofs.Starting.{Begun, begin_ends}
use Rattle.saturation.proofs.work.Work.begin.Goals as goal

pub returns-in_err-begin_links-clause-turned : goal.returns-in_err-begin_links-clause-turned
returns-in_err-begin_links-clause-turned g c =
    let e = c.args.setting.now in
    let old = c.args.self.now in
    let new = c.begin_links.new.self in
    begin_ends g.G.Grade e.phases.now e.book.now old.rows.now old.waiting.now new.rows.now new.found new.waiting.now c.from_residual.result e.settled old.found c.requires.start.0 c.requires.start.1
    (at_none _ _ c.from_residual.result c.from_residual.ensures c.in_err-begin_links.ensures.ends)

pub returns-in_err-begin_watches-clause-turned : goal.returns-in_err-begin_watches-clause-turned
returns-in_err-begin_watches-clause-turned g c =
    let e = c.args.setting.now in
    let old = c.args.self.now in
    let new = c.begin_watches.new.self in
    let result = c.from_residual-in_err-begin_watches.result in
    begin_ends g.G.Grade e.phases.now e.book.now old.rows.now old.waiting.now new.rows.now new.found new.waiting.now result e.settled old.found c.requires.start.0 c.requires.start.1
    (at_none _ _ result c.from_residual-in_err-begin_watches.ensures (full_on c.in_ok-begin_links.ensures.ends (λ r h. h) c.in_err-begin_watches.ensures.ends))

pub returns-clause-turned : goal.returns-clause-turned
returns-clause-turned g c =
    let m = g.G.Grade in
    let e = c.args.setting.now in
    let Fs = c.args.setting.now.phases.now in
    let b = c.args.setting.now.book.now in
    let lawful = c.requires.table.lawful in
    let old = c.args.self.now in
    let mid = c.begin_watches.new.self in
    let new = c.begin_orders.new.self in
    let links = c.in_ok-begin_links.ensures.ends in
    let watches = went_on links (λ r h. h) {C = ((k : ℕ) → k < b.linking → LinkBegun m Fs b k mid.rows.now mid.found) × ((k : ℕ) → k < b.watching → (i : ℕ) → i < length Fs → WatchBegun m Fs b k i mid.rows.now mid.found)}
    (λ grown a d. ((λ k lt. covers_later _ _ lawful grown (a k lt)), d)) c.in_ok-begin_watches.ensures.ends in
    begin_ends m Fs b old.rows.now old.waiting.now new.rows.now new.found new.waiting.now c.begin_orders.result e.settled old.found c.requires.start.0 c.requires.start.1
    (ends_on watches (λ r h. h) new.rows.now new.found new.waiting.now (λ later n. (k : ℕ) → k < 64 → RuleBegun m Fs (get_or b.rules k None) later n) (Begun m Fs b) c.begin_orders.result
    (λ grown a d. ((λ k lt. covers_later _ _ lawful grown (a.0 k lt)), (λ k lt i low. covers_later _ _ lawful grown (a.1 k lt i low)), d)) c.begin_orders.ensures.ends)
