use Rattle.std.proofs.Common.{◌≡◌, ℕ, ◌-◌, ◌≤◌, false, length, get_or, take, drop, sym, ap, ◌∙◌, subst, rules}
use Rattle.std.proofs.lemmas.List.{nil_from_length}
use Rattle.book.specs.Lines.{lines}
use Rattle.phases.specs.Nodes.{Marked, Enters}
use Rattle.phases.specs.Held.{Takes}
use Rattle.phases.proofs.Holding.{bare_takes, takes_bare, leads_like, takes_read, read_takes, lane_parts}
use Rattle.phases.proofs.nodes.takes.Goals as goal

pub returns-in-empty : goal.returns-in-empty
returns-in-empty c =
    let b = c.args.book.now in
    let mode = c.args.mode in
    let short : length c.args.lane.now ≡ 0 = search rules in
    let none = nil_from_length c.args.lane.now short in
    let mark = λ (k : ℕ). get_or b.bares k false in
    (λ e. subst (Takes (lines b) mode) (sym none) (bare_takes b mode c.requires (ap mark (sym c.from.ensures) ∙ e)), λ h. ap mark c.from.ensures ∙ takes_bare b mode (subst (Takes (lines b) mode) none h))

pub returns-in-len1-up : goal.returns-in-len1-up
returns-in-len1-up c =
    let ls = lines c.args.book.now in
    let mode = c.args.mode in
    let lane = c.args.lane.now in
    let top = get_or lane 0 0 in
    let others = take (length lane - 1) (drop 1 lane) in
    let some : 1 ≤ length lane = search rules in
    let parts = lane_parts lane some in
    let first = Marked c.first_nodes.result in
    let just = c.first_nodes.ensures.just in (
      λ e. subst (Takes ls mode) (sym parts) (read_takes ls mode top others (leads_like ls first (Enters ls mode top) others (λ t. (just t).0) (c.leads.ensures.0 e))),
      λ h. c.leads.ensures.1 (leads_like ls (Enters ls mode top) first others (λ t. (just t).1) (takes_read ls mode top others (subst (Takes ls mode) parts h))),
    )
