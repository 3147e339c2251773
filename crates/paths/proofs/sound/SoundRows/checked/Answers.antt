use Rattle.std.proofs.Common.{◌≡◌, ◌≤◌, length, take, sym, refl, subst, ⊎_elim, arith}
use Rattle.std.proofs.lemmas.Grind.{common_steps}
use Rattle.std.specs.List.{All}
use Rattle.phases.specs.Table.{used}
use Rattle.paths.specs.Cells.{Leads}
use Rattle.std.proofs.lemmas.Bool.{both_ways}
use Rattle.paths.proofs.Taken.{cut_sound, sound_cut}
use Rattle.paths.proofs.sound.SoundRows.checked.Goals as goal

pub returns-in_default : goal.returns-in_default
returns-in_default g c = (refl, λ sound. let enough = sound.enough in ⊎_elim (λ lt. omega arith) (λ lt. omega arith) c.in_default.ensures.lookup.0)

pub returns-then-not-all_lead : goal.returns-then-not-all_lead
returns-then-not-all_lead g c = (
  refl,
  λ sound.
      let rows : c.in-Some.rows.now ≡ take c.args.count c.args.rows.now = grind (arith, common_steps, c.in-Some.ensures.lookup) in
      let cut = sound_cut g.G.Grade c.args.rows.now c.args.count sound.enough sound in
      both_ways _ c.if-not-all_lead.true (c.all_lead.ensures.1 (subst (λ Fs. All (Leads Fs) c.in-Some.rows.now) (sym c.in_use-phases.ensures) (subst (All (Leads (used c.args.phases.now))) (sym rows) cut))),
)

pub returns : goal.returns
returns g c =
    let rows : c.in-Some.rows.now ≡ take c.args.count c.args.rows.now = grind (arith, common_steps, c.in-Some.ensures.lookup) in
    let enough : c.args.count ≤ length c.args.rows.now = c.in-Some.ensures.lookup.0.1 in
    let lead = subst (λ Fs. All (Leads Fs) (take c.args.count c.args.rows.now)) c.in_use-phases.ensures (subst (All (Leads c.in_use-phases.result.now)) rows (c.all_lead.ensures.0 c.if-not-all_lead.false)) in
    (refl, c.in_use-phases.ensures, rows, cut_sound g.G.Grade c.args.rows.now c.args.count enough lead)
