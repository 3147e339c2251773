use Rattle.std.proofs.Common.{◌≡◌, ap, ◌++◌, ◌∙◌, arith}
use Rattle.std.specs.List.{flat_map}
use Rattle.text.specs.Phases.{members, members_below}
use Rattle.text.specs.Forms.{blank_number}
use Rattle.text.proofs.line_text.LineText.phase.Goals as goal

pub returns-clause-text : goal.returns-clause-text
unfolding members
returns-clause-text c =
    let done : c.loop-n.n ≡ 64 = omega arith in
    c.loop-n.invariant.1 ∙ ap (λ n. c.args.self.now ++ flat_map blank_number (members_below n c.args.phase)) done
