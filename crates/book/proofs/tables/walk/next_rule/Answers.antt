use Rattle.std.proofs.Common.{ap, ◌∙◌, rules}
use Rattle.std.specs.Option.{option_flatten}
use Rattle.book.proofs.Walk.{next_rule}
use Rattle.book.proofs.tables.walk.next_rule.Goals as goal

pub returns : goal.returns
returns c = next_rule (λ p x b q h. search rules) _ _ _ _ c.find.ensures.ran _ (c.flatten.ensures ∙ ap option_flatten c.copied.ensures)
