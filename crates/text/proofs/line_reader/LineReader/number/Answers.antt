use Rattle.std.proofs.lemmas.Result.{MatchResult-weaker}
use Rattle.text.specs.Reading.{scan}
use Rattle.text.proofs.line_reader.LineReader.number.Goals as goal

pub returns : goal.returns
unfolding scan
returns g c = MatchResult-weaker c.bounded.result c.bounded.ensures.value (λ x h ps line. h (λ y. scan ps (λ v. line (y, v)))) (λ e h ps line. h (λ y. scan ps (λ v. line (y, v))))
