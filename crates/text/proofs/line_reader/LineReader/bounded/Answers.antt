use Rattle.text.proofs.Readers.{number_shorter}
use Rattle.text.proofs.line_reader.LineReader.bounded.Goals as goal

pub returns-then-number-least-clause-shorter : goal.returns-then-number-least-clause-shorter
returns-then-number-least-clause-shorter g c = number_shorter _ _ _ c.in_ok-numeral.ensures

pub returns-else-number-least-clause-shorter : goal.returns-else-number-least-clause-shorter
returns-else-number-least-clause-shorter g c = number_shorter _ _ _ c.in_ok-numeral.ensures
