use Rattle.text.proofs.line_text.LineText.+number.Given as goal

abbrev pub decreases-number : goal.decreases-number
decreases-number l = l.n
