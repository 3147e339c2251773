use Rattle.std.proofs.Common.{◌+◌, ◌%◌, [], ◌∷◌, ◌++◌, length, ap, ◌∙◌, arith}
use Rattle.text.proofs.Written.{last_digit, one_digit, few_digits}
use Rattle.text.proofs.line_text.LineText.+number.Goals as goal
use Rattle.text.proofs.line_text.LineText.+number.Goals.{then-n-ge10, else-n-ge10}

pub byte-requires : goal.byte-requires
byte-requires t c =
    elim c.if-n-ge10.branch [
      | then-n-ge10 w ↦ omega (arith, few_digits 4 c.args.self.now c.if-n-ge10.self _ (omega arith) (omega arith) (omega arith) (w.self-is ∙ w.number.ensures.text))
      | else-n-ge10 w ↦ omega (arith, ap (λ l. length l) w.self-is)
    ]

pub returns-clause-text : goal.returns-clause-text
returns-clause-text t c =
    elim c.if-n-ge10.branch [
      | then-n-ge10 w ↦ last_digit c.args.self.now _ _ c.args.n w.if-n-ge10.true (omega arith) (w.self-is ∙ w.number.ensures.text) c.byte.ensures.text
      | else-n-ge10 w ↦ one_digit c.args.self.now _ c.args.n w.if-n-ge10.false (c.byte.ensures.text ∙ ap (λ l. l ++ (48 + c.args.n % 10) ∷ []) w.self-is)
    ]

pub returns-clause-few : goal.returns-clause-few
returns-clause-few t c = few_digits 5 c.args.self.now _ c.args.n (omega arith) (omega arith) (omega arith) (returns-clause-text t c)
