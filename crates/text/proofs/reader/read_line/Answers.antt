use Rattle.std.proofs.Common.{sym, ◌∙◌, subst}
use Rattle.text.specs.Meaning.{Says}
use Rattle.text.proofs.Right.{reads_right}
use Rattle.text.proofs.reader.read_line.Goals as goal

pub returns : goal.returns
returns c =
    let s = c.args.line.now in
    let e = c.read_named.ensures in
    record {
      value = e;
      says = subst (Says s) (sym e) (reads_right s).0;
      alone = λ x h. (reads_right s).1 x h ∙ sym e;
    }
