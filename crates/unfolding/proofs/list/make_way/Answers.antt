use Rattle.std.proofs.Common.{◌≡◌, ◌+◌, ◌-◌, ◌++◌, reverse, length, take, sym, ap, ◌∙◌, arith, rules}
use Rattle.std.proofs.lemmas.List.{reverse-append}
use Rattle.std.proofs.lemmas.Slice.{take-put_mid, overwrites}
use Rattle.unfolding.specs.Rest.{stack}
use Rattle.unfolding.proofs.list.make_way.Goals as goal

pub returns : goal.returns
returns g c =
    let list = c.args.list.now in
    let top = c.args.top in
    let parts = c.args.parts.now in
    let put = c.copy_from_slice.new.self in
    let same : put ≡ parts = c.copy_from_slice.ensures.after in
    let low = c.requires in
    let room = c.if-end-list.false in
    record {
      fit = record { earlier = c.are_below.ensures.0 c.if-not-are_below.false; room = omega arith };
      listed = omega arith;
      kept = search (rules, overwrites);
      stands =
          ap reverse (take-put_mid top (top + length parts - top) list put (top + length parts) (ap (λ ys. top + length ys) (sym same)) (omega arith))
          ∙ reverse-append (take top list) put ∙ ap (λ ys. reverse ys ++ stack list top) same;
    }
