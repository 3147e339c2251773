use Rattle.std.proofs.Common.{◌≡◌, subst}
use Rattle.grade.specs.Laws.{Total, Transitive, Antisymmetric}
use Rattle.grade.proofs.theorems.lawful.Goals as goal

pub returns : goal.returns
returns g c =
    let same : g.G.TotalOrder.before ≡ g.G.Grade.noworse = λ i a b. c.agrees.ensures a b i in
    let o = g.met.G.TotalOrder in
    let m = g.met.G.Grade in
    record {
      total = subst Total same o.total;
      transitive = subst Transitive same o.transitive;
      antisymmetric = subst Antisymmetric same o.antisymmetric;
      assoc = m.assoc;
      unitl = m.unitl;
      unitr = m.unitr;
      monol = m.monol;
      monor = m.monor;
      growsl = m.growsl;
      growsr = m.growsr;
    }
