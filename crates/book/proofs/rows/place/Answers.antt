use Rattle.std.proofs.Common.{◌≤◌, ltb, length, take, sym, ◌∙◌, arith, rules}
use Rattle.std.proofs.lemmas.List.{length-take-le}
use Rattle.std.proofs.lemmas.List.Sorted.{IsPartitionPoint-from_clause, IsPartitionedBy-ltb}
use Rattle.book.proofs.Orders.{lower_rank, rising}
use Rattle.book.proofs.Turns.{put_at, placed_used, placed_rest}
use Rattle.book.proofs.rows.place.Goals as goal

pub returns-clause-used : goal.returns-clause-used
returns-clause-used g c = λ rank told up.
    let rows = c.args.rows.now in
    let x = c.args.x in
    let n = c.args.n in
    let p = c.partition_point-p.result in
    let few : p ≤ length (take n rows) = c.partition_point-p.ensures.bound in
    let long = length-take-le n rows (omega arith) in
    let point = IsPartitionPoint-from_clause (λ y. ltb (rank y) (rank x)) (take n rows) p c.partition_point-p.ensures.partitioned (IsPartitionedBy-ltb rank (take n rows) (rank x) (rising rank (take n rows) up)) (λ a r f' q. (let e = g.met.T.Ord.matches_partial_cmp in let t = told a.0.now x in let l = lower_rank (rank a.0.now) (rank x) in (search rules, search rules))) in
    placed_used rows n p x c.requires (omega arith) c.rotate_right.new.self c.rotate_right.ensures.after ∙ sym (put_at rank x (take n rows) p few point)

pub returns-clause-rest : goal.returns-clause-rest
returns-clause-rest g c =
    let rows = c.args.rows.now in
    let n = c.args.n in
    let few = c.partition_point-p.ensures.bound in
    let long = length-take-le n rows (omega arith) in
    placed_rest rows n c.partition_point-p.result c.args.x c.requires (omega arith) c.rotate_right.new.self c.rotate_right.ensures.after
