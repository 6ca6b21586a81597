use Rattle.std.proofs.Common.{arith, sym, rules, int_lt}
use Rattle.std.proofs.lemmas.List.Sorted.{IsPartitionPoint-from_clause}
use Rattle.fsl_machine.specs.Orders.{begun}
use Rattle.fsl_machine.proofs.OrdersLemmas.{below_too, index_is}
use Rattle.fsl_machine.proofs.orders.index.Goals as goal

pub returns-clause-index : goal.returns-clause-index
returns-clause-index c =
    let os = c.args.orders.now in
    let l = c.args.loc.now in
    let d = begun l 0 in
    let point = IsPartitionPoint-from_clause (λ o. int_lt o.loc l) os _ c.partition_point.ensures.partitioned
    (λ i j e k m t. below_too os l i j e c.requires k m t) (λ a r q k. search rules) in
    sym (index_is l os c.partition_point.result d c.partition_point.ensures.bound (λ k m. point.0 k d (omega arith) m) (λ m. point.1 _ d (omega arith) m))
