use Rattle.std.proofs.Common.{int_le, rules}
use Rattle.std.proofs.lemmas.List.Sorted.{IsPartitionPoint-from_clause}
use Rattle.pbx_link_rules_record.specs.declared.number_set.Step.{Step}
use Rattle.pbx_link_rules_record.proofs.Reaching.{parted}
use Rattle.pbx_link_rules_record.proofs.number_set.started.Goals as goal

pub returns-clause-parts : goal.returns-clause-parts
returns-clause-parts c = λ rise.
    IsPartitionPoint-from_clause (λ (t : Step). int_le t.start c.args.number) c.args.steps.now c.partition_point.result c.partition_point.ensures.partitioned
    (parted c.args.steps.now c.args.number rise) (λ a r f' w. search rules)
