use Rattle.std.proofs.Common.{rules, ◌≡◌, ◌++◌, length, take, arith, ◌∙◌}
use Rattle.protox_lines_items.specs.Records.{IsPrefixFault}
use Rattle.protox_lines_items.proofs.RecordCuts.{chain_kept, fault_kept, ends_kept, long_kept}
use Rattle.protox_lines_items.proofs.records.RecordCutter.take_prefix.Goals as goal

pub returns-in_err-begin_record-in-Some-clause-fault : goal.returns-in_err-begin_record-in-Some-clause-fault
returns-in_err-begin_record-in-Some-clause-fault c ends =
    let kept : c.put.new.kept.items ≡ c.args.self.now.prefix ++ take c.in-Some.end c.args.bytes.now = search rules in
    let chain = chain_kept c.args.self.now.prefix c.args.bytes.now c.put.new.kept.items c.min.result c.in-Some.end ends kept
    c.in-Some.ensures.1 c.in-Some.ensures.2 in
    let fault : IsPrefixFault (c.args.self.now.prefix ++ c.args.bytes.now) c.in_err-begin_record-in-Some.field-0.0 =
    fault_kept c.args.self.now.prefix c.args.bytes.now c.put.new.kept.items c.in-Some.end c.in_err-begin_record-in-Some.field-0.0 kept
    (c.in_err-begin_record-in-Some.ensures.fault chain) in
    search rules

pub returns-in_ok-begin_record-in-Some-clause-taken : goal.returns-in_ok-begin_record-in-Some-clause-taken
returns-in_ok-begin_record-in-Some-clause-taken c ends =
    let kept : c.put.new.kept.items ≡ c.args.self.now.prefix ++ take c.in-Some.end c.args.bytes.now = search rules in
    let chain = chain_kept c.args.self.now.prefix c.args.bytes.now c.put.new.kept.items c.min.result c.in-Some.end ends kept
    c.in-Some.ensures.1 c.in-Some.ensures.2 in
    (c.in_ok-begin_record-in-Some.ensures.prefix ∙ kept, c.in_ok-begin_record-in-Some.ensures.item, c.in_ok-begin_record-in-Some.ensures.begun chain)

pub returns-in_ok-put-in-None-clause-taken : goal.returns-in_ok-put-in-None-clause-taken
returns-in_ok-put-in-None-clause-taken c ends =
    let kept : c.put-in-None.new.kept.items ≡ c.args.self.now.prefix ++ c.args.bytes.now = search rules in
    let len : c.len.result ≡ length c.args.self.now.prefix = search rules in
    let left : c.self.inside.left ≡ c.args.self.now.left = search rules in (
      kept,
      ends_kept c.args.self.now.prefix c.args.bytes.now c.put-in-None.new.kept.items c.min.result ends kept c.in-None.ensures (omega arith) (omega arith),
      left,
    )

pub returns-in-None-2-clause-fault : goal.returns-in-None-2-clause-fault
returns-in-None-2-clause-fault c ends =
    let len : c.len.result ≡ length c.args.self.now.prefix = search rules in
    long_kept c.args.self.now.prefix c.args.bytes.now c.min.result ends c.in-None-2.ensures (omega arith) (omega arith)
