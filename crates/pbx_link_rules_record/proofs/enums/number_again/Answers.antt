use Rattle.std.proofs.Common.{Option, ℤ}
use Rattle.pbx_desc_records.specs.declared.enumeration.EnumValueDescriptorProto.{EnumValueDescriptorProto}
use Rattle.pbx_link_rules_record.proofs.Seen.{seen_more}
use Rattle.pbx_link_rules_record.proofs.Indexes.{number_found, numbers_more}
use Rattle.pbx_link_rules_record.proofs.enums.number_again.Goals as goal

abbrev number : EnumValueDescriptorProto → Option ℤ
number v = v.number

pub returns-then-not-branch : goal.returns-then-not-branch
returns-then-not-branch c =
    number_found number c.args.values.now c.loop-index.index c.index-values-index.result c.loop-index.seen.keys c.in_ok-see.field-0
    c.loop-index-test.true c.index-values-index.is c.loop-index.invariant.seen c.in_ok-see.ensures.is_new c.if-not-branch.true

pub loop-index-preserved : goal.loop-index-preserved
loop-index-preserved c = record {
  none = numbers_more number c.args.values.now c.loop-index.index c.index-values-index.result c.loop-index.seen.keys c.in_ok-see.field-0
      c.loop-index-test.true c.index-values-index.is c.loop-index.invariant.seen c.in_ok-see.ensures.is_new c.if-not-branch.false c.loop-index.invariant.none;
  seen = seen_more number c.args.values.now c.loop-index.index c.index-values-index.result c.loop-index.seen.keys c.see.new.seen.keys
      c.loop-index-test.true c.index-values-index.is c.loop-index.invariant.seen c.in_ok-see.ensures.seen;
}
