use Rattle.std.proofs.Common.{◌≡◌, ℕ, ◌<◌, get_or, false}
use Rattle.pbx_desc_records.specs.declared.enumeration.EnumValueDescriptorProto.{EnumValueDescriptorProto}
use Rattle.pbx_link_definitions.specs.Found.{is_earlier}
use Rattle.pbx_link_rules_record.specs.EnumRules.{like_valued}
use Rattle.pbx_link_rules_record.proofs.Seen.{HasSeen}
use Rattle.pbx_link_rules_record.proofs.enums.number_again.Given as goal

abbrev pub invariant-loop-index : goal.invariant-loop-index
invariant-loop-index l = record {
  none : (k : ℕ) (v : EnumValueDescriptorProto) → k < l.index → is_earlier like_valued l.values k (get_or l.values k v) ≡ false;
  seen : HasSeen (λ v. v.number) l.values l.index l.seen.keys;
}
