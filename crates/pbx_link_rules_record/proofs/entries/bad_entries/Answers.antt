use Rattle.std.proofs.Common.{List, subst}
use Rattle.std.specs.Prelude.{IfOk}
use Rattle.pbx_desc_records.specs.declared.file.FileDescriptorProto.{FileDescriptorProto}
use Rattle.pbx_desc_records.specs.declared.message.DescriptorProto.{DescriptorProto}
use Rattle.pbx_link_definitions.specs.Says.{is_entry}
use Rattle.pbx_link_definitions.specs.Definitions.{Place, Part, package_of, top_messages, messages}
use Rattle.pbx_link_definitions.specs.Places.{places_where, IsAmong}
use Rattle.pbx_link_rules_record.specs.EntryRules.{is_bad_entry}
use Rattle.pbx_link_rules_record.proofs.Among.{joined_some, joined_none}
use Rattle.pbx_link_rules_record.proofs.entries.bad_entries.Goals as goal

abbrev tops : FileDescriptorProto → List Place
tops f = places_where (λ (m : Part DescriptorProto). is_entry m.item) (λ m. m.place) (top_messages f)

abbrev improper : List (Part DescriptorProto) → List Place
improper ms = places_where (λ (m : Part DescriptorProto). is_bad_entry m.item) (λ m. m.place) ms

pub returns-in-Some : goal.returns-in-Some
returns-in-Some c =
    joined_some (tops c.args.parts.now) (improper (messages c.args.parts.now)) c.in_ok-place.field-0 c.in-Some.place
    (subst (λ (f : FileDescriptorProto). IsAmong (tops f) c.in_ok-place.field-0) c.file.ensures (c.in_ok-place.ensures (package_of c.file.result.now))) c.in-Some.is

pub returns-in-None : goal.returns-in-None
returns-in-None c =
    joined_none (tops c.args.parts.now) (improper (messages c.args.parts.now)) c.in_ok-place.field-0 c.improper_entry.result
    (subst (λ (f : FileDescriptorProto). IsAmong (tops f) c.in_ok-place.field-0) c.file.ensures (c.in_ok-place.ensures (package_of c.file.result.now))) c.in-None.is
    (subst (λ (ms : List (Part DescriptorProto)). IfOk c.improper_entry.result (IsAmong (improper ms))) c.messages.ensures c.improper_entry.ensures)
