use Rattle.std.proofs.Common.{◌≡◌, ◌∙◌, List, subst}
use Rattle.pbx_desc_records.specs.declared.file.FileDescriptorProto.{FileDescriptorProto}
use Rattle.pbx_link_definitions.specs.Definitions.{messages, message_name}
use Rattle.pbx_link_pool.specs.Places.{place_with_file}
use Rattle.pbx_link_shapes.proofs.FieldKinds.{no_item, item_there, unnamed_item}
use Rattle.pbx_link_shapes.proofs.types.Types.message_item.Goals as goal

pub returns-in_default : goal.returns-in_default
returns-in_default c = unnamed_item c.args.self.now c.args.name.now c.in_default.ensures

pub returns-in-Some-message_place : goal.returns-in-Some-message_place
returns-in-Some-message_place c =
    let found = c.message_place.result in
    let is = subst (λ (fs : List FileDescriptorProto). found ≡ place_with_file messages message_name fs c.in-Some.name.now) c.self.view_is c.message_place.ensures in
    c.item.ensures
    ∙ item_there c.args.self.now c.args.name.now c.in-Some.name.now c.in-Some.ensures found c.in-Some-message_place.file c.in-Some-message_place.index is c.in-Some-message_place.is

pub returns-in-None : goal.returns-in-None
returns-in-None c =
    let found = c.message_place.result in
    let is = subst (λ (fs : List FileDescriptorProto). found ≡ place_with_file messages message_name fs c.in-Some.name.now) c.self.view_is c.message_place.ensures in
    no_item c.args.self.now c.args.name.now c.in-Some.name.now c.in-Some.ensures found is c.in-None.is
