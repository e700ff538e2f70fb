use Rattle.std.proofs.Common.{refl}
use Rattle.pbx_content_codec.specs.View.{content_of}
use Rattle.pbx_desc_shapes.specs.DescriptorShape.{message_fields}
use Rattle.pbx_desc_encoding.proofs.Types.{message_options_type}
use Rattle.pbx_desc.specs.declared.message.OwnParts.{OwnParts}
use Rattle.pbx_desc.specs.Messages.{beside, own_values, own_exact}
use Rattle.pbx_desc.proofs.Walk.{start, next, taken}
use Rattle.pbx_desc.proofs.message.OwnParts.fill.Goals as goal

pub returns : goal.returns
returns c =
    let p : OwnParts = record { name = c.take_text.result; field = c.in_ok-self.field-0; enum_type = c.in_ok-self-2.field-0; extension_range = c.in_ok-self-3.field-0; extension = c.in_ok-self-4.field-0; options = c.take_options.result; oneof_decl = c.in_ok-self-5.field-0; reserved_range = c.in_ok-self-6.field-0; reserved_name = c.in_ok-self-7.field-0; unknown = c.kept_records.result } in
    let before = start (beside 3 message_fields) (own_values p) (own_exact p) (content_of c.args.contents) in
    let at_name = next before c.take_text.ensures refl refl refl refl in
    let at_field = next at_name c.in_ok-self.ensures refl refl refl refl in
    let at_enum_type = next at_field c.in_ok-self-2.ensures refl refl refl refl in
    let at_extension_range = next at_enum_type c.in_ok-self-3.ensures refl refl refl refl in
    let at_extension = next at_extension_range c.in_ok-self-4.ensures refl refl refl refl in
    let at_options = next at_extension (c.take_options.ensures 15 message_options_type) refl refl refl refl in
    let at_oneof_decl = next at_options c.in_ok-self-5.ensures refl refl refl refl in
    let at_reserved_range = next at_oneof_decl c.in_ok-self-6.ensures refl refl refl refl in
    let at_reserved_name = next at_reserved_range c.in_ok-self-7.ensures refl refl refl refl in
    taken at_reserved_name c.kept_records.ensures
