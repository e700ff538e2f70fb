-- A message of its own parts and of the messages in it.
use Rattle.std.proofs.Common.{◌≡◌, Bool, true, List, [], ◌∷◌, map, Option, refl, ap, ◌∙◌, rules}
use Rattle.pbx_content.specs.declared.shape.Cardinality.TheVariants.{Repeated}
use Rattle.pbx_content.specs.declared.shape.Kind.TheVariants as kind
use Rattle.pbx_content.specs.Content.{Content, kept, Val, message}
use Rattle.pbx_content.specs.Sound.{IsSound}
use Rattle.pbx_desc_shapes.specs.DescriptorShape.{descriptor_shape, message_fields}
use Rattle.pbx_desc_records.specs.declared.message.DescriptorProto.{DescriptorProto, roll-DescriptorProto, the_lemmas}
use Rattle.pbx_desc_encoding.specs.Content.{listed, record_content, of_text, of_texts, of_records, of_options, field_content, enum_content, extension_range_content, oneof_content, reserved_range_content, message_content}
use Rattle.pbx_desc_encoding.specs.Sound.{AreOf}
use Rattle.pbx_desc_encoding.proofs.Messages.{nested_map}
use Rattle.pbx_desc_encoding.proofs.Types.{message_type}
use Rattle.pbx_desc.specs.declared.message.OwnParts.{OwnParts}
use Rattle.pbx_desc.specs.Exact.{is_exact_with, are_exact, is_exact_if, is_exact_options, is_exact_field, is_exact_enum, is_exact_extension_range, is_exact_oneof, is_exact_reserved_range, is_exact_message}
use Rattle.pbx_desc.specs.Taking.{IsRead, IsTold, AreRead, AreTold, AreTaken, TakesList}
use Rattle.pbx_desc.specs.Messages.{beside, own_values, own_exact}
use Rattle.pbx_desc.proofs.Walk.{read_before, told_before, whole, kept_with}

-- the values of a message: of its parts, and this of the messages in it
abbrev values_with : OwnParts → Option Val → List (Option Val)
values_with p nested =
    of_text p.name
    ∷ of_records field_content p.field
    ∷ nested
    ∷ of_records enum_content p.enum_type
    ∷ of_records extension_range_content p.extension_range
    ∷ of_records field_content p.extension
    ∷ of_options p.options
    ∷ of_records oneof_content p.oneof_decl
    ∷ of_records reserved_range_content p.reserved_range
    ∷ of_texts p.reserved_name
    ∷ []

-- whether its records are exact: those of its parts, and as this says the messages in it
abbrev exact_with : OwnParts → Bool → List Bool
exact_with p nested =
    true
    ∷ are_exact is_exact_field p.field
    ∷ nested
    ∷ are_exact is_exact_enum p.enum_type
    ∷ are_exact is_exact_extension_range p.extension_range
    ∷ are_exact is_exact_field p.extension
    ∷ is_exact_if is_exact_options p.options
    ∷ are_exact is_exact_oneof p.oneof_decl
    ∷ are_exact is_exact_reserved_range p.reserved_range
    ∷ true
    ∷ []

-- the message
abbrev pub made : OwnParts → List DescriptorProto → DescriptorProto
made p ms = roll-DescriptorProto (record { name = p.name; field = p.field; nested_type = ms; enum_type = p.enum_type; extension_range = p.extension_range; extension = p.extension; options = p.options; oneof_decl = p.oneof_decl; reserved_range = p.reserved_range; reserved_name = p.reserved_name; unknown = p.unknown })

made_content : (p : OwnParts) (ms : List DescriptorProto) → message_content (made p ms) ≡ record_content message_fields (values_with p (listed (map message (map message_content ms)))) p.unknown
made_content p ms = search (rules, the_lemmas)

made_exact : (p : OwnParts) (ms : List DescriptorProto) → is_exact_message (made p ms) ≡ is_exact_with (exact_with p (are_exact is_exact_message ms)) message_fields p.unknown
made_exact p ms = search (rules, the_lemmas)

-- it holds the content, out of which the messages in it were taken first, and nothing beside it
pub made_whole : (p : OwnParts) (ms : List DescriptorProto) (vs : List Val) (c rest : Content) → TakesList (kind.Message 2) 3 vs c rest
    → (AreOf descriptor_shape (kind.Message 2) vs → (map (λ (m : DescriptorProto). message (message_content m)) ms ≡ vs) × (are_exact is_exact_message ms ≡ true))
    → AreTaken (beside 3 message_fields) (own_values p) (own_exact p) p.unknown rest → IsSound descriptor_shape 2 c → (message_content (made p ms) ≡ c) × (is_exact_message (made p ms) ≡ true)
made_whole p ms vs c rest nested is own sound =
    let v = listed (map message (map message_content ms)) in
    let x = are_exact is_exact_message ms in
    let there : IsRead Repeated (kind.Message 2) 3 v c = λ may. let n = nested.value may in ap listed (nested_map ms ∙ (is n.1).0) ∙ n.0 in
    let told : IsTold Repeated (kind.Message 2) 3 x c = λ may. (is (nested.value may).1).1 in
    let others = read_before 3 (beside 3 message_fields) (own_values p) c rest nested.rest refl own.values in
    let answers = told_before 3 (beside 3 message_fields) (own_exact p) c rest nested.rest refl own.exact in
    let all : AreRead message_fields (values_with p v) c = (others.0, (others.1.0, (there, others.1.1))) in
    let each : AreTold message_fields (exact_with p x) c = (answers.0, (answers.1.0, (told, answers.1.1))) in
    let unread : p.unknown ≡ kept c = own.unread ∙ ap kept nested.rest ∙ kept_with c _ in
    let is_whole = whole 2 message_fields (values_with p v) (exact_with p x) p.unknown c message_type refl (record { values = all; exact = each; unread = unread }) sound in
    (made_content p ms ∙ is_whole.0, made_exact p ms ∙ is_whole.1)
