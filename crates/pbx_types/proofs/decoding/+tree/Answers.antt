use Rattle.std.proofs.Common.{ap, refl, option_map, sym, ◌∙◌}
use Rattle.pbx_content.specs.declared.shape.Kind.TheVariants as kind
use Rattle.pbx_content.specs.Content.{message}
use Rattle.pbx_content_codec.specs.View.{content_of}
use Rattle.pbx_types.proofs.Lists.{message_is, record_more}
use Rattle.pbx_types.proofs.Types.{struct_type, list_type}
use Rattle.pbx_types.proofs.Walk.{list_whole, map_whole, list_are, map_are, kept_left}
use Rattle.pbx_desc_shapes.specs.TypesShape.{struct_fields, list_fields}
use Rattle.pbx_types.specs.Exact.{is_exact_struct, is_exact_list, is_exact_value}
use Rattle.pbx_types.proofs.Sound.{written}
use Rattle.pbx_types.specs.Content.{struct_content, list_content, value_content}
use Rattle.pbx_types.specs.Layers.{value_message, value_pair, held_pair}
use Rattle.pbx_types.proofs.Reading.{field_more, field_lost, took_record, struct_made, list_made, value_rolled, struct_exact, list_exact, value_exact, members_read}
use Rattle.pbx_types.proofs.decoding.+tree.Goals as goal

pub struct_from-returns : goal.struct_from-returns
struct_from-returns t c = λ sound.
    let fs = c.in_ok-fields.fields in
    let rs = c.kept_records.result in
    let old = content_of c.args.contents in
    let taken = c.take_pairs-pairs.ensures kind.String (kind.Message 6) in
    let each = (c.in_ok-fields.ensures (map_are 4 _ struct_type refl refl refl taken sound)).1 in
    let own = written 4 struct_fields rs old struct_type (c.kept_records.ensures ∙ kept_left 1 old (content_of c.take_pairs-pairs.new.contents) taken.rest) sound in
    (struct_made fs rs ∙ map_whole 4 _ value_pair fs struct_type refl refl refl taken (λ are. (c.in_ok-fields.ensures are).0) c.kept_records.ensures sound, struct_exact fs rs each own)

pub list_from-returns : goal.list_from-returns
list_from-returns t c = λ sound.
    let vs = c.in_ok-values.values in
    let rs = c.kept_records.result in
    let old = content_of c.args.contents in
    let taken = c.take_values-helds.ensures (kind.Message 6) in
    let each = (c.in_ok-values.ensures (list_are 7 _ list_type refl refl refl refl taken sound)).1 in
    let own = written 7 list_fields rs old list_type (c.kept_records.ensures ∙ kept_left 1 old (content_of c.take_values-helds.new.contents) taken.rest) sound in
    (list_made vs rs ∙ list_whole 7 _ value_message vs list_type refl refl refl refl taken (λ are. (c.in_ok-values.ensures are).0) c.kept_records.ensures sound, list_exact vs rs each own)

pub value_from-returns : goal.value_from-returns
value_from-returns t c = λ sound.
    let z = c.take_int32-null_value.result in
    let text = c.take_text-string_value.result in
    let b = c.take_truth-bool_value.result in
    let s = c.in_ok-struct_value.struct_value in
    let l = c.in_ok-list_value.list_value in
    let rs = c.kept_records.result in
    let read =
    members_read _ _ _ _ _ refl
    (record { number_is = refl; single = refl; kind_is = refl; simple = refl })
    (record { number_is = refl; single = refl; kind_is = refl; simple = refl })
    (record { number_is = refl; single = refl; kind_is = refl; simple = refl })
    (record { number_is = refl; single = refl; kind_is = refl; simple = refl })
    (record { number_is = refl; single = refl; kind_is = refl; simple = refl })
    refl refl refl refl refl
    c.in_ok-struct_value.ensures.0 c.in_ok-list_value.ensures.0 c.take_int32-null_value.ensures c.take_text-string_value.ensures c.take_truth-bool_value.ensures c.kept_records.ensures sound
    in (
      value_rolled z text b s l rs ∙ read.value.made,
      value_exact z text b s l rs read.value.one (c.in_ok-struct_value.ensures.1 read.struct_may) (c.in_ok-list_value.ensures.1 read.list_may) read.value.written,
    )

pub values_from-loop-held-preserved : goal.values_from-loop-held-preserved
values_from-loop-held-preserved t c =
    rw c.in_ok-add.ensures.ok (record_more (kind.Message 6) value_content is_exact_value c.loop-held.yielded c.in-Some.held c.loop-held.values c.in_ok-value.value c.loop-held.invariant
    (message_is 6 value_content is_exact_value c.in-Some.held c.message_of.result c.in_ok-value.value (c.message_of.ensures 6) c.in_ok-value.ensures))

pub take_struct-returns-in-Ok : goal.take_struct-returns-in-Ok
take_struct-returns-in-Ok t c =
    took_record 4 5 struct_content is_exact_struct c.in-Some.held c.message_of.result c.in-Ok.found (content_of c.args.contents.now) (content_of c.take.new.self) c.in-Some.ensures.value (c.message_of.ensures 4) c.in-Ok.ensures c.in-Some.ensures.rest

pub take_list-returns-in-Ok : goal.take_list-returns-in-Ok
take_list-returns-in-Ok t c =
    took_record 7 6 list_content is_exact_list c.in-Some.held c.message_of.result c.in-Ok.found (content_of c.args.contents.now) (content_of c.take.new.self) c.in-Some.ensures.value (c.message_of.ensures 7) c.in-Ok.ensures c.in-Some.ensures.rest

pub fields_from-loop-pair-preserved-in_ok-add : goal.fields_from-loop-pair-preserved-in_ok-add
fields_from-loop-pair-preserved-in_ok-add t c =
    let held = c.in-Some-under_name.held in
    field_more c.loop-pair.yielded c.in-Some.pair c.loop-pair.fields c.add.new.self c.in-Some-under_name.name held c.in_ok-value_from.field-0 c.loop-pair.invariant c.in-Some-under_name.ensures
    (message_is 6 value_content is_exact_value held c.message_of.result c.in_ok-value_from.field-0 (c.message_of.ensures 6) c.in_ok-value_from.ensures) c.in_ok-add.ensures.ok

pub fields_from-loop-pair-preserved : goal.fields_from-loop-pair-preserved
fields_from-loop-pair-preserved t c =
    field_lost c.loop-pair.yielded c.in-Some.pair c.loop-pair.fields (λ key. sym (ap (option_map held_pair) c.in_default.is) ∙ c.under_name.ensures key)
