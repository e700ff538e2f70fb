use Rattle.std.proofs.Common.{◌≡◌, ◌∙◌, Ok, Err, ap, map}
use Rattle.pbx_parse_token.specs.declared.token.Span.{Span}
use Rattle.pbx_parse_tree.specs.declared.tree.Item as code_item
use Rattle.pbx_parse_tree.specs.Tree.{Count, MapField, Oneof, Enum, Extend, Extensions, Reserved, Statement, Field, empty_item, item_field, item_map, item_oneof, item_enum, item_extend, item_extensions, item_reserved, item_option}
use Rattle.pbx_parse_tree.specs.Words.{begins_item}
use Rattle.pbx_parse_tree.specs.Conditions.{begins_with_no, field_fits}
use Rattle.pbx_parse_tree.specs.View.{setting_of, BodyItem, plain}
use Rattle.pbx_parse_reader.specs.declared.messages.First.TheVariants as firsts
use Rattle.pbx_parse_reader.specs.Items.{first_of}
use Rattle.pbx_parse_reader.specs.View.{left}
use Rattle.pbx_parse_reader.proofs.BodyItems.{body_item_of_empty, body_item_of_field, body_item_of_map, body_item_of_oneof, body_item_of_enum, body_item_of_extend, body_item_of_extensions, body_item_of_reserved, body_item_of_option}
use Rattle.pbx_parse_reader.proofs.FieldFirst.{item_label}
use Rattle.pbx_parse_reader.proofs.Lists.{both}
use Rattle.pbx_parse_reader.proofs.Sorts.{only_of}
use Rattle.pbx_parse_reader.proofs.messages.plain_item.Goals as goal

pub returns-in-Err-clause-only : goal.returns-in-Err-clause-only
returns-in-Err-clause-only c = λ i rest fit e.
    let seen : firsts.Empty ≡ first_of (left c.args.cursor.now) = cc in
    only_of c.args.version (map setting_of c.args.seen.now) (left c.args.cursor.now) rest (left c.mark.new.self) (Err c.in-Err.error) firsts.Empty seen (λ x fits e. c.in-Err.ensures.only x rest e) i fit e

pub returns-in-Ok-clause-only : goal.returns-in-Ok-clause-only
returns-in-Ok-clause-only c = λ i rest fit e.
    let seen : firsts.Empty ≡ first_of (left c.args.cursor.now) = cc in
    let made : Span → BodyItem = λ x. plain (empty_item x) in
    only_of c.args.version (map setting_of c.args.seen.now) (left c.args.cursor.now) rest (left c.mark.new.self) (Ok (code_item.Empty c.in-Ok.part)) firsts.Empty seen
    (λ x fits e. let r = (c.in-Ok.ensures.only x rest e) in (body_item_of_empty c.in-Ok.part ∙ ap made r.0, r.1))
    i fit e

pub returns-in-Err-map_field-clause-only : goal.returns-in-Err-map_field-clause-only
returns-in-Err-map_field-clause-only c = λ i rest fit e.
    let seen : firsts.Map ≡ first_of (left c.args.cursor.now) = cc in
    only_of c.args.version (map setting_of c.args.seen.now) (left c.args.cursor.now) rest (left c.map_field.new.cursor) (Err c.in-Err-map_field.error) firsts.Map seen (λ x fits e. c.in-Err-map_field.ensures.only x rest fits e) i fit e

pub returns-in-Ok-map_field-clause-only : goal.returns-in-Ok-map_field-clause-only
returns-in-Ok-map_field-clause-only c = λ i rest fit e.
    let seen : firsts.Map ≡ first_of (left c.args.cursor.now) = cc in
    let made : MapField → BodyItem = λ x. plain (item_map x) in
    only_of c.args.version (map setting_of c.args.seen.now) (left c.args.cursor.now) rest (left c.map_field.new.cursor) (Ok (code_item.Map c.in-Ok-map_field.part)) firsts.Map seen
    (λ x fits e. let r = (c.in-Ok-map_field.ensures.only x rest fits e) in (body_item_of_map c.in-Ok-map_field.part ∙ ap made r.0, r.1))
    i fit e

pub returns-in-Err-oneof-clause-only : goal.returns-in-Err-oneof-clause-only
returns-in-Err-oneof-clause-only c = λ i rest fit e.
    let seen : firsts.Oneof ≡ first_of (left c.args.cursor.now) = cc in
    only_of c.args.version (map setting_of c.args.seen.now) (left c.args.cursor.now) rest (left c.oneof.new.cursor) (Err c.in-Err-oneof.error) firsts.Oneof seen (λ x fits e. c.in-Err-oneof.ensures.only x rest fits e) i fit e

pub returns-in-Ok-oneof-clause-only : goal.returns-in-Ok-oneof-clause-only
returns-in-Ok-oneof-clause-only c = λ i rest fit e.
    let seen : firsts.Oneof ≡ first_of (left c.args.cursor.now) = cc in
    let made : Oneof → BodyItem = λ x. plain (item_oneof x) in
    only_of c.args.version (map setting_of c.args.seen.now) (left c.args.cursor.now) rest (left c.oneof.new.cursor) (Ok (code_item.Oneof c.in-Ok-oneof.part)) firsts.Oneof seen
    (λ x fits e. let r = (c.in-Ok-oneof.ensures.only x rest fits e) in (body_item_of_oneof c.in-Ok-oneof.part ∙ ap made r.0, r.1))
    i fit e

pub returns-in-Err-enumeration-clause-only : goal.returns-in-Err-enumeration-clause-only
returns-in-Err-enumeration-clause-only c = λ i rest fit e.
    let seen : firsts.Enum ≡ first_of (left c.args.cursor.now) = cc in
    only_of c.args.version (map setting_of c.args.seen.now) (left c.args.cursor.now) rest (left c.enumeration.new.cursor) (Err c.in-Err-enumeration.error) firsts.Enum seen (λ x fits e. c.in-Err-enumeration.ensures.only x rest fits e) i fit e

pub returns-in-Ok-enumeration-clause-only : goal.returns-in-Ok-enumeration-clause-only
returns-in-Ok-enumeration-clause-only c = λ i rest fit e.
    let seen : firsts.Enum ≡ first_of (left c.args.cursor.now) = cc in
    let made : Enum → BodyItem = λ x. plain (item_enum x) in
    only_of c.args.version (map setting_of c.args.seen.now) (left c.args.cursor.now) rest (left c.enumeration.new.cursor) (Ok (code_item.Enum c.in-Ok-enumeration.part)) firsts.Enum seen
    (λ x fits e. let r = (c.in-Ok-enumeration.ensures.only x rest fits e) in (body_item_of_enum c.in-Ok-enumeration.part ∙ ap made r.0, r.1))
    i fit e

pub returns-in-Err-extend-clause-only : goal.returns-in-Err-extend-clause-only
returns-in-Err-extend-clause-only c = λ i rest fit e.
    let seen : firsts.Extend ≡ first_of (left c.args.cursor.now) = cc in
    only_of c.args.version (map setting_of c.args.seen.now) (left c.args.cursor.now) rest (left c.extend.new.cursor) (Err c.in-Err-extend.error) firsts.Extend seen (λ x fits e. c.in-Err-extend.ensures.only x rest fits e) i fit e

pub returns-in-Ok-extend-clause-only : goal.returns-in-Ok-extend-clause-only
returns-in-Ok-extend-clause-only c = λ i rest fit e.
    let seen : firsts.Extend ≡ first_of (left c.args.cursor.now) = cc in
    let made : Extend → BodyItem = λ x. plain (item_extend x) in
    only_of c.args.version (map setting_of c.args.seen.now) (left c.args.cursor.now) rest (left c.extend.new.cursor) (Ok (code_item.Extend c.in-Ok-extend.part)) firsts.Extend seen
    (λ x fits e. let r = (c.in-Ok-extend.ensures.only x rest fits e) in (body_item_of_extend c.in-Ok-extend.part ∙ ap made r.0, r.1))
    i fit e

pub returns-in-Err-extensions-clause-only : goal.returns-in-Err-extensions-clause-only
returns-in-Err-extensions-clause-only c = λ i rest fit e.
    let seen : firsts.Extensions ≡ first_of (left c.args.cursor.now) = cc in
    only_of c.args.version (map setting_of c.args.seen.now) (left c.args.cursor.now) rest (left c.extensions.new.cursor) (Err c.in-Err-extensions.error) firsts.Extensions seen (λ x fits e. c.in-Err-extensions.ensures.only x rest fits e) i fit e

pub returns-in-Ok-extensions-clause-only : goal.returns-in-Ok-extensions-clause-only
returns-in-Ok-extensions-clause-only c = λ i rest fit e.
    let seen : firsts.Extensions ≡ first_of (left c.args.cursor.now) = cc in
    let made : Extensions → BodyItem = λ x. plain (item_extensions x) in
    only_of c.args.version (map setting_of c.args.seen.now) (left c.args.cursor.now) rest (left c.extensions.new.cursor) (Ok (code_item.Extensions c.in-Ok-extensions.part)) firsts.Extensions seen
    (λ x fits e. let r = (c.in-Ok-extensions.ensures.only x rest fits e) in (body_item_of_extensions c.in-Ok-extensions.part ∙ ap made r.0, r.1))
    i fit e

pub returns-in-Err-reserved-clause-only : goal.returns-in-Err-reserved-clause-only
returns-in-Err-reserved-clause-only c = λ i rest fit e.
    let seen : firsts.Reserved ≡ first_of (left c.args.cursor.now) = cc in
    only_of c.args.version (map setting_of c.args.seen.now) (left c.args.cursor.now) rest (left c.reserved.new.cursor) (Err c.in-Err-reserved.error) firsts.Reserved seen (λ x fits e. c.in-Err-reserved.ensures.only x rest fits e) i fit e

pub returns-in-Ok-reserved-clause-only : goal.returns-in-Ok-reserved-clause-only
returns-in-Ok-reserved-clause-only c = λ i rest fit e.
    let seen : firsts.Reserved ≡ first_of (left c.args.cursor.now) = cc in
    let made : (Reserved Count) → BodyItem = λ x. plain (item_reserved x) in
    only_of c.args.version (map setting_of c.args.seen.now) (left c.args.cursor.now) rest (left c.reserved.new.cursor) (Ok (code_item.Reserved c.in-Ok-reserved.part)) firsts.Reserved seen
    (λ x fits e. let r = (c.in-Ok-reserved.ensures.only x rest fits e) in (body_item_of_reserved c.in-Ok-reserved.part ∙ ap made r.0, r.1))
    i fit e

pub returns-in-Err-statement-clause-only : goal.returns-in-Err-statement-clause-only
returns-in-Err-statement-clause-only c = λ i rest fit e.
    let seen : firsts.Option ≡ first_of (left c.args.cursor.now) = cc in
    only_of c.args.version (map setting_of c.args.seen.now) (left c.args.cursor.now) rest (left c.statement.new.cursor) (Err c.in-Err-statement.error) firsts.Option seen (λ x fits e. c.in-Err-statement.ensures.only x rest fits e) i fit e

pub returns-in-Ok-statement-clause-only : goal.returns-in-Ok-statement-clause-only
returns-in-Ok-statement-clause-only c = λ i rest fit e.
    let seen : firsts.Option ≡ first_of (left c.args.cursor.now) = cc in
    let made : Statement → BodyItem = λ x. plain (item_option x) in
    only_of c.args.version (map setting_of c.args.seen.now) (left c.args.cursor.now) rest (left c.statement.new.cursor) (Ok (code_item.Option c.in-Ok-statement.part)) firsts.Option seen
    (λ x fits e. let r = (c.in-Ok-statement.ensures.only x rest fits e) in (body_item_of_option c.in-Ok-statement.part ∙ ap made r.0, r.1))
    i fit e

pub returns-in-Err-field-clause-only : goal.returns-in-Err-field-clause-only
returns-in-Err-field-clause-only c = λ i rest fit e.
    let seen : firsts.Field ≡ first_of (left c.args.cursor.now) = cc in
    only_of c.args.version (map setting_of c.args.seen.now) (left c.args.cursor.now) rest (left c.field.new.cursor) (Err c.in-Err-field.error) firsts.Field seen (λ x fits e. let h = both (begins_with_no begins_item x) (field_fits c.args.version x) fits in c.in-Err-field.ensures.only x rest h.1 (item_label x h.0) e) i fit e

pub returns-in-Ok-field-clause-only : goal.returns-in-Ok-field-clause-only
returns-in-Ok-field-clause-only c = λ i rest fit e.
    let seen : firsts.Field ≡ first_of (left c.args.cursor.now) = cc in
    let made : Field → BodyItem = λ x. plain (item_field x) in
    only_of c.args.version (map setting_of c.args.seen.now) (left c.args.cursor.now) rest (left c.field.new.cursor) (Ok (code_item.Field c.in-Ok-field.part)) firsts.Field seen
    (λ x fits e. let r = (let h = both (begins_with_no begins_item x) (field_fits c.args.version x) fits in c.in-Ok-field.ensures.only x rest h.1 (item_label x h.0) e) in (body_item_of_field c.in-Ok-field.part ∙ ap made r.0, r.1))
    i fit e
