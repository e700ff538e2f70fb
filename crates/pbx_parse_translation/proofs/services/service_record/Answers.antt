use Rattle.std.proofs.Common.{◌≡◌, map, ap, ◌∙◌}
use Rattle.std.specs.List.{flat_map, filter_map}
use Rattle.pbx_parse_tree.specs.declared.options.OptionPlace.TheVariants as places
use Rattle.pbx_parse_tree.specs.Conditions.{service_setting}
use Rattle.pbx_parse_tree.specs.View.{service_item_of, service_of}
use Rattle.pbx_parse_translation.specs.Settings.{options_of}
use Rattle.pbx_parse_translation.specs.Services.{method_records}
use Rattle.pbx_parse_translation.proofs.Lists.{flat_seen}
use Rattle.pbx_parse_translation.proofs.Whole.{service_made}
use Rattle.pbx_parse_translation.proofs.services.service_record.Goals as goal

pub returns : goal.returns
returns c =
    let all = c.args.service.now.items.items in
    let methods : c.in_ok-all_given.field-0 ≡ flat_map method_records (map service_item_of all) =
    c.in_ok-all_given.ensures ∙ ap (flat_map (λ i. method_records (service_item_of i))) c.as_slice-items.ensures.value ∙ flat_seen method_records service_item_of all in
    let options : c.in_ok-service_options.field-0 ≡ options_of places.Service (filter_map service_setting (map service_item_of all)) =
    c.in_ok-service_options.ensures ∙ ap (λ is. options_of places.Service (filter_map service_setting (map service_item_of is))) c.as_slice-items.ensures.value in
    service_made (service_of c.args.service.now) c.in_ok-from_str.field-0 c.in_ok-all_given.field-0 c.in_ok-service_options.field-0 c.new.result c.in_ok-from_str.ensures methods options c.new.ensures
