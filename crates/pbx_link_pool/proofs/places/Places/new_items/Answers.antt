use Rattle.std.proofs.Common.{◌∙◌, [], ap}
use Rattle.pbx_link_definitions.specs.Names.{qualified, text_or_empty}
use Rattle.pbx_link_definitions.specs.Definitions.{package_of, message_name, enum_name, field_name}
use Rattle.pbx_link_pool.specs.Items.{new_items, place_items}
use Rattle.pbx_link_pool.proofs.Told.{same_places, service_items}
use Rattle.pbx_link_pool.proofs.places.Places.new_items.Goals as goal

pub returns : goal.returns
returns c =
    let places = c.args.self.now in
    let f = c.args.parts.now in
    let index = c.args.index in
    same_places _ _ _ _ _ _ _ _
    (c.in_ok-messages.ensures ∙ ap (λ ps. new_items places.messages (place_items message_name index ps)) c.messages.ensures)
    (c.in_ok-enums.ensures ∙ ap (λ ps. new_items places.enums (place_items enum_name index ps)) c.enums.ensures)
    (c.in_ok-extensions.ensures ∙ ap (λ ps. new_items places.extensions (place_items field_name index ps)) c.extensions.ensures)
    (c.in_ok-services.ensures
    ∙ ap (λ scope. new_items places.services (place_items (λ s. qualified scope (text_or_empty s.name)) index c.as_slice.result.now))
    (c.text_or_empty-scope.ensures ∙ ap (λ g. text_or_empty g.«package») c.file-file.ensures)
    ∙ ap (λ ss. new_items places.services (place_items (λ s. qualified (package_of f) (text_or_empty s.name)) index ss)) (c.as_slice.ensures ∙ ap (λ g. g.service) c.file-file.ensures)
    ∙ ap (new_items places.services) (service_items (package_of f) [] 6 index f.service))
