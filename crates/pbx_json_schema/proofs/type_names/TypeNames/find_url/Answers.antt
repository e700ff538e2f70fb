use Rattle.std.proofs.Common.{◌≡◌, ◌∙◌, ap, sym, subst, List, ℕ, Bor, Some, option_map}
use Rattle.std.specs.Prelude.{Option, option_and_then}
use Rattle.std.specs.Option.{IfSome}
use Rattle.pbx_json_meaning.specs.Urls.{after_slash, type_named}
use Rattle.pbx_json_schema.specs.Index.{ArePlacesOf}
use Rattle.pbx_json_schema.specs.declared.name_places.NamePlaces.{NamePlaces}
use Rattle.pbx_json_schema.proofs.type_names.TypeNames.find_url.Goals as goal

pub returns-in-Some-places-clause-place : goal.returns-in-Some-places-clause-place
unfolding ArePlacesOf
returns-in-Some-places-clause-place c = λ are.
    let shape = c.args.schema.now in
    let name = c.in-Some.name.now in
    let own : ArePlacesOf shape.messages c.in-Some-places.places
    = subst (λ (o : Option NamePlaces). IfSome o (ArePlacesOf shape.messages)) c.in-Some-places.is (c.prepare.ensures are).places in
    let named : after_slash c.args.url.now ≡ Some name = sym c.name_in.ensures ∙ ap (option_map (λ (n : Bor (List ℕ)). n.now)) c.in-Some.is in
    c.get.ensures ∙ own name ∙ sym (ap (option_and_then (type_named shape)) named)
