use Rattle.std.proofs.Common.{◌≡◌, ◌∙◌, ap, sym, ℕ, List, Option, cond, take, Some, None, arith}
use Rattle.std.proofs.lemmas.Grind.{common_steps}
use Rattle.std.specs.List.{position}
use Rattle.std.specs.Option.{option_or}
use Rattle.std.specs.Str.{bytes_eq}
use Rattle.pbx_content.specs.declared.shape.MessageShape.{MessageShape}
use Rattle.pbx_json_schema.specs.Index.{ArePlacesOf}
use Rattle.pbx_json_schema.specs.Places.{place_under}
use Rattle.pbx_json_schema.proofs.Positions.{position_more}
use Rattle.pbx_json_schema.proofs.type_names.type_places.Goals as goal

pub loop-place-init : goal.loop-place-init
loop-place-init c = c.new-places.ensures

pub loop-place-preserved : goal.loop-place-preserved
loop-place-preserved c = λ q.
    let i = c.loop-place.place in
    position_more (λ (m : MessageShape). bytes_eq m.full_name q) c.args.messages.now i c.index-messages-place.result (place_under q c.loop-place.places)
    (place_under q c.add_place.new.places) c.loop-place-test.true c.index-messages-place.is (c.loop-place.invariant q)
    (c.in_ok-add_place.ensures q
    ∙ ap (λ (n : List ℕ). option_or (place_under q c.loop-place.places) (cond (bytes_eq n q) (Some i) None)) c.as_str.ensures
    ∙ ap (λ (m : MessageShape). option_or (place_under q c.loop-place.places) (cond (bytes_eq m.full_name q) (Some i) None)) (sym c.index-messages-place.is))

pub returns : goal.returns
unfolding ArePlacesOf
returns c = λ q.
    let all : take c.loop-place.place c.args.messages.now ≡ c.args.messages.now = grind (arith, common_steps) in
    c.loop-place.invariant q ∙ ap (position (λ (m : MessageShape). bytes_eq m.full_name q)) all
