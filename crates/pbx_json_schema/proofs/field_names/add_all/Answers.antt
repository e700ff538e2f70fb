use Rattle.std.proofs.Common.{◌≡◌, ◌∙◌, None, sym, ap, Bor, List, ℕ, cond, Option, Bool}
use Rattle.std.specs.Prelude.{option_map, slice_get}
use Rattle.std.specs.Str.{bytes_eq}
use Rattle.pbx_content.specs.declared.shape.FieldShape.{FieldShape}
use Rattle.pbx_json_schema.specs.Index.{item_under, is_named, is_called}
use Rattle.pbx_json_schema.specs.declared.name_places.NamePlaces.{NamePlaces}
use Rattle.pbx_json_schema.proofs.Adding.{found_more, none_more, got}
use Rattle.pbx_json_schema.proofs.field_names.add_all.Goals as goal
use Rattle.pbx_json_schema.proofs.field_names.add_all.Goals.{in-Some+in_ok-add, in_default}

pub loop-place-preserved : goal.loop-place-preserved
loop-place-preserved c = λ q.
    let fs = c.args.fields.now in
    let i = c.loop-place.place in
    let x = c.index-fields-place.result in
    let P : Option (Bor (List ℕ)) → Bool = λ o. is_called (option_map (λ n. n.now) o) q in
    elim c.match-name_of.branch [
      | in-Some+in_ok-add w ↦
          let same : bytes_eq w.in-Some.name.now q ≡ is_named c.args.sort q x = sym (ap P w.in-Some.is) ∙ c.name_of.ensures q in
          ap (λ (m : NamePlaces). item_under fs m q) w.places-is
          ∙ found_more (is_named c.args.sort q) fs i x (item_under fs c.args.places.now q) (item_under fs c.loop-place.places q) (item_under fs w.add.new.places q)
          (cond (bytes_eq w.in-Some.name.now q) (slice_get fs i) None) c.loop-place-test.true c.index-fields-place.is (c.loop-place.invariant q) (w.in_ok-add.ensures q)
          (ap (λ (b : Bool). cond b (slice_get fs i) None) same ∙ ap (λ (o : Option FieldShape). cond (is_named c.args.sort q x) o None) (got fs i x c.loop-place-test.true c.index-fields-place.is))
      | in_default w ↦
          ap (λ (m : NamePlaces). item_under fs m q) w.places-is
          ∙ none_more (is_named c.args.sort q) fs i x (item_under fs c.args.places.now q) (item_under fs c.loop-place.places q)
          c.loop-place-test.true c.index-fields-place.is (c.loop-place.invariant q) (w.in_default.ensures q)
    ]
