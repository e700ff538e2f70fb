use Rattle.std.proofs.Common.{◌≡◌, string_bytes}
use Rattle.std.proofs.lemmas.Map.Text.{btree_map_updates_text}
use Rattle.std.proofs.lemmas.Result.{IfOk-at_ok}
use Rattle.pbx_json_schema.specs.Places.{place_under}
use Rattle.pbx_json_schema.proofs.name_places.NamePlaces.put.Goals as goal

pub returns : goal.returns
unfolding place_under
returns c =
    let is_name = IfOk-at_ok (λ s. string_bytes s ≡ c.args.name.now) c.in_ok-key.was c.from_str.ensures.ok in
    let sets = btree_map_updates_text (string_bytes c.in_ok-key.key) c.args.self.now.places c.insert.new.self _ c.in_ok-insert.ensures.updates in
    rw is_name at sets
