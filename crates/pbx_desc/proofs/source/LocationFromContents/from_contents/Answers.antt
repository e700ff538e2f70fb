use Rattle.std.proofs.Common.{true, [], ◌∷◌, refl}
use Rattle.pbx_content_codec.specs.View.{content_of}
use Rattle.pbx_desc_shapes.specs.DescriptorShape.{location_fields}
use Rattle.pbx_desc_records.specs.declared.source.Location.{Location}
use Rattle.pbx_desc_encoding.specs.Content.{location_values}
use Rattle.pbx_desc_encoding.proofs.Types.{location_type}
use Rattle.pbx_desc.proofs.Walk.{start, next, done}
use Rattle.pbx_desc.proofs.source.LocationFromContents.from_contents.Goals as goal

pub returns : goal.returns
returns c =
    let r : Location = record { path = c.in_ok-path.path; span = c.in_ok-span.span; leading_comments = c.take_text-leading_comments.result; trailing_comments = c.take_text-trailing_comments.result; leading_detached_comments = c.in_ok-leading_detached_comments.leading_detached_comments; unknown = c.kept_records.result } in
    let before = start location_fields (location_values r) (true ∷ true ∷ true ∷ true ∷ true ∷ []) (content_of c.args.contents) in
    let at_path = next before c.in_ok-path.ensures refl refl refl refl in
    let at_span = next at_path c.in_ok-span.ensures refl refl refl refl in
    let at_leading_comments = next at_span c.take_text-leading_comments.ensures refl refl refl refl in
    let at_trailing_comments = next at_leading_comments c.take_text-trailing_comments.ensures refl refl refl refl in
    let at_leading_detached_comments = next at_trailing_comments c.in_ok-leading_detached_comments.ensures refl refl refl refl in
    done 13 location_type refl at_leading_detached_comments c.kept_records.ensures
