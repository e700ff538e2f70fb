use Rattle.std.proofs.Common.{refl}
use Rattle.pbx_desc_shapes.specs.DescriptorShape.{location_fields}
use Rattle.pbx_desc_encoding.specs.Content.{location_values}
use Rattle.pbx_desc_encoding.proofs.Behind.{begin_alone, written, written_packed, finished}
use Rattle.pbx_desc_encoding.proofs.Places.{on_ok}
use Rattle.pbx_desc_encoding.proofs.Types.{location_type}
use Rattle.pbx_desc_encoding.proofs.location.put_location.Goals as goal

pub returns : goal.returns
returns c =
    let r = c.args.location.now in
    let first = c.args.out.now.items in
    let start = begin_alone 13 location_fields (location_values r) first location_type in
    let path = written_packed start c.in_ok-put_packed.ensures refl refl refl refl refl refl in
    let span = written_packed path c.in_ok-put_packed-2.ensures refl refl refl refl refl refl in
    let leading_comments = written span c.in_ok-put_text.ensures refl refl refl refl refl refl in
    let trailing_comments = written leading_comments c.in_ok-put_text-2.ensures refl refl refl refl refl refl in
    on_ok c.put_texts.result (λ texts.
    finished r.unknown first c.put_texts.new.out.items (written trailing_comments texts refl refl refl refl refl refl) location_type refl (c.if-not-is_empty.ensures.0 refl)) c.put_texts.ensures
