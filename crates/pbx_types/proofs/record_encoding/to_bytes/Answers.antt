use Rattle.std.proofs.Common.{◌≡◌, List, length, subst, sym, ap, ◌^◌, ◌<◌, ℕ, arith, rules}
use Rattle.pbx_content.specs.Encoding.{encoded}
use Rattle.pbx_content.specs.Same.{Decodes, DecodesParts}
use Rattle.pbx_content_codec.specs.View.{content_of}
use Rattle.pbx_desc_shapes.specs.TypesShape.{types_shape}
use Rattle.pbx_desc_shapes.proofs.WellKnownProper.{types_shape_proper}
use Rattle.pbx_types.proofs.record_encoding.to_bytes.Goals as goal

pub returns-clause-decodes : goal.returns-clause-decodes
returns-clause-decodes c =
    let contents = content_of c.args.contents.now in
    let vec = c.in_ok-from_slice.field-0 in
    let is : vec.items ≡ encoded types_shape c.args.type_at contents = search rules in
    let short : length (encoded types_shape c.args.type_at contents) < 2 ^ 64 = omega (arith, ap length is, vec.ok.0, vec.ok.1, vec.small) in
    λ sound deep.
    subst (λ (bytes : List ℕ). Decodes types_shape c.args.type_at bytes contents) (sym is)
    (c.encoding_decodes.ensures.whole types_shape c.args.type_at contents types_shape_proper sound short deep)

pub returns-clause-parts : goal.returns-clause-parts
returns-clause-parts c =
    let contents = content_of c.args.contents.now in
    let vec = c.in_ok-from_slice.field-0 in
    let is : vec.items ≡ encoded types_shape c.args.type_at contents = search rules in
    let short : length (encoded types_shape c.args.type_at contents) < 2 ^ 64 = omega (arith, ap length is, vec.ok.0, vec.ok.1, vec.small) in
    λ sound fit.
    subst (λ (bytes : List ℕ). DecodesParts types_shape c.args.type_at bytes contents) (sym is)
    (c.encoding_decodes.ensures.parts types_shape c.args.type_at contents types_shape_proper sound short fit)
