use Rattle.std.proofs.Common.{ap, inl, inr}
use Rattle.pbx_content.specs.Shape.{as_four, as_eight, form_of}
use Rattle.pbx_desc_decodable.proofs.Packed.{of_kind, fours_are, eights_are}
use Rattle.pbx_desc_decodable.proofs.numbers.are_numbers.Goals as goal

pub returns-in-Float : goal.returns-in-Float
returns-in-Float c = elim c.in-Float.is [
  | inl e ↦ of_kind c.args.kind as_four c.args.bytes.now _ (ap form_of e) (fours_are c.args.bytes.now)
  | inr (inl e) ↦ of_kind c.args.kind as_four c.args.bytes.now _ (ap form_of e) (fours_are c.args.bytes.now)
  | inr (inr e) ↦ of_kind c.args.kind as_four c.args.bytes.now _ (ap form_of e) (fours_are c.args.bytes.now)
]

pub returns-in-Double : goal.returns-in-Double
returns-in-Double c = elim c.in-Double.is [
  | inl e ↦ of_kind c.args.kind as_eight c.args.bytes.now _ (ap form_of e) (eights_are c.args.bytes.now)
  | inr (inl e) ↦ of_kind c.args.kind as_eight c.args.bytes.now _ (ap form_of e) (eights_are c.args.bytes.now)
  | inr (inr e) ↦ of_kind c.args.kind as_eight c.args.bytes.now _ (ap form_of e) (eights_are c.args.bytes.now)
]
