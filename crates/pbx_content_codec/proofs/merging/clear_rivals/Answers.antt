use Rattle.std.proofs.Common.{◌≡◌, ℕ, ◌-◌, List, get_or, None, map, sym, ap, ◌∙◌, arith, rules}
use Rattle.pbx_content.specs.Shape.{field_of}
use Rattle.pbx_content_codec.specs.declared.contents.Held.{Held}
use Rattle.pbx_content_codec.specs.Fields.{fields_at, field_like}
use Rattle.pbx_content_codec.specs.Merging.{is_rival_to}
use Rattle.pbx_content_codec.specs.View.{fields_in, entry_of}
use Rattle.pbx_content_codec.proofs.Rivals.{no_rivals, cleared_more}
use Rattle.pbx_content_codec.proofs.merging.clear_rivals.Goals as goal

pub returns-then-is_none : goal.returns-then-is_none
returns-then-is_none c =
    let none : c.args.view.oneof ≡ None = search rules in
    sym (no_rivals (fields_at c.args.schema.now c.args.owner) c.args.view (fields_in (map entry_of c.args.fields.now)) none)

pub loop-place-preserved-then-is_rival : goal.loop-place-preserved-then-is_rival
loop-place-preserved-then-is_rival c =
    let gs = fields_at c.args.schema.now c.args.owner in
    let f = field_like c.args.view in
    let rival = ap (λ (xs : List (ℕ × Held)). is_rival_to f (field_of (get_or xs (c.loop-place.place - 1) c.index-as_slice-place.result).0 gs))
    (sym c.as_slice.ensures.same) ∙ sym c.is_rival.ensures ∙ c.if-is_rival.true in
    rw c.drop_field.ensures
    (cleared_more gs f c.args.fields.now c.loop-place.fields c.loop-place.place (c.loop-place.place - 1) c.index-as_slice-place.result
    (omega arith) rival c.loop-place.invariant)
