use Rattle.std.proofs.Common.{ℕ, List, map, inl, refl, sym, ap, ◌∙◌, subst, arith}
use Rattle.pbx_content.specs.Content.{fields}
use Rattle.pbx_content.specs.Shape.{fields_of}
use Rattle.pbx_content_codec.specs.declared.contents.Held.{Held}
use Rattle.pbx_content_codec.specs.Stability.{IsStableTo}
use Rattle.pbx_content_codec.specs.View.{content_of, val_of, fields_in, entry_of}
use Rattle.pbx_content_codec.proofs.Tree.{content_is}
use Rattle.pbx_content_codec.proofs.Ready.{empty_stays}
use Rattle.pbx_content_codec.proofs.Stable.{field_stays, stable_end}
use Rattle.pbx_content_codec.proofs.stabilizing.+stable.Goals as goal

pub is_stable-returns : goal.is_stable-returns
is_stable-returns t c = λ yes.
    stable_end c.args.schema.now c.args.levels (fields_of c.args.schema.now c.args.type_at) (content_of c.args.contents.now) c.as_slice-field-items.result.now
    c.loop-field.field-index c.loop-field.least c.requires (inl (c.args.type_at, refl)) (ap fields (content_is c.args.contents.now)
    ∙ ap (λ (xs : List (ℕ × Held)). fields_in (map entry_of xs)) (sym c.as_slice-field-items.ensures.same)) (omega (arith, c.loop-field-test.false))
    c.loop-field.invariant

pub has_stable_message-returns-in-None : goal.has_stable_message-returns-in-None
has_stable_message-returns-in-None t c = λ yes type_at deeper once kind deep s.
    subst (IsStableTo c.args.schema.now deeper (fields_of c.args.schema.now type_at)) (sym c.in-None.ensures.none)
    (empty_stays c.args.schema.now deeper (fields_of c.args.schema.now type_at))

pub is_stable_field-returns : goal.is_stable_field-returns
is_stable_field-returns t c = λ yes.
    field_stays c.args.schema.now c.args.levels (fields_of c.args.schema.now c.args.type_at) c.args.field.now.0 (val_of c.args.field.now.1) c.in-Some.view
    c.in-Some.ensures (sym c.is_float.ensures ∙ c.if-is_float.false)
    (c.is_stable_value.ensures c.if-not-is_stable_value.false c.args.schema.now) (c.has_stable_message.ensures yes)
