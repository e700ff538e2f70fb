use Rattle.std.proofs.Common.{◌≡◌, ◌∙◌, None, sym, ap, ℕ, cond, List, Option, arith, take}
use Rattle.std.proofs.lemmas.Grind.{common_steps}
use Rattle.std.specs.Prelude.{slice_get}
use Rattle.std.specs.Str.{bytes_eq}
use Rattle.pbx_content.specs.declared.shape.EnumValueShape.{EnumValueShape}
use Rattle.pbx_json_meaning.specs.Scalars.{value_named}
use Rattle.pbx_json_schema.specs.Index.{item_under, item_at, AreNamesOf}
use Rattle.pbx_json_schema.proofs.Adding.{found_more, got}
use Rattle.pbx_json_schema.proofs.enum_names.value_places.Goals as goal

pub loop-place-init : goal.loop-place-init
loop-place-init c = λ q. ap (item_at c.args.values.now) (c.new-places.ensures q)

pub loop-place-preserved : goal.loop-place-preserved
loop-place-preserved c = λ q.
    let vs = c.args.values.now in
    let i = c.loop-place.place in
    let x = c.index-values-place.result in
    found_more (λ v. bytes_eq v.name q) vs i x None (item_under vs c.loop-place.places q) (item_under vs c.add.new.places q)
    (cond (bytes_eq c.as_str.result.now q) (slice_get vs i) None) c.loop-place-test.true c.index-values-place.is (c.loop-place.invariant q) (c.in_ok-add.ensures q)
    (ap (λ (n : List ℕ). cond (bytes_eq n q) (slice_get vs i) None) c.as_str.ensures
    ∙ ap (λ (v : EnumValueShape). cond (bytes_eq v.name q) (slice_get vs i) None) (sym c.index-values-place.is)
    ∙ ap (λ (o : Option EnumValueShape). cond (bytes_eq x.name q) o None) (got vs i x c.loop-place-test.true c.index-values-place.is))

pub returns : goal.returns
unfolding AreNamesOf
returns c = λ q.
    let all : take c.loop-place.place c.args.values.now ≡ c.args.values.now = grind (arith, common_steps) in
    c.loop-place.invariant q ∙ ap (value_named q) all
