use Rattle.std.proofs.Common.{◌≡◌, ℕ, List, length, true, false, refl, sym, ap, ◌∙◌}
use Rattle.std.specs.Prelude.{◌==◌}
use Rattle.std.specs.Str.{is_utf8}
use Rattle.pbx_content_codec.specs.View.{content_of}
use Rattle.pbx_content_codec.proofs.Tree.{val_of-Text}
use Rattle.pbx_content.specs.declared.shape.Cardinality.TheVariants.{Singular}
use Rattle.pbx_content.specs.declared.shape.Kind.TheVariants as kind
use Rattle.pbx_content.specs.Content.{text}
use Rattle.pbx_types.proofs.Built.{put_default, put_value}
use Rattle.pbx_types.proofs.Told.{same_utf8, on_ok}
use Rattle.pbx_types.proofs.contents.put_some_text.Goals as goal

pub returns-then-is_empty : goal.returns-then-is_empty
returns-then-is_empty c =
    let t = c.args.text.now in
    let empty : (length t == 0) ≡ true = ap (λ (s : List ℕ). length s == 0) (sym c.as_str.ensures) ∙ sym c.is_empty.ensures ∙ c.if-is_empty.true in
    let utf8 : is_utf8 t ≡ true = same_utf8 _ _ c.as_str.ensures c.as_str.utf8 in
    put_default Singular kind.String c.args.number (text t) (content_of c.args.contents.now) empty (refl, (refl, utf8))

pub returns : goal.returns
returns c =
    let t = c.args.text.now in
    let some : (length t == 0) ≡ false = ap (λ (s : List ℕ). length s == 0) (sym c.as_str.ensures) ∙ sym c.is_empty.ensures ∙ c.if-is_empty.false in
    let utf8 : is_utf8 t ≡ true = same_utf8 _ _ c.as_str.ensures c.as_str.utf8 in
    on_ok c.put.result
    (put_value Singular false kind.String c.args.number (text t) _ (content_of c.args.contents.now) (content_of c.put.new.self) some (refl, (refl, utf8))
    (val_of-Text c.in_ok-copy.copy ∙ ap text (c.in_ok-copy.ensures ∙ c.as_str-2.ensures)))
    c.put.ensures.ok
