use Rattle.std.proofs.Common.{◌≡◌, true, option_map, ap, ◌∙◌}
use Rattle.std.specs.Str.{is_utf8}
use Rattle.pbx_content.specs.Content.{number, text}
use Rattle.pbx_content_codec.specs.declared.contents.Held as held
use Rattle.pbx_content_codec.specs.View.{content_of, val_of}
use Rattle.pbx_content_codec.proofs.Tree.{val_of-Text}
use Rattle.pbx_types.proofs.Told.{same_utf8, on_ok}
use Rattle.pbx_types.specs.declared.tree.Value.{out-Value}
use Rattle.pbx_types.proofs.Putting.{text_put}
use Rattle.pbx_types.proofs.encoding.put_scalar.Goals as goal

pub returns-in-Some-string_value : goal.returns-in-Some-string_value
returns-in-Some-string_value c =
    let o = out-Value c.args.value.now in
    let copy = c.in_ok-copy.copy in
    let t = c.in-Some-string_value.text in
    let utf8 : is_utf8 t ≡ true = same_utf8 _ _ c.as_str.ensures c.as_str.utf8 in
    rw (c.requires.no_list, c.requires.no_struct, c.in_default.is, c.in-Some-string_value.is)
    (on_ok c.put-in-Some-string_value.result
    (text_put (option_map number o.null_value) t (val_of (held.Text copy)) (content_of c.args.contents.now) (content_of c.put-in-Some-string_value.new.self) utf8
    (val_of-Text copy ∙ ap text (c.in_ok-copy.ensures ∙ c.as_str.ensures)))
    c.put-in-Some-string_value.ensures.ok)
