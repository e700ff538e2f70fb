use Rattle.std.proofs.Common.{refl, ap, ◌∙◌}
use Rattle.pbx_content.specs.Content.{text_key}
use Rattle.pbx_types.proofs.Told.{same_utf8}
use Rattle.pbx_types.proofs.encoding.named.Goals as goal

pub returns : goal.returns
returns c = record {
  key = ap text_key (c.in_ok-from_str.ensures ∙ c.as_str.ensures);
  held = refl;
  utf8 = same_utf8 _ _ c.as_str.ensures c.as_str.utf8;
}
