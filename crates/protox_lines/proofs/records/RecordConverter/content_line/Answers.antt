use Rattle.std.proofs.Common.{◌≡◌, ◌++◌, ◌∙◌, rules, Some, option_map, List, ℕ, ap, sym, codes}
use Rattle.serde_json.specs.Data.{Data}
use Rattle.serde_json.specs.View.{view}
use Rattle.serde_json.specs.Written.{compact_text}
use Rattle.pbx_content_codec.specs.View.{content_of}
use Rattle.pbx_json_meaning.specs.Canonical.{canonical}
use Rattle.pbx_json_meaning.specs.Options.{default_writing}
use Rattle.protox_lines.proofs.records.RecordConverter.content_line.Goals as goal

pub returns-in-Ok-text_line-clause-ok : goal.returns-in-Ok-text_line-clause-ok
returns-in-Ok-text_line-clause-ok c =
    let written : canonical c.args.self.now.shape c.args.self.now.place (content_of c.args.content.now) default_writing ≡ Some (view c.in-Ok.tree) = search rules in
    ap (λ o. option_map (λ (tree : Data). compact_text tree ++ codes "\n") o) written
    ∙ ap (λ (l : List ℕ). Some l) (sym (c.in-Ok-text_line.ensures (c.canonical_is_plain.ensures c.args.self.now.shape c.args.self.now.place (content_of c.args.content.now)
    default_writing (view c.in-Ok.tree) written).1))
