use Rattle.std.proofs.Common.{◌≡◌, ◌∙◌, ap, get_or, rules}
use Rattle.std.specs.Prelude.{not}
use Rattle.protox_file_sources.specs.Metadata.{Metadata}
use Rattle.protox_compile_walk.proofs.Found.{is_opened_is}
use Rattle.protox_compile_walk.proofs.known.is_opened_at.Goals as goal

pub returns : goal.returns
returns c =
    let is : c.index-files-index.result ≡ get_or c.args.files.now c.args.index c.index-files-index.result = search rules in
    ap (λ b. not b) c.is_import.ensures ∙ ap (λ (m : Metadata). not m.is_import) is ∙ is_opened_is c.args.files.now c.args.index c.index-files-index.result c.requires
