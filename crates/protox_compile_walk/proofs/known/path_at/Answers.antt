use Rattle.std.proofs.Common.{◌≡◌, ◌∙◌, ap, get_or, rules}
use Rattle.protox_file_sources.specs.Metadata.{Metadata}
use Rattle.protox_compile_walk.proofs.Found.{path_is}
use Rattle.protox_compile_walk.proofs.known.path_at.Goals as goal

pub returns : goal.returns
returns c =
    let is : c.index-files-index.result ≡ get_or c.args.files.now c.args.index c.index-files-index.result = search rules in
    c.path.ensures ∙ ap (λ (m : Metadata). m.path) is ∙ path_is c.args.files.now c.args.index c.index-files-index.result c.requires
