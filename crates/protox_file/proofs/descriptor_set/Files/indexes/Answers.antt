use Rattle.std.proofs.Common.{◌∙◌, ap}
use Rattle.std.specs.Option.{option_or}
use Rattle.pbx_link_names.specs.Names.{first_under}
use Rattle.protox_file.specs.Indexes.{told_at}
use Rattle.protox_file.specs.Sets.{entries_of}
use Rattle.protox_file.proofs.Indexes.{found}
use Rattle.protox_file.proofs.descriptor_set.Files.indexes.Goals as goal

pub returns : goal.returns
returns c = λ q.
    ap (told_at (entries_of c.args.self.now))
    (c.in_ok-add_all.ensures.ok q ∙ ap (λ o. option_or o (first_under q c.as_slice.result.now)) (c.new-indexes.ensures q)
    ∙ ap (first_under q) (c.as_slice.ensures ∙ c.in_ok-names.ensures))
    ∙ found (entries_of c.args.self.now) q
