use Rattle.std.proofs.Common.{[], refl}
use Rattle.pbx_desc_encoding.proofs.Built.{start, whole}
use Rattle.pbx_desc_encoding.proofs.Types.{file_options_type}
use Rattle.pbx_desc_encoding.proofs.options.OptionsHasContents.to_contents.Goals as goal

pub returns : goal.returns
returns c =
    let left = start [] [] c.new.result.list c.new.ensures in
    whole 14 [] [] c.new.result.list c.args.self.now.recs c.with_unknown.result file_options_type refl left c.with_unknown.ensures.content c.with_unknown.ensures.fit
