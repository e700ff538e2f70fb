use Rattle.std.proofs.Common.{[], refl}
use Rattle.pbx_types.proofs.Built.{made_all}
use Rattle.pbx_types.proofs.Types.{empty_type}
use Rattle.pbx_types.proofs.any.EmptyHasContents.to_contents.Goals as goal

pub returns : goal.returns
returns c = made_all 2 [] [] c.args.self.now.unknown c.kept_contents.result empty_type tt tt refl c.kept_contents.ensures.content c.kept_contents.ensures.fit
