use Rattle.std.proofs.Common.{refl}
use Rattle.pbx_types.proofs.Built.{two_made}
use Rattle.pbx_types.proofs.Types.{duration_type}
use Rattle.pbx_types.proofs.time.DurationHasContents.to_contents.Goals as goal

pub returns : goal.returns
returns c =
    two_made 1 _ _ c.args.self.now.unknown c.put_int32.new.contents duration_type (refl, (refl, tt)) refl refl refl c.in_ok-contents.ensures.content c.in_ok-put_int64.ensures c.in_ok-put_int32.ensures
    c.in_ok-contents.ensures.fit
