use Rattle.std.proofs.Common.{refl}
use Rattle.pbx_types.proofs.Built.{two_made}
use Rattle.pbx_types.proofs.Types.{any_type}
use Rattle.pbx_types.proofs.any.AnyHasContents.to_contents.Goals as goal

pub returns : goal.returns
returns c =
    two_made 0 _ _ c.args.self.now.unknown c.put_octets.new.contents any_type (refl, (refl, tt)) refl refl refl c.in_ok-contents.ensures.content c.in_ok-put_text.ensures c.in_ok-put_octets.ensures
    c.in_ok-contents.ensures.fit
