use Rattle.std.proofs.Common.{◌∙◌, ap, sym}
use Rattle.pbx_link_pool.specs.Places.{earlier}
use Rattle.pbx_link_pool.proofs.Found.{types_found}
use Rattle.pbx_link_pool.proofs.pool.PoolPooled.type_with_file.Goals as goal

pub returns : goal.returns
returns c =
    c.earlier.ensures ∙ ap (λ m. earlier m c.enum_with_file.result) c.message_with_file.ensures ∙ ap (earlier _) c.enum_with_file.ensures ∙ sym (types_found c.args.name.now c.args.self.now)
