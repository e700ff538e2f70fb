use Rattle.std.proofs.Common.{◌∙◌, ap, sym}
use Rattle.std.specs.Prelude.{ℕ, Option, slice_get, unwrap_or}
use Rattle.pbx_link_definitions.specs.Definitions.{message_name}
use Rattle.pbx_link_meaning.specs.Descriptors.{all_messages}
use Rattle.pbx_link_meaning.specs.Shapes.{message_place, shape_of}
use Rattle.pbx_link.proofs.Placed.{message_within, stands}
use Rattle.pbx_link.proofs.message.MessageDescriptor.place.Goals as goal

pub returns-clause-message : goal.returns-clause-message
returns-clause-message c same =
    let pool = c.args.self.now.pool in
    let placed = c.place_in.ensures (same ∙ ap shape_of (sym c.pool-pool.ensures.same)) in
    let named = ap (message_place c.pool-pool.result.now) c.full_name.ensures in
    let held = ap (λ files. message_place files (message_name c.args.self.now.part)) c.pool-pool.ensures.same in
    ap (slice_get (all_messages pool)) (c.unwrap_or.ensures ∙ ap (λ (o : Option ℕ). unwrap_or o 0) (placed ∙ named ∙ held))
    ∙ stands pool c.pool-pool.ensures.pooled c.args.self.now (message_within c.args.self.now c.pool-pool.ensures.file c.pool-pool.ensures.message)
