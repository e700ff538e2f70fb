use Rattle.std.proofs.Common.{arith}
use Rattle.pbx_content_codec.specs.View.{content_of}
use Rattle.pbx_message_dynamic.specs.Message.{dynamic}
use Rattle.pbx_message_dynamic.proofs.Deepest.{field_levels}
use Rattle.pbx_message_dynamic.proofs.message.DynamicMessage.set_number.Goals as goal

pub invariant_of-self : goal.invariant_of-self
invariant_of-self c =
    let old = dynamic c.self.inside.desc (content_of c.self.inside.tree) in
    let new = dynamic c.self.inside.desc (content_of c.set_numbered.new.tree) in
    let deep = field_levels old _ c.args.value new c.in-Ok-set_numbered.ensures.set in
    let value = rw c.in-Ok-set_numbered.ensures.levels at c.value_levels-levels.ensures in (
      c.set_numbered.ensures.sound,
      c.set_numbered.ensures.known,
      omega (arith, deep, value.0, c.max-self-inside.ensures, c.self.invariant.2),
      omega (arith, value.1, c.max-self-inside.ensures, c.self.invariant.3),
    )

pub returns-in-Ok-set_numbered-clause-shallow : goal.returns-in-Ok-set_numbered-clause-shallow
returns-in-Ok-set_numbered-clause-shallow c =
    let old = dynamic c.self.inside.desc (content_of c.self.inside.tree) in
    let new = dynamic c.self.inside.desc (content_of c.set_numbered.new.tree) in
    let deep = field_levels old _ c.args.value new c.in-Ok-set_numbered.ensures.set in
    let value = rw c.in-Ok-set_numbered.ensures.levels at c.value_levels-levels.ensures in
    omega (arith, deep, value.0, value.1, c.self.invariant.2, c.self.invariant.3)
