use Rattle.std.proofs.Common.{◌≡◌, ◌∙◌, List, [], ap, refl, sym}
use Rattle.pbx_desc_records.specs.declared.message.DescriptorProto.{DescriptorProto, DescriptorProto-F, out-DescriptorProto, roll-DescriptorProto, roll-out-DescriptorProto, out-roll-DescriptorProto}
use Rattle.pbx_desc_equality.specs.Parts.{without_nested}
use Rattle.pbx_desc_equality.proofs.message.+equal.Goals as goal

-- the message with these in it
abbrev with_nested : DescriptorProto-F DescriptorProto → List DescriptorProto → DescriptorProto
with_nested o nested = roll-DescriptorProto (record o { nested_type = nested })

-- a message is itself without those in it, and those
parts : (m : DescriptorProto) → with_nested (out-DescriptorProto (without_nested m)) (out-DescriptorProto m).nested_type ≡ m
parts m =
    let o : DescriptorProto-F DescriptorProto = out-DescriptorProto m in
    ap (λ (l : DescriptorProto-F DescriptorProto). with_nested l o.nested_type) (out-roll-DescriptorProto (record o { nested_type = [] })) ∙ roll-out-DescriptorProto m

-- messages that are equal but for the equal messages in them
joined : (a b : DescriptorProto) → without_nested a ≡ without_nested b → (out-DescriptorProto a).nested_type ≡ (out-DescriptorProto b).nested_type → a ≡ b
joined a b apart nested =
    sym (parts a)
    ∙ ap (λ (m : DescriptorProto). with_nested (out-DescriptorProto m) (out-DescriptorProto a).nested_type) apart
    ∙ ap (with_nested (out-DescriptorProto (without_nested b))) nested
    ∙ parts b

pub is_equal-returns-then-are_equal_apart : goal.is_equal-returns-then-are_equal_apart
is_equal-returns-then-are_equal_apart t c = (
  λ yes. joined c.args.message.now c.args.other.now (c.if-are_equal_apart.ensures.0 refl) (c.are_equal.ensures.0 yes),
  λ e. c.are_equal.ensures.1 (ap (λ (m : DescriptorProto). (out-DescriptorProto m).nested_type) e),
)
