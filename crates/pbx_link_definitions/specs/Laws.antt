-- What holds of the messages and extensions of a file.
use Rattle.std.specs.Prelude.{◌≡◌, ◌∷◌, ◌++◌}
use Rattle.std.specs.List.{flat_map}
use Rattle.pbx_desc_records.specs.declared.message.DescriptorProto.{DescriptorProto}
use Rattle.pbx_link_definitions.specs.Definitions.{Part, messages_from, extensions_from, nested_in, extensions_in}

-- of a message and those nested in it comes the message first, and then each that stands in its body, with those nested in that one
abbrev pub MessagesAreTold : Type 0
MessagesAreTold = (p : Part DescriptorProto) → messages_from p ≡ p ∷ flat_map messages_from (nested_in p)

-- of their extensions come those in the messages of its body first, and then its own
abbrev pub ExtensionsAreTold : Type 0
ExtensionsAreTold = (p : Part DescriptorProto) → extensions_from p ≡ flat_map extensions_from (nested_in p) ++ extensions_in p
