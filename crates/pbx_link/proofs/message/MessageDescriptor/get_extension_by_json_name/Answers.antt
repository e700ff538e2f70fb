use Rattle.std.proofs.Common.{◌∙◌}
use Rattle.pbx_link_meaning.specs.Descriptors.{extensions_of_message}
use Rattle.pbx_link.proofs.Extended.{bracketed_named, none_bracketed}
use Rattle.pbx_link.proofs.message.MessageDescriptor.get_extension_by_json_name.Goals as goal

pub returns-in-Some : goal.returns-in-Some
returns-in-Some c =
    c.extension_named.ensures ∙ bracketed_named (extensions_of_message c.args.self.now) c.args.name.now c.in-Some.name.now c.in-Some.ensures

pub returns-in-None : goal.returns-in-None
returns-in-None c = none_bracketed (extensions_of_message c.args.self.now) c.args.name.now c.in-None.ensures
