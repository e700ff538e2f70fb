use Rattle.std.proofs.Common.{◌≡◌, ◌++◌, List, OnOk, subst}
use Rattle.pbx_desc_records.specs.declared.message.ExtensionRange.{ExtensionRange}
use Rattle.pbx_parse_translation.proofs.ItemForms.{extension_ranges_seen}
use Rattle.pbx_parse_translation.proofs.messages.ItemGivesExtensionRange.give.Goals as goal

pub returns-in-Extensions : goal.returns-in-Extensions
returns-in-Extensions c =
    subst (λ (rs : List ExtensionRange). OnOk c.add_each.result (c.add_each.new.records ≡ c.args.records.now ++ rs))
    (extension_ranges_seen c.args.self.now c.in-Extensions.extensions c.in-Extensions.is)
    c.add_each.ensures
