use Rattle.std.proofs.Common.{ℕ, map, ap, ◌∙◌}
use Rattle.pbx_parse_tree.specs.View.{item_of}
use Rattle.pbx_parse_translation.specs.Messages.{fields_from}
use Rattle.pbx_parse_translation.proofs.Whole.{fields_are, oneofs_are}
use Rattle.pbx_parse_translation.proofs.messages.fields_and_oneofs.Goals as goal

pub returns : goal.returns
returns c =
    let v = c.args.version in
    let xs = c.args.items.now in
    let written = c.in_ok-oneofs.oneofs in (
      fields_are xs v written c.in_ok-oneofs.ensures c.in_ok-fields.fields (c.in_ok-fields.ensures ∙ ap (λ (n : ℕ). fields_from v 0 n (map item_of xs)) c.len.ensures),
      oneofs_are xs v written c.in_ok-oneofs.ensures c.add_synthetic_oneofs.new.oneofs c.in_ok-add_synthetic_oneofs.ensures,
    )
