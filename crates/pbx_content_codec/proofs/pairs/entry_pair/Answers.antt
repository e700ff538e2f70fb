use Rattle.std.proofs.Common.{Option, ap, ◌∙◌}
use Rattle.pbx_content.specs.Content.{Val}
use Rattle.pbx_content.specs.Meaning.{or_else, zero_of}
use Rattle.pbx_content_codec.specs.View.{content_of, key_of, val_of}
use Rattle.pbx_content_codec.proofs.Keyed.{entry_given, second_there}
use Rattle.pbx_content_codec.proofs.pairs.entry_pair.Goals as goal

pub returns-in-Ok : goal.returns-in-Ok
returns-in-Ok c =
    entry_given c.args.schema.now c.args.key c.args.kind (content_of c.args.entry.now) (key_of c.key_held-own.result) (val_of c.in-Ok.held)
    (val_of c.in_ok-or_zero.field-0) c.key_held-own.ensures
    (c.in_ok-or_zero.ensures ∙ ap (λ (x : Option Val). or_else x (zero_of c.args.schema.now c.args.key)) c.take.ensures.value)
    (c.in-Ok.ensures
    ∙ ap (λ (x : Option Val). or_else x (zero_of c.args.schema.now c.args.kind)) (c.take-2.ensures.value
    ∙ second_there (content_of c.args.entry.now) (content_of c.take.new.self) c.take.ensures.rest))
