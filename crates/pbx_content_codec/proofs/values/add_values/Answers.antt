use Rattle.std.proofs.Common.{◌++◌, false, map, Option, Some, option_map, sym, ap, ◌∙◌}
use Rattle.pbx_wire.specs.View.{rec_of}
use Rattle.pbx_content.specs.Content.{Val, many, vals_of}
use Rattle.pbx_content.specs.Meaning.{no_inner, shown, spread}
use Rattle.pbx_content.specs.Onto.{elements}
use Rattle.pbx_content_codec.specs.declared.contents.Held.{Held}
use Rattle.pbx_content_codec.specs.View.{val_of}
use Rattle.pbx_content_codec.proofs.Alone.{shown_list}
use Rattle.pbx_content_codec.proofs.Tree.{val_of-Many}
use Rattle.pbx_content_codec.proofs.values.add_values.Goals as goal

pub returns-in-Ok-clause-found : goal.returns-in-Ok-clause-found
returns-in-Ok-clause-found c =
    ap (λ (o : Option Held). option_map (λ vs. shown c.args.schema.now false c.args.kind (Some (many (vals_of (elements (option_map val_of o) ++ vs)))))
    (spread c.args.schema.now no_inner c.args.kind (rec_of c.args.rec.now))) (sym c.take.ensures.value)
    ∙ shown_list c.args.schema.now c.args.kind (elements (option_map val_of c.take.result)) (map val_of c.in-Ok.many)
    (spread c.args.schema.now no_inner c.args.kind (rec_of c.args.rec.now))
    (rw c.list_held.ensures at c.in-Ok.ensures.found c.args.schema.now)
    ∙ ap (λ (x : Option Val). Some x)
    (sym (c.unless_default.ensures ∙ ap (λ (x : Val). shown c.args.schema.now false c.args.kind (Some x)) (val_of-Many c.in-Ok.many)))
