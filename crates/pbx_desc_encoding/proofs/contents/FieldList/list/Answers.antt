use Rattle.std.proofs.Common.{[], map, refl}
use Rattle.pbx_content.specs.declared.shape.Cardinality.TheVariants.{Repeated}
use Rattle.pbx_content_codec.specs.View.{val_of}
use Rattle.pbx_desc_encoding.proofs.Built.{put_list, put_nothing}
use Rattle.pbx_desc_encoding.proofs.contents.FieldList.list.Goals as goal

pub returns-in_ok-add : goal.returns-in_ok-add
returns-in_ok-add c k all =
    rw c.in_ok-add.ensures.ok
    (put_list k c.args.number c.args.values (map val_of c.args.values) c.args.self.now.list refl all (λ e. let h = c.if-not-is_empty.ensures.1 e in absurd cc))

pub returns-else-not-is_empty : goal.returns-else-not-is_empty
returns-else-not-is_empty c k all = rw (c.if-not-is_empty.ensures.0 refl) (put_nothing Repeated k c.args.number c.args.self.now.list ([], refl, tt))
