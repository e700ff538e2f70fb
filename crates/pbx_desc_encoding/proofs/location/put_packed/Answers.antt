use Rattle.std.proofs.Common.{◌∙◌, refl}
use Rattle.pbx_desc_encoding.proofs.Places.{on_ok, packed_written, none_packed}
use Rattle.pbx_desc_encoding.proofs.location.put_packed.Goals as goal

pub returns-then-is_empty : goal.returns-then-is_empty
returns-then-is_empty c = none_packed c.args.number c.args.numbers.now c.args.out.now.items (c.if-is_empty.ensures.0 refl)

pub returns : goal.returns
returns c =
    on_ok c.put_payload.result (packed_written c.args.number c.args.numbers.now c.clear.new.self.items c.as_slice.result.now c.args.out.now.items c.put_payload.new.out.items
    (λ e. let h = c.if-is_empty.ensures.1 e in absurd cc) c.clear.ensures.items (c.as_slice.ensures.value ∙ c.in_ok-put_numbers.ensures.text) c.in_ok-put_numbers.ensures.sound)
    c.put_payload.ensures
