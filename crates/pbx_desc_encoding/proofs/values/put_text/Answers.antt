use Rattle.std.proofs.Common.{◌∙◌}
use Rattle.pbx_desc_encoding.proofs.Places.{text_written, no_text}
use Rattle.pbx_desc_encoding.proofs.Told.{same_utf8}
use Rattle.pbx_desc_encoding.proofs.values.put_text.Goals as goal

pub returns-in_ok-put_payload : goal.returns-in_ok-put_payload
returns-in_ok-put_payload c =
    rw c.in-Some.is
    (text_written c.args.number c.in-Some.text c.as_bytes.result.now c.args.out.now.items c.put_payload.new.out.items c.in_ok-put_payload.ensures (c.as_bytes.ensures.value ∙ c.as_str.ensures)
    (same_utf8 _ _ c.as_str.ensures c.as_str.utf8))

pub returns-in_default : goal.returns-in_default
returns-in_default c = rw c.in_default.is (no_text c.args.number c.args.out.now.items)
