use Rattle.pbx_content.specs.Shape.{fields_of}
use Rattle.pbx_content_codec.proofs.Decoded.{told_within}
use Rattle.pbx_content_codec.proofs.Single.{err_more}
use Rattle.pbx_content_codec.proofs.decoding.decode_within.Goals as goal

pub returns-clause-fault : goal.returns-clause-fault
returns-clause-fault c =
    err_more c.decode_with.result (λ e h. told_within c.args.schema.now c.args.levels
    (fields_of c.args.schema.now c.args.type_at) c.args.bytes.now e h) c.decode_with.ensures.fault
