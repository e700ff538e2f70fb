use Rattle.std.proofs.Common.{true, arith}
use Rattle.pbx_content.specs.Shape.{fields_of}
use Rattle.pbx_content_codec.specs.View.{content_of}
use Rattle.pbx_content_codec.proofs.Decoded.{start_ready, with_start, told_whole}
use Rattle.pbx_content_codec.proofs.decoding.decode_with.Goals as goal

pub merge_bytes-requires-clause-ready : goal.merge_bytes-requires-clause-ready
merge_bytes-requires-clause-ready c =
    start_ready true c.args.schema.now c.args.messages (fields_of c.args.schema.now c.args.type_at) (content_of c.new-contents.result) c.new-contents.ensures

pub returns-in-Ok-clause-found : goal.returns-in-Ok-clause-found
returns-in-Ok-clause-found c =
    with_start c.args.schema.now c.args.groups c.args.messages (fields_of c.args.schema.now c.args.type_at) c.args.bytes.now
    (content_of c.new-contents.result) (content_of c.merge_bytes.new.into)
    c.new-contents.ensures c.in-Ok.ensures.found

pub returns-in-Err-clause-fault : goal.returns-in-Err-clause-fault
returns-in-Err-clause-fault c =
    told_whole c.args.schema.now c.args.groups c.args.messages (fields_of c.args.schema.now c.args.type_at) c.args.bytes.now c.in-Err.fault _
    (omega arith) c.in-Err.ensures.fault
