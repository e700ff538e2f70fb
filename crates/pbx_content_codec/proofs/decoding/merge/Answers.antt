use Rattle.std.proofs.Common.{refl, ◌∙◌, inl, arith}
use Rattle.pbx_content.specs.Shape.{fields_of}
use Rattle.pbx_content_codec.specs.View.{content_of}
use Rattle.pbx_content_codec.proofs.Ready.{ready_unless, onto_unless}
use Rattle.pbx_content_codec.proofs.Decoded.{told_whole, told_merged}
use Rattle.pbx_content_codec.proofs.decoding.merge.Goals as goal

pub merge_bytes-requires-clause-ready : goal.merge_bytes-requires-clause-ready
merge_bytes-requires-clause-ready c =
    (ready_unless c.is_stable-stable.result c.args.schema.now 100 (fields_of c.args.schema.now c.args.type_at) (content_of c.args.old.now) (content_of
    c.in-Ok.contents) c.shape-proper.ensures.proper (inl (c.args.type_at, refl)) c.is_stable-stable.ensures c.in-Ok.ensures).0

pub returns-in-Ok-merge_bytes-clause-merged : goal.returns-in-Ok-merge_bytes-clause-merged
returns-in-Ok-merge_bytes-clause-merged c =
    onto_unless c.is_stable-stable.result c.args.schema.now 100 100 (fields_of c.args.schema.now c.args.type_at) (content_of c.args.old.now) (content_of
    c.in-Ok.contents) c.args.bytes.now c.shape-proper.ensures.proper (inl (c.args.type_at, refl)) c.is_stable-stable.ensures c.in-Ok.ensures
    ∙ c.in-Ok-merge_bytes.ensures.found

pub returns-in-Err-clause-fault : goal.returns-in-Err-clause-fault
returns-in-Err-clause-fault c =
    told_merged c.args.schema.now c.args.type_at (content_of c.args.old.now) c.args.bytes.now c.in-Err.fault
    (told_whole c.args.schema.now 100 100 (fields_of c.args.schema.now c.args.type_at) c.args.bytes.now c.in-Err.fault _ (omega arith) c.in-Err.ensures.fault)
