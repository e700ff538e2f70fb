use Rattle.pbx_content.specs.Content.{IsAscending, fields}
use Rattle.pbx_content.specs.Shape.{fields_of}
use Rattle.pbx_content_codec.specs.View.{content_of, val_of}
use Rattle.pbx_message_laws.proofs.Changed.{sound_ascends}
use Rattle.pbx_message_laws.proofs.Listed.{type_ascends}
use Rattle.pbx_message_dynamic.proofs.KnownMembers.{member_put, member_known, alone_put, alone_known_on}
use Rattle.pbx_message_dynamic.proofs.putting.put_value.Goals as goal

pub returns-in-Ok-clause-ok : goal.returns-in-Ok-clause-ok
returns-in-Ok-clause-ok c =
    let shape = c.args.schema.now in
    let t = c.args.place in
    member_put shape (fields_of shape t) c.args.field.now (val_of c.args.held) (content_of c.args.tree.now) (content_of c.put_member.new.tree)
    (sound_ascends shape t (content_of c.args.tree.now) c.requires.sound) c.in-Some.oneof c.in-Ok.known c.put_member.result
    (type_ascends shape t (c.shape-proper.ensures.proper.types t)) c.in-Some.is c.in-Ok.ensures.known c.put_member.ensures.ok

pub returns-in-Ok-clause-known : goal.returns-in-Ok-clause-known
returns-in-Ok-clause-known c =
    let shape = c.args.schema.now in
    let t = c.args.place in
    let ascends : IsAscending (fields (content_of c.args.tree.now)) = sound_ascends shape t (content_of c.args.tree.now) c.requires.sound in
    member_known shape (fields_of shape t) c.args.field.now (val_of c.args.held) (content_of c.args.tree.now) (content_of c.put_member.new.tree)
    ascends c.in-Some.oneof c.in-Ok.known c.put_member.new.members c.put_member.result c.requires.own c.in-Some.is c.in-Ok.ensures.known
    (member_put shape (fields_of shape t) c.args.field.now (val_of c.args.held) (content_of c.args.tree.now) (content_of c.put_member.new.tree) ascends
    c.in-Some.oneof c.in-Ok.known c.put_member.result (type_ascends shape t (c.shape-proper.ensures.proper.types t)) c.in-Some.is c.in-Ok.ensures.known
    c.put_member.ensures.ok)
    c.put_member.ensures.noted c.put_member.ensures.err c.put_member.ensures.same

pub returns-in-None-clause-ok : goal.returns-in-None-clause-ok
returns-in-None-clause-ok c =
    let shape = c.args.schema.now in
    let t = c.args.place in
    alone_put shape (fields_of shape t) c.args.field.now (val_of c.args.held) (content_of c.args.tree.now) (content_of c.put_own.new.tree)
    (sound_ascends shape t (content_of c.args.tree.now) c.requires.sound) c.put_own.result c.in-None.is c.put_own.ensures.ok

pub returns-in-None-clause-known : goal.returns-in-None-clause-known
returns-in-None-clause-known c =
    let shape = c.args.schema.now in
    let t = c.args.place in
    let ascends : IsAscending (fields (content_of c.args.tree.now)) = sound_ascends shape t (content_of c.args.tree.now) c.requires.sound in
    alone_known_on shape (fields_of shape t) c.args.field.now (val_of c.args.held) (content_of c.args.tree.now) (content_of c.put_own.new.tree)
    ascends c.args.members.now c.put_own.result c.requires.own c.in-None.is c.requires.known
    (alone_put shape (fields_of shape t) c.args.field.now (val_of c.args.held) (content_of c.args.tree.now) (content_of c.put_own.new.tree) ascends
    c.put_own.result c.in-None.is c.put_own.ensures.ok)
    c.put_own.ensures.err
