use Rattle.std.proofs.Common.{◌≡◌, ◌∙◌, ◌∷◌, ◌++◌, [], ap, true, refl, rules}
use Rattle.protox_file_sources.specs.Metadata.{Metadata}
use Rattle.protox_file_sources.specs.Told.{Entry}
use Rattle.pbx_link.specs.Pool.{IsRefused}
use Rattle.protox_compile_walk.proofs.Recorded.{IsFinished, finished, records_known, refused_is_unlinked}
use Rattle.protox_compile_walk.proofs.finished.FinishedFiles.finish.Goals as goal

known_of : (c : goal.In-Ok) → Metadata
known_of c = record { name = c.args.frame.name; path = c.args.frame.entry.path; is_import = true }

one_more : (c : goal.In-Ok) → IsFinished c.self.inside.known c.add_known.new.known c.self.inside.pool c.add_file_descriptor_proto.new.self c.args.frame
unfolding known_of
one_more c =
    let given : c.into_file_descriptor_proto.result ≡ c.args.frame.entry.file = c.into_file_descriptor_proto.ensures ∙ ap (λ (e : Entry). e.file) c.into_parts-name.ensures.file in
    let put : c.add_known.new.known ≡ c.self.inside.known ++ record { name = c.into_parts-name.result.0; path = c.into_parts-name.result.1.path; is_import = true } ∷ [] = search rules in
    let added : c.add_known.new.known ≡ c.self.inside.known ++ known_of c ∷ [] = rw (← c.into_parts-name.ensures.name, ← c.into_parts-name.ensures.file) put in
    finished c.self.inside.known c.add_known.new.known c.self.inside.pool c.add_file_descriptor_proto.new.self (known_of c) c.into_file_descriptor_proto.result c.args.frame
    c.self.invariant added c.in-Ok.ensures.added given refl c.in-Ok.ensures.accepted c.into_parts-name.ensures.declared

pub invariant_of-self-in-Ok : goal.invariant_of-self-in-Ok
invariant_of-self-in-Ok c = (one_more c).recorded

pub returns-in-Ok-clause-ok : goal.returns-in-Ok-clause-ok
returns-in-Ok-clause-ok c = rw (← c.self.view_is) (one_more c).done

pub returns-in-Ok-clause-linked : goal.returns-in-Ok-clause-linked
returns-in-Ok-clause-linked c = rw (← c.self.view_is) (one_more c).linked_is

pub returns-in-Err-clause-refused : goal.returns-in-Err-clause-refused
returns-in-Err-clause-refused c =
    let given : c.into_file_descriptor_proto.result ≡ c.args.frame.entry.file = c.into_file_descriptor_proto.ensures ∙ ap (λ (e : Entry). e.file) c.into_parts-name.ensures.file in
    let refused : IsRefused c.self.inside.pool c.args.frame.entry.file c.in-Err.error = rw given at c.in-Err.ensures.refused in
    rw (← c.self.view_is, records_known c.self.inside.known c.self.inside.pool c.self.invariant, c.from-in-Err.ensures) (refused_is_unlinked c.self.inside.pool c.args.frame.entry.file c.in-Err.error refused)

pub invariant_of-self-in-Err : goal.invariant_of-self-in-Err
invariant_of-self-in-Err c =
    let put : c.add_known.new.known ≡ c.self.inside.known ++ record { name = c.into_parts-name.result.0; path = c.into_parts-name.result.1.path; is_import = true } ∷ [] = search rules in
    let back : c.remove_last.new.self ≡ c.self.inside.known = c.remove_last.ensures c.self.inside.known _ put in
    rw (back, c.in-Err.ensures.unchanged) c.self.invariant

pub returns-in-Err-clause-err : goal.returns-in-Err-clause-err
returns-in-Err-clause-err c =
    let put : c.add_known.new.known ≡ c.self.inside.known ++ record { name = c.into_parts-name.result.0; path = c.into_parts-name.result.1.path; is_import = true } ∷ [] = search rules in
    let back : c.remove_last.new.self ≡ c.self.inside.known = c.remove_last.ensures c.self.inside.known _ put in
    rw (back, c.in-Err.ensures.unchanged) c.self.view_is
