use Rattle.std.proofs.Common.{ℕ, Ok, Err, sym, rules}
use Rattle.std.proofs.lemmas.List.Sorted.{answers_always}
use Rattle.pbx_content.proofs.SchemaIndex.{searched, field_found, field_absent}
use Rattle.pbx_content.proofs.index.field_in.Goals as goal

pub returns-in-Ok : goal.returns-in-Ok
returns-in-Ok c =
    let by_key = c.in-Ok.ensures.position (λ (e : ℕ × ℕ). e.0) (answers_always _ _ _ (λ f a r g called. search rules)) in
    let found = (searched c.args.entries.now c.args.number (Ok c.in-Ok.at) c.requires.index.ascending c.in-Ok.ensures.bound by_key).found in
    field_found c.args.fields.now c.args.entries.now c.args.number c.in-Ok.at c.get.result c.requires.proper c.requires.index found.0 found.1
    c.get.ensures.lookup.0 c.get.ensures.lookup.1

pub returns-in-Err : goal.returns-in-Err
returns-in-Err c =
    let by_key = c.in-Err.ensures.position (λ (e : ℕ × ℕ). e.0) (answers_always _ _ _ (λ f a r g called. search rules)) in
    let absent = (searched c.args.entries.now c.args.number (Err c.in-Err.field-0) c.requires.index.ascending c.in-Err.ensures.bound by_key).absent in
    sym (field_absent c.args.fields.now c.args.entries.now c.args.number c.requires.proper c.requires.index absent)
