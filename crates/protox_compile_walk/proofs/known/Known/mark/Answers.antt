use Rattle.std.proofs.Common.{◌≡◌, ◌∙◌, ap, sym, length}
use Rattle.std.specs.Prelude.{Some, None}
use Rattle.std.specs.Vec.{with_items}
use Rattle.std.proofs.lemmas.List.{with_items_is}
use Rattle.protox_compile_walk.specs.Indexes.{first_index}
use Rattle.protox_compile_walk.specs.Compiled.{opened_at, names_known}
use Rattle.protox_compile_walk.proofs.Found.{within, opened_by, opened_found, same_names, same_length}
use Rattle.protox_compile_walk.proofs.known.Known.mark.Goals as goal

pub set_opened-requires : goal.set_opened-requires
set_opened-requires c =
    let found : first_index c.args.name.now (names_known c.self.inside.files.items) ≡ Some c.in-Some.index = sym (c.in-Some.ensures ∙ c.self.invariant c.args.name.now) in
    rw c.deref_mut.ensures.value (within c.args.name.now c.self.inside.files.items c.in-Some.index found)

pub invariant_of-self : goal.invariant_of-self
invariant_of-self c =
    let set : c.set_opened.new.files ≡ opened_at c.in-Some.index c.self.inside.files.items = c.set_opened.ensures ∙ ap (opened_at c.in-Some.index) c.deref_mut.ensures.value in
    let long : length c.set_opened.new.files ≡ c.self.inside.files.len = ap length set ∙ same_length c.in-Some.index c.self.inside.files.items ∙ sym c.self.inside.files.ok.0 in
    let items : (with_items c.self.inside.files c.set_opened.new.files).items ≡ opened_at c.in-Some.index c.self.inside.files.items = with_items_is c.self.inside.files c.set_opened.new.files long ∙ set in
    rw (items, same_names) c.self.invariant

pub returns-in-Some : goal.returns-in-Some
returns-in-Some c =
    let found : first_index c.args.name.now (names_known c.self.inside.files.items) ≡ Some c.in-Some.index = sym (c.in-Some.ensures ∙ c.self.invariant c.args.name.now) in
    let set : c.set_opened.new.files ≡ opened_at c.in-Some.index c.self.inside.files.items = c.set_opened.ensures ∙ ap (opened_at c.in-Some.index) c.deref_mut.ensures.value in
    let long : length c.set_opened.new.files ≡ c.self.inside.files.len = ap length set ∙ same_length c.in-Some.index c.self.inside.files.items ∙ sym c.self.inside.files.ok.0 in
    let items : (with_items c.self.inside.files c.set_opened.new.files).items ≡ opened_at c.in-Some.index c.self.inside.files.items = with_items_is c.self.inside.files c.set_opened.new.files long ∙ set in
    rw (items, ← c.self.view_is) (ap (opened_by c.self.inside.files.items) (sym found) ∙ opened_found c.args.name.now c.self.inside.files.items)

pub returns-in_default : goal.returns-in_default
returns-in_default c =
    let none : first_index c.args.name.now (names_known c.self.inside.files.items) ≡ None = sym (c.in_default.ensures ∙ c.self.invariant c.args.name.now) in
    rw (← c.self.view_is) (ap (opened_by c.self.inside.files.items) (sym none) ∙ opened_found c.args.name.now c.self.inside.files.items)
