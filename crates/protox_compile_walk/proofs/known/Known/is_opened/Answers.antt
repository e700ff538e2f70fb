use Rattle.std.proofs.Common.{◌≡◌, ◌∙◌, sym, ap}
use Rattle.std.specs.Prelude.{Some, None}
use Rattle.protox_compile_walk.specs.Indexes.{first_index}
use Rattle.protox_compile_walk.specs.Compiled.{names_known}
use Rattle.protox_compile_walk.proofs.Found.{within, is_opened_by, is_opened_found}
use Rattle.protox_compile_walk.proofs.known.Known.is_opened.Goals as goal

pub is_opened_at-requires : goal.is_opened_at-requires
is_opened_at-requires c =
    let found : first_index c.args.name.now (names_known c.self.inside.files.items) ≡ Some c.in-Some.index = sym (c.in-Some.ensures ∙ c.self.invariant c.args.name.now) in
    rw c.as_slice.ensures.value (within c.args.name.now c.self.inside.files.items c.in-Some.index found)

pub returns-in-Some : goal.returns-in-Some
returns-in-Some c =
    let found : first_index c.args.name.now (names_known c.self.inside.files.items) ≡ Some c.in-Some.index = sym (c.in-Some.ensures ∙ c.self.invariant c.args.name.now) in
    rw (← c.self.view_is) (rw c.as_slice.ensures.value at c.is_opened_at.ensures ∙ ap (is_opened_by c.self.inside.files.items) (sym found) ∙ sym (is_opened_found c.args.name.now c.self.inside.files.items))

pub returns-in-None : goal.returns-in-None
returns-in-None c =
    let none : first_index c.args.name.now (names_known c.self.inside.files.items) ≡ None = sym (c.in-None.ensures ∙ c.self.invariant c.args.name.now) in
    rw (← c.self.view_is) (ap (is_opened_by c.self.inside.files.items) (sym none) ∙ sym (is_opened_found c.args.name.now c.self.inside.files.items))
