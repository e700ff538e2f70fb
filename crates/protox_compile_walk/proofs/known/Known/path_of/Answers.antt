use Rattle.std.proofs.Common.{◌≡◌, ◌∙◌, sym, ap}
use Rattle.std.specs.Prelude.{Some, None}
use Rattle.protox_compile_walk.specs.Indexes.{first_index}
use Rattle.protox_compile_walk.specs.Compiled.{names_known}
use Rattle.protox_compile_walk.proofs.Found.{within, path_by, path_found}
use Rattle.protox_compile_walk.proofs.known.Known.path_of.Goals as goal

pub path_at-requires : goal.path_at-requires
path_at-requires c =
    let found : first_index c.args.name.now (names_known c.self.inside.files.items) ≡ Some c.in-Some.index = sym (c.in-Some.ensures ∙ c.self.invariant c.args.name.now) in
    rw c.as_slice.ensures.value (within c.args.name.now c.self.inside.files.items c.in-Some.index found)

pub returns-in-Some : goal.returns-in-Some
returns-in-Some c =
    let found : first_index c.args.name.now (names_known c.self.inside.files.items) ≡ Some c.in-Some.index = sym (c.in-Some.ensures ∙ c.self.invariant c.args.name.now) in
    rw (← c.self.view_is) (rw c.as_slice.ensures.value at c.path_at.ensures ∙ ap (path_by c.self.inside.files.items) (sym found) ∙ sym (path_found c.args.name.now c.self.inside.files.items))

pub returns-in-None : goal.returns-in-None
returns-in-None c =
    let none : first_index c.args.name.now (names_known c.self.inside.files.items) ≡ None = sym (c.in-None.ensures ∙ c.self.invariant c.args.name.now) in
    rw (← c.self.view_is) (ap (path_by c.self.inside.files.items) (sym none) ∙ sym (path_found c.args.name.now c.self.inside.files.items))
