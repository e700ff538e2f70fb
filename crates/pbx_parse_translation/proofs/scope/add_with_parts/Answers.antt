use Rattle.std.proofs.Common.{ℕ, List, [], ◌∷◌, ◌++◌, OnOk, append_assoc, subst}
use Rattle.std.specs.List.{flat_map}
use Rattle.pbx_parse_translation.specs.Scope.{Holds}
use Rattle.pbx_parse_translation.proofs.scope.add_with_parts.Goals as goal

pub returns : goal.returns
returns g c = λ before h.
    let name = c.args.name.now in
    let P : List (List ℕ) → Type 0 = λ names. OnOk c.add_all_names.result (Holds c.add_all_names.new.scope names) in
    subst P (append_assoc before (name ∷ []) (flat_map g.T.Names.names c.args.parts.now)) (c.add_all_names.ensures (before ++ name ∷ []) (c.in_ok-add.ensures before h))
