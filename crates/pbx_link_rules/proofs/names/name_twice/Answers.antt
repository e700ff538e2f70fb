use Rattle.std.proofs.Common.{◌||◌, ℕ, None, Some}
use Rattle.std.specs.Str.{bytes_eq}
use Rattle.std.proofs.lemmas.Result.{IfOk-weaker}
use Rattle.pbx_link_definitions.specs.Names.{among}
use Rattle.pbx_link_definitions.specs.Found.{IsIndex, is_earlier}
use Rattle.pbx_link_definitions.proofs.Indexes.{position_is_index, or_first, or_second}
use Rattle.pbx_link_rules.specs.Rules.{taken_names}
use Rattle.pbx_link_rules.proofs.names.name_twice.Goals as goal

pub returns-in-Some : goal.returns-in-Some
returns-in-Some g c =
    let names = c.args.names.now in
    let taken = among (taken_names (g.P.Pooled.files c.args.pool.now) c.args.file.now) in
    or_first (λ (i : ℕ). taken) (is_earlier bytes_eq names) names c.in-Some.index (position_is_index taken names (Some c.in-Some.index) c.in-Some.ensures)

pub returns-in-None : goal.returns-in-None
returns-in-None g c =
    let names = c.args.names.now in
    let taken = among (taken_names (g.P.Pooled.files c.args.pool.now) c.args.file.now) in
    IfOk-weaker c.repeated_name.result (IsIndex (is_earlier bytes_eq names) names) (IsIndex (λ i name. taken name || is_earlier bytes_eq names i name) names)
    (λ o h. or_second (λ (i : ℕ). taken) (is_earlier bytes_eq names) names o (position_is_index taken names None c.in-None.ensures) h) c.repeated_name.ensures
