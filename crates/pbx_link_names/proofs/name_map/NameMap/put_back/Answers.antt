use Rattle.std.proofs.Common.{Some, subst, refl}
use Rattle.std.specs.Option.{IsSome}
use Rattle.std.proofs.lemmas.Map.Text.{btree_map_updates_text}
use Rattle.pbx_link_names.specs.Names.{under}
use Rattle.pbx_link_names.proofs.Values.{not_none}
use Rattle.pbx_link_names.proofs.name_map.NameMap.put_back.Goals as goal

pub returns-in-Some : goal.returns-in-Some
unfolding under
returns-in-Some g c =
    btree_map_updates_text c.args.name.now c.args.self.now.values (c.get_mut.follows.lender c.args.value) (Some c.args.value)
    ((c.get_mut.follows.holds c.args.value).3 (subst IsSome c.in-Some.ensures.value refl))

pub returns-in_default : goal.returns-in_default
unfolding under
returns-in_default g c = not_none (under c.args.name.now c.args.self.now) c.in_default.ensures.value c.requires
