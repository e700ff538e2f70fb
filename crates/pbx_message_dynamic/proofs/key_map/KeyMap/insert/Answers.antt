use Rattle.std.proofs.Common.{List, sym, subst, arith, ◌≡◌}
use Rattle.pbx_content_codec.specs.declared.key.MapKey.{MapKey}
use Rattle.pbx_message_dynamic.specs.Keys.{IsInKeyOrder}
use Rattle.pbx_message_dynamic.proofs.KeyPlaces.{found_within, gap_within, found_set, gap_filled, ordered_with, ordered_put}
use Rattle.pbx_message_dynamic.proofs.key_map.KeyMap.insert.Goals as goal

pub index_mut-requires : goal.index_mut-requires
index_mut-requires g c =
    let found = rw c.as_slice.ensures.value at c.in-Ok.ensures.found in
    let within = found_within c.args.key c.in-Ok.at c.self.inside.entries.items found in
    omega (arith, within, c.self.inside.entries.ok.0)

pub invariant_of-self : goal.invariant_of-self
invariant_of-self g c =
    let found = rw c.as_slice.ensures.value at c.in-Ok.ensures.found in
    subst (λ (es : List (MapKey × g.row.T.Denot)). IsInKeyOrder es)
    (sym (found_set c.args.key c.in-Ok.at c.args.value c.self.inside.entries.items found))
    (ordered_with c.args.key c.args.value c.self.inside.entries.items c.self.invariant)

pub add_at-requires : goal.add_at-requires
add_at-requires g c =
    let missing = rw c.as_slice.ensures.value at c.in-Err.ensures.missing in
    gap_within c.args.key c.in-Err.at c.self.inside.entries.items missing

pub invariant_of-self-in-Err : goal.invariant_of-self-in-Err
invariant_of-self-in-Err g c =
    let missing = rw c.as_slice.ensures.value at c.in-Err.ensures.missing in
    ordered_put c.args.key c.in-Err.at c.args.value c.self.inside.entries.items c.add_at.new.entries.items
    (λ (back : MapKey × g.row.T.Denot). back ≡ (c.args.key, c.args.value)) c.add_at.result missing c.self.invariant c.add_at.ensures

pub returns-in-Ok : goal.returns-in-Ok
returns-in-Ok g c =
    let found = rw c.as_slice.ensures.value at c.in-Ok.ensures.found in
    rw (← c.self.view_is) (found_set c.args.key c.in-Ok.at c.args.value c.self.inside.entries.items found)

pub returns-in-Err : goal.returns-in-Err
returns-in-Err g c =
    let missing = rw c.as_slice.ensures.value at c.in-Err.ensures.missing in
    rw (← c.self.view_is, gap_filled c.args.key c.in-Err.at c.args.value c.self.inside.entries.items missing) c.add_at.ensures
