use Rattle.std.proofs.Common.{◌≡◌, ℕ, List, ◌-◌, length, drop, take, Some, refl, sym, ap, ◌∙◌, inr, arith}
use Rattle.std.proofs.lemmas.List.{take_all, length-drop}
use Rattle.pbx_text.proofs.Groups.{end_fails, ends, group_goes, group_fails, one_fails, three_are, two_are}
use Rattle.pbx_text.proofs.base_64.decoded.Goals as goal

pub returns-in-len1-clause-err : goal.returns-in-len1-clause-err
returns-in-len1-clause-err c = inr (refl, one_fails _ c.args.symbols.now _ c.groups.rest.now c.in-len1.len_at_least c.in-len1.len_below c.groups.invariant)

pub returns-in_default-three_bytes-clause-err : goal.returns-in_default-three_bytes-clause-err
returns-in_default-three_bytes-clause-err c =
    inr (refl, group_fails _ c.args.symbols.now _ c.groups.rest.now c.in-len4-up.len_at_least c.groups.invariant c.in_default-three_bytes.ensures)

pub groups-preserved : goal.groups-preserved
groups-preserved c =
    let rest : List ℕ = c.groups.rest.now in
    let group = c.in-Some-three_bytes.group in
    let goes = group_goes _ c.args.symbols.now _ rest group c.in-len4-up.len_at_least c.groups.invariant c.in-Some-three_bytes.ensures in
    let whole : take (length rest - 4) (drop 4 rest) ≡ drop 4 rest = take_all _ _ (omega (arith, length-drop 4 rest)) in
    rw (whole, c.in_ok-append-in-len4-up.ensures.ok) goes

pub returns-in_default-clause-err : goal.returns-in_default-clause-err
returns-in_default-clause-err c =
    let are = two_are c.groups.rest.now c.in-len2.len_at_least c.in-len2.len_below in
    inr (refl, end_fails _ c.args.symbols.now _ c.groups.rest.now _ c.groups.invariant are c.in_default.ensures)

pub returns-in-len2-clause-ok : goal.returns-in-len2-clause-ok
returns-in-len2-clause-ok c =
    let are = two_are c.groups.rest.now c.in-len2.len_at_least c.in-len2.len_below in
    let end = ends _ c.args.symbols.now _ c.groups.rest.now _ c.in-Some.group c.groups.invariant are c.in-Some.ensures in
    end ∙ ap Some (sym c.in_ok-append-in-len2.ensures.ok)

pub returns-in_default-two_bytes-clause-err : goal.returns-in_default-two_bytes-clause-err
returns-in_default-two_bytes-clause-err c =
    let are = three_are c.groups.rest.now c.in-len3.len_at_least c.in-len3.len_below in
    inr (refl, end_fails _ c.args.symbols.now _ c.groups.rest.now _ c.groups.invariant are c.in_default-two_bytes.ensures)

pub returns-in-len3-clause-ok : goal.returns-in-len3-clause-ok
returns-in-len3-clause-ok c =
    let are = three_are c.groups.rest.now c.in-len3.len_at_least c.in-len3.len_below in
    let end = ends _ c.args.symbols.now _ c.groups.rest.now _ c.in-Some-two_bytes.group c.groups.invariant are c.in-Some-two_bytes.ensures in
    end ∙ ap Some (sym c.in_ok-append-in-len3.ensures.ok)
