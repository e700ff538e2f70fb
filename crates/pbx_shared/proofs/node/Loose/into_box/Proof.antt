-- What a box taken apart owns is what `from_raw` asks.
use Rattle.pbx_shared.proofs.Names.{ !, Env, Fn, List, Stays, Val, [], after, alloc_all, and_then, ap, at_ret, await, blocks, by, drop, emp, enter, env, exec, fact, fact_i, first, fjoin, fld, flft, free_all, fsplit, ftrue, get, get_in, heard, inst_fn, join, later, leaves, look_at, move, no, no_more, nothing, of_opd, owns, param, pass_all, plain, prop, ptr_val, qed, raw, refl, returns, sets, split, stay_dropped, stop, sub, tables, types_at, use0, use1, walk_of, whole, ‵, ◌$◌, ◌∵◌, ◌∷◌, ◌≡◌, ◌⊑◌, ◌⊛◌}
use Rattle.std.proofs.Common.{◌++◌}
use Rattle.std.proofs.BoxSteps.Form.{B, Bx, args}
use denote.Triple.Clauses.{lasts}
use Rattle.std.proofs.boxed.Box.TheLaws.{the_row_laws}
use Rattle.std.proofs.raw_atomic.Walks.{proved_at}
use prog.Wp.{WpFn}
use base.Logic.{id⊢}
use types.Kit.{feq_i, regoal, some, pick, split3}
use types.ByLocal.{lands_last}
use denote.Param.{layout}
use denote.Param.Laws.{param_laws}
use denote.Laws.{Is, shows}
use denote.Steps.{peeks}
use denote.Triple.Call.{calls_at_last}
use denote.Triple.Spec.{triple_of}
use denote.Triple.Table.{framed}
use Rattle.std.proofs.alloc.Calls.{Goes-blank}
use Rattle.std.specs.contracts.boxed.Box.from_raw as g
use Rattle.std.proofs.boxed.Box.from_raw.Met.{met}
use Rattle.pbx_shared.proofs.Loosened.{Row, fits_pair, tightened}
use Rattle.pbx_shared.proofs.Word.{fits_pointer}
use Rattle.pbx_shared.specs.contracts.node.Loose.into_box as f
use Rattle.pbx_shared.specs.contracts.node.Loose.into_box.Key.{name as #self}
use Rattle.pbx_shared.proofs.node.Loose.into_box.Statement.{statement}
use Rattle.pbx_shared.proofs.node.Loose.into_box.Code as code

pub into_box_spec : {M : Type 1} → statement M
into_box_spec 𝓤 𝓛 𝓜 𝓡 wired X Z L LZ gh dict drops bound glue =
    let E : Bx = record { row = X; laws = L; al = record { row = Z; laws = LZ; g = gh; d = dict; drops = drops } } in
    let body : Fn = inst_fn (args E) code.function in
    let 𝓣 = tables 𝓤 𝓛.H 𝓜 𝓡 𝓡.env in
    let ended = f.ended X Z gh dict drops in
    let c = f.clauses X Z gh dict drops 𝓛 𝓜.mem 𝓡.returns in
    let slot = plain {n = 2} (λ _. Row (param 0 X) (param 1 Z) gh) in
    let stayed : Stays ended.signature.params ended.kept = (stay_dropped slot no, tt) in
    proved_at 𝓛 ended stayed c 𝓜 𝓡 (Goes-blank 𝓛 2 slot no (λ κs x w. tt), tt)
    (#self (args E)) body (code.unfolded 𝓤 𝓛.H 𝓜 𝓡 wired (X, (Z, tt)) dict drops) (λ y are.
    let Post : Val → _ = (walk_of 𝓛 ended stayed c).post y in
    let d = y.0.3.0 in
    let κs = y.0.0 in
    let qs = y.0.1 in
    qed 𝓛 (((‵ (flft κs.0 qs.0) ⊛ ‵ (flft κs.1.0 qs.1.0) ⊛ ‵ ftrue) ⊛ ‵ (owns (types_at ended.signature.params κs) y.0.3 y.0.4)) ∷ (raw (fact 𝓤 (κs.0 ⊑ X.lives)) ⊛ raw (fact 𝓤 (κs.1.0 ⊑ Z.lives)) ⊛ ‵ ftrue) ∷ []) ∵
    move ! (1 ∷ []) $ split3 ! $ heard ! _ (λ lx. heard ! _ (λ lz. drop ! $ split ! $ move ! (1 ∷ []) $ fsplit ! $ tightened E.al (param 0 X) ! d y.0.4.0 (λ h is fits. move ! (2 ∷ []) $ drop ! $
    -- [the block; what the allocator owns; the tokens]
    regoal ! (λ (us : List Val). prop (WpFn 𝓤 𝓛.H 𝓣.C 𝓣.Λ body us Post)) (ap (λ (us : List Val). us ++ []) is) refl $
    enter ! _ _ _ _ _ $ alloc_all ! (λ l. pass_all ! refl (fits_pair (layout Z) d.at h fits, tt) $
    let En : Env 𝓤 𝓛.H = env body.locals l in
    let G = triple_of 𝓛 (g.signature X Z gh dict drops) (g.spec X Z gh dict drops 𝓛 𝓜.mem 𝓡.returns) in
    let z : G.Ghost = ((κs, qs, tt, (d.alloc, (d.at, tt)), (h ∷ [], (ptr_val d.at ∷ [], tt))), d.value) in
    sets ! (of_opd ! (get_in ! (fld ! refl (stop !)) (sub ! 0 refl (whole !)))) refl (fits_pointer d.at) $ sets ! (of_opd ! (get_in ! (fld ! refl (stop !)) (sub ! 1 refl (whole !)))) refl fits $
    first ! $ blocks ! $ sets ! (of_opd ! (get ! refl)) refl fits $
    use0 𝓛 (raw (fact 𝓤 (κs.1.0 ⊑ Z.lives))) (fact_i 𝓤 _ (emp 𝓤) lz) $ join ! $ use0 𝓛 (raw (fact 𝓤 (κs.0 ⊑ X.lives))) (fact_i 𝓤 _ (emp 𝓤) lx) $ join ! $ move ! (1 ∷ []) $
    nothing ! $ feq_i ! (List Val) (ptr_val d.at ∷ []) (ptr_val d.at ∷ []) refl $ fjoin ! $ move ! (1 ∷ 0 ∷ []) $ fjoin ! $ move ! (2 ∷ 0 ∷ []) $ join ! $ join ! $
    use1 𝓛 (raw (G.pre z)) (id⊢ 𝓤 _) $
    calls_at_last ! (framed 𝓤 𝓛.H 𝓜 𝓣) G (met 𝓤 𝓛 𝓜 𝓡 (code.calls-std::boxed::Box::from_raw 𝓡.env wired) X Z L LZ gh dict drops bound glue) z
    (and_then ! (get ! refl) (and_then ! (get ! refl) (no_more !))) (λ v.
    use1 𝓛 (later (some (λ (r : (B E).Denot). ((‵ (flft κs.0 qs.0) ⊛ ‵ (flft κs.1.0 qs.1.0) ⊛ ‵ ftrue) ⊛ ‵ ((B E).own_val r (v ∷ []))) ⊛ some (λ (ws : Unit {0} × (Unit {0} × Unit {0})). ‵ (lasts (g.ended X Z gh dict drops) κs z.0.3 ws) ⊛ raw (fact 𝓤 (r.value ≡ d.value)) ⊛ raw (fact 𝓤 (r.alloc ≡ d.alloc)))))) (id⊢ 𝓤 _) $
    await ! tt $ pick ! (λ r. split ! $ split ! $ move ! (1 ∷ []) $ peeks ! (B E) (Is (B E)) (shows 𝓛 (B E)) r (v ∷ []) (λ its.
    let typed = ((the_row_laws (param 0 X) (param 1 Z) gh (param_laws 0 X L) (param_laws 1 Z LZ)).lawful 𝓛).typed r (v ∷ []) its in
    lands_last ! refl typed.0 $ exec ! 𝓣.C 𝓣.Λ En (after 3 body.body) (at_ret En Post) $ sets ! (of_opd ! (get ! refl)) refl typed.0 $
    move ! (2 ∷ []) $ pick ! (λ ws. split3 ! $ drop ! $ heard ! _ (λ same. heard ! _ (λ _. returns ! (look_at ! 0 refl) $ free_all ! refl $
    use0 𝓛 (raw (fact 𝓤 (r.value ≡ d.value))) (fact_i 𝓤 _ (emp 𝓤) same) $ nothing ! $ nothing ! $ fjoin ! $ move ! (3 ∷ 0 ∷ 2 ∷ []) $
    by ! (leaves 𝓛 ended stayed c y v r ((tt, (tt, tt)), tt) (tt, tt)))))))))))))
