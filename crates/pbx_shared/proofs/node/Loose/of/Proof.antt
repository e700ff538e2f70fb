-- A box is taken apart by `into_raw_with_allocator`, and what comes out is put side by side again.
use Rattle.pbx_shared.proofs.Names.{ !, Args, Env, Fn, List, Ptr, Stays, Val, [], a_type, agg, alloc_all, and_then, ap, await, by, drop, emp, enter, env, fact, fact_i, fjoin, fld, flft, free_all, fsplit, ftrue, get, get_in, heard, inst_fn, join, later, leaves, look_at, move, no, no_more, nothing, of_opd, owns, param, pass_all, plain, prop, qed, raw, refl, returns, rewrite, sets, split, stay_dropped, stop, sub, tables, types_at, use0, use1, walk_of, whole, ‵, ◌$◌, ◌∵◌, ◌∷◌, ◌≡◌, ◌⊑◌, ◌⊛◌}
use Rattle.std.proofs.Common.{◌++◌}
use Rattle.std.proofs.BoxSteps.Form.{B, Bx, P, box_typed, word}
use Rattle.std.proofs.BoxSteps.Steps.{box_in, box_out}
use Rattle.std.proofs.alloc.Calls.{Goes-blank, handle_tells}
use Rattle.std.proofs.boxed.Box.into_raw_with_allocator.Met.{met}
use Rattle.std.proofs.raw_atomic.Walks.{proved_at}
use mir.Syntax.{dcons, dnil}
use prog.Wp.{WpFn}
use base.Logic.{id⊢}
use types.Kit.{some, feq_l, fpick, pick, regoal, split3}
use types.ByLocal.{lands_as}
use denote.Builtin.{RawPtr}
use denote.Param.{bounded, layout}
use denote.Steps.{only}
use denote.Struct.Tuple.{Tuple}
use denote.Triple.Call.{calls_at}
use denote.Triple.Clauses.{lasts}
use denote.Triple.Spec.{triple_of}
use denote.Triple.Table.{framed}
use Rattle.std.specs.Box.Ownership.{box_owns}
use Rattle.std.specs.contracts.boxed.Box.into_raw_with_allocator as g
use Rattle.pbx_shared.proofs.Loosened.{Row, fits_pair, loosened, pair, side_by_side}
use Rattle.pbx_shared.proofs.Word.{fits_pointer}
use Rattle.pbx_shared.specs.contracts.node.Loose.of as f
use Rattle.pbx_shared.specs.contracts.node.Loose.of.Key.{name as #self}
use Rattle.pbx_shared.proofs.node.Loose.of.Statement.{statement}
use Rattle.pbx_shared.proofs.node.Loose.of.Code as code

pub of_spec : {M : Type 1} → statement M
of_spec 𝓤 𝓛 𝓜 𝓡 wired X Z L LZ gh dict held drops bound glue_of glue =
    let E : Bx = record { row = X; laws = L; al = record { row = Z; laws = LZ; g = gh; d = dict; drops = drops } } in
    let args : Args = bounded (a_type ∷ a_type ∷ []) (X, (Z, tt)) (dcons dict (dcons held (dcons drops dnil))) in
    let body : Fn = inst_fn args code.function in
    let 𝓣 = tables 𝓤 𝓛.H 𝓜 𝓡 𝓡.env in
    let ended = f.ended X Z gh dict held drops in
    let c = f.clauses X Z gh dict held drops 𝓛 𝓜.mem 𝓡.returns in
    let slot = plain {n = 2} (λ _. B E) in
    let stayed : Stays ended.signature.params ended.kept = (stay_dropped slot no, tt) in
    proved_at 𝓛 ended stayed c 𝓜 𝓡 (Goes-blank 𝓛 2 slot no (λ κs x w. tt), tt)
    (#self args) body (code.unfolded 𝓤 𝓛.H 𝓜 𝓡 wired (X, (Z, tt)) dict held drops) (λ y are.
    let Post : Val → _ = (walk_of 𝓛 ended stayed c).post y in
    let d = y.0.3.0 in
    let κs = y.0.0 in
    let qs = y.0.1 in
    qed 𝓛 (((‵ (flft κs.0 qs.0) ⊛ ‵ (flft κs.1.0 qs.1.0) ⊛ ‵ ftrue) ⊛ ‵ (owns (types_at ended.signature.params κs) y.0.3 y.0.4)) ∷ (raw (fact 𝓤 (κs.0 ⊑ X.lives)) ⊛ raw (fact 𝓤 (κs.1.0 ⊑ Z.lives)) ⊛ ‵ ftrue) ∷ []) ∵
    move ! (1 ∷ []) $ split3 ! $ heard ! _ (λ lx. heard ! _ (λ lz. drop ! $ split ! $ move ! (1 ∷ []) $ fsplit ! $ box_out E ! d y.0.4.0 (λ b o h at is fits.
    box_in E ! d b o d.value at refl $ move ! (1 ∷ []) $ drop ! $
    -- [the box; the tokens]
    regoal ! (λ (us : List Val). prop (WpFn 𝓤 𝓛.H 𝓣.C 𝓣.Λ body us Post)) (ap (λ (us : List Val). us ++ []) is) refl $
    enter ! _ _ _ _ _ $ alloc_all ! (λ l. pass_all ! refl (box_typed E h b o fits, tt) $
    let En : Env 𝓤 𝓛.H = env body.locals l in
    let G = triple_of 𝓛 (g.signature X Z gh dict drops held) (g.spec X Z gh dict drops held 𝓛 𝓜.mem 𝓡.returns) in
    let z : G.Ghost = ((κs, qs, tt, (d, tt), (word E h b o ∷ [], tt)), tt) in
    sets ! (of_opd ! (get ! refl)) refl (box_typed E h b o fits) $
    nothing ! $ move ! (1 ∷ 0 ∷ []) $ fjoin ! $ move ! (1 ∷ 0 ∷ []) $ join ! $ nothing ! $ use0 𝓛 (raw (fact 𝓤 (κs.1.0 ⊑ Z.lives))) (fact_i 𝓤 _ (emp 𝓤) lz) $ join ! $
    use0 𝓛 (raw (fact 𝓤 (κs.0 ⊑ X.lives))) (fact_i 𝓤 _ (emp 𝓤) lx) $ join ! $ move ! (1 ∷ 0 ∷ []) $ join ! $ use1 𝓛 (raw (G.pre z)) (id⊢ 𝓤 _) $
    calls_at ! (framed 𝓤 𝓛.H 𝓜 𝓣) G (met 𝓤 𝓛 𝓜 𝓡 (code.calls-std::boxed::Box::into_raw_with_allocator 𝓡.env wired) X Z L LZ gh dict drops held bound glue glue_of) z
    (and_then ! (get ! refl) (no_more !)) (λ v.
    use1 𝓛 (later (some (λ (r : Ptr × Z.Denot). ((‵ (flft κs.0 qs.0) ⊛ ‵ (flft κs.1.0 qs.1.0) ⊛ ‵ ftrue) ⊛ ‵ ((Tuple (RawPtr ∷ P E ∷ [])).own_val r (v ∷ []))) ⊛
    some (λ ws. ‵ (lasts (g.ended X Z gh dict drops held) κs z.0.3 ws) ⊛ raw (fact 𝓤 (r.1 ≡ d.alloc)) ⊛ ‵ (box_owns (gh.dealloc_token d.alloc) (param 0 X) r.0 d.value))))) (id⊢ 𝓤 _) $
    await ! tt $ pick ! (λ r. split ! $ split ! $ move ! (2 ∷ []) $ pick ! (λ ws. split3 ! $ drop ! $ heard ! _ (λ same. move ! (2 ∷ []) $ fpick ! (λ vss. fsplit ! $ feq_l ! (λ both. fsplit ! $ feq_l ! (λ pointer. fsplit ! $
    handle_tells E.al ! r.1 vss.1.0 (λ k one fits₂. let fits₃ = fits_pair (layout Z) r.0 k fits₂ in let apart : (Row (param 0 X) (param 1 Z) gh).Denot = record { at = r.0; alloc = d.alloc; value = d.value } in
    move ! (1 ∷ []) $ drop ! $ lands_as ! (ap only (side_by_side (v ∷ []) vss.0 vss.1.0 r.0 k both pointer one)) refl fits₃ $
    -- [what the allocator owns; the block; the tokens]
    sets ! (of_opd ! (get_in ! (fld ! refl (stop !)) (sub ! 0 refl (whole !)))) refl (fits_pointer r.0) $ sets ! (of_opd ! (get_in ! (fld ! refl (stop !)) (sub ! 1 refl (whole !)))) refl fits₂ $
    sets ! (of_opd ! (get ! refl)) refl fits₂ $ sets ! (agg ! (and_then ! (get ! refl) (and_then ! (get ! refl) (no_more !)))) refl fits₃ $
    rewrite ! 0 (λ (w : Z.Denot). ‵ (Z.own_val w (k ∷ []))) same refl $ move ! (1 ∷ 0 ∷ []) $ loosened (param 0 X) (param 1 Z) gh ! apart k $
    returns ! (look_at ! 0 refl) $ free_all ! refl $ use0 𝓛 (raw (fact 𝓤 (d.value ≡ d.value))) (fact_i 𝓤 _ (emp 𝓤) refl) $ nothing ! $ nothing ! $ fjoin ! $ move ! (3 ∷ 0 ∷ 2 ∷ []) $
    by ! (leaves 𝓛 ended stayed c y (pair r.0 k) apart ((tt, (tt, tt)), tt) (tt, tt)))))))))))))))
