-- The count at 1 and the value go into an invariant, and the first handle has the one part of its token.
use Rattle.pbx_shared.proofs.Names.{ !, Args, Fn, Goes-dropped, Ptr, RattleType, Stays, [], a_type, agg, alloc_all, and_then, await, by, emp, enter, fact, fact_i, fjoin, fld, flft, free_all, fsplit, ftrue, get, get_in, ghosts, heap_val, heard, inst_fn, join, keep, later, layouts, leaves, lone, look_at, move, no, no_more, nothing, of_opd, owns, param, pass_all, plain, qed, raw, refl, returns, rewrite, sets, split, stay_dropped, stop, sub, sym, types_at, use0, use1, walk_of, whole, ‵, ◌$◌, ◌∵◌, ◌∷◌, ◌≡◌, ◌⊑◌, ◌⊛◌}
use Rattle.std.proofs.raw_atomic.Walks.{proved}
use mir.Raw.{raw as bare}
use base.Logic.{fst∗, never}
use types.Logic.{sem}
use types.Kit.{fpack, use3}
use denote.RawPtr.{block_ptr, in_a_block, null_ptr}
use Rattle.std.specs.contracts.alloc.Global as global
use Rattle.std.specs.declared.alloc.Global.{Global}
use Rattle.pbx_shared.proofs.Blocks as blocks
use Rattle.pbx_shared.proofs.Blocks.{lends_value, unpacked}
use Rattle.pbx_shared.proofs.Loosened.{Row, fits_pair, pair, pair_told}
use Rattle.pbx_shared.proofs.Steps.{makes}
use Rattle.pbx_shared.proofs.Word.{fits_pointer, fits_word, shared, word, worded}
use Rattle.pbx_shared.specs.Block.{alone, block}
use Rattle.pbx_shared.specs.Ownership.{back, count_at, frees, raw_owns}
use Rattle.pbx_shared.specs.contracts.handle.Handle.first as f
use Rattle.pbx_shared.specs.contracts.handle.Handle.first.Key.{name as #self}
use Rattle.pbx_shared.proofs.handle.Handle.first.Statement.{statement}
use Rattle.pbx_shared.proofs.handle.Handle.first.Code as code

pub first_spec : {M : Type 1} → statement M
first_spec 𝓤 𝓛 𝓜 𝓡 wired X L =
    let args : Args = layouts (a_type ∷ []) (X, tt) in
    let body : Fn = inst_fn args code.function in
    let N : RattleType = block (param 0 X) in
    let Whole : RattleType = Row N global.the_row ghosts in
    let c = f.clauses X 𝓛 𝓜.mem 𝓡.returns in
    let stayed : Stays (f.ended X).signature.params (f.ended X).kept = (stay_dropped (plain {n = 1} (λ _. Whole)) no, tt) in
    proved 𝓛 (f.ended X) stayed c 𝓜 𝓡 (Goes-dropped 𝓛 1 (plain (λ _. Whole)) no (λ κs d w. refl), tt)
    (#self args) body (code.unfolded 𝓤 𝓛.H 𝓜 𝓡 wired (X, tt))
    (λ κs. ((λ d. pair d.at heap_val ∷ []), tt)) (λ κs. (pair_told N, tt)) (λ κs qs bounds a g are.
    let p : Ptr = a.0.at in
    let x : X.Denot = a.0.value.value in
    let y : (walk_of 𝓛 (f.ended X) stayed c).Ghost = ((κs, qs, bounds, a, (pair p heap_val ∷ [], tt)), g) in
    qed 𝓛 (((‵ (flft κs.0 qs.0) ⊛ ‵ ftrue) ⊛ ‵ (owns (types_at (f.ended X).signature.params κs) a (pair p heap_val ∷ [], tt))) ∷ (raw (fact 𝓤 (κs.0 ⊑ X.lives)) ⊛ raw (fact 𝓤 (a.0.value.count ≡ 1))) ∷ []) ∵
    move ! (1 ∷ []) $ split ! $ heard ! _ (λ lives. heard ! _ (λ one. split ! $ move ! (1 ∷ []) $ fsplit ! $ fsplit ! $ keep ! (1 ∷ 3 ∷ []) $ fsplit ! $
    move ! (1 ∷ []) $ fpack ! Global (λ h. ghosts.dealloc_token h (bare (lone N.mir)) p) a.0.alloc $ move ! (1 ∷ []) $ fjoin ! $
    -- [the block; the tokens]
    enter ! _ _ _ _ _ $ alloc_all ! (λ l. pass_all ! refl (fits_pair (lone global.the_row.mir) p heap_val (tt, ((tt, tt), tt)), tt) $
    in_a_block ! p (λ r. raw_owns N r a.0.value) (fst∗ 𝓤 (never 𝓤) (sem 𝓛 (frees (bare (lone N.mir)) null_ptr))) (λ b o at. let here : Ptr = block_ptr b o in
    use1 𝓛 (‵ (count_at here 1) ⊛ ‵ (back N (param 0 X) alone here x)) (unpacked X L 𝓛 b o a.0.value one) $ split ! $ move ! (2 ∷ []) $ split ! $ move ! (2 ∷ 3 ∷ 0 ∷ []) $
    use3 𝓛 (later (‵ (shared X here x) ⊛ ‵ (flft κs.0 qs.0))) (makes (blocks.k X L here x) (blocks.S X L here x) (blocks.P X L here x) (blocks.t X L here x) 𝓛 X.lives κs.0 qs.0 (lends_value X L 𝓛 here x) lives) $ await ! tt $ split ! $
    rewrite ! 0 (λ (r : Ptr). ‵ (shared X r x)) (sym at) refl $ worded X ! (record { ptr = p; value = x }) $
    sets ! (of_opd ! (get_in ! (fld ! refl (stop !)) (sub ! 0 refl (whole !)))) refl (fits_pointer p) $ sets ! (agg ! (and_then ! (get ! refl) (no_more !))) refl (fits_word X p) $
    returns ! (look_at ! 0 refl) $ free_all ! refl $ use0 𝓛 (raw (fact 𝓤 (x ≡ x))) (fact_i 𝓤 (x ≡ x) (emp 𝓤) refl) $ nothing ! $ nothing ! $ fjoin ! $ move ! (3 ∷ 4 ∷ []) $ join ! $ move ! (0 ∷ 1 ∷ 3 ∷ 2 ∷ []) $
    by ! (leaves 𝓛 (f.ended X) stayed c y (word p) (record { ptr = p; value = x }) (tt, tt) (tt, tt)))))))
