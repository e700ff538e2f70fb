-- Either both handles have one key, and so one value; or both blocks are open at once, and the other's count is not 0.
use Rattle.pbx_shared.proofs.Names.{ !, Args, Env, Fn, Goes-dropped, Ptr, Sq, Stays, [], a_type, after, alloc_all, ap, at_ret, bin, blocks, by, drop, emp, enter, env, every, exec, fact, fact_i, first, fjoin, fld, flft, free_all, fsplit, ftok, ftrue, get, inst_fn, is, join, keep, layouts, leaves, lit, load, look, look_at, move, nothing, of_opd, owns, pass_all, plain, prop, ptr_val, qed, raw, refl, returns, sets, sets_last, split, stay_dropped, stop, sub, sym, through, types_at, use0, walk_of, whole, yes, ‵, ◌$◌, ◌∵◌, ◌∷◌, ◌≡◌, ◌⊛◌, List, Val}
use Rattle.std.proofs.Common.{ℕ, ◌∙◌, Bool, arith, eqb→eq, lit<, subst, IsTrue}
use lib.Dec.{T}
use mathlib.Core.Logic.{dite}
use mir.Syntax.{named}
use mir.Val.{vbool, vptr}
use base.Fml.{Lft, Share}
use base.Mask.{Key-Dec}
use types.Part.{look_in}
use types.Kit.{feq_i}
use types.Run.{assigns_last, store}
use denote.Builtin.{RefOf}
use denote.Ref.{shr_Tells, shr_vals}
use Rattle.pbx_shared.proofs.Blocks as blocks
use Rattle.pbx_shared.proofs.Both.{begins, ends, opened, shut}
use denote.Param.{param}
use Rattle.pbx_shared.proofs.Held.{opens_count, shuts_count}
use Rattle.pbx_shared.proofs.Numbers.{key_one}
use Rattle.pbx_shared.proofs.Walks.{guarded, token_walk}
use Rattle.pbx_shared.proofs.Word.{Self, reads, returned}
use Rattle.pbx_shared.specs.contracts.handle.Handle.is_same_block as f
use Rattle.pbx_shared.specs.contracts.handle.Handle.is_same_block.Key.{name as #self}
use Rattle.pbx_shared.proofs.handle.Handle.is_same_block.Statement.{statement}
use Rattle.pbx_shared.proofs.handle.Handle.is_same_block.Code as compiled
use Rattle.pbx_shared.proofs.handle.Handle.is_same_block.Code.{code}

pub is_same_block_spec : {M : Type 1} → statement M
unfolding code
is_same_block_spec 𝓤 𝓛 𝓜 𝓡 wired X L =
    let args : Args = layouts (a_type ∷ []) (X, tt) in
    let body : Fn = inst_fn args compiled.function in
    let c = f.clauses X 𝓛 𝓜.mem 𝓡.returns in
    let slot = RefOf {n = 3} (0 ∷ []) tt (plain (λ _. Self X)) (λ _. tt) in
    let slot' = RefOf {n = 3} (1 ∷ []) tt (plain (λ _. Self X)) (λ _. tt) in
    let stayed : Stays (f.ended X).signature.params (f.ended X).kept = (stay_dropped slot yes, (stay_dropped slot' yes, tt)) in
    token_walk 𝓛 (f.ended X) stayed c (λ κs. (shr_vals, (shr_vals, tt))) 𝓜 𝓡 (Goes-dropped 𝓛 3 slot yes (λ κs x w. refl), (Goes-dropped 𝓛 3 slot' yes (λ κs x w. refl), tt))
    (λ κs. (shr_Tells (named 0) κs.0 (Self X), (shr_Tells (named 1) κs.1.0 (Self X), tt))) (#self args) body (wired.0.0 (#self args) refl) (λ C Λ κs qs bounds a g.
    let κ : Lft = κs.0 in
    let q : Share = qs.0 in
    let κ' : Lft = κs.1.0 in
    let q' : Share = qs.1.0 in
    let rb : ℕ = a.0.ref_ptr.0 in
    let ro : ℕ = a.0.ref_ptr.1 in
    let rb' : ℕ = a.1.0.ref_ptr.0 in
    let ro' : ℕ = a.1.0.ref_ptr.1 in
    let p : Ptr = a.0.now.ptr in
    let x : X.Denot = a.0.now.value in
    let p' : Ptr = a.1.0.now.ptr in
    let x' : X.Denot = a.1.0.now.value in
    let y : (walk_of 𝓛 (f.ended X) stayed (guarded 𝓛 (f.ended X) stayed c)).Ghost = ((κs, qs, bounds, a, (vptr rb ro ∷ [], (vptr rb' ro' ∷ [], tt))), g) in
    let Post = (walk_of 𝓛 (f.ended X) stayed (guarded 𝓛 (f.ended X) stayed c)).post y in
    let done_with : (b : Bool) → (IsTrue b → x ≡ x') → Sq 𝓛 (‵ (flft κ q) ∷ ‵ (flft κ' q') ∷ ‵ (ftok every) ∷ (‵ (flft κs.1.1.0 qs.1.1.0) ⊛ ‵ ftrue) ∷ []) (prop (Post (vbool b))) = λ b same.
    move ! (1 ∷ 3 ∷ []) $ join ! $ move ! (1 ∷ 0 ∷ []) $ join ! $ use0 𝓛 (raw (fact 𝓤 (IsTrue b → x ≡ x'))) (fact_i 𝓤 (IsTrue b → x ≡ x') (emp 𝓤) same) $ move ! (2 ∷ 0 ∷ []) $ join ! $
    feq_i ! (List Val) (vbool b ∷ []) (vbool b ∷ []) refl $ nothing ! $ nothing ! $ fjoin ! $ nothing ! $ fjoin ! $ move ! (3 ∷ 0 ∷ 1 ∷ 2 ∷ []) $
    by ! (leaves 𝓛 (f.ended X) stayed (guarded 𝓛 (f.ended X) stayed c) y (vbool b) b (tt, (tt, tt)) (tt, (tt, tt))) in
    qed 𝓛 (((‵ (flft κ q) ⊛ ‵ (flft κ' q') ⊛ ‵ (flft κs.1.1.0 qs.1.1.0) ⊛ ‵ ftrue) ⊛ ‵ (owns (types_at (f.ended X).signature.params κs) a (vptr rb ro ∷ [], (vptr rb' ro' ∷ [], tt)))) ∷ (‵ (ftok every) ⊛ raw ((c κs a).requires g)) ∷ []) ∵
    split ! $ split ! $ move ! (1 ∷ []) $ split ! $ move ! (4 ∷ []) $ split ! $ move ! (5 ∷ []) $ fsplit ! $ fsplit ! $ move ! (2 ∷ []) $ fsplit ! $ fsplit ! $ keep ! (4 ∷ 9 ∷ 1 ∷ 7 ∷ 5 ∷ 8 ∷ []) $
    -- [a `&` to the handle; its token; a `&` to the other; its token; the thread's token; the other tokens]
    enter ! C Λ body _ _ $ alloc_all ! (λ l. pass_all ! refl ((tt, tt), ((tt, tt), tt)) $
    let En : Env 𝓤 𝓛.H = env body.locals l in
    begins X L p x ! tt κ q rb ro (λ i s. move ! (5 ∷ 6 ∷ []) $ begins X L p' x' ! tt κ' q' rb' ro' (λ i' s'.
    dite (Key-Dec (blocks.k X L p x) (blocks.k X L p' x'))
    (λ one. let same = key_one (param 0 X) p p' x x' one in move ! (5 ∷ 6 ∷ 10 ∷ []) $ opens_count X L p x ! tt i s (λ n b o at fits.
    move ! (9 ∷ 10 ∷ []) $ reads X p rb ro ! tt (λ r.
    sets ! (is ! (of_opd ! (load ! (through ! refl (fld ! refl (stop !))) (look_in ! 0 (sub ! 0 refl (whole !))))) (ap ptr_val at)) refl (tt, tt) $ returned X p rb ro ! tt r $
    move ! (7 ∷ 8 ∷ []) $ reads X p' rb' ro' ! tt (λ r'.
    sets ! (is ! (of_opd ! (load ! (through ! refl (fld ! refl (stop !))) (look_in ! 0 (sub ! 0 refl (whole !))))) (ap ptr_val (sym same.0 ∙ at))) refl (tt, tt) $ returned X p' rb' ro' ! tt r' $
    move ! (9 ∷ 5 ∷ 1 ∷ []) $ ends X L p x ! tt κ q i s $ move ! (7 ∷ 6 ∷ 1 ∷ []) $ ends X L p' x' ! tt κ' q' i' s' $ move ! (2 ∷ []) $
    -- [the count; the tokens of both `&`s; the level; what shuts it; the other's invariant; the other tokens]
    first ! $ blocks ! $ sets_last ! (of_opd ! (load ! (through ! refl (fld ! refl (stop !))) (look ! 0 refl))) refl (tt, record { fits = fits }) $ exec ! C Λ En (after 3 body.body) (at_ret En Post) $
    sets ! (of_opd ! (get ! refl)) refl (tt, record { fits = fits }) $
    first ! $ blocks ! $ assigns_last ! (of_opd ! (lit ! tt)) (through ! refl (fld ! refl (stop !))) (store ! 0 refl (tt, record { fits = lit< tt })) $ exec ! C Λ En (after 5 body.body) (at_ret En Post) $
    first ! $ blocks ! $ sets_last ! (of_opd ! (load ! (through ! refl (fld ! refl (stop !))) (look ! 0 refl))) refl (tt, record { fits = lit< tt }) $ exec ! C Λ En (after 6 body.body) (at_ret En Post) $
    sets ! (of_opd ! (get ! refl)) refl (tt, record { fits = lit< tt }) $
    first ! $ blocks ! $ assigns_last ! (of_opd ! (get ! refl)) (through ! refl (fld ! refl (stop !))) (store ! 0 refl (tt, record { fits = fits })) $ exec ! C Λ En (after 8 body.body) (at_ret En Post) $
    sets ! (bin ! (get ! refl) (lit ! tt) tt) refl (tt, tt) $
    move ! (0 ∷ 3 ∷ 4 ∷ []) $ shuts_count X L p x ! tt i n b o at fits $ move ! (3 ∷ []) $ drop ! $ move ! (2 ∷ 1 ∷ 0 ∷ []) $
    returns ! (look_at ! 0 refl) $ free_all ! refl $ done_with _ (λ _. same.1)))))
    (λ apart. move ! (5 ∷ 0 ∷ 10 ∷ 6 ∷ 1 ∷ []) $ opened X L p p' x x' i i' ! tt s s' apart (λ n b o n' b' o' at at' fits fits' some_left.
    move ! (10 ∷ 11 ∷ []) $ reads X p rb ro ! tt (λ r.
    sets ! (is ! (of_opd ! (load ! (through ! refl (fld ! refl (stop !))) (look_in ! 0 (sub ! 0 refl (whole !))))) (ap ptr_val at)) refl (tt, tt) $ returned X p rb ro ! tt r $
    move ! (8 ∷ 9 ∷ []) $ reads X p' rb' ro' ! tt (λ r'.
    sets ! (is ! (of_opd ! (load ! (through ! refl (fld ! refl (stop !))) (look_in ! 0 (sub ! 0 refl (whole !))))) (ap ptr_val at')) refl (tt, tt) $ returned X p' rb' ro' ! tt r' $
    move ! (10 ∷ 7 ∷ 1 ∷ []) $ ends X L p x ! tt κ q i s $ move ! (8 ∷ 7 ∷ 1 ∷ []) $ ends X L p' x' ! tt κ' q' i' s' $ move ! (2 ∷ 3 ∷ []) $
    -- [the count; the other's; the tokens of both `&`s; the levels; what shuts both; the other tokens]
    first ! $ blocks ! $ sets_last ! (of_opd ! (load ! (through ! refl (fld ! refl (stop !))) (look ! 0 refl))) refl (tt, record { fits = fits }) $ exec ! C Λ En (after 3 body.body) (at_ret En Post) $
    sets ! (of_opd ! (get ! refl)) refl (tt, record { fits = fits }) $
    first ! $ blocks ! $ assigns_last ! (of_opd ! (lit ! tt)) (through ! refl (fld ! refl (stop !))) (store ! 0 refl (tt, record { fits = lit< tt })) $ exec ! C Λ En (after 5 body.body) (at_ret En Post) $
    first ! $ blocks ! $ sets_last ! (of_opd ! (load ! (through ! refl (fld ! refl (stop !))) (look ! 1 refl))) refl (tt, record { fits = fits' }) $ exec ! C Λ En (after 6 body.body) (at_ret En Post) $
    sets ! (of_opd ! (get ! refl)) refl (tt, record { fits = fits' }) $
    first ! $ blocks ! $ assigns_last ! (of_opd ! (get ! refl)) (through ! refl (fld ! refl (stop !))) (store ! 0 refl (tt, record { fits = fits })) $ exec ! C Λ En (after 8 body.body) (at_ret En Post) $
    sets ! (bin ! (get ! refl) (lit ! tt) tt) refl (tt, tt) $
    move ! (0 ∷ 1 ∷ 4 ∷ 5 ∷ 6 ∷ []) $ shut X L p p' x x' i i' ! tt n b o n' b' o' at at' fits fits' $ move ! (2 ∷ 1 ∷ 0 ∷ []) $
    returns ! (look_at ! 0 refl) $ free_all ! refl $ done_with _ (λ none. absurd (omega (arith, some_left, eqb→eq n' 0 (subst T (sym none) tt))))))))))))
