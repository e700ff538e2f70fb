-- A `&` to a handle holds what a `&` to the value does.
use Rattle.pbx_shared.proofs.Names.{ !, Args, Env, Fn, Goes-dropped, List, Ptr, RattleType, Stays, Val, [], a_type, after, alloc_all, at_ret, blocks, by, drop, emp, enter, env, exec, fact, fact_i, first, fjoin, fld, flft, free_all, fsplit, ftrue, get, inst_fn, join, keep, layouts, leaves, lone, look_at, move, nothing, of_opd, owns, param, pass_all, plain, qed, raw, refl, returns, rewrite, sets, sets_last, split, stay_dropped, stop, sub, sym, tables, through, types_at, use0, use1, walk_of, whole, yes, ‵, ◌$◌, ◌∵◌, ◌∷◌, ◌≡◌, ◌⊛◌}
use Rattle.std.proofs.Common.{ℕ, ◌+◌}
use Rattle.std.proofs.raw_atomic.Walks.{proved}
use mir.Syntax.{named}
use mir.Val.{vptr}
use prog.Memory.{align, up}
use base.Fml.{Lft, fat}
use base.Logic.{fst∗, never}
use types.Logic.{sem}
use types.Kit.{feq_i}
use types.Part.{look_in}
use types.Run.{addr, hop}
use denote.Builtin.{RefOf}
use denote.Memory.{shared_of}
use denote.Opens.{hide}
use denote.RawPtr.{in_a_block, ◌+ₚ◌}
use denote.Ref.{shr_Tells, shr_vals}
use denote.Struct.Lending.{lent_at, lent_at_shr_laws}
use Rattle.pbx_shared.proofs.Blocks as blocks
use Rattle.pbx_shared.proofs.Steps.{sees}
use Rattle.pbx_shared.proofs.Word.{Self, reads, returned, uncovers, word, word_ty}
use Rattle.pbx_shared.specs.contracts.handle.Handle.as_ref as f
use Rattle.pbx_shared.specs.contracts.handle.Handle.as_ref.Key.{name as #self}
use Rattle.pbx_shared.proofs.handle.Handle.as_ref.Statement.{statement}
use Rattle.pbx_shared.proofs.handle.Handle.as_ref.Code as code

pub as_ref_spec : {M : Type 1} → statement M
as_ref_spec 𝓤 𝓛 𝓜 𝓡 wired X L =
    let args : Args = layouts (a_type ∷ []) (X, tt) in
    let body : Fn = inst_fn args code.function in
    let R : RattleType = param 0 X in
    let at : ℕ = up (align (lone R.mir)) 8 in
    let 𝓣 = tables 𝓤 𝓛.H 𝓜 𝓡 𝓡.env in
    let c = f.clauses X 𝓛 𝓜.mem 𝓡.returns in
    let slot = RefOf {n = 2} (0 ∷ []) tt (plain (λ _. Self X)) (λ _. tt) in
    let stayed : Stays (f.ended X).signature.params (f.ended X).kept = (stay_dropped slot yes, tt) in
    proved 𝓛 (f.ended X) stayed c 𝓜 𝓡 (Goes-dropped 𝓛 2 slot yes (λ κs x w. refl), tt)
    (#self args) body (code.unfolded 𝓤 𝓛.H 𝓜 𝓡 wired (X, tt))
    (λ κs. (shr_vals, tt)) (λ κs. (shr_Tells (named 0) κs.0 (Self X), tt)) (λ κs qs bounds a g are.
    let κ : Lft = κs.0 in
    let b : ℕ = a.0.ref_ptr.0 in
    let o : ℕ = a.0.ref_ptr.1 in
    let p : Ptr = a.0.now.ptr in
    let x : X.Denot = a.0.now.value in
    let y : (walk_of 𝓛 (f.ended X) stayed c).Ghost = ((κs, qs, bounds, a, (vptr b o ∷ [], tt)), g) in
    let Post = (walk_of 𝓛 (f.ended X) stayed c).post y in
    qed 𝓛 (((‵ (flft κ qs.0) ⊛ ‵ (flft κs.1.0 qs.1.0) ⊛ ‵ ftrue) ⊛ ‵ (owns (types_at (f.ended X).signature.params κs) a (vptr b o ∷ [], tt))) ∷ raw ((c κs a).requires g) ∷ []) ∵
    split ! $ move ! (1 ∷ []) $ fsplit ! $ fsplit ! $ keep ! (1 ∷ 3 ∷ []) $ uncovers X ! κ a.0.now b o $
    use1 𝓛 (‵ (blocks.t X L p x κ)) (sees (blocks.k X L p x) (blocks.S X L p x) (blocks.P X L p x) (blocks.t X L p x) (lent_at_shr_laws R L.shr_laws (p +ₚ at) x) 𝓛 κ) $
    in_a_block ! p (λ r. lent_at R (r +ₚ at) x κ) (fst∗ 𝓤 (never 𝓤) (sem 𝓛 (shared_of R x 0 0 κ))) (λ cb co e. fsplit ! $ drop ! $ hide ! $
    -- [a `&` to the value; a `&` to the word; the tokens]
    enter ! _ _ _ _ _ $ alloc_all ! (λ l. pass_all ! refl ((tt, tt), tt) $ let En : Env 𝓤 𝓛.H = env body.locals l in move ! (2 ∷ []) $ split ! $ move ! (3 ∷ 0 ∷ []) $
    reads X p b o ! tt (λ s. rewrite ! 0 (λ (r : Ptr). ‵ (fat s (word_ty X) b o (word r))) e refl $ first ! $ blocks ! $
    sets_last ! (addr ! (through ! refl (fld ! refl (hop ! (look_in ! 0 (sub ! 0 refl (whole !))) (fld ! refl (stop !)))))) refl (tt, tt) $
    exec ! 𝓣.C 𝓣.Λ En (after 1 body.body) (at_ret En Post) $ sets ! (of_opd ! (get ! refl)) refl (tt, tt) $
    rewrite ! 0 (λ (r : Ptr). ‵ (fat s (word_ty X) b o (word r))) (sym e) refl $ returned X p b o ! tt s $
    returns ! (look_at ! 0 refl) $ free_all ! refl $ join ! $ move ! (1 ∷ []) $ feq_i ! (List Val) (vptr cb (co + at) ∷ []) (vptr cb (co + at) ∷ []) refl $ fjoin ! $
    use0 𝓛 (raw (fact 𝓤 (x ≡ x))) (fact_i 𝓤 (x ≡ x) (emp 𝓤) refl) $ nothing ! $ nothing ! $ fjoin ! $ move ! (3 ∷ 0 ∷ 2 ∷ []) $
    by ! (leaves 𝓛 (f.ended X) stayed c y (vptr cb (co + at)) (record { ref_ptr = (cb, co + at); now = x }) (tt, tt) (tt, tt))))))
