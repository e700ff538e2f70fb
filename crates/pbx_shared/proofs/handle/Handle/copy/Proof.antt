-- A count below its end is raised, and at its end it stays.
use Rattle.pbx_shared.proofs.Names.{ !, Args, Env, Fn, Goes-dropped, Ptr, Sq, Stays, [], a_type, after, agg, alloc_all, and_then, ap, at_ret, await, bin, blocks, branches, by, emp, enter, env, every, exec, fact, fact_i, first, fjoin, fld, flft, free_all, fsplit, ftok, ftrue, get, inst_fn, is, join, keep, later, layouts, leaves, lit, load, look, look_at, move, no_more, nothing, of_opd, owns, pass_all, plain, prop, ptr_val, qed, raw, refl, returns, sets, sets_last, skips, split, stay_dropped, stop, sub, sym, through, types_at, use0, use1, walk_of, whole, yes, ‵, ◌$◌, ◌∵◌, ◌∷◌, ◌≡◌, ◌⊛◌}
use Rattle.std.proofs.Common.{ℕ, ◌+◌, ◌^◌, ◌<◌, arith}
use mir.Syntax.{named}
use mir.Val.{vptr}
use base.Fml.{Lft, Share}
use types.Part.{look_in}
use types.Run.{assigns_last, neg_lit, store}
use denote.Builtin.{RefOf}
use denote.Ref.{shr_Tells, shr_vals}
use Rattle.std.proofs.RcSteps.{is_not, is_so}
use Rattle.pbx_shared.proofs.Blocks as blocks
use Rattle.pbx_shared.proofs.Held.{copied, grip, level, opens_behind}
use Rattle.pbx_shared.proofs.Steps.{grows, stays}
use Rattle.pbx_shared.proofs.Walks.{guarded, token_walk}
use Rattle.pbx_shared.proofs.Word.{Self, fits_word, word}
use Rattle.pbx_shared.specs.Ownership.{most}
use Rattle.pbx_shared.specs.contracts.handle.Handle.copy as f
use Rattle.pbx_shared.specs.contracts.handle.Handle.copy.Key.{name as #self}
use Rattle.pbx_shared.proofs.handle.Handle.copy.Statement.{statement}
use Rattle.pbx_shared.proofs.handle.Handle.copy.Code as compiled
use Rattle.pbx_shared.proofs.handle.Handle.copy.Code.{code}

pub copy_spec : {M : Type 1} → statement M
unfolding code
copy_spec 𝓤 𝓛 𝓜 𝓡 wired X L =
    let args : Args = layouts (a_type ∷ []) (X, tt) in
    let body : Fn = inst_fn args compiled.function in
    let c = f.clauses X 𝓛 𝓜.mem 𝓡.returns in
    let slot = RefOf {n = 2} (0 ∷ []) tt (plain (λ _. Self X)) (λ _. tt) in
    let stayed : Stays (f.ended X).signature.params (f.ended X).kept = (stay_dropped slot yes, tt) in
    token_walk 𝓛 (f.ended X) stayed c (λ κs. (shr_vals, tt)) 𝓜 𝓡 (Goes-dropped 𝓛 2 slot yes (λ κs x w. refl), tt)
    (λ κs. (shr_Tells (named 0) κs.0 (Self X), tt)) (#self args) body (wired.0.0 (#self args) refl) (λ C Λ κs qs bounds a g.
    let κ : Lft = κs.0 in
    let q : Share = qs.0 in
    let rb : ℕ = a.0.ref_ptr.0 in
    let ro : ℕ = a.0.ref_ptr.1 in
    let p : Ptr = a.0.now.ptr in
    let x : X.Denot = a.0.now.value in
    let y : (walk_of 𝓛 (f.ended X) stayed (guarded 𝓛 (f.ended X) stayed c)).Ghost = ((κs, qs, bounds, a, (vptr rb ro ∷ [], tt)), g) in
    let Post = (walk_of 𝓛 (f.ended X) stayed (guarded 𝓛 (f.ended X) stayed c)).post y in
    let ends : Sq 𝓛 (‵ ((Self X).own_val (record { ptr = p; value = x }) (word p ∷ [])) ∷ ‵ (flft κ q) ∷ ‵ (ftok every) ∷ (‵ (flft κs.1.0 qs.1.0) ⊛ ‵ ftrue) ∷ []) (prop (Post (word p))) =
    move ! (1 ∷ 3 ∷ []) $ join ! $ use0 𝓛 (raw (fact 𝓤 (x ≡ x))) (fact_i 𝓤 (x ≡ x) (emp 𝓤) refl) $ move ! (3 ∷ 0 ∷ []) $ join ! $ nothing ! $ nothing ! $ fjoin ! $ move ! (2 ∷ 0 ∷ 3 ∷ 1 ∷ []) $
    by ! (leaves 𝓛 (f.ended X) stayed (guarded 𝓛 (f.ended X) stayed c) y (word p) (record { ptr = p; value = x }) (tt, tt) (tt, tt)) in
    qed 𝓛 (((‵ (flft κ q) ⊛ ‵ (flft κs.1.0 qs.1.0) ⊛ ‵ ftrue) ⊛ ‵ (owns (types_at (f.ended X).signature.params κs) a (vptr rb ro ∷ [], tt))) ∷ (‵ (ftok every) ⊛ raw ((c κs a).requires g)) ∷ []) ∵
    split ! $ split ! $ move ! (3 ∷ []) $ split ! $ move ! (4 ∷ []) $ fsplit ! $ fsplit ! $ keep ! (1 ∷ 5 ∷ 3 ∷ 6 ∷ []) $
    -- [a `&` to the handle; the token; the thread's token; the other tokens]
    enter ! C Λ body _ _ $ alloc_all ! (λ l. pass_all ! refl ((tt, tt), tt) $
    let En : Env 𝓤 𝓛.H = env body.locals l in
    opens_behind X L p x κ q rb ro ! tt (λ i s r n b o at fits.
    sets ! (is ! (of_opd ! (load ! (through ! refl (fld ! refl (stop !))) (look_in ! 3 (sub ! 0 refl (whole !))))) (ap ptr_val at)) refl (tt, tt) $ first ! $ blocks ! $
    sets_last ! (of_opd ! (load ! (through ! refl (fld ! refl (stop !))) (look ! 0 refl))) refl (tt, record { fits = fits }) $ exec ! C Λ En (after 2 body.body) (at_ret En Post) $
    sets ! (of_opd ! (get ! refl)) refl (tt, record { fits = fits }) $ sets ! (bin ! (get ! refl) (neg_lit ! tt) tt) refl (tt, tt) $ first ! $ branches ! (get ! refl)
    (λ room. let below : n < most = omega (arith, is_not n most room) in let f₁ : n + 1 < 2 ^ 64 = omega arith in
    blocks ! $ sets ! (bin ! (get ! refl) (lit ! tt) (record { fits = f₁ })) refl (tt, record { fits = f₁ }) $
    assigns_last ! (of_opd ! (get ! refl)) (through ! refl (fld ! refl (stop !))) (store ! 0 refl (tt, record { fits = f₁ })) $ exec ! C Λ En (after 5 body.body) (at_ret En Post) $
    move ! (1 ∷ []) $ use1 𝓛 (later (‵ (level X L p x i (n + 1)) ⊛ ‵ (grip X L p x i))) (grows (blocks.k X L p x) (blocks.S X L p x) (blocks.P X L p x) (blocks.t X L p x) 𝓛 i n below) $ await ! tt $ split ! $
    move ! (2 ∷ 0 ∷ 3 ∷ 4 ∷ 5 ∷ 1 ∷ []) $ copied X L p x κ q rb ro ! tt i s r (n + 1) b o at f₁ $
    sets ! (is ! (agg ! (and_then ! (get ! refl) (no_more !))) (ap word (sym at))) refl (fits_word X p) $ returns ! (look_at ! 0 refl) $ free_all ! refl $ ends)
    (λ full. skips ! $ exec ! C Λ En (after 5 body.body) (at_ret En Post) $
    move ! (1 ∷ []) $ use1 𝓛 (‵ (level X L p x i n) ⊛ ‵ (grip X L p x i)) (stays (blocks.k X L p x) (blocks.S X L p x) (blocks.P X L p x) (blocks.t X L p x) 𝓛 i n (is_so n most full)) $ split ! $
    move ! (2 ∷ 0 ∷ 3 ∷ 4 ∷ 5 ∷ 1 ∷ []) $ copied X L p x κ q rb ro ! tt i s r n b o at fits $
    sets ! (is ! (agg ! (and_then ! (get ! refl) (no_more !))) (ap word (sym at))) refl (fits_word X p) $ returns ! (look_at ! 0 refl) $ free_all ! refl $ ends))))
