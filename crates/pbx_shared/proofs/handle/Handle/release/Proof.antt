-- The last handle has the block. A count above 1 and below its end is lowered, and at its end it stays.
use Rattle.pbx_shared.proofs.Names.{ !, Args, Env, Fn, Goes-dropped, Ptr, RattleType, Sq, Stays, Val, [], a_type, after, agg, alloc_all, and_then, ap, at_ret, bin, blocks, branches, by, drop, emp, enter, env, every, exec, fact, fact_i, first, fjoin, fld, flft, free_all, fsplit, ftok, ftrue, get, get_in, ghosts, heap_val, inst_fn, is, join, keep, layouts, leaves, lit, load, lone, look, look_at, move, no, no_more, nothing, of_opd, owns, param, pass_all, plain, prop, ptr_val, qed, raw, refl, returns, sets, sets_last, skips, split, stay_dropped, stop, sub, sym, through, types_at, use0, use1, walk_of, whole, yes, ‵, ◌$◌, ◌∵◌, ◌∷◌, ◌≡◌, ◌⊛◌}
use Rattle.std.proofs.Common.{◌-◌, ◌<◌, ◌^◌, arith, eqb→eq, lit<}
use Rattle.std.proofs.Handle.{heap_Tells}
use Rattle.std.proofs.RcSteps.{Some-of, is_not, none_of, some_Good}
use mir.Val.{of_list, vnil}
use types.Kit.{use2}
use types.Match.{live}
use types.Run.{assigns_last, neg_lit, returns_within, store}
use Rattle.std.specs.Prelude.{IfSome}
use Rattle.std.specs.contracts.alloc.Global as global
use Rattle.std.specs.contracts.option.Option as option
use Rattle.std.specs.declared.option.Option.TheVariants.{None, Some}
use Rattle.pbx_shared.proofs.Blocks as blocks
use Rattle.pbx_shared.proofs.Held.{had_back, level, shuts_count}
use Rattle.pbx_shared.proofs.Steps.{falls}
use Rattle.pbx_shared.proofs.Loosened.{Row, fits_pair, loosened, pair}
use Rattle.pbx_shared.proofs.Walks.{guarded, token_walk}
use Rattle.pbx_shared.proofs.Word.{Self, fits_word, told, word}
use Rattle.pbx_shared.specs.Block.{alone, block}
use Rattle.pbx_shared.specs.Ownership.{most}
use Rattle.pbx_shared.specs.contracts.handle.Handle.release as f
use Rattle.pbx_shared.specs.contracts.handle.Handle.release.Key.{name as #self}
use Rattle.pbx_shared.proofs.handle.Handle.release.Statement.{statement}
use Rattle.pbx_shared.proofs.handle.Handle.release.Code as compiled
use Rattle.pbx_shared.proofs.handle.Handle.release.Code.{code}

pub release_spec : {M : Type 1} → statement M
unfolding code
release_spec 𝓤 𝓛 𝓜 𝓡 wired X L =
    let args : Args = layouts (a_type ∷ []) (X, tt) in
    let body : Fn = inst_fn args compiled.function in
    let Whole : RattleType = Row (block (param 0 X)) global.the_row ghosts in
    let Out : RattleType = option.the_row Whole in
    let c = f.clauses X 𝓛 𝓜.mem 𝓡.returns in
    let stayed : Stays (f.ended X).signature.params (f.ended X).kept = (stay_dropped (plain {n = 1} (λ _. Self X)) no, (stay_dropped (plain {n = 1} (λ _. global.the_row)) yes, tt)) in
    token_walk 𝓛 (f.ended X) stayed c (λ κs. ((λ d. word d.ptr ∷ []), ((λ _. heap_val ∷ []), tt))) 𝓜 𝓡
    (Goes-dropped 𝓛 1 (plain (λ _. Self X)) no (λ κs d w. refl), (Goes-dropped 𝓛 1 (plain (λ _. global.the_row)) yes (λ κs d w. refl), tt))
    (λ κs. (told X L, (heap_Tells, tt))) (#self args) body (wired.0.0 (#self args) refl) (λ C Λ κs qs bounds a g.
    let p : Ptr = a.0.ptr in
    let x : X.Denot = a.0.value in
    let y : (walk_of 𝓛 (f.ended X) stayed (guarded 𝓛 (f.ended X) stayed c)).Ghost = ((κs, qs, bounds, a, (word p ∷ [], (heap_val ∷ [], tt))), g) in
    let Post = (walk_of 𝓛 (f.ended X) stayed (guarded 𝓛 (f.ended X) stayed c)).post y in
    let ends : (v : Val) (r : Out.Denot) → IfSome r (λ h. h.value ≡ alone x) → Sq 𝓛 (‵ (Out.own_val r (v ∷ [])) ∷ ‵ (ftok every) ∷ (‵ (flft κs.0 qs.0) ⊛ ‵ ftrue) ∷ []) (prop (Post v)) = λ v r some.
    use0 𝓛 (raw (fact 𝓤 (IfSome r (λ h. h.value ≡ alone x)))) (fact_i 𝓤 _ (emp 𝓤) some) $ move ! (2 ∷ 0 ∷ []) $ join ! $ nothing ! $ nothing ! $ fjoin ! $ nothing ! $ fjoin ! $ move ! (3 ∷ 0 ∷ 2 ∷ []) $
    by ! (leaves 𝓛 (f.ended X) stayed (guarded 𝓛 (f.ended X) stayed c) y v r (tt, (tt, tt)) (tt, (tt, tt))) in
    qed 𝓛 (((‵ (flft κs.0 qs.0) ⊛ ‵ ftrue) ⊛ ‵ (owns (types_at (f.ended X).signature.params κs) a (word p ∷ [], (heap_val ∷ [], tt)))) ∷ (‵ (ftok every) ⊛ raw ((c κs a).requires g)) ∷ []) ∵
    split ! $ move ! (2 ∷ []) $ split ! $ move ! (3 ∷ []) $ fsplit ! $ fsplit ! $ move ! (2 ∷ []) $ fsplit ! $ keep ! (3 ∷ 4 ∷ 0 ∷ 6 ∷ []) $
    -- [what the handles share; the thread's token; what the allocator owns; the tokens]
    enter ! C Λ body _ _ $ alloc_all ! (λ l. pass_all ! refl (fits_word X p, ((tt, ((tt, tt), tt)), tt)) $
    let En : Env 𝓤 𝓛.H = env body.locals l in
    blocks.handle_opens X L p x ! tt (λ i n b o at fits held. move ! (0 ∷ 1 ∷ 3 ∷ 2 ∷ []) $
    sets ! (is ! (of_opd ! (get_in ! (fld ! refl (stop !)) (sub ! 0 refl (whole !)))) (ap ptr_val at)) refl (tt, tt) $ first ! $ blocks ! $
    sets_last ! (of_opd ! (load ! (through ! refl (fld ! refl (stop !))) (look ! 0 refl))) refl (tt, record { fits = fits }) $ exec ! C Λ En (after 2 body.body) (at_ret En Post) $
    sets ! (of_opd ! (get ! refl)) refl (tt, record { fits = fits }) $ sets ! (bin ! (get ! refl) (lit ! tt) tt) refl (tt, tt) $ first ! $ branches ! (get ! refl)
    (λ last. let all : Whole.Denot = record { at = p; alloc = a.1.0; value = alone x } in let fits₂ = fits_pair (lone global.the_row.mir) p heap_val (tt, ((tt, tt), tt)) in
    had_back X L p x i n b o at ! tt a.1.0 (eqb→eq n 1 last) $ move ! (2 ∷ []) $ drop ! $ move ! (2 ∷ []) $ drop ! $
    sets ! (is ! (agg ! (and_then ! (get ! refl) (and_then ! (get ! refl) (no_more !)))) (ap (λ (r : Ptr). pair r heap_val) (sym at))) refl fits₂ $
    sets ! (agg ! (and_then ! (lit ! tt) (and_then ! (get ! refl) (no_more !)))) refl (some_Good (lone Whole.mir) (pair p heap_val) fits₂) $
    move ! (0 ∷ 2 ∷ []) $ loosened (block (param 0 X)) global.the_row ghosts ! all heap_val $
    use1 𝓛 (‵ (Out.own_val (Some all) (live 1 (of_list (pair p heap_val ∷ [])) ∷ []))) (Some-of 𝓛 Whole all (pair p heap_val)) $
    returns_within ! Post refl (look_at ! 0 refl) $ free_all ! refl $ ends (live 1 (of_list (pair p heap_val ∷ []))) (Some all) refl)
    (λ others. let many : 1 < n = omega (arith, is_not n 1 others) in let f₁ : n - 1 < 2 ^ 64 = omega arith in
    let rest : Sq 𝓛 (‵ (Out.own_val None (live 0 vnil ∷ [])) ∷ ‵ (ftok every) ∷ (‵ (flft κs.0 qs.0) ⊛ ‵ ftrue) ∷ []) (prop (Post (live 0 vnil))) = ends (live 0 vnil) None tt in
    skips ! $ exec ! C Λ En (after 5 body.body) (at_ret En Post) $ sets ! (bin ! (get ! refl) (neg_lit ! tt) tt) refl (tt, tt) $ first ! $ branches ! (get ! refl)
    (λ exact. blocks ! $ sets ! (bin ! (get ! refl) (lit ! tt) held) refl (tt, record { fits = f₁ }) $
    assigns_last ! (of_opd ! (get ! refl)) (through ! refl (fld ! refl (stop !))) (store ! 0 refl (tt, record { fits = f₁ })) $ exec ! C Λ En (after 7 body.body) (at_ret En Post) $
    move ! (1 ∷ 3 ∷ []) $ use2 𝓛 (‵ (level X L p x i (n - 1))) (falls (blocks.k X L p x) (blocks.S X L p x) (blocks.P X L p x) (blocks.t X L p x) 𝓛 i n many (omega (arith, is_not n most exact))) $
    move ! (1 ∷ 0 ∷ 2 ∷ []) $ shuts_count X L p x ! tt i (n - 1) b o at f₁ $ move ! (1 ∷ []) $ drop ! $ move ! (1 ∷ []) $ drop ! $ move ! (1 ∷ []) $ drop ! $
    sets ! (agg ! (and_then ! (lit ! tt) (no_more !))) refl (tt, (record { fits = lit< tt }, tt)) $ use0 𝓛 (‵ (Out.own_val None (live 0 vnil ∷ []))) (none_of 𝓛 Whole) $
    returns ! (look_at ! 0 refl) $ free_all ! refl $ rest)
    (λ full. skips ! $ exec ! C Λ En (after 7 body.body) (at_ret En Post) $
    shuts_count X L p x ! tt i n b o at fits $ move ! (1 ∷ []) $ drop ! $ move ! (1 ∷ []) $ drop ! $ move ! (1 ∷ []) $ drop ! $ move ! (1 ∷ []) $ drop ! $
    sets ! (agg ! (and_then ! (lit ! tt) (no_more !))) refl (tt, (record { fits = lit< tt }, tt)) $ use0 𝓛 (‵ (Out.own_val None (live 0 vnil ∷ []))) (none_of 𝓛 Whole) $
    returns ! (look_at ! 0 refl) $ free_all ! refl $ rest)))))
