-- Where the count is 1 this handle is the last, and has the block; else it is the handle still.
use Rattle.pbx_shared.proofs.Names.{ !, Args, Env, Fn, Goes-dropped, Ptr, RattleType, Sq, Stays, Val, [], a_type, after, agg, alloc_all, and_then, ap, at_ret, bin, blocks, branches, by, drop, emp, enter, env, every, exec, fact, fact_i, first, fjoin, fld, flft, free_all, fsplit, ftok, ftrue, get, get_in, ghosts, heap_val, inst_fn, is, join, keep, layouts, leaves, lit, load, lone, look, look_at, move, no, no_more, nothing, of_opd, owns, param, pass_all, plain, prop, ptr_val, qed, raw, refl, returns, sets, sets_last, skips, split, stay_dropped, stop, sub, sym, through, types_at, use0, use1, walk_of, whole, yes, ‵, ◌$◌, ◌∵◌, ◌∷◌, ◌≡◌, ◌⊛◌}
use Rattle.std.proofs.Handle.{heap_Tells}
use Rattle.std.proofs.ResultValues.{err_of, ok_of}
use Rattle.std.proofs.RcSteps.{first_Good, is_so, some_Good}
use mir.Val.{of_list}
use types.Match.{live}
use types.Run.{returns_within}
use Rattle.std.specs.Prelude.{IfErr, IfOk}
use Rattle.std.specs.contracts.alloc.Global as global
use Rattle.std.specs.contracts.result.Result as result
use Rattle.std.specs.declared.result.Result.TheVariants.{Err, Ok}
use Rattle.pbx_shared.proofs.Blocks as blocks
use Rattle.pbx_shared.proofs.Held.{had_back, held_again}
use Rattle.pbx_shared.proofs.Loosened.{Row, fits_pair, loosened, pair}
use Rattle.pbx_shared.proofs.Walks.{guarded, token_walk}
use Rattle.pbx_shared.proofs.Word.{Self, fits_word, told, word, word_ty}
use Rattle.pbx_shared.specs.Block.{alone, block}
use Rattle.pbx_shared.specs.contracts.handle.Handle.take as f
use Rattle.pbx_shared.specs.contracts.handle.Handle.take.Key.{name as #self}
use Rattle.pbx_shared.proofs.handle.Handle.take.Statement.{statement}
use Rattle.pbx_shared.proofs.handle.Handle.take.Code as compiled
use Rattle.pbx_shared.proofs.handle.Handle.take.Code.{code}

pub take_spec : {M : Type 1} → statement M
unfolding code
take_spec 𝓤 𝓛 𝓜 𝓡 wired X L =
    let args : Args = layouts (a_type ∷ []) (X, tt) in
    let body : Fn = inst_fn args compiled.function in
    let Whole : RattleType = Row (block (param 0 X)) global.the_row ghosts in
    let Out : RattleType = result.the_row Whole (Self X) in
    let c = f.clauses X 𝓛 𝓜.mem 𝓡.returns in
    let stayed : Stays (f.ended X).signature.params (f.ended X).kept = (stay_dropped (plain {n = 1} (λ _. Self X)) no, (stay_dropped (plain {n = 1} (λ _. global.the_row)) yes, tt)) in
    token_walk 𝓛 (f.ended X) stayed c (λ κs. ((λ d. word d.ptr ∷ []), ((λ _. heap_val ∷ []), tt))) 𝓜 𝓡
    (Goes-dropped 𝓛 1 (plain (λ _. Self X)) no (λ κs d w. refl), (Goes-dropped 𝓛 1 (plain (λ _. global.the_row)) yes (λ κs d w. refl), tt))
    (λ κs. (told X L, (heap_Tells, tt))) (#self args) body (wired.0.0 (#self args) refl) (λ C Λ κs qs bounds a g.
    let p : Ptr = a.0.ptr in
    let x : X.Denot = a.0.value in
    let y : (walk_of 𝓛 (f.ended X) stayed (guarded 𝓛 (f.ended X) stayed c)).Ghost = ((κs, qs, bounds, a, (word p ∷ [], (heap_val ∷ [], tt))), g) in
    let Post = (walk_of 𝓛 (f.ended X) stayed (guarded 𝓛 (f.ended X) stayed c)).post y in
    let ends : (v : Val) (r : Out.Denot) → IfOk r (λ h. h.value ≡ alone x) → IfErr r (λ h. h.value ≡ x) → Sq 𝓛 (‵ (Out.own_val r (v ∷ [])) ∷ ‵ (ftok every) ∷ (‵ (flft κs.0 qs.0) ⊛ ‵ ftrue) ∷ []) (prop (Post v)) = λ v r ok err.
    use0 𝓛 (raw (fact 𝓤 (IfErr r (λ h. h.value ≡ x)))) (fact_i 𝓤 _ (emp 𝓤) err) $ use0 𝓛 (raw (fact 𝓤 (IfOk r (λ h. h.value ≡ alone x)))) (fact_i 𝓤 _ (emp 𝓤) ok) $ join ! $
    move ! (2 ∷ 0 ∷ []) $ join ! $ nothing ! $ nothing ! $ fjoin ! $ nothing ! $ fjoin ! $ move ! (3 ∷ 0 ∷ 2 ∷ []) $
    by ! (leaves 𝓛 (f.ended X) stayed (guarded 𝓛 (f.ended X) stayed c) y v r (tt, (tt, tt)) (tt, (tt, tt))) in
    qed 𝓛 (((‵ (flft κs.0 qs.0) ⊛ ‵ ftrue) ⊛ ‵ (owns (types_at (f.ended X).signature.params κs) a (word p ∷ [], (heap_val ∷ [], tt)))) ∷ (‵ (ftok every) ⊛ raw ((c κs a).requires g)) ∷ []) ∵
    split ! $ move ! (2 ∷ []) $ split ! $ move ! (3 ∷ []) $ fsplit ! $ fsplit ! $ move ! (2 ∷ []) $ fsplit ! $ keep ! (3 ∷ 4 ∷ 0 ∷ 6 ∷ []) $
    -- [what the handles share; the thread's token; what the allocator owns; the tokens]
    enter ! C Λ body _ _ $ alloc_all ! (λ l. pass_all ! refl (fits_word X p, ((tt, ((tt, tt), tt)), tt)) $
    let En : Env 𝓤 𝓛.H = env body.locals l in
    blocks.handle_opens X L p x ! tt (λ i n b o at fits held. move ! (0 ∷ 1 ∷ 3 ∷ 2 ∷ []) $
    sets ! (is ! (of_opd ! (get_in ! (fld ! refl (stop !)) (sub ! 0 refl (whole !)))) (ap ptr_val at)) refl (tt, tt) $ first ! $ blocks ! $
    sets_last ! (of_opd ! (load ! (through ! refl (fld ! refl (stop !))) (look ! 0 refl))) refl (tt, record { fits = fits }) $ exec ! C Λ En (after 2 body.body) (at_ret En Post) $
    sets ! (of_opd ! (get ! refl)) refl (tt, record { fits = fits }) $ sets ! (bin ! (get ! refl) (lit ! tt) tt) refl (tt, tt) $ first ! $ branches ! (get ! refl)
    (λ others. let same : (Self X).Denot = record { ptr = p; value = x } in
    sets ! (is ! (agg ! (and_then ! (get ! refl) (no_more !))) (ap word (sym at))) refl (fits_word X p) $
    sets ! (agg ! (and_then ! (lit ! tt) (and_then ! (get ! refl) (no_more !)))) refl (some_Good (word_ty X) (word p) (fits_word X p)) $
    held_again X L p x i n b o at ! tt fits $ use1 𝓛 (‵ (Out.own_val (Err same) (live 1 (of_list (word p ∷ [])) ∷ []))) (err_of 𝓛 Whole (Self X) same (word p)) $ move ! (2 ∷ []) $ drop ! $
    returns_within ! Post refl (look_at ! 0 refl) $ free_all ! refl $ ends (live 1 (of_list (word p ∷ []))) (Err same) tt refl)
    (λ last. let all : Whole.Denot = record { at = p; alloc = a.1.0; value = alone x } in let fits₂ = fits_pair (lone global.the_row.mir) p heap_val (tt, ((tt, tt), tt)) in
    skips ! $ exec ! C Λ En (after 5 body.body) (at_ret En Post) $ had_back X L p x i n b o at ! tt a.1.0 (is_so n 1 last) $ move ! (2 ∷ []) $ drop ! $ move ! (2 ∷ []) $ drop ! $
    sets ! (is ! (agg ! (and_then ! (get ! refl) (and_then ! (get ! refl) (no_more !)))) (ap (λ (r : Ptr). pair r heap_val) (sym at))) refl fits₂ $
    sets ! (agg ! (and_then ! (lit ! tt) (and_then ! (get ! refl) (no_more !)))) refl (first_Good (lone Whole.mir) (pair p heap_val) fits₂) $
    move ! (0 ∷ 2 ∷ []) $ loosened (block (param 0 X)) global.the_row ghosts ! all heap_val $
    use1 𝓛 (‵ (Out.own_val (Ok all) (live 0 (of_list (pair p heap_val ∷ [])) ∷ []))) (ok_of 𝓛 Whole (Self X) all (pair p heap_val)) $
    returns ! (look_at ! 0 refl) $ free_all ! refl $ ends (live 0 (of_list (pair p heap_val ∷ []))) (Ok all) refl tt))))
