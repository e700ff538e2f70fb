-- A walk that has the thread's token: what a non-atomic invariant is opened with. Assumes `Logic`.
--     guarded      a contract with the token asked and given back.        token_walk      a function meets its contract, from a walk to the guarded one
use Rattle.std.proofs.Common.{subst}
use seplogic.Ra.Ura.{Ura}
use mir.Syntax.{Callee, Fn}
use base.Logic.{ent, sep}
use base.Mask.{every}
use prog.Model.{Model}
use prog.Routine.{over, ◌≼⁺◌}
use prog.Wp.{Calls, Loops, Tables, WpFn}
use types.Logic.{Logic}
use contract.Beside.{Carries}
use contract.Lifetimes.{AllOutlive, Lfts, Shares}
use contract.Named.{bare_unfolds}
use contract.Running.{Running, bare_tables, tables_of}
use sound.WpLaws.{WpFn-mono}
use denote.Laws.{Ises, Spells, Tellss, valss}
use denote.RattleType.{flat}
use denote.Signature.{Signature, types_at}
use denote.Triple.Clauses.{Clauses, Ended, closing}
use denote.Triple.Entry.{Args, on_entry}
use denote.Triple.Handed.{hands, holding}
use denote.Triple.Spec.{Meets, triple_of}
use denote.Triple.Table.{entered}
use denote.Triple.Walked.{AllGo, Stays, walk_Meets, walk_of, walked}

module _ {M : Type 1} {𝓤 : Ura M} (𝓛 : Logic 𝓤) (E : Ended) (stayed : Stays E.signature.params E.kept) (c : Clauses 𝓤 E) where
  open 𝓛 use {A, H}

  abbrev S : Signature
  S = E.signature

  abbrev pub guarded : Clauses 𝓤 E
  guarded = holding 𝓤 E (A.tok every) c

  module _ (sp : (κs : Lfts S.lifetimes) → Spells (types_at S.params κs)) where
    -- a walk from the values passed, over any tables
    abbrev pub Walk : Fn → Type 2
    Walk e = (C : Calls 𝓤 H) (Λ : Loops 𝓤 H) (κs : Lfts S.lifetimes) (qs : Shares S.lifetimes) (bounds : AllOutlive S.lifetimes S.outlives κs) (a : Args S κs) (g : (c κs a).ghost)
        → let vss = valss (types_at S.params κs) (sp κs) a in
        ent 𝓤 (sep 𝓤 (on_entry 𝓛 S κs qs a vss) (sep 𝓤 (A.tok every) ((c κs a).requires g)))
        (WpFn 𝓤 H C Λ e (flat (types_at S.params κs) vss) ((walk_of 𝓛 E stayed guarded).post ((κs, qs, bounds, a, vss), g)))

    pub token_walk : (𝓜 : Model 𝓤 H) (𝓡 : Running 𝓤 H 𝓜) → AllGo 𝓛 S.lifetimes S.params E.kept stayed
        → ((κs : Lfts S.lifetimes) → Tellss (types_at S.params κs) (Ises (types_at S.params κs)) (sp κs))
        → (name : Callee) (e : Fn) → over 𝓡.env e ≼⁺ 𝓡.env name → Walk e → Meets 𝓛 S (𝓡.run (𝓡.env name)) (closing 𝓛 E c)
    unfolding tables_of
    token_walk 𝓜 𝓡 go tells name e wired walk =
        let 𝓒 : Carries 𝓤 H 𝓜 (A.tok every) = subst (Carries 𝓤 H 𝓜) 𝓛.turn_is 𝓡.carries in
        let bare = bare_tables 𝓤 H 𝓒.inner 𝓡.allowed 𝓡.how 𝓡.env in
        let 𝓣 : Tables 𝓤 H = tables_of 𝓤 H 𝓒.inner bare in
        let run = WpFn 𝓤 H 𝓣.C 𝓣.Λ e in
        hands 𝓛 E (A.tok every) c 𝓜 𝓒 𝓡 (𝓡.env name)
        (entered 𝓤 H (triple_of 𝓛 S (closing 𝓛 E guarded)) 𝓣.C 𝓣.Λ name e (bare_unfolds 𝓤 H 𝓒.inner 𝓡.allowed 𝓡.how 𝓡.env name e wired)
        (walk_Meets 𝓛 E stayed go guarded run (WpFn-mono 𝓤 H 𝓛.laws 𝓣 e) (walked 𝓛 E stayed guarded run sp tells (λ κs qs bounds a g are. walk 𝓣.C 𝓣.Λ κs qs bounds a g))))
