-- How a refusal goes up a tree.
use Rattle.std.proofs.Common.{◌≡◌, inl, inr, List, [], ◌∷◌, reverse, true, false, None, Result, Ok, Err, IfOk, IsOkAnd, IfErr, ℕ, ap, subst, ◌∙◌}
use Rattle.std.proofs.lemmas.List.{reverse-append}
use Rattle.serde_json.specs.Data.{Members}
use Rattle.serde_json.specs.declared.value.Value.{Value}
use Rattle.pbx_content.specs.Content.{Val}
use Rattle.pbx_content.specs.declared.shape.Kind.{Kind}
use Rattle.pbx_content.specs.declared.shape.Shape.{Shape}
use Rattle.pbx_json_meaning.specs.Asked.{one}
use Rattle.pbx_json_meaning.specs.Canonical.{tells, has_key}
use Rattle.pbx_json_meaning.specs.WriteFaults.{WriteFaultAt}
use Rattle.pbx_json_meaning.specs.declared.kind.JsonKind.{JsonKind}
use Rattle.pbx_json_meaning.specs.declared.kind.JsonKind.TheVariants as fault
use Rattle.pbx_json_meaning.specs.Canonical.{Writing}
use Rattle.pbx_json_meaning.specs.declared.place.Step.{Step}
use Rattle.pbx_json_meaning.specs.declared.place.Step.TheVariants.{Key}
use Rattle.pbx_json_writing.specs.declared.refusal.Refusal.{Refusal}
use Rattle.pbx_json_writing.specs.declared.refusal.Refusal.TheVariants as refused
use Rattle.pbx_json_writing.specs.Refusals.{Holds, Refused, IsLifted, IsAtKey, IsPassedOn, IsMemberRefused}

-- what is known of a value that was written
pub both_ok : {X E : Type 0} (P Q : X → Type 0) (written : Result X E) → IfOk written P → IsOkAnd written Q → (x : X) × P x × Q x
both_ok P Q (Ok x) p q = (x, p, q)
both_ok P Q (Err e) p q = absurd q

module _ (shape : Shape) (o : Writing) (v : Val) (k : Kind) where
  -- the value has no tree, and where it is one of the kind, the rule is broken at the place
  abbrev pub Stops : JsonKind → List Step → Type 0
  Stops rule place = (tells shape o v (one k) ≡ None) × (Holds shape k v → WriteFaultAt shape o place v (one k) rule)

  pub refused_here : (rule : JsonKind) (r : Refusal) → r ≡ refused.Rule rule [] → Stops rule [] → Refused shape o v k r
  refused_here rule r is stops = rw is stops

  pub refused_key : (key : List ℕ) (rule : JsonKind) (r : Refusal) → IsAtKey key rule r → Stops rule (Key key ∷ []) → Refused shape o v k r
  refused_key key rule refused.Memory at stops = tt
  refused_key key rule (refused.Rule j steps) at stops = rw (at.0, at.1) stops

  pub refused_lifted : (step : Step) (below r : Refusal) → IsLifted step below r
      → ((rule : JsonKind) (inner : List Step) → below ≡ refused.Rule rule inner → Stops rule (step ∷ reverse inner)) → Refused shape o v k r
  refused_lifted step below refused.Memory lifted stops = tt
  refused_lifted step below (refused.Rule rule steps) lifted stops =
      let turned : reverse steps ≡ step ∷ reverse lifted.0 = ap reverse lifted.2 ∙ reverse-append lifted.0 (step ∷ []) in
      rw turned (stops rule lifted.0 lifted.1)

  pub refused_passed : (step : Step) (written : Result Value Refusal) (r : Refusal) → IsPassedOn step written r
      → ((rule : JsonKind) (inner : List Step) → written ≡ Err (refused.Rule rule inner) → Stops rule (step ∷ reverse inner)) → Refused shape o v k r
  refused_passed step (Ok tree) r h inside = rw h tt
  refused_passed step (Err below) r h inside = refused_lifted step below r h (λ rule inner is. inside rule inner (ap Err is))

  pub refused_member : (key : List ℕ) (written : Result Value Refusal) (ms : Members) (r : Refusal) → IsMemberRefused key written ms r
      → (has_key key ms ≡ true → Stops fault.DuplicateField (Key key ∷ []))
      → (has_key key ms ≡ false → (rule : JsonKind) (inner : List Step) → written ≡ Err (refused.Rule rule inner) → Stops rule (Key key ∷ reverse inner))
      → Refused shape o v k r
  refused_member key written ms r (inl h) twice inside = refused_key key fault.DuplicateField r h.1 (twice h.0)
  refused_member key written ms r (inr h) twice inside = refused_passed (Key key) written r h.1 (inside h.0)

  -- what a callee that refuses says of its value
  pub stops_of : (written : Result Value Refusal) (rule : JsonKind) (inner : List Step) → IfErr written (Refused shape o v k)
      → written ≡ Err (refused.Rule rule inner) → Stops rule (reverse inner)
  stops_of (Ok tree) rule inner h is = absurd (cc)
  stops_of (Err below) rule inner h is = let same : below ≡ refused.Rule rule inner = cc in subst (Refused shape o v k) same h
