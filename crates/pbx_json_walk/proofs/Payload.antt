-- A walk over the keys of an `Any` finds the payload that the whole object says.
use Rattle.std.proofs.Common.{◌≡◌, ◌⊎◌, ◌∙◌, ℕ, ◌&&◌, ◌||◌, List, [], ◌∷◌, Bool, true, false, if◌then◌else◌, Option, Some, None, option_and_then, find, Ok, Err, refl, ap, sym, subst, inl, inr}
use Rattle.std.specs.Prelude.{codes}
use Rattle.std.specs.List.{list_all}
use Rattle.std.specs.Cmp.{IsTotalOrder}
use Rattle.std.specs.Ordering.{nat_cmp}
use Rattle.std.specs.Cmp.Lexicographic.{slice_cmp}
use Rattle.std.specs.declared.cmp.Ordering.TheVariants.{Less, Equal}
use Rattle.std.proofs.lemmas.Cmp.{nat_list_cmp_total}
use Rattle.std.proofs.lemmas.Slice.Eq.{bytes_eq-Decides}
use Rattle.pbx_content.specs.Content.{Content, Val}
use Rattle.pbx_content.specs.declared.shape.Kind.{Kind}
use Rattle.pbx_json_meaning.specs.Asked.{one}
use Rattle.pbx_json_meaning.specs.Urls.{is_type_key, is_value_key, is_type_or_value}
use Rattle.pbx_json_meaning.specs.Stands.{Entry, message_in, payload_said}
use Rattle.pbx_json_meaning.specs.declared.kind.JsonKind.TheVariants as fault
use Rattle.pbx_json_meaning.specs.declared.place.Step.TheVariants.{Key as to_key}
use Rattle.pbx_json_walk.specs.Walk.{Answer, Part, here, and_then, at_step, answer_map, message_found, walk_payload, payload_found}
use Rattle.pbx_json_walk.proofs.Agree.{Agrees, along}
use Rattle.pbx_json_walk.proofs.Walked.{AgreeParts}
use Rattle.pbx_json_walk.proofs.Maps.{AboveParts, AscendingParts}
use Rattle.pbx_json_walk.proofs.Keyed.{itself}

-- no key is both
pub type_no_value : (k : List ℕ) → is_type_key k ≡ true → is_value_key k ≡ false
type_no_value k h = ap is_value_key ((bytes_eq-Decides k (codes "@type")).0 h)

pub value_same : (k : List ℕ) → is_value_key k ≡ true → k ≡ codes "value"
value_same k h = (bytes_eq-Decides k (codes "value")).0 h

-- a key above `value` is another
above_value : (k : List ℕ) → slice_cmp nat_cmp (codes "value") k ≡ Less → is_value_key k ≡ false
above_value k h = at (is_value_key k) refl
  where
    at : (b : Bool) → is_value_key k ≡ b → b ≡ false
    at false e = refl
    at true e =
        let bad : Less ≡ Equal = sym h ∙ ap (slice_cmp nat_cmp (codes "value")) (value_same k e) ∙ itself (codes "value") in
        absurd (cc)

none_above : (k : List ℕ) (es : List Entry) (ps : List Part) → AgreeParts es ps → (k ≡ codes "value") ⊎ (slice_cmp nat_cmp (codes "value") k ≡ Less) → AboveParts k ps
    → find (λ e. is_value_key e.key) es ≡ None
none_above k [] [] h at above = refl
none_above k [] (p ∷ ps) h at above = absurd h
none_above k (e ∷ es) [] h at above = absurd h
none_above k (e ∷ es) (p ∷ ps) h at above =
    let lt = next at in
    rw (ap is_value_key h.0 ∙ above_value p.key lt) (none_above p.key es ps h.2 (inr lt) above.1)
  where
    next : (k ≡ codes "value") ⊎ (slice_cmp nat_cmp (codes "value") k ≡ Less) → slice_cmp nat_cmp (codes "value") p.key ≡ Less
    next (inl same) = ap (λ x. slice_cmp nat_cmp x p.key) (sym same) ∙ above.0
    next (inr lt) = IsTotalOrder.trans nat_list_cmp_total (codes "value") k p.key lt above.0

above_ascends : (k : List ℕ) (ps : List Part) → AboveParts k ps → AscendingParts ps
above_ascends k [] h = tt
above_ascends k (p ∷ ps) h = h.1

no_choice : (b : Bool) (o : Option Content) → o ≡ None → (if b then o else None) ≡ None
no_choice true o h = h
no_choice false o h = refl

module _ (skips : Bool) (k : Kind) where
  abbrev value_from : Option Entry → Option Content → Option Content
  value_from None found = found
  value_from (Some e) found = message_in (e.says (one k))

  abbrev others : List Entry → Bool
  others es = list_all (λ e. is_type_or_value e.key) es

  abbrev value_in : List Entry → Option Entry
  value_in es = find (λ e. is_value_key e.key) es

  -- what is said by the keys so far and those that are left
  abbrev said_from : List Entry → Option Content → Option Content
  said_from es found = if skips || others es then value_from (value_in es) found else None

  at_end : (found : Option Content) → Agrees found (payload_found found)
  at_end None = inr refl
  at_end (Some c) = refl

  module _ (e : Entry) (p : Part) (es : List Entry) (ps : List Part) (h : AgreeParts (e ∷ es) (p ∷ ps)) (above : AboveParts p.key ps)
      (ih : (found : Option Content) → Agrees (said_from es found) (and_then (walk_payload skips k ps found) payload_found)) where
    valued : is_value_key p.key ≡ true → (r : Answer (Option Val)) → Agrees (e.says (one k)) r
        → Agrees (if skips || others es then message_in (e.says (one k)) else None)
        (and_then (and_then (at_step (to_key p.key) (answer_map message_found r)) (walk_payload skips k ps)) payload_found)
    valued is (Err x) (inl n) = inl n
    valued is (Err x) (inr n) = inr (no_choice (skips || others es) (message_in (e.says (one k))) (ap message_in n))
    valued is (Ok o) says =
        along (said_from es (message_found o)) _ _
        (ap (λ v. if skips || others es then value_from v (message_found o) else None) (none_above p.key es ps h.2 (inl (value_same p.key is)) above)
        ∙ ap (λ r. if skips || others es then message_in r else None) (sym says))
        (ih (message_found o))

    other : (found : Option Content) (c : Bool) → skips ≡ c
        → Agrees (if c || false then value_from (value_in es) found else None)
        (and_then (and_then (at_step (to_key p.key) (if c then Ok found else here fault.UnknownField)) (walk_payload skips k ps)) payload_found)
    other found true sure = along (said_from es found) _ _ (ap (λ c. if c || others es then value_from (value_in es) found else None) sure) (ih found)
    other found false sure = inr refl

    by_key : (found : Option Content) (a b : Bool) → (a ≡ true → b ≡ false) → is_value_key p.key ≡ b
        → Agrees (if skips || ((a || b) && others es) then value_from (if b then Some e else value_in es) found else None)
        (and_then (and_then (at_step (to_key p.key) (if a then Ok found else if b then answer_map message_found (p.answers (one k)) else if skips then Ok found else here fault.UnknownField))
        (walk_payload skips k ps)) payload_found)
    by_key found true true not_both is = absurd (let bad : true ≡ false = not_both refl in cc)
    by_key found true false not_both is = ih found
    by_key found false true not_both is = valued is (p.answers (one k)) (h.1 (one k))
    by_key found false false not_both is = other found skips refl

    one_key : (found : Option Content) → Agrees (said_from (e ∷ es) found) (and_then (walk_payload skips k (p ∷ ps) found) payload_found)
    one_key found =
        subst (λ (x : List ℕ). Agrees (if skips || (is_type_or_value x && others es) then value_from (if is_value_key x then Some e else value_in es) found else None)
        (and_then (walk_payload skips k (p ∷ ps) found) payload_found))
        (sym h.0) (by_key found (is_type_key p.key) (is_value_key p.key) (type_no_value p.key) refl)

  walked : (es : List Entry) (ps : List Part) → AgreeParts es ps → AscendingParts ps → (found : Option Content)
      → Agrees (said_from es found) (and_then (walk_payload skips k ps found) payload_found)
  walked [] [] h a found = at skips
    where
      at : (b : Bool) → Agrees (if b || true then found else None) (payload_found found)
      at true = at_end found
      at false = at_end found
  walked [] (p ∷ ps) h a found = absurd h
  walked (e ∷ es) [] h a found = absurd h
  walked (e ∷ es) (p ∷ ps) h a found = one_key e p es ps h a (λ f. walked es ps h.2 (above_ascends p.key ps a) f) found

  from_none : (o : Option Entry) → value_from o None ≡ option_and_then (λ e. message_in (e.says (one k))) o
  from_none None = refl
  from_none (Some e) = refl

  -- what the walk over the keys finds is the payload that the object says
  pub payload_agrees : (es : List Entry) (ps : List Part) → AgreeParts es ps → AscendingParts ps
      → Agrees (payload_said skips k es) (and_then (walk_payload skips k ps None) payload_found)
  payload_agrees es ps h a =
      along (said_from es None) (payload_said skips k es) _ (ap (λ o. if skips || others es then o else None) (from_none (value_in es))) (walked es ps h a None)
