-- Each text and each key of a tree is UTF-8.
use Rattle.std.proofs.Common.{◌≡◌, List, [], ◌∷◌, map, String, Global, string_bytes, true, sym, rules, subst}
use Rattle.std.specs.Str.{is_utf8}
use Rattle.std.proofs.lemmas.Str.{IsUtf8-string_bytes, is_utf8-from_IsUtf8}
use Rattle.serde_json.specs.Data.{Data}
use Rattle.serde_json.specs.View.{view, view_step, items_of, members_of}
use Rattle.serde_json.specs.declared.value.Value.{Value, ind-Value, map-Value, roll-Value, the_lemmas}
use Rattle.serde_json.specs.declared.value.Value.TheOpen.{Value-F}
use Rattle.pbx_json_meaning.specs.Trees.{HasTexts, HaveTexts, MembersHaveTexts}

abbrev Has : Value → Type 0
Has v = HasTexts (view v)

utf8 : (s : String Global) → is_utf8 (string_bytes s) ≡ true
utf8 s = is_utf8-from_IsUtf8 (string_bytes s) (IsUtf8-string_bytes s)

module _ {X : Type 0} (value : X → Value) (has : (x : X) → Has (value x)) where
  items : (xs : List X) → HaveTexts (items_of (map view (map value xs)))
  items [] = tt
  items (x ∷ xs) = (has x, items xs)

  members : (ms : List (String Global × X)) → MembersHaveTexts (members_of (map (λ (m : String Global × Value). (m.0, view m.1)) (map (λ (m : String Global × X). (m.0, value m.1)) ms)))
  members [] = tt
  members (m ∷ ms) = (utf8 m.0, has m.1, members ms)

  step : (inside : Value-F X) → HasTexts (view_step (map-Value Value Data view (map-Value X Value value inside)))
  step Value-F.Null = tt
  step (Value-F.Bool b) = tt
  step (Value-F.Number x) = tt
  step (Value-F.String s) = utf8 s
  step (Value-F.Array v) = items v.items
  step (Value-F.Object m) = members m.entries

rolled : (o : Value-F Value) → HasTexts (view_step (map-Value Value Data view o)) → Has (roll-Value o)
rolled o h = subst HasTexts (sym (folded o)) h
  where
    folded : (o : Value-F Value) → view (roll-Value o) ≡ view_step (map-Value Value Data view o)
    folded o = search (rules, the_lemmas)

pub value_has_texts : (v : Value) → HasTexts (view v)
value_has_texts = ind-Value Has (λ o inside e. rolled o (subst (λ (p : Value-F Value). HasTexts (view_step (map-Value Value Data view p))) e (step (λ s. s.0) (λ s. s.1) inside)))
