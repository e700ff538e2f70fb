-- The messages and enums to which records of a pool refer are in the pool.
use Rattle.std.proofs.Common.{◌≡◌, ◌∙◌, ◌⊎◌, ℕ, not, List, [], ◌∷◌, ◌++◌}
use Rattle.std.proofs.Common.{Bool, true, false, Option, Some, None, refl, sym, subst, inl, inr, arith}
use Rattle.std.specs.Prelude.{Contains, is_some}
use Rattle.std.specs.List.{list_any, flat_map}
use Rattle.std.proofs.lemmas.Bool.{false≢true}
use Rattle.std.proofs.lemmas.List.{append_assoc}
use Rattle.std.proofs.lemmas.List.Elements.{Contains-append_cases}
use Rattle.pbx_desc_records.specs.declared.field.FieldDescriptorProto.{FieldDescriptorProto}
use Rattle.pbx_desc_records.specs.declared.file.FileDescriptorProto.{FileDescriptorProto}
use Rattle.pbx_desc_records.specs.declared.service.MethodDescriptorProto.{MethodDescriptorProto}
use Rattle.pbx_link_definitions.specs.Definitions.{Part, at, message_name, messages, extensions, methods}
use Rattle.pbx_link_scope.specs.declared.types.Bound.{Bound}
use Rattle.pbx_link_scope.specs.declared.types.Bound.TheVariants.{Message as to_message, Enum as to_enum}
use Rattle.pbx_link_scope.specs.Scope.{types, bound_if, is_message}
use Rattle.pbx_link_scope.specs.Scope.{visible}
use Rattle.pbx_link_rules_field.specs.Rules.{all_fields}
use Rattle.pbx_link_rules_scope.specs.Rules.{places_by, has_bad_type_name, unbound_in_methods, unbound_names}
use Rattle.pbx_link_rules_scope.specs.Rules.{unbound_in_fields, unbound_in_extensions, has_no_extendee, has_no_input, has_no_output}
use Rattle.pbx_link_record.specs.Linked.{exact_by, exact, linked_record}
use Rattle.pbx_link_rules.specs.Breaches.{keeps_rules}
use Rattle.pbx_link_rules.proofs.First.{rule_7}
use Rattle.pbx_link_rules.proofs.RulesKept.{keeps_each}
use Rattle.pbx_link_rules.specs.Pool.{IsLinked, ArePooled}
use Rattle.pbx_link_rules.specs.PoolLaws.{undotted, message_with_file, HasType, HasMessages}
use Rattle.pbx_link_rules.specs.PoolLaws.{TypesAreThere, ExtendeesAreThere, MethodsHaveMessages}
use Rattle.pbx_link_rules.proofs.Lists.{or_left, left_nil, right_nil, none_where}
use Rattle.pbx_link_rules.proofs.Named.{same_name}
use Rattle.pbx_link_rules.proofs.LinkedParts.{changed_in, extension_linked, extensions_of_linked, method_linked, methods_of_linked}
use Rattle.pbx_link_rules.proofs.Types.{Source, source, any_of, not_at, told_joined, told_seen, is_there, message_named, message_bound}
use Rattle.pbx_link_rules.proofs.Types.{messages_kept, message_types, bound_there, linked_have_types}

-- ---- references to messages

module _ (before : List FileDescriptorProto) (f : FileDescriptorProto) (kept : keeps_rules before f ≡ true) (after : List FileDescriptorProto) where
  abbrev seen : List FileDescriptorProto
  seen = visible before f

  abbrev whole : List FileDescriptorProto
  whole = before ++ linked_record before f ∷ [] ++ after

  abbrev IsThere : Option (List ℕ) → Type 0
  IsThere name = is_some (message_with_file whole (undotted name)) ≡ true

  seen_there : (name : Option (List ℕ)) (b : Option Bound) → not (is_message b) ≡ false → ((t : Bound) → b ≡ Some t → Contains (types seen) t)
      → IsThere (exact_by name b)
  seen_there name None e has = absurd (false≢true (sym e))
  seen_there name (Some (to_enum p)) e has = absurd (false≢true (sym e))
  seen_there name (Some (to_message p)) e has =
      let q : List ℕ = message_name p in
      is_there messages (message_named q) whole
      (told_joined messages (message_named q) (before ++ linked_record before f ∷ []) after
      ∙ or_left _ _ (told_seen messages (message_named q) before f (linked_record before f) (messages_kept q seen f)
      (sym (message_types q seen) ∙ any_of (message_bound q) (types seen) (to_message p) (has (to_message p) refl) (same_name q))))

  message_there : (scope : List ℕ) (name : Option (List ℕ)) → not (is_message (bound_if seen scope name)) ≡ false → IsThere (exact seen scope name)
  message_there scope name e = seen_there name (bound_if seen scope name) e (λ t g. bound_there seen t scope name g)

  unbound : unbound_names seen f ≡ []
  unbound = sym (rule_7 before seen f) ∙ keeps_each before f kept 7

  bound_in_extensions : unbound_in_extensions seen f ≡ []
  bound_in_extensions =
      right_nil (unbound_in_fields seen f) (unbound_in_extensions seen f)
      (left_nil (unbound_in_fields seen f ++ unbound_in_extensions seen f) (unbound_in_methods seen f) unbound)

  bound_in_methods : unbound_in_methods seen f ≡ []
  bound_in_methods = right_nil (unbound_in_fields seen f ++ unbound_in_extensions seen f) (unbound_in_methods seen f) unbound

  linked_have_extendees : (x : Part FieldDescriptorProto) → Contains (extensions (linked_record before f)) x → IsThere x.item.extendee
  linked_have_extendees x c =
      of_source
      (source (changed_in (extension_linked seen)) (extensions f) x
      (subst (λ (ps : List (Part FieldDescriptorProto)). Contains ps x) (extensions_of_linked seen f) c))
    where
      bad : Part FieldDescriptorProto → Bool
      bad p = has_no_extendee seen p.scope p.item

      none_bad : list_any bad (extensions f) ≡ false
      none_bad =
          none_where bad (λ p. at p 2) (extensions f)
          (right_nil (places_by (has_bad_type_name seen) 6 (extensions f)) (places_by (has_no_extendee seen) 2 (extensions f)) bound_in_extensions)

      of_source : Source (changed_in (extension_linked seen)) (extensions f) x → IsThere x.item.extendee
      of_source s =
          subst (λ (p : Part FieldDescriptorProto). IsThere p.item.extendee) s.made
          (message_there s.item.scope s.item.item.extendee (not_at bad (extensions f) s.item none_bad s.within))

  linked_have_messages : (x : Part MethodDescriptorProto) → Contains (methods (linked_record before f)) x → HasMessages whole x.item
  linked_have_messages x c =
      of_source
      (source (changed_in (method_linked seen)) (methods f) x (subst (λ (ps : List (Part MethodDescriptorProto)). Contains ps x) (methods_of_linked seen f) c))
    where
      no_input : Part MethodDescriptorProto → Bool
      no_input p = has_no_input seen p.scope p.item

      no_output : Part MethodDescriptorProto → Bool
      no_output p = has_no_output seen p.scope p.item

      inputs : list_any no_input (methods f) ≡ false
      inputs = none_where no_input (λ p. at p 2) (methods f) (left_nil _ _ bound_in_methods)

      outputs : list_any no_output (methods f) ≡ false
      outputs =
          none_where no_output (λ p. at p 3) (methods f)
          (right_nil (places_by (has_no_input seen) 2 (methods f)) (places_by (has_no_output seen) 3 (methods f)) bound_in_methods)

      of_source : Source (changed_in (method_linked seen)) (methods f) x → HasMessages whole x.item
      of_source s =
          subst (λ (p : Part MethodDescriptorProto). HasMessages whole p.item) s.made
          (record {
            input = message_there s.item.scope s.item.item.input_type (not_at no_input (methods f) s.item inputs s.within);
            output = message_there s.item.scope s.item.item.output_type (not_at no_output (methods f) s.item outputs s.within);
          })

-- ---- all files of a pool

-- what holds of each part of a linked record, among the files before it and any after it, holds of each in a pool
module _ {X : Type 0} (tell : FileDescriptorProto → List X) (Holds : List FileDescriptorProto → X → Type 0)
    (of_linked : (before : List FileDescriptorProto) (f : FileDescriptorProto) → keeps_rules before f ≡ true → (after : List FileDescriptorProto) (x : X)
    → Contains (tell (linked_record before f)) x → Holds (before ++ linked_record before f ∷ [] ++ after) x) where
  in_pool : (before gs : List FileDescriptorProto) → ArePooled before gs → (x : X) → Contains (flat_map tell gs) x → Holds (before ++ gs) x
  unfolding ArePooled
  in_pool before [] h x c = absurd (omega (arith, c.1))
  in_pool before (g ∷ gs) h x c = by_file_of (Contains-append_cases (tell g) (flat_map tell gs) x c) (λ k. in_pool (before ++ g ∷ []) gs h.1 x k)
    where
      joined : before ++ g ∷ [] ++ gs ≡ before ++ g ∷ gs
      joined = append_assoc before (g ∷ []) gs

      of_file : (f k : FileDescriptorProto) → IsLinked before f k → Contains (tell k) x → Holds (before ++ k ∷ [] ++ gs) x
      of_file f k is d =
          subst (λ (l : FileDescriptorProto). Holds (before ++ l ∷ [] ++ gs) x) (sym is.is)
          (of_linked before f is.keeps gs x (subst (λ (l : FileDescriptorProto). Contains (tell l) x) is.is d))

      by_file_of : Contains (tell g) x ⊎ Contains (flat_map tell gs) x → (Contains (flat_map tell gs) x → Holds (before ++ g ∷ [] ++ gs) x)
          → Holds (before ++ g ∷ gs) x
      by_file_of (inl k) ih = subst (λ (fs : List FileDescriptorProto). Holds fs x) joined (of_file h.0.0 g h.0.1 k)
      by_file_of (inr k) ih = subst (λ (fs : List FileDescriptorProto). Holds fs x) joined (ih k)

pub types_are_there : TypesAreThere
types_are_there files x h c = in_pool all_fields (λ fs p. HasType fs p.item) linked_have_types [] files h x c

pub extendees_are_there : ExtendeesAreThere
extendees_are_there files x h c =
    in_pool extensions (λ fs p. is_some (message_with_file fs (undotted p.item.extendee)) ≡ true) linked_have_extendees [] files h x c

pub methods_have_messages : MethodsHaveMessages
methods_have_messages files x h c = in_pool methods (λ fs m. HasMessages fs m.item) linked_have_messages [] files h x c
