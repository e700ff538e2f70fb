-- What the references of a pool name is in the pool.
use Rattle.std.proofs.Common.{◌≡◌, ◌∙◌, ◌⊎◌, ℕ, ◌<◌, not, List, [], ◌∷◌, ◌++◌, length}
use Rattle.std.proofs.Common.{Bool, true, false, Option, Some, None, refl, ap, sym, subst, inl, inr, arith}
use Rattle.std.specs.Prelude.{Contains, IsSome, is_some, option_and_then}
use Rattle.std.specs.List.{list_any, flat_map}
use Rattle.std.proofs.lemmas.Bool.{false≢true}
use Rattle.std.proofs.lemmas.List.Elements.{Contains-append_cases}
use Rattle.std.proofs.lemmas.Option.{get_or_from_slice_get}
use Rattle.pbx_desc_records.specs.declared.field.FieldDescriptorProto.{FieldDescriptorProto}
use Rattle.pbx_desc_records.specs.declared.file.FileDescriptorProto.{FileDescriptorProto}
use Rattle.pbx_desc_records.specs.declared.message.DescriptorProto.{DescriptorProto}
use Rattle.pbx_desc_records.specs.declared.service.MethodDescriptorProto.{MethodDescriptorProto}
use Rattle.pbx_desc_records.specs.declared.service.ServiceDescriptorProto.{ServiceDescriptorProto}
use Rattle.pbx_link_definitions.specs.Definitions.{Part, at, extensions, services, methods, methods_in}
use Rattle.pbx_link_scope.specs.declared.types.Bound.{Bound}
use Rattle.pbx_link_scope.specs.declared.types.Bound.TheVariants.{Message as to_message, Enum as to_enum}
use Rattle.pbx_link_scope.specs.Scope.{bound_if, is_message, visible}
use Rattle.pbx_link_rules_scope.specs.Rules.{places_by, has_bad_type_name, unbound_in_methods, unbound_names}
use Rattle.pbx_link_rules_scope.specs.Rules.{unbound_in_fields, unbound_in_extensions, has_no_extendee, has_no_input, has_no_output}
use Rattle.pbx_link_record.specs.Linked.{exact_by, linked_record}
use Rattle.pbx_link_rules.specs.Breaches.{keeps_rules}
use Rattle.pbx_link_rules.proofs.First.{rule_7}
use Rattle.pbx_link_rules.proofs.RulesKept.{keeps_each}
use Rattle.pbx_link_rules.specs.Pool.{IsLinked, ArePooled}
use Rattle.pbx_link_rules.specs.PoolLaws.{undotted, message_with_file, enum_with_file}
use Rattle.pbx_link_rules.proofs.Lists.{left_nil, right_nil, none_where}
use Rattle.pbx_link_rules.proofs.LinkedParts.{changed_in, extension_linked, extensions_of_linked, method_linked, methods_of_linked}
use Rattle.pbx_link_rules.proofs.Types.{Source, source, not_at}
use Rattle.pbx_link_rules.proofs.References.{extendees_are_there, methods_have_messages}
use Rattle.pbx_link_meaning.specs.Descriptors.{Described, referred, message_of_name, message_referred, enum_of_name, enum_referred}
use Rattle.pbx_link.specs.Tables.{part_at, no_method, no_field}
use Rattle.pbx_link.proofs.Parts.{part_there, contains_piece}
use Rattle.pbx_link.proofs.Named.{message_there, enum_there}

-- ---- exact names have a leading dot

abbrev pub IsDotted : Option (List ℕ) → Type 0
IsDotted name = referred name ≡ Some (undotted name)

exact_dotted : (name : Option (List ℕ)) (b : Option Bound) → not (is_message b) ≡ false → IsDotted (exact_by name b)
exact_dotted name None e = absurd (false≢true (sym e))
exact_dotted name (Some (to_enum p)) e = absurd (false≢true (sym e))
exact_dotted name (Some (to_message p)) e = refl

record AreDotted (m : MethodDescriptorProto) : Type 0 where
  input : IsDotted m.input_type
  output : IsDotted m.output_type

module _ (before : List FileDescriptorProto) (f : FileDescriptorProto) (kept : keeps_rules before f ≡ true) where
  abbrev seen : List FileDescriptorProto
  seen = visible before f

  unbound : unbound_names seen f ≡ []
  unbound = sym (rule_7 before seen f) ∙ keeps_each before f kept 7

  bound_in_extensions : unbound_in_extensions seen f ≡ []
  bound_in_extensions =
      right_nil (unbound_in_fields seen f) (unbound_in_extensions seen f)
      (left_nil (unbound_in_fields seen f ++ unbound_in_extensions seen f) (unbound_in_methods seen f) unbound)

  bound_in_methods : unbound_in_methods seen f ≡ []
  bound_in_methods = right_nil (unbound_in_fields seen f ++ unbound_in_extensions seen f) (unbound_in_methods seen f) unbound

  dotted_extendees : (x : Part FieldDescriptorProto) → Contains (extensions (linked_record before f)) x → IsDotted x.item.extendee
  dotted_extendees x c =
      of_source
      (source (changed_in (extension_linked seen)) (extensions f) x
      (subst (λ (ps : List (Part FieldDescriptorProto)). Contains ps x) (extensions_of_linked seen f) c))
    where
      bad : Part FieldDescriptorProto → Bool
      bad p = has_no_extendee seen p.scope p.item

      none_bad : list_any bad (extensions f) ≡ false
      none_bad =
          none_where bad (λ p. at p 2) (extensions f)
          (right_nil (places_by (has_bad_type_name seen) 6 (extensions f)) (places_by (has_no_extendee seen) 2 (extensions f)) bound_in_extensions)

      of_source : Source (changed_in (extension_linked seen)) (extensions f) x → IsDotted x.item.extendee
      of_source s =
          subst (λ (p : Part FieldDescriptorProto). IsDotted p.item.extendee) s.made
          (exact_dotted s.item.item.extendee (bound_if seen s.item.scope s.item.item.extendee) (not_at bad (extensions f) s.item none_bad s.within))

  dotted_methods : (x : Part MethodDescriptorProto) → Contains (methods (linked_record before f)) x → AreDotted x.item
  dotted_methods x c =
      of_source
      (source (changed_in (method_linked seen)) (methods f) x (subst (λ (ps : List (Part MethodDescriptorProto)). Contains ps x) (methods_of_linked seen f) c))
    where
      no_input : Part MethodDescriptorProto → Bool
      no_input p = has_no_input seen p.scope p.item

      no_output : Part MethodDescriptorProto → Bool
      no_output p = has_no_output seen p.scope p.item

      inputs : list_any no_input (methods f) ≡ false
      inputs = none_where no_input (λ p. at p 2) (methods f) (left_nil _ _ bound_in_methods)

      outputs : list_any no_output (methods f) ≡ false
      outputs =
          none_where no_output (λ p. at p 3) (methods f)
          (right_nil (places_by (has_no_input seen) 2 (methods f)) (places_by (has_no_output seen) 3 (methods f)) bound_in_methods)

      of_source : Source (changed_in (method_linked seen)) (methods f) x → AreDotted x.item
      of_source s =
          let m = s.item.item in
          subst (λ (p : Part MethodDescriptorProto). AreDotted p.item) s.made
          (record {
            input = exact_dotted m.input_type (bound_if seen s.item.scope m.input_type) (not_at no_input (methods f) s.item inputs s.within);
            output = exact_dotted m.output_type (bound_if seen s.item.scope m.output_type) (not_at no_output (methods f) s.item outputs s.within);
          })

-- what holds of each part of a linked record holds of each in a pool
module _ {X : Type 0} (tell : FileDescriptorProto → List X) (Holds : X → Type 0)
    (of_linked : (before : List FileDescriptorProto) (f : FileDescriptorProto) → keeps_rules before f ≡ true → (x : X)
    → Contains (tell (linked_record before f)) x → Holds x) where
  pub in_pool : (before gs : List FileDescriptorProto) → ArePooled before gs → (x : X) → Contains (flat_map tell gs) x → Holds x
  unfolding ArePooled
  in_pool before [] h x c = absurd (omega (arith, c.1))
  in_pool before (g ∷ gs) h x c = by_file_of (Contains-append_cases (tell g) (flat_map tell gs) x c) (λ k. in_pool (before ++ g ∷ []) gs h.1 x k)
    where
      of_file : (f k : FileDescriptorProto) → IsLinked before f k → Contains (tell k) x → Holds x
      of_file f k is d = of_linked before f is.keeps x (subst (λ (l : FileDescriptorProto). Contains (tell l) x) is.is d)

      by_file_of : Contains (tell g) x ⊎ Contains (flat_map tell gs) x → (Contains (flat_map tell gs) x → Holds x) → Holds x
      by_file_of (inl k) ih = of_file h.0.0 g h.0.1 k
      by_file_of (inr k) ih = ih k

-- ---- what is found

pub found_there : (pool p : List FileDescriptorProto) (name n : Option (List ℕ)) (o : Option (Described DescriptorProto))
    → o ≡ message_referred p n → p ≡ pool → n ≡ name
    → IsSome (message_referred pool name) → IsSome o
found_there pool p name n o is other same there =
    subst (λ (r : Option (Described DescriptorProto)). IsSome r)
    (sym (is ∙ ap (λ (q : List FileDescriptorProto). message_referred q n) other ∙ ap (message_referred pool) same)) there

-- ---- parts of a pool

pub part_within : {X : Type 0} (none : X) (ps : List (Part X)) (i : ℕ) → i < length ps → Contains ps (part_at none ps i)
part_within none ps i lt = (i, lt, get_or_from_slice_get ps i (part_at none ps i) (part_at none ps i) (part_there none ps i lt))

-- ---- references

pub referred_there : (pool : List FileDescriptorProto) (name : Option (List ℕ)) → IsDotted name → is_some (message_with_file pool (undotted name)) ≡ true
    → IsSome (message_referred pool name)
referred_there pool None d e = absurd (cc)
referred_there pool (Some []) d e = absurd (cc)
referred_there pool (Some (b ∷ bs)) d e = at_dot (referred (Some (b ∷ bs))) d
  where
    at_dot : (r : Option (List ℕ)) → r ≡ Some bs → IsSome (option_and_then (message_of_name pool) r)
    at_dot r same = subst (λ (o : Option (List ℕ)). IsSome (option_and_then (message_of_name pool) o)) (sym same) (message_there pool bs e)

pub enum_referred_there : (pool : List FileDescriptorProto) (name : Option (List ℕ)) → IsDotted name → is_some (enum_with_file pool (undotted name)) ≡ true
    → IsSome (enum_referred pool name)
enum_referred_there pool None d e = absurd (cc)
enum_referred_there pool (Some []) d e = absurd (cc)
enum_referred_there pool (Some (b ∷ bs)) d e = at_dot (referred (Some (b ∷ bs))) d
  where
    at_dot : (r : Option (List ℕ)) → r ≡ Some bs → IsSome (option_and_then (enum_of_name pool) r)
    at_dot r same = subst (λ (o : Option (List ℕ)). IsSome (option_and_then (enum_of_name pool) o)) (sym same) (enum_there pool bs e)

module _ (pool : List FileDescriptorProto) (pooled : ArePooled [] pool) (file : FileDescriptorProto) (held : Contains pool file) where
  method_held : (p : Part ServiceDescriptorProto) (i : ℕ) → Contains (services file) p → i < length (methods_in p)
      → Contains (flat_map methods pool) (part_at no_method (methods_in p) i)
  method_held p i c lt =
      contains_piece methods pool file (part_at no_method (methods_in p) i) held
      (contains_piece methods_in (services file) p (part_at no_method (methods_in p) i) c (part_within no_method (methods_in p) i lt))

  pub has_input : (p : Part ServiceDescriptorProto) (i : ℕ) → Contains (services file) p → i < length (methods_in p)
      → IsSome (message_referred pool (part_at no_method (methods_in p) i).item.input_type)
  has_input p i c lt =
      let x : Part MethodDescriptorProto = part_at no_method (methods_in p) i in
      let k = method_held p i c lt in
      referred_there pool x.item.input_type (in_pool methods (λ m. AreDotted m.item) dotted_methods [] pool pooled x k).input
      (methods_have_messages pool x pooled k).input

  pub has_output : (p : Part ServiceDescriptorProto) (i : ℕ) → Contains (services file) p → i < length (methods_in p)
      → IsSome (message_referred pool (part_at no_method (methods_in p) i).item.output_type)
  has_output p i c lt =
      let x : Part MethodDescriptorProto = part_at no_method (methods_in p) i in
      let k = method_held p i c lt in
      referred_there pool x.item.output_type (in_pool methods (λ m. AreDotted m.item) dotted_methods [] pool pooled x k).output
      (methods_have_messages pool x pooled k).output

  pub has_extendee : (i : ℕ) → i < length (extensions file) → IsSome (message_referred pool (part_at no_field (extensions file) i).item.extendee)
  has_extendee i lt =
      let x : Part FieldDescriptorProto = part_at no_field (extensions file) i in
      let k = contains_piece extensions pool file x held (part_within no_field (extensions file) i lt) in
      referred_there pool x.item.extendee (in_pool extensions (λ m. IsDotted m.item.extendee) dotted_extendees [] pool pooled x k)
      (extendees_are_there pool x pooled k)
