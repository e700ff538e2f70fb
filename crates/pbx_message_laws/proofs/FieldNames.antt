-- The names of the fields of a pool are identifiers, so that the name in the shape of a field is that of its record.
use Rattle.std.proofs.Common.{◌≡◌, ◌∙◌, ℕ, not, ◌&&◌, cond, List, [], ◌∷◌, ◌++◌, map, Bool, true, false, Option, Some, None, refl, ap, sym, subst}
use Rattle.std.specs.Prelude.{pos, Contains, find, option_map, is_none}
use Rattle.std.specs.List.{list_any, flat_map}
use Rattle.std.specs.Str.{bytes_eq}
use Rattle.std.proofs.lemmas.Grind.{flat_map-append}
use Rattle.std.proofs.lemmas.List.Folds.{list_any-append}
use Rattle.pbx_content.specs.declared.shape.FieldShape.{FieldShape}
use Rattle.pbx_desc_records.specs.declared.field.FieldDescriptorProto.{FieldDescriptorProto}
use Rattle.pbx_desc_records.specs.declared.file.FileDescriptorProto.{FileDescriptorProto}
use Rattle.pbx_desc_records.specs.declared.message.DescriptorProto.{DescriptorProto}
use Rattle.pbx_link_definitions.specs.Names.{text_or_empty, is_named, is_ident}
use Rattle.pbx_link_definitions.specs.Definitions.{Place, Part, Defined, name_place, fields_in, nested_in, messages_from, messages, fields}
use Rattle.pbx_link_definitions.specs.Definitions.{definitions, definitions_from, before_nested, after_nested, field_definition}
use Rattle.pbx_link_definitions.specs.Definitions.{enum_definitions, service_definitions, top_messages, top_enums, top_extensions, services}
use Rattle.pbx_link_definitions.specs.Places.{places_where, place_if}
use Rattle.pbx_link_definitions.specs.declared.definitions.Sort.TheVariants.{Field as a_field, Extension as an_extension}
use Rattle.pbx_link_definitions.proofs.Told.{Each, ind_part, messages_from_at, definitions_from_at}
use Rattle.pbx_link_scope.specs.Scope.{visible}
use Rattle.pbx_link_record.specs.Linked.{linked_record}
use Rattle.pbx_link_rules_record.specs.FileRules.{is_bad_package, is_bad_name, bad_names}
use Rattle.pbx_link_rules.specs.Breaches.{keeps_rules}
use Rattle.pbx_link_rules.proofs.First.{rule_4}
use Rattle.pbx_link_rules.proofs.RulesKept.{keeps_each}
use Rattle.pbx_link_rules.specs.Pool.{ArePooled}
use Rattle.pbx_link_rules.proofs.Lists.{neither, no_other, right_nil, none_where, any_mapped, here, there}
use Rattle.pbx_link_rules.proofs.LinkedParts.{changed_in, field_linked, fields_of_linked}
use Rattle.pbx_link_rules.proofs.Types.{source, not_at}
use Rattle.pbx_link_meaning.specs.Descriptors.{Described, described, fields_of_message, extensions_of_message, with_name}
use Rattle.pbx_link_meaning.specs.Shapes.{field_shape, extension_shape}
use Rattle.pbx_link_meaning.proofs.Lists.{told_of, is_told}
use Rattle.pbx_message_laws.specs.Pools.{IsPooled, NamedIsField}
use Rattle.pbx_message_laws.proofs.Placed.{message_is_placed}

-- the name of a field is missing or no identifier
abbrev is_unnamed : Part FieldDescriptorProto → Bool
is_unnamed p = not (is_ident (text_or_empty p.item.name))

-- ---- fields among definitions

none_in : {X : Type 0} (test : X → Bool) (xs ys : List X) → list_any test (xs ++ ys) ≡ false → (list_any test xs ≡ false) × (list_any test ys ≡ false)
none_in test xs ys h = neither (list_any test xs) (list_any test ys) (sym (list_any-append test xs ys) ∙ h)

abbrev Holds : Part DescriptorProto → Type 0
Holds p = list_any is_bad_name (definitions_from p) ≡ false → list_any is_unnamed (flat_map fields_in (messages_from p)) ≡ false

nested_named : (ps : List (Part DescriptorProto)) → Each Holds ps → list_any is_bad_name (flat_map definitions_from ps) ≡ false
    → list_any is_unnamed (flat_map fields_in (flat_map messages_from ps)) ≡ false
nested_named [] each h = refl
nested_named (p ∷ ps) each h =
    let both = none_in is_bad_name (definitions_from p) (flat_map definitions_from ps) h in
    let own : Holds p = each.0 in
    ap (list_any is_unnamed) (flat_map-append fields_in (messages_from p) (flat_map messages_from ps))
    ∙ list_any-append is_unnamed (flat_map fields_in (messages_from p)) (flat_map fields_in (flat_map messages_from ps))
    ∙ no_other _ _ (own both.0) (nested_named ps each.1 both.1)

message_named : (p : Part DescriptorProto) → Each Holds (nested_in p) → Holds p
message_named p inside h =
    let nested : List Defined = flat_map definitions_from (nested_in p) in
    let all : list_any is_bad_name (before_nested p ++ nested ++ after_nested p) ≡ false = sym (ap (list_any is_bad_name) (definitions_from_at p)) ∙ h in
    let both = none_in is_bad_name (before_nested p) nested (none_in is_bad_name (before_nested p ++ nested) (after_nested p) all).0 in
    let own : list_any is_bad_name (map (field_definition a_field) (fields_in p)) ≡ false = (neither _ _ both.0).1 in
    ap (λ (ms : List (Part DescriptorProto)). list_any is_unnamed (flat_map fields_in ms)) (messages_from_at p)
    ∙ list_any-append is_unnamed (fields_in p) (flat_map fields_in (flat_map messages_from (nested_in p)))
    ∙ no_other _ _ (sym (any_mapped is_bad_name (field_definition a_field) (fields_in p)) ∙ own) (nested_named (nested_in p) inside both.1)

each_holds : (ps : List (Part DescriptorProto)) → Each Holds ps
each_holds [] = tt
each_holds (p ∷ ps) = (ind_part Holds message_named p, each_holds ps)

-- ---- a record that keeps the rules

module _ (before : List FileDescriptorProto) (f : FileDescriptorProto) (kept : keeps_rules before f ≡ true) where
  abbrev seen : List FileDescriptorProto
  seen = visible before f

  none_bad : bad_names f ≡ []
  none_bad = sym (rule_4 before seen f) ∙ keeps_each before f kept 4

  definitions_named : list_any is_bad_name (definitions f) ≡ false
  definitions_named =
      let others : List Place = place_if (is_none f.name) (pos 1 ∷ []) ++ place_if (is_bad_package f.«package») (pos 2 ∷ []) in
      none_where is_bad_name name_place (definitions f) (right_nil others (places_where is_bad_name name_place (definitions f)) none_bad)

  fields_named : list_any is_unnamed (fields f) ≡ false
  fields_named =
      let tops : List Defined = flat_map definitions_from (top_messages f) in
      let enums : List Defined = flat_map enum_definitions (top_enums f) in
      let calls : List Defined = flat_map service_definitions (services f) in
      let last : List Defined = map (field_definition an_extension) (top_extensions f) in
      let most = (none_in is_bad_name (tops ++ enums ++ calls) last definitions_named).0 in
      let types = (none_in is_bad_name (tops ++ enums) calls most).0 in
      nested_named (top_messages f) (each_holds (top_messages f)) (none_in is_bad_name tops enums types).0

  linked_named : list_any is_unnamed (fields (linked_record before f)) ≡ false
  linked_named =
      ap (list_any is_unnamed) (fields_of_linked seen f) ∙ any_mapped is_unnamed (changed_in (field_linked seen)) (fields f) ∙ fields_named

-- ---- a pool

pool_named : (before gs : List FileDescriptorProto) → ArePooled before gs → list_any is_unnamed (flat_map fields gs) ≡ false
unfolding ArePooled
pool_named before [] h = refl
pool_named before (g ∷ gs) h =
    list_any-append is_unnamed (fields g) (flat_map fields gs)
    ∙ no_other _ _ (ap (λ (k : FileDescriptorProto). list_any is_unnamed (fields k)) h.0.1.is ∙ linked_named before h.0.0 h.0.1.keeps)
    (pool_named (before ++ g ∷ []) gs h.1)

pub field_named : (d : Described DescriptorProto) → IsPooled d → (x : Described FieldDescriptorProto) → Contains (fields_of_message d) x → is_unnamed x.part ≡ false
field_named d of x c =
    let t = told_of (λ (f : FileDescriptorProto). map (described d.pool f) (messages f)) d.pool d of.within in
    let m = source (described d.pool t.holder) (messages t.holder) d t.inside in
    let own = source (described d.pool d.file) (fields_in d.part) x c in
    let same : d.part ≡ m.item = ap (λ (e : Described DescriptorProto). e.part) (sym m.made) in
    let inside : Contains (fields_in m.item) own.item = subst (λ (p : Part DescriptorProto). Contains (fields_in p) own.item) same own.within in
    subst (λ (y : Described FieldDescriptorProto). is_unnamed y.part ≡ false) own.made
    (not_at is_unnamed (flat_map fields d.pool) own.item (pool_named [] d.pool of.pooled)
    (is_told fields d.pool t.holder own.item t.within (is_told fields_in (messages t.holder) m.item own.item m.within inside)))

-- ---- fields by name

module _ (name : List ℕ) where
  abbrev is_it : FieldShape → Bool
  is_it g = not g.is_extension && bytes_eq g.name name

  no_extension : (es : List (Described FieldDescriptorProto)) → find is_it (map extension_shape es) ≡ None
  no_extension [] = refl
  no_extension (e ∷ es) = no_extension es

  same_test : (o : Option (List ℕ)) → not (is_ident (text_or_empty o)) ≡ false → bytes_eq (text_or_empty o) name ≡ is_named o name
  same_test None h = absurd cc
  same_test (Some text) h = refl

  first_named : (es xs : List (Described FieldDescriptorProto)) → ((x : Described FieldDescriptorProto) → Contains xs x → is_unnamed x.part ≡ false)
      → find is_it (map field_shape xs ++ map extension_shape es) ≡ option_map field_shape (with_name xs name)
  first_named es [] named = no_extension es
  first_named es (x ∷ xs) named =
      let rest : Option FieldShape = find is_it (map field_shape xs ++ map extension_shape es) in
      ap (λ (b : Bool). cond b (Some (field_shape x)) rest) (same_test x.part.item.name (named x (here x xs)))
      ∙ at (is_named x.part.item.name name) rest (first_named es xs (λ y c. named y (there x y xs c)))
    where
      at : (b : Bool) (rest : Option FieldShape) → rest ≡ option_map field_shape (with_name xs name)
          → cond b (Some (field_shape x)) rest ≡ option_map field_shape (cond b (Some x) (with_name xs name))
      at true rest ih = refl
      at false rest ih = ih

pub named_is_field : NamedIsField
named_is_field d name of =
    ap (find (is_it name)) (message_is_placed d of).declared ∙ first_named name (extensions_of_message d) (fields_of_message d) (field_named d of)
