-- Names are bound to the same among files whose types and names are the same, up to changes of types that do not show.
use Rattle.std.proofs.Common.{◌≡◌, ◌∙◌, ℕ, ◌||◌, ◌&&◌, ◌==◌, not, ℤ, List, [], ◌∷◌, ◌++◌, map, Bool, true, false, if◌then◌else◌, Option, None, Some, refl, ap}
use Rattle.std.proofs.Common.{sym}
use Rattle.std.specs.Prelude.{find, option_map}
use Rattle.std.specs.List.{list_any, flat_map}
use Rattle.std.specs.Option.{option_or}
use Rattle.std.specs.Str.{bytes_eq}
use Rattle.std.proofs.lemmas.List.{map-append}
use Rattle.pbx_desc_records.specs.declared.enumeration.EnumDescriptorProto.{EnumDescriptorProto}
use Rattle.pbx_desc_records.specs.declared.file.FileDescriptorProto.{FileDescriptorProto}
use Rattle.pbx_desc_records.specs.declared.message.DescriptorProto.{DescriptorProto}
use Rattle.pbx_link_definitions.specs.Names.{text_or_empty, among, qualified, dotted, first_part, has_dot, outward}
use Rattle.pbx_link_definitions.specs.Says.{own_name, is_entry}
use Rattle.pbx_link_definitions.specs.Definitions.{Defined, full_name, is_scope, definitions, messages, enums}
use Rattle.pbx_link_definitions.specs.Ranges.{Range, in_ranges, extension_ranges}
use Rattle.pbx_link_scope.specs.declared.types.Bound.{Bound}
use Rattle.pbx_link_scope.specs.declared.types.Bound.TheVariants.{Message as to_message, Enum as to_enum}
use Rattle.pbx_link_scope.specs.Scope.{packages, bound_name, types, type_named, is_scope_name, first_type, type_in_first, type_from, bound, bound_if, is_message}
use Rattle.pbx_link_rules_scope.specs.Rules.{is_bad_type_name, is_bad_message_name}
use Rattle.pbx_link_rules_scope.specs.Defaults.{is_value_name, is_default_of}
use Rattle.pbx_link_rules_scope.specs.MapFields.{is_entry_type, is_held_in, full_name_of}
use Rattle.pbx_link_rules_scope.specs.ExtensionNumbers.{message_name_of, is_outside}
use Rattle.pbx_link_record.specs.Linked.{exact_by, type_by}
use Rattle.pbx_link_laws.proofs.Lists.{part_of, find_through}

abbrev File : Type 0
File = FileDescriptorProto

-- ---- changes that do not show

-- what is asked of a type is the same of a changed one
pub record IsBlind (g : DescriptorProto → DescriptorProto) (h : EnumDescriptorProto → EnumDescriptorProto) : Type 0 where
  pub name : (m : DescriptorProto) → own_name (g m) ≡ own_name m
  pub entry : (m : DescriptorProto) → is_entry (g m) ≡ is_entry m
  pub ranges : (m : DescriptorProto) → extension_ranges (g m) ≡ extension_ranges m
  pub enum_name : (e : EnumDescriptorProto) → text_or_empty (h e).name ≡ text_or_empty e.name
  pub values : (e : EnumDescriptorProto) (text : List ℕ) → is_value_name (h e) text ≡ is_value_name e text

-- a message or enum that is changed
abbrev pub bound_by : (DescriptorProto → DescriptorProto) → (EnumDescriptorProto → EnumDescriptorProto) → Bound → Bound
bound_by g h (to_message p) = to_message (part_of g p)
bound_by g h (to_enum p) = to_enum (part_of h p)

-- both are nothing, or the same up to the changes
abbrev pub Alike : (DescriptorProto → DescriptorProto) → (EnumDescriptorProto → EnumDescriptorProto) → Option Bound → Option Bound → Type 0
Alike g h a b = option_map (bound_by g h) a ≡ option_map (bound_by g h) b

module _ (g : DescriptorProto → DescriptorProto) (h : EnumDescriptorProto → EnumDescriptorProto) where
  -- what is told of both is the same
  pub told_by : {X : Type 0} (u : Option Bound → X) → ((b : Option Bound) → u (option_map (bound_by g h) b) ≡ u b) → (a b : Option Bound) → Alike g h a b
      → u a ≡ u b
  told_by u same a b e = sym (same a) ∙ ap u e ∙ same b

  module _ (blind : IsBlind g h) where
    pub blind_name : (b : Bound) → bound_name (bound_by g h b) ≡ bound_name b
    blind_name (to_message p) = ap (qualified p.scope) (blind.name p.item)
    blind_name (to_enum p) = ap (qualified p.scope) (blind.enum_name p.item)

    pub asks_message : (b : Option Bound) → is_message (option_map (bound_by g h) b) ≡ is_message b
    asks_message None = refl
    asks_message (Some (to_message p)) = refl
    asks_message (Some (to_enum p)) = refl

    pub asks_type_name : (name : Option (List ℕ)) (kind : Option ℤ) (b : Option Bound)
        → is_bad_type_name name (option_map (bound_by g h) b) kind ≡ is_bad_type_name name b kind
    asks_type_name None kind b = refl
    asks_type_name (Some name) kind None = refl
    asks_type_name (Some name) kind (Some (to_message p)) = refl
    asks_type_name (Some name) kind (Some (to_enum p)) = refl

    pub asks_message_name : (name : Option (List ℕ)) (b : Option Bound) → is_bad_message_name name (option_map (bound_by g h) b) ≡ is_bad_message_name name b
    asks_message_name None b = refl
    asks_message_name (Some name) b = ap not (asks_message b)

    pub asks_name : (b : Option Bound) → message_name_of (option_map (bound_by g h) b) ≡ message_name_of b
    asks_name None = refl
    asks_name (Some (to_message p)) = ap (λ (n : List ℕ). Some (qualified p.scope n)) (blind.name p.item)
    asks_name (Some (to_enum p)) = refl

    pub asks_outside : (z : Option ℤ) (b : Option Bound) → is_outside (option_map (bound_by g h) b) z ≡ is_outside b z
    asks_outside z None = refl
    asks_outside z (Some (to_message p)) = ap (λ (rs : List Range). not (in_ranges rs z)) (blind.ranges p.item)
    asks_outside z (Some (to_enum p)) = refl

    pub asks_default : (kind : Option ℤ) (text : List ℕ) (b : Option Bound) → is_default_of (option_map (bound_by g h) b) kind text ≡ is_default_of b kind text
    asks_default kind text None = refl
    asks_default kind text (Some (to_message p)) = refl
    asks_default kind text (Some (to_enum p)) = blind.values p.item text

    pub asks_entry : (b : Option Bound) → is_entry_type (option_map (bound_by g h) b) ≡ is_entry_type b
    asks_entry None = refl
    asks_entry (Some (to_message p)) = blind.entry p.item
    asks_entry (Some (to_enum p)) = refl

    pub asks_held : (name : List ℕ) (b : Option Bound) → is_held_in name (option_map (bound_by g h) b) ≡ is_held_in name b
    asks_held name None = refl
    asks_held name (Some (to_message p)) = refl
    asks_held name (Some (to_enum p)) = refl

    pub asks_full_name : (b : Option Bound) → full_name_of (option_map (bound_by g h) b) ≡ full_name_of b
    asks_full_name None = refl
    asks_full_name (Some b) = ap (λ (n : List ℕ). Some n) (blind_name b)

    pub asks_exact : (name : Option (List ℕ)) (b : Option Bound) → exact_by name (option_map (bound_by g h) b) ≡ exact_by name b
    asks_exact name None = refl
    asks_exact name (Some b) = ap (λ (n : List ℕ). Some (dotted n)) (blind_name b)

    pub asks_kind : (kind : Option ℤ) (b : Option Bound) → type_by kind (option_map (bound_by g h) b) ≡ type_by kind b
    asks_kind kind None = refl
    asks_kind kind (Some (to_message p)) = refl
    asks_kind kind (Some (to_enum p)) = refl

-- ---- files that define the same types and names

pub record SeeAlike (g : DescriptorProto → DescriptorProto) (h : EnumDescriptorProto → EnumDescriptorProto) (seen other : List File) : Type 0 where
  pub blind : IsBlind g h
  pub types : map (bound_by g h) (types seen) ≡ map (bound_by g h) (types other)
  pub scopes : (name : List ℕ) → is_scope_name seen name ≡ is_scope_name other name

module _ (g : DescriptorProto → DescriptorProto) (h : EnumDescriptorProto → EnumDescriptorProto) where
  or_alike : (a b c d : Option Bound) → Alike g h a b → Alike g h c d → Alike g h (option_or a c) (option_or b d)
  or_alike a b c d e f =
      onto a c ∙ ap (λ (o : Option Bound). option_or o (option_map (bound_by g h) c)) e ∙ ap (option_or (option_map (bound_by g h) b)) f ∙ sym (onto b d)
    where
      onto : (x y : Option Bound) → option_map (bound_by g h) (option_or x y) ≡ option_or (option_map (bound_by g h) x) (option_map (bound_by g h) y)
      onto None y = refl
      onto (Some b) y = refl

  module _ (seen other : List File) (see : SeeAlike g h seen other) where
    pub named_alike : (name : List ℕ) → Alike g h (type_named seen name) (type_named other name)
    unfolding type_named
    named_alike name =
        let test : Bound → Bool = λ b. bytes_eq (bound_name b) name in
        let same : (b : Bound) → test ((bound_by g h) b) ≡ test b = λ b. ap (λ (n : List ℕ). bytes_eq n name) (blind_name g h see.blind b) in
        sym (find_through (bound_by g h) test test same (types seen)) ∙ ap (find test) see.types ∙ find_through (bound_by g h) test test same (types other)

    first_alike : (name : List ℕ) (ss : List (List ℕ)) → Alike g h (first_type seen name ss) (first_type other name ss)
    unfolding first_type
    first_alike name [] = refl
    first_alike name (s ∷ ss) =
        or_alike (type_named seen (qualified s name)) (type_named other (qualified s name)) (first_type seen name ss) (first_type other name ss)
        (named_alike (qualified s name)) (first_alike name ss)

    in_first_alike : (name : List ℕ) (ss : List (List ℕ)) → Alike g h (type_in_first seen name ss) (type_in_first other name ss)
    unfolding type_in_first
    in_first_alike name [] = refl
    in_first_alike name (s ∷ ss) =
        ap (λ (b : Bool). option_map (bound_by g h) (if b then type_named seen (qualified s name) else type_in_first seen name ss))
        (see.scopes (qualified s (first_part name)))
        ∙ at (is_scope_name other (qualified s (first_part name))) (named_alike (qualified s name)) (in_first_alike name ss)
      where
        at : (b : Bool) → Alike g h (type_named seen (qualified s name)) (type_named other (qualified s name))
            → Alike g h (type_in_first seen name ss) (type_in_first other name ss)
            → Alike g h (if b then type_named seen (qualified s name) else type_in_first seen name ss)
            (if b then type_named other (qualified s name) else type_in_first other name ss)
        at true e f = e
        at false e f = f

    from_alike : (scope name : List ℕ) → Alike g h (type_from seen scope name) (type_from other scope name)
    from_alike scope name = at (has_dot name) (in_first_alike name (outward scope)) (first_alike name (outward scope))
      where
        at : (b : Bool) → Alike g h (type_in_first seen name (outward scope)) (type_in_first other name (outward scope))
            → Alike g h (first_type seen name (outward scope)) (first_type other name (outward scope))
            → Alike g h (if b then type_in_first seen name (outward scope) else first_type seen name (outward scope))
            (if b then type_in_first other name (outward scope) else first_type other name (outward scope))
        at true e f = e
        at false e f = f

    bound_alike : (scope name : List ℕ) → Alike g h (bound seen scope name) (bound other scope name)
    unfolding bound
    bound_alike scope [] = refl
    bound_alike scope (b ∷ bs) = at (b == 46) (named_alike bs) (from_alike scope (b ∷ bs))
      where
        at : (c : Bool) → Alike g h (type_named seen bs) (type_named other bs) → Alike g h (type_from seen scope (b ∷ bs)) (type_from other scope (b ∷ bs))
            → Alike g h (if c then type_named seen bs else type_from seen scope (b ∷ bs)) (if c then type_named other bs else type_from other scope (b ∷ bs))
        at true e f = e
        at false e f = f

    -- a name is bound alike
    pub bound_if_alike : (scope : List ℕ) (name : Option (List ℕ)) → Alike g h (bound_if seen scope name) (bound_if other scope name)
    bound_if_alike scope None = refl
    bound_if_alike scope (Some name) = bound_alike scope name

-- ---- files of which only the first differ

-- the messages and enums of a file
abbrev pub types_of : File → List Bound
types_of f = map to_message (messages f) ++ map to_enum (enums f)

module _ (g : DescriptorProto → DescriptorProto) (h : EnumDescriptorProto → EnumDescriptorProto) (blind : IsBlind g h) where
  -- the same types up to the changes, and the same definitions in the same package
  pub sees_with : (f k : File) (rest : List File) → map (bound_by g h) (types_of f) ≡ map (bound_by g h) (types_of k) → definitions f ≡ definitions k
      → packages f ≡ packages k → SeeAlike g h (f ∷ rest) (k ∷ rest)
  unfolding is_scope_name
  sees_with f k rest e d p = record {
    blind = blind;
    types =
        map-append (bound_by g h) (types_of f) (types rest) ∙ ap (λ (bs : List Bound). bs ++ map (bound_by g h) (types rest)) e
        ∙ sym (map-append (bound_by g h) (types_of k) (types rest));
    scopes =
        λ name.
        ap (λ (ds : List Defined). list_any (λ d. is_scope d.sort && bytes_eq (full_name d) name) (ds ++ flat_map definitions rest)
        || among (packages f ++ flat_map packages rest) name) d
        ∙ ap (λ (ps : List (List ℕ)). list_any (λ d. is_scope d.sort && bytes_eq (full_name d) name) (definitions k ++ flat_map definitions rest)
        || among (ps ++ flat_map packages rest) name) p;
  }
