-- Definitions that are listed one by one.
use Rattle.std.proofs.Common.{◌≡◌, ◌∙◌, ℕ, ◌+◌, ◌<◌, List, [], ◌∷◌, ◌++◌, length, take, get_or, map, ap, sym, subst}
use Rattle.std.specs.Prelude.{pos, Result, OnOk}
use Rattle.std.specs.List.{flat_map}
use Rattle.std.proofs.lemmas.List.{append_assoc}
use Rattle.std.proofs.lemmas.List.Concat.{flat_map_single}
use Rattle.pbx_desc_records.specs.declared.message.DescriptorProto.{DescriptorProto, out-DescriptorProto}
use Rattle.pbx_desc_records.specs.declared.enumeration.EnumDescriptorProto.{EnumDescriptorProto}
use Rattle.pbx_desc_records.specs.declared.field.FieldDescriptorProto.{FieldDescriptorProto}
use Rattle.pbx_desc_records.specs.declared.field.OneofDescriptorProto.{OneofDescriptorProto}
use Rattle.pbx_link_definitions.specs.declared.definitions.Sort.TheVariants.{Message, Field, Extension, Oneof}
use Rattle.pbx_link_definitions.specs.Names.{text_or_empty, qualified}
use Rattle.pbx_link_definitions.specs.Says.{own_name}
use Rattle.pbx_link_definitions.specs.Definitions.{Place, Part, parts, nested_in, message_name, Defined, defined, field_definition, enum_definitions, definitions_from}
use Rattle.pbx_link_definitions.proofs.Told.{definitions_from_at}
use Rattle.pbx_link_definitions.proofs.Listed.{told_more}

-- one item more
pub mapped_more : {X D : Type 0} (f : Part X → D) (scope : List ℕ) (place there : Place) (n : ℕ) (xs : List X) (i : ℕ) (x : X) (before now after : List D) → i < length xs → x ≡ get_or xs i x
    → now ≡ before ++ map f (parts scope place n (take i xs)) → there ≡ place ++ pos n ∷ pos i ∷ [] → after ≡ now ++ f (record { scope = scope; place = there; index = i; item = x }) ∷ []
    → after ≡ before ++ map f (parts scope place n (take (i + 1) xs))
mapped_more {X} {D} f scope place there n xs i x before now after lt is so_far at here =
    told_more (λ (p : Part X). f p ∷ []) scope place there n xs i x before now after lt is (so_far ∙ ap (λ (ds : List D). before ++ ds) (sym (flat_map_single f (parts scope place n (take i xs))))) at here
    ∙ ap (λ (ds : List D). before ++ ds) (flat_map_single f (parts scope place n (take (i + 1) xs)))

-- a message defines the same, whichever it is in its list
pub at_any_index : (scope : List ℕ) (place : Place) (i j : ℕ) (m : DescriptorProto)
    → definitions_from (record { scope = scope; place = place; index = i; item = m }) ≡ definitions_from (record { scope = scope; place = place; index = j; item = m })
at_any_index scope place i j m =
    definitions_from_at (record { scope = scope; place = place; index = i; item = m }) ∙ sym (definitions_from_at (record { scope = scope; place = place; index = j; item = m }))

regrouped : {D : Type 0} (before m f n e x o : List D) → (before ++ m) ++ f ++ n ++ e ++ x ++ o ≡ before ++ ((m ++ f) ++ n ++ (e ++ x ++ o))
regrouped before m f n e x o = simp append_assoc

-- the messages of a list, whose contracts have no index
pub defined_more : (scope : List ℕ) (place there : Place) (n : ℕ) (ms : List DescriptorProto) (i : ℕ) (m : DescriptorProto) (before now after : List Defined) → i < length ms → m ≡ get_or ms i m
    → now ≡ before ++ flat_map definitions_from (parts scope place n (take i ms)) → there ≡ place ++ pos n ∷ pos i ∷ []
    → after ≡ now ++ definitions_from (record { scope = scope; place = there; index = 0; item = m }) → after ≡ before ++ flat_map definitions_from (parts scope place n (take (i + 1) ms))
defined_more scope place there n ms i m before now after lt is so_far at here =
    told_more definitions_from scope place there n ms i m before now after lt is so_far at (here ∙ ap (λ (ds : List Defined). now ++ ds) (at_any_index scope there 0 i m))

-- a message is defined, then its fields, those nested in it, and what else stands in it
pub message_defined : {U E : Type 0} (result : Result U E) (scope : List ℕ) (place : Place) (m : DescriptorProto) (own full name : List ℕ) (made : Defined) (fs : List FieldDescriptorProto) (es : List EnumDescriptorProto) (xs : List FieldDescriptorProto) (os : List OneofDescriptorProto)
    (before a b c d e after : List Defined) → own ≡ text_or_empty (out-DescriptorProto m).name → full ≡ qualified scope own → name ≡ full
    → fs ≡ (out-DescriptorProto m).field → es ≡ (out-DescriptorProto m).enum_type → xs ≡ (out-DescriptorProto m).extension → os ≡ (out-DescriptorProto m).oneof_decl
    → made ≡ record { scope = scope; name = own; sort = Message; place = place } → a ≡ before ++ made ∷ [] → b ≡ a ++ map (field_definition Field) (parts name place 2 fs)
    → c ≡ b ++ flat_map definitions_from (parts name place 3 (out-DescriptorProto m).nested_type) → d ≡ c ++ flat_map enum_definitions (parts name place 4 es) → e ≡ d ++ map (field_definition Extension) (parts name place 6 xs)
    → OnOk result (after ≡ e ++ map (defined Oneof (λ (o : OneofDescriptorProto). o.name)) (parts name place 8 os)) → OnOk result (after ≡ before ++ definitions_from (record { scope = scope; place = place; index = 0; item = m }))
message_defined result scope place m own full name made fs es xs os before a b c d e after is_own is_full is_name is_fs is_es is_xs is_os is_made is_a is_b is_c is_d is_e h =
    let p : Part DescriptorProto = record { scope = scope; place = place; index = 0; item = m } in
    let o = out-DescriptorProto m in
    let M : List Defined = made ∷ [] in
    let F : List Defined = map (field_definition Field) (parts name place 2 fs) in
    let N : List Defined = flat_map definitions_from (parts name place 3 o.nested_type) in
    let E : List Defined = flat_map enum_definitions (parts name place 4 es) in
    let X : List Defined = map (field_definition Extension) (parts name place 6 xs) in
    let O : List Defined = map (defined Oneof (λ (x : OneofDescriptorProto). x.name)) (parts name place 8 os) in
    let same : name ≡ message_name p = is_name ∙ is_full ∙ ap (qualified scope) is_own in
    let head : made ≡ record { scope = scope; name = own_name m; sort = Message; place = place } = is_made ∙ ap (λ (n : List ℕ). record { scope = scope; name = n; sort = Message; place = place }) is_own in
    let flat : e ++ O ≡ (before ++ M) ++ F ++ N ++ E ++ X ++ O = cc in
    let grouped : (before ++ M) ++ F ++ N ++ E ++ X ++ O ≡ before ++ ((M ++ F) ++ N ++ (E ++ X ++ O)) = regrouped before M F N E X O in
    let named : (M ++ F) ++ N ++ (E ++ X ++ O) ≡ (record { scope = scope; name = own_name m; sort = Message; place = place } ∷ map (field_definition Field) (parts (message_name p) place 2 o.field)) ++ flat_map definitions_from (nested_in p)
    ++ (flat_map enum_definitions (parts (message_name p) place 4 o.enum_type) ++ map (field_definition Extension) (parts (message_name p) place 6 o.extension) ++ map (defined Oneof (λ (x : OneofDescriptorProto). x.name)) (parts (message_name p) place 8 o.oneof_decl)) =
    cc in
    subst (λ (ds : List Defined). OnOk result (after ≡ ds)) (flat ∙ grouped ∙ ap (λ (ds : List Defined). before ++ ds) (named ∙ sym (definitions_from_at p))) h
