-- The shape of a built-in file by its rows: what records of messages hold is told by the rows, and needs no look into the records.
use Rattle.std.proofs.Common.{◌≡◌, ◌∙◌, ℕ, ◌==◌, Bool, true, false, not, ◌&&◌, cond, if◌then◌else◌, List, [], ◌∷◌, ◌++◌, map, length, Option, Some, None, option_map, refl, ap, sym, append-nil}
use Rattle.std.specs.Prelude.{option_and_then, unwrap_or, position, find, filter}
use Rattle.std.specs.List.{flat_map, list_all, position_or_len}
use Rattle.std.specs.Str.{bytes_eq}
use Rattle.std.proofs.lemmas.List.{length-map}
use Rattle.pbx_content.specs.declared.shape.Kind.{Kind}
use Rattle.pbx_content.specs.declared.shape.Kind.TheVariants as kind
use Rattle.pbx_content.specs.declared.shape.Cardinality.TheVariants.{Singular, Repeated}
use Rattle.pbx_content.specs.declared.shape.FieldShape.{FieldShape}
use Rattle.pbx_content.specs.declared.shape.MessageShape.{MessageShape}
use Rattle.pbx_content.specs.declared.shape.EnumShape.{EnumShape}
use Rattle.pbx_content.specs.declared.shape.Shape.{Shape}
use Rattle.pbx_desc_records.specs.declared.enumeration.EnumDescriptorProto.{EnumDescriptorProto}
use Rattle.pbx_desc_records.specs.declared.field.FieldDescriptorProto.{FieldDescriptorProto}
use Rattle.pbx_desc_records.specs.declared.file.FileDescriptorProto.{FileDescriptorProto}
use Rattle.pbx_desc_records.specs.declared.message.DescriptorProto.{DescriptorProto, out-roll-DescriptorProto}
use Rattle.pbx_link_definitions.specs.Definitions.{Part, fields_in, message_name, enum_name, messages, enums, extensions}
use Rattle.pbx_link_definitions.specs.Names.{text_or_empty, qualified, is_named, dotted}
use Rattle.pbx_link_definitions.specs.Says.{is_repeated, is_proto3, is_entry, is_set, number_or_zero, option_bool}
use Rattle.pbx_link_meaning.specs.Descriptors.{Described, described, all_messages, all_enums, all_extensions, fields_of_message, extensions_of_message, referred, message_of_name, message_referred, is_entry_described, is_map, is_packed, has_presence}
use Rattle.pbx_link_meaning.specs.Shapes.{index_if, message_place, place_of_message, place_of_enum, scalar_kind, kind_by, kind_of, value_kind, cardinality_of, entry_place, field_shape, extension_shape, message_shape, enum_shape, shape_of}
use Rattle.pbx_wkt_files.specs.Records.{File, file_record}
use Rattle.pbx_wkt_laws.proofs.Opened.{Layer, shut, open_name, open_fields, open_messages, messages_shut, fields_open, all_fields_of, all_enums_of, enums_are, no_extensions}

module _ (r : File) where
  -- the pool of the one file
  abbrev pub pool : List FileDescriptorProto
  pool = file_record r ∷ []

  abbrev pub seen : Part Layer → Described DescriptorProto
  seen q = described pool (file_record r) (shut q)

  -- ---- the same by the rows

  abbrev pub open_place : List ℕ → Option ℕ
  open_place name = position (λ (q : Part Layer). bytes_eq (open_name q) name) (open_messages r)

  abbrev pub open_place_of : Option (List ℕ) → ℕ
  open_place_of name = unwrap_or (option_and_then open_place (referred name)) (length (open_messages r))

  abbrev pub open_enum_place : List ℕ → Option ℕ
  open_enum_place name = position (λ (e : Part EnumDescriptorProto). bytes_eq (enum_name e) name) (all_enums_of r)

  abbrev pub open_place_of_enum : Option (List ℕ) → ℕ
  open_place_of_enum name = unwrap_or (option_and_then open_enum_place (referred name)) (length (all_enums_of r))

  abbrev pub open_kind_by : ℕ → Option (List ℕ) → Kind
  open_kind_by n name =
      if n == 11 then kind.Message (open_place_of name) else (if n == 14 then kind.Enum (open_place_of_enum name) else scalar_kind n)

  -- whether the record of a message is that of the entries of a map
  abbrev pub is_open_entry : Option (Part Layer) → Bool
  is_open_entry None = false
  is_open_entry (Some q) = is_set (option_bool 7 q.item.options)

  abbrev pub is_open_map : Part FieldDescriptorProto → Bool
  is_open_map p =
      is_repeated p.item
      && is_open_entry (option_and_then (λ (name : List ℕ). find (λ (q : Part Layer). bytes_eq (open_name q) name) (open_messages r)) (referred p.item.type_name))

  -- a field that is no map
  abbrev pub open_field : Part FieldDescriptorProto → FieldShape
  open_field p = record {
    number = number_or_zero p.item.number;
    name = text_or_empty p.item.name;
    json_name = text_or_empty p.item.json_name;
    is_extension = false;
    kind = open_kind_by (number_or_zero p.item.kind) p.item.type_name;
    cardinality = if is_repeated p.item then Repeated else Singular;
    presence = has_presence (described pool (file_record r) p);
    oneof = index_if p.item.oneof_index;
    packed = is_packed (described pool (file_record r) p);
    default = p.item.default_value;
    entry = None;
  }

  abbrev pub open_message : Part Layer → MessageShape
  open_message q = record {
    full_name = open_name q;
    fields = map open_field (open_fields q);
    keeps_order = false;
    proto3 = is_proto3 (file_record r);
  }

  abbrev pub open_enum : Part EnumDescriptorProto → EnumShape
  open_enum e = enum_shape (described pool (file_record r) e)

  abbrev pub open_shape : Shape
  open_shape = record { messages = map open_message (open_messages r); enums = map open_enum (all_enums_of r) }

  -- ---- they are the same

  name_open : (q : Part Layer) → message_name (shut q) ≡ open_name q
  name_open q = ap (λ (l : Layer). qualified q.scope (text_or_empty l.name)) (out-roll-DescriptorProto q.item)

  mapped : {A B C : Type 0} (f : B → C) (g : A → B) (xs : List A) → map f (map g xs) ≡ map (λ x. f (g x)) xs
  mapped f g [] = refl
  mapped f g (x ∷ xs) = ap (λ ys. f (g x) ∷ ys) (mapped f g xs)

  map_alike : {A B : Type 0} (f g : A → B) → ((x : A) → f x ≡ g x) → (xs : List A) → map f xs ≡ map g xs
  map_alike f g h [] = refl
  map_alike f g h (x ∷ xs) = ap (λ y. y ∷ map f xs) (h x) ∙ ap (λ ys. g x ∷ ys) (map_alike f g h xs)

  all_messages_are : all_messages pool ≡ map seen (open_messages r)
  all_messages_are =
      append-nil (map (described pool (file_record r)) (messages (file_record r)))
      ∙ ap (map (described pool (file_record r))) (messages_shut r)
      ∙ mapped (described pool (file_record r)) shut (open_messages r)

  all_enums_are : all_enums pool ≡ map (described pool (file_record r)) (all_enums_of r)
  all_enums_are =
      append-nil (map (described pool (file_record r)) (enums (file_record r))) ∙ ap (map (described pool (file_record r))) (enums_are r)

  no_extensions_are : all_extensions pool ≡ []
  no_extensions_are =
      append-nil (map (described pool (file_record r)) (extensions (file_record r))) ∙ ap (map (described pool (file_record r))) (no_extensions r)

  counted : {A B : Type 0} (p : B → Bool) (p' : A → Bool) (g : A → B) → ((x : A) → p (g x) ≡ p' x) → (xs : List A)
      → position_or_len p (map g xs) ≡ position_or_len p' xs
  counted p p' g h [] = refl
  counted p p' g h (x ∷ xs) = rw (h x, counted p p' g h xs) refl

  placed : {A B : Type 0} (p : B → Bool) (p' : A → Bool) (g : A → B) → ((x : A) → p (g x) ≡ p' x) → (xs : List A) → position p (map g xs) ≡ position p' xs
  placed p p' g h xs = rw (counted p p' g h xs, length-map xs g) refl

  place_is : (name : List ℕ) → message_place pool name ≡ open_place name
  place_is name =
      ap (position (λ (d : Described DescriptorProto). bytes_eq (message_name d.part) name)) all_messages_are
      ∙ placed (λ (d : Described DescriptorProto). bytes_eq (message_name d.part) name) (λ (q : Part Layer). bytes_eq (open_name q) name) seen
      (λ q. ap (λ n. bytes_eq n name) (name_open q)) (open_messages r)

  bound_alike : {A B : Type 0} (f g : A → Option B) → ((x : A) → f x ≡ g x) → (o : Option A) → option_and_then f o ≡ option_and_then g o
  bound_alike f g h None = refl
  bound_alike f g h (Some x) = h x

  place_of_is : (name : Option (List ℕ)) → place_of_message pool name ≡ open_place_of name
  place_of_is name =
      ap (λ o. unwrap_or o (length (all_messages pool))) (bound_alike (message_place pool) open_place place_is (referred name))
      ∙ ap (λ n. unwrap_or (option_and_then open_place (referred name)) n) (ap length all_messages_are ∙ length-map (open_messages r) seen)

  enum_place_is : (name : Option (List ℕ)) → place_of_enum pool name ≡ open_place_of_enum name
  enum_place_is name =
      ap (λ (es : List (Described EnumDescriptorProto)).
      unwrap_or (option_and_then (λ n. position (λ (d : Described EnumDescriptorProto). bytes_eq (enum_name d.part) n) es) (referred name)) (length es))
      all_enums_are
      ∙ ap (λ o. unwrap_or o (length (map (described pool (file_record r)) (all_enums_of r))))
      (bound_alike (λ n. position (λ (d : Described EnumDescriptorProto). bytes_eq (enum_name d.part) n) (map (described pool (file_record r)) (all_enums_of r)))
      open_enum_place
      (λ n. placed (λ (d : Described EnumDescriptorProto). bytes_eq (enum_name d.part) n) (λ (e : Part EnumDescriptorProto). bytes_eq (enum_name e) n)
      (described pool (file_record r)) (λ e. refl) (all_enums_of r)) (referred name))
      ∙ ap (λ n. unwrap_or (option_and_then open_enum_place (referred name)) n) (length-map (all_enums_of r) (described pool (file_record r)))

  kind_is : (n : ℕ) (name : Option (List ℕ)) → kind_by pool n name ≡ open_kind_by n name
  kind_is n name = rw (place_of_is name, enum_place_is name) refl

  entry_found : (name : List ℕ) (qs : List (Part Layer))
      → is_entry_described (find (λ (d : Described DescriptorProto). bytes_eq (message_name d.part) name) (map seen qs))
      ≡ is_open_entry (find (λ (q : Part Layer). bytes_eq (open_name q) name) qs)
  entry_found name [] = refl
  entry_found name (q ∷ qs) =
      ap (λ b. is_entry_described (cond b (Some (seen q)) (find (λ (d : Described DescriptorProto). bytes_eq (message_name d.part) name) (map seen qs))))
      (ap (λ n. bytes_eq n name) (name_open q))
      ∙ at (bytes_eq (open_name q) name) (entry_found name qs)
    where
      own : is_entry (shut q).item ≡ is_set (option_bool 7 q.item.options)
      own = ap (λ (l : Layer). is_set (option_bool 7 l.options)) (out-roll-DescriptorProto q.item)

      at : (b : Bool)
          → is_entry_described (find (λ (d : Described DescriptorProto). bytes_eq (message_name d.part) name) (map seen qs))
          ≡ is_open_entry (find (λ (q : Part Layer). bytes_eq (open_name q) name) qs)
          → is_entry_described (cond b (Some (seen q)) (find (λ (d : Described DescriptorProto). bytes_eq (message_name d.part) name) (map seen qs)))
          ≡ is_open_entry (cond b (Some q) (find (λ (q : Part Layer). bytes_eq (open_name q) name) qs))
      at true rest = own
      at false rest = rest

  map_is : (p : Part FieldDescriptorProto) → is_map (described pool (file_record r) p) ≡ is_open_map p
  map_is p = ap (λ b. is_repeated p.item && b) (at (referred p.item.type_name))
    where
      at : (o : Option (List ℕ)) → is_entry_described (option_and_then (message_of_name pool) o)
          ≡ is_open_entry (option_and_then (λ (name : List ℕ). find (λ (q : Part Layer). bytes_eq (open_name q) name) (open_messages r)) o)
      at None = refl
      at (Some name) =
          ap (λ ds. is_entry_described (find (λ (d : Described DescriptorProto). bytes_eq (message_name d.part) name) ds)) all_messages_are
          ∙ entry_found name (open_messages r)

  field_is : (p : Part FieldDescriptorProto) → is_open_map p ≡ false → field_shape (described pool (file_record r) p) ≡ open_field p
  field_is p h =
      let no : is_map (described pool (file_record r) p) ≡ false = map_is p ∙ h in
      rw (no, kind_is (number_or_zero p.item.kind) p.item.type_name) refl

  -- the fields are no maps
  abbrev pub no_map : Part FieldDescriptorProto → Bool
  no_map p = not (is_open_map p)

  both : (a b : Bool) → a && b ≡ true → (a ≡ true) × (b ≡ true)
  both true b h = (refl, h)
  both false b h = absurd cc

  is_no : (b : Bool) → not b ≡ true → b ≡ false
  is_no true h = absurd cc
  is_no false h = refl

  fields_are : (ps : List (Part FieldDescriptorProto)) → list_all no_map ps ≡ true
      → map field_shape (map (described pool (file_record r)) ps) ≡ map open_field ps
  fields_are [] h = refl
  fields_are (p ∷ ps) h =
      let hs = both (no_map p) (list_all no_map ps) h in
      ap (λ x. x ∷ map field_shape (map (described pool (file_record r)) ps)) (field_is p (is_no (is_open_map p) hs.0))
      ∙ ap (λ xs. open_field p ∷ xs) (fields_are ps hs.1)

  all_both : (xs ys : List (Part FieldDescriptorProto)) → list_all no_map (xs ++ ys) ≡ true → (list_all no_map xs ≡ true) × (list_all no_map ys ≡ true)
  all_both [] ys h = (refl, h)
  all_both (x ∷ xs) ys h =
      let hs = both (no_map x) (list_all no_map (xs ++ ys)) h in
      let rest = all_both xs ys hs.1 in
      (rw hs.0 rest.0, rest.1)

  message_is : (q : Part Layer) → list_all no_map (open_fields q) ≡ true → message_shape (seen q) ≡ open_message q
  message_is q h =
      let own : map field_shape (fields_of_message (seen q)) ≡ map open_field (open_fields q) =
      ap (λ ps. map field_shape (map (described pool (file_record r)) ps)) (fields_open q) ∙ fields_are (open_fields q) h in
      let none : map extension_shape (extensions_of_message (seen q)) ≡ [] =
      ap (λ xs. map extension_shape (filter (λ (x : Described FieldDescriptorProto). is_named x.part.item.extendee (dotted (message_name (shut q)))) xs)) no_extensions_are in
      let made : List ℕ → List FieldShape → MessageShape = λ n fs. record { full_name = n; fields = fs; keeps_order = false; proto3 = is_proto3 (file_record r) } in
      ap (λ n. made n (map field_shape (fields_of_message (seen q)) ++ map extension_shape (extensions_of_message (seen q)))) (name_open q)
      ∙ ap (λ fs. made (open_name q) (fs ++ map extension_shape (extensions_of_message (seen q)))) own
      ∙ ap (λ xs. made (open_name q) (map open_field (open_fields q) ++ xs)) none
      ∙ ap (made (open_name q)) (append-nil (map open_field (open_fields q)))

  messages_are : (qs : List (Part Layer)) → list_all no_map (flat_map open_fields qs) ≡ true → map message_shape (map seen qs) ≡ map open_message qs
  messages_are [] h = refl
  messages_are (q ∷ qs) h =
      let hs = all_both (open_fields q) (flat_map open_fields qs) h in
      ap (λ x. x ∷ map message_shape (map seen qs)) (message_is q hs.0) ∙ ap (λ xs. open_message q ∷ xs) (messages_are qs hs.1)

  pub shape_is : list_all no_map (all_fields_of r) ≡ true → shape_of pool ≡ open_shape
  shape_is h =
      let ms : map message_shape (all_messages pool) ≡ map open_message (open_messages r) =
      ap (map message_shape) all_messages_are ∙ messages_are (open_messages r) h in
      let es : map enum_shape (all_enums pool) ≡ map open_enum (all_enums_of r) =
      ap (map enum_shape) all_enums_are ∙ mapped enum_shape (described pool (file_record r)) (all_enums_of r) in
      rw (ms, es) refl
