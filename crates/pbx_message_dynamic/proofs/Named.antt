-- The first field of a name.
use Rattle.std.proofs.Common.{◌≡◌, ℕ, Bool, true, false, List, [], ◌∷◌, ◌++◌, map, Some, None, refl, sym, ap, ◌∙◌, subst, rules}
use Rattle.std.specs.Prelude.{not, ◌&&◌, find, Option, option_map, Result, Ok, Err, IfOk}
use Rattle.std.specs.Str.{bytes_eq}
use Rattle.std.proofs.lemmas.List.Elements.{Contains-append_right}
use Rattle.pbx_content.specs.declared.shape.FieldShape.{FieldShape}
use Rattle.pbx_desc_records.specs.declared.field.FieldDescriptorProto.{FieldDescriptorProto}
use Rattle.pbx_desc_records.specs.declared.message.DescriptorProto.{DescriptorProto}
use Rattle.pbx_wire.specs.declared.memory.NoMemory.{NoMemory}
use Rattle.pbx_link_definitions.specs.Names.{text_or_empty, is_named}
use Rattle.pbx_link_meaning.specs.Descriptors.{Described, number_of_field, fields_of_message, extensions_of_message, with_name}
use Rattle.pbx_link_meaning.specs.Shapes.{field_shape, extension_shape, shape_of, place_of}
use Rattle.pbx_link_shapes.specs.Named.{number_named}
use Rattle.pbx_link_meaning.proofs.PoolParts.{found_there}
use Rattle.pbx_message_laws.specs.Pools.{IsPooled, MessageIsPlaced, FieldIsListed, NamedIsField}
use Rattle.pbx_message_dynamic.specs.Fields.{IsNamed}
use Rattle.pbx_message_dynamic.specs.Message.{type_declared}
use Rattle.pbx_message_dynamic.specs.Targets.{IsOnly, IsNumbered, IsTarget}
use Rattle.std.specs.Prelude.{Contains}

-- none of the fields has the name
abbrev pub AreOther : List ℕ → List (Described FieldDescriptorProto) → Type 0
AreOther name [] = Unit {0}
AreOther name (x ∷ xs) = (bytes_eq (text_or_empty x.part.item.name) name ≡ false) × AreOther name xs

pub other_more : (name : List ℕ) (xs : List (Described FieldDescriptorProto)) (x : Described FieldDescriptorProto) → AreOther name xs
    → bytes_eq (text_or_empty x.part.item.name) name ≡ false → AreOther name (xs ++ x ∷ [])
other_more name [] x o e = (e, tt)
other_more name (y ∷ xs) x o e = (o.0, other_more name xs x o.1 e)

-- a field that is no extension, of the name
abbrev is_named_so : List ℕ → FieldShape → Bool
is_named_so name g = not g.is_extension && bytes_eq g.name name

found : (name : List ℕ) (ys rest : List (Described FieldDescriptorProto)) (x : Described FieldDescriptorProto) (es : List FieldShape) → AreOther name ys
    → bytes_eq (text_or_empty x.part.item.name) name ≡ true → find (is_named_so name) (map field_shape (ys ++ x ∷ rest) ++ es) ≡ Some (field_shape x)
found name [] rest x es o e = rw e refl
found name (y ∷ ys) rest x es o e = rw o.0 (found name ys rest x es o.1 e)

no_extension : (name : List ℕ) (xs : List (Described FieldDescriptorProto)) → find (is_named_so name) (map extension_shape xs) ≡ None
no_extension name [] = refl
no_extension name (x ∷ xs) = no_extension name xs

none : (name : List ℕ) (ys xs : List (Described FieldDescriptorProto)) → AreOther name ys
    → find (is_named_so name) (map field_shape ys ++ map extension_shape xs) ≡ None
none name [] xs o = no_extension name xs
none name (y ∷ ys) xs o = rw o.0 (none name ys xs o.1)

there : {X : Type 0} (ys rest : List X) (x : X) → Contains (ys ++ x ∷ rest) x
there ys rest x = let front : Contains (x ∷ rest) x = search rules in search (rules, Contains-append_right, front)

pub named_found : (d : Described DescriptorProto) (name : List ℕ) (ys rest : List (Described FieldDescriptorProto)) (x : Described FieldDescriptorProto)
    → MessageIsPlaced → FieldIsListed → IsPooled d → fields_of_message d ≡ ys ++ x ∷ rest → AreOther name ys
    → bytes_eq (text_or_empty x.part.item.name) name ≡ true → IsOnly d (IsNamed d name) (number_of_field x)
named_found d name ys rest x placed listed of parts o e =
    let first : find (is_named_so name) (type_declared d) ≡ Some (field_shape x) =
    ap (find (is_named_so name)) (placed d of).declared
    ∙ ap (λ (xs : List (Described FieldDescriptorProto)). find (is_named_so name) (map field_shape xs ++ map extension_shape (extensions_of_message d))) parts
    ∙ found name ys rest x (map extension_shape (extensions_of_message d)) o e in
    let within : Contains (fields_of_message d) x = subst (λ (xs : List (Described FieldDescriptorProto)). Contains xs x) (sym parts) (there ys rest x) in
    record {
      field = field_shape x;
      own = first;
      numbered = listed d x of within;
      number = refl;
      only = λ g is. some_is g (field_shape x) (sym is ∙ first);
    }
  where
    some_is : (a b : FieldShape) → Some a ≡ Some b → a ≡ b
    some_is a b e = cc

pub named_none : (d : Described DescriptorProto) (name : List ℕ) (ys : List (Described FieldDescriptorProto)) → MessageIsPlaced → IsPooled d
    → fields_of_message d ≡ ys → AreOther name ys → (f : FieldShape) → IsNamed d name f → ⊥
named_none d name ys placed of parts o f is =
    let nothing : find (is_named_so name) (type_declared d) ≡ None =
    ap (find (is_named_so name)) (placed d of).declared
    ∙ ap (λ (xs : List (Described FieldDescriptorProto)). find (is_named_so name) (map field_shape xs ++ map extension_shape (extensions_of_message d))) parts
    ∙ none name ys (extensions_of_message d) o in
    let bad : None ≡ Some f = sym nothing ∙ is in
    absurd cc

-- ---- by the index

some_named : (d : Described DescriptorProto) (name : List ℕ) (f : FieldShape) (o : Option (Described FieldDescriptorProto)) → FieldIsListed → IsPooled d
    → with_name (fields_of_message d) name ≡ o → Some f ≡ option_map field_shape o → IsNumbered d f.number f
some_named d name f None listed of found is = absurd cc
some_named d name f (Some x) listed of found is =
    let same : f ≡ field_shape x = cc in
    subst (λ (g : FieldShape). IsNumbered d g.number g) (sym same) (listed d x of (found_there (λ (y : Described FieldDescriptorProto). is_named y.part.item.name name) (fields_of_message d) x found))

pub number_target : (d : Described DescriptorProto) (name : List ℕ) (r : Option ℕ) → NamedIsField → FieldIsListed → IsPooled d
    → r ≡ number_named (shape_of d.pool) (place_of d) name → IsTarget d (IsNamed d name) r
number_target d name r law listed of is = subst (IsTarget d (IsNamed d name)) (sym is) (at (find (is_named_so name) (type_declared d)) refl)
  where
    some_is : (a b : FieldShape) → Some a ≡ Some b → a ≡ b
    some_is a b e = cc

    at : (o : Option FieldShape) → find (is_named_so name) (type_declared d) ≡ o → IsTarget d (IsNamed d name) (option_map (λ (f : FieldShape). f.number) o)
    at None e = λ f own. absurd (let bad : None ≡ Some f = sym e ∙ own in cc)
    at (Some f) e = record {
      field = f;
      own = e;
      numbered = some_named d name f (with_name (fields_of_message d) name) listed of refl (sym e ∙ law d name of);
      number = refl;
      only = λ g own. some_is g f (sym own ∙ e);
    }

pub kept_target : (d : Described DescriptorProto) (name : List ℕ) (r : Result (Option ℕ) NoMemory) → NamedIsField → FieldIsListed → IsPooled d
    → IfOk r (λ n. n ≡ number_named (shape_of d.pool) (place_of d) name) → IfOk r (IsTarget d (IsNamed d name))
kept_target d name (Ok n) law listed of is = number_target d name n law listed of is
kept_target d name (Err e) law listed of is = tt
