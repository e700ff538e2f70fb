-- What is counted on the way through a list.
use Rattle.std.proofs.Common.{◌≡◌, ℕ, ◌+◌, ◌<◌, ◌≤◌, List, [], ◌∷◌, ◌++◌, length, map, drop, get_or, refl, sym, ap, ◌∙◌, add-one, drop-cons, if◌then◌else◌, pos}
use Rattle.std.proofs.Math.ListN.{drop_of_length-le}
use Rattle.pbx_desc_records.specs.declared.message.DescriptorProto.{DescriptorProto}
use Rattle.pbx_parse_tree.specs.declared.tree.Version.{Version}
use Rattle.pbx_parse_tree.specs.declared.tree.Modifier.{Modifier}
use Rattle.pbx_parse_tree.specs.Tree.{Import, Body, end}
use Rattle.pbx_parse_tree.specs.View.{BodyItem, plain, nested, add}
use Rattle.pbx_parse_translation.specs.Messages.{oneofs_in, optional_names_in, fields_in, fields_from, entries_in, message_with, nested_types}
use Rattle.pbx_parse_translation.specs.Translation.{has_modifier, indexes_from}

-- the rest of a mapped list begins with the item at i
pub rest_seen : {A B : Type 0} (view : A → B) (xs : List A) (i : ℕ) (x : A) → i < length xs → x ≡ get_or xs i x → map view (drop i xs) ≡ view x ∷ map view (drop (i + 1) xs)
rest_seen {A} view xs i x below is =
    ap (map view) (drop-cons xs i x below)
    ∙ ap (λ (k : ℕ). view (get_or xs i x) ∷ map view (drop k xs)) (sym (add-one i))
    ∙ ap (λ (y : A). view y ∷ map view (drop (i + 1) xs)) (sym is)

pub none_seen : {A B : Type 0} (view : A → B) (xs : List A) (i : ℕ) → length xs ≤ i → map view (drop i xs) ≡ []
none_seen view xs i past = ap (map view) (drop_of_length-le xs past)

-- ---- fields

pub fields_more : (v : Version) (written synthetic : ℕ) (p : BodyItem) (ps : List BodyItem) → fields_from v written synthetic (p ∷ ps) ≡ fields_in v written synthetic p ++ fields_from v (written + length (oneofs_in p)) (synthetic + length (optional_names_in v p)) ps
unfolding fields_from
fields_more v written synthetic p ps = refl

pub fields_none : (v : Version) (written synthetic : ℕ) → fields_from v written synthetic [] ≡ []
unfolding fields_from
fields_none v written synthetic = refl

-- ---- nested types

abbrev pub types_in : Version → BodyItem → List DescriptorProto
types_in v (plain i) = entries_in i
types_in v (nested h inner close) = message_with v h.name.text inner (nested_types v inner) ∷ []

pub types_more : (v : Version) (p : BodyItem) (b : Body) → nested_types v (add p b) ≡ types_in v p ++ nested_types v b
unfolding nested_types
types_more v (plain i) b = refl
types_more v (nested h inner close) b = refl

pub types_none : (v : Version) → nested_types v end ≡ []
unfolding nested_types
types_none v = refl

-- ---- indexes

pub indexes_more : (k : ℕ) (m : Modifier) (i : Import) (is : List Import) → indexes_from k m (i ∷ is) ≡ (if has_modifier m i.modifier then pos k ∷ [] else []) ++ indexes_from (k + 1) m is
unfolding indexes_from
indexes_more k m i is = refl

pub indexes_none : (k : ℕ) (m : Modifier) → indexes_from k m [] ≡ []
unfolding indexes_from
indexes_none k m = refl
