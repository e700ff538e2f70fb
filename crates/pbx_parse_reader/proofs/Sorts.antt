-- The sort of an item, and what begins with an item of that sort.
use Rattle.std.proofs.Common.{◌≡◌, List, Bool, true, false, if◌then◌else◌, Result, codes, refl, sym, ap, ◌∙◌}
use Rattle.std.proofs.lemmas.Bool.{false≢true}
use Rattle.pbx_parse_token.specs.declared.token.Span.{Span}
use Rattle.pbx_parse_token.specs.Tokens.{Token}
use Rattle.pbx_parse_tree.specs.declared.tree.Version.{Version}
use Rattle.pbx_parse_tree.specs.declared.tree.Item as code_item
use Rattle.pbx_parse_tree.specs.Tree.{Setting, Count, MapField, Oneof, Enum, Extend, Extensions, Reserved, Statement, Field, Item, empty_item, item_field, item_map, item_oneof, item_enum, item_extend, item_extensions, item_reserved, item_option, reserved_ranges, reserved_names}
use Rattle.pbx_parse_tree.specs.Grammar.{item_then, field_then}
use Rattle.pbx_parse_tree.specs.Conditions.{begins_with_no}
use Rattle.pbx_parse_tree.specs.Words.{begins_item}
use Rattle.pbx_parse_tree.specs.View.{plain, item_of}
use Rattle.pbx_parse_reader.specs.declared.error.ReadError.{ReadError}
use Rattle.pbx_parse_reader.specs.declared.messages.First.{First}
use Rattle.pbx_parse_reader.specs.declared.messages.First.TheVariants as firsts
use Rattle.pbx_parse_reader.specs.Blocks.{item_behind}
use Rattle.pbx_parse_reader.specs.Items.{first_of}
use Rattle.pbx_parse_reader.specs.View.{sees_mark, sees_word, sees_both, Reaches}
use Rattle.pbx_parse_reader.proofs.FieldFirst.{no_empty, no_map, no_oneof, no_enum, no_extend, no_extensions, no_reserved, no_option, IsField}
use Rattle.pbx_parse_reader.proofs.ItemForms.{field_of_message}

abbrev pub sort_of : Item → First
sort_of (empty_item s) = firsts.Empty
sort_of (item_field f) = firsts.Field
sort_of (item_map m) = firsts.Map
sort_of (item_oneof o) = firsts.Oneof
sort_of (item_enum x) = firsts.Enum
sort_of (item_extend x) = firsts.Extend
sort_of (item_extensions x) = firsts.Extensions
sort_of (item_reserved r) = firsts.Reserved
sort_of (item_option s) = firsts.Option

else_of : (b : Bool) (x y z : First) → b ≡ false → y ≡ z → (if b then x else y) ≡ z
else_of true x y z e n = absurd (false≢true (sym e))
else_of false x y z e n = n

first_of_field : (f : Field) (rest : List Token) → begins_with_no begins_item f ≡ true → first_of (field_then f rest) ≡ firsts.Field
first_of_field f rest h =
    else_of _ _ _ _ (no_empty f rest)
    (else_of _ _ _ _ (no_map f rest)
    (else_of _ _ _ _ (no_oneof f rest h)
    (else_of _ _ _ _ (no_enum f rest h)
    (else_of _ _ _ _ (no_extend f rest h)
    (else_of _ _ _ _ (no_extensions f rest h)
    (else_of _ _ _ _ (no_reserved f rest h)
    (else_of _ _ _ _ (no_option f rest h) refl)))))))

pub first_of_item : (v : Version) (before : List Setting) (i : Item) (rest : List Token) → item_behind v before i ≡ true → first_of (item_then i rest) ≡ sort_of i
first_of_item v before (empty_item s) rest fits = refl
first_of_item v before (item_field f) rest fits = first_of_field f rest (field_of_message v f fits)
first_of_item v before (item_map m) rest fits = refl
first_of_item v before (item_oneof o) rest fits = refl
first_of_item v before (item_enum x) rest fits = refl
first_of_item v before (item_extend x) rest fits = refl
first_of_item v before (item_extensions x) rest fits = refl
first_of_item v before (item_reserved (reserved_ranges keyword rs close)) rest fits = refl
first_of_item v before (item_reserved (reserved_names keyword ns close)) rest fits = refl
first_of_item v before (item_option s) rest fits = refl

-- what holds of all items of a sort
abbrev pub EachOf : (Item → Type 0) → First → Type 0
EachOf P firsts.Empty = (s : Span) → P (empty_item s)
EachOf P firsts.Map = (x : MapField) → P (item_map x)
EachOf P firsts.Oneof = (x : Oneof) → P (item_oneof x)
EachOf P firsts.Enum = (x : Enum) → P (item_enum x)
EachOf P firsts.Extend = (x : Extend) → P (item_extend x)
EachOf P firsts.Extensions = (x : Extensions) → P (item_extensions x)
EachOf P firsts.Reserved = (x : Reserved Count) → P (item_reserved x)
EachOf P firsts.Option = (x : Statement) → P (item_option x)
EachOf P firsts.Field = (x : Field) → P (item_field x)

by_sort : (P : Item → Type 0) (i : Item) → EachOf P (sort_of i) → P i
by_sort P (empty_item s) f = f s
by_sort P (item_field x) f = f x
by_sort P (item_map x) f = f x
by_sort P (item_oneof x) f = f x
by_sort P (item_enum x) f = f x
by_sort P (item_extend x) f = f x
by_sort P (item_extensions x) f = f x
by_sort P (item_reserved x) f = f x
by_sort P (item_option x) f = f x

abbrev pub Only : Version → List Setting → List Token → List Token → Result code_item.Item ReadError → List Token → Item → Type 0
Only v before ts rest result after i = item_behind v before i ≡ true → ts ≡ item_then i rest → Reaches item_of (plain i) rest result after

-- what is read where an item of this sort is next
pub only_of : (v : Version) (before : List Setting) (ts rest after : List Token) (result : Result code_item.Item ReadError) (s : First) → s ≡ first_of ts → EachOf (Only v before ts rest result after) s → (i : Item) → Only v before ts rest result after i
only_of v before ts rest after result s seen each i fits e =
    let sort : s ≡ sort_of i = seen ∙ ap first_of e ∙ first_of_item v before i rest fits in
    by_sort (Only v before ts rest result after) i (rw (sym sort) each) fits e

-- ---- no item but a field begins so

abbrev is_field : First → Bool
is_field firsts.Field = true
is_field _ = false

not_then : (b : Bool) (x y : First) → is_field (if b then x else y) ≡ true → is_field x ≡ false → (b ≡ false) × (is_field y ≡ true)
not_then true x y e n = absurd (false≢true (sym n ∙ e))
not_then false x y e n = (refl, e)

pub field_by : (ts : List Token) → sees_word (codes "message") ts ≡ false → first_of ts ≡ firsts.Field → IsField ts
field_by ts message e =
    let a = not_then (sees_mark 59 ts) firsts.Empty _ (ap is_field e) refl in
    let b = not_then (sees_both 60 (codes "map") ts) firsts.Map _ a.1 refl in
    let c = not_then (sees_word (codes "oneof") ts) firsts.Oneof _ b.1 refl in
    let d = not_then (sees_word (codes "enum") ts) firsts.Enum _ c.1 refl in
    let x = not_then (sees_word (codes "extend") ts) firsts.Extend _ d.1 refl in
    let f = not_then (sees_word (codes "extensions") ts) firsts.Extensions _ x.1 refl in
    let g = not_then (sees_word (codes "reserved") ts) firsts.Reserved _ f.1 refl in
    let h = not_then (sees_word (codes "option") ts) firsts.Option firsts.Field g.1 refl in
    record { no_message = message; no_enum = d.0; no_extend = x.0; no_extensions = f.0; no_reserved = g.0; no_oneof = c.0; no_option = h.0 }
