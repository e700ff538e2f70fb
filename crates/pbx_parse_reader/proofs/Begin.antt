-- What productions begin with.
use Rattle.std.proofs.Common.{◌≡◌, ℕ, List, [], ◌∷◌, Bool, true, false, not, ◌&&◌, Option, Some, None, codes, refl, sym, ap, ◌∙◌}
use Rattle.std.specs.List.{list_all}
use Rattle.pbx_parse_token.specs.declared.token.Span.{Span}
use Rattle.pbx_parse_token.specs.Tokens.{Token}
use Rattle.pbx_parse_tree.specs.declared.tree.Scalar.{Scalar}
use Rattle.pbx_parse_tree.specs.declared.tree.Scalar.TheVariants as scalars
use Rattle.pbx_parse_tree.specs.declared.tree.Label.{Label}
use Rattle.pbx_parse_tree.specs.Tree.{Item, empty_item, item_field, item_map, item_oneof, item_enum, item_extend, item_extensions, item_reserved, item_option, Top, empty_top, top_package, top_import, top_message, top_enum, top_extend, top_service, top_option, Name, Separated, TypeName, Kind, scalar, named_type, Tail, Field, Member, empty_member, member, Extension, empty_extension, extension, Number, Value, EnumItem, empty_in_enum, enum_value, enum_reserved, enum_option, MethodItem, empty_in_method, method_option, ServiceItem, empty_in_service, service_method, service_option, Reserved, reserved_ranges, reserved_names}
use Rattle.pbx_parse_tree.specs.Grammar.{list_then, item_then, top_then, worded, number_then, value_then, enum_item_then, method_item_then, service_item_then, label_then, tail_then, member_then, extension_then, reserved_then, mark_then, full_then, type_then, kind_then}
use Rattle.pbx_parse_tree.specs.Conditions.{type_fits, stream_fits, kind_is_no, begins_with_no}
use Rattle.pbx_parse_tree.specs.Words.{is_scalar_word, is_label_word, scalar_word}
use Rattle.pbx_parse_reader.specs.View.{ends_block, ends_file, sees, sees_type, sees_mark, sees_word, sees_without, word_follows, number, label_follows}

type_with : (d : Option Span) (f : Separated Name) (rest : List Token) → type_fits (record { dot = d; full = f }) ≡ not (sees is_scalar_word (mark_then 46 d (full_then f rest)))
type_with None f rest = refl
type_with (Some s) f rest = refl

-- a type that fits does not begin with the word of a scalar type
pub type_begins : (t : TypeName) (rest : List Token) → type_fits t ≡ not (sees is_scalar_word (type_then t rest))
type_begins t rest = type_with t.dot t.full rest

type_next_with : (d : Option Span) (f : Separated Name) (rest : List Token) → sees_type (mark_then 46 d (full_then f rest)) ≡ true
type_next_with None f rest = refl
type_next_with (Some s) f rest = refl

-- a type begins with a name or a dot
pub type_is_next : (t : TypeName) (rest : List Token) → sees_type (type_then t rest) ≡ true
type_is_next t rest = type_next_with t.dot t.full rest

pub all_names : {A : Type 0} (xs : List A) → list_all (λ _. true) xs ≡ true
all_names [] = refl
all_names (x ∷ xs) = all_names xs

-- the keyword with which it begins, and what follows it
pub reserved_begins : {A : Type 0} (spelled : A → List Token → List Token) (r : Reserved A) (rest ts : List Token) → ts ≡ reserved_then spelled r rest → (s : Span) × (after : List Token) × (ts ≡ worded (codes "reserved") s ∷ after)
reserved_begins spelled (reserved_ranges keyword rs close) rest ts e = (keyword, _, e)
reserved_begins spelled (reserved_names keyword ns close) rest ts e = (keyword, _, e)

-- ---- items of blocks

type_goes : (d : Option Span) (f : Separated Name) (rest : List Token) → ends_block (mark_then 46 d (full_then f rest)) ≡ false
type_goes None f rest = refl
type_goes (Some s) f rest = refl

kind_goes : (k : Kind) (rest : List Token) → ends_block (kind_then k rest) ≡ false
kind_goes (scalar s span) rest = refl
kind_goes (named_type t) rest = type_goes t.dot t.full rest

-- a block does not end where one of these begins
pub member_goes : (m : Member) (rest : List Token) → ends_block (member_then m rest) ≡ false
member_goes (empty_member s) rest = refl
member_goes (member k t) rest = kind_goes k (tail_then t rest)

field_goes : (l : Option (Label × Span)) (k : Kind) (rest : List Token) → ends_block (label_then l (kind_then k rest)) ≡ false
field_goes None k rest = kind_goes k rest
field_goes (Some l) k rest = refl

pub extension_goes : (x : Extension) (rest : List Token) → ends_block (extension_then x rest) ≡ false
extension_goes (empty_extension s) rest = refl
extension_goes (extension f) rest = field_goes f.label f.kind (tail_then f.tail rest)

pub enum_item_goes : (x : EnumItem) (rest : List Token) → ends_block (enum_item_then x rest) ≡ false
enum_item_goes (empty_in_enum s) rest = refl
enum_item_goes (enum_value v) rest = refl
enum_item_goes (enum_reserved (reserved_ranges keyword rs close)) rest = refl
enum_item_goes (enum_reserved (reserved_names keyword ns close)) rest = refl
enum_item_goes (enum_option s) rest = refl

pub method_item_goes : (x : MethodItem) (rest : List Token) → ends_block (method_item_then x rest) ≡ false
method_item_goes (empty_in_method s) rest = refl
method_item_goes (method_option s) rest = refl

pub service_item_goes : (x : ServiceItem) (rest : List Token) → ends_block (service_item_then x rest) ≡ false
service_item_goes (empty_in_service s) rest = refl
service_item_goes (service_method m) rest = refl
service_item_goes (service_option s) rest = refl

pub item_goes : (x : Item) (rest : List Token) → ends_block (item_then x rest) ≡ false
item_goes (empty_item s) rest = refl
item_goes (item_field f) rest = field_goes f.label f.kind (tail_then f.tail rest)
item_goes (item_map m) rest = refl
item_goes (item_oneof o) rest = refl
item_goes (item_enum e) rest = refl
item_goes (item_extend e) rest = refl
item_goes (item_extensions e) rest = refl
item_goes (item_reserved (reserved_ranges keyword rs close)) rest = refl
item_goes (item_reserved (reserved_names keyword ns close)) rest = refl
item_goes (item_option s) rest = refl

-- a file does not end where one of these begins
pub top_goes : (t : Top) (rest : List Token) → ends_file (top_then t rest) ≡ false
top_goes (empty_top s) rest = refl
top_goes (top_package p) rest = refl
top_goes (top_import i) rest = refl
top_goes (top_message h b close) rest = refl
top_goes (top_enum e) rest = refl
top_goes (top_extend e) rest = refl
top_goes (top_service s) rest = refl
top_goes (top_option s) rest = refl

-- what stands at the top of a file does not begin with `syntax`
pub tops_begin : (ts : List Top) → sees_word (codes "syntax") (list_then top_then ts []) ≡ false
unfolding list_then
tops_begin [] = refl
tops_begin (empty_top s ∷ ts) = refl
tops_begin (top_package p ∷ ts) = refl
tops_begin (top_import i ∷ ts) = refl
tops_begin (top_message h b close ∷ ts) = refl
tops_begin (top_enum e ∷ ts) = refl
tops_begin (top_extend e ∷ ts) = refl
tops_begin (top_service s ∷ ts) = refl
tops_begin (top_option s ∷ ts) = refl

-- ---- enums

and_false : (b : Bool) → (b && false) ≡ false
and_false true = refl
and_false false = refl

-- after the name of a value stands `=`
pub value_begins : (w : List ℕ) (v : Value) (rest : List Token) → sees_without 61 w (value_then v rest) ≡ false
value_begins w v rest = and_false (sees_word w (value_then v rest))

minus_with : (m : Option Span) (n : ℕ) (s : Span) (rest : List Token) → sees_mark 61 (mark_then 45 m (number n s ∷ rest)) ≡ false
minus_with None n s rest = refl
minus_with (Some m) n s rest = refl

-- after `reserved` stands none
pub reserved_goes : (r : Reserved Number) (rest : List Token) → sees_without 61 (codes "reserved") (reserved_then number_then r rest) ≡ true
reserved_goes (reserved_ranges keyword rs close) rest = ap not (minus_with rs.first.from.minus rs.first.from.value rs.first.from.span _)
reserved_goes (reserved_names keyword ns close) rest = refl

-- ---- services

stream_with : (s : Option Span) (d : Option Span) (f : Separated Name) (rest : List Token) → stream_fits s (record { dot = d; full = f }) ≡ word_follows (codes "stream") s (mark_then 46 d (full_then f rest))
stream_with (Some s) d f rest = refl
stream_with None None f rest = refl
stream_with None (Some d) f rest = refl

-- without the keyword a type does not begin with its word
pub stream_begins : (s : Option Span) (t : TypeName) (rest : List Token) → stream_fits s t ≡ word_follows (codes "stream") s (type_then t rest)
stream_begins s t rest = stream_with s t.dot t.full rest

-- ---- fields

no_label_word : (s : Scalar) → is_label_word (scalar_word s) ≡ false
no_label_word scalars.Double = refl
no_label_word scalars.Float = refl
no_label_word scalars.Int32 = refl
no_label_word scalars.Int64 = refl
no_label_word scalars.Uint32 = refl
no_label_word scalars.Uint64 = refl
no_label_word scalars.Sint32 = refl
no_label_word scalars.Sint64 = refl
no_label_word scalars.Fixed32 = refl
no_label_word scalars.Fixed64 = refl
no_label_word scalars.Sfixed32 = refl
no_label_word scalars.Sfixed64 = refl
no_label_word scalars.Bool = refl
no_label_word scalars.String = refl
no_label_word scalars.Bytes = refl

named_with : (p : List ℕ → Bool) (d : Option Span) (f : Separated Name) (rest : List Token) → kind_is_no p (named_type (record { dot = d; full = f })) ≡ not (sees p (mark_then 46 d (full_then f rest)))
named_with p None f rest = refl
named_with p (Some s) f rest = refl

-- a type whose first word is none of this sort does not begin with one
pub kind_begins : (p : List ℕ → Bool) → ((s : Scalar) → p (scalar_word s) ≡ false) → (k : Kind) (rest : List Token) → kind_is_no p k ≡ true → not (sees p (kind_then k rest)) ≡ true
kind_begins p no_scalar (scalar s span) rest h = ap not (no_scalar s)
kind_begins p no_scalar (named_type t) rest h = sym (named_with p t.dot t.full rest) ∙ h

label_with : (l : Option (Label × Span)) (k : Kind) (t : Tail) (rest : List Token) → begins_with_no is_label_word (record { label = l; kind = k; tail = t }) ≡ true → label_follows l (kind_then k rest) ≡ true
label_with None k t rest h = kind_begins is_label_word no_label_word k rest h
label_with (Some l) k t rest h = refl

-- no label, or one, stands before the type of such a field
pub field_begins : (f : Field) (rest : List Token) → begins_with_no is_label_word f ≡ true → label_follows f.label (kind_then f.kind rest) ≡ true
field_begins f rest h = label_with f.label f.kind f.tail rest h
