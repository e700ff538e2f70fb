-- Blocks without messages are spelled in one way.
use Rattle.std.proofs.Common.{◌≡◌, ℕ, List, ◌∷◌, Bool, true, false, ◌==◌, Option, Some, None, codes, refl, sym}
use Rattle.std.specs.Str.{bytes_eq}
use Rattle.pbx_parse_token.specs.declared.token.Span.{Span}
use Rattle.pbx_parse_token.specs.Tokens.{Token}
use Rattle.pbx_parse_tree.specs.declared.tree.Label.{Label}
use Rattle.pbx_parse_tree.specs.declared.tree.Version.{Version}
use Rattle.pbx_parse_tree.specs.Tree.{TypeName, Kind, scalar, named_type, Reserved, reserved_ranges, reserved_names, Field, MapField, Member, empty_member, member, Oneof, Extension, empty_extension, extension, Extend, Value, EnumItem, empty_in_enum, enum_value, enum_reserved, enum_option, Enum, MethodType, MethodItem, empty_in_method, method_option, MethodEnd, method_semicolon, method_block, Method, ServiceItem, empty_in_service, service_method, service_option, Service}
use Rattle.pbx_parse_tree.specs.Grammar.{marked, worded, word_then, number_then, type_then, kind_then, reserved_then, label_then, map_then, member_then, oneof_then, extension_then, extend_then, value_then, enum_item_then, enum_then, method_type_then, method_item_then, method_end_then, method_then, service_item_then, service_then}
use Rattle.pbx_parse_tree.specs.Conditions.{map_fits, member_fits, oneof_fits, extension_fits, extend_fits, method_type_fits, method_fits, service_item_fits, service_fits}
use Rattle.pbx_parse_tree.proofs.Holds.{both, always}
use Rattle.pbx_parse_tree.proofs.UniqueTokens.{heads, next_is, is_mark, is_string, begins_number, sees_mark, sees, sees_word, apart, word_same, named_same, number_same, any, closes, SpellsOnce, block_same}
use Rattle.pbx_parse_tree.proofs.UniqueParts.{type_same, type_sees, scalar_same, kind_same, number_begins, settings_same, statement_same, reserved_same, tail_same, kind_tail_same, field_same}

-- ---- a type begins with no mark but a dot

type_marks : (c : ℕ) → (46 == c) ≡ false → (d : Option Span) (t : TypeName) (y : List Token) → sees_mark c (type_then (record t { dot = d }) y) ≡ false
type_marks c e None t y = refl
type_marks c e (Some s) t y = e

kind_marks : (c : ℕ) → (46 == c) ≡ false → (k : Kind) (y : List Token) → sees_mark c (kind_then k y) ≡ false
kind_marks c e (scalar s span) y = refl
kind_marks c e (named_type t) y = type_marks c e t.dot t y

label_marks : (c : ℕ) → (46 == c) ≡ false → (l : Option (Label × Span)) (k : Kind) (y : List Token) → sees_mark c (label_then l (kind_then k y)) ≡ false
label_marks c e None k y = kind_marks c e k y
label_marks c e (Some l) k y = refl

-- a field begins with no mark but a dot
pub field_marks : (c : ℕ) → (46 == c) ≡ false → (f : Field) (y : List Token) → sees_mark c (label_then f.label (kind_then f.kind y)) ≡ false
field_marks c e f y = label_marks c e f.label f.kind y

-- ---- maps and oneofs

pub map_same : (m n : MapField) {x y : List Token} → map_fits m ≡ true → map_fits n ≡ true → map_then m x ≡ map_then n y → (m ≡ n) × (x ≡ y)
map_same m n f g e =
    let a = heads e in
    let b = heads a.1 in
    let c = heads b.1 in
    let d = heads c.1 in
    let k = kind_same m.value n.value (both (both f).0).1 (both (both g).0).1 refl refl d.1 in
    let l = heads k.1 in
    let t = tail_same m.tail n.tail l.1 in
    let key : m.key ≡ n.key = scalar_same (word_same c.0) in (
      (λ i. record {
        keyword = (a.0 i).span;
        «open» = (b.0 i).span;
        key = key i;
        key_span = (c.0 i).span;
        comma = (d.0 i).span;
        value = k.0 i;
        close = (l.0 i).span;
        tail = t.0 i;
      }),
      t.1,
    )

member_once : SpellsOnce member_then member_fits any
member_once (empty_member s) (empty_member t) x y f g p q e = let h = heads e in ((λ i. empty_member ((h.0 i).span)), h.1)
member_once (empty_member s) (member k t) x y f g p q e = absurd (apart (sees_mark 59) refl (kind_marks 59 refl k _) e)
member_once (member k t) (empty_member s) x y f g p q e = absurd (apart (sees_mark 59) refl (kind_marks 59 refl k _) (sym e))
member_once (member k t) (member l u) x y f g p q e =
    let h = kind_tail_same k l t u (both f).0 (both g).0 e in
    ((λ i. member (h.0 i) (h.1 i)), h.2)

member_goes : (m : Member) (x : List Token) → member_fits m ≡ true → closes (member_then m x) ≡ false
member_goes (empty_member s) x f = refl
member_goes (member k t) x f = kind_marks 125 refl k _

pub oneof_same : (o p : Oneof) {x y : List Token} → oneof_fits o ≡ true → oneof_fits p ≡ true → oneof_then o x ≡ oneof_then p y → (o ≡ p) × (x ≡ y)
oneof_same o p {x = x} {y = y} f g e =
    let a = heads e in
    let b = heads a.1 in
    let c = heads b.1 in
    let d = block_same member_then member_fits member_once member_goes o.members p.members o.close p.close x y f g c.1 in
    let name : o.name ≡ p.name = named_same b.0 in
    ((λ i. record { keyword = (a.0 i).span; name = name i; «open» = (c.0 i).span; members = d.0 i; close = d.1 i }), d.2)

-- ---- extensions

extension_once : (v : Version) → SpellsOnce extension_then (extension_fits v) any
extension_once v (empty_extension s) (empty_extension t) x y f g p q e = let h = heads e in ((λ i. empty_extension ((h.0 i).span)), h.1)
extension_once v (empty_extension s) (extension j) x y f g p q e = absurd (apart (sees_mark 59) refl (field_marks 59 refl j _) e)
extension_once v (extension j) (empty_extension s) x y f g p q e = absurd (apart (sees_mark 59) refl (field_marks 59 refl j _) (sym e))
extension_once v (extension j) (extension k) x y f g p q e =
    let f' = both f in
    let g' = both g in
    let h = field_same j k f'.0 g'.0 (both (both f'.1).0).1 (both (both g'.1).0).1 e in
    ((λ i. extension (h.0 i)), h.1)

extension_goes : (v : Version) (m : Extension) (x : List Token) → extension_fits v m ≡ true → closes (extension_then m x) ≡ false
extension_goes v (empty_extension s) x f = refl
extension_goes v (extension j) x f = field_marks 125 refl j _

pub extend_same : (v : Version) (d k : Extend) {x y : List Token} → extend_fits v d ≡ true → extend_fits v k ≡ true → extend_then d x ≡ extend_then k y → (d ≡ k) × (x ≡ y)
extend_same v d k {x = x} {y = y} f g e =
    let a = heads e in
    let b = type_same d.extendee k.extendee refl refl a.1 in
    let c = heads b.1 in
    let l = block_same extension_then (extension_fits v) (extension_once v) (extension_goes v) d.extensions k.extensions d.close k.close x y (both f).1 (both g).1 c.1 in
    ((λ i. record { keyword = (a.0 i).span; extendee = b.0 i; «open» = (c.0 i).span; extensions = l.0 i; close = l.1 i }), l.2)

-- ---- enums

value_same : (v w : Value) {x y : List Token} → value_then v x ≡ value_then w y → (v ≡ w) × (x ≡ y)
value_same v w e =
    let a = heads e in
    let b = heads a.1 in
    let c = number_same v.number w.number b.1 in
    let d = settings_same v.settings w.settings refl refl c.1 in
    let l = heads d.1 in
    let name : v.name ≡ w.name = named_same a.0 in
    ((λ i. record { name = name i; equals = (b.0 i).span; number = c.0 i; settings = d.0 i; end = (l.0 i).span }), l.1)

pub reserved_sees : {A : Type 0} (one_then : A → List Token → List Token) (p : List ℕ → Bool) (r : Reserved A) (x : List Token) → sees p (reserved_then one_then r x) ≡ p (codes "reserved")
reserved_sees one_then p (reserved_ranges k l s) x = refl
reserved_sees one_then p (reserved_names k l s) x = refl

pub reserved_marks : {A : Type 0} (one_then : A → List Token → List Token) (c : ℕ) (r : Reserved A) (x : List Token) → sees_mark c (reserved_then one_then r x) ≡ false
reserved_marks one_then c (reserved_ranges k l s) x = refl
reserved_marks one_then c (reserved_names k l s) x = refl

-- `=` follows `reserved` where it is the name of a value
no_value : (r : Reserved _) (v : Value) (x y : List Token) → reserved_then number_then r x ≡ value_then v y → ⊥
no_value (reserved_ranges k l s) v x y e = apart (next_is begins_number) (number_begins l.first.from _) refl e
no_value (reserved_names k l s) v x y e = apart (next_is is_string) refl refl e

no_option : (r : Reserved _) (x y : List Token) (s : Span) → reserved_then number_then r x ≡ worded (codes "option") s ∷ y → ⊥
no_option r x y s e = apart (sees_word (codes "option")) refl (reserved_sees number_then (λ t. bytes_eq t (codes "option")) r x) (sym e)

enum_item_once : SpellsOnce enum_item_then any any
enum_item_once (empty_in_enum s) (empty_in_enum t) x y f g p q e = let h = heads e in ((λ i. empty_in_enum ((h.0 i).span)), h.1)
enum_item_once (empty_in_enum s) (enum_value w) x y f g p q e = absurd (apart (sees_mark 59) refl refl e)
enum_item_once (empty_in_enum s) (enum_reserved r) x y f g p q e = absurd (apart (sees_mark 59) refl (reserved_marks number_then 59 r y) e)
enum_item_once (empty_in_enum s) (enum_option t) x y f g p q e = absurd (apart (sees_mark 59) refl refl e)
enum_item_once (enum_value v) (empty_in_enum t) x y f g p q e = absurd (apart (sees_mark 59) refl refl (sym e))
enum_item_once (enum_value v) (enum_value w) x y f g p q e = let h = value_same v w e in ((λ i. enum_value (h.0 i)), h.1)
enum_item_once (enum_value v) (enum_reserved r) x y f g p q e = absurd (no_value r v y x (sym e))
enum_item_once (enum_value v) (enum_option t) x y f g p q e = absurd (apart (next_is (is_mark 61)) refl refl e)
enum_item_once (enum_reserved r) (empty_in_enum t) x y f g p q e = absurd (apart (sees_mark 59) refl (reserved_marks number_then 59 r x) (sym e))
enum_item_once (enum_reserved r) (enum_value w) x y f g p q e = absurd (no_value r w x y e)
enum_item_once (enum_reserved r) (enum_reserved s) x y f g p q e =
    let h = reserved_same number_then (λ m n x y e. number_same m n e) number_begins r s e in
    ((λ i. enum_reserved (h.0 i)), h.1)
enum_item_once (enum_reserved r) (enum_option t) x y f g p q e = absurd (no_option r x _ t.keyword e)
enum_item_once (enum_option s) (empty_in_enum t) x y f g p q e = absurd (apart (sees_mark 59) refl refl (sym e))
enum_item_once (enum_option s) (enum_value w) x y f g p q e = absurd (apart (next_is (is_mark 61)) refl refl (sym e))
enum_item_once (enum_option s) (enum_reserved r) x y f g p q e = absurd (no_option r y _ s.keyword (sym e))
enum_item_once (enum_option s) (enum_option t) x y f g p q e = let h = statement_same s t e in ((λ i. enum_option (h.0 i)), h.1)

enum_item_goes : (i : EnumItem) (x : List Token) → any i ≡ true → closes (enum_item_then i x) ≡ false
enum_item_goes (empty_in_enum s) x f = refl
enum_item_goes (enum_value w) x f = refl
enum_item_goes (enum_reserved r) x f = reserved_marks number_then 125 r x
enum_item_goes (enum_option t) x f = refl

pub enum_same : (c d : Enum) {x y : List Token} → enum_then c x ≡ enum_then d y → (c ≡ d) × (x ≡ y)
enum_same c d {x = x} {y = y} e =
    let a = heads e in
    let b = heads a.1 in
    let o = heads b.1 in
    let l = block_same enum_item_then any enum_item_once enum_item_goes c.items d.items c.close d.close x y (always c.items) (always d.items) o.1 in
    let name : c.name ≡ d.name = named_same b.0 in
    ((λ i. record { keyword = (a.0 i).span; name = name i; «open» = (o.0 i).span; items = l.0 i; close = l.1 i }), l.2)

-- ---- services

-- `stream` is the keyword, where a type begins with it
after_stream : (a b c d : Span) (o p : Option Span) (t u : TypeName) (x y : List Token) → method_type_fits (record { «open» = a; stream = o; name = t; close = b }) ≡ true → method_type_fits (record { «open» = c; stream = p; name = u; close = d }) ≡ true → word_then (codes "stream") o (type_then t x) ≡ word_then (codes "stream") p (type_then u y) → (o ≡ p) × (type_then t x ≡ type_then u y)
after_stream a b c d None None t u x y f g e = (refl, e)
after_stream a b c d None (Some r) t u x y f g e = absurd (apart (sees_word (codes "stream")) refl (type_sees (λ w. bytes_eq w (codes "stream")) t x (both f).1) (sym e))
after_stream a b c d (Some r) None t u x y f g e = absurd (apart (sees_word (codes "stream")) refl (type_sees (λ w. bytes_eq w (codes "stream")) u y (both g).1) e)
after_stream a b c d (Some r) (Some s) t u x y f g e = let h = heads e in ((λ i. Some ((h.0 i).span)), h.1)

method_type_same : (t u : MethodType) {x y : List Token} → method_type_fits t ≡ true → method_type_fits u ≡ true → method_type_then t x ≡ method_type_then u y → (t ≡ u) × (x ≡ y)
method_type_same t u {x = x} {y = y} f g e =
    let a = heads e in
    let b = after_stream t.open t.close u.open u.close t.stream u.stream t.name u.name (marked 41 t.close ∷ x) (marked 41 u.close ∷ y) f g a.1 in
    let c = type_same t.name u.name refl refl b.1 in
    let d = heads c.1 in
    ((λ i. record { «open» = (a.0 i).span; stream = b.0 i; name = c.0 i; close = (d.0 i).span }), d.1)

method_item_once : SpellsOnce method_item_then any any
method_item_once (empty_in_method s) (empty_in_method t) x y f g p q e = let h = heads e in ((λ i. empty_in_method ((h.0 i).span)), h.1)
method_item_once (empty_in_method s) (method_option t) x y f g p q e = absurd (apart (sees_mark 59) refl refl e)
method_item_once (method_option s) (empty_in_method t) x y f g p q e = absurd (apart (sees_mark 59) refl refl (sym e))
method_item_once (method_option s) (method_option t) x y f g p q e = let h = statement_same s t e in ((λ i. method_option (h.0 i)), h.1)

method_item_goes : (i : MethodItem) (x : List Token) → any i ≡ true → closes (method_item_then i x) ≡ false
method_item_goes (empty_in_method s) x f = refl
method_item_goes (method_option t) x f = refl

method_end_same : (c d : MethodEnd) {x y : List Token} → method_end_then c x ≡ method_end_then d y → (c ≡ d) × (x ≡ y)
method_end_same (method_semicolon s) (method_semicolon t) e = let h = heads e in ((λ i. method_semicolon ((h.0 i).span)), h.1)
method_end_same (method_semicolon s) (method_block o is c) e = absurd (apart (sees_mark 59) refl refl e)
method_end_same (method_block o is c) (method_semicolon t) e = absurd (apart (sees_mark 59) refl refl (sym e))
method_end_same (method_block o is c) (method_block p js d) {x = x} {y = y} e =
    let a = heads e in
    let l = block_same method_item_then any method_item_once method_item_goes is js c d x y (always is) (always js) a.1 in
    ((λ i. method_block ((a.0 i).span) (l.0 i) (l.1 i)), l.2)

method_same : (m n : Method) {x y : List Token} → method_fits m ≡ true → method_fits n ≡ true → method_then m x ≡ method_then n y → (m ≡ n) × (x ≡ y)
method_same m n f g e =
    let f' = both (both f).0 in
    let g' = both (both g).0 in
    let a = heads e in
    let b = heads a.1 in
    let input = method_type_same m.input n.input f'.0 g'.0 b.1 in
    let r = heads input.1 in
    let output = method_type_same m.output n.output f'.1 g'.1 r.1 in
    let l = method_end_same m.end n.end output.1 in
    let name : m.name ≡ n.name = named_same b.0 in
    ((λ i. record { keyword = (a.0 i).span; name = name i; input = input.0 i; returns = (r.0 i).span; output = output.0 i; end = l.0 i }), l.1)

service_item_once : SpellsOnce service_item_then service_item_fits any
service_item_once (empty_in_service s) (empty_in_service t) x y f g p q e = let h = heads e in ((λ i. empty_in_service ((h.0 i).span)), h.1)
service_item_once (empty_in_service s) (service_method n) x y f g p q e = absurd (apart (sees_mark 59) refl refl e)
service_item_once (empty_in_service s) (service_option t) x y f g p q e = absurd (apart (sees_mark 59) refl refl e)
service_item_once (service_method m) (empty_in_service t) x y f g p q e = absurd (apart (sees_mark 59) refl refl (sym e))
service_item_once (service_method m) (service_method n) x y f g p q e = let h = method_same m n f g e in ((λ i. service_method (h.0 i)), h.1)
service_item_once (service_method m) (service_option t) x y f g p q e = absurd (apart (sees_word (codes "rpc")) refl refl e)
service_item_once (service_option s) (empty_in_service t) x y f g p q e = absurd (apart (sees_mark 59) refl refl (sym e))
service_item_once (service_option s) (service_method n) x y f g p q e = absurd (apart (sees_word (codes "rpc")) refl refl (sym e))
service_item_once (service_option s) (service_option t) x y f g p q e = let h = statement_same s t e in ((λ i. service_option (h.0 i)), h.1)

service_item_goes : (i : ServiceItem) (x : List Token) → service_item_fits i ≡ true → closes (service_item_then i x) ≡ false
service_item_goes (empty_in_service s) x f = refl
service_item_goes (service_method m) x f = refl
service_item_goes (service_option t) x f = refl

pub service_same : (s t : Service) {x y : List Token} → service_fits s ≡ true → service_fits t ≡ true → service_then s x ≡ service_then t y → (s ≡ t) × (x ≡ y)
service_same s t {x = x} {y = y} f g e =
    let a = heads e in
    let b = heads a.1 in
    let o = heads b.1 in
    let l = block_same service_item_then service_item_fits service_item_once service_item_goes s.items t.items s.close t.close x y (both f).0 (both g).0 o.1 in
    let name : s.name ≡ t.name = named_same b.0 in
    ((λ i. record { keyword = (a.0 i).span; name = name i; «open» = (o.0 i).span; items = l.0 i; close = l.1 i }), l.2)
