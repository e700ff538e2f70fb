-- Tokens spell at most one file that meets the conditions.
use Rattle.std.proofs.Common.{◌≡◌, ℕ, zero, suc, List, [], ◌∷◌, Bool, true, false, ◌==◌, ◌&&◌, Option, Some, None, if◌then◌else◌, codes, refl, sym, ap, ◌∙◌}
use Rattle.std.specs.Str.{bytes_eq}
use Rattle.std.proofs.Math.Bool.{and-false}
use Rattle.std.proofs.lemmas.Bool.{false≢true}
use Rattle.pbx_parse_token.specs.declared.token.Span.{Span}
use Rattle.pbx_parse_token.specs.Tokens.{Word, Token, ident, int, str, mark}
use Rattle.pbx_parse_tree.specs.declared.tree.Scalar.{Scalar}
use Rattle.pbx_parse_tree.specs.declared.tree.Scalar.TheVariants as scalars
use Rattle.pbx_parse_tree.specs.declared.tree.Label.{Label}
use Rattle.pbx_parse_tree.specs.declared.tree.Label.TheVariants as labels
use Rattle.pbx_parse_tree.specs.declared.tree.Modifier.{Modifier}
use Rattle.pbx_parse_tree.specs.declared.tree.Modifier.TheVariants as modifiers
use Rattle.pbx_parse_tree.specs.declared.tree.Version.{Version}
use Rattle.pbx_parse_tree.specs.Words.{scalar_word, label_word, modifier_word, is_label_word, begins_item}
use Rattle.pbx_parse_tree.specs.Tree.{Name, Separated, Kind, scalar, named_type, Tail, Field, Item, empty_item, item_field, item_map, item_oneof, item_enum, item_extend, item_extensions, item_reserved, item_option, reserved_ranges, reserved_names, Head, Body, end, item, message, Syntax, Package, Import, Top, empty_top, top_package, top_import, top_message, top_enum, top_extend, top_service, top_option, File}
use Rattle.pbx_parse_tree.specs.Grammar.{marked, list_then, next_then, name_then, count_then, kind_then, tail_then, label_then, item_then, head_then, body_then, syntax_then, package_then, modifier_then, import_then, top_then, first_then, file_then}
use Rattle.pbx_parse_tree.specs.Conditions.{begins_with_no, item_fits, body_fits, top_fits, version_of, fit_with, Conditions}
use Rattle.pbx_parse_tree.proofs.Holds.{both, neither, from_not, to_not}
use Rattle.pbx_parse_tree.proofs.UniqueTokens.{heads, first_is, is_string, sees_mark, sees_word, apart, word_same, named_same, quoted_same, count_same, any, closes, list_same}
use Rattle.pbx_parse_tree.proofs.UniqueParts.{full_same, statement_same, count_begins, reserved_same, extensions_same, field_same}
use Rattle.pbx_parse_tree.proofs.UniqueBlocks.{field_marks, map_same, oneof_same, extend_same, enum_same, service_same, reserved_marks}

-- ---- which item begins

-- each form of an item has a number, and a message has one
abbrev form : Item → ℕ
form (empty_item s) = 1
form (item_field f) = 2
form (item_map m) = 3
form (item_oneof o) = 5
form (item_enum e) = 6
form (item_extend e) = 7
form (item_extensions e) = 8
form (item_reserved r) = 9
form (item_option s) = 10

abbrev form_of_word : List ℕ → ℕ
form_of_word t =
    if bytes_eq t (codes "message") then 4
    else (if bytes_eq t (codes "oneof") then 5
    else (if bytes_eq t (codes "enum") then 6
    else (if bytes_eq t (codes "extend") then 7
    else (if bytes_eq t (codes "extensions") then 8
    else (if bytes_eq t (codes "reserved") then 9
    else (if bytes_eq t (codes "option") then 10
    else 2))))))

abbrev form_at : Word → List Token → ℕ
form_at (ident t) ts = if begins_item t then form_of_word t else (if bytes_eq t (codes "map") && sees_mark 60 ts then 3 else 2)
form_at (int n) ts = 0
form_at (str t) ts = 0
form_at (mark c) ts = if c == 59 then 1 else (if c == 46 then 2 else 0)

-- the form of the item that begins with these tokens
abbrev form_seen : List Token → ℕ
form_seen [] = 0
form_seen (t ∷ ts) = form_at t.word ts

scalar_form : (s : Scalar) (ts : List Token) → form_at (ident (scalar_word s)) ts ≡ 2
scalar_form scalars.Double ts = refl
scalar_form scalars.Float ts = refl
scalar_form scalars.Int32 ts = refl
scalar_form scalars.Int64 ts = refl
scalar_form scalars.Uint32 ts = refl
scalar_form scalars.Uint64 ts = refl
scalar_form scalars.Sint32 ts = refl
scalar_form scalars.Sint64 ts = refl
scalar_form scalars.Fixed32 ts = refl
scalar_form scalars.Fixed64 ts = refl
scalar_form scalars.Sfixed32 ts = refl
scalar_form scalars.Sfixed64 ts = refl
scalar_form scalars.Bool ts = refl
scalar_form scalars.String ts = refl
scalar_form scalars.Bytes ts = refl

label_form : (l : Label) (ts : List Token) → form_at (ident (label_word l)) ts ≡ 2
label_form labels.Optional ts = refl
label_form labels.Required ts = refl
label_form labels.Repeated ts = refl

-- no `<` follows the name of a type
no_angle : (ns : List (Span × Name)) (t : Tail) (x : List Token) → sees_mark 60 (list_then (next_then 46 name_then) ns (tail_then t x)) ≡ false
unfolding list_then
no_angle [] t x = refl
no_angle (n ∷ ns) t x = refl

word_form : (t : List ℕ) (ts : List Token) → begins_item t ≡ false → sees_mark 60 ts ≡ false → form_at (ident t) ts ≡ 2
word_form t ts f g =
    ap (λ b. if b then form_of_word t else (if bytes_eq t (codes "map") && sees_mark 60 ts then 3 else 2)) f
    ∙ ap (λ b. if bytes_eq t (codes "map") && b then 3 else 2) g
    ∙ ap (λ b. if b then 3 else 2) (and-false (bytes_eq t (codes "map")))

type_form : (d : Option Span) (f : Separated Name) (t : Tail) (x : List Token) → begins_with_no begins_item (record { label = None; kind = named_type (record { dot = d; full = f }); tail = t }) ≡ true → form_seen (kind_then (named_type (record { dot = d; full = f })) (tail_then t x)) ≡ 2
type_form None f t x e = word_form f.first.text (list_then (next_then 46 name_then) f.more (tail_then t x)) (from_not e) (no_angle f.more t x)
type_form (Some s) f t x e = refl

field_form : (l : Option (Label × Span)) (k : Kind) (t : Tail) (x : List Token) → begins_with_no begins_item (record { label = l; kind = k; tail = t }) ≡ true → form_seen (label_then l (kind_then k (tail_then t x))) ≡ 2
field_form None (scalar s span) t x e = scalar_form s (tail_then t x)
field_form None (named_type n) t x e = type_form n.dot n.full t x e
field_form (Some l) k t x e = label_form l.0 (kind_then k (tail_then t x))

reserved_form : (r : _) (x : List Token) → form_seen (item_then (item_reserved r) x) ≡ 9
reserved_form (reserved_ranges k l s) x = refl
reserved_form (reserved_names k l s) x = refl

item_form : (v : Version) (i : Item) (x : List Token) → item_fits v i ≡ true → form_seen (item_then i x) ≡ form i
item_form v (empty_item s) x f = refl
item_form v (item_field j) x f = field_form j.label j.kind j.tail x (both f).0
item_form v (item_map m) x f = refl
item_form v (item_oneof o) x f = refl
item_form v (item_enum e) x f = refl
item_form v (item_extend e) x f = refl
item_form v (item_extensions e) x f = refl
item_form v (item_reserved r) x f = reserved_form r x
item_form v (item_option s) x f = refl

-- ---- items

weaker : (t : List ℕ) → begins_item t ≡ false → is_label_word t ≡ false
weaker t e = (neither (neither (neither (neither (neither (neither (neither e).0).0).0).0).0).0).0

weaker_type : (d : Option Span) (f : Separated Name) (t : Tail) → begins_with_no begins_item (record { label = None; kind = named_type (record { dot = d; full = f }); tail = t }) ≡ true → begins_with_no is_label_word (record { label = None; kind = named_type (record { dot = d; full = f }); tail = t }) ≡ true
weaker_type None f t e = to_not (weaker f.first.text (from_not e))
weaker_type (Some s) f t e = refl

weaker_field : (l : Option (Label × Span)) (k : Kind) (t : Tail) → begins_with_no begins_item (record { label = l; kind = k; tail = t }) ≡ true → begins_with_no is_label_word (record { label = l; kind = k; tail = t }) ≡ true
weaker_field None (scalar s span) t e = refl
weaker_field None (named_type n) t e = weaker_type n.dot n.full t e
weaker_field (Some l) k t e = refl

-- what begins with a word that begins no item does not begin with a label
no_label_first : (f : Field) → begins_with_no begins_item f ≡ true → begins_with_no is_label_word f ≡ true
no_label_first f e = weaker_field f.label f.kind f.tail e

item_goes : (i : Item) (x : List Token) → closes (item_then i x) ≡ false
item_goes (empty_item s) x = refl
item_goes (item_field j) x = field_marks 125 refl j (tail_then j.tail x)
item_goes (item_map m) x = refl
item_goes (item_oneof o) x = refl
item_goes (item_enum e) x = refl
item_goes (item_extend e) x = refl
item_goes (item_extensions e) x = refl
item_goes (item_reserved r) x = reserved_marks count_then 125 r x
item_goes (item_option s) x = refl

item_same : (v : Version) (i j : Item) {x y : List Token} → item_fits v i ≡ true → item_fits v j ≡ true → item_then i x ≡ item_then j y → (i ≡ j) × (x ≡ y)
item_same v (empty_item s) (empty_item t) f g e = let h = heads e in ((λ i. empty_item ((h.0 i).span)), h.1)
item_same v (item_field j) (item_field k) f g e =
    let f' = both f in
    let g' = both g in
    let h = field_same j k (no_label_first j f'.0) (no_label_first k g'.0) (both (both f'.1).0).1 (both (both g'.1).0).1 e in
    ((λ i. item_field (h.0 i)), h.1)
item_same v (item_map m) (item_map n) f g e = let h = map_same m n f g e in ((λ i. item_map (h.0 i)), h.1)
item_same v (item_oneof o) (item_oneof p) f g e = let h = oneof_same o p f g e in ((λ i. item_oneof (h.0 i)), h.1)
item_same v (item_enum c) (item_enum d) f g e = let h = enum_same c d e in ((λ i. item_enum (h.0 i)), h.1)
item_same v (item_extend c) (item_extend d) f g e = let h = extend_same v c d f g e in ((λ i. item_extend (h.0 i)), h.1)
item_same v (item_extensions c) (item_extensions d) f g e = let h = extensions_same c d e in ((λ i. item_extensions (h.0 i)), h.1)
item_same v (item_reserved r) (item_reserved s) f g e =
    let h = reserved_same count_then (λ m n x y e. count_same m n e) count_begins r s e in
    ((λ i. item_reserved (h.0 i)), h.1)
item_same v (item_option s) (item_option t) f g e = let h = statement_same s t e in ((λ i. item_option (h.0 i)), h.1)
item_same v i j {x = x} {y = y} f g e =
    let other : form i ≡ form j = sym (item_form v i x f) ∙ ap form_seen e ∙ item_form v j y g in
    absurd cc

-- ---- bodies

head_same : (h k : Head) {x y : List Token} → head_then h x ≡ head_then k y → (h ≡ k) × (x ≡ y)
head_same h k e =
    let a = heads e in
    let b = heads a.1 in
    let c = heads b.1 in
    let name : h.name ≡ k.name = named_same b.0 in
    ((λ i. record { keyword = (a.0 i).span; name = name i; «open» = (c.0 i).span }), c.1)

other_form : (i : Item) → form i ≡ 4 → ⊥
other_form (empty_item s) e = absurd cc
other_form (item_field j) e = absurd cc
other_form (item_map m) e = absurd cc
other_form (item_oneof o) e = absurd cc
other_form (item_enum d) e = absurd cc
other_form (item_extend d) e = absurd cc
other_form (item_extensions d) e = absurd cc
other_form (item_reserved r) e = absurd cc
other_form (item_option s) e = absurd cc

-- an item is no message
no_message : (v : Version) (i : Item) (h : Head) (x y : List Token) → item_fits v i ≡ true → item_then i x ≡ head_then h y → ⊥
no_message v i h x y f e = other_form i (sym (item_form v i x f) ∙ ap form_seen e)

body_same : (v : Version) (n : ℕ) (b d : Body) (x y : List Token) → body_fits v n b ≡ true → body_fits v n d ≡ true → closes x ≡ true → closes y ≡ true → body_then b x ≡ body_then d y → (b ≡ d) × (x ≡ y)
unfolding body_then body_fits
body_same v n end end x y f g p q e = (refl, e)
body_same v n end (item j d) x y f g p q e = absurd (apart closes p (item_goes j (body_then d y)) e)
body_same v n end (message k m t d) x y f g p q e = absurd (apart closes p refl e)
body_same v n (item i b) end x y f g p q e = absurd (apart closes q (item_goes i (body_then b x)) (sym e))
body_same v n (item i b) (item j d) x y f g p q e =
    let f' = both f in
    let g' = both g in
    let h = item_same v i j f'.0 g'.0 e in
    let r = body_same v n b d x y f'.1 g'.1 p q h.1 in
    ((λ i. item (h.0 i) (r.0 i)), r.1)
body_same v n (item i b) (message k m t d) x y f g p q e = absurd (no_message v i k (body_then b x) (body_then m (marked 125 t ∷ body_then d y)) (both f).0 e)
body_same v n (message h l s b) end x y f g p q e = absurd (apart closes q refl (sym e))
body_same v n (message h l s b) (item j d) x y f g p q e = absurd (no_message v j h (body_then d y) (body_then l (marked 125 s ∷ body_then b x)) (both g).0 (sym e))
body_same v zero (message h l s b) (message k m t d) x y f g p q e = absurd (false≢true f)
body_same v (suc n) (message h l s b) (message k m t d) x y f g p q e =
    let f' = both f in
    let g' = both g in
    let a = head_same h k e in
    let c = body_same v n l m (marked 125 s ∷ body_then b x) (marked 125 t ∷ body_then d y) (both f'.0).0 (both g'.0).0 refl refl a.1 in
    let o = heads c.1 in
    let r = body_same v (suc n) b d x y f'.1 g'.1 p q o.1 in
    ((λ i. message (a.0 i) (c.0 i) ((o.0 i).span) (r.0 i)), r.1)

-- ---- files

syntax_same : (s t : Syntax) {x y : List Token} → syntax_then s x ≡ syntax_then t y → (s ≡ t) × (x ≡ y)
syntax_same s t e =
    let a = heads e in
    let b = heads a.1 in
    let c = heads b.1 in
    let d = heads c.1 in
    let value : s.value ≡ t.value = quoted_same c.0 in
    ((λ i. record { keyword = (a.0 i).span; equals = (b.0 i).span; value = value i; end = (d.0 i).span }), d.1)

package_same : (p q : Package) {x y : List Token} → package_then p x ≡ package_then q y → (p ≡ q) × (x ≡ y)
package_same p q e =
    let a = heads e in
    let b = full_same p.full q.full refl refl a.1 in
    let c = heads b.1 in
    ((λ i. record { keyword = (a.0 i).span; full = b.0 i; end = (c.0 i).span }), c.1)

abbrev modifier_at : List ℕ → Modifier
modifier_at t = if bytes_eq t (codes "public") then modifiers.Public else modifiers.Weak

modifier_told : (m : Modifier) → modifier_at (modifier_word m) ≡ m
modifier_told modifiers.Public = refl
modifier_told modifiers.Weak = refl

modifier_same : (m n : Option (Modifier × Span)) {x y : List Token} → first_is is_string x ≡ true → first_is is_string y ≡ true → modifier_then m x ≡ modifier_then n y → (m ≡ n) × (x ≡ y)
modifier_same None None f g e = (refl, e)
modifier_same None (Some n) f g e = absurd (apart (first_is is_string) f refl e)
modifier_same (Some m) None f g e = absurd (apart (first_is is_string) g refl (sym e))
modifier_same (Some m) (Some n) f g e =
    let h = heads e in
    let word : modifier_word m.0 ≡ modifier_word n.0 = word_same h.0 in
    let is : m.0 ≡ n.0 = sym (modifier_told m.0) ∙ ap modifier_at word ∙ modifier_told n.0 in
    ((λ i. Some (is i, (h.0 i).span)), h.1)

import_same : (m n : Import) {x y : List Token} → import_then m x ≡ import_then n y → (m ≡ n) × (x ≡ y)
import_same m n e =
    let a = heads e in
    let b = modifier_same m.modifier n.modifier refl refl a.1 in
    let c = heads b.1 in
    let d = heads c.1 in
    let path : m.path ≡ n.path = quoted_same c.0 in
    ((λ i. record { keyword = (a.0 i).span; modifier = b.0 i; path = path i; end = (d.0 i).span }), d.1)

-- each form of a statement has a number
abbrev top_form : Top → ℕ
top_form (empty_top s) = 1
top_form (top_package p) = 2
top_form (top_import i) = 3
top_form (top_message h b close) = 4
top_form (top_enum e) = 5
top_form (top_extend e) = 6
top_form (top_service s) = 7
top_form (top_option s) = 8

abbrev top_form_at : Word → ℕ
top_form_at (ident t) =
    if bytes_eq t (codes "package") then 2
    else (if bytes_eq t (codes "import") then 3
    else (if bytes_eq t (codes "message") then 4
    else (if bytes_eq t (codes "enum") then 5
    else (if bytes_eq t (codes "extend") then 6
    else (if bytes_eq t (codes "service") then 7
    else (if bytes_eq t (codes "option") then 8
    else 0))))))
top_form_at (int n) = 0
top_form_at (str t) = 0
top_form_at (mark c) = 1

abbrev top_form_seen : List Token → ℕ
top_form_seen [] = 0
top_form_seen (t ∷ ts) = top_form_at t.word

top_told : (t : Top) (x : List Token) → (top_form_seen (top_then t x) ≡ top_form t) × (sees_word (codes "syntax") (top_then t x) ≡ false)
top_told (empty_top s) x = (refl, refl)
top_told (top_package p) x = (refl, refl)
top_told (top_import i) x = (refl, refl)
top_told (top_message h b close) x = (refl, refl)
top_told (top_enum e) x = (refl, refl)
top_told (top_extend e) x = (refl, refl)
top_told (top_service s) x = (refl, refl)
top_told (top_option s) x = (refl, refl)

top_same : (v : Version) (t u : Top) {x y : List Token} → top_fits v t ≡ true → top_fits v u ≡ true → top_then t x ≡ top_then u y → (t ≡ u) × (x ≡ y)
top_same v (empty_top s) (empty_top t) f g e = let h = heads e in ((λ i. empty_top ((h.0 i).span)), h.1)
top_same v (top_package p) (top_package q) f g e = let h = package_same p q e in ((λ i. top_package (h.0 i)), h.1)
top_same v (top_import m) (top_import n) f g e = let h = import_same m n e in ((λ i. top_import (h.0 i)), h.1)
top_same v (top_message h b s) (top_message k d t) {x = x} {y = y} f g e =
    let a = head_same h k e in
    let c = body_same v 30 b d (marked 125 s ∷ x) (marked 125 t ∷ y) (both f).0 (both g).0 refl refl a.1 in
    let o = heads c.1 in
    ((λ i. top_message (a.0 i) (c.0 i) ((o.0 i).span)), o.1)
top_same v (top_enum c) (top_enum d) f g e = let h = enum_same c d e in ((λ i. top_enum (h.0 i)), h.1)
top_same v (top_extend c) (top_extend d) f g e = let h = extend_same v c d f g e in ((λ i. top_extend (h.0 i)), h.1)
top_same v (top_service s) (top_service t) f g e = let h = service_same s t f g e in ((λ i. top_service (h.0 i)), h.1)
top_same v (top_option s) (top_option t) f g e = let h = statement_same s t e in ((λ i. top_option (h.0 i)), h.1)
top_same v t u {x = x} {y = y} f g e =
    let other : top_form t ≡ top_form u = sym (top_told t x).0 ∙ ap top_form_seen e ∙ (top_told u y).0 in
    absurd cc

abbrev is_over : List Token → Bool
is_over [] = true
is_over (t ∷ ts) = false

top_goes : (t : Top) (x : List Token) → is_over (top_then t x) ≡ false
top_goes (empty_top s) x = refl
top_goes (top_package p) x = refl
top_goes (top_import i) x = refl
top_goes (top_message h b close) x = refl
top_goes (top_enum e) x = refl
top_goes (top_extend e) x = refl
top_goes (top_service s) x = refl
top_goes (top_option s) x = refl

tops_same : (o : Option Version) (ts us : List Top) → fit_with o ts ≡ true → fit_with o us ≡ true → list_then top_then ts [] ≡ list_then top_then us [] → ts ≡ us
tops_same None ts us f g e = absurd (false≢true f)
tops_same (Some v) ts us f g e = (list_same top_then (top_fits v) any is_over (λ t u x y f g p q e. top_same v t u f g e) (λ t x f. top_goes t x) (λ t x f. refl) (λ x p. refl) ts us [] [] (both (both f).0).0 (both (both g).0).0 refl refl e).0

-- the statements of a file do not begin as its syntax statement does
no_syntax : (ts : List Top) → sees_word (codes "syntax") (list_then top_then ts []) ≡ false
unfolding list_then
no_syntax [] = refl
no_syntax (t ∷ ts) = (top_told t (list_then top_then ts [])).1

first_same : (o p : Option Syntax) {x y : List Token} → sees_word (codes "syntax") x ≡ false → sees_word (codes "syntax") y ≡ false → first_then o x ≡ first_then p y → (o ≡ p) × (x ≡ y)
first_same None None f g e = (refl, e)
first_same None (Some t) f g e = absurd (apart (sees_word (codes "syntax")) refl f (sym e))
first_same (Some s) None f g e = absurd (apart (sees_word (codes "syntax")) refl g e)
first_same (Some s) (Some t) f g e = let h = syntax_same s t e in ((λ i. Some (h.0 i)), h.1)

pub file_same : (a b : File) → Conditions a → Conditions b → file_then a [] ≡ file_then b [] → a ≡ b
file_same a b f g e =
    let h = first_same a.syntax b.syntax (no_syntax a.tops) (no_syntax b.tops) e in
    let g' : fit_with (version_of a.syntax) b.tops ≡ true = ap (λ o. fit_with (version_of o) b.tops) h.0 ∙ g in
    let tops = tops_same (version_of a.syntax) a.tops b.tops f g' h.1 in
    λ i. record { syntax = h.0 i; tops = tops i }
