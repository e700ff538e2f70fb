-- The first word of a field of a message.
use Rattle.std.proofs.Common.{◌≡◌, ℕ, List, [], ◌∷◌, Bool, true, false, not, ◌&&◌, ◌||◌, Option, Some, None, codes, refl, sym, ap, ◌∙◌}
use Rattle.std.proofs.lemmas.Bool.{false≢true}
use Rattle.std.specs.Cmp.Lexicographic.{same_text}
use Rattle.std.specs.Str.{bytes_eq}
use Rattle.pbx_parse_token.specs.declared.token.Span.{Span}
use Rattle.pbx_parse_token.specs.Tokens.{Token}
use Rattle.pbx_parse_tree.specs.declared.tree.Scalar.{Scalar}
use Rattle.pbx_parse_tree.specs.declared.tree.Scalar.TheVariants as scalars
use Rattle.pbx_parse_tree.specs.declared.tree.Label.{Label}
use Rattle.pbx_parse_tree.specs.Tree.{Name, Separated, Kind, scalar, named_type, Tail, Field}
use Rattle.pbx_parse_tree.specs.Words.{scalar_word, label_word, is_label_word, begins_item}
use Rattle.pbx_parse_tree.specs.Grammar.{name_then, list_then, next_then, full_then, mark_then, kind_then, tail_then, label_then, field_then}
use Rattle.pbx_parse_tree.specs.Conditions.{kind_is_no, begins_with_no}
use Rattle.pbx_parse_reader.specs.View.{sees_mark, sees_word, sees_both, tail}
use Rattle.pbx_parse_reader.proofs.Spelling.{word_of_label}

-- words of different sorts are different
apart_by : (p : List ℕ → Bool) (t w : List ℕ) → p t ≡ false → p w ≡ true → (b : Bool) → bytes_eq t w ≡ b → bytes_eq t w ≡ false
apart_by p t w f g true e = absurd (false≢true (sym f ∙ ap p (same_text t w (sym e)) ∙ g))
apart_by p t w f g false e = e

apart : (p : List ℕ → Bool) (t w : List ℕ) → p t ≡ false → p w ≡ true → bytes_eq t w ≡ false
apart p t w f g = apart_by p t w f g (bytes_eq t w) refl

no_item_word : (s : Scalar) → begins_item (scalar_word s) ≡ false
no_item_word scalars.Double = refl
no_item_word scalars.Float = refl
no_item_word scalars.Int32 = refl
no_item_word scalars.Int64 = refl
no_item_word scalars.Uint32 = refl
no_item_word scalars.Uint64 = refl
no_item_word scalars.Sint32 = refl
no_item_word scalars.Sint64 = refl
no_item_word scalars.Fixed32 = refl
no_item_word scalars.Fixed64 = refl
no_item_word scalars.Sfixed32 = refl
no_item_word scalars.Sfixed64 = refl
no_item_word scalars.Bool = refl
no_item_word scalars.String = refl
no_item_word scalars.Bytes = refl

not_true : (b : Bool) → not b ≡ true → b ≡ false
not_true true e = absurd (false≢true e)
not_true false e = refl

-- the first word of a field of a message, where it has no label
type_first : (w : List ℕ) → begins_item w ≡ true → (d : Option Span) (f : Separated Name) (rest : List Token) → kind_is_no begins_item (named_type (record { dot = d; full = f })) ≡ true → sees_word w (mark_then 46 d (full_then f rest)) ≡ false
type_first w g None f rest h = apart begins_item f.first.text w (not_true (begins_item f.first.text) h) g
type_first w g (Some s) f rest h = refl

kind_first : (w : List ℕ) → begins_item w ≡ true → (k : Kind) (rest : List Token) → kind_is_no begins_item k ≡ true → sees_word w (kind_then k rest) ≡ false
kind_first w g (scalar s span) rest h = apart begins_item (scalar_word s) w (no_item_word s) g
kind_first w g (named_type t) rest h = type_first w g t.dot t.full rest h

label_apart : (w : List ℕ) (l : Label) → is_label_word w ≡ false → bytes_eq (label_word l) w ≡ false
label_apart w l n = apart (λ t. not (is_label_word t)) (label_word l) w (ap not (word_of_label l)) (ap not n)

first_with : (w : List ℕ) → begins_item w ≡ true → is_label_word w ≡ false → (l : Option (Label × Span)) (k : Kind) (t : Tail) (rest : List Token) → begins_with_no begins_item (record { label = l; kind = k; tail = t }) ≡ true → sees_word w (label_then l (kind_then k rest)) ≡ false
first_with w g n None k t rest h = kind_first w g k rest h
first_with w g n (Some l) k t rest h = label_apart w l.0 n

-- a field does not begin with such a word
pub field_first : (w : List ℕ) → begins_item w ≡ true → is_label_word w ≡ false → (f : Field) (rest : List Token) → begins_with_no begins_item f ≡ true → sees_word w (field_then f rest) ≡ false
field_first w g n f rest h = first_with w g n f.label f.kind f.tail (tail_then f.tail rest) h

pub no_message : (f : Field) (rest : List Token) → begins_with_no begins_item f ≡ true → sees_word (codes "message") (field_then f rest) ≡ false
no_message = field_first (codes "message") refl refl

pub no_oneof : (f : Field) (rest : List Token) → begins_with_no begins_item f ≡ true → sees_word (codes "oneof") (field_then f rest) ≡ false
no_oneof = field_first (codes "oneof") refl refl

pub no_enum : (f : Field) (rest : List Token) → begins_with_no begins_item f ≡ true → sees_word (codes "enum") (field_then f rest) ≡ false
no_enum = field_first (codes "enum") refl refl

pub no_extend : (f : Field) (rest : List Token) → begins_with_no begins_item f ≡ true → sees_word (codes "extend") (field_then f rest) ≡ false
no_extend = field_first (codes "extend") refl refl

pub no_extensions : (f : Field) (rest : List Token) → begins_with_no begins_item f ≡ true → sees_word (codes "extensions") (field_then f rest) ≡ false
no_extensions = field_first (codes "extensions") refl refl

pub no_reserved : (f : Field) (rest : List Token) → begins_with_no begins_item f ≡ true → sees_word (codes "reserved") (field_then f rest) ≡ false
no_reserved = field_first (codes "reserved") refl refl

pub no_option : (f : Field) (rest : List Token) → begins_with_no begins_item f ≡ true → sees_word (codes "option") (field_then f rest) ≡ false
no_option = field_first (codes "option") refl refl

-- ---- a field is no map, and does not begin with `;`

and_false : (b : Bool) → (b && false) ≡ false
and_false true = refl
and_false false = refl

open_type : (d : Option Span) (f : Separated Name) (rest : List Token) → sees_mark 60 (mark_then 46 d (full_then f rest)) ≡ false
open_type None f rest = refl
open_type (Some s) f rest = refl

open_kind : (k : Kind) (rest : List Token) → sees_mark 60 (kind_then k rest) ≡ false
open_kind (scalar s span) rest = refl
open_kind (named_type t) rest = open_type t.dot t.full rest

open_names : (xs : List (Span × Name)) (t : Tail) (rest : List Token) → sees_mark 60 (list_then (next_then 46 name_then) xs (tail_then t rest)) ≡ false
unfolding list_then
open_names [] t rest = refl
open_names (x ∷ xs) t rest = refl

open_after_type : (d : Option Span) (f : Separated Name) (t : Tail) (rest : List Token) → sees_mark 60 (tail (mark_then 46 d (full_then f (tail_then t rest)))) ≡ false
open_after_type None f t rest = open_names f.more t rest
open_after_type (Some s) f t rest = refl

open_after : (k : Kind) (t : Tail) (rest : List Token) → sees_mark 60 (tail (kind_then k (tail_then t rest))) ≡ false
open_after (scalar s span) t rest = refl
open_after (named_type n) t rest = open_after_type n.dot n.full t rest

open_field : (l : Option (Label × Span)) (k : Kind) (t : Tail) (rest : List Token) → sees_mark 60 (tail (label_then l (kind_then k (tail_then t rest)))) ≡ false
open_field None k t rest = open_after k t rest
open_field (Some l) k t rest = open_kind k (tail_then t rest)

pub no_map : (f : Field) (rest : List Token) → sees_both 60 (codes "map") (field_then f rest) ≡ false
no_map f rest = ap (λ (b : Bool). sees_word (codes "map") (field_then f rest) && b) (open_field f.label f.kind f.tail rest) ∙ and_false (sees_word (codes "map") (field_then f rest))

empty_type : (d : Option Span) (f : Separated Name) (rest : List Token) → sees_mark 59 (mark_then 46 d (full_then f rest)) ≡ false
empty_type None f rest = refl
empty_type (Some s) f rest = refl

empty_kind : (k : Kind) (rest : List Token) → sees_mark 59 (kind_then k rest) ≡ false
empty_kind (scalar s span) rest = refl
empty_kind (named_type t) rest = empty_type t.dot t.full rest

empty_field : (l : Option (Label × Span)) (k : Kind) (rest : List Token) → sees_mark 59 (label_then l (kind_then k rest)) ≡ false
empty_field None k rest = empty_kind k rest
empty_field (Some l) k rest = refl

pub no_empty : (f : Field) (rest : List Token) → sees_mark 59 (field_then f rest) ≡ false
no_empty f rest = empty_field f.label f.kind (tail_then f.tail rest)

-- ---- a field whose first word begins nothing else

or_false : {a b : Bool} → a ≡ false → b ≡ false → (a || b) ≡ false
or_false {a} {b} p q = ap (λ (x : Bool). x || b) p ∙ q

-- no item but a field begins so
pub record IsField (ts : List Token) : Type 0 where
  pub no_message : sees_word (codes "message") ts ≡ false
  pub no_enum : sees_word (codes "enum") ts ≡ false
  pub no_extend : sees_word (codes "extend") ts ≡ false
  pub no_extensions : sees_word (codes "extensions") ts ≡ false
  pub no_reserved : sees_word (codes "reserved") ts ≡ false
  pub no_oneof : sees_word (codes "oneof") ts ≡ false
  pub no_option : sees_word (codes "option") ts ≡ false

type_last : (d : Option Span) (f : Separated Name) (rest : List Token) → IsField (mark_then 46 d (full_then f rest)) → kind_is_no is_label_word (named_type (record { dot = d; full = f })) ≡ true → kind_is_no begins_item (named_type (record { dot = d; full = f })) ≡ true
type_last None f rest i h = ap not (or_false (or_false (or_false (or_false (or_false (or_false (or_false (not_true (is_label_word f.first.text) h) i.no_message) i.no_enum) i.no_extend) i.no_extensions) i.no_reserved) i.no_oneof) i.no_option)
type_last (Some s) f rest i h = refl

kind_last : (k : Kind) (rest : List Token) → IsField (kind_then k rest) → kind_is_no is_label_word k ≡ true → kind_is_no begins_item k ≡ true
kind_last (scalar s span) rest i h = refl
kind_last (named_type t) rest i h = type_last t.dot t.full rest i h

last_with : (l : Option (Label × Span)) (k : Kind) (t : Tail) (rest : List Token) → IsField (label_then l (kind_then k rest)) → begins_with_no is_label_word (record { label = l; kind = k; tail = t }) ≡ true → begins_with_no begins_item (record { label = l; kind = k; tail = t }) ≡ true
last_with None k t rest i h = kind_last k rest i h
last_with (Some l) k t rest i h = refl

pub field_last : (f : Field) (rest : List Token) → IsField (field_then f rest) → begins_with_no is_label_word f ≡ true → begins_with_no begins_item f ≡ true
field_last f rest i h = last_with f.label f.kind f.tail (tail_then f.tail rest) i h

-- a field of a message that begins with no other item's word begins with no label, unless it has one
or_first : (a b : Bool) → (a || b) ≡ false → a ≡ false
or_first true b e = absurd (false≢true (sym e))
or_first false b e = refl

label_first : (t : List ℕ) → begins_item t ≡ false → is_label_word t ≡ false
label_first t e =
    or_first (is_label_word t) _ (or_first _ _ (or_first _ _ (or_first _ _ (or_first _ _ (or_first _ _ (or_first _ (bytes_eq t (codes "option")) e))))))

type_label : (d : Option Span) (f : Separated Name) → kind_is_no begins_item (named_type (record { dot = d; full = f })) ≡ true → kind_is_no is_label_word (named_type (record { dot = d; full = f })) ≡ true
type_label None f h = ap not (label_first f.first.text (not_true (begins_item f.first.text) h))
type_label (Some s) f h = refl

kind_label : (k : Kind) → kind_is_no begins_item k ≡ true → kind_is_no is_label_word k ≡ true
kind_label (scalar s span) h = refl
kind_label (named_type t) h = type_label t.dot t.full h

label_by : (l : Option (Label × Span)) (k : Kind) (t : Tail) → begins_with_no begins_item (record { label = l; kind = k; tail = t }) ≡ true → begins_with_no is_label_word (record { label = l; kind = k; tail = t }) ≡ true
label_by None k t h = kind_label k h
label_by (Some l) k t h = refl

pub item_label : (f : Field) → begins_with_no begins_item f ≡ true → begins_with_no is_label_word f ≡ true
item_label f h = label_by f.label f.kind f.tail h
