-- Types, options, ranges and fields are spelled in one way.
use Rattle.std.proofs.Common.{◌≡◌, ℕ, List, ◌∷◌, Bool, true, false, not, Option, Some, None, if◌then◌else◌, codes, refl, sym, ap, ◌∙◌}
use Rattle.std.specs.Str.{bytes_eq}
use Rattle.pbx_parse_token.specs.declared.token.Span.{Span}
use Rattle.pbx_parse_token.specs.Tokens.{Token}
use Rattle.pbx_parse_tree.specs.declared.tree.Scalar.{Scalar}
use Rattle.pbx_parse_tree.specs.declared.tree.Scalar.TheVariants as scalars
use Rattle.pbx_parse_tree.specs.declared.tree.Label.{Label}
use Rattle.pbx_parse_tree.specs.declared.tree.Label.TheVariants as labels
use Rattle.pbx_parse_tree.specs.Words.{scalar_word, label_word, is_scalar_word, is_label_word}
use Rattle.pbx_parse_tree.specs.Tree.{Name, Count, Number, Separated, TypeName, Kind, scalar, named_type, Constant, constant_number, constant_identifier, constant_string, Setting, Settings, Statement, RangeEnd, range_number, range_max, Range, Extensions, Reserved, reserved_ranges, reserved_names, Tail, Field}
use Rattle.pbx_parse_tree.specs.Grammar.{marked, separated_then, name_then, literal_then, count_then, number_then, full_then, type_then, kind_then, constant_then, setting_then, some_settings_then, settings_then, statement_then, range_end_then, to_then, range_then, extensions_then, reserved_then, tail_then, label_then, field_then}
use Rattle.pbx_parse_tree.specs.Conditions.{kind_fits, kind_is_no, begins_with_no}
use Rattle.pbx_parse_tree.proofs.Holds.{from_not}
use Rattle.pbx_parse_tree.proofs.UniqueTokens.{heads, first_is, is_string, begins_number, sees_mark, sees, sees_word, apart, word_same, span_same, named_same, quoted_same, counted_same, mark_then_same, number_same, count_same, SpellsOnce, any, all_separated_same}

-- ---- names of types

name_once : SpellsOnce name_then any any
name_once m n x y f g p q e = let h = heads e in (named_same h.0, h.1)

pub full_same : (l m : Separated Name) {x y : List Token} → sees_mark 46 x ≡ false → sees_mark 46 y ≡ false → full_then l x ≡ full_then m y → (l ≡ m) × (x ≡ y)
full_same l m {x = x} {y = y} f g e = all_separated_same 46 name_then any name_once (λ s x. refl) l m x y f g refl refl e

pub type_same : (t u : TypeName) {x y : List Token} → sees_mark 46 x ≡ false → sees_mark 46 y ≡ false → type_then t x ≡ type_then u y → (t ≡ u) × (x ≡ y)
type_same t u f g e =
    let h = mark_then_same 46 t.dot u.dot refl refl e in
    let k = full_same t.full u.full f g h.1 in
    ((λ i. record { dot = h.0 i; full = k.0 i }), k.1)

abbrev scalar_at : List ℕ → Scalar
scalar_at t =
    if bytes_eq t (codes "double") then scalars.Double
    else (if bytes_eq t (codes "float") then scalars.Float
    else (if bytes_eq t (codes "int32") then scalars.Int32
    else (if bytes_eq t (codes "int64") then scalars.Int64
    else (if bytes_eq t (codes "uint32") then scalars.Uint32
    else (if bytes_eq t (codes "uint64") then scalars.Uint64
    else (if bytes_eq t (codes "sint32") then scalars.Sint32
    else (if bytes_eq t (codes "sint64") then scalars.Sint64
    else (if bytes_eq t (codes "fixed32") then scalars.Fixed32
    else (if bytes_eq t (codes "fixed64") then scalars.Fixed64
    else (if bytes_eq t (codes "sfixed32") then scalars.Sfixed32
    else (if bytes_eq t (codes "sfixed64") then scalars.Sfixed64
    else (if bytes_eq t (codes "bool") then scalars.Bool
    else (if bytes_eq t (codes "string") then scalars.String
    else scalars.Bytes)))))))))))))

-- the word of a scalar type is one of them, and tells it
scalar_told : (s : Scalar) → (scalar_at (scalar_word s) ≡ s) × (is_scalar_word (scalar_word s) ≡ true)
scalar_told scalars.Double = (refl, refl)
scalar_told scalars.Float = (refl, refl)
scalar_told scalars.Int32 = (refl, refl)
scalar_told scalars.Int64 = (refl, refl)
scalar_told scalars.Uint32 = (refl, refl)
scalar_told scalars.Uint64 = (refl, refl)
scalar_told scalars.Sint32 = (refl, refl)
scalar_told scalars.Sint64 = (refl, refl)
scalar_told scalars.Fixed32 = (refl, refl)
scalar_told scalars.Fixed64 = (refl, refl)
scalar_told scalars.Sfixed32 = (refl, refl)
scalar_told scalars.Sfixed64 = (refl, refl)
scalar_told scalars.Bool = (refl, refl)
scalar_told scalars.String = (refl, refl)
scalar_told scalars.Bytes = (refl, refl)

pub scalar_same : {a b : Scalar} → scalar_word a ≡ scalar_word b → a ≡ b
scalar_same {a = a} {b = b} e = sym (scalar_told a).0 ∙ ap scalar_at e ∙ (scalar_told b).0

bare_sees : (p : List ℕ → Bool) (d : Option Span) (f : Separated Name) (y : List Token) → kind_is_no p (named_type (record { dot = d; full = f })) ≡ true → sees p (type_then (record { dot = d; full = f }) y) ≡ false
bare_sees p None f y e = from_not e
bare_sees p (Some s) f y e = refl

-- a type that is no word of a sort does not begin with one, where a scalar type's is none
pub kind_sees : (p : List ℕ → Bool) → ((s : Scalar) → p (scalar_word s) ≡ false) → (k : Kind) (y : List Token) → kind_is_no p k ≡ true → sees p (kind_then k y) ≡ false
kind_sees p none (scalar s span) y e = none s
kind_sees p none (named_type t) y e = bare_sees p t.dot t.full y e

pub type_sees : (p : List ℕ → Bool) (t : TypeName) (y : List Token) → kind_is_no p (named_type t) ≡ true → sees p (type_then t y) ≡ false
type_sees p t y e = bare_sees p t.dot t.full y e

pub kind_same : (k l : Kind) {x y : List Token} → kind_fits k ≡ true → kind_fits l ≡ true → sees_mark 46 x ≡ false → sees_mark 46 y ≡ false → kind_then k x ≡ kind_then l y → (k ≡ l) × (x ≡ y)
kind_same (scalar a s) (scalar b t) f g p q e =
    let h = heads e in
    let c : a ≡ b = scalar_same (word_same h.0) in
    ((λ i. scalar (c i) ((h.0 i).span)), h.1)
kind_same (scalar a s) (named_type u) {y = y} f g p q e = absurd (apart (sees is_scalar_word) (scalar_told a).1 (type_sees is_scalar_word u y g) e)
kind_same (named_type t) (scalar b s) {x = x} f g p q e = absurd (apart (sees is_scalar_word) (scalar_told b).1 (type_sees is_scalar_word t x f) (sym e))
kind_same (named_type t) (named_type u) f g p q e = let h = type_same t u p q e in ((λ i. named_type (h.0 i)), h.1)

-- ---- options

begins_with : (o : Option Span) (v : ℕ) (s : Span) (x : List Token) → first_is begins_number (number_then (record { minus = o; value = v; span = s }) x) ≡ true
begins_with None v s x = refl
begins_with (Some t) v s x = refl

pub number_begins : (n : Number) (x : List Token) → first_is begins_number (number_then n x) ≡ true
number_begins n x = begins_with n.minus n.value n.span x

pub count_begins : (n : Count) (x : List Token) → first_is begins_number (count_then n x) ≡ true
count_begins n x = refl

constant_same : (c d : Constant) {x y : List Token} → constant_then c x ≡ constant_then d y → (c ≡ d) × (x ≡ y)
constant_same (constant_number m) (constant_number n) e = let h = number_same m n e in ((λ i. constant_number (h.0 i)), h.1)
constant_same (constant_number m) (constant_identifier n) {x = x} e = absurd (apart (first_is begins_number) (number_begins m x) refl e)
constant_same (constant_number m) (constant_string l) {x = x} e = absurd (apart (first_is begins_number) (number_begins m x) refl e)
constant_same (constant_identifier m) (constant_number n) {y = y} e = absurd (apart (first_is begins_number) (number_begins n y) refl (sym e))
constant_same (constant_identifier m) (constant_identifier n) e =
    let h = heads e in
    let name : m ≡ n = named_same h.0 in
    ((λ i. constant_identifier (name i)), h.1)
constant_same (constant_identifier m) (constant_string l) e = absurd (apart (first_is is_string) refl refl (sym e))
constant_same (constant_string l) (constant_number n) {y = y} e = absurd (apart (first_is begins_number) (number_begins n y) refl (sym e))
constant_same (constant_string l) (constant_identifier n) e = absurd (apart (first_is is_string) refl refl e)
constant_same (constant_string l) (constant_string m) e =
    let h = heads e in
    let text : l ≡ m = quoted_same h.0 in
    ((λ i. constant_string (text i)), h.1)

setting_same : (s t : Setting) {x y : List Token} → setting_then s x ≡ setting_then t y → (s ≡ t) × (x ≡ y)
setting_same s t e =
    let a = heads e in
    let b = heads a.1 in
    let c = constant_same s.value t.value b.1 in
    let name : s.name ≡ t.name = named_same a.0 in
    ((λ i. record { name = name i; equals = (b.0 i).span; value = c.0 i }), c.1)

setting_once : SpellsOnce setting_then any any
setting_once s t x y f g p q e = setting_same s t e

some_settings_same : (s t : Settings) {x y : List Token} → some_settings_then s x ≡ some_settings_then t y → (s ≡ t) × (x ≡ y)
some_settings_same s t {x = x} {y = y} e =
    let a = heads e in
    let b = all_separated_same 44 setting_then any setting_once (λ s x. refl) s.settings t.settings (marked 93 s.close ∷ x) (marked 93 t.close ∷ y) refl refl refl refl a.1 in
    let c = heads b.1 in
    ((λ i. record { «open» = (a.0 i).span; settings = b.0 i; close = (c.0 i).span }), c.1)

pub settings_same : (o p : Option Settings) {x y : List Token} → sees_mark 91 x ≡ false → sees_mark 91 y ≡ false → settings_then o x ≡ settings_then p y → (o ≡ p) × (x ≡ y)
settings_same None None f g e = (refl, e)
settings_same None (Some t) f g e = absurd (apart (sees_mark 91) refl f (sym e))
settings_same (Some s) None f g e = absurd (apart (sees_mark 91) refl g e)
settings_same (Some s) (Some t) f g e = let h = some_settings_same s t e in ((λ i. Some (h.0 i)), h.1)

pub statement_same : (s t : Statement) {x y : List Token} → statement_then s x ≡ statement_then t y → (s ≡ t) × (x ≡ y)
statement_same s t e =
    let a = heads e in
    let b = setting_same s.setting t.setting a.1 in
    let c = heads b.1 in
    ((λ i. record { keyword = (a.0 i).span; setting = b.0 i; end = (c.0 i).span }), c.1)

-- ---- ranges

literal_once : SpellsOnce literal_then any any
literal_once l m x y f g p q e = let h = heads e in (quoted_same h.0, h.1)

module _ {A : Type 0} (one_then : A → List Token → List Token) (one_same : (a b : A) (x y : List Token) → one_then a x ≡ one_then b y → (a ≡ b) × (x ≡ y)) (one_begins : (a : A) (x : List Token) → first_is begins_number (one_then a x) ≡ true) where
  range_end_same : (a b : RangeEnd A) {x y : List Token} → range_end_then one_then a x ≡ range_end_then one_then b y → (a ≡ b) × (x ≡ y)
  range_end_same (range_number m) (range_number n) {x = x} {y = y} e = let h = one_same m n x y e in ((λ i. range_number (h.0 i)), h.1)
  range_end_same (range_number m) (range_max t) {x = x} e = absurd (apart (first_is begins_number) (one_begins m x) refl e)
  range_end_same (range_max s) (range_number n) {y = y} e = absurd (apart (first_is begins_number) (one_begins n y) refl (sym e))
  range_end_same (range_max s) (range_max t) e = let h = heads e in ((λ i. range_max ((h.0 i).span)), h.1)

  to_same : (o p : Option (Span × RangeEnd A)) {x y : List Token} → sees_word (codes "to") x ≡ false → sees_word (codes "to") y ≡ false → to_then one_then o x ≡ to_then one_then p y → (o ≡ p) × (x ≡ y)
  to_same None None f g e = (refl, e)
  to_same None (Some t) f g e = absurd (apart (sees_word (codes "to")) refl f (sym e))
  to_same (Some s) None f g e = absurd (apart (sees_word (codes "to")) refl g e)
  to_same (Some s) (Some t) f g e =
      let h = heads e in
      let k = range_end_same s.1 t.1 h.1 in
      ((λ i. Some ((h.0 i).span, k.0 i)), k.1)

  abbrev no_to : List Token → Bool
  no_to x = not (sees_word (codes "to") x)

  range_once : SpellsOnce (range_then one_then) any no_to
  range_once a b x y f g p q e =
      let h = one_same a.from b.from (to_then one_then a.to x) (to_then one_then b.to y) e in
      let k = to_same a.to b.to (from_not p) (from_not q) h.1 in
      ((λ i. record { from = h.0 i; to = k.0 i }), k.1)

  pub ranges_same : (l m : Separated (Range A)) (s t : Span) {x y : List Token} → separated_then 44 (range_then one_then) l (marked 59 s ∷ x) ≡ separated_then 44 (range_then one_then) m (marked 59 t ∷ y) → (l ≡ m) × (s ≡ t) × (x ≡ y)
  ranges_same l m s t {x = x} {y = y} e =
      let h = all_separated_same 44 (range_then one_then) no_to range_once (λ s x. refl) l m (marked 59 s ∷ x) (marked 59 t ∷ y) refl refl refl refl e in
      let k = heads h.1 in
      (h.0, span_same k.0, k.1)

  pub reserved_same : (a b : Reserved A) {x y : List Token} → reserved_then one_then a x ≡ reserved_then one_then b y → (a ≡ b) × (x ≡ y)
  reserved_same (reserved_ranges k l s) (reserved_ranges j m t) e =
      let a = heads e in
      let b = ranges_same l m s t a.1 in
      ((λ i. reserved_ranges ((a.0 i).span) (b.0 i) (b.1 i)), b.2)
  reserved_same (reserved_ranges k l s) (reserved_names j m t) e = absurd (apart (first_is begins_number) (one_begins l.first.from _) refl (heads e).1)
  reserved_same (reserved_names k l s) (reserved_ranges j m t) e = absurd (apart (first_is begins_number) (one_begins m.first.from _) refl (sym (heads e).1))
  reserved_same (reserved_names k l s) (reserved_names j m t) {x = x} {y = y} e =
      let a = heads e in
      let b = all_separated_same 44 literal_then any literal_once (λ s x. refl) l m (marked 59 s ∷ x) (marked 59 t ∷ y) refl refl refl refl a.1 in
      let c = heads b.1 in
      ((λ i. reserved_names ((a.0 i).span) (b.0 i) ((c.0 i).span)), c.1)

pub extensions_same : (a b : Extensions) {x y : List Token} → extensions_then a x ≡ extensions_then b y → (a ≡ b) × (x ≡ y)
extensions_same a b e =
    let h = heads e in
    let k = ranges_same count_then (λ m n x y e. count_same m n e) count_begins a.ranges b.ranges a.end b.end h.1 in
    ((λ i. record { keyword = (h.0 i).span; ranges = k.0 i; end = k.1 i }), k.2)

-- ---- fields

pub tail_same : (t u : Tail) {x y : List Token} → tail_then t x ≡ tail_then u y → (t ≡ u) × (x ≡ y)
tail_same t u e =
    let a = heads e in
    let b = heads a.1 in
    let c = heads b.1 in
    let d = settings_same t.settings u.settings refl refl c.1 in
    let l = heads d.1 in
    let name : t.name ≡ u.name = named_same a.0 in
    let number : t.number ≡ u.number = counted_same c.0 in
    ((λ i. record { name = name i; equals = (b.0 i).span; number = number i; settings = d.0 i; end = (l.0 i).span }), l.1)

abbrev label_at : List ℕ → Label
label_at t = if bytes_eq t (codes "optional") then labels.Optional else (if bytes_eq t (codes "required") then labels.Required else labels.Repeated)

label_told : (l : Label) → (label_at (label_word l) ≡ l) × (is_label_word (label_word l) ≡ true)
label_told labels.Optional = (refl, refl)
label_told labels.Required = (refl, refl)
label_told labels.Repeated = (refl, refl)

label_same : {a b : Label} → label_word a ≡ label_word b → a ≡ b
label_same {a = a} {b = b} e = sym (label_told a).0 ∙ ap label_at e ∙ (label_told b).0

no_label : (s : Scalar) → is_label_word (scalar_word s) ≡ false
no_label scalars.Double = refl
no_label scalars.Float = refl
no_label scalars.Int32 = refl
no_label scalars.Int64 = refl
no_label scalars.Uint32 = refl
no_label scalars.Uint64 = refl
no_label scalars.Sint32 = refl
no_label scalars.Sint64 = refl
no_label scalars.Fixed32 = refl
no_label scalars.Fixed64 = refl
no_label scalars.Sfixed32 = refl
no_label scalars.Sfixed64 = refl
no_label scalars.Bool = refl
no_label scalars.String = refl
no_label scalars.Bytes = refl

-- a label is the first word of a field, where it has none
after_label : (l m : Option (Label × Span)) (j k : Kind) (t u : Tail) (x y : List Token) → begins_with_no is_label_word (record { label = l; kind = j; tail = t }) ≡ true → begins_with_no is_label_word (record { label = m; kind = k; tail = u }) ≡ true → label_then l (kind_then j x) ≡ label_then m (kind_then k y) → (l ≡ m) × (kind_then j x ≡ kind_then k y)
after_label None None j k t u x y f g e = (refl, e)
after_label None (Some m) j k t u x y f g e = absurd (apart (sees is_label_word) (label_told m.0).1 (kind_sees is_label_word no_label j x f) (sym e))
after_label (Some l) None j k t u x y f g e = absurd (apart (sees is_label_word) (label_told l.0).1 (kind_sees is_label_word no_label k y g) e)
after_label (Some l) (Some m) j k t u x y f g e =
    let h = heads e in
    let label : l.0 ≡ m.0 = label_same (word_same h.0) in
    ((λ i. Some (label i, (h.0 i).span)), h.1)

pub kind_tail_same : (j k : Kind) (t u : Tail) {x y : List Token} → kind_fits j ≡ true → kind_fits k ≡ true → kind_then j (tail_then t x) ≡ kind_then k (tail_then u y) → (j ≡ k) × (t ≡ u) × (x ≡ y)
kind_tail_same j k t u f g e =
    let a = kind_same j k f g refl refl e in
    let b = tail_same t u a.1 in
    (a.0, b.0, b.1)

pub field_same : (f g : Field) {x y : List Token} → begins_with_no is_label_word f ≡ true → begins_with_no is_label_word g ≡ true → kind_fits f.kind ≡ true → kind_fits g.kind ≡ true → field_then f x ≡ field_then g y → (f ≡ g) × (x ≡ y)
field_same f g {x = x} {y = y} p q m n e =
    let a = after_label f.label g.label f.kind g.kind f.tail g.tail (tail_then f.tail x) (tail_then g.tail y) p q e in
    let b = kind_tail_same f.kind g.kind f.tail g.tail m n a.1 in
    ((λ i. record { label = a.0 i; kind = b.0 i; tail = b.1 i }), b.2)
