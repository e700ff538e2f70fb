-- A message of a well-known type that is told by a value of its own, where it was read of a tree, has a tree, which reads back as it.
use Rattle.std.proofs.Common.{◌≡◌, ℕ, ◌==◌, ℤ, pos, List, [], ◌∷◌, map as map_list, length, Bool, true, false, if◌then◌else◌, Option, Some, None, refl, ap, sym, ◌∙◌, subst, arith}
use Rattle.std.specs.Prelude.{Result, Ok, Err}
use Rattle.std.specs.Ordering.{int_eq}
use Rattle.std.proofs.lemmas.Bool.{eqb-true}
use Rattle.std.proofs.lemmas.Bool.Decides.{Decides-int_eq}
use Rattle.serde_json.specs.Data.{Data, null, boolean, number, string, array, object}
use Rattle.pbx_content.specs.Content as content
use Rattle.pbx_content.specs.Content.{Content, Fields, no_fields, fields, Val, Vals, vals_of, get}
use Rattle.pbx_content.specs.Meaning.{shown, is_default, zero_of, zero_number}
use Rattle.pbx_content.specs.Shape.{fields_of, field_of, is_float}
use Rattle.pbx_content.specs.Sound.{IsProper, IsNumber}
use Rattle.pbx_content.specs.declared.shape.Kind.{Kind}
use Rattle.pbx_content.specs.declared.shape.Kind.TheVariants as kind
use Rattle.pbx_content.specs.declared.shape.FieldShape.{FieldShape}
use Rattle.pbx_content.specs.declared.shape.Shape.{Shape}
use Rattle.pbx_wkt_types.specs.Shapes.{form_of}
use Rattle.pbx_wkt_types.specs.declared.form.Form.{Form}
use Rattle.pbx_wkt_types.specs.declared.form.Form.TheVariants as forms
use Rattle.pbx_wkt_types.proofs.Declared.{is_wrapped_kind}
use Rattle.pbx_wkt_types.proofs.Forms.{HasTime, HasPaths, HasValue, timestamp_fields, duration_fields, mask_fields, wrapper_fields}
use Rattle.pbx_text.specs.Decimal.{or_form, or_range}
use Rattle.pbx_text.specs.Duration.{duration_of, duration_read, duration_written, is_duration_second}
use Rattle.pbx_text.specs.Mask.{mask_of, mask_read, mask_written}
use Rattle.pbx_text.specs.Timestamp.{timestamp_read, timestamp_written}
use Rattle.pbx_text.specs.declared.fault.TextFault.{TextFault}
use Rattle.pbx_text.proofs.DurationsRead.{durations_read}
use Rattle.pbx_text.proofs.PathsBack.{paths_back, texts_back}
use Rattle.pbx_text.proofs.Rewritten.{timestamp_rewritten, duration_rewritten}
use Rattle.pbx_text.proofs.Timestamps.{timestamps_read}
use Rattle.pbx_json_meaning.specs.Asked.{single, has_presence, reads_null}
use Rattle.pbx_wire.specs.declared.rec.Rec.{Rec}
use Rattle.pbx_json_meaning.specs.Canonical.{Writing, Told, form_tree, scalar_tree}
use Rattle.pbx_json_meaning.specs.Forms.{is_object_form, kind_in, kind_at, shown_at, with_first, time_of, mask_of_paths, holding, judged, text_form, whole, at_once, form_read}
use Rattle.pbx_json_meaning.specs.Forms.{number_in, texts_of, texts_in, as_text}
use Rattle.pbx_json_meaning.specs.Named.{IsWellNamed}
use Rattle.pbx_json_meaning.specs.Scalars.{Family, integers, truths, texts, bytes_texts, floats, messages, enums, family, if_ok, integer_read, truth_read, text_read, bytes_read, scalar_of, scalar_read}
use Rattle.pbx_json_meaning.specs.Stands.{ok_of}
use Rattle.pbx_json_meaning.specs.Trees.{HasTexts}
use Rattle.pbx_json_meaning.specs.declared.kind.JsonKind.{JsonKind}
use Rattle.pbx_json_meaning.specs.declared.kind.JsonKind.TheVariants as fault
use Rattle.pbx_json_laws.proofs.DefaultsBack.{zero_back}
use Rattle.pbx_json_laws.proofs.Fits.{Fits, IsOwnRead}
use Rattle.pbx_json_laws.proofs.FitKinds.{scalar_fits}
use Rattle.pbx_json_laws.proofs.FitOwn.{from_at_once}
use Rattle.pbx_json_laws.proofs.Parts.{from_if_ok}
use Rattle.pbx_json_laws.proofs.ScalarsBack.{ScalarBack, number_back, truth_back, text_as_is, bytes_back, no_null}

-- ---- values of fields

pub first_of_two : (v w : Option Val) → get 1 (with_first 1 v (with_first 2 w no_fields)) ≡ v
first_of_two (Some v) w = refl
first_of_two None (Some w) = refl
first_of_two None None = refl

pub second_of_two : (v w : Option Val) → get 2 (with_first 1 v (with_first 2 w no_fields)) ≡ w
second_of_two (Some v) (Some w) = refl
second_of_two (Some v) None = refl
second_of_two None (Some w) = refl
second_of_two None None = refl

alone : (v : Option Val) → get 1 (with_first 1 v no_fields) ≡ v
alone (Some v) = refl
alone None = refl

-- a number that is absent is 0
number_shown : (shape : Shape) (p : Bool) (k : Kind) (z : ℤ) → zero_number shape k ≡ pos 0 → number_in (shown shape p k (Some (content.number z))) ≡ z
number_shown shape true k z zero = refl
number_shown shape false k z zero = at (int_eq z (zero_number shape k)) refl
  where
    at : (b : Bool) → int_eq z (zero_number shape k) ≡ b → number_in (if b then None else Some (content.number z)) ≡ z
    at true e = sym ((Decides-int_eq z (zero_number shape k)).0 e ∙ zero)
    at false e = refl

number_at : (shape : Shape) (x : Option FieldShape) (f : FieldShape) (z : ℤ) → x ≡ Some f → zero_number shape f.kind ≡ pos 0
    → number_in (shown_at shape x (content.number z)) ≡ z
number_at shape x f z e zero = rw e (number_shown shape (has_presence f) f.kind z zero)

-- paths that are absent are none
paths_there : (paths : List (List ℕ)) → texts_of (vals_of (map_list content.text paths)) ≡ paths
paths_there [] = refl
paths_there (p ∷ ps) = ap (λ qs. p ∷ qs) (paths_there ps)

paths_shown : (shape : Shape) (p : Bool) (k : Kind) (paths : List (List ℕ))
    → texts_in (shown shape p k (Some (content.many (vals_of (map_list content.text paths))))) ≡ paths
paths_shown shape true k paths = paths_there paths
paths_shown shape false k [] = refl
paths_shown shape false k (p ∷ ps) = paths_there (p ∷ ps)

paths_at : (shape : Shape) (x : Option FieldShape) (f : FieldShape) (paths : List (List ℕ)) → x ≡ Some f
    → texts_in (shown_at shape x (content.many (vals_of (map_list content.text paths)))) ≡ paths
paths_at shape x f paths e = rw e (paths_shown shape (has_presence f) f.kind paths)

-- ---- texts

-- a tree that a grammar reads is a text
record IsTextRead {X : Type 0} (grammar : List ℕ → Result X TextFault) (content_of : X → Content) (c : Content) : Type 0 where
  text : List ℕ
  says : X
  read : grammar text ≡ Ok says
  same : content_of says ≡ c

abbrev as_ok : Content → Result Content JsonKind
as_ok c = Ok c

ok_content : (c d : Content) → as_ok c ≡ as_ok d → c ≡ d
ok_content c d h = cc

from_text : {X : Type 0} (k : JsonKind) (grammar : List ℕ → Result X TextFault) (content_of : X → Content) (d : Data) (c : Content)
    → text_form k grammar content_of d ≡ Ok c → IsTextRead grammar content_of c
from_text {X = X} k grammar content_of (string s) c h = at (grammar s) refl h
  where
    at : (r : Result X TextFault) → grammar s ≡ r → judged k content_of r ≡ Ok c → IsTextRead grammar content_of c
    at (Err e) is q = absurd (cc)
    at (Ok x) is q = record { text = s; says = x; read = is; same = ok_content (content_of x) c q }
from_text {X = X} k grammar content_of null c h = absurd (cc)
from_text {X = X} k grammar content_of (boolean b) c h = absurd (cc)
from_text {X = X} k grammar content_of (number n) c h = absurd (cc)
from_text {X = X} k grammar content_of (array ds) c h = absurd (cc)
from_text {X = X} k grammar content_of (object ms) c h = absurd (cc)

text_made : (k : JsonKind) (r : Result (List ℕ) TextFault) (s : List ℕ) → r ≡ Ok s → ok_of (as_text k r) ≡ Some (string s)
text_made k r s e = rw e refl

judged_ok : {X : Type 0} (k : JsonKind) (content_of : X → Content) (r : Result X TextFault) (x : X) → r ≡ Ok x → judged k content_of r ≡ Ok (content_of x)
judged_ok k content_of r x e = rw e refl

-- a message of the form has a tree, which reads as the message
pub record FormBack (shape : Shape) (o : Writing) (t : ℕ) (form : Form) (c : Content) : Type 0 where
  pub tree : Data
  pub made : (kept : List Rec) (told : List Told) → form_tree shape o t form (fields c) kept told ≡ Some tree
  pub back : form_read shape false t form tree ≡ Ok (whole c)
  pub not_null : tree ≡ null → ⊥

no_null_text : (s : List ℕ) → string s ≡ null → ⊥
no_null_text s e = no_null (string s) (λ x. x) e

-- ---- timestamps and durations

module _ (shape : Shape) (o : Writing) (t : ℕ) where
  -- what the field of a number shows of a value
  abbrev shown_in : ℕ → Val → Option Val
  shown_in n v = shown_at shape (field_of n (fields_of shape t)) v

  -- the number of a field of a time
  abbrev number_of_time : ℕ → ℤ × ℤ → ℤ
  number_of_time n sn = number_in (get n (fields (time_of shape t sn)))

  seconds_in : (sn : ℤ × ℤ) → HasTime shape t → number_of_time 1 sn ≡ sn.0
  seconds_in sn has =
      let f = has.seconds in
      ap number_in (first_of_two (shown_in 1 (content.number sn.0)) (shown_in 2 (content.number sn.1)))
      ∙ number_at shape (field_of 1 (fields_of shape t)) f.field sn.0 f.there (ap (zero_number shape) f.of_kind)

  nanos_in : (sn : ℤ × ℤ) → HasTime shape t → number_of_time 2 sn ≡ sn.1
  nanos_in sn has =
      let f = has.nanos in
      ap number_in (second_of_two (shown_in 1 (content.number sn.0)) (shown_in 2 (content.number sn.1)))
      ∙ number_at shape (field_of 2 (fields_of shape t)) f.field sn.1 f.there (ap (zero_number shape) f.of_kind)

  -- what is written of the fields is what is written of the numbers
  numbers_written : {Y : Type 0} (write : ℤ → ℤ → Y) (sn : ℤ × ℤ) → HasTime shape t
      → write (number_of_time 1 sn) (number_of_time 2 sn) ≡ write sn.0 sn.1
  numbers_written write sn has = ap (λ z. write z (number_of_time 2 sn)) (seconds_in sn has) ∙ ap (write sn.0) (nanos_in sn has)

  timestamp_back : HasTime shape t → (sn : ℤ × ℤ) (text : List ℕ) → timestamp_read text ≡ Ok sn → FormBack shape o t forms.Timestamp (time_of shape t sn)
  timestamp_back has sn text h =
      let it = timestamp_rewritten text sn h in
      let again : timestamp_read it.0 ≡ Ok sn = timestamps_read sn.0 sn.1 it.0 it.1 in
      record {
        tree = string it.0;
        made = λ kept told. text_made fault.Timestamp (timestamp_written (number_of_time 1 sn) (number_of_time 2 sn)) it.0
            (numbers_written timestamp_written sn has ∙ it.1);
        back = ap at_once (judged_ok fault.Timestamp (time_of shape t) (timestamp_read it.0) sn again);
        not_null = no_null_text it.0;
      }

  duration_reads : (text : List ℕ) (sn : ℤ × ℤ) → duration_of text ≡ Some sn → is_duration_second sn.0 ≡ true → duration_read text ≡ Ok sn
  duration_reads text sn e second = rw (e, second) refl

  duration_back : HasTime shape t → (sn : ℤ × ℤ) (text : List ℕ) → duration_read text ≡ Ok sn → FormBack shape o t forms.Duration (time_of shape t sn)
  duration_back has sn text h =
      let it = duration_rewritten text sn h in
      let again : duration_read it.1.0 ≡ Ok sn = duration_reads it.1.0 sn (durations_read sn.0 sn.1 it.1.0 it.1.1) it.0 in
      record {
        tree = string it.1.0;
        made = λ kept told. text_made fault.Duration (duration_written (number_of_time 1 sn) (number_of_time 2 sn)) it.1.0
            (numbers_written duration_written sn has ∙ ap or_range it.1.1);
        back = ap at_once (judged_ok fault.Duration (time_of shape t) (duration_read it.1.0) sn again);
        not_null = no_null_text it.1.0;
      }

  -- ---- masks

  mask_reads : (o : Option (List (List ℕ))) (paths : List (List ℕ)) → or_form o ≡ Ok paths → o ≡ Some paths
  mask_reads None paths h = absurd (cc)
  mask_reads (Some ps) paths h = cc

  mask_back : HasPaths shape t → (paths : List (List ℕ)) (text : List ℕ) → mask_read text ≡ Ok paths
      → FormBack shape o t forms.FieldMask (mask_of_paths shape t paths)
  mask_back has paths text h =
      let read : mask_of text ≡ Some paths = mask_reads (mask_of text) paths h in
      let written = texts_back text paths read in
      let there : texts_in (get 1 (fields (mask_of_paths shape t paths))) ≡ paths =
      ap texts_in (alone (shown_in 1 (content.many (vals_of (map_list content.text paths)))))
      ∙ paths_at shape (field_of 1 (fields_of shape t)) has.paths.field paths has.paths.there in
      record {
        tree = string _;
        made = λ kept told. text_made fault.Mask (mask_written (texts_in (get 1 (fields (mask_of_paths shape t paths))))) _
            (ap mask_written there ∙ ap or_form written);
        back = ap at_once (judged_ok fault.Mask (mask_of_paths shape t) (mask_read _) paths (ap or_form (paths_back paths _ written)));
        not_null = no_null_text _;
      }

-- ---- wrappers

no_none : {X : Type 0} (r : Result X JsonKind) (f : X → Val) → if_ok r (λ x. Ok (Some (f x))) ≡ Ok None → ⊥
no_none (Err e) f h = cc
no_none (Ok x) f h = cc

-- what is no enum is never dropped
abbrev is_no_enum : Family → Bool
is_no_enum (enums e) = false
is_no_enum _ = true

family_kept : (shape : Shape) (allow : Bool) (f : Family) (d : Data) → is_no_enum f ≡ true → scalar_of shape allow f d ≡ Ok None → ⊥
family_kept shape allow (integers min max) d p h = no_none (integer_read min max d) content.number h
family_kept shape allow truths d p h = no_none (truth_read d) content.truth h
family_kept shape allow texts d p h = no_none (text_read d) content.text h
family_kept shape allow bytes_texts d p h = no_none (bytes_read d) content.octets h
family_kept shape allow floats d p h = cc
family_kept shape allow (messages t) d p h = cc
family_kept shape allow (enums e) d p h = absurd (cc)

wrapped_no_enum : (k : Kind) → is_wrapped_kind k ≡ true → is_no_enum (family k) ≡ true
wrapped_no_enum (kind.Enum e) p = absurd (cc)
wrapped_no_enum _ p = refl

never_dropped : (shape : Shape) (allow : Bool) (k : Kind) (d : Data) → is_wrapped_kind k ≡ true → scalar_read shape allow k d ≡ Ok None → ⊥
never_dropped shape allow k d p h = family_kept shape allow (family k) d (wrapped_no_enum k p) h

never_null : (shape : Shape) (k : Kind) → is_wrapped_kind k ≡ true → reads_null shape k ≡ false
never_null shape (kind.Message t) p = absurd (cc)
never_null shape (kind.Enum e) p = absurd (cc)
never_null shape _ p = refl

wrapped_no_message : (k : Kind) → is_wrapped_kind k ≡ true → (t : ℕ) → k ≡ kind.Message t → ⊥
wrapped_no_message k p t e = (let bad : is_wrapped_kind (kind.Message t) ≡ true = ap is_wrapped_kind (sym e) ∙ p in cc)

wrapped_no_float : (k : Kind) → is_wrapped_kind k ≡ true → is_float k ≡ false
wrapped_no_float kind.Double p = absurd (cc)
wrapped_no_float kind.Float p = absurd (cc)
wrapped_no_float _ p = refl

zero_is_number : (shape : Shape) (k : Kind) (z : ℤ) → IsNumber k z → zero_of shape k ≡ content.number (zero_number shape k)
zero_is_number shape kind.Bool z h = absurd h
zero_is_number shape kind.String z h = absurd h
zero_is_number shape kind.Bytes z h = absurd h
zero_is_number shape (kind.Message t) z h = absurd h
zero_is_number shape _ z h = refl

pub no_length : (s : List ℕ) → (length s == 0) ≡ true → [] ≡ s
no_length [] h = refl
no_length (c ∷ cs) h = absurd (let none : length (c ∷ cs) ≡ 0 = eqb-true (length (c ∷ cs)) 0 h in omega arith)

-- a default of a scalar is the kind's default
default_is : (shape : Shape) (k : Kind) (v : Val) → is_wrapped_kind k ≡ true → Fits shape v (single k) → is_default shape k v ≡ true → zero_of shape k ≡ v
default_is shape k (content.number z) p h e =
    zero_is_number shape k z h.0 ∙ ap content.number (sym ((Decides-int_eq z (zero_number shape k)).0 e))
default_is shape k (content.truth true) p h e = absurd (cc)
default_is shape k (content.truth false) p h e = ap (zero_of shape) h
default_is shape k (content.text s) p h e = ap (zero_of shape) h.0 ∙ ap content.text (no_length s e)
default_is shape k (content.octets s) p h e = ap (zero_of shape) h.0 ∙ ap content.octets (no_length s e)
default_is shape k (content.message c) p h e = absurd (wrapped_no_message k p h.0 h.1)
default_is shape k (content.many vs) p h e = absurd h
default_is shape k (content.keyed ps) p h e = absurd h

-- the content is told by the value of one field
abbrev pub is_held : Form → Bool
is_held forms.Struct = true
is_held forms.ListValue = true
is_held forms.Value = true
is_held _ = false

-- the content is told by a URL and a payload
abbrev pub is_packed : Form → Bool
is_packed forms.Any = true
is_packed _ = false

pub packed_form : (form : Form) → is_packed form ≡ true → form ≡ forms.Any
packed_form forms.Any h = refl
packed_form _ h = absurd (cc)

module _ (shape : Shape) (proper : IsProper shape) (well : IsWellNamed shape) (o : Writing) where
  abbrev TreeBack : Kind → Val → Option Val → Type 0
  TreeBack k v w = (d : Data) × ScalarBack shape k v (scalar_tree shape o k w) d

  value_tree : (k : Kind) (v : Val) → is_wrapped_kind k ≡ true → Fits shape v (single k) → TreeBack k v (Some v)
  value_tree k (content.number z) p h = number_back shape well o k z h.0 h.1
  value_tree k (content.truth b) p h = truth_back shape well o k b h
  value_tree k (content.text s) p h = text_as_is shape well o k s h.0
  value_tree k (content.octets s) p h = bytes_back shape well o k s h.0 h.1
  value_tree k (content.message c) p h = absurd (wrapped_no_message k p h.0 h.1)
  value_tree k (content.many vs) p h = absurd h
  value_tree k (content.keyed ps) p h = absurd h

  -- a default that is absent is written as the kind's default
  shown_tree : (presence : Bool) (k : Kind) (v : Val) → is_wrapped_kind k ≡ true → Fits shape v (single k) → TreeBack k v (shown shape presence k (Some v))
  shown_tree true k v p h = value_tree k v p h
  shown_tree false k v p h = at (is_default shape k v) refl
    where
      at : (b : Bool) → is_default shape k v ≡ b → TreeBack k v (if b then None else Some v)
      at false e = value_tree k v p h
      at true e =
          let it = zero_back shape proper well o k (wrapped_no_float k p) (wrapped_no_message k p) in (
            it.0,
            record {
              made = it.1.made;
              back = it.1.back ∙ ap (λ x. Ok (Some x)) (default_is shape k v p h e);
              null_ok = it.1.null_ok;
            },
          )

  field_tree : (x : Option FieldShape) (f : FieldShape) → x ≡ Some f → is_wrapped_kind (kind_in x) ≡ true → (v : Val) → Fits shape v (single (kind_in x))
      → TreeBack (kind_in x) v (shown_at shape x v)
  field_tree None f e p v h = absurd (cc)
  field_tree (Some g) f e p v h = shown_tree (has_presence g) g.kind v p h

  wrapper_back : (t : ℕ) → HasValue shape t is_wrapped_kind → (allow : Bool) (d : Data) (c : Content) → HasTexts d
      → form_read shape allow t forms.Wrapper d ≡ Ok (whole c) → FormBack shape o t forms.Wrapper c
  wrapper_back t has allow d c utf8 h = at it.0 it.1 it.2
    where
      k : Kind
      k = kind_at shape t 1

      passes : is_wrapped_kind (kind_at shape t 1) ≡ true
      passes = ap (λ x. is_wrapped_kind (kind_in x)) has.value.there ∙ ap is_wrapped_kind has.value.of_kind ∙ has.passes

      it : (v : Option Val) × (scalar_read shape allow (kind_at shape t 1) d ≡ Ok v) × (as_ok (holding shape t 1 v) ≡ as_ok c)
      it = from_if_ok (scalar_read shape allow (kind_at shape t 1) d) (λ v. Ok (holding shape t 1 v)) c (from_at_once _ c h)

      as_read : (v : Val) (e : Data) → ScalarBack shape k v (scalar_tree shape o k (shown_at shape (field_of 1 (fields_of shape t)) v)) e
          → FormBack shape o t forms.Wrapper (holding shape t 1 (Some v))
      as_read v e b = record {
        tree = e;
        made = λ kept told. ap (scalar_tree shape o k) (alone (shown_at shape (field_of 1 (fields_of shape t)) v)) ∙ b.made;
        back = ap (λ r. at_once (if_ok r (λ v. Ok (holding shape t 1 v)))) b.back;
        not_null = λ q. (let bad : true ≡ false = sym (b.null_ok q) ∙ never_null shape k passes in cc);
      }

      at : (v : Option Val) → scalar_read shape allow (kind_at shape t 1) d ≡ Ok v → as_ok (holding shape t 1 v) ≡ as_ok c → FormBack shape o t forms.Wrapper c
      at None read same = absurd (never_dropped shape allow k d passes read)
      at (Some v) read same =
          let back = field_tree (field_of 1 (fields_of shape t)) has.value.field has.value.there passes v (scalar_fits shape well allow k d v utf8 read) in
          subst (FormBack shape o t forms.Wrapper) (ok_content (holding shape t 1 (Some v)) c same) (as_read v back.0 back.1)

  -- ---- all forms

  pub form_back : (t : ℕ) (form : Form) (c : Content) → form_of shape t ≡ form → is_object_form form ≡ false → is_held form ≡ false → is_packed form ≡ false → IsOwnRead shape t form c
      → FormBack shape o t form c
  form_back t forms.Timestamp c is own at none (allow, d, utf8, h) =
      let it = from_text fault.Timestamp timestamp_read (time_of shape t) d c
      (from_at_once (text_form fault.Timestamp timestamp_read (time_of shape t) d) c h) in
      subst (FormBack shape o t forms.Timestamp) it.same (timestamp_back shape o t (timestamp_fields shape t is) it.says it.text it.read)
  form_back t forms.Duration c is own at none (allow, d, utf8, h) =
      let it = from_text fault.Duration duration_read (time_of shape t) d c (from_at_once (text_form fault.Duration duration_read (time_of shape t) d) c h) in
      subst (FormBack shape o t forms.Duration) it.same (duration_back shape o t (duration_fields shape t is) it.says it.text it.read)
  form_back t forms.FieldMask c is own at none (allow, d, utf8, h) =
      let it = from_text fault.Mask mask_read (mask_of_paths shape t) d c (from_at_once (text_form fault.Mask mask_read (mask_of_paths shape t) d) c h) in
      subst (FormBack shape o t forms.FieldMask) it.same (mask_back shape o t (mask_fields shape t is) it.says it.text it.read)
  form_back t forms.Wrapper c is own at none (allow, d, utf8, h) = wrapper_back t (wrapper_fields shape t is) allow d c utf8 h
  form_back t forms.Fields c is own at none h = absurd (cc)
  form_back t forms.Empty c is own at none h = absurd (cc)
  form_back t forms.Any c is own at none h = absurd (cc)
  form_back t forms.Struct c is own at none h = absurd (cc)
  form_back t forms.ListValue c is own at none h = absurd (cc)
  form_back t forms.Value c is own at none h = absurd (cc)
  form_back t forms.FloatWrapper c is own at none (allow, d, utf8, h) = absurd (cc)
  form_back t forms.Misshapen c is own at none (allow, d, utf8, h) = absurd (cc)
