-- What is written of a content is read as the same one, if it is read at all: where a payload is too long for its length, nothing is.
use Rattle.std.proofs.Common.{◌≡◌, ℕ, zero, suc, ◌^◌, ◌<◌, ◌≤◌, max, ℤ, Bool, true, List, [], ◌∷◌, ◌++◌}
use Rattle.std.proofs.Common.{Some, inl, refl, sym, ap, ◌∙◌, subst, arith, append-nil}
use Rattle.std.specs.Prelude.{option_and_then}
use Rattle.std.specs.Str.{is_utf8}
use Rattle.pbx_wire.specs.Text.{text_of, depth_of}
use Rattle.pbx_wire.proofs.Written.{written_again}
use Rattle.pbx_wire.specs.declared.rec.Rec.{Rec}
use Rattle.pbx_content.specs.declared.shape.Kind.{Kind}
use Rattle.pbx_content.specs.declared.shape.Kind.TheVariants as kind
use Rattle.pbx_content.specs.declared.shape.Shape.{Shape}
use Rattle.pbx_content.specs.declared.shape.FieldShape.{FieldShape}
use Rattle.pbx_content.specs.Content.{Key, truth_key, number_key, text_key, Content, content, Fields, no_fields, field, Val, number, truth, text as text_val}
use Rattle.pbx_content.specs.Content.{octets, message, many, keyed}
use Rattle.pbx_content.specs.Records.{records_in}
use Rattle.pbx_content.specs.Shape.{fields_of, keeps_order_of, field_of, entry_fields}
use Rattle.pbx_content.specs.Meaning.{Inner, no_inner, records_of, meaning, meaning_of}
use Rattle.pbx_content.specs.Encoding.{key_rec, type_of}
use Rattle.pbx_content.specs.Encoding.{content_recs, fields_recs, field_recs, val_rec, encoded}
use Rattle.pbx_content.specs.Same.{settled_kept, settled, settled_fields, settled_val}
use Rattle.pbx_content.specs.Sound.{IsNumber, IsKeyOf, IsProper, IsSound, IsSoundAt, IsElement, depth, fields_depth, val_depth}
use Rattle.pbx_content.proofs.Settled.{settled_once}
use Rattle.pbx_content.proofs.WrittenOrder.{fields_above}
use Rattle.pbx_content.proofs.WrittenShort.{size}
use Rattle.pbx_content.proofs.WrittenValues.{key_val, entry_recs, entry}
use Rattle.pbx_content.proofs.WrittenFields.{AreFields, Holds, holds_own, holds_written}
use Rattle.pbx_content.proofs.SoundValues.{bound_is}
use Rattle.pbx_content.specs.Same.{Same}
use Rattle.pbx_json_payload_laws.specs.Inside.{HasNoKept}
use Rattle.pbx_json_payload_laws.proofs.Shrinks.{ArePayloadsBelow}
use Rattle.pbx_content.proofs.More.{more_levels}
use Rattle.pbx_json_payload_laws.proofs.NoKept.{same_is_equal}
use Rattle.pbx_json_payload_laws.proofs.Long.{fit_if_read, payloads_fit, fits_below}
use Rattle.pbx_json_payload_laws.proofs.Writable.{short_payloads, fields_writable, content_known}
use Rattle.pbx_json_payload_laws.proofs.FieldsRead.{layer_back}

-- ---- entries of maps as messages

key_number : (key : Kind) (z : ℤ) → IsKeyOf key (number_key z) → IsNumber key z
key_number (kind.Enum e) z h = absurd h
key_number key z h = h

key_truth : (key : Kind) (b : Bool) → IsKeyOf key (truth_key b) → key ≡ kind.Bool
key_truth kind.Bool b h = refl
key_truth key b h = absurd h

key_text : (key : Kind) (s : List ℕ) → IsKeyOf key (text_key s) → (key ≡ kind.String) × (is_utf8 s ≡ true)
key_text kind.String s h = (refl, h)
key_text key s h = absurd h

-- the fields of an entry
abbrev entry_values : Key → Val → Fields
entry_values l v = field 1 (key_val l) (field 2 v no_fields)

key_sound : (shape : Shape) (key k : Kind) (l : Key) → IsKeyOf key l → IsSoundAt shape (field_of 1 (entry_fields key k)) (key_val l)
key_sound shape key k (truth_key b) h = (refl, inl refl, key_truth key b h)
key_sound shape key k (number_key z) h = (refl, inl refl, key_number key z h)
key_sound shape key k (text_key s) h = let t = key_text key s h in (refl, inl refl, t.0, t.1)

value_sound : (shape : Shape) (key k : Kind) (v : Val) → IsElement shape k v → IsSoundAt shape (field_of 2 (entry_fields key k)) v
value_sound shape key k (number z) h = (refl, inl refl, h)
value_sound shape key k (truth b) h = (refl, inl refl, h)
value_sound shape key k (text_val s) h = (refl, inl refl, h.0, h.1)
value_sound shape key k (octets b) h = (refl, inl refl, h)
value_sound shape key k (message c) h = (refl, h)
value_sound shape key k (many vs) h = absurd h
value_sound shape key k (keyed ps) h = absurd h

entry_sound : (shape : Shape) (key k : Kind) (l : Key) (v : Val) → IsKeyOf key l → IsElement shape k v → AreFields shape (entry_fields key k) (entry_values l v)
entry_sound shape key k l v h e = record {
  above = (omega arith, refl, (omega arith, refl, tt));
  ascending = (omega arith, tt);
  sound = (key_sound shape key k l h, (value_sound shape key k v e, tt));
  one_member = refl;
}

key_written : (shape : Shape) (key k : Kind) (l : Key) → IsKeyOf key l → field_recs shape (field_of 1 (entry_fields key k)) (key_val l) ≡ key_rec key l ∷ []
key_written shape key k (truth_key b) h = rw (key_truth key b h) refl
key_written shape key k (number_key z) h = refl
key_written shape key k (text_key s) h = refl

value_written : (shape : Shape) (key k : Kind) (v : Val) → IsElement shape k v → field_recs shape (field_of 2 (entry_fields key k)) v ≡ val_rec shape 2 k v ∷ []
value_written shape key k (number z) h = refl
value_written shape key k (truth b) h = refl
value_written shape key k (text_val s) h = refl
value_written shape key k (octets b) h = refl
value_written shape key k (message c) h = refl
value_written shape key k (many vs) h = absurd h
value_written shape key k (keyed ps) h = absurd h

entry_written : (shape : Shape) (key k : Kind) (l : Key) (v : Val) → IsKeyOf key l → IsElement shape k v
    → fields_recs shape (entry_fields key k) (entry_values l v) ≡ entry_recs shape key k l v
entry_written shape key k l v h e =
    ap (λ rs. rs ++ (field_recs shape (field_of 2 (entry_fields key k)) v ++ [])) (key_written shape key k l h)
    ∙ ap (λ rs. key_rec key l ∷ (rs ++ [])) (value_written shape key k v e)

key_settled : (shape : Shape) (t : ℕ) (l : Key) → settled_val shape t (key_val l) ≡ key_val l
key_settled shape t (truth_key b) = refl
key_settled shape t (number_key z) = refl
key_settled shape t (text_key s) = refl

key_shallow : (l : Key) → val_depth (key_val l) ≡ 0
key_shallow (truth_key b) = refl
key_shallow (number_key z) = refl
key_shallow (text_key s) = refl

-- ---- by levels

-- whatever holds the fields in so many levels means them
abbrev Means : Shape → ℕ → Type 0
Means shape levels =
    (gs : List FieldShape) (fs : Fields) (kept rs : List Rec) → AreFields shape gs fs → Holds shape gs fs kept rs → ArePayloadsBelow (2 ^ 64) rs
    → fields_depth fs ≤ levels → meaning shape levels gs rs ≡ Some (content (settled_fields shape gs fs) kept)

-- payloads with so many levels left
abbrev inside : Shape → ℕ → Inner
inside shape levels gs bs = option_and_then (meaning shape levels gs) (records_of levels bs)

one_payload : (shape : Shape) (levels : ℕ) (gs : List FieldShape) (b : List ℕ) (rs : List Rec) → records_in levels b ≡ Some rs
    → inside shape levels gs (b ∷ []) ≡ meaning shape levels gs rs
one_payload shape levels gs b rs e = rw (e, append-nil) refl

message_fields : (shape : Shape) (t : ℕ) (fs : Fields) (kept : List Rec) → IsProper shape → IsSound shape t (content fs kept)
    → AreFields shape (fields_of shape t) fs
message_fields shape t fs kept proper h = record { above = fields_above shape t proper; ascending = h.0; sound = h.1; one_member = h.2 }

message_means : (shape : Shape) (levels t : ℕ) (fs : Fields) (kept : List Rec) → IsProper shape → Means shape levels → IsSound shape t (content fs kept)
    → ArePayloadsBelow (2 ^ 64) (content_recs shape t (content fs kept)) → fields_depth fs ≤ levels
    → meaning shape levels (fields_of shape t) (content_recs shape t (content fs kept)) ≡ Some (settled shape t (content fs kept))
message_means shape levels t fs kept proper means h short d =
    let are = message_fields shape t fs kept proper h in
    let holds = holds_written shape (fields_of shape t) fs (keeps_order_of shape t) kept are h.3.unread in
    means (fields_of shape t) fs (settled_kept (keeps_order_of shape t) kept) (content_recs shape t (content fs kept)) are holds short d

message_read : (shape : Shape) (levels : ℕ) → IsProper shape → Means shape levels → (t : ℕ) (c : Content) → IsSound shape t c
    → size (content_recs shape t c) < 2 ^ 64 → depth c < suc levels
    → inside shape levels (fields_of shape t) (encoded shape t c ∷ []) ≡ Some (settled shape t c)
message_read shape levels proper means t (content fs kept) h short d =
    let rs = content_recs shape t (content fs kept) in
    let known = content_known shape t fs kept proper h in
    let payloads = short_payloads (2 ^ 64) rs short in
    let spelled = written_again levels rs known.numbered (fits_below rs known.fit payloads) (omega (arith, d, known.deep)) in
    one_payload shape levels (fields_of shape t) (encoded shape t (content fs kept)) rs spelled
    ∙ message_means shape levels t fs kept proper means h payloads (omega (arith, d))

entry_read : (shape : Shape) (levels : ℕ) → Means shape levels → (key k : Kind) (l : Key) (v : Val) → IsKeyOf key l → IsElement shape k v
    → size (entry_recs shape key k l v) < 2 ^ 64
    → val_depth v < suc levels
    → inside shape levels (entry_fields key k) (text_of (entry_recs shape key k l v) ∷ []) ≡ Some (entry l (settled_val shape (type_of k) v))
entry_read shape levels means key k l v h e short d =
    let gs = entry_fields key k in
    let fs = entry_values l v in
    let rs = fields_recs shape gs fs in
    let is = entry_written shape key k l v h e in
    let are = entry_sound shape key k l v h e in
    let w = fields_writable shape gs fs are.above are.sound in
    let within = short_payloads (2 ^ 64) rs (omega (arith, short, ap size is)) in
    let spelled = written_again levels rs w.numbered (fits_below rs w.fit within) (omega (arith, w.shallow)) in
    let meant = means gs fs [] rs are (holds_own shape gs fs are) within (omega (arith, d, key_shallow l)) in
    let value : Val = settled_val shape (type_of k) v in
    let key_same = ap (λ (x : Val). Some (content (field 1 x (field 2 value no_fields)) [])) (key_settled shape (type_of key) l) in
    let P : List Rec → Type 0 = λ xs. inside shape levels (entry_fields key k) (text_of xs ∷ []) ≡ Some (entry l value) in
    subst P is (one_payload shape levels gs (text_of rs) rs spelled ∙ meant ∙ key_same)

means : (shape : Shape) → IsProper shape → (levels : ℕ) → Means shape levels
unfolding meaning
means shape proper zero gs fs kept rs h holds short d =
    layer_back shape 0 no_inner
    (record { messages = λ u c s long lt. absurd (omega (arith, lt)); entries = λ key k l v i e long lt. absurd (omega (arith, lt)) })
    gs fs kept rs h holds short d
means shape proper (suc levels) gs fs kept rs h holds short d =
    layer_back shape (suc levels) (inside shape levels)
    (record { messages = message_read shape levels proper (means shape proper levels); entries = entry_read shape levels (means shape proper levels) })
    gs fs kept rs h holds short d

-- ---- the law

-- What is written of a content is read as the same one, if it is read at all.
pub encoded_is_same : (shape : Shape) (t : ℕ) (c d : Content) → IsProper shape → IsSound shape t c → meaning_of shape t (encoded shape t c) ≡ Some d
    → Same shape t d c
encoded_is_same shape t (content fs kept) d proper h e =
    let levels = max 100 (depth (content fs kept)) in
    let gs = fields_of shape t in
    let rs = content_recs shape t (content fs kept) in
    let more = more_levels shape 100 levels gs (text_of rs) d (omega arith) e in
    let ss = bound_is (meaning shape levels gs) (records_in levels (text_of rs)) d more in
    let known = content_known shape t fs kept proper h in
    let deep : depth_of rs ≤ levels = omega (arith, known.deep) in
    let fit = fit_if_read levels rs ss.0 known.numbered known.fit deep ss.1 in
    let again = written_again levels rs known.numbered fit deep in
    let same : rs ≡ ss.0 = (let both : Some rs ≡ Some ss.0 = sym again ∙ ss.1 in cc) in
    let meant = message_means shape levels t fs kept proper (means shape proper levels) h (payloads_fit rs fit) (omega arith) in
    let is : d ≡ settled shape t (content fs kept) =
    (let both : Some d ≡ Some (settled shape t (content fs kept)) = sym ss.2 ∙ ap (meaning shape levels gs) (sym same) ∙ meant in cc) in
    ap (settled shape t) is ∙ settled_once shape t (content fs kept)

-- So a content without kept records is read as no other one.
pub encoded_is_read : (shape : Shape) (t : ℕ) (c d : Content) → IsProper shape → IsSound shape t c → HasNoKept c
    → meaning_of shape t (encoded shape t c) ≡ Some d → d ≡ c
encoded_is_read shape t c d proper h none e = same_is_equal shape t c d none (encoded_is_same shape t c d proper h e)
