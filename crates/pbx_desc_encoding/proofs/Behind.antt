-- Texts of contents that are made part by part.
use Rattle.std.proofs.Common.{◌≡◌, ℕ, ◌+◌, ◌*◌, ◌^◌, ◌<◌, ◌≤◌, Bool, true, false, ◌&&◌, if◌then◌else◌, List, [], ◌∷◌, ◌++◌, length, map, take, get_or, Option, Some, None, subst, refl, sym, ap, ◌∙◌, append_assoc, append-nil, rules}
use Rattle.std.specs.List.{filter}
use Rattle.std.proofs.lemmas.List.{map-append, take_all, take_more}
use Rattle.pbx_wire.specs.Varint.{varint}
use Rattle.pbx_wire.specs.Text.{text as text_of_rec, text_of, are_fit}
use Rattle.pbx_wire.proofs.Texts.{text_of-append}
use Rattle.pbx_wire.specs.declared.rec.Rec.{Rec, the_lemmas as rec_lemmas}
use Rattle.pbx_wire.specs.declared.rec.Rec.TheVariants as rec
use Rattle.pbx_content_map.specs.Entries.{IsAscending}
use Rattle.pbx_content_codec.specs.declared.contents.Held.{Held}
use Rattle.pbx_content.specs.declared.shape.Cardinality.{Cardinality}
use Rattle.pbx_content.specs.declared.shape.Cardinality.TheVariants.{Repeated}
use Rattle.pbx_content.specs.declared.shape.FieldShape.{FieldShape}
use Rattle.pbx_content.specs.declared.shape.Shape.{Shape}
use Rattle.pbx_content.specs.declared.shape.Kind.{Kind}
use Rattle.pbx_content.specs.declared.shape.Kind.TheVariants as kind
use Rattle.pbx_content.specs.Content.{IsAscending as AreAscending, no_fields, Content, content, Fields, Val, number, truth, text, octets, message, many, keyed, vals_of}
use Rattle.pbx_content.specs.Meaning.{with_field}
use Rattle.pbx_content.specs.Shape.{fields_of, keeps_order_of, field_of, is_packable}
use Rattle.pbx_content.specs.Encoding.{encoded, content_recs, payload, with_kept, fields_recs, field_recs, vals_recs, packed_text, keys_of}
use Rattle.pbx_content.specs.Laws.{EncodingDecodes, EncodingDecodesParts}
use Rattle.pbx_content.specs.Same.{Decodes, DecodesParts}
use Rattle.pbx_content.specs.Sound.{depth, PartsFit}
use Rattle.pbx_content.proofs.Sorted.{IsSorted}
use Rattle.pbx_content.proofs.WrittenOrder.{AreAbove, all_listed, fields_above}
use Rattle.pbx_desc_shapes.specs.DescriptorShape.{descriptor_shape, list_field, packed_field}
use Rattle.pbx_desc_shapes.proofs.DescriptorsProper.{descriptor_shape_proper}
use Rattle.pbx_desc_encoding.specs.Building.{entries, followed_by, Puts, recs_of, value_recs, packed_recs, Writes, WritesPacked, IsWritten}
use Rattle.pbx_desc_encoding.specs.Content.{of_records, fields_from, record_content}
use Rattle.pbx_desc_encoding.specs.Sound.{AreOf, MayBe}
use Rattle.pbx_wire.specs.Number.{is_writable_beside}
use Rattle.pbx_desc_encoding.proofs.Ascending.{AreBefore, Remains, remains_next, front_alone, is_run, fields_remain, fields_alone, fields_recs-followed}
use Rattle.pbx_desc_encoding.proofs.Built.{entries-same, puts_behind, with-followed, list_ascends, values_ascend, front_ascends, back_ascends}
use Rattle.pbx_desc_encoding.proofs.Fields.{AreValues, are_plain, numbers, kept_is, content_sound}

-- ---- payloads and records

bytes_text : (n : ℕ) (b : List ℕ) → text_of_rec (rec.Bytes n b) ≡ varint (n * 8 + 2) ++ varint (length b) ++ b
bytes_text n b = search (rules, rec_lemmas)

taken_more : {X : Type 0} (xs : List X) (i : ℕ) (x : X) → i < length xs → x ≡ get_or xs i x → take (i + 1) xs ≡ take i xs ++ x ∷ []
taken_more xs i x lt is = take_more xs i x lt ∙ ap (λ y. take i xs ++ y ∷ []) (sym is)

-- the key, the length and the bytes, one behind another
pub payload_put : (n : ℕ) (bytes old key_put len_put new : List ℕ) → key_put ≡ old ++ varint (n * 8 + 2) → len_put ≡ key_put ++ varint (length bytes) → new ≡ len_put ++ bytes → new ≡ old ++ text_of_rec (rec.Bytes n bytes)
payload_put n bytes old key_put len_put new key_is len_is all =
    let key = varint (n * 8 + 2) in
    let len = varint (length bytes) in
    all
    ∙ ap (λ (t : List ℕ). t ++ bytes) (len_is ∙ ap (λ (t : List ℕ). t ++ len) key_is ∙ append_assoc old key len)
    ∙ append_assoc old (key ++ len) bytes
    ∙ ap (λ (t : List ℕ). old ++ t) (sym (bytes_text n bytes))

varint_text : (n v : ℕ) → text_of_rec (rec.Varint n v) ≡ varint (n * 8) ++ varint v
varint_text n v = search (rules, rec_lemmas)

-- the key and the number, one behind the other
pub varint_put : (n v : ℕ) (old key_put new : List ℕ) → key_put ≡ old ++ varint (n * 8) → new ≡ key_put ++ varint v → new ≡ old ++ text_of_rec (rec.Varint n v)
varint_put n v old key_put new key_is all =
    let key = varint (n * 8) in
    all ∙ ap (λ (t : List ℕ). t ++ varint v) key_is ∙ append_assoc old key (varint v) ∙ ap (λ (t : List ℕ). old ++ t) (sym (varint_text n v))

-- one record more
pub sent_more : {X : Type 0} (g : X → Rec) (xs : List X) (i : ℕ) (x : X) → i < length xs → x ≡ get_or xs i x → text_of (map g (take (i + 1) xs)) ≡ text_of (map g (take i xs)) ++ text_of_rec (g x)
sent_more {X} g xs i x lt is =
    ap (λ (ys : List X). text_of (map g ys)) (taken_more xs i x lt is)
    ∙ ap text_of (map-append g (take i xs) (x ∷ []))
    ∙ text_of-append (map g (take i xs)) (g x ∷ [])
    ∙ ap (λ (t : List ℕ). text_of (map g (take i xs)) ++ t) (append-nil (text_of_rec (g x)))

pub sent_next : {X : Type 0} (g : X → Rec) (xs : List X) (i : ℕ) (x : X) (first old new : List ℕ) → i < length xs → x ≡ get_or xs i x → old ≡ first ++ text_of (map g (take i xs)) → new ≡ old ++ text_of_rec (g x)
    → new ≡ first ++ text_of (map g (take (i + 1) xs))
sent_next g xs i x first old new lt is before here =
    here
    ∙ ap (λ (t : List ℕ). t ++ text_of_rec (g x)) before
    ∙ append_assoc first (text_of (map g (take i xs))) (text_of_rec (g x))
    ∙ ap (λ (t : List ℕ). first ++ t) (sym (sent_more g xs i x lt is))

pub sent_here : (n t u : ℕ) (shape : Shape) (c d : Content) (bytes own old new : List ℕ) → new ≡ old ++ text_of_rec (rec.Bytes n bytes) → bytes ≡ own → own ≡ encoded shape u c → shape ≡ descriptor_shape → u ≡ t → c ≡ d
    → new ≡ old ++ text_of_rec (payload n (content_recs descriptor_shape t d))
sent_here n t u shape c d bytes own old new sent is here same type content_is =
    sent
    ∙ ap (λ (b : List ℕ). old ++ text_of_rec (rec.Bytes n b))
    (is ∙ here ∙ ap (λ (s : Shape). encoded s u c) same ∙ ap (λ (k : ℕ). encoded descriptor_shape k c) type ∙ ap (encoded descriptor_shape t) content_is)

vals_sent : {R : Type 0} (n t : ℕ) (f : R → Content) (rs : List R)
    → vals_recs descriptor_shape n (kind.Message t) (vals_of (map (λ r. message (f r)) rs)) ≡ map (λ r. payload n (content_recs descriptor_shape t (f r))) rs
vals_sent n t f [] = refl
vals_sent n t f (r ∷ rs) = ap (λ (xs : List Rec). payload n (content_recs descriptor_shape t (f r)) ∷ xs) (vals_sent n t f rs)

pub records_sent : {R : Type 0} (n t : ℕ) (f : R → Content) (rs : List R) → map (λ r. payload n (content_recs descriptor_shape t (f r))) rs ≡ value_recs n (kind.Message t) (of_records f rs)
records_sent n t f [] = refl
records_sent n t f (r ∷ rs) = sym (vals_sent n t f (r ∷ rs))

pub all_sent : {R : Type 0} (n t : ℕ) (f : R → Content) (items rs : List R) (i : ℕ) (old new : List ℕ) → items ≡ rs → length items ≤ i
    → new ≡ old ++ text_of (map (λ r. payload n (content_recs descriptor_shape t (f r))) (take i items)) → AreOf descriptor_shape (kind.Message t) (map (λ r. message (f r)) (take i items))
    → Writes Repeated (kind.Message t) n (of_records f rs) old new
all_sent {R} n t f items rs i old new is le e sound =
    let all : take i items ≡ rs = take_all i items le ∙ is in
    record {
      text = e ∙ ap (λ (xs : List R). old ++ text_of (map (λ r. payload n (content_recs descriptor_shape t (f r))) xs)) all ∙ ap (λ (xs : List Rec). old ++ text_of xs) (records_sent n t f rs);
      value = (map (λ r. message (f r)) rs, refl, subst (λ (xs : List R). AreOf descriptor_shape (kind.Message t) (map (λ r. message (f r)) xs)) all sound);
    }

-- ---- a field alone

-- lists and single values are told by number and kind, and by whether they are packed
field_alike : (shape : Shape) (f g : FieldShape) (v : Val) → f.number ≡ g.number → f.kind ≡ g.kind → keys_of f.cardinality ≡ keys_of g.cardinality → f.packed ≡ g.packed
    → field_recs shape (Some f) v ≡ field_recs shape (Some g) v
field_alike shape f g (number z) e k c p = rw (e, k) refl
field_alike shape f g (truth b) e k c p = rw (e, k) refl
field_alike shape f g (text s) e k c p = rw e refl
field_alike shape f g (octets b) e k c p = rw e refl
field_alike shape f g (message d) e k c p = rw (e, k) refl
field_alike shape f g (many vs) e k c p =
    ap (λ b. if b && is_packable f.kind then rec.Bytes f.number (packed_text f.kind vs) ∷ [] else vals_recs shape f.number f.kind vs) p
    ∙ ap (λ n. if g.packed && is_packable f.kind then rec.Bytes n (packed_text f.kind vs) ∷ [] else vals_recs shape n f.kind vs) e
    ∙ ap (λ j. if g.packed && is_packable j then rec.Bytes g.number (packed_text j vs) ∷ [] else vals_recs shape g.number j vs) k
field_alike shape f g (keyed ps) e k c p = rw (e, k, c) refl

with_recs : (all : List FieldShape) (f g : FieldShape) (v : Option Val) (fs : Fields) → g.number ≡ f.number → g.kind ≡ f.kind → keys_of g.cardinality ≡ keys_of f.cardinality → g.packed ≡ f.packed → field_of g.number all ≡ Some g
    → fields_recs descriptor_shape all (with_field g.number v fs) ≡ recs_of f v ++ fields_recs descriptor_shape all fs
with_recs all f g None fs e is keys packed here = refl
with_recs all f g (Some v) fs e is keys packed here =
    ap (λ (o : Option FieldShape). field_recs descriptor_shape o v ++ fields_recs descriptor_shape all fs) here
    ∙ ap (λ (rs : List Rec). rs ++ fields_recs descriptor_shape all fs) (field_alike descriptor_shape g f v e is keys packed)

-- ---- the whole, part by part

-- Of the values these are left to be written, behind those of the list, which is made before it is written.
pub record IsOpen (t : ℕ) (all : List FieldShape) (values : List (Option Val)) (kept : List Rec) (whole : List ℕ) (gs : List FieldShape) (vs : List (Option Val)) (list : List (ℕ × Held)) (text : List ℕ) : Type 0 where
  left : Remains (keeps_order_of descriptor_shape t) whole (fields_recs descriptor_shape all (followed_by (entries list) (fields_from gs vs))) kept text
  each : AreValues descriptor_shape gs vs → AreValues descriptor_shape all values
  order : AreAscending (followed_by (entries list) (fields_from gs vs))

-- the text that is to be
abbrev pub goal_text : ℕ → List FieldShape → List (Option Val) → List Rec → List ℕ → List ℕ
goal_text t all values unknown old = old ++ encoded descriptor_shape t (content (fields_from all values) (filter (is_writable_beside (numbers all)) unknown))

open_with : (t : ℕ) (all : List FieldShape) (values : List (Option Val)) (kept : List Rec) (old : List ℕ) → fields_of descriptor_shape t ≡ all → AreAbove 0 all
    → IsSorted (fields_recs descriptor_shape all (fields_from all values)) × AreBefore (fields_recs descriptor_shape all (fields_from all values)) kept
    → IsOpen t all values kept (old ++ encoded descriptor_shape t (content (fields_from all values) kept)) all values [] old
open_with t all values kept old type above remain = record {
  left = record {
    whole_is = ap (λ (gs : List FieldShape). old ++ text_of (with_kept (keeps_order_of descriptor_shape t) (fields_recs descriptor_shape gs (fields_from all values)) kept)) type;
    ascend = remain.0;
    apart = remain.1;
  };
  each = λ h. h;
  order = values_ascend all values above;
}

type_above : (t : ℕ) (all : List FieldShape) → fields_of descriptor_shape t ≡ all → AreAbove 0 all
type_above t all type = subst (AreAbove 0) type (fields_above descriptor_shape t descriptor_shape_proper)

pub begin : (t : ℕ) (all : List FieldShape) (values : List (Option Val)) (unknown : List Rec) (old : List ℕ) → fields_of descriptor_shape t ≡ all → is_run 0 all ≡ true
    → IsOpen t all values (filter (is_writable_beside (numbers all)) unknown) (goal_text t all values unknown old) all values [] old
begin t all values unknown old type run =
    let above = type_above t all type in
    open_with t all values (filter (is_writable_beside (numbers all)) unknown) old type above (fields_remain descriptor_shape all values unknown above (all_listed 0 all above) run)

-- no record is kept, so that the numbers may leave some out
pub begin_alone : (t : ℕ) (all : List FieldShape) (values : List (Option Val)) (old : List ℕ) → fields_of descriptor_shape t ≡ all
    → IsOpen t all values [] (old ++ encoded descriptor_shape t (content (fields_from all values) [])) all values [] old
begin_alone t all values old type =
    let above = type_above t all type in
    open_with t all values [] old type above (fields_alone descriptor_shape all values above (all_listed 0 all above))

-- a list is begun
pub anew : {t : ℕ} {all : List FieldShape} {values : List (Option Val)} {kept : List Rec} {whole : List ℕ} {gs : List FieldShape} {vs : List (Option Val)} {text : List ℕ} (list : List (ℕ × Held))
    → IsOpen t all values kept whole gs vs [] text → list ≡ [] → IsOpen t all values kept whole gs vs list text
anew {t} {all} {values} {kept} {whole} {gs} {vs} {text} list state e = subst (λ (fs : List (ℕ × Held)). IsOpen t all values kept whole gs vs fs text) (sym e) state

-- a value is put into the list
pub added : {t : ℕ} {all : List FieldShape} {values : List (Option Val)} {kept : List Rec} {whole : List ℕ} {g : FieldShape} {gs : List FieldShape} {v : Option Val} {vs : List (Option Val)} {text : List ℕ}
    {old new : List (ℕ × Held)} {c : Cardinality} {k : Kind} {n : ℕ} → IsOpen t all values kept whole (g ∷ gs) (v ∷ vs) old text → Puts c k n v old new → g.number ≡ n → g.cardinality ≡ c → g.kind ≡ k
    → IsOpen t all values kept whole gs vs new text
added {t} {all} {values} {kept} {whole} {g} {gs} {v} {vs} {text} {old} {new} {c} {k} {n} state puts e cardinality is = record {
  left = subst (λ (fs : Fields). Remains (keeps_order_of descriptor_shape t) whole (fields_recs descriptor_shape all fs) kept text) (sym (puts_behind g gs vs puts e)) state.left;
  each = λ h. state.each (rw (cardinality, is) puts.value, h);
  order = subst AreAscending (sym (puts_behind g gs vs puts e)) state.order;
}

-- the list is written
pub flushed : {t : ℕ} {all : List FieldShape} {values : List (Option Val)} {kept : List Rec} {whole : List ℕ} {gs : List FieldShape} {vs : List (Option Val)} {old : List ℕ} (list : List (ℕ × Held))
    (shape : Shape) (p : Rec → Bool) (none : List Rec) (new : List ℕ) → IsOpen t all values kept whole gs vs list old → fields_of descriptor_shape t ≡ all → shape ≡ descriptor_shape
    → none ≡ [] → (IsAscending list → new ≡ old ++ encoded shape t (content (entries list) (filter p none))) → IsOpen t all values kept whole gs vs [] new
flushed {t} {all} {values} {kept} {whole} {gs} {vs} {old} list shape p none new state type same nothing e =
    let keeps = keeps_order_of descriptor_shape t in
    let xs = fields_recs descriptor_shape all (entries list) in
    let ys = fields_recs descriptor_shape all (fields_from gs vs) in
    let left : Remains keeps whole (xs ++ ys) kept old = subst (λ (rs : List Rec). Remains keeps whole rs kept old) (fields_recs-followed descriptor_shape all (entries list) (fields_from gs vs)) state.left in
    let here : encoded shape t (content (entries list) (filter p none)) ≡ text_of xs =
    ap (λ (s : Shape). encoded s t (content (entries list) (filter p none))) same
    ∙ ap (λ (rs : List Rec). encoded descriptor_shape t (content (entries list) (filter p rs))) nothing
    ∙ ap (λ (hs : List FieldShape). text_of (with_kept keeps (fields_recs descriptor_shape hs (entries list)) [])) type
    ∙ ap text_of (front_alone keeps xs ys left.ascend)
    in
    let rest = fields_from gs vs in
    let ascending = list_ascends list (front_ascends (entries list) rest state.order) in
    record {
      left = remains_next keeps whole xs ys kept old new left (e ascending ∙ ap (λ (b : List ℕ). old ++ b) here);
      each = state.each;
      order = back_ascends (entries list) rest state.order;
    }

-- a value's records are written
placed : {t : ℕ} {all : List FieldShape} {values : List (Option Val)} {kept : List Rec} {whole : List ℕ} {g : FieldShape} {gs : List FieldShape} {v : Option Val} {vs : List (Option Val)} {old new : List ℕ} (rs : List Rec)
    → IsOpen t all values kept whole (g ∷ gs) (v ∷ vs) [] old → fields_recs descriptor_shape all (with_field g.number v (fields_from gs vs)) ≡ rs ++ fields_recs descriptor_shape all (fields_from gs vs)
    → new ≡ old ++ text_of rs → MayBe descriptor_shape g.cardinality g.kind v → IsOpen t all values kept whole gs vs [] new
placed {t} {all} {values} {kept} {whole} {g} {gs} {v} {vs} {old} {new} rs state parts here value =
    let keeps = keeps_order_of descriptor_shape t in
    record {
      left = remains_next keeps whole rs (fields_recs descriptor_shape all (fields_from gs vs)) kept old new (subst (λ (ss : List Rec). Remains keeps whole ss kept old) parts state.left) here;
      each = λ h. state.each (value, h);
      order = back_ascends (with_field g.number v no_fields) (fields_from gs vs) (subst AreAscending (sym (with-followed g.number v (fields_from gs vs))) state.order);
    }

-- a value is written
pub written : {t : ℕ} {all : List FieldShape} {values : List (Option Val)} {kept : List Rec} {whole : List ℕ} {g : FieldShape} {gs : List FieldShape} {v : Option Val} {vs : List (Option Val)} {old new : List ℕ}
    {c : Cardinality} {k : Kind} {n : ℕ} → IsOpen t all values kept whole (g ∷ gs) (v ∷ vs) [] old → Writes c k n v old new → g.number ≡ n → g.cardinality ≡ c → g.kind ≡ k → keys_of g.cardinality ≡ keys_of Repeated → g.packed ≡ false
    → field_of g.number all ≡ Some g → IsOpen t all values kept whole gs vs [] new
written {t} {all} {values} {kept} {whole} {g} {gs} {v} {vs} {old} {new} {c} {k} {n} state writes e cardinality is keys packed here =
    placed (value_recs n k v) state (with_recs all (list_field n [] [] k) g v (fields_from gs vs) e is keys packed here) writes.text (rw (cardinality, is) writes.value)

-- a list is written, packed
pub written_packed : {t : ℕ} {all : List FieldShape} {values : List (Option Val)} {kept : List Rec} {whole : List ℕ} {g : FieldShape} {gs : List FieldShape} {v : Option Val} {vs : List (Option Val)} {old new : List ℕ}
    {k : Kind} {n : ℕ} → IsOpen t all values kept whole (g ∷ gs) (v ∷ vs) [] old → WritesPacked k n v old new → g.number ≡ n → g.cardinality ≡ Repeated → g.kind ≡ k → keys_of g.cardinality ≡ keys_of Repeated → g.packed ≡ true
    → field_of g.number all ≡ Some g → IsOpen t all values kept whole gs vs [] new
written_packed {t} {all} {values} {kept} {whole} {g} {gs} {v} {vs} {old} {new} {k} {n} state writes e cardinality is keys packed here =
    placed (packed_recs n k v) state (with_recs all (packed_field n [] [] k) g v (fields_from gs vs) e is keys packed here) writes.text (rw (cardinality, is) writes.value)

-- all is written, with no kept record
pub finished : {t : ℕ} {all : List FieldShape} {values : List (Option Val)} (unknown : List Rec) (first new : List ℕ) → IsOpen t all values [] (first ++ encoded descriptor_shape t (content (fields_from all values) [])) [] [] [] new
    → fields_of descriptor_shape t ≡ all → are_plain all ≡ true → unknown ≡ [] → IsWritten t (record_content all values unknown) first new
finished {t} {all} {values} unknown first new state type plain none =
    let keeps = keeps_order_of descriptor_shape t in
    let here : IsWritten t (record_content all values []) first new = record {
      text = sym (state.left.whole_is ∙ ap (λ (rs : List Rec). new ++ text_of rs) (front_alone keeps [] [] tt) ∙ append-nil new);
      sound = content_sound descriptor_shape t all values [] type plain (fields_above descriptor_shape t descriptor_shape_proper) (state.each tt) refl;
    } in
    subst (λ (rs : List Rec). IsWritten t (record_content all values rs) first new) (sym none) here

-- the last list is written, with the kept records
pub closed : {t : ℕ} {all : List FieldShape} {values : List (Option Val)} {old : List ℕ} (unknown : List Rec) (first : List ℕ) (list : List (ℕ × Held)) (shape : Shape) (new : List ℕ)
    → IsOpen t all values (filter (is_writable_beside (numbers all)) unknown) (goal_text t all values unknown first) [] [] list old → fields_of descriptor_shape t ≡ all → are_plain all ≡ true
    → shape ≡ descriptor_shape → (IsAscending list → new ≡ old ++ encoded shape t (content (entries list) (filter (is_writable_beside (numbers all)) unknown)))
    → are_fit (filter (is_writable_beside (numbers all)) unknown) ≡ true → IsWritten t (record_content all values unknown) first new
closed {t} {all} {values} {old} unknown first list shape new state type plain same e fit =
    let kept = filter (is_writable_beside (numbers all)) unknown in
    let keeps = keeps_order_of descriptor_shape t in
    let kept_are = kept_is all unknown plain in
    let ascending = list_ascends list (front_ascends (entries list) no_fields state.order) in
    record {
      text = e ascending
          ∙ ap (λ (s : Shape). old ++ encoded s t (content (entries list) kept)) same
          ∙ ap (λ (hs : List FieldShape). old ++ text_of (with_kept keeps (fields_recs descriptor_shape hs (entries list)) kept)) type
          ∙ ap (λ (fs : Fields). old ++ text_of (with_kept keeps (fields_recs descriptor_shape all fs) kept)) (entries-same list)
          ∙ sym state.left.whole_is
          ∙ ap (λ (rs : List Rec). first ++ encoded descriptor_shape t (content (fields_from all values) rs)) (sym kept_are);
      sound = content_sound descriptor_shape t all values unknown type plain (fields_above descriptor_shape t descriptor_shape_proper) (state.each tt) (rw kept_are fit);
    }

-- ---- read back

pub short_of : (t : ℕ) (c : Content) (new : List ℕ) → new ≡ encoded descriptor_shape t c → length new < 2 ^ 64 → length (encoded descriptor_shape t c) < 2 ^ 64
short_of t c new same short = subst (λ (b : List ℕ). length b < 2 ^ 64) same short

pub written_is : (t : ℕ) (c : Content) (old new : List ℕ) → IsWritten t c old new → old ≡ [] → new ≡ encoded descriptor_shape t c
written_is t c old new is none = is.text ∙ ap (λ (b : List ℕ). b ++ encoded descriptor_shape t c) none

pub written_decodes : (t : ℕ) (c : Content) (old new : List ℕ) → EncodingDecodes → IsWritten t c old new → old ≡ [] → length new < 2 ^ 64 → depth c ≤ 100 → Decodes descriptor_shape t new c
written_decodes t c old new law is none short deep =
    let same = written_is t c old new is none in
    subst (λ (b : List ℕ). Decodes descriptor_shape t b c) (sym same) (law descriptor_shape t c descriptor_shape_proper is.sound (short_of t c new same short) deep)

pub written_parts : (t : ℕ) (c : Content) (old new : List ℕ) → EncodingDecodesParts → IsWritten t c old new → old ≡ [] → length new < 2 ^ 64 → PartsFit c → DecodesParts descriptor_shape t new c
written_parts t c old new law is none short fit =
    let same = written_is t c old new is none in
    subst (λ (b : List ℕ). DecodesParts descriptor_shape t b c) (sym same) (law descriptor_shape t c descriptor_shape_proper is.sound (short_of t c new same short) fit)
