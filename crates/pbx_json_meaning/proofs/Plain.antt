-- Trees that are written have ordered keys and no number with a fraction or an exponent.
use Rattle.std.proofs.Common.{◌≡◌, ℕ, ℤ, pos, negsuc, List, [], ◌∷◌, ◌++◌, map as map_list, Bool, true, false, ◌||◌, ◌&&◌, ◌==◌, if◌then◌else◌, Option}
use Rattle.std.proofs.Common.{Some, None, option_map, zero, suc, length, codes}
use Rattle.std.proofs.Common.{option_and_then, refl, ap, subst, ◌∙◌, Result, Ok, Err}
use Rattle.std.specs.Cmp.{IsTotalOrder}
use Rattle.std.specs.Fmt.{signed_decimal}
use Rattle.std.specs.Cmp.Lexicographic.{slice_cmp}
use Rattle.std.specs.Ordering.{match_ordering, nat_cmp, is_lt, ordering_reverse}
use Rattle.std.specs.declared.cmp.Ordering.{Ordering}
use Rattle.std.specs.declared.cmp.Ordering.TheVariants.{Less, Equal, Greater}
use Rattle.std.proofs.lemmas.Cmp.{nat_list_cmp_total}
use Rattle.serde_json.specs.Data.{Data, null, boolean, number, string, array, object, Items, no_items, Members, no_members, member, put}
use Rattle.serde_json.specs.Find.{of_integer}
use Rattle.serde_json.specs.Written.{has_float, items_have_float, members_have_float}
use Rattle.pbx_wire.specs.declared.rec.Rec.{Rec}
use Rattle.pbx_content.specs.Content as content
use Rattle.pbx_content.specs.Content.{Content, Fields, Val, Vals, Pairs, Key}
use Rattle.pbx_content.specs.Encoding.{type_of}
use Rattle.pbx_content.specs.Meaning.{zero_of, meaning_of}
use Rattle.pbx_content.specs.Shape.{declared_of, field_of, enum_values_of}
use Rattle.pbx_content.specs.declared.shape.Kind.{Kind}
use Rattle.pbx_content.specs.declared.shape.Cardinality.{Cardinality}
use Rattle.pbx_content.specs.declared.shape.Cardinality.TheVariants.{Singular, Repeated, Map}
use Rattle.pbx_content.specs.declared.shape.FieldShape.{FieldShape}
use Rattle.pbx_content.specs.declared.shape.EnumValueShape.{EnumValueShape}
use Rattle.pbx_content.specs.declared.shape.Shape.{Shape}
use Rattle.pbx_json_meaning.specs.Asked.{Asked, field, one}
use Rattle.pbx_json_meaning.specs.Laws.{CanonicalIsPlain}
use Rattle.pbx_json_meaning.specs.Scalars.{Family, integers, truths, texts, bytes_texts, floats, messages, enums, family, is_null_value}
use Rattle.pbx_json_meaning.specs.Stands.{all_read, ok_of}
use Rattle.pbx_json_meaning.specs.Forms.{as_text}
use Rattle.pbx_text.specs.declared.fault.TextFault.{TextFault}
use Rattle.pbx_wkt_types.specs.Shapes.{form_of}
use Rattle.pbx_wkt_types.specs.declared.form.Form.{Form}
use Rattle.pbx_wkt_types.specs.declared.form.Form.TheVariants as forms
use Rattle.pbx_json_meaning.specs.declared.kind.JsonKind.{JsonKind}
use Rattle.pbx_json_meaning.specs.Trees.{AreAboveKey, AreAscendingKeys, IsOrdered, AreOrdered, AreOrderedMembers}
use Rattle.pbx_json_meaning.specs.Canonical.{is_wide, integer_tree, value_of_number, name_or_number, enum_tree, number_by, truth_by, text_by, bytes_by}
use Rattle.pbx_json_meaning.specs.Canonical.{Line, has_key, with_line, members_of_lines, Tells, Told, default_by, default_tree}
use Rattle.pbx_json_meaning.specs.Canonical.{default_line, told_line, message_tree, scalar_tree, form_tree, told_tree, first_field, kind_asked, items_of, array_tree, entry_line}
use Rattle.pbx_json_meaning.specs.Canonical.{tells, content_tree, fields_tell, vals_tell, pairs_tell}
use Rattle.pbx_json_meaning.specs.Canonical.{Writing, writing, with_type, type_and_value, any_with, payload_in, payload_tree}
use Rattle.pbx_json_meaning.specs.Urls.{stands_beside, type_of_url}
use Rattle.pbx_json_meaning.specs.Forms.{text_at}
use Rattle.pbx_json_meaning.specs.declared.options.SerializeOptions.{SerializeOptions}

-- ---- trees

abbrev IsPlain : Data → Type 0
IsPlain d = IsOrdered d × (has_float d ≡ false)

abbrev ArePlain : Items → Type 0
ArePlain ds = AreOrdered ds × (items_have_float ds ≡ false)

abbrev MembersArePlain : Members → Type 0
MembersArePlain ms = AreAscendingKeys ms × AreOrderedMembers ms × (members_have_float ms ≡ false)

-- a tree that may be there is plain
abbrev IfPlain : Option Data → Type 0
IfPlain r = (d : Data) → r ≡ Some d → IsPlain d

map_from : {X Y : Type 0} (P : Y → Type 0) (f : X → Y) (x : Option X) → ((v : X) → x ≡ Some v → P (f v)) → (y : Y) → option_map f x ≡ Some y → P y
map_from P f None g y h = absurd (cc)
map_from P f (Some v) g y h = let same : f v ≡ y = cc in subst P same (g v refl)

some_plain : (x : Data) → IsPlain x → IfPlain (Some x)
some_plain x p d h = let same : x ≡ d = cc in subst IsPlain same p

-- ---- members

both : (a b : Bool) → (a || b) ≡ false → (a ≡ false) × (b ≡ false)
both true b h = absurd (cc)
both false b h = (refl, h)

less_from : (k l : List ℕ) → slice_cmp nat_cmp k l ≡ Greater → is_lt (slice_cmp nat_cmp l k) ≡ true
less_from k l e = ap is_lt (IsTotalOrder.antisymm nat_list_cmp_total l k ∙ ap ordering_reverse e)

above_put : (j k : List ℕ) (d : Data) (ms : Members) → is_lt (slice_cmp nat_cmp j k) ≡ true → AreAboveKey j ms → AreAboveKey j (put k d ms)
above_put j k d no_members lt h = (lt, tt)
above_put j k d (member l e ms) lt h = at (slice_cmp nat_cmp k l) refl (λ less. above_put l k d ms less h.1)
  where
    at : (o : Ordering) → slice_cmp nat_cmp k l ≡ o → (is_lt (slice_cmp nat_cmp l k) ≡ true → AreAboveKey l (put k d ms))
        → AreAboveKey j (match_ordering o (member k d (member l e ms)) (member l d ms) (member l e (put k d ms)))
    at Less q ih = (lt, (ap is_lt q, h.1))
    at Equal q ih = h
    at Greater q ih = (h.0, ih (less_from k l q))

ascending_put : (k : List ℕ) (d : Data) (ms : Members) → AreAscendingKeys ms → AreAscendingKeys (put k d ms)
ascending_put k d no_members h = tt
ascending_put k d (member l e ms) h = at (slice_cmp nat_cmp k l) refl
  where
    at : (o : Ordering) → slice_cmp nat_cmp k l ≡ o
        → AreAscendingKeys (match_ordering o (member k d (member l e ms)) (member l d ms) (member l e (put k d ms)))
    at Less q = (ap is_lt q, h)
    at Equal q = h
    at Greater q = above_put l k d ms (less_from k l q) h

ordered_put : (k : List ℕ) (d : Data) (ms : Members) → IsOrdered d → AreOrderedMembers ms → AreOrderedMembers (put k d ms)
ordered_put k d no_members p h = (p, tt)
ordered_put k d (member l e ms) p h = at (slice_cmp nat_cmp k l) (ordered_put k d ms p h.1)
  where
    at : (o : Ordering) → AreOrderedMembers (put k d ms)
        → AreOrderedMembers (match_ordering o (member k d (member l e ms)) (member l d ms) (member l e (put k d ms)))
    at Less ih = (p, h)
    at Equal ih = (p, h.1)
    at Greater ih = (h.0, ih)

whole_put : (k : List ℕ) (d : Data) (ms : Members) → has_float d ≡ false → members_have_float ms ≡ false → members_have_float (put k d ms) ≡ false
whole_put k d no_members h m = rw h refl
whole_put k d (member l e ms) h m = at (slice_cmp nat_cmp k l) (whole_put k d ms h)
  where
    parts : (has_float e ≡ false) × (members_have_float ms ≡ false)
    parts = both (has_float e) (members_have_float ms) m

    at : (o : Ordering) → (members_have_float ms ≡ false → members_have_float (put k d ms) ≡ false)
        → members_have_float (match_ordering o (member k d (member l e ms)) (member l d ms) (member l e (put k d ms))) ≡ false
    at Less ih = rw h m
    at Equal ih = rw h parts.1
    at Greater ih = rw parts.0 (ih parts.1)

put_plain : (k : List ℕ) (d : Data) (ms : Members) → IsPlain d → MembersArePlain ms → MembersArePlain (put k d ms)
put_plain k d ms p h = (ascending_put k d ms h.0, ordered_put k d ms p.0 h.1, whole_put k d ms p.1 h.2)

-- ---- lines

abbrev LinesArePlain : List Line → Type 0
LinesArePlain [] = Unit {0}
LinesArePlain (l ∷ ls) = IfPlain l.1 × LinesArePlain ls

lines_append : (xs ys : List Line) → LinesArePlain xs → LinesArePlain ys → LinesArePlain (xs ++ ys)
lines_append [] ys p q = q
lines_append (x ∷ xs) ys p q = (p.0, lines_append xs ys p.1 q)

members_plain : (ls : List Line) → LinesArePlain ls → (ms : Members) → members_of_lines ls ≡ Some ms → MembersArePlain ms
members_plain [] p ms h = let same : no_members ≡ ms = cc in subst MembersArePlain same (tt, tt, refl)
members_plain (l ∷ ls) p ms h = at l.1 (members_of_lines ls) p.0 (members_plain ls p.1) h
  where
    put_if : (b : Bool) (d : Data) (ns : Members) → IsPlain d → MembersArePlain ns → (if b then None else Some (put l.0 d ns)) ≡ Some ms → MembersArePlain ms
    put_if true d ns p q k = absurd (cc)
    put_if false d ns p q k = let same : put l.0 d ns ≡ ms = cc in subst MembersArePlain same (put_plain l.0 d ns p q)

    at : (x : Option Data) (r : Option Members) → IfPlain x → ((ns : Members) → r ≡ Some ns → MembersArePlain ns) → with_line l.0 x r ≡ Some ms
        → MembersArePlain ms
    at (Some d) (Some ns) p q k = put_if (has_key l.0 ns) d ns (p d refl) (q ns refl) k
    at (Some d) None p q k = absurd (cc)
    at None (Some ns) p q k = absurd (cc)
    at None None p q k = absurd (cc)

object_plain : (ls : List Line) → LinesArePlain ls → IfPlain (option_map object (members_of_lines ls))
object_plain ls p = map_from IsPlain object (members_of_lines ls) (λ ms e. let q = members_plain ls p ms e in ((q.0, q.1), q.2))

-- ---- scalars

integer_plain : (z : ℤ) → IsPlain (number (of_integer z))
integer_plain (pos n) = (tt, refl)
integer_plain (negsuc n) = (tt, refl)

if_plain : (b : Bool) (x y : Data) → IsPlain x → IsPlain y → IsPlain (if b then x else y)
if_plain true x y p q = p
if_plain false x y p q = q

-- ---- the object of an `Any`

object_of_plain : (ms : Members) → MembersArePlain ms → IsPlain (object ms)
object_of_plain ms q = ((q.0, q.1), q.2)

members_of_plain : (ms : Members) → IsPlain (object ms) → MembersArePlain ms
members_of_plain ms p = (p.0.0, p.0.1, p.1)

then_plain : (f : Data → Option Data) (x : Option Data) → IfPlain x → ((d : Data) → IsPlain d → IfPlain (f d)) → IfPlain (option_and_then f x)
then_plain f None p q d h = absurd (cc)
then_plain f (Some x) p q d h = q x (p x refl) d h

typed_plain : (url : List ℕ) (d : Data) → IsPlain d → IfPlain (with_type url d)
typed_plain url (object ms) p e h = map_from IsPlain object _ (λ ns k. at (has_key (codes "@type") ms) ns k) e h
  where
    at : (b : Bool) (ns : Members) → (if b then None else Some (put (codes "@type") (string url) ms)) ≡ Some ns → IsPlain (object ns)
    at true ns k = absurd (cc)
    at false ns k =
        let same : put (codes "@type") (string url) ms ≡ ns = cc in
        subst (λ xs. IsPlain (object xs)) same (object_of_plain _ (put_plain (codes "@type") (string url) ms (tt, refl) (members_of_plain ms p)))
typed_plain url null p e h = absurd (cc)
typed_plain url (boolean b) p e h = absurd (cc)
typed_plain url (number n) p e h = absurd (cc)
typed_plain url (string s) p e h = absurd (cc)
typed_plain url (array ds) p e h = absurd (cc)

type_and_value_plain : (url : List ℕ) (d : Data) → IsPlain d → IsPlain (type_and_value url d)
type_and_value_plain url d p =
    let value : Members = put (codes "value") d no_members in
    object_of_plain (put (codes "@type") (string url) value)
    (put_plain (codes "@type") (string url) value (tt, refl) (put_plain (codes "value") d no_members p (tt, tt, refl)))

any_plain : (shape : Shape) (url : List ℕ) (u : ℕ) (d : Data) → IsPlain d → IfPlain (any_with shape url u d)
any_plain shape url u d p = at (stands_beside shape u)
  where
    at : (b : Bool) → IfPlain (if b then with_type url d else Some (type_and_value url d))
    at true e h = typed_plain url d p e h
    at false e h = some_plain _ (type_and_value_plain url d p) e h

abbrev PayloadsArePlain : (ℕ → List ℕ → Option Data) → Type 0
PayloadsArePlain payloads = (u : ℕ) (b : List ℕ) → IfPlain (payloads u b)

module _ (shape : Shape) (o : Writing) (payloads_plain : PayloadsArePlain o.payloads) where
  integer_tree_plain : (k : Kind) (z : ℤ) → IsPlain (integer_tree o k z)
  integer_tree_plain k z =
      if_plain (is_wide k && o.options.stringify_64_bit_integers) (string (signed_decimal z)) (number (of_integer z)) (tt, refl) (integer_plain z)

  named_plain : (z : ℤ) (v : Option EnumValueShape) → IsPlain (name_or_number z v)
  named_plain z None = integer_plain z
  named_plain z (Some v) = (tt, refl)

  enum_plain : (e : ℕ) (z : ℤ) → IsPlain (enum_tree shape o e z)
  enum_plain e z =
      let named : Data = name_or_number z (value_of_number z (enum_values_of shape e)) in
      if_plain (is_null_value shape e) null (if o.options.use_enum_numbers then number (of_integer z) else named) (tt, refl)
      (if_plain o.options.use_enum_numbers (number (of_integer z)) named (integer_plain z) (named_plain z (value_of_number z (enum_values_of shape e))))

  number_plain : (k : Kind) (z : ℤ) (f : Family) → IfPlain (number_by shape o k f z)
  number_plain k z (integers min max) d h = some_plain _ (integer_tree_plain k z) d h
  number_plain k z (enums e) d h = some_plain _ (enum_plain e z) d h
  number_plain k z truths d h = absurd (cc)
  number_plain k z texts d h = absurd (cc)
  number_plain k z bytes_texts d h = absurd (cc)
  number_plain k z floats d h = absurd (cc)
  number_plain k z (messages t) d h = absurd (cc)

  truth_plain : (f : Family) (b : Bool) → IfPlain (truth_by f b)
  truth_plain truths b d h = some_plain _ (tt, refl) d h
  truth_plain (integers min max) b d h = absurd (cc)
  truth_plain texts b d h = absurd (cc)
  truth_plain bytes_texts b d h = absurd (cc)
  truth_plain floats b d h = absurd (cc)
  truth_plain (messages t) b d h = absurd (cc)
  truth_plain (enums e) b d h = absurd (cc)

  text_plain : (f : Family) (s : List ℕ) → IfPlain (text_by f s)
  text_plain texts s d h = some_plain _ (tt, refl) d h
  text_plain (integers min max) s d h = absurd (cc)
  text_plain truths s d h = absurd (cc)
  text_plain bytes_texts s d h = absurd (cc)
  text_plain floats s d h = absurd (cc)
  text_plain (messages t) s d h = absurd (cc)
  text_plain (enums e) s d h = absurd (cc)

  bytes_plain : (f : Family) (s : List ℕ) → IfPlain (bytes_by f s)
  bytes_plain bytes_texts s d h = some_plain _ (tt, refl) d h
  bytes_plain (integers min max) s d h = absurd (cc)
  bytes_plain truths s d h = absurd (cc)
  bytes_plain texts s d h = absurd (cc)
  bytes_plain floats s d h = absurd (cc)
  bytes_plain (messages t) s d h = absurd (cc)
  bytes_plain (enums e) s d h = absurd (cc)

  -- ---- defaults

  default_by_plain : (k : Kind) (v : Val) → IfPlain (default_by shape o k v)
  default_by_plain k (content.number z) d h = number_plain k z (family k) d h
  default_by_plain k (content.truth b) d h = some_plain _ (tt, refl) d h
  default_by_plain k (content.text s) d h = some_plain _ (tt, refl) d h
  default_by_plain k (content.octets s) d h = some_plain _ (tt, refl) d h
  default_by_plain k (content.message c) d h = absurd (cc)
  default_by_plain k (content.many vs) d h = absurd (cc)
  default_by_plain k (content.keyed ps) d h = absurd (cc)

  default_plain : (f : FieldShape) (c : Cardinality) → IfPlain (default_tree shape o f c)
  default_plain f Singular d h = default_by_plain f.kind (zero_of shape f.kind) d h
  default_plain f Repeated d h = some_plain _ (tt, refl) d h
  default_plain f (Map k) d h = some_plain _ ((tt, tt), refl) d h

  defaults_plain : (fs : List FieldShape) → LinesArePlain (map_list (default_line shape o) fs)
  defaults_plain [] = tt
  defaults_plain (f ∷ fs) = (default_plain f f.cardinality, defaults_plain fs)

  -- ---- messages, lists and maps

  abbrev TellsPlain : Tells → Type 0
  TellsPlain t = (a : Asked) → IfPlain (t a)

  abbrev ToldPlain : List Told → Type 0
  ToldPlain [] = Unit {0}
  ToldPlain (t ∷ ts) = TellsPlain t.tells × ToldPlain ts

  abbrev AllTellPlain : List Tells → Type 0
  AllTellPlain [] = Unit {0}
  AllTellPlain (t ∷ ts) = TellsPlain t × AllTellPlain ts

  abbrev PairsTellPlain : List (Key × Tells) → Type 0
  PairsTellPlain [] = Unit {0}
  PairsTellPlain (e ∷ es) = TellsPlain e.1 × PairsTellPlain es

  told_line_plain : (t : Tells) (f : Option FieldShape) → TellsPlain t → IfPlain ((told_line o t f).1)
  told_line_plain t None p d h = absurd (cc)
  told_line_plain t (Some f) p d h = p (field f) d h

  told_lines_plain : (gs : List FieldShape) (ts : List Told) → ToldPlain ts
      → LinesArePlain (map_list (λ (t : Told). told_line o t.tells (field_of t.number gs)) ts)
  told_lines_plain gs [] p = tt
  told_lines_plain gs (t ∷ ts) p = (told_line_plain t.tells (field_of t.number gs) p.0, told_lines_plain gs ts p.1)

  if_some_plain : (b : Bool) (r : Option Data) → IfPlain r → IfPlain (if b then None else r)
  if_some_plain true r p d h = absurd (cc)
  if_some_plain false r p d h = p d h

  either_plain : (b : Bool) (r s : Option Data) → IfPlain r → IfPlain s → IfPlain (if b then r else s)
  either_plain true r s p q d h = p d h
  either_plain false r s p q d h = q d h

  -- ---- well-known types

  as_text_plain : (k : JsonKind) (r : Result (List ℕ) TextFault) → IfPlain (ok_of (as_text k r))
  as_text_plain k (Ok s) d h = some_plain _ (tt, refl) d h
  as_text_plain k (Err e) d h = absurd (cc)

  scalar_plain : (k : Kind) (v : Option Val) → IfPlain (scalar_tree shape o k v)
  scalar_plain k None d h = default_by_plain k (zero_of shape k) d h
  scalar_plain k (Some (content.number z)) d h = number_plain k z (family k) d h
  scalar_plain k (Some (content.truth b)) d h = truth_plain (family k) b d h
  scalar_plain k (Some (content.text s)) d h = text_plain (family k) s d h
  scalar_plain k (Some (content.octets s)) d h = bytes_plain (family k) s d h
  scalar_plain k (Some (content.message c)) d h = absurd (cc)
  scalar_plain k (Some (content.many vs)) d h = absurd (cc)
  scalar_plain k (Some (content.keyed ps)) d h = absurd (cc)

  told_plain : (n : ℕ) (k : Kind) (r : Option Data) (ts : List Told) → IfPlain r → ToldPlain ts → IfPlain (told_tree n k r ts)
  told_plain n k r [] p q = p
  told_plain n k r (t ∷ ts) p q = either_plain (t.number == n) _ _ (q.0 (one k)) (told_plain n k r ts p q.1)

  -- trees without anything inside
  null_plain : IfPlain (Some null)
  null_plain d h = some_plain _ (tt, refl) d h

  no_array_plain : IfPlain (Some (array no_items))
  no_array_plain d h = some_plain _ (tt, refl) d h

  no_object_plain : IfPlain (Some (object no_members))
  no_object_plain d h = some_plain _ ((tt, tt), refl) d h

  payload_plain : (url b : List ℕ) (u : Option ℕ) → IfPlain (payload_in shape o url b u)
  payload_plain url b None d h = absurd (cc)
  payload_plain url b (Some u) d h = then_plain (any_with shape url u) (o.payloads u b) (payloads_plain u b) (any_plain shape url u) d h

  form_plain : (t : ℕ) (form : Form) (fs : Fields) (kept : List Rec) (ts : List Told) → ToldPlain ts → IfPlain (form_tree shape o t form fs kept ts)
  form_plain t forms.Timestamp fs kept ts p d h = as_text_plain _ _ d h
  form_plain t forms.Duration fs kept ts p d h = as_text_plain _ _ d h
  form_plain t forms.FieldMask fs kept ts p d h = as_text_plain _ _ d h
  form_plain t forms.Wrapper fs kept ts p d h = scalar_plain _ _ d h
  form_plain t forms.Struct fs kept ts p d h = told_plain 1 _ _ ts no_object_plain p d h
  form_plain t forms.ListValue fs kept ts p d h = told_plain 1 _ _ ts no_array_plain p d h
  form_plain t forms.Value fs kept ts p d h =
      if_some_plain _ _ (either_plain (first_field fs == 1) _ _ null_plain (told_plain (first_field fs) _ _ ts null_plain p)) d h
  form_plain t forms.Fields fs kept ts p d h = absurd (cc)
  form_plain t forms.Any fs kept ts p d h = payload_plain _ _ (type_of_url shape (text_at (content.get 1 fs))) d h
  form_plain t forms.Empty fs kept ts p d h = absurd (cc)
  form_plain t forms.FloatWrapper fs kept ts p d h = absurd (cc)
  form_plain t forms.Misshapen fs kept ts p d h = absurd (cc)

  -- ---- messages

  message_plain : (t : ℕ) (fs : Fields) (kept : List Rec) (ts : List Told) → ToldPlain ts → IfPlain (message_tree shape o t fs kept ts)
  message_plain t fs kept ts p =
      either_plain _ _ _ (if_some_plain _ _ (object_plain _ (lines_append _ _ (told_lines_plain (declared_of shape t) ts p) (defaults_plain _))))
      (form_plain t (form_of shape t) fs kept ts p)

  items_plain : (k : Kind) (ts : List Tells) → AllTellPlain ts → (ds : List Data) → all_read (λ (t : Tells). t (one k)) ts ≡ Some ds → ArePlain (items_of ds)
  items_plain k [] p ds h = let same : [] ≡ ds = cc in subst (λ xs. ArePlain (items_of xs)) same (tt, refl)
  items_plain k (t ∷ ts) p ds h = at (t (one k)) (p.0 (one k)) (items_plain k ts p.1) h
    where
      rest : Type 0
      rest = (xs : List Data) → all_read (λ (t : Tells). t (one k)) ts ≡ Some xs → ArePlain (items_of xs)

      more : (d : Data) → IsPlain d → rest → (xs : List Data) → all_read (λ (t : Tells). t (one k)) ts ≡ Some xs → ArePlain (items_of (d ∷ xs))
      more d q ih xs e = let r = ih xs e in ((q.0, r.0), rw q.1 r.1)

      at : (x : Option Data) → IfPlain x → rest → option_and_then (λ y. option_map (λ ys. y ∷ ys) (all_read (λ (t : Tells). t (one k)) ts)) x ≡ Some ds
          → ArePlain (items_of ds)
      at None q ih e = absurd (cc)
      at (Some d) q ih e = map_from (λ xs. ArePlain (items_of xs)) (λ ys. d ∷ ys) _ (more d (q d refl) ih) ds e

  array_plain : (k : Kind) (ts : List Tells) → AllTellPlain ts → IfPlain (array_tree k ts)
  array_plain k ts p = map_from IsPlain (λ ds. array (items_of ds)) _ (items_plain k ts p)

  entry_lines_plain : (k : Kind) (es : List (Key × Tells)) → PairsTellPlain es → LinesArePlain (map_list (entry_line k) es)
  entry_lines_plain k [] p = tt
  entry_lines_plain k (e ∷ es) p = (p.0 (one k), entry_lines_plain k es p.1)

  mutual
    tells_plain : (v : Val) → TellsPlain (tells shape o v)
    tells_plain (content.number z) a = number_plain (kind_asked a) z (family (kind_asked a))
    tells_plain (content.truth b) a = truth_plain (family (kind_asked a)) b
    tells_plain (content.text s) a = text_plain (family (kind_asked a)) s
    tells_plain (content.octets s) a = bytes_plain (family (kind_asked a)) s
    tells_plain (content.message c) a = content_plain c (type_of (kind_asked a))
    tells_plain (content.many vs) a = array_plain (kind_asked a) _ (vals_plain vs)
    tells_plain (content.keyed ps) a = object_plain _ (entry_lines_plain (kind_asked a) _ (pairs_plain ps))

    content_plain : (c : Content) (t : ℕ) → IfPlain (content_tree shape o c t)
    content_plain (content.content fs kept) t = message_plain t fs kept _ (fields_plain fs)

    fields_plain : (fs : Fields) → ToldPlain (fields_tell shape o fs)
    fields_plain content.no_fields = tt
    fields_plain (content.field n v fs) = (tells_plain v, fields_plain fs)

    vals_plain : (vs : Vals) → AllTellPlain (vals_tell shape o vs)
    vals_plain content.no_vals = tt
    vals_plain (content.val v vs) = (tells_plain v, vals_plain vs)

    pairs_plain : (ps : Pairs) → PairsTellPlain (pairs_tell shape o ps)
    pairs_plain content.no_pairs = tt
    pairs_plain (content.pair k v ps) = (tells_plain v, pairs_plain ps)

turns_plain : (shape : Shape) (o : SerializeOptions) (turns : ℕ) → PayloadsArePlain (payload_tree shape o turns)
unfolding payload_tree
turns_plain shape o zero u b d h = absurd (cc)
turns_plain shape o (suc turns) u b d h = at (meaning_of shape u b) (turns_plain shape o turns) h
  where
    inner : Writing
    inner = record { options = o; payloads = payload_tree shape o turns }

    at : (c : Option Content) → PayloadsArePlain (payload_tree shape o turns) → option_and_then (λ c. content_tree shape inner c u) c ≡ Some d → IsPlain d
    at None plain k = absurd (cc)
    at (Some c) plain k = content_plain shape inner plain c u d k

pub canonical_is_plain : CanonicalIsPlain
canonical_is_plain shape t c o d h = content_plain shape (writing shape o) (λ u b. turns_plain shape o (suc (length b)) u b) c t d h
