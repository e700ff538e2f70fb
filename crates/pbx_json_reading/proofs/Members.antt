-- Objects whose keys ascend, as those of each map do.
use Rattle.std.proofs.Common.{◌≡◌, ◌∙◌, ℕ, List, [], ◌∷◌, Bool, true, false, Ok, Err, Result, refl, sym, ap, subst, String, Global}
use Rattle.std.proofs.Common.{inl, inr, IfOk}
use Rattle.pbx_json_meaning.specs.declared.error.JsonError.{JsonError}
use Rattle.pbx_json_walk.specs.Walk.{IsFaultOf}
use Rattle.std.proofs.Common.{IfErr, ◌⊎◌, None}
use Rattle.pbx_content.specs.Sound.{IsProper}
use Rattle.pbx_content_codec.specs.View.{content_of}
use Rattle.pbx_content_codec.specs.declared.contents.Contents.{Contents}
use Rattle.pbx_json_meaning.specs.Stands.{Stands, content_for}
use Rattle.pbx_json_meaning.specs.Faults.{FirstJsonFault}
use Rattle.pbx_json_walk.specs.Laws.{IsTold, MessageIsTold, IsFirstFault, FaultIsFirst}
use Rattle.std.specs.Map.{keys_of}
use Rattle.std.specs.String.{string_cmp}
use Rattle.std.specs.List.Sorted.{IsStrictlySortedBy}
use Rattle.std.specs.Ordering.{is_lt}
use Rattle.std.specs.declared.cmp.Ordering.TheVariants.{Less}
use Rattle.std.proofs.lemmas.Map.Keys.{sorted_head, sorted_tail}
use Rattle.serde_json.specs.Data.{Data, null, boolean, number, string, array, object, Members, no_members, member}
use Rattle.serde_json.specs.View.{members_view}
use Rattle.serde_json.specs.declared.value.Value.{Value}
use Rattle.pbx_content.specs.Content.{Content}
use Rattle.pbx_content.specs.Shape.{is_float}
use Rattle.pbx_content.specs.declared.shape.Kind.{Kind}
use Rattle.pbx_content.specs.declared.shape.Shape.{Shape}
use Rattle.std.proofs.Common.{if◌then◌else◌}
use Rattle.pbx_json_meaning.specs.declared.kind.JsonKind.TheVariants.{NoMemory, UnknownField}
use Rattle.pbx_json_walk.specs.Opened.{members_of_map, members_if_none, members_in}
use Rattle.pbx_json_walk.specs.Walk.{Answer, answer_map, and_then, or_here, are_ascending, members_answer, message_answer, content_found, walk, start, parts, elements_in, parts_in}
use Rattle.pbx_content.specs.declared.shape.FieldShape.{FieldShape}
use Rattle.std.specs.Prelude.{not}
use Rattle.pbx_json_meaning.specs.Names.{field_named}
use Rattle.pbx_json_meaning.specs.Urls.{is_type_key, is_value_key}
use Rattle.pbx_json_meaning.specs.Asked.{field, one}
use Rattle.std.proofs.Common.{Option, Some}
use Rattle.pbx_json_walk.specs.Walk.{Answers, key_judged, noted, field_turn, payload_turn, message_found, here}
use Rattle.pbx_json_meaning.specs.declared.place.Step.TheVariants.{Key as to_key}
use Rattle.pbx_json_walk.specs.Walk.{Part, State, at_step, turn, beside_type, beside_answer, walk_payload, payload_found, payload_answer}
use Rattle.pbx_json_walk.proofs.Beside.{ascending_without}
use Rattle.pbx_json_reading.specs.Objects.{object_answer, beside_object, fields_object, is_passed, parts_read, member_turn, payload_object}
use Rattle.pbx_json_walk.specs.Walk.{map_answer, map_value, walk_entries, no_entries, entries_answer}

above_from_sorted : (k : String Global) (v : Value) (ms : List (String Global × Value)) → IsStrictlySortedBy string_cmp (keys_of ((k, v) ∷ ms))
    → are_ascending (members_view ((k, v) ∷ ms)) ≡ true
above_from_sorted k v [] h = refl
above_from_sorted k v (m ∷ ms) h =
    let first : string_cmp k m.0 ≡ Less = (sorted_head string_cmp k (keys_of (m ∷ ms)) h).0 in
    let lt = ap is_lt first in
    let rest : are_ascending (members_view (m ∷ ms)) ≡ true = above_from_sorted m.0 m.1 ms (sorted_tail string_cmp k (keys_of (m ∷ ms)) h) in
    rw (lt, rest) refl

-- the keys of a map ascend
pub ascending : (ms : List (String Global × Value)) → IsStrictlySortedBy string_cmp (keys_of ms) → are_ascending (members_view ms) ≡ true
ascending [] h = refl
ascending (m ∷ ms) h = above_from_sorted m.0 m.1 ms h

-- an object of fields
object_parts : (shape : Shape) (allow : Bool) (d : Data) (ms : Members) → Ok ms ≡ members_in d → parts_in shape allow d ≡ parts shape allow ms
object_parts shape allow (object ns) ms e = let same : ns ≡ ms = cc in ap (parts shape allow) same
object_parts shape allow null ms e = absurd (cc)
object_parts shape allow (boolean b) ms e = absurd (cc)
object_parts shape allow (number n) ms e = absurd (cc)
object_parts shape allow (string s) ms e = absurd (cc)
object_parts shape allow (array ds) ms e = absurd (cc)

pub object_walk : (shape : Shape) (allow skip : Bool) (fs : List FieldShape) (d : Data) (ms : List (String Global × Value)) → IsStrictlySortedBy string_cmp (keys_of ms)
    → Ok (members_view ms) ≡ members_in d
    → object_answer skip fs d (parts_in shape allow d) ≡ answer_map content_found (walk skip fs (parts shape allow (members_view ms)) start)
object_walk shape allow skip fs d ms sorted h =
    ap (λ r. and_then (or_here r) (members_answer skip fs (parts_in shape allow d))) (sym h)
    ∙ ap (λ ps. members_answer skip fs ps (members_view ms)) (object_parts shape allow d (members_view ms) h)
    ∙ rw (ascending ms sorted) refl

-- the members but that of the type of an `Any`
pub beside_walk : (shape : Shape) (allow skip : Bool) (fs : List FieldShape) (d : Data) (ms : List (String Global × Value)) → IsStrictlySortedBy string_cmp (keys_of ms)
    → Ok (members_view ms) ≡ members_in d
    → beside_object skip fs d (parts_in shape allow d) ≡ answer_map content_found (walk skip fs (beside_type (parts shape allow (members_view ms))) start)
beside_walk shape allow skip fs d ms sorted h =
    ap (λ r. and_then (or_here r) (beside_answer skip fs (parts_in shape allow d))) (sym h)
    ∙ ap (λ ps. beside_answer skip fs ps (members_view ms)) (object_parts shape allow d (members_view ms) h)
    ∙ rw (ascending_without (members_view ms) (ascending ms sorted)) refl

-- where no key is passed over, each is read
all_read : (ps : List Part) → ps ≡ parts_read false ps
all_read [] = refl
all_read (p ∷ ps) = ap (λ qs. p ∷ qs) (all_read ps)

-- the one or the other
pub fields_walk : (beside : Bool) (shape : Shape) (allow skip : Bool) (fs : List FieldShape) (d : Data) (ms : List (String Global × Value)) → IsStrictlySortedBy string_cmp (keys_of ms)
    → Ok (members_view ms) ≡ members_in d
    → fields_object beside skip fs d (parts_in shape allow d) ≡ answer_map content_found (walk skip fs (parts_read beside (parts shape allow (members_view ms))) start)
fields_walk true shape allow skip fs d ms sorted h = beside_walk shape allow skip fs d ms sorted h
fields_walk false shape allow skip fs d ms sorted h =
    object_walk shape allow skip fs d ms sorted h ∙ ap (λ ps. answer_map content_found (walk skip fs ps start)) (all_read (parts shape allow (members_view ms)))

-- the first of its keys
pub fields_first : (beside skip : Bool) (fs : List FieldShape) (p : Part) (ps : List Part) (s : State)
    → walk skip fs (parts_read beside (p ∷ ps)) s ≡ and_then (member_turn beside skip fs p.key p.answers s) (walk skip fs (parts_read beside ps))
fields_first beside skip fs p ps s = at (is_passed beside p.key)
  where
    at : (b : Bool) → walk skip fs (if not b then p ∷ parts_read beside ps else parts_read beside ps) s
        ≡ and_then (if b then Ok s else at_step (to_key p.key) (turn skip (field_named p.key fs) p.answers s)) (walk skip fs (parts_read beside ps))
    at true = refl
    at false = refl

-- a key that names a field
pub member_read : (beside skip : Bool) (fs : List FieldShape) (key : List ℕ) (as' : Answers) (s : State) (f : FieldShape)
    → is_passed beside key ≡ false → key_judged skip (field_named key fs) s ≡ Ok (Some f)
    → member_turn beside skip fs key as' s ≡ at_step (to_key key) (and_then (as' (field f)) (noted f s))
member_read beside skip fs key as' s f kept is =
    ap (λ b. if b then Ok s else at_step (to_key key) (turn skip (field_named key fs) as' s)) kept
    ∙ ap (λ r. at_step (to_key key) (and_then (or_here r) (field_turn as' s))) is

-- the key of a payload
pub payload_value : (skip : Bool) (k : Kind) (key : List ℕ) (as' : Answers) (found : Option Content) → is_type_key key ≡ false → is_value_key key ≡ true
    → payload_turn skip k key as' found ≡ answer_map message_found (as' (one k))
payload_value skip k key as' found kept is =
    ap (λ b. if b then Ok found else if is_value_key key then answer_map message_found (as' (one k)) else if skip then Ok found else here UnknownField) kept
    ∙ ap (λ b. if b then answer_map message_found (as' (one k)) else if skip then Ok found else here UnknownField) is

-- another key beside a payload
pub payload_other : (skip : Bool) (k : Kind) (key : List ℕ) (as' : Answers) (found : Option Content) → is_type_key key ≡ false → is_value_key key ≡ false
    → payload_turn skip k key as' found ≡ (if skip then Ok found else here UnknownField)
payload_other skip k key as' found kept is =
    ap (λ b. if b then Ok found else if is_value_key key then answer_map message_found (as' (one k)) else if skip then Ok found else here UnknownField) kept
    ∙ ap (λ b. if b then answer_map message_found (as' (one k)) else if skip then Ok found else here UnknownField) is

-- the payload of an `Any`
pub payload_walk : (shape : Shape) (allow skip : Bool) (k : Kind) (d : Data) (ms : List (String Global × Value)) → IsStrictlySortedBy string_cmp (keys_of ms)
    → Ok (members_view ms) ≡ members_in d
    → payload_object skip k d (parts_in shape allow d) ≡ and_then (walk_payload skip k (parts shape allow (members_view ms)) None) payload_found
payload_walk shape allow skip k d ms sorted h =
    ap (λ r. and_then (or_here r) (payload_answer skip k (parts_in shape allow d))) (sym h)
    ∙ ap (λ ps. payload_answer skip k ps (members_view ms)) (object_parts shape allow d (members_view ms) h)
    ∙ rw (ascending ms sorted) refl

-- the object that is read as a map
map_object : (shape : Shape) (allow : Bool) (k : Kind) (d : Data) (ms : Members) → Ok ms ≡ members_of_map k d → parts_in shape allow d ≡ parts shape allow ms
map_object shape allow k (object ns) ms h = at (is_float k) ns h
  where
    at : (b : Bool) (xs : Members) → Ok ms ≡ (if b then members_if_none xs else Ok xs) → parts shape allow xs ≡ parts shape allow ms
    at true no_members e = let same : no_members ≡ ms = cc in ap (parts shape allow) same
    at true (member key x xs) e = absurd (cc)
    at false xs e = let same : xs ≡ ms = cc in ap (parts shape allow) same
map_object shape allow k null ms h = absurd (cc)
map_object shape allow k (boolean b) ms h = absurd (cc)
map_object shape allow k (number n) ms h = absurd (cc)
map_object shape allow k (string s) ms h = absurd (cc)
map_object shape allow k (array ds) ms h = absurd (cc)

pub map_walk : (shape : Shape) (allow : Bool) (kk vk : Kind) (d : Data) (ms : List (String Global × Value)) → IsStrictlySortedBy string_cmp (keys_of ms)
    → Ok (members_view ms) ≡ members_of_map vk d
    → map_answer kk vk d (parts_in shape allow d) ≡ answer_map map_value (walk_entries kk vk (parts shape allow (members_view ms)) no_entries)
map_walk shape allow kk vk d ms sorted h =
    ap (λ r. and_then (or_here r) (entries_answer kk vk (parts_in shape allow d))) (sym h)
    ∙ ap (λ ps. entries_answer kk vk ps (members_view ms)) (map_object shape allow vk d (members_view ms) h)
    ∙ rw (ascending ms sorted) refl

-- a fault of a part is a fault of the whole
pub fault_from : {X Y : Type 0} (a : Answer X) (b : Answer Y) (e : JsonError) → IsFaultOf a e → (a ≡ Err e → b ≡ Err e) → IsFaultOf b e
fault_from a b e (inl n) f = inl n
fault_from a b e (inr is) f = inr (f is)

-- ---- what the answers tell

module _ (told : MessageIsTold) (shape : Shape) (t : ℕ) (allow : Bool) (d : Data) (proper : IsProper shape) where
  is_told : (a : Answer Content) → message_answer shape allow t d (elements_in shape allow d) (parts_in shape allow d) ≡ a → IsTold shape t allow d a
  is_told a e = subst (λ b. IsTold shape t allow d b) e (told shape t allow d proper)

  pub told_content : (r : Result Contents JsonError) → IfOk r (λ c. message_answer shape allow t d (elements_in shape allow d) (parts_in shape allow d) ≡ Ok (content_of c))
      → IfOk r (λ c. Stands shape t allow d (content_of c))
  told_content (Ok c) h = is_told (Ok (content_of c)) h
  told_content (Err e) h = tt

  fault_told : (e : JsonError) → IsFaultOf (message_answer shape allow t d (elements_in shape allow d) (parts_in shape allow d)) e → (e.kind ≡ NoMemory) ⊎ (content_for shape t allow d ≡ None)
  fault_told e (inl n) = inl n
  fault_told e (inr is) = is_told (Err e) is

  pub told_nothing : (r : Result Contents JsonError) → IfErr r (λ e. IsFaultOf (message_answer shape allow t d (elements_in shape allow d) (parts_in shape allow d)) e)
      → IfErr r (λ e. (e.kind ≡ NoMemory) ⊎ (content_for shape t allow d ≡ None))
  told_nothing (Ok c) h = tt
  told_nothing (Err e) h = fault_told e h

module _ (first : FaultIsFirst) (shape : Shape) (t : ℕ) (allow : Bool) (d : Data) (proper : IsProper shape) where
  first_told : (e : JsonError) → IsFaultOf (message_answer shape allow t d (elements_in shape allow d) (parts_in shape allow d)) e → (e.kind ≡ NoMemory) ⊎ FirstJsonFault shape t allow d e.place e.kind
  first_told e (inl n) = inl n
  first_told e (inr is) = subst (λ b. IsFirstFault shape t allow d b) is (first shape t allow d proper)

  pub told_first : (r : Result Contents JsonError) → IfErr r (λ e. IsFaultOf (message_answer shape allow t d (elements_in shape allow d) (parts_in shape allow d)) e)
      → IfErr r (λ e. (e.kind ≡ NoMemory) ⊎ FirstJsonFault shape t allow d e.place e.kind)
  told_first (Ok c) h = tt
  told_first (Err e) h = first_told e h
