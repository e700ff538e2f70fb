-- Steps of a place, and that each part of a file stands at its place.
use Rattle.std.proofs.Common.{◌≡◌, ◌∙◌, ℕ, ◌+◌, ◌-◌, ◌<◌, ℤ, List, [], ◌∷◌, ◌++◌, length, take, drop, map, append-nil, length-drop, length-append, refl, ap, sym, subst, arith}
use Rattle.std.specs.Prelude.{pos, Option, Some, None, slice_get, option_and_then}
use Rattle.std.specs.List.{flat_map, enumerate_from}
use Rattle.std.proofs.lemmas.List.{append_assoc, length_push, take_all}
use Rattle.pbx_desc_records.specs.declared.message.DescriptorProto.{DescriptorProto, out-DescriptorProto}
use Rattle.pbx_desc_records.specs.declared.enumeration.EnumDescriptorProto.{EnumDescriptorProto}
use Rattle.pbx_desc_records.specs.declared.field.FieldDescriptorProto.{FieldDescriptorProto}
use Rattle.pbx_desc_records.specs.declared.file.FileDescriptorProto.{FileDescriptorProto}
use Rattle.pbx_link_definitions.specs.Definitions.{Place, Part, parts, message_name, package_of, nested_in, messages_from, messages, top_messages, enums_in, enums, top_enums, extensions_in, extensions_from, extensions, top_extensions}
use Rattle.pbx_link_definitions.proofs.Told.{Each, ind_part, messages_from_at, extensions_from_at}
use Rattle.pbx_link_tables.specs.Places.{first_item, message_below, message_at, holder, enum_at, extension_at}

-- ---- steps

pub below_end : (m : DescriptorProto) (place : Place) → length place < 2 → message_below m place ≡ Some m
unfolding message_below
below_end m [] h = refl
below_end m (n ∷ []) h = refl
below_end m (n ∷ i ∷ place) h = absurd (omega arith)

pub below_step : (m : DescriptorProto) (place : Place) → 1 < length place
    → message_below m place ≡ option_and_then (λ inner. message_below inner (drop 2 place)) (first_item place (out-DescriptorProto m).nested_type)
unfolding message_below
below_step m [] h = absurd (omega arith)
below_step m (n ∷ []) h = absurd (omega arith)
below_step m (n ∷ i ∷ place) h = refl

all_left : (place : Place) → take (length place - 2) (drop 2 place) ≡ drop 2 place
all_left place = take_all (length place - 2) (drop 2 place) (omega (arith, length-drop 2 place))

-- one level more
pub below_more : (m nested : DescriptorProto) (rest next : Place) (xs : List DescriptorProto) → 1 < length rest → xs ≡ (out-DescriptorProto m).nested_type → Some nested ≡ first_item rest xs
    → next ≡ take (length rest - 2) (drop 2 rest) → message_below nested next ≡ message_below m rest
below_more m nested rest next xs lt is found at =
    ap (message_below nested) (at ∙ all_left rest) ∙ ap (option_and_then (λ inner. message_below inner (drop 2 rest))) (found ∙ ap (first_item rest) is) ∙ sym (below_step m rest lt)

pub below_none : (m : DescriptorProto) (rest : Place) (xs : List DescriptorProto) → 1 < length rest → xs ≡ (out-DescriptorProto m).nested_type → None ≡ first_item rest xs → None ≡ message_below m rest
below_none m rest xs lt is found = ap (option_and_then (λ inner. message_below inner (drop 2 rest))) (found ∙ ap (first_item rest) is) ∙ sym (below_step m rest lt)

pub at_some : (f : FileDescriptorProto) (m : DescriptorProto) (place next : Place) (xs : List DescriptorProto) (r : Option DescriptorProto) → xs ≡ f.message_type → Some m ≡ first_item place xs
    → next ≡ take (length place - 2) (drop 2 place) → r ≡ message_below m next → r ≡ message_at f place
unfolding message_at
at_some f m place next xs r is found at e =
    e ∙ ap (message_below m) (at ∙ all_left place) ∙ ap (option_and_then (λ inner. message_below inner (drop 2 place))) (found ∙ ap (first_item place) is)

pub at_none : (f : FileDescriptorProto) (place : Place) (xs : List DescriptorProto) → xs ≡ f.message_type → None ≡ first_item place xs → None ≡ message_at f place
unfolding message_at
at_none f place xs is found = ap (option_and_then (λ inner. message_below inner (drop 2 place))) (found ∙ ap (first_item place) is)

pub enum_in_file : (f : FileDescriptorProto) (place : Place) (i : ℕ) (xs : List EnumDescriptorProto) (r : Option EnumDescriptorProto) → length place ≡ 0 → xs ≡ f.enum_type → r ≡ slice_get xs i → r ≡ enum_at f place i
unfolding enum_at
enum_in_file f [] i xs r e is at = at ∙ ap (λ (ys : List EnumDescriptorProto). slice_get ys i) is
enum_in_file f (n ∷ place) i xs r e is at = absurd (omega arith)

pub enum_in_message : (f : FileDescriptorProto) (place : Place) (i : ℕ) (r : Option EnumDescriptorProto) → 0 < length place → r ≡ option_and_then (λ m. slice_get (out-DescriptorProto m).enum_type i) (message_at f place) → r ≡ enum_at f place i
unfolding enum_at
enum_in_message f [] i r lt at = absurd (omega arith)
enum_in_message f (n ∷ place) i r lt at = at

pub extension_in_file : (f : FileDescriptorProto) (place : Place) (i : ℕ) (xs : List FieldDescriptorProto) (r : Option FieldDescriptorProto) → length place ≡ 0 → xs ≡ f.extension → r ≡ slice_get xs i → r ≡ extension_at f place i
unfolding extension_at
extension_in_file f [] i xs r e is at = at ∙ ap (λ (ys : List FieldDescriptorProto). slice_get ys i) is
extension_in_file f (n ∷ place) i xs r e is at = absurd (omega arith)

pub extension_in_message : (f : FileDescriptorProto) (place : Place) (i : ℕ) (r : Option FieldDescriptorProto) → 0 < length place → r ≡ option_and_then (λ m. slice_get (out-DescriptorProto m).extension i) (message_at f place) → r ≡ extension_at f place i
unfolding extension_at
extension_in_message f [] i r lt at = absurd (omega arith)
extension_in_message f (n ∷ place) i r lt at = at

-- ---- each part at its place

-- a message that stands below another: the rest of its place leads to it
abbrev pub IsBelow : Part DescriptorProto → Part DescriptorProto → Type 0
IsBelow p q = (rest : Place) × (q.place ≡ p.place ++ rest) × (message_below p.item rest ≡ Some q.item)

pub each_append : {X : Type 0} (P : X → Type 0) (xs ys : List X) → Each P xs → Each P ys → Each P (xs ++ ys)
each_append P [] ys h k = k
each_append P (x ∷ xs) ys h k = (h.0, each_append P xs ys h.1 k)

pub each_flat : {X Y : Type 0} (P : Y → Type 0) (f : X → List Y) (xs : List X) → Each (λ x. Each P (f x)) xs → Each P (flat_map f xs)
each_flat P f [] h = tt
each_flat P f (x ∷ xs) h = each_append P (f x) (flat_map f xs) h.0 (each_flat P f xs h.1)

each_front : {X : Type 0} (P : X → Type 0) (xs ys : List X) → Each P (xs ++ ys) → Each P xs
each_front P [] ys h = tt
each_front P (x ∷ xs) ys h = (h.0, each_front P xs ys h.1)

each_behind : {X : Type 0} (P : X → Type 0) (xs ys : List X) → Each P (xs ++ ys) → Each P ys
each_behind P [] ys h = h
each_behind P (x ∷ xs) ys h = each_behind P xs ys h.1

each_in : {X Y : Type 0} (P : Y → Type 0) (f : X → List Y) (xs : List X) → Each P (flat_map f xs) → Each (λ x. Each P (f x)) xs
each_in P f [] h = tt
each_in P f (x ∷ xs) h = (each_front P (f x) (flat_map f xs) h, each_in P f xs (each_behind P (f x) (flat_map f xs) h))

pub each_so : {X : Type 0} (P Q : X → Type 0) → ((x : X) → P x → Q x) → (xs : List X) → Each P xs → Each Q xs
each_so P Q f [] h = tt
each_so P Q f (x ∷ xs) h = (f x h.0, each_so P Q f xs h.1)

pub each_of_both : {X : Type 0} (P Q R : X → Type 0) → ((x : X) → P x → Q x → R x) → (xs : List X) → Each P xs → Each Q xs → Each R xs
each_of_both P Q R f [] h k = tt
each_of_both P Q R f (x ∷ xs) h k = (f x h.0 k.0, each_of_both P Q R f xs h.1 k.1)

-- a part of a list is the item of its index, at the place of that
abbrev pub IsItem : {X : Type 0} → Place → ℕ → List X → Part X → Type 0
IsItem place n xs p = (p.place ≡ place ++ pos n ∷ pos p.index ∷ []) × (slice_get xs p.index ≡ Some p.item)

slice_behind : {X : Type 0} (before : List X) (x : X) (xs : List X) → slice_get (before ++ x ∷ xs) (length before) ≡ Some x
slice_behind [] x xs = refl
slice_behind (b ∷ before) x xs = slice_behind before x xs

items_from : {X : Type 0} (scope : List ℕ) (place : Place) (n : ℕ) (before xs : List X) (k : ℕ) → k ≡ length before
    → Each (IsItem place n (before ++ xs)) (map (λ x. record { scope = scope; place = place ++ pos n ∷ pos x.0 ∷ []; index = x.0; item = x.1 }) (enumerate_from k xs))
items_from scope place n before [] k e = tt
items_from {X} scope place n before (x ∷ xs) k e =
    let rest : Each (IsItem place n ((before ++ x ∷ []) ++ xs)) (map (λ y. record { scope = scope; place = place ++ pos n ∷ pos y.0 ∷ []; index = y.0; item = y.1 }) (enumerate_from (k + 1) xs)) =
    items_from scope place n (before ++ x ∷ []) xs (k + 1) (ap (λ (m : ℕ). m + 1) e ∙ sym (length_push before x)) in (
      (refl, ap (slice_get (before ++ x ∷ xs)) e ∙ slice_behind before x xs),
      subst (λ (all : List X). Each (IsItem place n all) (map (λ y. record { scope = scope; place = place ++ pos n ∷ pos y.0 ∷ []; index = y.0; item = y.1 }) (enumerate_from (k + 1) xs)))
          (append_assoc before (x ∷ []) xs) rest,
    )

-- each part of a list
pub items : {X : Type 0} (scope : List ℕ) (place : Place) (n : ℕ) (xs : List X) → Each (IsItem place n xs) (parts scope place n xs)
items scope place n xs = items_from scope place n [] xs 0 refl

nested_below : (p c q : Part DescriptorProto) → IsItem p.place 3 (out-DescriptorProto p.item).nested_type c → IsBelow c q → IsBelow p q
unfolding message_below
nested_below p c q at below = (
  pos 3 ∷ pos c.index ∷ below.0,
  below.1 ∙ ap (λ (pl : Place). pl ++ below.0) at.0 ∙ append_assoc p.place (pos 3 ∷ pos c.index ∷ []) below.0,
  ap (option_and_then (λ inner. message_below inner below.0)) at.1 ∙ below.2,
)

itself_below : (p : Part DescriptorProto) → IsBelow p p
unfolding message_below
itself_below p = ([], sym (append-nil p.place), refl)

-- every message of those told of a message is below it
pub all_below : (p : Part DescriptorProto) → Each (IsBelow p) (messages_from p)
all_below =
    ind_part (λ p. Each (IsBelow p) (messages_from p))
    (λ p inside.
    let nested : Each (λ c. Each (IsBelow p) (messages_from c)) (nested_in p) =
    each_of_both (IsItem p.place 3 (out-DescriptorProto p.item).nested_type) (λ c. Each (IsBelow c) (messages_from c)) (λ c. Each (IsBelow p) (messages_from c))
    (λ c at below. each_so (IsBelow c) (IsBelow p) (λ q. nested_below p c q at) (messages_from c) below)
    (nested_in p) (items (message_name p) p.place 3 (out-DescriptorProto p.item).nested_type) inside in
    subst (Each (IsBelow p)) (sym (messages_from_at p)) (itself_below p, each_flat (IsBelow p) messages_from (nested_in p) nested))

-- a message stands at its place, which has a field number and an index or more
abbrev pub Stands : FileDescriptorProto → Part DescriptorProto → Type 0
Stands f p = (message_at f p.place ≡ Some p.item) × (1 < length p.place)

top_stands : (f : FileDescriptorProto) (t q : Part DescriptorProto) → IsItem [] 4 f.message_type t → IsBelow t q → Stands f q
unfolding message_at
top_stands f t q at below =
    let there : q.place ≡ pos 4 ∷ pos t.index ∷ below.0 = below.1 ∙ ap (λ (pl : Place). pl ++ below.0) at.0 in (
      ap (message_at f) there ∙ ap (option_and_then (λ m. message_below m below.0)) at.1 ∙ below.2,
      subst (λ (pl : Place). 1 < length pl) (sym there) (omega arith),
    )

-- every message of a file
pub messages_stand : (f : FileDescriptorProto) → Each (Stands f) (messages f)
messages_stand f =
    each_flat (Stands f) messages_from (top_messages f)
    (each_so (IsItem [] 4 f.message_type) (λ t. Each (Stands f) (messages_from t))
    (λ t at. each_so (IsBelow t) (Stands f) (λ q. top_stands f t q at) (messages_from t) (all_below t))
    (top_messages f) (items (package_of f) [] 4 f.message_type))

-- ---- enums, extensions and services

front_of : (place : Place) (n i : ℤ) → take (length place) (place ++ n ∷ i ∷ []) ≡ place
front_of [] n i = refl
front_of (z ∷ place) n i = ap (λ (pl : Place). z ∷ pl) (front_of place n i)

holder_is : (place : Place) (n i : ℤ) → holder (place ++ n ∷ i ∷ []) ≡ place
holder_is place n i =
    let count : length (place ++ n ∷ i ∷ []) - 2 ≡ length place = omega (arith, length-append place (n ∷ i ∷ [])) in
    ap (λ (k : ℕ). take k (place ++ n ∷ i ∷ [])) count ∙ front_of place n i

-- an enum is that of its index in what holds its place
abbrev pub EnumStands : FileDescriptorProto → Part EnumDescriptorProto → Type 0
EnumStands f e = enum_at f (holder e.place) e.index ≡ Some e.item

enum_below : (f : FileDescriptorProto) (p : Part DescriptorProto) (e : Part EnumDescriptorProto) → Stands f p → IsItem p.place 4 (out-DescriptorProto p.item).enum_type e → EnumStands f e
enum_below f p e stands at =
    ap (λ (pl : Place). enum_at f pl e.index) (ap holder at.0 ∙ holder_is p.place (pos 4) (pos e.index))
    ∙ sym (enum_in_message f p.place e.index (Some e.item) (omega (arith, stands.1))
    (sym at.1 ∙ ap (option_and_then (λ m. slice_get (out-DescriptorProto m).enum_type e.index)) (sym stands.0)))

enum_on_top : (f : FileDescriptorProto) (e : Part EnumDescriptorProto) → IsItem [] 5 f.enum_type e → EnumStands f e
unfolding enum_at
enum_on_top f e at = ap (λ (pl : Place). enum_at f (holder pl) e.index) at.0 ∙ at.1

pub enums_stand : (f : FileDescriptorProto) → Each (EnumStands f) (enums f)
enums_stand f =
    each_append (EnumStands f) (flat_map enums_in (messages f)) (top_enums f)
    (each_flat (EnumStands f) enums_in (messages f)
    (each_so (Stands f) (λ p. Each (EnumStands f) (enums_in p))
    (λ p stands. each_so (IsItem p.place 4 (out-DescriptorProto p.item).enum_type) (EnumStands f) (λ e at. enum_below f p e stands at) (enums_in p)
    (items (message_name p) p.place 4 (out-DescriptorProto p.item).enum_type)) (messages f) (messages_stand f)))
    (each_so (IsItem [] 5 f.enum_type) (EnumStands f) (enum_on_top f) (top_enums f) (items (package_of f) [] 5 f.enum_type))

-- the same of extensions
abbrev pub ExtensionStands : FileDescriptorProto → Part FieldDescriptorProto → Type 0
ExtensionStands f x = extension_at f (holder x.place) x.index ≡ Some x.item

extension_below : (f : FileDescriptorProto) (p : Part DescriptorProto) (x : Part FieldDescriptorProto) → Stands f p → IsItem p.place 6 (out-DescriptorProto p.item).extension x → ExtensionStands f x
extension_below f p x stands at =
    ap (λ (pl : Place). extension_at f pl x.index) (ap holder at.0 ∙ holder_is p.place (pos 6) (pos x.index))
    ∙ sym (extension_in_message f p.place x.index (Some x.item) (omega (arith, stands.1))
    (sym at.1 ∙ ap (option_and_then (λ m. slice_get (out-DescriptorProto m).extension x.index)) (sym stands.0)))

extension_on_top : (f : FileDescriptorProto) (x : Part FieldDescriptorProto) → IsItem [] 7 f.extension x → ExtensionStands f x
unfolding extension_at
extension_on_top f x at = ap (λ (pl : Place). extension_at f (holder pl) x.index) at.0 ∙ at.1

-- of messages that stand, told of one message, the extensions stand
extensions_below : (f : FileDescriptorProto) (p : Part DescriptorProto) → Each (Stands f) (messages_from p) → Each (ExtensionStands f) (extensions_from p)
extensions_below f =
    ind_part (λ p. Each (Stands f) (messages_from p) → Each (ExtensionStands f) (extensions_from p))
    (λ p inside stand.
    let told : Each (Stands f) (p ∷ flat_map messages_from (nested_in p)) = subst (Each (Stands f)) (messages_from_at p) stand in
    let nested : Each (λ c. Each (ExtensionStands f) (extensions_from c)) (nested_in p) =
    each_of_both (λ c. Each (Stands f) (messages_from c) → Each (ExtensionStands f) (extensions_from c)) (λ c. Each (Stands f) (messages_from c)) (λ c. Each (ExtensionStands f) (extensions_from c))
    (λ c so h. so h) (nested_in p) inside (each_in (Stands f) messages_from (nested_in p) told.1) in
    subst (Each (ExtensionStands f)) (sym (extensions_from_at p))
    (each_append (ExtensionStands f) (flat_map extensions_from (nested_in p)) (extensions_in p) (each_flat (ExtensionStands f) extensions_from (nested_in p) nested)
    (each_so (IsItem p.place 6 (out-DescriptorProto p.item).extension) (ExtensionStands f) (λ x at. extension_below f p x told.0 at) (extensions_in p)
    (items (message_name p) p.place 6 (out-DescriptorProto p.item).extension))))

pub extensions_stand : (f : FileDescriptorProto) → Each (ExtensionStands f) (extensions f)
extensions_stand f =
    each_append (ExtensionStands f) (flat_map extensions_from (top_messages f)) (top_extensions f)
    (each_flat (ExtensionStands f) extensions_from (top_messages f)
    (each_so (λ t. Each (Stands f) (messages_from t)) (λ t. Each (ExtensionStands f) (extensions_from t)) (extensions_below f) (top_messages f)
    (each_in (Stands f) messages_from (top_messages f) (messages_stand f))))
    (each_so (IsItem [] 7 f.extension) (ExtensionStands f) (extension_on_top f) (top_extensions f) (items (package_of f) [] 7 f.extension))
