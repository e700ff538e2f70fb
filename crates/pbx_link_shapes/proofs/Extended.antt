-- An extension stands behind the fields of the one message that it extends.
use Rattle.std.proofs.Common.{⊎_elim, ◌≡◌, ◌∙◌, ℕ, zero, suc, ◌+◌, ◌<◌, ◌≤◌, cond, List, [], ◌∷◌, ◌++◌, map, take, set, length, get_or, Bool, true, false, Option, Some, None, refl, ap, sym, subst, arith}
use Rattle.std.specs.Prelude.{Result, Ok, Err, OnOk, filter, position, slice_get, option_map, option_and_then, ◌==◌, ◌&&◌, if◌then◌else◌}
use Rattle.std.specs.List.{flat_map}
use Rattle.std.specs.Str.{bytes_eq}
use Rattle.std.proofs.lemmas.Grind.{flat_map-append}
use Rattle.std.proofs.lemmas.List.{append-nil, append_assoc, map-append, take_more}
use Rattle.std.proofs.lemmas.Bool.{cases_lt}
use Rattle.std.proofs.lemmas.Option.{get_or_from_slice_get}
use Rattle.std.proofs.lemmas.Slice.Eq.{bytes_eq-Decides}
use Rattle.pbx_content.specs.declared.shape.FieldShape.{FieldShape}
use Rattle.pbx_content.specs.declared.shape.MessageShape.{MessageShape}
use Rattle.pbx_desc_records.specs.declared.field.FieldDescriptorProto.{FieldDescriptorProto}
use Rattle.pbx_desc_records.specs.declared.message.DescriptorProto.{DescriptorProto}
use Rattle.pbx_link_definitions.specs.Names.{is_named, dotted}
use Rattle.pbx_link_definitions.specs.Definitions.{Part, messages, message_name, extensions}
use Rattle.pbx_link_definitions.specs.Says.{is_proto3}
use Rattle.pbx_link_meaning.specs.Descriptors.{Described, described, all_messages, all_extensions, fields_of_message, referred}
use Rattle.pbx_link_rules.specs.Pool.{ArePooled}
use Rattle.pbx_link_rules.proofs.Counted.{count, count_map, message_once}
use Rattle.pbx_link_rules.proofs.Distinct.{pooled_are_distinct}
use Rattle.pbx_link_meaning.specs.Shapes.{field_shape, extension_shape, message_place}
use Rattle.pbx_link_shapes.specs.Items.{part_shape, with_field}
use Rattle.pbx_link_shapes.specs.Extending.{extending, shape_with, shapes_with, changed_at, field_added, AddExtensions}
use Rattle.pbx_link_meaning.proofs.DescribedLists.{File, parts_back}
use Rattle.pbx_link_shapes.proofs.Lists.{first_at, position_is}
use Rattle.pbx_link_shapes.proofs.FieldKinds.{extension_same}

-- ---- names

even : (a b : List ℕ) → bytes_eq a b ≡ bytes_eq b a
even a b = at (bytes_eq a b) (bytes_eq b a) refl refl
  where
    at : (s t : Bool) → bytes_eq a b ≡ s → bytes_eq b a ≡ t → s ≡ t
    at true true p q = refl
    at false false p q = refl
    at true false p q = absurd (let yes = (bytes_eq-Decides b a).1 (sym ((bytes_eq-Decides a b).0 p)) in cc)
    at false true p q = absurd (let yes = (bytes_eq-Decides a b).1 (sym ((bytes_eq-Decides b a).0 q)) in cc)

-- a name that is no linked reference is none with a dot
not_referred : (e : Option (List ℕ)) (n : List ℕ) → referred e ≡ None → is_named e (dotted n) ≡ false
not_referred None n h = refl
not_referred (Some []) n h = refl
not_referred (Some (b ∷ bs)) n h = at (b == 46) h
  where
    at : (t : Bool) → (if t then Some bs else None) ≡ None → t && bytes_eq bs n ≡ false
    at true e = absurd (cc)
    at false e = refl

-- a linked reference has the name with a dot
is_referred : (e : Option (List ℕ)) (n q : List ℕ) → referred e ≡ Some q → is_named e (dotted n) ≡ bytes_eq n q
is_referred None n q h = absurd (cc)
is_referred (Some []) n q h = absurd (cc)
is_referred (Some (b ∷ bs)) n q h = at (b == 46) h
  where
    at : (t : Bool) → (if t then Some bs else None) ≡ Some q → t && bytes_eq bs n ≡ bytes_eq n q
    at true e = let same : bs ≡ q = cc in ap (λ (m : List ℕ). bytes_eq m n) same ∙ even q n
    at false e = absurd (cc)

-- ---- the one item that is changed

module _ {D M : Type 0} (test : D → Bool) (g h : D → M) (change : M → M) where
  none_changed : (xs : List D) → ((x : D) → test x ≡ false → h x ≡ g x) → count test xs ≤ 0 → map g xs ≡ map h xs
  none_changed [] other few = refl
  none_changed (x ∷ xs) other few = by_test (test x) refl few (none_changed xs other)
    where
      by_test : (b : Bool) → test x ≡ b → (if b then 1 else 0) + count test xs ≤ 0 → (count test xs ≤ 0 → map g xs ≡ map h xs) → g x ∷ map g xs ≡ h x ∷ map h xs
      by_test true w le ih = absurd (omega (arith, le))
      by_test false w le ih = ap (λ (m : M). m ∷ map g xs) (sym (other x w)) ∙ ap (λ (ms : List M). h x ∷ ms) (ih (omega (arith, le)))

  abbrev changed : Option ℕ → List M → List M
  changed None ms = ms
  changed (Some n) ms = changed_at change n ms

  -- a change behind the first item
  behind : (o : Option ℕ) (m : M) (ms : List M) → changed (option_map (λ n. suc n) o) (m ∷ ms) ≡ m ∷ changed o ms
  unfolding changed_at
  behind None m ms = refl
  behind (Some n) m ms = refl

  one_changed : (xs : List D) → ((x : D) → test x ≡ true → h x ≡ change (g x)) → ((x : D) → test x ≡ false → h x ≡ g x) → count test xs ≤ 1
      → changed (first_at test xs) (map g xs) ≡ map h xs
  unfolding changed_at
  one_changed [] here other few = refl
  one_changed (x ∷ xs) here other few = by_test (test x) refl few (one_changed xs here other)
    where
      by_test : (b : Bool) → test x ≡ b → (if b then 1 else 0) + count test xs ≤ 1 → (count test xs ≤ 1 → changed (first_at test xs) (map g xs) ≡ map h xs)
          → changed (cond b (Some 0) (option_map (λ n. suc n) (first_at test xs))) (g x ∷ map g xs) ≡ h x ∷ map h xs
      by_test true w le ih =
          ap (λ (m : M). m ∷ map g xs) (sym (here x w)) ∙ ap (λ (ms : List M). h x ∷ ms) (none_changed xs other (omega (arith, le)))
      by_test false w le ih =
          behind (first_at test xs) (g x) (map g xs) ∙ ap (λ (m : M). m ∷ changed (first_at test xs) (map g xs)) (sym (other x w))
          ∙ ap (λ (ms : List M). h x ∷ ms) (ih (omega (arith, le)))

-- what was written at an index
pub written : {M : Type 0} (change : M → M) (ms : List M) (n : ℕ) (m new : M) → n < length ms → m ≡ get_or ms n m → new ≡ change m → set ms n new ≡ changed_at change n ms
unfolding changed_at
written change [] n m new lt is e = absurd (omega (arith, lt))
written {M} change (x ∷ ms) zero m new lt is e = ap (λ (y : M). y ∷ ms) (e ∙ ap change is)
written {M} change (x ∷ ms) (suc n) m new lt is e = ap (λ (ys : List M). x ∷ ys) (written change ms n m new (omega (arith, lt)) is e)

pub none_written : {M : Type 0} (change : M → M) (ms : List M) (n : ℕ) → length ms ≤ n → ms ≡ changed_at change n ms
unfolding changed_at
none_written change [] n le = refl
none_written change (x ∷ ms) zero le = absurd (omega (arith, le))
none_written {M} change (x ∷ ms) (suc n) le = ap (λ (ys : List M). x ∷ ys) (none_written change ms n (omega (arith, le)))

-- ---- one extension more

filter_push : {X : Type 0} (test : X → Bool) (xs : List X) (x : X) → filter test (xs ++ x ∷ []) ≡ filter test xs ++ cond (test x) (x ∷ []) []
filter_push test [] x = refl
filter_push {X} test (y ∷ ys) x = by_test (test y) (filter_push test ys x)
  where
    by_test : (b : Bool) → filter test (ys ++ x ∷ []) ≡ filter test ys ++ cond (test x) (x ∷ []) []
        → cond b (y ∷ filter test (ys ++ x ∷ [])) (filter test (ys ++ x ∷ [])) ≡ cond b (y ∷ filter test ys) (filter test ys) ++ cond (test x) (x ∷ []) []
    by_test true ih = ap (λ (zs : List X). y ∷ zs) ih
    by_test false ih = ih

module _ (xs : List (Described FieldDescriptorProto)) (x : Described FieldDescriptorProto) (d : Described DescriptorProto) where
  abbrev extends : Bool
  extends = is_named x.part.item.extendee (dotted (message_name d.part))

  abbrev own : List FieldShape
  own = map field_shape (fields_of_message d)

  abbrev with_fields : List FieldShape → MessageShape
  with_fields fs = record { full_name = message_name d.part; fields = fs; keeps_order = false; proto3 = is_proto3 d.file }

  pushed : (b : Bool) → extends ≡ b → extending d (xs ++ x ∷ []) ≡ extending d xs ++ cond b (x ∷ []) []
  pushed b w =
      filter_push (λ (y : Described FieldDescriptorProto). is_named y.part.item.extendee (dotted (message_name d.part))) xs x
      ∙ ap (λ (c : Bool). extending d xs ++ cond c (x ∷ []) []) w

  is_extended : extends ≡ true → shape_with (xs ++ x ∷ []) d ≡ with_field (extension_shape x) (shape_with xs d)
  unfolding shape_with
  is_extended w =
      ap (λ (ys : List (Described FieldDescriptorProto)). with_fields (own ++ map extension_shape ys)) (pushed true w)
      ∙ ap (λ (fs : List FieldShape). with_fields (own ++ fs)) (map-append extension_shape (extending d xs) (x ∷ []))
      ∙ ap with_fields (sym (append_assoc own (map extension_shape (extending d xs)) (extension_shape x ∷ [])))

  not_extended : extends ≡ false → shape_with (xs ++ x ∷ []) d ≡ shape_with xs d
  unfolding shape_with
  not_extended w =
      ap (λ (ys : List (Described FieldDescriptorProto)). with_fields (own ++ map extension_shape ys)) (pushed false w ∙ append-nil (extending d xs))

module _ (pool : List File) (pooled : ArePooled [] pool) (xs : List (Described FieldDescriptorProto)) (x : Described FieldDescriptorProto) where
  abbrev named : List ℕ → Described DescriptorProto → Bool
  named q d = bytes_eq (message_name d.part) q

  once : (q : List ℕ) → count (named q) (all_messages pool) ≤ 1
  once q =
      let test : Part DescriptorProto → Bool = λ p. bytes_eq (message_name p) q in
      let same : count (named q) (all_messages pool) ≡ count test (flat_map messages pool) =
      sym (count_map test (λ (d : Described DescriptorProto). d.part) (all_messages pool)) ∙ ap (count test) (parts_back pool messages pool) in
      let le = message_once pool (pooled_are_distinct pool pooled) q in
      omega (arith, same, le)

  abbrev place_of : Option (List ℕ) → Option ℕ
  place_of r = option_and_then (message_place pool) r

  unchanged : ((d : Described DescriptorProto) → extends xs x d ≡ false) → (ds : List (Described DescriptorProto)) → map (shape_with xs) ds ≡ map (shape_with (xs ++ x ∷ [])) ds
  unchanged other [] = refl
  unchanged other (d ∷ ds) =
      ap (λ (m : MessageShape). m ∷ map (shape_with xs) ds) (sym (not_extended xs x d (other d)))
      ∙ ap (λ (ms : List MessageShape). shape_with (xs ++ x ∷ []) d ∷ ms) (unchanged other ds)

  by_reference : (r : Option (List ℕ)) → referred x.part.item.extendee ≡ r
      → field_added (place_of r) (extension_shape x) (shapes_with pool xs) ≡ shapes_with pool (xs ++ x ∷ [])
  unfolding shapes_with
  by_reference None w = unchanged (λ d. not_referred x.part.item.extendee (message_name d.part) w) (all_messages pool)
  by_reference (Some q) w =
      let extended : (d : Described DescriptorProto) → extends xs x d ≡ named q d = λ d. is_referred x.part.item.extendee (message_name d.part) q w in
      added (position (named q) (all_messages pool)) (first_at (named q) (all_messages pool)) (position_is (named q) (all_messages pool))
      ∙ one_changed (named q) (shape_with xs) (shape_with (xs ++ x ∷ [])) (with_field (extension_shape x)) (all_messages pool)
      (λ d e. is_extended xs x d (extended d ∙ e)) (λ d e. not_extended xs x d (extended d ∙ e)) (once q)
    where
      ms : List MessageShape
      ms = map (shape_with xs) (all_messages pool)

      added : (o p : Option ℕ) → o ≡ p
          → field_added o (extension_shape x) (map (shape_with xs) (all_messages pool))
          ≡ changed (named q) (shape_with xs) (shape_with (xs ++ x ∷ [])) (with_field (extension_shape x)) p (map (shape_with xs) (all_messages pool))
      added None None e = refl
      added (Some n) (Some m) e = let same : n ≡ m = cc in ap (λ (k : ℕ). changed_at (with_field (extension_shape x)) k (map (shape_with xs) (all_messages pool))) same
      added None (Some m) e = absurd (cc)
      added (Some n) None e = absurd (cc)

-- ---- extensions one by one

pub none_added : (pool : List File) (ms : List MessageShape) → AddExtensions pool [] ms ms
unfolding AddExtensions
none_added pool ms pooled xs h = h ∙ ap (shapes_with pool) (sym (append-nil xs))

pub added_both : (pool : List File) (these those : List (Described FieldDescriptorProto)) (old mid new : List MessageShape) → AddExtensions pool these old mid → AddExtensions pool those mid new
    → AddExtensions pool (these ++ those) old new
unfolding AddExtensions
added_both pool these those old mid new h g pooled xs e = g pooled (xs ++ these) (h pooled xs e) ∙ ap (shapes_with pool) (append_assoc xs these those)

pub added_one : (pool : List File) (f : File) (p : Part FieldDescriptorProto) (old new : List MessageShape)
    → new ≡ field_added (option_and_then (message_place pool) (referred p.item.extendee)) (part_shape pool (is_proto3 f) p) old
    → AddExtensions pool (described pool f p ∷ []) old new
unfolding AddExtensions
added_one pool f p old new is pooled xs e =
    is
    ∙ ap (λ (y : FieldShape). field_added (option_and_then (message_place pool) (referred p.item.extendee)) y old) (sym (extension_same pool f p))
    ∙ ap (field_added (option_and_then (message_place pool) (referred p.item.extendee)) (extension_shape (described pool f p))) e
    ∙ by_reference pool pooled xs (described pool f p) (referred p.item.extendee) refl

-- ---- loops

pub extensions_more : (pool : List File) (f : File) (ps : List (Part FieldDescriptorProto)) (i : ℕ) (p : Part FieldDescriptorProto) (old mid new : List MessageShape)
    → i < length ps → Some p ≡ slice_get ps i
    → AddExtensions pool (map (described pool f) (take i ps)) old mid
    → new ≡ field_added (option_and_then (message_place pool) (referred p.item.extendee)) (part_shape pool (is_proto3 f) p) mid
    → AddExtensions pool (map (described pool f) (take (i + 1) ps)) old new
extensions_more pool f ps i p old mid new lt is so_far here =
    subst (λ (ds : List (Described FieldDescriptorProto)). AddExtensions pool ds old new)
    (sym (ap (map (described pool f)) (take_more ps i p lt ∙ ap (λ (x : Part FieldDescriptorProto). take i ps ++ x ∷ []) (get_or_from_slice_get ps i p p (sym is)))
    ∙ map-append (described pool f) (take i ps) (p ∷ [])))
    (added_both pool (map (described pool f) (take i ps)) (described pool f p ∷ []) old mid new so_far (added_one pool f p mid new here))

abbrev pub extensions_beside : List File → File → List (Described FieldDescriptorProto)
extensions_beside pool f = map (described pool f) (extensions f)

pub files_more : (pool files : List File) (i : ℕ) (f : File) (old mid new : List MessageShape) → i < length files → f ≡ get_or files i f
    → AddExtensions pool (flat_map (extensions_beside pool) (take i files)) old mid → AddExtensions pool (extensions_beside pool f) mid new
    → AddExtensions pool (flat_map (extensions_beside pool) (take (i + 1) files)) old new
files_more pool files i f old mid new lt is so_far here =
    subst (λ (ds : List (Described FieldDescriptorProto)). AddExtensions pool ds old new)
    (sym (ap (flat_map (extensions_beside pool)) (take_more files i f lt ∙ ap (λ (g : File). take i files ++ g ∷ []) (sym is))
    ∙ flat_map-append (extensions_beside pool) (take i files) (f ∷ [])
    ∙ ap (λ (ds : List (Described FieldDescriptorProto)). flat_map (extensions_beside pool) (take i files) ++ ds) (append-nil (extensions_beside pool f))))
    (added_both pool (flat_map (extensions_beside pool) (take i files)) (extensions_beside pool f) old mid new so_far here)

pub all_added : (pool : List File) (old new : List MessageShape) → AddExtensions pool (all_extensions pool) old new → ArePooled [] pool → old ≡ shapes_with pool []
    → new ≡ shapes_with pool (all_extensions pool)
unfolding AddExtensions
all_added pool old new h pooled e = h pooled [] e

-- ---- one field more

pub not_less : (m n : ℕ) → (m < n → false ≡ true) → n ≤ m
not_less m n h = ⊎_elim (λ (lt : m < n). absurd (let e = h lt in cc)) (λ (le : n ≤ m). le) (cases_lt m n)

pub on_ok : {A E : Type 0} {P Q : Type 0} (r : Result A E) → OnOk r P → (P → Q) → OnOk r Q
on_ok (Ok x) h f = f h
on_ok (Err e) h f = tt
