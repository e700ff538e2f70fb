-- What is found by full names in the files of a pool.
use Rattle.std.proofs.Common.{◌≡◌, ◌∙◌, ℕ, suc, ◌+◌, ◌<◌, ◌≤◌, Bool, true, false, cond, ◌&&◌, ◌||◌, ℤ, List, [], ◌∷◌, map, refl, ap, sym, subst, arith}
use Rattle.std.specs.Prelude.{find, Option, Some, None, option_map, slice_get, nat_lt, if◌then◌else◌}
use Rattle.std.specs.List.{list_any, flat_map, enumerate_from}
use Rattle.std.specs.Option.{option_or}
use Rattle.std.specs.Str.{bytes_eq}
use Rattle.std.proofs.lemmas.Bool.Decides.{nat_tests}
use Rattle.std.proofs.lemmas.List.{map-append}
use Rattle.std.proofs.lemmas.List.Folds.{find-append}
use Rattle.pbx_desc_records.specs.declared.enumeration.EnumDescriptorProto.{EnumDescriptorProto}
use Rattle.pbx_desc_records.specs.declared.message.DescriptorProto.{DescriptorProto}
use Rattle.pbx_desc_records.specs.declared.file.FileDescriptorProto.{FileDescriptorProto}
use Rattle.pbx_link_definitions.specs.Definitions.{Part, messages, enums, message_name, enum_name}
use Rattle.pbx_link_scope.specs.Scope.{bound_name}
use Rattle.pbx_link_scope.specs.declared.types.Bound.TheVariants.{Message as to_message, Enum as to_enum}
use Rattle.pbx_link_definitions.specs.Names.{is_named, dotted}
use Rattle.pbx_link_definitions.specs.Says.{are_equal}
use Rattle.pbx_desc_records.specs.declared.field.FieldDescriptorProto.{FieldDescriptorProto}
use Rattle.pbx_link_scope.specs.declared.types.Bound.{Bound}
use Rattle.pbx_link_scope.specs.Pooled.{by_file, file_types, type_with_file, extends}
use Rattle.pbx_link_visible.proofs.Named.{find_numbered}
use Rattle.pbx_link_pool.specs.Places.{place_with_file, Message, Enum, of_message, of_enum, earlier}

abbrev File : Type 0
File = FileDescriptorProto

-- what is told of each file, beside its number
abbrev pub told_from : {X : Type 0} → (File → List X) → ℕ → List File → List (ℕ × X)
told_from tell k files = flat_map (λ f. map (λ x. (f.0, x)) (tell f.1)) (enumerate_from k files)

map_or : {A B : Type 0} (g : A → B) (o p : Option A) → option_map g (option_or o p) ≡ option_or (option_map g o) (option_map g p)
map_or g None p = refl
map_or g (Some a) p = refl

-- what is found among the images is the image of what is found
found_image : {X Y : Type 0} (h : X → Y) (test : Y → Bool) (xs : List X) → find test (map h xs) ≡ option_map h (find (λ x. test (h x)) xs)
found_image h test [] = refl
found_image {X} {Y} h test (x ∷ xs) = by_test (test (h x)) (found_image h test xs)
  where
    by_test : (b : Bool) → find test (map h xs) ≡ option_map h (find (λ y. test (h y)) xs) → cond b (Some (h x)) (find test (map h xs)) ≡ option_map h (cond b (Some x) (find (λ y. test (h y)) xs))
    by_test true ih = refl
    by_test false ih = ih

-- where what was found stands: the file at its number tells it
pub record FoundAt {X : Type 0} (test : ℕ × X → Bool) (tell : File → List X) (k : ℕ) (files : List File) (e : ℕ × X) : Type 0 where
  pub n : ℕ
  pub number : e.0 ≡ k + n
  pub file : File
  pub at : slice_get files n ≡ Some file
  pub found : find (λ x. test (e.0, x)) (tell file) ≡ Some e.1

found_first : {X : Type 0} (test : ℕ × X → Bool) (tell : File → List X) (k : ℕ) (f : File) (fs : List File) (x : X) (o : Option X) → find (λ y. test (k, y)) (tell f) ≡ o → o ≡ Some x
    → FoundAt test tell k (f ∷ fs) (k, x)
found_first test tell k f fs x o w e = record { n = 0; number = omega arith; file = f; at = refl; found = w ∙ e }

pub found_at : {X : Type 0} (test : ℕ × X → Bool) (tell : File → List X) (k : ℕ) (files : List File) (e : ℕ × X) → find test (told_from tell k files) ≡ Some e → FoundAt test tell k files e
found_at test tell k [] e h = absurd (cc)
found_at {X} test tell k (f ∷ fs) e h =
    by_own (find (λ y. test (k, y)) (tell f)) refl
    (ap (λ (o : Option (ℕ × X)). option_or o (find test (told_from tell (k + 1) fs))) (sym (found_image (λ y. (k, y)) test (tell f)))
    ∙ sym (find-append test (map (λ y. (k, y)) (tell f)) (told_from tell (k + 1) fs)) ∙ h) (found_at test tell (k + 1) fs e)
  where
    by_own : (o : Option X) → find (λ y. test (k, y)) (tell f) ≡ o → option_or (option_map (λ y. (k, y)) o) (find test (told_from tell (k + 1) fs)) ≡ Some e
        → (find test (told_from tell (k + 1) fs) ≡ Some e → FoundAt test tell (k + 1) fs e) → FoundAt test tell k (f ∷ fs) e
    by_own None w g ih = let r = ih g in record { n = suc r.n; number = omega (arith, r.number); file = r.file; at = r.at; found = r.found }
    by_own (Some x) w g ih =
        let same : (k, x) ≡ e = cc in
        subst (λ (d : ℕ × X). FoundAt test tell k (f ∷ fs) d) same (found_first test tell k f fs x (Some x) w refl)

-- ---- places

unnumbered : {X : Type 0} (n : ℕ) (test : X → Bool) (xs : List X) → find test xs ≡ option_map (λ (x : ℕ × X). x.1) (find (λ x. test x.1) (enumerate_from n xs))
unnumbered n test [] = refl
unnumbered {X} n test (x ∷ xs) = by_test (test x) (unnumbered (n + 1) test xs)
  where
    by_test : (b : Bool) → find test xs ≡ option_map (λ (y : ℕ × X). y.1) (find (λ y. test y.1) (enumerate_from (n + 1) xs))
        → cond b (Some x) (find test xs) ≡ option_map (λ (y : ℕ × X). y.1) (cond b (Some (n, x)) (find (λ y. test y.1) (enumerate_from (n + 1) xs)))
    by_test true ih = refl
    by_test false ih = ih

-- the index of the file, with the part and with its number
abbrev part_of : {X : Type 0} → ℕ × (ℕ × X) → ℕ × X
part_of x = (x.0, x.1.1)

abbrev place_of : {X : Type 0} → ℕ × (ℕ × X) → ℕ × ℕ
place_of x = (x.0, x.1.0)

abbrev beside : {X : Type 0} → ℕ → X → ℕ × X
beside k x = (k, x)

map_twice : {X : Type 0} (k : ℕ) (o : Option (ℕ × X)) → option_map (beside k) (option_map (λ (x : ℕ × X). x.1) o) ≡ option_map part_of (option_map (beside k) o)
map_twice k None = refl
map_twice k (Some x) = refl

-- what is found beside its file's number is what is found beside its own number too
without_place : {X : Type 0} (name : X → List ℕ) (q : List ℕ) (tell : File → List X) (k : ℕ) (files : List File)
    → find (λ m. bytes_eq (name m.1) q) (told_from tell k files)
    ≡ option_map part_of (find (λ m. bytes_eq (name m.1.1) q) (told_from (λ f. enumerate_from 0 (tell f)) k files))
without_place name q tell k [] = refl
without_place {X} name q tell k (f ∷ fs) =
    let t : ℕ × X → Bool = λ m. bytes_eq (name m.1) q in
    let u : ℕ × (ℕ × X) → Bool = λ m. bytes_eq (name m.1.1) q in
    let drop_place : ℕ × (ℕ × X) → ℕ × X = part_of in
    let rest : Option (ℕ × X) = find t (told_from tell (k + 1) fs) in
    let own : Option (ℕ × (ℕ × X)) = find u (map (λ x. (k, x)) (enumerate_from 0 (tell f))) in
    let here : find t (map (λ x. (k, x)) (tell f)) ≡ option_map drop_place own =
    found_image (λ x. (k, x)) t (tell f) ∙ ap (option_map (λ (x : X). (k, x))) (unnumbered 0 (λ x. bytes_eq (name x) q) (tell f))
    ∙ map_twice k (find (λ x. bytes_eq (name x.1) q) (enumerate_from 0 (tell f))) ∙ ap (option_map drop_place) (sym (found_image (λ x. (k, x)) u (enumerate_from 0 (tell f)))) in
    find-append t (map (λ x. (k, x)) (tell f)) (told_from tell (k + 1) fs) ∙ ap (λ (o : Option (ℕ × X)). option_or o rest) here
    ∙ ap (option_or (option_map drop_place own)) (without_place name q tell (k + 1) fs)
    ∙ sym (map_or drop_place own (find u (told_from (λ g. enumerate_from 0 (tell g)) (k + 1) fs)))
    ∙ ap (option_map drop_place) (sym (find-append u (map (λ x. (k, x)) (enumerate_from 0 (tell f))) (told_from (λ g. enumerate_from 0 (tell g)) (k + 1) fs)))

-- where the place stands: a file and a part in it, which is what is found
pub record StandsAt {X : Type 0} (tell : File → List X) (name : X → List ℕ) (files : List File) (q : List ℕ) (i j : ℕ) : Type 0 where
  pub file : File
  pub part : X
  pub at : slice_get files i ≡ Some file
  pub told : slice_get (tell file) j ≡ Some part
  pub found : find (λ m. bytes_eq (name m.1) q) (by_file tell files) ≡ Some (i, part)

pub no_place : {X : Type 0} (tell : File → List X) (name : X → List ℕ) (files : List File) (q : List ℕ) → place_with_file tell name files q ≡ None → None ≡ find (λ m. bytes_eq (name m.1) q) (by_file tell files)
no_place {X} tell name files q h = by_found (find (λ m. bytes_eq (name m.1.1) q) (told_from (λ f. enumerate_from 0 (tell f)) 0 files)) refl h (without_place name q tell 0 files)
  where
    by_found : (o : Option (ℕ × (ℕ × X))) → find (λ m. bytes_eq (name m.1.1) q) (told_from (λ f. enumerate_from 0 (tell f)) 0 files) ≡ o → option_map place_of o ≡ None
        → find (λ m. bytes_eq (name m.1) q) (by_file tell files) ≡ option_map part_of (find (λ m. bytes_eq (name m.1.1) q) (told_from (λ f. enumerate_from 0 (tell f)) 0 files))
        → None ≡ find (λ m. bytes_eq (name m.1) q) (by_file tell files)
    by_found None w g e = sym (e ∙ ap (option_map part_of) w)
    by_found (Some d) w g e = absurd (cc)

pub stands_at : {X : Type 0} (tell : File → List X) (name : X → List ℕ) (files : List File) (q : List ℕ) (i j : ℕ) → place_with_file tell name files q ≡ Some (i, j) → StandsAt tell name files q i j
stands_at {X} tell name files q i j h = by_found (find (λ m. bytes_eq (name m.1.1) q) (told_from (λ f. enumerate_from 0 (tell f)) 0 files)) refl h (without_place name q tell 0 files)
  where
    there : (d : ℕ × (ℕ × X)) → i ≡ d.0 → j ≡ d.1.0 → find (λ m. bytes_eq (name m.1.1) q) (told_from (λ f. enumerate_from 0 (tell f)) 0 files) ≡ Some d
        → find (λ m. bytes_eq (name m.1) q) (by_file tell files) ≡ Some (d.0, d.1.1) → StandsAt tell name files q i j
    there d s t w e =
        let r = found_at (λ (m : ℕ × (ℕ × X)). bytes_eq (name m.1.1) q) (λ f. enumerate_from 0 (tell f)) 0 files d w in
        let p = find_numbered (λ (m : ℕ × X). bytes_eq (name m.1) q) 0 (tell r.file) d.1 r.found in
        let file_is : r.n ≡ i = omega (arith, r.number, s) in
        let part_is : p.0 ≡ j = omega (arith, p.1, t) in
        record {
          file = r.file;
          part = d.1.1;
          at = subst (λ (n : ℕ). slice_get files n ≡ Some r.file) file_is r.at;
          told = subst (λ (n : ℕ). slice_get (tell r.file) n ≡ Some d.1.1) part_is p.2;
          found = subst (λ (n : ℕ). find (λ m. bytes_eq (name m.1) q) (by_file tell files) ≡ Some (n, d.1.1)) (sym s) e;
        }

    by_found : (o : Option (ℕ × (ℕ × X))) → find (λ m. bytes_eq (name m.1.1) q) (told_from (λ f. enumerate_from 0 (tell f)) 0 files) ≡ o → option_map place_of o ≡ Some (i, j)
        → find (λ m. bytes_eq (name m.1) q) (by_file tell files) ≡ option_map part_of (find (λ m. bytes_eq (name m.1.1) q) (told_from (λ f. enumerate_from 0 (tell f)) 0 files))
        → StandsAt tell name files q i j
    by_found None w g e = absurd (cc)
    by_found (Some d) w g e =
        let both : place_of d ≡ (i, j) = cc in
        let s : i ≡ d.0 = sym (ap (λ (x : ℕ × ℕ). x.0) both) in
        let t : j ≡ d.1.0 = sym (ap (λ (x : ℕ × ℕ). x.1) both) in
        there d s t w (e ∙ ap (option_map part_of) w)

-- the part that a table has at the place is what is found
pub found_there : {X : Type 0} (tell : File → List X) (name : X → List ℕ) (files : List File) (q : List ℕ) (i j : ℕ) (g : File) (x : X) → place_with_file tell name files q ≡ Some (i, j)
    → Some g ≡ slice_get files i → Some x ≡ slice_get (tell g) j → find (λ m. bytes_eq (name m.1) q) (by_file tell files) ≡ Some (i, x)
found_there {X} tell name files q i j g x h file part =
    let r = stands_at tell name files q i j h in
    let at : slice_get files i ≡ Some r.file = r.at in
    let same : g ≡ r.file = cc in
    let told : slice_get (tell g) j ≡ Some r.part = subst (λ (k : File). slice_get (tell k) j ≡ Some r.part) (sym same) r.told in
    let is : x ≡ r.part = cc in
    r.found ∙ ap (λ (y : X). Some (i, y)) (sym is)

-- there is a file, and a part
pub file_there : {X : Type 0} {P : Type 0} (tell : File → List X) (name : X → List ℕ) (files : List File) (q : List ℕ) (i j : ℕ) → place_with_file tell name files q ≡ Some (i, j) → None ≡ slice_get files i → P
file_there tell name files q i j h none =
    let r = stands_at tell name files q i j h in
    let at : slice_get files i ≡ Some r.file = r.at in
    absurd (cc)

pub part_there : {X : Type 0} {P : Type 0} (tell : File → List X) (name : X → List ℕ) (files : List File) (q : List ℕ) (i j : ℕ) (g : File) → place_with_file tell name files q ≡ Some (i, j)
    → Some g ≡ slice_get files i → None ≡ slice_get (tell g) j → P
part_there tell name files q i j g h file none =
    let r = stands_at tell name files q i j h in
    let at : slice_get files i ≡ Some r.file = r.at in
    let same : g ≡ r.file = cc in
    let told : slice_get (tell g) j ≡ Some r.part = subst (λ (k : File). slice_get (tell k) j ≡ Some r.part) (sym same) r.told in
    absurd (cc)

-- ---- messages and enums

not_before : (e m : ℕ) → m ≤ e → nat_lt e m ≡ false
not_before e m h = grind (arith, nat_tests)

is_before : (e m : ℕ) → e < m → nat_lt e m ≡ true
is_before e m h = grind (arith, nat_tests)

message_first : (m : Message) (e : Option Enum) → ((d : Enum) → e ≡ Some d → m.0 ≤ d.0) → Some (of_message m) ≡ earlier (Some m) e
message_first m None h = refl
message_first m (Some d) h = sym (ap (λ (b : Bool). if b then Some (of_enum d) else Some (of_message m)) (not_before d.0 m.0 (h d refl)))

enum_first : (e : Enum) (m : Option Message) → ((d : Message) → m ≡ Some d → e.0 < d.0) → Some (of_enum e) ≡ earlier m (Some e)
enum_first e None h = refl
enum_first e (Some d) h = sym (ap (λ (b : Bool). if b then Some (of_enum e) else Some (of_message d)) (is_before e.0 d.0 (h d refl)))

-- of one file's own and those of the files behind it
first_of : (k : ℕ) (a : Option (Part DescriptorProto)) (b : Option (Part EnumDescriptorProto)) (ms : Option Message) (es : Option Enum)
    → ((d : Message) → ms ≡ Some d → k < d.0) → ((d : Enum) → es ≡ Some d → k < d.0)
    → option_or (option_or (option_map (λ x. (k, x)) (option_map to_message a)) (option_map (λ x. (k, x)) (option_map to_enum b))) (earlier ms es)
    ≡ earlier (option_or (option_map (λ x. (k, x)) a) ms) (option_or (option_map (λ x. (k, x)) b) es)
first_of k (Some x) (Some y) ms es hm he = message_first (k, x) (Some (k, y)) (λ d e. let s : k ≡ d.0 = cc in omega (arith, s))
first_of k (Some x) None ms es hm he = message_first (k, x) es (λ d e. let s : k < d.0 = he d e in omega (arith, s))
first_of k None (Some y) ms es hm he = enum_first (k, y) ms hm
first_of k None None ms es hm he = refl

types_from : (q : List ℕ) (k : ℕ) (files : List File)
    → find (λ b. bytes_eq (bound_name b.1) q) (told_from file_types k files)
    ≡ earlier (find (λ m. bytes_eq (message_name m.1) q) (told_from messages k files)) (find (λ e. bytes_eq (enum_name e.1) q) (told_from enums k files))
types_from q k [] = refl
types_from q k (f ∷ fs) =
    let t : ℕ × Bound → Bool = λ b. bytes_eq (bound_name b.1) q in
    let tm : Message → Bool = λ m. bytes_eq (message_name m.1) q in
    let te : Enum → Bool = λ e. bytes_eq (enum_name e.1) q in
    let a : Option (Part DescriptorProto) = find (λ m. bytes_eq (message_name m) q) (messages f) in
    let b : Option (Part EnumDescriptorProto) = find (λ e. bytes_eq (enum_name e) q) (enums f) in
    let at : Bound → ℕ × Bound = λ x. (k, x) in
    let ms : List (ℕ × Bound) = map at (map to_message (messages f)) in
    let es : List (ℕ × Bound) = map at (map to_enum (enums f)) in
    let rest : Option (ℕ × Bound) = find t (told_from file_types (k + 1) fs) in
    let rest_ms : Option Message = find tm (told_from messages (k + 1) fs) in
    let rest_es : Option Enum = find te (told_from enums (k + 1) fs) in
    let first_m : find t ms ≡ option_map at (option_map to_message a) =
    found_image at t (map to_message (messages f)) ∙ ap (option_map at) (found_image to_message (λ x. t (at x)) (messages f)) in
    let first_e : find t es ≡ option_map at (option_map to_enum b) = found_image at t (map to_enum (enums f)) ∙ ap (option_map at) (found_image to_enum (λ x. t (at x)) (enums f)) in
    let own : find t (map at (file_types f)) ≡ option_or (option_map at (option_map to_message a)) (option_map at (option_map to_enum b)) =
    ap (find t) (map-append at (map to_message (messages f)) (map to_enum (enums f))) ∙ find-append t ms es ∙ ap (λ (o : Option (ℕ × Bound)). option_or o (find t es)) first_m
    ∙ ap (option_or (option_map at (option_map to_message a))) first_e in
    let messages_of : find tm (told_from messages k (f ∷ fs)) ≡ option_or (option_map (λ x. (k, x)) a) rest_ms =
    find-append tm (map (λ x. (k, x)) (messages f)) (told_from messages (k + 1) fs) ∙ ap (λ (o : Option Message). option_or o rest_ms) (found_image (λ x. (k, x)) tm (messages f)) in
    let enums_of : find te (told_from enums k (f ∷ fs)) ≡ option_or (option_map (λ x. (k, x)) b) rest_es =
    find-append te (map (λ x. (k, x)) (enums f)) (told_from enums (k + 1) fs) ∙ ap (λ (o : Option Enum). option_or o rest_es) (found_image (λ x. (k, x)) te (enums f)) in
    find-append t (map at (file_types f)) (told_from file_types (k + 1) fs) ∙ ap (λ (o : Option (ℕ × Bound)). option_or o rest) own
    ∙ ap (option_or (option_or (option_map at (option_map to_message a)) (option_map at (option_map to_enum b)))) (types_from q (k + 1) fs)
    ∙ first_of k a b rest_ms rest_es (λ d e. behind tm messages d e) (λ d e. behind te enums d e)
    ∙ sym (ap (λ (o : Option Message). earlier o (find te (told_from enums k (f ∷ fs)))) messages_of ∙ ap (earlier (option_or (option_map (λ x. (k, x)) a) rest_ms)) enums_of)
  where
    behind : {X : Type 0} (test : ℕ × X → Bool) (tell : File → List X) (d : ℕ × X) → find test (told_from tell (k + 1) fs) ≡ Some d → k < d.0
    behind test tell d e = let r = found_at test tell (k + 1) fs d e in omega (arith, r.number)

-- the first message or enum of a name is the first of either, and of two in one file the message
pub types_found : (q : List ℕ) (files : List File)
    → type_with_file files q ≡ earlier (find (λ m. bytes_eq (message_name m.1) q) (by_file messages files)) (find (λ e. bytes_eq (enum_name e.1) q) (by_file enums files))
types_found q files = types_from q 0 files

-- ---- extensions

equal_none : (o : Option ℤ) → are_equal o None ≡ false
equal_none None = refl
equal_none (Some z) = refl

and_false : (b : Bool) → (b && false) ≡ false
and_false true = refl
and_false false = refl

-- without a number nothing is extended
pub none_extended : (q : List ℕ) (number : Option ℤ) (xs : List (Part FieldDescriptorProto)) → number ≡ None → false ≡ list_any (λ (p : Part FieldDescriptorProto). extends q number p.item) xs
none_extended q number xs is = sym (ap (λ (n : Option ℤ). list_any (λ (p : Part FieldDescriptorProto). extends q n p.item) xs) is ∙ none_of xs)
  where
    none_of : (ys : List (Part FieldDescriptorProto)) → list_any (λ (p : Part FieldDescriptorProto). extends q None p.item) ys ≡ false
    none_of [] = refl
    none_of (y ∷ ys) =
        ap (λ (b : Bool). (is_named y.item.extendee (dotted q) && b) || list_any (λ (p : Part FieldDescriptorProto). extends q None p.item) ys) (equal_none y.item.number)
        ∙ ap (λ (b : Bool). b || list_any (λ (p : Part FieldDescriptorProto). extends q None p.item) ys) (and_false (is_named y.item.extendee (dotted q))) ∙ none_of ys
