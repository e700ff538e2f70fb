-- The message that an extension extends, and extensions by their names in JSON.
use Rattle.std.proofs.Common.{◌≡◌, ◌≢◌, ◌∙◌, ℕ, zero, suc, cond, List, [], ◌∷◌, ◌++◌, map, Bool, true, false, Option, Some, None, find, refl, ap}
use Rattle.std.proofs.Common.{sym, subst, arith, Bor}
use Rattle.std.specs.Prelude.{Contains, filter, option_and_then, ◌==◌, if◌then◌else◌, MatchOption}
use Rattle.std.specs.List.{flat_map}
use Rattle.std.specs.Str.{bytes_eq}
use Rattle.std.proofs.lemmas.Bool.Decides.{nat_tests}
use Rattle.std.proofs.lemmas.List.{append_cancel_right}
use Rattle.std.proofs.lemmas.List.Elements.{Contains-append_right}
use Rattle.std.proofs.lemmas.Slice.Eq.{bytes_eq-Decides}
use Rattle.pbx_desc_records.specs.declared.field.FieldDescriptorProto.{FieldDescriptorProto}
use Rattle.pbx_desc_records.specs.declared.file.FileDescriptorProto.{FileDescriptorProto}
use Rattle.pbx_desc_records.specs.declared.message.DescriptorProto.{DescriptorProto}
use Rattle.pbx_link_definitions.specs.Names.{is_named, dotted}
use Rattle.pbx_link_definitions.specs.Definitions.{Part, messages, message_name, field_name}
use Rattle.pbx_link_meaning.specs.Descriptors.{Described, described, behind_dot, referred, message_of_name, message_referred, all_messages}
use Rattle.pbx_link_meaning.specs.Descriptors.{all_extensions, extensions_of_message, extension_with_json_name}
use Rattle.pbx_link.proofs.Sole.{find_same, find_none}

-- ---- names behind a dot

pub dot_before : (bs name : List ℕ) → behind_dot bs ≡ Some name → bs ≡ 46 ∷ name
dot_before [] name e = absurd (cc)
dot_before (b ∷ bs) name e = at (b == 46) refl e
  where
    at : (t : Bool) → (b == 46) ≡ t → (if t then Some bs else None) ≡ Some name → b ∷ bs ≡ 46 ∷ name
    at true w h =
        let first : b ≡ 46 = grind (arith, nat_tests, w) in
        let rest : bs ≡ name = cc in
        ap (λ (d : ℕ). d ∷ bs) first ∙ ap (λ (ds : List ℕ). 46 ∷ ds) rest
    at false w h = absurd (cc)

-- two tests that hold of the same
both : (a b : Bool) → (a ≡ true → b ≡ true) → (b ≡ true → a ≡ true) → a ≡ b
both true true f g = refl
both false false f g = refl
both true false f g = sym (f refl)
both false true f g = g refl

pub dotted_is : (bs name : List ℕ) (o : Option (List ℕ)) → o ≡ behind_dot bs → (r : List ℕ) → o ≡ Some r → bytes_eq bs (dotted name) ≡ bytes_eq r name
dotted_is bs name o is r some =
    let same : bs ≡ 46 ∷ r = dot_before bs r (sym is ∙ some) in
    both (bytes_eq bs (dotted name)) (bytes_eq r name)
    (λ e. let all : 46 ∷ r ≡ 46 ∷ name = sym same ∙ (bytes_eq-Decides bs (dotted name)).0 e in (bytes_eq-Decides r name).1 (cc))
    (λ e. (bytes_eq-Decides bs (dotted name)).1 (same ∙ ap (λ (ds : List ℕ). 46 ∷ ds) ((bytes_eq-Decides r name).0 e)))

pub undotted_is : (bs name : List ℕ) (o : Option (List ℕ)) → o ≡ behind_dot bs → o ≡ None → bytes_eq bs (dotted name) ≡ false
undotted_is bs name o is none = at (bytes_eq bs (dotted name)) refl
  where
    at : (b : Bool) → bytes_eq bs (dotted name) ≡ b → b ≡ false
    at false e = refl
    at true e =
        let there : behind_dot bs ≡ Some name = ap behind_dot ((bytes_eq-Decides bs (dotted name)).0 e) in
        absurd (cc)

-- ---- what a search finds

pub find_is_in : {X : Type 0} (p : X → Bool) (xs : List X) (x : X) → find p xs ≡ Some x → Contains xs x × (p x ≡ true)
find_is_in p [] x e = absurd (cc)
find_is_in {X} p (y ∷ ys) x e = at (p y) refl e (find_is_in p ys x)
  where
    at : (b : Bool) → p y ≡ b → cond b (Some y) (find p ys) ≡ Some x → (find p ys ≡ Some x → Contains ys x × (p x ≡ true)) → Contains (y ∷ ys) x × (p x ≡ true)
    at true w h ih = let same : y ≡ x = cc in ((0, omega arith, same), ap p (sym same) ∙ w)
    at false w h ih = let r = ih h in (Contains-append_right (y ∷ []) ys x r.0, r.1)

pub filter_has : {X : Type 0} (p : X → Bool) (xs : List X) (x : X) → Contains xs x → p x ≡ true → Contains (filter p xs) x
filter_has p [] x h e = absurd (omega (arith, h.1))
filter_has {X} p (y ∷ ys) x (zero, lt, is) e =
    subst (λ (b : Bool). Contains (cond b (y ∷ filter p ys) (filter p ys)) x) (sym (ap p is ∙ e)) (0, omega arith, is)
filter_has {X} p (y ∷ ys) x (suc k, lt, is) e = at (p y) (filter_has p ys x (k, omega (arith, lt), is) e)
  where
    at : (b : Bool) → Contains (filter p ys) x → Contains (cond b (y ∷ filter p ys) (filter p ys)) x
    at true r = Contains-append_right (y ∷ []) (filter p ys) x r
    at false r = r

-- all that is told of a pool is beside it
abbrev told : List FileDescriptorProto → List FileDescriptorProto → List (Described DescriptorProto)
told pool files = flat_map (λ f. map (described pool f) (messages f)) files

told_beside : (pool files : List FileDescriptorProto) (d : Described DescriptorProto)
    → Contains (told pool files) d → d.pool ≡ pool
told_beside pool [] d h = absurd (omega (arith, h.1))
told_beside pool (f ∷ fs) d h = in_file (messages f) h (λ k. told_beside pool fs d k)
  where
    in_file : (ps : List (Part DescriptorProto)) → Contains (map (described pool f) ps ++ told pool fs) d → (Contains (told pool fs) d → d.pool ≡ pool)
        → d.pool ≡ pool
    in_file [] k ih = ih k
    in_file (p ∷ ps) (zero, lt, is) ih = ap (λ (y : Described DescriptorProto). y.pool) (sym is)
    in_file (p ∷ ps) (suc i, lt, is) ih = in_file ps (i, omega (arith, lt), is) ih

-- ---- the message that an extension extends

referred_named : (extendee : Option (List ℕ)) (name : List ℕ) → referred extendee ≡ Some name → extendee ≡ Some (dotted name)
referred_named None name e = absurd (cc)
referred_named (Some bs) name e = ap (λ (ds : List ℕ). Some ds) (dot_before bs name e)

pub extended_has : (pool : List FileDescriptorProto) (x : Described FieldDescriptorProto) (r : Described DescriptorProto) → Contains (all_extensions pool) x
    → message_referred pool x.part.item.extendee ≡ Some r → Contains (extensions_of_message r) x
extended_has pool x r there found = at (referred x.part.item.extendee) refl found
  where
    at : (n : Option (List ℕ)) → referred x.part.item.extendee ≡ n → option_and_then (message_of_name pool) n ≡ Some r → Contains (extensions_of_message r) x
    at None e h = absurd (cc)
    at (Some name) e h =
        let k = find_is_in (λ (d : Described DescriptorProto). bytes_eq (message_name d.part) name) (all_messages pool) r h in
        let same : message_name r.part ≡ name = (bytes_eq-Decides (message_name r.part) name).0 k.1 in
        let beside : r.pool ≡ pool = told_beside pool pool r k.0 in
        let is : is_named x.part.item.extendee (dotted (message_name r.part)) ≡ true =
        ap (λ (o : Option (List ℕ)). is_named o (dotted (message_name r.part))) (referred_named x.part.item.extendee name e)
        ∙ ap (λ (n : List ℕ). bytes_eq (dotted name) (dotted n)) same ∙ (bytes_eq-Decides (dotted name) (dotted name)).1 refl in
        filter_has (λ (y : Described FieldDescriptorProto). is_named y.part.item.extendee (dotted (message_name r.part))) (all_extensions r.pool) x
        (subst (λ (p : List FileDescriptorProto). Contains (all_extensions p) x) (sym beside) there) is

-- ---- names in brackets

abbrev pub InBrackets : List ℕ → Option (Bor (List ℕ)) → Type 0
InBrackets name r = MatchOption r ((q : List ℕ) → name ≢ 91 ∷ q ++ 93 ∷ []) (λ q. name ≡ 91 ∷ q.now ++ 93 ∷ [])

bracketed : (a q : List ℕ) → bytes_eq (91 ∷ a ++ 93 ∷ []) (91 ∷ q ++ 93 ∷ []) ≡ bytes_eq a q
bracketed a q =
    both (bytes_eq (91 ∷ a ++ 93 ∷ []) (91 ∷ q ++ 93 ∷ [])) (bytes_eq a q)
    (λ e.
    let all : 91 ∷ a ++ 93 ∷ [] ≡ 91 ∷ q ++ 93 ∷ [] = (bytes_eq-Decides (91 ∷ a ++ 93 ∷ []) (91 ∷ q ++ 93 ∷ [])).0 e in
    let inner : a ++ 93 ∷ [] ≡ q ++ 93 ∷ [] = cc in
    (bytes_eq-Decides a q).1 (append_cancel_right a q (93 ∷ []) inner))
    (λ e. (bytes_eq-Decides (91 ∷ a ++ 93 ∷ []) (91 ∷ q ++ 93 ∷ [])).1 (ap (λ (n : List ℕ). 91 ∷ n ++ 93 ∷ []) ((bytes_eq-Decides a q).0 e)))

pub bracketed_named : (xs : List (Described FieldDescriptorProto)) (name q : List ℕ) → name ≡ 91 ∷ q ++ 93 ∷ []
    → find (λ (x : Described FieldDescriptorProto). bytes_eq (field_name x.part) q) xs ≡ extension_with_json_name xs name
bracketed_named xs name q is =
    find_same (λ (x : Described FieldDescriptorProto). bytes_eq (field_name x.part) q) (λ x. bytes_eq (91 ∷ field_name x.part ++ 93 ∷ []) name)
    (λ x. sym (ap (bytes_eq (91 ∷ field_name x.part ++ 93 ∷ [])) is ∙ bracketed (field_name x.part) q)) xs

pub none_bracketed : (xs : List (Described FieldDescriptorProto)) (name : List ℕ) → ((q : List ℕ) → name ≢ 91 ∷ q ++ 93 ∷ [])
    → None ≡ extension_with_json_name xs name
none_bracketed xs name unlike =
    sym
    (find_none (λ (x : Described FieldDescriptorProto). bytes_eq (91 ∷ field_name x.part ++ 93 ∷ []) name)
    (λ x. at x (bytes_eq (91 ∷ field_name x.part ++ 93 ∷ []) name) refl) xs)
  where
    at : (x : Described FieldDescriptorProto) (b : Bool) → bytes_eq (91 ∷ field_name x.part ++ 93 ∷ []) name ≡ b → b ≡ false
    at x false e = refl
    at x true e = absurd (unlike (field_name x.part) (sym ((bytes_eq-Decides (91 ∷ field_name x.part ++ 93 ∷ []) name).0 e)))

-- what stands behind an opening bracket and before a closing one
pub closed_is : (name rest : List ℕ) (r : Option (Bor (List ℕ))) → name ≡ 91 ∷ rest
    → MatchOption r ((front : List ℕ) → rest ≢ front ++ 93 ∷ []) (λ x. rest ≡ x.now ++ 93 ∷ []) → InBrackets name r
closed_is name rest (Some x) is e = is ∙ ap (λ (ds : List ℕ). 91 ∷ ds) e
closed_is name rest None is h = λ q e. let inner : rest ≡ q ++ 93 ∷ [] = (let all : 91 ∷ rest ≡ 91 ∷ q ++ 93 ∷ [] = sym is ∙ e in cc) in h q inner

-- nothing stands behind an opening bracket
pub unopened : (name : List ℕ) → ((rest : List ℕ) → name ≢ 91 ∷ rest) → (q : List ℕ) → name ≢ 91 ∷ q ++ 93 ∷ []
unopened name h q e = h (q ++ 93 ∷ []) e
