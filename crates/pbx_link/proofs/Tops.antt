-- The messages of a file that stand in no other.
use Rattle.std.proofs.Common.{◌≡◌, ◌∙◌, ℕ, ◌+◌, ◌-◌, ◌<◌, ◌≤◌, ◌==◌, cond, List, [], ◌∷◌, ◌++◌, map, length, Bool, true, false}
use Rattle.std.proofs.Common.{refl, ap, sym, subst, arith}
use Rattle.std.specs.Prelude.{filter, pos}
use Rattle.std.specs.List.{flat_map, enumerate_from}
use Rattle.std.proofs.Math.ListN.{drop_of_length-le}
use Rattle.std.proofs.lemmas.List.{drop_more, length-append}
use Rattle.std.proofs.lemmas.List.Elements.{filter-append}
use Rattle.std.proofs.lemmas.Bool.Decides.{nat_tests}
use Rattle.pbx_desc_records.specs.declared.file.FileDescriptorProto.{FileDescriptorProto}
use Rattle.pbx_desc_records.specs.declared.message.DescriptorProto.{DescriptorProto, out-DescriptorProto}
use Rattle.pbx_link_definitions.specs.Definitions.{Part, Place, part, parts, package_of, message_name, nested_in, messages_from, messages, top_messages}
use Rattle.pbx_link_definitions.proofs.Told.{Each, ind_part, messages_from_at}
use Rattle.pbx_link_meaning.specs.Descriptors.{FileDescribed, Described, described, in_file}
use Rattle.pbx_link.specs.Tables.{part_at, is_top, tops_from, no_message}

-- ---- those that stand in no other are the top messages

-- a message that stands further down than so many steps
abbrev IsDeep : ℕ → Part DescriptorProto → Type 0
IsDeep n p = n ≤ length p.place

each_front : {A : Type 0} (P : A → Type 0) (xs ys : List A) → Each P xs → Each P ys → Each P (xs ++ ys)
each_front P [] ys h k = k
each_front P (x ∷ xs) ys h k = (h.0, each_front P xs ys h.1 k)

each_flat : {A B : Type 0} (P : B → Type 0) (f : A → List B) (xs : List A) → Each (λ x. Each P (f x)) xs → Each P (flat_map f xs)
each_flat P f [] h = tt
each_flat P f (x ∷ xs) h = each_front P (f x) (flat_map f xs) h.0 (each_flat P f xs h.1)

each_so : {A : Type 0} (P Q : A → Type 0) → ((x : A) → P x → Q x) → (xs : List A) → Each P xs → Each Q xs
each_so P Q f [] h = tt
each_so P Q f (x ∷ xs) h = (f x h.0, each_so P Q f xs h.1)

length-step : (place : Place) (n i : ℕ) → length (place ++ pos n ∷ pos i ∷ []) ≡ length place + 2
length-step place n i = length-append place (pos n ∷ pos i ∷ [])

-- what is deeper for each part of a list that stands two steps below
two_below : (scope : List ℕ) (place : Place) (n k : ℕ) (ms : List DescriptorProto)
    → Each (λ c. Each (IsDeep (length c.place)) (messages_from c)) (map (λ e. part scope place n e.0 e.1) (enumerate_from k ms))
    → Each (λ c. Each (IsDeep (length place + 2)) (messages_from c)) (map (λ e. part scope place n e.0 e.1) (enumerate_from k ms))
two_below scope place n k [] h = tt
two_below scope place n k (m ∷ ms) h = (
  subst (λ (d : ℕ). Each (IsDeep d) (messages_from (part scope place n k m))) (length-step place n k) h.0,
  two_below scope place n (k + 1) ms h.1,
)

nested_deep : (p : Part DescriptorProto) → Each (λ c. Each (IsDeep (length c.place)) (messages_from c)) (nested_in p)
    → Each (IsDeep (length p.place + 2)) (flat_map messages_from (nested_in p))
nested_deep p inside =
    each_flat (IsDeep (length p.place + 2)) messages_from (nested_in p)
    (two_below (message_name p) p.place 3 0 (out-DescriptorProto p.item).nested_type inside)

-- a message and those nested in it stand as far down as it or further
deep_from : (p : Part DescriptorProto) → Each (IsDeep (length p.place)) (messages_from p)
deep_from =
    ind_part (λ p. Each (IsDeep (length p.place)) (messages_from p))
    (λ p inside.
    let own : length p.place ≤ length p.place = omega arith in
    let further = each_so (IsDeep (length p.place + 2)) (IsDeep (length p.place)) (λ q deep. omega (arith, deep)) (flat_map messages_from (nested_in p))
    (nested_deep p inside) in
    subst (Each (IsDeep (length p.place))) (sym (messages_from_at p)) (own, further))

all_deep : (ps : List (Part DescriptorProto)) → Each (λ c. Each (IsDeep (length c.place)) (messages_from c)) ps
all_deep [] = tt
all_deep (p ∷ ps) = (deep_from p, all_deep ps)

none_top : (ps : List (Part DescriptorProto)) → Each (IsDeep 3) ps → filter is_top ps ≡ []
none_top [] h = refl
none_top (p ∷ ps) h =
    let off : (length p.place == 2) ≡ false = grind (arith, nat_tests, h.0) in
    ap (λ (b : Bool). cond b (p ∷ filter is_top ps) (filter is_top ps)) off ∙ none_top ps h.1

-- of a message and those nested in it, the message alone, where it stands in no other
alone : (p : Part DescriptorProto) → length p.place ≡ 2 → filter is_top (messages_from p) ≡ p ∷ []
alone p two =
    let on : (length p.place == 2) ≡ true = grind (arith, nat_tests, two) in
    let nested = nested_deep p (all_deep (nested_in p)) in
    let deeper = each_so (IsDeep (length p.place + 2)) (IsDeep 3) (λ q deep. omega (arith, deep, two)) (flat_map messages_from (nested_in p)) nested in
    ap (filter is_top) (messages_from_at p)
    ∙ ap (λ (b : Bool). cond b (p ∷ filter is_top (flat_map messages_from (nested_in p))) (filter is_top (flat_map messages_from (nested_in p)))) on
    ∙ ap (λ (ps : List (Part DescriptorProto)). p ∷ ps) (none_top (flat_map messages_from (nested_in p)) deeper)

tops_of : (scope : List ℕ) (k : ℕ) (ms : List DescriptorProto)
    → filter is_top (flat_map messages_from (map (λ e. part scope [] 4 e.0 e.1) (enumerate_from k ms)))
    ≡ map (λ e. part scope [] 4 e.0 e.1) (enumerate_from k ms)
tops_of scope k [] = refl
tops_of scope k (m ∷ ms) =
    let rest = map (λ (e : ℕ × DescriptorProto). part scope [] 4 e.0 e.1) (enumerate_from (k + 1) ms) in
    filter-append is_top (messages_from (part scope [] 4 k m)) (flat_map messages_from rest)
    ∙ ap (λ (ps : List (Part DescriptorProto)). ps ++ filter is_top (flat_map messages_from rest)) (alone (part scope [] 4 k m) refl)
    ∙ ap (λ (ps : List (Part DescriptorProto)). part scope [] 4 k m ∷ ps) (tops_of scope (k + 1) ms)

pub tops_are : (f : FileDescriptorProto) → tops_from f 0 ≡ top_messages f
tops_are f = tops_of (package_of f) 0 f.message_type

-- ---- the first of them from an index on

pub opened : (f : FileDescriptorProto) (i : ℕ) (found b : Bool) → i < length (messages f) → found ≡ is_top (part_at no_message (messages f) i) → found ≡ b
    → tops_from f i ≡ cond b (part_at no_message (messages f) i ∷ tops_from f (i + 1)) (tops_from f (i + 1))
opened f i found b lt is was =
    ap (filter is_top) (drop_more (messages f) i (record { scope = []; place = []; index = 0; item = no_message }) lt)
    ∙ ap (λ (c : Bool). cond c (part_at no_message (messages f) i ∷ tops_from f (i + 1)) (tops_from f (i + 1))) (sym is ∙ was)

pub none_from : (f : FileDescriptorProto) (i : ℕ) → length (messages f) ≤ i → tops_from f i ≡ []
none_from f i le = ap (filter is_top) (drop_of_length-le (messages f) le)

-- the next of them as a descriptor
pub next_top : (d : FileDescribed) (i k : ℕ) (m : Described DescriptorProto) → m ≡ described d.pool d.file (part_at no_message (messages d.file) k)
    → tops_from d.file i ≡ part_at no_message (messages d.file) k ∷ tops_from d.file (k + 1)
    → in_file d (tops_from d.file i) ≡ m ∷ in_file d (tops_from d.file (k + 1))
next_top d i k m is there =
    ap (in_file d) there ∙ ap (λ (x : Described DescriptorProto). x ∷ in_file d (tops_from d.file (k + 1))) (sym is)
