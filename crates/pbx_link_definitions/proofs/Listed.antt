-- Messages that are listed one by one.
use Rattle.std.proofs.Common.{◌≡◌, ◌∙◌, ℕ, ◌+◌, ◌<◌, List, [], ◌∷◌, ◌++◌, length, take, get_or, map, refl, ap, sym, subst, arith}
use Rattle.std.specs.Prelude.{pos, Result, Ok, Err, OnOk}
use Rattle.std.specs.List.{flat_map, enumerate_from}
use Rattle.std.proofs.lemmas.List.{take_more, map-append, length-take-le, append_assoc}
use Rattle.std.proofs.lemmas.Grind.{flat_map-append}
use Rattle.pbx_desc_records.specs.declared.enumeration.EnumDescriptorProto.{EnumDescriptorProto}
use Rattle.pbx_desc_records.specs.declared.field.FieldDescriptorProto.{FieldDescriptorProto}
use Rattle.pbx_desc_records.specs.declared.message.DescriptorProto.{DescriptorProto, out-DescriptorProto}
use Rattle.pbx_link_definitions.specs.Names.{qualified}
use Rattle.pbx_link_definitions.specs.Says.{own_name}
use Rattle.pbx_link_definitions.specs.Definitions.{Place, Part, parts, message_name, nested_in, enums_in, extensions_in, messages_from, extensions_from}
use Rattle.pbx_link_definitions.proofs.Told.{messages_from_at, extensions_from_at}

-- the part of an item of a list
abbrev pub part_in : {X : Type 0} → List ℕ → Place → ℕ → ℕ → X → Part X
part_in scope place n k x = record { scope = scope; place = place ++ pos n ∷ pos k ∷ []; index = k; item = x }

enumerate_push : {X : Type 0} (k : ℕ) (xs : List X) (x : X) → enumerate_from k (xs ++ x ∷ []) ≡ enumerate_from k xs ++ (k + length xs, x) ∷ []
enumerate_push {X} k [] x =
    let same : k ≡ k + length {A = X} [] = omega arith in
    ap (λ (n : ℕ). (n, x) ∷ []) same
enumerate_push {X} k (y ∷ ys) x =
    let same : (k + 1) + length ys ≡ k + length (y ∷ ys) = omega arith in
    ap (λ (ps : List (ℕ × X)). (k, y) ∷ ps) (enumerate_push (k + 1) ys x) ∙ ap (λ (n : ℕ). (k, y) ∷ (enumerate_from (k + 1) ys ++ (n, x) ∷ [])) same

pub parts_more : {X : Type 0} (scope : List ℕ) (place : Place) (n : ℕ) (xs : List X) (i : ℕ) (x : X) → i < length xs → x ≡ get_or xs i x
    → parts scope place n (take (i + 1) xs) ≡ parts scope place n (take i xs) ++ part_in scope place n i x ∷ []
parts_more {X} scope place n xs i x lt is =
    let at : 0 + length (take i xs) ≡ i = omega (arith, length-take-le i xs (omega (arith, lt))) in
    ap (parts scope place n) (take_more xs i x lt ∙ ap (λ y. take i xs ++ y ∷ []) (sym is))
    ∙ ap (map (λ (t : ℕ × X). part_in scope place n t.0 t.1)) (enumerate_push 0 (take i xs) x ∙ ap (λ (k : ℕ). enumerate_from 0 (take i xs) ++ (k, x) ∷ []) at)
    ∙ map-append (λ (t : ℕ × X). part_in scope place n t.0 t.1) (enumerate_from 0 (take i xs)) ((i, x) ∷ [])

pub append_none : {D : Type 0} (ds : List D) → ds ++ [] ≡ ds
append_none [] = refl
append_none (d ∷ ds) = ap (λ es. d ∷ es) (append_none ds)

-- what is told of one item more
pub told_more : {X D : Type 0} (f : Part X → List D) (scope : List ℕ) (place there : Place) (n : ℕ) (ms : List X) (i : ℕ) (m : X) (before now after : List D) → i < length ms → m ≡ get_or ms i m
    → now ≡ before ++ flat_map f (parts scope place n (take i ms)) → there ≡ place ++ pos n ∷ pos i ∷ [] → after ≡ now ++ f (record { scope = scope; place = there; index = i; item = m })
    → after ≡ before ++ flat_map f (parts scope place n (take (i + 1) ms))
told_more {X} {D} f scope place there n ms i m before now after lt is so_far at here =
    let told : List D = flat_map f (parts scope place n (take i ms)) in
    let more : flat_map f (parts scope place n (take (i + 1) ms)) ≡ told ++ f (part_in scope place n i m) =
    ap (flat_map f) (parts_more scope place n ms i m lt is) ∙ flat_map-append f (parts scope place n (take i ms)) (part_in scope place n i m ∷ []) ∙ ap (λ (ds : List D). told ++ ds) (append_none (f (part_in scope place n i m))) in
    here ∙ ap (λ (pl : Place). now ++ f (record { scope = scope; place = pl; index = i; item = m })) at ∙ ap (λ (ds : List D). ds ++ f (part_in scope place n i m)) so_far
    ∙ append_assoc before told (f (part_in scope place n i m)) ∙ ap (λ (ds : List D). before ++ ds) (sym more)

-- one part more
pub part_added : {X : Type 0} (scope s : List ℕ) (place there : Place) (n : ℕ) (xs : List X) (i : ℕ) (x : X) (before now after : List (Part X)) → i < length xs → x ≡ get_or xs i x
    → now ≡ before ++ parts scope place n (take i xs) → there ≡ place ++ pos n ∷ pos i ∷ [] → s ≡ scope → after ≡ now ++ record { scope = s; place = there; index = i; item = x } ∷ []
    → after ≡ before ++ parts scope place n (take (i + 1) xs)
part_added {X} scope s place there n xs i x before now after lt is so_far at is_scope here =
    here ∙ ap (λ (t : List ℕ). now ++ record { scope = t; place = there; index = i; item = x } ∷ []) is_scope
    ∙ ap (λ (pl : Place). now ++ record { scope = scope; place = pl; index = i; item = x } ∷ []) at
    ∙ ap (λ (ps : List (Part X)). ps ++ part_in scope place n i x ∷ []) so_far
    ∙ append_assoc before (parts scope place n (take i xs)) (part_in scope place n i x ∷ [])
    ∙ ap (λ (ps : List (Part X)). before ++ ps) (sym (parts_more scope place n xs i x lt is))

-- a fact that holds, whatever the result
on_any : {U E : Type 0} {P : Type 0} (result : Result U E) → P → OnOk result P
on_any (Ok u) p = p
on_any (Err e) p = tt

-- a message is listed, and then those nested in it
pub message_listed : {U E : Type 0} (result : Result U E) (scope s : List ℕ) (place pl : Place) (index : ℕ) (m : DescriptorProto) (name full own : List ℕ) (before now after : List (Part DescriptorProto)) → s ≡ scope → pl ≡ place
    → now ≡ before ++ record { scope = s; place = pl; index = index; item = m } ∷ [] → name ≡ full → full ≡ qualified scope own → own ≡ own_name m
    → after ≡ now ++ flat_map messages_from (parts name place 3 (out-DescriptorProto m).nested_type)
    → OnOk result (after ≡ before ++ messages_from (record { scope = scope; place = place; index = index; item = m }))
message_listed result scope s place pl index m name full own before now after is_scope is_place listed is_name is_full is_own h =
    let p : Part DescriptorProto = record { scope = scope; place = place; index = index; item = m } in
    let e : now ++ flat_map messages_from (parts name place 3 (out-DescriptorProto m).nested_type) ≡ before ++ messages_from p =
    ap (λ (n : List ℕ). now ++ flat_map messages_from (parts n place 3 (out-DescriptorProto m).nested_type)) (is_name ∙ is_full ∙ ap (qualified scope) is_own)
    ∙ ap (λ (ps : List (Part DescriptorProto)). ps ++ flat_map messages_from (nested_in p)) listed
    ∙ ap (λ (t : List ℕ). (before ++ record { scope = t; place = pl; index = index; item = m } ∷ []) ++ flat_map messages_from (nested_in p)) is_scope
    ∙ ap (λ (t : Place). (before ++ record { scope = scope; place = t; index = index; item = m } ∷ []) ++ flat_map messages_from (nested_in p)) is_place
    ∙ append_assoc before (p ∷ []) (flat_map messages_from (nested_in p)) ∙ ap (λ (ps : List (Part DescriptorProto)). before ++ ps) (sym (messages_from_at p)) in
    on_any result (h ∙ e)

-- the extensions in the messages nested in a message are listed, and then those in its own body
pub extensions_listed : {U E : Type 0} (result : Result U E) (scope : List ℕ) (place : Place) (index : ℕ) (m : DescriptorProto) (name full own : List ℕ) (xs : List FieldDescriptorProto) (before now after : List (Part FieldDescriptorProto))
    → name ≡ full → full ≡ qualified scope own → own ≡ own_name m → xs ≡ (out-DescriptorProto m).extension
    → now ≡ before ++ flat_map extensions_from (parts name place 3 (out-DescriptorProto m).nested_type) → OnOk result (after ≡ now ++ parts name place 6 xs)
    → OnOk result (after ≡ before ++ extensions_from (record { scope = scope; place = place; index = index; item = m }))
extensions_listed result scope place index m name full own xs before now after is_name is_full is_own is_xs nested h =
    let p : Part DescriptorProto = record { scope = scope; place = place; index = index; item = m } in
    let e : now ++ parts name place 6 xs ≡ before ++ extensions_from p =
    ap (λ (ps : List (Part FieldDescriptorProto)). ps ++ parts name place 6 xs) nested
    ∙ ap (λ (n : List ℕ). (before ++ flat_map extensions_from (parts n place 3 (out-DescriptorProto m).nested_type)) ++ parts n place 6 xs) (is_name ∙ is_full ∙ ap (qualified scope) is_own)
    ∙ ap (λ (ys : List FieldDescriptorProto). (before ++ flat_map extensions_from (nested_in p)) ++ parts (message_name p) place 6 ys) is_xs
    ∙ append_assoc before (flat_map extensions_from (nested_in p)) (extensions_in p) ∙ ap (λ (ps : List (Part FieldDescriptorProto)). before ++ ps) (sym (extensions_from_at p)) in
    subst (λ (ps : List (Part FieldDescriptorProto)). OnOk result (after ≡ ps)) e h

-- the enums in one message more
pub enums_more : (ms : List (Part DescriptorProto)) (i : ℕ) (m : Part DescriptorProto) (before now after : List (Part EnumDescriptorProto)) → i < length ms → m ≡ get_or ms i m
    → now ≡ before ++ flat_map enums_in (take i ms) → after ≡ now ++ enums_in m → after ≡ before ++ flat_map enums_in (take (i + 1) ms)
enums_more ms i m before now after lt is so_far here =
    here ∙ ap (λ (es : List (Part EnumDescriptorProto)). es ++ enums_in m) so_far
    ∙ append_assoc before (flat_map enums_in (take i ms)) (enums_in m)
    ∙ ap (λ (es : List (Part EnumDescriptorProto)). before ++ es)
    (ap (λ (es : List (Part EnumDescriptorProto)). flat_map enums_in (take i ms) ++ es) (sym (append_none (enums_in m)))
    ∙ sym (flat_map-append enums_in (take i ms) (m ∷ [])) ∙ ap (flat_map enums_in) (sym (take_more ms i m lt ∙ ap (λ (y : Part DescriptorProto). take i ms ++ y ∷ []) (sym is))))
