-- What is written of paths reads as the paths, and a mask text, read and written, is its pieces.
use Rattle.std.proofs.Common.{◌≡◌, ◌∙◌, ℕ, ◌+◌, ◌-◌, ◌==◌, ◌||◌, List, [], ◌∷◌, ◌++◌, filter, length, Bool, true, false, cond, Option, Some, None, option_map, option_and_then, refl, ap, arith, inl, inr}
use Rattle.std.specs.List.{flat_map, join_with_byte, list_all, list_any, onto_first, slice_split}
use Rattle.std.proofs.lemmas.Bool.{cases_Bool, eqb-true}
use Rattle.std.proofs.lemmas.Bool.Decides.{nat_tests}
use Rattle.pbx_text.specs.Mask.{camel_after, camel_of, each_of, filled_pieces, is_filled, is_lower, is_upper, mask_of, mask_text, snake_char, snake_of}

abbrev has_line : List ℕ → Bool
has_line p = list_any (λ c. c == 95) p

abbrev has_comma : List ℕ → Bool
has_comma p = list_any (λ c. c == 44) p

-- a part in snake_case is, in lowerCamelCase, the part again
snake_again : (p : List ℕ) → has_line p ≡ false → has_comma p ≡ false → camel_after false (flat_map snake_char p) ≡ Some p
snake_again [] line comma = refl
snake_again (c ∷ cs) line comma = elim (cases_Bool (c == 95)) [
  | inl h ↦ cc (rw h at line)
  | inr no_line ↦ elim (cases_Bool (c == 44)) [
    | inl h ↦ cc (rw h at comma)
    | inr no_comma ↦
        let more = snake_again cs (rw no_line at line) (rw no_comma at comma) in
        elim (cases_Bool (is_upper c)) [
          | inl h ↦
              let low : is_lower (c + 32) ≡ true = grind (arith, nat_tests, h) in
              let back : c + 32 - 32 ≡ c = omega arith in
              rw (h, low, back, more) refl
          | inr h ↦ rw (h, no_line, no_comma, h, more) refl
        ]
  ]
]

-- a part in snake_case that has a form in lowerCamelCase
abbrev IsSnakeOf : List ℕ → List ℕ → Type 0
IsSnakeOf p q = (flat_map snake_char p ≡ q) × (has_line p ≡ false) × (has_comma p ≡ false)

put_some : (c : ℕ) (o : Option (List ℕ)) (p : List ℕ) → option_map (λ ds. c ∷ ds) o ≡ Some p → (ds : List ℕ) × (o ≡ Some ds) × (p ≡ c ∷ ds)
put_some c None p h = cc h
put_some c (Some ds) p h = (ds, refl, cc h)

put_front : (xs : List ℕ) (c : ℕ) (ds p q : List ℕ) → p ≡ c ∷ ds → snake_char c ≡ xs → (c == 95) ≡ false → (c == 44) ≡ false → IsSnakeOf ds q
    → IsSnakeOf p (xs ++ q)
put_front xs c ds p q is snake no_line no_comma more =
    rw is (ap (λ ys. ys ++ flat_map snake_char ds) snake ∙ ap (λ ys. xs ++ ys) more.0, rw no_line more.1, rw no_comma more.2)

or_first : (a b : Bool) → a || b ≡ false → a ≡ false
or_first true b h = cc h
or_first false b h = refl

or_second : (a b : Bool) → a || b ≡ false → b ≡ false
or_second true b h = cc h
or_second false b h = h

camel_again : (raised : Bool) (q p : List ℕ) → camel_after raised q ≡ Some p → IsSnakeOf p (cond raised (95 ∷ q) q)
camel_again false [] p h =
    let is : p ≡ [] = cc h in
    rw is (refl, refl, refl)
camel_again true [] p h = cc h
camel_again true (c ∷ cs) p h = elim (cases_Bool (is_lower c)) [
  | inl low ↦
      let more = put_some (c - 32) (camel_after false cs) p (rw low at h) in
      let upper : is_upper (c - 32) ≡ true = grind (arith, nat_tests, low) in
      let back : c - 32 + 32 ≡ c = grind (arith, nat_tests, low) in
      let snake : snake_char (c - 32) ≡ 95 ∷ c ∷ [] = rw (upper, back) refl in
      let no_line : (c - 32 == 95) ≡ false = grind (arith, nat_tests, low) in
      let no_comma : (c - 32 == 44) ≡ false = grind (arith, nat_tests, low) in
      put_front (95 ∷ c ∷ []) (c - 32) more.0 p cs more.2 snake no_line no_comma (camel_again false cs more.0 more.1)
  | inr other ↦ cc (rw other at h)
]
camel_again false (c ∷ cs) p h = elim (cases_Bool (c == 95)) [
  | inl line ↦
      let is : c ≡ 95 = eqb-true c 95 line in
      rw is (camel_again true cs p (rw line at h))
  | inr no_line ↦ elim (cases_Bool (is_upper c || (c == 44))) [
    | inl refused ↦ cc (rw (no_line, refused) at h)
    | inr fine ↦
        let more = put_some c (camel_after false cs) p (rw (no_line, fine) at h) in
        let other : is_upper c ≡ false = or_first (is_upper c) (c == 44) fine in
        let no_comma : (c == 44) ≡ false = or_second (is_upper c) (c == 44) fine in
        let snake : snake_char c ≡ c ∷ [] = rw other refl in
        put_front (c ∷ []) c more.0 p cs more.2 snake no_line no_comma (camel_again false cs more.0 more.1)
  ]
]

filled_again : (p q : List ℕ) → flat_map snake_char p ≡ q → is_filled q ≡ true → is_filled p ≡ true
filled_again [] q is some = cc some
filled_again (c ∷ cs) q is some =
    let filled : (length (c ∷ cs) == 0) ≡ false = grind (arith, nat_tests) in
    rw filled refl

-- a path in lowerCamelCase reads as the path
path_back : (q p : List ℕ) → camel_of q ≡ Some p → (snake_of p ≡ Some q) × (is_filled p ≡ true) × (has_comma p ≡ false)
path_back q p h = elim (cases_Bool (length q == 0)) [
  | inl none ↦ cc (rw none at h)
  | inr some ↦
      let again = camel_again false q p (rw some at h) in
      let filled : is_filled q ≡ true = rw some refl in
      (rw (again.1, again.0) refl, filled_again p q again.0 filled, again.2)
]

-- the pieces of paths that are joined
abbrev AreWhole : List (List ℕ) → Type 0
AreWhole ps = (list_any has_comma ps ≡ false) × (list_all is_filled ps ≡ true)

split_joined : (p rest : List ℕ) → has_comma p ≡ false → slice_split (λ c. c == 44) (p ++ 44 ∷ rest) ≡ p ∷ slice_split (λ c. c == 44) rest
split_joined [] rest none = refl
split_joined (c ∷ cs) rest none = elim (cases_Bool (c == 44)) [
  | inl h ↦ cc (rw h at none)
  | inr h ↦ rw (h, split_joined cs rest (rw h at none)) refl
]

split_alone : (p : List ℕ) → has_comma p ≡ false → slice_split (λ c. c == 44) p ≡ p ∷ []
split_alone [] none = refl
split_alone (c ∷ cs) none = elim (cases_Bool (c == 44)) [
  | inl h ↦ cc (rw h at none)
  | inr h ↦ rw (h, split_alone cs (rw h at none)) refl
]

some_first : (o : Option (List ℕ)) (r : Option (List (List ℕ))) (ps : List (List ℕ)) → option_and_then (λ q. option_map (λ qs. q ∷ qs) r) o ≡ Some ps
    → (p : List ℕ) × (more : List (List ℕ)) × (o ≡ Some p) × (r ≡ Some more) × (ps ≡ p ∷ more)
some_first None r ps h = cc h
some_first (Some p) None ps h = cc h
some_first (Some p) (Some more) ps h = (p, more, refl, refl, cc h)

-- what is written of paths reads as the paths
pieces_back : (paths ps : List (List ℕ)) → each_of camel_of paths ≡ Some ps
    → (each_of snake_of ps ≡ Some paths) × (list_any has_comma ps ≡ false) × (filter is_filled ps ≡ ps)
pieces_back [] ps h =
    let is : ps ≡ [] = cc h in
    rw is (refl, refl, refl)
pieces_back (q ∷ qs) ps h =
    let first = some_first (camel_of q) (each_of camel_of qs) ps h in
    let back = path_back q first.0 first.2 in
    let more = pieces_back qs first.1 first.3 in
    rw first.4 (rw (back.0, more.0) refl, rw (back.2, more.1) refl, rw back.1 (ap (λ xs. first.0 ∷ xs) more.2))

split_joined_all : (p : List ℕ) (ps : List (List ℕ)) → list_any has_comma (p ∷ ps) ≡ false
    → slice_split (λ c. c == 44) (join_with_byte 44 (p ∷ ps)) ≡ p ∷ ps
split_joined_all p [] none = split_alone p (or_first (has_comma p) false none)
split_joined_all p (q ∷ ps) none =
    split_joined p (join_with_byte 44 (q ∷ ps)) (or_first (has_comma p) (list_any has_comma (q ∷ ps)) none)
    ∙ ap (λ rest. p ∷ rest) (split_joined_all q ps (or_second (has_comma p) (list_any has_comma (q ∷ ps)) none))

filled_joined : (ps : List (List ℕ)) → list_any has_comma ps ≡ false → filter is_filled ps ≡ ps → filled_pieces (join_with_byte 44 ps) ≡ ps
filled_joined [] none filled = refl
filled_joined (p ∷ ps) none filled = ap (λ xs. filter is_filled xs) (split_joined_all p ps none) ∙ filled

some_text : (o : Option (List (List ℕ))) (text : List ℕ) → option_map (join_with_byte 44) o ≡ Some text
    → (ps : List (List ℕ)) × (o ≡ Some ps) × (text ≡ join_with_byte 44 ps)
some_text None text h = cc h
some_text (Some ps) text h = (ps, refl, cc h)

pub paths_back : (paths : List (List ℕ)) (text : List ℕ) → mask_text paths ≡ Some text → mask_of text ≡ Some paths
unfolding mask_text mask_of
paths_back paths text h =
    let written = some_text (each_of camel_of paths) text h in
    let back = pieces_back paths written.0 written.1 in
    ap (λ xs. each_of snake_of (filled_pieces xs)) written.2
    ∙ ap (λ ps. each_of snake_of ps) (filled_joined written.0 back.1 back.2)
    ∙ back.0

-- a mask text, read and written, is its pieces that are not empty
no_comma_first : (c : ℕ) (ps : List (List ℕ)) → (c == 44) ≡ false → list_any has_comma ps ≡ false → list_any has_comma (onto_first c ps) ≡ false
no_comma_first c [] other none = rw other refl
no_comma_first c (p ∷ ps) other none = rw other none

no_comma_split : (text : List ℕ) → list_any has_comma (slice_split (λ c. c == 44) text) ≡ false
no_comma_split [] = refl
no_comma_split (c ∷ cs) = elim (cases_Bool (c == 44)) [
  | inl h ↦ rw h (no_comma_split cs)
  | inr h ↦ rw h (no_comma_first c (slice_split (λ c. c == 44) cs) h (no_comma_split cs))
]

snake_filled : (c : ℕ) (cs : List ℕ) → is_filled (flat_map snake_char (c ∷ cs)) ≡ true
snake_filled c cs = elim (cases_Bool (is_upper c)) [
  | inl h ↦
      let filled : (length (95 ∷ (c + 32) ∷ flat_map snake_char cs) == 0) ≡ false = grind (arith, nat_tests) in
      rw (h, filled) refl
  | inr h ↦
      let filled : (length (c ∷ flat_map snake_char cs) == 0) ≡ false = grind (arith, nat_tests) in
      rw (h, filled) refl
]

piece_back : (p q : List ℕ) → is_filled p ≡ true → has_comma p ≡ false → snake_of p ≡ Some q → camel_of q ≡ Some p
piece_back [] q filled none h = cc filled
piece_back (c ∷ cs) q filled none h = elim (cases_Bool (has_line (c ∷ cs))) [
  | inl line ↦ cc (rw line at h)
  | inr line ↦
      let is : flat_map snake_char (c ∷ cs) ≡ q = cc (rw line at h) in
      rw (← is, snake_filled c cs) (snake_again (c ∷ cs) line none)
]

each_back : (ps qs : List (List ℕ)) → list_any has_comma ps ≡ false → each_of snake_of (filter is_filled ps) ≡ Some qs
    → each_of camel_of qs ≡ Some (filter is_filled ps)
each_back [] qs none h =
    let is : qs ≡ [] = cc h in
    rw is refl
each_back (p ∷ ps) qs none h =
    let own = or_first (has_comma p) (list_any has_comma ps) none in
    let others = or_second (has_comma p) (list_any has_comma ps) none in
    elim (cases_Bool (is_filled p)) [
      | inl some ↦
          let first = some_first (snake_of p) (each_of snake_of (filter is_filled ps)) qs (rw some at h) in
          let back = piece_back p first.0 some own first.2 in
          rw (some, first.4, back, each_back ps first.1 others first.3) refl
      | inr empty ↦ rw empty (each_back ps qs others (rw empty at h))
    ]

pub texts_back : (text : List ℕ) (paths : List (List ℕ)) → mask_of text ≡ Some paths → mask_text paths ≡ Some (join_with_byte 44 (filled_pieces text))
unfolding mask_text mask_of
texts_back text paths h = ap (option_map (join_with_byte 44)) (each_back (slice_split (λ c. c == 44) text) paths (no_comma_split text) h)
