-- The last element of a list, and the last token of a file.
use Rattle.std.proofs.Common.{◌≡◌, ◌-◌, List, [], ◌∷◌, length, map, Some, None, refl, sym, ap, ◌∙◌, arith}
use Rattle.std.specs.List.{slice_get}
use Rattle.pbx_parse_token.specs.declared.token.Span.{Span}
use Rattle.pbx_parse_token.specs.declared.token.Token.{Token}
use Rattle.pbx_parse_token.specs.Tokens as tokens
use Rattle.pbx_parse_token.specs.View.{token_of, tokens_of}
use Rattle.pbx_parse_tree.specs.View.{next_of}
use Rattle.pbx_parse_locations.specs.declared.file.Extent.{Extent}
use Rattle.pbx_parse_locations.specs.Locations.{last_of, extent_of}

last_seen : {A B : Type 0} (view : A → B) (x y : A) (xs : List A) → slice_get (x ∷ xs) (length xs) ≡ Some y → last_of (view x) (map view xs) ≡ view y
last_seen view x y [] e = let is : x ≡ y = (cc) in ap view is
last_seen view x y (z ∷ zs) e = last_seen view z y zs e

-- of a list that is not empty
pub last_is : {A B : Type 0} (view : A → B) (x y : A) (xs : List A) → Some y ≡ slice_get (x ∷ xs) (length (x ∷ xs) - 1) → last_of (view x) (map view xs) ≡ view y
last_is view x y xs e =
    let n : length (x ∷ xs) - 1 ≡ length xs = omega arith in
    last_seen view x y xs (sym (e ∙ ap (slice_get (x ∷ xs)) n))

last_pair : {A B : Type 0} (view : A → B) (x y : Span × A) (xs : List (Span × A)) → slice_get (x ∷ xs) (length xs) ≡ Some y → last_of (view x.1) (map (λ p. p.1) (map (next_of view) xs)) ≡ view y.1
last_pair view x y [] e = let is : x ≡ y = (cc) in ap (λ (p : Span × _). view p.1) is
last_pair view x y (z ∷ zs) e = last_pair view z y zs e

-- of one, and more with marks before them
pub last_more : {A B : Type 0} (view : A → B) (x : A) (y : Span × A) (xs : List (Span × A)) → Some y ≡ slice_get xs (length xs - 1) → last_of (view x) (map (λ p. p.1) (map (next_of view) xs)) ≡ view y.1
last_more view x y [] e = absurd (cc)
last_more view x y (z ∷ zs) e =
    let n : length (z ∷ zs) - 1 ≡ length zs = omega arith in
    last_pair view z y zs (sym (e ∙ ap (slice_get (z ∷ zs)) n))

within : {A : Type 0} (x : A) (xs : List A) → None ≡ slice_get (x ∷ xs) (length xs) → ⊥
within x [] e = (cc)
within x (y ∷ ys) e = within y ys e

-- of one alone
pub last_alone : {A B : Type 0} (view : A → B) (x : A) (xs : List (Span × A)) → None ≡ slice_get xs (length xs - 1) → last_of (view x) (map (λ p. p.1) (map (next_of view) xs)) ≡ view x
last_alone view x [] e = refl
last_alone view x (z ∷ zs) e =
    let n : length (z ∷ zs) - 1 ≡ length zs = omega arith in
    absurd (within z zs (e ∙ ap (slice_get (z ∷ zs)) n))

-- a file from its first token to its last
pub whole_file : (ts : List Token) (a z : Token) → Some a ≡ slice_get ts 0 → Some z ≡ slice_get ts (length ts - 1) → record { from = a.span; to = z.span } ≡ extent_of (tokens_of ts)
whole_file [] a z p q = absurd (cc)
whole_file (t ∷ ts) a z p q =
    let is : a ≡ t = (cc) in
    let from_to : Span → Span → Extent = λ from to. record { from = from; to = to } in
    ap (λ (x : Token). from_to x.span z.span) is ∙ ap (λ (x : tokens.Token). from_to t.span x.span) (sym (last_is token_of t z ts q))
