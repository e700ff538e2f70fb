-- Names without `_`, character by character.
use Rattle.std.proofs.Common.{◌≡◌, ◌≢◌, ◌∙◌, ℕ, ◌<◌, ◌≤◌, ◌+◌, ◌/◌, ◌%◌, cond, ◌==◌, nat_lt, List, [], ◌∷◌, ◌++◌, Bool, true, false, if◌then◌else◌, refl, ap, sym, arith}
use Rattle.std.specs.Char.{to_ascii_uppercase, encode_utf8}
use Rattle.std.proofs.Math.Utf8.{encode}
use Rattle.std.proofs.lemmas.Bool.Decides.{nat_tests}
use Rattle.std.proofs.lemmas.Str.{encode_ascii}
use Rattle.std.proofs.lemmas.Str.Ascii.{uppercase_ascii}
use Rattle.pbx_parse_translation.specs.Texts.{camel_from}

pub camel_done : (b : Bool) → camel_from b [] ≡ []
unfolding camel_from
camel_done b = refl

under : (b : Bool) (bs : List ℕ) → camel_from b (95 ∷ bs) ≡ camel_from true bs
unfolding camel_from
under b bs = refl

other : (b : Bool) (x : ℕ) (bs : List ℕ) → (x == 95) ≡ false → camel_from b (x ∷ bs) ≡ (if b then to_ascii_uppercase x else x) ∷ camel_from false bs
unfolding camel_from
other b x bs h = rw h refl

upper_high : (x : ℕ) → 128 ≤ x → to_ascii_uppercase x ≡ x
upper_high x h =
    let a : nat_lt x 97 ≡ false = grind (arith, nat_tests, h) in
    let z : nat_lt x 123 ≡ false = grind (arith, nat_tests, h) in
    rw (a, z) refl

same : (b : Bool) (x : ℕ) → 128 ≤ x → (if b then to_ascii_uppercase x else x) ≡ x
same true x h = upper_high x h
same false x h = refl

high : (b : Bool) (x : ℕ) (bs : List ℕ) → 128 ≤ x → camel_from b (x ∷ bs) ≡ x ∷ camel_from false bs
high b x bs h =
    let no : (x == 95) ≡ false = grind (arith, nat_tests, h) in
    other b x bs no ∙ ap (λ y. y ∷ camel_from false bs) (same b x h)

pub camel_under : (b : Bool) (c : ℕ) (bs : List ℕ) → c ≡ 95 → camel_from b (encode_utf8 c ++ bs) ≡ camel_from true bs
unfolding encode
camel_under b c bs e = ap (λ x. camel_from b (encode_utf8 x ++ bs)) e ∙ under b bs

-- a byte that goes on a character is no ASCII
next_high : (x : ℕ) → 128 ≤ 128 + x
next_high x = omega arith

two : (b : Bool) (x y : ℕ) (bs : List ℕ) → 128 ≤ x → 128 ≤ y → camel_from b (x ∷ y ∷ bs) ≡ x ∷ y ∷ camel_from false bs
two b x y bs p q = high b x (y ∷ bs) p ∙ ap (λ xs. x ∷ xs) (high false y bs q)

abbrev of_two : ℕ → List ℕ
of_two c = (192 + c / 64) ∷ (128 + c % 64) ∷ []

abbrev of_three : ℕ → List ℕ
of_three c = (224 + c / 4096) ∷ (128 + (c / 64) % 64) ∷ (128 + c % 64) ∷ []

abbrev of_four : ℕ → List ℕ
of_four c = (240 + c / 262144) ∷ (128 + (c / 4096) % 64) ∷ (128 + (c / 64) % 64) ∷ (128 + c % 64) ∷ []

long : (b : Bool) (c : ℕ) (bs : List ℕ) → 128 ≤ c → camel_from b (encode_utf8 c ++ bs) ≡ encode_utf8 c ++ camel_from false bs
unfolding encode
long b c bs h =
    let no : nat_lt c 128 ≡ false = grind (arith, nat_tests, h) in
    rw no (at (nat_lt c 2048) (nat_lt c 65536))
  where
    at : (s t : Bool) → camel_from b (cond s (of_two c) (cond t (of_three c) (of_four c)) ++ bs) ≡ cond s (of_two c) (cond t (of_three c) (of_four c)) ++ camel_from false bs
    at true t = two b (192 + c / 64) (128 + c % 64) bs (omega arith) (omega arith)
    at false true = high b (224 + c / 4096) _ (omega arith) ∙ ap (λ xs. (224 + c / 4096) ∷ xs) (two false (128 + (c / 64) % 64) (128 + c % 64) bs (omega arith) (omega arith))
    at false false = two b (240 + c / 262144) (128 + (c / 4096) % 64) _ (omega arith) (omega arith) ∙ ap (λ xs. (240 + c / 262144) ∷ (128 + (c / 4096) % 64) ∷ xs) (two false (128 + (c / 64) % 64) (128 + c % 64) bs (omega arith) (omega arith))

pub camel_other : (b : Bool) (c : ℕ) (bs : List ℕ) → c ≢ 95 → camel_from b (encode_utf8 c ++ bs) ≡ encode_utf8 (if b then to_ascii_uppercase c else c) ++ camel_from false bs
camel_other b c bs ne = at (nat_lt c 128) refl
  where
    no : (c == 95) ≡ false
    no = grind (arith, nat_tests, ne)

    low : (d : Bool) → c < 128 → (if d then to_ascii_uppercase c else c) < 128
    low true h = uppercase_ascii c h
    low false h = h

    at : (t : Bool) → nat_lt c 128 ≡ t → camel_from b (encode_utf8 c ++ bs) ≡ encode_utf8 (if b then to_ascii_uppercase c else c) ++ camel_from false bs
    at true q =
        let lt : c < 128 = grind (arith, nat_tests, q) in
        ap (λ xs. camel_from b (xs ++ bs)) (encode_ascii c lt) ∙ other b c bs no ∙ ap (λ xs. xs ++ camel_from false bs) (sym (encode_ascii _ (low b lt)))
    at false q =
        let le : 128 ≤ c = grind (arith, nat_tests, q) in
        long b c bs le ∙ ap (λ x. encode_utf8 x ++ camel_from false bs) (sym (same b c le))
