-- What a class says of the first bytes.
use Rattle.std.proofs.Common.{◌≡◌, ℕ, Bool, true, false, cond, List, [], ◌∷◌, refl, sym, subst, drop, ◌≢◌}
use Rattle.std.specs.Prelude.{◌==◌, ◌&&◌, ◌||◌}
use Rattle.std.proofs.lemmas.Bool.{eqb-true}
use Rattle.pbx_parse_token.specs.declared.piece.Class.{Class}
use Rattle.pbx_parse_token.specs.declared.piece.Class.TheVariants as classes
use Rattle.pbx_parse_token.specs.Bytes.{is_blank, is_start, is_digit, is_mark, first_class_of, class_with, class_of}

pub by_test : {A P : Type 0} (b : Bool) (x y z : A) → cond b x y ≡ z → (b ≡ true → x ≡ z → P) → (b ≡ false → y ≡ z → P) → P
by_test true x y z e f g = f refl e
by_test false x y z e f g = g refl e

pub by_bool : {P : Type 0} (b : Bool) → (b ≡ true → P) → (b ≡ false → P) → P
by_bool true f g = f refl
by_bool false f g = g refl

pub both : (a b : Bool) → (a && b) ≡ true → (a ≡ true) × (b ≡ true)
both true b e = (refl, e)
both false b e = absurd cc

-- a class other than a comment's is that of the first byte
abbrev pub NoComment : Class → Type 0
NoComment classes.Blank = Unit {0}
NoComment classes.Line = ⊥
NoComment classes.Block = ⊥
NoComment classes.Identifier = Unit {0}
NoComment classes.Number = Unit {0}
NoComment classes.Quote = Unit {0}
NoComment classes.Mark = Unit {0}
NoComment classes.Bad = Unit {0}

no_line : (k : Class) → NoComment k → classes.Line ≡ k → ⊥
no_line k n e = subst NoComment (sym e) n

no_block : (k : Class) → NoComment k → classes.Block ≡ k → ⊥
no_block k n e = subst NoComment (sym e) n

with_first : (a : ℕ) (bs : List ℕ) (k : Class) → NoComment k → class_with a bs ≡ k → first_class_of a ≡ k
with_first a [] k n e = e
with_first a (b ∷ bs) k n e =
    by_test ((a == 47) && (b == 47)) classes.Line _ k e (λ p q. absurd (no_line k n q))
    (λ p q. by_test ((a == 47) && (b == 42)) classes.Block (first_class_of a) k q (λ p2 q2. absurd (no_block k n q2)) (λ p2 q2. q2))

-- the first byte
pub record First (k : Class) (bytes : List ℕ) : Type 0 where
  pub byte : ℕ
  pub rest : List ℕ
  pub is : bytes ≡ byte ∷ rest
  pub its : first_class_of byte ≡ k

pub first_of : (bytes : List ℕ) (k : Class) → NoComment k → classes.Bad ≢ k → class_of bytes ≡ k → First k bytes
first_of [] k n bad e = absurd (bad e)
first_of (a ∷ bs) k n bad e = record { byte = a; rest = bs; is = refl; its = with_first a bs k n e }

-- the tests in order
abbrev last_tests : ℕ → Class
last_tests b = cond ((b == 34) || (b == 39)) classes.Quote (cond (is_mark b) classes.Mark classes.Bad)

not_last : (b : ℕ) (k : Class) → last_tests b ≡ k → (classes.Quote ≢ k) → (classes.Mark ≢ k) → (classes.Bad ≢ k) → ⊥
not_last b k e x y z =
    by_test ((b == 34) || (b == 39)) classes.Quote _ k e (λ p q. x q) (λ p q. by_test (is_mark b) classes.Mark classes.Bad k q (λ p2 q2. y q2) (λ p2 q2. z q2))

not_identifier : (b : ℕ) → cond (is_digit b) classes.Number (last_tests b) ≡ classes.Identifier → ⊥
not_identifier b e = by_test (is_digit b) classes.Number _ classes.Identifier e (λ p q. absurd cc) (λ p q. not_last b classes.Identifier q (λ h. absurd cc) (λ h. absurd cc) (λ h. absurd cc))

not_number : (b : ℕ) → last_tests b ≡ classes.Number → ⊥
not_number b q = not_last b classes.Number q (λ h. absurd cc) (λ h. absurd cc) (λ h. absurd cc)

not_comment : (b : ℕ) (k : Class) → first_class_of b ≡ k → (classes.Blank ≢ k) → (classes.Identifier ≢ k) → (classes.Number ≢ k) → (classes.Quote ≢ k) → (classes.Mark ≢ k) → (classes.Bad ≢ k) → ⊥
not_comment b k e u v w x y z =
    by_test (is_blank b) classes.Blank _ k e (λ p q. u q) (λ p q.
    by_test (is_start b) classes.Identifier _ k q (λ p2 q2. v q2) (λ p2 q2.
    by_test (is_digit b) classes.Number _ k q2 (λ p3 q3. w q3) (λ p3 q3. not_last b k q3 x y z)))

pub line_is : (bytes : List ℕ) → class_of bytes ≡ classes.Line → bytes ≡ 47 ∷ 47 ∷ drop 2 bytes
line_is [] e = absurd cc
line_is (a ∷ []) e = absurd (not_comment a classes.Line e (λ h. absurd cc) (λ h. absurd cc) (λ h. absurd cc) (λ h. absurd cc) (λ h. absurd cc) (λ h. absurd cc))
line_is (a ∷ b ∷ bs) e =
    by_test ((a == 47) && (b == 47)) classes.Line _ classes.Line e
    (λ p q. let t = both (a == 47) (b == 47) p in rw (eqb-true a 47 t.0, eqb-true b 47 t.1) refl)
    (λ p q. by_test ((a == 47) && (b == 42)) classes.Block _ classes.Line q (λ p2 q2. absurd cc)
    (λ p2 q2. absurd (not_comment a classes.Line q2 (λ h. absurd cc) (λ h. absurd cc) (λ h. absurd cc) (λ h. absurd cc) (λ h. absurd cc) (λ h. absurd cc))))

pub block_is : (bytes : List ℕ) → class_of bytes ≡ classes.Block → bytes ≡ 47 ∷ 42 ∷ drop 2 bytes
block_is [] e = absurd cc
block_is (a ∷ []) e = absurd (not_comment a classes.Block e (λ h. absurd cc) (λ h. absurd cc) (λ h. absurd cc) (λ h. absurd cc) (λ h. absurd cc) (λ h. absurd cc))
block_is (a ∷ b ∷ bs) e =
    by_test ((a == 47) && (b == 47)) classes.Line _ classes.Block e (λ p q. absurd cc)
    (λ p q. by_test ((a == 47) && (b == 42)) classes.Block _ classes.Block q
    (λ p2 q2. let t = both (a == 47) (b == 42) p2 in rw (eqb-true a 47 t.0, eqb-true b 42 t.1) refl)
    (λ p2 q2. absurd (not_comment a classes.Block q2 (λ h. absurd cc) (λ h. absurd cc) (λ h. absurd cc) (λ h. absurd cc) (λ h. absurd cc) (λ h. absurd cc))))

pub first_start : (b : ℕ) → first_class_of b ≡ classes.Identifier → is_start b ≡ true
first_start b e =
    by_test (is_blank b) classes.Blank _ classes.Identifier e (λ p q. absurd cc)
    (λ p q. by_test (is_start b) classes.Identifier _ classes.Identifier q (λ p2 q2. p2) (λ p2 q2. absurd (not_identifier b q2)))

pub first_digit : (b : ℕ) → first_class_of b ≡ classes.Number → is_digit b ≡ true
first_digit b e =
    by_test (is_blank b) classes.Blank _ classes.Number e (λ p q. absurd cc)
    (λ p q. by_test (is_start b) classes.Identifier _ classes.Number q (λ p2 q2. absurd cc)
    (λ p2 q2. by_test (is_digit b) classes.Number _ classes.Number q2 (λ p3 q3. p3) (λ p3 q3. absurd (not_number b q3))))

first_quote : (b : ℕ) → first_class_of b ≡ classes.Quote → ((b == 34) || (b == 39)) ≡ true
first_quote b e =
    by_test (is_blank b) classes.Blank _ classes.Quote e (λ p q. absurd cc)
    (λ p q. by_test (is_start b) classes.Identifier _ classes.Quote q (λ p2 q2. absurd cc)
    (λ p2 q2. by_test (is_digit b) classes.Number _ classes.Quote q2 (λ p3 q3. absurd cc)
    (λ p3 q3. by_test ((b == 34) || (b == 39)) classes.Quote _ classes.Quote q3 (λ p4 q4. p4)
    (λ p4 q4. by_test (is_mark b) classes.Mark classes.Bad classes.Quote q4 (λ p5 q5. absurd cc) (λ p5 q5. absurd cc)))))

pub quote_of : (q : ℕ) (bytes : List ℕ) → class_of (q ∷ bytes) ≡ classes.Quote → ((q == 34) || (q == 39)) ≡ true
quote_of q bytes e = first_quote q (with_first q bytes classes.Quote tt e)
