-- The members of oneofs that are among the fields of a tree.
use Rattle.std.proofs.Common.{◌≡◌, ◌⊎◌, inl, inr, ℕ, zero, suc, ◌+◌, ◌<◌, Bool, true, false, if◌then◌else◌, List, [], ◌∷◌, ◌++◌, map, length, take, get_or, Option, Some, None}
use Rattle.std.proofs.Common.{refl, sym, ap, ◌∙◌, subst, arith}
use Rattle.std.specs.Prelude.{◌==◌, IsTrue, option_and_then}
use Rattle.std.proofs.lemmas.Bool.{eqb-true}
use Rattle.std.proofs.lemmas.Bool.Decides.{nat_tests}
use Rattle.pbx_content.specs.declared.shape.FieldShape.{FieldShape}
use Rattle.pbx_content.specs.Content.{Fields, has}
use Rattle.pbx_content.specs.Shape.{field_of, is_other}
use Rattle.pbx_content.specs.Sound.{has_one_member}
use Rattle.pbx_content_codec.specs.declared.contents.Held.{Held}
use Rattle.pbx_content_codec.specs.View.{fields_in, entry_of}
use Rattle.pbx_content_map.specs.Entries.{value_under, with_entry}
use Rattle.pbx_message_laws.proofs.Members.{found, one_member}
use Rattle.pbx_message_dynamic.proofs.KnownMembers.{under_with}
use Rattle.pbx_message_dynamic.specs.Members.{AreMembers}

some_is : {A : Type 0} (a b : A) → Some a ≡ Some b → a ≡ b
some_is a b e = cc

-- the fields that a tree has
abbrev held : List (ℕ × Held) → Fields
held xs = fields_in (map entry_of xs)

has_more : (n : ℕ) (xs : List (ℕ × Held)) (x : ℕ × Held) → has n (held (xs ++ x ∷ [])) ≡ true → (has n (held xs) ≡ true) ⊎ (n ≡ x.0)
has_more n [] x e = at (n == x.0) refl e
  where
    at : (b : Bool) → (n == x.0) ≡ b → (if b then true else false) ≡ true → (false ≡ true) ⊎ (n ≡ x.0)
    at true d e = inr (eqb-true n x.0 d)
    at false d e = absurd cc
has_more n (y ∷ xs) x e = at (n == y.0) e (has_more n xs x)
  where
    at : (b : Bool) → (if b then true else has n (held (xs ++ x ∷ []))) ≡ true
        → (has n (held (xs ++ x ∷ [])) ≡ true → (has n (held xs) ≡ true) ⊎ (n ≡ x.0)) → ((if b then true else has n (held xs)) ≡ true) ⊎ (n ≡ x.0)
    at true e ih = inl refl
    at false e ih = ih e

has_taken : (n i : ℕ) (xs : List (ℕ × Held)) → has n (held (take i xs)) ≡ true → has n (held xs) ≡ true
has_taken n zero xs e = absurd cc
has_taken n (suc i) [] e = e
has_taken n (suc i) (x ∷ xs) e = at (n == x.0) e (has_taken n i xs)
  where
    at : (b : Bool) → (if b then true else has n (held (take i xs))) ≡ true → (has n (held (take i xs)) ≡ true → has n (held xs) ≡ true)
        → (if b then true else has n (held xs)) ≡ true
    at true e ih = refl
    at false e ih = ih e

has_at : (i : ℕ) (xs : List (ℕ × Held)) (x : ℕ × Held) → i < length xs → get_or xs i x ≡ x → has x.0 (held xs) ≡ true
has_at i [] x lt e = absurd (omega arith)
has_at zero (y ∷ xs) x lt e = let here : (x.0 == y.0) ≡ true = ap (λ (z : ℕ × Held). x.0 == z.0) e ∙ same x.0 in rw here refl
  where
    same : (n : ℕ) → (n == n) ≡ true
    same n = grind (arith, nat_tests)
has_at (suc i) (y ∷ xs) x lt e = at (x.0 == y.0) (has_at i xs x (omega arith) e)
  where
    at : (b : Bool) → has x.0 (held xs) ≡ true → (if b then true else has x.0 (held xs)) ≡ true
    at true ih = refl
    at false ih = ih

take_one : (xs : List (ℕ × Held)) (i : ℕ) (x : ℕ × Held) → i < length xs → get_or xs i x ≡ x → take (suc i) xs ≡ take i xs ++ x ∷ []
take_one [] i x lt e = absurd (omega arith)
take_one (y ∷ xs) zero x lt e = ap (λ (z : ℕ × Held). z ∷ []) e
take_one (y ∷ xs) (suc i) x lt e = ap (λ (zs : List (ℕ × Held)). y ∷ zs) (take_one xs i x (omega arith) e)

taken_more : (n : ℕ) (xs : List (ℕ × Held)) (i : ℕ) (x : ℕ × Held) → i < length xs → x ≡ get_or xs i x → has n (held (take (i + 1) xs)) ≡ true
    → (has n (held (take i xs)) ≡ true) ⊎ (n ≡ x.0)
taken_more n xs i x lt is e =
    let next : i + 1 ≡ suc i = omega arith in
    has_more n (take i xs) x
    (ap (λ (ys : List (ℕ × Held)). has n (held ys)) (sym (take_one xs i x lt (sym is))) ∙ ap (λ (k : ℕ). has n (held (take k xs))) (sym next) ∙ e)

-- two members of one oneof that have values are one
same_member : (gs : List FieldShape) (fs : Fields) (m n o : ℕ) (f g : FieldShape) → IsTrue (has_one_member gs fs) → field_of m gs ≡ Some f → field_of n gs ≡ Some g
    → f.oneof ≡ Some o → g.oneof ≡ Some o → has m fs ≡ true → has n fs ≡ true → m ≡ n
same_member gs fs m n o f g one a b of_f of_g p q = at (f.number == g.number) refl
  where
    at : (c : Bool) → (f.number == g.number) ≡ c → m ≡ n
    at true d = sym (found m gs f a).is ∙ eqb-true f.number g.number d ∙ (found n gs g b).is
    at false d =
        let here : (o == o) ≡ true = grind (arith, nat_tests) in
        let other : is_other f g ≡ true = rw (of_f, of_g, here, d) refl in
        absurd (one_member gs fs one f g (found m gs f a).within (found n gs g b).within other
        (ap (λ (k : ℕ). has k fs) (found m gs f a).is ∙ p) (ap (λ (k : ℕ). has k fs) (found n gs g b).is ∙ q))

-- the oneof of a field of a number
oneof_is : (gs : List FieldShape) (n o : ℕ) (r : Option FieldShape) → field_of n gs ≡ r → Some o ≡ option_and_then (λ (f : FieldShape). f.oneof) r
    → (f : FieldShape) × (field_of n gs ≡ Some f) × (f.oneof ≡ Some o)
oneof_is gs n o None e is = absurd cc
oneof_is gs n o (Some f) e is = (f, e, sym is)

pub member_noted : (gs : List FieldShape) (xs : List (ℕ × Held)) (i o : ℕ) (x : ℕ × Held) (ms new : List (ℕ × ℕ)) → IsTrue (has_one_member gs (held xs))
    → i < length xs → x ≡ get_or xs i x → AreMembers gs (held (take i xs)) ms → Some o ≡ option_and_then (λ (f : FieldShape). f.oneof) (field_of x.0 gs)
    → new ≡ with_entry o x.0 ms → AreMembers gs (held (take (i + 1) xs)) new
member_noted gs xs i o x ms new one lt is known oneof now =
    subst (λ (ns : List (ℕ × ℕ)). AreMembers gs (held (take (i + 1) xs)) ns) (sym now) (record {
      members = λ p n e. noted p n (p == o) refl (sym (under_with p o x.0 ms) ∙ e);
      each = λ p n g h there of_g. under_with p o x.0 ms ∙ under p n g (taken_more n xs i x lt is h) there of_g (p == o) refl;
    })
  where
    own : (f : FieldShape) × (field_of x.0 gs ≡ Some f) × (f.oneof ≡ Some o)
    own = oneof_is gs x.0 o (field_of x.0 gs) refl oneof

    noted : (p n : ℕ) (b : Bool) → (p == o) ≡ b → (if b then Some x.0 else value_under p ms) ≡ Some n
        → (g : FieldShape) × (field_of n gs ≡ Some g) × (g.oneof ≡ Some p)
    noted p n true d e =
        (own.0, ap (λ (k : ℕ). field_of k gs) (sym (some_is x.0 n e)) ∙ own.1, own.2 ∙ ap (λ (k : ℕ). Some k) (sym (eqb-true p o d)))
    noted p n false d e = known.members p n e

    under : (p n : ℕ) (g : FieldShape) → (has n (held (take i xs)) ≡ true) ⊎ (n ≡ x.0) → field_of n gs ≡ Some g → g.oneof ≡ Some p → (b : Bool) → (p == o) ≡ b
        → (if b then Some x.0 else value_under p ms) ≡ Some n
    under p n g (inl h) there of_g true d =
        ap (λ (k : ℕ). Some k) (same_member gs (held xs) x.0 n o own.0 g one own.1 there own.2 (of_g ∙ ap (λ (k : ℕ). Some k) (eqb-true p o d))
        (has_at i xs x lt (sym is)) (has_taken n i xs h))
    under p n g (inr h) there of_g true d = ap (λ (k : ℕ). Some k) (sym h)
    under p n g (inl h) there of_g false d = known.each p n g h there of_g
    under p n g (inr h) there of_g false d =
        let same : g ≡ own.0 = some_is g own.0 (sym there ∙ ap (λ (k : ℕ). field_of k gs) h ∙ own.1) in
        let equal : p ≡ o = some_is p o (sym of_g ∙ ap (λ (f : FieldShape). f.oneof) same ∙ own.2) in
        absurd (let here : (p == o) ≡ true = grind (arith, nat_tests) in let bad : true ≡ false = sym here ∙ d in cc)

pub none_noted : (gs : List FieldShape) (xs : List (ℕ × Held)) (i : ℕ) (x : ℕ × Held) (ms : List (ℕ × ℕ)) → i < length xs → x ≡ get_or xs i x
    → AreMembers gs (held (take i xs)) ms → None ≡ option_and_then (λ (f : FieldShape). f.oneof) (field_of x.0 gs) → AreMembers gs (held (take (i + 1) xs)) ms
none_noted gs xs i x ms lt is known none =
    record { members = known.members; each = λ p n g h there of_g. at p n g (taken_more n xs i x lt is h) there of_g }
  where
    at : (p n : ℕ) (g : FieldShape) → (has n (held (take i xs)) ≡ true) ⊎ (n ≡ x.0) → field_of n gs ≡ Some g → g.oneof ≡ Some p → value_under p ms ≡ Some n
    at p n g (inl h) there of_g = known.each p n g h there of_g
    at p n g (inr h) there of_g =
        let bad : None ≡ Some p = none ∙ ap (λ (k : ℕ). option_and_then (λ (f : FieldShape). f.oneof) (field_of k gs)) (sym h)
        ∙ ap (option_and_then (λ (f : FieldShape). f.oneof)) there ∙ of_g in
        absurd cc
