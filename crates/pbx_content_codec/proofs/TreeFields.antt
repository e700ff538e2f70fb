-- The tree's fields as the content's.
use Rattle.std.proofs.Common.{◌≡◌, ℕ, Bool, true, false, if◌then◌else◌, nat_lt, List, [], ◌∷◌, map, Option, Some, None, Bor}
use Rattle.std.proofs.Common.{option_map, refl, sym, ap, ◌∙◌, rules, arith}
use Rattle.std.specs.Prelude.{◌==◌, Result, Ok, Err, OnOk}
use Rattle.std.proofs.lemmas.Bool.Decides.{nat_tests}
use Rattle.pbx_wire.specs.declared.rec.Rec.{Rec}
use Rattle.pbx_content_map.specs.Entries.{IsBelow, IsAscending, value_under, without as without_entry, with_entry}
use Rattle.pbx_content_codec.specs.declared.contents.Held.{Held}
use Rattle.pbx_content_codec.specs.declared.contents.Held as held
use Rattle.pbx_content_codec.specs.declared.contents.Pair.{Pair}
use Rattle.pbx_content_codec.specs.declared.contents.Held.TheViews.{roll-Contents}
use Rattle.pbx_content_codec.specs.declared.contents.Contents.{Contents, out-Contents, the_lemmas}
use Rattle.pbx_content.specs.Content.{content, fields, Fields, field, Val, keyed, pairs_of, get, added, without, with_value, with_fields}
use Rattle.pbx_content_codec.specs.View.{content_of, val_of, fields_in, entry_of, pair_of}

-- the fields that a tree's pairs stand for
abbrev pub held_fields : List (ℕ × Held) → Fields
held_fields xs = fields_in (map entry_of xs)

pub content_of_lem : (c : Contents) → content_of c ≡ content (held_fields (out-Contents c).fields) (out-Contents c).kept
content_of_lem c = search (rules, the_lemmas)

pub val_of-Pairs : (ps : List Pair) → val_of (held.Pairs ps) ≡ keyed (pairs_of (map pair_of ps))
val_of-Pairs ps = search (rules, the_lemmas)

-- ---- values by number

get_held : (n : ℕ) (xs : List (ℕ × Held)) → option_map val_of (value_under n xs) ≡ get n (held_fields xs)
get_held n [] = refl
get_held n (x ∷ xs) = at (n == x.0) (get_held n xs)
  where
    at : (b : Bool) → option_map val_of (value_under n xs) ≡ get n (held_fields xs)
        → option_map val_of (if b then Some x.1 else value_under n xs) ≡ (if b then Some (val_of x.1) else get n (held_fields xs))
    at true ih = refl
    at false ih = ih

without_held : (n : ℕ) (xs : List (ℕ × Held)) → held_fields (without_entry n xs) ≡ without n (held_fields xs)
without_held n [] = refl
without_held n (x ∷ xs) = at (n == x.0) (without_held n xs)
  where
    at : (b : Bool) → held_fields (without_entry n xs) ≡ without n (held_fields xs)
        → held_fields (if b then xs else x ∷ without_entry n xs) ≡ (if b then held_fields xs else field x.0 (val_of x.1) (without n (held_fields xs)))
    at true ih = refl
    at false ih = ap (field x.0 (val_of x.1)) ih

-- before greater numbers there is none to be taken out
without_greater : (n : ℕ) (xs : List (ℕ × Held)) → IsBelow n xs → IsAscending xs → without n (held_fields xs) ≡ held_fields xs
without_greater n [] b o = refl
without_greater n (x ∷ xs) b o =
    let other : (n == x.0) ≡ false = grind (arith, nat_tests) in
    rw other (ap (field x.0 (val_of x.1)) (without_greater n xs (lower xs b o.0) o.1))
  where
    lower : (ys : List (ℕ × Held)) → nat_lt n x.0 ≡ true → IsBelow x.0 ys → IsBelow n ys
    lower [] b o = tt
    lower (y ∷ ys) b o = grind (arith, nat_tests)

added_first : (n : ℕ) (v : Val) (xs : List (ℕ × Held)) → IsBelow n xs → added n v (held_fields xs) ≡ field n v (held_fields xs)
added_first n v [] b = refl
added_first n v (x ∷ xs) b = rw b refl

with_held : (n : ℕ) (h : Held) (xs : List (ℕ × Held)) → IsAscending xs → held_fields (with_entry n h xs) ≡ with_value n (val_of h) (held_fields xs)
with_held n h [] o = refl
with_held n h (x ∷ xs) o = at (nat_lt n x.0) (nat_lt x.0 n) (n == x.0) refl refl refl (with_held n h xs o.1)
  where
    equal : (ys : List (ℕ × Held)) → n ≡ x.0 → IsBelow x.0 ys → IsBelow n ys
    equal [] e b = tt
    equal (y ∷ ys) e b = rw e b

    at : (less more same : Bool) → nat_lt n x.0 ≡ less → nat_lt x.0 n ≡ more → (n == x.0) ≡ same
        → held_fields (with_entry n h xs) ≡ added n (val_of h) (without n (held_fields xs))
        → held_fields (if less then (n, h) ∷ x ∷ xs else (if more then x ∷ with_entry n h xs else (n, h) ∷ xs))
        ≡ added n (val_of h) (if same then held_fields xs else field x.0 (val_of x.1) (without n (held_fields xs)))
    at true more true l m s ih = absurd (grind (arith, nat_tests))
    at true more false l m s ih =
        let behind : IsBelow n xs = lower xs l o.0 in
        rw l (ap (λ (fs : Fields). field n (val_of h) (field x.0 (val_of x.1) fs)) (sym (without_greater n xs behind o.1)))
      where
        lower : (ys : List (ℕ × Held)) → nat_lt n x.0 ≡ true → IsBelow x.0 ys → IsBelow n ys
        lower [] b o = tt
        lower (y ∷ ys) b o = grind (arith, nat_tests)
    at false true true l m s ih = absurd (grind (arith, nat_tests))
    at false true false l m s ih = rw l (ap (field x.0 (val_of x.1)) ih)
    at false false true l m s ih = sym (added_first n (val_of h) xs (equal xs (grind (arith, nat_tests)) o.0))
    at false false false l m s ih = absurd (grind (arith, nat_tests))

-- ---- the whole tree

pub rolled : (fs : List (ℕ × Held)) (ks : List Rec) → content_of (roll-Contents (record { fields = fs; kept = ks })) ≡ content (held_fields fs) ks
rolled fs ks = search (rules, the_lemmas)

pub got : (c : Contents) (n : ℕ) (r : Option (Bor Held)) → option_map (λ (b : Bor Held). b.now) r ≡ value_under n (out-Contents c).fields
    → option_map (λ (b : Bor Held). val_of b.now) r ≡ get n (fields (content_of c))
got c n r e =
    inside r ∙ ap (option_map val_of) e ∙ get_held n (out-Contents c).fields ∙ ap (λ x. get n (fields x)) (sym (content_of_lem c))
  where
    inside : (r : Option (Bor Held)) → option_map (λ (b : Bor Held). val_of b.now) r ≡ option_map val_of (option_map (λ (b : Bor Held). b.now) r)
    inside None = refl
    inside (Some b) = refl

pub taken : (c : Contents) (n : ℕ) (r : Option Held) → r ≡ value_under n (out-Contents c).fields → option_map val_of r ≡ get n (fields (content_of c))
taken c n r e = ap (option_map val_of) e ∙ get_held n (out-Contents c).fields ∙ ap (λ x. get n (fields x)) (sym (content_of_lem c))

pub left : (c : Contents) (n : ℕ) (fs : List (ℕ × Held)) → fs ≡ without_entry n (out-Contents c).fields
    → content_of (roll-Contents (record { fields = fs; kept = (out-Contents c).kept })) ≡ with_fields (content_of c) (without n (fields (content_of c)))
left c n fs e =
    rw (content_of_lem c, rolled) (ap (λ x. content x (out-Contents c).kept) (ap held_fields e ∙ without_held n (out-Contents c).fields))

pub put : (c : Contents) (n : ℕ) (h : Held) (fs : List (ℕ × Held)) → IsAscending (out-Contents c).fields → fs ≡ with_entry n h (out-Contents c).fields
    → content_of (roll-Contents (record { fields = fs; kept = (out-Contents c).kept })) ≡ with_fields (content_of c) (with_value n (val_of h) (fields (content_of c)))
put c n h fs o e =
    rw (content_of_lem c, rolled) (ap (λ x. content x (out-Contents c).kept) (ap held_fields e ∙ with_held n h (out-Contents c).fields o))

pub put_told : {E : Type 0} (c : Contents) (n : ℕ) (h : Held) (fs : List (ℕ × Held)) (r : Result (Unit {0}) E) → IsAscending (out-Contents c).fields
    → OnOk r (fs ≡ with_entry n h (out-Contents c).fields)
    → OnOk r (content_of (roll-Contents (record { fields = fs; kept = (out-Contents c).kept })) ≡ with_fields (content_of c) (with_value n (val_of h) (fields
    (content_of c))))
put_told c n h fs (Ok u) o e = put c n h fs o e
put_told c n h fs (Err e) o is = tt
