-- The pieces of a list that grows, and what its stream shows of them.
use Rattle.std.proofs.Common.{◌≡◌, ◌<◌, Bool, true, false, cond, List, [], ◌∷◌, ◌++◌, length, refl, sym, ap, ◌∙◌, arith, append_assoc}
use Rattle.std.specs.List.{slice_split, onto_first}
use Rattle.std.proofs.lemmas.List.{append-nil}
use Rattle.std.proofs.lemmas.List.Splits.{length-slice_split}

-- ---- pieces of a list that grows

-- the list before the first piece
abbrev pub lead : {X : Type 0} → List X → List (List X) → List (List X)
lead xs [] = xs ∷ []
lead xs (p ∷ ps) = (xs ++ p) ∷ ps

-- the last piece goes on in the first of the others
abbrev pub joined : {X : Type 0} → List (List X) → List (List X) → List (List X)
joined [] qs = qs
joined (p ∷ []) qs = lead p qs
joined (p ∷ q ∷ ps) qs = p ∷ joined (q ∷ ps) qs

lead-nil : {X : Type 0} (qs : List (List X)) → 0 < length qs → lead [] qs ≡ qs
lead-nil [] h = absurd (omega arith)
lead-nil (q ∷ qs) h = refl

lead-cons : {X : Type 0} (x : X) (a : List X) (qs : List (List X)) → onto_first x (lead a qs) ≡ lead (x ∷ a) qs
lead-cons x a [] = refl
lead-cons x a (q ∷ qs) = refl

onto_first-joined : {X : Type 0} (x : X) (ps qs : List (List X)) → 0 < length ps → onto_first x (joined ps qs) ≡ joined (onto_first x ps) qs
onto_first-joined x [] qs h = absurd (omega arith)
onto_first-joined x (a ∷ []) qs h = lead-cons x a qs
onto_first-joined x (a ∷ b ∷ ps) qs h = refl

nil-joined : {X : Type 0} (ps qs : List (List X)) → 0 < length ps → [] ∷ joined ps qs ≡ joined ([] ∷ ps) qs
nil-joined [] qs h = absurd (omega arith)
nil-joined (a ∷ ps) qs h = refl

step-joined : {X : Type 0} (b : Bool) (x : X) (ps qs : List (List X)) → 0 < length ps → cond b ([] ∷ joined ps qs) (onto_first x (joined ps qs)) ≡ joined (cond b ([] ∷ ps) (onto_first x ps)) qs
step-joined true x ps qs h = nil-joined ps qs h
step-joined false x ps qs h = onto_first-joined x ps qs h

has_pieces : {X : Type 0} (p : X → Bool) (xs : List X) → 0 < length (slice_split p xs)
has_pieces p xs = omega (arith, length-slice_split p xs)

slice_split-append : {X : Type 0} (p : X → Bool) (xs ys : List X) → slice_split p (xs ++ ys) ≡ joined (slice_split p xs) (slice_split p ys)
slice_split-append p [] ys = sym (lead-nil (slice_split p ys) (has_pieces p ys))
slice_split-append p (x ∷ xs) ys =
    ap (λ ps. cond (p x) ([] ∷ ps) (onto_first x ps)) (slice_split-append p xs ys)
    ∙ step-joined (p x) x (slice_split p xs) (slice_split p ys) (has_pieces p xs)

joined-last : {X : Type 0} (ps : List (List X)) (a : List X) (qs : List (List X)) → joined (ps ++ a ∷ []) qs ≡ ps ++ lead a qs
joined-last [] a qs = refl
joined-last (p ∷ []) a qs = refl
joined-last (p ∷ q ∷ ps) a qs = ap (λ l. p ∷ l) (joined-last (q ∷ ps) a qs)

-- what follows goes on in the last piece
pub slice_split-more : {X : Type 0} (p : X → Bool) (xs ys : List X) (ps : List (List X)) (a : List X) → slice_split p xs ≡ ps ++ a ∷ [] → slice_split p (xs ++ ys) ≡ ps ++ lead a (slice_split p ys)
slice_split-more p xs ys ps a e =
    slice_split-append p xs ys ∙ ap (λ l. joined l (slice_split p ys)) e ∙ joined-last ps a (slice_split p ys)

-- it goes on in that alone
pub slice_split-longer : {X : Type 0} (p : X → Bool) (xs ys : List X) (ps : List (List X)) (a : List X) → slice_split p xs ≡ ps ++ a ∷ [] → slice_split p ys ≡ ys ∷ [] → slice_split p (xs ++ ys) ≡ ps ++ (a ++ ys) ∷ []
slice_split-longer p xs ys ps a e one = slice_split-more p xs ys ps a e ∙ ap (λ l. ps ++ lead a l) one

-- it ends that
pub slice_split-ended : {X : Type 0} (p : X → Bool) (xs : List X) (y : X) (ps : List (List X)) (a : List X) → slice_split p xs ≡ ps ++ a ∷ [] → p y ≡ true → slice_split p (xs ++ y ∷ []) ≡ (ps ++ a ∷ []) ++ [] ∷ []
slice_split-ended {X} p xs y ps a e h =
    let two : slice_split p (y ∷ []) ≡ [] ∷ [] ∷ [] = ap (λ b. cond b ([] ∷ [] ∷ []) ((y ∷ []) ∷ [])) h in
    slice_split-more p xs (y ∷ []) ps a e ∙ ap (λ l. ps ++ lead a l) two ∙ ap (λ l. ps ++ l ∷ [] ∷ []) (append-nil a) ∙ sym (append_assoc ps (a ∷ []) ([] ∷ []))
