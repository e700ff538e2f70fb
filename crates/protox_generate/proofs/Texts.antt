-- Texts that are made of parts.
use Rattle.std.proofs.Common.{◌≡◌, ◌<◌, ◌-◌, ◌∷◌, [], ℕ, List, Result, Ok, Err, IfOk, Bool, true, false, codes, if◌then◌else◌}
use Rattle.std.proofs.lemmas.Bool.{lt-ltb}
use Rattle.std.specs.Prelude.{nat_lt, decimal}
use Rattle.std.specs.List.{concat}
use Rattle.protox_generate.specs.Sources.{before, import_line, field, member, source, tree_text}

pub ok_then : {X E : Type 0} {P Q : X → Type 0} (r : Result X E) → ((x : X) → P x → Q x) → IfOk r P → IfOk r Q
ok_then (Ok x) f p = f x p
ok_then (Err e) f p = tt

pub there : (distance number : ℕ) (said : ℕ → List ℕ) (text : List ℕ) → distance < number → text ≡ said (number - distance) → text ≡ before distance number said
unfolding before
there distance number said text less is = at (nat_lt distance number) (lt-ltb distance number less)
  where
    at : (b : Bool) → b ≡ true → text ≡ (if b then said (number - distance) else [])
    at true k = is
    at false k = absurd (cc)

pub source_is : (number : ℕ) (first second p q text : List ℕ) → first ≡ before 1 number import_line → second ≡ before 2 number import_line
    → p ≡ before 1 number (field (codes " p = 3;")) → q ≡ before 2 number (field (codes " q = 4;"))
    → text ≡ concat (codes "syntax = \"proto3\";\n" ∷ first ∷ second ∷ codes "message G" ∷ decimal number ∷ codes " { int32 a = 1; string b = 2;" ∷ p ∷ q ∷ codes " }\n" ∷ [])
    → text ≡ source number
unfolding source
source_is number first second p q text a b c d is = rw (← a) (rw (← b) (rw (← c) (rw (← d) is)))

pub tree_is : (number : ℕ) (p q text : List ℕ) → p ≡ before 1 number (member (codes ",\"p\":{\"a\":")) → q ≡ before 2 number (member (codes ",\"q\":{\"a\":"))
    → text ≡ concat (codes "{\"a\":" ∷ decimal number ∷ codes ",\"b\":\"g" ∷ decimal number ∷ codes "\"" ∷ p ∷ q ∷ codes "}" ∷ [])
    → text ≡ tree_text number
unfolding tree_text
tree_is number p q text a b is = rw (← a) (rw (← b) is)
