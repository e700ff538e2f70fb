-- What an `Option` holds.
use Rattle.std.proofs.Common.{◌≡◌, ℕ, suc, ◌+◌, Option, Some, None, refl, ap, arith}
use Rattle.std.specs.Prelude.{option_map}

abbrev pub done : {A : Type 0} → A → Option A
done x = Some x

pub some_is : {A : Type 0} (x y : A) → done x ≡ done y → x ≡ y
some_is x y e = cc

pub map_some : (o : Option ℕ) (n : ℕ) → option_map (λ k. 1 + k) o ≡ Some n → (m : ℕ) × (o ≡ Some m) × (suc m ≡ n)
map_some None n e = absurd cc
map_some (Some m) n e = (m, refl, omega (arith, some_is (1 + m) n e))

pub mapped : {A B : Type 0} (f : A → B) (o : Option A) (y : B) → option_map f o ≡ Some y → (x : A) × (o ≡ Some x) × (f x ≡ y)
mapped f None y e = absurd cc
mapped f (Some x) y e = (x, refl, some_is (f x) y e)

pub map_zero : (o : Option ℕ) → option_map (λ n. 0 + n) o ≡ o
map_zero None = refl
map_zero (Some n) = ap done (let e : 0 + n ≡ n = omega arith in e)

pub map_more : (k : ℕ) (o : Option ℕ) → option_map (λ n. 1 + n) (option_map (λ n. k + n) o) ≡ option_map (λ n. suc k + n) o
map_more k None = refl
map_more k (Some n) = ap done (let e : 1 + (k + n) ≡ suc k + n = omega arith in e)
