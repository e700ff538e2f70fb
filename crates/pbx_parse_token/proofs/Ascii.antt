-- An identifier is ASCII.
use Rattle.std.proofs.Common.{◌≡◌, ℕ, zero, suc, ◌+◌, ◌<◌, Bool, true, false, cond, List, [], ◌∷◌, take, get_or, refl, arith}
use Rattle.std.specs.List.{prefix_len}
use Rattle.std.specs.Str.{IsAscii, IsUtf8}
use Rattle.std.proofs.lemmas.Str.{IsUtf8-from_ascii}
use Rattle.pbx_parse_token.specs.declared.run.Run.TheVariants as runs
use Rattle.pbx_parse_token.specs.Bytes.{passes}

pub identifier_byte : (b : ℕ) → passes runs.Identifier b ≡ true → b < 128
identifier_byte b e = grind arith

front : (t : Bool) (b : ℕ) (bs : List ℕ) (n i : ℕ) → (t ≡ true → b < 128) → IsAscii (take n bs) → get_or (take (cond t (1 + n) 0) (b ∷ bs)) i 0 < 128
front true b bs n zero h r = let e : 1 + n ≡ suc n = omega arith in rw e (h refl)
front true b bs n (suc i) h r = let e : 1 + n ≡ suc n = omega arith in rw e (r i)
front false b bs n i h r = omega arith

identifier_ascii : (bs : List ℕ) → IsAscii (take (prefix_len (passes runs.Identifier) bs) bs)
identifier_ascii [] i = omega arith
identifier_ascii (b ∷ bs) i = front (passes runs.Identifier b) b bs (prefix_len (passes runs.Identifier) bs) i (identifier_byte b) (identifier_ascii bs)

pub identifier_utf8 : (bs : List ℕ) → IsUtf8 (take (prefix_len (passes runs.Identifier) bs) bs)
identifier_utf8 bs = IsUtf8-from_ascii (take (prefix_len (passes runs.Identifier) bs) bs) (identifier_ascii bs)
