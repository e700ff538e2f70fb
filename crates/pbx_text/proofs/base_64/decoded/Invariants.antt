use Rattle.std.proofs.Common.{◌≡◌, ◌++◌, length, option_map}
use Rattle.pbx_text.specs.Base64.{bytes_in, symbols_of}
use Rattle.pbx_text.proofs.base_64.decoded.Given as goal

abbrev pub invariant-groups : goal.invariant-groups
invariant-groups l = bytes_in (symbols_of l.alphabet) l.symbols ≡ option_map (λ more. l.bytes ++ more) (bytes_in (symbols_of l.alphabet) l.rest)

abbrev pub decreases-groups : goal.decreases-groups
decreases-groups l = length l.rest
