-- Two lists of members joined, and no members.
use Rattle.std.proofs.Common.{◌≡◌, ◌++◌, ℕ, List, [], ◌∷◌, Option, Some, None, refl}
use Rattle.std.specs.Option.{option_or}
use Rattle.protox_file_sources.specs.Library.{Library}
use Rattle.protox_file_sources.specs.Told.{Told, Absent, Recorded, Source, TooLarge, NotText}
use Rattle.protox_file.specs.Chained.{or_told, first_told, first_resolved}
use Rattle.protox_file.specs.Laws.{ChainsJoin, NoneHasNothing}

or_told_then : (a b c d : Told) → d ≡ or_told b c → or_told a d ≡ or_told (or_told a b) c
or_told_then Absent b c d e = e
or_told_then (Recorded entry) b c d e = refl
or_told_then (Source source path) b c d e = refl
or_told_then TooLarge b c d e = refl
or_told_then NotText b c d e = refl

or_then : (a b c d : Option (List ℕ)) → d ≡ option_or b c → option_or a d ≡ option_or (option_or a b) c
or_then None b c d e = e
or_then (Some name) b c d e = refl

pub told_joined : (ls ks : List Library) (name : List ℕ) → first_told (ls ++ ks) name ≡ or_told (first_told ls name) (first_told ks name)
told_joined [] ks name = refl
told_joined (l ∷ ls) ks name =
    or_told_then (l.files name) (first_told ls name) (first_told ks name) (first_told (ls ++ ks) name) (told_joined ls ks name)

pub resolved_joined : (ls ks : List Library) (path : List ℕ)
    → first_resolved (ls ++ ks) path ≡ option_or (first_resolved ls path) (first_resolved ks path)
resolved_joined [] ks path = refl
resolved_joined (l ∷ ls) ks path =
    or_then (l.resolves path) (first_resolved ls path) (first_resolved ks path) (first_resolved (ls ++ ks) path) (resolved_joined ls ks path)

pub chains_join : ChainsJoin
chains_join first second text = (told_joined first second text, resolved_joined first second text)

pub none_has_nothing : NoneHasNothing
none_has_nothing text = (refl, refl)
