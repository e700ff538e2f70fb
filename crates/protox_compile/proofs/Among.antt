-- What opening paths leaves over every resolver.
use Rattle.std.proofs.Common.{◌≡◌, ◌<◌, ◌++◌, ◌∷◌, ◌∙◌, [], ℕ, suc, List, length, take, drop, get_or, length-take, sym, ap, arith}
use Rattle.std.proofs.Math.Seq.{split_at}
use Rattle.pbx_link_rules.specs.Pool.{ArePooled}
use Rattle.pbx_link_laws.specs.ContentLaws.{PoolIsLinked}
use Rattle.protox_compile_walk.specs.Walk.{Done, records}
use Rattle.protox_compile_walk.specs.Compiled.{IsOrdered}
use Rattle.protox_compile_walk.specs.Opens.{OpensTimes, StopsAmong}
use Rattle.protox_compile_walk.specs.Refusals.{Grows, HasOpeningCause}
use Rattle.protox_file_error.specs.declared.error.ErrorKind.{ErrorKind}
use Rattle.protox_compile.specs.Compiling.{AreCompiled}

pub are_compiled : PoolIsLinked → (count : ℕ) (done : List Done) → OpensTimes count [] done → IsOrdered [] done → ArePooled [] (records done) → AreCompiled count done
are_compiled linked count done opens ordered pooled = record { opened = opens; ordered = ordered; linked = linked (records done) pooled }

-- the path at the index is refused, those before it being opened
pub stops_among : (limit : ℕ) (paths : List (List ℕ)) (i : ℕ) (path : List ℕ) → i < length paths → path ≡ get_or paths i path → (old middle new : List Done)
    (fault : ErrorKind → Type 0) (error : ErrorKind) → OpensTimes i old middle → Grows middle new → HasOpeningCause limit path new fault error
    → StopsAmong limit paths old new fault error
stops_among limit paths i path fits is old middle new fault error opens grows cause =
    let count : length (take i paths) ≡ i = rw length-take (omega arith) in
    record {
      before = take i paths;
      path = path;
      after = drop (suc i) paths;
      split = split_at paths i path fits ∙ ap (λ p. take i paths ++ p ∷ drop (suc i) paths) (sym is);
      middle = middle;
      opens = rw count opens;
      grows = grows;
      cause = cause;
    }
