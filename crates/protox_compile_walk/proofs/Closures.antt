-- Openings one after another.
use Rattle.std.proofs.Common.{◌≡◌, ◌+◌, ◌<◌, ◌∷◌, ◌++◌, ◌∙◌, [], ℕ, suc, List, refl, sym, ap, length, take, drop, get_or, add-one}
use Rattle.std.proofs.Math.Seq.{take-suc, split_at}
use Rattle.std.specs.Prelude.{Option}
use Rattle.protox_file_sources.specs.Told.{Told, Lookup, ByLookups}
use Rattle.protox_file_error.specs.declared.error.ErrorKind.{ErrorKind}
use Rattle.protox_compile_walk.specs.Walk.{Done}
use Rattle.protox_compile_walk.specs.declared.root.Opened.{Opened}
use Rattle.protox_compile_walk.specs.Opening.{Ended, Accepted, NotIncluded, Refused, opening, closure, after_opening}
use Rattle.protox_compile_walk.specs.Refusals.{RefusesOpening, Grows}
use Rattle.protox_compile_walk.specs.Closures.{StopsAt}
use Rattle.protox_compile_walk.specs.Opens.{Opens, OpensTimes}
use Rattle.protox_compile_walk.proofs.Joined.{Once, joined, right_joined, more_first, more_second, opens_more, closes_more, refuses_more}

-- what accepted openings begin with
pub first_accepted : (o : List Done × Ended) (rest : List Done → List Done × Ended) (later : List Done) → after_opening o rest ≡ (later, Accepted)
    → (d : List Done) × (o ≡ (d, Accepted)) × (rest d ≡ (later, Accepted))
first_accepted (d, Accepted) rest later h = (d, refl, h)
first_accepted (d, NotIncluded) rest later h = let no : NotIncluded ≡ Accepted = ap (λ o. o.1) h in absurd (cc)
first_accepted (d, Refused fault) rest later h = let no : Refused fault ≡ Accepted = ap (λ o. o.1) h in absurd (cc)

module _ (lookups : List ℕ → Lookup) (resolves : List ℕ → Option (List ℕ)) (limit : ℕ) where
  then_push : (opened : List Done × Ended) (longer rest one : List Done → List Done × Ended) → ((d : List Done) → longer d ≡ after_opening (rest d) one) → after_opening opened longer ≡ after_opening (after_opening opened rest) one
  then_push (d, Accepted) longer rest one e = e d
  then_push (d, NotIncluded) longer rest one e = refl
  then_push (d, Refused fault) longer rest one e = refl

  last : (opened : List Done × Ended) → after_opening opened (λ d. (d, Accepted)) ≡ opened
  last (d, Accepted) = refl
  last (d, NotIncluded) = refl
  last (d, Refused fault) = refl

  pub closure_push : (before : List (List ℕ)) (path : List ℕ) (done : List Done) → closure lookups resolves limit (before ++ path ∷ []) done ≡ after_opening (closure lookups resolves limit before done) (opening lookups resolves limit path)
  closure_push [] path done = last (opening lookups resolves limit path done)
  closure_push (p ∷ before) path done = then_push (opening lookups resolves limit p done) (closure lookups resolves limit (before ++ path ∷ [])) (closure lookups resolves limit before) (opening lookups resolves limit path) (closure_push before path)

  module _ (paths : List (List ℕ)) (i : ℕ) (path : List ℕ) (fits : i < length paths) (is : path ≡ get_or paths i path) (old middle : List Done) (before : closure lookups resolves limit (take i paths) old ≡ (middle, Accepted)) where
    accepts : (new : List Done) → opening lookups resolves limit path middle ≡ (new, Accepted) → closure lookups resolves limit (take (i + 1) paths) old ≡ (new, Accepted)
    accepts new o =
        let e : take (suc i) paths ≡ take i paths ++ path ∷ [] = take-suc paths i path fits ∙ ap (λ p. take i paths ++ p ∷ []) (sym is) in
        rw (add-one, e, closure_push, before) o

    stops_at : (new : List Done) (error : ErrorKind) → RefusesOpening lookups resolves limit path middle new error → Grows middle new → StopsAt lookups resolves limit paths old new error
    stops_at new error r grows = record {
      before = take i paths;
      path = path;
      after = drop (suc i) paths;
      middle = middle;
      split = split_at paths i path fits ∙ ap (λ p. take i paths ++ p ∷ drop (suc i) paths) (sym is);
      accepted = before;
      refused = r;
      grows = grows;
    }

-- ---- by the look-ups of the paths before and those of one path, joined

module _ (once : Once) (files : List ℕ → Told) (resolves : List ℕ → Option (List ℕ)) (limit : ℕ) (paths : List (List ℕ)) (i : ℕ) (path : List ℕ) (fits : i < length paths) (is : path ≡ get_or paths i path) (old middle : List Done)
    (before : ByLookups files (λ ls. closure ls resolves limit (take i paths) old ≡ (middle, Accepted))) where
  pub accepts_next : (new : List Done) → ByLookups files (λ ls. opening ls resolves limit path middle ≡ (new, Accepted)) → ByLookups files (λ ls. closure ls resolves limit (take (i + 1) paths) old ≡ (new, Accepted))
  accepts_next new next =
      let both : List ℕ → Lookup = joined before.0 next.0 in (
        both,
        right_joined files before.0 next.0 before.1 next.1,
        accepts both resolves limit paths i path fits is old middle (closes_more before.0 both (more_first before.0 next.0) resolves limit (take i paths) old middle Accepted tt before.2) new
            (opens_more next.0 both (more_second once files before.0 next.0 before.1 next.1) resolves limit path middle new Accepted tt next.2),
      )

  pub stops_next : (new : List Done) (error : ErrorKind) → ByLookups files (λ ls. RefusesOpening ls resolves limit path middle new error) → Grows middle new → ByLookups files (λ ls. StopsAt ls resolves limit paths old new error)
  stops_next new error next grows =
      let both : List ℕ → Lookup = joined before.0 next.0 in (
        both,
        right_joined files before.0 next.0 before.1 next.1,
        stops_at both resolves limit paths i path fits is old middle (closes_more before.0 both (more_first before.0 next.0) resolves limit (take i paths) old middle Accepted tt before.2) new error
            (refuses_more next.0 both (more_second once files before.0 next.0 before.1 next.1) resolves limit path middle new error next.2) grows,
      )

-- one opening more
pub opens_next : (i : ℕ) (old middle new : List Done) (report : Opened) → OpensTimes i old middle → Opens middle new report → OpensTimes (i + 1) old new
opens_next i old middle new report before one = rw add-one (middle, before, report, one)
