-- Where tokens begin.
use Rattle.std.proofs.Common.{◌≡◌, ℕ, ◌+◌, ◌-◌, ◌≤◌, List, [], ◌∷◌, ◌++◌, length, take, refl, sym, subst, ap, ◌∙◌, arith}
use Rattle.std.specs.List.{All}
use Rattle.std.proofs.Math.Seq.{take-append-add}
use Rattle.std.proofs.lemmas.List.{take_at, length-append}
use Rattle.std.proofs.lemmas.List.Elements.{All-nil, All-push, All-take}
use Rattle.pbx_parse_token.specs.declared.token.Place.{Place}
use Rattle.pbx_parse_token.specs.declared.token.Token.{Token}
use Rattle.pbx_parse_token.specs.Places.{place_after, step}
use Rattle.pbx_parse_token.specs.Pieces.{origin}
use Rattle.pbx_parse_token.specs.View.{BeginsIn, BeginIn}
use Rattle.pbx_parse_token.proofs.Faults.{Split}

pub begin_none : (source : List ℕ) → BeginIn source []
begin_none source = All-nil (BeginsIn source)

pub begin_more : (source : List ℕ) (old new : List Token) (t : Token) → new ≡ old ++ t ∷ [] → BeginsIn source t → BeginIn source old → BeginIn source new
begin_more source old new t e start begin = subst (BeginIn source) (sym e) (All-push (BeginsIn source) old t begin start)

pub begin_over : (source : List ℕ) (old less new : List Token) (t : Token) (n : ℕ) → less ≡ take n old → new ≡ less ++ t ∷ [] → BeginsIn source t → BeginIn source old → BeginIn source new
begin_over source old less new t n cut e start begin = begin_more source less new t e start (subst (BeginIn source) (sym cut) (All-take (BeginsIn source) n old begin))

-- ---- the place behind a front of a source

after_both : (a b : List ℕ) (p : Place) → place_after (a ++ b) p ≡ place_after b (place_after a p)
after_both [] b p = refl
after_both (x ∷ a) b p = after_both a b (step x p)

pub place_none : (source : List ℕ) → place_after (take (length source - length source) source) origin ≡ origin
place_none source = let none : length source - length source ≡ 0 = omega arith in rw none refl

pub place_more : (source rest : List ℕ) (left : ℕ) (p : Place) → Split source rest → left ≤ length rest → place_after (take (length source - length rest) source) origin ≡ p
    → place_after (take (length source - left) source) origin ≡ place_after (take (length rest - left) rest) p
place_more source rest left p s le h =
    let n : length source - left ≡ length s.front + (length rest - left) = omega (arith, ap length s.is, length-append s.front rest) in
    let m : length source - length rest ≡ length s.front = omega (arith, ap length s.is, length-append s.front rest) in
    let front : take (length source - length rest) source ≡ s.front = ap (take (length source - length rest)) s.is ∙ take_at s.front rest (length source - length rest) (sym m) in
    let text : take (length source - left) source ≡ s.front ++ take (length rest - left) rest = rw n (ap (take (length s.front + (length rest - left))) s.is ∙ take-append-add s.front rest (length rest - left)) in
    let more = take (length rest - left) rest in
    ap (λ (t : List ℕ). place_after t origin) text ∙ after_both s.front more origin ∙ ap (λ (q : Place). place_after more q) (ap (λ (t : List ℕ). place_after t origin) (sym front) ∙ h)
