-- One more piece, as the loop reads it.
use Rattle.std.proofs.Common.{◌≡◌, ℕ, zero, suc, false, ◌-◌, ◌<◌, List, [], ◌∷◌, ◌++◌, length, take, Option, Some, None, refl, sym, ap, subst, ◌∙◌, append_assoc, arith}
use Rattle.std.specs.Prelude.{option_map, ◌==◌}
use Rattle.std.proofs.lemmas.List.{take_at, length-append, append-nil}
use Rattle.pbx_parse_token.specs.declared.token.Place.{Place}
use Rattle.pbx_parse_token.specs.declared.piece.LexError.{LexError}
use Rattle.pbx_parse_token.specs.declared.piece.LexError.TheVariants as errors
use Rattle.pbx_parse_token.specs.Places.{place_after}
use Rattle.pbx_parse_token.specs.Tokens.{Word, Token}
use Rattle.pbx_parse_token.specs.Pieces.{Piece, blank, line, block, name, number, quoted, sign, piece_then, word_of_piece, token_before, tokens_from, significant}
use Rattle.pbx_parse_token.specs.Scan.{kept, Fails, piece_at, more, pieces_at, Keeps}
use Rattle.pbx_parse_token.proofs.Options.{done, some_is}
use Rattle.pbx_parse_token.proofs.Laws.{piece_takes, pieces_step, pieces_none}

pub not_zero : (n : ℕ) → false ≡ (n == 0) → 0 < n
not_zero zero e = absurd cc
not_zero (suc n) e = omega arith

pub kept_is : (o : Option (Piece × List ℕ)) (y : Option Word × List ℕ) → kept o ≡ Some y → (p : Piece) × (o ≡ Some (p, y.1)) × (word_of_piece p ≡ y.0)
kept_is None y e = absurd cc
kept_is (Some x) y e =
    let h = some_is (word_of_piece x.0, x.1) y e in
    (x.0, ap (λ (r : List ℕ). done (x.0, r)) (ap (λ (z : Option Word × List ℕ). z.1) h), ap (λ (z : Option Word × List ℕ). z.0) h)

pub then_append : (p : Piece) (rest : List ℕ) → piece_then p rest ≡ piece_then p [] ++ rest
then_append (blank b) rest = refl
then_append (line t) rest = simp (append-nil {A = ℕ})
then_append (block t) rest = simp append_assoc
then_append (name t) rest = simp (append-nil {A = ℕ})
then_append (number t n) rest = simp (append-nil {A = ℕ})
then_append (quoted q t) rest = simp append_assoc
then_append (sign b) rest = refl

text_of : (bytes next : List ℕ) (p : Piece) → bytes ≡ piece_then p next → take (length bytes - length next) bytes ≡ piece_then p []
text_of bytes next p e =
    let split : bytes ≡ piece_then p [] ++ next = e ∙ then_append p next in
    let n : length (piece_then p []) ≡ length bytes - length next = omega (arith, ap length split, length-append (piece_then p []) next) in
    ap (take (length bytes - length next)) split ∙ take_at (piece_then p []) next (length bytes - length next) n

regroup : (front next_front : List Token) (from to : Place) (p : Piece) (o : Option (List Piece)) → to ≡ place_after (piece_then p []) from → Keeps front (word_of_piece p) from to next_front
    → option_map (λ ps. significant (next_front ++ tokens_from to ps)) o ≡ option_map (λ ps. significant (front ++ tokens_from from ps)) (option_map (λ ps. p ∷ ps) o)
regroup front next_front from to p None h keeps = refl
regroup front next_front from to p (Some ps) h keeps =
    ap done (keeps (tokens_from to ps) ∙ ap (λ (q : Place). significant (front ++ token_before (word_of_piece p) from q (tokens_from q ps))) h)

pub goes_on : (front next_front : List Token) (from to : Place) (bytes next : List ℕ) (w : Option Word) (total : Option (List Token)) → 0 < length bytes → kept (piece_at bytes) ≡ Some (w, next) → to ≡ place_after (take (length bytes - length next) bytes) from
    → Keeps front w from to next_front → option_map (λ ps. significant (front ++ tokens_from from ps)) (pieces_at bytes) ≡ total → option_map (λ ps. significant (next_front ++ tokens_from to ps)) (pieces_at next) ≡ total
goes_on front next_front from to bytes next w total lt h at keeps so_far =
    let k = kept_is (piece_at bytes) (w, next) h in
    let p = k.0 in
    let t = piece_takes bytes (p, next) k.1 in
    let to_is : to ≡ place_after (piece_then p []) from = at ∙ ap (λ (s : List ℕ). place_after s from) (text_of bytes next p t.0) in
    let stepped : pieces_at bytes ≡ option_map (λ ps. p ∷ ps) (pieces_at next) = pieces_step bytes lt ∙ ap (λ o. more o pieces_at) k.1 in
    let its : Keeps front (word_of_piece p) from to next_front = subst (λ (v : Option Word). Keeps front v from to next_front) (sym k.2) keeps in
    regroup front next_front from to p (pieces_at next) to_is its ∙ ap (option_map (λ ps. significant (front ++ tokens_from from ps))) (sym stepped) ∙ so_far

kept_none : (o : Option (Piece × List ℕ)) → kept o ≡ None → o ≡ None
kept_none None e = refl
kept_none (Some x) e = absurd cc

pub fails : (e : LexError) (front : List Token) (from : Place) (bytes : List ℕ) (total : Option (List Token)) → 0 < length bytes → Fails e (kept (piece_at bytes)) → option_map (λ ps. significant (front ++ tokens_from from ps)) (pieces_at bytes) ≡ total → Fails e total
fails errors.NoMemory front from bytes total lt h so_far = tt
fails (errors.Fault left begun fault) front from bytes total lt h so_far =
    sym so_far ∙ ap (option_map (λ ps. significant (front ++ tokens_from from ps))) (pieces_step bytes lt ∙ ap (λ o. more o pieces_at) (kept_none (piece_at bytes) h))

pub is_done : (front : List Token) (from : Place) (bytes : List ℕ) (total : Option (List Token)) → length bytes ≡ 0 → significant front ≡ front → option_map (λ ps. significant (front ++ tokens_from from ps)) (pieces_at bytes) ≡ total → total ≡ Some front
is_done front from [] total z stays so_far = sym so_far ∙ ap (option_map (λ ps. significant (front ++ tokens_from from ps))) pieces_none ∙ ap done (ap significant (append-nil front) ∙ stays)
is_done front from (b ∷ bytes) total z stays so_far = absurd (omega arith)
