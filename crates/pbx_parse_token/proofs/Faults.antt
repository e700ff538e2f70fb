-- A fault lies between two characters of a source.
use Rattle.std.proofs.Common.{◌≡◌, ℕ, ◌+◌, ◌-◌, ◌<◌, ◌≤◌, true, List, [], ◌∷◌, ◌++◌, length, take, drop, get_or, refl, sym, ap, subst, ◌∙◌, append_assoc, arith}
use Rattle.std.specs.Prelude.{◌==◌, is_none, Option, Some}
use Rattle.std.specs.Str.{IsUtf8}
use Rattle.std.proofs.Math.Seq.{take-append-add}
use Rattle.std.proofs.lemmas.Bool.{eqb-true}
use Rattle.std.proofs.lemmas.List.{take_at, take_all, take-append-drop, take-append-le, length-append, length-take}
use Rattle.std.proofs.lemmas.Str.{IsUtf8-nil, IsUtf8-append, IsUtf8-take, IsCharBoundary-at_seam}
use Rattle.pbx_parse_token.specs.declared.piece.LexError.{LexError}
use Rattle.pbx_parse_token.specs.declared.piece.LexError.TheVariants as errors
use Rattle.pbx_parse_token.specs.declared.piece.Fault.{Fault}
use Rattle.pbx_parse_token.specs.declared.piece.Class.TheVariants as classes
use Rattle.pbx_parse_token.specs.Bytes.{is_break, class_of}
use Rattle.pbx_parse_token.specs.Escapes.{escape_at}
use Rattle.pbx_parse_token.specs.Tokens.{Word}
use Rattle.pbx_parse_token.specs.Pieces.{piece_then}
use Rattle.pbx_parse_token.specs.Scan.{is_bad, piece_at, kept}
use Rattle.pbx_parse_token.specs.View.{IsCut, Within, IsWithin}
use Rattle.pbx_parse_token.proofs.Classes.{both}
use Rattle.pbx_parse_token.proofs.Laws.{piece_takes}
use Rattle.pbx_parse_token.proofs.Steps.{kept_is, then_append}
use Rattle.pbx_parse_token.proofs.Unescaping.{tail_of, slice_from, slice_is, slice_length}
use Rattle.pbx_parse_token.proofs.Utf8.{cut, behind, first_small}

-- what is left of a source
pub record Split (source rest : List ℕ) : Type 0 where
  pub front : List ℕ
  pub is : source ≡ front ++ rest

pub split_whole : (source : List ℕ) → Split source source
split_whole source = record { front = []; is = refl }

pub split_drop : (source rest : List ℕ) (n : ℕ) → Split source rest → Split source (drop n rest)
split_drop source rest n s = record {
  front = s.front ++ take n rest;
  is = s.is ∙ ap (λ (r : List ℕ). s.front ++ r) (sym (take-append-drop n rest)) ∙ sym (append_assoc s.front (take n rest) (drop n rest));
}

-- as the code slices it
pub split_from : (source rest : List ℕ) (n : ℕ) → Split source rest → Split source (slice_from n rest)
split_from source rest n s = subst (Split source) (sym (slice_is n rest)) (split_drop source rest n s)

-- ---- a cut

-- before the end and before the whole
pub cut_end : (source : List ℕ) → IsUtf8 source → IsCut source 0
cut_end source u = subst IsUtf8 (sym (take_all (length source - 0) source (omega arith))) u

pub cut_whole : (source : List ℕ) → IsCut source (length source)
cut_whole source =
    let none : length source - length source ≡ 0 = omega arith in
    rw none IsUtf8-nil

-- before what is left, if that is a text
pub cut_rest : (source rest : List ℕ) → IsUtf8 source → IsUtf8 rest → Split source rest → IsCut source (length rest)
cut_rest source rest u v s =
    let n : length source - length rest ≡ length s.front = omega (arith, ap length s.is, length-append s.front rest) in
    rw n (IsUtf8-take source (length s.front) u (IsCharBoundary-at_seam source s.front rest s.is v))

-- before a byte that is ASCII
pub cut_before : (source rest : List ℕ) → 1 ≤ length rest → get_or rest 0 0 < 128 → Split source rest → IsUtf8 source → IsCut source (length rest)
cut_before source [] some small s u = absurd (omega arith)
cut_before source (b ∷ rest) some small s u = cut_rest source (b ∷ rest) u (cut s.front b rest small (subst IsUtf8 s.is u)).1 s

-- in what is left
pub cut_more : (source rest : List ℕ) (left : ℕ) → IsUtf8 source → IsUtf8 rest → Split source rest → left ≤ length rest → IsCut rest left → IsCut source left
cut_more source rest left u v s le h =
    let n : length source - left ≡ length s.front + (length rest - left) = omega (arith, ap length s.is, length-append s.front rest) in
    let m : length source - length rest ≡ length s.front = omega (arith, ap length s.is, length-append s.front rest) in
    let front : IsUtf8 s.front = subst IsUtf8 (ap (take (length source - length rest)) s.is ∙ take_at s.front rest (length source - length rest) (sym m)) (cut_rest source rest u v s) in
    let text : take (length source - left) source ≡ s.front ++ take (length rest - left) rest = rw n (ap (take (length s.front + (length rest - left))) s.is ∙ take-append-add s.front rest (length rest - left)) in
    subst IsUtf8 (sym text) (IsUtf8-append s.front (take (length rest - left) rest) front h)

-- in a front
pub cut_front : (source : List ℕ) (n left : ℕ) → n ≤ length source → left ≤ n → IsCut (take n source) left → IsCut source ((length source - n) + left)
cut_front source n left within le h =
    let front = take n source in
    let its : length front ≡ n = omega (arith, length-take n source) in
    let whole : length source - ((length source - n) + left) ≡ length front - left = omega arith in
    rw whole (subst IsUtf8 (sym (take-append-le (length front - left) front (drop n source) (omega arith)) ∙ ap (take (length front - left)) (take-append-drop n source)) h)

-- ---- faults

pub at_whole : (bytes : List ℕ) (fault : Fault) → IsWithin bytes (errors.Fault (length bytes) (length bytes) fault)
at_whole bytes fault = record { order = omega arith; within = omega arith; begun_cut = cut_whole bytes; left_cut = cut_whole bytes }

-- in a comment that does not end
pub in_comment : (bytes : List ℕ) → IsUtf8 bytes → Within bytes 0 (length bytes)
in_comment bytes u = record { order = omega arith; within = omega arith; begun_cut = cut_whole bytes; left_cut = cut_end bytes u }

-- what follows a quote is a text
pub text_behind : (bytes : List ℕ) → class_of bytes ≡ classes.Quote → IsUtf8 bytes → IsUtf8 (tail_of bytes)
text_behind [] e u = absurd cc
text_behind (q ∷ bytes) e u = subst IsUtf8 (sym (slice_is 1 (q ∷ bytes))) (behind q bytes (first_small q bytes classes.Quote tt (λ h. absurd cc) e) u)

-- in a string
pub in_string : (bytes : List ℕ) (left : ℕ) → class_of bytes ≡ classes.Quote → IsUtf8 bytes → left ≤ length (tail_of bytes) → IsCut (tail_of bytes) left → Within bytes left (length bytes)
in_string bytes left e u le h = record {
  order = omega (arith, le, slice_length 1 bytes);
  within = omega arith;
  begun_cut = cut_whole bytes;
  left_cut = cut_more bytes (tail_of bytes) left u (text_behind bytes e u) (split_from bytes bytes 1 (split_whole bytes)) le h;
}

-- in what stands between its quotes
pub in_quotes : (bytes : List ℕ) (n left : ℕ) → class_of bytes ≡ classes.Quote → IsUtf8 bytes → n + 1 ≤ length (tail_of bytes) → left ≤ length (take n (tail_of bytes)) → IsCut (take n (tail_of bytes)) left → Within bytes ((length (tail_of bytes) - n) + left) (length bytes)
in_quotes bytes n left e u within le h =
    let its : length (take n (tail_of bytes)) ≡ n = omega (arith, length-take n (tail_of bytes)) in
    in_string bytes ((length (tail_of bytes) - n) + left) e u (omega arith) (cut_front (tail_of bytes) n left (omega arith) (omega arith) h)

pub break_byte : (b : ℕ) → is_break b ≡ true → b < 128
break_byte b e = grind arith

pub backslash : (b : ℕ) (rest : List ℕ) → is_bad b rest ≡ true → b < 128
backslash b rest e = let is = eqb-true b 92 (both (b == 92) (is_none (escape_at rest)) e).0 in omega arith

pub within_more : (source rest : List ℕ) (e : LexError) → IsUtf8 source → IsUtf8 rest → Split source rest → IsWithin rest e → IsWithin source e
within_more source rest errors.NoMemory u v s h = tt
within_more source rest (errors.Fault left begun fault) u v s h = record {
  order = h.order;
  within = omega (arith, h.within, ap length s.is, length-append s.front rest);
  begun_cut = cut_more source rest begun u v s h.within h.begun_cut;
  left_cut = cut_more source rest left u v s (omega (arith, h.order, h.within)) h.left_cut;
}

-- what follows a piece, in the source
pub split_next : (source bytes next : List ℕ) (w : Option Word) → kept (piece_at bytes) ≡ Some (w, next) → Split source bytes → Split source next
split_next source bytes next w h s =
    let k = kept_is (piece_at bytes) (w, next) h in
    let t = piece_takes bytes (k.0, next) k.1 in
    record { front = s.front ++ piece_then k.0 []; is = s.is ∙ ap (λ (r : List ℕ). s.front ++ r) (t.0 ∙ then_append k.0 next) ∙ sym (append_assoc s.front (piece_then k.0 []) next) }
