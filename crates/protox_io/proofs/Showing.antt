-- Texts that are shown character by character.
use Rattle.std.proofs.Common.{◌≡◌, ◌++◌, ◌∙◌, ◌∷◌, ◌||◌, [], ℕ, List, Bool, true, false, length, map, codes, sym, ap, refl, append_assoc, append-nil, arith, Result, Ok, Err}
use Rattle.std.specs.Bool.{if◌then◌else◌}
use Rattle.std.specs.List.{flat_map, list_any}
use Rattle.std.specs.Prelude.{encode_utf8}
use Rattle.std.specs.Str.{IsUtf8, chars}
use Rattle.std.proofs.Math.Utf8.{encode, encodes}
use Rattle.std.proofs.lemmas.Str.{chars_past_char, chars_from_encodes, encodes-chars, IsUtf8-nil}
use Rattle.pbx_text.specs.Invisible.{is_invisible}
use Rattle.protox_io.specs.Shown.{escape, shown, shown_char, shown_line}
use Rattle.protox_io.specs.Sink.{Appends, Begins, Prints}
use Rattle.protox_io.proofs.Counts.{piece_refused}

shown_step : (bs rest : List ℕ) (c : ℕ) → IsUtf8 bs → bs ≡ encode_utf8 c ++ rest → shown bs ≡ shown_char c ++ shown rest
shown_step bs rest c u e = ap (flat_map shown_char) (chars_past_char bs rest c u e)

pub shown_on : (text bs rest : List ℕ) (c : ℕ) (old mid new : List ℕ) → IsUtf8 bs → bs ≡ encode_utf8 c ++ rest → Appends old mid (λ a. shown text ≡ a ++ shown bs)
    → Appends mid new (λ a. a ≡ shown_char c) → Appends old new (λ a. shown text ≡ a ++ shown rest)
shown_on text bs rest c old mid new u e a b = record {
  added = a.added ++ b.added;
  is = b.is ∙ ap (λ l. l ++ b.added) a.is ∙ append_assoc old a.added b.added;
  so = a.so ∙ ap (λ l. a.added ++ l) (shown_step bs rest c u e) ∙ sym (append_assoc a.added (shown_char c) (shown rest))
      ∙ ap (λ l. (a.added ++ l) ++ shown rest) (sym b.so);
}

pub shown_refused : (text bs rest : List ℕ) (c : ℕ) (old mid new : List ℕ) → IsUtf8 bs → bs ≡ encode_utf8 c ++ rest → Appends old mid (λ a. shown text ≡ a ++ shown bs)
    → Appends mid new (λ a. Begins a (shown_char c)) → Appends old new (λ a. Begins a (shown text))
shown_refused text bs rest c old mid new u e a b =
    piece_refused (shown text) (shown rest) (shown_char c) old mid new (record { added = a.added; is = a.is; so = a.so ∙ ap (λ l. a.added ++ l) (shown_step bs rest c u e) }) b

nothing_shown : (bs : List ℕ) → length bs ≡ 0 → shown bs ≡ []
nothing_shown [] z = ap (flat_map shown_char) (sym (chars_from_encodes [] [] IsUtf8-nil refl))
nothing_shown (b ∷ bs) z = absurd (omega arith)

pub shown_end : (text bs old new : List ℕ) → length bs ≡ 0 → Appends old new (λ a. shown text ≡ a ++ shown bs) → Appends old new (λ a. a ≡ shown text)
shown_end text bs old new z a =
    record { added = a.added; is = a.is; so = sym (a.so ∙ ap (λ l. a.added ++ l) (nothing_shown bs z) ∙ append-nil a.added) }

-- ---- texts without invisible characters

plain_chars : (cs : List ℕ) → list_any is_invisible cs ≡ false → flat_map shown_char cs ≡ encodes cs
plain_chars [] e = refl
plain_chars (c ∷ cs) e = at (plain_chars cs) (is_invisible c) refl e
  where
    at : (list_any is_invisible cs ≡ false → flat_map shown_char cs ≡ encodes cs) → (v : Bool) → is_invisible c ≡ v → (v || list_any is_invisible cs) ≡ false
        → shown_char c ++ flat_map shown_char cs ≡ encode c ++ encodes cs
    at more true q e = absurd (let no : ⊥ = cc in no)
    at more false q e = ap (λ v. (if v then escape c else encode_utf8 c) ++ flat_map shown_char cs) q ∙ ap (λ l. encode c ++ l) (more e)

-- such a text is shown as it is
pub plain_shown : (text : List ℕ) → IsUtf8 text → list_any is_invisible (chars text) ≡ false → shown text ≡ text
plain_shown text u e = plain_chars (chars text) e ∙ encodes-chars text u

pub invisible_found : (bs rest : List ℕ) (c : ℕ) → IsUtf8 bs → bs ≡ encode_utf8 c ++ rest → is_invisible c ≡ true → list_any is_invisible (chars bs) ≡ true
invisible_found bs rest c u e is = ap (list_any is_invisible) (chars_past_char bs rest c u e) ∙ ap (λ v. v || list_any is_invisible (chars rest)) is

pub invisible_next : (bs rest : List ℕ) (c : ℕ) → IsUtf8 bs → bs ≡ encode_utf8 c ++ rest → is_invisible c ≡ false
    → list_any is_invisible (chars bs) ≡ list_any is_invisible (chars rest)
invisible_next bs rest c u e is = ap (list_any is_invisible) (chars_past_char bs rest c u e) ∙ ap (λ v. v || list_any is_invisible (chars rest)) is

pub invisible_none : (bs : List ℕ) → length bs ≡ 0 → list_any is_invisible (chars bs) ≡ false
invisible_none [] z = ap (list_any is_invisible) (sym (chars_from_encodes [] [] IsUtf8-nil refl))
invisible_none (b ∷ bs) z = absurd (omega arith)

-- ---- a line and its line feed

module _ {X : Type 0} (now : X → List ℕ) where
  lined : (texts : List X) → flat_map (λ t. shown (now t)) texts ≡ flat_map shown (map now texts)
  lined [] = refl
  lined (t ∷ ts) = ap (λ l. shown (now t) ++ l) (lined ts)

  -- where the texts were refused, the first bytes of the line stand there
  pub line_refused : (texts : List X) (old new : List ℕ) → Appends old new (λ added. Begins added (flat_map (λ t. shown (now t)) texts))
      → Appends old new (λ added. Begins added (shown_line (map now texts)))
  line_refused texts old new a = record {
    added = a.added;
    is = a.is;
    so = record {
      rest = a.so.rest ++ codes "\n";
      is = ap (λ l. l ++ codes "\n") (sym (lined texts) ∙ a.so.is) ∙ append_assoc a.added a.so.rest (codes "\n");
    };
  }

  -- the line feed behind the texts
  pub line_ends : {T E : Type 0} (texts : List X) (old mid new : List ℕ) (result : Result T E) → Appends old mid (λ added. added ≡ flat_map (λ t. shown (now t)) texts)
      → Appends mid new (Prints (codes "\n") result) → Appends old new (Prints (shown_line (map now texts)) result)
  line_ends texts old mid new (Ok x) a b = record {
    added = a.added ++ b.added;
    is = b.is ∙ ap (λ l. l ++ b.added) a.is ∙ append_assoc old a.added b.added;
    so = ap (λ l. l ++ b.added) (a.so ∙ lined texts) ∙ ap (λ l. flat_map shown (map now texts) ++ l) b.so;
  }
  line_ends texts old mid new (Err e) a b =
      piece_refused (shown_line (map now texts)) [] (codes "\n") old mid new
      (record { added = a.added; is = a.is; so = ap (λ l. l ++ codes "\n") (sym (a.so ∙ lined texts)) ∙ ap (λ l. a.added ++ l) (sym (append-nil (codes "\n"))) }) b
