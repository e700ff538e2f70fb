-- A string that is read byte by byte has characters, and they are read so.
use Rattle.std.proofs.Common.{◌≡◌, ℕ, zero, suc, ◌+◌, ◌<◌, ◌≤◌, Bool, true, false, List, [], ◌∷◌, ◌++◌, length, take, drop, map, Option, Some, None, refl, sym, ap, subst, ◌∙◌, append_assoc, eq-eqb, lit≤, arith, not}
use Rattle.std.specs.Prelude.{◌==◌, ◌&&◌, ◌||◌, nat_lt, nat_le, option_map, unwrap_or, is_none}
use Rattle.std.specs.List.{list_all, prefix_len}
use Rattle.std.proofs.lemmas.Bool.{eqb-true, ltb-true, and_right, false≢true}
use Rattle.std.proofs.lemmas.List.{take_at, drop_at, take-append-drop, length-append, length-take, length-drop}
use Rattle.std.proofs.lemmas.List.Sums.{prefix_len-le-length}
use Rattle.pbx_parse_token.specs.declared.escape.Escape.{Escape}
use Rattle.pbx_parse_token.specs.declared.run.Run.TheVariants as runs
use Rattle.pbx_parse_token.specs.Bytes.{passes, digit_of, digits_value, is_break}
use Rattle.pbx_parse_token.specs.Escapes.{simple_value, number_at, escape_at, Character, itself, escaped, value_of, characters_text, IsCharacter, AreCharacters, IsString, unescaped}
use Rattle.pbx_parse_token.specs.Scan.{has_good_escapes, quoted_end}
use Rattle.pbx_parse_token.proofs.Options.{done, some_is, map_some, mapped, map_zero, map_more}
use Rattle.pbx_parse_token.proofs.Classes.{by_test, by_bool, both}
use Rattle.pbx_parse_token.proofs.Integers.{front_digits}
use Rattle.pbx_parse_token.proofs.Unescaping.{good_none, good_first, unescaped_none, unescaped_first}

-- ---- tests

or_rest : (a b : Bool) → (a || b) ≡ true → a ≡ false → b ≡ true
or_rest true b e f = absurd (false≢true (sym f))
or_rest false b e f = e

neither : (a b : Bool) → (a || b) ≡ false → (a ≡ false) × (b ≡ false)
neither true b e = absurd (false≢true (sym e))
neither false b e = (refl, e)

and_true : (a : Bool) → (a && true) ≡ false → a ≡ false
and_true true e = e
and_true false e = refl

abbrev IsQuote : ℕ → Type 0
IsQuote q = ((q == 34) || (q == 39)) ≡ true

either_quote : (P : ℕ → Type 0) (q : ℕ) → IsQuote q → P 34 → P 39 → P q
either_quote P q e x y =
    by_bool (q == 34) (λ p. subst P (sym (eqb-true q 34 p)) x)
    (λ p. subst P (sym (eqb-true q 39 (or_rest (q == 34) (q == 39) e p))) y)

-- ---- digits are neither quotes nor backslashes, and no line feed or zero byte

apart : (x y base : ℕ) → x ≡ y → x < base → base ≤ 16 → 16 ≤ y → ⊥
apart x y base e lt le big = omega arith

not_digit : (b k base : ℕ) → 16 ≤ digit_of k → base ≤ 16 → passes (runs.Digits base) b ≡ true → (b == k) ≡ false
not_digit b k base big le e =
    by_bool (b == k) (λ p. absurd (apart (digit_of b) (digit_of k) base (ap digit_of (eqb-true b k p)) (ltb-true (digit_of b) base e) le big)) (λ p. p)

not_quote : (b q base : ℕ) → IsQuote q → base ≤ 16 → passes (runs.Digits base) b ≡ true → (b == q) ≡ false
not_quote b q base is le e = not_digit b q base (either_quote (λ k. 16 ≤ digit_of k) q is (lit≤ tt) (lit≤ tt)) le e

past_digits : (q base : ℕ) → IsQuote q → base ≤ 16 → (ds more : List ℕ) → list_all (passes (runs.Digits base)) ds ≡ true
    → quoted_end q false (ds ++ more) ≡ option_map (λ n. length ds + n) (quoted_end q false more)
unfolding quoted_end
past_digits q base is le [] more e = sym (map_zero (quoted_end q false more))
past_digits q base is le (b ∷ ds) more e =
    let h = both (passes (runs.Digits base) b) (list_all (passes (runs.Digits base)) ds) e in
    rw (not_quote b q base is le h.0, not_digit b 92 base (lit≤ tt) le h.0, not_digit b 10 base (lit≤ tt) le h.0, not_digit b 0 base (lit≤ tt) le h.0)
    (ap (option_map (λ n. 1 + n)) (past_digits q base is le ds more h.1) ∙ map_more (length ds) (quoted_end q false more))

-- ---- escapes

-- what follows a backslash: a byte, and digits
record Shape (t : List ℕ) : Type 0 where
  base : ℕ
  first : ℕ
  rest : List ℕ
  small : base ≤ 16
  is : t ≡ first ∷ rest
  fine : is_break first ≡ false
  digits : list_all (passes (runs.Digits base)) rest ≡ true

past_first : (q base first : ℕ) (rest more : List ℕ) → IsQuote q → base ≤ 16 → is_break first ≡ false → list_all (passes (runs.Digits base)) rest ≡ true
    → quoted_end q true ((first ∷ rest) ++ more) ≡ option_map (λ n. length (first ∷ rest) + n) (quoted_end q false more)
unfolding quoted_end
past_first q base first rest more is le fine digits =
    rw (and_right (first == q) false refl, fine, and_right (first == 92) false refl)
    (ap (option_map (λ n. 1 + n)) (past_digits q base is le rest more digits) ∙ map_more (length rest) (quoted_end q false more))

past_escape : (q : ℕ) (t more : List ℕ) → IsQuote q → Shape t → quoted_end q true (t ++ more) ≡ option_map (λ n. length t + n) (quoted_end q false more)
past_escape q t more is s =
    subst (λ (u : List ℕ). quoted_end q true (u ++ more) ≡ option_map (λ n. length u + n) (quoted_end q false more)) (sym s.is)
    (past_first q s.base s.first s.rest more is s.small s.fine s.digits)

record Digits (base : ℕ) (bytes : List ℕ) (n : ℕ) : Type 0 where
  some : 0 < n
  within : n ≤ length bytes
  all : list_all (passes (runs.Digits base)) (take n bytes) ≡ true

number_digits : (base most : ℕ) (bytes : List ℕ) (e : Escape) → number_at base most bytes ≡ Some e → Digits base bytes e.size
number_digits base most bytes e h =
    let p = passes (runs.Digits base) in
    let n = prefix_len p (take most bytes) in
    let v = digits_value base (take n bytes) in
    by_test (nat_lt 0 n && nat_le v 255) (done (record { value = v; size = n })) None (Some e) h
    (λ t q.
    let its : Digits base bytes n = record {
      some = ltb-true 0 n (both (nat_lt 0 n) (nat_le v 255) t).0;
      within = omega (arith, prefix_len-le-length p (take most bytes), length-take most bytes);
      all = front_digits p most bytes;
    } in
    subst (λ (x : Escape). Digits base bytes x.size) (some_is (record { value = v; size = n }) e q) its)
    (λ t q. absurd cc)

octal_fine : (b : ℕ) → (nat_le 48 b && nat_le b 55) ≡ true → is_break b ≡ false
octal_fine b e = grind arith

simple_fine : (b v : ℕ) → simple_value b ≡ Some v → is_break b ≡ false
simple_fine b v e =
    by_bool (b == 10) (λ p. absurd (let h : simple_value 10 ≡ Some v = ap simple_value (sym (eqb-true b 10 p)) ∙ e in cc))
    (λ p. by_bool (b == 0) (λ p2. absurd (let h : simple_value 0 ≡ Some v = ap simple_value (sym (eqb-true b 0 p2)) ∙ e in cc)) (λ p2. rw (p, p2) refl))

record Shaped (s : List ℕ) (e : Escape) : Type 0 where
  within : e.size ≤ length s
  shape : Shape (take e.size s)

hexadecimal_shape : (bytes : List ℕ) (d : Escape) → Digits 16 bytes d.size → Shaped (120 ∷ bytes) (record { value = d.value; size = d.size + 1 })
hexadecimal_shape bytes d h =
    let n : d.size + 1 ≡ suc d.size = omega arith in
    record {
      within = omega (arith, h.within);
      shape = record { base = 16; first = 120; rest = take d.size bytes; small = omega arith; is = ap (λ k. take k (120 ∷ bytes)) n; fine = refl; digits = h.all };
    }

octal_shape : (b : ℕ) (bytes : List ℕ) (value size : ℕ) → is_break b ≡ false → Digits 8 (b ∷ bytes) size → Shaped (b ∷ bytes) (record { value = value; size = size })
octal_shape b bytes value zero fine h = absurd (omega (arith, h.some))
octal_shape b bytes value (suc n) fine h = record {
  within = h.within;
  shape = record { base = 8; first = b; rest = take n bytes; small = omega arith; is = refl; fine = fine; digits = (both (passes (runs.Digits 8) b) (list_all (passes (runs.Digits 8)) (take n bytes)) h.all).1 };
}

simple_shape : (b v : ℕ) (bytes : List ℕ) → is_break b ≡ false → Shaped (b ∷ bytes) (record { value = v; size = 1 })
simple_shape b v bytes fine = record {
  within = omega arith;
  shape = record { base = 16; first = b; rest = []; small = omega arith; is = refl; fine = fine; digits = refl };
}

shape_of : (s : List ℕ) (e : Escape) → escape_at s ≡ Some e → Shaped s e
unfolding escape_at
shape_of [] e h = absurd cc
shape_of (b ∷ bytes) e h =
    by_test (b == 120) (option_map (λ (d : Escape). let x : Escape = record { value = d.value; size = d.size + 1 } in x) (number_at 16 2 bytes)) _ (Some e) h
    (λ p q.
    let d = mapped (λ (d : Escape). let x : Escape = record { value = d.value; size = d.size + 1 } in x) (number_at 16 2 bytes) e q in
    subst (Shaped (b ∷ bytes)) d.2 (subst (λ (x : ℕ). Shaped (x ∷ bytes) (record { value = d.0.value; size = d.0.size + 1 })) (sym (eqb-true b 120 p)) (hexadecimal_shape bytes d.0 (number_digits 16 2 bytes d.0 d.1))))
    (λ p q. by_test (nat_le 48 b && nat_le b 55) (number_at 8 3 (b ∷ bytes)) _ (Some e) q
    (λ p2 q2. octal_shape b bytes e.value e.size (octal_fine b p2) (number_digits 8 3 (b ∷ bytes) e q2))
    (λ p2 q2.
    let d = mapped (λ (v : ℕ). let x : Escape = record { value = v; size = 1 } in x) (simple_value b) e q2 in
    subst (Shaped (b ∷ bytes)) d.2 (simple_shape b d.0 bytes (simple_fine b d.0 d.1))))

-- ---- one character

good_itself : (b : ℕ) (bs : List ℕ) → (b == 92) ≡ false → has_good_escapes (b ∷ bs) ≡ has_good_escapes bs
good_itself b bs e = good_first b bs ∙ rw e refl

good_escape : (b : ℕ) (bs : List ℕ) (o : Option Escape) → (b == 92) ≡ true → escape_at bs ≡ o
    → has_good_escapes (b ∷ bs) ≡ (not (is_none o) && has_good_escapes (drop (unwrap_or o (record { value = b; size = 0 })).size bs))
good_escape b bs o e at = good_first b bs ∙ rw (e, at) refl

plain_character : (q b : ℕ) (bs rest : List ℕ) → (b == 92) ≡ false → ((b == q) && true) ≡ false → is_break b ≡ false → quoted_end q ((b == 92) && true) (bs ++ (q ∷ rest)) ≡ Some (length bs) → has_good_escapes (b ∷ bs) ≡ true
    → (quoted_end q false (bs ++ (q ∷ rest)) ≡ Some (length bs) → has_good_escapes bs ≡ true → IsString q bs) → IsString q (b ∷ bs)
plain_character q b bs rest plain other fine next good self =
    let s = self (ap (λ (v : Bool). quoted_end q (v && true) (bs ++ (q ∷ rest))) (sym plain) ∙ next) (sym (good_itself b bs plain) ∙ good) in
    let its : IsCharacter q (itself b) (characters_text s.characters) = rw (and_true (b == q) other, plain, fine) refl in
    record { characters = itself b ∷ s.characters; text_is = ap (λ (r : List ℕ). b ∷ r) s.text_is; are = (its, s.are) }

escaped_with : (q b : ℕ) (bs front back rest : List ℕ) (v : ℕ) → IsQuote q → (b == 92) ≡ true → bs ≡ front ++ back → Shape front → escape_at bs ≡ done (record { value = v; size = length front })
    → quoted_end q ((b == 92) && true) (bs ++ (q ∷ rest)) ≡ Some (length bs) → (quoted_end q false (back ++ (q ∷ rest)) ≡ Some (length back) → IsString q back) → IsString q (b ∷ bs)
escaped_with q b bs front back rest v is slash whole shape at next self =
    let after = quoted_end q false (back ++ (q ∷ rest)) in
    let split : bs ++ (q ∷ rest) ≡ front ++ (back ++ (q ∷ rest)) = ap (λ (r : List ℕ). r ++ (q ∷ rest)) whole ∙ append_assoc front back (q ∷ rest) in
    let ends : quoted_end q true (bs ++ (q ∷ rest)) ≡ Some (length bs) = ap (λ (t : Bool). quoted_end q (t && true) (bs ++ (q ∷ rest))) (sym slash) ∙ next in
    let past : quoted_end q true (bs ++ (q ∷ rest)) ≡ option_map (λ n. length front + n) after = ap (quoted_end q true) split ∙ past_escape q front (back ++ (q ∷ rest)) is shape in
    let m = mapped (λ n. length front + n) after (length bs) (sym past ∙ ends) in
    let left : m.0 ≡ length back = omega (arith, m.2, ap length whole, length-append front back) in
    let s = self (m.1 ∙ ap done left) in
    let text : bs ≡ front ++ characters_text s.characters = whole ∙ ap (λ (r : List ℕ). front ++ r) s.text_is in
    record {
      characters = escaped front v ∷ s.characters;
      text_is = ap (λ (c : ℕ). c ∷ bs) (eqb-true b 92 slash) ∙ ap (λ (r : List ℕ). 92 ∷ r) text;
      are = (ap escape_at (sym text) ∙ at, s.are);
    }

escaped_character : (q b : ℕ) (bs rest : List ℕ) (o : Option Escape) → IsQuote q → (b == 92) ≡ true → escape_at bs ≡ o → quoted_end q ((b == 92) && true) (bs ++ (q ∷ rest)) ≡ Some (length bs) → has_good_escapes (b ∷ bs) ≡ true
    → ((t : List ℕ) → length t ≤ length bs → quoted_end q false (t ++ (q ∷ rest)) ≡ Some (length t) → has_good_escapes t ≡ true → IsString q t) → IsString q (b ∷ bs)
escaped_character q b bs rest None is slash at next good self = absurd (false≢true (sym (good_escape b bs None slash at) ∙ good))
escaped_character q b bs rest (Some x) is slash at next good self =
    let its = shape_of bs x at in
    let size : length (take x.size bs) ≡ x.size = omega (arith, length-take x.size bs, its.within) in
    let shorter : length (drop x.size bs) ≤ length bs = omega (arith, length-drop x.size bs) in
    escaped_with q b bs (take x.size bs) (drop x.size bs) rest x.value is slash (sym (take-append-drop x.size bs)) its.shape (at ∙ ap (λ n. done (record { value = x.value; size = n })) (sym size)) next
    (λ e. self (drop x.size bs) shorter e (sym (good_escape b bs (Some x) slash at) ∙ good))

-- ---- all characters

string_in : (q m : ℕ) (t rest : List ℕ) → IsQuote q → length t ≤ m → quoted_end q false (t ++ (q ∷ rest)) ≡ Some (length t) → has_good_escapes t ≡ true → IsString q t
unfolding quoted_end
string_in q m [] rest is le e good = record { characters = []; text_is = refl; are = tt }
string_in q zero (b ∷ bs) rest is le e good = absurd (omega arith)
string_in q (suc m) (b ∷ bs) rest is le e good =
    let others = quoted_end q ((b == 92) && true) (bs ++ (q ∷ rest)) in
    by_test ((b == q) && true) (Some 0) _ (Some (suc (length bs))) e
    (λ p h. absurd (omega (arith, some_is 0 (suc (length bs)) h)))
    (λ p h. by_test (is_break b) None (option_map (λ k. 1 + k) others) (Some (suc (length bs))) h
    (λ p2 h2. absurd cc)
    (λ p2 h2.
    let k = map_some others (suc (length bs)) h2 in
    let left : k.0 ≡ length bs = omega (arith, k.2) in
    let next : others ≡ Some (length bs) = k.1 ∙ ap done left in
    by_bool (b == 92)
    (λ slash. escaped_character q b bs rest (escape_at bs) is slash refl next good (λ t short f g. string_in q m t rest is (omega arith) f g))
    (λ plain. plain_character q b bs rest plain p p2 next good (λ f g. string_in q m bs rest is (omega arith) f g))))

pub to_string : (q : ℕ) → IsQuote q → (t rest : List ℕ) → quoted_end q false (t ++ (q ∷ rest)) ≡ Some (length t) → has_good_escapes t ≡ true → IsString q t
to_string q is t rest e good = string_in q (length t) t rest is (omega arith) e good

read_all : (q : ℕ) (cs : List Character) (rest : List ℕ) → IsQuote q → AreCharacters q cs → (quoted_end q false (characters_text cs ++ (q ∷ rest)) ≡ Some (length (characters_text cs))) × (has_good_escapes (characters_text cs) ≡ true)
unfolding quoted_end
read_all q [] rest is are = (rw (eq-eqb q q refl) refl, good_none [] (omega arith))
read_all q (itself b ∷ cs) rest is are =
    let text = characters_text cs in
    let tests = neither ((b == q) || (b == 92)) (is_break b) are.0 in
    let first = neither (b == q) (b == 92) tests.0 in
    let more = read_all q cs rest is are.1 in
    let n : 1 + length text ≡ suc (length text) = omega arith in
    (rw (first.0, tests.1, first.1) (ap (option_map (λ k. 1 + k)) more.0 ∙ ap done n), good_itself b text first.1 ∙ more.1)
read_all q (escaped t v ∷ cs) rest is are =
    let text = characters_text cs in
    let shape = subst Shape (take_at t text (length t) refl) (shape_of (t ++ text) (record { value = v; size = length t }) are.0).shape in
    let more = read_all q cs rest is are.1 in
    let other : (92 == q) ≡ false = either_quote (λ k. (92 == k) ≡ false) q is refl refl in
    let n : 1 + (length t + length text) ≡ suc (length (t ++ text)) = omega (arith, length-append t text) in
    let behind : quoted_end q true ((t ++ text) ++ (q ∷ rest)) ≡ done (length t + length text)
    = ap (quoted_end q true) (append_assoc t text (q ∷ rest)) ∙ past_escape q t (text ++ (q ∷ rest)) is shape ∙ ap (option_map (λ k. length t + k)) more.0 in
    (rw other (ap (option_map (λ k. 1 + k)) behind ∙ ap done n), good_escape 92 (t ++ text) (Some (record { value = v; size = length t })) refl are.0 ∙ ap has_good_escapes (drop_at t text (length t) refl) ∙ more.1)

pub from_string : (q : ℕ) → IsQuote q → (t rest : List ℕ) → IsString q t → (quoted_end q false (t ++ (q ∷ rest)) ≡ Some (length t)) × (has_good_escapes t ≡ true)
from_string q is t rest s =
    subst (λ (u : List ℕ). (quoted_end q false (u ++ (q ∷ rest)) ≡ Some (length u)) × (has_good_escapes u ≡ true)) (sym s.text_is) (read_all q s.characters rest is s.are)

-- ---- their values

unescaped_itself : (b : ℕ) (bs : List ℕ) → (b == 92) ≡ false → unescaped (b ∷ bs) ≡ b ∷ unescaped bs
unescaped_itself b bs e = unescaped_first b bs ∙ rw e refl

unescaped_escape : (bs : List ℕ) (e : Escape) → escape_at bs ≡ Some e → unescaped (92 ∷ bs) ≡ e.value ∷ unescaped (drop e.size bs)
unescaped_escape bs e at = unescaped_first 92 bs ∙ rw at refl

pub values : (q : ℕ) (cs : List Character) → AreCharacters q cs → unescaped (characters_text cs) ≡ map value_of cs
values q [] are = unescaped_none [] (omega arith)
values q (itself b ∷ cs) are =
    let first = neither (b == q) (b == 92) (neither ((b == q) || (b == 92)) (is_break b) are.0).0 in
    unescaped_itself b (characters_text cs) first.1 ∙ ap (λ (r : List ℕ). b ∷ r) (values q cs are.1)
values q (escaped t v ∷ cs) are =
    let text = characters_text cs in
    unescaped_escape (t ++ text) (record { value = v; size = length t }) are.0 ∙ ap (λ (r : List ℕ). v ∷ r) (ap unescaped (drop_at t text (length t) refl) ∙ values q cs are.1)
