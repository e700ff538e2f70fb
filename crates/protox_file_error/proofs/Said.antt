-- What lines are made of.
use Rattle.std.proofs.Common.{◌≡◌, ◌+◌, ℕ, ℤ, List, [], ◌∷◌, ◌++◌, Bool, true, false, cond, drop, append_assoc, append-nil, Result, Ok, Err, IfOk, sym, ap, ◌∙◌, codes}
use Rattle.std.specs.List.{concat}
use Rattle.std.specs.Fmt.{signed_decimal}
use Rattle.std.proofs.lemmas.List.Folds.{concat-append}
use Rattle.protox_file_error.specs.declared.error.ErrorKind.{ErrorKind}
use Rattle.protox_file_error.specs.Lines.{dotted, dots_before, before_line, line_of, behind_line, long_line_of}

-- one more number
pub dotted_step : (ns : List ℤ) (i : ℕ) (n : ℤ) (first : Bool) (whole text new : List ℕ) → drop i ns ≡ n ∷ drop (i + 1) ns → whole ≡ text ++ cond first (dotted (drop i ns)) (dots_before (drop i ns)) → new ≡ text ++ cond first [] (codes ".") ++ signed_decimal n → whole ≡ new ++ dots_before (drop (i + 1) ns)
dotted_step ns i n true whole text new d h e =
    h ∙ ap (λ l. text ++ dotted l) d ∙ sym (append_assoc text (signed_decimal n) (dots_before (drop (i + 1) ns)))
    ∙ ap (λ l. (l ++ signed_decimal n) ++ dots_before (drop (i + 1) ns)) (sym (append-nil text)) ∙ ap (λ l. l ++ dots_before (drop (i + 1) ns)) (sym e)
dotted_step ns i n false whole text new d h e =
    h ∙ ap (λ l. text ++ dots_before l) d ∙ sym (append_assoc text (codes "." ++ signed_decimal n) (dots_before (drop (i + 1) ns)))
    ∙ ap (λ l. l ++ dots_before (drop (i + 1) ns)) (sym (append_assoc text (codes ".") (signed_decimal n)))
    ∙ ap (λ l. l ++ dots_before (drop (i + 1) ns)) (sym e)

-- no more numbers
pub dotted_end : (ns : List ℤ) (i : ℕ) (first : Bool) (whole text : List ℕ) → drop i ns ≡ [] → whole ≡ text ++ cond first (dotted (drop i ns)) (dots_before (drop i ns)) → text ≡ whole
dotted_end ns i true whole text d h = sym (h ∙ ap (λ l. text ++ dotted l) d ∙ append-nil text)
dotted_end ns i false whole text d h = sym (h ∙ ap (λ l. text ++ dots_before l) d ∙ append-nil text)

-- the three parts of a long line
pub long : {E : Type 0} (r : Result (List ℕ) E) (kind : ErrorKind) (x y z : List ℕ) → x ≡ concat (before_line kind) → y ≡ concat (line_of kind) → z ≡ concat (behind_line kind) → IfOk r (λ t. t ≡ x ++ y ++ z) → IfOk r (λ t. t ≡ concat (long_line_of kind))
long (Err e) kind x y z p q s h = tt
long (Ok t) kind x y z p q s h =
    h ∙ ap (λ l. (l ++ y) ++ z) p ∙ ap (λ l. (concat (before_line kind) ++ l) ++ z) q ∙ ap (λ l. (concat (before_line kind) ++ concat (line_of kind)) ++ l) s
    ∙ ap (λ l. l ++ concat (behind_line kind)) (sym (concat-append (before_line kind) (line_of kind)))
    ∙ sym (concat-append (before_line kind ++ line_of kind) (behind_line kind))
