-- The types of the schema, part by part.
use Rattle.std.proofs.Common.{◌≡◌, List, [], ◌++◌, take, drop, sym, ap, ◌∙◌, append_assoc}
use Rattle.std.proofs.lemmas.List.{take-append-drop}
use Rattle.pbx_content.specs.declared.shape.MessageShape.{MessageShape}

parted : (xs : List MessageShape)
    → take 7 xs ++ (take 7 (drop 7 xs) ++ (take 2 (drop 7 (drop 7 xs)) ++ (take 7 (drop 2 (drop 7 (drop 7 xs))) ++ drop 7 (drop 2 (drop 7 (drop 7 xs))))))
    ≡ xs
parted xs =
    ap (λ t. take 7 xs ++ (take 7 (drop 7 xs) ++ (take 2 (drop 7 (drop 7 xs)) ++ t))) (take-append-drop 7 (drop 2 (drop 7 (drop 7 xs))))
    ∙ ap (λ t. take 7 xs ++ (take 7 (drop 7 xs) ++ t)) (take-append-drop 2 (drop 7 (drop 7 xs)))
    ∙ ap (λ t. take 7 xs ++ t) (take-append-drop 7 (drop 7 xs))
    ∙ take-append-drop 7 xs

right : (a b c d e : List MessageShape) → (((([] ++ a) ++ b) ++ c) ++ d) ++ e ≡ a ++ (b ++ (c ++ (d ++ e)))
right a b c d e = simp (append_assoc)

pub joined : (xs a b c d e : List MessageShape) → a ≡ take 7 xs → b ≡ take 7 (drop 7 xs) → c ≡ take 2 (drop 7 (drop 7 xs))
    → d ≡ take 7 (drop 2 (drop 7 (drop 7 xs))) → e ≡ drop 7 (drop 2 (drop 7 (drop 7 xs))) → (((([] ++ a) ++ b) ++ c) ++ d) ++ e ≡ xs
joined xs a b c d e ha hb hc hd he = right a b c d e ∙ rw (ha, hb, hc, hd, he) (parted xs)
