use Rattle.std.proofs.Common.{◌≡◌, ◌≤◌, ◌+◌, ◌++◌, ◌∙◌, ℕ, List, sym, ap, take, drop, length}
use Rattle.std.proofs.lemmas.List.{take-append-drop, drop-drop, length-take-le}
use Rattle.std.proofs.Math.Seq.{take-append_seam}

-- a part of the bytes, copied before those of a buffer
pub read_part : (bytes buf : List ℕ) (at n : ℕ) → n ≤ length (drop at bytes) → drop at bytes ≡ take n (take n (drop at bytes) ++ drop n buf) ++ drop (at + n) bytes
read_part bytes buf at n h =
    let parts : take n (drop at bytes) ++ drop n (drop at bytes) ≡ drop at bytes = take-append-drop n (drop at bytes) in
    let front : take n (take n (drop at bytes) ++ drop n buf) ≡ take n (drop at bytes) =
    rw (length-take-le n (drop at bytes) h) at (take-append_seam (take n (drop at bytes)) (drop n buf)) in
    rw front (sym parts ∙ ap (λ l. take n (drop at bytes) ++ l) (drop-drop n at bytes))
