use Rattle.std.proofs.Common.{◌≡◌, List, ℕ, ◌+◌, ◌++◌, [], ◌∷◌, drop, string_bytes, refl, rules}
use Rattle.std.proofs.Math.Utf8.{encode}
use Rattle.pbx_text.proofs.Joins.{next_path, none_written, path_fails, path_goes}
use Rattle.pbx_text.proofs.mask.write_mask.Goals as goal

pub loop-path-init : goal.loop-path-init
loop-path-init c = (rw c.new-text.ensures.bytes (none_written c.args.paths.now), ([], (refl, refl)))

pub returns-in_err-piece-clause-err : goal.returns-in_err-piece-clause-err
returns-in_err-piece-clause-err c =
    let paths : List (List ℕ) = c.args.paths.now in
    let path : List ℕ = c.as_str.result.now in
    let text = string_bytes c.loop-path.text in
    let left = next_path paths text c.loop-path.separator.now c.loop-path.path-index path c.loop-path.invariant.0 (search rules) (search rules) in
    let why = path_fails paths text c.loop-path.separator.now path (drop (c.loop-path.path-index + 1) paths) c.in_err-piece.field-0.0 left (search rules) in
    search (rules, why)

pub loop-path-preserved : goal.loop-path-preserved
unfolding encode
loop-path-preserved c =
    let paths : List (List ℕ) = c.args.paths.now in
    let path : List ℕ = c.as_str.result.now in
    let text = string_bytes c.loop-path.text in
    let separator : List ℕ = c.loop-path.separator.now in
    let left = next_path paths text separator c.loop-path.path-index path c.loop-path.invariant.0 (search rules) (search rules) in
    let goes = path_goes paths text separator path c.in_ok-piece.piece (drop (c.loop-path.path-index + 1) paths) left (search rules) in
    let added : string_bytes c.push_piece.new.text ≡ text ++ separator ++ c.in_ok-piece.piece = search rules in
    (rw added goes, (44 ∷ [], (refl, refl)))
