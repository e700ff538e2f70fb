use Rattle.std.proofs.Common.{◌≡◌, ◌+◌, ◌<◌, ◌∷◌, [], rules, drop, length, pos, drop-cons, add-one, get_or, string_bytes, w32}
use Rattle.std.proofs.lemmas.List.{drop_all}
use Rattle.std.proofs.lemmas.Int.{to_z-of_z}
use mir.Val.{SFits}
use Rattle.protox_file_error.specs.Lines.{dotted}
use Rattle.protox_file_error.proofs.Said.{dotted_step, dotted_end}
use Rattle.protox_file_error.proofs.lines.dotted.Goals as goal

pub returns : goal.returns
returns c =
    let none : drop c.loop-number.number-index c.args.numbers.now ≡ [] = search (rules, drop_all) in
    let whole : string_bytes c.loop-number.text ≡ dotted c.args.numbers.now = dotted_end c.args.numbers.now c.loop-number.number-index c.loop-number.first _ (string_bytes c.loop-number.text) none c.loop-number.invariant in
    search rules

pub loop-number-preserved : goal.loop-number-preserved
loop-number-preserved c =
    let i = c.loop-number.number-index in
    let n = get_or c.args.numbers.now i (pos 0) in
    let fits : SFits w32 (get_or c.args.numbers.now c.loop-number.number-index (pos 0)) = search rules in
    let added = simp to_z-of_z at c.in_ok-push_number.ensures in
    let within : c.loop-number.number-index < length c.args.numbers.now = c.loop-number-test.true in
    let next : drop c.loop-number.number-index c.args.numbers.now ≡ get_or c.args.numbers.now c.loop-number.number-index (pos 0) ∷ drop (c.loop-number.number-index + 1) c.args.numbers.now = rw add-one (drop-cons c.args.numbers.now c.loop-number.number-index (pos 0) within) in
    dotted_step c.args.numbers.now i n c.loop-number.first _ (string_bytes c.loop-number.text) (string_bytes c.push_number.new.text) next c.loop-number.invariant added
