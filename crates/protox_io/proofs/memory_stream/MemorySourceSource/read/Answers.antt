use Rattle.std.proofs.Common.{◌≡◌, ◌≤◌, ◌+◌, ◌++◌, List, ℕ, take, drop, length, rules, ◌∙◌, sym, subst}
use Rattle.std.proofs.lemmas.List.{length-drop}
use Rattle.protox_io.proofs.Parts.{read_part}
use Rattle.protox_io.proofs.memory_stream.MemorySourceSource.read.Goals as goal

pub returns-clause-told : goal.returns-clause-told
returns-clause-told c =
    let fits : c.min-n.result ≤ length (drop c.self.inside.at c.self.inside.bytes) = rw length-drop (search rules) in
    let copied : c.copy_from_slice.new.self ≡ take c.min-n.result (drop c.self.inside.at c.self.inside.bytes) = search rules in
    let P : List ℕ → Type 0 = λ l. c.args.self.now.left ≡ take c.min-n.result (l ++ drop c.min-n.result c.args.buf.now) ++ drop (c.self.inside.at + c.min-n.result) c.self.inside.bytes in
    let whole : c.args.self.now.left ≡ drop c.self.inside.at c.self.inside.bytes = search rules in
    subst P (sym copied) (whole ∙ read_part c.self.inside.bytes c.args.buf.now c.self.inside.at c.min-n.result fits)
