use Rattle.std.proofs.Common.{◌∙◌, Bool, true, if◌then◌else◌, sym, ap, arith, string_bytes}
use Rattle.std.specs.Str.{bytes_eq}
use Rattle.std.specs.BTreeSet.{contains_text}
use Rattle.std.proofs.lemmas.Grind.{common_steps}
use Rattle.std.proofs.lemmas.Map.Text.{btree_set_updates_text}
use Rattle.pbx_parse_translation.proofs.Taken.{among_more, swapped}
use Rattle.pbx_parse_translation.proofs.scope.Scope.add.Goals as goal

pub returns : goal.returns
returns c = λ names h.
    let name = c.args.name.now in
    let old = c.args.self.now.names in (
      grind (arith, common_steps, h.0),
      λ q.
          btree_set_updates_text (string_bytes c.in_ok-name.name) old c.insert.new.self true c.in_ok-insert.ensures.updates q
          ∙ ap (λ (b : Bool). if b then true else contains_text old q) (ap (λ n. bytes_eq n q) c.in_ok-name.ensures.ok ∙ swapped name q)
          ∙ ap (λ (b : Bool). if bytes_eq q name then true else b) (h.1 q)
          ∙ sym (among_more names name q),
    )
