use Rattle.std.proofs.Common.{◌∙◌, ap}
use Rattle.std.specs.Prelude.{option_map}
use Rattle.pbx_link_rules_scope.specs.Known.{key_of}
use Rattle.pbx_link_rules_scope.proofs.Extended.{key_told, key_there, key_new, key_held, other_new, other_held, none_again}
use Rattle.pbx_link_rules_scope.proofs.extension_numbers.extended_again.Goals as goal
use Rattle.pbx_link_rules_scope.proofs.extension_numbers.extended_again.Goals.{in-Some+in_ok-insert+else-not-branch, in_default}

pub returns-then-not-branch : goal.returns-then-not-branch
returns-then-not-branch g c =
    let files = g.V.Visible.files c.args.seen.now in
    let p = c.extension-item.result in
    let told = key_told files p c.scope.result.now c.scope.ensures c.item.result.now c.item.ensures (option_map key_of c.in_ok-key.field-0)
    c.in_ok-key.ensures in
    key_there files c.args.extensions.now c.loop-extension.extension-index p c.loop-extension-test.true c.extension-item.is c.in-Some.key
    (told ∙ ap (option_map key_of) c.in-Some.is) c.loop-extension.numbers.keys c.loop-extension.invariant.held c.in_ok-insert.field-0
    c.in_ok-insert.ensures.added c.if-not-branch.true c.in_ok-at.field-0 c.in_ok-at.ensures

pub loop-extension-preserved : goal.loop-extension-preserved
loop-extension-preserved g c =
    let files = g.V.Visible.files c.args.seen.now in
    let p = c.extension-item.result in
    let told = key_told files p c.scope.result.now c.scope.ensures c.item.result.now c.item.ensures (option_map key_of c.in_ok-key.field-0)
    c.in_ok-key.ensures in
    elim c.match-branch-2.branch [
      | in-Some+in_ok-insert+else-not-branch w ↦
          record {
            none = key_new files c.args.extensions.now c.loop-extension.extension-index p c.loop-extension-test.true c.extension-item.is w.in-Some.key
                (told ∙ ap (option_map key_of) w.in-Some.is) c.loop-extension.numbers.keys c.loop-extension.invariant.held w.in_ok-insert.field-0
                w.in_ok-insert.ensures.added w.if-not-branch.false c.loop-extension.invariant.none;
            held = key_held files c.args.extensions.now c.loop-extension.extension-index p c.loop-extension-test.true c.extension-item.is w.in-Some.key
                (told ∙ ap (option_map key_of) w.in-Some.is) c.loop-extension.numbers.keys c.loop-extension.invariant.held w.in_ok-insert.field-0
                w.in_ok-insert.ensures.added c.match-branch-2.numbers.keys (ap (λ s. s.keys) w.numbers-is ∙ w.in_ok-insert.ensures.keys);
          }
      | in_default w ↦
          record {
            none = other_new files c.args.extensions.now c.loop-extension.extension-index p c.loop-extension-test.true c.extension-item.is
                (told ∙ ap (option_map key_of) w.in_default.is) c.loop-extension.invariant.none;
            held = other_held files c.args.extensions.now c.loop-extension.extension-index p c.loop-extension-test.true c.extension-item.is
                (told ∙ ap (option_map key_of) w.in_default.is) c.loop-extension.numbers.keys c.match-branch-2.numbers.keys c.loop-extension.invariant.held
                (ap (λ s. s.keys) w.numbers-is);
          }
    ]

pub returns : goal.returns
returns g c =
    none_again (g.V.Visible.files c.args.seen.now) c.args.extensions.now c.loop-extension.extension-index c.loop-extension-test.false
    c.loop-extension.invariant.none
