use Rattle.std.proofs.Common.{◌∙◌, Some, ap, sym}
use Rattle.pbx_link_scope.specs.declared.types.Bound.{Bound}
use Rattle.pbx_link_scope.specs.declared.types.Bound.TheVariants.{Message as to_message}
use Rattle.pbx_link_rules_scope.proofs.Entries.{bound_if_named}
use Rattle.pbx_link_rules_scope.proofs.Extended.{unfit_is}
use Rattle.pbx_link_rules_scope.proofs.extension_numbers.is_unfit.Goals as goal

pub returns-in_ok-left-in-Some-Message-clause-unfit : goal.returns-in_ok-left-in-Some-Message-clause-unfit
returns-in_ok-left-in-Some-Message-clause-unfit g c = λ own.
    let files = g.V.Visible.files c.args.seen.now in
    let x = c.args.extension.now in
    let message = c.in-Some-Message.message in
    let found = sym c.in_ok-message.ensures ∙ c.in-Some-Message.is ∙ ap (λ (b : Bound). Some b) c.in-Some-Message.field-0-is in
    let known = bound_if_named files c.args.scope.now x.extendee (to_message message) found in
    unfit_is files c.args.scope.now x message found (sym c.is_field_number.ensures ∙ c.if-not-is_field_number.false) c.in_ok-left-in-Some-Message.left
    (c.in_ok-left-in-Some-Message.ensures.left files own known)

pub returns-in_ok-left-in-Some-Message-clause-own : goal.returns-in_ok-left-in-Some-Message-clause-own
returns-in_ok-left-in-Some-Message-clause-own g c = λ own.
    let files = g.V.Visible.files c.args.seen.now in
    let message = c.in-Some-Message.message in
    let found = sym c.in_ok-message.ensures ∙ c.in-Some-Message.is ∙ ap (λ (b : Bound). Some b) c.in-Some-Message.field-0-is in
    let known = bound_if_named files c.args.scope.now c.args.extension.now.extendee (to_message message) found in
    c.in_ok-left-in-Some-Message.ensures.own files own known
