use Rattle.std.proofs.Common.{refl, get_or}
use Rattle.pbx_link_rules_scope.specs.Defaults.{digits_value}
use Rattle.pbx_link_rules_scope.specs.Digits.{small}
use Rattle.pbx_link_rules_scope.proofs.Spelled.{spelled_next, spelled_none, spelled_done, digit_fits}
use Rattle.pbx_message_dynamic.proofs.defaults.digits_value.Goals as goal

pub returns-in-None : goal.returns-in-None
returns-in-None c =
    let digits = c.args.digits.now in
    let i = c.loop-digit.digit-index in
    spelled_none c.loop-digit.number digits i (get_or digits i 0) c.loop-digit-test.true refl (small (digits_value digits)) c.loop-digit.invariant.left
    c.with_digit.result c.with_digit.ensures c.in-None.is

pub loop-digit-preserved : goal.loop-digit-preserved
loop-digit-preserved c =
    let digits = c.args.digits.now in
    let i = c.loop-digit.digit-index in
    record {
      left = spelled_next c.loop-digit.number digits i (get_or digits i 0) c.loop-digit-test.true refl (small (digits_value digits))
          c.loop-digit.invariant.left c.with_digit.result c.with_digit.ensures c.in-Some.longer c.in-Some.is;
      fits = digit_fits c.loop-digit.number (get_or digits i 0) c.with_digit.result c.with_digit.ensures c.in-Some.longer c.in-Some.is;
    }

pub returns : goal.returns
returns c =
    spelled_done c.loop-digit.number c.args.digits.now c.loop-digit.digit-index (small (digits_value c.args.digits.now)) c.loop-digit-test.false
    c.loop-digit.invariant.fits c.loop-digit.invariant.left
