use Rattle.std.proofs.Common.{◌≡◌, true, false, sym, refl, ◌∙◌}
use Rattle.std.specs.Int.{is_in_range}
use Rattle.pbx_text.proofs.Symbols.{value_is}
use Rattle.pbx_text.proofs.base_64.value.Goals as goal

pub returns-then-is_ascii_uppercase-clause-is : goal.returns-then-is_ascii_uppercase-clause-is
returns-then-is_ascii_uppercase-clause-is c =
    let upper : is_in_range 65 90 c.args.symbol ≡ true = sym c.is_ascii_uppercase.ensures.value ∙ c.if-is_ascii_uppercase.true in
    rw (← value_is c.args.alphabet c.args.symbol c.ranges.symbol.fits, upper) refl

pub returns-then-is_ascii_lowercase-clause-is : goal.returns-then-is_ascii_lowercase-clause-is
returns-then-is_ascii_lowercase-clause-is c =
    let upper : is_in_range 65 90 c.args.symbol ≡ false = sym c.is_ascii_uppercase.ensures.value ∙ c.if-is_ascii_uppercase.false in
    let lower : is_in_range 97 122 c.args.symbol ≡ true = sym c.is_ascii_lowercase.ensures.value ∙ c.if-is_ascii_lowercase.true in
    rw (← value_is c.args.alphabet c.args.symbol c.ranges.symbol.fits, upper, lower) refl

pub returns-then-is_ascii_digit-clause-is : goal.returns-then-is_ascii_digit-clause-is
returns-then-is_ascii_digit-clause-is c =
    let upper : is_in_range 65 90 c.args.symbol ≡ false = sym c.is_ascii_uppercase.ensures.value ∙ c.if-is_ascii_uppercase.false in
    let lower : is_in_range 97 122 c.args.symbol ≡ false = sym c.is_ascii_lowercase.ensures.value ∙ c.if-is_ascii_lowercase.false in
    let digit : is_in_range 48 57 c.args.symbol ≡ true = sym c.is_ascii_digit.ensures.value ∙ c.if-is_ascii_digit.true in
    rw (← value_is c.args.alphabet c.args.symbol c.ranges.symbol.fits, upper, lower, digit) refl

pub returns-in-Standard-clause-is : goal.returns-in-Standard-clause-is
returns-in-Standard-clause-is c =
    let upper : is_in_range 65 90 c.args.symbol ≡ false = sym c.is_ascii_uppercase.ensures.value ∙ c.if-is_ascii_uppercase.false in
    let lower : is_in_range 97 122 c.args.symbol ≡ false = sym c.is_ascii_lowercase.ensures.value ∙ c.if-is_ascii_lowercase.false in
    let digit : is_in_range 48 57 c.args.symbol ≡ false = sym c.is_ascii_digit.ensures.value ∙ c.if-is_ascii_digit.false in
    rw (← value_is c.args.alphabet c.args.symbol c.ranges.symbol.fits, upper, lower, digit, c.in-Standard.is) c.mark_value.ensures

pub returns-in-Url-clause-is : goal.returns-in-Url-clause-is
returns-in-Url-clause-is c =
    let upper : is_in_range 65 90 c.args.symbol ≡ false = sym c.is_ascii_uppercase.ensures.value ∙ c.if-is_ascii_uppercase.false in
    let lower : is_in_range 97 122 c.args.symbol ≡ false = sym c.is_ascii_lowercase.ensures.value ∙ c.if-is_ascii_lowercase.false in
    let digit : is_in_range 48 57 c.args.symbol ≡ false = sym c.is_ascii_digit.ensures.value ∙ c.if-is_ascii_digit.false in
    rw (← value_is c.args.alphabet c.args.symbol c.ranges.symbol.fits, upper, lower, digit, c.in-Url.is) c.mark_value-in-Url.ensures
