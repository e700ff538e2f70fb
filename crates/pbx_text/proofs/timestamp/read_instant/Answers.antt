use Rattle.std.proofs.Common.{◌≡◌, ◌∙◌, ℕ, List, take, drop, ℤ, pos, of_z, to_z, w32, w64, Some, None, sym, rules}
use Rattle.jiff_core.specs.Calendar.{IsWithin}
use Rattle.pbx_text.specs.Clock.{fraction_of}
use Rattle.pbx_text.proofs.Instants.{difference_fits, instant_is, local_of, no_fraction, no_local, short}
use Rattle.pbx_text.proofs.timestamp.read_instant.Goals as goal

pub returns-then-text-lt19 : goal.returns-then-text-lt19
returns-then-text-lt19 c = short c.args.text.now c.if-text-lt19.true

pub returns-in_err-local : goal.returns-in_err-local
returns-in_err-local c =
    let front : List ℕ = c.split_at.result.0.now in
    let is : front ≡ take 19 c.args.text.now = search rules in
    let none : None ≡ local_of front = search rules in
    let given : c.from_residual.result ≡ None = search rules in
    rw given (no_local c.args.text.now front is none)

pub returns-in_err-nanos : goal.returns-in_err-nanos
returns-in_err-nanos c =
    let behind : List ℕ = c.split_at.result.1.now in
    let is : behind ≡ drop 19 c.args.text.now = search rules in
    let none : fraction_of behind ≡ None = search rules in
    let given : c.from_residual-in_err-nanos.result ≡ None = search rules in
    rw given (no_fraction c.args.text.now behind is none)

pub returns-in_err-offset : goal.returns-in_err-offset
returns-in_err-offset c =
    let front : List ℕ = c.split_at.result.0.now in
    let behind : List ℕ = c.split_at.result.1.now in
    let zone : List ℕ = c.in_ok-nanos.zone.now in
    let front_is : front ≡ take 19 c.args.text.now = search rules in
    let behind_is : behind ≡ drop 19 c.args.text.now = search rules in
    let local : Some c.in_ok-local.local ≡ local_of front = search rules in
    let fraction : fraction_of behind ≡ Some (c.in_ok-nanos.nanos, zone) = search rules in
    let none : c.read_zone.result ≡ None = search rules in
    let given : c.from_residual-in_err-offset.result ≡ None = search rules in
    let is = instant_is c.args.text.now front behind zone c.in_ok-local.local c.in_ok-nanos.nanos None
    front_is behind_is local fraction (sym none ∙ c.read_zone.ensures.value) in
    rw given is

pub returns : goal.returns
returns c =
    let front : List ℕ = c.split_at.result.0.now in
    let behind : List ℕ = c.split_at.result.1.now in
    let zone : List ℕ = c.in_ok-nanos.zone.now in
    let seconds : ℤ = c.in_ok-local.local in
    let offset : ℤ = c.in_ok-offset.offset in
    let front_is : front ≡ take 19 c.args.text.now = search rules in
    let behind_is : behind ≡ drop 19 c.args.text.now = search rules in
    let local : Some seconds ≡ local_of front = search rules in
    let fraction : fraction_of behind ≡ Some (c.in_ok-nanos.nanos, zone) = search rules in
    let some : c.read_zone.result ≡ Some offset = search rules in
    let is = instant_is c.args.text.now front behind zone seconds c.in_ok-nanos.nanos (Some offset)
    front_is behind_is local fraction (sym some ∙ c.read_zone.ensures.value) in
    let same_local : to_z w64 (of_z w64 seconds) ≡ seconds = search rules in
    let same_offset : to_z w64 (of_z w64 offset) ≡ offset = search rules in
    let near : IsWithin 377705203200 seconds = search rules in
    let ahead : IsWithin 86399 offset = search rules in
    let same = difference_fits seconds offset near ahead in
    let nanos : to_z w32 c.in_ok-nanos.nanos ≡ pos c.in_ok-nanos.nanos = search rules in
    rw (same_local, same_offset, same, nanos) is
