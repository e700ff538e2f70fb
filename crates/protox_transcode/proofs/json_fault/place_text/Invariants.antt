use Rattle.std.proofs.Common.{◌≡◌, take, string_bytes}
use Rattle.protox_transcode.specs.Json.{place_text}
use Rattle.protox_transcode.proofs.json_fault.place_text.Given as goal

abbrev pub invariant-loop-step : goal.invariant-loop-step
invariant-loop-step l = string_bytes l.place ≡ place_text (take l.step-index l.steps)
