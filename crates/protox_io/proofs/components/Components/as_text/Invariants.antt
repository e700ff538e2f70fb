use Rattle.std.proofs.Common.{◌≡◌, length}
use denote.Shadow.{shadow}
use denote.Text.{Utf8}
use Rattle.protox_io.specs.Left.{body, left}
use Rattle.protox_io.proofs.components.Components.as_text.Given as goal

abbrev pub invariant-loop-part : goal.invariant-loop-part
invariant-loop-part l = record {
  utf8 : shadow (Utf8 l.rest);
  same : left l.fn.self.rooted l.fn.self.rest.now ≡ body l.rest;
}

abbrev pub decreases-loop-part : goal.decreases-loop-part
decreases-loop-part l = length l.rest
