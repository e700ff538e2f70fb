use Rattle.std.proofs.Common.{◌∙◌, sym}
use Rattle.pbx_link_rules_scope.proofs.GoodEscapes.{from, scan_none, scan_bad, scan_escape, scan_other, some_behind}
use Rattle.pbx_link_rules_scope.proofs.escapes.has_good_escapes.Goals as goal

pub returns-in-empty : goal.returns-in-empty
returns-in-empty c = scan_none c.scan.rest.now c.in-empty.len_below ∙ c.scan.invariant

pub scan-preserved-then-b-ne92 : goal.scan-preserved-then-b-ne92
scan-preserved-then-b-ne92 c = scan_other c.scan.rest.now c.in-len1-up.len_at_least c.if-b-ne92.true ∙ c.scan.invariant

pub returns-then-not-begins_escape : goal.returns-then-not-begins_escape
returns-then-not-begins_escape c =
    scan_bad c.scan.rest.now c.in-len1-up.len_at_least c.if-b-ne92.false (sym c.begins_escape.ensures ∙ c.if-not-begins_escape.true) ∙ c.scan.invariant

pub slice_bounds-rest-count : goal.slice_bounds-rest-count
slice_bounds-rest-count c = some_behind (from 1 c.scan.rest.now) (sym c.begins_escape.ensures ∙ c.if-not-begins_escape.false)

pub slice_bounds-rest-start : goal.slice_bounds-rest-start
slice_bounds-rest-start c = some_behind (from 1 c.scan.rest.now) (sym c.begins_escape.ensures ∙ c.if-not-begins_escape.false)

pub scan-preserved : goal.scan-preserved
scan-preserved c =
    scan_escape c.scan.rest.now c.in-len1-up.len_at_least c.if-b-ne92.false (sym c.begins_escape.ensures ∙ c.if-not-begins_escape.false) ∙ c.scan.invariant
