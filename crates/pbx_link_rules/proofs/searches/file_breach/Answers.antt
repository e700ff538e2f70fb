use Rattle.std.proofs.Common.{◌∙◌, ap, sym, arith}
use Rattle.pbx_link_scope.specs.Scope.{visible}
use Rattle.pbx_link_rules_record.specs.FileRules.{unknown_syntax}
use Rattle.pbx_link_rules.specs.Rules.{file_twice, missing_imports}
use Rattle.pbx_link_rules.proofs.First.{start, broken_at, kept_at, rule_1, rule_2, rule_3}
use Rattle.pbx_link_rules.proofs.searches.file_breach.Goals as goal

pub returns-in-Some : goal.returns-in-Some
returns-in-Some g c =
    let f = c.args.parts.now in
    let files = g.P.Pooled.files c.args.pool.now in
    let seen = visible files f in
    broken_at files seen f 1 (file_twice files c.file-file.result.now) (rule_1 files seen f ∙ ap (file_twice files) (sym c.file-file.ensures))
    c.in_ok-place.field-0 c.in_ok-place.ensures 1 (start files seen f 1) 3 c.in-Some.place (omega arith) (omega arith) c.in-Some.is

pub returns-in-Some-2 : goal.returns-in-Some-2
returns-in-Some-2 g c =
    let f = c.args.parts.now in
    let files = g.P.Pooled.files c.args.pool.now in
    let seen = visible files f in
    let kept_1 =
    kept_at files seen f 1 (file_twice files c.file-file.result.now) (rule_1 files seen f ∙ ap (file_twice files) (sym c.file-file.ensures))
    c.in_ok-place.field-0 c.in_ok-place.ensures 1 (start files seen f 1) c.in_default.is in
    broken_at files seen f 2 (missing_imports files c.file-file.result.now) (rule_2 files seen f ∙ ap (missing_imports files) (sym c.file-file.ensures))
    c.in_ok-place-2.field-0 c.in_ok-place-2.ensures 1 kept_1 3 c.in-Some-2.place (omega arith) (omega arith) c.in-Some-2.is

pub returns-in-Some-3 : goal.returns-in-Some-3
returns-in-Some-3 g c =
    let f = c.args.parts.now in
    let files = g.P.Pooled.files c.args.pool.now in
    let seen = visible files f in
    let kept_1 =
    kept_at files seen f 1 (file_twice files c.file-file.result.now) (rule_1 files seen f ∙ ap (file_twice files) (sym c.file-file.ensures))
    c.in_ok-place.field-0 c.in_ok-place.ensures 1 (start files seen f 1) c.in_default.is in
    let kept_2 =
    kept_at files seen f 2 (missing_imports files c.file-file.result.now) (rule_2 files seen f ∙ ap (missing_imports files) (sym c.file-file.ensures))
    c.in_ok-place-2.field-0 c.in_ok-place-2.ensures 1 kept_1 c.in_default-2.is in
    broken_at files seen f 3 (unknown_syntax f) (rule_3 files seen f) c.in_ok-place-3.field-0 c.in_ok-place-3.ensures 1 kept_2
    3 c.in-Some-3.place (omega arith) (omega arith) c.in-Some-3.is

pub returns-in-None : goal.returns-in-None
returns-in-None g c =
    let f = c.args.parts.now in
    let files = g.P.Pooled.files c.args.pool.now in
    let seen = visible files f in
    let kept_1 =
    kept_at files seen f 1 (file_twice files c.file-file.result.now) (rule_1 files seen f ∙ ap (file_twice files) (sym c.file-file.ensures))
    c.in_ok-place.field-0 c.in_ok-place.ensures 1 (start files seen f 1) c.in_default.is in
    let kept_2 =
    kept_at files seen f 2 (missing_imports files c.file-file.result.now) (rule_2 files seen f ∙ ap (missing_imports files) (sym c.file-file.ensures))
    c.in_ok-place-2.field-0 c.in_ok-place-2.ensures 1 kept_1 c.in_default-2.is in
    let kept_3 =
    kept_at files seen f 3 (unknown_syntax f) (rule_3 files seen f) c.in_ok-place-3.field-0 c.in_ok-place-3.ensures 1 kept_2 c.in-None.is in
    kept_3
