use Rattle.std.proofs.Common.{◌∙◌, List, ap}
use Rattle.pbx_desc_records.specs.declared.file.FileDescriptorProto.{FileDescriptorProto}
use Rattle.pbx_link_scope.specs.Scope.{is_scope_name}
use Rattle.pbx_link_visible.proofs.Viewed.{scope_answers, pool_scope_answers, package_answers}
use Rattle.pbx_link_visible.proofs.view.VisibleFilesVisible.is_scope_name.Goals as goal

pub returns-then-contains : goal.returns-then-contains
returns-then-contains g c =
    let s = c.self.inside in
    scope_answers (g.P.Pooled.files s.pool.now) s.parts.now s.indexes s.packages c.self.invariant.0 c.args.name.now (c.if-contains.ensures ∙ c.self.invariant.1.1 c.args.name.now)
    ∙ ap (λ (fs : List FileDescriptorProto). is_scope_name fs c.args.name.now) c.self.view_is

pub returns-then-is_seen_scope : goal.returns-then-is_seen_scope
returns-then-is_seen_scope g c =
    let s = c.self.inside in
    pool_scope_answers (g.P.Pooled.files s.pool.now) s.parts.now s.indexes s.packages c.self.invariant.0 c.args.name.now
    (c.if-contains.ensures ∙ c.self.invariant.1.1 c.args.name.now) c.if-is_seen_scope.ensures
    ∙ ap (λ (fs : List FileDescriptorProto). is_scope_name fs c.args.name.now) c.self.view_is

pub returns : goal.returns
returns g c =
    let s = c.self.inside in
    package_answers (g.P.Pooled.files s.pool.now) s.parts.now s.indexes s.packages c.self.invariant.0 c.args.name.now c.contains-2.result
    (c.if-contains.ensures ∙ c.self.invariant.1.1 c.args.name.now) c.if-is_seen_scope.ensures c.contains-2.ensures
    ∙ ap (λ (fs : List FileDescriptorProto). is_scope_name fs c.args.name.now) c.self.view_is
