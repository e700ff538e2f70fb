use Rattle.std.proofs.Common.{◌∙◌, List, ap}
use Rattle.pbx_desc_records.specs.declared.file.FileDescriptorProto.{FileDescriptorProto}
use Rattle.pbx_link_scope.specs.Scope.{type_named}
use Rattle.pbx_link_visible.proofs.Viewed.{own_answers, pool_answers}
use Rattle.pbx_link_visible.proofs.view.VisibleFilesVisible.type_named.Goals as goal

pub returns-in-Some : goal.returns-in-Some
returns-in-Some g c =
    let s = c.self.inside in
    own_answers (g.P.Pooled.files s.pool.now) s.parts.now s.indexes s.packages c.self.invariant.0 c.args.name.now c.in-Some.found c.in-Some.ensures
    ∙ ap (λ (fs : List FileDescriptorProto). type_named fs c.args.name.now) c.self.view_is

pub returns : goal.returns
returns g c =
    let s = c.self.inside in
    pool_answers (g.P.Pooled.files s.pool.now) s.parts.now s.indexes s.packages c.self.invariant.0 c.args.name.now c.seen_type.result c.in_default.ensures c.seen_type.ensures
    ∙ ap (λ (fs : List FileDescriptorProto). type_named fs c.args.name.now) c.self.view_is
