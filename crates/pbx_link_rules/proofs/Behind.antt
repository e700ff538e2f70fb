-- Each file of a pool stands behind those that it imports.
use Rattle.std.proofs.Common.{◌≡◌, ◌∙◌, List, [], ◌∷◌, ◌++◌, true, false, ap}
use Rattle.std.specs.Prelude.{is_some}
use Rattle.std.specs.List.{list_all}
use Rattle.pbx_desc_records.specs.declared.file.FileDescriptorProto.{FileDescriptorProto}
use Rattle.pbx_link_definitions.specs.Names.{text_or_empty}
use Rattle.pbx_link_scope.specs.Pooled.{has_file}
use Rattle.pbx_link_rules.specs.Pool.{IsLinked, ArePooled}
use Rattle.pbx_link_rules.specs.PoolLaws.{AreBehind, PooledAreBehind}
use Rattle.pbx_link_rules.proofs.Kept.{has_name, name_is_new, imports_are_there}

module _ (before : List FileDescriptorProto) (f g : FileDescriptorProto) (h : IsLinked before f g) where
  pub linked_has_name : is_some g.name ≡ true
  linked_has_name = ap (λ (x : FileDescriptorProto). is_some x.name) h.is ∙ has_name before f h.keeps

  pub linked_name_is_new : has_file before (text_or_empty g.name) ≡ false
  linked_name_is_new = ap (λ (x : FileDescriptorProto). has_file before (text_or_empty x.name)) h.is ∙ name_is_new before f h.keeps

  pub linked_imports_are_there : list_all (has_file before) g.dependency ≡ true
  linked_imports_are_there = ap (λ (x : FileDescriptorProto). list_all (has_file before) x.dependency) h.is ∙ imports_are_there before f h.keeps

behind : (before gs : List FileDescriptorProto) → ArePooled before gs → AreBehind before gs
unfolding ArePooled AreBehind
behind before [] h = tt
behind before (g ∷ gs) h =
    (linked_name_is_new before h.0.0 g h.0.1, linked_imports_are_there before h.0.0 g h.0.1, behind (before ++ g ∷ []) gs h.1)

pub pooled_are_behind : PooledAreBehind
pooled_are_behind files h = behind [] files h
