-- What holds of the rules of linking, and of what searches for the first that is broken answer.
use Rattle.std.specs.Prelude.{◌≡◌, ◌↔◌, ℕ, List, [], true, false, Some, None}
use Rattle.pbx_desc_records.specs.declared.file.FileDescriptorProto.{FileDescriptorProto}
use Rattle.pbx_link_definitions.specs.Definitions.{Place}
use Rattle.pbx_link_scope.specs.Scope.{visible}
use Rattle.pbx_link_rules.specs.declared.breach.Breach.{Breach}
use Rattle.pbx_link_rules.specs.Breaches.{breaches, keeps_rules, BreaksFirst, IsFirstOf}

-- a rule is broken, and no lesser one
pub record HasBreach (files : List FileDescriptorProto) (f : FileDescriptorProto) : Type 0 where
  pub rule : ℕ
  pub place : Place
  pub breaks : BreaksFirst files f rule place

-- A record keeps the rules exactly where none is broken.
abbrev pub LinksUnlessBroken : Type 0
LinksUnlessBroken = (files : List FileDescriptorProto) (f : FileDescriptorProto) → (keeps_rules files f ≡ false) ↔ HasBreach files f

-- The first rule that is broken is one rule: of two breaches the rules are the same.
abbrev pub FirstRuleIsOne : Type 0
FirstRuleIsOne =
    (files : List FileDescriptorProto) (f : FileDescriptorProto) (rule other : ℕ) (place there : Place)
    → BreaksFirst files f rule place → BreaksFirst files f other there → rule ≡ other

-- Where the rules are kept, none has a place.
abbrev pub KeepsEach : Type 0
KeepsEach = (files : List FileDescriptorProto) (f : FileDescriptorProto) → keeps_rules files f ≡ true → (rule : ℕ) → breaches rule files f ≡ []

-- A breach of the rules 1 to 5 that is the first of these is the first.
abbrev pub FirstAlone : Type 0
FirstAlone =
    (files : List FileDescriptorProto) (f : FileDescriptorProto) (breach : Breach) → IsFirstOf files (visible files f) f 1 5 (Some breach)
    → BreaksFirst files f breach.rule breach.place

-- Where none of these is broken, the first breach of the rules 6 to 16 is the first.
abbrev pub FirstBehind : Type 0
FirstBehind =
    (files : List FileDescriptorProto) (f : FileDescriptorProto) (breach : Breach) → IsFirstOf files (visible files f) f 1 5 None
    → IsFirstOf files (visible files f) f 6 16 (Some breach) → BreaksFirst files f breach.rule breach.place

-- Where none of all sixteen is broken, the rules are kept.
abbrev pub NoneIsBroken : Type 0
NoneIsBroken =
    (files : List FileDescriptorProto) (f : FileDescriptorProto) → IsFirstOf files (visible files f) f 1 5 None
    → IsFirstOf files (visible files f) f 6 16 None → keeps_rules files f ≡ true
