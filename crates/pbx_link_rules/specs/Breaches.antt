-- The sixteen rules of linking in order, each with the places of a file's record at which it is broken, and the first rule that is
-- broken (Protocol Buffers language guides and specifications; the checks of protoc's descriptor pool).
use Rattle.std.specs.Prelude.{◌≡◌, ◌<◌, ◌≤◌, ℕ, zero, suc, ◌+◌, ◌==◌, List, [], ◌∷◌, ◌++◌, Bool, Option, Some, None, Contains, if◌then◌else◌}
use Rattle.std.specs.List.{list_all}
use Rattle.pbx_desc_records.specs.declared.file.FileDescriptorProto.{FileDescriptorProto}
use Rattle.pbx_link_definitions.specs.Definitions.{Place}
use Rattle.pbx_link_scope.specs.Scope.{visible}
use Rattle.pbx_link_rules_field.specs.Rules.{bad_field_numbers, bad_types, bad_oneofs, bad_labels}
use Rattle.pbx_link_rules_record.specs.FileRules.{unknown_syntax, bad_names}
use Rattle.pbx_link_rules_record.specs.EnumRules.{bad_enums}
use Rattle.pbx_link_rules_record.specs.EntryRules.{is_empty, bad_entries}
use Rattle.pbx_link_rules_record.specs.OptionRules.{uninterpreted_options, message_sets}
use Rattle.pbx_link_rules_record.specs.RangeRules.{bad_ranges}
use Rattle.pbx_link_rules_scope.specs.Defaults.{bad_defaults}
use Rattle.pbx_link_rules_scope.specs.ExtensionNumbers.{bad_extension_numbers}
use Rattle.pbx_link_rules_scope.specs.MapFields.{bad_map_fields}
use Rattle.pbx_link_rules_scope.specs.Rules.{unbound_names}
use Rattle.pbx_link_rules.specs.Rules.{file_twice, missing_imports, names_twice}
use Rattle.pbx_link_rules.specs.declared.breach.Breach.{Breach}

-- ---- all rules

-- numbers of fields and of extensions
abbrev pub bad_numbers : List FileDescriptorProto → List FileDescriptorProto → FileDescriptorProto → List Place
bad_numbers files seen f = bad_field_numbers f ++ bad_extension_numbers files seen f

-- entries of maps, and fields of their types
abbrev pub bad_maps : List FileDescriptorProto → FileDescriptorProto → List Place
bad_maps seen f = bad_entries f ++ bad_map_fields seen f

-- each rule with its places among the files of a pool, of which the file sees some
abbrev pub all_breaches : List FileDescriptorProto → List FileDescriptorProto → FileDescriptorProto → List (List Place)
all_breaches files seen f =
    file_twice files f ∷ missing_imports files f ∷ unknown_syntax f ∷ bad_names f ∷ names_twice files f ∷ bad_numbers files seen f
    ∷ unbound_names seen f ∷ bad_types f ∷ bad_oneofs f ∷ bad_enums f ∷ bad_defaults seen f ∷ bad_maps seen f
    ∷ bad_labels f ∷ uninterpreted_options f ∷ message_sets f ∷ bad_ranges f ∷ []

-- the places at which a rule is broken; the rules have the numbers 1 to 16
unfoldable pub places_at : List (List Place) → ℕ → List Place
places_at [] n = []
places_at (ps ∷ pss) zero = []
places_at (ps ∷ pss) (suc n) = if n == 0 then ps else places_at pss n

-- the places at which a rule is broken, by the files that the file sees
unfoldable pub breaches_by : ℕ → List FileDescriptorProto → List FileDescriptorProto → FileDescriptorProto → List Place
breaches_by rule files seen f = places_at (all_breaches files seen f) rule

-- the places of the file at which a rule is broken among the files of a pool
abbrev pub breaches : ℕ → List FileDescriptorProto → FileDescriptorProto → List Place
breaches rule files f = breaches_by rule files (visible files f) f

-- no rule is broken
unfoldable pub keeps_rules : List FileDescriptorProto → FileDescriptorProto → Bool
keeps_rules files f = list_all is_empty (all_breaches files (visible files f) f)

-- ---- the first rule that is broken

-- the rule is broken at this place, and no lesser rule is broken
pub record BreaksFirst (files : List FileDescriptorProto) (f : FileDescriptorProto) (rule : ℕ) (place : Place) : Type 0 where
  pub broken : Contains (breaches rule files f) place
  pub least : (lesser : ℕ) → lesser < rule → breaches lesser files f ≡ []

-- none of the rules from this number on and below the other is broken
abbrev pub AreKept : List FileDescriptorProto → List FileDescriptorProto → FileDescriptorProto → ℕ → ℕ → Type 0
AreKept files seen f first below = (rule : ℕ) → first ≤ rule → rule < below → breaches_by rule files seen f ≡ []

-- The rule is one from `first` to `last`, it is broken at the place, and none of those from `first` on is broken that is less.
pub record BreaksFirstOf (files seen : List FileDescriptorProto) (f : FileDescriptorProto) (first last rule : ℕ) (place : Place) : Type 0 where
  pub from : first ≤ rule
  pub upto : rule ≤ last
  pub broken : Contains (breaches_by rule files seen f) place
  pub least : AreKept files seen f first rule

-- the first breach of the rules from `first` to `last`, or none where none of these is broken
abbrev pub IsFirstOf : List FileDescriptorProto → List FileDescriptorProto → FileDescriptorProto → ℕ → ℕ → Option Breach → Type 0
IsFirstOf files seen f first last None = AreKept files seen f first (last + 1)
IsFirstOf files seen f first last (Some breach) = BreaksFirstOf files seen f first last breach.rule breach.place
