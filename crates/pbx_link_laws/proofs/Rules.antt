-- Rules look at the content of a record alone.
use Rattle.std.proofs.Common.{◌≡◌, List, ◌∷◌, refl, ap}
use Rattle.pbx_desc_records.specs.declared.file.FileDescriptorProto.{FileDescriptorProto}
use Rattle.pbx_link_definitions.specs.Definitions.{Place}
use Rattle.pbx_link_scope.specs.Scope.{visible}
use Rattle.pbx_link_record.specs.Settled.{settled_message, settled_enum, settled_file}
use Rattle.pbx_link_rules.specs.Breaches.{bad_numbers, bad_maps, all_breaches, places_at, breaches_by}
use Rattle.pbx_link_laws.specs.ContentLaws.{RulesAreOfContents}
use Rattle.pbx_link_laws.proofs.Lists.{halves}
use Rattle.pbx_link_laws.proofs.FieldRules.{field_numbers, types, oneofs, labels}
use Rattle.pbx_link_laws.proofs.RecordRules.{syntax_of, names_of, enums_of, entries_of, options_of, message_sets_of, ranges_of}
use Rattle.pbx_link_laws.proofs.PoolRules.{file_of, imports_of, full_names_of}
use Rattle.pbx_link_laws.proofs.Scope.{SeeAlike}
use Rattle.pbx_link_laws.proofs.Sees.{settled_sees}
use Rattle.pbx_link_laws.proofs.ScopeRules.{unbound_of, defaults_of, map_fields_of, extension_numbers_of}

abbrev pub Places : Type 0
Places = List Place

pub both : (a b : Places) (xs ys : List Places) → a ≡ b → xs ≡ ys → a ∷ xs ≡ b ∷ ys
both a b xs ys e f = cc

module _ (files seen other : List FileDescriptorProto) (see : SeeAlike settled_message settled_enum seen other) (f : FileDescriptorProto) where
  numbers_of : bad_numbers files seen (settled_file f) ≡ bad_numbers files other f
  numbers_of = halves _ _ _ _ (field_numbers f) (extension_numbers_of seen other see files f)

  maps_of : bad_maps seen (settled_file f) ≡ bad_maps other f
  maps_of = halves _ _ _ _ (entries_of f) (map_fields_of seen other see f)

  pub all_of : all_breaches files seen (settled_file f) ≡ all_breaches files other f
  all_of =
      both _ _ _ _ (file_of files f)
      (both _ _ _ _ (imports_of files f)
      (both _ _ _ _ (syntax_of f)
      (both _ _ _ _ (names_of f)
      (both _ _ _ _ (full_names_of files f)
      (both _ _ _ _ numbers_of
      (both _ _ _ _ (unbound_of seen other see f)
      (both _ _ _ _ (types f)
      (both _ _ _ _ (oneofs f)
      (both _ _ _ _ (enums_of f)
      (both _ _ _ _ (defaults_of seen other see f)
      (both _ _ _ _ maps_of
      (both _ _ _ _ (labels f)
      (both _ _ _ _ (options_of f)
      (both _ _ _ _ (message_sets_of f)
      (both _ _ _ _ (ranges_of f) refl)))))))))))))))

pub rules_are_of_contents : RulesAreOfContents
unfolding breaches_by
rules_are_of_contents rule files f =
    ap (λ (pss : List Places). places_at pss rule) (all_of files (visible files (settled_file f)) (visible files f) (settled_sees files f) f)
