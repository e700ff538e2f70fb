-- A linked record is linked to itself.
use Rattle.std.proofs.Common.{◌≡◌, ◌∙◌, pos, List, [], ◌∷◌, ◌++◌, map, Bool, true, false, refl, ap, sym, subst, append-nil}
use Rattle.std.proofs.lemmas.List.{append_assoc}
use Rattle.std.specs.List.{list_any, list_all}
use Rattle.std.proofs.lemmas.List.Folds.{list_any-append}
use Rattle.pbx_desc_records.specs.declared.field.FieldDescriptorProto.{FieldDescriptorProto}
use Rattle.pbx_desc_records.specs.declared.file.FileDescriptorProto.{FileDescriptorProto}
use Rattle.pbx_link_definitions.specs.Names.{among}
use Rattle.pbx_link_definitions.specs.Definitions.{Part, at, Defined, full_name, name_place, fields, extensions}
use Rattle.pbx_link_definitions.specs.Places.{places_where, place_if, repeated}
use Rattle.pbx_link_scope.specs.Scope.{visible}
use Rattle.pbx_link_scope.specs.Pooled.{like_named}
use Rattle.pbx_link_rules_field.specs.Rules.{has_bad_type, bad_types}
use Rattle.pbx_link_rules_record.specs.EntryRules.{is_empty}
use Rattle.pbx_link_rules.specs.Rules.{has_defined_package, taken_names, names_twice}
use Rattle.pbx_link_record.specs.Settled.{settled_file}
use Rattle.pbx_link_record.specs.Linked.{linked_with, linked_record}
use Rattle.pbx_link_rules.specs.Breaches.{bad_numbers, bad_maps, all_breaches, keeps_rules}
use Rattle.pbx_link_rules.proofs.First.{rule_1, rule_2, rule_3, rule_4, rule_5, rule_6, rule_7, rule_8, rule_9, rule_10, rule_11, rule_12, rule_13, rule_14, rule_15}
use Rattle.pbx_link_rules.proofs.First.{rule_16}
use Rattle.pbx_link_rules.proofs.RulesKept.{keeps_each}
use Rattle.pbx_link_rules.proofs.Lists.{neither, none_where}
use Rattle.pbx_link_rules.specs.Pool.{IsLinked, ArePooled}
use Rattle.pbx_link_laws.specs.ContentLaws.{LinkedIsLinked, SettledIsLinked, PooledAreLinked, AreLinked, PoolIsLinked}
use Rattle.pbx_link_laws.proofs.Linking.{linking_is_of_contents}
use Rattle.pbx_link_laws.proofs.Lists.{halves}
use Rattle.pbx_link_laws.proofs.Rules.{Places, both, all_of}
use Rattle.pbx_link_laws.proofs.Sees.{settled_sees}
use Rattle.pbx_link_laws.proofs.LinkedParts.{linked_definitions}
use Rattle.pbx_link_laws.proofs.Rebound.{seen_by, seen_again}
use Rattle.pbx_link_laws.proofs.Relinked.{record_again}
use Rattle.pbx_link_laws.proofs.LinkedFieldRules.{field_numbers, types, oneofs, labels}
use Rattle.pbx_link_laws.proofs.LinkedRecordRules.{names_of, enums_of, entries_of, options_of, message_sets_of, ranges_of}
use Rattle.pbx_link_laws.proofs.LinkedScopeRules.{unbound_of, defaults_of, map_fields_of, extension_numbers_of}

-- no place for each of the rules
abbrev none_each : List Places
none_each = [] ∷ [] ∷ [] ∷ [] ∷ [] ∷ [] ∷ [] ∷ [] ∷ [] ∷ [] ∷ [] ∷ [] ∷ [] ∷ [] ∷ [] ∷ [] ∷ []

module _ (files : List FileDescriptorProto) (f : FileDescriptorProto) (kept : keeps_rules files f ≡ true) where
  abbrev seen : List FileDescriptorProto
  seen = seen_by files f

  abbrev again : List FileDescriptorProto
  again = seen_again files f

  abbrev linked_file : FileDescriptorProto
  linked_file = linked_with seen f

  -- ---- the rules that are not kept alike

  names_none : names_twice files linked_file ≡ []
  names_none =
      ap (λ (ds : List Defined). place_if (has_defined_package files f) (pos 2 ∷ [])
      ++ (places_where (λ (d : Defined). among (taken_names files f) (full_name d)) name_place ds ++ map name_place (repeated like_named [] ds)))
      (linked_definitions seen f)
      ∙ sym (rule_5 files seen f) ∙ keeps_each files f kept 5

  numbers_none : bad_numbers files again linked_file ≡ []
  numbers_none = halves _ _ _ _ (field_numbers seen f) (extension_numbers_of files f) ∙ sym (rule_6 files seen f) ∙ keeps_each files f kept 6

  types_kept : bad_types f ≡ []
  types_kept = sym (rule_8 files seen f) ∙ keeps_each files f kept 8

  no_bad_type : list_any (λ (p : Part FieldDescriptorProto). has_bad_type p.item) (fields f) ≡ false
  no_bad_type =
      let bad : Part FieldDescriptorProto → Bool = λ p. has_bad_type p.item in
      (neither (list_any bad (fields f)) (list_any bad (extensions f))
      (sym (list_any-append bad (fields f) (extensions f)) ∙ none_where bad (λ p. at p 5) (fields f ++ extensions f) types_kept)).0

  maps_none : bad_maps again linked_file ≡ []
  maps_none = halves _ _ _ _ (entries_of seen f no_bad_type) (map_fields_of files f) ∙ sym (rule_12 files seen f) ∙ keeps_each files f kept 12

  -- ---- all rules

  none_of : all_breaches files again linked_file ≡ none_each
  none_of =
      both _ _ _ _ (sym (rule_1 files seen f) ∙ keeps_each files f kept 1)
      (both _ _ _ _ (sym (rule_2 files seen f) ∙ keeps_each files f kept 2)
      (both _ _ _ _ (sym (rule_3 files seen f) ∙ keeps_each files f kept 3)
      (both _ _ _ _ (names_of seen f ∙ sym (rule_4 files seen f) ∙ keeps_each files f kept 4)
      (both _ _ _ _ names_none
      (both _ _ _ _ numbers_none
      (both _ _ _ _ (unbound_of files f (sym (rule_7 files seen f) ∙ keeps_each files f kept 7))
      (both _ _ _ _ (types seen f types_kept)
      (both _ _ _ _ (oneofs seen f ∙ sym (rule_9 files seen f) ∙ keeps_each files f kept 9)
      (both _ _ _ _ (enums_of seen f ∙ sym (rule_10 files seen f) ∙ keeps_each files f kept 10)
      (both _ _ _ _ (defaults_of files f ∙ sym (rule_11 files seen f) ∙ keeps_each files f kept 11)
      (both _ _ _ _ maps_none
      (both _ _ _ _ (labels seen f ∙ sym (rule_13 files seen f) ∙ keeps_each files f kept 13)
      (both _ _ _ _ (options_of seen f ∙ sym (rule_14 files seen f) ∙ keeps_each files f kept 14)
      (both _ _ _ _ (message_sets_of seen f ∙ sym (rule_15 files seen f) ∙ keeps_each files f kept 15)
      (both _ _ _ _ (ranges_of seen f ∙ sym (rule_16 files seen f) ∙ keeps_each files f kept 16) refl)))))))))))))))

  linked_keeps : keeps_rules files linked_file ≡ true
  unfolding keeps_rules
  linked_keeps = ap (list_all is_empty) none_of

  pub record_keeps : keeps_rules files (linked_record files f) ≡ true
  unfolding keeps_rules
  record_keeps =
      ap (list_all is_empty) (all_of files (visible files (settled_file linked_file)) again (settled_sees files linked_file) linked_file) ∙ linked_keeps

pub linked_is_linked : LinkedIsLinked
linked_is_linked files f g h = record {
  keeps = ap (keeps_rules files) h.is ∙ record_keeps files f h.keeps;
  is = h.is ∙ sym (record_again files f) ∙ ap (linked_record files) (sym h.is);
}

-- ---- records of the same content

settled_keeps : (files : List FileDescriptorProto) (h : FileDescriptorProto) → keeps_rules files (settled_file h) ≡ keeps_rules files h
unfolding keeps_rules
settled_keeps files h =
    ap (list_all is_empty) (all_of files (visible files (settled_file h)) (visible files h) (settled_sees files h) h)

pub settled_is_linked : SettledIsLinked
settled_is_linked files f g linked h same =
    let own = linked_is_linked files f g linked in
    record {
      keeps = sym (settled_keeps files h) ∙ ap (keeps_rules files) same ∙ own.keeps;
      is = own.is ∙ ap (linked_record files) (sym same) ∙ linking_is_of_contents files h;
    }

-- ---- pools

linked_at : (start before after : List FileDescriptorProto) (g : FileDescriptorProto) → ArePooled start (before ++ g ∷ after) → IsLinked (start ++ before) g g
unfolding ArePooled
linked_at start [] after g h =
    subst (λ (files : List FileDescriptorProto). IsLinked files g g) (sym (append-nil start)) (linked_is_linked start h.0.0 g h.0.1)
linked_at start (k ∷ before) after g h =
    subst (λ (files : List FileDescriptorProto). IsLinked files g g) (append_assoc start (k ∷ []) before) (linked_at (start ++ k ∷ []) before after g h.1)

pub pooled_are_linked : PooledAreLinked
pooled_are_linked before after g h = linked_at [] before after g h

are_linked : (before files : List FileDescriptorProto) → ArePooled before files → AreLinked before files
unfolding ArePooled AreLinked
are_linked before [] h = tt
are_linked before (g ∷ gs) h = (linked_is_linked before h.0.0 g h.0.1, are_linked (before ++ g ∷ []) gs h.1)

pub pool_is_linked : PoolIsLinked
pool_is_linked files h = are_linked [] files h
