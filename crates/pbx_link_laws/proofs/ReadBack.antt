-- Files that are read back from the bytes of a pool's set keep the rules, and are linked to the files of the pool.
use Rattle.std.proofs.Common.{◌≡◌, ◌∙◌, ℕ, List, [], ◌∷◌, ◌++◌, map, Bool, true, false, if◌then◌else◌, Option, Some, None, refl, sym, ap, subst, append_assoc, append-nil, arith}
use Rattle.std.specs.Prelude.{Contains}
use Rattle.pbx_content.specs.Content.{Content, Val, message}
use Rattle.pbx_content.specs.Same.{Same, settled}
use Rattle.pbx_content.specs.Shape.{keeps_order_of}
use Rattle.pbx_wire.specs.declared.rec.Rec.{Rec}
use Rattle.pbx_desc_records.specs.declared.file.FileDescriptorProto.{FileDescriptorProto}
use Rattle.pbx_desc_shapes.specs.DescriptorShape.{descriptor_shape, set_fields}
use Rattle.pbx_desc_encoding.specs.Content.{record_content, of_records, file_value, file_content, files_content, file_set_content}
use Rattle.pbx_desc_encoding.proofs.Types.{file_set_type}
use Rattle.pbx_link_definitions.specs.Definitions.{Place}
use Rattle.pbx_link_record.specs.Settled.{settled_file}
use Rattle.pbx_link_record.specs.Unknown.{settled_unknown}
use Rattle.pbx_link_rules.specs.Breaches.{keeps_rules}
use Rattle.pbx_link_rules.proofs.RulesKept.{keeps_each}
use Rattle.pbx_link_rules.specs.Pool.{ArePooled, IsLinked, with_file}
use Rattle.pbx_link_laws.proofs.Lists.{map_twice}
use Rattle.pbx_link_laws.specs.SameLaws.{AreAlike}
use Rattle.pbx_link_laws.proofs.Contents.{settled_content}
use Rattle.pbx_link_laws.proofs.Alike.{alike_is_settled}
use Rattle.pbx_link_laws.proofs.AlikeLinked.{alike_is_linked}
use Rattle.pbx_link_laws.proofs.Values.{content_settled, records_same}
use Rattle.pbx_link_laws.proofs.Told.{Tells, content_tells, nth, list_told, items_told, message_told}
use Rattle.pbx_link_definitions.specs.declared.error.DescriptorError.{DescriptorError}
use Rattle.pbx_link_definitions.specs.declared.error.DescriptorError.TheVariants.{Rule, Decode, NoMemory}
use Rattle.pbx_link.specs.Bytes.{with_files, IsFirstRefused, DecodesFiles, AreAdded, IsSetRefused}
use Rattle.pbx_link_laws.specs.SetLaws.{SetsAreReadBack}

-- ---- sets of one content

set_order : keeps_order_of descriptor_shape 0 ≡ false
unfolding descriptor_shape
set_order = refl

-- the content of a set, settled
set_settled : (fs : List FileDescriptorProto) (unknown : List Rec)
    → settled descriptor_shape 0 (record_content set_fields (of_records file_content fs ∷ []) unknown)
    ≡ record_content set_fields (of_records file_content (map settled_file fs) ∷ []) (settled_unknown set_fields unknown)
set_settled fs unknown =
    content_settled 0 set_fields file_set_type set_order (of_records file_content fs ∷ []) (of_records file_content (map settled_file fs) ∷ [])
    (ap (λ (v : Option Val). v ∷ []) (records_same 1 file_content settled_file settled_content fs)) unknown

-- files whose settled records have one content are settled to one record
file_told : (f g : FileDescriptorProto) → message (file_content (settled_file f)) ≡ message (file_content (settled_file g)) → settled_file f ≡ settled_file g
file_told f g e = (alike_is_settled f g).0 (settled_content f ∙ message_told (file_content (settled_file f)) (file_content (settled_file g)) e ∙ sym (settled_content g))

pub files_told : (fs gs : List FileDescriptorProto) (rs ss : List Rec)
    → Same descriptor_shape 0 (record_content set_fields (of_records file_content fs ∷ []) rs) (record_content set_fields (of_records file_content gs ∷ []) ss)
    → map settled_file fs ≡ map settled_file gs
files_told fs gs rs ss same =
    let settled_same = sym (set_settled fs rs) ∙ same ∙ set_settled gs ss in
    let tells : Tells set_fields (of_records file_content (map settled_file fs) ∷ []) (of_records file_content (map settled_file gs) ∷ [])
    (settled_unknown set_fields rs) (settled_unknown set_fields ss) =
    content_tells set_fields refl (of_records file_content (map settled_file fs) ∷ []) (of_records file_content (map settled_file gs) ∷ []) refl refl
    (settled_unknown set_fields rs) (settled_unknown set_fields ss) settled_same in
    let values = list_told (map file_value (map settled_file fs)) (map file_value (map settled_file gs)) (ap (nth 0) tells.values) in
    items_told (λ (f : FileDescriptorProto). file_value (settled_file f)) settled_file file_told fs gs
    (sym (map_twice settled_file file_value fs) ∙ values ∙ map_twice settled_file file_value gs)

-- ---- records like those of a pool, added

pub all_added : (before fs gs : List FileDescriptorProto) → ArePooled before gs → map settled_file fs ≡ map settled_file gs
    → with_files before fs ≡ Some (before ++ gs)
unfolding ArePooled
all_added before [] [] pooled same = ap (λ (files : List FileDescriptorProto). Some files) (sym (append-nil before))
all_added before [] (g ∷ gs) pooled same = absurd (cc)
all_added before (f ∷ fs) [] pooled same = absurd (cc)
all_added before (f ∷ fs) (g ∷ gs) ((h, linked), rest) same =
    let first : settled_file f ≡ settled_file g = cc in
    let others : map settled_file fs ≡ map settled_file gs = cc in
    let alike : AreAlike f g = (alike_is_settled f g).1 first in
    let again : IsLinked before f g = alike_is_linked before h g f linked alike in
    rw again.keeps
    (ap (λ (file : FileDescriptorProto). with_files (before ++ file ∷ []) fs) (sym again.is)
    ∙ all_added (before ++ g ∷ []) fs gs rest others
    ∙ ap (λ (files : List FileDescriptorProto). Some files) (append_assoc before (g ∷ []) gs))

-- a record among those that were all added keeps the rules
pub kept_there : (files before after mid new : List FileDescriptorProto) (f : FileDescriptorProto) → with_files files (before ++ f ∷ after) ≡ Some new
    → with_files files before ≡ Some mid → keeps_rules mid f ≡ true
kept_there files [] after mid new f all added = let same : files ≡ mid = cc in rw (sym same) (by (keeps_rules files f) all)
  where
    by : (b : Bool) → (if b then with_files (with_file files f) after else None) ≡ Some new → b ≡ true
    by true all = refl
    by false all = absurd (cc)
kept_there files (g ∷ gs) after mid new f all added = by (keeps_rules files g) all added (kept_there (with_file files g) gs after mid new f)
  where
    by : (b : Bool) → (if b then with_files (with_file files g) (gs ++ f ∷ after) else None) ≡ Some new
        → (if b then with_files (with_file files g) gs else None) ≡ Some mid
        → (with_files (with_file files g) (gs ++ f ∷ after) ≡ Some new → with_files (with_file files g) gs ≡ Some mid → keeps_rules mid f ≡ true)
        → keeps_rules mid f ≡ true
    by true all added more = more all added
    by false all added more = absurd (cc)

-- where all are added, none is the first that breaks a rule
pub none_stops : (files fs new : List FileDescriptorProto) (file : List ℕ) (place : Place) (rule : ℕ) → with_files files fs ≡ Some new
    → IsFirstRefused files fs file place rule → ⊥
none_stops files fs new file place rule all stops =
    let whole = ap (with_files files) (sym stops.split) ∙ all in
    let keeps = kept_there files stops.before stops.after stops.middle new stops.refused whole stops.added in
    none_in (subst (λ (places : List Place). Contains places place) (keeps_each stops.middle stops.refused keeps rule) stops.breaks.broken)
  where
    none_in : Contains [] place → ⊥
    none_in (i, less, here) = absurd (omega (arith, less))

pub sets_are_read_back : SetsAreReadBack
sets_are_read_back pool bytes pooled (d, meant, same) = record {
  added = λ fs decodes. made fs decodes;
  same = λ new added. the_same new added;
  accepted = λ error refused. want error refused;
}
  where
    -- what the records of a set that was decoded make
    made : (fs : List FileDescriptorProto) → DecodesFiles bytes fs → with_files [] fs ≡ Some pool
    made fs (set, means, exact, is) =
        let one : d ≡ file_set_content set = cc in
        let told = files_told set.file pool set.unknown [] (subst (λ (c : Content). Same descriptor_shape 0 c (files_content pool)) one same) in
        subst (λ (files : List FileDescriptorProto). with_files [] files ≡ Some pool) is (all_added [] set.file pool pooled told)

    the_same : (new : List FileDescriptorProto) → AreAdded [] bytes new → new ≡ pool
    the_same new (fs, decodes, added) = let all = made fs decodes in cc

    want : (error : DescriptorError) → IsSetRefused [] bytes error → error ≡ NoMemory
    want (Rule file place rule) (fs, decodes, stops) = absurd (none_stops [] fs pool file place rule (made fs decodes) stops)
    want (Decode fault) first = absurd (let nothing = first.0 in cc)
    want NoMemory u = refl
