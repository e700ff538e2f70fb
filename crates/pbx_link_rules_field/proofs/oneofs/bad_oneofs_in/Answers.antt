use Rattle.std.proofs.Common.{◌≡◌, ◌∙◌, ℕ, ◌==◌, Bool, List, [], ◌∷◌, ◌++◌, length, ap, sym, arith}
use Rattle.std.specs.Prelude.{pos}
use Rattle.std.specs.List.{position}
use Rattle.std.proofs.lemmas.List.Elements.{Contains-append_left}
use Rattle.pbx_desc_records.specs.declared.message.DescriptorProto.{DescriptorProto, out-DescriptorProto}
use Rattle.pbx_link_definitions.specs.Says.{own_fields, is_proto3}
use Rattle.pbx_link_definitions.specs.Definitions.{Place}
use Rattle.pbx_link_rules_field.specs.Rules.{bad_members_in, empty_oneofs_in}
use Rattle.pbx_link_rules_field.specs.Members.{member_count, is_bad_member}
use Rattle.pbx_link_rules_field.proofs.Counted.{Counts, bad_member_among, empty_among}
use Rattle.pbx_link_definitions.proofs.Indexes.{place_here, place_none}
use Rattle.pbx_link_rules_field.proofs.Placed.{in_second, none_of_both}
use Rattle.pbx_link_rules_field.proofs.oneofs.bad_oneofs_in.Goals as goal

pub returns-in-Some : goal.returns-in-Some
returns-in-Some c =
    let f = c.args.file.now in
    let m = c.args.message.now in
    let counts : List ℕ = c.in_ok-counts.counts.items in
    let long : length counts ≡ length (out-DescriptorProto m.item).oneof_decl =
    sym c.in_ok-counts.counts.ok.0 ∙ c.in_ok-counts.ensures.len
    ∙ ap (λ (d : DescriptorProto). length (out-DescriptorProto d).oneof_decl) c.item.ensures in
    let told : Counts counts (own_fields m.item) = λ i lt. c.in_ok-counts.ensures.counts i (omega (arith, c.in_ok-counts.counts.ok.0))
    ∙ ap (λ (d : DescriptorProto). member_count (own_fields d) i) c.item.ensures in
    let first : c.bad_member.result ≡ position (is_bad_member (is_proto3 f) counts) (own_fields m.item) =
    c.bad_member.ensures ∙ ap (λ (b : Bool). position (is_bad_member b c.deref.result.now) c.as_slice.result.now) c.is_proto3.ensures
    ∙ ap (λ (cs : List ℕ). position (is_bad_member (is_proto3 f) cs) c.as_slice.result.now) c.deref.ensures.value
    ∙ ap (position (is_bad_member (is_proto3 f) counts)) (c.as_slice.ensures ∙ ap own_fields c.item-2.ensures) in
    let members = bad_member_among f m counts long told c.bad_member.result first in
    Contains-append_left (bad_members_in f m) (empty_oneofs_in m) c.in_ok-place_in.field-0
    (place_here (bad_members_in f m) (λ (i : ℕ). m.place ++ pos 2 ∷ pos i ∷ []) c.bad_member.result members c.in-Some.index c.in-Some.is
    c.in_ok-place_in.field-0
    (c.in_ok-place_in.ensures ∙ ap (λ (a : Place). a ++ pos 2 ∷ pos c.in-Some.index ∷ []) c.place.ensures))

pub returns-in-Some-no_member : goal.returns-in-Some-no_member
returns-in-Some-no_member c =
    let f = c.args.file.now in
    let m = c.args.message.now in
    let counts : List ℕ = c.in_ok-counts.counts.items in
    let long : length counts ≡ length (out-DescriptorProto m.item).oneof_decl =
    sym c.in_ok-counts.counts.ok.0 ∙ c.in_ok-counts.ensures.len
    ∙ ap (λ (d : DescriptorProto). length (out-DescriptorProto d).oneof_decl) c.item.ensures in
    let told : Counts counts (own_fields m.item) = λ i lt. c.in_ok-counts.ensures.counts i (omega (arith, c.in_ok-counts.counts.ok.0))
    ∙ ap (λ (d : DescriptorProto). member_count (own_fields d) i) c.item.ensures in
    let first : c.bad_member.result ≡ position (is_bad_member (is_proto3 f) counts) (own_fields m.item) =
    c.bad_member.ensures ∙ ap (λ (b : Bool). position (is_bad_member b c.deref.result.now) c.as_slice.result.now) c.is_proto3.ensures
    ∙ ap (λ (cs : List ℕ). position (is_bad_member (is_proto3 f) cs) c.as_slice.result.now) c.deref.ensures.value
    ∙ ap (position (is_bad_member (is_proto3 f) counts)) (c.as_slice.ensures ∙ ap own_fields c.item-2.ensures) in
    let members = bad_member_among f m counts long told c.bad_member.result first in
    let empty = empty_among f m counts long told c.no_member.result (c.no_member.ensures
    ∙ ap (position (λ (n : ℕ). n == 0)) c.deref-2.ensures.value) in
    in_second (bad_members_in f m) (empty_oneofs_in m) c.in_ok-place_in-in-Some-no_member.field-0 (place_none (bad_members_in f m) (λ (i : ℕ).
    m.place ++ pos 2 ∷ pos i ∷ []) c.bad_member.result members c.in_default.is)
    (place_here (empty_oneofs_in m) (λ (i : ℕ). m.place ++ pos 8 ∷ pos i ∷ []) c.no_member.result empty c.in-Some-no_member.index
    c.in-Some-no_member.is c.in_ok-place_in-in-Some-no_member.field-0
    (c.in_ok-place_in-in-Some-no_member.ensures
    ∙ ap (λ (a : Place). a ++ pos 8 ∷ pos c.in-Some-no_member.index ∷ []) c.place-in-Some-no_member.ensures))

pub returns : goal.returns
returns c =
    let f = c.args.file.now in
    let m = c.args.message.now in
    let counts : List ℕ = c.in_ok-counts.counts.items in
    let long : length counts ≡ length (out-DescriptorProto m.item).oneof_decl =
    sym c.in_ok-counts.counts.ok.0 ∙ c.in_ok-counts.ensures.len
    ∙ ap (λ (d : DescriptorProto). length (out-DescriptorProto d).oneof_decl) c.item.ensures in
    let told : Counts counts (own_fields m.item) = λ i lt. c.in_ok-counts.ensures.counts i (omega (arith, c.in_ok-counts.counts.ok.0))
    ∙ ap (λ (d : DescriptorProto). member_count (own_fields d) i) c.item.ensures in
    let first : c.bad_member.result ≡ position (is_bad_member (is_proto3 f) counts) (own_fields m.item) =
    c.bad_member.ensures ∙ ap (λ (b : Bool). position (is_bad_member b c.deref.result.now) c.as_slice.result.now) c.is_proto3.ensures
    ∙ ap (λ (cs : List ℕ). position (is_bad_member (is_proto3 f) cs) c.as_slice.result.now) c.deref.ensures.value
    ∙ ap (position (is_bad_member (is_proto3 f) counts)) (c.as_slice.ensures ∙ ap own_fields c.item-2.ensures) in
    let members = bad_member_among f m counts long told c.bad_member.result first in
    let empty = empty_among f m counts long told c.no_member.result (c.no_member.ensures
    ∙ ap (position (λ (n : ℕ). n == 0)) c.deref-2.ensures.value) in
    none_of_both (bad_members_in f m) (empty_oneofs_in m) (place_none (bad_members_in f m) (λ (i : ℕ). m.place ++ pos 2 ∷ pos i ∷ [])
    c.bad_member.result members c.in_default.is)
    (place_none (empty_oneofs_in m) (λ (i : ℕ). m.place ++ pos 8 ∷ pos i ∷ []) c.no_member.result empty c.in-None.is)
