-- Places in a source in which nothing is unknown are settled.
use Rattle.std.proofs.Common.{◌≡◌, ℕ, ◌+◌, ◌<◌, List, [], length, take, get_or, map, refl, ap}
use Rattle.std.proofs.lemmas.List.{map_more, take_more}
use Rattle.pbx_wire.specs.declared.rec.Rec.{Rec}
use Rattle.pbx_desc_records.specs.declared.source.Location.{Location}
use Rattle.pbx_desc_records.specs.declared.source.SourceCodeInfo.{SourceCodeInfo}
use Rattle.pbx_link_record.specs.Unknown.{settled_unknown, unread}
use Rattle.pbx_link_record.specs.Settled.{settled_location, settled_source}
use Rattle.pbx_desc_shapes.specs.DescriptorShape.{location_fields}

nothing_settled : (rs : List Rec) → rs ≡ [] → settled_unknown location_fields rs ≡ rs
unfolding settled_unknown unread
nothing_settled rs e = rw (e) refl

-- a place
pub place_is : (l : Location) → l.unknown ≡ [] → settled_location l ≡ l
place_is l e = ap (λ (rs : List Rec). record l { unknown = rs }) (nothing_settled l.unknown e)

-- one place more
pub places_more : (ls : List Location) (i : ℕ) (l : Location) → i < length ls → l ≡ get_or ls i l → l.unknown ≡ []
    → map settled_location (take i ls) ≡ take i ls → map settled_location (take (i + 1) ls) ≡ take (i + 1) ls
places_more ls i l h is e before = rw (map_more settled_location ls i l h, take_more ls i l h, before, ← is, place_is l e) refl

-- the whole
pub source_is : (s : SourceCodeInfo) → s.unknown ≡ [] → map settled_location s.location ≡ s.location → settled_source s ≡ s
unfolding settled_unknown unread
source_is s none places = rw (none, places) refl
