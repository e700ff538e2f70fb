-- What the reader keeps while it reads an object.
use Rattle.std.specs.Prelude.{ℕ, List, [], map}
use Rattle.pbx_content_map.specs.Entries.{with_entries}
use Rattle.pbx_content.specs.Content.{Content, content}
use Rattle.pbx_content_codec.specs.View.{fields_in, entry_of, pair_of}
use Rattle.pbx_content_codec.specs.declared.contents.Held.{Held}
use Rattle.pbx_json_walk.specs.Walk.{State, Entries}
use Rattle.pbx_json_reading.specs.declared.state.ObjectState.{ObjectState}
use Rattle.pbx_json_reading.specs.declared.entries.MapEntries.{MapEntries}

-- the content with these values under their numbers, put in one after another
abbrev pub content_with : List (ℕ × Held) → Content
content_with values = content (fields_in (map entry_of (with_entries [] values))) []

-- of an object of fields
abbrev pub state_of : ObjectState → State
state_of s = record { seen = s.seen; taken = s.taken; found = content_with s.values }

-- of an object of entries
abbrev pub entries_of : MapEntries → Entries
entries_of s = record { numbers = s.numbers; pairs = map pair_of s.pairs }
