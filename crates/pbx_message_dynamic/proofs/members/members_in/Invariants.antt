use Rattle.std.proofs.Common.{map, take}
use Rattle.pbx_content.specs.Shape.{fields_of}
use Rattle.pbx_content_codec.specs.View.{fields_in, entry_of}
use Rattle.pbx_message_dynamic.specs.Members.{AreMembers}
use Rattle.pbx_message_dynamic.proofs.members.members_in.Given as goal

abbrev pub invariant-loop-field : goal.invariant-loop-field
invariant-loop-field l = AreMembers (fields_of l.schema l.place) (fields_in (map entry_of (take l.field-index l.fields))) l.members
