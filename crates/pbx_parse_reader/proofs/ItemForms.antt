-- What an item of a message is that begins so.
use Rattle.std.proofs.Common.{◌≡◌, List, Bool, true, false, codes, sym, ap, ◌∙◌, refl}
use Rattle.std.proofs.lemmas.Bool.{false≢true}
use Rattle.pbx_parse_token.specs.Tokens.{Token}
use Rattle.pbx_parse_tree.specs.declared.tree.Version.{Version}
use Rattle.pbx_parse_tree.specs.Words.{begins_item}
use Rattle.pbx_parse_tree.specs.Tree.{Setting, Field, Item, empty_item, item_field, item_map, item_oneof, item_enum, item_extend, item_extensions, item_reserved, item_option, reserved_ranges, reserved_names}
use Rattle.pbx_parse_tree.specs.Grammar.{item_then}
use Rattle.pbx_parse_tree.specs.Conditions.{begins_with_no, field_fits, item_fits}
use Rattle.pbx_parse_reader.specs.Blocks.{item_behind}
use Rattle.pbx_parse_reader.specs.View.{sees_word}
use Rattle.pbx_parse_reader.proofs.Lists.{both}
use Rattle.pbx_parse_reader.proofs.FieldFirst.{no_message}

-- a test of tokens tells them apart
pub other : (p : List Token → Bool) (ts us : List Token) → p ts ≡ true → ts ≡ us → p us ≡ false → ⊥
other p ts us h e n = false≢true (sym n ∙ sym (ap p e) ∙ h)

pub field_of_message : (v : Version) (f : Field) → item_fits v (item_field f) ≡ true → begins_with_no begins_item f ≡ true
field_of_message v f fits = (both (begins_with_no begins_item f) (field_fits v f) fits).0

-- an item that is no message does not begin as one
pub plain_goes : (v : Version) (before : List Setting) (i : Item) (rest : List Token) → item_behind v before i ≡ true → sees_word (codes "message") (item_then i rest) ≡ false
plain_goes v before (empty_item s) rest fits = refl
plain_goes v before (item_field f) rest fits = no_message f rest (field_of_message v f fits)
plain_goes v before (item_map m) rest fits = refl
plain_goes v before (item_oneof o) rest fits = refl
plain_goes v before (item_enum x) rest fits = refl
plain_goes v before (item_extend x) rest fits = refl
plain_goes v before (item_extensions x) rest fits = refl
plain_goes v before (item_reserved (reserved_ranges keyword rs close)) rest fits = refl
plain_goes v before (item_reserved (reserved_names keyword ns close)) rest fits = refl
plain_goes v before (item_option s) rest fits = refl
