-- The locations of each part of a file ascend, and begin with its path.
use Rattle.std.proofs.Common.{◌≡◌, ℕ, ◌+◌, ◌≤◌, length, refl, ℤ, pos, Bool, true, false, List, [], ◌∷◌, ◌++◌, append_assoc, arith, Option, Some, None, unwrap_or}
use Rattle.std.specs.Prelude.{if◌then◌else◌}
use Rattle.std.specs.List.{flat_map}
use Rattle.pbx_parse_token.specs.declared.token.Span.{Span}
use Rattle.pbx_desc_records.specs.declared.source.Location.{Location}
use Rattle.pbx_parse_locations.specs.declared.file.Extent.{Extent}
use Rattle.pbx_parse_tree.specs.Tree.{Settings, Value, Enum, Method, Service, Oneof, Body, end, item, message, Syntax, Import, Top, top_package, File}
use Rattle.pbx_parse_tree.specs.Conditions.{packages}
use Rattle.pbx_parse_locations.specs.Locations.{first_of_number, last_of_method, first_of_type, last_of_type, part, element, numbered, block, settings_part, label_part, Parts, field_locations, field_at, value_locations, value_at, enum_locations, enum_at, method_locations, method_at, service_locations, item_values, item_methods, item_fields, item_enums, item_extensions, item_oneofs, of_items, entries, oneof_at, message_with, nested_from, message_locations, package_location, import_at, top_imports, message_at, top_messages, top_enums, service_at, top_services, top_extensions, syntax_location, locations_in}
use Rattle.pbx_parse_locations.proofs.Paths.{At, From, none_at, none_from, join, last_from, less_from, at, at_element, head, alone, elements, settings_from}

pub block_at : (p : List ℤ) (keyword name close : Span) (ls : List Location) → From p 2 ls → At p (block p keyword name close ++ ls)
block_at p keyword name close ls h = head p keyword close (join 1 (omega arith) (alone p 1 name name) h)

-- ---- fields

label_at : (p : List ℤ) (l : Option Span) → At (p ++ pos 4 ∷ []) (label_part p l)
label_at p None = none_at (p ++ pos 4 ∷ [])
label_at p (Some s) = alone p 4 s s

typed_from : (p : List ℤ) (named : Bool) (a b : Span) (s : Option Settings) → From p 5 (part p (if named then 6 else 5) a b ∷ settings_part p 8 s)
typed_from p true a b s = join 6 (omega arith) (alone p 6 a b) (settings_from 8 s (omega arith))
typed_from p false a b s = join 5 (omega arith) (alone p 5 a b) (settings_from 8 s (omega arith))

pub field_is : (p : List ℤ) (f : Parts) → At p (field_locations p f)
field_is p f =
    simp append_assoc (head p (unwrap_or f.label f.typed.first) f.tail.end
    (join 1 (omega arith) (alone p 1 f.tail.name.span f.tail.name.span)
    (join 3 (omega arith) (alone p 3 f.tail.number.span f.tail.number.span)
    (join 4 (omega arith) (label_at p f.label) (typed_from p f.typed.is_named f.typed.first f.typed.last f.tail.settings)))))

pub fields_at : (p : List ℤ) (n : ℕ) (fs : List Parts) → At (p ++ pos n ∷ []) (numbered (field_at p n) 0 fs)
fields_at p n fs = elements (field_at p n) p n (λ i f. field_is (element p n i) f) fs

-- ---- enums

pub value_is : (p : List ℤ) (v : Value) → At p (value_locations p v)
value_is p v = head p v.name.span v.end
    (join 1 (omega arith) (alone p 1 v.name.span v.name.span)
    (join 2 (omega arith) (alone p 2 (first_of_number v.number) v.number.span) (settings_from 3 v.settings (omega arith))))

pub enum_is : (p : List ℤ) (e : Enum) → At p (enum_locations p e)
enum_is p e = block_at p e.keyword e.name.span e.close _
    (last_from 2 (omega arith) (elements (value_at p) p 2 (λ i v. value_is (element p 2 i) v) (flat_map item_values e.items)))

pub enums_at : (p : List ℤ) (n : ℕ) (es : List Enum) → At (p ++ pos n ∷ []) (numbered (enum_at p n) 0 es)
enums_at p n es = elements (enum_at p n) p n (λ i e. enum_is (element p n i) e) es

-- ---- services

pub method_is : (p : List ℤ) (m : Method) → At p (method_locations p m)
method_is p m = head p m.keyword (last_of_method m.end)
    (join 1 (omega arith) (alone p 1 m.name.span m.name.span)
    (join 2 (omega arith) (alone p 2 (first_of_type m.input.name) (last_of_type m.input.name))
    (last_from 3 (omega arith) (alone p 3 (first_of_type m.output.name) (last_of_type m.output.name)))))

pub service_is : (p : List ℤ) (s : Service) → At p (service_locations p s)
service_is p s = block_at p s.keyword s.name.span s.close _
    (last_from 2 (omega arith) (elements (method_at p) p 2 (λ i m. method_is (element p 2 i) m) (flat_map item_methods s.items)))

-- ---- messages

oneof_is : (p : List ℤ) (i : ℕ) (o : Oneof) → At (element p 8 i) (oneof_at p i o)
oneof_is p i o = block_at (element p 8 i) o.keyword o.name.span o.close [] (none_from (element p 8 i) 2)

with_nested : (p : List ℤ) (keyword name : Span) (b : Body) (close : Span) (nested : List Location) → At (p ++ pos 3 ∷ []) nested → At p (message_with nested p keyword name b close)
with_nested p keyword name b close nested at_3 = simp append_assoc
    (block_at p keyword name close _
    (join 2 (omega arith) (fields_at p 2 (of_items item_fields b))
    (join 3 (omega arith) at_3
    (join 4 (omega arith) (enums_at p 4 (of_items item_enums b))
    (join 6 (omega arith) (fields_at p 6 (of_items item_extensions b))
    (last_from 8 (omega arith) (elements (oneof_at p) p 8 (oneof_is p) (of_items item_oneofs b))))))))

nested_is : (p : List ℤ) (i : ℕ) (b : Body) → From (p ++ pos 3 ∷ []) i (nested_from p i b)
unfolding nested_from
nested_is p i end = none_from (p ++ pos 3 ∷ []) i
nested_is p i (item x b) = less_from (omega arith) (nested_is p (i + entries x) b)
nested_is p i (message h inner close b) =
    let below = at (nested_is (element p 3 i) 0 inner) in
    join i (omega arith) (at_element p 3 i (with_nested (element p 3 i) h.keyword h.name.span inner close _ below)) (nested_is p (i + 1) b)

pub message_is : (p : List ℤ) (keyword name : Span) (b : Body) (close : Span) → At p (message_locations p keyword name b close)
message_is p keyword name b close = with_nested p keyword name b close (nested_from p 0 b) (at (nested_is p 0 b))

-- ---- files

no_package : (ts : List Top) → length (packages ts) ≡ 0 → flat_map package_location ts ≡ []
no_package [] h = refl
no_package (top_package p ∷ ts) h = absurd (omega arith)
no_package (_ ∷ ts) h = no_package ts h

package_at : (ts : List Top) → length (packages ts) ≤ 1 → At (pos 2 ∷ []) (flat_map package_location ts)
package_at [] h = none_at (pos 2 ∷ [])
package_at (top_package p ∷ ts) h =
    let none : length (packages ts) ≡ 0 = omega arith in
    rw (no_package ts none) (alone [] 2 p.keyword p.end)
package_at (_ ∷ ts) h = package_at ts h

syntax_from : (s : Option Syntax) → From [] 8 (syntax_location s)
syntax_from None = none_from [] 8
syntax_from (Some s) = last_from 12 (omega arith) (alone [] 12 s.keyword s.end)

import_is : (i : ℕ) (x : Import) → At (element [] 3 i) (import_at i x)
import_is i x = head (element [] 3 i) x.keyword x.end (none_from (element [] 3 i) 0)

pub file_is : (whole : Extent) (f : File) → length (packages f.tops) ≤ 1 → At [] (locations_in whole f)
file_is whole f h = simp append_assoc
    (head [] whole.from whole.to
    (join 2 (omega arith) (package_at f.tops h)
    (join 3 (omega arith) (elements import_at [] 3 import_is (flat_map top_imports f.tops))
    (join 4 (omega arith) (elements message_at [] 4 (λ i m. message_is (element [] 4 i) m.0.keyword m.0.name.span m.1 m.2) (flat_map top_messages f.tops))
    (join 5 (omega arith) (enums_at [] 5 (flat_map top_enums f.tops))
    (join 6 (omega arith) (elements service_at [] 6 (λ i s. service_is (element [] 6 i) s) (flat_map top_services f.tops))
    (join 7 (omega arith) (fields_at [] 7 (flat_map top_extensions f.tops))
    (syntax_from f.syntax))))))))
