-- The options that a source may set, with their numbers in descriptor.proto.
use Rattle.std.specs.Prelude.{ℕ, List, Option, Some, None, if◌then◌else◌, codes}
use Rattle.std.specs.Str.{bytes_eq}
use Rattle.pbx_parse_tree.specs.declared.options.OptionPlace.{OptionPlace}
use Rattle.pbx_parse_tree.specs.declared.options.OptionPlace.TheVariants as places
use Rattle.pbx_parse_tree.specs.declared.options.OptionKind.{OptionKind}
use Rattle.pbx_parse_tree.specs.declared.options.OptionKind.TheVariants as kinds
use Rattle.pbx_parse_tree.specs.declared.options.KnownOption.{KnownOption}

abbrev pub known : ℕ → OptionKind → Option KnownOption
known n k = Some (record { number = n; kind = k })

-- deprecated, which each place has
abbrev pub only_deprecated : ℕ → List ℕ → Option KnownOption
only_deprecated n t = if bytes_eq t (codes "deprecated") then known n kinds.Bool else None

-- descriptor.proto: FieldOptions
abbrev pub field_option : List ℕ → Option KnownOption
field_option t = if bytes_eq t (codes "packed") then known 2 kinds.Bool else only_deprecated 3 t

-- descriptor.proto: EnumOptions
abbrev pub enum_option : List ℕ → Option KnownOption
enum_option t = if bytes_eq t (codes "allow_alias") then known 2 kinds.Bool else only_deprecated 3 t

-- descriptor.proto: FileOptions, the texts
abbrev pub file_text : List ℕ → Option KnownOption
file_text t =
    if bytes_eq t (codes "java_package") then known 1 kinds.Text
    else (if bytes_eq t (codes "java_outer_classname") then known 8 kinds.Text
    else (if bytes_eq t (codes "go_package") then known 11 kinds.Text
    else (if bytes_eq t (codes "objc_class_prefix") then known 36 kinds.Text
    else (if bytes_eq t (codes "csharp_namespace") then known 37 kinds.Text
    else (if bytes_eq t (codes "swift_prefix") then known 39 kinds.Text
    else (if bytes_eq t (codes "php_class_prefix") then known 40 kinds.Text
    else (if bytes_eq t (codes "php_namespace") then known 41 kinds.Text
    else (if bytes_eq t (codes "php_metadata_namespace") then known 44 kinds.Text
    else (if bytes_eq t (codes "ruby_package") then known 45 kinds.Text
    else None)))))))))

-- descriptor.proto: FileOptions, the truth values
abbrev pub file_flag : List ℕ → Option KnownOption
file_flag t =
    if bytes_eq t (codes "java_multiple_files") then known 10 kinds.Bool
    else (if bytes_eq t (codes "cc_generic_services") then known 16 kinds.Bool
    else (if bytes_eq t (codes "java_generic_services") then known 17 kinds.Bool
    else (if bytes_eq t (codes "py_generic_services") then known 18 kinds.Bool
    else (if bytes_eq t (codes "java_generate_equals_and_hash") then known 20 kinds.Bool
    else (if bytes_eq t (codes "java_string_check_utf8") then known 27 kinds.Bool
    else (if bytes_eq t (codes "cc_enable_arenas") then known 31 kinds.Bool
    else (if bytes_eq t (codes "php_generic_services") then known 42 kinds.Bool
    else only_deprecated 23 t)))))))

abbrev either : Option KnownOption → Option KnownOption → Option KnownOption
either None o = o
either (Some k) o = Some k

-- descriptor.proto: FileOptions
abbrev pub file_option : List ℕ → Option KnownOption
file_option t = if bytes_eq t (codes "optimize_for") then known 9 kinds.OptimizeMode else either (file_text t) (file_flag t)

-- the option of a name at a place; `default` and `json_name` of a field are no options in this sense
abbrev pub known_option : OptionPlace → List ℕ → Option KnownOption
known_option places.File t = file_option t
known_option places.Message t = only_deprecated 3 t
known_option places.Field t = field_option t
known_option places.Enum t = enum_option t
known_option places.EnumValue t = only_deprecated 1 t
known_option places.Service t = only_deprecated 33 t
known_option places.Method t = only_deprecated 33 t

-- descriptor.proto: FileOptions.OptimizeMode
abbrev pub optimize_mode : List ℕ → Option ℕ
optimize_mode t =
    if bytes_eq t (codes "SPEED") then Some 1
    else (if bytes_eq t (codes "CODE_SIZE") then Some 2
    else (if bytes_eq t (codes "LITE_RUNTIME") then Some 3
    else None))
