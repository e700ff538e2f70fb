-- Records of services.
use Rattle.std.specs.Prelude.{List, [], ◌∷◌, Bool, true, Option, Some, None}
use Rattle.std.specs.List.{flat_map, filter_map}
use Rattle.pbx_desc_records.specs.declared.service.MethodDescriptorProto.{MethodDescriptorProto}
use Rattle.pbx_desc_records.specs.declared.service.ServiceDescriptorProto.{ServiceDescriptorProto}
use Rattle.pbx_parse_token.specs.declared.token.Span.{Span}
use Rattle.pbx_parse_tree.specs.declared.options.OptionPlace.TheVariants as places
use Rattle.pbx_parse_tree.specs.Conditions.{method_setting, service_setting}
use Rattle.pbx_parse_tree.specs.Tree.{Setting, MethodEnd, method_semicolon, method_block, Method, ServiceItem, service_method, Service}
use Rattle.pbx_parse_translation.specs.Texts.{type_text}
use Rattle.pbx_parse_translation.specs.Settings.{options_of}

-- true where `stream` is written, and absent where it is not
abbrev pub streaming : Option Span → Option Bool
streaming None = None
streaming (Some keyword) = Some true

-- what the option statements of a method set
abbrev pub method_settings : MethodEnd → List Setting
method_settings (method_semicolon s) = []
method_settings (method_block «open» items close) = filter_map method_setting items

unfoldable pub method_record : Method → MethodDescriptorProto
method_record m = record {
  name = Some m.name.text;
  input_type = Some (type_text m.input.name);
  output_type = Some (type_text m.output.name);
  options = options_of places.Method (method_settings m.end);
  client_streaming = streaming m.input.stream;
  server_streaming = streaming m.output.stream;
  unknown = [];
}

abbrev pub method_records : ServiceItem → List MethodDescriptorProto
method_records (service_method m) = method_record m ∷ []
method_records _ = []

-- a service, its methods in the order of the source
unfoldable pub service_record : Service → ServiceDescriptorProto
service_record s = record {
  name = Some s.name.text;
  method = flat_map method_records s.items;
  options = options_of places.Service (filter_map service_setting s.items);
  unknown = [];
}
