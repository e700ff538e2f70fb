-- Ways of writing under options.
use Rattle.std.specs.Prelude.{None}
use Rattle.pbx_json_meaning.specs.Canonical.{Writing}
use Rattle.pbx_json_meaning.specs.declared.options.SerializeOptions.{SerializeOptions}

-- the way of writing under the options that tells of no payload, for what no payload changes
abbrev pub plain : SerializeOptions → Writing
plain o = record { options = o; payloads = λ u bytes. None }
