-- What a clause sees of a descriptor: its number and the numbers of its fields, however its handles are shared.
use Rattle.std.specs.Prelude.{ℕ, List, []}
use Rattle.std.specs.declared.option.Option.{Option}
use Rattle.std.specs.declared.option.Option.TheVariants.{None, Some}
use Rattle.pbx_shared_check.specs.declared.descriptor.Content.{Content}

pub record Told : Type 0 where
  pub number : ℕ
  pub fields : List ℕ

abbrev pub told : Content → Told
told c = record { number = c.number; fields = c.fields.items }

-- of a handle that is there; where it is taken out, nothing
abbrev pub told_held : Option Content → Told
told_held (Some c) = told c
told_held None = record { number = 0; fields = [] }
