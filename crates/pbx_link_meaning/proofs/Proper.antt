-- The shape of a pool is proper.
use Rattle.pbx_link_meaning.specs.Laws.{TypesAreProper, ShapeIsProper}
use Rattle.pbx_link_meaning.proofs.ValidNumbers.{numbers_are_valid}
use Rattle.pbx_link_meaning.proofs.DistinctNumbers.{numbers_are_distinct}
use Rattle.pbx_link_meaning.proofs.Keyed.{keys_are_valid}

pub types_are_proper : TypesAreProper
types_are_proper pool pooled t =
    record { numbered = numbers_are_valid pool pooled t; distinct = numbers_are_distinct pool pooled t; keyed = keys_are_valid pool pooled t }

pub shape_is_proper : ShapeIsProper
shape_is_proper pool pooled fit = record { types = types_are_proper pool pooled; enums = fit }
