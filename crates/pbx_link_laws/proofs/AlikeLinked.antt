-- Rules and linking find the same in records of one content.
use Rattle.std.proofs.Common.{◌∙◌, ap, sym}
use Rattle.pbx_link_record.specs.Settled.{settled_file}
use Rattle.pbx_link_record.specs.Linked.{linked_with, linked_record}
use Rattle.pbx_link_scope.specs.Scope.{visible}
use Rattle.pbx_link_rules.specs.Breaches.{breaches}
use Rattle.pbx_link_laws.proofs.Once.{settled_is_settled}
use Rattle.pbx_link_laws.proofs.Rules.{rules_are_of_contents}
use Rattle.pbx_link_laws.proofs.Linking.{linking_is_of_contents}
use Rattle.pbx_link_laws.proofs.Again.{settled_is_linked}
use Rattle.pbx_link_laws.specs.SameLaws.{AlikeBreak, AlikeLink, AlikeIsLinked}
use Rattle.pbx_link_laws.proofs.Alike.{alike_is_settled}

pub alike_break : AlikeBreak
alike_break rule files f g alike =
    sym (rules_are_of_contents rule files f) ∙ ap (breaches rule files) ((alike_is_settled f g).0 alike) ∙ rules_are_of_contents rule files g

pub alike_link : AlikeLink
alike_link files f g alike =
    sym (linking_is_of_contents files f) ∙ ap (linked_record files) ((alike_is_settled f g).0 alike) ∙ linking_is_of_contents files g

pub alike_is_linked : AlikeIsLinked
alike_is_linked files f g h linked alike =
    settled_is_linked files f g linked h
    ((alike_is_settled h g).0 alike ∙ ap settled_file linked.is ∙ settled_is_settled (linked_with (visible files f) f) ∙ sym linked.is)
