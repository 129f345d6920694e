use Rattle.mqtt_rules.proofs.step_lemmas.order.OpenLists.{increasing_there, ascending_of}
use Rattle.mqtt_rules.proofs.step.lawful_laws.open_identifiers_are_one_list.Goals as goal

pub returns : goal.returns
returns c =
    λ ids. (
      λ h. record { ascending = increasing_there ids h.ascending; within = h.within },
      λ h. record { ascending = ascending_of ids h.ascending; within = h.within },
    )
