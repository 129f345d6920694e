-- By what the first bytes decide.
use Rattle.std.proofs.Common.{sym, ◌∙◌}
use Rattle.mqtt_world_ends.proofs.strangers_lemmas.Names.{fault_found, none_found, packet_found}
use Rattle.mqtt_world_ends.proofs.strangers.front.find_name.Goals as goal

pub returns-then-is_faulty : goal.returns-then-is_faulty
returns-then-is_faulty c = fault_found _ _ c.in_ok-fill.ensures (sym c.is_faulty.ensures ∙ c.if-is_faulty.true)

pub returns-in-Ok-None : goal.returns-in-Ok-None
returns-in-Ok-None c = none_found _ _ c.in_ok-fill.ensures (rw c.in-Ok-None.field-0-is at c.in-Ok-None.ensures.found)

pub returns-in-Ok-Some : goal.returns-in-Ok-Some
returns-in-Ok-Some c =
    packet_found _ _ _ _ _ c.in_ok-fill.ensures (rw c.in-Ok-Some.field-0-is at c.in-Ok-Some.ensures.found).0 c.name_in.ensures
