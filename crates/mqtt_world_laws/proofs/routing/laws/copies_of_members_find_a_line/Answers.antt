-- By the members that were eligible, and the lines where publications are accepted.
use Rattle.mqtt_world_laws.proofs.routing_lemmas.Members.{all_have_lines}
use Rattle.mqtt_world_laws.proofs.routing.laws.copies_of_members_find_a_line.Goals as goal

pub returns : goal.returns
returns c = all_have_lines
