use Rattle.std.proofs.Common.{refl}
use Rattle.mqtt_rules.proofs.step_lemmas.acts.Reached.{serve_apart, member_reached}
use Rattle.mqtt_rules.proofs.step.routing_laws.members_are_reached.Goals as goal

pub returns-clause-free : goal.returns-clause-free
returns-clause-free c = λ choices env m r. refl

pub returns-clause-apart : goal.returns-clause-apart
returns-clause-apart c = serve_apart

pub returns-clause-member : goal.returns-clause-member
returns-clause-member c = member_reached
