use Rattle.mqtt_script.proofs.Events.{one_line_one_event}
use Rattle.mqtt_script.proofs.laws.one_event.Goals as goal

pub returns : goal.returns
returns c = one_line_one_event
