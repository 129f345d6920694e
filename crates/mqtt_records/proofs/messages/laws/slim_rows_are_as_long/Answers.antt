-- A slim row is as long as the whole one (MQTT 5.0, 3.3).
use Rattle.std.proofs.Common.{length}
use Rattle.mqtt_props.specs.declared.table.PropName.TheVariants.{MessageExpiryInterval}
use Rattle.mqtt_props.specs.Properties.{props}
use Rattle.mqtt_records.specs.messages.PassedOn.{number_at}
use Rattle.mqtt_records.specs.messages.Queue.{first_sent}
use Rattle.mqtt_records.proofs.messages_lemmas.Slim.{bare_passes, slim_interval, slim_size, slim_spelled, row_once}
use Rattle.mqtt_records.proofs.messages.laws.slim_rows_are_as_long.Goals as goal

pub returns-clause-spelled : goal.returns-clause-spelled
returns-clause-spelled c = slim_spelled

pub returns-clause-size : goal.returns-clause-size
returns-clause-size c = slim_size

pub returns-clause-interval : goal.returns-clause-interval
returns-clause-interval c = slim_interval

pub returns-clause-passed : goal.returns-clause-passed
returns-clause-passed c copy = bare_passes (length (props (first_sent copy))) (number_at MessageExpiryInterval copy.content.properties)

pub returns-clause-once : goal.returns-clause-once
returns-clause-once c = row_once
