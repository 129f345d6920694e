use Rattle.mqtt_broker_step.proofs.Backs.{columns_set_back}
use Rattle.mqtt_broker_step.proofs.sessions.columns_back.Goals as goal

pub returns : goal.returns
returns c = λ row birth r found. columns_set_back row c.in_ok-row.row c.args.session.now r birth c.in_ok-row.ensures found
