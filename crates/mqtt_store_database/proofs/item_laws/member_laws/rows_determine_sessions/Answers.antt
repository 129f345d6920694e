use Rattle.mqtt_store_database.proofs.item_laws_lemmas.records.Determined.{determined}
use Rattle.mqtt_store_database.proofs.item_laws.member_laws.rows_determine_sessions.Goals as goal

pub returns : goal.returns
returns c q r oq vr rows = determined q r oq vr rows
