use Rattle.mqtt_store_database.proofs.row_laws_lemmas.tables.LetGo.{let_go_table}
use Rattle.mqtt_store_database.proofs.row_laws.contents.dropped_messages_leave_messages.Goals as goal

pub returns : goal.returns
returns c making q r old mid new agree queued kept written queued_now kept_now removes =
    let_go_table making q r old mid new agree (record { queued = queued; kept = kept }) (record { queued = queued_now; kept = kept_now }) written removes
