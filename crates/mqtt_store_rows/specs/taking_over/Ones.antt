-- A row of `retained` says one thing in schema 1.
use Rattle.std.proofs.Common.{◌≡◌}
use Rattle.sqlite_value.specs.Order.{Row}
use Rattle.mqtt_records.specs.declared.messages.message.Content.{Content}
use Rattle.mqtt_records.specs.declared.messages.message.RetainedMessage.{RetainedMessage}
use Rattle.mqtt_store_rows.specs.taking_over.Rows.{SaysContent, SaysRetained}
use Rattle.mqtt_store_rows.specs.values.Ones.{one_blob, one_number, one_passed, one_qos, one_text, same_content, same_retained}

one_content : (x y : Content) (row : Row) → SaysContent x row → SaysContent y row → x ≡ y
one_content x y row h k =
    same_content _ _ _ _ _ _ _ _ (one_text _ _ _ h.topic k.topic) (one_passed _ _ _ h.properties k.properties) (one_blob _ _ _ h.payload k.payload)
    (one_number _ _ _ h.arrived k.arrived)

pub one_retained : (x y : RetainedMessage) (row : Row) → SaysRetained x row → SaysRetained y row → x ≡ y
one_retained x y row h k =
    same_retained _ _ _ _ _ _ _ _ _ _ (one_number _ _ _ h.place k.place) (one_text _ _ _ h.sender k.sender)
    (one_number _ _ _ h.publication k.publication) (one_qos _ _ _ h.qos k.qos) (one_content _ _ row h.content k.content)
