-- Rows of schema 2 give one thing.
use Rattle.std.proofs.Common.{◌≡◌, List, map, subst}
use Rattle.mqtt_records.specs.declared.state.records.Records.{Records}
use Rattle.mqtt_records.specs.declared.state.session.Session.{Session}
use Rattle.mqtt_records.specs.state.Session.{birth_of}
use Rattle.mqtt_records.specs.lists.Order.{IsAscending}
use Rattle.mqtt_records.specs.state.Contents.{StoredMessage}
use Rattle.mqtt_store_rows.specs.values.Ones.{one_numbers}
use Rattle.mqtt_store_rows.specs.values.Gives.{counters_of, AreWithin}
use Rattle.mqtt_store_rows.proofs.values_lemmas.OneLemmas.{same_rows, one_sessions, same_records}
use Rattle.mqtt_store_rows.specs.rows.Rows.{SaysMessage}
use Rattle.mqtt_store_rows.specs.rows.Joins.{SaysRetained}
use Rattle.mqtt_store_rows.specs.rows.Ones.{one_message, one_retained}
use Rattle.mqtt_store_rows.specs.rows.Gives.{Rows, parts_of, without_queue, AreSessionsWith, GivesBy, AreHeads, Gives}
use Rattle.mqtt_store_rows.proofs.rows_lemmas.QueueLemmas.{same_order, without_twice, one_queues}

-- ---- sessions

-- two lists of sessions that the rows say are the same without their queues
pub same_bare : (messages : List StoredMessage) (rows : Rows) (ss ts : List Session) → AreSessionsWith messages rows ss → IsAscending birth_of ss → AreSessionsWith messages rows ts → IsAscending birth_of ts → map without_queue ss ≡ map without_queue ts
same_bare messages rows ss ts are up those rise =
    one_sessions rows.sessions (parts_of rows) (map without_queue ss) (map without_queue ts) are.others those.others
    (same_order (map without_queue ss) ss (without_twice ss) up) (same_order (map without_queue ts) ts (without_twice ts) rise)

one_list : (messages : List StoredMessage) (rows : Rows) (ss ts : List Session) → AreSessionsWith messages rows ss → IsAscending birth_of ss → AreSessionsWith messages rows ts → IsAscending birth_of ts → ss ≡ ts
one_list messages rows ss ts are up those rise = one_queues messages rows.queued ss ts (same_bare messages rows ss ts are up those rise) rise are.queues those.queues

-- ---- records

-- with these messages rows give one records and no other
pub one_by : (messages : List StoredMessage) (rows : Rows) (r s : Records) → GivesBy messages rows r → AreWithin r → GivesBy messages rows s → AreWithin s → r ≡ s
one_by messages rows r s gives within others as_well =
    same_records (counters_of r) (counters_of s) r.sessions s.sessions r.retained s.retained (one_numbers 2 (counters_of r) (counters_of s) rows.meta gives.numbers others.numbers)
    (one_list messages rows r.sessions s.sessions gives.sessions within.sessions.ascending others.sessions as_well.sessions.ascending)
    (same_rows (SaysRetained messages) (one_retained messages) rows.kept r.retained s.retained gives.retained others.retained)

-- and one records of sessions without queues
pub one_heads : (messages : List StoredMessage) (rows : Rows) (r s : Records) → AreHeads messages rows r → AreWithin r → AreHeads messages rows s → AreWithin s → r ≡ s
one_heads messages rows r s heads within others as_well =
    same_records (counters_of r) (counters_of s) r.sessions s.sessions r.retained s.retained (one_numbers 2 (counters_of r) (counters_of s) rows.meta heads.numbers others.numbers)
    (one_sessions rows.sessions (parts_of rows) r.sessions s.sessions heads.sessions others.sessions within.sessions.ascending as_well.sessions.ascending)
    (same_rows (SaysRetained messages) (one_retained messages) rows.kept r.retained s.retained heads.retained others.retained)

-- rows give one records and no other
pub one_records : (rows : Rows) (r s : Records) → Gives rows r → AreWithin r → Gives rows s → AreWithin s → r ≡ s
one_records rows r s gives within others as_well =
    let same : others.messages ≡ gives.messages = same_rows SaysMessage one_message rows.messages others.messages gives.messages others.said gives.said in
    one_by gives.messages rows r s gives.by within (subst (λ (l : List StoredMessage). GivesBy l rows s) same others.by) as_well
