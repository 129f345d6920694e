-- Rows of schema 2 that give records rise by their keys, each above all before it.
use Rattle.std.proofs.Common.{ℕ, List, [], ◌∷◌, map, sym, subst}
use Rattle.std.specs.List.{AllByRecursion}
use Rattle.sqlite_value.specs.Order.{Row}
use Rattle.mqtt_records.specs.declared.state.session.Session.{Session}
use Rattle.mqtt_records.specs.declared.state.records.Records.{Records}
use Rattle.mqtt_records.specs.state.Session.{birth_of, copy_place}
use Rattle.mqtt_records.specs.state.Records.{kept_place}
use Rattle.mqtt_records.specs.state.Contents.{StoredMessage}
use Rattle.mqtt_records.specs.lists.Order.{IsAbove, IsAscending}
use Rattle.mqtt_store_rows.specs.values.Gives.{IsWithin, AreWithin, counters_of}
use Rattle.mqtt_store_database.proofs.asking_lemmas.Rising.{Rise, AllLater, PartsRise, rows_rise, part_rises, takes_on, parts_rise, all_counted, columns_rise}
use Rattle.mqtt_store_database.proofs.asking_lemmas.Unique.{numbers_rise}
use Rattle.mqtt_store_rows.specs.rows.Rows.{SaysMessage}
use Rattle.mqtt_store_rows.specs.rows.Joins.{publication_of, SaysCopy, SaysRetained}
use Rattle.mqtt_store_rows.specs.rows.Gives.{Rows, Gives, AreQueues, without_queue, parts_of}
use Rattle.mqtt_store_rows.proofs.rows_lemmas.QueueLemmas.{same_above, same_order, without_twice, within_without}

-- the rows of queues rise by birth and place
queues_rise : (messages : List StoredMessage) (n : ℕ) (rows : List Row) (ss : List Session) → AreQueues messages rows ss → IsAbove birth_of n ss → IsAscending birth_of ss → AllByRecursion IsWithin ss
    → AllLater n (1 ∷ []) rows
queues_rise messages n rows [] are low up within = subst (AllLater n (1 ∷ [])) (sym are) (tt, tt)
queues_rise messages n rows (s ∷ ss) are low up within =
    takes_on (SaysCopy messages) (1 ∷ []) n s.birth s.queue rows are.0 low.0 are.1
    (part_rises (SaysCopy messages) copy_place 1 (λ x r h. h.own.place) s.birth are.1.front s.queue are.1.mine are.1.are within.0.queue.ascending)
    (queues_rise messages s.birth are.0 ss are.2 up.0 up.1 within.1)

-- the rows of all tables rise
pub record AllRise (rows : Rows) : Type 0 where
  pub meta : Rise (0 ∷ []) rows.meta
  pub sessions : Rise (0 ∷ []) rows.sessions
  pub parts : PartsRise 0 (parts_of rows)
  pub messages : Rise (0 ∷ []) rows.messages
  pub queued : Rise (0 ∷ 1 ∷ []) rows.queued
  pub kept : Rise (0 ∷ []) rows.kept

-- if they give records whose lists are in order
pub all_rise : (rows : Rows) (r : Records) → Gives rows r → AreWithin r → AllRise rows
all_rise rows r gives within =
    let bare = map without_queue r.sessions in
    let are = gives.by.sessions.others in
    let same = without_twice r.sessions in
    let up : IsAscending birth_of bare = same_order bare r.sessions same within.sessions.ascending in
    let low : IsAbove birth_of 0 bare = all_counted rows.sessions (parts_of rows) bare are in
    record {
      meta = numbers_rise 2 (counters_of r) rows.meta gives.by.numbers;
      sessions = columns_rise rows.sessions (parts_of rows) bare are up;
      parts = parts_rise 0 rows.sessions (parts_of rows) bare are low up (within_without r.sessions within.each);
      messages = rows_rise SaysMessage publication_of (λ x row h. h.publication) rows.messages gives.messages gives.said gives.order.ascending;
      queued = (queues_rise gives.messages 0 rows.queued r.sessions gives.by.sessions.queues (same_above 0 r.sessions bare (sym same) low) within.sessions.ascending within.each).1;
      kept = rows_rise (SaysRetained gives.messages) kept_place (λ x row h. h.own.place) rows.kept r.retained gives.by.retained within.retained.ascending;
    }
