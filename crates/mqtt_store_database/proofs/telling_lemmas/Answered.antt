-- The rows that answer the question say the first copies of the session.
use Rattle.std.proofs.Common.{◌≡◌, ℕ, ◌+◌, nat_eq, List, [], ◌∷◌, map, filter, take, refl, sym, ap, ◌∙◌, subst, inl, inr}
use Rattle.std.specs.Prelude.{zero, suc}
use Rattle.std.specs.List.{AllByRecursion}
use Rattle.std.proofs.lemmas.Bool.{cases_Bool}
use Rattle.sqlite_value.specs.Order.{Row}
use Rattle.sqlite_trees.specs.Tree.{Trees}
use Rattle.sqlite_sql.specs.Program.{overlay}
use Rattle.sqlite.specs.Query.{IsAnswer}
use Rattle.mqtt_records.specs.messages.Queue.{CopyRow}
use Rattle.mqtt_records.specs.lists.Order.{IsAscending, row_at}
use Rattle.mqtt_records.proofs.lists_lemmas.OrderLemmas.{filter-ascending}
use Rattle.mqtt_records.specs.state.Contents.{StoredMessage}
use Rattle.mqtt_records.specs.declared.state.session.Session.{Session}
use Rattle.mqtt_records.specs.state.Session.{birth_of, copy_place}
use Rattle.mqtt_store_rows.specs.values.Lists.{AreRows}
use Rattle.mqtt_store_rows.specs.values.Gives.{Parts, AreSessions, IsWithin}
use Rattle.mqtt_store_database.specs.asking.Listing.{IsListingOf}
use Rattle.mqtt_store_database.proofs.asking_lemmas.Rising.{rows_rise}
use Rattle.mqtt_store_rows.specs.rows.Rows.{SaysMessage}
use Rattle.mqtt_store_rows.specs.rows.Joins.{publication_of}
use Rattle.mqtt_store_rows.specs.rows.Gives.{AreQueues, without_queue}
use Rattle.mqtt_store_database.specs.declared.reading.reading.AddedTable.TheVariants.{Message, Queued}
use Rattle.mqtt_store_database.specs.reading.Listing.{added_columns, added_key}
use Rattle.mqtt_records.specs.state.Telling.{copy_content, queue_or_none, is_from}
use Rattle.mqtt_store_database.specs.telling.Said.{SaysCopyContent}
use Rattle.mqtt_store_database.proofs.telling_lemmas.Joined.{joined_query, all_shown, joined_answer}
use Rattle.mqtt_store_database.proofs.telling_lemmas.Shown.{Says, asked_for, queue_shown}
use Rattle.mqtt_store_database.proofs.telling_lemmas.Far.{near, near_birth, near_place}

-- the first rows say the first copies
are_taken : (n : ℕ) (rows : List Row) (xs : List CopyRow) → AreRows Says rows xs → AreRows SaysCopyContent (take n rows) (take n (map copy_content xs))
are_taken zero rows xs are = tt
are_taken (suc n) [] [] are = tt
are_taken (suc n) [] (x ∷ xs) are = absurd are
are_taken (suc n) (row ∷ rows) [] are = absurd are
are_taken (suc n) (row ∷ rows) (x ∷ xs) are = (are.0, are_taken n rows xs are.1)

-- a queue is in the order of its places
queue_ascends : (birth : ℕ) (ss : List Session) → AllByRecursion IsWithin ss → IsAscending copy_place (queue_or_none (row_at birth_of birth ss))
queue_ascends birth [] within = tt
queue_ascends birth (s ∷ ss) within = elim (cases_Bool (nat_eq s.birth birth)) [
  | inl here ↦ rw here within.0.queue.ascending
  | inr other ↦ rw other (queue_ascends birth ss within.1)
]

-- what the tables of schema 2 say of copies, where they keep records
pub record AreKept (db : Trees) (tree : ℕ) (ss : List Session) : Type 0 where
  pub messages : List StoredMessage
  pub rows : List Row
  pub queued : List Row
  pub of_messages : IsListingOf (added_columns Message) (added_key Message) (db tree) rows
  pub of_queued : IsListingOf (added_columns Queued) (added_key Queued) (db (tree + 1)) queued
  pub say : AreRows SaysMessage rows messages
  pub order : IsAscending publication_of messages
  pub queues : AreQueues messages queued ss
  pub own : List Row
  pub parts : Parts
  pub sessions : AreSessions own parts (map without_queue ss)
  pub births : IsAscending birth_of ss
  pub within : AllByRecursion IsWithin ss

-- an answer to the question has the first copies
pub answer_says : (db : Trees) (tree birth place limit : ℕ) (ss : List Session) (rows : List Row) → AreKept db tree ss → IsAnswer (joined_query tree) (overlay db []) (asked_for (near birth) (near place) limit) rows
    → AreRows SaysCopyContent rows (take limit (map copy_content (filter (is_from place) (queue_or_none (row_at birth_of birth ss)))))
answer_says db tree birth place limit ss rows k a =
    let b = near birth in
    let p = near place in
    let queue = queue_or_none (row_at birth_of b ss) in
    let are = queue_shown b p limit k.messages k.rows k.say k.order k.queued ss k.queues k.births in
    let up = rows_rise Says copy_place (λ x row says. says.place) (all_shown (asked_for b p limit) k.rows k.queued) (filter (is_from p) queue) are (filter-ascending copy_place (is_from p) queue (queue_ascends b ss k.within)) in
    let is = joined_answer tree (asked_for b p limit) limit refl db k.rows k.queued rows k.of_messages k.of_queued up a in
    let same : filter (is_from p) queue ≡ filter (is_from place) (queue_or_none (row_at birth_of birth ss)) =
    near_place k.messages b place k.queued ss k.queues ∙ ap (λ o. filter (is_from place) (queue_or_none o)) (near_birth birth k.own k.parts ss k.sessions) in
    subst (λ l. AreRows SaysCopyContent l (take limit (map copy_content (filter (is_from place) (queue_or_none (row_at birth_of birth ss)))))) (sym is)
    (subst (λ l. AreRows SaysCopyContent (take limit (all_shown (asked_for b p limit) k.rows k.queued)) (take limit (map copy_content l))) same (are_taken limit _ _ are))
