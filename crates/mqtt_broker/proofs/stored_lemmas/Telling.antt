-- What a store tells for each place fills rows in order.
use Rattle.std.proofs.Common.{◌≡◌, ℕ, List, [], ◌∷◌, Some, sym, ap, ◌∙◌}
use Rattle.std.specs.List.{AllByRecursion}
use Rattle.mqtt_records.specs.messages.Filling.{Fillings}
use Rattle.mqtt_records.specs.messages.Queue.{CopyRow}
use Rattle.mqtt_records.specs.lists.Order.{row_at}
use Rattle.mqtt_records.specs.state.Session.{birth_of, copy_place}
use Rattle.mqtt_records.specs.declared.state.records.Records.{Records}
use Rattle.mqtt_records.specs.declared.state.session.Session.{Session}
use Rattle.mqtt_records.specs.state.Telling.{AreTold, queue_at, queue_or_none}
use Rattle.mqtt_rules.specs.step.Laws.{HasTables, IsOrdered}
use Rattle.mqtt_rules.proofs.step_lemmas.flight.FlightRows.{all_found}
use Rattle.mqtt_rules.specs.filling.Filling.{AreFilledBy, IsFilledBy, IsSessionFilledBy}

module _ (fillings : Fillings) (r : Records) (told : AreTold fillings r) where
  -- each row of a queue in order is found at its place
  queue_says : (birth : ℕ) (queue rows : List CopyRow) → queue_at birth r ≡ queue → AllByRecursion (λ (e : CopyRow). row_at copy_place (copy_place e) queue ≡ Some e) rows
      → AllByRecursion (IsFilledBy (fillings birth)) rows
  queue_says birth queue [] is found = tt
  queue_says birth queue (e ∷ es) is found = (
    sym (told birth e.place e (ap (λ (q : List CopyRow). row_at copy_place e.place q) is ∙ found.0)),
    queue_says birth queue es is found.1,
  )

  sessions_say : (ss : List Session) → AllByRecursion (λ (s : Session). row_at birth_of (birth_of s) r.sessions ≡ Some s) ss → AllByRecursion HasTables ss
      → AllByRecursion (IsSessionFilledBy fillings) ss
  sessions_say [] found tables = tt
  sessions_say (s ∷ ss) found tables = (
    queue_says s.birth s.queue s.queue (ap queue_or_none found.0) (all_found copy_place s.queue tables.0.queue.ascending),
    sessions_say ss found.1 tables.1,
  )

  -- records in order say what is told of them
  pub told_fills : IsOrdered r → AreFilledBy fillings r
  told_fills ordered = sessions_say r.sessions (all_found birth_of r.sessions ordered.sessions.ascending) ordered.each
