-- A copy of which no row waits: whatever happens to the queues, none waits again, unless it enters (MQTT 5.0, 4.3, 4.4).
use Rattle.std.proofs.Common.{◌≡◌, ℕ, true, false, cond, not, List, Bool, Option, Some, None, nat_eq}
use Rattle.std.specs.Prelude.{⊤}
use Rattle.std.specs.List.{AllByRecursion}
use Rattle.mqtt_base.specs.declared.limits.TheConstants.{QUEUE_LIMIT, SESSION_LIMIT}
use Rattle.mqtt_base.specs.declared.session.CopyId.{CopyId}
use Rattle.mqtt_base.specs.declared.session.Phase.{Phase}
use Rattle.mqtt_base.specs.declared.session.Phase.TheVariants.{Waiting}
use Rattle.mqtt_records.specs.messages.Queue.{CopyRow}
use Rattle.mqtt_records.specs.declared.messages.message.MessageCopy.{MessageCopy}
use Rattle.mqtt_records.specs.declared.messages.message.Will.{Will}
use Rattle.mqtt_records.specs.state.Records.{changed_all, put_session}
use Rattle.mqtt_records.specs.state.Session.{birth_of, columns_of, copy_place, fresh, in_phase, with_columns, with_copy, with_open, with_phase, with_subscription, with_will, without_copy, without_open, without_subscription}
use Rattle.mqtt_records.specs.declared.state.records.Records.{Records}
use Rattle.mqtt_records.specs.declared.state.session.Columns.{Columns}
use Rattle.mqtt_records.specs.declared.state.session.Session.{Session}
use Rattle.mqtt_records.specs.lists.Order.{change_row, has_row, put_row}
use Rattle.mqtt_rules.specs.step.Deeds.{Accept, At, Begin, Close, Count, Deed, DropWill, Enter, Finish, Forget, Gone, Keep, Leave, Link, Mark, Name, On, Open, Part, RefuseWill, Release, Resume, Send, SetExpiry, Subscribe, Unsubscribe, after, new_entry, part_rows, part_rows_of, stored_after}
use Rattle.mqtt_rules.specs.step.State.{Broker, session_at}
use Rattle.mqtt_rules.proofs.step_lemmas.numbers.Copies.{each_filter}
use Rattle.mqtt_rules.proofs.step_lemmas.flight.FlightRows.{all_changed, all_put}

module _ (x : CopyId) where
  -- this row of the copy doesn't wait
  abbrev pub IsSent : CopyRow → Type 0
  IsSent row = row.copy.id ≡ x → row.phase ≡ Waiting → ⊥

  abbrev pub QueueSent : Session → Type 0
  QueueSent s = AllByRecursion IsSent s.queue

  abbrev pub AreSent : List Session → Type 0
  AreSent ss = AllByRecursion QueueSent ss

  -- it lets the copy not enter, and lets none wait again
  abbrev pub IsOnward : Deed → Type 0
  IsOnward (At who (Enter copy)) = copy.id ≡ x → ⊥
  IsOnward (At who (Mark place phase)) = phase ≡ Waiting → ⊥
  IsOnward d = ⊤

  entered_sent : (copy : MessageCopy) (queue rows : List CopyRow) → (copy.id ≡ x → ⊥) → AllByRecursion IsSent rows → AllByRecursion IsSent (put_row copy_place QUEUE_LIMIT (new_entry copy queue) rows)
  entered_sent copy queue rows other h = all_put copy_place IsSent QUEUE_LIMIT (new_entry copy queue) rows (λ is waits. other is) h

  marked_sent : (place : ℕ) (phase : Phase) (rows : List CopyRow) → (phase ≡ Waiting → ⊥) → AllByRecursion IsSent rows → AllByRecursion IsSent (change_row copy_place place (in_phase phase) rows)
  marked_sent place phase rows on h = all_changed copy_place IsSent place (in_phase phase) rows (λ e q is waits. on waits) h

  part_sent : (part : Part) (s : Session) (r : Records) → IsOnward (At (record { birth = s.birth; client = s.client }) part) → AreSent r.sessions → AreSent (changed_all (part_rows part s) r).sessions
  part_sent (Resume expiry None) s r q h = all_changed birth_of QueueSent s.birth (with_will None) _ (λ y z. z) (all_changed birth_of QueueSent s.birth (with_columns (record (columns_of s) { expiry = expiry; closed = None })) r.sessions (λ y z. z) h)
  part_sent (Resume expiry (Some w)) s r q h = all_changed birth_of QueueSent s.birth (with_will (Some w)) _ (λ y z. z) (all_changed birth_of QueueSent s.birth (with_columns (record (columns_of s) { expiry = expiry; closed = None })) r.sessions (λ y z. z) h)
  part_sent (Close moment) s r q h = all_changed birth_of QueueSent s.birth (with_columns (record (columns_of s) { closed = Some moment })) r.sessions (λ y z. z) h
  part_sent (SetExpiry expiry) s r q h = all_changed birth_of QueueSent s.birth (with_columns (record (columns_of s) { expiry = expiry })) r.sessions (λ y z. z) h
  part_sent DropWill s r q h = all_changed birth_of QueueSent s.birth (with_will None) r.sessions (λ y z. z) h
  part_sent (Subscribe a) s r q h = all_changed birth_of QueueSent s.birth (with_subscription a) r.sessions (λ y z. z) h
  part_sent (Unsubscribe text) s r q h = all_changed birth_of QueueSent s.birth (without_subscription text) r.sessions (λ y z. z) h
  part_sent (Open id) s r q h = all_changed birth_of QueueSent s.birth (with_open id) r.sessions (λ y z. z) h
  part_sent (Release id) s r q h = all_changed birth_of QueueSent s.birth (without_open id) r.sessions (λ y z. z) h
  part_sent (Enter copy) s r q h = all_changed birth_of QueueSent s.birth (with_copy (new_entry copy s.queue)) r.sessions (λ y z. entered_sent copy s.queue y.queue q z) h
  part_sent (Mark place phase) s r q h = all_changed birth_of QueueSent s.birth (with_phase place phase) r.sessions (λ y z. marked_sent place phase y.queue q z) h
  part_sent (Leave e ending) s r q h = all_changed birth_of QueueSent s.birth (without_copy e.place) r.sessions (λ y z. each_filter IsSent (λ (row : CopyRow). not (nat_eq (copy_place row) e.place)) y.queue z) h

  put_sent : (row : Columns) (ss : List Session) → AreSent ss → AreSent (put_session row ss)
  put_sent row ss h = by (has_row birth_of row.birth ss)
    where
      by : (t : Bool) → AreSent (cond t (change_row birth_of row.birth (with_columns row) ss) (put_row birth_of SESSION_LIMIT (fresh row) ss))
      by true = all_changed birth_of QueueSent row.birth (with_columns row) ss (λ y z. z) h
      by false = all_put birth_of QueueSent SESSION_LIMIT (fresh row) ss tt h

  begun_sent : (row : Columns) (will : Option Will) (r : Records) → AreSent r.sessions → AreSent (stored_after (Begin row will) r).sessions
  begun_sent row None r h = put_sent row r.sessions h
  begun_sent row (Some w) r h = all_changed birth_of QueueSent row.birth (with_will (Some w)) _ (λ y z. z) (put_sent row r.sessions h)

  at_sent : (part : Part) (o : Option Session) (r : Records) → ((s : Session) → IsOnward (At (record { birth = s.birth; client = s.client }) part)) → AreSent r.sessions → AreSent (changed_all (part_rows_of part o) r).sessions
  at_sent part None r q h = h
  at_sent part (Some s) r q h = part_sent part s r (q s) h

  -- whoever's it is
  onward_of : (part : Part) (birth other : ℕ) (client name : List ℕ) → IsOnward (At (record { birth = birth; client = client }) part) → IsOnward (At (record { birth = other; client = name }) part)
  onward_of (Enter copy) birth other client name h = h
  onward_of (Mark place phase) birth other client name h = h
  onward_of part birth other client name h = tt

  -- whatever the deed
  pub deed_sent : (d : Deed) (b : Broker) → IsOnward d → AreSent b.records.sessions → AreSent (after d b).records.sessions
  deed_sent (At who part) b q h = at_sent part (session_at who.birth b.records) b.records (λ s. onward_of part who.birth s.birth who.client s.client q) h
  deed_sent (Begin row will) b q h = begun_sent row will b.records h
  deed_sent (Finish who) b q h = each_filter QueueSent (λ (s : Session). not (nat_eq (birth_of s) who.birth)) b.records.sessions h
  deed_sent (Accept number origin m) b q h = h
  deed_sent (Name n) b q h = h
  deed_sent (Count n) b q h = h
  deed_sent (Keep kept) b q h = h
  deed_sent (Forget place) b q h = h
  deed_sent (RefuseWill who) b q h = h
  deed_sent (Link n) b q h = h
  deed_sent (On n part) b q h = h
  deed_sent (Send n packet) b q h = h
  deed_sent (Gone n) b q h = h
