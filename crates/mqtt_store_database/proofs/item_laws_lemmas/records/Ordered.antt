-- A change leaves the lists of records in order.
use Rattle.std.proofs.Common.{◌≡◌, ℕ, Bool, true, false, not, ◌||◌, List, [], ◌∷◌, filter, length, cond, nat_eq, nat_lt, refl, inl, inr}
use Rattle.std.specs.List.{AllByRecursion}
use Rattle.std.proofs.lemmas.Bool.{cases_Bool}
use Rattle.mqtt_base.specs.declared.limits.TheConstants.{SESSION_LIMIT, SUBSCRIPTION_LIMIT, OPEN_LIMIT, QUEUE_LIMIT, RETAINED_LIMIT}
use Rattle.mqtt_records.specs.declared.state.session.Session.{Session}
use Rattle.mqtt_records.specs.declared.state.session.Columns.{Columns}
use Rattle.mqtt_records.specs.declared.state.change.Change.{Change}
use Rattle.mqtt_records.specs.declared.state.change.Change.TheVariants.{SetCounter, PutSession, SetSession, RemoveSession, PutWill, RemoveWill, PutSubscription, RemoveSubscription, PutInbound, RemoveInbound, PutCopy, SetCopy, RemoveCopy, PutRetained, RemoveRetained}
use Rattle.mqtt_records.specs.declared.state.change.Counter.{Counter}
use Rattle.mqtt_records.specs.declared.state.change.Counter.TheVariants.{Births, Publications, Subscribes, Autos, Moment}
use Rattle.mqtt_records.specs.declared.state.records.Records.{Records}
use Rattle.mqtt_records.specs.lists.Order.{IsAscending, has_row, insert_row, put_row, change_row}
use Rattle.mqtt_records.proofs.lists_lemmas.OrderLemmas.{put-ascending, filter-ascending, remove-ascending, change-ascending}
use Rattle.mqtt_records.specs.state.Session.{birth_of, place_of, number_of, copy_place, in_phase, fresh, with_columns, with_will}
use Rattle.mqtt_records.specs.state.Session.{with_subscription, without_subscription, with_open, without_open, with_copy, with_phase, without_copy}
use Rattle.mqtt_records.specs.state.Records.{changed, kept_place, with_counter, in_session}
use Rattle.mqtt_store_database.specs.item_laws.Members.{IsKept, IsOrdered, AllOrdered}

-- ---- what holds of each row holds after an edit

module _ {X : Type 0} (key : X → ℕ) (P : X → Type 0) where
  all_changed : (k : ℕ) (f : X → X) → ((x : X) → P x → P (f x)) → (xs : List X) → AllByRecursion P xs → AllByRecursion P (change_row key k f xs)
  all_changed k f each [] all = tt
  all_changed k f each (x ∷ xs) all = elim (cases_Bool (nat_eq (key x) k)) [
    | inl is ↦ rw is (each x all.0, all.1)
    | inr isnt ↦ rw isnt (all.0, all_changed k f each xs all.1)
  ]

  all_filtered : (keep : X → Bool) (xs : List X) → AllByRecursion P xs → AllByRecursion P (filter keep xs)
  all_filtered keep [] all = tt
  all_filtered keep (x ∷ xs) all = elim (cases_Bool (keep x)) [
    | inl stays ↦ rw stays (all.0, all_filtered keep xs all.1)
    | inr goes ↦ rw goes (all_filtered keep xs all.1)
  ]

  all_inserted : (row : X) → P row → (xs : List X) → AllByRecursion P xs → AllByRecursion P (insert_row key row xs)
  all_inserted row p [] all = (p, tt)
  all_inserted row p (x ∷ xs) all = elim (cases_Bool (nat_lt (key row) (key x))) [
    | inl before ↦ rw before (p, all)
    | inr late ↦ elim (cases_Bool (nat_eq (key row) (key x))) [
      | inl is ↦ rw (late, is) (p, all.1)
      | inr isnt ↦ rw (late, isnt) (all.0, all_inserted row p xs all.1)
    ]
  ]

  all_put : (limit : ℕ) (row : X) → P row → (xs : List X) → AllByRecursion P xs → AllByRecursion P (put_row key limit row xs)
  all_put limit row p xs all = elim (cases_Bool (has_row key (key row) xs || nat_lt (length xs) limit)) [
    | inl room ↦ rw room (all_inserted row p xs all)
    | inr full ↦ rw full all
  ]

-- ---- sessions

module _ (r : Records) (h : AllOrdered r) where
  edited_ordered : (birth : ℕ) (f : Session → Session) → ((s : Session) → birth_of (f s) ≡ birth_of s) → ((s : Session) → IsOrdered s → IsOrdered (f s)) → AllOrdered (in_session birth f r)
  edited_ordered birth f keeps each = record {
    sessions = change-ascending birth_of birth f r.sessions keeps h.sessions;
    lists = all_changed birth_of IsOrdered birth f each r.sessions h.lists;
  }

  put_ordered : (row : Columns) → AllOrdered (changed (PutSession row) r)
  put_ordered row =
      let edited = change_row birth_of row.birth (with_columns row) r.sessions in
      let put = put_row birth_of SESSION_LIMIT (fresh row) r.sessions in
      elim (has_row birth_of row.birth r.sessions) as (λ b. AllOrdered (record r { sessions = cond b edited put })) [
        | true ↦ edited_ordered row.birth (with_columns row) (λ s. refl) (λ s o. record { subscriptions = o.subscriptions; inbound = o.inbound; queue = o.queue })
        | false ↦ record {
          sessions = put-ascending birth_of SESSION_LIMIT (fresh row) r.sessions h.sessions;
          lists = all_put birth_of IsOrdered SESSION_LIMIT (fresh row) (record { subscriptions = tt; inbound = tt; queue = tt }) r.sessions h.lists;
        }
      ]

counted_ordered : (counter : Counter) (value : ℕ) (r : Records) → AllOrdered r → AllOrdered (with_counter counter value r)
counted_ordered Births value r h = record { sessions = h.sessions; lists = h.lists }
counted_ordered Publications value r h = record { sessions = h.sessions; lists = h.lists }
counted_ordered Subscribes value r h = record { sessions = h.sessions; lists = h.lists }
counted_ordered Autos value r h = record { sessions = h.sessions; lists = h.lists }
counted_ordered Moment value r h = record { sessions = h.sessions; lists = h.lists }

-- a change leaves the lists of records in the order of their keys
pub ordered_after : (change : Change) (r : Records) → AllOrdered r → AllOrdered (changed change r)
ordered_after (SetCounter counter value) r h = counted_ordered counter value r h
ordered_after (PutSession row) r h = put_ordered r h row
ordered_after (SetSession row) r h = edited_ordered r h row.birth (with_columns row) (λ s. refl) (λ s o. record { subscriptions = o.subscriptions; inbound = o.inbound; queue = o.queue })
ordered_after (RemoveSession birth) r h = record {
  sessions = remove-ascending birth_of birth r.sessions h.sessions;
  lists = all_filtered birth_of IsOrdered (λ s. not (nat_eq (birth_of s) birth)) r.sessions h.lists;
}
ordered_after (PutWill birth will) r h = edited_ordered r h birth (with_will _) (λ s. refl) (λ s o. record { subscriptions = o.subscriptions; inbound = o.inbound; queue = o.queue })
ordered_after (RemoveWill birth) r h = edited_ordered r h birth (with_will _) (λ s. refl) (λ s o. record { subscriptions = o.subscriptions; inbound = o.inbound; queue = o.queue })
ordered_after (PutSubscription birth put) r h = edited_ordered r h birth (with_subscription put) (λ s. refl) (λ s o. record {
  subscriptions = put-ascending place_of SUBSCRIPTION_LIMIT put _ (filter-ascending place_of _ s.subscriptions o.subscriptions);
  inbound = o.inbound;
  queue = o.queue;
})
ordered_after (RemoveSubscription birth text) r h = edited_ordered r h birth (without_subscription text) (λ s. refl) (λ s o. record {
  subscriptions = filter-ascending place_of _ s.subscriptions o.subscriptions;
  inbound = o.inbound;
  queue = o.queue;
})
ordered_after (PutInbound birth n) r h = edited_ordered r h birth (with_open n) (λ s. refl) (λ s o. record {
  subscriptions = o.subscriptions;
  inbound = put-ascending number_of OPEN_LIMIT n s.inbound o.inbound;
  queue = o.queue;
})
ordered_after (RemoveInbound birth n) r h = edited_ordered r h birth (without_open n) (λ s. refl) (λ s o. record {
  subscriptions = o.subscriptions;
  inbound = remove-ascending number_of n s.inbound o.inbound;
  queue = o.queue;
})
ordered_after (PutCopy birth row) r h = edited_ordered r h birth (with_copy row) (λ s. refl) (λ s o. record {
  subscriptions = o.subscriptions;
  inbound = o.inbound;
  queue = put-ascending copy_place QUEUE_LIMIT row s.queue o.queue;
})
ordered_after (SetCopy birth place phase) r h = edited_ordered r h birth (with_phase place phase) (λ s. refl) (λ s o. record {
  subscriptions = o.subscriptions;
  inbound = o.inbound;
  queue = change-ascending copy_place place (in_phase phase) s.queue (λ x. refl) o.queue;
})
ordered_after (RemoveCopy birth place) r h = edited_ordered r h birth (without_copy place) (λ s. refl) (λ s o. record {
  subscriptions = o.subscriptions;
  inbound = o.inbound;
  queue = remove-ascending copy_place place s.queue o.queue;
})
ordered_after (PutRetained kept) r h = record { sessions = h.sessions; lists = h.lists }
ordered_after (RemoveRetained place) r h = record { sessions = h.sessions; lists = h.lists }

counted_place : (counter : Counter) (value : ℕ) (r : Records) → IsAscending kept_place r.retained → IsAscending kept_place (with_counter counter value r).retained
counted_place Births value r h = h
counted_place Publications value r h = h
counted_place Subscribes value r h = h
counted_place Autos value r h = h
counted_place Moment value r h = h

-- a change leaves retained messages in the order of their places
pub by_place_after : (change : Change) (r : Records) → IsAscending kept_place r.retained → IsAscending kept_place (changed change r).retained
by_place_after (SetCounter counter value) r h = counted_place counter value r h
by_place_after (PutSession row) r h = h
by_place_after (SetSession row) r h = h
by_place_after (RemoveSession birth) r h = h
by_place_after (PutWill birth will) r h = h
by_place_after (RemoveWill birth) r h = h
by_place_after (PutSubscription birth put) r h = h
by_place_after (RemoveSubscription birth text) r h = h
by_place_after (PutInbound birth n) r h = h
by_place_after (RemoveInbound birth n) r h = h
by_place_after (PutCopy birth row) r h = h
by_place_after (SetCopy birth place phase) r h = h
by_place_after (RemoveCopy birth place) r h = h
by_place_after (PutRetained kept) r h = put-ascending kept_place RETAINED_LIMIT kept r.retained h
by_place_after (RemoveRetained place) r h = remove-ascending kept_place place r.retained h

-- ---- records in order

queues_kept : (sessions : List Session) → AllByRecursion IsOrdered sessions → AllByRecursion (λ (s : Session). IsAscending copy_place s.queue) sessions
queues_kept [] all = tt
queues_kept (s ∷ sessions) all = (all.0.queue, queues_kept sessions all.1)

-- records in order have queues in order
pub kept_of : (r : Records) → AllOrdered r → IsKept r
kept_of r h = record { sessions = h.sessions; queues = queues_kept r.sessions h.lists }

-- a number that is set leaves the sessions
pub counted_sessions : (counter : Counter) (value : ℕ) (r : Records) → (with_counter counter value r).sessions ≡ r.sessions
counted_sessions Births value r = refl
counted_sessions Publications value r = refl
counted_sessions Subscribes value r = refl
counted_sessions Autos value r = refl
counted_sessions Moment value r = refl
