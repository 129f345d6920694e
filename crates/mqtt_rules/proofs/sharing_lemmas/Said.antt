-- What is said after a change: what was said before it, and what the change puts. Nothing is asked of the records.
use Rattle.std.proofs.Common.{◌≡◌, ◌⊎◌, ℕ, Bool, true, false, cond, not, ◌||◌, List, [], ◌∷◌, length, filter, nat_eq, nat_lt, refl, sym, ap, subst, ◌∙◌, inl, inr}
use Rattle.std.specs.Prelude.{Some, None}
use Rattle.std.proofs.lemmas.Bool.{cases_Bool}
use Rattle.mqtt_base.specs.declared.limits.TheConstants.{QUEUE_LIMIT, SESSION_LIMIT, RETAINED_LIMIT}
use Rattle.mqtt_records.specs.messages.Queue.{CopyRow}
use Rattle.mqtt_records.specs.lists.Order.{has_row, insert_row, put_row, change_row}
use Rattle.mqtt_records.specs.declared.state.session.Columns.{Columns}
use Rattle.mqtt_records.specs.declared.state.session.Session.{Session}
use Rattle.mqtt_records.specs.declared.state.change.Change.{Change}
use Rattle.mqtt_records.specs.declared.state.change.Change.TheVariants.{SetCounter, PutSession, SetSession, RemoveSession, PutWill, RemoveWill, PutSubscription, RemoveSubscription, PutInbound, RemoveInbound, PutCopy, SetCopy, RemoveCopy, PutRetained, RemoveRetained}
use Rattle.mqtt_records.specs.declared.state.change.Counter.{Counter}
use Rattle.mqtt_records.specs.declared.state.change.Counter.TheVariants.{Births, Publications, Subscribes, Autos, Moment}
use Rattle.mqtt_records.specs.declared.state.records.Records.{Records}
use Rattle.mqtt_records.specs.state.Session.{birth_of, copy_place, fresh, with_columns, with_will, with_subscription, without_subscription, with_open, without_open, with_copy, with_phase, without_copy, in_phase}
use Rattle.mqtt_records.specs.state.Records.{changed, in_session, with_counter, kept_place}
use Rattle.mqtt_records.specs.state.Members.{Has}
use Rattle.mqtt_records.specs.state.Contents.{StoredMessage, copy_message, retained_message, IsMessageOf}

-- ---- items of a list that was changed

-- what is left of a list was in it
pub has_left : {X : Type 0} (test : X → Bool) (x : X) (xs : List X) → Has (filter test xs) x → Has xs x
has_left test x [] h = absurd h
has_left test x (y ∷ ys) h = elim (cases_Bool (test y)) [
  | inl stays ↦ elim (rw stays at h) [ inl it ↦ inl it | inr more ↦ inr (has_left test x ys more) ]
  | inr goes ↦ inr (has_left test x ys (rw goes at h))
]

module _ {X : Type 0} (key : X → ℕ) where
  has_inserted : (row x : X) (xs : List X) → Has (insert_row key row xs) x → (x ≡ row) ⊎ Has xs x
  has_inserted row x [] h = elim h [ inl it ↦ inl it | inr none ↦ absurd none ]
  has_inserted row x (y ∷ ys) h = elim (cases_Bool (nat_lt (key row) (key y))) [
    | inl before ↦ elim (rw before at h) [ inl it ↦ inl it | inr more ↦ inr more ]
    | inr behind ↦ elim (cases_Bool (nat_eq (key row) (key y))) [
      | inl same ↦ elim (rw (behind, same) at h) [ inl it ↦ inl it | inr more ↦ inr (inr more) ]
      | inr other ↦ elim (rw (behind, other) at h) [
        | inl it ↦ inr (inl it)
        | inr more ↦ elim (has_inserted row x ys more) [ inl it ↦ inl it | inr old ↦ inr (inr old) ]
      ]
    ]
  ]

  -- an item of a list into which a row was put is that row, or was there
  pub has_put : (limit : ℕ) (row x : X) (xs : List X) → Has (put_row key limit row xs) x → (x ≡ row) ⊎ Has xs x
  has_put limit row x xs h = elim (cases_Bool (has_row key (key row) xs || nat_lt (length xs) limit)) [
    | inl room ↦ has_inserted row x xs (rw room at h)
    | inr full ↦ inr (rw full at h)
  ]

  -- an item of a list of which a row was changed was there, or is one that was, changed
  pub has_changed : (k : ℕ) (f : X → X) (x : X) (xs : List X) → Has (change_row key k f xs) x → Has xs x ⊎ ((y : X) × Has xs y × (x ≡ f y))
  has_changed k f x [] h = absurd h
  has_changed k f x (y ∷ ys) h = elim (cases_Bool (nat_eq (key y) k)) [
    | inl here ↦ elim (rw here at h) [ inl it ↦ inr (y, inl refl, it) | inr more ↦ inl (inr more) ]
    | inr other ↦ elim (rw other at h) [
      | inl it ↦ inl (inl it)
      | inr more ↦ elim (has_changed k f x ys more) [ inl old ↦ inl (inr old) | inr new ↦ inr (new.0, inr new.1, new.2) ]
    ]
  ]

-- ---- what copies say

-- some copy in the queue of a session among them says it
abbrev CopiesSay : List Session → StoredMessage → Type 0
CopiesSay ss m = (s : Session) × Has ss s × (x : CopyRow) × Has s.queue x × (m ≡ copy_message x)

copies_of : (r : Records) (b : ℕ) (x : CopyRow) (m : StoredMessage) → ((s : Session) × Has r.sessions s × (s.birth ≡ b) × Has s.queue x) → m ≡ copy_message x → CopiesSay r.sessions m
copies_of r b x m h is = (h.0, h.1, x, h.3, is)

said_by : (r : Records) (m : StoredMessage) → CopiesSay r.sessions m → IsMessageOf r m
said_by r m h = inl (h.0.birth, h.2, (h.0, h.1, refl, h.3), h.4)

-- what a changed queue says was said in it before, or is more
abbrev SaysNoMore : (Session → Session) → (StoredMessage → Type 0) → Type 0
SaysNoMore f More = (s : Session) (x : CopyRow) → Has (f s).queue x → ((y : CopyRow) × Has s.queue y × (copy_message x ≡ copy_message y)) ⊎ More (copy_message x)

copies_changed : (birth : ℕ) (f : Session → Session) (More : StoredMessage → Type 0) (ss : List Session) (m : StoredMessage) → SaysNoMore f More → CopiesSay (change_row birth_of birth f ss) m → CopiesSay ss m ⊎ More m
copies_changed birth f More ss m no_more h = elim (has_changed birth_of birth f h.0 ss h.1) [
  | inl old ↦ inl (h.0, old, h.2, h.3, h.4)
  | inr new ↦
      elim (no_more new.0 h.2 (subst (λ (t : Session). Has t.queue h.2) new.2 h.3)) [
        | inl was ↦ inl (new.0, new.1, was.0, was.1, h.4 ∙ was.2)
        | inr more ↦ inr (subst More (sym h.4) more)
      ]
]

session_said : (birth : ℕ) (f : Session → Session) (More : StoredMessage → Type 0) (r : Records) (m : StoredMessage) → SaysNoMore f More → IsMessageOf (in_session birth f r) m → IsMessageOf r m ⊎ More m
session_said birth f More r m no_more (inl it) =
    elim (copies_changed birth f More r.sessions m no_more (copies_of (in_session birth f r) it.0 it.1 m it.2 it.3)) [
      | inl old ↦ inl (said_by r m old)
      | inr more ↦ inr more
    ]
session_said birth f More r m no_more (inr it) = inl (inr it)

-- a session changed beside its queue
beside_said : (birth : ℕ) (f : Session → Session) (r : Records) (m : StoredMessage) → ((s : Session) → (f s).queue ≡ s.queue) → IsMessageOf (in_session birth f r) m → IsMessageOf r m ⊎ ⊥
beside_said birth f r m same h = session_said birth f (λ n. ⊥) r m (λ s x there. inl (x, subst (λ (q : List CopyRow). Has q x) (same s) there, refl)) h

counter_said : (counter : Counter) (value : ℕ) (r : Records) (m : StoredMessage) → IsMessageOf (with_counter counter value r) m → IsMessageOf r m
counter_said Births value r m h = h
counter_said Publications value r m h = h
counter_said Subscribes value r m h = h
counter_said Autos value r m h = h
counter_said Moment value r m h = h

has_either : {X : Type 0} (t : Bool) (x : X) (xs ys : List X) → Has (cond t xs ys) x → Has xs x ⊎ Has ys x
has_either true x xs ys h = inl h
has_either false x xs ys h = inr h

begun_said : (row : Columns) (r : Records) (m : StoredMessage) → IsMessageOf (changed (PutSession row) r) m → IsMessageOf r m
begun_said row r m (inl it) =
    let other = change_row birth_of row.birth (with_columns row) r.sessions in
    let new = put_row birth_of SESSION_LIMIT (fresh row) r.sessions in
    elim (has_either (has_row birth_of row.birth r.sessions) it.2.0 other new it.2.1) [
      | inl there ↦
          elim (copies_changed row.birth (with_columns row) (λ n. ⊥) r.sessions m (λ s x h. inl (x, h, refl)) (it.2.0, there, it.1, it.2.3, it.3)) [
            | inl old ↦ said_by r m old
            | inr none ↦ absurd none
          ]
      | inr there ↦
          elim (has_put birth_of SESSION_LIMIT (fresh row) it.2.0 r.sessions there) [
            | inl is ↦ let empty : Has [] it.1 = subst (λ (s : Session). Has s.queue it.1) is it.2.3 in absurd empty
            | inr old ↦ inl (it.0, it.1, (it.2.0, old, it.2.2, it.2.3), it.3)
          ]
    ]
begun_said row r m (inr it) = inr it

-- ---- changes

-- what a change puts says it
abbrev pub IsPut : Change → StoredMessage → Type 0
IsPut (PutCopy birth row) m = m ≡ copy_message row
IsPut (PutRetained kept) m = m ≡ retained_message kept
IsPut change m = ⊥

-- what is said after a change was said before it, or is what the change puts
pub said_after : (change : Change) (r : Records) (m : StoredMessage) → IsMessageOf (changed change r) m → IsMessageOf r m ⊎ IsPut change m
said_after (SetCounter counter value) r m h = inl (counter_said counter value r m h)
said_after (PutSession row) r m h = inl (begun_said row r m h)
said_after (SetSession row) r m h = beside_said row.birth (with_columns row) r m (λ s. refl) h
said_after (RemoveSession birth) r m (inl it) = inl (inl (it.0, it.1, (it.2.0, has_left (λ s. not (nat_eq (birth_of s) birth)) it.2.0 r.sessions it.2.1, it.2.2, it.2.3), it.3))
said_after (RemoveSession birth) r m (inr it) = inl (inr it)
said_after (PutWill birth will) r m h = beside_said birth (with_will (Some will)) r m (λ s. refl) h
said_after (RemoveWill birth) r m h = beside_said birth (with_will None) r m (λ s. refl) h
said_after (PutSubscription birth subscription) r m h = beside_said birth (with_subscription subscription) r m (λ s. refl) h
said_after (RemoveSubscription birth text) r m h = beside_said birth (without_subscription text) r m (λ s. refl) h
said_after (PutInbound birth identifier) r m h = beside_said birth (with_open identifier) r m (λ s. refl) h
said_after (RemoveInbound birth identifier) r m h = beside_said birth (without_open identifier) r m (λ s. refl) h
said_after (PutCopy birth row) r m h =
    session_said birth (with_copy row) (λ n. n ≡ copy_message row) r m
    (λ s x there. elim (has_put copy_place QUEUE_LIMIT row x s.queue there) [ inl is ↦ inr (ap copy_message is) | inr old ↦ inl (x, old, refl) ]) h
said_after (SetCopy birth place phase) r m h =
    session_said birth (with_phase place phase) (λ n. ⊥) r m
    (λ s x there. elim (has_changed copy_place place (in_phase phase) x s.queue there) [ inl old ↦ inl (x, old, refl) | inr new ↦ inl (new.0, new.1, ap copy_message new.2) ]) h
said_after (RemoveCopy birth place) r m h =
    session_said birth (without_copy place) (λ n. ⊥) r m
    (λ s x there. inl (x, has_left (λ e. not (nat_eq (copy_place e) place)) x s.queue there, refl)) h
said_after (PutRetained kept) r m (inl it) = inl (inl it)
said_after (PutRetained kept) r m (inr it) = elim (has_put kept_place RETAINED_LIMIT kept it.0 r.retained it.1) [
  | inl is ↦ inr (it.2 ∙ ap retained_message is)
  | inr old ↦ inl (inr (it.0, old, it.2))
]
said_after (RemoveRetained place) r m (inl it) = inl (inl it)
said_after (RemoveRetained place) r m (inr it) = inl (inr (it.0, has_left (λ k. not (nat_eq (kept_place k) place)) it.0 r.retained it.1, it.2))
