-- What is said after a change was said before it, or is what the change puts.
use Rattle.std.proofs.Common.{◌≡◌, ◌⊎◌, ℕ, List, [], ◌∷◌, subst, sym, ap, ◌∙◌, refl, inl, inr}
use Rattle.std.specs.Prelude.{Some, None}
use Rattle.mqtt_base.specs.declared.limits.TheConstants.{QUEUE_LIMIT, SESSION_LIMIT, RETAINED_LIMIT}
use Rattle.mqtt_base.specs.declared.session.Phase.{Phase}
use Rattle.mqtt_records.specs.declared.messages.message.RetainedMessage.{RetainedMessage}
use Rattle.mqtt_records.specs.messages.Queue.{CopyRow}
use Rattle.mqtt_records.specs.lists.Order.{has_row, put_row, change_row}
use Rattle.mqtt_records.specs.declared.state.session.Columns.{Columns}
use Rattle.mqtt_records.specs.declared.state.session.Session.{Session}
use Rattle.mqtt_records.specs.declared.state.change.Change.{Change}
use Rattle.mqtt_records.specs.declared.state.change.Change.TheVariants.{SetCounter, PutSession, SetSession, RemoveSession, PutWill, RemoveWill, PutSubscription, RemoveSubscription, PutInbound, RemoveInbound, PutCopy, SetCopy, RemoveCopy, PutRetained, RemoveRetained}
use Rattle.mqtt_records.specs.declared.state.change.Counter.TheVariants.{Births, Publications, Subscribes, Autos, Moment}
use Rattle.mqtt_records.specs.declared.state.records.Records.{Records}
use Rattle.mqtt_records.specs.state.Records.{changed, changed_all, in_session, kept_place, put_session}
use Rattle.mqtt_records.specs.state.Session.{birth_of, copy_place, fresh, in_phase, with_columns, with_will, with_subscription, without_subscription, with_open, without_open, with_copy, with_phase, without_copy}
use Rattle.mqtt_records.specs.state.Members.{Has}
use Rattle.mqtt_records.specs.state.Contents.{StoredMessage, copy_message, retained_message, IsMessageOf, SharesContents, FitsContents, FitContents}
use Rattle.mqtt_keep.proofs.contents_lemmas.Lists.{either_has, put_has, changed_has, removed_has}
use Rattle.mqtt_keep.proofs.contents_lemmas.Shared.{shared_less, shared_with}

-- each copy in a queue of these sessions says what records say
abbrev AreSaid : Records → List Session → Type 0
AreSaid r sessions = (s : Session) → Has sessions s → (x : CopyRow) → Has s.queue x → IsMessageOf r (copy_message x)

module _ (r : Records) where
  said_there : AreSaid r r.sessions
  said_there s h x there = inl (s.birth, x, (s, h, refl, there), refl)

  kept_there : (x : RetainedMessage) → Has r.retained x → IsMessageOf r (retained_message x)
  kept_there x h = inr (x, h, refl)

  -- nothing new is said if the copies and the retained messages say nothing new
  said_less : (after : Records) → AreSaid r after.sessions → ((x : RetainedMessage) → Has after.retained x → IsMessageOf r (retained_message x)) → (m : StoredMessage) → IsMessageOf after m → IsMessageOf r m
  said_less after queued kept m (inl it) = subst (IsMessageOf r) (sym it.3) (queued it.2.0 it.2.1 it.1 it.2.3)
  said_less after queued kept m (inr it) = subst (IsMessageOf r) (sym it.2) (kept it.0 it.1)

  -- a session that is changed says nothing new if its queue doesn't
  edited_said : (birth : ℕ) (f : Session → Session) → ((s : Session) → Has r.sessions s → (x : CopyRow) → Has (f s).queue x → IsMessageOf r (copy_message x)) → AreSaid r (change_row birth_of birth f r.sessions)
  edited_said birth f each s h x there = elim (changed_has birth_of birth f r.sessions s h) [
    | inl was ↦ said_there s was x there
    | inr it ↦ each it.0 it.1 x (subst (λ (t : Session). Has t.queue x) it.2 there)
  ]

  -- nor does a session's own row that is put
  put_session_said : (row : Columns) → AreSaid r (put_session row r.sessions)
  put_session_said row s h x there =
      let edited : List Session = change_row birth_of row.birth (with_columns row) r.sessions in
      let put : List Session = put_row birth_of SESSION_LIMIT (fresh row) r.sessions in
      elim (either_has (has_row birth_of row.birth r.sessions) edited put s h) [
        | inl stands ↦ edited_said row.birth (with_columns row) said_there s stands x there
        | inr new ↦ elim (put_has birth_of SESSION_LIMIT (fresh row) r.sessions s new) [
          | inl is ↦ let none : Has [] x = subst (λ (t : Session). Has t.queue x) is there in absurd none
          | inr was ↦ said_there s was x there
        ]
      ]

  -- nor a phase that is set
  phase_said : (place : ℕ) (phase : Phase) (s : Session) → Has r.sessions s → (x : CopyRow) → Has (with_phase place phase s).queue x → IsMessageOf r (copy_message x)
  phase_said place phase s h x there = elim (changed_has copy_place place (in_phase phase) s.queue x there) [
    | inl was ↦ said_there s h x was
    | inr it ↦ let same : copy_message x ≡ copy_message it.0 = ap copy_message it.2 in subst (IsMessageOf r) (sym same) (said_there s h it.0 it.1)
  ]

  -- after a copy is put, what is said was said before, or is its own
  copy_said : (birth : ℕ) (row : CopyRow) (m : StoredMessage) → IsMessageOf (changed (PutCopy birth row) r) m → IsMessageOf r m ⊎ (m ≡ copy_message row)
  copy_said birth row m (inr it) = inl (inr it)
  copy_said birth row m (inl it) = elim (changed_has birth_of birth (with_copy row) r.sessions it.2.0 it.2.1) [
    | inl was ↦ inl (subst (IsMessageOf r) (sym it.3) (said_there it.2.0 was it.1 it.2.3))
    | inr of ↦
        let there : Has (put_row copy_place QUEUE_LIMIT row of.0.queue) it.1 = subst (λ (t : Session). Has t.queue it.1) of.2 it.2.3 in
        elim (put_has copy_place QUEUE_LIMIT row of.0.queue it.1 there) [
          | inl is ↦ inr (it.3 ∙ ap copy_message is)
          | inr was ↦ inl (subst (IsMessageOf r) (sym it.3) (said_there of.0 of.1 it.1 was))
        ]
  ]

  -- so it is after a message is retained
  retained_said : (kept : RetainedMessage) (m : StoredMessage) → IsMessageOf (changed (PutRetained kept) r) m → IsMessageOf r m ⊎ (m ≡ retained_message kept)
  retained_said kept m (inl it) = inl (inl it)
  retained_said kept m (inr it) = elim (put_has kept_place RETAINED_LIMIT kept r.retained it.0 it.1) [
    | inl is ↦ inr (it.2 ∙ ap retained_message is)
    | inr was ↦ inl (inr (it.0, was, it.2))
  ]

  -- contents stay shared if a change of sessions says nothing new
  sessions_shared : (sessions : List Session) → SharesContents r → AreSaid r sessions → SharesContents (record r { sessions = sessions })
  sessions_shared sessions shared queued = shared_less r (record r { sessions = sessions }) shared (said_less (record r { sessions = sessions }) queued kept_there)

  -- they do so if the session that is changed keeps its queue
  edited_shared : (birth : ℕ) (f : Session → Session) → SharesContents r → ((s : Session) (x : CopyRow) → Has (f s).queue x → Has s.queue x) → SharesContents (in_session birth f r)
  edited_shared birth f shared same = sessions_shared (change_row birth_of birth f r.sessions) shared (edited_said birth f (λ s h x there. said_there s h x (same s x there)))

-- after a change that says what is said under its number, contents are shared
pub shared_after : (change : Change) (r : Records) → SharesContents r → FitsContents change r → SharesContents (changed change r)
shared_after (SetCounter Births value) r shared fits = shared
shared_after (SetCounter Publications value) r shared fits = shared
shared_after (SetCounter Subscribes value) r shared fits = shared
shared_after (SetCounter Autos value) r shared fits = shared
shared_after (SetCounter Moment value) r shared fits = shared
shared_after (PutSession row) r shared fits = sessions_shared r (put_session row r.sessions) shared (put_session_said r row)
shared_after (SetSession row) r shared fits = edited_shared r row.birth (with_columns row) shared (λ s x h. h)
shared_after (RemoveSession birth) r shared fits = sessions_shared r _ shared (λ s h x there. said_there r s (removed_has birth_of birth r.sessions s h) x there)
shared_after (PutWill birth will) r shared fits = edited_shared r birth (with_will (Some will)) shared (λ s x h. h)
shared_after (RemoveWill birth) r shared fits = edited_shared r birth (with_will None) shared (λ s x h. h)
shared_after (PutSubscription birth put) r shared fits = edited_shared r birth (with_subscription put) shared (λ s x h. h)
shared_after (RemoveSubscription birth text) r shared fits = edited_shared r birth (without_subscription text) shared (λ s x h. h)
shared_after (PutInbound birth n) r shared fits = edited_shared r birth (with_open n) shared (λ s x h. h)
shared_after (RemoveInbound birth n) r shared fits = edited_shared r birth (without_open n) shared (λ s x h. h)
shared_after (PutCopy birth row) r shared fits = shared_with r (changed (PutCopy birth row) r) (copy_message row) shared fits (copy_said r birth row)
shared_after (SetCopy birth place phase) r shared fits = sessions_shared r _ shared (edited_said r birth (with_phase place phase) (phase_said r place phase))
shared_after (RemoveCopy birth place) r shared fits = edited_shared r birth (without_copy place) shared (λ s x h. removed_has copy_place place s.queue x h)
shared_after (PutRetained kept) r shared fits = shared_with r (changed (PutRetained kept) r) (retained_message kept) shared fits (retained_said r kept)
shared_after (RemoveRetained place) r shared fits =
    shared_less r (changed (RemoveRetained place) r) shared (said_less r (changed (RemoveRetained place) r) (said_there r) (λ x h. kept_there r x (removed_has kept_place place r.retained x h)))

-- so they are after changes, one after the other
pub shared_after_all : (changes : List Change) (r : Records) → SharesContents r → FitContents changes r → SharesContents (changed_all changes r)
shared_after_all [] r shared fits = shared
shared_after_all (c ∷ cs) r shared fits = shared_after_all cs (changed c r) (shared_after c r shared fits.0) fits.1
