-- A moment before which nothing is due of what is stored (MQTT 5.0, 3.1.2.11.2, 3.1.3.2.2, 3.3.2.3.3).
use Rattle.std.specs.Prelude.{◌≡◌, ℕ, ◌<◌, false, true, Some}
use Rattle.std.specs.List.{AllByRecursion}
use Rattle.mqtt_flow.specs.outbound.Outbound.{is_waiting}
use Rattle.mqtt_records.specs.messages.Queue.{CopyRow}
use Rattle.mqtt_records.specs.declared.state.change.Change.{Change}
use Rattle.mqtt_records.specs.declared.state.change.Change.TheVariants.{SetCounter, PutSession, SetSession, RemoveSession, PutWill, RemoveWill, PutSubscription, RemoveSubscription, PutInbound, RemoveInbound, PutCopy, SetCopy, RemoveCopy, PutRetained, RemoveRetained}
use Rattle.mqtt_records.specs.declared.state.records.Records.{Records}
use Rattle.mqtt_records.specs.declared.state.session.Session.{Session}
use Rattle.mqtt_rules.specs.step.Closing.{has_due_end, has_due_will}
use Rattle.mqtt_rules.specs.step.Packets.{is_expired}
use Rattle.mqtt_rules.specs.step.State.{session_at}
use Rattle.mqtt_rules.specs.step.Tick.{is_stale}

-- a copy does not wait, or has not expired
abbrev pub IsFresh : ℕ → CopyRow → Type 0
IsFresh now e = is_waiting e.phase ≡ true → is_expired now e.copy.content ≡ false

-- of a session no Will and no end is due, and no copy that waits has expired
pub record IsQuiet (now : ℕ) (s : Session) : Type 0 where
  pub will : has_due_will now s ≡ false
  pub stays : has_due_end now s ≡ false
  pub copies : AllByRecursion (IsFresh now) s.queue

-- nothing is due of what is stored
pub record AreQuiet (now : ℕ) (r : Records) : Type 0 where
  pub sessions : AllByRecursion (IsQuiet now) r.sessions
  pub retained : AllByRecursion (λ k. is_stale now k ≡ false) r.retained

-- nothing is due before this moment
abbrev pub AreQuietBefore : ℕ → Records → Type 0
AreQuietBefore limit r = (now : ℕ) → now < limit → AreQuiet now r

-- ---- what a change brings

-- of a session no Will and no end is due
pub record IsSettled (now : ℕ) (s : Session) : Type 0 where
  pub will : has_due_will now s ≡ false
  pub stays : has_due_end now s ≡ false

-- nor of the session with that birth, if it stands
abbrev pub IsSettledIn : ℕ → Records → ℕ → Type 0
IsSettledIn now r birth = (s : Session) → session_at birth r ≡ Some s → IsSettled now s

-- a change brings nothing that is due if this is what is stored in the end: whose columns or Will it sets is settled
-- then, if it stands
abbrev pub BringsNothing : ℕ → Records → Change → Type 0
BringsNothing now r (SetCounter counter value) = Unit {0}
BringsNothing now r (PutSession row) = IsSettledIn now r row.birth
BringsNothing now r (SetSession row) = IsSettledIn now r row.birth
BringsNothing now r (RemoveSession birth) = Unit {0}
BringsNothing now r (PutWill birth will) = IsSettledIn now r birth
BringsNothing now r (RemoveWill birth) = Unit {0}
BringsNothing now r (PutSubscription birth subscription) = Unit {0}
BringsNothing now r (RemoveSubscription birth text) = Unit {0}
BringsNothing now r (PutInbound birth identifier) = Unit {0}
BringsNothing now r (RemoveInbound birth identifier) = Unit {0}
BringsNothing now r (PutCopy birth row) = IsFresh now row
BringsNothing now r (SetCopy birth place phase) = is_waiting phase ≡ false
BringsNothing now r (RemoveCopy birth place) = Unit {0}
BringsNothing now r (PutRetained kept) = is_stale now kept ≡ false
BringsNothing now r (RemoveRetained place) = Unit {0}
