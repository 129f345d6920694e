-- Copies that were never handed over: those that end while they wait still (MQTT 5.0, 3.3.2.3.3, 4.3).
use Rattle.std.specs.Prelude.{◌≡◌, ⊤}
use Rattle.mqtt_base.specs.declared.session.CopyId.{CopyId}
use Rattle.mqtt_base.specs.declared.session.Ending.{Ending}
use Rattle.mqtt_base.specs.declared.session.Ending.TheVariants.{Taken, Refused, Expired, TooLarge, SessionEnded, Dropped}
use Rattle.mqtt_base.specs.declared.session.Phase.TheVariants.{Waiting}
use Rattle.mqtt_rules.specs.step.Deeds.{At, Deed, Leave}
use Rattle.mqtt_world_model.specs.model.Ends.{Receiver}
use Rattle.mqtt_world_model.specs.model.Laws.{handed_count, read_count}
use Rattle.mqtt_world_model.specs.model.Run.{End}

-- of QoS 2 it wasn't handed over, of QoS 1 it wasn't read
pub record IsUnread (r : Receiver) (copy : CopyId) : Type 0 where
  pub unhanded : handed_count copy r ≡ 0
  pub unread : read_count copy r ≡ 0

-- it waited too long, or made way in a full queue
abbrev pub IsUnsentEnd : Ending → Type 0
IsUnsentEnd Taken = ⊥
IsUnsentEnd Refused = ⊥
IsUnsentEnd Expired = ⊤
IsUnsentEnd TooLarge = ⊥
IsUnsentEnd SessionEnded = ⊥
IsUnsentEnd Dropped = ⊤

-- a copy that ended so
abbrev pub WasNeverHanded : Receiver → End → Type 0
WasNeverHanded r e = IsUnsentEnd e.by → IsUnread r e.copy

-- a copy that left its queue while it waited, for whatever cause
abbrev pub WasLeftWaiting : Receiver → Deed → Type 0
WasLeftWaiting r (At who (Leave e ending)) = e.phase ≡ Waiting → IsUnread r e.copy.id
WasLeftWaiting r d = ⊤

-- ---- a copy that has ended

-- the receiver has read it as often as when it was q
pub record IsAsRead (q r : Receiver) (copy : CopyId) : Type 0 where
  pub handed : handed_count copy r ≡ handed_count copy q
  pub read : read_count copy r ≡ read_count copy q

abbrev pub IsOver : Receiver → Receiver → End → Type 0
IsOver q r e = IsAsRead q r e.copy
