-- What holds of every pump (MQTT 5.0, 2.2.1, 4.6, 4.9).
use Rattle.std.specs.Prelude.{◌≡◌, ◌≤◌, ◌<◌, ℕ, max, true, false, ⊤, List, [], ◌∷◌}
use Rattle.mqtt_flow.specs.declared.outbound.entry.Entry.{Entry}
use Rattle.mqtt_flow.specs.declared.outbound.entry.Turn.{Turn}
use Rattle.mqtt_flow.specs.declared.outbound.entry.Turn.TheVariants.{Send, Resend, Release, Outgrow, Repeat, Unknown, Leave}
use Rattle.mqtt_flow.specs.declared.outbound.entry.Way.{Way}
use Rattle.mqtt_flow.specs.inbound.Identifiers.{is_among}
use Rattle.mqtt_flow.specs.outbound.Queue.{Above, Ascends, in_window, after_all}
use Rattle.mqtt_flow.specs.outbound.Outbound.{pump}

-- each PUBLISH is of a copy behind that of the one before
abbrev pub PublishesAbove : ℕ → List Turn → Type 0
PublishesAbove place [] = ⊤
PublishesAbove place (Send p i ∷ ts) = (place < p) × PublishesAbove p ts
PublishesAbove place (Resend p i ∷ ts) = (place < p) × PublishesAbove p ts
PublishesAbove place (Release p i order ∷ ts) = PublishesAbove place ts
PublishesAbove place (Outgrow p i order ∷ ts) = PublishesAbove place ts
PublishesAbove place (Repeat i ∷ ts) = PublishesAbove place ts
PublishesAbove place (Unknown i ∷ ts) = PublishesAbove place ts
PublishesAbove place (Leave p ending ∷ ts) = PublishesAbove place ts

-- PUBLISH go out in the order of the queue (4.6)
abbrev pub InQueueOrder : Way → List Entry → Type 0
InQueueOrder way queue = (place : ℕ) → Above place queue → Ascends queue → PublishesAbove place (pump way queue)

-- a pump fills the client's window at most (4.9)
abbrev pub WithinWindow : Way → List Entry → Type 0
WithinWindow way queue = Ascends queue → in_window (after_all (pump way queue) queue) ≤ max (in_window queue) way.window

-- the identifier of a first PUBLISH is the lowest that no copy has (2.2.1)
pub record IsLowestFree (used : List ℕ) (i : ℕ) : Type 0 where
  pub some : 1 ≤ i
  pub free : is_among i used ≡ false
  pub lowest : (j : ℕ) → 1 ≤ j → j < i → is_among j used ≡ true
