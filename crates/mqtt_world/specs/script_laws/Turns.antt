-- An event that is one step of the broker, or none, as one turn of the world (MQTT 5.0, 2.1, 4.1).
use Rattle.std.specs.Prelude.{◌≡◌, ℕ, ◌+◌, ⊤, false, List, [], ◌∷◌, ◌++◌, map, Option}
use Rattle.mqtt_rules.specs.step.State.{MemberChoice}
use Rattle.mqtt_rules.specs.step.Step.{NewLine, is_opening_spent}
use Rattle.mqtt_rules.specs.declared.step.Capacity.{Capacity}
use Rattle.mqtt_world_model.specs.model.Run.{Turn, read_in, the_deeds}
use Rattle.mqtt_world_model.specs.model.Tellings.{Telling, telling}
use Rattle.mqtt_world_model.specs.model.World.{Asking, Event, Setting, Stranger, World, ask, break, calls, clock, connect_end, give_up, happens, is_bad, next_line, old_to_broker}
use Rattle.mqtt_world_model.specs.model.World.{publish, publisher, pump, receiver, restart, restarts, stop_after, stop_before, stranger, subscribe}
use Rattle.mqtt_world_model.specs.model.World.{tick, to_broker, to_end}
use Rattle.mqtt_world_laws.specs.acceptance.Spending.{spending}

abbrev pub by_choice : Capacity → MemberChoice → Setting
by_choice limits choice = record { limits = limits; choice = choice }

-- the event is not bad, and happens by some choice of members that spends no number; and this is what it tells
pub record IsTurn (limits : Capacity) (e : Event) (t : Telling) (w after : World) : Type 0 where
  pub choice : MemberChoice
  pub good : is_bad e w ≡ false
  pub unspent : read_in spending (by_choice limits choice) e w ≡ false
  pub is : after ≡ happens (by_choice limits choice) e w
  pub told : t ≡ telling (read_in the_deeds (by_choice limits choice) e w)

-- the broker is opened again on what is stored, by some choice of members that spends no number
pub record IsReopened (limits : Capacity) (w after : World) : Type 0 where
  pub choice : MemberChoice
  pub unspent : is_opening_spent limits choice w.now w.broker.records ≡ false
  pub is : after ≡ restarts (by_choice limits choice) w

abbrev pub events_of : List Turn → List Event
events_of turns = map (λ (t : Turn). t.event) turns

-- what one tells, and then the other
abbrev pub both_tell : Telling → Telling → Telling
both_tell t u = record { reports = t.reports ++ u.reports; out = t.out + u.out }

-- the broker is asked for nothing
abbrev pub IsQuiet : Event → Type 0
IsQuiet (publisher client) = ⊤
IsQuiet (receiver client window aliases) = ⊤
IsQuiet (connect_end client clean) = ⊥
IsQuiet (give_up client) = ⊤
IsQuiet (publish client d) = ⊤
IsQuiet (subscribe client x) = ⊤
IsQuiet (to_end client) = ⊤
IsQuiet (clock wait) = ⊤
IsQuiet (ask a) = ⊥
IsQuiet restart = ⊥
IsQuiet (stop_before a) = ⊥
IsQuiet (stop_after a) = ⊥

-- it is asked for by no stranger
abbrev pub IsPlain : Asking → Type 0
IsPlain (to_broker client) = ⊤
IsPlain (old_to_broker client) = ⊤
IsPlain (break client) = ⊤
IsPlain (pump client) = ⊤
IsPlain tick = ⊤
IsPlain (stranger name bytes) = ⊥

-- ---- a stranger whose first bytes come

-- it has sent nothing, on its line, if there is one
abbrev pub newcomer : List ℕ → Option ℕ → Stranger
newcomer name line = record { name = name; number = line; held = [] }

abbrev pub welcomed : Setting → List ℕ → World → World
welcomed set name w = record (calls set NewLine w) { strangers = w.strangers ++ newcomer name (next_line set.limits w.broker) ∷ [] }
