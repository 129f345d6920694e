-- Where a run may begin: with nothing stored, or when the broker is opened on what an earlier run left (MQTT 5.0, 4.1).
use Rattle.std.specs.Prelude.{◌≡◌, ℕ, ⊤, false, List, [], ◌∷◌}
use Rattle.mqtt_rules.specs.step.Numbers.{HasAcceptedNumbers}
use Rattle.mqtt_rules.specs.step.State.{MemberChoice}
use Rattle.mqtt_rules.specs.step.Step.{is_opening_spent}
use Rattle.mqtt_rules.specs.declared.step.Capacity.{Capacity}
use Rattle.mqtt_world_model.specs.model.World.{World, start}
use Rattle.mqtt_world_laws.specs.acceptance.Fair.{IsFair, opened_world}
use Rattle.mqtt_world_laws.specs.acceptance.Identities.{TellsApart}
use Rattle.mqtt_world_laws.specs.receiver.Drains.{Doing, after_doings, all_turns}
use Rattle.mqtt_world_laws.specs.delivery.Untouched.{IsUntouched}

-- nobody is there; the tables are as a broker leaves them, tell their copies apart, and have numbers of publications that were
-- accepted
pub record BeginsWell (limits : Capacity) (w : World) : Type 0 where
  pub untouched : IsUntouched limits w
  pub apart : TellsApart w.broker.records
  pub numbers : HasAcceptedNumbers w.broker.records

-- a script is fair if its run is
abbrev pub IsFairScript : Capacity → List Doing → World → Type 0
IsFairScript limits ds w = IsFair limits (all_turns limits ds w) w

-- ---- lives of a broker, one after the other

-- a script under limits of its own, after which the broker is opened again at this moment, on what the script left
pub record BrokerLife : Type 0 where
  pub limits : Capacity
  pub doings : List Doing
  pub choice : MemberChoice
  pub now : ℕ

-- under these limits, which may be others than those of the life
abbrev pub opened_after : Capacity → BrokerLife → World → World
opened_after limits l w = opened_world limits l.choice l.now (after_doings l.limits l.doings w).broker.records

-- the last life comes first; before the first one nothing is stored
abbrev pub after_lives : Capacity → List BrokerLife → World
after_lives limits [] = start
after_lives limits (l ∷ ls) = opened_after limits l (after_lives l.limits ls)

-- the script is fair, and opening the broker after it, under these limits, spends no number
pub record IsFairLife (limits : Capacity) (l : BrokerLife) (w : World) : Type 0 where
  pub fair : IsFairScript l.limits l.doings w
  pub unspent : is_opening_spent limits l.choice l.now (after_doings l.limits l.doings w).broker.records ≡ false

abbrev pub AreFairLives : Capacity → List BrokerLife → Type 0
AreFairLives limits [] = ⊤
AreFairLives limits (l ∷ ls) = AreFairLives l.limits ls × IsFairLife limits l (after_lives l.limits ls)
