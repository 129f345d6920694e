-- A broker that is opened over a store, and one that is closed and opened again (MQTT 5.0, 4.1).
use Rattle.std.specs.Prelude.{◌≡◌, ℕ, false, map, []}
use Rattle.mqtt_keep.specs.lawful.Lawful.{IsLawful}
use Rattle.mqtt_keep.specs.declared.keeping.keep.Keep.{Ghosts}
use Rattle.mqtt_records.specs.declared.state.records.Records.{Records}
use Rattle.mqtt_broker.specs.stored.Opening.{IsLoad}
use Rattle.mqtt_world_model.specs.model.World.{publisher_restarted, receiver_restarted}
use Rattle.mqtt_records.specs.state.PassedOn.{StoresPassedOn}
use Rattle.mqtt_rules.specs.spelling.Sending.{HaveSentPhases}
use Rattle.mqtt_rules.specs.step.State.{MemberChoice}
use Rattle.mqtt_rules.specs.step.Step.{is_opening_spent, opened}
use Rattle.mqtt_rules.specs.declared.step.Capacity.{Capacity}
use Rattle.mqtt_world.specs.clients.Ends.{Ends}
use Rattle.mqtt_world.specs.scene.Scenes.{IsPlayable, Played, WasSound}

-- a broker is opened on these records, for some choice of members, and that spends no number; it is what that opening leaves, while
-- the device of its store returns what was written
pub record Opens {K : Type 0} (g : Ghosts K) (limits : Capacity) (now : ℕ) (r : Records) (s : Played K) : Type 0 where
  pub choice : MemberChoice
  pub unspent : is_opening_spent limits choice now r ≡ false
  pub broker : g.is_sound s.engine.running.keep → s.engine.running.broker ≡ opened limits choice now r
  pub limits_are : s.engine.running.limits ≡ limits
  pub playable : IsPlayable g s

-- ---- the first time: on what a load answered, and there is no end

abbrev pub no_ends : Ends
no_ends = record { publishers = []; receivers = [] }

pub record Begins {K : Type 0} (g : Ghosts K) (limits : Capacity) (now : ℕ) (keep : K) (s : Played K) : Type 0 where
  pub loaded : K
  pub records : Records
  pub load : IsLoad g keep records loaded
  pub sound : g.is_sound s.engine.running.keep → g.is_sound loaded
  pub lawful : IsLawful records
  pub passed : StoresPassedOn records
  pub identifiers : HaveSentPhases records
  pub opens : Opens g limits now records s
  pub ends : s.ends ≡ no_ends

-- ---- and again: on what is stored, if the device returns what was written, and each end's lines are lost

abbrev pub ends_restarted : Ends → Ends
ends_restarted e = record {
  publishers = map publisher_restarted e.publishers;
  receivers = map receiver_restarted e.receivers;
}

pub record Reopens {K : Type 0} (g : Ghosts K) (limits : Capacity) (now : ℕ) (old new : Played K) : Type 0 where
  pub playable : IsPlayable g new
  pub limits_are : new.engine.running.limits ≡ limits
  pub sound : WasSound g old new
  pub opens : g.is_sound new.engine.running.keep → Opens g limits now old.engine.running.broker.records new
  pub ends : new.ends ≡ ends_restarted old.ends
