-- Why a replay ends for its store (MQTT 5.0, 4.1).
use Rattle.std.specs.Prelude.{⊤}
use Rattle.mqtt_keep.specs.declared.keeping.keep.Keep.{Ghosts}
use Rattle.mqtt_rules.specs.declared.step.Capacity.{Capacity}
use Rattle.mqtt_script.specs.declared.replay_fault.ReplayFault.{ReplayFault}
use Rattle.mqtt_script.specs.declared.replay_fault.ReplayFault.TheVariants.{Read, Write, Memory, Store}
use Rattle.mqtt_world_ends.specs.declared.peers.told.RunFault.{RunFault}
use Rattle.mqtt_world_ends.specs.declared.peers.told.RunFault.TheVariants as fault
use Rattle.mqtt_world.specs.scene.Halting.{IsStoreDue, IsUnopened}
use Rattle.mqtt_world.specs.world.Worlds.{Lasting, Starts}

-- as what a world ends that does not begin
abbrev pub ends_as : RunFault → ReplayFault
ends_as fault.Memory = Memory
ends_as fault.Store = Store
ends_as (fault.BadEvent place) = Store

-- ---- over a store, by what it promises alone, whichever it is

pub data HasStoreCause {K : Type 0} (g : Ghosts K) (limits : Capacity) (keep : K) : Type 0 where
  -- the broker's opening on what is stored was refused, and not for want of memory
  not_begun : IsUnopened g limits 0 keep → HasStoreCause g limits keep
  -- the world began, and in its run there was a cause that a world tells
  in_its_run : (w : Lasting K) → Starts g limits keep w → IsStoreDue g → HasStoreCause g limits keep

abbrev pub IsReplayDue : {K : Type 0} → Ghosts K → Capacity → K → ReplayFault → Type 0
IsReplayDue g limits keep Read = ⊤
IsReplayDue g limits keep Write = ⊤
IsReplayDue g limits keep Memory = ⊤
IsReplayDue g limits keep Store = HasStoreCause g limits keep
