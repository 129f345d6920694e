-- Why a replay ends for its store, by what its world tells.
use Rattle.std.proofs.Common.{◌≡◌, sym, subst}
use Rattle.std.specs.Prelude.{Result, IfErr, IsErrOf}
use Rattle.mqtt_keep.specs.declared.keeping.keep.Keep.{Ghosts}
use Rattle.mqtt_rules.specs.declared.step.Capacity.{Capacity}
use Rattle.mqtt_script.specs.declared.replay_fault.ReplayFault.{ReplayFault}
use Rattle.mqtt_script.specs.declared.replay_fault.ReplayFault.TheVariants.{Read, Write, Memory, Store}
use Rattle.mqtt_world_ends.specs.declared.peers.told.RunFault.{RunFault}
use Rattle.mqtt_world_ends.specs.declared.peers.told.RunFault.TheVariants as fault
use Rattle.mqtt_replay.specs.playing.Playing.{IsDue}
use Rattle.mqtt_world.specs.scene.Halting.{IsFaultDue, IsNoStart, IsStoreDue}
use Rattle.mqtt_world.specs.world.Worlds.{Lasting, Starts}
use Rattle.mqtt_replay.specs.over_world.Causes.{IsReplayDue, ends_as, in_its_run, not_begun}
use Rattle.mqtt_replay.specs.over_world.Plays.{play_of}

module _ {K : Type 0} (g : Ghosts K) where
  -- what a world answers for its store has its cause
  pub store_due : {T : Type 0} (r : Result T RunFault) → IfErr r (IsFaultDue g) → IsErrOf r fault.Store → IsStoreDue g
  store_due {T} r due is = subst (λ (x : Result T RunFault). IfErr x (IsFaultDue g)) is due

  module _ (limits : Capacity) (keep : K) where
    -- a world that does not begin
    pub none_began : (f : RunFault) → IsNoStart g limits 0 keep f → IsReplayDue g limits keep (ends_as f)
    none_began fault.Memory none = tt
    none_began fault.Store none = not_begun none
    none_began (fault.BadEvent place) none = absurd none

    -- if no world begins, the end of the replay has the cause of that
    pub none_begun : (f : RunFault) (end : ReplayFault) → end ≡ ends_as f → IsNoStart g limits 0 keep f → IsReplayDue g limits keep end
    none_begun f end is none = subst (IsReplayDue g limits keep) (sym is) (none_began f none)

    -- one that does
    pub due_in : (w : Lasting K) → Starts g limits keep w → (end : ReplayFault) → IsDue (play_of g) end → IsReplayDue g limits keep end
    due_in w starts Read due = tt
    due_in w starts Write due = tt
    due_in w starts Memory due = tt
    due_in w starts Store due = in_its_run w starts due
