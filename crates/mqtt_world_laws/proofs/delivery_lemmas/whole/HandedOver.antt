-- Where a receiver stands, all that the law of its hop says holds of what it has read (MQTT 5.0, 4.3.2, 4.3.3, 4.6).
use Rattle.std.proofs.Common.{◌≡◌, ℕ, List, Some, sym, subst}
use Rattle.mqtt_base.specs.declared.session.CopyId.{CopyId}
use Rattle.mqtt_world_model.specs.model.Ends.{Receiver}
use Rattle.mqtt_world_model.specs.model.World.{World, receiver_named}
use Rattle.mqtt_records.specs.lists.Distinct.{AllDiffer}
use Rattle.mqtt_rules.specs.declared.step.Capacity.{Capacity}
use Rattle.mqtt_world_laws.specs.receiver.Own.{RunsAlone}
use Rattle.mqtt_world_laws.proofs.receiver_lemmas.queue.Handed.{all_tagged, at_most_once, carried_all, dropped_is, expired_is, in_order, read_is, released_once, taken_is}
use Rattle.mqtt_world_laws.proofs.receiver_lemmas.queue.Numbers.{place_of}
use Rattle.mqtt_world_laws.specs.delivery.HandedOver.{WasHandedOver}
use Rattle.mqtt_world_laws.specs.delivery.Standing.{IsPlaced, IsSeen, Stands}
use Rattle.mqtt_world_laws.proofs.delivery_lemmas.others.Standings.{runs_so}

-- a receiver that stands was handed copies that entered, each once
pub handed_over : (first : List CopyId) (c : List ℕ) (largest : ℕ) (limits : Capacity) (r : Receiver) (w : World) → Stands first c largest limits w → receiver_named c w ≡ Some r → WasHandedOver r w.broker
handed_over first c largest limits r w s e = record {
  copies = x.after;
  number = place_of s.ids;
  numbered = x.run_is.numbered;
  differ = subst (λ (all : List CopyId). AllDiffer all) (sym x.same) placed.told.differ;
  queued = x.run_is.queue_is;
  tagged = all_tagged (place_of s.ids) largest x.after r w.broker x.run_is;
  once = at_most_once (place_of s.ids) largest x.after r w.broker x.run_is;
  in_order = in_order (place_of s.ids) largest x.after r w.broker x.run_is;
  released = released_once (place_of s.ids) largest x.after r w.broker x.run_is;
  taken = taken_is (place_of s.ids) largest x.after r w.broker x.run_is;
  read = read_is (place_of s.ids) largest x.after r w.broker x.run_is;
  expired = expired_is (place_of s.ids) largest x.after r w.broker x.run_is;
  dropped = dropped_is (place_of s.ids) largest x.after r w.broker x.run_is;
  carried = carried_all (place_of s.ids) largest x.after r w.broker x.run_is;
}
  where
    x : RunsAlone (place_of s.ids) largest s.ids r w.broker
    x = runs_so c largest limits s.ids s.ns r w s.standing e

    placed : IsPlaced largest s.ids s.ns r w.broker
    placed = subst (IsSeen largest s.ids s.ns w.broker) e s.standing.seen
