-- What a receiver and its session see after a step is what one event of their hop makes of what they saw before.
use Rattle.std.proofs.Common.{◌≡◌, ℕ, List, [], ◌∷◌, ◌++◌, map, sym, ap, subst, ◌∙◌}
use Rattle.mqtt_flow.specs.outbound.OutboundWorld.{Lot, Event, World as Hop, start, step}
use Rattle.mqtt_base.specs.declared.session.CopyId.{CopyId}
use Rattle.mqtt_world_model.specs.model.Ends.{Receiver}
use Rattle.mqtt_rules.specs.step.State.{Broker, session_named}
use Rattle.mqtt_world_laws.specs.receiver.Handing.{IsRun, RunsOn}
use Rattle.mqtt_world_laws.specs.receiver.Seen.{AreQueued, Numbering, seen}
use Rattle.mqtt_world_laws.specs.receiver.Tags.{AreNumbered, AreTagged, id_of}
use Rattle.mqtt_world_laws.proofs.receiver_lemmas.connects.Refusals.{run_append}

-- the receiver q at the broker c, after the receiver r at the broker b
pub record Follows (number : Numbering) (largest : ℕ) (copies : List Lot) (e : Event) (r : Receiver) (b : Broker) (q : Receiver) (c : Broker) : Type 0 where
  pub after : List Lot
  pub same : map id_of after ≡ map id_of copies
  pub seen_is : seen number after q c ≡ step largest (seen number copies r b) e
  pub queue_is : AreQueued after (session_named q.client c.records) c
  pub tagged : AreTagged number (map id_of copies) q

-- a broker that follows an event of the hop runs on with it
pub run_follows : (number : Numbering) (largest : ℕ) (copies : List Lot) (e : Event) (r : Receiver) (b : Broker) (q : Receiver) (c : Broker)
    → IsRun number largest copies r b → (f : Follows number largest copies e r b q c) → IsRun number largest f.after q c
run_follows number largest copies e r b q c h f = record {
  events = h.events ++ e ∷ [];
  seen_is = f.seen_is ∙ (ap (λ (v : Hop). step largest v e) h.seen_is ∙ sym (run_append largest h.events (e ∷ []) start));
  queue_is = f.queue_is;
  numbered = subst (AreNumbered number) (sym f.same) h.numbered;
  tagged = subst (λ (cs : List CopyId). AreTagged number cs q) (sym f.same) f.tagged;
}

-- and its run is that event's
pub runs_follow : (number : Numbering) (largest : ℕ) (copies : List Lot) (e : Event) (r : Receiver) (b : Broker) (q : Receiver) (c : Broker)
    → IsRun number largest copies r b → Follows number largest copies e r b q c → RunsOn number largest copies q c
runs_follow number largest copies e r b q c h f = record { after = f.after; same = f.same; run_is = run_follows number largest copies e r b q c h f }
