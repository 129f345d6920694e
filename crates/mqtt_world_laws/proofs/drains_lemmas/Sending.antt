-- The broker is asked to send: if the receiver's session is connected it stays so, and a line that waits for CONNECT stays
-- (MQTT 5.0, 3.1, 4.6).
use Rattle.std.proofs.Common.{◌≡◌, ℕ, true, List, [], Option, None, ap, subst, sym, ◌∙◌}
use Rattle.std.specs.Prelude.{is_some}
use Rattle.mqtt_world_model.specs.model.Ends.{Back}
use Rattle.mqtt_world_model.specs.model.Lines.{stands}
use Rattle.mqtt_world_model.specs.model.Run.{Turn, turned}
use Rattle.mqtt_world_model.specs.model.World.{Setting, World, ask, calls, publisher_named, pump}
use Rattle.mqtt_rules.specs.step.Deeds.{Deed, with_line}
use Rattle.mqtt_rules.specs.step.State.{Line as BrokerLine, Broker, MemberChoice, session_named}
use Rattle.mqtt_rules.specs.step.Step.{Pump, at_moment, deeds, done, on_pump}
use Rattle.mqtt_rules.specs.declared.step.Capacity.{Capacity}
use Rattle.mqtt_world_laws.specs.receiver.Drains.{turn_of}
use Rattle.mqtt_world_laws.proofs.receiver_lemmas.queue.Numbers.{place_of}
use Rattle.mqtt_world_laws.proofs.receiver_lemmas.drains.WorldRounds.{pump_is, pumps, receiver_called_is}
use Rattle.mqtt_world_laws.specs.receiver.Connecting.{any_size}
use Rattle.mqtt_world_laws.proofs.drains_lemmas.Whereabouts.{Connected, IsOnWith, MayEmpty, Waits, good_of, on_again}

module _ (c : List ℕ) (limits : Capacity) (choice : MemberChoice) where
  abbrev pub sends : Turn
  sends = turn_of choice (ask (pump c))

  -- a connected receiver that is sent what waits for it is connected still, with the same under way from it
  pub sent_on : (up : List Back) (w : World) → Connected c up w → IsOnWith c up (turned limits sends w)
  sent_on up w x = on_again (place_of x.ids) any_size x.window x.ids x.birth x.ns c up _ (turned limits sends w) (pumps limits choice c (place_of x.ids) any_size x.window x.ids x.birth x.ns up x.hop w x.here)

  -- a receiver whose CONNECT is under way may be emptied still when the broker was asked to send
  pub sent_waits : (w : World) → Waits c w → publisher_named c w ≡ None → is_some (session_named c w.broker.records) ≡ true → MayEmpty c (turned limits sends w)
  sent_waits w x alone session =
      let set : Setting = record { limits = limits; choice = choice } in
      let r = x.receiver in
      let l = x.line in
      let b = w.broker in
      let first = at_moment w.now b in
      let later = calls set (Pump l.number) w in
      let idle : deeds limits choice w.now (Pump l.number) b ≡ [] =
      ap (λ (o : Option BrokerLine). with_line o (λ (y : BrokerLine). on_pump y y.session) first) x.awaits.line ∙ ap (λ (o : Option ℕ). on_pump l o first) x.awaits.waits in
      let broker_is : later.broker ≡ first = ap (λ (ds : List Deed). done ds first) idle in
      let there : stands r.line.number later.broker ≡ true =
      ap (λ (y : Broker). stands r.line.number y) broker_is ∙ (ap (λ (o : Option ℕ). stands o first) x.awaits.number ∙ ap is_some x.awaits.line) in
      subst (MayEmpty c) (sym (pump_is limits choice c w r l.number x.named alone x.awaits.number)) (record {
        good = good_of c _ later (receiver_called_is c set (Pump l.number) w r x.named) there;
        session = ap (λ (y : Broker). is_some (session_named c y.records)) broker_is ∙ session;
      })
