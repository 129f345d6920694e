-- Where a receiver is whose line stands: its session is connected there, or its CONNECT is under way (MQTT 5.0, 3.1, 3.1.4).
use Rattle.std.proofs.Common.{◌≡◌, ℕ, ◌≤◌, Bool, true, false, not, ◌⊎◌, List, [], ◌∷◌, Option, Some, None, refl, sym, ap, subst, ◌∙◌, inl, inr}
use Rattle.std.specs.Prelude.{filter_map, is_some}
use Rattle.std.specs.List.{AllByRecursion}
use Rattle.mqtt_base.specs.declared.session.Cause.{Cause}
use Rattle.mqtt_base.specs.declared.session.CopyId.{CopyId}
use Rattle.mqtt_flow.specs.outbound.OutboundWorld.{World as Hop}
use Rattle.mqtt_flow.specs.outbound.Receiver.{connect}
use Rattle.mqtt_world_model.specs.model.Ends.{Back, Receiver, answers}
use Rattle.mqtt_world_model.specs.model.Lines.{stands}
use Rattle.mqtt_world_model.specs.model.Seats.{IsHis, Present, absent, closed, joined, waiting}
use Rattle.mqtt_world_model.specs.model.Seen.{heard_in, is_linked}
use Rattle.mqtt_world_model.specs.model.World.{World, receiver_named}
use Rattle.mqtt_world_model.proofs.model_lemmas.seats.Seats.{idle_linked}
use Rattle.mqtt_records.specs.state.Records.{subscribe_in}
use Rattle.mqtt_rules.proofs.step_lemmas.flight.FlightRows.{all_more}
use Rattle.mqtt_rules.specs.step.State.{Line as BrokerLine, Broker, line_at, session_named}
use Rattle.mqtt_rules.specs.declared.step.Capacity.{Capacity}
use Rattle.mqtt_world_laws.proofs.acceptance_lemmas.publishers.Ends.{named_receiver}
use Rattle.mqtt_world_laws.specs.receiver.Apart.{HasCome}
use Rattle.mqtt_world_laws.specs.receiver.Drains.{is_bad_drain, line_stands}
use Rattle.mqtt_world_laws.specs.receiver.Seen.{Numbering, seen}
use Rattle.mqtt_world_laws.specs.receiver.WorldRounds.{AllBringNoLarger, AreTold, IsOlder}
use Rattle.mqtt_world_laws.proofs.receiver_lemmas.queue.Numbers.{place_of, places_number}
use Rattle.mqtt_world_laws.proofs.receiver_lemmas.drains.WorldRoundSteps.{is_linked_now}
use Rattle.mqtt_world_laws.proofs.receiver_lemmas.drains.WorldRounds.{Here}
use Rattle.mqtt_world_laws.specs.delivery.Standing.{IsPlaced, IsSeen, Stands, line_like}
use Rattle.mqtt_world_laws.specs.receiver.Connecting.{any_size}
use Rattle.mqtt_world_laws.proofs.delivery_lemmas.drains.Drains.{connection_of}
use Rattle.mqtt_world_laws.proofs.delivery_lemmas.whole.EveryRun.{takes_some}
use Rattle.mqtt_world_laws.proofs.delivery_lemmas.own.Fronts.{Awaits, IsJoined, front}
use Rattle.mqtt_world_laws.proofs.delivery_lemmas.own.Sizes.{asked_small}
use Rattle.mqtt_world_laws.proofs.delivery_lemmas.others.Like.{closed_stands, connect_like, connected_linked, none_stands}
use Rattle.mqtt_world_laws.proofs.delivery_lemmas.others.Runs.{IsKept}

-- its session is connected on its line
pub record IsOn (c : List ℕ) (w : World) : Type 0 where
  pub receiver : Receiver
  pub named : receiver_named c w ≡ Some receiver
  pub linked : is_linked receiver.line.number w.broker ≡ true

-- and this is under way from it
pub record IsOnWith (c : List ℕ) (up : List Back) (w : World) : Type 0 where
  pub on : IsOn c w
  pub up_is : on.receiver.line.up ≡ up

-- its line waits for its CONNECT, which is all that is under way from it; nothing that it would leave the line for is under way to it
pub record Waits (c : List ℕ) (w : World) : Type 0 where
  pub receiver : Receiver
  pub named : receiver_named c w ≡ Some receiver
  pub line : BrokerLine
  pub awaits : Awaits receiver.line.number line w.broker
  pub clean : Bool
  pub up : receiver.line.up ≡ answers (connect clean) ∷ []
  pub quiet : filter_map heard_in receiver.line.down ≡ []

-- its line stands, and so does a session of its name
pub record MayEmpty (c : List ℕ) (w : World) : Type 0 where
  pub good : is_bad_drain c w ≡ false
  pub session : is_some (session_named c w.broker.records) ≡ true

-- receiver and broker in step and connected, with this under way from it, which brings nothing that is too large, and its copies
-- told apart
pub record Connected (c : List ℕ) (up : List Back) (w : World) : Type 0 where
  pub window : ℕ
  pub ids : List CopyId
  pub birth : ℕ
  pub ns : List ℕ
  pub hop : Hop
  pub here : Here (place_of ids) any_size window ids birth ns c up hop w
  pub told : AreTold ids w.broker
  pub brings : AllByRecursion (AllBringNoLarger any_size w.broker.records.retained) up

stood : (t : Bool) → not t ≡ false → t ≡ true
stood true h = refl
stood false h = absurd cc

-- a line on which a session is connected stands
pub linked_stands : (x : Option ℕ) (b : Broker) → is_linked x b ≡ true → stands x b ≡ true
linked_stands None b h = absurd cc
linked_stands (Some n) b h = by (line_at n b) refl h
  where
    by : (o : Option BrokerLine) → line_at n b ≡ o → is_linked (Some n) b ≡ true → is_some (line_at n b) ≡ true
    by None e h = let clash : false ≡ true = rw e at h in absurd cc
    by (Some l) e h = ap is_some e

-- whoever's line stands isn't drained in vain
pub good_of : (c : List ℕ) (r : Receiver) (w : World) → receiver_named c w ≡ Some r → stands r.line.number w.broker ≡ true → is_bad_drain c w ≡ false
good_of c r w e h = ap (λ (o : Option Receiver). not (line_stands o w)) e ∙ ap not h

-- so it is after a step that leaves it connected
pub on_again : (number : Numbering) (largest window : ℕ) (ids : List CopyId) (birth : ℕ) (ns : List ℕ) (c : List ℕ) (up : List Back) (h : Hop) (w : World) → Here number largest window ids birth ns c up h w → IsOnWith c up w
on_again number largest window ids birth ns c up h w x = record {
  on = record { receiver = x.receiver; named = x.named; linked = is_linked_now number largest window ids birth ns x.receiver w.broker x.at.connected };
  up_is = x.up;
}

older : (publications subscribes : ℕ) (id : CopyId) → HasCome publications subscribes id → IsOlder subscribes id
older publications subscribes id h = λ n is. subst (λ (k : Cause). subscribe_in k ≤ subscribes) is h.subscribe

module _ (c : List ℕ) (limits : Capacity) (w : World) (kept : IsKept [] c limits w) where
  abbrev s : Stands [] c any_size limits w
  s = kept.stands

  -- a receiver that is kept has a place, with its copies and its lines
  pub placed_of : (r : Receiver) → receiver_named c w ≡ Some r → IsPlaced any_size kept.stands.ids kept.stands.ns r w.broker
  placed_of r e = subst (IsSeen any_size s.ids s.ns w.broker) e s.standing.seen

  -- if its line stands
  pub where_is : is_bad_drain c w ≡ false → IsOn c w ⊎ Waits c w
  where_is good = by (receiver_named c w) refl
    where
      by : (o : Option Receiver) → receiver_named c w ≡ o → IsOn c w ⊎ Waits c w
      by None e = let clash : true ≡ false = sym (ap (λ (o : Option Receiver). not (line_stands o w)) e) ∙ good in absurd cc
      by (Some r) e = present placed.seat.present
        where
          placed : IsPlaced any_size s.ids s.ns r w.broker
          placed = placed_of r e

          gone : stands r.line.number w.broker ≡ false → ⊥
          gone h =
              let there : stands r.line.number w.broker ≡ true = stood (stands r.line.number w.broker) (sym (ap (λ (o : Option Receiver). not (line_stands o w)) e) ∙ good) in
              let clash : true ≡ false = sym there ∙ h in
              absurd cc

          present : Present placed.birth placed.line (line_like r.line) w.broker → IsOn c w ⊎ Waits c w
          present (absent nothing up) = absurd (gone (none_stands r.line.number w.broker nothing))
          present (closed n at up idle nothing) = absurd (gone (closed_stands r.line.number n w.broker at nothing))
          present (joined birth own at there) = inl (record { receiver = r; named = e; linked = connected_linked placed.line birth r.line.number w.broker at there })
          present (waiting n clean at link_is clean_is connects_ down idle there) =
              let up = connect_like clean r.line.up connects_ in
              elim (front placed.birth placed.line (answers (connect clean)) [] r w.broker placed.seat.present up) [
                | inl j ↦ inl (record { receiver = r; named = e; linked = connected_linked placed.line j.birth r.line.number w.broker j.at j.there })
                | inr h ↦ inr (record { receiver = r; named = e; line = h.1.line; awaits = h.1.awaits; clean = clean; up = up; quiet = down })
              ]

  -- ---- if its session is connected

  module _ (x : IsOn c w) where
    abbrev r : Receiver
    r = x.receiver

    abbrev placed : IsPlaced any_size kept.stands.ids kept.stands.ns x.receiver w.broker
    placed = placed_of x.receiver x.named

    joined_there : IsJoined placed.birth placed.line r.line.number w.broker
    joined_there = by placed.seat.present
      where
        off : is_linked r.line.number w.broker ≡ false → ⊥
        off h = let clash : true ≡ false = sym x.linked ∙ h in absurd cc

        by : Present placed.birth placed.line (line_like r.line) w.broker → IsJoined placed.birth placed.line r.line.number w.broker
        by (absent nothing up) = absurd (off (ap (λ (o : Option ℕ). is_linked o w.broker) nothing))
        by (closed n at up idle nothing) = absurd (off (ap (λ (o : Option ℕ). is_linked o w.broker) at ∙ idle_linked n w.broker idle))
        by (waiting n clean at link_is clean_is connects_ down idle there) = absurd (off (ap (λ (o : Option ℕ). is_linked o w.broker) at ∙ idle_linked n w.broker idle))
        by (joined birth own at there) = record { birth = birth; own = own; at = at; there = there }

    -- a receiver whose session is connected on its line may be emptied
    pub on_may : MayEmpty c w
    on_may = record {
      good = good_of c r w x.named (linked_stands r.line.number w.broker x.linked);
      session =
          let j = joined_there in
          let his = subst (λ (o : Option ℕ). IsHis r.client o placed.line w.broker) j.own placed.seat.his in
          subst (λ (name : List ℕ). is_some (session_named name w.broker.records) ≡ true) (named_receiver c r w x.named) his.1;
    }

    -- a receiver whose session is connected on its line is in step with the broker
    pub connected_of : Connected c x.receiver.line.up w
    connected_of =
        let j = joined_there in
        let k = connection_of c any_size limits s.ids s.ns r w s.standing x.named kept.fit.distinct (takes_some c w kept.fit.takes kept.fit.well.sends) placed j.birth j.own j.at j.there in
        let y = k.connected.in_step.runs (place_of s.ids) (places_number s.ids placed.told.differ) in
        record {
          window = k.window;
          ids = s.ids;
          birth = j.birth;
          ns = s.ns;
          hop = seen (place_of s.ids) y.after r w.broker;
          here = record {
            receiver = r;
            named = x.named;
            alone = s.standing.around.alone (ap is_some x.named);
            at = record { connected = k.connected; copies = y.after; same = y.same; run_is = y.run_is; seen_is = refl };
            up = refl;
          };
          told = record {
            differ = placed.told.differ;
            older = all_more (HasCome w.broker.records.publications w.broker.records.subscribes) (IsOlder w.broker.records.subscribes) s.ids (older w.broker.records.publications w.broker.records.subscribes) placed.told.come;
            retained = kept.fit.once;
          };
          brings = asked_small c r w kept.fit.well x.named;
        }
