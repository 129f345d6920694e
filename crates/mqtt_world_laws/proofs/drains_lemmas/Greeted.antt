-- The broker reads the CONNECT of a receiver whose session stands: the session is resumed, or another begins instead of it, and it
-- is connected on the receiver's line (MQTT 5.0, 3.1.2.4, 3.1.4).
use Rattle.std.proofs.Common.{◌≡◌, ℕ, suc, Bool, true, false, List, [], Option, Some, None, refl, sym, ap, subst, ◌∙◌}
use Rattle.std.specs.Prelude.{is_some}
use Rattle.mqtt_flow.specs.outbound.Receiver.{connect}
use Rattle.mqtt_world_model.specs.model.Ends.{Receiver, answers, wire_back}
use Rattle.mqtt_world_model.specs.model.Hops.{Own}
use Rattle.mqtt_world_model.specs.model.Run.{turned}
use Rattle.mqtt_world_model.specs.model.Seats.{Former, IsHis}
use Rattle.mqtt_world_model.specs.model.Seen.{is_linked}
use Rattle.mqtt_world_model.specs.model.World.{Setting, World, ask, calls, publisher_named, receiver_named, receiver_told, taken_up, to_broker}
use Rattle.mqtt_world_model.proofs.model_lemmas.seats.Seats.{kept_of}
use Rattle.mqtt_world_model.proofs.model_lemmas.seats.Seeing.{linked_is, linked_of}
use Rattle.mqtt_records.specs.declared.state.session.Session.{Session}
use Rattle.mqtt_rules.specs.step.State.{Broker, MemberChoice, session_named}
use Rattle.mqtt_rules.specs.step.Step.{Input, told}
use Rattle.mqtt_rules.specs.declared.step.Capacity.{Capacity}
use Rattle.mqtt_world_laws.proofs.acceptance_lemmas.publishers.Ends.{named_receiver}
use Rattle.mqtt_world_laws.specs.receiver.Calls.{IsResuming}
use Rattle.mqtt_world_laws.specs.receiver.Drains.{turn_of}
use Rattle.mqtt_world_laws.specs.receiver.Handing.{after_answer}
use Rattle.mqtt_world_laws.proofs.receiver_lemmas.connects.Greetings.{HasGreeted, greeted_on, renewed_line, resumed_line}
use Rattle.mqtt_world_laws.proofs.receiver_lemmas.drains.WorldRounds.{back_is, receiver_called_is, receiver_changed, taken_off}
use Rattle.mqtt_world_laws.specs.delivery.Standing.{IsPlaced, line_like}
use Rattle.mqtt_world_laws.specs.receiver.Connecting.{any_size}
use Rattle.mqtt_world_laws.proofs.delivery_lemmas.own.Greetings.{may_renew, may_resume, spared_left}
use Rattle.mqtt_world_laws.proofs.delivery_lemmas.others.Around.{its_place}
use Rattle.mqtt_world_laws.proofs.delivery_lemmas.others.Runs.{IsKept}
use Rattle.mqtt_world_laws.proofs.drains_lemmas.Whereabouts.{IsOn, Waits, placed_of}

module _ (c : List ℕ) (limits : Capacity) (choice : MemberChoice) (w : World) (kept : IsKept [] c limits w) (x : Waits c w) (session : is_some (session_named c w.broker.records) ≡ true) where
  abbrev r : Receiver
  r = x.receiver

  abbrev n : ℕ
  n = x.line.number

  abbrev b : Broker
  b = w.broker

  -- some session is connected on this line then
  abbrev Greets : Bool → Type 0
  Greets clean = (birth : ℕ) × HasGreeted x.line.number birth x.receiver.window (after_answer limits choice w.now x.line.number (connect clean) x.receiver w.broker)

  greets : Greets x.clean
  greets = by placed.birth placed.seat.his placed.seat.former
    where
      placed : IsPlaced any_size kept.stands.ids kept.stands.ns r b
      placed = placed_of c limits w kept r x.named

      greets_as : (s : Session) → IsResuming r x.line s b → (clean : Bool) → Greets clean
      greets_as s a false = (s.birth, resumed_line limits choice w.now r x.line s b a)
      greets_as s a true =
          let around = kept.stands.standing.around in (
            suc b.records.births,
            renewed_line limits choice w.now r x.line s b
                (may_renew limits r x.line s b around.within around.steady (its_place c limits kept.stands.ns w r around x.named) placed.named a),
          )

      by : (o : Option ℕ) → IsHis r.client o placed.line b → Former o placed.line (line_like r.line) b → Greets x.clean
      by None his former =
          let none : session_named c b.records ≡ None = ap (λ (name : List ℕ). session_named name b.records) (sym (named_receiver c r w x.named)) ∙ his in
          let clash : true ≡ false = sym session ∙ ap is_some none in
          absurd cc
      by (Some birth) his former =
          let y = kept_of r.client birth placed.line b his.0 his.1 placed.named.short placed.named.plain in
          let s = y.0 in
          let own : Own r.client s.birth placed.line b = subst (λ (z : ℕ). Own r.client z placed.line b) (sym y.1) his.0 in
          let behind : Former (Some s.birth) placed.line (line_like r.line) b = subst (λ (z : ℕ). Former (Some z) placed.line (line_like r.line) b) (sym y.1) former in
          greets_as s (may_resume placed.line r x.line s b kept.fit.unused x.awaits y.2 own (spared_left r.client s.birth placed.line r b own behind)) x.clean

  -- once its CONNECT is read the receiver's session is connected on its line
  pub greeted_is_on : publisher_named c w ≡ None → IsOn c (turned limits (turn_of choice (ask (to_broker c))) w)
  greeted_is_on alone =
      let set : Setting = record { limits = limits; choice = choice } in
      let call = Input n (wire_back r.client r.window r.aliases (answers (connect x.clean))) in
      let before = taken_off limits choice c w in
      let later = calls set call before in
      let q = record r { line = taken_up r.line } in
      let found : receiver_named c before ≡ Some q = receiver_changed c (λ (s : Receiver). record s { line = taken_up s.line }) r w.receivers (λ s. refl) x.named in
      let g = greets in
      let linked : is_linked r.line.number later.broker ≡ true =
      ap (λ (o : Option ℕ). is_linked o later.broker) x.awaits.number ∙ (linked_is n later.broker ∙ ap linked_of (greeted_on n g.0 r.window later.broker g.1)) in
      subst (IsOn c) (sym (back_is limits choice c w r n (answers (connect x.clean)) [] x.named alone x.awaits.number x.up)) (record {
        receiver = receiver_told later.broker (told limits choice w.now call w.broker) q;
        named = receiver_called_is c set call before q found;
        linked = linked;
      })
