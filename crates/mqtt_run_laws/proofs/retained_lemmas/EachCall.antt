-- So it is said of each call and each opening.
use Rattle.mqtt_base.specs.Codes.{keep_alive_timeout, protocol_error}
use Rattle.mqtt_flow.specs.inbound.Identifiers.{is_among}
use Rattle.mqtt_flow.specs.inbound.Inbound.{answer_to_release}
use Rattle.mqtt_flow.specs.outbound.Outbound as rules
use Rattle.mqtt_packet.specs.declared.codec.packet.Packet.TheVariants as packets
use Rattle.mqtt_packet.specs.declared.codec.packet.Packet.{Packet}
use Rattle.mqtt_records.specs.declared.messages.message.RetainedMessage.{RetainedMessage}
use Rattle.mqtt_records.specs.declared.state.session.Session.{Session}
use Rattle.mqtt_rules.proofs.step_lemmas.fit.StandLaw.{Orders}
use Rattle.mqtt_rules.specs.step.Closing.{close, end_session, has_due_end, has_due_will, publish_will}
use Rattle.mqtt_rules.specs.step.Connect.{refusal}
use Rattle.mqtt_rules.specs.step.Deeds.{Act, At, Close, Deed, Forget, Hear, Link, On, Send, always, series, whose}
use Rattle.mqtt_rules.specs.step.Fitting.{pump_turns}
use Rattle.mqtt_rules.specs.step.Inbound.{meaning, pump_deeds}
use Rattle.mqtt_rules.specs.step.Packets.{connack}
use Rattle.mqtt_rules.specs.step.State.{Broker, Env, Line, line_at, queue_on}
use Rattle.mqtt_rules.specs.step.Step.{BadInput, Call, Input, Lost, NewLine, Pump, Tick, can_link, connected_in, deeds_of, first_packet, late_code, next_packet, on_fault, on_packet, on_pump, opening, settles, settles_all, shuts, shuts_all}
use Rattle.mqtt_rules.specs.step.Tick.{due, first_due, has_lapsed, is_silent, is_stale, lapse_deeds, lapses, on_tick, silence}
use Rattle.std.proofs.Common.{[], Bool, List, None, Option, Some, cond, false, map, refl, suc, true, ℕ, ◌∷◌, ◌≡◌}
use Rattle.std.specs.List.{AllByRecursion}
use Rattle.std.specs.Prelude.{find, option_map, ⊤}
use Rattle.mqtt_rules.proofs.step_lemmas.acts.Leads.{found_among, found_passes}
use Rattle.mqtt_run_laws.proofs.retained_lemmas.Quiet.{quiet_cond, quiet_leaves, quiet_turns, quiet_release, quiet_unsubscribe, quiet_subscribe}
use Rattle.mqtt_run_laws.proofs.retained_lemmas.EachAct.{Says, nothing, SaysAct, quiet, quietly, acts, each_act, on_birth, on_a_line, its_will, ending, settling, closing, dropping, connecting, publishing, answering, leaving}

module _ (env : Env) (R : List Deed → Broker → Type 0) (says : Says env R) where
  -- ---- tick

  abbrev SaysHere : Broker → Option Act → Type 0
  SaysHere b None = ⊤
  SaysHere b (Some act) = R (act b) b

  mapped : {X : Type 0} (f : X → Act) (o : Option X) (b : Broker) → ((x : X) → o ≡ Some x → R (f x b) b) → SaysHere b (option_map f o)
  mapped f None b h = tt
  mapped f (Some x) b h = h x refl

  first_told : (os : List (Option Act)) (b : Broker) → AllByRecursion (SaysHere b) os → SaysHere b (first_due os)
  first_told [] b h = tt
  first_told (Some act ∷ rest) b h = h.0
  first_told (None ∷ rest) b h = first_told rest b h.1

  silent : (o : Option ℕ) (l : Line) → SaysAct env R says (silence env o l)
  silent None l b h = closing env R says true l b h
  silent (Some birth) l b h = dropping env R says keep_alive_timeout l b h

  due_told : (b : Broker) → Orders b → SaysHere b (due env b)
  due_told b q =
      let lines = find (λ (l : Line). is_silent b.now l.session l) b.lines in
      let wills = find (has_due_will b.now) b.records.sessions in
      let ends = find (has_due_end b.now) b.records.sessions in
      let kept = find (is_stale b.now) b.records.retained in
      let waiting = find (has_lapsed b.now) b.records.sessions in
      let all : List (Option Act) = option_map (λ (l : Line). silence env l.session l) lines ∷ option_map (publish_will env) wills ∷ option_map
      (λ (s : Session). always (end_session s)) ends
      ∷ option_map (λ (k : RetainedMessage). always (Forget k.place ∷ [])) kept ∷ option_map (λ (s : Session). always (lapse_deeds b.now s)) waiting ∷ [] in
      let each : AllByRecursion (SaysHere b) all = (
        mapped (λ (l : Line). silence env l.session l) lines b (λ l e. silent l.session l b q),
        (
          mapped (publish_will env) wills b (λ s e. its_will env R says s b q),
          (
            mapped (λ (s : Session). always (end_session s)) ends b (λ s e. ending env R says s b q),
            (
              mapped (λ (k : RetainedMessage). always (Forget k.place ∷ [])) kept b
                  (λ k e. says.stale k b q (found_among (is_stale b.now) k b.records.retained e) (found_passes (is_stale b.now) k b.records.retained e)),
              (
                mapped (λ (s : Session). always (lapse_deeds b.now s)) waiting b
                    (λ s e. quietly env R says (lapse_deeds b.now s) b (quiet_leaves s (lapses b.now s))),
                tt,
              ),
            ),
          ),
        ),
      ) in
      first_told all b each

  ticking : (o : Option Act) (b : Broker) → SaysHere b o → R (on_tick o b) b
  ticking None b h = nothing env R says b
  ticking (Some act) b h = h

  -- ---- calls

  first_read : (l : Line) (packet : Packet) → SaysAct env R says (first_packet env l packet)
  first_read l (packets.Connect c) b h = connecting env R says (refusal c b.records) l c b h
  first_read l (packets.Connack c) b h = closing env R says true l b h
  first_read l (packets.Publish p) b h = closing env R says true l b h
  first_read l (packets.Puback a) b h = closing env R says true l b h
  first_read l (packets.Pubrec a) b h = closing env R says true l b h
  first_read l (packets.Pubrel a) b h = closing env R says true l b h
  first_read l (packets.Pubcomp a) b h = closing env R says true l b h
  first_read l (packets.Subscribe p) b h = closing env R says true l b h
  first_read l (packets.Suback p) b h = closing env R says true l b h
  first_read l (packets.Unsubscribe p) b h = closing env R says true l b h
  first_read l (packets.Unsuback p) b h = closing env R says true l b h
  first_read l packets.Pingreq b h = closing env R says true l b h
  first_read l packets.Pingresp b h = closing env R says true l b h
  first_read l (packets.Disconnect n) b h = closing env R says true l b h
  first_read l (packets.Auth n) b h = closing env R says true l b h

  next_read : (l : Line) (packet : Packet) (s : Session) → SaysAct env R says (next_packet env l packet s)
  next_read l (packets.Publish p) s b h = publishing env R says (meaning p l.aliases) l s p b h
  next_read l (packets.Puback a) s b h = answering env R says (rules.puback a.identifier a.reason.0 (queue_on l.went s)) l s b h
  next_read l (packets.Pubrec a) s b h = answering env R says (rules.pubrec a.identifier a.reason.0 (queue_on l.went s)) l s b h
  next_read l (packets.Pubrel a) s b h = quietly env R says _ b (quiet_release (answer_to_release a.identifier s.inbound) l s a.identifier)
  next_read l (packets.Pubcomp a) s b h = answering env R says (rules.pubcomp a.identifier (queue_on l.went s)) l s b h
  next_read l (packets.Subscribe p) s b h = quietly env R says _ b (quiet_subscribe (is_among p.identifier s.inbound) env l.number s p b)
  next_read l (packets.Unsubscribe p) s b h = quietly env R says _ b (quiet_unsubscribe (is_among p.identifier s.inbound) l.number s p b)
  next_read l packets.Pingreq s b h = quietly env R says (Send l.number packets.Pingresp ∷ []) b (tt, tt)
  next_read l (packets.Disconnect n) s b h = leaving env R says _ l s n.reason.0 _ b h
  next_read l (packets.Connect c) s b h = dropping env R says protocol_error l b h
  next_read l (packets.Connack c) s b h = dropping env R says protocol_error l b h
  next_read l (packets.Suback p) s b h = dropping env R says protocol_error l b h
  next_read l (packets.Unsuback p) s b h = dropping env R says protocol_error l b h
  next_read l packets.Pingresp s b h = dropping env R says protocol_error l b h
  next_read l (packets.Auth n) s b h = dropping env R says protocol_error l b h

  reading : (l : Line) (packet : Packet) (o : Option ℕ) → SaysAct env R says (on_packet env l packet o)
  reading l packet None b h = first_read l packet b h
  reading l packet (Some birth) b h = on_birth env R says birth (next_packet env l packet) (λ s. next_read l packet s) b h

  at_fault : (l : Line) (t : Bool) (code : ℕ) (o : Option ℕ) → SaysAct env R says (on_fault env l t code o)
  at_fault l true code None b h =
      acts env R says (always (Send l.number (connack false code []) ∷ []) ∷ close env true l ∷ [])
      (quiet env R says (Send l.number (connack false code []) ∷ []) (tt, tt), (closing env R says true l, tt)) b h
  at_fault l false code None b h = closing env R says true l b h
  at_fault l true code (Some birth) b h = dropping env R says (late_code code) l b h
  at_fault l false code (Some birth) b h = dropping env R says (late_code code) l b h

  pumping : (l : Line) (o : Option ℕ) → SaysAct env R says (on_pump l o)
  pumping l None b h = nothing env R says b
  pumping l (Some birth) b h =
      on_birth env R says birth (λ s. always (pump_deeds l b s))
      (λ s. quiet env R says (pump_deeds l b s) (quiet_turns b.now l.number s (pump_turns l b s))) b h

  -- what is said of publications, beginnings, openings and grants is said of a call
  pub call_says : (call : Call) → SaysAct env R says (deeds_of env call)
  call_says NewLine b h =
      quietly env R says (cond (can_link env.limits b) (Link (suc b.given) ∷ []) []) b (quiet_cond (can_link env.limits b) (Link (suc b.given) ∷ []) [] (tt, tt) tt)
  call_says (Input n packet) b h =
      on_a_line env R says (line_at n b) (λ l. series (always (On n Hear ∷ []) ∷ on_packet env l packet l.session ∷ []))
      (λ l. acts env R says (always (On n Hear ∷ []) ∷ on_packet env l packet l.session ∷ [])
      (quiet env R says (On n Hear ∷ []) (tt, tt), (reading l packet l.session, tt))) b h
  call_says (BadInput n is_connect code) b h =
      on_a_line env R says (line_at n b) (λ l. on_fault env l is_connect code l.session) (λ l. at_fault l is_connect code l.session) b h
  call_says (Lost n) b h = on_a_line env R says (line_at n b) (close env true) (closing env R says true) b h
  call_says (Pump n) b h = on_a_line env R says (line_at n b) (λ l. on_pump l l.session) (λ l. pumping l l.session) b h
  call_says Tick b h = ticking (due env b) b (due_told b h)

  shutting : (s : Session) → SaysAct env R says (shuts s)
  shutting s b h = quietly env R says (At (whose s) (Close b.now) ∷ []) b (tt, tt)

  -- what is said of them is said of an opening
  pub opening_says : SaysAct env R says (opening env)
  opening_says b h =
      let ss = connected_in b.records in
      acts env R says (shuts_all ss ∷ settles_all env ss ∷ []) (
        acts env R says (map shuts ss) (each_act env R says shuts shutting ss),
        (
          acts env R says (map (settles env) ss) (each_act env R says (settles env) (λ (s : Session). settling env R says s.birth) ss),
          tt,
        ),
      ) b h
