-- Calls and openings of brokers that are alike.
use Rattle.std.proofs.Common.{◌≡◌, ℕ, Bool, true, false, List, [], ◌∷◌, filter, map, Option, Some, None, refl, sym, ap, subst, ◌∙◌, inl, inr}
use Rattle.std.specs.Prelude.{⊤, flat_map, find, option_map}
use Rattle.std.proofs.lemmas.Bool.{cases_Bool}
use Rattle.mqtt_base.specs.Codes.{keep_alive_timeout, protocol_error}
use Rattle.mqtt_props.specs.declared.table.PropName.TheVariants.{SessionExpiryInterval}
use Rattle.mqtt_packet.specs.declared.codec.packet.Packet.{Packet}
use Rattle.mqtt_packet.specs.declared.codec.packet.Packet.TheVariants as packets
use Rattle.mqtt_flow.specs.declared.outbound.entry.Turn.{Turn}
use Rattle.mqtt_flow.specs.outbound.Outbound.{expired}
use Rattle.mqtt_flow.specs.declared.inbound.inflow.ReleaseAnswer.{ReleaseAnswer}
use Rattle.mqtt_flow.specs.declared.inbound.inflow.ReleaseAnswer.TheVariants.{Known, Unknown}
use Rattle.mqtt_flow.specs.inbound.Inbound.{answer_to_release}
use Rattle.mqtt_records.specs.messages.Queue.{CopyRow}
use Rattle.mqtt_records.specs.declared.messages.message.RetainedMessage.{RetainedMessage}
use Rattle.mqtt_records.specs.declared.state.session.Session.{Session}
use Rattle.mqtt_rules.specs.step.Closing.{close, publish_will, end_session, has_due_will, has_due_end}
use Rattle.mqtt_rules.specs.step.Inbound.{release_by, pump_deeds}
use Rattle.mqtt_rules.specs.step.Outbound.{leave_deeds}
use Rattle.mqtt_records.specs.messages.PassedOn.{number_at}
use Rattle.mqtt_rules.specs.step.Packets.{connack}
use Rattle.mqtt_rules.specs.step.State.{Line, Broker, Env, line_at, is_connected}
use Rattle.mqtt_rules.specs.step.Deeds.{whose, Close, Hear, Forget, On, Send, At, Act, always, series}
use Rattle.mqtt_rules.specs.step.Tick.{is_silent, silence, lapses, are_some, has_lapsed, lapse_deeds, is_stale, first_due, due, on_tick}
use Rattle.mqtt_rules.specs.step.Step.{Call, NewLine, Input, BadInput, Lost, Pump, Tick, first_packet, next_packet, on_packet, late_code, on_fault, on_pump, deeds_of, shuts, settles, opening}
use Rattle.mqtt_rules.specs.alike.Alike.{Each, AlikeRows, AlikeSessions, AlikeDeeds, with_queue}
use Rattle.mqtt_rules.proofs.alike_lemmas.Pairs.{Both, both_map, both_found}
use Rattle.mqtt_rules.proofs.alike_lemmas.States.{by_queue, like}
use Rattle.mqtt_rules.proofs.alike_lemmas.Acts.{AlikeActs, same_deeds, series_alike, two_alike, always_same, always_alike, on_session, of_session_alike, with_line_alike, flat_alike}
use Rattle.mqtt_rules.proofs.alike_lemmas.Queues.{beside, queue_same, leave_alike, end_alike}
use Rattle.mqtt_rules.proofs.alike_lemmas.Closing.{publish_will_alike, settle_alike, close_alike, drop_alike}
use Rattle.mqtt_rules.proofs.alike_lemmas.Inputs.{pump_alike, on_publish_alike, on_puback_alike, on_pubrec_alike, on_pubcomp_alike, on_disconnect_alike}
use Rattle.mqtt_rules.proofs.alike_lemmas.Connecting.{on_connect_alike}
use Rattle.mqtt_rules.proofs.alike_lemmas.Subscribing.{on_subscribe_alike, on_unsubscribe_alike}

module _ (P : Type 0) where
  release_alike : (x : ReleaseAnswer) (l : Line) (s : Session) (q : List CopyRow) (id : ℕ) → Each (AlikeDeeds P) (release_by x l s id) (release_by x l (with_queue q s) id)
  release_alike Known l s q id = same_deeds P (release_by Known l s id)
  release_alike Unknown l s q id = same_deeds P (release_by Unknown l s id)

  -- ---- a tick

  lapses_same : (now : ℕ) (s : Session) (q : List CopyRow) → Each AlikeRows s.queue q → lapses now s ≡ lapses now (with_queue q s)
  lapses_same now s q h = ap (expired now) (queue_same [] s q h)

  lapse_alike : (now : ℕ) (s : Session) (q : List CopyRow) → Each AlikeRows s.queue q → Each (AlikeDeeds P) (lapse_deeds now s) (lapse_deeds now (with_queue q s))
  lapse_alike now s q h =
      subst (λ (ts : List Turn). Each (AlikeDeeds P) (lapse_deeds now s) (flat_map (leave_deeds (with_queue q s)) ts)) (lapses_same now s q h)
      (flat_alike P (leave_deeds s) (leave_deeds (with_queue q s)) (leave_alike P s q h) (lapses now s))

  -- a test of sessions that doesn't look at the queue
  rest_same : (test : Session → Bool) → ((s : Session) (q : List CopyRow) → Each AlikeRows s.queue q → test s ≡ test (with_queue q s)) → (s t : Session) → AlikeSessions s t → test s ≡ test t
  rest_same test k s t h = by_queue (λ (x : Session). test s ≡ test x) s (k s) t h

  -- those that stand connected are the same ones
  connected_alike : (ss ts : List Session) → Each AlikeSessions ss ts → Each AlikeSessions (filter is_connected ss) (filter is_connected ts)
  connected_alike [] [] h = tt
  connected_alike [] (t ∷ ts) h = absurd h
  connected_alike (s ∷ ss) [] h = absurd h
  connected_alike (s ∷ ss) (t ∷ ts) h =
      let same : is_connected s ≡ is_connected t = rest_same is_connected (λ x q k. refl) s t h.0 in
      elim (cases_Bool (is_connected s)) [
        | inl on ↦ rw on (rw (sym same ∙ on) (h.0, connected_alike ss ts h.1))
        | inr off ↦ rw off (rw (sym same ∙ off) (connected_alike ss ts h.1))
      ]

  first_alike : (os ps : List (Option Act)) → Each (Both (AlikeActs P)) os ps → Both (AlikeActs P) (first_due os) (first_due ps)
  first_alike [] [] h = tt
  first_alike [] (p ∷ ps) h = absurd h
  first_alike (o ∷ os) [] h = absurd h
  first_alike (None ∷ os) (None ∷ ps) h = first_alike os ps h.1
  first_alike (None ∷ os) (Some g ∷ ps) h = absurd h.0
  first_alike (Some f ∷ os) (None ∷ ps) h = absurd h.0
  first_alike (Some f ∷ os) (Some g ∷ ps) h = h.0

  on_tick_alike : (o p : Option Act) → Both (AlikeActs P) o p → AlikeActs P (on_tick o) (on_tick p)
  on_tick_alike None None h = record { does = λ b ss k. tt }
  on_tick_alike None (Some g) h = absurd h
  on_tick_alike (Some f) None h = absurd h
  on_tick_alike (Some f) (Some g) h = record { does = h.does }

  forgets_alike : (o : Option RetainedMessage) → Both (AlikeActs P) (option_map (λ k. always (Forget k.place ∷ [])) o) (option_map (λ k. always (Forget k.place ∷ [])) o)
  forgets_alike None = tt
  forgets_alike (Some k) = always_same P (Forget k.place ∷ [])

  on_pump_alike : P → (l : Line) (o : Option ℕ) → AlikeActs P (on_pump l o) (on_pump l o)
  on_pump_alike p l None = record { does = λ b ss h. tt }
  on_pump_alike p l (Some birth) = record {
    does = λ b ss h. (of_session_alike P (λ s. always (pump_deeds l b s)) (λ s. always (pump_deeds l b s)) (λ s q k. always_alike P (pump_alike P p l b s q k)) birth).does b ss h;
  }

  -- a pump may send what copies say
  abbrev pub MayCall : Call → Type 0
  MayCall NewLine = ⊤
  MayCall (Input n packet) = ⊤
  MayCall (BadInput n is_connect code) = ⊤
  MayCall (Lost n) = ⊤
  MayCall (Pump n) = P
  MayCall Tick = ⊤

  module _ (env : Env) (old : List Session) where
    silence_alike : (o : Option ℕ) (l : Line) → AlikeActs P (silence env o l) (silence (beside env old) o l)
    silence_alike None l = record { does = (close_alike P env old true l).does }
    silence_alike (Some birth) l = record { does = (drop_alike P env old keep_alive_timeout l).does }

    silences_alike : (o : Option Line) → Both (AlikeActs P) (option_map (λ l. silence env l.session l) o) (option_map (λ l. silence (beside env old) l.session l) o)
    silences_alike None = tt
    silences_alike (Some l) = silence_alike l.session l

    -- what is due for the first session that passes a test
    session_due : (test : Session → Bool) → ((s : Session) (q : List CopyRow) → Each AlikeRows s.queue q → test s ≡ test (with_queue q s)) → (f g : Session → Act)
        → ((s : Session) (q : List CopyRow) → Each AlikeRows s.queue q → AlikeActs P (f s) (g (with_queue q s))) → (ss ts : List Session) → Each AlikeSessions ss ts
        → Both (AlikeActs P) (option_map f (find test ss)) (option_map g (find test ts))
    session_due test same f g k ss ts h = both_map AlikeSessions (AlikeActs P) f g (on_session P f g k) (find test ss) (find test ts) (both_found AlikeSessions test test (rest_same test same) ss ts h)

    due_alike : (b : Broker) (ss : List Session) → Each AlikeSessions b.records.sessions ss → Both (AlikeActs P) (due env b) (due (beside env old) (like ss b))
    due_alike b ss h = first_alike
        (option_map (λ l. silence env l.session l) (find (λ l. is_silent b.now l.session l) b.lines)
        ∷ option_map (publish_will env) (find (has_due_will b.now) b.records.sessions)
        ∷ option_map (λ s. always (end_session s)) (find (has_due_end b.now) b.records.sessions)
        ∷ option_map (λ k. always (Forget k.place ∷ [])) (find (is_stale b.now) b.records.retained)
        ∷ option_map (λ s. always (lapse_deeds b.now s)) (find (has_lapsed b.now) b.records.sessions)
        ∷ [])
        (option_map (λ l. silence (beside env old) l.session l) (find (λ l. is_silent b.now l.session l) b.lines)
        ∷ option_map (publish_will (beside env old)) (find (has_due_will b.now) ss)
        ∷ option_map (λ s. always (end_session s)) (find (has_due_end b.now) ss)
        ∷ option_map (λ k. always (Forget k.place ∷ [])) (find (is_stale b.now) b.records.retained)
        ∷ option_map (λ s. always (lapse_deeds b.now s)) (find (has_lapsed b.now) ss)
        ∷ []) (
          silences_alike (find (λ l. is_silent b.now l.session l) b.lines),
          (
            session_due (has_due_will b.now) (λ s q i. refl) (publish_will env) (publish_will (beside env old)) (λ s q i. publish_will_alike P env old s q) b.records.sessions ss h,
            (
              session_due (has_due_end b.now) (λ s q i. refl) (λ s. always (end_session s)) (λ s. always (end_session s)) (λ s q i. always_alike P (end_alike P s q i)) b.records.sessions ss h,
              (
                forgets_alike (find (is_stale b.now) b.records.retained),
                (
                  session_due (has_lapsed b.now) (λ s q i. ap are_some (lapses_same b.now s q i)) (λ s. always (lapse_deeds b.now s)) (λ s. always (lapse_deeds b.now s)) (λ s q i. always_alike P (lapse_alike b.now s q i)) b.records.sessions ss h,
                  tt,
                ),
              ),
            ),
          ),
        )

    -- ---- packets

    first_packet_alike : (l : Line) (packet : Packet) → AlikeActs P (first_packet env l packet) (first_packet (beside env old) l packet)
    first_packet_alike l (packets.Connect c) = record { does = (on_connect_alike P env old l c).does }
    first_packet_alike l packet = record { does = (close_alike P env old true l).does }

    next_packet_alike : (l : Line) (packet : Packet) (s : Session) (q : List CopyRow) → Each AlikeRows s.queue q → AlikeActs P (next_packet env l packet s) (next_packet (beside env old) l packet (with_queue q s))
    next_packet_alike l (packets.Publish p) s q h = record { does = (on_publish_alike P env old l s q h p).does }
    next_packet_alike l (packets.Puback a) s q h = record { does = (on_puback_alike P env old l s q h a.identifier a.reason.0).does }
    next_packet_alike l (packets.Pubrec a) s q h = record { does = (on_pubrec_alike P env old l s q h a.identifier a.reason.0).does }
    next_packet_alike l (packets.Pubrel a) s q h = record { does = λ b ss k. release_alike (answer_to_release a.identifier s.inbound) l s q a.identifier }
    next_packet_alike l (packets.Pubcomp a) s q h = record { does = (on_pubcomp_alike P env old l s q h a.identifier).does }
    next_packet_alike l (packets.Subscribe p) s q h = record { does = (on_subscribe_alike P env old l.number s q p).does }
    next_packet_alike l (packets.Unsubscribe p) s q h = record { does = (on_unsubscribe_alike P l.number s q p).does }
    next_packet_alike l packets.Pingreq s q h = record { does = λ b ss k. same_deeds P (Send l.number packets.Pingresp ∷ []) }
    next_packet_alike l (packets.Disconnect n) s q h = record { does = (on_disconnect_alike P env old l s q h n.reason.0 (number_at SessionExpiryInterval n.properties)).does }
    next_packet_alike l packet s q h = record { does = (drop_alike P env old protocol_error l).does }

    on_packet_alike : (l : Line) (packet : Packet) (o : Option ℕ) → AlikeActs P (on_packet env l packet o) (on_packet (beside env old) l packet o)
    on_packet_alike l packet None = record { does = (first_packet_alike l packet).does }
    on_packet_alike l packet (Some birth) = record { does = (of_session_alike P (next_packet env l packet) (next_packet (beside env old) l packet) (next_packet_alike l packet) birth).does }

    on_fault_alike : (l : Line) (is_connect : Bool) (code : ℕ) (o : Option ℕ) → AlikeActs P (on_fault env l is_connect code o) (on_fault (beside env old) l is_connect code o)
    on_fault_alike l true code None = record { does = (two_alike P (always_same P (Send l.number (connack false code []) ∷ [])) (close_alike P env old true l)).does }
    on_fault_alike l false code None = record { does = (close_alike P env old true l).does }
    on_fault_alike l true code (Some birth) = record { does = (drop_alike P env old (late_code code) l).does }
    on_fault_alike l false code (Some birth) = record { does = (drop_alike P env old (late_code code) l).does }

    -- ---- calls

    -- a call does alike, if it may send what copies say
    pub call_alike : (call : Call) → MayCall call → AlikeActs P (deeds_of env call) (deeds_of (beside env old) call)
    call_alike NewLine m = record { does = λ b ss h. same_deeds P (deeds_of env NewLine b) }
    call_alike (Input n packet) m = record {
      does = λ b ss h. (with_line_alike P (line_at n b) (λ l. series (always (On n Hear ∷ []) ∷ on_packet env l packet l.session ∷ [])) (λ l. series (always (On n Hear ∷ []) ∷ on_packet (beside env old) l packet l.session ∷ []))
          (λ l. two_alike P (always_same P (On n Hear ∷ [])) (on_packet_alike l packet l.session))).does b ss h;
    }
    call_alike (BadInput n is_connect code) m = record {
      does = λ b ss h. (with_line_alike P (line_at n b) (λ l. on_fault env l is_connect code l.session) (λ l. on_fault (beside env old) l is_connect code l.session)
          (λ l. on_fault_alike l is_connect code l.session)).does b ss h;
    }
    call_alike (Lost n) m = record { does = λ b ss h. (with_line_alike P (line_at n b) (close env true) (close (beside env old) true) (close_alike P env old true)).does b ss h }
    call_alike (Pump n) m = record { does = λ b ss h. (with_line_alike P (line_at n b) (λ l. on_pump l l.session) (λ l. on_pump l l.session) (λ l. on_pump_alike m l l.session)).does b ss h }
    call_alike Tick m = record { does = λ b ss h. (on_tick_alike (due env b) (due (beside env old) (like ss b)) (due_alike b ss h)).does b ss h }

    -- ---- an opening

    shut_alike : (s : Session) (q : List CopyRow) → AlikeActs P (shuts s) (shuts (with_queue q s))
    shut_alike s q = record { does = λ b ss h. (always_same P (At (whose s) (Close b.now) ∷ [])).does b ss h }

    shuts_alike : (ss ts : List Session) → Each AlikeSessions ss ts → Each (AlikeActs P) (map shuts ss) (map shuts ts)
    shuts_alike [] [] h = tt
    shuts_alike [] (t ∷ ts) h = absurd h
    shuts_alike (s ∷ ss) [] h = absurd h
    shuts_alike (s ∷ ss) (t ∷ ts) h = (on_session P shuts shuts (λ x q k. shut_alike x q) s t h.0, shuts_alike ss ts h.1)

    settles_alike : (ss ts : List Session) → Each AlikeSessions ss ts → Each (AlikeActs P) (map (settles env) ss) (map (settles (beside env old)) ts)
    settles_alike [] [] h = tt
    settles_alike [] (t ∷ ts) h = absurd h
    settles_alike (s ∷ ss) [] h = absurd h
    settles_alike (s ∷ ss) (t ∷ ts) h = (on_session P (settles env) (settles (beside env old)) (λ x q k. settle_alike P env old x.birth) s t h.0, settles_alike ss ts h.1)

    -- an opening does alike
    pub opening_alike : AlikeActs P (opening env) (opening (beside env old))
    opening_alike = record {
      does = λ b ss h.
          let mine = filter is_connected b.records.sessions in
          let theirs = filter is_connected ss in
          let each = connected_alike b.records.sessions ss h in
          (two_alike P (series_alike P (map shuts mine) (map shuts theirs) (shuts_alike mine theirs each))
          (series_alike P (map (settles env) mine) (map (settles (beside env old)) theirs) (settles_alike mine theirs each))).does b ss h;
    }
