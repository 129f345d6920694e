-- What acts make of a step is what packets do: PUBLISH, a receiver's answers, and those that drop their line.
use Rattle.std.proofs.Common.{◌≡◌, ◌≢◌, ℕ, true, refl, ap, sym, subst, ◌∙◌}
use Rattle.std.specs.Prelude.{Option, Some}
use Rattle.mqtt_base.specs.Codes.{protocol_error, receive_maximum_exceeded}
use Rattle.mqtt_packet.specs.declared.codec.ack.Ack.{Ack}
use Rattle.mqtt_packet.specs.declared.codec.notice.Notice.{Notice}
use Rattle.mqtt_packet.specs.declared.codec.packet.Packet.{Packet}
use Rattle.mqtt_packet.specs.declared.codec.packet.Packet.TheVariants.{Connect, Connack, Publish, Puback, Pubrec, Pubrel, Pubcomp, Subscribe, Suback, Unsubscribe, Unsuback, Pingreq, Pingresp, Disconnect, Auth}
use Rattle.mqtt_packet.specs.declared.codec.publish.Publish.{Publish as Publication}
use Rattle.mqtt_packet.specs.declared.subscribe.subscribe.Subscribe.{Subscribe as Asking}
use Rattle.mqtt_packet.specs.declared.subscribe.unsubscribe.Unsubscribe.{Unsubscribe as Giving}
use Rattle.mqtt_props.specs.declared.table.PropName.TheVariants.{SessionExpiryInterval}
use Rattle.mqtt_records.specs.declared.state.session.Session.{Session}
use Rattle.mqtt_rules.specs.step.Closing.{drop_line}
use Rattle.mqtt_rules.specs.step.Deeds.{Act}
use Rattle.mqtt_rules.specs.step.Inbound.{on_publish}
use Rattle.mqtt_records.specs.messages.PassedOn.{number_at}
use Rattle.mqtt_rules.specs.step.State.{Broker, Env, Line}
use Rattle.mqtt_rules.specs.step.Step.{next_packet, on_packet}
use Rattle.mqtt_broker_step.specs.declared.fault.StepFault.{StepFault}
use Rattle.mqtt_broker_step.specs.Stepping.{Stepping, Did, IsLeft, env_in}
use Rattle.mqtt_broker_queue.specs.publications.Choosing.{DoesSome, LeavesSome}
use Rattle.mqtt_broker_queue.proofs.publications_lemmas.Some.{does_some, leaves_some, same_some, same_some_left}
use Rattle.mqtt_broker_acts.specs.closing.Settling.{disconnects}
use Rattle.mqtt_broker_queue.specs.publications.Publishing.{IsOver, IsWrong}
use Rattle.mqtt_broker_queue.proofs.publications_lemmas.Aliased.{stored_stays}
use Rattle.mqtt_broker_queue.proofs.publications_lemmas.Dropped.{over_dropped, over_left, wrong_dropped, wrong_left}
use Rattle.mqtt_broker_queue.specs.queues.Answering.{Came}
use Rattle.mqtt_broker_queue.specs.declared.queues.answering.Answered.TheVariants.{Taken, Wrong}
use Rattle.mqtt_broker_acts.specs.calls.Inputs.{is_stray, takes}
use Rattle.mqtt_broker_acts.proofs.calls_lemmas.OnLine.{OnLine, left_next, left_takes, some_next, some_takes}

module _ (line birth : ℕ) (s : Stepping) (h : OnLine line birth s.broker) where
  -- ---- PUBLISH

  -- a PUBLISH that was done on the session's line is what its packet does there
  pub published : (p : Publication) (new : Stepping) → DoesSome (λ env. on_publish env h.l h.x p) s new → DoesSome (takes line (Publish p)) s new
  published p new done = some_next line birth (Publish p) s new h done

  -- a PUBLISH that was refused on the session's line is its packet refused there
  pub publish_left : (p : Publication) (fault : StepFault) (new : Stepping) → LeavesSome (λ env. on_publish env h.l h.x p) fault s new → LeavesSome (takes line (Publish p)) fault s new
  publish_left p fault new left = left_next line birth (Publish p) fault s new h left

  -- a PUBLISH that means no topic is done once its line is dropped with the code for that
  pub wrong_publish : (p : Publication) (code : ℕ) (s1 new : Stepping) → IsWrong code h.l p s s1 → DoesSome (λ env. drop_line env code h.l) s1 new → DoesSome (takes line (Publish p)) s new
  wrong_publish p code s1 new wrong done = published p new (wrong_dropped h.l h.x p code s s1 new wrong done)

  -- a PUBLISH that means no topic is refused if dropping its line is
  pub wrong_publish_left : (p : Publication) (code : ℕ) (fault : StepFault) (s1 new : Stepping) → IsWrong code h.l p s s1 → LeavesSome (λ env. drop_line env code h.l) fault s1 new
      → LeavesSome (takes line (Publish p)) fault s new
  wrong_publish_left p code fault s1 new wrong left = publish_left p fault new (wrong_left h.l h.x p code fault s s1 new wrong left)

  -- a PUBLISH above the Receive Maximum is done once its line is dropped with the code for that
  pub over_publish : (p : Publication) (s1 new : Stepping) → IsOver h.l h.x p s s1 → DoesSome (λ env. drop_line env receive_maximum_exceeded h.l) s1 new → DoesSome (takes line (Publish p)) s new
  over_publish p s1 new over done = published p new (over_dropped h.l h.x p s s1 new over done)

  -- a PUBLISH above the Receive Maximum is refused if dropping its line is
  pub over_publish_left : (p : Publication) (fault : StepFault) (s1 new : Stepping) → IsOver h.l h.x p s s1 → LeavesSome (λ env. drop_line env receive_maximum_exceeded h.l) fault s1 new
      → LeavesSome (takes line (Publish p)) fault s new
  over_publish_left p fault s1 new over left = publish_left p fault new (over_left h.l h.x p fault s s1 new over left)

  -- what is stored stays until the line is dropped
  pub wrong_stays : (p : Publication) (code : ℕ) (s1 : Stepping) → IsWrong code h.l p s s1 → s1.broker.records ≡ s.broker.records
  wrong_stays p code s1 wrong = ap (λ (t : Stepping). t.broker.records) wrong.same

  -- what is stored stays until the line of a PUBLISH above the Receive Maximum is dropped
  pub over_stays : (p : Publication) (s1 : Stepping) → IsOver h.l h.x p s s1 → s1.broker.records ≡ s.broker.records
  over_stays p s1 over = stored_stays h.l.number p over.topic s s1 over.did

  -- ---- an act by the line, in which nothing is chosen

  -- an act that does what a packet asks for is that packet's, if it is done
  pub did_packet : (packet : Packet) (act : Env → Line → Act) (new : Stepping) → ((env : Env) → act env h.l s.broker ≡ on_packet env h.l packet (Some birth) s.broker)
      → ((env : Env) → Did (act env h.l) s new) → DoesSome (takes line packet) s new
  did_packet packet act new same did =
      some_takes line birth packet s new h
      (same_some (λ env. act env h.l) (λ env. on_packet env h.l packet (Some birth)) s new (λ choice. same (env_in choice s))
      (does_some (λ env. act env h.l) s new (λ choice. did (env_in choice s))))

  -- an act that does what a packet asks for is that packet's, if it is refused
  pub left_packet : (packet : Packet) (act : Env → Line → Act) (fault : StepFault) (new : Stepping) → ((env : Env) → act env h.l s.broker ≡ on_packet env h.l packet (Some birth) s.broker)
      → ((env : Env) → IsLeft (act env h.l) fault s new) → LeavesSome (takes line packet) fault s new
  left_packet packet act fault new same left =
      left_takes line birth packet fault s new h
      (same_some_left (λ env. act env h.l) (λ env. on_packet env h.l packet (Some birth)) fault s new (λ choice. same (env_in choice s))
      (leaves_some (λ env. act env h.l) fault s new (λ choice. left (env_in choice s))))

  -- ---- a receiver's answers

  -- a receiver's answer that was taken is its packet done
  pub came_taken : (packet : Packet) (act : Env → Line → Act) (new : Stepping) → ((env : Env) → act env h.l s.broker ≡ on_packet env h.l packet (Some birth) s.broker)
      → Came act line Taken s new → DoesSome (takes line packet) s new
  came_taken packet act new same came = did_packet packet act new same (λ env. came env h.l h.number)

  came_is : (packet : Packet) (act : Env → Line → Act) (s1 : Stepping) → ((env : Env) → act env h.l s.broker ≡ on_packet env h.l packet (Some birth) s.broker)
      → Came act line Wrong s s1 → (env : Env) → drop_line env protocol_error h.l s.broker ≡ on_packet env h.l packet (Some birth) s.broker
  came_is packet act s1 same came env = sym (came.1 env h.l h.number) ∙ same env

  -- a receiver's answer in a wrong phase is done once its line is dropped
  pub came_wrong : (packet : Packet) (act : Env → Line → Act) (s1 new : Stepping) → ((env : Env) → act env h.l s.broker ≡ on_packet env h.l packet (Some birth) s.broker)
      → Came act line Wrong s s1 → DoesSome (λ env. drop_line env protocol_error h.l) s1 new → DoesSome (takes line packet) s new
  came_wrong packet act s1 new same came done =
      some_takes line birth packet s new h
      (same_some (λ env. drop_line env protocol_error h.l) (λ env. on_packet env h.l packet (Some birth)) s new
      (λ choice. came_is packet act s1 same came (env_in choice s))
      (subst (λ (t : Stepping). DoesSome (λ env. drop_line env protocol_error h.l) t new) came.0 done))

  -- a receiver's answer in a wrong phase is refused if dropping its line is
  pub came_wrong_left : (packet : Packet) (act : Env → Line → Act) (fault : StepFault) (s1 new : Stepping) → ((env : Env) → act env h.l s.broker ≡ on_packet env h.l packet (Some birth) s.broker)
      → Came act line Wrong s s1 → LeavesSome (λ env. drop_line env protocol_error h.l) fault s1 new → LeavesSome (takes line packet) fault s new
  came_wrong_left packet act fault s1 new same came left =
      left_takes line birth packet fault s new h
      (same_some_left (λ env. drop_line env protocol_error h.l) (λ env. on_packet env h.l packet (Some birth)) fault s new
      (λ choice. came_is packet act s1 same came (env_in choice s))
      (subst (λ (t : Stepping). LeavesSome (λ env. drop_line env protocol_error h.l) fault t new) came.0 left))

  -- ---- DISCONNECT

  -- a DISCONNECT that was done on the session's line is its packet done
  pub disconnected : (n : Notice) (expiry : Option ℕ) (new : Stepping) → expiry ≡ number_at SessionExpiryInterval n.properties → DoesSome (disconnects birth h.l n.reason.0 expiry) s new
      → DoesSome (takes line (Disconnect n)) s new
  disconnected n expiry new is done =
      some_takes line birth (Disconnect n) s new h (subst (λ (o : Option ℕ). DoesSome (disconnects birth h.l n.reason.0 o) s new) is done)

  -- a DISCONNECT that was refused is its packet refused
  pub disconnect_left : (n : Notice) (expiry : Option ℕ) (fault : StepFault) (new : Stepping) → expiry ≡ number_at SessionExpiryInterval n.properties
      → LeavesSome (disconnects birth h.l n.reason.0 expiry) fault s new → LeavesSome (takes line (Disconnect n)) fault s new
  disconnect_left n expiry fault new is left =
      left_takes line birth (Disconnect n) fault s new h (subst (λ (o : Option ℕ). LeavesSome (disconnects birth h.l n.reason.0 o) fault s new) is left)

  -- ---- packets that drop their line

  stray_is : (packet : Packet) (env : Env) (l : Line) (x : Session) (b : Broker) → is_stray packet ≡ true → drop_line env protocol_error l b ≡ next_packet env l packet x b
  stray_is (Connect c) env l x b e = refl
  stray_is (Connack c) env l x b e = refl
  stray_is (Publish p) env l x b e = absurd cc
  stray_is (Puback a) env l x b e = absurd cc
  stray_is (Pubrec a) env l x b e = absurd cc
  stray_is (Pubrel a) env l x b e = absurd cc
  stray_is (Pubcomp a) env l x b e = absurd cc
  stray_is (Subscribe p) env l x b e = absurd cc
  stray_is (Suback c) env l x b e = refl
  stray_is (Unsubscribe p) env l x b e = absurd cc
  stray_is (Unsuback c) env l x b e = refl
  stray_is Pingreq env l x b e = absurd cc
  stray_is Pingresp env l x b e = refl
  stray_is (Disconnect n) env l x b e = absurd cc
  stray_is (Auth c) env l x b e = refl

  -- a packet that a connected client may not send is done once its line is dropped
  pub strayed : (packet : Packet) (new : Stepping) → is_stray packet ≡ true → DoesSome (λ env. drop_line env protocol_error h.l) s new → DoesSome (takes line packet) s new
  strayed packet new stray done =
      some_next line birth packet s new h
      (same_some (λ env. drop_line env protocol_error h.l) (λ env. next_packet env h.l packet h.x) s new
      (λ choice. stray_is packet (env_in choice s) h.l h.x s.broker stray) done)

  -- a packet that a connected client may not send is refused if dropping its line is
  pub stray_left : (packet : Packet) (fault : StepFault) (new : Stepping) → is_stray packet ≡ true → LeavesSome (λ env. drop_line env protocol_error h.l) fault s new → LeavesSome (takes line packet) fault s new
  stray_left packet fault new stray left =
      left_next line birth packet fault s new h
      (same_some_left (λ env. drop_line env protocol_error h.l) (λ env. next_packet env h.l packet h.x) fault s new
      (λ choice. stray_is packet (env_in choice s) h.l h.x s.broker stray) left)

-- a packet that is none of those that a connected client may send
pub other_stray : (packet : Packet) → ((p : Publication) → packet ≢ Publish p) → ((a : Ack) → packet ≢ Puback a) → ((a : Ack) → packet ≢ Pubrec a) → ((a : Ack) → packet ≢ Pubrel a)
    → ((a : Ack) → packet ≢ Pubcomp a) → ((p : Asking) → packet ≢ Subscribe p) → ((p : Giving) → packet ≢ Unsubscribe p)
    → packet ≢ Pingreq → ((n : Notice) → packet ≢ Disconnect n) → is_stray packet ≡ true
other_stray (Connect c) n1 n2 n3 n4 n5 n6 n7 n8 n9 = refl
other_stray (Connack c) n1 n2 n3 n4 n5 n6 n7 n8 n9 = refl
other_stray (Publish p) n1 n2 n3 n4 n5 n6 n7 n8 n9 = absurd (n1 p refl)
other_stray (Puback a) n1 n2 n3 n4 n5 n6 n7 n8 n9 = absurd (n2 a refl)
other_stray (Pubrec a) n1 n2 n3 n4 n5 n6 n7 n8 n9 = absurd (n3 a refl)
other_stray (Pubrel a) n1 n2 n3 n4 n5 n6 n7 n8 n9 = absurd (n4 a refl)
other_stray (Pubcomp a) n1 n2 n3 n4 n5 n6 n7 n8 n9 = absurd (n5 a refl)
other_stray (Subscribe p) n1 n2 n3 n4 n5 n6 n7 n8 n9 = absurd (n6 p refl)
other_stray (Suback c) n1 n2 n3 n4 n5 n6 n7 n8 n9 = refl
other_stray (Unsubscribe p) n1 n2 n3 n4 n5 n6 n7 n8 n9 = absurd (n7 p refl)
other_stray (Unsuback c) n1 n2 n3 n4 n5 n6 n7 n8 n9 = refl
other_stray Pingreq n1 n2 n3 n4 n5 n6 n7 n8 n9 = absurd (n8 refl)
other_stray Pingresp n1 n2 n3 n4 n5 n6 n7 n8 n9 = refl
other_stray (Disconnect n) n1 n2 n3 n4 n5 n6 n7 n8 n9 = absurd (n9 n refl)
other_stray (Auth n) n1 n2 n3 n4 n5 n6 n7 n8 n9 = refl
