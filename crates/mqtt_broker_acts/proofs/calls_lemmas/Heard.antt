-- A packet comes on a line: the line is heard, and the packet does the same as on the line as it was.
use Rattle.std.proofs.Common.{◌≡◌, ℕ, Bool, true, false, List, [], ◌∷◌, ◌++◌, refl, ap, sym, ◌∙◌, append-nil}
use Rattle.std.specs.Prelude.{Option, Some, None, Ok, Err}
use Rattle.mqtt_packet.specs.declared.codec.packet.Packet.{Packet}
use Rattle.mqtt_packet.specs.declared.codec.packet.Packet.TheVariants.{Connect, Connack, Publish, Puback, Pubrec, Pubrel, Pubcomp, Subscribe, Suback, Unsubscribe, Unsuback, Pingreq, Pingresp, Disconnect, Auth}
use Rattle.mqtt_packet.specs.declared.codec.publish.Publish.{Publish as Publication}
use Rattle.mqtt_flow.specs.declared.inbound.inflow.Published.{Published}
use Rattle.mqtt_flow.specs.declared.inbound.inflow.Published.TheVariants.{New, Again, Over}
use Rattle.mqtt_flow.specs.declared.inbound.inflow.ReleaseAnswer.{ReleaseAnswer}
use Rattle.mqtt_flow.specs.declared.inbound.inflow.ReleaseAnswer.TheVariants.{Known, Unknown}
use Rattle.mqtt_flow.specs.inbound.Inbound.{answer_to_release}
use Rattle.mqtt_flow.specs.outbound.Outbound.{Answer, puback, pubcomp, pubrec}
use Rattle.mqtt_props.specs.declared.table.PropName.TheVariants.{SessionExpiryInterval, TopicAlias}
use Rattle.mqtt_records.specs.declared.state.session.Session.{Session}
use Rattle.mqtt_topic.specs.names.Names.{is_empty}
use Rattle.mqtt_rules.specs.step.Deeds.{Act, Hear, Message, On, after_all, always, series, with_line, with_session}
use Rattle.mqtt_rules.specs.step.Inbound.{Meaning, Means, Wrong, is_late_expiry, leave_by, meaning, message_of, on_answer, publish_by, publish_meant, publish_new, release_by, sets_alias, standing}
use Rattle.mqtt_records.specs.messages.PassedOn.{number_at}
use Rattle.mqtt_rules.specs.step.Routing.{CopyTo, accepted_copies}
use Rattle.mqtt_rules.specs.step.State.{Broker, Env, Line, queue_on, session_at}
use Rattle.mqtt_rules.specs.step.Step.{Input, deeds_of, next_packet, on_packet}
use Rattle.mqtt_broker_step.specs.declared.fault.StepFault.{StepFault}
use Rattle.mqtt_broker_step.specs.Stepping.{Stepping, Did, IsLeft, env_in}
use Rattle.mqtt_broker_queue.specs.publications.Choosing.{DoesSome, LeavesSome}
use Rattle.mqtt_broker_queue.proofs.publications_lemmas.Some.{both, leaves_first, leaves_some, same_some, same_some_left, then_some, then_some_left}
use Rattle.mqtt_broker_acts.specs.calls.Inputs.{takes}
use Rattle.mqtt_broker_acts.proofs.calls_lemmas.Clients.{heard_broker, line_heard}
use Rattle.mqtt_broker_acts.proofs.calls_lemmas.OnLine.{OnLine}

-- ---- when a line was heard makes no difference to a packet

abbrev at : ℕ → Line → Line
at moment l = record l { heard = moment }

new_alike : (o : Option (List CopyTo)) (env : Env) (l : Line) (n : ℕ) (s : Session) (p : Publication) (m : Message) (b : Broker) → publish_new env (at n l) s p m o b ≡ publish_new env l s p m o b
new_alike None env l n s p m b = refl
new_alike (Some ds) env l n s p m b = refl

by_alike : (w : Published) (env : Env) (l : Line) (n : ℕ) (s : Session) (p : Publication) (m : Message) (b : Broker) → publish_by w env (at n l) s p m b ≡ publish_by w env l s p m b
by_alike Again env l n s p m b = refl
by_alike Over env l n s p m b = refl
by_alike New env l n s p m b = new_alike (accepted_copies env m b) env l n s p m b

meant_alike : (m : Meaning) (env : Env) (l : Line) (n : ℕ) (s : Session) (p : Publication) (b : Broker) → publish_meant m env (at n l) s p b ≡ publish_meant m env l s p b
meant_alike (Wrong code) env l n s p b = refl
meant_alike (Means topic) env l n s p b =
    let set = sets_alias (is_empty p.topic) (number_at TopicAlias p.properties) l.number topic in
    ap (λ ds. set ++ (ds ++ [])) (by_alike (standing p.delivery s.inbound) env l n s p (message_of s.client topic p) (after_all set b))

answer_alike : (asked : Answer) (env : Env) (l : Line) (n : ℕ) (s : Session) (b : Broker) → on_answer asked env (at n l) s b ≡ on_answer asked env l s b
answer_alike (Ok None) env l n s b = refl
answer_alike (Ok (Some t)) env l n s b = refl
answer_alike (Err fault) env l n s b = refl

leave_alike : (late : Bool) (env : Env) (l : Line) (n : ℕ) (s : Session) (code : ℕ) (expiry : Option ℕ) (b : Broker) → leave_by late env (at n l) s code expiry b ≡ leave_by late env l s code expiry b
leave_alike true env l n s code expiry b = refl
leave_alike false env l n s code expiry b = refl

release_alike : (answer : ReleaseAnswer) (l : Line) (n : ℕ) (s : Session) (id : ℕ) → release_by answer (at n l) s id ≡ release_by answer l s id
release_alike Known l n s id = refl
release_alike Unknown l n s id = refl

next_alike : (packet : Packet) (env : Env) (l : Line) (n : ℕ) (s : Session) (b : Broker) → next_packet env (at n l) packet s b ≡ next_packet env l packet s b
next_alike (Publish p) env l n s b = meant_alike (meaning p l.aliases) env l n s p b
next_alike (Puback a) env l n s b = answer_alike (puback a.identifier a.reason.0 (queue_on l.went s)) env l n s b
next_alike (Pubrec a) env l n s b = answer_alike (pubrec a.identifier a.reason.0 (queue_on l.went s)) env l n s b
next_alike (Pubrel a) env l n s b = release_alike (answer_to_release a.identifier s.inbound) l n s a.identifier
next_alike (Pubcomp a) env l n s b = answer_alike (pubcomp a.identifier (queue_on l.went s)) env l n s b
next_alike (Subscribe p) env l n s b = refl
next_alike (Unsubscribe p) env l n s b = refl
next_alike Pingreq env l n s b = refl
next_alike (Disconnect d) env l n s b = leave_alike (is_late_expiry (number_at SessionExpiryInterval d.properties) s.expiry) env l n s d.reason.0 (number_at SessionExpiryInterval d.properties) b
next_alike (Connect c) env l n s b = refl
next_alike (Connack c) env l n s b = refl
next_alike (Suback c) env l n s b = refl
next_alike (Unsuback c) env l n s b = refl
next_alike Pingresp env l n s b = refl
next_alike (Auth c) env l n s b = refl

session_alike : (o : Option Session) (packet : Packet) (env : Env) (l : Line) (n : ℕ) (b : Broker) → with_session o (next_packet env (at n l) packet) b ≡ with_session o (next_packet env l packet) b
session_alike None packet env l n b = refl
session_alike (Some s) packet env l n b = next_alike packet env l n s b

packet_alike : (packet : Packet) (birth : ℕ) (env : Env) (l : Line) (n : ℕ) (b : Broker) → on_packet env (at n l) packet (Some birth) b ≡ on_packet env l packet (Some birth) b
packet_alike packet birth env l n b = session_alike (session_at birth b.records) packet env l n b

-- ---- the line is heard, and the packet does what the rules have

abbrev pub hears : ℕ → Env → Act
hears line env = always (On line Hear ∷ [])

heard_is : (line birth : ℕ) (packet : Packet) (env : Env) (b : Broker) (h : OnLine line birth b) → both (hears line) (takes line packet) env b ≡ deeds_of env (Input line packet) b
heard_is line birth packet env b h =
    let hear = On line Hear ∷ [] in
    let b1 = heard_broker line b in
    let l = h.l in
    ap (λ (o : Option Line). hear ++ with_line o (λ y. on_packet env y packet y.session) b1) (line_heard line b l h.found)
    ∙ (ap (λ o. hear ++ on_packet env (at b.now l) packet o b1) h.session
    ∙ (ap (λ ds. hear ++ ds) (packet_alike packet birth env l b.now b1)
    ∙ (ap (λ ds. hear ++ ds) (sym (append-nil (on_packet env l packet (Some birth) b1)))
    ∙ (ap (λ o. series (always hear ∷ on_packet env l packet o ∷ []) b) (sym h.session)
    ∙ ap (λ o. with_line o (λ y. series (always hear ∷ on_packet env y packet y.session ∷ [])) b) (sym h.found)))))

-- hearing a packet, and taking it: that is its call
pub some_heard : (line birth : ℕ) (packet : Packet) (s s1 s2 : Stepping) (h : OnLine line birth s.broker) → Did (always (On line Hear ∷ [])) s s1
    → DoesSome (takes line packet) s1 s2 → DoesSome (λ env. deeds_of env (Input line packet)) s s2
some_heard line birth packet s s1 s2 h heard done =
    same_some (both (hears line) (takes line packet)) (λ env. deeds_of env (Input line packet)) s s2
    (λ choice. heard_is line birth packet (env_in choice s) s.broker h)
    (then_some (hears line) (takes line packet) s s1 s2 (λ choice. heard) done)

-- or it is refused at the second
pub left_heard : (line birth : ℕ) (packet : Packet) (fault : StepFault) (s s1 s2 : Stepping) (h : OnLine line birth s.broker) → Did (always (On line Hear ∷ [])) s s1
    → LeavesSome (takes line packet) fault s1 s2 → LeavesSome (λ env. deeds_of env (Input line packet)) fault s s2
left_heard line birth packet fault s s1 s2 h heard left =
    same_some_left (both (hears line) (takes line packet)) (λ env. deeds_of env (Input line packet)) fault s s2
    (λ choice. heard_is line birth packet (env_in choice s) s.broker h)
    (then_some_left (hears line) (takes line packet) fault s s1 s2 (λ choice. heard) left)

-- or at the first
pub unheard : (line birth : ℕ) (packet : Packet) (fault : StepFault) (s s1 : Stepping) (h : OnLine line birth s.broker) → IsLeft (always (On line Hear ∷ [])) fault s s1
    → LeavesSome (λ env. deeds_of env (Input line packet)) fault s s1
unheard line birth packet fault s s1 h left =
    same_some_left (both (hears line) (takes line packet)) (λ env. deeds_of env (Input line packet)) fault s s1
    (λ choice. heard_is line birth packet (env_in choice s) s.broker h)
    (leaves_some (both (hears line) (takes line packet)) fault s s1 (leaves_first (hears line) (takes line packet) fault s s1 (λ choice. left)))
