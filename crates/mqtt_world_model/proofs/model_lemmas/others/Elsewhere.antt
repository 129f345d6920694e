-- What a session's own PUBLISH and PUBREL do on its line they leave undone on every other line, and to every other session.
use Rattle.std.proofs.Common.{◌≡◌, ℕ, Bool, true, false, List, [], ◌++◌, Option, Some, None, nat_eq, refl, sym, ap, subst, ◌∙◌, inl, inr}
use Rattle.std.specs.Prelude.{⊤}
use Rattle.mqtt_packet.specs.declared.codec.publish.Delivery.{Delivery as Handing}
use Rattle.mqtt_packet.specs.declared.codec.publish.Delivery.TheVariants as delivery
use Rattle.mqtt_packet.specs.declared.codec.publish.Publish.{Publish as Publication}
use Rattle.mqtt_packet.specs.declared.codec.packet.Packet.{Packet}
use Rattle.mqtt_packet.specs.declared.codec.packet.Packet.TheVariants.{Publish, Pubrel}
use Rattle.mqtt_topic.specs.names.Names.{is_empty}
use Rattle.mqtt_props.specs.declared.table.PropName.TheVariants.{TopicAlias}
use Rattle.mqtt_flow.specs.declared.inbound.inflow.Published.{Published}
use Rattle.mqtt_flow.specs.declared.inbound.inflow.Published.TheVariants.{New, Again, Over}
use Rattle.mqtt_flow.specs.declared.inbound.inflow.ReleaseAnswer.{ReleaseAnswer}
use Rattle.mqtt_flow.specs.declared.inbound.inflow.ReleaseAnswer.TheVariants.{Known, Unknown}
use Rattle.mqtt_base.specs.Codes.{quota_exceeded, receive_maximum_exceeded}
use Rattle.mqtt_flow.specs.inbound.Inbound.{answer_to_release}
use Rattle.mqtt_records.specs.declared.state.session.Session.{Session}
use Rattle.mqtt_records.specs.messages.PassedOn.{number_at}
use Rattle.mqtt_rules.specs.step.State.{MemberChoice, Line, Broker, Env, session_at, line_at}
use Rattle.mqtt_rules.specs.step.Deeds.{Message, FromClient, Deed, after_all}
use Rattle.mqtt_rules.specs.step.Routing.{CopyTo, accepted_copies, publish, is_wanted}
use Rattle.mqtt_rules.specs.step.Closing.{never, drop_line}
use Rattle.mqtt_rules.specs.step.Step.{Input, next_packet, env_of, deeds}
use Rattle.mqtt_rules.specs.declared.step.Capacity.{Capacity}
use Rattle.mqtt_rules.specs.step.Inbound.{Meaning, Means, Wrong, meaning, sets_alias, standing, answer, opens, code_again, code_accepted, publish_new, publish_by, message_of, publish_meant, release_by}
use Rattle.mqtt_world_model.proofs.model_lemmas.others.Quiet.{copies_of, quiet_copies}
use Rattle.mqtt_world_model.proofs.model_lemmas.others.Far.{AreFar}
use Rattle.mqtt_world_model.proofs.model_lemmas.others.FarActs.{far_quiet, far_append}
use Rattle.mqtt_world_model.proofs.model_lemmas.own.Publishes.{drop_is}
use Rattle.mqtt_world_model.proofs.model_lemmas.own.OwnStep.{heard_of, input_is}

-- the deeds are on the line l of the session s; birth and n are another session's and another line's
module _ (client : List ℕ) (birth n : ℕ) (l : Line) (s : Session) (another : nat_eq s.birth birth ≡ false) (beside : nat_eq l.number n ≡ false) where
  abbrev Far : List Deed → Type 0
  Far ds = AreFar client birth n ds

  far_published : (env : Env) (m : Message) (ds : List CopyTo) (b : Broker) → Far (publish env FromClient m ds b)
  far_published env m ds b = (inr tt, far_quiet client birth n (copies_of env FromClient m ds b) (quiet_copies birth n env FromClient m ds b))

  far_answer : (q : Handing) (code : ℕ) → Far (answer l.number q code)
  far_answer delivery.AtMostOnce code = tt
  far_answer (delivery.AtLeastOnce dup id) code = (inl (inl beside), tt)
  far_answer (delivery.ExactlyOnce dup id) code = (inl (inl beside), tt)

  far_opens : (q : Handing) → Far (opens s q)
  far_opens delivery.AtMostOnce = tt
  far_opens (delivery.AtLeastOnce dup id) = tt
  far_opens (delivery.ExactlyOnce dup id) = (inl (inl another), tt)

  far_alias : (t : Bool) (alias : Option ℕ) (topic : List ℕ) → Far (sets_alias t alias l.number topic)
  far_alias true alias topic = tt
  far_alias false None topic = tt
  far_alias false (Some m) topic = (inl tt, tt)

  far_new : (env : Env) (p : Publication) (m : Message) (ds : Option (List CopyTo)) (b : Broker) → Far (publish_new env l s p m ds b)
  far_new env p m None b = far_answer p.delivery quota_exceeded
  far_new env p m (Some ds) b =
      let code = code_accepted (is_wanted env m b.records) in
      far_append client birth n (publish env FromClient m ds b) (opens s p.delivery ++ (answer l.number p.delivery code ++ [])) (far_published env m ds b)
      (far_append client birth n (opens s p.delivery) (answer l.number p.delivery code ++ []) (far_opens p.delivery)
      (far_append client birth n (answer l.number p.delivery code) [] (far_answer p.delivery code) tt))

  -- a line that is dropped, of a session without a Will that doesn't expire
  far_drop : (env : Env) (code : ℕ) (b : Broker) → session_at s.birth b.records ≡ Some s → l.session ≡ Some s.birth → s.will ≡ None → s.expiry ≡ never → Far (drop_line env code l b)
  far_drop env code b at on no_will no_end =
      subst (AreFar client birth n) (sym (drop_is env code l s b at on no_will no_end)) (inl (inl beside), (inl beside, (inl (inl another), tt)))

  far_by : (st : Published) (env : Env) (p : Publication) (m : Message) (b : Broker) → session_at s.birth b.records ≡ Some s → l.session ≡ Some s.birth → s.will ≡ None → s.expiry ≡ never
      → Far (publish_by st env l s p m b)
  far_by Again env p m b at on w e = far_answer p.delivery (code_again p.delivery)
  far_by Over env p m b at on w e = far_drop env receive_maximum_exceeded b at on w e
  far_by New env p m b at on w e = far_new env p m (accepted_copies env m b) b

  alias_stores : (t : Bool) (alias : Option ℕ) (topic : List ℕ) (b : Broker) → (after_all (sets_alias t alias l.number topic) b).records ≡ b.records
  alias_stores true alias topic b = refl
  alias_stores false None topic b = refl
  alias_stores false (Some m) topic b = refl

  far_meant : (x : Meaning) (env : Env) (p : Publication) (b : Broker) → session_at s.birth b.records ≡ Some s → l.session ≡ Some s.birth → s.will ≡ None → s.expiry ≡ never → Far (publish_meant x env l s p b)
  far_meant (Wrong code) env p b at on w e = far_drop env code b at on w e
  far_meant (Means topic) env p b at on w e =
      let t = is_empty p.topic in
      let alias = number_at TopicAlias p.properties in
      let first = sets_alias t alias l.number topic in
      let st = standing p.delivery s.inbound in
      let m = message_of s.client topic p in
      let c = after_all first b in
      let here : session_at s.birth c.records ≡ Some s = ap (session_at s.birth) (alias_stores t alias topic b) ∙ at in
      far_append client birth n first (publish_by st env l s p m c ++ []) (far_alias t alias topic)
      (far_append client birth n (publish_by st env l s p m c) [] (far_by st env p m c here on w e) tt)

  far_release : (x : ReleaseAnswer) (id : ℕ) → Far (release_by x l s id)
  far_release Known id = (inl (inl another), (inl (inl beside), tt))
  far_release Unknown id = (inl (inl beside), tt)

  abbrev pub IsOwnPacket : Packet → Type 0
  IsOwnPacket (Publish p) = ⊤
  IsOwnPacket (Pubrel a) = ⊤
  IsOwnPacket packet = ⊥

  far_next : (env : Env) (packet : Packet) (b : Broker) → IsOwnPacket packet → session_at s.birth b.records ≡ Some s → l.session ≡ Some s.birth → s.will ≡ None → s.expiry ≡ never
      → Far (next_packet env l packet s b)
  far_next env (Publish p) b q at on w e = far_meant (meaning p l.aliases) env p b at on w e
  far_next env (Pubrel a) b q at on w e = far_release (answer_to_release a.identifier s.inbound) a.identifier
  far_next env packet b q at on w e = absurd q

  -- a session's own PUBLISH and PUBREL are far from every other session and line
  pub far_elsewhere : (limits : Capacity) (choice : MemberChoice) (now : ℕ) (packet : Packet) (b : Broker) → IsOwnPacket packet
      → line_at l.number b ≡ Some l → l.session ≡ Some s.birth → session_at s.birth b.records ≡ Some s → s.will ≡ None → s.expiry ≡ never
      → Far (deeds limits choice now (Input l.number packet) b)
  far_elsewhere limits choice now packet b q line on at w e =
      let own = next_packet (env_of limits choice b) l packet s (heard_of now l.number b) in
      subst (AreFar client birth n) (sym (input_is limits choice now packet l s b line on at))
      (inl tt, far_append client birth n own [] (far_next (env_of limits choice b) packet (heard_of now l.number b) q at on w e) tt)
