-- A Will is published or refused, and then there is none.
use Rattle.std.proofs.Common.{◌≡◌, ℕ, Bool, List, [], ◌∷◌, refl, ap, sym, subst, ◌∙◌}
use Rattle.std.specs.Prelude.{Option, Some, None, option_map}
use Rattle.mqtt_base.specs.declared.session.Qos.{Qos}
use Rattle.mqtt_props.specs.declared.place.Place.TheVariants as places
use Rattle.mqtt_records.specs.declared.messages.message.MessageCopy.{MessageCopy}
use Rattle.mqtt_records.specs.declared.messages.message.Will.{Will}
use Rattle.mqtt_records.specs.declared.state.session.Session.{Session}
use Rattle.mqtt_records.specs.declared.state.records.Records.{Records}
use Rattle.mqtt_rules.specs.step.Closing.{will_message, publish_or_refuse, will_deeds, publish_will}
use Rattle.mqtt_rules.specs.step.Contents.{IsWilled, of_rows}
use Rattle.mqtt_rules.specs.step.Deeds.{Act, At, DropWill, FromWill, Message, Part, RefuseWill, Whose, whose, always, with_session}
use Rattle.mqtt_rules.specs.step.Routing.{CopyTo, publish, next_publication}
use Rattle.mqtt_rules.specs.step.State.{Broker, Env, MemberChoice, session_at}
use Rattle.mqtt_rules.proofs.step_lemmas.contents.ContentPackets.{published}
use Rattle.mqtt_broker_step.specs.declared.fault.StepFault.{StepFault}
use Rattle.mqtt_broker_step.specs.declared.fault.StepFault.TheVariants.{Memory}
use Rattle.mqtt_broker_step.specs.Stepping.{Stepping, did, Did, Does, IsLeft, Leaves, env_in, to_session}
use Rattle.mqtt_broker_step.proofs.Doing.{did_none, found_birth}
use Rattle.mqtt_broker_queue.specs.publications.Choosing.{DoesSome, LeavesSome, IsLawfulMessage, IsRefused, IsAccepted}
use Rattle.mqtt_broker_queue.specs.publications.Delivering.{addressed_all, whose_at, SameSessions}
use Rattle.mqtt_broker_step.proofs.Then.{same_act, same_left}
use Rattle.mqtt_broker_queue.proofs.publications_lemmas.Some.{both, some_then, some_left_first, some_left_then, same_some, same_some_left, does_some}
use Rattle.mqtt_broker_acts.specs.closing.Wills.{will_of, will_at, message_of, message_at, publishes, publishes_will}

some_is : {X : Type 0} (x y : X) → Some x ≡ Some y → x ≡ y
some_is x y e = cc

-- want of memory before anything is done
pub memory_left : (act : Act) (fault : StepFault) (s : Stepping) → fault ≡ Memory → IsLeft act fault s s
memory_left act fault s is = record { start = refl; limits = refl; spent = λ e. absurd cc }

-- ---- where it is routed to

-- a Will that cannot be accepted is refused
pub refused_is : (m : Message) (who : Whose) (s new : Stepping) → IsRefused m s → Did (always (RefuseWill who ∷ [])) s new → DoesSome (publishes who m) s new
refused_is m who s new w is = record {
  number = next_publication s.broker.records;
  sender = m.sender;
  members = w.members;
  is = λ choice same.
      same_act (always (RefuseWill who ∷ [])) (publishes who m (env_in choice s)) s new
      (ap (λ o. publish_or_refuse (env_in choice s) who m o s.broker) (sym (w.refused choice same))) is;
}

-- or that is not done
pub refused_left : (m : Message) (who : Whose) (fault : StepFault) (s new : Stepping) → IsRefused m s → IsLeft (always (RefuseWill who ∷ [])) fault s new → LeavesSome (publishes who m) fault s new
refused_left m who fault s new w is = record {
  number = next_publication s.broker.records;
  sender = m.sender;
  members = w.members;
  is = λ choice same.
      same_left (always (RefuseWill who ∷ [])) (publishes who m (env_in choice s)) fault s new
      (ap (λ o. publish_or_refuse (env_in choice s) who m o s.broker) (sym (w.refused choice same))) is;
}

-- a refused Will changes no session
pub refused_same : (who : Whose) (s new : Stepping) → Did (always (RefuseWill who ∷ [])) s new → SameSessions s.broker.records new.broker.records
refused_same who s new is = λ birth. ap (λ (t : Stepping). whose_at birth t.broker.records) is.is

-- a Will that can be accepted is published to those that it reaches
pub accepted_is : (m : Message) (who : Whose) (copies : List MessageCopy) (wanted : Bool) (s new : Stepping) → IsAccepted m s copies wanted
    → Does (λ env. publish env FromWill m (addressed_all copies)) s new → DoesSome (publishes who m) s new
accepted_is m who copies wanted s new w is = record {
  number = next_publication s.broker.records;
  sender = m.sender;
  members = w.members;
  is = λ choice same.
      same_act (publish (env_in choice s) FromWill m (addressed_all copies)) (publishes who m (env_in choice s)) s new
      (ap (λ o. publish_or_refuse (env_in choice s) who m o s.broker) (sym (w.accepted choice same))) (is choice);
}

-- or that is refused
pub accepted_left : (m : Message) (who : Whose) (copies : List MessageCopy) (wanted : Bool) (fault : StepFault) (s new : Stepping) → IsAccepted m s copies wanted
    → Leaves (λ env. publish env FromWill m (addressed_all copies)) fault s new → LeavesSome (publishes who m) fault s new
accepted_left m who copies wanted fault s new w is = record {
  number = next_publication s.broker.records;
  sender = m.sender;
  members = w.members;
  is = λ choice same.
      same_left (publish (env_in choice s) FromWill m (addressed_all copies)) (publishes who m (env_in choice s)) fault s new
      (ap (λ o. publish_or_refuse (env_in choice s) who m o s.broker) (sym (w.accepted choice same))) (is choice);
}

-- ---- the session, and its Will's message

-- the session stands and has a Will, with this message
pub record Wills (birth : ℕ) (m : Message) (r : Records) : Type 0 where
  pub session : Session
  pub will : Will
  pub stands : session_at birth r ≡ Some session
  pub has : session.will ≡ Some will
  pub message : m ≡ will_message session.client will

wills_by : (birth : ℕ) (m : Message) (r : Records) (o : Option Session) (w : Option Will) → session_at birth r ≡ o → will_of o ≡ w → message_of o ≡ Some m → Wills birth m r
wills_by birth m r None w found has is = absurd cc
wills_by birth m r (Some s) None found has is = absurd (nothing (ap (option_map (will_message s.client)) has) is)
  where
    nothing : {X : Type 0} {o : Option X} {x : X} → o ≡ None → o ≡ Some x → ⊥
    nothing e f = absurd cc
wills_by birth m r (Some s) (Some w) found has is = record {
  session = s;
  will = w;
  stands = found;
  has = has;
  message = some_is m (will_message s.client w) (sym is ∙ ap (option_map (will_message s.client)) has);
}

-- a message of a Will is of a session that has it
pub wills : (birth : ℕ) (m : Message) (r : Records) → message_at birth r ≡ Some m → Wills birth m r
wills birth m r is = wills_by birth m r (session_at birth r) (will_at birth r) refl refl is

-- that session has that Will
pub will_is : (birth : ℕ) (m : Message) (r : Records) (w : Wills birth m r) → will_at birth r ≡ Some w.will
will_is birth m r w = ap will_of w.stands ∙ w.has

-- what a Will passes on is as packets carry it
pub lawful_will : (birth : ℕ) (m : Message) (r : Records) → Wills birth m r → IsWilled (will_at birth r) → IsLawfulMessage m
lawful_will birth m r w lawful =
    subst IsLawfulMessage (sym w.message)
    (published of_rows places.Will w.will.topic w.will.properties w.will.payload (subst IsWilled (will_is birth m r w) lawful))

-- and that birth
pub birth_is : (birth : ℕ) (m : Message) (r : Records) (w : Wills birth m r) → (whose w.session).birth ≡ birth
birth_is birth m r w = found_birth birth r.sessions w.session w.stands

-- and the client that the message names
pub client_is : (birth : ℕ) (m : Message) (r : Records) (w : Wills birth m r) → (whose w.session).client ≡ m.sender
client_is birth m r w = sym (ap (λ (x : Message). x.sender) w.message)

-- ---- published or refused, then dropped

part_by : (part : Part) (who : Whose) (o : Option Session) (b : Broker) → option_map whose o ≡ Some who → with_session o (λ s. always (At (whose s) part ∷ [])) b ≡ At who part ∷ []
part_by part who None b is = absurd cc
part_by part who (Some s) b is = ap (λ x. At x part ∷ []) (some_is (whose s) who is)

-- a deed of a session that is of the same client
pub part_at : (birth : ℕ) (part : Part) (who : Whose) (b : Broker) → whose_at birth b.records ≡ Some who → to_session birth part b ≡ At who part ∷ []
part_at birth part who b is = part_by part who (session_at birth b.records) b is

abbrev drops : Whose → Env → Act
drops who env = always (At who DropWill ∷ [])

will_act : (birth : ℕ) (m : Message) (env : Env) (b : Broker) (w : Wills birth m b.records) → both (publishes (whose w.session) m) (drops (whose w.session)) env b ≡ publishes_will birth env b
will_act birth m env b w =
    let s = w.session in
    ap (λ (x : Message). both (publishes (whose s) x) (drops (whose s)) env b) w.message
    ∙ (ap (λ o. will_deeds env (whose s) o b) (sym w.has)
    ∙ ap (λ o. with_session o (publish_will env) b) (sym w.stands))

dropped : (birth : ℕ) (m : Message) (s s1 s2 : Stepping) (w : Wills birth m s.broker.records) → SameSessions s.broker.records s1.broker.records
    → to_session birth DropWill s1.broker ≡ At (whose w.session) DropWill ∷ []
dropped birth m s s1 s2 w same = part_at birth DropWill (whose w.session) s1.broker (same birth ∙ ap (option_map whose) w.stands)

-- a Will is published, and then it is gone
pub will_done : (birth : ℕ) (m : Message) (s s1 s2 : Stepping) (w : Wills birth m s.broker.records) → SameSessions s.broker.records s1.broker.records
    → DoesSome (publishes (whose w.session) m) s s1 → Did (to_session birth DropWill) s1 s2 → DoesSome (publishes_will birth) s s2
will_done birth m s s1 s2 w same published is =
    let who = whose w.session in
    same_some (both (publishes who m) (drops who)) (publishes_will birth) s s2 (λ choice. will_act birth m (env_in choice s) s.broker w)
    (some_then (publishes who m) (drops who) s s1 s2 published
    (λ choice. same_act (to_session birth DropWill) (always (At who DropWill ∷ [])) s1 s2 (dropped birth m s s1 s2 w same) is))

-- that may be refused at its publication
pub will_first_left : (birth : ℕ) (m : Message) (fault : StepFault) (s new : Stepping) (w : Wills birth m s.broker.records)
    → LeavesSome (publishes (whose w.session) m) fault s new → LeavesSome (publishes_will birth) fault s new
will_first_left birth m fault s new w left =
    let who = whose w.session in
    same_some_left (both (publishes who m) (drops who)) (publishes_will birth) fault s new (λ choice. will_act birth m (env_in choice s) s.broker w)
    (some_left_first (publishes who m) (drops who) fault s new left)

-- or at its going
pub will_then_left : (birth : ℕ) (m : Message) (fault : StepFault) (s s1 new : Stepping) (w : Wills birth m s.broker.records) → SameSessions s.broker.records s1.broker.records
    → DoesSome (publishes (whose w.session) m) s s1 → IsLeft (to_session birth DropWill) fault s1 new → LeavesSome (publishes_will birth) fault s new
will_then_left birth m fault s s1 new w same published is =
    let who = whose w.session in
    same_some_left (both (publishes who m) (drops who)) (publishes_will birth) fault s new (λ choice. will_act birth m (env_in choice s) s.broker w)
    (some_left_then (publishes who m) (drops who) fault s s1 new published
    (λ choice. same_left (to_session birth DropWill) (always (At who DropWill ∷ [])) fault s1 new (dropped birth m s s1 new w same) is))

-- ---- no Will

none_by : (birth : ℕ) (env : Env) (b : Broker) (o : Option Session) → session_at birth b.records ≡ o → will_of o ≡ None → publishes_will birth env b ≡ []
none_by birth env b None found none = ap (λ o. with_session o (publish_will env) b) found
none_by birth env b (Some s) found none = ap (λ o. with_session o (publish_will env) b) found ∙ ap (λ o. will_deeds env (whose s) o b) none

-- a session without a Will publishes none
pub no_will : (birth : ℕ) (env : Env) (b : Broker) → will_at birth b.records ≡ None → publishes_will birth env b ≡ []
no_will birth env b none = none_by birth env b (session_at birth b.records) refl none

unwilled_by : (o : Option Session) → message_of o ≡ None → will_of o ≡ None
unwilled_by None none = refl
unwilled_by (Some s) none = by s.will refl none
  where
    by : (w : Option Will) → s.will ≡ w → option_map (will_message s.client) s.will ≡ None → s.will ≡ None
    by None is none = is
    by (Some w) is none = absurd cc (ap (option_map (will_message s.client)) is)

-- without a message there is no Will
pub unwilled : (birth : ℕ) (r : Records) → message_at birth r ≡ None → will_at birth r ≡ None
unwilled birth r none = unwilled_by (session_at birth r) none

-- publishing no Will is done by doing nothing
pub no_will_did : (birth : ℕ) (s : Stepping) → will_at birth s.broker.records ≡ None → Does (publishes_will birth) s s
no_will_did birth s none = λ choice. record { is = sym (did_none s) ∙ ap (λ ds. did ds s) (sym (no_will birth (env_in choice s) s.broker none)) }

-- with a Will, it isn't so that there is none
pub has_will : (birth : ℕ) (m : Message) (r : Records) → Wills birth m r → will_at birth r ≡ None → ⊥
has_will birth m r w none = let is = will_is birth m r w in absurd cc
