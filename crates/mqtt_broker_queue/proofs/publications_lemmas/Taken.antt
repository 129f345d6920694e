-- A PUBLISH is taken: published, its identifier opened, answered.
use Rattle.std.proofs.Common.{◌≡◌, ℕ, Bool, List, [], ◌∷◌, refl, ap, sym, ◌∙◌}
use Rattle.std.specs.Prelude.{Option, Some, None, option_map}
use Rattle.mqtt_packet.specs.declared.codec.publish.Delivery.{Delivery}
use Rattle.mqtt_packet.specs.declared.codec.publish.Delivery.TheVariants as delivery
use Rattle.mqtt_packet.specs.declared.codec.publish.Publish.{Publish}
use Rattle.mqtt_records.specs.declared.state.session.Session.{Session}
use Rattle.mqtt_rules.specs.step.State.{Line, Broker, MemberChoice, session_at}
use Rattle.mqtt_rules.specs.step.Deeds.{Act, At, Open, whose, Message, FromClient, then, always, series, of_session, with_session}
use Rattle.mqtt_rules.specs.step.Inbound.{publish_new, answer, opens, code_accepted}
use Rattle.mqtt_rules.specs.step.Routing.{CopyTo, publish, is_wanted}
use Rattle.mqtt_broker_step.specs.declared.fault.StepFault.{StepFault}
use Rattle.mqtt_broker_step.specs.Stepping.{Stepping, Did, Does, IsLeft, Leaves, env_in}
use Rattle.mqtt_broker_step.proofs.Doing.{did_none}
use Rattle.mqtt_broker_queue.specs.publications.Delivering.{SameSessions}
use Rattle.mqtt_broker_step.proofs.Then.{same_act, same_left, did_then, left_first, left_then}

some_is : {X : Type 0} (x y : X) → Some x ≡ Some y → x ≡ y
some_is x y e = cc

-- a session that is of the same client opens the same
opens_same : (x y : Session) (d : Delivery) → whose y ≡ whose x → opens y d ≡ opens x d
opens_same x y delivery.AtMostOnce same = refl
opens_same x y (delivery.AtLeastOnce dup id) same = refl
opens_same x y (delivery.ExactlyOnce dup id) same = ap (λ w. At w (Open id) ∷ []) same

opens_at : (o : Option Session) (x : Session) (d : Delivery) (b : Broker) → option_map whose o ≡ Some (whose x) → with_session o (λ y. always (opens y d)) b ≡ opens x d
opens_at None x d b same = absurd cc
opens_at (Some y) x d b same = opens_same x y d (some_is (whose y) (whose x) same)

opens_is : (birth : ℕ) (x : Session) (d : Delivery) (s s1 : Stepping) → SameSessions s.broker.records s1.broker.records → session_at birth s.broker.records ≡ Some x
    → of_session birth (λ y. always (opens y d)) s1.broker ≡ always (opens x d) s1.broker
opens_is birth x d s s1 same found =
    opens_at (session_at birth s1.broker.records) x d s1.broker (same birth ∙ ap (λ o. option_map whose o) found)

-- what was called with
pub record Asked (choice : MemberChoice) (line birth : ℕ) (d : Delivery) (m : Message) (wanted : Bool) (l : Line) (x : Session) (p : Publish) (s : Stepping) : Type 0 where
  pub number : l.number ≡ line
  pub found : session_at birth s.broker.records ≡ Some x
  pub delivery : p.delivery ≡ d
  pub is_there : is_wanted (env_in choice s) m s.broker.records ≡ wanted

abbrev tail_of : Session → ℕ → Delivery → Bool → Act
tail_of x line d wanted = series (always (opens x d) ∷ always (answer line d (code_accepted wanted)) ∷ [])

whole_is : (choice : MemberChoice) (line birth : ℕ) (d : Delivery) (m : Message) (wanted : Bool) (l : Line) (x : Session) (p : Publish) (ds : List CopyTo) (s : Stepping)
    → Asked choice line birth d m wanted l x p s
    → then (publish (env_in choice s) FromClient m ds s.broker) (tail_of x line d wanted) s.broker ≡ publish_new (env_in choice s) l x p m (Some ds) s.broker
whole_is choice line birth d m wanted l x p ds s asked =
    ap (λ n. then (publish (env_in choice s) FromClient m ds s.broker) (tail_of x n d wanted) s.broker) (sym asked.number)
    ∙ (ap (λ (e : Delivery). then (publish (env_in choice s) FromClient m ds s.broker) (tail_of x l.number e wanted) s.broker) (sym asked.delivery)
    ∙ ap (λ w. then (publish (env_in choice s) FromClient m ds s.broker) (tail_of x l.number p.delivery w) s.broker) (sym asked.is_there))

-- a PUBLISH was taken once it was published, its identifier opened, and answered
pub taken_is : (choice : MemberChoice) (line birth code : ℕ) (d : Delivery) (m : Message) (wanted : Bool) (l : Line) (x : Session) (p : Publish) (ds : List CopyTo) (s s1 s2 s3 : Stepping)
    → Asked choice line birth d m wanted l x p s → code ≡ code_accepted wanted → SameSessions s.broker.records s1.broker.records
    → Does (λ env. publish env FromClient m ds) s s1 → Did (of_session birth (λ y. always (opens y d))) s1 s2 → Did (always (answer line d code)) s2 s3
    → Did (publish_new (env_in choice s) l x p m (Some ds)) s s3
taken_is choice line birth code d m wanted l x p ds s s1 s2 s3 asked code_is same published opened answered =
    let f : Act = publish (env_in choice s) FromClient m ds in
    let o : Act = always (opens x d) in
    let a : Act = always (answer line d (code_accepted wanted)) in
    same_act (λ b. then (f b) (tail_of x line d wanted) b) (publish_new (env_in choice s) l x p m (Some ds)) s s3 (whole_is choice line birth d m wanted l x p ds s asked)
    (did_then f (tail_of x line d wanted) s s1 s3 (published choice)
    (did_then o (series (a ∷ [])) s1 s2 s3 (same_act (of_session birth (λ y. always (opens y d))) o s1 s2 (opens_is birth x d s s1 same asked.found) opened)
    (did_then a (series []) s2 s3 s3 (same_act (always (answer line d code)) a s2 s3 (ap (λ n. answer line d n) code_is) answered)
    (record { is = sym (did_none s3) }))))

-- taking a PUBLISH is refused if publishing it is
pub publish_left : (choice : MemberChoice) (line birth : ℕ) (d : Delivery) (m : Message) (wanted : Bool) (l : Line) (x : Session) (p : Publish) (ds : List CopyTo) (fault : StepFault) (s new : Stepping)
    → Asked choice line birth d m wanted l x p s → Leaves (λ env. publish env FromClient m ds) fault s new → IsLeft (publish_new (env_in choice s) l x p m (Some ds)) fault s new
publish_left choice line birth d m wanted l x p ds fault s new asked left =
    let f : Act = publish (env_in choice s) FromClient m ds in
    same_left (λ b. then (f b) (tail_of x line d wanted) b) (publish_new (env_in choice s) l x p m (Some ds)) fault s new (whole_is choice line birth d m wanted l x p ds s asked)
    (left_first f (tail_of x line d wanted) fault s new (left choice))

-- taking a PUBLISH is refused if opening its identifier is, once it was published
pub open_left : (choice : MemberChoice) (line birth : ℕ) (d : Delivery) (m : Message) (wanted : Bool) (l : Line) (x : Session) (p : Publish) (ds : List CopyTo) (fault : StepFault) (s s1 new : Stepping)
    → Asked choice line birth d m wanted l x p s → SameSessions s.broker.records s1.broker.records
    → Does (λ env. publish env FromClient m ds) s s1 → IsLeft (of_session birth (λ y. always (opens y d))) fault s1 new → IsLeft (publish_new (env_in choice s) l x p m (Some ds)) fault s new
open_left choice line birth d m wanted l x p ds fault s s1 new asked same published left =
    let f : Act = publish (env_in choice s) FromClient m ds in
    let o : Act = always (opens x d) in
    let a : Act = always (answer line d (code_accepted wanted)) in
    same_left (λ b. then (f b) (tail_of x line d wanted) b) (publish_new (env_in choice s) l x p m (Some ds)) fault s new (whole_is choice line birth d m wanted l x p ds s asked)
    (left_then f (tail_of x line d wanted) fault s s1 new (published choice)
    (left_first o (series (a ∷ [])) fault s1 new (same_left (of_session birth (λ y. always (opens y d))) o fault s1 new (opens_is birth x d s s1 same asked.found) left)))

-- taking a PUBLISH is refused if its answer is, once it was published and its identifier opened
pub answer_left : (choice : MemberChoice) (line birth code : ℕ) (d : Delivery) (m : Message) (wanted : Bool) (l : Line) (x : Session) (p : Publish) (ds : List CopyTo) (fault : StepFault) (s s1 s2 new : Stepping)
    → Asked choice line birth d m wanted l x p s → code ≡ code_accepted wanted → SameSessions s.broker.records s1.broker.records
    → Does (λ env. publish env FromClient m ds) s s1 → Did (of_session birth (λ y. always (opens y d))) s1 s2 → IsLeft (always (answer line d code)) fault s2 new
    → IsLeft (publish_new (env_in choice s) l x p m (Some ds)) fault s new
answer_left choice line birth code d m wanted l x p ds fault s s1 s2 new asked code_is same published opened left =
    let f : Act = publish (env_in choice s) FromClient m ds in
    let o : Act = always (opens x d) in
    let a : Act = always (answer line d (code_accepted wanted)) in
    same_left (λ b. then (f b) (tail_of x line d wanted) b) (publish_new (env_in choice s) l x p m (Some ds)) fault s new (whole_is choice line birth d m wanted l x p ds s asked)
    (left_then f (tail_of x line d wanted) fault s s1 new (published choice)
    (left_then o (series (a ∷ [])) fault s1 s2 new (same_act (of_session birth (λ y. always (opens y d))) o s1 s2 (opens_is birth x d s s1 same asked.found) opened)
    (left_first a (series []) fault s2 new (same_left (always (answer line d code)) a fault s2 new (ap (λ n. answer line d n) code_is) left))))
