-- A publisher's own PUBLISH and PUBREL leave the session and the line its own, so that what others do stays unseen.
use Rattle.std.proofs.Common.{◌≡◌, ℕ, Bool, true, false, ◌⊎◌, List, [], ◌∷◌, ◌++◌, Option, Some, None, refl, sym, ap, subst, ◌∙◌, inl, inr, arith}
use Rattle.std.specs.Prelude.{⊤}
use Rattle.std.specs.List.{AllByRecursion}
use Rattle.mqtt_packet.specs.declared.codec.publish.Delivery.{Delivery as Handing}
use Rattle.mqtt_packet.specs.declared.codec.publish.Delivery.TheVariants as delivery
use Rattle.mqtt_packet.specs.declared.codec.publish.Publish.{Publish as Publication}
use Rattle.mqtt_packet.specs.declared.codec.packet.Packet.{Packet}
use Rattle.mqtt_packet.specs.declared.codec.packet.Packet.TheVariants.{Publish, Pubrel}
use Rattle.mqtt_topic.specs.names.Names.{is_empty}
use Rattle.mqtt_props.specs.declared.table.PropName.TheVariants.{TopicAlias}
use Rattle.mqtt_flow.specs.declared.inbound.inflow.Published.{Published}
use Rattle.mqtt_flow.specs.declared.inbound.inflow.Published.TheVariants.{New, Again, Over}
use Rattle.mqtt_flow.specs.declared.inbound.inflow.ReleaseAnswer.{ReleaseAnswer}
use Rattle.mqtt_flow.specs.declared.inbound.inflow.ReleaseAnswer.TheVariants.{Known, Unknown}
use Rattle.mqtt_base.specs.Codes.{quota_exceeded, receive_maximum_exceeded}
use Rattle.mqtt_flow.specs.inbound.Inbound.{answer_to_release}
use Rattle.mqtt_records.specs.declared.state.session.Session.{Session}
use Rattle.mqtt_records.specs.declared.state.records.Records.{Records}
use Rattle.mqtt_records.specs.lists.Order.{change_row}
use Rattle.mqtt_records.specs.state.Session.{birth_of, columns_of, with_columns}
use Rattle.mqtt_records.specs.state.Records.{changed_all}
use Rattle.mqtt_records.specs.messages.PassedOn.{number_at}
use Rattle.mqtt_rules.specs.step.State.{MemberChoice, Line, Broker, Env, session_at, line_at}
use Rattle.mqtt_rules.specs.step.Deeds.{Message, FromClient, Part, Resume, Close, SetExpiry, DropWill, Subscribe, Unsubscribe, Open, Release, Enter, Mark, Leave, Deed, Accept, Begin, Name, Count, At, Finish, Keep, Forget, RefuseWill, Link, On, Send, Gone, part_rows_of, after, after_all, rows_of_all}
use Rattle.mqtt_rules.specs.step.Routing.{CopyTo, accepted_copies, publish, is_wanted}
use Rattle.mqtt_rules.specs.step.Closing.{never, drop_line}
use Rattle.mqtt_rules.specs.step.Step.{Input, next_packet, env_of, at_moment, deeds, stepped}
use Rattle.mqtt_rules.specs.declared.step.Capacity.{Capacity}
use Rattle.mqtt_rules.specs.step.Inbound.{Meaning, Means, Wrong, meaning, sets_alias, standing, answer, opens, code_again, code_accepted, publish_new, publish_by, message_of, publish_meant, release_by}
use Rattle.mqtt_rules.proofs.step_lemmas.flight.FlightRows.{all_at}
use Rattle.mqtt_flow.specs.inbound.Publisher.{CONNECT, PUBLISH_1, PUBLISH_2, PUBREL}
use Rattle.mqtt_world_model.specs.model.Ends.{Sent, shake, plain, Publisher, wire}
use Rattle.mqtt_world_model.specs.model.Hops.{IsNoConnect, IsConnected, IsOurs, Own}
use Rattle.mqtt_world_model.proofs.model_lemmas.others.Quiet.{copies_of, quiet_copies}
use Rattle.mqtt_world_model.proofs.model_lemmas.others.Far.{IsFar, AreFar, all_keyed, gone_ours, at_lines, at_births, own_deed}
use Rattle.mqtt_world_model.proofs.model_lemmas.others.FarActs.{far_quiet}
use Rattle.mqtt_world_model.proofs.model_lemmas.own.Publishes.{drop_is}
use Rattle.mqtt_world_model.proofs.model_lemmas.own.OwnStep.{heard_of, input_is}
use Rattle.mqtt_world_model.proofs.model_lemmas.others.Frame.{own_done}

-- ---- deeds of the publisher's own packets

abbrev pub IsKeepingPart : Part → Type 0
IsKeepingPart (Resume expiry will) = ⊥
IsKeepingPart (Close moment) = ⊤
IsKeepingPart (SetExpiry expiry) = ⊥
IsKeepingPart DropWill = ⊥
IsKeepingPart (Subscribe s) = ⊥
IsKeepingPart (Unsubscribe text) = ⊥
IsKeepingPart (Open id) = ⊤
IsKeepingPart (Release id) = ⊤
IsKeepingPart (Enter copy) = ⊥
IsKeepingPart (Mark place phase) = ⊥
IsKeepingPart (Leave e ending) = ⊥

abbrev pub IsKeeping : Deed → Type 0
IsKeeping (At who part) = IsKeepingPart part
IsKeeping (Send m packet) = ⊤
IsKeeping (Gone m) = ⊤
IsKeeping d = ⊥

module _ (client : List ℕ) (birth n : ℕ) where
  abbrev pub IsMine : Deed → Type 0
  IsMine d = IsFar client birth n d ⊎ IsKeeping d

  abbrev pub AreMine : List Deed → Type 0
  AreMine [] = ⊤
  AreMine (d ∷ ds) = IsMine d × AreMine ds

  -- deeds that keep session and line the publisher's, and others behind them, do so together
  pub mine_append : (xs ys : List Deed) → AreMine xs → AreMine ys → AreMine (xs ++ ys)
  mine_append [] ys p q = q
  mine_append (x ∷ xs) ys p q = (p.0, mine_append xs ys p.1 q)

  -- ---- they keep whose the session and the line are

  closed_ours : (moment : ℕ) (s : Session) (ss : List Session) → IsOurs client birth s → AllByRecursion (IsOurs client birth) ss
      → AllByRecursion (IsOurs client birth) (change_row birth_of s.birth (with_columns (record (columns_of s) { closed = Some moment })) ss)
  closed_ours moment s ss p h =
      all_keyed client birth s.birth (with_columns (record (columns_of s) { closed = Some moment })) ss
      (λ x e q. record {
        named = λ is. e ∙ p.named is;
        name = λ is. p.name (sym e ∙ is);
        no_will = q.no_will;
        no_end = λ is. p.no_end (sym e ∙ is);
      }) h

  keeping_ours : (k : ℕ) (part : Part) (r : Records) (o : Option Session) → session_at k r ≡ o → IsKeepingPart part → AllByRecursion (IsOurs client birth) r.sessions
      → AllByRecursion (IsOurs client birth) (changed_all (part_rows_of part o) r).sessions
  keeping_ours k part r None e q h = h
  keeping_ours k (Close moment) r (Some s) e q h = closed_ours moment s r.sessions (all_at birth_of (IsOurs client birth) k s r.sessions h e) h
  keeping_ours k (Open id) r (Some s) e q h = all_keyed client birth s.birth _ r.sessions (λ x f y. y) h
  keeping_ours k (Release id) r (Some s) e q h = all_keyed client birth s.birth _ r.sessions (λ x f y. y) h
  keeping_ours k (Resume expiry will) r (Some s) e q h = absurd q
  keeping_ours k (SetExpiry expiry) r (Some s) e q h = absurd q
  keeping_ours k DropWill r (Some s) e q h = absurd q
  keeping_ours k (Subscribe sub) r (Some s) e q h = absurd q
  keeping_ours k (Unsubscribe text) r (Some s) e q h = absurd q
  keeping_ours k (Enter copy) r (Some s) e q h = absurd q
  keeping_ours k (Mark place phase) r (Some s) e q h = absurd q
  keeping_ours k (Leave x ending) r (Some s) e q h = absurd q

  keeping_own : (d : Deed) (b : Broker) → IsKeeping d → Own client birth n b → Own client birth n (after d b)
  keeping_own (At who part) b q o = record {
    sessions = keeping_ours who.birth part b.records (session_at who.birth b.records) refl q o.sessions;
    lines = at_lines birth n who.birth part b.lines o.lines;
    births = (let e = at_births part (session_at who.birth b.records) b.records in let le = o.births in omega (arith, e, le));
    given = o.given;
  }
  keeping_own (Send m packet) b q o = record { sessions = o.sessions; lines = o.lines; births = o.births; given = o.given }
  keeping_own (Gone m) b q o = record { sessions = o.sessions; lines = gone_ours birth n m b.lines o.lines; births = o.births; given = o.given }
  keeping_own (Accept number origin m) b q o = absurd q
  keeping_own (Begin row will) b q o = absurd q
  keeping_own (Name k) b q o = absurd q
  keeping_own (Count k) b q o = absurd q
  keeping_own (Finish who) b q o = absurd q
  keeping_own (Keep kept) b q o = absurd q
  keeping_own (Forget place) b q o = absurd q
  keeping_own (RefuseWill who) b q o = absurd q
  keeping_own (Link m) b q o = absurd q
  keeping_own (On m part) b q o = absurd q

  mine_own : (d : Deed) (b : Broker) → IsMine d → Own client birth n b → Own client birth n (after d b)
  mine_own d b (inl far) o = own_deed client birth n d b far o
  mine_own d b (inr keeping) o = keeping_own d b keeping o

  -- such deeds leave session and line the publisher's own
  pub mine_owns : (ds : List Deed) (b : Broker) → AreMine ds → Own client birth n b → Own client birth n (after_all ds b)
  mine_owns [] b q o = o
  mine_owns (d ∷ ds) b q o = mine_owns ds (after d b) q.1 (mine_own d b q.0 o)

  -- ---- PUBLISH and PUBREL

  mine_quiet : (env : Env) (m : Message) (ds : List CopyTo) (b : Broker) → AreMine (publish env FromClient m ds b)
  mine_quiet env m ds b = (inl (inr tt), far_mine (copies_of env FromClient m ds b) (far_quiet client birth n (copies_of env FromClient m ds b) (quiet_copies birth n env FromClient m ds b)))
    where
      far_mine : (xs : List Deed) → AreFar client birth n xs → AreMine xs
      far_mine [] q = tt
      far_mine (x ∷ xs) q = (inl q.0, far_mine xs q.1)

  mine_answer : (line : ℕ) (q : Handing) (code : ℕ) → AreMine (answer line q code)
  mine_answer line delivery.AtMostOnce code = tt
  mine_answer line (delivery.AtLeastOnce dup id) code = (inr tt, tt)
  mine_answer line (delivery.ExactlyOnce dup id) code = (inr tt, tt)

  mine_opens : (s : Session) (q : Handing) → AreMine (opens s q)
  mine_opens s delivery.AtMostOnce = tt
  mine_opens s (delivery.AtLeastOnce dup id) = tt
  mine_opens s (delivery.ExactlyOnce dup id) = (inr tt, tt)

  mine_alias : (t : Bool) (alias : Option ℕ) (line : ℕ) (topic : List ℕ) → AreMine (sets_alias t alias line topic)
  mine_alias true alias line topic = tt
  mine_alias false None line topic = tt
  mine_alias false (Some m) line topic = (inl (inl tt), tt)

  mine_new : (env : Env) (l : Line) (s : Session) (p : Publication) (m : Message) (ds : Option (List CopyTo)) (b : Broker) → AreMine (publish_new env l s p m ds b)
  mine_new env l s p m None b = mine_answer l.number p.delivery quota_exceeded
  mine_new env l s p m (Some ds) b =
      let code = code_accepted (is_wanted env m b.records) in
      mine_append (publish env FromClient m ds b) (opens s p.delivery ++ (answer l.number p.delivery code ++ [])) (mine_quiet env m ds b)
      (mine_append (opens s p.delivery) (answer l.number p.delivery code ++ []) (mine_opens s p.delivery)
      (mine_append (answer l.number p.delivery code) [] (mine_answer l.number p.delivery code) tt))

  -- a line that is dropped, of a session without a Will that doesn't expire
  mine_drop : (env : Env) (code : ℕ) (l : Line) (s : Session) (b : Broker) → session_at s.birth b.records ≡ Some s → l.session ≡ Some s.birth → s.will ≡ None → s.expiry ≡ never
      → AreMine (drop_line env code l b)
  mine_drop env code l s b at on no_will no_end =
      subst AreMine (sym (drop_is env code l s b at on no_will no_end)) (inr tt, (inr tt, (inr tt, tt)))

  mine_publish_by : (st : Published) (env : Env) (l : Line) (s : Session) (p : Publication) (m : Message) (b : Broker) → session_at s.birth b.records ≡ Some s → l.session ≡ Some s.birth → s.will ≡ None → s.expiry ≡ never
      → AreMine (publish_by st env l s p m b)
  mine_publish_by Again env l s p m b at on w e = mine_answer l.number p.delivery (code_again p.delivery)
  mine_publish_by Over env l s p m b at on w e = mine_drop env receive_maximum_exceeded l s b at on w e
  mine_publish_by New env l s p m b at on w e = mine_new env l s p m (accepted_copies env m b) b

  alias_stores : (t : Bool) (alias : Option ℕ) (line : ℕ) (topic : List ℕ) (b : Broker) → (after_all (sets_alias t alias line topic) b).records ≡ b.records
  alias_stores true alias line topic b = refl
  alias_stores false None line topic b = refl
  alias_stores false (Some m) line topic b = refl

  mine_meant : (x : Meaning) (env : Env) (l : Line) (s : Session) (p : Publication) (b : Broker) → session_at s.birth b.records ≡ Some s → l.session ≡ Some s.birth → s.will ≡ None → s.expiry ≡ never
      → AreMine (publish_meant x env l s p b)
  mine_meant (Wrong code) env l s p b at on w e = mine_drop env code l s b at on w e
  mine_meant (Means topic) env l s p b at on w e =
      let t = is_empty p.topic in
      let alias = number_at TopicAlias p.properties in
      let first = sets_alias t alias l.number topic in
      let st = standing p.delivery s.inbound in
      let m = message_of s.client topic p in
      let c = after_all first b in
      let here : session_at s.birth c.records ≡ Some s = ap (session_at s.birth) (alias_stores t alias l.number topic b) ∙ at in
      mine_append first (publish_by st env l s p m c ++ []) (mine_alias t alias l.number topic)
      (mine_append (publish_by st env l s p m c) [] (mine_publish_by st env l s p m c here on w e) tt)

  mine_release : (x : ReleaseAnswer) (l : Line) (s : Session) (id : ℕ) → AreMine (release_by x l s id)
  mine_release Known l s id = (inr tt, (inr tt, tt))
  mine_release Unknown l s id = (inr tt, tt)

  -- any PUBLISH and any PUBREL of its own
  abbrev pub IsOwnPacket : Packet → Type 0
  IsOwnPacket (Publish p) = ⊤
  IsOwnPacket (Pubrel a) = ⊤
  IsOwnPacket packet = ⊥

  mine_next : (env : Env) (l : Line) (packet : Packet) (s : Session) (b : Broker) → IsOwnPacket packet → session_at s.birth b.records ≡ Some s → l.session ≡ Some s.birth → s.will ≡ None → s.expiry ≡ never
      → AreMine (next_packet env l packet s b)
  mine_next env l (Publish p) s b q at on w e = mine_meant (meaning p l.aliases) env l s p b at on w e
  mine_next env l (Pubrel a) s b q at on w e = mine_release (answer_to_release a.identifier s.inbound) l s a.identifier
  mine_next env l packet s b q at on w e = absurd q

  -- a PUBLISH or PUBREL of its own keeps session and line the publisher's
  pub mine_call : (limits : Capacity) (choice : MemberChoice) (now : ℕ) (packet : Packet) (l : Line) (s : Session) (b : Broker) → IsOwnPacket packet
      → line_at l.number b ≡ Some l → l.session ≡ Some s.birth → session_at s.birth b.records ≡ Some s → s.will ≡ None → s.expiry ≡ never
      → AreMine (deeds limits choice now (Input l.number packet) b)
  mine_call limits choice now packet l s b q line on at w e =
      let own = next_packet (env_of limits choice b) l packet s (heard_of now l.number b) in
      subst AreMine (sym (input_is limits choice now packet l s b line on at))
      (inl (inl tt), mine_append own [] (mine_next (env_of limits choice b) l packet s (heard_of now l.number b) q at on w e) tt)

-- the session and the line stay the publisher's after its own PUBLISH or PUBREL
pub own_packet_stays : (limits : Capacity) (choice : MemberChoice) (now : ℕ) (packet : Packet) (l : Line) (s : Session) (client : List ℕ) (n : ℕ) (b : Broker) → IsOwnPacket client s.birth n packet
    → line_at l.number b ≡ Some l → l.session ≡ Some s.birth → session_at s.birth b.records ≡ Some s → s.will ≡ None → s.expiry ≡ never
    → Own client s.birth n b → Own client s.birth n (stepped limits choice now (Input l.number packet) b)
own_packet_stays limits choice now packet l s client n b q line on at w e own =
    let start = at_moment now b in
    let ds = deeds limits choice now (Input l.number packet) b in
    let o : Own client s.birth n start = record { sessions = own.sessions; lines = own.lines; births = own.births; given = own.given } in
    own_done client s.birth n (rows_of_all ds start.records) (after_all ds start) (mine_owns client s.birth n ds start (mine_call client s.birth n limits choice now packet l s b q line on at w e) o)

-- each of its packets but CONNECT
pub sent_stays : (limits : Capacity) (choice : MemberChoice) (now : ℕ) (p : Publisher) (packet : Sent) (l : Line) (s : Session) (b : Broker) → IsNoConnect packet → IsConnected p l s b → Own p.client s.birth l.number b
    → Own p.client s.birth l.number (stepped limits choice now (Input l.number (wire p.client p.contents packet)) b)
sent_stays limits choice now p packet l s b other x own = own_packet_stays limits choice now (wire p.client p.contents packet) l s p.client l.number b (is_own packet other) x.line x.connected x.session x.no_will x.no_end own
  where
    is_own : (sent : Sent) → IsNoConnect sent → IsOwnPacket p.client s.birth l.number (wire p.client p.contents sent)
    is_own (shake (CONNECT clean)) other = absurd other
    is_own (shake (PUBLISH_1 id k dup)) other = tt
    is_own (shake (PUBLISH_2 id k dup)) other = tt
    is_own (shake (PUBREL id)) other = tt
    is_own (plain content) other = tt
