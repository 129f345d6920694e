-- What is accepted of a PUBLISH without properties: its topic, payload and RETAIN, with the name of the session that sent
-- it (MQTT 5.0, 3.3).
use Rattle.std.proofs.Common.{◌≡◌, ℕ, Bool, true, false, cond, List, [], ◌∷◌, ◌++◌, Option, Some, None, refl, sym, subst}
use Rattle.std.specs.Prelude.{⊤, filter_map}
use Rattle.std.specs.List.{AllByRecursion, cons_option}
use Rattle.mqtt_packet.specs.declared.codec.publish.Delivery.{Delivery}
use Rattle.mqtt_packet.specs.declared.codec.publish.Delivery.TheVariants as delivery
use Rattle.mqtt_packet.specs.declared.codec.publish.Publish.{Publish as Publication}
use Rattle.mqtt_topic.specs.names.Names.{is_empty, is_topic_name}
use Rattle.mqtt_flow.specs.declared.inbound.inflow.Published.{Published}
use Rattle.mqtt_flow.specs.declared.inbound.inflow.Published.TheVariants.{New, Again, Over}
use Rattle.mqtt_base.specs.Codes.{topic_name_invalid, receive_maximum_exceeded}
use Rattle.mqtt_records.specs.declared.state.session.Session.{Session}
use Rattle.mqtt_rules.specs.step.State.{Line as BrokerLine, Broker, Env, MemberChoice, line_at, session_at}
use Rattle.mqtt_rules.specs.declared.step.Capacity.{Capacity}
use Rattle.mqtt_rules.specs.step.Deeds.{whose, Message, FromClient, FromWill, Close, Hear, Deed, Accept, At, On, Send, Gone, Begin, Name, Count, Finish, Keep, Forget, RefuseWill, Link, after, after_all, always, series, with_line, with_session}
use Rattle.mqtt_rules.specs.step.Routing.{CopyTo, accepted_copies, next_publication}
use Rattle.mqtt_rules.specs.step.Closing.{close_session, close_connected, close, drop_line, settle}
use Rattle.mqtt_rules.specs.step.Inbound.{Meaning, Means, Wrong, named, meaning, standing, answer, opens, publish_new, publish_by, message_of, publish_meant, on_publish}
use Rattle.mqtt_rules.specs.step.Packets.{disconnect}
use Rattle.mqtt_rules.specs.step.Step.{Input, at_moment, env_of, deeds, on_packet}
use Rattle.mqtt_world_model.specs.model.Ends.{Content, publish_with}
use Rattle.mqtt_world_model.specs.model.Run.{client_number, client_message}
use Rattle.mqtt_world_model.specs.model.Laws.{Carries}
use Rattle.mqtt_world_model.proofs.model_lemmas.others.Quiet.{numbers, calm, copies_of, quiet_copies}
use Rattle.mqtt_world_laws.proofs.acceptance_lemmas.copies.OpeningNumbers.{AcceptsNone, none_append, none_settle, none_with}
use Rattle.mqtt_world_model.proofs.model_lemmas.own.LightPublishes.{no_alias}

-- ---- of deeds

abbrev pub IsSaid : (Message → Type 0) → Deed → Type 0
IsSaid P (Accept number FromClient m) = P m
IsSaid P d = ⊤

abbrev pub AreSaid : (Message → Type 0) → List Deed → Type 0
AreSaid P ds = AllByRecursion (IsSaid P) ds

module _ (P : Message → Type 0) where
  -- what is accepted by deeds and by others behind them is as it was said
  pub said_append : (xs ys : List Deed) → AreSaid P xs → AreSaid P ys → AreSaid P (xs ++ ys)
  said_append [] ys p q = q
  said_append (x ∷ xs) ys p q = (p.0, said_append xs ys p.1 q)

  first_unsaid : (d : Deed) (ks : List ℕ) → cons_option (client_number d) ks ≡ [] → IsSaid P d × (ks ≡ [])
  first_unsaid (Accept number FromClient m) ks e = absurd cc
  first_unsaid (Accept number FromWill m) ks e = (tt, e)
  first_unsaid (Begin row will) ks e = (tt, e)
  first_unsaid (Name k) ks e = (tt, e)
  first_unsaid (Count k) ks e = (tt, e)
  first_unsaid (At who part) ks e = (tt, e)
  first_unsaid (Finish who) ks e = (tt, e)
  first_unsaid (Keep kept) ks e = (tt, e)
  first_unsaid (Forget place) ks e = (tt, e)
  first_unsaid (RefuseWill who) ks e = (tt, e)
  first_unsaid (Link m) ks e = (tt, e)
  first_unsaid (On m part) ks e = (tt, e)
  first_unsaid (Send m packet) ks e = (tt, e)
  first_unsaid (Gone m) ks e = (tt, e)

  -- if nothing is accepted of a client
  pub unsaid : (ds : List Deed) → AcceptsNone ds → AreSaid P ds
  unsaid [] e = tt
  unsaid (d ∷ ds) e = let first = first_unsaid d (numbers ds) e in (first.0, unsaid ds first.1)

  -- each message that is accepted of a client is as it was said
  pub said_messages : (ds : List Deed) → AreSaid P ds → AllByRecursion P (filter_map client_message ds)
  said_messages [] h = tt
  said_messages (Accept number FromClient m ∷ ds) h = (h.0, said_messages ds h.1)
  said_messages (Accept number FromWill m ∷ ds) h = said_messages ds h.1
  said_messages (Begin row will ∷ ds) h = said_messages ds h.1
  said_messages (Name k ∷ ds) h = said_messages ds h.1
  said_messages (Count k ∷ ds) h = said_messages ds h.1
  said_messages (At who part ∷ ds) h = said_messages ds h.1
  said_messages (Finish who ∷ ds) h = said_messages ds h.1
  said_messages (Keep kept ∷ ds) h = said_messages ds h.1
  said_messages (Forget place ∷ ds) h = said_messages ds h.1
  said_messages (RefuseWill who ∷ ds) h = said_messages ds h.1
  said_messages (Link m ∷ ds) h = said_messages ds h.1
  said_messages (On m part ∷ ds) h = said_messages ds h.1
  said_messages (Send m packet ∷ ds) h = said_messages ds h.1
  said_messages (Gone m ∷ ds) h = said_messages ds h.1

-- ---- a line that closes accepts nothing of a client

none_session : (env : Env) (s : Session) (b : Broker) → AcceptsNone (close_session env true s b)
none_session env s b =
    let c = after (At (whose s) (Close b.now)) b in
    none_append (settle env s.birth c) [] (none_settle env s.birth c) refl

none_connected : (env : Env) (o : Option ℕ) (b : Broker) → AcceptsNone (close_connected env true o b)
none_connected env None b = refl
none_connected env (Some birth) b = none_with env (session_at birth b.records) (close_session env true) b (λ s. none_session env s b)

none_close : (env : Env) (l : BrokerLine) (b : Broker) → AcceptsNone (close env true l b)
none_close env l b =
    let c = after (Gone l.number) b in
    none_append (close_connected env true l.session c) [] (none_connected env l.session c) refl

none_drop : (env : Env) (code : ℕ) (l : BrokerLine) (b : Broker) → AcceptsNone (drop_line env code l b)
none_drop env code l b =
    let c = after (Send l.number (disconnect code)) b in
    none_append (close env true l c) [] (none_close env l c) refl

-- ---- a PUBLISH

abbrev pub handed : Delivery → Content → Publication
handed d c = record { delivery = d; retain = c.retain; topic = c.topic; properties = []; payload = c.payload }

-- its topic is its own
own_topic : (topic name : List ℕ) → named topic ≡ Means name → name ≡ topic
own_topic [] name e = absurd cc
own_topic (x ∷ xs) name e = by (is_topic_name (x ∷ xs)) e
  where
    by : (t : Bool) → cond t (Means (x ∷ xs)) (Wrong topic_name_invalid) ≡ Means name → name ≡ (x ∷ xs)
    by true f = let is : Means (x ∷ xs) ≡ Means name = f in let same : (x ∷ xs) ≡ name = cc in sym same
    by false f = absurd cc

none_answer : (n : ℕ) (d : Delivery) (code : ℕ) → AcceptsNone (answer n d code)
none_answer n delivery.AtMostOnce code = refl
none_answer n (delivery.AtLeastOnce dup id) code = refl
none_answer n (delivery.ExactlyOnce dup id) code = refl

none_opens : (s : Session) (d : Delivery) → AcceptsNone (opens s d)
none_opens s delivery.AtMostOnce = refl
none_opens s (delivery.AtLeastOnce dup id) = refl
none_opens s (delivery.ExactlyOnce dup id) = refl

module _ (env : Env) (l : BrokerLine) (s : Session) (d : Delivery) (c : Content) where
  abbrev P : Message → Type 0
  P m = Carries s.client c m

  new_said : (m : Message) (o : Option (List CopyTo)) (b : Broker) → P m → AreSaid P (publish_new env l s (handed d c) m o b)
  new_said m None b p = unsaid P (answer l.number d _) (none_answer l.number d _)
  new_said m (Some ds) b p =
      let copies = copies_of env FromClient m ds b in
      let quiet = (calm 0 0 copies (after (Accept (next_publication b.records) FromClient m) b) (quiet_copies 0 0 env FromClient m ds b)).numbers_is in
      said_append P (Accept (next_publication b.records) FromClient m ∷ copies) (opens s d ++ (answer l.number d _ ++ [])) (p, unsaid P copies quiet)
      (unsaid P (opens s d ++ (answer l.number d _ ++ [])) (none_append (opens s d) (answer l.number d _ ++ []) (none_opens s d) (none_append (answer l.number d _) [] (none_answer l.number d _) refl)))

  by_said : (st : Published) (m : Message) (b : Broker) → P m → AreSaid P (publish_by st env l s (handed d c) m b)
  by_said New m b p = new_said m (accepted_copies env m b) b p
  by_said Again m b p = unsaid P (answer l.number d _) (none_answer l.number d _)
  by_said Over m b p = unsaid P (drop_line env receive_maximum_exceeded l b) (none_drop env receive_maximum_exceeded l b)

  meant_said : (x : Meaning) (b : Broker) → ((name : List ℕ) → x ≡ Means name → name ≡ c.topic) → AreSaid P (publish_meant x env l s (handed d c) b)
  meant_said (Wrong code) b own = unsaid P (drop_line env code l b) (none_drop env code l b)
  meant_said (Means name) b own =
      let m = message_of s.client name (handed d c) in
      let is = by_said (standing d s.inbound) m b (record { sender = refl; retain = refl; topic = own name refl; payload = refl }) in
      subst (λ (first : List Deed). AreSaid P (first ++ (publish_by (standing d s.inbound) env l s (handed d c) m (after_all first b) ++ []))) (sym (no_alias (is_empty c.topic) l.number name))
      (said_append P (publish_by (standing d s.inbound) env l s (handed d c) m b) [] is tt)

  -- a PUBLISH without properties is accepted as it was said
  pub publish_said : (b : Broker) → AreSaid P (on_publish env l s (handed d c) b)
  publish_said b = meant_said (meaning (handed d c) l.aliases) b (own_topic c.topic)

-- ---- a call with it: the session that is connected on its line is that client's

-- what a PUBLISH is accepted with is what it said
pub call_said : (limits : Capacity) (choice : MemberChoice) (now n : ℕ) (d : Delivery) (c : Content) (client : List ℕ) (b : Broker)
    → ((l : BrokerLine) (birth : ℕ) (s : Session) → line_at n b ≡ Some l → l.session ≡ Some birth → session_at birth b.records ≡ Some s → s.client ≡ client)
    → AreSaid (Carries client c) (deeds limits choice now (Input n (publish_with d c)) b)
call_said limits choice now n d c client b mine = by_line (line_at n b) refl
  where
    env : Env
    env = env_of limits choice b

    heard : Broker
    heard = after (On n Hear) (at_moment now b)

    by_session : (l : BrokerLine) (birth : ℕ) (o : Option Session) → line_at n b ≡ Some l → l.session ≡ Some birth → session_at birth b.records ≡ o
        → AreSaid (Carries client c) (with_session o (λ s. on_publish env l s (handed d c)) heard)
    by_session l birth None e on at = tt
    by_session l birth (Some s) e on at =
        subst (λ (its : List ℕ). AreSaid (Carries its c) (on_publish env l s (handed d c) heard)) (mine l birth s e on at) (publish_said env l s d c heard)

    by_packet : (l : BrokerLine) (o : Option ℕ) → line_at n b ≡ Some l → l.session ≡ o → AreSaid (Carries client c) (on_packet env l (publish_with d c) o heard)
    by_packet l None e on = unsaid (Carries client c) (close env true l heard) (none_close env l heard)
    by_packet l (Some birth) e on = by_session l birth (session_at birth b.records) e on refl

    by_line : (o : Option BrokerLine) → line_at n b ≡ o → AreSaid (Carries client c) (deeds limits choice now (Input n (publish_with d c)) b)
    by_line None e = subst (λ (o : Option BrokerLine). AreSaid (Carries client c) (with_line o (λ l. series (always (On n Hear ∷ []) ∷ on_packet env l (publish_with d c) l.session ∷ [])) (at_moment now b))) (sym e) tt
    by_line (Some l) e =
        subst (λ (o : Option BrokerLine). AreSaid (Carries client c) (with_line o (λ x. series (always (On n Hear ∷ []) ∷ on_packet env x (publish_with d c) x.session ∷ [])) (at_moment now b))) (sym e)
        (tt, said_append (Carries client c) (on_packet env l (publish_with d c) l.session heard) [] (by_packet l l.session e refl) tt)
