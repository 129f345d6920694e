-- Publications, Wills and closings of brokers that are alike.
use Rattle.std.proofs.Common.{◌≡◌, ℕ, Bool, true, false, not, List, [], ◌∷◌, map, Option, Some, None, bytes_eq, refl, ap, ap₂, subst}
use Rattle.mqtt_records.specs.declared.messages.message.Will.{Will}
use Rattle.mqtt_records.specs.messages.Queue.{CopyRow}
use Rattle.mqtt_records.specs.declared.state.session.Session.{Session}
use Rattle.mqtt_records.specs.declared.state.records.Records.{Records}
use Rattle.mqtt_routes.specs.routing.Intended as intended
use Rattle.mqtt_routes.specs.routing.Acceptance.{Routed}
use Rattle.mqtt_routes.specs.routing.Acceptance as acceptance
use Rattle.mqtt_topic.specs.names.Names.{is_empty}
use Rattle.std.specs.Prelude.{option_map}
use Rattle.mqtt_rules.specs.step.Packets.{disconnect}
use Rattle.mqtt_rules.specs.step.State.{Line, Broker, Env, session_at, is_connected}
use Rattle.mqtt_rules.specs.step.Deeds.{Whose, whose, Message, Origin, FromWill, Close, DropWill, Accept, At, RefuseWill, Send, Gone, Act, always, series, only_if}
use Rattle.mqtt_rules.specs.step.Outbound.{room, room_at, enter_deeds}
use Rattle.mqtt_rules.specs.step.Routing.{CopyTo, is_queued, deliver, deliver_by, retain_by, publish, subscriber_of, subscribers, publication_of, is_there, answers, finds_place, copies_to, next_publication, accepted_if, routing_of, accepted_copies, is_wanted}
use Rattle.mqtt_rules.specs.step.Closing.{has_due_will, has_due_end, will_message, publish_or_refuse, will_deeds, publish_will, end_session, settle, close_session, close_connected, close, drop_line}
use Rattle.mqtt_rules.specs.alike.Alike.{Each, AlikeRows, AlikeSessions, AlikeDeeds, with_queue, with_sessions}
use Rattle.mqtt_rules.proofs.alike_lemmas.Pairs.{Both, map_same}
use Rattle.mqtt_rules.proofs.alike_lemmas.States.{by_queue, like, session_found}
use Rattle.mqtt_rules.proofs.alike_lemmas.Acts.{AlikeActs, same_deeds, series_alike, two_alike, three_alike, always_same, always_alike, only_if_alike, of_session_alike}
use Rattle.mqtt_rules.proofs.alike_lemmas.Queues.{beside, room_same, enter_alike, end_alike}

module _ (env : Env) (old : List Session) where
  -- ---- routing

  room_at_same : (o p : Option Session) → Both AlikeSessions o p → room_at env o ≡ room_at (beside env old) p
  room_at_same None None h = refl
  room_at_same None (Some t) h = absurd h
  room_at_same (Some s) None h = absurd h
  room_at_same (Some s) (Some t) h = by_queue (λ (x : Session). room env s ≡ room (beside env old) x) s (room_same env old s) t h

  there_same : (test : Session → Bool) → ((s : Session) (q : List CopyRow) → test s ≡ test (with_queue q s)) → (o p : Option Session) → Both AlikeSessions o p → is_there o test ≡ is_there p test
  there_same test k None None h = refl
  there_same test k None (Some t) h = absurd h
  there_same test k (Some s) None h = absurd h
  there_same test k (Some s) (Some t) h = by_queue (λ (x : Session). test s ≡ test x) s (λ q i. k s q) t h

  module _ (r : Records) (ss : List Session) (h : Each AlikeSessions r.sessions ss) where
    answers_same : answers env r ≡ answers (beside env old) (with_sessions ss r)
    answers_same = λ i. record {
      room = λ birth. room_at_same (session_at birth r) (session_at birth (with_sessions ss r)) (session_found birth r ss h) i;
      is_connected = λ birth. there_same is_connected (λ s q. refl) (session_at birth r) (session_at birth (with_sessions ss r)) (session_found birth r ss h) i;
      is_named = λ birth client. there_same (λ s. bytes_eq s.client client) (λ s q. refl) (session_at birth r) (session_at birth (with_sessions ss r)) (session_found birth r ss h) i;
    }

    subscribers_same : subscribers r ≡ subscribers (with_sessions ss r)
    subscribers_same = map_same AlikeSessions subscriber_of subscriber_of (λ s t k. ap subscriber_of k.rest) r.sessions ss h

    routing_same : (m : Message) → routing_of env m r ≡ routing_of (beside env old) m (with_sessions ss r)
    routing_same m = ap₂ (λ a us. acceptance.routed a (publication_of m) (env.choice (next_publication r) m.sender) us) answers_same subscribers_same

    -- whether a message is wanted is the same of both
    pub wanted_same : (m : Message) → is_wanted env m r ≡ is_wanted (beside env old) m (with_sessions ss r)
    wanted_same m = ap₂ (λ a us. intended.is_wanted a (publication_of m) us) answers_same subscribers_same

  -- in which copies a message is accepted is the same of both
  pub accepted_same : (m : Message) (b : Broker) (ss : List Session) → Each AlikeSessions b.records.sessions ss → accepted_copies env m b ≡ accepted_copies (beside env old) m (like ss b)
  accepted_same m b ss h = ap (λ (o : Option Routed). accepted_if (finds_place env m b.records) (option_map (copies_to (next_publication b.records) b.now m) o)) (routing_same b.records ss h m)

module _ (P : Type 0) (env : Env) (old : List Session) where
  -- ---- a publication

  deliver_by_alike : (t : Bool) (d : CopyTo) → AlikeActs P (deliver_by t env d) (deliver_by t (beside env old) d)
  deliver_by_alike true d = record {
    does = (of_session_alike P (λ s. always (enter_deeds env d.copy s)) (λ s. always (enter_deeds (beside env old) d.copy s))
        (λ s q h. always_alike P (enter_alike P env old d.copy s q h)) d.birth).does;
  }
  deliver_by_alike false d = record { does = λ b ss h. same_deeds P (deliver_by false env d b) }

  -- a copy that is handed over does alike
  pub deliver_alike : (d : CopyTo) → AlikeActs P (deliver env d) (deliver (beside env old) d)
  deliver_alike d = record { does = (deliver_by_alike (is_queued d) d).does }

  -- copies that are handed over do alike
  pub deliver_all_alike : (ds : List CopyTo) → Each (AlikeActs P) (map (deliver env) ds) (map (deliver (beside env old)) ds)
  deliver_all_alike [] = tt
  deliver_all_alike (d ∷ ds) = (deliver_alike d, deliver_all_alike ds)

  retain_alike : (r e : Bool) (number : ℕ) (m : Message) → AlikeActs P (retain_by r e number m) (retain_by r e number m)
  retain_alike false e number m = record { does = λ b ss h. tt }
  retain_alike true true number m = record { does = λ b ss h. same_deeds P (retain_by true true number m b) }
  retain_alike true false number m = record { does = λ b ss h. same_deeds P (retain_by true false number m b) }

  -- a publication does alike
  pub publish_alike : (origin : Origin) (m : Message) (ds : List CopyTo) → AlikeActs P (publish env origin m ds) (publish (beside env old) origin m ds)
  publish_alike origin m ds = record {
    does = λ b ss h.
        let number = next_publication b.records in
        (series_alike P (always (Accept number origin m ∷ []) ∷ retain_by m.retain (is_empty m.payload) number m ∷ map (deliver env) ds)
        (always (Accept number origin m ∷ []) ∷ retain_by m.retain (is_empty m.payload) number m ∷ map (deliver (beside env old)) ds)
        (always_same P (Accept number origin m ∷ []), (retain_alike m.retain (is_empty m.payload) number m, deliver_all_alike ds))).does b ss h;
  }

  -- ---- Wills

  refuse_alike : (who : Whose) (m : Message) (o : Option (List CopyTo)) → AlikeActs P (publish_or_refuse env who m o) (publish_or_refuse (beside env old) who m o)
  refuse_alike who m None = record { does = λ b ss h. same_deeds P (RefuseWill who ∷ []) }
  refuse_alike who m (Some ds) = record { does = (publish_alike FromWill m ds).does }

  will_acts : Env → Whose → Message → Option (List CopyTo) → Act
  will_acts e who m o b = series (publish_or_refuse e who m o ∷ always (At who DropWill ∷ []) ∷ []) b

  -- a Will does alike
  pub will_alike : (who : Whose) (o : Option Will) → AlikeActs P (will_deeds env who o) (will_deeds (beside env old) who o)
  will_alike who None = record { does = λ b ss h. tt }
  will_alike who (Some w) = record {
    does = λ b ss h.
        let m = will_message who.client w in
        let ds = accepted_copies env m b in
        subst (λ (o : Option (List CopyTo)). Each (AlikeDeeds P) (will_deeds env who (Some w) b)
        (series (publish_or_refuse (beside env old) who (will_message who.client w) o ∷ always (At who DropWill ∷ []) ∷ []) (like ss b)))
        (accepted_same env old m b ss h)
        ((two_alike P (refuse_alike who m ds) (always_same P (At who DropWill ∷ []))).does b ss h);
  }

  -- a session's Will that is published does alike
  pub publish_will_alike : (s : Session) (q : List CopyRow) → AlikeActs P (publish_will env s) (publish_will (beside env old) (with_queue q s))
  publish_will_alike s q = record { does = (will_alike (whose s) s.will).does }

  -- ---- settling and closing

  -- what is due of a session does alike
  pub settle_alike : (birth : ℕ) → AlikeActs P (settle env birth) (settle (beside env old) birth)
  settle_alike birth = record {
    does = λ b ss h. ((two_alike P)
        (of_session_alike P (λ s. only_if (has_due_will b.now s) (publish_will env s)) (λ s. only_if (has_due_will b.now s) (publish_will (beside env old) s))
        (λ s q k. only_if_alike P (has_due_will b.now s) (publish_will_alike s q)) birth)
        (of_session_alike P (λ s. only_if (has_due_end b.now s) (always (end_session s))) (λ s. only_if (has_due_end b.now s) (always (end_session s)))
        (λ s q k. only_if_alike P (has_due_end b.now s) (always_alike P (end_alike P s q k))) birth)).does b ss h;
  }

  close_session_alike : (keeps : Bool) (s : Session) (q : List CopyRow) → Each AlikeRows s.queue q → AlikeActs P (close_session env keeps s) (close_session (beside env old) keeps (with_queue q s))
  close_session_alike keeps s q k = record {
    does = λ b ss h. (three_alike P (only_if_alike P (not keeps) (always_same P (At (whose s) DropWill ∷ []))) (always_same P (At (whose s) (Close b.now) ∷ [])) (settle_alike s.birth)).does b ss h;
  }

  connected_alike : (keeps : Bool) (o : Option ℕ) → AlikeActs P (close_connected env keeps o) (close_connected (beside env old) keeps o)
  connected_alike keeps None = record { does = λ b ss h. tt }
  connected_alike keeps (Some birth) = record { does = (of_session_alike P (close_session env keeps) (close_session (beside env old) keeps) (close_session_alike keeps) birth).does }

  -- the closing of a line does alike
  pub close_alike : (keeps : Bool) (l : Line) → AlikeActs P (close env keeps l) (close (beside env old) keeps l)
  close_alike keeps l = record { does = (two_alike P (always_same P (Gone l.number ∷ [])) (connected_alike keeps l.session)).does }

  -- a line that is dropped does alike
  pub drop_alike : (code : ℕ) (l : Line) → AlikeActs P (drop_line env code l) (drop_line (beside env old) code l)
  drop_alike code l = record { does = (two_alike P (always_same P (Send l.number (disconnect code) ∷ [])) (close_alike true l)).does }
