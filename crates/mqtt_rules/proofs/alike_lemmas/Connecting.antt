-- CONNECT, to brokers that are alike.
use Rattle.std.proofs.Common.{◌≡◌, ℕ, Bool, true, false, cond, List, [], ◌∷◌, ◌++◌, map, length, Option, Some, None, bytes_eq, nat_lt, refl, ap, subst}
use Rattle.std.specs.Prelude.{◌&&◌}
use Rattle.std.specs.List.{starts_with}
use Rattle.std.specs.Prelude.{nat_eq}
use Rattle.mqtt_base.specs.Codes.{success, client_identifier_not_valid, bad_authentication_method, session_taken_over, topic_name_invalid, packet_too_large, quota_exceeded}
use Rattle.mqtt_base.specs.declared.limits.TheConstants.{CLIENT_LIMIT}
use Rattle.mqtt_props.specs.declared.table.PropName.TheVariants.{AuthenticationMethod}
use Rattle.mqtt_props.specs.Laws.{has}
use Rattle.mqtt_packet.specs.declared.connect.connect.Connect.{Connect}
use Rattle.mqtt_flow.specs.declared.outbound.entry.Entry.{Entry as FlowEntry}
use Rattle.mqtt_flow.specs.outbound.Outbound.{resumed_with, due_from}
use Rattle.mqtt_flow.specs.declared.outbound.entry.Turn.TheVariants.{Repeat}
use Rattle.mqtt_records.specs.messages.Queue.{CopyRow}
use Rattle.mqtt_records.specs.declared.state.session.Session.{Session}
use Rattle.mqtt_records.specs.declared.state.records.Records.{Records}
use Rattle.mqtt_records.specs.state.Session.{auto}
use Rattle.mqtt_topic.specs.names.Names.{is_empty}
use Rattle.mqtt_rules.specs.step.Packets.{connack}
use Rattle.mqtt_rules.specs.step.State.{Line, Env, session_named, line_of, queue_on}
use Rattle.mqtt_rules.specs.step.Deeds.{whose, Resume, Deed, At, Send, after_all, always}
use Rattle.mqtt_rules.specs.step.Outbound.{all_turn_deeds}
use Rattle.mqtt_rules.specs.step.Closing.{end_session, settle, drop_line}
use Rattle.mqtt_rules.specs.step.Connect.{first_case, case, has_bad_topic, largest_of, least_packet_size, refusal, refused, take_over, clear, prepare, greet, connack_properties, expiry_of, will_of, resume, begin_named, joins, joins_after, connect_by, on_connect}
use Rattle.mqtt_rules.specs.alike.Alike.{Each, AlikeRows, AlikeSessions, AlikeRecords, AlikeBrokers, AlikeDeeds, with_queue, with_sessions}
use Rattle.mqtt_rules.proofs.alike_lemmas.Pairs.{Both, both_found, both_none, each_append, each_length}
use Rattle.mqtt_rules.proofs.alike_lemmas.States.{by_queue, by_sessions, like, broker_put, all_after_alike}
use Rattle.mqtt_rules.proofs.alike_lemmas.Acts.{AlikeActs, same_deeds, two_alike, three_alike, always_alike, only_if_alike, of_client_alike, with_line_alike}
use Rattle.mqtt_rules.proofs.alike_lemmas.Queues.{AllMaySay, beside, queue_same, turns_alike, end_alike}
use Rattle.mqtt_rules.proofs.alike_lemmas.Closing.{publish_will_alike, settle_alike, drop_alike}

module _ (P : Type 0) where
  named_found : (client : List ℕ) (r : Records) (ss : List Session) → Each AlikeSessions r.sessions ss → Both AlikeSessions (session_named client r) (session_named client (with_sessions ss r))
  named_found client r ss h = both_found AlikeSessions (λ s. bytes_eq s.client client) (λ s. bytes_eq s.client client) (λ s t i. ap (λ (x : Session). bytes_eq x.client client) i.rest) r.sessions ss h

  abbrev refusal_by : Connect → Bool → Option ℕ
  refusal_by c unassigned = first_case (
      case (has AuthenticationMethod c.properties) bad_authentication_method
      ∷ case (nat_lt (largest_of c) least_packet_size) packet_too_large
      ∷ case (nat_lt CLIENT_LIMIT (length c.client_identifier)) client_identifier_not_valid
      ∷ case unassigned client_identifier_not_valid
      ∷ case (has_bad_topic c.will) topic_name_invalid
      ∷ [])

  refusal_same : (c : Connect) (r : Records) (ss : List Session) → Each AlikeSessions r.sessions ss → refusal c r ≡ refusal c (with_sessions ss r)
  refusal_same c r ss h = ap (λ (t : Bool). refusal_by c (starts_with nat_eq c.client_identifier auto && t))
      (both_none AlikeSessions (session_named c.client_identifier r) (session_named c.client_identifier (with_sessions ss r)) (named_found c.client_identifier r ss h))

  repeats_may : {D : Type 0} (ds : List D) (id : D → ℕ) → AllMaySay P (map (λ d. Repeat (id d)) ds)
  repeats_may [] id = tt
  repeats_may (d ∷ ds) id = (tt, repeats_may ds id)

  resume_alike : (l : Line) (c : Connect) (now : ℕ) (s : Session) (q : List CopyRow) → Each AlikeRows s.queue q → Each (AlikeDeeds P) (resume l c now s) (resume l c now (with_queue q s))
  resume_alike l c now s q h =
      let front : List Deed = At (whose s) (Resume (expiry_of c) (will_of c)) ∷ greet l c s.birth ∷ Send l.number (connack true success (connack_properties false [])) ∷ [] in
      subst (λ (es : List FlowEntry). Each (AlikeDeeds P) (resume l c now s) (front ++ all_turn_deeds now l.number (with_queue q s) (resumed_with es))) (queue_same [] s q h)
      (each_append (AlikeDeeds P) front front (all_turn_deeds now l.number s (resumed_with (queue_on [] s))) (all_turn_deeds now l.number (with_queue q s) (resumed_with (queue_on [] s)))
      (same_deeds P front) (turns_alike P now l.number s q h (resumed_with (queue_on [] s)) (repeats_may (due_from [] (queue_on [] s)) (λ d. d.identifier))))

  begin_same : (t : Bool) (l : Line) (c : Connect) (r : Records) (ss : List Session) → begin_named t l c r ≡ begin_named t l c (with_sessions ss r)
  begin_same true l c r ss = refl
  begin_same false l c r ss = refl

  module _ (env : Env) (old : List Session) where
    take_over_alike : (s : Session) (q : List CopyRow) → AlikeActs P (take_over env s) (take_over (beside env old) (with_queue q s))
    take_over_alike s q = record {
      does = λ b ss h. (with_line_alike P (line_of s.birth b) (drop_line env session_taken_over) (drop_line (beside env old) session_taken_over) (drop_alike P env old session_taken_over)).does b ss h;
    }

    clear_alike : (s : Session) (q : List CopyRow) → AlikeActs P (clear env s) (clear (beside env old) (with_queue q s))
    clear_alike s q = record {
      does = (two_alike P (publish_will_alike P env old s q)
          (of_client_alike P (λ t. always (end_session t)) (λ t. always (end_session t)) (λ t p k. always_alike P (end_alike P t p k)) s.client)).does;
    }

    prepare_alike : (c : Connect) → AlikeActs P (prepare env c) (prepare (beside env old) c)
    prepare_alike c = record {
      does = ((three_alike P)
          (of_client_alike P (take_over env) (take_over (beside env old)) (λ s q k. take_over_alike s q) c.client_identifier)
          (of_client_alike P (λ s. settle env s.birth) (λ s. settle (beside env old) s.birth) (λ s q k. settle_alike P env old s.birth) c.client_identifier)
          (only_if_alike P c.clean_start (of_client_alike P (clear env) (clear (beside env old)) (λ s q k. clear_alike s q) c.client_identifier))).does;
    }

    module _ (l : Line) (c : Connect) (now : ℕ) (ds es : List Deed) (k : Each (AlikeDeeds P) ds es) where
      begins_alike : (r : Records) (ss : List Session) (t u : Bool) → t ≡ u → Each (AlikeDeeds P) (cond t (ds ++ begin_named (is_empty c.client_identifier) l c r) (refused l c quota_exceeded))
          (cond u (es ++ begin_named (is_empty c.client_identifier) l c (with_sessions ss r)) (refused l c quota_exceeded))
      begins_alike r ss true true e = each_append (AlikeDeeds P) ds es (begin_named (is_empty c.client_identifier) l c r) (begin_named (is_empty c.client_identifier) l c (with_sessions ss r)) k
          (subst (Each (AlikeDeeds P) (begin_named (is_empty c.client_identifier) l c r)) (begin_same (is_empty c.client_identifier) l c r ss) (same_deeds P (begin_named (is_empty c.client_identifier) l c r)))
      begins_alike r ss true false e = absurd cc
      begins_alike r ss false true e = absurd cc
      begins_alike r ss false false e = same_deeds P (refused l c quota_exceeded)

      resumes_alike : (s t : Session) → AlikeSessions s t → Each (AlikeDeeds P) (ds ++ resume l c now s) (es ++ resume l c now t)
      resumes_alike s t h = each_append (AlikeDeeds P) ds es (resume l c now s) (resume l c now t) k (by_queue (λ (x : Session). Each (AlikeDeeds P) (resume l c now s) (resume l c now x)) s (resume_alike l c now s) t h)

      joins_alike : (r : Records) (ss : List Session) → Each AlikeSessions r.sessions ss → (o p : Option Session) → Both AlikeSessions o p
          → Each (AlikeDeeds P) (joins env l c now ds r o) (joins (beside env old) l c now es (with_sessions ss r) p)
      joins_alike r ss h None None i = begins_alike r ss (nat_lt (length r.sessions) env.limits.sessions) (nat_lt (length ss) env.limits.sessions)
          (ap (λ (n : ℕ). nat_lt n env.limits.sessions) (each_length AlikeSessions r.sessions ss h))
      joins_alike r ss h None (Some t) i = absurd i
      joins_alike r ss h (Some s) None i = absurd i
      joins_alike r ss h (Some s) (Some t) i = resumes_alike s t i

      joins_after_alike : (r o : Records) → AlikeRecords r o → Each (AlikeDeeds P) (joins_after env l c now ds r) (joins_after (beside env old) l c now es o)
      joins_after_alike r o h = by_sessions (λ (x : Records). Each (AlikeDeeds P) (joins_after env l c now ds r) (joins_after (beside env old) l c now es x)) r
          (λ ss i. joins_alike r ss i (session_named c.client_identifier r) (session_named c.client_identifier (with_sessions ss r)) (named_found c.client_identifier r ss i)) o h

    connect_by_alike : (o : Option ℕ) (l : Line) (c : Connect) → AlikeActs P (connect_by o env l c) (connect_by o (beside env old) l c)
    connect_by_alike (Some code) l c = record { does = λ b ss h. same_deeds P (refused l c code) }
    connect_by_alike None l c = record {
      does = λ b ss h.
          let ds = prepare env c b in
          let es = prepare (beside env old) c (like ss b) in
          let k : Each (AlikeDeeds P) ds es = (prepare_alike c).does b ss h in
          let a : AlikeBrokers (after_all ds b) (after_all es (like ss b)) = all_after_alike P ds es k b (like ss b) (broker_put b ss h) in
          joins_after_alike l c b.now ds es k (after_all ds b).records (after_all es (like ss b)).records a.records;
    }

    -- a CONNECT does alike
    pub on_connect_alike : (l : Line) (c : Connect) → AlikeActs P (on_connect env l c) (on_connect (beside env old) l c)
    on_connect_alike l c = record {
      does = λ b ss h. subst (λ (o : Option ℕ). Each (AlikeDeeds P) (on_connect env l c b) (connect_by o (beside env old) l c (like ss b))) (refusal_same c b.records ss h)
          ((connect_by_alike (refusal c b.records) l c).does b ss h);
    }
