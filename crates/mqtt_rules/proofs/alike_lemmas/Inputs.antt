-- What connected clients send, to brokers that are alike.
use Rattle.std.proofs.Common.{◌≡◌, ℕ, Bool, true, false, not, List, [], ◌∷◌, map, Option, Some, None, nat_eq, ap, subst, ◌∙◌}
use Rattle.mqtt_base.specs.declared.session.Phase.{Phase}
use Rattle.mqtt_base.specs.declared.session.Phase.TheVariants.{Waiting, Sent, Released, Oversize}
use Rattle.mqtt_base.specs.declared.session.Qos.{Qos}
use Rattle.mqtt_base.specs.declared.session.Qos.TheVariants.{AtMostOnce, AtLeastOnce, ExactlyOnce}
use Rattle.mqtt_flow.specs.outbound.Queue.{holder, next_order}
use Rattle.std.specs.Prelude.{⊤, Ok, Err}
use Rattle.mqtt_base.specs.Codes.{normal_disconnection, protocol_error, receive_maximum_exceeded}
use Rattle.mqtt_props.specs.declared.table.PropName.TheVariants.{TopicAlias}
use Rattle.mqtt_packet.specs.declared.codec.publish.Publish.{Publish}
use Rattle.mqtt_topic.specs.names.Names.{is_empty}
use Rattle.mqtt_flow.specs.declared.outbound.entry.Entry.{Entry as FlowEntry}
use Rattle.mqtt_flow.specs.declared.outbound.entry.Turn.{Turn}
use Rattle.mqtt_flow.specs.outbound.Outbound.{Answer, pump}
use Rattle.mqtt_flow.specs.outbound.Outbound as rules
use Rattle.mqtt_flow.specs.declared.inbound.inflow.Published.{Published}
use Rattle.mqtt_flow.specs.declared.inbound.inflow.Published.TheVariants.{New, Again, Over}
use Rattle.mqtt_records.specs.messages.Queue.{CopyRow}
use Rattle.mqtt_records.specs.declared.state.session.Session.{Session}
use Rattle.mqtt_rules.specs.step.Fitting.{fitted, size_at, sized, pump_turns}
use Rattle.mqtt_rules.specs.step.Inbound.{Meaning, Means, Wrong, meaning, sets_alias, standing, answer, opens, code_accepted, publish_new, publish_by, message_of, publish_meant, on_publish, on_answer, on_puback, on_pubrec, on_pubcomp, pump_deeds, is_late_expiry, new_expiry, leave_by, on_disconnect}
use Rattle.mqtt_records.specs.messages.PassedOn.{number_at}
use Rattle.mqtt_rules.specs.step.State.{Line, Broker, Env, queue_on, told_on}
use Rattle.mqtt_rules.specs.step.Deeds.{Message, FromClient, always, series}
use Rattle.mqtt_rules.specs.step.Outbound.{all_turn_deeds, way_of}
use Rattle.mqtt_rules.specs.step.Routing.{CopyTo, accepted_copies, publish, is_wanted}
use Rattle.mqtt_rules.specs.alike.Alike.{Each, AlikeRows, AlikeDeeds, with_queue}
use Rattle.mqtt_rules.proofs.alike_lemmas.Pairs.{map_same}
use Rattle.mqtt_rules.proofs.alike_lemmas.States.{like}
use Rattle.mqtt_rules.proofs.alike_lemmas.Acts.{AlikeActs, same_deeds, two_alike, three_alike, always_same}
use Rattle.mqtt_rules.proofs.alike_lemmas.Queues.{MaySay, all_may_say, beside, queue_same, fitted_same, sized_same, turn_alike, turns_alike}
use Rattle.mqtt_rules.proofs.alike_lemmas.Closing.{accepted_same, wanted_same, publish_alike, close_alike, drop_alike}

-- ---- a pump has the same turns

-- a pump of an alike queue takes the same turns
pub pump_same : (l : Line) (b : Broker) (s : Session) (q : List CopyRow) → Each AlikeRows s.queue q → pump_turns l b s ≡ pump_turns l b (with_queue q s)
pump_same l b s q h =
    let told = told_on l.number b.tellings in
    ap (pump (way_of l b.now))
    (ap (λ (xs : List (ℕ × ℕ)). map (sized (size_at xs) l.went) s.queue) (fitted_same l b.now told s.queue q h)
    ∙ map_same AlikeRows (sized (size_at (fitted l b.now told q)) l.went) (sized (size_at (fitted l b.now told q)) l.went) (sized_same (fitted l b.now told q) l.went) s.queue q h)

module _ (P : Type 0) where
  -- a pump does alike, if it may send what copies say
  pub pump_alike : P → (l : Line) (b : Broker) (s : Session) (q : List CopyRow) → Each AlikeRows s.queue q → Each (AlikeDeeds P) (pump_deeds l b s) (pump_deeds l b (with_queue q s))
  pump_alike p l b s q h =
      subst (λ (ts : List Turn). Each (AlikeDeeds P) (pump_deeds l b s) (all_turn_deeds b.now l.number (with_queue q s) ts)) (pump_same l b s q h)
      (turns_alike P b.now l.number s q h (pump_turns l b s) (all_may_say P p (pump_turns l b s)))

  -- ---- an answer sends nothing that a copy says

  abbrev MayAnswer : Answer → Type 0
  MayAnswer (Ok None) = ⊤
  MayAnswer (Ok (Some t)) = MaySay P t
  MayAnswer (Err fault) = ⊤

  puback_may : (code : ℕ) (o : Option FlowEntry) → MayAnswer (rules.puback_at code o)
  puback_may code None = tt
  puback_may code (Some e) = by e.phase e.copy.qos
    where
      by : (phase : Phase) (q : Qos) → MayAnswer (rules.puback_by phase q code e.place)
      by Waiting q = tt
      by (Sent i) AtMostOnce = tt
      by (Sent i) AtLeastOnce = tt
      by (Sent i) ExactlyOnce = tt
      by (Released i order) q = tt
      by (Oversize i order) q = tt

  released_may : (t : Bool) (place i order : ℕ) → MayAnswer (rules.released_by t place i order)
  released_may true place i order = tt
  released_may false place i order = tt

  pubrec_may : (i code order : ℕ) (o : Option FlowEntry) → MayAnswer (rules.pubrec_at i code order o)
  pubrec_may i code order None = tt
  pubrec_may i code order (Some e) = by e.phase e.copy.qos
    where
      by : (phase : Phase) (q : Qos) → MayAnswer (rules.pubrec_by phase q code e.place order)
      by Waiting q = tt
      by (Sent j) AtMostOnce = tt
      by (Sent j) AtLeastOnce = tt
      by (Sent j) ExactlyOnce = released_may (rules.is_refusal code) e.place j order
      by (Released j x) q = tt
      by (Oversize j x) q = tt

  pubcomp_may : (o : Option FlowEntry) → MayAnswer (rules.pubcomp_at o)
  pubcomp_may None = tt
  pubcomp_may (Some e) = by e.phase
    where
      by : (phase : Phase) → MayAnswer (rules.pubcomp_by phase e.place)
      by Waiting = tt
      by (Sent i) = tt
      by (Released i order) = tt
      by (Oversize i order) = tt

  module _ (env : Env) (old : List Session) (l : Line) (s : Session) (q : List CopyRow) (h : Each AlikeRows s.queue q) where
    -- ---- PUBLISH

    new_alike : (p : Publish) (m : Message) (o : Option (List CopyTo)) → AlikeActs P (publish_new env l s p m o) (publish_new (beside env old) l (with_queue q s) p m o)
    new_alike p m None = record { does = λ b ss k. same_deeds P (publish_new env l s p m None b) }
    new_alike p m (Some ds) = record {
      does = λ b ss k.
          subst (λ (t : Bool). Each (AlikeDeeds P) (publish_new env l s p m (Some ds) b)
          (series (publish (beside env old) FromClient m ds ∷ always (opens s p.delivery) ∷ always (answer l.number p.delivery (code_accepted t)) ∷ []) (like ss b)))
          (wanted_same env old b.records ss k m)
          ((three_alike P (publish_alike P env old FromClient m ds) (always_same P (opens s p.delivery)) (always_same P (answer l.number p.delivery (code_accepted (is_wanted env m b.records))))).does b ss k);
    }

    by_alike : (x : Published) (p : Publish) (m : Message) → AlikeActs P (publish_by x env l s p m) (publish_by x (beside env old) l (with_queue q s) p m)
    by_alike Again p m = record { does = λ b ss k. same_deeds P (publish_by Again env l s p m b) }
    by_alike Over p m = record { does = (drop_alike P env old receive_maximum_exceeded l).does }
    by_alike New p m = record {
      does = λ b ss k.
          subst (λ (o : Option (List CopyTo)). Each (AlikeDeeds P) (publish_by New env l s p m b) (publish_new (beside env old) l (with_queue q s) p m o (like ss b)))
          (accepted_same env old m b ss k)
          ((new_alike p m (accepted_copies env m b)).does b ss k);
    }

    meant_alike : (x : Meaning) (p : Publish) → AlikeActs P (publish_meant x env l s p) (publish_meant x (beside env old) l (with_queue q s) p)
    meant_alike (Wrong code) p = record { does = (drop_alike P env old code l).does }
    meant_alike (Means topic) p = record {
      does = (two_alike P (always_same P (sets_alias (is_empty p.topic) (number_at TopicAlias p.properties) l.number topic))
          (by_alike (standing p.delivery s.inbound) p (message_of s.client topic p))).does;
    }

    -- a PUBLISH does alike
    pub on_publish_alike : (p : Publish) → AlikeActs P (on_publish env l s p) (on_publish (beside env old) l (with_queue q s) p)
    on_publish_alike p = record { does = (meant_alike (meaning p l.aliases) p).does }

    -- ---- a receiver's answers

    turned_alike : (a : Answer) → MayAnswer a → AlikeActs P (on_answer a env l s) (on_answer a (beside env old) l (with_queue q s))
    turned_alike (Ok None) m = record { does = λ b ss k. tt }
    turned_alike (Ok (Some t)) m = record { does = λ b ss k. turn_alike P b.now l.number s q h t m }
    turned_alike (Err fault) m = record { does = (drop_alike P env old protocol_error l).does }

    answer_alike : (a : List FlowEntry → Answer) → ((es : List FlowEntry) → MayAnswer (a es))
        → AlikeActs P (on_answer (a (queue_on l.went s)) env l s) (on_answer (a (queue_on l.went (with_queue q s))) (beside env old) l (with_queue q s))
    answer_alike a m =
        subst (λ (x : Answer). AlikeActs P (on_answer (a (queue_on l.went s)) env l s) (on_answer x (beside env old) l (with_queue q s))) (ap a (queue_same l.went s q h))
        (turned_alike (a (queue_on l.went s)) (m (queue_on l.went s)))

    -- a PUBACK does alike
    pub on_puback_alike : (id code : ℕ) → AlikeActs P (on_puback env l s id code) (on_puback (beside env old) l (with_queue q s) id code)
    on_puback_alike id code = record { does = (answer_alike (rules.puback id code) (λ es. puback_may code (holder id es))).does }

    -- a PUBREC does alike
    pub on_pubrec_alike : (id code : ℕ) → AlikeActs P (on_pubrec env l s id code) (on_pubrec (beside env old) l (with_queue q s) id code)
    on_pubrec_alike id code = record { does = (answer_alike (rules.pubrec id code) (λ es. pubrec_may id code (next_order es) (holder id es))).does }

    -- a PUBCOMP does alike
    pub on_pubcomp_alike : (id : ℕ) → AlikeActs P (on_pubcomp env l s id) (on_pubcomp (beside env old) l (with_queue q s) id)
    on_pubcomp_alike id = record { does = (answer_alike (rules.pubcomp id) (λ es. pubcomp_may (holder id es))).does }

    -- ---- DISCONNECT

    leave_by_alike : (t : Bool) (code : ℕ) (expiry : Option ℕ) → AlikeActs P (leave_by t env l s code expiry) (leave_by t (beside env old) l (with_queue q s) code expiry)
    leave_by_alike true code expiry = record { does = (drop_alike P env old protocol_error l).does }
    leave_by_alike false code None = record { does = (two_alike P ((always_same P) []) (close_alike P env old (not (nat_eq code normal_disconnection)) l)).does }
    leave_by_alike false code (Some n) = record { does = (two_alike P (always_same P (new_expiry (Some n) s)) (close_alike P env old (not (nat_eq code normal_disconnection)) l)).does }

    -- a DISCONNECT does alike
    pub on_disconnect_alike : (code : ℕ) (expiry : Option ℕ) → AlikeActs P (on_disconnect env l s code expiry) (on_disconnect (beside env old) l (with_queue q s) code expiry)
    on_disconnect_alike code expiry = record { does = (leave_by_alike (is_late_expiry expiry s.expiry) code expiry).does }
