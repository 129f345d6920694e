-- SUBSCRIBE: what the packet holds, its deeds, and where it is refused.
use Rattle.std.proofs.Common.{◌≡◌, ℕ, ◌+◌, ◌<◌, ◌≤◌, ◌^◌, Bool, true, false, List, [], ◌∷◌, ◌++◌, length, Option, Some, ap, sym, subst, ◌∙◌, append_assoc, arith}
use Rattle.std.specs.Prelude.{map}
use Rattle.std.specs.List.{flat_map, AllByRecursion}
use Rattle.std.proofs.lemmas.List.{length-append}
use Rattle.mqtt_base.specs.Codes.{identifier_in_use}
use Rattle.mqtt_base.specs.Values.{two_bytes, varint, blob}
use Rattle.mqtt_props.specs.Properties.{block}
use Rattle.mqtt_props.specs.declared.table.PropName.TheVariants.{SubscriptionIdentifier}
use Rattle.mqtt_packet.specs.declared.codec.packet.Packet.TheVariants as packets
use Rattle.mqtt_packet.specs.subscribe.Subscriptions.{Subscription as Asked, subscription, IsSubscription}
use Rattle.mqtt_packet.specs.subscribe.Subscribe.{subscribe_body}
use Rattle.mqtt_packet.specs.declared.subscribe.subscribe.Subscribe.{Subscribe}
use Rattle.mqtt_flow.specs.inbound.Identifiers.{is_among}
use Rattle.mqtt_records.specs.declared.messages.message.MessageCopy.{MessageCopy}
use Rattle.mqtt_records.specs.declared.state.session.Session.{Session}
use Rattle.mqtt_rules.specs.step.Contents.{IsTaken}
use Rattle.mqtt_rules.specs.step.State.{Broker, Env, MemberChoice, session_at, line_at}
use Rattle.mqtt_rules.specs.step.Deeds.{Act, Deed, after_all, always, of_session, offer, series, then}
use Rattle.mqtt_records.specs.messages.PassedOn.{number_at}
use Rattle.mqtt_rules.specs.step.Packets.{suback}
use Rattle.mqtt_rules.specs.step.Routing.{CopyTo}
use Rattle.mqtt_rules.specs.step.Subscribe.{FilterAnswers, late_send, subscribe_by, on_subscribe}
use Rattle.mqtt_rules.proofs.step_lemmas.acts.Goods.{after_append}
use Rattle.mqtt_broker_step.specs.declared.fault.StepFault.{StepFault}
use Rattle.mqtt_broker_step.specs.Stepping.{Stepping, Did, Does, IsLeft, Leaves, env_in}
use Rattle.mqtt_broker_step.proofs.Doing.{found_birth}
use Rattle.mqtt_broker_step.proofs.Then.{same_act, same_left, did_then, left_first, left_then}
use Rattle.mqtt_broker_queue.specs.publications.Delivering.{addressed_all}
use Rattle.mqtt_broker_acts.specs.subscribing.Offering.{largest_on, offer_within}
use Rattle.mqtt_broker_acts.specs.subscribing.Bringing.{late_sends}
use Rattle.mqtt_broker_acts.specs.subscribing.Answering.{all_answers, answers_all, tells}
use Rattle.mqtt_broker_acts.proofs.subscribing_lemmas.Lines.{offer_is}
use Rattle.mqtt_broker_acts.proofs.subscribing_lemmas.Unsubscribed.{with_found}

-- ---- what the packet holds

-- each filter takes more than two bytes
many_bytes : (filters : List Asked) → length filters ≤ length (flat_map subscription filters)
many_bytes [] = omega arith
many_bytes (a ∷ rest) =
    let more = many_bytes rest in
    let both = length-append (subscription a) (flat_map subscription rest) in
    let one = length-append (blob a.filter) (a.options ∷ []) in
    omega (arith, more, both, one)

-- a SUBSCRIBE that may come has few filters
pub few_filters : (p : Subscribe) → IsTaken (packets.Subscribe p) → length p.subscriptions + 3 < 2 ^ 28
few_filters p taken =
    let short = taken.short in
    let body = subscribe_body p in
    let framing = length-append (varint (length body)) body in
    let first = length-append (two_bytes p.identifier) (block p.properties ++ flat_map subscription p.subscriptions) in
    let second = length-append (block p.properties) (flat_map subscription p.subscriptions) in
    let many = many_bytes p.subscriptions in
    omega (arith, short, framing, first, second, many)

-- and each fits a field
pub texts_fit : (p : Subscribe) → IsTaken (packets.Subscribe p) → AllByRecursion IsSubscription p.subscriptions
texts_fit p taken = taken.spelled.0.2

-- ---- refused whole

refused_is : (line : ℕ) (x : Session) (p : Subscribe) (largest : Option ℕ) (codes : List ℕ) (env : Env) (b : Broker) → largest ≡ largest_on line b
    → codes ≡ map (λ (a : Asked). identifier_in_use) p.subscriptions → offer_within line largest (suback p.identifier codes) ≡ subscribe_by true env line x p b
refused_is line x p largest codes env b is told =
    ap (λ l. offer_within line l (suback p.identifier codes)) is
    ∙ (ap (λ cs. offer_within line (largest_on line b) (suback p.identifier cs)) told
    ∙ offer_is line (suback p.identifier (map (λ (a : Asked). identifier_in_use) p.subscriptions)) b)

-- an identifier in use is answered by 0x91 for each filter
pub refused_ok : (line : ℕ) (x : Session) (p : Subscribe) (largest : Option ℕ) (codes : List ℕ) (s new : Stepping) → largest ≡ largest_on line s.broker
    → codes ≡ map (λ (a : Asked). identifier_in_use) p.subscriptions → Did (always (offer_within line largest (suback p.identifier codes))) s new → Does (λ env. subscribe_by true env line x p) s new
refused_ok line x p largest codes s new is told done = λ choice.
    same_act (always (offer_within line largest (suback p.identifier codes))) (subscribe_by true (env_in choice s) line x p) s new (refused_is line x p largest codes (env_in choice s) s.broker is told) done

-- or that is refused
pub refused_left : (line : ℕ) (x : Session) (p : Subscribe) (largest : Option ℕ) (codes : List ℕ) (fault : StepFault) (s new : Stepping) → largest ≡ largest_on line s.broker
    → codes ≡ map (λ (a : Asked). identifier_in_use) p.subscriptions → IsLeft (always (offer_within line largest (suback p.identifier codes))) fault s new → Leaves (λ env. subscribe_by true env line x p) fault s new
refused_left line x p largest codes fault s new is told left = λ choice.
    same_left (always (offer_within line largest (suback p.identifier codes))) (subscribe_by true (env_in choice s) line x p) fault s new (refused_is line x p largest codes (env_in choice s) s.broker is told) left

-- ---- what is told

-- the SUBACK, and the copies behind it: that is what is told
pub told_ok : (line : ℕ) (largest : Option ℕ) (identifier : ℕ) (codes : List ℕ) (late : List MessageCopy) (s s1 s2 : Stepping) → Did (always (offer_within line largest (suback identifier codes))) s s1
    → Did (late_sends line late) s1 s2 → Did (tells line largest identifier codes late) s s2
told_ok line largest identifier codes late s s1 s2 first second =
    did_then (always (offer_within line largest (suback identifier codes))) (late_sends line late) s s1 s2 first second

-- telling may be refused at the SUBACK
pub told_first : (line : ℕ) (largest : Option ℕ) (identifier : ℕ) (codes : List ℕ) (late : List MessageCopy) (fault : StepFault) (s new : Stepping)
    → IsLeft (always (offer_within line largest (suback identifier codes))) fault s new → IsLeft (tells line largest identifier codes late) fault s new
told_first line largest identifier codes late fault s new left =
    left_first (always (offer_within line largest (suback identifier codes))) (late_sends line late) fault s new left

-- or at the copies
pub told_then : (line : ℕ) (largest : Option ℕ) (identifier : ℕ) (codes : List ℕ) (late : List MessageCopy) (fault : StepFault) (s s1 new : Stepping) → Did (always (offer_within line largest (suback identifier codes))) s s1
    → IsLeft (late_sends line late) fault s1 new → IsLeft (tells line largest identifier codes late) fault s new
told_then line largest identifier codes late fault s s1 new first left =
    left_then (always (offer_within line largest (suback identifier codes))) (late_sends line late) fault s s1 new first left

-- ---- answered

-- what was found, and what the filters came to
pub record Answered (line birth : ℕ) (identifier : Option ℕ) (x : Session) (p : Subscribe) (largest : Option ℕ) (codes : List ℕ) (late : List MessageCopy) (s : Stepping) : Type 0 where
  pub found : session_at birth s.broker.records ≡ Some x
  pub number : identifier ≡ number_at SubscriptionIdentifier p.properties
  pub on : largest ≡ largest_on line s.broker
  pub coded : (choice : MemberChoice) → codes ≡ (all_answers birth identifier p.subscriptions (env_in choice s) s.broker).codes
  pub sent : (choice : MemberChoice) → addressed_all late ≡ (all_answers birth identifier p.subscriptions (env_in choice s) s.broker).late

-- SUBACK by the state before the filters were answered, and the late copies, by the rules
abbrev told_by : ℕ → Subscribe → FilterAnswers → Broker → Act
told_by line p a b = then (offer (line_at line b) (suback p.identifier a.codes)) (series (map (late_send line) a.late))

told_is : (line birth : ℕ) (identifier : Option ℕ) (x : Session) (p : Subscribe) (largest : Option ℕ) (codes : List ℕ) (late : List MessageCopy) (s : Stepping) (choice : MemberChoice) (c : Broker)
    → Answered line birth identifier x p largest codes late s
    → tells line largest p.identifier codes late c ≡ told_by line p (all_answers birth identifier p.subscriptions (env_in choice s) s.broker) s.broker c
told_is line birth identifier x p largest codes late s choice c w =
    let b : Broker = s.broker in
    let a : FilterAnswers = all_answers birth identifier p.subscriptions (env_in choice s) b in
    ap (λ l. tells line l p.identifier codes late c) w.on
    ∙ (ap (λ cs. tells line (largest_on line b) p.identifier cs late c) (w.coded choice)
    ∙ (ap (λ ds. then ds (late_sends line late) c) (offer_is line (suback p.identifier a.codes) b)
    ∙ ap (λ (ds : List CopyTo). then (offer (line_at line b) (suback p.identifier a.codes)) (series (map (late_send line) ds)) c) (w.sent choice)))

by_rules : (line : ℕ) (x : Session) (p : Subscribe) (env : Env) (b : Broker)
    → then (answers_all x.birth (number_at SubscriptionIdentifier p.properties) p.subscriptions env b)
    (told_by line p (all_answers x.birth (number_at SubscriptionIdentifier p.properties) p.subscriptions env b) b) b
    ≡ subscribe_by false env line x p b
by_rules line x p env b =
    let a : FilterAnswers = all_answers x.birth (number_at SubscriptionIdentifier p.properties) p.subscriptions env b in
    let told : List Deed = offer (line_at line b) (suback p.identifier a.codes) in
    let lates : Act = series (map (late_send line) a.late) in
    ap (λ c. a.deeds ++ (told ++ lates c)) (sym (after_append a.deeds told b))
    ∙ sym (append_assoc a.deeds told (lates (after_all (a.deeds ++ told) b)))

packet_is : (line birth : ℕ) (identifier : Option ℕ) (x : Session) (p : Subscribe) (largest : Option ℕ) (codes : List ℕ) (late : List MessageCopy) (s : Stepping) (choice : MemberChoice)
    → Answered line birth identifier x p largest codes late s
    → then (answers_all birth identifier p.subscriptions (env_in choice s) s.broker) (tells line largest p.identifier codes late) s.broker ≡ subscribe_by false (env_in choice s) line x p s.broker
packet_is line birth identifier x p largest codes late s choice w =
    let own : x.birth ≡ birth = found_birth birth s.broker.records.sessions x w.found in
    let by : ℕ → Option ℕ → FilterAnswers = λ n i. all_answers n i p.subscriptions (env_in choice s) s.broker in
    let first : List Deed = (by birth identifier).deeds in
    ap (λ ds. first ++ ds) (told_is line birth identifier x p largest codes late s choice (after_all first s.broker) w)
    ∙ (ap (λ n. then (by n identifier).deeds (told_by line p (by n identifier) s.broker) s.broker) (sym own)
    ∙ (ap (λ i. then (by x.birth i).deeds (told_by line p (by x.birth i) s.broker) s.broker) w.number
    ∙ by_rules line x p (env_in choice s) s.broker))

-- answers to all filters, and what is told: that is the SUBSCRIBE
pub packet_ok : (line birth : ℕ) (identifier : Option ℕ) (x : Session) (p : Subscribe) (largest : Option ℕ) (codes : List ℕ) (late : List MessageCopy) (s s1 s2 : Stepping)
    → Answered line birth identifier x p largest codes late s → Does (answers_all birth identifier p.subscriptions) s s1
    → Did (tells line largest p.identifier codes late) s1 s2 → Does (λ env. subscribe_by false env line x p) s s2
packet_ok line birth identifier x p largest codes late s s1 s2 w first second = λ choice.
    let act : Act = answers_all birth identifier p.subscriptions (env_in choice s) in
    let more : Act = tells line largest p.identifier codes late in
    same_act (λ b. then (act b) more b) (subscribe_by false (env_in choice s) line x p) s s2
    (packet_is line birth identifier x p largest codes late s choice w)
    (did_then act more s s1 s2 (first choice) second)

-- it may be refused at what is told
pub told_left : (line birth : ℕ) (identifier : Option ℕ) (x : Session) (p : Subscribe) (largest : Option ℕ) (codes : List ℕ) (late : List MessageCopy) (fault : StepFault) (s s1 new : Stepping)
    → Answered line birth identifier x p largest codes late s → Does (answers_all birth identifier p.subscriptions) s s1
    → IsLeft (tells line largest p.identifier codes late) fault s1 new → Leaves (λ env. subscribe_by false env line x p) fault s new
told_left line birth identifier x p largest codes late fault s s1 new w first left = λ choice.
    let act : Act = answers_all birth identifier p.subscriptions (env_in choice s) in
    let more : Act = tells line largest p.identifier codes late in
    same_left (λ b. then (act b) more b) (subscribe_by false (env_in choice s) line x p) fault s new
    (packet_is line birth identifier x p largest codes late s choice w)
    (left_then act more fault s s1 new (first choice) left)

-- a filter is refused, whatever would be told
pub filters_left : (line birth : ℕ) (identifier : Option ℕ) (x : Session) (p : Subscribe) (fault : StepFault) (s new : Stepping) → session_at birth s.broker.records ≡ Some x
    → identifier ≡ number_at SubscriptionIdentifier p.properties → Leaves (answers_all birth identifier p.subscriptions) fault s new → Leaves (λ env. subscribe_by false env line x p) fault s new
filters_left line birth identifier x p fault s new found number left = λ choice.
    let own : x.birth ≡ birth = found_birth birth s.broker.records.sessions x found in
    let by : ℕ → Option ℕ → Act = λ n i. answers_all n i p.subscriptions (env_in choice s) in
    let asked : Option ℕ = number_at SubscriptionIdentifier p.properties in
    let more : Act = told_by line p (all_answers x.birth asked p.subscriptions (env_in choice s) s.broker) s.broker in
    same_left (λ b. then (by x.birth asked b) more b) (subscribe_by false (env_in choice s) line x p) fault s new (by_rules line x p (env_in choice s) s.broker)
    (left_first (by x.birth asked) more fault s new
    (subst (λ i. IsLeft (by x.birth i) fault s new) number (subst (λ n. IsLeft (by n identifier) fault s new) (sym own) (left choice))))

-- ---- the packet

whole_is : (line birth : ℕ) (x : Session) (p : Subscribe) (t : Bool) (env : Env) (b : Broker) → session_at birth b.records ≡ Some x → is_among p.identifier x.inbound ≡ t
    → subscribe_by t env line x p b ≡ of_session birth (λ y. on_subscribe env line y p) b
whole_is line birth x p t env b found is =
    ap (λ u. subscribe_by u env line x p b) (sym is) ∙ with_found birth (λ y. on_subscribe env line y p) x b found

-- a SUBSCRIBE is taken as its identifier is free or in use
pub whole_ok : (line birth : ℕ) (x : Session) (p : Subscribe) (t : Bool) (s new : Stepping) → session_at birth s.broker.records ≡ Some x → is_among p.identifier x.inbound ≡ t
    → Does (λ env. subscribe_by t env line x p) s new → Does (λ env. of_session birth (λ y. on_subscribe env line y p)) s new
whole_ok line birth x p t s new found is done = λ choice.
    same_act (subscribe_by t (env_in choice s) line x p) (of_session birth (λ y. on_subscribe (env_in choice s) line y p)) s new (whole_is line birth x p t (env_in choice s) s.broker found is) (done choice)

-- or that is refused
pub whole_left : (line birth : ℕ) (x : Session) (p : Subscribe) (t : Bool) (fault : StepFault) (s new : Stepping) → session_at birth s.broker.records ≡ Some x → is_among p.identifier x.inbound ≡ t
    → Leaves (λ env. subscribe_by t env line x p) fault s new → Leaves (λ env. of_session birth (λ y. on_subscribe env line y p)) fault s new
whole_left line birth x p t fault s new found is left = λ choice.
    same_left (subscribe_by t (env_in choice s) line x p) (of_session birth (λ y. on_subscribe (env_in choice s) line y p)) fault s new (whole_is line birth x p t (env_in choice s) s.broker found is) (left choice)
