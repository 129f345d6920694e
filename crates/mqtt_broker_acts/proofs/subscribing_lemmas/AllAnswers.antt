-- The filters of a SUBSCRIBE, one after the other: their deeds, codes and late copies.
use Rattle.std.proofs.Common.{◌≡◌, ℕ, suc, ◌<◌, List, [], ◌∷◌, ◌++◌, length, Option, Some, None, refl, ap, sym, subst, ◌∙◌, append_assoc, append-nil}
use Rattle.std.specs.Prelude.{map}
use Rattle.std.specs.List.{AllByRecursion}
use Rattle.mqtt_base.specs.Codes.{topic_filter_invalid}
use Rattle.mqtt_base.specs.Values.{FitsText}
use Rattle.mqtt_base.specs.declared.session.SubscriptionOptions.{SubscriptionOptions}
use Rattle.mqtt_packet.specs.subscribe.Options.{options_of, options_byte}
use Rattle.mqtt_packet.specs.subscribe.Subscriptions.{Subscription as Asked, IsSubscription}
use Rattle.mqtt_records.specs.messages.Queue.{IsSpelled}
use Rattle.mqtt_records.specs.declared.messages.message.MessageCopy.{MessageCopy}
use Rattle.mqtt_records.specs.declared.messages.message.RetainedMessage.{RetainedMessage}
use Rattle.mqtt_records.specs.declared.state.session.Session.{Session}
use Rattle.mqtt_packet.proofs.subscribe_lemmas.OptionLemmas.{options_is, options_again}
use Rattle.mqtt_rules.specs.step.Contents.{IsPublished}
use Rattle.mqtt_rules.specs.step.State.{Broker, Env, MemberChoice, session_at}
use Rattle.mqtt_rules.specs.step.Deeds.{Act, Deed, series, after_all}
use Rattle.mqtt_rules.specs.step.Routing.{CopyTo}
use Rattle.mqtt_rules.specs.step.Subscribe.{FilterAnswer, refused_filter, filter_answer_of, wish_by, wish_of}
use Rattle.mqtt_broker_step.specs.declared.fault.StepFault.{StepFault}
use Rattle.mqtt_broker_step.specs.Stepping.{Stepping, did, Does, Leaves, env_in}
use Rattle.mqtt_broker_step.specs.Subscribing.{HaveFiltersOnce}
use Rattle.mqtt_broker_step.proofs.Doing.{did_none}
use Rattle.mqtt_broker_step.proofs.Then.{same_act, same_left}
use Rattle.mqtt_broker_queue.specs.publications.Delivering.{addressed_all}
use Rattle.mqtt_broker_queue.proofs.publications_lemmas.Leading.{LeadsOn, leads_first, leads_next, leads_left, leads_last, same_env}
use Rattle.mqtt_broker_acts.specs.subscribing.Answering.{asking, answer_to, answers_to, all_answers, answers_all}
use Rattle.mqtt_broker_acts.specs.subscribing.Granting.{asked_for, answer_at, answers}
use Rattle.mqtt_broker_acts.proofs.subscribing_lemmas.Keeping.{retained_stays}
use Rattle.mqtt_broker_acts.proofs.subscribing_lemmas.Removed.{once_kept}

-- ---- one filter

-- a byte that says no options
pub no_options : (byte : ℕ) (o : Option SubscriptionOptions) → byte < 256 → o ≡ None → ((options : SubscriptionOptions) → byte ≡ options_byte options → o ≡ Some options) → options_of byte ≡ None
no_options byte o small none only = by (options_of byte) refl
  where
    by : (found : Option SubscriptionOptions) → options_of byte ≡ found → found ≡ None
    by None is = refl
    by (Some options) is =
        let some : o ≡ Some options = only options (options_is byte options small is) in
        absurd cc

none_is : (env : Env) (b : Broker) (o : Option Session) → filter_answer_of env None b o ≡ refused_filter topic_filter_invalid
none_is env b None = refl
none_is env b (Some s) = refl

-- options that are none get 0x8f and nothing else
pub unread_is : (birth : ℕ) (identifier : Option ℕ) (text : List ℕ) (byte : ℕ) (env : Env) (b : Broker) → options_of byte ≡ None → answer_to birth identifier (asking text byte) env b ≡ refused_filter topic_filter_invalid
unread_is birth identifier text byte env b none =
    ap (λ o. filter_answer_of env (wish_by text identifier o) b (session_at birth b.records)) none
    ∙ none_is env b (session_at birth b.records)

-- that is done by doing nothing
pub unread_does : (birth : ℕ) (identifier : Option ℕ) (text : List ℕ) (byte : ℕ) (s : Stepping) → options_of byte ≡ None → Does (answers_to birth identifier (asking text byte)) s s
unread_does birth identifier text byte s none = λ choice. record {
  is = sym (did_none s) ∙ ap (λ (a : FilterAnswer). did a.deeds s) (sym (unread_is birth identifier text byte (env_in choice s) s.broker none));
}

-- its code is added
pub unread_code : (birth : ℕ) (identifier : Option ℕ) (text : List ℕ) (byte : ℕ) (codes codes2 : List ℕ) (env : Env) (b : Broker) → options_of byte ≡ None → codes2 ≡ codes ++ topic_filter_invalid ∷ []
    → codes2 ≡ codes ++ (answer_to birth identifier (asking text byte) env b).code ∷ []
unread_code birth identifier text byte codes codes2 env b none pushed =
    pushed ∙ ap (λ (a : FilterAnswer). codes ++ a.code ∷ []) (sym (unread_is birth identifier text byte env b none))

-- and no copy
pub unread_late : (birth : ℕ) (identifier : Option ℕ) (text : List ℕ) (byte : ℕ) (late : List CopyTo) (env : Env) (b : Broker) → options_of byte ≡ None
    → late ≡ late ++ (answer_to birth identifier (asking text byte) env b).late
unread_late birth identifier text byte late env b none =
    sym (append-nil late) ∙ ap (λ (a : FilterAnswer). late ++ a.late) (sym (unread_is birth identifier text byte env b none))

-- a byte that says options
pub read_is : (birth : ℕ) (identifier : Option ℕ) (text : List ℕ) (byte : ℕ) (options : SubscriptionOptions) (env : Env) (b : Broker) → byte ≡ options_byte options
    → answer_at birth (asked_for text options identifier) env b ≡ answer_to birth identifier (asking text byte) env b
read_is birth identifier text byte options env b is =
    let said : Some options ≡ options_of byte = sym (ap options_of is ∙ options_again options) in
    ap (λ o. filter_answer_of env (wish_by text identifier o) b (session_at birth b.records)) said

-- options that are read are answered as they are asked for
pub read_does : (birth : ℕ) (identifier : Option ℕ) (text given : List ℕ) (byte : ℕ) (options : SubscriptionOptions) (s new : Stepping) → byte ≡ options_byte options → given ≡ text
    → Does (answers birth (asked_for given options identifier)) s new → Does (answers_to birth identifier (asking text byte)) s new
read_does birth identifier text given byte options s new is same done = λ choice.
    same_act (answers birth (asked_for given options identifier) (env_in choice s)) (answers_to birth identifier (asking text byte) (env_in choice s)) s new
    (ap (λ t. answers birth (asked_for t options identifier) (env_in choice s) s.broker) same
    ∙ ap (λ (a : FilterAnswer). a.deeds) (read_is birth identifier text byte options (env_in choice s) s.broker is))
    (done choice)

-- or that is refused
pub read_left : (birth : ℕ) (identifier : Option ℕ) (text given : List ℕ) (byte : ℕ) (options : SubscriptionOptions) (fault : StepFault) (s new : Stepping) → byte ≡ options_byte options → given ≡ text
    → Leaves (answers birth (asked_for given options identifier)) fault s new → Leaves (answers_to birth identifier (asking text byte)) fault s new
read_left birth identifier text given byte options fault s new is same left = λ choice.
    same_left (answers birth (asked_for given options identifier) (env_in choice s)) (answers_to birth identifier (asking text byte) (env_in choice s)) fault s new
    (ap (λ t. answers birth (asked_for t options identifier) (env_in choice s) s.broker) same
    ∙ ap (λ (a : FilterAnswer). a.deeds) (read_is birth identifier text byte options (env_in choice s) s.broker is))
    (left choice)

-- the code of the answer is added
pub read_code : (birth : ℕ) (identifier : Option ℕ) (text given : List ℕ) (byte : ℕ) (options : SubscriptionOptions) (codes codes2 : List ℕ) (env : Env) (b : Broker) → byte ≡ options_byte options → given ≡ text
    → codes2 ≡ codes ++ (answer_at birth (asked_for given options identifier) env b).code ∷ [] → codes2 ≡ codes ++ (answer_to birth identifier (asking text byte) env b).code ∷ []
read_code birth identifier text given byte options codes codes2 env b is same pushed =
    pushed
    ∙ (ap (λ t. codes ++ (answer_at birth (asked_for t options identifier) env b).code ∷ []) same
    ∙ ap (λ (a : FilterAnswer). codes ++ a.code ∷ []) (read_is birth identifier text byte options env b is))

-- and the copies that it brings
pub read_late : (birth : ℕ) (identifier : Option ℕ) (text given : List ℕ) (byte : ℕ) (options : SubscriptionOptions) (late late2 : List CopyTo) (env : Env) (b : Broker) → byte ≡ options_byte options → given ≡ text
    → late2 ≡ late ++ (answer_at birth (asked_for given options identifier) env b).late → late2 ≡ late ++ (answer_to birth identifier (asking text byte) env b).late
read_late birth identifier text given byte options late late2 env b is same pushed =
    pushed
    ∙ (ap (λ t. late ++ (answer_at birth (asked_for t options identifier) env b).late) same
    ∙ ap (λ (a : FilterAnswer). late ++ a.late) (read_is birth identifier text byte options env b is))

-- ---- all

abbrev pub each_answer : ℕ → Option ℕ → List Asked → Env → Act
each_answer birth identifier filters env = series (map (λ a. answers_to birth identifier a env) filters)

deeds_are : (birth : ℕ) (identifier : Option ℕ) (filters : List Asked) (env : Env) (b : Broker) → each_answer birth identifier filters env b ≡ answers_all birth identifier filters env b
deeds_are birth identifier [] env b = refl
deeds_are birth identifier (a ∷ rest) env b =
    let ds : List Deed = answers_to birth identifier a env b in
    ap (λ es. ds ++ es) (deeds_are birth identifier rest env (after_all ds b))

-- each filter has one answer
pub length_answers : (birth : ℕ) (identifier : Option ℕ) (filters : List Asked) (env : Env) (b : Broker) → length (all_answers birth identifier filters env b).codes ≡ length filters
length_answers birth identifier [] env b = refl
length_answers birth identifier (a ∷ rest) env b = ap suc (length_answers birth identifier rest env (after_all (answers_to birth identifier a env b) b))

-- those of the rest lead on to those of all
pub record Answering (birth : ℕ) (identifier : Option ℕ) (rest all : List Asked) (codes : List ℕ) (late : List MessageCopy) (first s : Stepping) : Type 0 where
  pub leads : LeadsOn (each_answer birth identifier rest) (each_answer birth identifier all) first s
  pub coded : (choice : MemberChoice) → codes ++ (all_answers birth identifier rest (env_in choice first) s.broker).codes ≡ (all_answers birth identifier all (env_in choice first) first.broker).codes
  pub sent : (choice : MemberChoice) → addressed_all late ++ (all_answers birth identifier rest (env_in choice first) s.broker).late ≡ (all_answers birth identifier all (env_in choice first) first.broker).late
  pub once : HaveFiltersOnce s.broker.records
  pub lawful : AllByRecursion (λ (k : RetainedMessage). IsPublished k.content) s.broker.records.retained
  pub fit : AllByRecursion IsSubscription rest
  pub spelled : AllByRecursion IsSpelled late

-- at first all filters are still to be answered
pub answers_first : (birth : ℕ) (identifier : Option ℕ) (all : List Asked) (codes : List ℕ) (late : List MessageCopy) (first : Stepping) → codes ≡ [] → late ≡ [] → HaveFiltersOnce first.broker.records
    → AllByRecursion (λ (k : RetainedMessage). IsPublished k.content) first.broker.records.retained → AllByRecursion IsSubscription all → Answering birth identifier all all codes late first first
answers_first birth identifier all codes late first no_codes no_late once lawful fit = record {
  leads = leads_first (each_answer birth identifier all) first;
  coded = λ choice. ap (λ cs. cs ++ (all_answers birth identifier all (env_in choice first) first.broker).codes) no_codes;
  sent = λ choice. ap (λ (cs : List MessageCopy). addressed_all cs ++ (all_answers birth identifier all (env_in choice first) first.broker).late) no_late;
  once = once;
  lawful = lawful;
  fit = fit;
  spelled = subst (λ (cs : List MessageCopy). AllByRecursion IsSpelled cs) (sym no_late) tt;
}

at_front : (birth : ℕ) (identifier : Option ℕ) (a : Asked) (rest xs all : List Asked) (codes : List ℕ) (late : List MessageCopy) (first s : Stepping) → xs ≡ a ∷ rest
    → Answering birth identifier xs all codes late first s → Answering birth identifier (a ∷ rest) all codes late first s
at_front birth identifier a rest xs all codes late first s is w = subst (λ (ys : List Asked). Answering birth identifier ys all codes late first s) is w

-- the next filter has a text that has a spelling
pub answers_fit : (birth : ℕ) (identifier : Option ℕ) (a : Asked) (rest xs all : List Asked) (codes : List ℕ) (late : List MessageCopy) (first s : Stepping) → xs ≡ a ∷ rest
    → Answering birth identifier xs all codes late first s → FitsText a.filter
answers_fit birth identifier a rest xs all codes late first s is w = (at_front birth identifier a rest xs all codes late first s is w).fit.0.0

-- an answer leaves those behind it
pub answers_step : (birth : ℕ) (identifier : Option ℕ) (a : Asked) (rest xs all : List Asked) (codes codes2 : List ℕ) (late late2 : List MessageCopy) (first s s2 : Stepping) → xs ≡ a ∷ rest
    → Answering birth identifier xs all codes late first s
    → Does (answers_to birth identifier a) s s2
    → ((choice : MemberChoice) → codes2 ≡ codes ++ (answer_to birth identifier a (env_in choice s) s.broker).code ∷ [])
    → ((choice : MemberChoice) → addressed_all late2 ≡ addressed_all late ++ (answer_to birth identifier a (env_in choice s) s.broker).late)
    → (AllByRecursion IsSpelled late → AllByRecursion IsSpelled late2)
    → Answering birth identifier rest all codes2 late2 first s2
answers_step birth identifier a rest xs all codes codes2 late late2 first s s2 is w done coded more spelled =
    let here : Answering birth identifier (a ∷ rest) all codes late first s = at_front birth identifier a rest xs all codes late first s is w in
    let some : MemberChoice = λ n client. [] in
    let same : (choice : MemberChoice) → env_in choice s ≡ env_in choice first = λ choice. same_env choice first s here.leads.start here.leads.limits in
    let left : (choice : MemberChoice) → s2.broker ≡ after_all (answers_to birth identifier a (env_in choice first) s.broker) s.broker =
    λ choice. ap (λ (t : Stepping). t.broker) (done choice).is ∙ ap (λ (e : Env). after_all (answers_to birth identifier a e s.broker) s.broker) (same choice) in
    record {
      leads = leads_next (answers_to birth identifier a) (λ env. map (λ x. answers_to birth identifier x env) rest) (each_answer birth identifier all) first s s2 here.leads done;
      coded = λ choice.
          let g : FilterAnswer = answer_to birth identifier a (env_in choice first) s.broker in
          let one : codes2 ≡ codes ++ g.code ∷ [] = coded choice ∙ ap (λ (e : Env). codes ++ (answer_to birth identifier a e s.broker).code ∷ []) (same choice) in
          ap (λ cs. cs ++ (all_answers birth identifier rest (env_in choice first) s2.broker).codes) one
          ∙ (append_assoc codes (g.code ∷ []) (all_answers birth identifier rest (env_in choice first) s2.broker).codes
          ∙ (ap (λ (b : Broker). codes ++ g.code ∷ (all_answers birth identifier rest (env_in choice first) b).codes) (left choice)
          ∙ here.coded choice));
      sent = λ choice.
          let g : FilterAnswer = answer_to birth identifier a (env_in choice first) s.broker in
          let one : addressed_all late2 ≡ addressed_all late ++ g.late = more choice ∙ ap (λ (e : Env). addressed_all late ++ (answer_to birth identifier a e s.broker).late) (same choice) in
          ap (λ cs. cs ++ (all_answers birth identifier rest (env_in choice first) s2.broker).late) one
          ∙ (append_assoc (addressed_all late) g.late (all_answers birth identifier rest (env_in choice first) s2.broker).late
          ∙ (ap (λ (b : Broker). addressed_all late ++ (g.late ++ (all_answers birth identifier rest (env_in choice first) b).late)) (left choice)
          ∙ here.sent choice));
      once = once_kept (answers_to birth identifier a (env_in some s)) s s2 (done some) here.once;
      lawful = subst (λ (ks : List RetainedMessage). AllByRecursion (λ (k : RetainedMessage). IsPublished k.content) ks)
          (sym (ap (λ (b : Broker). b.records.retained) (left some)
          ∙ retained_stays (env_in some first) (wish_of identifier a) s.broker (session_at birth s.broker.records)))
          here.lawful;
      fit = here.fit.1;
      spelled = spelled here.spelled;
    }

-- the answers may be refused at one
pub answers_left : (birth : ℕ) (identifier : Option ℕ) (a : Asked) (rest xs all : List Asked) (codes : List ℕ) (late : List MessageCopy) (fault : StepFault) (first s new : Stepping) → xs ≡ a ∷ rest
    → Answering birth identifier xs all codes late first s → Leaves (answers_to birth identifier a) fault s new → Leaves (answers_all birth identifier all) fault first new
answers_left birth identifier a rest xs all codes late fault first s new is w left = λ choice.
    let here : Answering birth identifier (a ∷ rest) all codes late first s = at_front birth identifier a rest xs all codes late first s is w in
    same_left (each_answer birth identifier all (env_in choice first)) (answers_all birth identifier all (env_in choice first)) fault first new
    (deeds_are birth identifier all (env_in choice first) first.broker)
    (leads_left (answers_to birth identifier a) (λ env. map (λ x. answers_to birth identifier x env) rest) (each_answer birth identifier all) fault first s new here.leads left choice)

at_end : (birth : ℕ) (identifier : Option ℕ) (rest all : List Asked) (codes : List ℕ) (late : List MessageCopy) (first s : Stepping) → rest ≡ []
    → Answering birth identifier rest all codes late first s → Answering birth identifier [] all codes late first s
at_end birth identifier rest all codes late first s none w = subst (λ (ys : List Asked). Answering birth identifier ys all codes late first s) none w

-- behind the last all are answered
pub answers_done : (birth : ℕ) (identifier : Option ℕ) (rest all : List Asked) (codes : List ℕ) (late : List MessageCopy) (first s : Stepping) → rest ≡ []
    → Answering birth identifier rest all codes late first s → Does (answers_all birth identifier all) first s
answers_done birth identifier rest all codes late first s none w = λ choice.
    let here : Answering birth identifier [] all codes late first s = at_end birth identifier rest all codes late first s none w in
    same_act (each_answer birth identifier all (env_in choice first)) (answers_all birth identifier all (env_in choice first)) first s
    (deeds_are birth identifier all (env_in choice first) first.broker)
    (leads_last (each_answer birth identifier all) first s here.leads choice)

-- and the codes are theirs
pub answers_codes : (birth : ℕ) (identifier : Option ℕ) (rest all : List Asked) (codes : List ℕ) (late : List MessageCopy) (first s : Stepping) (choice : MemberChoice) → rest ≡ []
    → Answering birth identifier rest all codes late first s → codes ≡ (all_answers birth identifier all (env_in choice first) first.broker).codes
answers_codes birth identifier rest all codes late first s choice none w =
    sym (append-nil codes) ∙ (at_end birth identifier rest all codes late first s none w).coded choice

-- and so are the copies that go out behind the SUBACK
pub answers_late : (birth : ℕ) (identifier : Option ℕ) (rest all : List Asked) (codes : List ℕ) (late : List MessageCopy) (first s : Stepping) (choice : MemberChoice) → rest ≡ []
    → Answering birth identifier rest all codes late first s → addressed_all late ≡ (all_answers birth identifier all (env_in choice first) first.broker).late
answers_late birth identifier rest all codes late first s choice none w =
    sym (append-nil (addressed_all late)) ∙ (at_end birth identifier rest all codes late first s none w).sent choice
