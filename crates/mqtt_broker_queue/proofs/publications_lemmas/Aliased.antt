-- A PUBLISH that means a topic: its Topic Alias is set first.
use Rattle.std.proofs.Common.{◌≡◌, ℕ, List, [], ◌∷◌, refl, ap, sym, subst, ◌∙◌}
use Rattle.std.specs.Prelude.{Option, Some, None}
use Rattle.mqtt_packet.specs.declared.codec.publish.Publish.{Publish}
use Rattle.mqtt_props.specs.declared.table.PropName.TheVariants.{SubscriptionIdentifier, TopicAlias}
use Rattle.mqtt_props.specs.Laws.{has}
use Rattle.mqtt_topic.specs.names.Aliases.{AliasTable, IsInRange, Resolves}
use Rattle.mqtt_topic.specs.names.Names.{is_empty}
use Rattle.mqtt_records.specs.messages.PassedOn.{number_at}
use Rattle.mqtt_records.specs.declared.state.session.Session.{Session}
use Rattle.mqtt_rules.specs.step.State.{Broker, Line, Env, MemberChoice}
use Rattle.mqtt_rules.specs.step.Deeds.{Act, always, series, then}
use Rattle.mqtt_rules.specs.step.Inbound.{Means, meaning, message_of, on_publish, publish_by, publish_meant, resolved, sets_alias, standing}
use Rattle.mqtt_rules.proofs.step_lemmas.acts.Meanings.{identified_only, resolved_only}
use Rattle.mqtt_broker_step.specs.declared.fault.StepFault.{StepFault}
use Rattle.mqtt_broker_step.specs.Stepping.{Stepping, did, Did, IsLeft, env_in}
use Rattle.mqtt_broker_step.proofs.Doing.{did_none}
use Rattle.mqtt_broker_queue.specs.publications.Choosing.{DoesSome, LeavesSome}
use Rattle.mqtt_broker_step.proofs.Then.{same_act, same_left, did_then, left_first, left_then}
use Rattle.mqtt_broker_queue.proofs.publications_lemmas.Leading.{same_env}
use Rattle.mqtt_broker_queue.specs.declared.publications.client_publish.Handled.{Handled}
use Rattle.mqtt_broker_queue.specs.declared.publications.client_publish.Handled.TheVariants as handled
use Rattle.mqtt_broker_queue.specs.publications.Publishing.{alias_set, HasAnswered, HasPublished}

resolved_range : (table : AliasTable) (topic : List ℕ) (alias : ℕ) (name : List ℕ) → Resolves table topic (Some alias) name → IsInRange table.max alias
resolved_range table [] alias name h = h.0
resolved_range table (c ∷ cs) alias name h = h.0

-- the alias of a PUBLISH that means a topic is in range
pub alias_range : (p : Publish) (table : AliasTable) (topic : List ℕ) (alias : ℕ) → number_at TopicAlias p.properties ≡ Some alias → meaning p table ≡ Means topic → IsInRange table.max alias
alias_range p table topic alias there means =
    resolved_range table p.topic alias topic
    (subst (λ (o : Option ℕ). Resolves table p.topic o topic) there
    (resolved_only table p.topic (number_at TopicAlias p.properties) topic
    (identified_only (has SubscriptionIdentifier p.properties) (resolved table p.topic (number_at TopicAlias p.properties)) topic means)))

-- what stands stays while an alias is set
records_stay : (o : Option ℕ) (line : ℕ) (p topic : List ℕ) (s : Stepping) → (did (sets_alias (is_empty p) o line topic) s).broker.records ≡ s.broker.records
records_stay None line [] topic s = refl
records_stay (Some n) line [] topic s = refl
records_stay None line (c ∷ cs) topic s = refl
records_stay (Some n) line (c ∷ cs) topic s = refl

-- to set an alias changes nothing that is stored
pub stored_stays : (line : ℕ) (p : Publish) (topic : List ℕ) (s s1 : Stepping) → Did (alias_set line p topic) s s1 → s1.broker.records ≡ s.broker.records
stored_stays line p topic s s1 set = ap (λ (t : Stepping). t.broker.records) set.is ∙ records_stay (number_at TopicAlias p.properties) line p.topic topic s

module _ (l : Line) (x : Session) (p : Publish) (topic : List ℕ) (means : meaning p l.aliases ≡ Means topic) where
  abbrev rest : Env → Act
  rest env = publish_by (standing p.delivery x.inbound) env l x p (message_of x.client topic p)

  whole_is : (env : Env) (b : Broker) → then (alias_set l.number p topic b) (series (rest env ∷ [])) b ≡ on_publish env l x p b
  whole_is env b = ap (λ m. publish_meant m env l x p b) (sym means)

  one : (f : Act) (s s1 : Stepping) → Did f s s1 → Did (series (f ∷ [])) s s1
  one f s s1 is = same_act (λ b. then (f b) (always []) b) (series (f ∷ [])) s s1 refl (did_then f (always []) s s1 s1 is (record { is = sym (did_none s1) }))

  one_left : (f : Act) (fault : StepFault) (s s1 : Stepping) → IsLeft f fault s s1 → IsLeft (series (f ∷ [])) fault s s1
  one_left f fault s s1 is = left_first f (always []) fault s s1 is

  env_stays : (choice : MemberChoice) (s s1 : Stepping) → Did (alias_set l.number p topic) s s1 → env_in choice s1 ≡ env_in choice s
  env_stays choice s s1 set = same_env choice s s1 (ap (λ (t : Stepping). t.start) set.is) (ap (λ (t : Stepping). t.limits) set.is)

  -- a PUBLISH is done once its alias is set and what it is by its identifier is done
  pub alias_does : (s s1 s2 : Stepping) → Did (alias_set l.number p topic) s s1 → DoesSome rest s1 s2 → DoesSome (λ env. on_publish env l x p) s s2
  alias_does s s1 s2 set done = record {
    number = done.number;
    sender = done.sender;
    members = done.members;
    is = λ choice chosen.
        let e = env_in choice s in
        same_act (λ b. then (alias_set l.number p topic b) (series (rest e ∷ [])) b) (on_publish e l x p) s s2 (whole_is e s.broker)
        (did_then (alias_set l.number p topic) (series (rest e ∷ [])) s s1 s2 set
        (one (rest e) s1 s2 (subst (λ (y : Env). Did (rest y) s1 s2) (env_stays choice s s1 set) (done.is choice chosen))));
  }

  -- a PUBLISH is refused if what it is by its identifier is, once its alias is set
  pub alias_leaves : (fault : StepFault) (s s1 s2 : Stepping) → Did (alias_set l.number p topic) s s1 → LeavesSome rest fault s1 s2 → LeavesSome (λ env. on_publish env l x p) fault s s2
  alias_leaves fault s s1 s2 set left = record {
    number = left.number;
    sender = left.sender;
    members = left.members;
    is = λ choice chosen.
        let e = env_in choice s in
        same_left (λ b. then (alias_set l.number p topic b) (series (rest e ∷ [])) b) (on_publish e l x p) fault s s2 (whole_is e s.broker)
        (left_then (alias_set l.number p topic) (series (rest e ∷ [])) fault s s1 s2 set
        (one_left (rest e) fault s1 s2 (subst (λ (y : Env). IsLeft (rest y) fault s1 s2) (env_stays choice s s1 set) (left.is choice chosen))));
  }

  -- a PUBLISH is refused if setting its alias is
  pub alias_refused : (fault : StepFault) (s new : Stepping) → IsLeft (alias_set l.number p topic) fault s new → LeavesSome (λ env. on_publish env l x p) fault s new
  alias_refused fault s new left = record {
    number = 0;
    sender = [];
    members = [];
    is = λ choice chosen.
        let e = env_in choice s in
        same_left (λ b. then (alias_set l.number p topic b) (series (rest e ∷ [])) b) (on_publish e l x p) fault s new (whole_is e s.broker)
        (left_first (alias_set l.number p topic) (series (rest e ∷ [])) fault s new left);
  }

  -- what became of a PUBLISH by its identifier, once its alias is set, became of it
  pub answered : (r : Handled) (s s1 s2 : Stepping) → Did (alias_set l.number p topic) s s1 → HasAnswered l x p topic s1 s2 r → HasPublished l x p s s2 r
  answered handled.Done s s1 s2 set h = alias_does s s1 s2 set h
  answered (handled.Wrong code) s s1 s2 set h = absurd h
  answered handled.Over s s1 s2 set h = record {
    topic = topic;
    means = means;
    over = h.0;
    did = subst (λ (t : Stepping). Did (alias_set l.number p topic) s t) (sym h.1) set;
  }
