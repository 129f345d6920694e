-- An index of subscriptions, and what a publication becomes by it (MQTT 5.0, 3.3.4, 3.8, 4.8).
use Rattle.std.specs.Prelude.{◌≡◌, ℕ, ◌≤◌, List, [], ◌++◌, length, map, flat_map, Option}
use Rattle.std.specs.List.{AllByRecursion}
use Rattle.mqtt_base.specs.declared.limits.TheConstants.{SUBSCRIPTION_LIMIT}
use Rattle.mqtt_base.specs.declared.session.Cause.{Cause}
use Rattle.mqtt_base.specs.declared.session.Cause.TheVariants.{Direct, Share}
use Rattle.mqtt_keep.specs.lawful.Lawful.{IsIdentifier}
use Rattle.mqtt_records.specs.declared.messages.message.MessageCopy.{MessageCopy}
use Rattle.mqtt_routes.specs.routing.Subscriptions.{Subscriber, AreInOrder, with_some}
use Rattle.mqtt_routes.specs.routing.Intended.{Answers, Copy}
use Rattle.mqtt_routes.specs.routing.Acceptance.{Routed, Served, copies_in, has_takers, routed}
use Rattle.mqtt_rules.specs.step.Deeds.{Message}
use Rattle.mqtt_rules.specs.step.Routing.{answers, copy_to, next_publication, publication_of}
use Rattle.mqtt_broker_step.specs.Stepping.{Stepping, env_in}
use Rattle.mqtt_broker_queue.specs.publications.Copies.{addressee}
use Rattle.mqtt_broker_queue.specs.declared.publications.copies.Addressee.{Addressee}
use Rattle.mqtt_broker_queue.specs.declared.publications.router.Routing.{Routing}
use Rattle.mqtt_broker_queue.specs.declared.publications.router.Routing.TheVariants.{Refused, Accepted}

-- ---- what the index is

-- Subscription Identifiers that have a spelling, and no more subscriptions than a session may have
pub record IsLawful (x : Subscriber) : Type 0 where
  pub identifiers : AllByRecursion (λ s. IsIdentifier s.identifier) x.subs
  pub few : length x.subs ≤ SUBSCRIPTION_LIMIT

-- the table is that of these sessions, those without subscriptions aside, and in the order of births
pub record Serves (table sessions : List Subscriber) : Type 0 where
  pub same : with_some table ≡ with_some sessions
  pub order : AreInOrder table
  pub lawful : AllByRecursion IsLawful table

-- ---- what is asked of the sessions of a step; no choice has a part in it

abbrev pub answers_in : Stepping → Answers
answers_in s = answers (env_in (λ number sender. []) s) s.broker.records

-- ---- what a publication becomes

-- where it goes by the index, for some choice of members
abbrev pub IsFound : Message → Stepping → List Subscriber → Option Routed → Type 0
IsFound m s table o = (members : List ℕ) × (routed (answers_in s) (publication_of m) members table ≡ o)

-- who gets a copy as it was routed: the direct ones, then those of the groups
abbrev pub served_addressees : Served → List Addressee
served_addressees s = map (addressee (Share s.group)) (copies_in s.copy)

abbrev pub addressees : Routed → List Addressee
addressees r = map (addressee Direct) r.direct ++ flat_map served_addressees r.served

-- its copies, which have their sessions in their names
abbrev pub copied : ℕ → ℕ → Message → Cause → Copy → MessageCopy
copied number moment m cause c = (copy_to number moment m cause c).copy

abbrev pub served_copied : ℕ → ℕ → Message → Served → List MessageCopy
served_copied number moment m s = map (copied number moment m (Share s.group)) (copies_in s.copy)

abbrev pub all_copied : ℕ → ℕ → Message → Routed → List MessageCopy
all_copied number moment m r =
    map (copied number moment m Direct) r.direct ++ flat_map (served_copied number moment m) r.served

-- it is accepted in these copies, and told whether somebody is there
abbrev pub IsTakenAs : Message → Stepping → Routed → Routing → Type 0
IsTakenAs m s r Refused = ⊥
IsTakenAs m s r (Accepted copies wanted) =
    (copies ≡ all_copied (next_publication s.broker.records) s.broker.now m r) × (wanted ≡ has_takers r)
