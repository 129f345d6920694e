-- What comes in packets and stays: names, open identifiers, filters, and the groups of copies (MQTT 5.0, 2.2.1, 3.1.3.1, 4.8.2).
use Rattle.std.specs.Prelude.{◌≤◌, length, IsTrue}
use Rattle.std.specs.List.{AllByRecursion}
use Rattle.mqtt_base.specs.Values.{FitsText}
use Rattle.mqtt_base.specs.declared.session.Cause.{Cause}
use Rattle.mqtt_base.specs.declared.session.Cause.TheVariants.{Direct, Share, Retained}
use Rattle.mqtt_keep.specs.lawful.Lawful.{IsGroup}
use Rattle.mqtt_records.specs.declared.state.records.Records.{Records}
use Rattle.mqtt_records.specs.declared.state.session.Session.{Session}
use Rattle.mqtt_records.specs.declared.state.subscription.Subscription.{Subscription}
use Rattle.mqtt_topic.specs.names.Filters.{is_filter}

-- a filter that packets can carry
pub record HasFilter (x : Subscription) : Type 0 where
  pub filter : IsTrue (is_filter x.filter)
  pub fits : FitsText x.filter

-- by a group that there may be, if by one
abbrev pub IsGroupOf : Cause → Type 0
IsGroupOf Direct = Unit {0}
IsGroupOf (Share group) = IsGroup group
IsGroupOf (Retained subscribe) = Unit {0}

-- a session has a client identifier, its open identifiers are from 1, and its filters and its copies' groups are such
pub record HasTexts (s : Session) : Type 0 where
  pub named : 1 ≤ length s.client
  pub inbound : AllByRecursion (λ identifier. 1 ≤ identifier) s.inbound
  pub subscriptions : AllByRecursion HasFilter s.subscriptions
  pub queue : AllByRecursion (λ row. IsGroupOf row.copy.id.cause) s.queue

abbrev pub HaveTexts : Records → Type 0
HaveTexts r = AllByRecursion HasTexts r.sessions
