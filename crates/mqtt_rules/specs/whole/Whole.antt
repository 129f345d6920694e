-- Copies that fit on a line with their whole topics, and pumps that go by whole topics (MQTT 5.0, 3.1.2.11.4, 3.3.2.3.4).
use Rattle.std.specs.Prelude.{◌≡◌, ℕ, ◌≤◌, List, Some}
use Rattle.std.specs.List.{AllByRecursion}
use Rattle.mqtt_flow.specs.outbound.Outbound.{pump}
use Rattle.mqtt_records.specs.declared.state.session.Session.{Session}
use Rattle.mqtt_records.specs.messages.Queue.{CopyRow}
use Rattle.mqtt_records.specs.declared.messages.message.MessageCopy.{MessageCopy}
use Rattle.mqtt_rules.specs.step.Fitting.{form_of, pump_turns}
use Rattle.mqtt_rules.specs.step.Forms.{form_size}
use Rattle.mqtt_rules.specs.step.Outbound.{way_of}
use Rattle.mqtt_rules.specs.step.State.{Broker, Line, queue_on, queued_copy}
use Rattle.mqtt_topic.specs.sending.Told.{ToldTopics}
use Rattle.mqtt_topic.specs.declared.sending.form.Form.{Form}

-- some form of a copy's PUBLISH is within, to a client that takes so many bytes and was told this
pub record HasFormWithin (largest : ℕ) (told : ToldTopics) (copy : MessageCopy) : Type 0 where
  pub form : Form
  pub found : form_of largest told copy ≡ Some form
  pub within : form_size form copy ≤ largest

-- each of these copies is no larger than so many bytes, with its whole topic
abbrev pub AreNoLarger : ℕ → List CopyRow → Type 0
AreNoLarger largest es = AllByRecursion (λ (e : CopyRow). (queued_copy e.copy).size ≤ largest) es

-- each copy of a session's queue is no larger than the client of a line takes, with its whole topic
abbrev pub FitsWhole : Line → Session → Type 0
FitsWhole l s = AreNoLarger l.largest s.queue

-- the session's pump on the line has the turns that whole topics give, whatever the time and whatever the client was told
abbrev pub GoesByWhole : Line → Session → Type 0
GoesByWhole l s = (b : Broker) → pump_turns l b s ≡ pump (way_of l b.now) (queue_on l.went s)
