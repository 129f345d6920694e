-- Copies within with their whole topics, and what a pump decides (MQTT 5.0, 3.1.2.11.4, 3.3.2.3.4).
use Rattle.std.specs.Prelude.{◌≡◌, ℕ, true, false, ⊤, List, [], ◌∷◌, Option, Some, None, is_some}
use Rattle.std.specs.List.{AllByRecursion}
use Rattle.mqtt_base.specs.declared.session.Ending.TheVariants.{TooLarge}
use Rattle.mqtt_flow.specs.declared.outbound.entry.Turn.{Turn}
use Rattle.mqtt_flow.specs.declared.outbound.entry.Turn.TheVariants as turns
use Rattle.mqtt_topic.specs.declared.sending.form.Form.TheVariants.{Plain}
use Rattle.mqtt_topic.specs.sending.Told.{ToldTopics, after_send}
use Rattle.mqtt_records.specs.declared.messages.message.MessageCopy.{MessageCopy}
use Rattle.mqtt_records.specs.messages.Queue.{CopyRow, IsSpelled}
use Rattle.mqtt_records.specs.declared.state.session.Session.{Session}
use Rattle.mqtt_records.specs.state.Session.{copy_place}
use Rattle.mqtt_records.specs.lists.Order.{row_at}
use Rattle.mqtt_rules.specs.step.Fitting.{form_of}
use Rattle.mqtt_rules.specs.step.Forms.{is_within, published_of}

-- a copy is within what the client takes with its whole topic
abbrev pub IsWithinWhole : ℕ → MessageCopy → Type 0
IsWithinWhole largest copy = is_within largest (published_of copy.content.arrived false 1 copy) Plain ≡ true

abbrev pub AreWithinWhole : ℕ → List CopyRow → Type 0
AreWithinWhole largest es = AllByRecursion (λ e. IsWithinWhole largest e.copy) es

-- ---- what a pump decides

-- of the row at a place
abbrev pub ForRow : ℕ → Session → (CopyRow → Type 0) → Type 0
ForRow place s P = (e : CopyRow) → row_at copy_place place s.queue ≡ Some e → P e

-- in this form the PUBLISH goes out
abbrev pub GoesOut : ℕ → ToldTopics → CopyRow → Type 0
GoesOut largest told e = is_some (form_of largest told e.copy) ≡ true

-- none of its forms is within
abbrev pub IsTooLarge : ℕ → ToldTopics → CopyRow → Type 0
IsTooLarge largest told e = is_some (form_of largest told e.copy) ≡ false

abbrev pub FitsTurn : ℕ → Session → ToldTopics → Turn → Type 0
FitsTurn largest s told (turns.Send place id) = ForRow place s (GoesOut largest told)
FitsTurn largest s told (turns.Resend place id) = ForRow place s (GoesOut largest told)
FitsTurn largest s told (turns.Release place id order) = ⊤
FitsTurn largest s told (turns.Outgrow place id order) = ForRow place s (IsTooLarge largest told)
FitsTurn largest s told (turns.Repeat id) = ⊤
FitsTurn largest s told (turns.Unknown id) = ⊤
FitsTurn largest s told (turns.Leave place TooLarge) = ForRow place s (IsTooLarge largest told)
FitsTurn largest s told (turns.Leave place ending) = ⊤

-- what the client was told behind a turn: its PUBLISH tells its topic if its form does
abbrev pub told_row : ℕ → Option CopyRow → ToldTopics → ToldTopics
told_row largest None told = told
told_row largest (Some e) told = after_send (form_of largest told e.copy) e.copy.content.topic told

abbrev pub told_after : ℕ → Session → Turn → ToldTopics → ToldTopics
told_after largest s (turns.Send place id) told = told_row largest (row_at copy_place place s.queue) told
told_after largest s (turns.Resend place id) told = told_row largest (row_at copy_place place s.queue) told
told_after largest s t told = told

-- each of the turns, by what the client was told before it
abbrev pub AreDecided : ℕ → Session → ToldTopics → List Turn → Type 0
AreDecided largest s told [] = ⊤
AreDecided largest s told (t ∷ ts) = FitsTurn largest s told t × AreDecided largest s (told_after largest s t told) ts

abbrev pub AreSpelled : List CopyRow → Type 0
AreSpelled es = AllByRecursion (λ e. IsSpelled e.copy) es
