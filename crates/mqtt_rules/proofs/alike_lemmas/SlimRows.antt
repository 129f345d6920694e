-- A slim row is seen as the whole one.
use Rattle.std.proofs.Common.{◌≡◌, ℕ, ◌+◌, false, List, [], ◌∷◌, map, length, refl, sym, ap₂, ◌∙◌}
use Rattle.std.specs.Prelude.{Option}
use Rattle.mqtt_topic.specs.declared.sending.form.Form.TheVariants.{Plain}
use Rattle.mqtt_topic.specs.declared.sending.sizes.OtherBytes.{OtherBytes}
use Rattle.mqtt_records.specs.declared.messages.message.MessageCopy.{MessageCopy}
use Rattle.mqtt_records.specs.messages.Queue.{CopyRow, identifier_len}
use Rattle.mqtt_records.specs.messages.Slim.{slim_copy, slim}
use Rattle.mqtt_records.proofs.messages_lemmas.Slim.{zeros_len, slim_pairs, slim_interval}
use Rattle.mqtt_rules.specs.step.Forms.{other_bytes}
use Rattle.mqtt_rules.specs.step.Packets.{publish_of, size_of}
use Rattle.mqtt_rules.proofs.step_lemmas.forms.FormSizes.{copy_in_form}
use Rattle.mqtt_flow.specs.declared.outbound.entry.QueuedCopy.{QueuedCopy}
use Rattle.mqtt_records.specs.declared.state.session.Session.{Session}
use Rattle.mqtt_rules.specs.step.State.{Broker, queued_copy}
use Rattle.mqtt_rules.specs.alike.Alike.{Each, AlikeRows, AlikeSessions, AlikeBrokers}
use Rattle.mqtt_rules.specs.alike.Slim.{slim_session, slim_broker}
use Rattle.mqtt_rules.proofs.alike_lemmas.SameForms.{form_bytes_same}

others_same : (copy : MessageCopy) → other_bytes copy ≡ other_bytes (slim_copy copy)
others_same copy = ap₂ (λ (n m : ℕ). let o : OtherBytes = record { properties = n; rest = identifier_len copy.qos + m } in o)
    (sym (slim_pairs copy)) (sym (zeros_len (length copy.content.payload)))

size_same : (copy : MessageCopy) → size_of (publish_of copy.content.arrived false 1 copy) ≡ size_of (publish_of copy.content.arrived false 1 (slim_copy copy))
size_same copy =
    copy_in_form Plain copy copy.content.arrived 1 false
    ∙ form_bytes_same Plain copy (slim_copy copy) refl (others_same copy)
    ∙ sym (copy_in_form Plain (slim_copy copy) copy.content.arrived 1 false)

-- a copy as it is seen with that size and interval
abbrev seen_with : MessageCopy → ℕ → Option ℕ → QueuedCopy
seen_with copy size interval = record { id = copy.id; qos = copy.qos; size = size; arrived = copy.content.arrived; expiry = interval }

slim_seen : (copy : MessageCopy) → queued_copy copy ≡ queued_copy (slim_copy copy)
slim_seen copy = ap₂ (seen_with copy) (size_same copy) (sym (slim_interval copy))

-- a row without its content is alike
pub slim_row : (e : CopyRow) → AlikeRows e (slim e)
slim_row e = record { place = refl; phase = refl; copy = record { seen = slim_seen e.copy; retain = refl; topic = refl; others = others_same e.copy } }

slim_rows : (q : List CopyRow) → Each AlikeRows q (map slim q)
slim_rows [] = tt
slim_rows (e ∷ es) = (slim_row e, slim_rows es)

slim_sessions : (ss : List Session) → Each AlikeSessions ss (map slim_session ss)
slim_sessions [] = tt
slim_sessions (s ∷ ss) = (record { rest = refl; queue = slim_rows s.queue }, slim_sessions ss)

-- so is a broker of such rows
pub slim_alike : (b : Broker) → AlikeBrokers b (slim_broker b)
slim_alike b = record { rest = refl; records = record { rest = refl; sessions = slim_sessions b.records.sessions } }
