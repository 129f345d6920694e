-- Wills, the end of a session, settling, and closing a line (MQTT 5.0, 3.1.2.5, 3.1.2.11.2, 3.1.3.2.2, 3.14.4, 4.1).
use Rattle.std.specs.Prelude.{ℕ, ◌*◌, min, Bool, true, false, not, cond, List, [], ◌∷◌, ◌++◌, map, nat_eq, nat_le, Option, Some, None}
use Rattle.mqtt_base.specs.declared.session.Ending.TheVariants.{SessionEnded}
use Rattle.mqtt_records.specs.declared.messages.message.Will.{Will}
use Rattle.mqtt_records.specs.declared.state.session.Session.{Session}
use Rattle.mqtt_records.specs.messages.PassedOn.{passed_on}
use Rattle.mqtt_rules.specs.step.Packets.{disconnect}
use Rattle.mqtt_rules.specs.step.State.{Line, Env, later}
use Rattle.mqtt_rules.specs.step.Deeds.{Whose, whose, Message, FromWill, Close, DropWill, Leave, Deed, At, Finish, RefuseWill, Send, Gone, Act, always, series, only_if, of_session}
use Rattle.mqtt_rules.specs.step.Routing.{CopyTo, accepted_copies, publish}

-- ---- moments

-- Session Expiry Interval: this value is no end (3.1.2.11.2)
abbrev pub never : ℕ
never = 0xffffffff

-- when the session's end is due, once it is closed
abbrev pub end_after : ℕ → ℕ → Option ℕ
end_after closed expiry = cond (nat_eq expiry never) None (Some (later closed (1000 * expiry)))

abbrev pub end_due : Option ℕ → ℕ → Option ℕ
end_due None expiry = None
end_due (Some closed) expiry = end_after closed expiry

abbrev pub earlier : ℕ → Option ℕ → ℕ
earlier a None = a
earlier a (Some b) = min a b

-- when its Will is: after Will Delay Interval, or when the session ends, whichever is first (3.1.3.2.2)
abbrev pub will_due : Option ℕ → ℕ → Option Will → Option ℕ
will_due None expiry will = None
will_due (Some closed) expiry None = None
will_due (Some closed) expiry (Some w) = Some (earlier (later closed (1000 * w.delay)) (end_after closed expiry))

abbrev pub is_due : ℕ → Option ℕ → Bool
is_due now None = false
is_due now (Some moment) = nat_le moment now

abbrev pub has_due_will : ℕ → Session → Bool
has_due_will now s = is_due now (will_due s.closed s.expiry s.will)

abbrev pub has_due_end : ℕ → Session → Bool
has_due_end now s = is_due now (end_due s.closed s.expiry)

-- ---- a Will is published, or refused; then there is none

abbrev pub will_message : List ℕ → Will → Message
will_message client w = record {
  sender = client;
  topic = w.topic;
  qos = w.qos;
  retain = w.retain;
  properties = passed_on w.properties;
  payload = w.payload;
}

abbrev pub publish_or_refuse : Env → Whose → Message → Option (List CopyTo) → Act
publish_or_refuse env who m None b = RefuseWill who ∷ []
publish_or_refuse env who m (Some ds) b = publish env FromWill m ds b

abbrev pub will_deeds : Env → Whose → Option Will → Act
will_deeds env who None b = []
will_deeds env who (Some w) b =
    let m = will_message who.client w in
    series (publish_or_refuse env who m (accepted_copies env m b) ∷ always (At who DropWill ∷ []) ∷ []) b

abbrev pub publish_will : Env → Session → Act
publish_will env s b = will_deeds env (whose s) s.will b

-- ---- a session's end: each of its copies ends, and all that it has is gone (4.1)

abbrev pub end_session : Session → List Deed
end_session s = map (λ e. At (whose s) (Leave e SessionEnded)) s.queue ++ Finish (whose s) ∷ []

-- a waiting Will that is due is published, then a session whose end is due is ended
abbrev pub settle : Env → ℕ → Act
settle env birth b = series (
    of_session birth (λ s. only_if (has_due_will b.now s) (publish_will env s))
    ∷ of_session birth (λ s. only_if (has_due_end b.now s) (always (end_session s)))
    ∷ []) b

-- ---- a line closes, and its session with it, which keeps its Will or not (3.14.4)

abbrev pub close_session : Env → Bool → Session → Act
close_session env keeps_will s b = series (
    only_if (not keeps_will) (always (At (whose s) DropWill ∷ []))
    ∷ always (At (whose s) (Close b.now) ∷ [])
    ∷ settle env s.birth
    ∷ []) b

abbrev pub close_connected : Env → Bool → Option ℕ → Act
close_connected env keeps_will None b = []
close_connected env keeps_will (Some birth) b = of_session birth (close_session env keeps_will) b

abbrev pub close : Env → Bool → Line → Act
close env keeps_will l b = series (always (Gone l.number ∷ []) ∷ close_connected env keeps_will l.session ∷ []) b

-- DISCONNECT with a code, and the line closes (4.13)
abbrev pub drop_line : Env → ℕ → Line → Act
drop_line env code l b = series (always (Send l.number (disconnect code) ∷ []) ∷ close env true l ∷ []) b
