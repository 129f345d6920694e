-- Parts of settling a session, and of closing it (MQTT 5.0, 3.1.2.11.2, 3.1.3.2.2, 3.14.4).
use Rattle.std.specs.Prelude.{ℕ, Bool, not, nat_eq, [], ◌∷◌, Option}
use Rattle.mqtt_base.specs.Codes.{normal_disconnection}
use Rattle.mqtt_rules.specs.step.Closing.{has_due_will, has_due_end, publish_will, end_session, close, close_session}
use Rattle.mqtt_rules.specs.step.Deeds.{Act, At, DropWill, whose, always, only_if, of_session, then}
use Rattle.mqtt_rules.specs.step.Inbound.{new_expiry, on_disconnect}
use Rattle.mqtt_rules.specs.step.State.{Env, Line}

-- the Will of the session with a birth is published, if it is due at a moment
abbrev pub settles_will : ℕ → ℕ → Env → Act
settles_will moment birth env = of_session birth (λ s. only_if (has_due_will moment s) (publish_will env s))

-- the session ends, if that is due at a moment
abbrev pub settles_end : ℕ → ℕ → Act
settles_end moment birth = of_session birth (λ s. only_if (has_due_end moment s) (always (end_session s)))

-- its Will is dropped, unless it keeps it
abbrev pub drops_will : Bool → ℕ → Act
drops_will keeps_will birth = of_session birth (λ s. only_if (not keeps_will) (always (At (whose s) DropWill ∷ [])))

-- the session closes, if it stands
abbrev pub closes : Bool → ℕ → Env → Act
closes keeps_will birth env = of_session birth (close_session env keeps_will)

-- its Session Expiry Interval is set, if one came
abbrev pub sets_expiry : Option ℕ → ℕ → Act
sets_expiry expiry birth = of_session birth (λ s. always (new_expiry expiry s))

-- a client leaves: its Session Expiry Interval is set, and its line closes
abbrev pub leaves_by : ℕ → Option ℕ → ℕ → Line → Env → Act
leaves_by birth expiry code l env b =
    then (sets_expiry expiry birth b) (close env (not (nat_eq code normal_disconnection)) l) b

-- DISCONNECT of the session with a birth
abbrev pub disconnects : ℕ → Line → ℕ → Option ℕ → Env → Act
disconnects birth l code expiry env = of_session birth (λ s. on_disconnect env l s code expiry)
