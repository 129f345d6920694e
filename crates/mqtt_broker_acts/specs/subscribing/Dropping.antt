-- The filters of an UNSUBSCRIBE, one after the other (MQTT 5.0, 3.10.4, 3.11.3).
use Rattle.std.specs.Prelude.{ℕ, Bool, cond, not, ◌&&◌, List, [], ◌∷◌, ◌++◌, filter, map, flat_map, bytes_eq}
use Rattle.std.specs.List.{list_any}
use Rattle.mqtt_records.specs.declared.state.session.Session.{Session}
use Rattle.mqtt_rules.specs.step.Deeds.{Act, Unsubscribe, series, of_session, always}
use Rattle.mqtt_rules.specs.step.Subscribe.{has_filter, unsubscribes}
use Rattle.mqtt_broker_step.specs.Stepping.{to_session}

-- the session has the filter, and it isn't among those that are gone
abbrev pub is_left : List ℕ → List (List ℕ) → Session → Bool
is_left f gone s = has_filter f s && not (list_any (bytes_eq f) gone)

-- those that are gone after it
abbrev pub gone_after : List ℕ → List (List ℕ) → Session → List (List ℕ)
gone_after f gone s = cond (is_left f gone s) (gone ++ f ∷ []) gone

-- the filters that the session has, in order
abbrev pub held : List (List ℕ) → Session → List (List ℕ)
held filters s = filter (λ f. has_filter f s) filters

-- these filters are removed, one after the other
abbrev pub removes_all : ℕ → List (List ℕ) → Act
removes_all birth filters = series (map (λ f. to_session birth (Unsubscribe f)) filters)

-- those are removed that the session has when the first of them is removed
abbrev pub drops : ℕ → List (List ℕ) → Act
drops birth filters = of_session birth (λ s. always (flat_map (unsubscribes s) (held filters s)))
