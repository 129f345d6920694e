-- Deeds that depend on nothing but the tables, as acts.
use Rattle.std.specs.Prelude.{ℕ, suc, cond, List, [], ◌∷◌, Option, Some, None}
use Rattle.mqtt_base.specs.declared.session.Ending.{Ending}
use Rattle.mqtt_records.specs.declared.messages.message.Will.{Will}
use Rattle.mqtt_records.specs.declared.state.session.Columns.{Columns}
use Rattle.mqtt_rules.specs.step.Deeds.{Act, Accept, Name, Count, At, Leave, Link, Begin, Message, Origin, whose, always, of_session, after_all}
use Rattle.mqtt_rules.specs.step.Outbound.{at_place}
use Rattle.mqtt_rules.specs.step.Routing.{next_publication}
use Rattle.mqtt_rules.specs.declared.step.Capacity.{Capacity}
use Rattle.mqtt_rules.specs.step.State.{Broker}
use Rattle.mqtt_rules.specs.step.Step.{can_link}

-- a publication is accepted, and gets the next number
abbrev pub accepts : Origin → Message → Act
accepts origin m b = Accept (next_publication b.records) origin m ∷ []

-- a client identifier is assigned
abbrev pub names : Act
names b = Name (suc b.records.autos) ∷ []

-- a filter is granted its number
abbrev pub counts : Act
counts b = Count (suc b.records.subscribes) ∷ []

-- the copy at a place of a session's queue leaves it, if it stands there
abbrev pub leaves : ℕ → ℕ → Ending → Act
leaves birth place ending = of_session birth (λ s. always (at_place place s (λ e. At (whose s) (Leave e ending) ∷ [])))

-- a line is linked and gets the next number, if one may be
abbrev pub links : Capacity → Act
links limits b = cond (can_link limits b) (Link (suc b.given) ∷ []) []

-- the number of a line that would be linked
abbrev pub next_line : Capacity → Broker → Option ℕ
next_line limits b = cond (can_link limits b) (Some (suc b.given)) None

abbrev pub after_act : Act → Broker → Broker
after_act act b = after_all (act b) b

-- the row of a session that begins
abbrev pub new_columns : Broker → List ℕ → ℕ → Columns
new_columns b client expiry = record { birth = suc b.records.births; client = client; expiry = expiry; closed = None }

-- a session begins, with the next birth
abbrev pub begins : List ℕ → ℕ → Option Will → Act
begins client expiry will b = Begin (new_columns b client expiry) will ∷ []
