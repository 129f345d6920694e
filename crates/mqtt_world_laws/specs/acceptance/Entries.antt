-- Which copies a run is to bring into queues: those of each publication that is accepted, and of the retained messages
-- for each filter that is granted (MQTT 5.0, 3.3.4, 3.8.4, 4.8).
use Rattle.std.specs.Prelude.{◌≡◌, List, [], ◌∷◌, map, filter, flat_map, Option, Some, None}
use Rattle.mqtt_base.specs.declared.session.CopyId.{CopyId}
use Rattle.mqtt_records.specs.declared.state.session.Session.{Session}
use Rattle.mqtt_records.specs.declared.state.subscription.Subscription.{Subscription}
use Rattle.mqtt_rules.specs.declared.step.Capacity.{Capacity}
use Rattle.mqtt_rules.specs.step.State.{Broker, Env, session_at}
use Rattle.mqtt_rules.specs.step.Deeds.{Subscribe, Deed, Accept, At, after as after_deed}
use Rattle.mqtt_rules.specs.step.Routing.{CopyTo, is_queued, accepted_copies}
use Rattle.mqtt_rules.specs.step.Subscribe.{Wish, brought}
use Rattle.mqtt_world_model.specs.model.World.{World}
use Rattle.mqtt_world_model.specs.model.Run.{Turn}
use Rattle.mqtt_world_laws.specs.acceptance.Copies.{entered_from}
use Rattle.mqtt_world_laws.specs.acceptance.Steps.{Step, steps_over}

-- ---- the deeds of a step, each on the state that it comes on, with the limits and the choice of members of the step

pub record Moment : Type 0 where
  pub env : Env
  pub deed : Deed
  pub broker : Broker

abbrev pub moment_of : Env → Deed → Broker → Moment
moment_of env d b = record { env = env; deed = d; broker = b }

abbrev pub moments_of : Env → List Deed → Broker → List Moment
moments_of env [] b = []
moments_of env (d ∷ ds) b = moment_of env d b ∷ moments_of env ds (after_deed d b)

-- ---- the copies that are to enter: of QoS 1 and 2, in order

abbrev pub id_of : CopyTo → CopyId
id_of d = d.copy.id

abbrev pub queued_ids : List CopyTo → List CopyId
queued_ids ds = map id_of (filter is_queued ds)

abbrev pub ids_if : Option (List CopyTo) → List CopyId
ids_if None = []
ids_if (Some ds) = queued_ids ds

abbrev pub wish_in : Subscription → Wish
wish_in x = record { filter = x.filter; options = x.options; identifier = x.identifier }

-- those of the retained messages, by the number that the filter was just granted
abbrev pub retained_ids : Broker → Subscription → Option Session → List CopyId
retained_ids b x None = []
retained_ids b x (Some s) = queued_ids (brought b.now b.records.subscribes s (wish_in x) b.records.retained)

-- a publication that is accepted brings its intended copies, as routed on the state on which it is accepted; a
-- subscription that is granted those of the retained messages; whatever else is done brings none
abbrev pub brings : Env → Deed → Broker → List CopyId
brings env (Accept number origin m) b = ids_if (accepted_copies env m b)
brings env (At who (Subscribe x)) b = retained_ids b x (session_at who.birth b.records)
brings env d b = []

abbrev pub brings_at : Moment → List CopyId
brings_at m = brings m.env m.deed m.broker

abbrev pub brought_in : Step → List CopyId
brought_in x = flat_map brings_at (moments_of x.env x.deeds x.broker)

abbrev pub brought_from : Capacity → List Turn → World → List CopyId
brought_from limits ts w = flat_map brought_in (steps_over limits ts w)

-- exactly these enter, each once and in this order, and no other
abbrev pub IsEntered : Capacity → List Turn → World → Type 0
IsEntered limits ts w = entered_from limits ts w ≡ brought_from limits ts w
