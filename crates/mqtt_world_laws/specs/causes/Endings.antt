-- The ends of copies in a run of the world, each as it came: in which step, and on which state (MQTT 5.0, 4.3, 4.4).
use Rattle.std.specs.Prelude.{◌≡◌, List, [], ◌∷◌, ◌++◌, map, flat_map, filter_map, Option, Some, None}
use Rattle.std.specs.List.{cons_option}
use Rattle.mqtt_base.specs.declared.session.Ending.{Ending}
use Rattle.mqtt_records.specs.messages.Queue.{CopyRow}
use Rattle.mqtt_rules.specs.declared.step.Capacity.{Capacity}
use Rattle.mqtt_rules.specs.step.State.{Broker}
use Rattle.mqtt_rules.specs.step.Deeds.{Whose, Deed, At, Leave, after as after_deed}
use Rattle.mqtt_rules.specs.step.Step.{Call, NewLine}
use Rattle.mqtt_world_model.specs.model.World.{World}
use Rattle.mqtt_world_model.specs.model.Run.{Reading, Turn, read_over, deeds_over, End, ended_in}
use Rattle.mqtt_world_laws.specs.acceptance.Steps.{Step, step_called, opening_step}

-- a step that was committed, with the call that was asked; a broker that is opened was asked none
pub record Asked : Type 0 where
  pub call : Option Call
  pub step : Step

abbrev pub asked : Option Call → Step → List Asked
asked call step = record { call = call; step = step } ∷ []

abbrev pub the_asked : Reading (List Asked)
the_asked = record {
  nothing = [];
  join = λ first more. first ++ more;
  linked = λ set w. asked (Some NewLine) (step_called set NewLine w);
  called = λ set call w. asked (Some call) (step_called set call w);
  opened = λ set w. asked None (opening_step set w);
}

abbrev pub asked_over : Capacity → List Turn → World → List Asked
asked_over limits ts w = read_over the_asked limits ts w

-- an end: whose the copy was, its row in the queue, and how it ended; the broker right before it left, and what the step
-- does behind it
pub record EndAt : Type 0 where
  pub asked : Asked
  pub broker : Broker
  pub who : Whose
  pub row : CopyRow
  pub ending : Ending
  pub behind : List Deed

abbrev pub end_at : Asked → Broker → List Deed → Deed → Option EndAt
end_at x b behind (At who (Leave e ending)) =
    Some (record { asked = x; broker = b; who = who; row = e; ending = ending; behind = behind })
end_at x b behind d = None

-- each deed on what the ones before it left
abbrev pub ends_of : Asked → List Deed → Broker → List EndAt
ends_of x [] b = []
ends_of x (d ∷ ds) b = cons_option (end_at x b ds d) (ends_of x ds (after_deed d b))

abbrev pub ends_in : Asked → List EndAt
ends_in x = ends_of x x.step.deeds x.step.broker

abbrev pub ends_over : Capacity → List Turn → World → List EndAt
ends_over limits ts w = flat_map ends_in (asked_over limits ts w)

-- the end as it is counted
abbrev pub end_of : EndAt → End
end_of x = record { client = x.who.client; copy = x.row.copy.id; qos = x.row.copy.qos; by = x.ending }

-- these are all the ends of a run, in order
abbrev pub AreAllEnds : Capacity → List Turn → World → Type 0
AreAllEnds limits ts w = map end_of (ends_over limits ts w) ≡ filter_map ended_in (deeds_over limits ts w)
