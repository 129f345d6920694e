-- Which copies of a publication enter queues in a run: those that were intended for it, with QoS 1 or 2, each once, and
-- no other (MQTT 5.0, 3.3.4, 4.3, 4.8.2).
use Rattle.std.specs.Prelude.{◌≡◌, ℕ, Bool, true, false, cond, ◌&&◌, List, filter, count_by, nat_eq, nat_lt, Option, Some, None}
use Rattle.std.specs.List.{AllByRecursion, list_any}
use Rattle.mqtt_base.specs.declared.session.CopyId.{CopyId}
use Rattle.mqtt_routes.specs.routing.Intended.{Copy}
use Rattle.mqtt_routes.specs.routing.Acceptance.{Served, Routed}
use Rattle.mqtt_rules.specs.declared.step.Capacity.{Capacity}
use Rattle.mqtt_rules.specs.step.Routing.{CopyTo, copies_to, is_queued, accepted_copies, routing_of, answers, publication_of, subscribers}
use Rattle.mqtt_world_model.specs.model.World.{World}
use Rattle.mqtt_world_model.specs.model.Run.{Turn, Acceptance, acceptances_over}
use Rattle.mqtt_world_model.specs.model.Laws.{count_of, is_copy, is_own, is_share}
use Rattle.mqtt_world_laws.specs.acceptance.Copies.{entered_from}
use Rattle.mqtt_world_laws.specs.acceptance.Entries.{id_of, queued_ids}
use Rattle.mqtt_world_laws.specs.routing.Groups.{EachGetsOne}

-- the copies of a publication that was accepted, by its routing
abbrev pub intended_for : Acceptance → Routed → List CopyTo
intended_for a r = copies_to a.number a.broker.now a.message r

-- a copy is one of these, with QoS 1 or 2
abbrev pub is_intended : CopyId → List CopyTo → Bool
is_intended c ds = list_any (λ (d : CopyTo). is_queued d && is_copy c (id_of d)) ds

-- it is a publication's copy for a member of this group
abbrev pub is_groups : ℕ → List ℕ → CopyId → Bool
is_groups number group c = nat_eq c.publication number && is_share group c.cause

-- the group got a copy that enters a queue
abbrev pub enters_queue : Option Copy → Bool
enters_queue None = false
enters_queue (Some c) = nat_lt 0 c.qos

-- of a group's copies of the publication there entered one, or none if none of its members got one with QoS 1 or 2
abbrev pub EntersForGroup : Capacity → List Turn → World → ℕ → Served → Type 0
EntersForGroup limits ts w number s =
    count_by (is_groups number s.group) (entered_from limits ts w) ≡ cond (enters_queue s.copy) 1 0

-- A publication that was accepted went to each session and each group that was to get a copy; of its copies those with
-- QoS 1 or 2 entered in the run, in their order, each once, and no other
pub record EntersAsIntended (limits : Capacity) (ts : List Turn) (w : World) (a : Acceptance) : Type 0 where
  pub routing : Routed
  pub routing_is : routing_of a.env a.message a.broker.records ≡ Some routing
  pub copies_are : accepted_copies a.env a.message a.broker ≡ Some (intended_for a routing)
  pub each : EachGetsOne (answers a.env a.broker.records) (publication_of a.message) (subscribers a.broker.records) routing
  pub entered_is : filter (is_own a.number) (entered_from limits ts w) ≡ queued_ids (intended_for a routing)
  pub counted : (c : CopyId)
      → is_own a.number c ≡ true
      → count_of c (entered_from limits ts w) ≡ cond (is_intended c (intended_for a routing)) 1 0
  pub groups : AllByRecursion (EntersForGroup limits ts w a.number) routing.served

-- so each that was accepted
abbrev pub AllEnterAsIntended : Capacity → List Turn → World → Type 0
AllEnterAsIntended limits ts w = AllByRecursion (EntersAsIntended limits ts w) (acceptances_over limits ts w)
