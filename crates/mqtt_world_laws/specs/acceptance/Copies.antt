-- What becomes of copies in a run of the world (MQTT 5.0, 4.3, 4.4, 4.6).
use Rattle.std.specs.Prelude.{◌≡◌, ℕ, ◌+◌, List, Some, filter_map, map}
use Rattle.std.specs.List.{AllByRecursion}
use Rattle.mqtt_base.specs.declared.session.CopyId.{CopyId}
use Rattle.mqtt_rules.specs.declared.step.Capacity.{Capacity}
use Rattle.mqtt_rules.specs.step.Numbers.{CountsOn, publication_given}
use Rattle.mqtt_rules.specs.step.Routing.{CopyTo, accepted_copies}
use Rattle.mqtt_world_model.specs.model.World.{World}
use Rattle.mqtt_world_model.specs.model.Run.{Turn, run, deeds_over, Acceptance, acceptances_over, entered_in, End, ended_in}
use Rattle.mqtt_world_model.specs.model.Laws.{count_of, standing}

-- the copies that entered a queue in a run, and those that ended, each by whatever cause
abbrev pub entered_from : Capacity → List Turn → World → List CopyId
entered_from limits ts w = filter_map entered_in (deeds_over limits ts w)

abbrev pub ended_from : Capacity → List Turn → World → List CopyId
ended_from limits ts w = map (λ (e : End). e.copy) (filter_map ended_in (deeds_over limits ts w))

-- A copy waits in its session's queue or has ended, as often as it stood there at the beginning or entered: none is lost,
-- and none ends more often than that
abbrev pub IsBalanced : CopyId → Capacity → List Turn → World → Type 0
IsBalanced c limits ts w =
    count_of c (standing (run limits ts w).broker) + count_of c (ended_from limits ts w)
    ≡ count_of c (standing w.broker) + count_of c (entered_from limits ts w)

-- the numbers of the publications that a run accepts, of clients and Wills, in order
abbrev pub publications_from : Capacity → List Turn → World → List ℕ
publications_from limits ts w = filter_map publication_given (deeds_over limits ts w)

-- they are counted on from the last one before: each is one above the one before it, so that no two are the same
abbrev pub AreCountedOn : Capacity → List Turn → World → Type 0
AreCountedOn limits ts w =
    CountsOn w.broker.records.publications (publications_from limits ts w)
    (run limits ts w).broker.records.publications

-- a publication was routed: its copies are those intended for the sessions and subscriptions that stood as it was
-- accepted, with the members that the broker chose (3.3.4, 4.8)
pub record IsRouted (a : Acceptance) : Type 0 where
  pub copies : List CopyTo
  pub routed_is : accepted_copies a.env a.message a.broker ≡ Some copies

abbrev pub AreRouted : Capacity → List Turn → World → Type 0
AreRouted limits ts w = AllByRecursion IsRouted (acceptances_over limits ts w)
