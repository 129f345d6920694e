-- Copies told apart by publication, session and cause: each enters a queue once at most, and has one end at most (MQTT
-- 5.0, 3.3.1.3, 3.3.4, 4.3, 4.6).
use Rattle.std.specs.Prelude.{◌≡◌, ℕ, ◌+◌, ◌≤◌, Bool, true, List, flat_map, map, nat_lt}
use Rattle.mqtt_base.specs.declared.session.Cause.{Cause}
use Rattle.mqtt_base.specs.declared.session.Cause.TheVariants.{Direct, Share, Retained}
use Rattle.mqtt_base.specs.declared.session.CopyId.{CopyId}
use Rattle.mqtt_records.specs.declared.messages.message.RetainedMessage.{RetainedMessage}
use Rattle.mqtt_records.specs.declared.state.records.Records.{Records}
use Rattle.mqtt_records.specs.lists.Distinct.{AllDiffer}
use Rattle.mqtt_rules.specs.declared.step.Capacity.{Capacity}
use Rattle.mqtt_world_model.specs.model.Laws.{count_of, standing, standing_in}
use Rattle.mqtt_world_model.specs.model.Run.{Turn, run}
use Rattle.mqtt_world_model.specs.model.World.{World}
use Rattle.mqtt_world_laws.specs.acceptance.Copies.{entered_from, ended_from}

-- a copy may come yet: its publication, or for one of a retained message the filter that it is for, has no number so far
abbrev pub is_ahead : Cause → ℕ → ℕ → ℕ → Bool
is_ahead Direct publication publications subscribes = nat_lt publications publication
is_ahead (Share group) publication publications subscribes = nat_lt publications publication
is_ahead (Retained subscribe) publication publications subscribes = nat_lt subscribes subscribe

abbrev pub may_come : CopyId → Records → Bool
may_come c r = is_ahead c.cause c.publication r.publications r.subscribes

abbrev pub queued_in : Records → List CopyId
queued_in r = flat_map standing_in r.sessions

-- what is stored tells its copies apart: each stands in one queue at most, once, and none that may come yet stands; and
-- no two retained messages are of one publication
pub record TellsApart (r : Records) : Type 0 where
  pub once : (c : CopyId) → count_of c (queued_in r) ≤ 1
  pub numbered : (c : CopyId) → may_come c r ≡ true → count_of c (queued_in r) ≡ 0
  pub retained : AllDiffer (map (λ (k : RetainedMessage). k.publication) r.retained)

-- a copy enters at most once
abbrev pub EntersOnce : CopyId → Capacity → List Turn → World → Type 0
EntersOnce c limits ts w = count_of c (entered_from limits ts w) ≤ 1

-- a copy waits in one queue, or it has one end, or neither: never both, and never two
abbrev pub EndsOnce : CopyId → Capacity → List Turn → World → Type 0
EndsOnce c limits ts w = count_of c (standing (run limits ts w).broker) + count_of c (ended_from limits ts w) ≤ 1

-- one that entered does either: it waits in its session's queue, or it has exactly one end
abbrev pub WaitsOrHasEnded : CopyId → Capacity → List Turn → World → Type 0
WaitsOrHasEnded c limits ts w =
    count_of c (entered_from limits ts w) ≡ 1
    → count_of c (standing (run limits ts w).broker) + count_of c (ended_from limits ts w) ≡ 1
