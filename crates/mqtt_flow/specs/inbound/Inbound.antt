-- What QoS 2 PUBLISH and PUBREL packets do to a session's open identifiers (4.3.3, 4.4, 4.9).
use Rattle.std.specs.Prelude.{ℕ, ◌≤◌, List, length, nat_lt, if◌then◌else◌}
use Rattle.std.specs.List.Sorted.{IsStrictlyIncreasing}
use Rattle.mqtt_base.specs.declared.limits.TheConstants.{OPEN_LIMIT}
use Rattle.mqtt_flow.specs.inbound.Identifiers.{is_among, ids_with}
use Rattle.mqtt_flow.specs.declared.inbound.inflow.Published.{Published}
use Rattle.mqtt_flow.specs.declared.inbound.inflow.Published.TheVariants.{New, Again, Over}
use Rattle.mqtt_flow.specs.declared.inbound.inflow.ReleaseAnswer.{ReleaseAnswer}
use Rattle.mqtt_flow.specs.declared.inbound.inflow.ReleaseAnswer.TheVariants.{Known, Unknown}

-- an identifier is open when its PUBLISH was accepted and its PUBREL has not come

-- what a PUBLISH is: its identifier and the open ones decide alone, whatever its DUP flag and content (4.3.3); one more
-- than OPEN_LIMIT is above the Receive Maximum that CONNACK told the publisher (4.9)
abbrev pub answer_to : ℕ → List ℕ → Published
answer_to id ids = if is_among id ids then Again else (if nat_lt (length ids) OPEN_LIMIT then New else Over)

-- a new one opens its identifier
abbrev pub ids_on : Published → ℕ → List ℕ → List ℕ
ids_on New id ids = ids_with id ids
ids_on Again id ids = ids
ids_on Over id ids = ids

-- the open identifiers after a PUBLISH
abbrev pub open_after : ℕ → List ℕ → List ℕ
open_after id ids = ids_on (answer_to id ids) id ids

-- what the identifier of a PUBREL is (4.3.3)
abbrev pub answer_to_release : ℕ → List ℕ → ReleaseAnswer
answer_to_release id ids = if is_among id ids then Known else Unknown

-- what a session keeps: at most OPEN_LIMIT identifiers, each once, in ascending order
pub record IsOpenList (ids : List ℕ) : Type 0 where
  pub ascending : IsStrictlyIncreasing ids
  pub within : length ids ≤ OPEN_LIMIT
