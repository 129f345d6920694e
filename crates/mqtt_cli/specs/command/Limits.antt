-- The options for the limits of the broker's tables (ours).
use Rattle.std.specs.Prelude.{◌≡◌, ℕ, List, Option, None, Some, codes}
use Rattle.clap.specs.Words.{App, Row, Rule, Text, new_rule, with_rule}
use Rattle.mqtt_base.specs.declared.limits.TheConstants.{LINE_LIMIT, LINES_UNASKED, QUEUE_LIMIT, RETAINED_LIMIT, SESSION_LIMIT}
use Rattle.mqtt_cli.specs.command.Values.{IsFull, IsSize, value_in}
use Rattle.mqtt_flow.specs.declared.outbound.entry.Full.{Full}
use Rattle.mqtt_flow.specs.declared.outbound.entry.Full.TheVariants.{Refuse}
use Rattle.mqtt_rules.specs.declared.step.Capacity.{Capacity}
use Rattle.mqtt_rules.specs.declared.step.Limits.{Limits}
use Rattle.mqtt_rules.specs.step.Laws.{sized}

-- `--NAME VALUE`, which may be left out
abbrev pub choice_rule : Text → Rule
choice_rule name = record (new_rule name) { long = Some name; value_names = 1 }

-- a command with `[--full refuse|drop] [--queue N] [--sessions N] [--retained N]`
abbrev pub with_limits : App → App
with_limits app =
    with_rule (with_rule (with_rule (with_rule app (choice_rule (codes "full"))) (choice_rule (codes "queue"))) (choice_rule (codes "sessions")))
    (choice_rule (codes "retained"))

-- a command with these, and `[--connections N]`
abbrev pub with_capacity : App → App
with_capacity app = with_rule (with_limits app) (choice_rule (codes "connections"))

-- what a full queue does: it refuses, if nothing is said
abbrev pub IsFullGiven : Option Text → Full → Type 0
IsFullGiven None full = full ≡ Refuse
IsFullGiven (Some text) full = IsFull text full

-- a number from 1 to the most that may be: this one, if nothing is said
abbrev pub IsSizeGiven : ℕ → ℕ → Option Text → ℕ → Type 0
IsSizeGiven unasked most None size = size ≡ unasked
IsSizeGiven unasked most (Some text) size = IsSize most text size

-- the size of a table: the most that it may have, if nothing is said
abbrev pub IsTableGiven : ℕ → Option Text → ℕ → Type 0
IsTableGiven most value size = IsSizeGiven most most value size

-- how many lines are linked at one time: 64, if nothing is said
abbrev pub AreLinesGiven : Option Text → ℕ → Type 0
AreLinesGiven value lines = IsSizeGiven LINES_UNASKED LINE_LIMIT value lines

-- these matches ask for these limits
pub record AsksForLimits (rows : Option (List Row)) (limits : Limits) : Type 0 where
  pub full : IsFullGiven (value_in (codes "full") rows) limits.full
  pub queue : IsTableGiven QUEUE_LIMIT (value_in (codes "queue") rows) limits.queue
  pub sessions : IsTableGiven SESSION_LIMIT (value_in (codes "sessions") rows) limits.sessions
  pub retained : IsTableGiven RETAINED_LIMIT (value_in (codes "retained") rows) limits.retained

-- they ask for these, or for none that there are
abbrev pub AskForLimits : Option (List Row) → Option Limits → Type 0
AskForLimits rows (Some limits) = AsksForLimits rows limits
AskForLimits rows None = (limits : Limits) → ¬ (AsksForLimits rows limits)

-- they ask for a broker that holds so much: these limits, and so many lines
pub record AsksForCapacity (rows : Option (List Row)) (capacity : Capacity) : Type 0 where
  pub limits : Limits
  pub limits_are : AsksForLimits rows limits
  pub lines : AreLinesGiven (value_in (codes "connections") rows) capacity.lines
  pub is : capacity ≡ sized capacity.lines limits

-- or for none that there is
abbrev pub AskForCapacity : Option (List Row) → Option Capacity → Type 0
AskForCapacity rows (Some capacity) = AsksForCapacity rows capacity
AskForCapacity rows None = (capacity : Capacity) → ¬ (AsksForCapacity rows capacity)
