-- What a command line asks a broker to hold.
use Rattle.std.proofs.Common.{◌≡◌, ◌≤◌, ℕ, refl, sym, List, Option, None, Some, codes, subst, arith}
use Rattle.clap.specs.Words.{Row, Text}
use Rattle.mqtt_cli.specs.command.Limits.{AreLinesGiven, AskForCapacity, AsksForCapacity, AsksForLimits, IsTableGiven}
use Rattle.mqtt_cli.specs.command.Values.{value_in}
use Rattle.mqtt_rules.specs.declared.step.Capacity.{Capacity}
use Rattle.mqtt_rules.specs.declared.step.Limits.{Limits}
use Rattle.mqtt_rules.specs.step.Laws.{AreWithin, sized}

-- a table that is asked for is within its limit
size_within : (most : ℕ) (value : Option Text) (size : ℕ) → IsTableGiven most value size → size ≤ most
size_within most None size is = omega arith
size_within most (Some text) size is = is.within

-- and so are the limits that are asked for, whatever the lines
pub limits_within : (rows : Option (List Row)) (lines : ℕ) (limits : Limits) → AsksForLimits rows limits
    → AreWithin (sized lines limits)
limits_within rows lines limits asks = record {
  queue = size_within _ _ limits.queue asks.queue;
  sessions = size_within _ _ limits.sessions asks.sessions;
  retained = size_within _ _ limits.retained asks.retained;
}

-- and those that are asked for with lines
pub capacity_within : (rows : Option (List Row)) (capacity : Capacity) → AsksForCapacity rows capacity → AreWithin capacity
capacity_within rows capacity asks =
    subst AreWithin (sym asks.is) (limits_within rows capacity.lines asks.limits asks.limits_are)

-- limits and lines that are asked for are a capacity that is
pub sized_asks : (rows : Option (List Row)) (limits : Limits) (lines : ℕ) → AsksForLimits rows limits
    → AreLinesGiven (value_in (codes "connections") rows) lines → AsksForCapacity rows (sized lines limits)
sized_asks rows limits lines limits_are given = record { limits = limits; limits_are = limits_are; lines = given; is = refl }

-- limits that are none ask for no capacity
pub no_capacity-limits : (rows : Option (List Row)) → ((limits : Limits) → ¬ (AsksForLimits rows limits))
    → (capacity : Capacity) → ¬ (AsksForCapacity rows capacity)
no_capacity-limits rows none capacity asks = none asks.limits asks.limits_are

-- nor do lines that are none
pub no_capacity-lines : (rows : Option (List Row)) → ((lines : ℕ) → ¬ (AreLinesGiven (value_in (codes "connections") rows) lines))
    → (capacity : Capacity) → ¬ (AsksForCapacity rows capacity)
no_capacity-lines rows none capacity asks = none capacity.lines asks.lines

-- so nothing is answered
pub asks_no_capacity : (rows : Option (List Row)) (asked : Option Capacity) → asked ≡ None
    → ((capacity : Capacity) → ¬ (AsksForCapacity rows capacity)) → AskForCapacity rows asked
asks_no_capacity rows None is none = none
asks_no_capacity rows (Some capacity) is none = cc
