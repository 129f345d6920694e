-- How values stand in columns of SQL, and which are in range.
use Rattle.std.specs.Prelude.{ℕ, ◌+◌, ◌<◌, ◌≤◌, ◌^◌, pos, Bool, cond, length, Option, Some, None}
use Rattle.sqlite_value.specs.declared.value.Value.{Value}
use Rattle.sqlite_value.specs.declared.value.Value.TheVariants.{Null, Int}
use Rattle.sqlite_value.specs.Order.{bytes}
use Rattle.mqtt_base.specs.declared.session.RetainHandling.{RetainHandling}
use Rattle.mqtt_base.specs.declared.session.RetainHandling.TheVariants.{SendAlways, SendIfNew, DoNotSend}
use Rattle.mqtt_records.specs.state.Records.{IsNumber}
use Rattle.mqtt_base.specs.declared.limits.TheConstants.{ROW_LIMIT}

-- ---- columns

abbrev pub number : ℕ → Value
number n = Int (pos n)

abbrev pub number_or_null : Option ℕ → Value
number_or_null None = Null
number_or_null (Some n) = number n

-- 1 for true
abbrev pub flag : Bool → Value
flag b = number (cond b 1 0)

abbrev pub handling_number : RetainHandling → ℕ
handling_number SendAlways = 0
handling_number SendIfNew = 1
handling_number DoNotSend = 2

-- 0 for none
abbrev pub or_zero : Option ℕ → ℕ
or_zero None = 0
or_zero (Some n) = n

-- ---- ranges

-- a number, a place or an order of release: from 1
abbrev pub IsCounted : ℕ → Type 0
IsCounted n = (0 < n) × IsNumber n

-- a packet identifier (2.2.1)
abbrev pub IsPacketIdentifier : ℕ → Type 0
IsPacketIdentifier n = (0 < n) × (n < 2 ^ 16)

-- the Subscription Identifier of a subscription, if it has one (3.8.2.1.2)
abbrev pub IsIdentifier : Option ℕ → Type 0
IsIdentifier None = Unit {0}
IsIdentifier (Some n) = (0 < n) × (n < 2 ^ 28)

-- a topic, a block of properties and a payload are few enough bytes together (ours)
abbrev pub IsShort : Value → Value → Value → Type 0
IsShort topic props payload = length (bytes topic) + length (bytes props) + length (bytes payload) ≤ ROW_LIMIT
