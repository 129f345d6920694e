-- The moments that a server has from the clocks (ours).
use Rattle.std.specs.Prelude.{ℕ, ◌+◌, ◌-◌, ◌/◌, min, Option, Some, None}
use Rattle.std.specs.declared.time.Duration.{Duration}
use Rattle.std.specs.Duration.{as_nanos}
use Rattle.std.specs.declared.time.SystemTime.{SystemTime}
use Rattle.std.specs.Time.{system_time_nanos}
use Rattle.mqtt_base.specs.declared.limits.TheConstants.{LAST_NUMBER}

-- whole milliseconds since 1970, at most 2^62
abbrev pub milliseconds : SystemTime → ℕ
milliseconds time = min (system_time_nanos time / 1_000_000) LAST_NUMBER

-- whole milliseconds of a time, at most 2^62
abbrev pub milliseconds_of : Duration → ℕ
milliseconds_of time = min (as_nanos time / 1_000_000) LAST_NUMBER

-- the moment that lies as far behind the one at the beginning as a reading lies behind the first, at most 2^62; if this is the
-- first reading, that at the beginning
abbrev pub moment_after : ℕ → Option ℕ → ℕ → ℕ
moment_after begin None reading = min begin LAST_NUMBER
moment_after begin (Some first) reading = min (begin + (reading - first)) LAST_NUMBER

-- the first reading is kept
abbrev pub first_reading : Option ℕ → ℕ → ℕ
first_reading None reading = reading
first_reading (Some first) reading = first
