-- Counters that wait to be written: of each the newest value alone (MQTT 5.0, 4.1).
use Rattle.std.specs.Prelude.{◌≤◌, ℕ, Bool, true, false, List, [], ◌∷◌, ◌++◌, Option, Some, None}
use Rattle.mqtt_records.specs.declared.state.records.Records.{Records}
use Rattle.mqtt_records.specs.declared.state.change.Change.{Change}
use Rattle.mqtt_records.specs.declared.state.change.Change.TheVariants.{SetCounter}
use Rattle.mqtt_records.specs.declared.state.change.Counter.{Counter}
use Rattle.mqtt_records.specs.declared.state.change.Counter.TheVariants.{Births, Publications, Subscribes, Autos, Moment}
use Rattle.mqtt_records.specs.state.Records.{IsNumber}
use Rattle.mqtt_serve.specs.declared.gathered.counts.Counts.{Counts}

-- no counter was set
abbrev pub no_counts : Counts
no_counts = record { births = None; publications = None; subscribes = None; autos = None; moment = None }

-- one more is set
abbrev pub with_count : Counter → ℕ → Counts → Counts
with_count Births value s = record s { births = Some value }
with_count Publications value s = record s { publications = Some value }
with_count Subscribes value s = record s { subscribes = Some value }
with_count Autos value s = record s { autos = Some value }
with_count Moment value s = record s { moment = Some value }

-- as a change sets it; a change of rows sets none
abbrev pub counts_after : Change → Counts → Counts
counts_after (SetCounter counter value) s = with_count counter value s
counts_after change s = s

-- one after the other: of each counter the last value stays
abbrev pub counts_after_all : List Change → Counts → Counts
counts_after_all [] s = s
counts_after_all (change ∷ changes) s = counts_after_all changes (counts_after change s)

-- it changes rows, and sets no counter
abbrev pub changes_rows : Change → Bool
changes_rows (SetCounter counter value) = false
changes_rows change = true

-- ---- what they make

-- the value that was set, or else the old one
abbrev pub newest : Option ℕ → ℕ → ℕ
newest None old = old
newest (Some value) old = value

-- records whose counters have the values that were set
abbrev pub with_counts : Counts → Records → Records
with_counts s r = record r {
  births = newest s.births r.births;
  publications = newest s.publications r.publications;
  subscribes = newest s.subscribes r.subscribes;
  autos = newest s.autos r.autos;
  moment = newest s.moment r.moment;
}

-- a value that was set isn't below the old one, and is a number that is kept
abbrev pub Rises : Option ℕ → ℕ → Type 0
Rises None old = Unit {0}
Rises (Some value) old = (old ≤ value) × IsNumber value

-- each counter that was set
pub record AllRise (s : Counts) (r : Records) : Type 0 where
  pub births : Rises s.births r.births
  pub publications : Rises s.publications r.publications
  pub subscribes : Rises s.subscribes r.subscribes
  pub autos : Rises s.autos r.autos
  pub moment : Rises s.moment r.moment

-- ---- as changes

-- the change that sets a counter, if it was set
abbrev pub set_of : Counter → Option ℕ → List Change
set_of counter None = []
set_of counter (Some value) = SetCounter counter value ∷ []

-- one for each counter that was set
abbrev pub sets_of : Counts → List Change
sets_of s =
    set_of Births s.births
    ++ set_of Publications s.publications
    ++ set_of Subscribes s.subscribes
    ++ set_of Autos s.autos
    ++ set_of Moment s.moment
