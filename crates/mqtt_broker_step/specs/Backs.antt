-- What takes back a change of a session, or of a line.
use Rattle.std.specs.Prelude.{◌≡◌, ℕ, List, Option, Some, None}
use Rattle.mqtt_records.specs.lists.Order.{change_row}
use Rattle.mqtt_records.specs.declared.state.change.Change.{Change}
use Rattle.mqtt_records.specs.declared.state.records.Records.{Records}
use Rattle.mqtt_records.specs.declared.state.session.Session.{Session}
use Rattle.mqtt_records.specs.state.Records.{changed}
use Rattle.mqtt_rules.specs.step.State.{Line, Telling, session_at, told_line}
use Rattle.mqtt_broker_step.specs.declared.line.LineChange.{LineChange}
use Rattle.mqtt_broker_step.specs.Lines.{line_changed, line_number}
use Rattle.mqtt_broker_step.specs.Tellings.{telling_cut}

-- after the change the other one makes of any records with this session what they were
abbrev pub TakesBack : (change undo : Change) → Session → Type 0
TakesBack change undo s = (r : Records) → session_at s.birth r ≡ Some s → changed undo (changed change r) ≡ r

-- the change makes of the lines what they were; without one they are
abbrev pub TakesLineBack : ℕ → (old new : List Line) → Option LineChange → Type 0
TakesLineBack number old new None = new ≡ old
TakesLineBack number old new (Some undo) = change_row line_number number (line_changed undo) new ≡ old

-- to forget the topics behind the first so many makes of the tellings what they were; without a number they are
abbrev pub TakesTellingBack : ℕ → (old new : List Telling) → Option ℕ → Type 0
TakesTellingBack line old new None = new ≡ old
TakesTellingBack line old new (Some count) = change_row told_line line (telling_cut count) new ≡ old

-- the change makes this of a line on which these places went out
abbrev pub Makes : (Line → Line) → List ℕ → LineChange → Type 0
Makes f went change = (l : Line) → l.went ≡ went → line_changed change l ≡ f l

-- the change takes this back, of a line on which these places went out
abbrev pub Unmakes : (Line → Line) → List ℕ → LineChange → Type 0
Unmakes f went undo = (l : Line) → l.went ≡ went → line_changed undo (f l) ≡ l
