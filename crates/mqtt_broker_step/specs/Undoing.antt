-- The tables under way: what they were when the step began, and what its changes made of them.
use Rattle.std.specs.Prelude.{ℕ, List, [], ◌∷◌, Option, Some, None}
use Rattle.mqtt_base.specs.declared.limits.TheConstants.{LINE_LIMIT, SESSION_LIMIT}
use Rattle.mqtt_records.specs.lists.Order.{put_row, remove_row, change_row}
use Rattle.mqtt_records.specs.declared.state.records.Records.{Records}
use Rattle.mqtt_records.specs.declared.state.change.Change.{Change}
use Rattle.mqtt_records.specs.declared.state.change.Change.TheVariants.{SetCounter}
use Rattle.mqtt_records.specs.declared.state.change.Counter.TheVariants.{Publications, Subscribes}
use Rattle.mqtt_records.specs.state.Records.{changed}
use Rattle.mqtt_records.specs.state.Session.{birth_of}
use Rattle.mqtt_rules.specs.step.State.{Line, Telling, Broker, told_line}
use Rattle.mqtt_broker_step.specs.declared.line.LineChange.{LineChange}
use Rattle.mqtt_broker_step.specs.declared.undo.Undo.{Undo}
use Rattle.mqtt_broker_step.specs.declared.undo.Undo.TheVariants.{Make, PutSession, PutLine, RemoveLine, EditLine, PutTelling, RemoveTelling, CutTelling, SetMoment}
use Rattle.mqtt_broker_step.specs.Lines.{line_number, line_changed}
use Rattle.mqtt_broker_step.specs.Tellings.{telling_cut}

abbrev pub broker_of : Records → List Line → List Telling → ℕ → ℕ → Broker
broker_of r ls ts given moment = record { records = r; lines = ls; given = given; now = moment; tellings = ts }

abbrev pub with_records : Records → Broker → Broker
with_records r b = record b { records = r }

abbrev pub with_lines : List Line → Broker → Broker
with_lines ls b = record b { lines = ls }

abbrev pub with_tellings : List Telling → Broker → Broker
with_tellings ts b = record b { tellings = ts }

abbrev pub moment_of : Broker → ℕ
moment_of b = b.now

abbrev pub with_moment_of : ℕ → Broker → Broker
with_moment_of moment b = record b { now = moment }

-- a change of what is stored
abbrev pub with_change : Change → Broker → Broker
with_change change b = with_records (changed change b.records) b

-- a line more, whose number is the last one given
abbrev pub with_linked : Line → Broker → Broker
with_linked line b = record b { lines = put_row line_number LINE_LIMIT line b.lines; given = line.number }

-- a change of a line
abbrev pub with_line_changed : ℕ → LineChange → Broker → Broker
with_line_changed number change b = with_lines (change_row line_number number (line_changed change) b.lines) b

-- ---- the journal: for each change what takes it back, in the order of the changes

abbrev pub undone : Undo → Broker → Broker
undone (Make change) b = with_change change b
undone (PutSession session) b =
    with_records (record b.records { sessions = put_row birth_of SESSION_LIMIT session b.records.sessions }) b
undone (PutLine line) b = with_lines (put_row line_number LINE_LIMIT line b.lines) b
undone (RemoveLine number given) b = record b { lines = remove_row line_number number b.lines; given = given }
undone (EditLine number change) b = with_line_changed number change b
undone (PutTelling telling) b = with_tellings (put_row told_line LINE_LIMIT telling b.tellings) b
undone (RemoveTelling line) b = with_tellings (remove_row told_line line b.tellings) b
undone (CutTelling line count) b = with_tellings (change_row told_line line (telling_cut count) b.tellings) b
undone (SetMoment moment) b = record b { now = moment }

-- the last change is taken back first
abbrev pub taken_back : List Undo → Broker → Broker
taken_back [] b = b
taken_back (u ∷ us) b = undone u (taken_back us b)

-- ---- tables under way

pub record Changing : Type 0 where
  pub start : Broker  -- when the step began
  pub broker : Broker

abbrev pub changing : List Undo → Broker → Changing
changing us b = record { start = taken_back us b; broker = b }

abbrev pub become : Broker → Changing → Changing
become b c = record c { broker = b }

-- nothing is to be taken back
abbrev pub settled : Broker → Changing
settled b = record { start = b; broker = b }

-- ---- numbers before the step

-- what a change makes the number of the last publication, and of the last granted filter, if it sets it
abbrev pub publications_set : Undo → Option ℕ
publications_set (Make (SetCounter Publications value)) = Some value
publications_set u = None

abbrev pub subscribes_set : Undo → Option ℕ
subscribes_set (Make (SetCounter Subscribes value)) = Some value
subscribes_set u = None

-- the change that is taken back last decides
abbrev pub set_or : Option ℕ → ℕ → ℕ
set_or None n = n
set_or (Some value) n = value

abbrev pub publications_before : List Undo → ℕ → ℕ
publications_before [] last = last
publications_before (u ∷ us) last = set_or (publications_set u) (publications_before us last)

abbrev pub subscribes_before : List Undo → ℕ → ℕ
subscribes_before [] last = last
subscribes_before (u ∷ us) last = set_or (subscribes_set u) (subscribes_before us last)
