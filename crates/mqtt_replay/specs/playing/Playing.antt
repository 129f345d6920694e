-- What can happen in a world, and what a script's events come to there (ours).
use Rattle.std.specs.Prelude.{◌≡◌, ⊤, ℕ, ◌+◌, List, [], ◌++◌, Option, None, Some, option_to_list}
use Rattle.std.specs.List.{flat_map}
use Rattle.mqtt_world_model.specs.model.Tellings.{Telling}
use Rattle.mqtt_script.specs.declared.event.Event.{Event}
use Rattle.mqtt_script.specs.declared.event.Event.TheVariants.{Publisher, Receiver}
use Rattle.mqtt_script.specs.Lines.{first_word}
use Rattle.mqtt_script.specs.Telling.{publisher_text, receiver_text, broker_text, bad_text}
use Rattle.mqtt_replay.specs.playing.Told.{told_text}
use Rattle.mqtt_script.specs.declared.bad_line.BadReason.TheVariants.{CannotHappen}
use Rattle.mqtt_script.specs.declared.replay_fault.Played.{Played}
use Rattle.mqtt_script.specs.declared.replay_fault.Played.TheVariants.{Whole, Bad}
use Rattle.mqtt_script.specs.declared.replay_fault.ReplayFault.{ReplayFault}
use Rattle.mqtt_script.specs.declared.replay_fault.ReplayFault.TheVariants.{Read, Write, Memory, Store}
use Rattle.mqtt_replay.specs.declared.playing.ends.End.{End}
use Rattle.mqtt_replay.specs.declared.playing.ends.End.TheVariants as end

-- what can happen in a world, and what is seen of it
pub record Play (W : Type 0) : Type 1 where
  -- the event happens there, tells this, and leaves the world so
  pub happens : W → Event → Telling → W → Type 0
  -- the event can't happen there
  pub is_bad : W → Event → Type 0
  -- there is a cause for which a store ends it
  pub due : Type 0
  -- how many messages a publisher has, and how many of their handshakes are completed
  pub sent : W → List ℕ → ℕ
  pub done : W → List ℕ → ℕ
  -- the publications of the QoS 2 copies that a receiver was handed, and how many copies are in its session's queue
  pub handed : W → List ℕ → List ℕ
  pub queue : W → List ℕ → ℕ
  -- how many publications the broker accepted, and how many sessions it has
  pub publications : W → ℕ
  pub sessions : W → ℕ

-- a replay that ends for its store has the cause that its world tells
abbrev pub IsDue : {W : Type 0} → Play W → ReplayFault → Type 0
IsDue p Read = ⊤
IsDue p Write = ⊤
IsDue p Memory = ⊤
IsDue p Store = p.due

-- how many lines of a script were played, those that are passed over among them, how many of its events happened, the ends that
-- they made, in order, and the world
pub record Standing (W : Type 0) : Type 0 where
  pub lines : ℕ
  pub number : ℕ
  pub ends : List End
  pub world : W

-- none was played
abbrev pub start : {W : Type 0} → W → Standing W
start w = record { lines = 0; number = 0; ends = []; world = w }

-- a line was passed over
abbrev pub passed_over : {W : Type 0} → Standing W → Standing W
passed_over s = record s { lines = s.lines + 1 }

-- the end that an event makes
abbrev pub made_by : Event → Option End
made_by (Publisher client) = Some (end.Publisher client)
made_by (Receiver client window aliases) = Some (end.Receiver client)
made_by e = None

-- ---- what a script's event comes to: it happens, and this is its line

pub record Happened {W : Type 0} (p : Play W) (e : Event) (s : Standing W) (text : List ℕ) (after : Standing W) : Type 0 where
  pub told : Telling
  pub happens : p.happens s.world e told after.world
  pub lines : after.lines ≡ s.lines + 1
  pub number : after.number ≡ s.number + 1
  pub ends : after.ends ≡ s.ends ++ option_to_list (made_by e)
  pub line : text ≡ told_text (s.number + 1) (first_word e) told.reports told.out

-- A text grew by the line of an event that happened, or of one that can't happen there.
abbrev pub AddsLine : {W : Type 0} → Play W → Event → Standing W → Standing W → List ℕ → List ℕ → Played → Type 0
AddsLine p e s after old new Whole = (line : List ℕ) × Happened p e s line after × (new ≡ old ++ line)
AddsLine p e s after old new (Bad bad) =
    p.is_bad s.world e × (bad.reason ≡ CannotHappen) × (bad.number ≡ s.lines + 1) × (new ≡ old ++ bad_text (s.number + 1))

-- ---- what a world came to: a line for each end, in the order in which they were made, and one for the broker

abbrev pub publisher_line : {W : Type 0} → Play W → W → List ℕ → List ℕ
publisher_line p w client = publisher_text client (p.sent w client) (p.done w client)

abbrev pub receiver_line : {W : Type 0} → Play W → W → List ℕ → List ℕ
receiver_line p w client = receiver_text client (p.handed w client) (p.queue w client)

abbrev pub end_line : {W : Type 0} → Play W → W → End → List ℕ
end_line p w (end.Publisher client) = publisher_line p w client
end_line p w (end.Receiver client) = receiver_line p w client

abbrev pub last_lines : {W : Type 0} → Play W → Standing W → List ℕ
last_lines p s = flat_map (end_line p s.world) s.ends ++ broker_text (p.publications s.world) (p.sessions s.world)
