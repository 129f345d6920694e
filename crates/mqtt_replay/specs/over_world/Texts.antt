-- The text of a script: its events run in the definitions' world, one after the other, and a line tells of each (MQTT 5.0, 4.1
-- to 4.4).
use Rattle.std.specs.Prelude.{◌≡◌, ◌⊎◌, ℕ, ◌+◌, false, true, List, [], ◌∷◌, ◌++◌, length, Option, option_to_list, unwrap_or}
use Rattle.std.specs.List.{flat_map}
use Rattle.std.specs.Io.KnownBytes.{Appends}
use Rattle.mqtt_keep.specs.lawful.Lawful.{IsLawful}
use Rattle.mqtt_keep.specs.declared.keeping.keep.Keep.{Ghosts}
use Rattle.mqtt_records.specs.declared.state.records.Records.{Records}
use Rattle.mqtt_world_model.specs.model.Tellings.{Telling}
use Rattle.mqtt_world_model.specs.model.World.{World}
use Rattle.mqtt_broker.specs.stored.Opening.{IsLoad}
use Rattle.mqtt_rules.specs.step.State.{MemberChoice}
use Rattle.mqtt_rules.specs.step.Step.{is_opening_spent}
use Rattle.mqtt_rules.specs.declared.step.Capacity.{Capacity}
use Rattle.mqtt_script.specs.declared.event.Event.{Event}
use Rattle.mqtt_script.specs.BadLines.{why_no_event}
use Rattle.mqtt_script.specs.declared.bad_line.BadReason.{BadReason}
use Rattle.mqtt_script.specs.declared.bad_line.BadReason.TheVariants.{CannotHappen}
use Rattle.mqtt_script.specs.Lines.{IsLineOf, IsNoLine, first_word, is_passed_over}
use Rattle.mqtt_script.specs.Telling.{bad_text, broker_text, publisher_text, receiver_text}
use Rattle.mqtt_world.specs.script_laws.Cleanly.{ScriptDelivers}
use Rattle.mqtt_world.specs.script_laws.Scripted.{IsBad, RunsTo}
use Rattle.mqtt_world_laws.specs.headline.Lives.{BeginsWell}
use Rattle.mqtt_world_laws.specs.acceptance.Fair.{opened_world}
use Rattle.mqtt_rules.specs.spelling.Sending.{HaveSentPhases}
use Rattle.mqtt_replay.specs.playing.Told.{told_text}
use Rattle.mqtt_script.specs.declared.replay_fault.Played.{Played}
use Rattle.mqtt_script.specs.declared.replay_fault.Played.TheVariants.{Whole, Bad}
use Rattle.mqtt_replay.specs.declared.playing.ends.End.{End}
use Rattle.mqtt_replay.specs.declared.playing.ends.End.TheVariants.{Publisher, Receiver}
use Rattle.mqtt_replay.specs.playing.Playing.{made_by}
use Rattle.mqtt_world.specs.world.Worlds.{done_in, handed_in, queue_in, sent_in}

-- ---- the events of lines: one for each, but for lines that are passed over

abbrev pub AreEventsOf : List (List ℕ) → List Event → Type 0
AreEventsOf [] es = es ≡ []
AreEventsOf (line ∷ lines) es =
    ((is_passed_over line ≡ true) × AreEventsOf lines es)
    ⊎ ((is_passed_over line ≡ false) × (e : Event) × (rest : List Event) × IsLineOf e line × (es ≡ e ∷ rest)
    × AreEventsOf lines rest)

-- a line is bad there, for this reason: it is that of no event, or of one that is bad there
abbrev pub IsBadLineIn : List ℕ → World → BadReason → Type 0
IsBadLineIn line w reason =
    (is_passed_over line ≡ false)
    × ((IsNoLine line × (reason ≡ why_no_event line)) ⊎ ((e : Event) × IsLineOf e line × IsBad e w × (reason ≡ CannotHappen)))

-- ---- a line for each event that happened, numbered on from here, with what it tells

abbrev pub lines_told : ℕ → List Event → List Telling → List ℕ
lines_told number [] ts = []
lines_told number (e ∷ es) [] = []
lines_told number (e ∷ es) (t ∷ ts) =
    told_text (number + 1) (first_word e) t.reports t.out ++ lines_told (number + 1) es ts

-- ---- what the events came to: a line for each end, in the order in which they were made, and one for the broker

abbrev pub ends_made : List Event → List End
ends_made es = flat_map (λ (e : Event). option_to_list (made_by e)) es

abbrev pub end_line_in : List Event → World → End → List ℕ
end_line_in es w (Publisher client) = publisher_text client (unwrap_or (sent_in client es w) 0) (unwrap_or (done_in client w) 0)
end_line_in es w (Receiver client) = receiver_text client (unwrap_or (handed_in client w) []) (unwrap_or (queue_in client w) 0)

abbrev pub last_lines_in : List Event → World → List ℕ
last_lines_in es w =
    flat_map (end_line_in es w) (ends_made es) ++ broker_text w.broker.records.publications (length w.broker.records.sessions)

-- ---- lines of a script run from one world to another, and are told so; and exactly-once delivery holds of it, if nobody was
-- there at first, of whatever fair turns they came to (3.1.2.4, 3.3.4, 4.3, 4.4, 4.6, 4.8, 4.9)

pub record RunsLines (limits : Capacity) (lines : List (List ℕ)) (w : World) (text : List ℕ) (events : List Event) (after : World) : Type 0 where
  pub are : AreEventsOf lines events
  pub tells : List Telling
  pub runs : RunsTo limits events tells w after
  pub told : text ≡ lines_told 0 events tells
  pub delivers : BeginsWell limits w → ScriptDelivers limits events w after

-- ---- the text of a script from a world on: all its lines run, and what they came to stands behind; or those before a bad line do,
-- and the number that its event would have. Of the bad line the number is answered, counted from 1 among all lines, and the reason

abbrev pub ReplayText : Capacity → World → List (List ℕ) → List ℕ → Played → Type 0
ReplayText limits w lines text Whole =
    (front : List ℕ) × (events : List Event) × (after : World) × RunsLines limits lines w front events after
    × (text ≡ front ++ last_lines_in events after)
ReplayText limits w lines text (Bad bad) =
    (good : List (List ℕ)) × (line : List ℕ) × (rest : List (List ℕ)) × (front : List ℕ) × (events : List Event) × (after : World)
    × (lines ≡ good ++ line ∷ rest) × RunsLines limits good w front events after
    × (bad.number ≡ length good + 1) × IsBadLineIn line after bad.reason
    × (text ≡ front ++ bad_text (length events + 1))

-- a beginning of it: that of lines with which the script begins
abbrev pub FrontText : Capacity → World → List (List ℕ) → List ℕ → Type 0
FrontText limits w lines text =
    (good rest : List (List ℕ)) × (events : List Event) × (after : World)
    × (lines ≡ good ++ rest) × RunsLines limits good w text events after

-- such a text was written
abbrev pub Wrote : (List ℕ → Type 0) → Option (List ℕ) → Option (List ℕ) → Type 0
Wrote IsText before after = (text : List ℕ) × IsText text × Appends before after text

-- ---- over a store: the broker is opened at moment 0 on lawful records that its load answered, in which what was in flight has
-- packet identifiers from 1, of two bytes; and this holds of the world in which it stands, if the device, as the store was left,
-- has returned what was written (2.2.1, 4.1)

pub record OpensOver {K : Type 0} (g : Ghosts K) (limits : Capacity) (keep : K) (Holds : World → Type 0) : Type 0 where
  pub loaded : K
  pub records : Records
  pub load : IsLoad g keep records loaded
  pub lawful : IsLawful records
  pub identifiers : HaveSentPhases records
  pub choice : MemberChoice
  pub unspent : is_opening_spent limits choice 0 records ≡ false
  pub left : K
  pub sound : g.is_sound left → g.is_sound loaded
  pub holds : g.is_sound left → Holds (opened_world limits choice 0 records)

abbrev pub ReplaysOver : {K : Type 0} → Ghosts K → Capacity → K → List (List ℕ) → Option (List ℕ) → Option (List ℕ) → Played → Type 0
ReplaysOver g limits keep lines before after played =
    OpensOver g limits keep (λ w. Wrote (λ text. ReplayText limits w lines text played) before after)

abbrev pub FrontOver : {K : Type 0} → Ghosts K → Capacity → K → List (List ℕ) → Option (List ℕ) → Option (List ℕ) → Type 0
FrontOver g limits keep lines before after =
    OpensOver g limits keep (λ w. Wrote (λ text. FrontText limits w lines text) before after)
