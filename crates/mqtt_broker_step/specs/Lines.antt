-- The table of lines, by their numbers.
use Rattle.std.specs.Prelude.{◌≡◌, refl, ℕ, zero, suc, cond, List, [], ◌∷◌, ◌++◌, Option, Some, is_some}
use Rattle.std.specs.List.{remove}
use Rattle.mqtt_topic.specs.names.Aliases.{AliasTable, after_resolve, restored, topic_of, with_topics}
use Rattle.mqtt_flow.specs.inbound.Identifiers.{ids_without}
use Rattle.mqtt_rules.specs.step.State.{Line}
use Rattle.mqtt_broker_step.specs.declared.line.LineChange.{LineChange}
use Rattle.mqtt_broker_step.specs.declared.line.LineChange.TheVariants.{Hear, Greet, SetWent, PushWent, PopWent, RemoveWent, PutWentBack, RestoreAlias}
use Rattle.mqtt_broker_step.specs.Places.{with_inserted, with_pushed, without_last}

abbrev pub line_number : Line → ℕ
line_number l = l.number

-- an alias that stands for a topic stands for what it stood for before
abbrev pub alias_restored : ℕ → Option (List ℕ) → AliasTable → AliasTable
alias_restored alias before table =
    cond (is_some (topic_of alias table.topics)) (with_topics table (restored alias before table.topics)) table

-- an alias stands for a topic
abbrev pub with_alias : ℕ → List ℕ → Line → Line
with_alias alias topic l = record l { aliases = after_resolve l.aliases topic (Some alias) }

abbrev pub line_changed : LineChange → Line → Line
line_changed (Hear heard) l = record l { heard = heard }
line_changed (Greet session keep_alive window largest) l =
    record l { session = session; keep_alive = keep_alive; window = window; largest = largest }
line_changed (SetWent went) l = record l { went = went }
line_changed (PushWent place) l = record l { went = with_pushed place l.went }
line_changed PopWent l = record l { went = without_last l.went }
line_changed (RemoveWent index) l = record l { went = remove l.went index }
line_changed (PutWentBack index place) l = record l { went = with_inserted index place l.went }
line_changed (RestoreAlias alias before) l = record l { aliases = alias_restored alias before l.aliases }

-- a copy's PUBLISH is told as gone out
abbrev pub with_went : ℕ → Line → Line
with_went place l = record l { went = l.went ++ place ∷ [] }

-- a copy's PUBLISH is told no longer as gone out
abbrev pub without_went : ℕ → Line → Line
without_went place l = record l { went = ids_without place l.went }

-- the i-th line changed
abbrev pub nth_changed : ℕ → (Line → Line) → List Line → List Line
nth_changed i f [] = []
nth_changed zero f (l ∷ ls) = f l ∷ ls
nth_changed (suc i) f (l ∷ ls) = l ∷ nth_changed i f ls

-- the i-th line and all behind it changed
abbrev pub changed_from : ℕ → (Line → Line) → List Line → List Line
changed_from i f [] = []
changed_from zero f (l ∷ ls) = f l ∷ changed_from zero f ls
changed_from (suc i) f (l ∷ ls) = l ∷ changed_from i f ls

-- the number stays
pub number-line_changed : (change : LineChange) (l : Line) → line_number (line_changed change l) ≡ line_number l
number-line_changed (Hear heard) l = refl
number-line_changed (Greet session keep_alive window largest) l = refl
number-line_changed (SetWent went) l = refl
number-line_changed (PushWent place) l = refl
number-line_changed PopWent l = refl
number-line_changed (RemoveWent index) l = refl
number-line_changed (PutWentBack index place) l = refl
number-line_changed (RestoreAlias alias before) l = refl
