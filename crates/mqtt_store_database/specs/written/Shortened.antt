-- Which changes of a step are written: copies that are removed just before their session is go with it (4.1).
use Rattle.std.specs.Prelude.{◌≡◌, ℕ, Bool, false, ◌&&◌, cond, List, [], ◌∷◌, nat_eq, Option, Some, None}
use Rattle.mqtt_records.specs.declared.state.change.Change.{Change}
use Rattle.mqtt_records.specs.declared.state.change.Change.TheVariants.{RemoveSession, RemoveCopy}
use Rattle.mqtt_store_database.specs.declared.written.ending.Known.{Known}

-- copies of the session are removed, and then the session itself
abbrev pub ends_session : ℕ → List Change → Bool
ends_session birth [] = false
ends_session birth (RemoveSession b ∷ changes) = nat_eq b birth
ends_session birth (RemoveCopy b place ∷ changes) = nat_eq b birth && ends_session birth changes
ends_session birth (_ ∷ changes) = false

-- a copy is removed, and it would go with its session by the changes behind
abbrev pub goes_anyway : Change → List Change → Bool
goes_anyway (RemoveCopy birth place) changes = ends_session birth changes
goes_anyway _ changes = false

-- the changes without those
abbrev pub shortened : List Change → List Change
shortened [] = []
shortened (change ∷ changes) = cond (goes_anyway change changes) (shortened changes) (change ∷ shortened changes)

-- ---- what the writer knows

-- of the changes to come, whether they remove copies of a session, and then the session itself
abbrev pub KnowsEnd : Option Known → List Change → Type 0
KnowsEnd None changes = Unit {0}
KnowsEnd (Some known) changes = ends_session known.birth changes ≡ known.ends

abbrev pub goes_by : Option Known → Bool
goes_by None = false
goes_by (Some known) = known.ends
