-- Copies in memory that say nothing but their topics after a step, and copies that are filled for a pump (MQTT 5.0, 3.3, 4.1).
use Rattle.std.specs.Prelude.{ℕ, List, [], ◌∷◌}
use Rattle.std.specs.List.{AllByRecursion}
use Rattle.mqtt_records.specs.messages.Content.{CopyContent}
use Rattle.mqtt_records.specs.declared.state.change.Change.{Change}
use Rattle.mqtt_records.specs.declared.state.change.Change.TheVariants.{SetCounter, PutSession, SetSession, RemoveSession, PutWill, RemoveWill, PutSubscription, RemoveSubscription, PutInbound, RemoveInbound, PutCopy, SetCopy, RemoveCopy, PutRetained, RemoveRetained}
use Rattle.mqtt_records.specs.declared.state.records.Records.{Records}
use Rattle.mqtt_records.specs.state.Slim.{slim_at, whole_at, TakesIn}

-- the copies at these places of a session's queue say nothing but their topics
abbrev pub slim_places : ℕ → List ℕ → Records → Records
slim_places birth [] r = r
slim_places birth (place ∷ places) r = slim_places birth places (slim_at birth place r)

-- the copy that a change put, if it puts one, says nothing but its topic; of a copy that stands no more nothing changes
abbrev pub slim_put : Change → Records → Records
slim_put (SetCounter counter value) r = r
slim_put (PutSession row) r = r
slim_put (SetSession row) r = r
slim_put (RemoveSession birth) r = r
slim_put (PutWill birth will) r = r
slim_put (RemoveWill birth) r = r
slim_put (PutSubscription birth subscription) r = r
slim_put (RemoveSubscription birth text) r = r
slim_put (PutInbound birth identifier) r = r
slim_put (RemoveInbound birth identifier) r = r
slim_put (PutCopy birth row) r = slim_at birth row.place r
slim_put (SetCopy birth place phase) r = r
slim_put (RemoveCopy birth place) r = r
slim_put (PutRetained kept) r = r
slim_put (RemoveRetained place) r = r

-- the copies that changes put, as far as they stand still, say nothing but their topics
abbrev pub slim_entered : List Change → Records → Records
slim_entered [] r = r
slim_entered (change ∷ changes) r = slim_entered changes (slim_put change r)

-- the copies at the places of what is told say that
abbrev pub whole_places : ℕ → List CopyContent → Records → Records
whole_places birth [] r = r
whole_places birth (content ∷ contents) r = whole_places birth contents (whole_at birth content r)

-- a copy stands at the place of each, of as many bytes
abbrev pub TakesAll : ℕ → List CopyContent → Records → Type 0
TakesAll birth contents r = AllByRecursion (λ (content : CopyContent). TakesIn birth content r) contents
