-- Worlds that run: what a script's events come to there, one after the other, and what holds of all of them (MQTT 5.0, 4.1 to
-- 4.4).
use Rattle.std.specs.Prelude.{◌≡◌, ◌↔◌, ℕ, Bool, false, List, [], ◌∷◌, ◌++◌, length, count_by, cond, bytes_eq, Option, None}
use Rattle.std.specs.Prelude.{Some, Result, Ok, Err, IsErrOf, option_map}
use Rattle.mqtt_keep.specs.declared.keeping.keep.Keep.{Ghosts}
use Rattle.mqtt_records.specs.declared.state.records.Records.{Records}
use Rattle.mqtt_keep.specs.lawful.Lawful.{IsLawful}
use Rattle.mqtt_world_model.specs.model.Tellings.{Telling, done_by, handed_by, queue_length}
use Rattle.mqtt_world_model.specs.model.World as world
use Rattle.mqtt_world_model.specs.model.World.{World, is_end, publisher_named, receiver_named}
use Rattle.mqtt_world_ends.specs.declared.peers.told.RunFault.{RunFault}
use Rattle.mqtt_world_ends.specs.declared.peers.told.RunFault.TheVariants as fault
use Rattle.mqtt_broker.specs.stored.Opening.{IsLoad}
use Rattle.mqtt_script.specs.declared.event.Event.{Event}
use Rattle.mqtt_script.specs.declared.event.Event.TheVariants.{Publish, Drain}
use Rattle.mqtt_world.specs.script_laws.Cleanly.{ComesFairly, ScriptDelivers}
use Rattle.mqtt_world.specs.script_laws.Drains.{DrainHappens}
use Rattle.mqtt_world.specs.script_laws.Scripted.{IsBad, IsBadHere, RunsTo, event_of}
use Rattle.mqtt_world.specs.script_drains.Done.{IsEmptied}
use Rattle.mqtt_rules.specs.spelling.Sending.{HaveSentPhases, SendsWell}
use Rattle.mqtt_world_laws.specs.reading.UnderWay.{IsUninhabited}
use Rattle.mqtt_world_laws.specs.delivery.Untouched.{IsUntouched}
use Rattle.mqtt_world_laws.specs.acceptance.Fair.{opened_world}
use Rattle.mqtt_world_laws.specs.headline.Lives.{BeginsWell}
use Rattle.mqtt_rules.specs.step.Laws.{AreWithin}
use Rattle.mqtt_rules.specs.step.State.{MemberChoice, session_named}
use Rattle.mqtt_rules.specs.step.Step.{is_opening_spent}
use Rattle.mqtt_rules.specs.declared.step.Capacity.{Capacity}
use Rattle.mqtt_world_laws.specs.knowing.Knowing.{HasKnowingEnds}
use Rattle.mqtt_world.specs.declared.scene.over.Over.{Over}
use Rattle.mqtt_world.specs.declared.scene.over.Over.TheVariants as over
use Rattle.mqtt_world.specs.scene.Events.{IsReached}
use Rattle.mqtt_world.specs.scene.Scenes.{WasSound}
use Rattle.mqtt_world.specs.world.Stages.{IsSoundAt, Plays, Staged, TellsDrain, broker_of, world_at}

-- ---- one event of a script

-- what is no event of the world can't happen, and nothing changes
abbrev pub PlaysIf : {K : Type 0} → Ghosts K → Option world.Event → Staged K → Option Telling → Staged K → Type 0
PlaysIf g None old t new = (t ≡ None) × (new ≡ old)
PlaysIf g (Some e) old t new = Plays g e old t new

-- an event of a script: it happens as the world's that it means, or can't; or it is a drain, that happens, or can't
pub data Performs {K : Type 0} (g : Ghosts K) (e : Event) (old : Staged K) (t : Option Telling) (new : Staged K) : Type 0 where
  performs_event : (x : world.Event) → event_of e ≡ Some x → Plays g x old t new → Performs g e old t new
  performs_drain : (client : List ℕ) → e ≡ Drain client → TellsDrain g client old t new → Performs g e old t new

-- ---- events, one after the other

-- over a store whose device is sound after it, from a broker that there is, whose ends know what they were told by aliases
abbrev pub IfSound : {K : Type 0} → Ghosts K → Staged K → Staged K → Type 0 → Type 0
IfSound g old new P = IsSoundAt g new → IsReached old.limits (broker_of old) → HasKnowingEnds (world_at old) → P

-- they happen in the definitions' world, with what each tells
pub record Runs {K : Type 0} (g : Ghosts K) (es : List Event) (old : Staged K) (ts : List Telling) (new : Staged K) : Type 0 where
  pub limits : new.limits ≡ old.limits
  pub sound : WasSound g old.played new.played
  pub reached : IfSound g old new (IsReached old.limits (broker_of new))
  pub runs : IfSound g old new (RunsTo old.limits es ts (world_at old) (world_at new))

-- ---- a world: what stands, or why it is over; and the events that happened in it

pub record Lasting (K : Type 0) : Type 0 where
  pub stage : Result (Staged K) Over
  pub events : List Event

abbrev pub with_stage : {K : Type 0} → Staged K → Lasting K → Lasting K
with_stage s w = record w { stage = Ok s }

abbrev pub over_by : {K : Type 0} → Over → Lasting K → Lasting K
over_by o w = record w { stage = Err o }

-- ---- all that a world keeps

-- events led from one world to what stands, by a run of the definitions' world
pub record Came {K : Type 0} (start : World) (es : List Event) (s : Staged K) : Type 0 where
  pub within : AreWithin s.limits
  pub reached : IsReached s.limits (broker_of s)
  pub knowing : HasKnowingEnds (world_at s)
  pub tells : List Telling
  pub runs : RunsTo s.limits es tells start (world_at s)

-- while it stands, and the device of its store has returned what was written, the events that it keeps led there
abbrev pub HasCome : {K : Type 0} → Ghosts K → World → Lasting K → Type 0
HasCome {K} g start w = (s : Staged K) → w.stage ≡ Ok s → IsSoundAt g s → Came start w.events s

-- over a store whose device is sound then, if nobody was there at first, and the broker sent well
abbrev pub IfBegunWell : {K : Type 0} → Ghosts K → World → Staged K → Type 0 → Type 0
IfBegunWell g start to P = IsSoundAt g to → IsUninhabited start → SendsWell start.broker → P

-- ---- what happens in a world

-- events happened, with what each tells, and the world keeps them
pub record Happen {K : Type 0} (g : Ghosts K) (es : List Event) (ts : List Telling) (old new : Lasting K) : Type 0 where
  pub from : Staged K
  pub to : Staged K
  pub was : old.stage ≡ Ok from
  pub is : new.stage ≡ Ok to
  pub runs : Runs g es from ts to
  pub kept : new.events ≡ old.events ++ es

-- a receiver was drained, in so many rounds, and the world keeps that
pub record HappenDrained {K : Type 0} (g : Ghosts K) (client : List ℕ) (rounds : ℕ) (old new : Lasting K) : Type 0 where
  pub t : Telling
  pub happened : Happen g (Drain client ∷ []) (t ∷ []) old new
  pub drained : (from to : Staged K) → old.stage ≡ Ok from → new.stage ≡ Ok to
      → IfSound g from to ((h : DrainHappens from.limits client t (world_at from) (world_at to)) × (h.rounds ≡ rounds))

-- an event can't happen there, and nothing changed; and it is bad where the events that are kept have led
pub record CantHappen {K : Type 0} (g : Ghosts K) (e : Event) (old new : Lasting K) : Type 0 where
  pub nothing : Happen g [] [] old new
  pub bad : IfSound g nothing.from nothing.to (IsBadHere e (world_at nothing.from))
  pub is_bad : (start : World) → HasCome g start old → IfBegunWell g start nothing.to (IsBad e (world_at nothing.from))

-- why an event did not happen: it can't, and its place is behind those that the world keeps; or the world is over
abbrev pub Refuses : {K : Type 0} → Ghosts K → Event → RunFault → Lasting K → Lasting K → Type 0
Refuses g e (fault.BadEvent place) old new = CantHappen g e old new × (place ≡ length old.events)
Refuses g e fault.Memory old new = new ≡ over_by over.Memory old
Refuses g e fault.Store old new = new ≡ over_by over.Store old

-- the events before one happened, and that one did not
pub record Stops {K : Type 0} (g : Ghosts K) (es : List Event) (f : RunFault) (old new : Lasting K) : Type 0 where
  pub before : List Event
  pub event : Event
  pub rest : List Event
  pub are : es ≡ before ++ event ∷ rest
  pub tells : List Telling
  pub mid : Lasting K
  pub happened : Happen g before tells old mid
  pub refused : Refuses g event f mid new

-- ---- what holds of all that a world keeps

-- exactly-once delivery, of all of them, whatever fair turns they came to: if nobody was there at first, and what was stored is as
-- a broker leaves it (3.1.2.4, 3.3.4, 4.3, 4.4, 4.6, 4.8, 4.9)
abbrev pub HasDelivered : {K : Type 0} → Ghosts K → World → Lasting K → Type 0
HasDelivered {K} g start w = (s : Staged K) → w.stage ≡ Ok s → IsSoundAt g s → BeginsWell s.limits start
    → ScriptDelivers s.limits w.events start (world_at s)

-- a drain empties the queue, and the receiver's line stands still; it takes no more rounds than twice the copies that stand in
-- the queue at its start or enter in its first round, and one; and each copy that ends in it is the receiver's, and ends for a
-- cause of a drain, none as too large; if nobody was there at first, and fair turns led to where it began (3.1.2.4, 3.1.2.11,
-- 3.3.2.3.3, 4.3, 4.4, 4.6, 4.9)
abbrev pub DrainEmpties : {K : Type 0} → Ghosts K → World → List ℕ → ℕ → Lasting K → Lasting K → Type 0
DrainEmpties {K} g start client rounds old new = (from to : Staged K) → old.stage ≡ Ok from → new.stage ≡ Ok to → IsSoundAt g to
    → IsUntouched from.limits start → ComesFairly from.limits old.events start (world_at from)
    → IsEmptied from.limits client rounds (world_at from) (world_at to)

-- ---- which events are bad

-- an event is answered as bad exactly if it is, where the events that are kept have led
abbrev pub TellsBad : {K T : Type 0} → Ghosts K → World → Event → Result T RunFault → Lasting K → Lasting K → Type 0
TellsBad {K} g start e answer old new = (from to : Staged K) → old.stage ≡ Ok from → new.stage ≡ Ok to
    → IfBegunWell g start to (IsErrOf answer (fault.BadEvent (length old.events)) ↔ IsBad e (world_at from))

-- the events before one are kept, and that one is bad where they have led
pub record StopsAtBad {K : Type 0} (es : List Event) (old new : Lasting K) (w : World) : Type 0 where
  pub before : List Event
  pub event : Event
  pub rest : List Event
  pub are : es ≡ before ++ event ∷ rest
  pub kept : new.events ≡ old.events ++ before
  pub bad : IsBad event w

-- a run of events is answered as one with a bad event exactly if it stopped at one
abbrev pub TellsFirstBad : {K T : Type 0} → Ghosts K → World → List Event → Result T RunFault → Lasting K → Lasting K → Type 0
TellsFirstBad {K} g start es answer old new = (from to : Staged K) → old.stage ≡ Ok from → new.stage ≡ Ok to
    → IfBegunWell g start to (IsErrOf answer (fault.BadEvent (length new.events)) ↔ StopsAtBad es old new (world_at to))

-- ---- how a world begins

-- it begins at moment 0 with an opening of lawful records that the store's load answered, without ends or strangers; it is the
-- definitions' world, if the device of its store is sound
pub record Starts {K : Type 0} (g : Ghosts K) (limits : Capacity) (keep : K) (w : Lasting K) : Type 0 where
  pub loaded : K
  pub records : Records
  pub load : IsLoad g keep records loaded
  pub lawful : IsLawful records
  -- what was in flight has packet identifiers from 1, of two bytes (2.2.1)
  pub identifiers : HaveSentPhases records
  pub choice : MemberChoice
  pub unspent : is_opening_spent limits choice 0 records ≡ false
  pub at : Staged K
  pub sound : IsSoundAt g at → g.is_sound loaded
  pub stage : w.stage ≡ Ok at
  pub limits_are : at.limits ≡ limits
  pub now : at.now ≡ 0
  pub nobody : IsUninhabited (world_at at)
  pub world : IsSoundAt g at → world_at at ≡ opened_world limits choice 0 records
  pub events : w.events ≡ []
  -- its runs have all that is proved of every run
  pub comes : HasCome g (opened_world limits choice 0 records) w
  -- nobody is there, and then its broker sends well
  pub alone : IsUninhabited (opened_world limits choice 0 records)
  pub sends : SendsWell (opened_world limits choice 0 records).broker

-- ---- what is seen of a world; of one that is over there is nothing to see

abbrev pub seen_at : {K A : Type 0} → (World → Option A) → Result (Staged K) Over → Option A
seen_at look (Ok s) = look (world_at s)
seen_at look (Err o) = None

abbrev pub seen : {K A : Type 0} → (World → Option A) → Lasting K → Option A
seen look w = seen_at look w.stage

-- a publisher of this name is given a message, of any QoS
abbrev pub is_publish_of : List ℕ → Event → Bool
is_publish_of client (Publish name draft) = bytes_eq name client
is_publish_of client e = false

-- how many messages a publisher was given in these events, whether they went out or not
abbrev pub sent_in : List ℕ → List Event → World → Option ℕ
sent_in client es w = option_map (λ p. count_by (is_publish_of client) es) (publisher_named client w)

abbrev pub done_in : List ℕ → World → Option ℕ
done_in client w = option_map (λ p. done_by (Some p)) (publisher_named client w)

abbrev pub handed_in : List ℕ → World → Option (List ℕ)
handed_in client w = option_map (λ r. handed_by (Some r)) (receiver_named client w)

abbrev pub queue_in : List ℕ → World → Option ℕ
queue_in client w = cond (is_end client w) (Some (queue_length (session_named client w.broker.records))) None

abbrev pub publications_in : World → Option ℕ
publications_in w = Some w.broker.records.publications

abbrev pub sessions_in : World → Option ℕ
sessions_in w = Some (length w.broker.records.sessions)
