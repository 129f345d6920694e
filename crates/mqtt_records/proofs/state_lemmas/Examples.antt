-- Worked rows, computed: a subscriber gets a message of QoS 2, its session ends, a full list.
use Rattle.std.proofs.Common.{◌≡◌, ℕ, false, List, [], ◌∷◌, get_or, rules, arith, ap, refl}
use Rattle.std.specs.Prelude.{codes, Some, None}
use Rattle.mqtt_base.specs.declared.session.Phase.{Phase}
use Rattle.mqtt_base.specs.declared.session.Phase.TheVariants.{Waiting, Sent}
use Rattle.mqtt_base.specs.declared.session.Cause.TheVariants.{Direct}
use Rattle.mqtt_base.specs.declared.session.Qos.TheVariants.{ExactlyOnce}
use Rattle.mqtt_base.specs.declared.session.RetainHandling.TheVariants.{SendAlways}
use Rattle.mqtt_base.specs.declared.session.SubscriptionOptions.{SubscriptionOptions}
use Rattle.mqtt_records.specs.declared.messages.message.Content.{Content}
use Rattle.mqtt_records.specs.declared.messages.message.MessageCopy.{MessageCopy}
use Rattle.mqtt_records.specs.declared.state.subscription.Subscription.{Subscription}
use Rattle.mqtt_records.specs.messages.Queue.{CopyRow}
use Rattle.mqtt_records.specs.declared.state.session.Columns.{Columns}
use Rattle.mqtt_records.specs.declared.state.session.Session.{Session}
use Rattle.mqtt_records.specs.declared.state.records.Records.{Records}
use Rattle.mqtt_records.specs.declared.state.change.Counter.TheVariants.{Births, Publications, Subscribes}
use Rattle.mqtt_records.specs.declared.state.change.Change.{Change}
use Rattle.mqtt_records.specs.declared.state.change.Change.TheVariants.{SetCounter, PutSession, SetSession, RemoveSession, PutSubscription, PutInbound, RemoveInbound, PutCopy, SetCopy, RemoveCopy}
use Rattle.mqtt_records.specs.lists.Order.{put_row}
use Rattle.mqtt_records.specs.state.Session.{number_of}
use Rattle.mqtt_records.specs.state.Records.{nothing, copy_at, changed, changed_all, Fits, FitAll}

abbrev columns : ℕ → List ℕ → Columns
columns birth client = record { birth = birth; client = client; expiry = 60; closed = None }

abbrev options : SubscriptionOptions
options = record { qos = ExactlyOnce; no_local = false; retain_as_published = false; retain_handling = SendAlways }

abbrev wish : Subscription
wish = record { filter = codes "a/b"; place = 1; options = options; identifier = None }

abbrev content : Content
content = record { topic = codes "a/b"; properties = []; payload = codes "hi"; arrived = 0 }

abbrev copy : MessageCopy
copy = record { id = record { publication = 1; birth = 1; cause = Direct }; qos = ExactlyOnce; retain = false; identifiers = []; content = content }

abbrev entry : ℕ → Phase → CopyRow
entry place phase = record { place = place; phase = phase; copy = copy }

-- the subscriber comes and subscribes, the publisher comes and publishes, and the copy is sent
abbrev course : List Change
course =
    PutSession (columns 1 (codes "r1")) ∷ SetCounter Births 1
    ∷ PutSubscription 1 wish ∷ SetCounter Subscribes 1
    ∷ PutSession (columns 2 (codes "p1")) ∷ SetCounter Births 2
    ∷ SetCounter Publications 1 ∷ PutInbound 2 10 ∷ PutCopy 1 (entry 1 Waiting)
    ∷ SetCopy 1 1 (Sent 1) ∷ []

abbrev subscriber : Session
subscriber = record {
  birth = 1;
  client = codes "r1";
  expiry = 60;
  closed = None;
  will = None;
  subscriptions = wish ∷ [];
  inbound = [];
  queue = entry 1 (Sent 1) ∷ [];
}

abbrev publisher : Session
publisher = record {
  birth = 2;
  client = codes "p1";
  expiry = 60;
  closed = None;
  will = None;
  subscriptions = [];
  inbound = 10 ∷ [];
  queue = [];
}

abbrev sent : Records
sent = record { births = 2; publications = 1; subscribes = 1; autos = 0; moment = 0; sessions = subscriber ∷ publisher ∷ []; retained = [] }

course_gives : changed_all course nothing ≡ sent
course_gives = refl

course_fits : FitAll course nothing
course_fits = search rules

-- with the subscriber's session its subscription and its copy are gone
end_gives : changed (RemoveSession 1) sent ≡ record sent { sessions = publisher ∷ [] }
end_gives = refl

-- a new row of a session leaves its other rows; what doesn't stand isn't changed
row_gives : changed (PutSession (record (columns 1 (codes "r1")) { closed = Some 7 })) sent ≡ record sent { sessions = record subscriber { closed = Some 7 } ∷ publisher ∷ [] }
row_gives = refl

-- the same by the row alone, if the session stands; else nothing
set_gives : changed (SetSession (record (columns 1 (codes "r1")) { closed = Some 7 })) sent ≡ record sent { sessions = record subscriber { closed = Some 7 } ∷ publisher ∷ [] }
set_gives = refl

set_gives_nothing : changed (SetSession (columns 3 (codes "r1"))) sent ≡ sent
set_gives_nothing = refl

missing_gives : changed (SetCopy 3 1 Waiting) sent ≡ sent
missing_gives = refl

-- rows stand by their keys, whatever the order in which they came
order_gives : (changed_all (PutCopy 1 (entry 3 Waiting) ∷ PutCopy 1 (entry 2 Waiting) ∷ RemoveCopy 1 1 ∷ []) sent).sessions
    ≡ record subscriber { queue = entry 2 Waiting ∷ entry 3 Waiting ∷ [] } ∷ publisher ∷ []
order_gives = refl

open_gives : (changed_all (PutInbound 2 12 ∷ PutInbound 2 11 ∷ PutInbound 2 12 ∷ RemoveInbound 2 10 ∷ []) sent).sessions
    ≡ subscriber ∷ record publisher { inbound = 11 ∷ 12 ∷ [] } ∷ []
open_gives = refl

-- a subscription to the same filter is replaced, and stands at its own place
filter_gives : (changed (PutSubscription 1 (record wish { place = 4; identifier = Some 9 })) sent).sessions
    ≡ record subscriber { subscriptions = record wish { place = 4; identifier = Some 9 } ∷ [] } ∷ publisher ∷ []
filter_gives = refl

-- a full list takes no further key, and still replaces a row
full_gives : put_row number_of 2 7 (3 ∷ 5 ∷ []) ≡ 3 ∷ 5 ∷ []
full_gives = refl

replaced_gives : put_row number_of 2 5 (3 ∷ 5 ∷ []) ≡ 3 ∷ 5 ∷ []
replaced_gives = refl

-- what a copy is found by
copy_gives : copy_at 1 1 sent ≡ Some (entry 1 (Sent 1))
copy_gives = refl

no_copy_gives : copy_at 2 1 sent ≡ None
no_copy_gives = refl

-- a second session with the same client identifier, or a copy for nobody, doesn't fit
no_second_client : Fits (PutSession (columns 3 (codes "r1"))) sent → ⊥
no_second_client fits = let same : 1 ≡ 3 = fits.1 0 subscriber (search rules) refl in absurd (omega (arith, same))

no_copy_for_nobody : Fits (PutCopy 3 (entry 1 Waiting)) sent → ⊥
no_copy_for_nobody fits = absurd fits.0

-- nor does a copy of another session, or a number above the last
no_foreign_copy : Fits (PutCopy 2 (entry 1 Waiting)) sent → ⊥
no_foreign_copy fits = let same : 1 ≡ 2 = fits.1.session in absurd (omega (arith, same))

no_number_above_the_last : Fits (SetCounter Births 4611686018427387905) sent → ⊥
no_number_above_the_last fits = let within = fits.1 in absurd (omega (arith, within))

-- a session keeps its client identifier
no_other_client : Fits (SetSession (columns 2 (codes "r1"))) sent → ⊥
no_other_client fits = let first : 112 ≡ 114 = ap (λ (text : List ℕ). get_or text 0 0) fits.0 in absurd (omega (arith, first))
