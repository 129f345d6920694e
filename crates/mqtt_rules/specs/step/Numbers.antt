-- Numbers that deeds give: births of sessions, numbers of publications, of granted filters and of assigned client
-- identifiers. Each counts on from the last, and so none is given twice (ours).
use Rattle.std.specs.Prelude.{◌≡◌, ℕ, suc, ◌≤◌, List, [], ◌∷◌, filter_map, Option, Some, None}
use Rattle.std.specs.List.{AllByRecursion}
use Rattle.mqtt_records.specs.declared.state.session.Session.{Session}
use Rattle.mqtt_records.specs.declared.state.records.Records.{Records}
use Rattle.mqtt_records.specs.lists.Order.{IsBelow, IsAscending}
use Rattle.mqtt_records.specs.state.Session.{birth_of, place_of, number_of, copy_place}
use Rattle.mqtt_records.specs.state.Records.{kept_place}
use Rattle.mqtt_rules.specs.step.State.{Broker}
use Rattle.mqtt_rules.specs.step.Deeds.{Deed, Accept, Begin, Name, Count}

-- each is one above the one before it, the first one above n, and m is the last of them, or n if there is none
abbrev pub CountsOn : ℕ → List ℕ → ℕ → Type 0
CountsOn n [] m = m ≡ n
CountsOn n (x ∷ xs) m = (x ≡ suc n) × CountsOn x xs m

abbrev pub birth_given : Deed → Option ℕ
birth_given (Begin row will) = Some row.birth
birth_given d = None

abbrev pub publication_given : Deed → Option ℕ
publication_given (Accept number origin m) = Some number
publication_given d = None

abbrev pub grant_given : Deed → Option ℕ
grant_given (Count n) = Some n
grant_given d = None

abbrev pub name_given : Deed → Option ℕ
name_given (Name n) = Some n
name_given d = None

-- the numbers that deeds give count on from the counters before them, and the counters after them are the last
abbrev pub CountOn : List Deed → Records → Records → Type 0
CountOn ds old new =
    CountsOn old.births (filter_map birth_given ds) new.births
    × CountsOn old.publications (filter_map publication_given ds) new.publications
    × CountsOn old.subscribes (filter_map grant_given ds) new.subscribes
    × CountsOn old.autos (filter_map name_given ds) new.autos

-- no counter is below what it was
abbrev pub NoneFell : Records → Records → Type 0
NoneFell old new =
    (old.births ≤ new.births)
    × (old.publications ≤ new.publications)
    × (old.subscribes ≤ new.subscribes)
    × (old.autos ≤ new.autos)

-- the stored moment isn't above the greatest that was handed in
abbrev pub IsTimed : Broker → Type 0
IsTimed b = b.records.moment ≤ b.now

-- each session that stands has a birth that was given: it is below the next one
abbrev pub HasGivenBirths : Records → Type 0
HasGivenBirths r = IsBelow birth_of (suc r.births) r.sessions

-- each copy in the session's queue has a publication's number up to n
abbrev pub HasCopiesUpTo : ℕ → Session → Type 0
HasCopiesUpTo n s = AllByRecursion (λ e. e.copy.id.publication ≤ n) s.queue

-- each copy in a queue, and each retained message, has the number of a publication that was accepted
abbrev pub HasAcceptedNumbers : Records → Type 0
HasAcceptedNumbers r =
    AllByRecursion (HasCopiesUpTo r.publications) r.sessions
    × AllByRecursion (λ k. k.publication ≤ r.publications) r.retained

-- of a session: its subscriptions by place, its open identifiers and its copies by place, each once
abbrev pub IsInOrder : Session → Type 0
IsInOrder s = IsAscending place_of s.subscriptions × IsAscending number_of s.inbound × IsAscending copy_place s.queue

-- sessions by birth, retained messages by place, and all that sessions have, each once
abbrev pub AreInOrder : Records → Type 0
AreInOrder r =
    IsAscending birth_of r.sessions × AllByRecursion IsInOrder r.sessions × IsAscending kept_place r.retained
