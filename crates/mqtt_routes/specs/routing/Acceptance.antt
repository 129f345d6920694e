-- When a publication is accepted, and which member of a group gets it (MQTT 5.0, 3.3.4, 4.8.2, 4.9).
use Rattle.std.specs.Prelude.{◌≡◌, ℕ, ◌+◌, ◌<◌, Bool, true, false, cond, not, ◌&&◌, ◌||◌, List, [], ◌∷◌, ◌++◌, filter, length, bytes_eq, nat_eq, nat_lt, slice_index_or, Option, Some, None, option_map, ⊤}
use Rattle.std.specs.List.{list_any, list_all, count_by}
use Rattle.std.specs.Option.{option_and_then}
use Rattle.mqtt_topic.specs.names.Filters.{group_of}
use Rattle.mqtt_routes.specs.declared.routing.fault.RoutesFault.{RoutesFault}
use Rattle.mqtt_routes.specs.declared.routing.fault.RoutesFault.TheVariants.{Full, Memory}
use Rattle.mqtt_routes.specs.routing.Subscriptions.{Subscriber}
use Rattle.mqtt_routes.specs.routing.Intended.{Publication, Answers, Copy, Member, granted_qos, copy_for, directs, members, in_group, groups, is_none, is_wanted}

-- what becomes of a group: NAME/FILTER, and the copy of its chosen member, if one was eligible
pub record Served : Type 0 where
  pub group : List ℕ
  pub copy : Option Copy

-- where a publication goes: the direct copies, by session birth, and the groups, by their oldest members
pub record Routed : Type 0 where
  pub direct : List Copy
  pub served : List Served

-- a group, named by its filter, and its copy
abbrev pub served_by : List ℕ → Option Copy → Served
served_by text copy = record { group = group_of text; copy = copy }

-- it goes somewhere: there is a direct copy, or a group that matches
abbrev pub has_takers : Routed → Bool
has_takers r = not (is_none r.direct) || not (is_none r.served)

-- a copy of QoS 1 or 2 enters its session's queue
abbrev pub is_queued : Copy → Bool
is_queued c = nat_lt 0 c.qos

abbrev pub copies_in : Option Copy → List Copy
copies_in None = []
copies_in (Some c) = c ∷ []

-- the copies of groups
abbrev pub copies_of : List Served → List Copy
copies_of [] = []
copies_of (s ∷ ss) = copies_in s.copy ++ copies_of ss

-- how many of the copies enter the queue of a session
abbrev pub uses : ℕ → List Copy → ℕ
uses birth copies = count_by (λ c. is_queued c && nat_eq c.birth birth) copies

-- a member's copy would be queued
abbrev pub needs_room : Publication → Member → Bool
needs_room p m = nat_lt 0 (granted_qos p m.sub)

-- beside the direct copies and those of the groups before it a member lacks nothing: its queue has room, or
-- for QoS 0 it is connected (4.8.2)
abbrev pub has_room_beside : Answers → List Copy → List Served → ℕ → Bool
has_room_beside at direct served birth = nat_lt (uses birth direct + uses birth (copies_of served)) (at.room birth)

abbrev pub is_eligible : Answers → Publication → List Copy → List Served → Member → Bool
is_eligible at p direct served m = cond (needs_room p m) (has_room_beside at direct served m.birth) (at.is_connected m.birth)

-- the free choice: for each group in order, the number of a member among the eligible ones, counted from 0;
-- a number beyond them names the first
abbrev pub first_choice : List ℕ → ℕ
first_choice [] = 0
first_choice (n ∷ ns) = n

abbrev pub later_choices : List ℕ → List ℕ
later_choices [] = []
later_choices (n ∷ ns) = ns

abbrev pub chosen : ℕ → List Member → Option Member
chosen n [] = None
chosen n (m ∷ ms) = Some (slice_index_or (m ∷ ms) n m)

-- a member's copy, with the identifier of its subscription to the group
abbrev pub shared_copy : Publication → Member → Copy
shared_copy p m = copy_for p m.birth (m.sub ∷ [])

-- a group and its chosen member; without an eligible one it gets nothing, and if one lacks nothing but
-- room the publication isn't accepted
abbrev pub outcome : Publication → List ℕ → List Member → Option Member → Option Served
outcome p text all (Some m) = Some (served_by text (Some (shared_copy p m)))
outcome p text all None = cond (list_any (needs_room p) all) None (Some (served_by text None))

abbrev pub eligible_of : Answers → Publication → List Copy → List Served → List ℕ → List Member → List Member
eligible_of at p direct served text all = filter (is_eligible at p direct served) (in_group text all)

-- a member of a group that lacks nothing, and one at a place
abbrev pub is_candidate : Answers → Publication → List Copy → List Served → List ℕ → Member → Bool
is_candidate at p direct served text m = bytes_eq m.sub.filter text && is_eligible at p direct served m

abbrev pub IsCandidateAt : Answers → Publication → List Copy → List Served → List ℕ → List Member → ℕ → Type 0
IsCandidateAt at p direct served text all i =
    (i < length all) × ((d : Member) → is_candidate at p direct served text (slice_index_or all i d) ≡ true)

abbrev pub serve_one : Answers → Publication → List Copy → List Served → ℕ → List ℕ → List Member → Option Served
serve_one at p direct served n text all = outcome p text (in_group text all) (chosen n (eligible_of at p direct served text all))

-- the groups one after another: room is counted as they are served, after the direct copies
abbrev pub serve : Answers → Publication → List Member → List Copy → List ℕ → List (List ℕ) → List Served → Option (List Served)
serve at p all direct choices [] served = Some served
serve at p all direct choices (f ∷ fs) served =
    option_and_then (λ (s : Served). serve at p all direct (later_choices choices) fs (served ++ s ∷ []))
    (serve_one at p direct served (first_choice choices) f all)

-- each session's queue has room for its direct copy
abbrev pub has_room : Answers → Copy → Bool
has_room at c = not (is_queued c) || nat_lt 0 (at.room c.birth)

-- a routing with its direct copies
abbrev pub with_direct : List Copy → List Served → Routed
with_direct direct served = record { direct = direct; served = served }

abbrev pub routed_beside : Bool → Answers → Publication → List Member → List Copy → List ℕ → Option Routed
routed_beside false at p all direct choices = None
routed_beside true at p all direct choices = option_map (with_direct direct) (serve at p all direct choices (groups all) [])

-- where a publication goes, if the queues that it needs have room
abbrev pub routed : Answers → Publication → List ℕ → List Subscriber → Option Routed
routed at p choices sessions =
    let direct = directs at p sessions in
    routed_beside (list_all (has_room at) direct) at p (members p sessions) direct choices

-- a routing by some choice of the members; and that by some choice there is none
abbrev pub IsServing : Answers → Publication → List Member → List Copy → List Served → Type 0
IsServing at p all direct served = (choices : List ℕ) × (serve at p all direct choices (groups all) [] ≡ Some served)

abbrev pub IsUnserved : Answers → Publication → List Member → List Copy → Type 0
IsUnserved at p all direct = (choices : List ℕ) × (serve at p all direct choices (groups all) [] ≡ None)

abbrev pub IsRouting : Answers → Publication → List Subscriber → Routed → Type 0
IsRouting at p sessions r = (choices : List ℕ) × (routed at p choices sessions ≡ Some r)

abbrev pub IsUnrouted : Answers → Publication → List Subscriber → Type 0
IsUnrouted at p sessions = (choices : List ℕ) × (routed at p choices sessions ≡ None)

-- Full is answered if a queue that is needed has no room; of want of memory nothing is said
abbrev pub RefusesRoute : Answers → Publication → List Subscriber → RoutesFault → Type 0
RefusesRoute at p sessions Full = IsUnrouted at p sessions
RefusesRoute at p sessions Memory = ⊤

abbrev pub RefusesServing : Answers → Publication → List Member → List Copy → RoutesFault → Type 0
RefusesServing at p all direct Full = IsUnserved at p all direct
RefusesServing at p all direct Memory = ⊤

-- one group by some choice
abbrev pub IsServed : Answers → Publication → List Copy → List Served → List ℕ → List Member → Served → Type 0
IsServed at p direct before text all s = (n : ℕ) × (serve_one at p direct before n text all ≡ Some s)

abbrev pub RefusesOne : Answers → Publication → List Copy → List Served → List ℕ → List Member → RoutesFault → Type 0
RefusesOne at p direct before text all Full = (n : ℕ) × (serve_one at p direct before n text all ≡ None)
RefusesOne at p direct before text all Memory = ⊤

-- ---- laws

-- a routing has takers exactly if somebody is there
abbrev pub TellsTakers : Answers → Publication → List ℕ → List Subscriber → Routed → Type 0
TellsTakers at p choices sessions r = routed at p choices sessions ≡ Some r → is_wanted at p sessions ≡ has_takers r

-- lists that differ in sessions without subscriptions give the same routing, and somebody is there for both or for none
pub record RouteAlike (at : Answers) (p : Publication) (choices : List ℕ) (xs ys : List Subscriber) : Type 0 where
  pub same_routed : routed at p choices xs ≡ routed at p choices ys
  pub same_wanted : is_wanted at p xs ≡ is_wanted at p ys
