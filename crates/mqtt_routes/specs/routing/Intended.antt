-- Which copies a publication is to make (MQTT 5.0, 3.3.4, 3.8.3.1, 4.8.2).
use Rattle.std.specs.Prelude.{ℕ, suc, min, max, Bool, true, false, cond, not, ◌&&◌, ◌||◌, List, [], ◌∷◌, ◌++◌, filter, map, nat_lt, bytes_eq}
use Rattle.std.specs.List.{list_any, filter_map}
use Rattle.std.specs.Option.{option_to_list}
use Rattle.mqtt_base.specs.Service.{qos_number}
use Rattle.mqtt_topic.specs.names.Filters.{begins_share, matching_part_of}
use Rattle.mqtt_topic.specs.names.Matching.{is_match}
use Rattle.mqtt_routes.specs.declared.routing.subscription.Subscription.{Subscription}
use Rattle.mqtt_routes.specs.routing.Subscriptions.{Subscriber}

-- what is published, as far as it decides who gets it; the sender is a client identifier
pub record Publication : Type 0 where
  pub sender : List ℕ
  pub topic : List ℕ
  pub qos : ℕ
  pub retain : Bool

-- a number above 2 counts as QoS 2
abbrev pub published : List ℕ → List ℕ → ℕ → Bool → Publication
published sender topic qos retain = record { sender = sender; topic = topic; qos = min qos 2; retain = retain }

-- what sessions answer, by their births: how many copies their queues have room for, whether they are
-- connected, and whether they have this client identifier
pub record Answers : Type 0 where
  pub room : ℕ → ℕ
  pub is_connected : ℕ → Bool
  pub is_named : ℕ → List ℕ → Bool

-- a copy of a publication for a session
pub record Copy : Type 0 where
  pub birth : ℕ
  pub qos : ℕ
  pub retain : Bool
  pub identifiers : List ℕ

-- granted QoS: the lesser of the publication's and the subscription's (3.8.4)
abbrev pub granted_qos : Publication → Subscription → ℕ
granted_qos p s = min p.qos (qos_number s.options.qos)

-- No Local bars a client's own messages (3.8.3.1)
abbrev pub is_barred : Answers → Publication → ℕ → Subscription → Bool
is_barred at p birth s = s.options.no_local && at.is_named birth p.sender

abbrev pub is_shared : Subscription → Bool
is_shared s = begins_share s.filter

abbrev pub matches_topic : Publication → Subscription → Bool
matches_topic p s = is_match (matching_part_of s.filter) p.topic

-- an unshared subscription that matches and isn't barred
abbrev pub is_hit : Answers → Publication → ℕ → Subscription → Bool
is_hit at p birth s = not (is_shared s) && (matches_topic p s && not (is_barred at p birth s))

abbrev pub hits_of : Answers → Publication → ℕ → List Subscription → List Subscription
hits_of at p birth subs = filter (is_hit at p birth) subs

abbrev pub greatest : List ℕ → ℕ
greatest [] = 0
greatest (n ∷ ns) = max n (greatest ns)

-- one copy for subscriptions of a session: at their greatest granted QoS, with all their identifiers in
-- the order subscribed, and with the publication's RETAIN if one of them has Retain As Published
abbrev pub copy_for : Publication → ℕ → List Subscription → Copy
copy_for p birth subs = record {
  birth = birth;
  qos = greatest (map (granted_qos p) subs);
  retain = p.retain && list_any (λ s. s.options.retain_as_published) subs;
  identifiers = filter_map (λ s. s.identifier) subs;
}

-- a copy that serves no subscription, and one that serves one more than before
abbrev pub empty_copy : ℕ → Copy
empty_copy birth = record { birth = birth; qos = 0; retain = false; identifiers = [] }

abbrev pub add_to : Publication → Copy → Subscription → Copy
add_to p c s = record {
  birth = c.birth;
  qos = max c.qos (granted_qos p s);
  retain = c.retain || (p.retain && s.options.retain_as_published);
  identifiers = c.identifiers ++ option_to_list s.identifier;
}

-- at most one direct copy for a session (ours; 3.3.4 leaves one for each subscription too)
abbrev pub copies_for : Publication → ℕ → List Subscription → List Copy
copies_for p birth [] = []
copies_for p birth (s ∷ ss) = copy_for p birth (s ∷ ss) ∷ []

-- the direct copies, by session birth
abbrev pub directs : Answers → Publication → List Subscriber → List Copy
directs at p [] = []
directs at p (x ∷ xs) = copies_for p x.birth (hits_of at p x.birth x.subs) ++ directs at p xs

-- a member of a group: a session and its shared subscription
pub record Member : Type 0 where
  pub birth : ℕ
  pub sub : Subscription

-- a member goes before those that joined later
abbrev pub insert_member : Member → List Member → List Member
insert_member m [] = m ∷ []
insert_member m (x ∷ xs) = cond (nat_lt m.sub.place x.sub.place) (m ∷ x ∷ xs) (x ∷ insert_member m xs)

abbrev pub insertion_spot : ℕ → List Member → ℕ
insertion_spot place [] = 0
insertion_spot place (x ∷ xs) = cond (nat_lt place x.sub.place) 0 (suc (insertion_spot place xs))

-- the members that a session adds to those before
abbrev pub members_with : Publication → ℕ → List Subscription → List Member → List Member
members_with p birth [] before = before
members_with p birth (s ∷ ss) before =
    members_with p birth ss (cond (is_shared s && matches_topic p s) (insert_member (record { birth = birth; sub = s }) before) before)

abbrev pub members_after : Publication → List Subscriber → List Member → List Member
members_after p [] before = before
members_after p (x ∷ xs) before = members_after p xs (members_with p x.birth x.subs before)

-- the members of all groups that match, in the order in which they joined
abbrev pub members : Publication → List Subscriber → List Member
members p sessions = members_after p sessions []

-- the members of one group, named by its filter
abbrev pub in_group : List ℕ → List Member → List Member
in_group text all = filter (λ m. bytes_eq m.sub.filter text) all

abbrev pub has_filter_among : List ℕ → List Member → Bool
has_filter_among text ms = list_any (λ x. bytes_eq x.sub.filter text) ms

-- each group once, named by its filter, in the order of their oldest members; `before` are members before those
abbrev pub groups_after : List Member → List Member → List (List ℕ)
groups_after before [] = []
groups_after before (m ∷ ms) =
    cond (has_filter_among m.sub.filter before)
    (groups_after (before ++ m ∷ []) ms)
    (m.sub.filter ∷ groups_after (before ++ m ∷ []) ms)

abbrev pub groups : List Member → List (List ℕ)
groups all = groups_after [] all

abbrev pub is_none : {X : Type 0} → List X → Bool
is_none [] = true
is_none (x ∷ xs) = false

-- somebody is there for a publication
abbrev pub is_wanted : Answers → Publication → List Subscriber → Bool
is_wanted at p sessions = not (is_none (directs at p sessions)) || not (is_none (members p sessions))
