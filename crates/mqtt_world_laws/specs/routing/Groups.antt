-- Who gets a copy of a publication: each session with a subscription that matches, and one member of each group with one
-- (MQTT 5.0, 3.3.4, 3.8.3.1, 4.8.2).
use Rattle.std.specs.Prelude.{◌≡◌, ℕ, ⊤, Bool, true, false, cond, ◌&&◌, List, [], ◌∷◌, ◌++◌, map, count_by, nat_eq, bytes_eq, Some, None}
use Rattle.std.specs.List.{list_any}
use Rattle.mqtt_routes.specs.declared.routing.subscription.Subscription.{Subscription}
use Rattle.mqtt_routes.specs.routing.Subscriptions.{Subscriber}
use Rattle.mqtt_routes.specs.routing.Intended.{Publication, Answers, Copy, Member, is_hit, is_shared, matches_topic, members, in_group, groups}
use Rattle.mqtt_routes.specs.routing.Acceptance.{Served, Routed, is_eligible, shared_copy}
use Rattle.mqtt_records.specs.lists.Distinct.{AllDiffer}
use Rattle.mqtt_topic.specs.names.Filters.{group_of}
use Rattle.mqtt_rules.specs.step.Laws.{IsAmong}

-- the session of a birth has a subscription of its own that matches and isn't barred by No Local
abbrev pub gets_direct : Answers → Publication → ℕ → List Subscriber → Bool
gets_direct at p birth sessions =
    list_any (λ (x : Subscriber). nat_eq x.birth birth && list_any (is_hit at p x.birth) x.subs) sessions

-- some session has a subscription to this filter, it is shared, and it matches: the group is named by the filter
abbrev pub is_of_group : Publication → List ℕ → Subscription → Bool
is_of_group p text s = bytes_eq s.filter text && (is_shared s && matches_topic p s)

abbrev pub has_member : Publication → List ℕ → List Subscriber → Bool
has_member p text sessions = list_any (λ (x : Subscriber). list_any (is_of_group p text) x.subs) sessions

module _ (at : Answers) (p : Publication) (all : List Member) (direct : List Copy) where
  -- what becomes of a group, beside the direct copies and the groups before it: if a member is eligible there is one
  -- copy, for one of those, and if none is there is none
  pub record IsServedOnce (before : List Served) (text : List ℕ) (s : Served) : Type 0 where
    pub named : s.group ≡ group_of text
    pub one : list_any (is_eligible at p direct before) (in_group text all) ≡ true
        → (m : Member)
        × IsAmong m (in_group text all)
        × (is_eligible at p direct before m ≡ true)
        × (s.copy ≡ Some (shared_copy p m))
    pub none : list_any (is_eligible at p direct before) (in_group text all) ≡ false → s.copy ≡ None

  -- so each group, one after another, and nothing else is served
  abbrev pub AreServedOnce : List Served → List (List ℕ) → List Served → Type 0
  AreServedOnce before [] [] = ⊤
  AreServedOnce before [] (s ∷ ss) = ⊥
  AreServedOnce before (text ∷ texts) [] = ⊥
  AreServedOnce before (text ∷ texts) (s ∷ ss) =
      IsServedOnce before text s × AreServedOnce (before ++ s ∷ []) texts ss

-- a member is a session that stands, with a subscription that it has
pub record IsOfSession (sessions : List Subscriber) (m : Member) : Type 0 where
  pub session : Subscriber
  pub stands : IsAmong session sessions
  pub birth : session.birth ≡ m.birth
  pub subscribed : IsAmong m.sub session.subs

-- A routing gives one direct copy to each session with a subscription of its own that matches, and none to any other; it
-- serves each group that has a member, once, and no two of one name
pub record EachGetsOne (at : Answers) (p : Publication) (sessions : List Subscriber) (r : Routed) : Type 0 where
  pub direct : (birth : ℕ)
      → count_by (λ (c : Copy). nat_eq c.birth birth) r.direct ≡ cond (gets_direct at p birth sessions) 1 0
  pub matching : (text : List ℕ)
      → list_any (bytes_eq text) (groups (members p sessions)) ≡ has_member p text sessions
  pub belongs : (m : Member) → IsAmong m (members p sessions) → IsOfSession sessions m
  pub apart : AllDiffer (map group_of (groups (members p sessions)))
  pub served : AreServedOnce at p (members p sessions) r.direct [] (groups (members p sessions)) r.served
