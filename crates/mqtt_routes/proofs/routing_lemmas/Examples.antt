-- Worked rows of routing, by computing: sessions 1 to 5 and publications to `a/b` (MQTT 5.0, 3.3.4 and 4.8.2).
use Rattle.std.proofs.Common.{◌≡◌, ℕ, zero, suc, Bool, true, false, cond, refl, codes, List, [], ◌∷◌, Option, Some, None, nat_eq}
use Rattle.mqtt_base.specs.declared.session.SubscriptionOptions.{SubscriptionOptions}
use Rattle.mqtt_base.specs.declared.session.Qos.{Qos}
use Rattle.mqtt_base.specs.declared.session.Qos.TheVariants.{AtMostOnce, AtLeastOnce, ExactlyOnce}
use Rattle.mqtt_base.specs.declared.session.RetainHandling.TheVariants.{SendAlways}
use Rattle.mqtt_routes.specs.declared.routing.subscription.Subscription.{Subscription}
use Rattle.mqtt_routes.specs.routing.Subscriptions.{Subscriber, put, with_subs}
use Rattle.mqtt_routes.specs.routing.Intended.{Publication, Answers, Copy}
use Rattle.mqtt_routes.specs.routing.Acceptance.{Served, Routed, routed}
use Rattle.mqtt_routes.specs.routing.Retained.{keep}

abbrev quality : ℕ → Qos
quality zero = AtMostOnce
quality (suc zero) = AtLeastOnce
quality (suc (suc n)) = ExactlyOnce

abbrev sub : List ℕ → ℕ → ℕ → Option ℕ → Subscription
sub text place qos identifier = record {
  filter = text;
  place = place;
  options = record { qos = quality qos; no_local = false; retain_as_published = false; retain_handling = SendAlways };
  identifier = identifier;
}

abbrev with_option : (SubscriptionOptions → SubscriptionOptions) → Subscription → Subscription
with_option change s = record s { options = change s.options }

abbrev has : ℕ → List Subscription → Subscriber
has birth subs = record { birth = birth; subs = subs }

abbrev first_two : List Subscriber
first_two = has 1 (sub (codes "a/#") 1 1 (Some 1) ∷ sub (codes "a/b") 2 2 (Some 2) ∷ []) ∷ has 2 (sub (codes "+/b") 3 0 None ∷ []) ∷ []

abbrev third : Subscriber
third = has 3 (sub (codes "$share/g/a/b") 4 2 None ∷ [])

abbrev sessions : List Subscriber
sessions =
    has 1 (sub (codes "a/#") 1 1 (Some 1) ∷ sub (codes "a/b") 2 2 (Some 2) ∷ [])
    ∷ has 2 (sub (codes "+/b") 3 0 None ∷ [])
    ∷ third ∷ has 4 (sub (codes "$share/g/a/b") 5 1 None ∷ []) ∷ []

abbrev with_fifth : List Subscriber
with_fifth =
    has 1 (sub (codes "a/#") 1 1 (Some 1) ∷ sub (codes "a/b") 2 2 (Some 2) ∷ [])
    ∷ has 2 (sub (codes "+/b") 3 0 None ∷ [])
    ∷ third ∷ has 5 (sub (codes "$share/g/a/b") 6 0 None ∷ []) ∷ []

abbrev at_qos : ℕ → Publication
at_qos qos = record { sender = codes "p"; topic = codes "a/b"; qos = qos; retain = true }

-- all have room and are connected, or those whose births a list names are not
abbrev is_none_of : List ℕ → ℕ → Bool
is_none_of [] birth = true
is_none_of (b ∷ bs) birth = cond (nat_eq b birth) false (is_none_of bs birth)

abbrev room_but : List ℕ → ℕ → ℕ
room_but full birth = cond (is_none_of full birth) 1000 0

abbrev all_but : List ℕ → List ℕ → Answers
all_but full away = record { room = room_but full; is_connected = is_none_of away; is_named = λ birth client. nat_eq birth 1 }

abbrev copy : ℕ → ℕ → List ℕ → Copy
copy birth qos identifiers = record { birth = birth; qos = qos; retain = false; identifiers = identifiers }

abbrev to_group : Option Copy → List Served
to_group chosen = record { group = codes "g/a/b"; copy = chosen } ∷ []

abbrev direct_copies : List Copy
direct_copies = copy 1 2 (1 ∷ 2 ∷ []) ∷ copy 2 0 [] ∷ []

abbrev goes_to : Option Copy → Option Routed
goes_to chosen = Some (record { direct = direct_copies; served = to_group chosen })

one_copy_for_overlapping_subscriptions : routed (all_but [] []) (at_qos 2) [] sessions ≡ goes_to (Some (copy 3 2 []))
one_copy_for_overlapping_subscriptions = refl

the_other_member_by_choice : routed (all_but [] []) (at_qos 2) (1 ∷ []) sessions ≡ goes_to (Some (copy 4 1 []))
the_other_member_by_choice = refl

a_choice_beyond_the_members_names_the_first : routed (all_but [] []) (at_qos 2) (2 ∷ []) sessions ≡ goes_to (Some (copy 3 2 []))
a_choice_beyond_the_members_names_the_first = refl

a_member_without_room_is_passed_over : routed (all_but (3 ∷ []) []) (at_qos 2) [] sessions ≡ goes_to (Some (copy 4 1 []))
a_member_without_room_is_passed_over = refl

no_member_has_room : routed (all_but (3 ∷ 4 ∷ []) []) (at_qos 2) [] sessions ≡ None
no_member_has_room = refl

nobody_of_a_group_is_connected : routed (all_but [] (3 ∷ 4 ∷ [])) (at_qos 0) [] sessions
    ≡ Some (record { direct = copy 1 0 (1 ∷ 2 ∷ []) ∷ copy 2 0 [] ∷ []; served = to_group None })
nobody_of_a_group_is_connected = refl

one_member_lacks_room_and_one_is_away : routed (all_but (3 ∷ []) (5 ∷ [])) (at_qos 2) [] with_fifth ≡ None
one_member_lacks_room_and_one_is_away = refl

a_direct_copy_without_room : routed (all_but (1 ∷ []) []) (at_qos 2) [] sessions ≡ None
a_direct_copy_without_room = refl

a_direct_copy_of_lowest_service_needs_none : routed (all_but (2 ∷ []) []) (at_qos 2) [] sessions ≡ goes_to (Some (copy 3 2 []))
a_direct_copy_of_lowest_service_needs_none = refl

-- No Local: session 1 is named `p` here, and its other subscription stays
abbrev bars_its_own : List Subscriber
bars_its_own = has 1 (with_option (λ o. record o { no_local = true }) (sub (codes "a/#") 1 1 (Some 1)) ∷ sub (codes "a/b") 2 2 (Some 2) ∷ []) ∷ []

no_local_bars_one_subscription : routed (all_but [] []) (at_qos 2) [] bars_its_own ≡ Some (record { direct = copy 1 2 (2 ∷ []) ∷ []; served = [] })
no_local_bars_one_subscription = refl

-- Retain As Published of one of them
abbrev passes_retain : List Subscriber
passes_retain = has 1 (with_option (λ o. record o { retain_as_published = true }) (sub (codes "a/#") 1 1 (Some 1)) ∷ sub (codes "a/b") 2 2 (Some 2) ∷ []) ∷ []

retain_is_passed_on : routed (all_but [] []) (at_qos 2) [] passes_retain
    ≡ Some (record { direct = record { birth = 1; qos = 2; retain = true; identifiers = 1 ∷ 2 ∷ [] } ∷ []; served = [] })
retain_is_passed_on = refl

-- two groups with one member, whose queue has room for one copy: the older group gets it
abbrev one_room : Answers
one_room = record { room = λ birth. 1; is_connected = λ birth. true; is_named = λ birth client. false }

abbrev in_two_groups : List Subscriber
in_two_groups = has 1 (sub (codes "$share/g/#") 2 2 None ∷ sub (codes "$share/h/#") 1 2 None ∷ []) ∷ []

room_is_counted_as_groups_are_served : routed one_room (at_qos 2) [] in_two_groups ≡ None
room_is_counted_as_groups_are_served = refl

groups_come_by_their_oldest_member : routed (all_but [] []) (at_qos 1) [] in_two_groups
    ≡ Some (record { direct = []; served = record { group = codes "h/#"; copy = Some (copy 1 1 []) } ∷ record { group = codes "g/#"; copy = Some (copy 1 1 []) } ∷ [] })
groups_come_by_their_oldest_member = refl

a_copy_has_the_identifier_of_its_share : routed (all_but [] []) (at_qos 1) [] (has 7 (sub (codes "$share/g/#") 1 2 (Some 9) ∷ []) ∷ [])
    ≡ Some (record { direct = []; served = record { group = codes "g/#"; copy = Some (copy 7 1 (9 ∷ [])) } ∷ [] })
a_copy_has_the_identifier_of_its_share = refl

-- tables
a_replaced_filter_keeps_its_place : put (sub (codes "a") 9 2 None) (sub (codes "a") 1 0 None ∷ sub (codes "b") 2 0 None ∷ []) ≡ sub (codes "a") 1 2 None ∷ sub (codes "b") 2 0 None ∷ []
a_replaced_filter_keeps_its_place = refl

sessions_stand_by_their_births : with_subs 2 [] (has 1 [] ∷ has 3 [] ∷ []) ≡ has 1 [] ∷ has 2 [] ∷ has 3 [] ∷ []
sessions_stand_by_their_births = refl

a_replaced_message_keeps_its_place : keep {M = ℕ} (codes "a") 3 (record { topic = codes "a"; message = 1 } ∷ record { topic = codes "b"; message = 2 } ∷ []) ≡ record { topic = codes "a"; message = 3 } ∷ record { topic = codes "b"; message = 2 } ∷ []
a_replaced_message_keeps_its_place = refl
