-- What is heard of messages as they are kept is what the definitions make of them.
use Rattle.std.proofs.Common.{◌≡◌, refl, sym, ap, ◌∙◌, ℕ, suc, ◌+◌, ◌<◌, List, [], ◌∷◌, ◌++◌, map, take, drop, length, get_or}
use Rattle.std.proofs.Common.{slice_set, arith, length-take, None, Some}
use Rattle.std.proofs.lemmas.List.{append-nil, get_or_default, length-map, map-append, take_more}
use Rattle.std.proofs.lemmas.List.Edits.{map_over_more}
use Rattle.std.proofs.lemmas.List.Folds.{fold-map}
use Rattle.mqtt_flow.specs.inbound.Publisher as publisher
use Rattle.mqtt_flow.specs.inbound.Publisher.{in_flight, is_sent, resent_from}
use Rattle.std.specs.Prelude.{Bool, true, ◌||◌, cond, count_by, Option, option_map}
use Rattle.std.specs.List.{list_any}
use Rattle.mqtt_world_ends.specs.declared.handshakes.shakes.Shake.{Shake}
use Rattle.mqtt_world_ends.specs.declared.handshakes.fates.Fate.{Fate}
use Rattle.mqtt_world_ends.specs.declared.handshakes.fates.Heard.{Heard}
use Rattle.mqtt_world_ends.specs.handshakes.Fates.{again, awaits, fate_for, fate_of, fates_of, finish_for, finish_of, has_completed, heard_by, identifier_of, is_completed, on_heard, packet_of, packets_of}

finish_back : (by : publisher.Finish) → finish_of (finish_for by) ≡ by
finish_back publisher.completed = refl
finish_back publisher.refused = refl
finish_back publisher.forgotten = refl

fate_back : (f : publisher.Fate) → fate_of (fate_for f) ≡ f
fate_back (publisher.sent_1 id) = refl
fate_back (publisher.ended_1 by) = ap (λ (b : publisher.Finish). publisher.ended_1 b) (finish_back by)
fate_back (publisher.sent id) = refl
fate_back (publisher.released id) = refl
fate_back (publisher.ended by) = ap (λ (b : publisher.Finish). publisher.ended b) (finish_back by)

-- what is heard comes to each message
pub all_hear : (heard : Heard) (fates : List Fate)
    → fates_of (map (heard_by heard) fates) ≡ map (on_heard heard) (fates_of fates)
all_hear heard [] = refl
all_hear heard (fate ∷ fates) =
    ap (λ (f : publisher.Fate). f ∷ fates_of (map (heard_by heard) fates)) (fate_back (on_heard heard (fate_of fate)))
    ∙ ap (λ (fs : List publisher.Fate). on_heard heard (fate_of fate) ∷ fs) (all_hear heard fates)

-- one more of them hears it
pub one_more_hears : (heard : Heard) (fates now : List Fate) (i : ℕ) (d fate : Fate) → i < length fates
    → length now ≡ length fates → now ≡ map (heard_by heard) (take i fates) ++ drop i fates
    → fate ≡ heard_by heard (get_or now i d)
    → slice_set now i fate ≡ map (heard_by heard) (take (i + 1) fates) ++ drop (i + 1) fates
one_more_hears heard fates now i d fate within long so_far is =
    ap (λ (f : Fate). slice_set now i f) is
    ∙ map_over_more (heard_by heard) fates now i (get_or now i d) within so_far
    (get_or_default now i d (get_or now i d) (omega arith))

-- ---- identifiers in flight

none_in_flight : (fate : publisher.Fate) → None ≡ identifier_of fate → in_flight (fate ∷ []) ≡ []
none_in_flight (publisher.sent_1 id) is = cc
none_in_flight (publisher.ended_1 by) is = refl
none_in_flight (publisher.sent id) is = cc
none_in_flight (publisher.released id) is = cc
none_in_flight (publisher.ended by) is = refl

one_in_flight : (fate : publisher.Fate) (id : ℕ) → Some id ≡ identifier_of fate → in_flight (fate ∷ []) ≡ id ∷ []
one_in_flight (publisher.sent_1 other) id is = cc
one_in_flight (publisher.ended_1 by) id is = cc
one_in_flight (publisher.sent other) id is = cc
one_in_flight (publisher.released other) id is = cc
one_in_flight (publisher.ended by) id is = cc

in_flight-append : (fates more : List publisher.Fate) → in_flight (fates ++ more) ≡ in_flight fates ++ in_flight more
in_flight-append [] more = refl
in_flight-append (publisher.sent_1 id ∷ fates) more = ap (λ (ids : List ℕ). id ∷ ids) (in_flight-append fates more)
in_flight-append (publisher.ended_1 by ∷ fates) more = in_flight-append fates more
in_flight-append (publisher.sent id ∷ fates) more = ap (λ (ids : List ℕ). id ∷ ids) (in_flight-append fates more)
in_flight-append (publisher.released id ∷ fates) more = ap (λ (ids : List ℕ). id ∷ ids) (in_flight-append fates more)
in_flight-append (publisher.ended by ∷ fates) more = in_flight-append fates more

fates_of-append : (fates more : List Fate) → fates_of (fates ++ more) ≡ fates_of fates ++ fates_of more
fates_of-append [] more = refl
fates_of-append (fate ∷ fates) more = ap (λ (fs : List publisher.Fate). fate_of fate ∷ fs) (fates_of-append fates more)

-- one more message
in_flight_more : (fates : List Fate) (i : ℕ) (d : Fate) → i < length fates
    → in_flight (fates_of (take (i + 1) fates))
    ≡ in_flight (fates_of (take i fates)) ++ in_flight (fate_of (get_or fates i d) ∷ [])
in_flight_more fates i d within =
    ap (λ (fs : List Fate). in_flight (fates_of fs)) (take_more fates i d within)
    ∙ ap in_flight (fates_of-append (take i fates) (get_or fates i d ∷ []))
    ∙ in_flight-append (fates_of (take i fates)) (fate_of (get_or fates i d) ∷ [])

-- a message without an identifier adds none
pub none_more : (fates : List Fate) (i : ℕ) (d : Fate) (ids : List ℕ) → i < length fates
    → ids ≡ in_flight (fates_of (take i fates)) → None ≡ identifier_of (fate_of (get_or fates i d))
    → ids ≡ in_flight (fates_of (take (i + 1) fates))
none_more fates i d ids within so_far is =
    let more = in_flight_more fates i d within in
    let none = none_in_flight (fate_of (get_or fates i d)) is in
    so_far ∙ sym (more ∙ ap (λ (l : List ℕ). in_flight (fates_of (take i fates)) ++ l) none ∙ append-nil _)

-- one with an identifier adds it
pub one_more : (fates : List Fate) (i : ℕ) (d : Fate) (ids : List ℕ) (id : ℕ) → i < length fates
    → ids ≡ in_flight (fates_of (take i fates)) → Some id ≡ identifier_of (fate_of (get_or fates i d))
    → ids ++ id ∷ [] ≡ in_flight (fates_of (take (i + 1) fates))
one_more fates i d ids id within so_far is =
    let more = in_flight_more fates i d within in
    let one = one_in_flight (fate_of (get_or fates i d)) id is in
    ap (λ (l : List ℕ). l ++ id ∷ []) so_far
    ∙ sym (more ∙ ap (λ (l : List ℕ). in_flight (fates_of (take i fates)) ++ l) one)

-- ---- what goes out again

resent_by : (n : ℕ) (fate : publisher.Fate) (fates more : List publisher.Fate)
    → resent_from (suc n) (fates ++ more) ≡ resent_from (suc n) fates ++ resent_from (n + suc (length fates)) more
    → resent_from n (fate ∷ (fates ++ more)) ≡ resent_from n (fate ∷ fates) ++ resent_from (n + suc (length fates)) more
resent_by n (publisher.sent_1 id) fates more later =
    ap (λ (packets : List publisher.FromPublisher). publisher.PUBLISH_1 id n true ∷ packets) later
resent_by n (publisher.ended_1 how) fates more later = later
resent_by n (publisher.sent id) fates more later =
    ap (λ (packets : List publisher.FromPublisher). publisher.PUBLISH_2 id n true ∷ packets) later
resent_by n (publisher.released id) fates more later =
    ap (λ (packets : List publisher.FromPublisher). publisher.PUBREL id ∷ packets) later
resent_by n (publisher.ended how) fates more later = later

resent-append : (n : ℕ) (fates more : List publisher.Fate)
    → resent_from n (fates ++ more) ≡ resent_from n fates ++ resent_from (n + length fates) more
resent-append n [] more = ap (λ (k : ℕ). resent_from k more) (omega arith)
resent-append n (fate ∷ fates) more =
    resent_by n fate fates more
    (resent-append (suc n) fates more ∙ ap (λ (k : ℕ). resent_from (suc n) fates ++ resent_from k more) (omega arith))

none_again : (n : ℕ) (fate : publisher.Fate) → None ≡ again n fate → resent_from n (fate ∷ []) ≡ []
none_again n (publisher.sent_1 id) is = cc
none_again n (publisher.ended_1 by) is = refl
none_again n (publisher.sent id) is = cc
none_again n (publisher.released id) is = cc
none_again n (publisher.ended by) is = refl

one_again : (n : ℕ) (fate : publisher.Fate) (packet : publisher.FromPublisher) → Some packet ≡ again n fate
    → resent_from n (fate ∷ []) ≡ packet ∷ []
one_again n (publisher.sent_1 id) packet is = cc
one_again n (publisher.ended_1 by) packet is = cc
one_again n (publisher.sent id) packet is = cc
one_again n (publisher.released id) packet is = cc
one_again n (publisher.ended by) packet is = cc

-- one more message
resent_more : (fates : List Fate) (i : ℕ) (d : Fate) → i < length fates
    → resent_from 0 (fates_of (take (i + 1) fates))
    ≡ resent_from 0 (fates_of (take i fates)) ++ resent_from i (fate_of (get_or fates i d) ∷ [])
resent_more fates i d within =
    let front = take i fates in
    let long : length (fates_of front) ≡ i = length-map front fate_of ∙ omega (arith, length-take i fates) in
    let at : 0 + length (fates_of front) ≡ i = omega (arith, long) in
    ap (λ (fs : List Fate). resent_from 0 (fates_of fs)) (take_more fates i d within)
    ∙ (ap (resent_from 0) (fates_of-append front (get_or fates i d ∷ []))
    ∙ (resent-append 0 (fates_of front) (fate_of (get_or fates i d) ∷ [])
    ∙ ap (λ (k : ℕ). resent_from 0 (fates_of front) ++ resent_from k (fate_of (get_or fates i d) ∷ [])) at))

-- a message of which nothing is due is not sent again
pub none_resent : (fates : List Fate) (i : ℕ) (d : Fate) (packets : List Shake) (found : Option Shake) → i < length fates
    → packets_of packets ≡ resent_from 0 (fates_of (take i fates)) → option_map packet_of found ≡ again i (fate_of (get_or fates i d))
    → found ≡ None → packets_of packets ≡ resent_from 0 (fates_of (take (i + 1) fates))
none_resent fates i d packets found within so_far is none =
    let empty = none_again i (fate_of (get_or fates i d)) (sym (ap (option_map packet_of) none) ∙ is) in
    so_far ∙ sym (resent_more fates i d within
    ∙ (ap (λ (l : List publisher.FromPublisher). resent_from 0 (fates_of (take i fates)) ++ l) empty ∙ append-nil _))

-- one of which something is due is
pub one_resent : (fates : List Fate) (i : ℕ) (d : Fate) (packets : List Shake) (found : Option Shake) (packet : Shake) → i < length fates
    → packets_of packets ≡ resent_from 0 (fates_of (take i fates)) → option_map packet_of found ≡ again i (fate_of (get_or fates i d))
    → found ≡ Some packet → packets_of (packets ++ packet ∷ []) ≡ resent_from 0 (fates_of (take (i + 1) fates))
one_resent fates i d packets found packet within so_far is one =
    let single = one_again i (fate_of (get_or fates i d)) (packet_of packet) (sym (ap (option_map packet_of) one) ∙ is) in
    map-append packet_of packets (packet ∷ [])
    ∙ (ap (λ (l : List publisher.FromPublisher). l ++ packet_of packet ∷ []) so_far
    ∙ sym (resent_more fates i d within
    ∙ ap (λ (l : List publisher.FromPublisher). resent_from 0 (fates_of (take i fates)) ++ l) single))

-- ---- what is awaited

-- an identifier is awaited if a message awaits it
pub all_await : (identifier : ℕ) (fates : List Fate) → list_any (awaits identifier) fates ≡ list_any (is_sent identifier) (fates_of fates)
all_await identifier [] = refl
all_await identifier (fate ∷ fates) = ap (λ (t : Bool). is_sent identifier (fate_of fate) || t) (all_await identifier fates)

-- ---- what is done

-- those that completed are counted
pub all_completed : (fates : List Fate) → count_by has_completed fates ≡ count_by is_completed (fates_of fates)
all_completed fates = sym (fold-map (λ (n : ℕ) (fate : publisher.Fate). n + cond (is_completed fate) 1 0) fate_of 0 fates)
