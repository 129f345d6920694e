-- A publication that is accepted makes no more copies for a session than its queue has room for.
use Rattle.std.proofs.Common.{◌≡◌, ℕ, zero, suc, ◌+◌, ◌<◌, ◌≤◌, Bool, true, false, not, ◌&&◌, ◌||◌, List, [], ◌∷◌, ◌++◌, length, filter, map, Option, Some, None, nat_eq, nat_lt, refl, ap, sym, subst, ◌∙◌, arith, inl, inr}
use Rattle.std.specs.Prelude.{flat_map, option_map, slice_index_or}
use Rattle.std.specs.List.{AllByRecursion, list_all, list_any}
use Rattle.std.specs.Option.{option_and_then}
use Rattle.std.proofs.lemmas.Bool.{cases_Bool, ltb-true, eqb-true, lt-ltb}
use Rattle.std.proofs.lemmas.List.Sums.{length-filter}
use Rattle.mqtt_base.specs.declared.session.Cause.{Cause}
use Rattle.mqtt_base.specs.declared.session.Cause.TheVariants.{Direct, Share}
use Rattle.mqtt_topic.specs.names.Filters.{group_of}
use Rattle.mqtt_routes.specs.declared.routing.subscription.Subscription.{Subscription as RoutedSubscription}
use Rattle.mqtt_routes.specs.routing.Subscriptions.{Subscriber}
use Rattle.mqtt_routes.specs.routing.Intended.{Publication, Answers, Copy, Member, granted_qos, copies_for, copy_for, hits_of, directs, members, in_group, groups}
use Rattle.mqtt_routes.specs.routing.Acceptance.{Served, Routed, copies_in, copies_of, uses, needs_room, has_room_beside, is_eligible, later_choices, first_choice, chosen, shared_copy, outcome, eligible_of, serve_one, serve, has_room, with_direct, routed_beside}
use Rattle.mqtt_routes.specs.routing.Acceptance as acceptance
use Rattle.mqtt_records.specs.declared.state.session.Session.{Session}
use Rattle.mqtt_records.specs.lists.Order.{IsAbove, IsAscending}
use Rattle.mqtt_records.specs.state.Session.{birth_of}
use Rattle.mqtt_records.proofs.lists_lemmas.OrderLemmas.{apart}
use Rattle.mqtt_rules.specs.step.Packets.{quality}
use Rattle.mqtt_rules.specs.step.State.{Broker, Env, session_at}
use Rattle.mqtt_rules.specs.step.Deeds.{Message}
use Rattle.mqtt_rules.specs.step.Outbound.{room_at}
use Rattle.mqtt_rules.specs.step.Routing.{subscriber_of, publication_of, answers, finds_place, CopyTo, copy_to, served_copies_to, copies_to, next_publication, routing_of, accepted_if, accepted_copies, is_queued_at, is_queued}

-- ---- counting

-- of two lists as many pass a test as of the first and of the second
pub count_append : {X : Type 0} (p : X → Bool) (xs ys : List X) → length (filter p (xs ++ ys)) ≡ length (filter p xs) + length (filter p ys)
count_append p [] ys = omega arith
count_append p (x ∷ xs) ys =
    let rest = count_append p xs ys in
    elim (cases_Bool (p x)) [ inl so ↦ rw so (omega (arith, rest)) | inr not_so ↦ rw not_so rest ]

passing : {X : Type 0} (p : X → Bool) (xs : List X) → AllByRecursion (λ x. p x ≡ true) (filter p xs)
passing p [] = tt
passing p (x ∷ xs) = elim (cases_Bool (p x)) [ inl so ↦ rw so (so, passing p xs) | inr not_so ↦ rw not_so (passing p xs) ]

at_index : {X : Type 0} (P : X → Type 0) (xs : List X) (n : ℕ) (d : X) → P d → AllByRecursion P xs → P (slice_index_or xs n d)
at_index P [] n d p all = p
at_index P (x ∷ xs) zero d p all = all.0
at_index P (x ∷ xs) (suc n) d p all = at_index P xs n d p all.1

-- ---- copies

abbrev is_for : ℕ → Copy → Bool
is_for birth c = acceptance.is_queued c && nat_eq c.birth birth

abbrev many : ℕ → List Copy → ℕ
many birth copies = length (filter (is_for birth) copies)

both_true : (x y : Bool) → (x && y) ≡ true → (x ≡ true) × (y ≡ true)
both_true true y h = (refl, h)
both_true false y h = absurd cc

or_left : (x y : Bool) → x ≡ true → (not x || y) ≡ true → y ≡ true
or_left true y is h = h
or_left false y is h = absurd cc

-- one copy more
many_one : (birth : ℕ) (c : Copy) (cs : List Copy) (bound : ℕ) → (acceptance.is_queued c ≡ true → nat_eq c.birth birth ≡ true → suc (many birth cs) ≤ bound) → many birth cs ≤ bound → many birth (c ∷ cs) ≤ bound
many_one birth c cs bound more less = elim (cases_Bool (is_for birth c)) [
  | inl so ↦ let parts = both_true (acceptance.is_queued c) (nat_eq c.birth birth) so in let le = more parts.0 parts.1 in rw so le
  | inr not_so ↦ rw not_so less
]

-- ---- direct copies: at most one for a session

none_above : (at : Answers) (p : Publication) (birth n : ℕ) (ss : List Session) → birth ≤ n → IsAbove birth_of n ss → many birth (directs at p (map subscriber_of ss)) ≡ 0
none_above at p birth n [] le up = refl
none_above at p birth n (s ∷ ss) le up =
    let above = up.0 in
    let other : nat_eq s.birth birth ≡ false = apart s.birth birth (λ same. omega (arith, same, above, le)) in
    let x = subscriber_of s in
    none_first at p birth x (hits_of at p x.birth x.subs) (directs at p (map subscriber_of ss)) other (none_above at p birth n ss le up.1)
  where
    none_first : (at : Answers) (p : Publication) (birth : ℕ) (x : Subscriber) (hits : List RoutedSubscription) (rest : List Copy) → nat_eq x.birth birth ≡ false → many birth rest ≡ 0 → many birth (copies_for p x.birth hits ++ rest) ≡ 0
    none_first at p birth x [] rest other none = none
    none_first at p birth x (h ∷ hs) rest other none =
        let c = copy_for p x.birth (h ∷ hs) in
        let le : many birth (c ∷ rest) ≤ 0 = many_one birth c rest 0 (λ queued same. absurd (let both : true ≡ false = sym same ∙ other in cc)) (omega (arith, none)) in
        omega (arith, le)

few_direct : (at : Answers) (p : Publication) (birth : ℕ) (ss : List Session) → IsAscending birth_of ss → list_all (has_room at) (directs at p (map subscriber_of ss)) ≡ true → many birth (directs at p (map subscriber_of ss)) ≤ at.room birth
few_direct at p birth [] up fits = omega arith
few_direct at p birth (s ∷ ss) up fits =
    let x = subscriber_of s in
    few_first at p birth x (hits_of at p x.birth x.subs) (directs at p (map subscriber_of ss)) fits
    (λ rest_fits. few_direct at p birth ss up.1 rest_fits)
    (λ same. none_above at p birth s.birth ss (let e = eqb-true s.birth birth same in omega (arith, e)) up.0)
  where
    few_first : (at : Answers) (p : Publication) (birth : ℕ) (x : Subscriber) (hits : List RoutedSubscription) (rest : List Copy)
        → list_all (has_room at) (copies_for p x.birth hits ++ rest) ≡ true
        → (list_all (has_room at) rest ≡ true → many birth rest ≤ at.room birth)
        → (nat_eq x.birth birth ≡ true → many birth rest ≡ 0)
        → many birth (copies_for p x.birth hits ++ rest) ≤ at.room birth
    few_first at p birth x [] rest fits few none = few fits
    few_first at p birth x (h ∷ hs) rest fits few none =
        let c = copy_for p x.birth (h ∷ hs) in
        let parts = both_true (has_room at c) (list_all (has_room at) rest) fits in
        many_one birth c rest (at.room birth)
        (λ queued same.
        let free : nat_lt 0 (at.room c.birth) ≡ true = or_left (acceptance.is_queued c) (nat_lt 0 (at.room c.birth)) queued parts.0 in
        let here : c.birth ≡ birth = eqb-true c.birth birth same in
        let some : 0 < at.room birth = subst (λ (n : ℕ). 0 < at.room n) here (ltb-true 0 (at.room c.birth) free) in
        let zero_rest = none same in
        omega (arith, some, zero_rest))
        (few parts.1)

-- ---- copies of groups: a member is eligible only if its queue has room beside the others

many_served : (birth : ℕ) (before : List Served) (s : Served) → many birth (copies_of (before ++ s ∷ [])) ≡ many birth (copies_of before) + many birth (copies_in s.copy)
many_served birth [] s =
    let cut = count_append (is_for birth) (copies_in s.copy) [] in
    omega (arith, cut)
many_served birth (x ∷ xs) s =
    let rest = many_served birth xs s in
    let one = count_append (is_for birth) (copies_in x.copy) (copies_of (xs ++ s ∷ [])) in
    let two = count_append (is_for birth) (copies_in x.copy) (copies_of xs) in
    omega (arith, rest, one, two)

chosen_passes : (t : Member → Bool) (n : ℕ) (es : List Member) (m : Member) → AllByRecursion (λ x. t x ≡ true) es → chosen n es ≡ Some m → t m ≡ true
chosen_passes t n [] m all is = absurd cc
chosen_passes t n (e ∷ es) m all is =
    let it : slice_index_or (e ∷ es) n e ≡ m = cc in
    subst (λ (x : Member). t x ≡ true) it (at_index (λ x. t x ≡ true) (e ∷ es) n e all.0 all)

abbrev Within : Answers → ℕ → List Copy → List Served → Type 0
Within at birth direct served = many birth direct + many birth (copies_of served) ≤ at.room birth

eligible_room : (at : Answers) (p : Publication) (direct : List Copy) (served : List Served) (m : Member) → is_eligible at p direct served m ≡ true → needs_room p m ≡ true → uses m.birth direct + uses m.birth (copies_of served) < at.room m.birth
eligible_room at p direct served m is needs =
    let free : has_room_beside at direct served m.birth ≡ true = rw needs at is in
    ltb-true (uses m.birth direct + uses m.birth (copies_of served)) (at.room m.birth) free

one_within : (at : Answers) (p : Publication) (birth : ℕ) (direct : List Copy) (served : List Served) (m : Member) → is_eligible at p direct served m ≡ true → Within at birth direct served
    → many birth direct + (many birth (copies_of served) + many birth (shared_copy p m ∷ [])) ≤ at.room birth
one_within at p birth direct served m is within =
    let c = shared_copy p m in
    elim (cases_Bool (is_for birth c)) [
      | inl so ↦
          let parts = both_true (acceptance.is_queued c) (nat_eq m.birth birth) so in
          let positive : 0 < c.qos = ltb-true 0 c.qos parts.0 in
          let needs : needs_room p m ≡ true = lt-ltb 0 (granted_qos p m.sub) (omega (arith, positive)) in
          let less = eligible_room at p direct served m is needs in
          let here : m.birth ≡ birth = eqb-true m.birth birth parts.1 in
          let room_here : uses birth direct + uses birth (copies_of served) < at.room birth = subst (λ (n : ℕ). uses n direct + uses n (copies_of served) < at.room n) here less in
          let one = length-filter (is_for birth) direct in
          let two = length-filter (is_for birth) (copies_of served) in
          rw so (omega (arith, room_here, one, two))
      | inr not_so ↦ rw not_so (omega (arith, within))
    ]

outcome_within : (at : Answers) (p : Publication) (birth : ℕ) (direct : List Copy) (served : List Served) (text : List ℕ) (all : List Member) (s : Served) (o : Option Member)
    → ((m : Member) → o ≡ Some m → is_eligible at p direct served m ≡ true)
    → outcome p text all o ≡ Some s
    → Within at birth direct served
    → Within at birth direct (served ++ s ∷ [])
outcome_within at p birth direct served text all s None eligible is within = elim (cases_Bool (list_any (needs_room p) all)) [
  | inl full ↦ let no : None ≡ Some s = rw full at is in absurd cc
  | inr free ↦
      let empty : Served = record { group = group_of text; copy = None } in
      let same : Some empty ≡ Some s = rw free at is in
      let it : empty ≡ s = cc in
      let more = many_served birth served empty in
      subst (λ (t : Served). Within at birth direct (served ++ t ∷ [])) it (omega (arith, more, within))
]
outcome_within at p birth direct served text all s (Some m) eligible is within =
    let given : Served = record { group = group_of text; copy = Some (shared_copy p m) } in
    let it : given ≡ s = cc in
    let more = many_served birth served given in
    let one = one_within at p birth direct served m (eligible m refl) within in
    subst (λ (t : Served). Within at birth direct (served ++ t ∷ [])) it (omega (arith, more, one))

serve_one_within : (at : Answers) (p : Publication) (birth : ℕ) (direct : List Copy) (served : List Served) (n : ℕ) (text : List ℕ) (all : List Member) (s : Served)
    → serve_one at p direct served n text all ≡ Some s → Within at birth direct served → Within at birth direct (served ++ s ∷ [])
serve_one_within at p birth direct served n text all s is within =
    outcome_within at p birth direct served text (in_group text all) s (chosen n (eligible_of at p direct served text all))
    (λ m found. chosen_passes (is_eligible at p direct served) n (eligible_of at p direct served text all) m (passing (is_eligible at p direct served) (in_group text all)) found)
    is within

serve_next : (at : Answers) (p : Publication) (birth : ℕ) (direct : List Copy) (served out : List Served) (rest : Served → Option (List Served)) (o : Option Served)
    → ((s : Served) → o ≡ Some s → Within at birth direct (served ++ s ∷ []))
    → ((s : Served) → rest s ≡ Some out → Within at birth direct (served ++ s ∷ []) → Within at birth direct out)
    → option_and_then rest o ≡ Some out
    → Within at birth direct out
serve_next at p birth direct served out rest None one more is = absurd cc
serve_next at p birth direct served out rest (Some s) one more is = more s is (one s refl)

serve_within : (at : Answers) (p : Publication) (birth : ℕ) (all : List Member) (direct : List Copy) (choices : List ℕ) (fs : List (List ℕ)) (served out : List Served)
    → serve at p all direct choices fs served ≡ Some out → Within at birth direct served → Within at birth direct out
serve_within at p birth all direct choices [] served out is within = let it : served ≡ out = cc in subst (Within at birth direct) it within
serve_within at p birth all direct choices (f ∷ fs) served out is within =
    serve_next at p birth direct served out
    (λ s. serve at p all direct (later_choices choices) fs (served ++ s ∷ []))
    (serve_one at p direct served (first_choice choices) f all)
    (λ s one. serve_one_within at p birth direct served (first_choice choices) f all s one within)
    (λ s more one. serve_within at p birth all direct (later_choices choices) fs (served ++ s ∷ []) out more one)
    is

-- ---- the deliveries of a publication

-- a delivery that enters a session's queue
abbrev pub is_to : ℕ → CopyTo → Bool
is_to birth d = is_queued d && nat_eq d.birth birth

queued_quality : (n : ℕ) → is_queued_at (quality n) ≡ nat_lt 0 n
queued_quality zero = refl
queued_quality (suc zero) = refl
queued_quality (suc (suc zero)) = refl
queued_quality (suc (suc (suc n))) = sym (lt-ltb 0 (suc (suc (suc n))) (omega arith))

same_count : (birth number now : ℕ) (m : Message) (cause : Cause) (cs : List Copy) → length (filter (is_to birth) (map (copy_to number now m cause) cs)) ≡ many birth cs
same_count birth number now m cause [] = refl
same_count birth number now m cause (c ∷ cs) =
    let rest = same_count birth number now m cause cs in
    let as_copy : is_to birth (copy_to number now m cause c) ≡ is_for birth c = ap (λ t. t && nat_eq c.birth birth) (queued_quality c.qos) in
    elim (cases_Bool (is_for birth c)) [
      | inl so ↦ rw (as_copy, so) (ap suc rest)
      | inr not_so ↦ rw (as_copy, not_so) rest
    ]

served_count : (birth number now : ℕ) (m : Message) (ss : List Served) → length (filter (is_to birth) (flat_map (served_copies_to number now m) ss)) ≡ many birth (copies_of ss)
served_count birth number now m [] = refl
served_count birth number now m (s ∷ ss) =
    let rest = served_count birth number now m ss in
    let one = same_count birth number now m (Share s.group) (copies_in s.copy) in
    let left = count_append (is_to birth) (served_copies_to number now m s) (flat_map (served_copies_to number now m) ss) in
    let right = count_append (is_for birth) (copies_in s.copy) (copies_of ss) in
    omega (arith, rest, one, left, right)

deliveries_within : (at : Answers) (birth number now : ℕ) (m : Message) (r : Routed) → Within at birth r.direct r.served → length (filter (is_to birth) (copies_to number now m r)) ≤ at.room birth
deliveries_within at birth number now m r within =
    let one = same_count birth number now m Direct r.direct in
    let two = served_count birth number now m r.served in
    let cut = count_append (is_to birth) (map (copy_to number now m Direct) r.direct) (flat_map (served_copies_to number now m) r.served) in
    omega (arith, one, two, cut, within)

beside_within : (t : Bool) (at : Answers) (p : Publication) (birth : ℕ) (all : List Member) (direct : List Copy) (choices : List ℕ) (r : Routed)
    → (t ≡ true → many birth direct ≤ at.room birth)
    → routed_beside t at p all direct choices ≡ Some r
    → Within at birth r.direct r.served
beside_within false at p birth all direct choices r few is = absurd cc
beside_within true at p birth all direct choices r few is =
    served_all direct (serve at p all direct choices (groups all) []) r (Within at birth)
    (λ out found. serve_within at p birth all direct choices (groups all) [] out found (let le = few refl in omega (arith, le))) is
  where
    served_all : (direct : List Copy) (o : Option (List Served)) (r : Routed) (Q : List Copy → List Served → Type 0) → ((out : List Served) → o ≡ Some out → Q direct out) → option_map (with_direct direct) o ≡ Some r → Q r.direct r.served
    served_all direct None r Q h is = absurd cc
    served_all direct (Some out) r Q h is =
        let it : with_direct direct out ≡ r = cc in
        subst (λ (x : Routed). Q x.direct x.served) it (h out refl)

routed_within : (at : Answers) (p : Publication) (birth : ℕ) (choices : List ℕ) (ss : List Session) (r : Routed) → IsAscending birth_of ss → acceptance.routed at p choices (map subscriber_of ss) ≡ Some r → Within at birth r.direct r.served
routed_within at p birth choices ss r up is =
    let direct = directs at p (map subscriber_of ss) in
    beside_within (list_all (has_room at) direct) at p birth (members p (map subscriber_of ss)) direct choices r (λ fits. few_direct at p birth ss up fits) is

accepted_is : (t : Bool) (o : Option (List CopyTo)) (ds : List CopyTo) → accepted_if t o ≡ Some ds → o ≡ Some ds
accepted_is true o ds is = is
accepted_is false o ds is = absurd cc

made_within : (at : Answers) (birth number now : ℕ) (m : Message) (o : Option Routed) (ds : List CopyTo) → ((r : Routed) → o ≡ Some r → Within at birth r.direct r.served) → option_map (copies_to number now m) o ≡ Some ds → length (filter (is_to birth) ds) ≤ at.room birth
made_within at birth number now m None ds h is = absurd cc
made_within at birth number now m (Some r) ds h is =
    let it : copies_to number now m r ≡ ds = cc in
    subst (λ (xs : List CopyTo). length (filter (is_to birth) xs) ≤ at.room birth) it (deliveries_within at birth number now m r (h r refl))

-- an accepted publication's copies for one session fit its queue
pub accepted_within : (env : Env) (m : Message) (b : Broker) (ds : List CopyTo) (birth : ℕ) → accepted_copies env m b ≡ Some ds → IsAscending birth_of b.records.sessions → length (filter (is_to birth) ds) ≤ room_at env (session_at birth b.records)
accepted_within env m b ds birth is up =
    let r = b.records in
    made_within (answers env r) birth (next_publication r) b.now m (routing_of env m r) ds
    (λ x found. routed_within (answers env r) (publication_of m) birth (env.choice (next_publication r) m.sender) r.sessions x up found)
    (accepted_is (finds_place env m r) (option_map (copies_to (next_publication r) b.now m) (routing_of env m r)) ds is)
