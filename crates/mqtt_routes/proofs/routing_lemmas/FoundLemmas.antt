-- Lemmas on the subscriptions to a topic: members of groups, and what stands where one was found (MQTT 5.0, 4.7, 4.8.2).
use Rattle.std.proofs.Common.{◌≡◌, ℕ, ◌+◌, ◌<◌, Bool, true, false, cond, ◌&&◌, List, [], ◌∷◌, ◌++◌, length, map, drop, get_or, slice_get, refl, sym, ap, ◌∙◌, nat_eq, nat_lt, arith, append_assoc, Option, Some, None}
use Rattle.std.specs.Prelude.{⊤}
use Rattle.std.proofs.lemmas.List.{drop_more}
use Rattle.mqtt_routes.specs.declared.routing.spot.Spot.{Spot}
use Rattle.mqtt_routes.specs.declared.routing.subscription.Subscription.{Subscription}
use Rattle.mqtt_routes.specs.routing.Subscriptions.{Subscriber, AreAfter, AreInOrder, subs_of}
use Rattle.mqtt_routes.specs.routing.Intended.{Publication, Member, insert_member, is_shared, matches_topic, members, members_after, members_with}
use Rattle.mqtt_routes.specs.routing.Found.{Found, found_sub, found_of, found_in, next_spot, spot_at, spots_of, spots_in}
use Rattle.mqtt_routes.proofs.routing_lemmas.SpotLemmas.{lt-yes, lt-no, eq-yes}

-- ---- members

-- a found subscription as a member
abbrev pub member_of : Found → Member
member_of f = record { birth = f.birth; sub = f.sub }

-- the members once these subscriptions are looked at too
abbrev pub members_found : List Found → List Member → List Member
members_found [] before = before
members_found (f ∷ fs) before = members_found fs (cond (is_shared f.sub) (insert_member (member_of f) before) before)

-- one subscription more has been looked at
pub member_next : (fs : List Found) (i : ℕ) (f : Found) (before after whole : List Member) → i < length fs → f ≡ get_or fs i f → after ≡ cond (is_shared f.sub) (insert_member (member_of f) before) before →
    members_found (drop i fs) before ≡ whole → members_found (drop (i + 1) fs) after ≡ whole
member_next fs i f before after whole within is made h =
    ap (members_found (drop (i + 1) fs)) made
    ∙ sym (ap (λ (xs : List Found). members_found xs before) (drop_more fs i f within ∙ ap (λ (x : Found). x ∷ drop (i + 1) fs) (sym is)))
    ∙ h

and_true : (a : Bool) → (a && true) ≡ a
and_true true = refl
and_true false = refl

and_false : (a : Bool) → (a && false) ≡ false
and_false true = refl
and_false false = refl

module _ (p : Publication) where
  member_by : (m : Bool) (b : ℕ) (s : Subscription) (ss : List Subscription) (rest : List Found) (before : List Member) → matches_topic p s ≡ m →
      ((all : List Member) → members_found (found_of p b ss ++ rest) all ≡ members_found rest (members_with p b ss all)) →
      members_found (cond m (found_sub b s ∷ found_of p b ss) (found_of p b ss) ++ rest) before ≡ members_found rest (members_with p b (s ∷ ss) before)
  member_by true b s ss rest before e more =
      let added = insert_member (record { birth = b; sub = s }) before in
      more (cond (is_shared s) added before)
      ∙ ap (λ t. members_found rest (members_with p b ss (cond t added before))) (sym (ap (λ m. is_shared s && m) e ∙ and_true (is_shared s)))
  member_by false b s ss rest before e more =
      let added = insert_member (record { birth = b; sub = s }) before in
      more before ∙ ap (λ t. members_found rest (members_with p b ss (cond t added before))) (sym (ap (λ m. is_shared s && m) e ∙ and_false (is_shared s)))

  of_session : (b : ℕ) (subs : List Subscription) (rest : List Found) (before : List Member) → members_found (found_of p b subs ++ rest) before ≡ members_found rest (members_with p b subs before)
  of_session b [] rest before = refl
  of_session b (s ∷ ss) rest before = member_by (matches_topic p s) b s ss rest before refl (of_session b ss rest)

  of_sessions : (xs : List Subscriber) (before : List Member) → members_found (found_in p xs) before ≡ members_after p xs before
  of_sessions [] before = refl
  of_sessions (x ∷ xs) before = of_session x.birth x.subs (found_in p xs) before ∙ of_sessions xs (members_with p x.birth x.subs before)

  -- the shared ones of the subscriptions to the topic are the members
  pub members_are : (xs : List Subscriber) → members_found (found_in p xs) [] ≡ members p xs
  members_are xs = of_sessions xs []

-- ---- what stands at a spot

abbrev pub found_by : ℕ → Option Subscription → List Found
found_by b None = []
found_by b (Some s) = found_sub b s ∷ []

-- the subscriptions that stand at spots
abbrev pub found_all : List Subscriber → List Spot → List Found
found_all xs [] = []
found_all xs (z ∷ zs) = found_by z.birth (slice_get (subs_of z.birth xs) z.at) ++ found_all xs zs

-- one spot more has been looked at
pub spot_next : (xs : List Subscriber) (zs : List Spot) (i : ℕ) (z : Spot) (before after whole : List Found) → i < length zs → z ≡ get_or zs i z → after ≡ before ++ found_by z.birth (slice_get (subs_of z.birth xs) z.at) →
    before ++ found_all xs (drop i zs) ≡ whole → after ++ found_all xs (drop (i + 1) zs) ≡ whole
spot_next xs zs i z before after whole within is made h =
    let own = found_by z.birth (slice_get (subs_of z.birth xs) z.at) in
    let rest = found_all xs (drop (i + 1) zs) in
    ap (λ fs. fs ++ rest) made ∙ append_assoc before own rest
    ∙ sym (ap (λ (ys : List Spot). before ++ found_all xs ys) (drop_more zs i z within ∙ ap (λ (y : Spot). y ∷ drop (i + 1) zs) (sym is)))
    ∙ h

append_all : (xs : List Subscriber) (ys zs : List Spot) → found_all xs (ys ++ zs) ≡ found_all xs ys ++ found_all xs zs
append_all xs [] zs = refl
append_all xs (y ∷ ys) zs =
    let own = found_by y.birth (slice_get (subs_of y.birth xs) y.at) in
    ap (λ (fs : List Found). own ++ fs) (append_all xs ys zs) ∙ sym (append_assoc own (found_all xs ys) (found_all xs zs))

-- spots of one session, and of sessions born later than one
abbrev pub AreOf : ℕ → List Spot → Type 0
AreOf b [] = ⊤
AreOf b (z ∷ zs) = (z.birth ≡ b) × AreOf b zs

abbrev pub AreBeyond : ℕ → List Spot → Type 0
AreBeyond b [] = ⊤
AreBeyond b (z ∷ zs) = (b < z.birth) × AreBeyond b zs

of_next : (b : ℕ) (zs : List Spot) → AreOf b zs → AreOf b (map next_spot zs)
of_next b [] h = tt
of_next b (z ∷ zs) h = (h.0, of_next b zs h.1)

beyond_append : (b : ℕ) (ys zs : List Spot) → AreBeyond b ys → AreBeyond b zs → AreBeyond b (ys ++ zs)
beyond_append b [] zs h k = k
beyond_append b (y ∷ ys) zs h k = (h.0, beyond_append b ys zs h.1 k)

beyond_of : (b c : ℕ) (zs : List Spot) → b < c → AreOf c zs → AreBeyond b zs
beyond_of b c [] l h = tt
beyond_of b c (z ∷ zs) l h = (omega (arith, l, h.0), beyond_of b c zs l h.1)

module _ (p : Publication) where
  of_by : (m : Bool) (b : ℕ) (zs : List Spot) → AreOf b zs → AreOf b (cond m (spot_at b 0 ∷ zs) zs)
  of_by true b zs h = (refl, h)
  of_by false b zs h = h

  -- where a session's subscriptions to the topic stand is of that session
  pub spots_are_of : (b : ℕ) (subs : List Subscription) → AreOf b (spots_of p b subs)
  spots_are_of b [] = tt
  spots_are_of b (s ∷ ss) = of_by (matches_topic p s) b (map next_spot (spots_of p b ss)) (of_next b (spots_of p b ss) (spots_are_of b ss))

  -- where subscriptions of sessions born later stand is of sessions born later
  pub spots_are_beyond : (b : ℕ) (xs : List Subscriber) → AreAfter b xs → AreBeyond b (spots_in p xs)
  spots_are_beyond b [] h = tt
  spots_are_beyond b (x ∷ xs) h =
      beyond_append b (spots_of p x.birth x.subs) (spots_in p xs) (beyond_of b x.birth (spots_of p x.birth x.subs) h.0 (spots_are_of x.birth x.subs)) (spots_are_beyond b xs h.1)

-- of one session's subscriptions
abbrev rows : List Subscription → List Spot → List Found
rows subs [] = []
rows subs (z ∷ zs) = found_by z.birth (slice_get subs z.at) ++ rows subs zs

rows_next : (s : Subscription) (ss : List Subscription) (zs : List Spot) → rows (s ∷ ss) (map next_spot zs) ≡ rows ss zs
rows_next s ss [] = refl
rows_next s ss (z ∷ zs) = ap (λ (fs : List Found). found_by z.birth (slice_get ss z.at) ++ fs) (rows_next s ss zs)

module _ (x : Subscriber) (xs : List Subscriber) where
  rows_of : (zs : List Spot) → AreOf x.birth zs → found_all (x ∷ xs) zs ≡ rows x.subs zs
  rows_of [] h = refl
  rows_of (z ∷ zs) h =
      let isnt : nat_lt x.birth z.birth ≡ false = let e = h.0 in lt-no x.birth z.birth (omega (arith, e)) in
      let yes : nat_eq x.birth z.birth ≡ true = eq-yes x.birth z.birth (sym h.0) in
      let here = ap (λ t. cond t (subs_of z.birth xs) (cond (nat_eq x.birth z.birth) x.subs [])) isnt ∙ ap (λ t. cond t x.subs []) yes in
      ap (λ (ss : List Subscription). found_by z.birth (slice_get ss z.at) ++ found_all (x ∷ xs) zs) here
      ∙ ap (λ (fs : List Found). found_by z.birth (slice_get x.subs z.at) ++ fs) (rows_of zs h.1)

  rows_beyond : (zs : List Spot) → AreBeyond x.birth zs → found_all (x ∷ xs) zs ≡ found_all xs zs
  rows_beyond [] h = refl
  rows_beyond (z ∷ zs) h =
      ap (λ t. found_by z.birth (slice_get (cond t (subs_of z.birth xs) (cond (nat_eq x.birth z.birth) x.subs [])) z.at) ++ found_all (x ∷ xs) zs) (lt-yes x.birth z.birth h.0)
      ∙ ap (λ (fs : List Found). found_by z.birth (slice_get (subs_of z.birth xs) z.at) ++ fs) (rows_beyond zs h.1)

module _ (p : Publication) where
  session_by : (m : Bool) (b : ℕ) (s : Subscription) (ss : List Subscription) → rows ss (spots_of p b ss) ≡ found_of p b ss →
      rows (s ∷ ss) (cond m (spot_at b 0 ∷ map next_spot (spots_of p b ss)) (map next_spot (spots_of p b ss))) ≡ cond m (found_sub b s ∷ found_of p b ss) (found_of p b ss)
  session_by true b s ss more = ap (λ (fs : List Found). found_sub b s ∷ fs) (rows_next s ss (spots_of p b ss) ∙ more)
  session_by false b s ss more = rows_next s ss (spots_of p b ss) ∙ more

  session_rows : (b : ℕ) (subs : List Subscription) → rows subs (spots_of p b subs) ≡ found_of p b subs
  session_rows b [] = refl
  session_rows b (s ∷ ss) = session_by (matches_topic p s) b s ss (session_rows b ss)

  -- where the subscriptions to the topic stand, they are found
  pub spots_found : (xs : List Subscriber) → AreInOrder xs → found_all xs (spots_in p xs) ≡ found_in p xs
  spots_found [] o = refl
  spots_found (x ∷ xs) o =
      let own = spots_of p x.birth x.subs in
      append_all (x ∷ xs) own (spots_in p xs)
      ∙ ap (λ (fs : List Found). fs ++ found_all (x ∷ xs) (spots_in p xs)) (rows_of x xs own (spots_are_of p x.birth x.subs) ∙ session_rows x.birth x.subs)
      ∙ ap (λ (fs : List Found). found_of p x.birth x.subs ++ fs) (rows_beyond x xs (spots_in p xs) (spots_are_beyond p x.birth xs o.0) ∙ spots_found xs o.1)
