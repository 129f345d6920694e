-- Who gets a copy: direct copies, a session's once; groups with their members; and what is served (MQTT 5.0, 3.3.4, 4.8.2).
use Rattle.std.proofs.Common.{◌≡◌, ◌≢◌, ℕ, ◌≤◌, ◌+◌, Bool, true, false, cond, not, ◌&&◌, ◌||◌, ◌⊎◌, List, [], ◌∷◌, ◌++◌, map, Option, Some, None, nat_eq, nat_lt, refl, sym, ap, subst, ◌∙◌, arith, inl, inr, append-nil, append_assoc}
use Rattle.std.specs.Prelude.{bytes_eq, option_map, slice_index_or, count_by}
use Rattle.std.specs.List.{AllByRecursion, list_any, list_all}
use Rattle.std.specs.Option.{option_and_then}
use Rattle.std.specs.Cmp.Lexicographic.{nat_list_eq_equiv}
use Rattle.std.proofs.lemmas.Bool.{cases_Bool, eqb-true}
use Rattle.std.proofs.lemmas.Slice.Eq.{bytes_eq-Decides}
use Rattle.std.proofs.lemmas.List.Folds.{list_any-append}
use Rattle.std.proofs.lemmas.List.Sums.{sum_by-append}
use Rattle.mqtt_routes.specs.declared.routing.subscription.Subscription.{Subscription}
use Rattle.mqtt_routes.specs.routing.Subscriptions.{Subscriber, AreAfter, AreInOrder}
use Rattle.mqtt_routes.specs.routing.Intended.{Publication, Answers, Copy, Member, is_hit, hits_of, is_shared, matches_topic, is_none, copies_for, directs, insert_member, members_with, members_after, members, has_filter_among, in_group, groups_after, groups}
use Rattle.mqtt_routes.specs.routing.Acceptance.{Served, served_by, Routed, with_direct, chosen, outcome, needs_room, is_eligible, eligible_of, first_choice, later_choices, serve_one, serve, shared_copy, has_room, routed_beside, routed}
use Rattle.mqtt_records.specs.lists.Distinct.{AllDiffer}
use Rattle.mqtt_records.specs.lists.Order.{IsAbove, IsAscending}
use Rattle.mqtt_records.proofs.lists_lemmas.OrderLemmas.{apart}
use Rattle.mqtt_topic.specs.names.Filters.{begins_share, group_of}
use Rattle.mqtt_rules.specs.step.Laws.{IsAmong}
use Rattle.mqtt_rules.proofs.step_lemmas.numbers.Copies.{each_all, each_more}
use Rattle.mqtt_world_laws.proofs.acceptance_lemmas.copies.CopiesApart.{Any}
use Rattle.mqtt_world_laws.proofs.acceptance_lemmas.copies.RoutedApart.{AreStanding, IsApart, IsGroups, routed_apart}
use Rattle.mqtt_world_laws.proofs.acceptance_lemmas.copies.Shares.{same_group}
use Rattle.mqtt_world_laws.specs.routing.Groups.{gets_direct, is_of_group, has_member, IsOfSession, IsServedOnce, AreServedOnce, EachGetsOne}
use Rattle.mqtt_world_laws.proofs.routing_lemmas.Lists.{some_pass, one_among, among_passing}

-- ---- direct copies

module _ (at : Answers) (p : Publication) (birth : ℕ) where
  abbrev is_its : Copy → Bool
  is_its c = nat_eq c.birth birth

  abbrev is_hit_here : Subscriber → Bool
  is_hit_here x = nat_eq x.birth birth && list_any (is_hit at p x.birth) x.subs

  one_session : (b : ℕ) (hits : List Subscription) → count_by is_its (copies_for p b hits) ≡ cond (nat_eq b birth && not (is_none hits)) 1 0
  one_session b [] = elim (cases_Bool (nat_eq b birth)) [ inl is ↦ rw is refl | inr other ↦ rw other refl ]
  one_session b (s ∷ ss) = elim (cases_Bool (nat_eq b birth)) [ inl is ↦ rw is refl | inr other ↦ rw other refl ]

  -- no session behind one that isn't before it
  none_behind : (n : ℕ) (xs : List Subscriber) → birth ≤ n → AreAfter n xs → list_any is_hit_here xs ≡ false
  none_behind n [] le h = refl
  none_behind n (x ∷ xs) le h =
      let more = h.0 in
      let other : nat_eq x.birth birth ≡ false = apart x.birth birth (λ same. omega (arith, same, le, more)) in
      rw other (none_behind n xs le h.1)

  joined : (b t r : Bool) (n m : ℕ) → n ≡ cond (b && t) 1 0 → m ≡ cond r 1 0 → (b ≡ true → r ≡ false) → n + m ≡ cond ((b && t) || r) 1 0
  joined true true r n m e f alone = let none : m ≡ 0 = f ∙ ap (λ (x : Bool). cond x 1 0) (alone refl) in omega (arith, e, none)
  joined true false r n m e f alone = omega (arith, e, f)
  joined false t r n m e f alone = omega (arith, e, f)

  -- a session gets one direct copy if it is to get one, and else none
  pub direct_once : (xs : List Subscriber) → AreInOrder xs → count_by is_its (directs at p xs) ≡ cond (gets_direct at p birth xs) 1 0
  direct_once [] h = refl
  direct_once (x ∷ xs) h =
      let hits = hits_of at p x.birth x.subs in
      let one : count_by is_its (copies_for p x.birth hits) ≡ cond (nat_eq x.birth birth && list_any (is_hit at p x.birth) x.subs) 1 0 =
      one_session x.birth hits ∙ ap (λ (t : Bool). cond (nat_eq x.birth birth && t) 1 0) (some_pass (is_hit at p x.birth) x.subs) in
      sum_by-append (λ c. cond (is_its c) 1 0) (copies_for p x.birth hits) (directs at p xs)
      ∙ joined (nat_eq x.birth birth) (list_any (is_hit at p x.birth) x.subs) (list_any is_hit_here xs) (count_by is_its (copies_for p x.birth hits)) (count_by is_its (directs at p xs)) one (direct_once xs h.1)
      (λ is. none_behind x.birth xs (let same = eqb-true x.birth birth is in omega (arith, same)) h.0)

-- ---- groups with their members

or_swap : (a b c : Bool) → (a || (b || c)) ≡ (b || (a || c))
or_swap true true c = refl
or_swap true false c = refl
or_swap false b c = refl

or_turn : (a b c : Bool) → (b || (a || c)) ≡ ((a || b) || c)
or_turn true true c = refl
or_turn true false c = refl
or_turn false b c = refl

or_none : (a : Bool) → (a || false) ≡ a
or_none true = refl
or_none false = refl

module _ (p : Publication) (text : List ℕ) where
  abbrev among : List Member → Bool
  among ms = has_filter_among text ms

  inserted : (m : Member) (ms : List Member) → among (insert_member m ms) ≡ (bytes_eq m.sub.filter text || among ms)
  inserted m [] = refl
  inserted m (x ∷ xs) = elim (cases_Bool (nat_lt m.sub.place x.sub.place)) [
    | inl before ↦ rw before refl
    | inr behind ↦ rw behind (ap (λ (t : Bool). bytes_eq x.sub.filter text || t) (inserted m xs) ∙ or_swap (bytes_eq x.sub.filter text) (bytes_eq m.sub.filter text) (among xs))
  ]

  -- a subscription more: a member of its group, if it is shared and matches
  joins : (t : Bool) (birth : ℕ) (s : Subscription) (before : List Member) (later : Bool)
      → (later || among (cond t (insert_member (record { birth = birth; sub = s }) before) before)) ≡ (((bytes_eq s.filter text && t) || later) || among before)
  joins true birth s before later =
      ap (λ (x : Bool). later || x) (inserted (record { birth = birth; sub = s }) before) ∙ turned (bytes_eq s.filter text) later (among before)
    where
      turned : (a b c : Bool) → (b || (a || c)) ≡ (((a && true) || b) || c)
      turned true true c = refl
      turned true false c = refl
      turned false b c = refl
  joins false birth s before later = turned (bytes_eq s.filter text) later (among before)
    where
      turned : (a b c : Bool) → (b || c) ≡ (((a && false) || b) || c)
      turned true b c = refl
      turned false b c = refl

  of_session : (birth : ℕ) (subs : List Subscription) (before : List Member) → among (members_with p birth subs before) ≡ (list_any (is_of_group p text) subs || among before)
  of_session birth [] before = refl
  of_session birth (s ∷ ss) before =
      of_session birth ss (cond (is_shared s && matches_topic p s) (insert_member (record { birth = birth; sub = s }) before) before)
      ∙ joins (is_shared s && matches_topic p s) birth s before (list_any (is_of_group p text) ss)

  of_sessions : (xs : List Subscriber) (before : List Member) → among (members_after p xs before) ≡ (has_member p text xs || among before)
  of_sessions [] before = refl
  of_sessions (x ∷ xs) before =
      of_sessions xs (members_with p x.birth x.subs before) ∙ ap (λ (t : Bool). has_member p text xs || t) (of_session x.birth x.subs before)
      ∙ or_turn (list_any (is_of_group p text) x.subs) (has_member p text xs) (among before)

  -- the groups are those of the members
  named_by : (before ms : List Member) → among before ≡ false → list_any (bytes_eq text) (groups_after before ms) ≡ among ms
  named_by before [] none = refl
  named_by before (m ∷ ms) none = elim (cases_Bool (bytes_eq m.sub.filter text)) [
    | inl is ↦
        let same : m.sub.filter ≡ text = bytes_are m.sub.filter text is in
        let new : has_filter_among m.sub.filter before ≡ false = ap (λ (t : List ℕ). has_filter_among t before) same ∙ none in
        let first : bytes_eq text m.sub.filter ≡ true = nat_list_eq_equiv.symm text m.sub.filter ∙ is in
        rw (new, first, is) refl
    | inr other ↦
        let later : among (before ++ m ∷ []) ≡ false = list_any-append (λ (x : Member). bytes_eq x.sub.filter text) before (m ∷ []) ∙ ends other in
        let first : bytes_eq text m.sub.filter ≡ false = nat_list_eq_equiv.symm text m.sub.filter ∙ other in
        let rest = named_by (before ++ m ∷ []) ms later in
        by (has_filter_among m.sub.filter before) first other rest
  ]
    where
      bytes_are : (xs ys : List ℕ) → bytes_eq xs ys ≡ true → xs ≡ ys
      bytes_are xs ys e = (bytes_eq-Decides xs ys).0 e

      ends : bytes_eq m.sub.filter text ≡ false → (among before || (bytes_eq m.sub.filter text || false)) ≡ false
      ends other = rw (none, other) refl

      by : (t : Bool) → bytes_eq text m.sub.filter ≡ false → bytes_eq m.sub.filter text ≡ false → list_any (bytes_eq text) (groups_after (before ++ m ∷ []) ms) ≡ among ms
          → list_any (bytes_eq text) (cond t (groups_after (before ++ m ∷ []) ms) (m.sub.filter ∷ groups_after (before ++ m ∷ []) ms)) ≡ (bytes_eq m.sub.filter text || among ms)
      by true first other rest = rw other rest
      by false first other rest = rw (first, other) rest

  -- a group is there exactly if some session has a matching subscription to it
  pub groups_match : (sessions : List Subscriber) → list_any (bytes_eq text) (groups (members p sessions)) ≡ has_member p text sessions
  groups_match sessions = named_by [] (members p sessions) refl ∙ of_sessions sessions [] ∙ or_none (has_member p text sessions)

-- ---- each member is of a session

of_inserted : (m n : Member) (ms : List Member) → IsAmong m (insert_member n ms) → (n ≡ m) ⊎ IsAmong m ms
of_inserted m n [] h = h
of_inserted m n (x ∷ xs) h = by (nat_lt n.sub.place x.sub.place) (of_inserted m n xs) h
  where
    by : (t : Bool) → (IsAmong m (insert_member n xs) → (n ≡ m) ⊎ IsAmong m xs) → IsAmong m (cond t (n ∷ x ∷ xs) (x ∷ insert_member n xs)) → (n ≡ m) ⊎ IsAmong m (x ∷ xs)
    by true more q = q
    by false more (inl first) = inr (inl first)
    by false more (inr behind) = elim (more behind) [ inl is ↦ inl is | inr later ↦ inr (inr later) ]

module _ (p : Publication) (m : Member) where
  -- one that a session adds, or one from before
  its_own : (birth : ℕ) (subs : List Subscription) (before : List Member) → IsAmong m (members_with p birth subs before) → ((birth ≡ m.birth) × IsAmong m.sub subs) ⊎ IsAmong m before
  its_own birth [] before h = inr h
  its_own birth (s ∷ ss) before h =
      let t = is_shared s && matches_topic p s in
      let n : Member = record { birth = birth; sub = s } in
      elim (its_own birth ss (cond t (insert_member n before) before) h) [
        | inl own ↦ inl (own.0, inr own.1)
        | inr earlier ↦ by t earlier
      ]
    where
      by : (t : Bool) → IsAmong m (cond t (insert_member (record { birth = birth; sub = s }) before) before) → ((birth ≡ m.birth) × IsAmong m.sub (s ∷ ss)) ⊎ IsAmong m before
      by false q = inr q
      by true q = elim (of_inserted m (record { birth = birth; sub = s }) before q) [
        | inl is ↦ inl (ap (λ (x : Member). x.birth) is, inl (ap (λ (x : Member). x.sub) is))
        | inr earlier ↦ inr earlier
      ]

  of_one : (xs : List Subscriber) (before : List Member) → IsAmong m (members_after p xs before) → IsOfSession xs m ⊎ IsAmong m before
  of_one [] before h = inr h
  of_one (x ∷ xs) before h = elim (of_one xs (members_with p x.birth x.subs before) h) [
    | inl later ↦ inl (record { session = later.session; stands = inr later.stands; birth = later.birth; subscribed = later.subscribed })
    | inr earlier ↦ elim (its_own x.birth x.subs before earlier) [
      | inl own ↦ inl (record { session = x; stands = inl refl; birth = own.0; subscribed = own.1 })
      | inr first ↦ inr first
    ]
  ]

  -- each member of a group is a session's subscription
  pub belongs_to : (sessions : List Subscriber) → IsAmong m (members p sessions) → IsOfSession sessions m
  belongs_to sessions h = elim (of_one sessions [] h) [ inl it ↦ it | inr none ↦ absurd none ]

-- ---- what is served

module _ (at : Answers) (p : Publication) (all : List Member) (direct : List Copy) where
  abbrev some_eligible : List Served → List ℕ → Bool
  some_eligible before text = list_any (is_eligible at p direct before) (in_group text all)

  one_served : (n : ℕ) (text : List ℕ) (before : List Served) (s : Served) (es : List Member) → eligible_of at p direct before text all ≡ es → outcome p text (in_group text all) (chosen n es) ≡ Some s
      → IsServedOnce at p all direct before text s
  one_served n text before s [] are e = nobody (list_any (needs_room p) (in_group text all)) e
    where
      none_is : some_eligible before text ≡ false
      none_is = sym (some_pass (is_eligible at p direct before) (in_group text all)) ∙ ap (λ (ms : List Member). not (is_none ms)) are

      nobody : (t : Bool) → cond t None (Some (served_by text None)) ≡ Some s → IsServedOnce at p all direct before text s
      nobody true e = absurd cc
      nobody false e =
          let same : served_by text None ≡ s = cc in
          record { named = ap (λ (x : Served). x.group) (sym same); one = λ some. let no : true ≡ false = sym some ∙ none_is in absurd cc; none = λ no. ap (λ (x : Served). x.copy) (sym same) }
  one_served n text before s (m ∷ ms) are e =
      let c = slice_index_or (m ∷ ms) n m in
      let same : served_by text (Some (shared_copy p c)) ≡ s = cc in
      let stands : IsAmong c (eligible_of at p direct before text all) = subst (λ (xs : List Member). IsAmong c xs) (sym are) (one_among m ms n) in
      let both = among_passing (is_eligible at p direct before) c (in_group text all) stands in
      let some_is : some_eligible before text ≡ true = sym (some_pass (is_eligible at p direct before) (in_group text all)) ∙ ap (λ (xs : List Member). not (is_none xs)) are in
      record { named = ap (λ (x : Served). x.group) (sym same); one = λ some. (c, both.0, both.1, ap (λ (x : Served). x.copy) (sym same)); none = λ no. let clash : true ≡ false = sym some_is ∙ no in absurd cc }

  -- what is served behind what was
  pub record Behind (before : List Served) (texts : List (List ℕ)) (out : List Served) : Type 0 where
    pub more : List Served
    pub out_is : out ≡ before ++ more
    pub once : AreServedOnce at p all direct before texts more

  all_served : (choices : List ℕ) (texts : List (List ℕ)) (before out : List Served) → serve at p all direct choices texts before ≡ Some out → Behind before texts out
  all_served choices [] before out e = let same : before ≡ out = cc in record { more = []; out_is = sym same ∙ sym (append-nil before); once = tt }
  all_served choices (f ∷ fs) before out e =
      by (serve_one at p direct before (first_choice choices) f all) refl (λ s next. all_served (later_choices choices) fs (before ++ s ∷ []) out next) e
    where
      by : (o : Option Served) → serve_one at p direct before (first_choice choices) f all ≡ o
          → ((s : Served) → serve at p all direct (later_choices choices) fs (before ++ s ∷ []) ≡ Some out → Behind (before ++ s ∷ []) fs out)
          → option_and_then (λ (s : Served). serve at p all direct (later_choices choices) fs (before ++ s ∷ [])) o ≡ Some out → Behind before (f ∷ fs) out
      by None is more e = absurd cc
      by (Some s) is more e =
          let rest = more s e in
          record {
            more = s ∷ rest.more;
            out_is = rest.out_is ∙ append_assoc before (s ∷ []) rest.more;
            once = (one_served (first_choice choices) f before s (eligible_of at p direct before f all) refl is, rest.once);
          }

  -- groups that were served have the names of the filters, in order
  pub names_are : (before : List Served) (texts : List (List ℕ)) (ss : List Served) → AreServedOnce at p all direct before texts ss → map (λ (s : Served). s.group) ss ≡ map group_of texts
  names_are before [] [] h = refl
  names_are before [] (s ∷ ss) h = absurd h
  names_are before (f ∷ fs) [] h = absurd h
  names_are before (f ∷ fs) (s ∷ ss) h =
      ap (λ (g : List ℕ). g ∷ map (λ (x : Served). x.group) ss) h.0.named ∙ ap (λ (gs : List (List ℕ)). group_of f ∷ gs) (names_are (before ++ s ∷ []) fs ss h.1)

-- ---- groups of different filters have different names

-- shared filters that differ have groups that do
pub names_differ : (fs : List (List ℕ)) → AllDiffer fs → AllByRecursion (λ f. begins_share f ≡ true) fs → AllDiffer (map group_of fs)
names_differ [] h s = tt
names_differ (f ∷ fs) h s = (others fs h.0 s.1, names_differ fs h.1 s.1)
  where
    others : (ys : List (List ℕ)) → AllByRecursion (λ y. f ≢ y) ys → AllByRecursion (λ y. begins_share y ≡ true) ys → AllByRecursion (λ g. group_of f ≢ g) (map group_of ys)
    others [] h q = tt
    others (y ∷ ys) h q = ((λ e. h.0 (same_group f y s.0 q.0 e)), others ys h.1 q.1)

rising : (n : ℕ) (xs : List Subscriber) → AreAfter n xs → IsAbove (λ (x : Subscriber). x.birth) n xs
rising n [] h = tt
rising n (x ∷ xs) h = (h.0, rising n xs h.1)

births_rise : (xs : List Subscriber) → AreInOrder xs → IsAscending (λ (x : Subscriber). x.birth) xs
births_rise [] h = tt
births_rise (x ∷ xs) h = (rising x.birth xs h.0, births_rise xs h.1)

-- ---- a routing

module _ (at : Answers) (p : Publication) (choices : List ℕ) (sessions : List Subscriber) (order : AreInOrder sessions) where
  -- no two groups that are served have one name
  pub served_differ : (r : Routed) → routed at p choices sessions ≡ Some r → AllDiffer (map (λ (s : Served). s.group) r.served)
  served_differ r e =
      let x : IsApart Any r = routed_apart Any at p choices sessions r (births_rise sessions order) (each_all (AreStanding Any) (λ (y : Subscriber). each_all (λ (s : Subscription). Any s.filter) (λ s. tt) y.subs) sessions) e in
      subst AllDiffer (sym x.groups) (names_differ x.filters x.differ (each_more (IsGroups Any) (λ f. begins_share f ≡ true) (λ f q. q.1) x.filters x.stand))

  of_serving : (r : Routed) (o : Option (List Served)) → serve at p (members p sessions) (directs at p sessions) choices (groups (members p sessions)) [] ≡ o → option_map (with_direct (directs at p sessions)) o ≡ Some r
      → AllDiffer (map (λ (s : Served). s.group) r.served) → EachGetsOne at p sessions r
  of_serving r None is e differ = absurd cc
  of_serving r (Some out) is e differ =
      let all = members p sessions in
      let direct = directs at p sessions in
      let same : with_direct direct out ≡ r = cc in
      let x = all_served at p all direct choices (groups all) [] out is in
      let once : AreServedOnce at p all direct [] (groups all) out = subst (AreServedOnce at p all direct [] (groups all)) (sym x.out_is) x.once in
      let differ_out : AllDiffer (map (λ (s : Served). s.group) out) = subst (λ (y : Routed). AllDiffer (map (λ (s : Served). s.group) y.served)) (sym same) differ in
      subst (EachGetsOne at p sessions) same (record {
        direct = λ birth. direct_once at p birth sessions order;
        matching = λ text. groups_match p text sessions;
        belongs = λ m among. belongs_to p m sessions among;
        apart = subst AllDiffer (names_are at p all direct [] (groups all) out once) differ_out;
        served = once;
      })

  -- who is routed to gets one copy each, directly and by the groups
  pub each_gets_one : (r : Routed) → routed at p choices sessions ≡ Some r → EachGetsOne at p sessions r
  each_gets_one r e = by (list_all (has_room at) (directs at p sessions)) e
    where
      by : (t : Bool) → routed_beside t at p (members p sessions) (directs at p sessions) choices ≡ Some r → EachGetsOne at p sessions r
      by false f = absurd cc
      by true f = of_serving r (serve at p (members p sessions) (directs at p sessions) choices (groups (members p sessions)) []) refl f (served_differ r e)
