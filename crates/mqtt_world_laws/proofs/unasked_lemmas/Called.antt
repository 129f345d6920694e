-- The copies of a publication that is accepted, and of the retained messages that a filter brings, were called for by their sessions
-- (MQTT 5.0, 3.3.1.3, 3.3.4, 3.8.3.1, 3.8.4, 4.8.2).
use Rattle.std.proofs.Common.{◌≡◌, ℕ, zero, suc, min, ◌≤◌, ◌⊎◌, Bool, true, false, cond, not, ◌&&◌, List, [], ◌∷◌, ◌++◌, filter, map, Option, Some, None, bytes_eq, refl, sym, ap, subst, ◌∙◌, arith, inl, inr}
use Rattle.std.specs.Prelude.{flat_map, nat_le, nat_lt, option_map}
use Rattle.std.specs.List.{AllByRecursion, list_any}
use Rattle.std.proofs.lemmas.Bool.{cases_Bool, leb-false, leb-true}
use Rattle.std.proofs.lemmas.Slice.Eq.{bytes_eq-Decides}
use Rattle.mqtt_base.specs.Service.{qos_number}
use Rattle.mqtt_base.specs.declared.session.Cause.{Cause}
use Rattle.mqtt_base.specs.declared.session.Cause.TheVariants.{Direct, Share}
use Rattle.mqtt_base.specs.declared.session.RetainHandling.{RetainHandling}
use Rattle.mqtt_base.specs.declared.session.RetainHandling.TheVariants.{SendAlways, SendIfNew, DoNotSend}
use Rattle.mqtt_topic.specs.names.Filters.{begins_share, group_of, shared_part_of}
use Rattle.mqtt_topic.specs.names.Matching.{is_match}
use Rattle.mqtt_records.specs.declared.messages.message.RetainedMessage.{RetainedMessage}
use Rattle.mqtt_records.specs.declared.state.records.Records.{Records}
use Rattle.mqtt_records.specs.declared.state.session.Session.{Session}
use Rattle.mqtt_records.specs.declared.state.subscription.Subscription.{Subscription}
use Rattle.mqtt_routes.specs.declared.routing.retained.Kept.{Kept}
use Rattle.mqtt_routes.specs.declared.routing.subscription.Subscription.{Subscription as Routed_one}
use Rattle.mqtt_routes.specs.routing.Acceptance.{Routed, Served, copies_in, is_eligible, shared_copy}
use Rattle.mqtt_routes.specs.routing.Intended.{Answers, Copy, Member, Publication, copies_for, copy_for, directs, granted_qos, greatest, groups, hits_of, in_group, insert_member, is_barred, is_hit, is_shared, matches_topic, members, members_after, members_with}
use Rattle.mqtt_routes.specs.routing.Retained.{kept_for}
use Rattle.mqtt_routes.specs.routing.Subscriptions.{Subscriber}
use Rattle.mqtt_rules.specs.step.Deeds.{Message, Origin, Accept, At, Count, Subscribe, whose, after}
use Rattle.mqtt_rules.specs.step.Laws.{IsAmong}
use Rattle.mqtt_rules.specs.step.Packets.{is_expired, quality}
use Rattle.mqtt_rules.specs.step.Routing.{CopyTo, accepted_copies, accepted_if, answers, copies_to, copy_to, finds_place, is_there, next_publication, publication_of, routed_subscription, routing_of, served_copies_to, subscriber_of, subscribers}
use Rattle.mqtt_rules.specs.step.State.{Broker, Env, session_at}
use Rattle.mqtt_rules.specs.step.Subscribe as sub
use Rattle.mqtt_rules.proofs.step_lemmas.fit.FitLaw.{all_among}
use Rattle.mqtt_rules.proofs.step_lemmas.fit.StandLaw.{Orders}
use Rattle.mqtt_rules.proofs.step_lemmas.lines.LineLaw.{here}
use Rattle.mqtt_rules.proofs.step_lemmas.numbers.Copies.{each_append, each_map, each_more}
use Rattle.mqtt_world_laws.specs.acceptance.Entries.{Moment, moment_of}
use Rattle.mqtt_world_laws.specs.routing.Groups.{AreServedOnce, EachGetsOne, IsOfSession, IsServedOnce}
use Rattle.mqtt_world_laws.specs.unasked.Asking.{HeldSubscription, IsCauseFor, CopiesMessage, WantsRetained, WasCalledFor}
use Rattle.mqtt_world_laws.proofs.published_lemmas.Direct.{routed_direct}
use Rattle.mqtt_world_laws.proofs.published_lemmas.Publishing.{image}
use Rattle.mqtt_world_laws.proofs.routing_lemmas.Groups.{each_gets_one}
use Rattle.mqtt_world_laws.proofs.routing_lemmas.Intended.{births_in_order}
use Rattle.mqtt_world_laws.proofs.routing_lemmas.Lists.{among_passing, each_among}

-- ---- tests, and numbers

both : (a b : Bool) → (a && b) ≡ true → (a ≡ true) × (b ≡ true)
both true true e = (refl, refl)
both true false e = absurd cc
both false b e = absurd cc

off : (a : Bool) → not a ≡ true → a ≡ false
off false e = refl
off true e = absurd cc

-- a quality by its number is no more than the number
quality_least : (n : ℕ) → qos_number (quality n) ≤ n
quality_least zero = omega arith
quality_least (suc zero) = omega arith
quality_least (suc (suc zero)) = omega arith
quality_least (suc (suc (suc n))) = omega arith

-- the greatest of some numbers is the number of one
greatest_is : {X : Type 0} (f : X → ℕ) (x : X) (xs : List X) → (y : X) × IsAmong y (x ∷ xs) × (greatest (map f (x ∷ xs)) ≤ f y)
greatest_is f x [] = (x, inl refl, omega arith)
greatest_is f x (z ∷ zs) =
    let rest = greatest_is f z zs in
    elim (cases_Bool (nat_le (greatest (map f (z ∷ zs))) (f x))) [
      | inl less ↦ let le = leb-true (greatest (map f (z ∷ zs))) (f x) less in (x, inl refl, omega (arith, le))
      | inr more ↦ let gt = leb-false (greatest (map f (z ∷ zs))) (f x) more in let le = rest.2 in (rest.0, inr rest.1, omega (arith, gt, le))
    ]

-- a copy was called for by the session that it is for
abbrev pub IsCalled : List Moment → CopyTo → Type 0
IsCalled ms d = WasCalledFor ms d.birth d.copy

-- ---- a publication: who gets a copy of it held a subscription

module _ (env : Env) (m : Message) (b : Broker) (order : Orders b) where
  abbrev r : Records
  r = b.records

  abbrev at : Answers
  at = answers env r

  abbrev p : Publication
  p = publication_of m

  abbrev sessions : List Subscriber
  sessions = subscribers r

  abbrev to : Cause → Copy → CopyTo
  to cause c = copy_to (next_publication r) b.now m cause c

  -- the session of the copy held a subscription for it, and it is of the publication
  abbrev pub Held : CopyTo → Type 0
  Held d = HeldSubscription d.birth m d.copy r × (d.copy.id.publication ≡ next_publication r) × CopiesMessage m d.copy

  held : (cause : Cause) (c : Copy) (x : Session) (s : Subscription) → IsAmong x r.sessions → x.birth ≡ c.birth → IsAmong s x.subscriptions → IsCauseFor cause s.filter → matches_topic p (routed_subscription s) ≡ true
      → (begins_share s.filter ≡ false → s.options.no_local ≡ true → bytes_eq x.client m.sender ≡ false) → c.qos ≤ granted_qos p (routed_subscription s) → Held (to cause c)
  held cause c x s among birth subscribed is matches foreign granted =
      let least = quality_least c.qos in (
        record {
          session = x;
          stands = ap (λ (n : ℕ). session_at n r) (sym birth) ∙ here x r order.sessions.ascending among;
          subscription = s;
          subscribed = subscribed;
          cause = is;
          covers = record { matches = matches; foreign = foreign; published = omega (arith, least, granted); granted = omega (arith, least, granted) };
        },
        refl,
        record { topic = refl; payload = refl },
      )

  -- ---- directly

  -- a subscription that is hit is the client's own, matches, and isn't barred
  hit_held : (x : Session) (h : Routed_one) (c : Copy) → IsAmong x r.sessions → x.birth ≡ c.birth → IsAmong h (map routed_subscription x.subscriptions) → is_hit at p x.birth h ≡ true → c.qos ≤ granted_qos p h → Held (to Direct c)
  hit_held x h c among birth stands hit granted =
      let it = image routed_subscription h x.subscriptions stands in
      let s = it.of in
      let parts = both (not (is_shared h)) (matches_topic p h && not (is_barred at p x.birth h)) hit in
      let more = both (matches_topic p h) (not (is_barred at p x.birth h)) parts.1 in
      let own : begins_share s.filter ≡ false = ap (λ (z : Routed_one). is_shared z) it.is ∙ off (is_shared h) parts.0 in
      let matches : matches_topic p (routed_subscription s) ≡ true = ap (matches_topic p) it.is ∙ more.0 in
      let free : is_barred at p x.birth (routed_subscription s) ≡ false = ap (is_barred at p x.birth) it.is ∙ off (is_barred at p x.birth h) more.1 in
      let le : c.qos ≤ granted_qos p (routed_subscription s) = subst (λ (z : Routed_one). c.qos ≤ granted_qos p z) (sym it.is) granted in
      held Direct c x s among birth it.among own matches (λ mine local. not_own s.options.no_local local free) le
    where
      not_own : (t : Bool) → t ≡ true → (t && is_there (session_at x.birth r) (λ (y : Session). bytes_eq y.client m.sender)) ≡ false → bytes_eq x.client m.sender ≡ false
      not_own t local free =
          let there : session_at x.birth r ≡ Some x = here x r order.sessions.ascending among in
          sym (ap (λ (o : Option Session). is_there o (λ (y : Session). bytes_eq y.client m.sender)) there)
          ∙ sym (ap (λ (z : Bool). z && is_there (session_at x.birth r) (λ (y : Session). bytes_eq y.client m.sender)) local) ∙ free

  of_hits : (x : Session) (hits : List Routed_one) → IsAmong x r.sessions → ((h : Routed_one) → IsAmong h hits → IsAmong h (map routed_subscription x.subscriptions) × (is_hit at p x.birth h ≡ true))
      → AllByRecursion (λ (c : Copy). Held (to Direct c)) (copies_for p x.birth hits)
  of_hits x [] among h = tt
  of_hits x (y ∷ ys) among h =
      let most = greatest_is (granted_qos p) y ys in
      let one = h most.0 most.1 in
      (hit_held x most.0 (copy_for p x.birth (y ∷ ys)) among refl one.0 one.1 most.2, tt)

  directly : (ss : List Session) → ((x : Session) → IsAmong x ss → IsAmong x r.sessions) → AllByRecursion (λ (c : Copy). Held (to Direct c)) (directs at p (map subscriber_of ss))
  directly [] h = tt
  directly (x ∷ ss) h =
      let subs = map routed_subscription x.subscriptions in
      each_append (λ (c : Copy). Held (to Direct c)) (copies_for p x.birth (hits_of at p x.birth subs)) (directs at p (map subscriber_of ss))
      (of_hits x (hits_of at p x.birth subs) (h x (inl refl)) (λ y among. among_passing (is_hit at p x.birth) y subs among))
      (directly ss (λ y more. h y (inr more)))

  -- ---- by a group

  abbrev IsJoined : Member → Type 0
  IsJoined x = (is_shared x.sub && matches_topic p x.sub) ≡ true

  joined_insert : (n : Member) (ms : List Member) → IsJoined n → AllByRecursion IsJoined ms → AllByRecursion IsJoined (insert_member n ms)
  joined_insert n [] is h = (is, tt)
  joined_insert n (x ∷ xs) is h = elim (cases_Bool (nat_lt n.sub.place x.sub.place)) [
    | inl first ↦ rw first (is, h)
    | inr later ↦ rw later (h.0, joined_insert n xs is h.1)
  ]

  joined_with : (birth : ℕ) (subs : List Routed_one) (before : List Member) → AllByRecursion IsJoined before → AllByRecursion IsJoined (members_with p birth subs before)
  joined_with birth [] before h = h
  joined_with birth (s ∷ ss) before h = joined_with birth ss (cond (is_shared s && matches_topic p s) (insert_member (record { birth = birth; sub = s }) before) before) (by (is_shared s && matches_topic p s) refl)
    where
      by : (t : Bool) → (is_shared s && matches_topic p s) ≡ t → AllByRecursion IsJoined (cond t (insert_member (record { birth = birth; sub = s }) before) before)
      by true is = joined_insert (record { birth = birth; sub = s }) before is h
      by false is = h

  joined_after : (xs : List Subscriber) (before : List Member) → AllByRecursion IsJoined before → AllByRecursion IsJoined (members_after p xs before)
  joined_after [] before h = h
  joined_after (x ∷ xs) before h = joined_after xs (members_with p x.birth x.subs before) (joined_with x.birth x.subs before h)

  all_joined : AllByRecursion IsJoined (members p sessions)
  all_joined = joined_after sessions [] tt

  -- a member of a group that is served held the subscription to it
  member_held : (text group : List ℕ) (x : Member) → group ≡ group_of text → IsAmong x (in_group text (members p sessions)) → IsOfSession sessions x → Held (to (Share group) (shared_copy p x))
  member_held text group x named among of =
      let stands = among_passing (λ (y : Member). bytes_eq y.sub.filter text) x (members p sessions) among in
      let parts = both (is_shared x.sub) (matches_topic p x.sub) (all_among IsJoined x (members p sessions) all_joined stands.0) in
      let session = image subscriber_of of.session r.sessions of.stands in
      let s = session.of in
      let its : IsAmong x.sub (map routed_subscription s.subscriptions) = subst (λ (y : Subscriber). IsAmong x.sub y.subs) (sym session.is) of.subscribed in
      let sub = image routed_subscription x.sub s.subscriptions its in
      let filter_is : sub.of.filter ≡ x.sub.filter = ap (λ (y : Routed_one). y.filter) sub.is in
      let text_is : x.sub.filter ≡ text = (bytes_eq-Decides x.sub.filter text).0 stands.1 in
      let shared : begins_share sub.of.filter ≡ true = ap begins_share filter_is ∙ parts.0 in
      let matches : matches_topic p (routed_subscription sub.of) ≡ true = ap (matches_topic p) sub.is ∙ parts.1 in
      let granted : (shared_copy p x).qos ≤ granted_qos p (routed_subscription sub.of) = subst (λ (y : Routed_one). (shared_copy p x).qos ≤ granted_qos p y) (sym sub.is) (omega arith) in
      held (Share group) (shared_copy p x) s sub.of session.among (ap (λ (y : Subscriber). y.birth) session.is ∙ of.birth) sub.among (shared, ap group_of (filter_is ∙ text_is) ∙ sym named) matches
      (λ own. absurd (let clash : true ≡ false = sym shared ∙ own in cc)) granted

  module _ (direct : List Copy) (belongs : (x : Member) → IsAmong x (members p sessions) → IsOfSession sessions x) where
    group_held : (before : List Served) (text : List ℕ) (s : Served) → IsServedOnce at p (members p sessions) direct before text s → (o : Option Copy) → s.copy ≡ o
        → AllByRecursion Held (map (to (Share s.group)) (copies_in o))
    group_held before text s h None is = tt
    group_held before text s h (Some c) is = (by (cases_Bool (list_any (is_eligible at p direct before) (in_group text (members p sessions)))), tt)
      where
        by : (list_any (is_eligible at p direct before) (in_group text (members p sessions)) ≡ true) ⊎ (list_any (is_eligible at p direct before) (in_group text (members p sessions)) ≡ false) → Held (to (Share s.group) c)
        by (inl some) =
            let x = h.one some in
            let two : Some c ≡ Some (shared_copy p x.0) = sym is ∙ x.3 in
            let same : shared_copy p x.0 ≡ c = cc in
            let among = among_passing (λ (y : Member). bytes_eq y.sub.filter text) x.0 (members p sessions) x.1 in
            subst (λ (z : Copy). Held (to (Share s.group) z)) same (member_held text s.group x.0 h.named x.1 (belongs x.0 among.0))
        by (inr none) = let clash : Some c ≡ None = sym is ∙ h.none none in absurd cc

    groups_held : (before : List Served) (texts : List (List ℕ)) (ss : List Served) → AreServedOnce at p (members p sessions) direct before texts ss
        → AllByRecursion Held (flat_map (served_copies_to (next_publication r) b.now m) ss)
    groups_held before [] [] h = tt
    groups_held before [] (s ∷ ss) h = absurd h
    groups_held before (f ∷ fs) [] h = absurd h
    groups_held before (f ∷ fs) (s ∷ ss) h =
        each_append Held (served_copies_to (next_publication r) b.now m s) (flat_map (served_copies_to (next_publication r) b.now m) ss) (group_held before f s h.0 s.copy refl)
        (groups_held (before ++ s ∷ []) fs ss h.1)

  -- ---- all copies

  routed_held : (x : Routed) → routing_of env m r ≡ Some x → AllByRecursion Held (copies_to (next_publication r) b.now m x)
  routed_held x e =
      let choices = env.choice (next_publication r) m.sender in
      let each : EachGetsOne at p sessions x = each_gets_one at p choices sessions (births_in_order r.sessions order.sessions.ascending) x e in
      let direct = routed_direct at p choices sessions x e in
      each_append Held (map (to Direct) x.direct) (flat_map (served_copies_to (next_publication r) b.now m) x.served)
      (each_map Held (to Direct) x.direct (subst (AllByRecursion (λ (c : Copy). Held (to Direct c))) (sym direct) (directly r.sessions (λ y among. among))))
      (groups_held x.direct each.belongs [] (groups (members p sessions)) x.served each.served)

  -- the sessions of the copies of a publication that is accepted held subscriptions for them
  pub accepted_held : (ds : List CopyTo) → accepted_copies env m b ≡ Some ds → AllByRecursion Held ds
  accepted_held ds e = by (finds_place env m r) (routing_of env m r) refl e
    where
      by : (t : Bool) (o : Option Routed) → routing_of env m r ≡ o → accepted_if t (option_map (copies_to (next_publication r) b.now m) o) ≡ Some ds → AllByRecursion Held ds
      by false o is f = absurd cc
      by true None is f = absurd cc
      by true (Some x) is f =
          let same : copies_to (next_publication r) b.now m x ≡ ds = cc in
          subst (AllByRecursion Held) same (routed_held x is)

-- so they were called for, in deeds among which the publication is accepted
pub publication_called : (env : Env) (origin : Origin) (m : Message) (b : Broker) (ms : List Moment) → Orders b → IsAmong (moment_of env (Accept (next_publication b.records) origin m) b) ms
    → (ds : List CopyTo) → accepted_copies env m b ≡ Some ds → AllByRecursion (IsCalled ms) ds
publication_called env origin m b ms order at_hand ds e = each_more (Held env m b order) (IsCalled ms) (λ d h. inl (record {
  moment = moment_of env (Accept (next_publication b.records) origin m) b;
  among = at_hand;
  number = next_publication b.records;
  origin = origin;
  message = m;
  accepts = refl;
  numbered = h.1;
  carries = h.2;
  held = h.0;
})) ds (accepted_held env m b order ds e)

-- ---- what a filter brings was called for, in deeds among which it is granted

module _ (env : Env) (s : Session) (w : sub.Wish) (b : Broker) (ms : List Moment) (there : session_at s.birth b.records ≡ Some s) where
  abbrev number : ℕ
  number = sub.next_number b.records

  -- the deed that grants the filter
  abbrev pub granting : Moment
  granting = moment_of env (At (whose s) (Subscribe (sub.subscription number s w))) (after (Count number) b)

  none_of : (subs : List Subscription) → list_any (λ (y : Subscription). bytes_eq y.filter w.filter) subs ≡ false → AllByRecursion (λ (y : Subscription). bytes_eq y.filter w.filter ≡ false) subs
  none_of [] e = tt
  none_of (y ∷ ys) e = elim (cases_Bool (bytes_eq y.filter w.filter)) [
    | inl is ↦ let no : true ≡ false = rw is at e in absurd cc
    | inr other ↦ (other, none_of ys (rw other at e))
  ]

  wanted : (h : RetainHandling) → sub.wants_retained h (sub.has_filter w.filter s) ≡ true → WantsRetained h w.filter s
  wanted SendAlways e = tt
  wanted SendIfNew e = none_of s.subscriptions (off (sub.has_filter w.filter s) e)
  wanted DoNotSend e = absurd cc

  not_own : (t u v : Bool) → (not (t && u) && v) ≡ true → t ≡ true → u ≡ false
  not_own true true v e is = absurd cc
  not_own true false v e is = refl
  not_own false u v e is = absurd cc

  -- a copy that was called for, by this session
  abbrev pub IsBrought : CopyTo → Type 0
  IsBrought d = IsCalled ms d × (d.birth ≡ s.birth)

  module _ (at_hand : IsAmong granting ms) where
    one_brought : begins_share w.filter ≡ false → sub.wants_retained w.options.retain_handling (sub.has_filter w.filter s) ≡ true → (k : RetainedMessage) → IsAmong k b.records.retained → is_match w.filter k.content.topic ≡ true
        → sub.is_brought b.now s w k ≡ true → IsBrought (sub.retained_copy_to s.birth number w k)
    one_brought own wants k retained matches brought =
        let least = quality_least (min (qos_number k.qos) (qos_number w.options.qos)) in (
          inr (record {
            moment = granting;
            among = at_hand;
            who = whose s;
            its = refl;
            subscription = sub.subscription number s w;
            grants = refl;
            own = own;
            session = s;
            stands = there;
            wants = wanted w.options.retain_handling wants;
            kept = k;
            retained = retained;
            numbered = refl;
            carries = record { topic = refl; payload = refl };
            covers = record {
              matches = ap (λ (t : Bool). is_match (cond t (shared_part_of w.filter) w.filter) k.content.topic) own ∙ matches;
              foreign = λ mine local. not_own w.options.no_local (bytes_eq s.client k.sender) (not (is_expired b.now k.content)) brought local;
              published = omega (arith, least);
              granted = omega (arith, least);
            };
          }),
          refl,
        )

    found_brought : begins_share w.filter ≡ false → sub.wants_retained w.options.retain_handling (sub.has_filter w.filter s) ≡ true
        → (d : CopyTo) → IsAmong d (sub.brought_if true b.now number s w b.records.retained) → IsBrought d
    found_brought own wants d h =
        let ks = b.records.retained in
        let all = map sub.message_in (kept_for w.filter (map sub.kept_of ks)) in
        let one = image (sub.retained_copy_to s.birth number w) d (filter (sub.is_brought b.now s w) all) h in
        let passes = among_passing (sub.is_brought b.now s w) one.of all one.among in
        let kept = image sub.message_in one.of (kept_for w.filter (map sub.kept_of ks)) passes.0 in
        let matches = among_passing (λ (x : Kept RetainedMessage). is_match w.filter x.topic) kept.of (map sub.kept_of ks) kept.among in
        let first = image sub.kept_of kept.of ks matches.0 in
        let same : first.of ≡ one.of = ap sub.message_in first.is ∙ kept.is in
        let its : IsAmong one.of ks = subst (λ (x : RetainedMessage). IsAmong x ks) same first.among in
        let match : is_match w.filter one.of.content.topic ≡ true = ap (λ (x : RetainedMessage). is_match w.filter x.content.topic) (sym same) ∙ ap (λ (x : Kept RetainedMessage). is_match w.filter x.topic) first.is ∙ matches.1 in
        subst IsBrought one.is (one_brought own wants one.of its match passes.1)

    -- each copy that the filter brings was called for, by this session
    pub brought_called : AllByRecursion IsBrought (sub.brought b.now number s w b.records.retained)
    brought_called = by (begins_share w.filter) (sub.wants_retained w.options.retain_handling (sub.has_filter w.filter s)) refl refl
      where
        by : (t u : Bool) → begins_share w.filter ≡ t → sub.wants_retained w.options.retain_handling (sub.has_filter w.filter s) ≡ u → AllByRecursion IsBrought (sub.brought_if (not t && u) b.now number s w b.records.retained)
        by true u own wants = tt
        by false false own wants = tt
        by false true own wants = each_among IsBrought (sub.brought_if true b.now number s w b.records.retained) (found_brought own wants)
