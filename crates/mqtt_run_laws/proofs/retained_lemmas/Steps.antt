-- Deed by deed: what is retained for a topic is what was published last.
use Rattle.std.proofs.Common.{◌≡◌, ℕ, ◌≤◌, Bool, true, false, ◌||◌, List, [], ◌∷◌, ◌++◌, map, filter, length, Option, Some, None, refl, sym, ap, subst, ◌∙◌, inl, inr, arith}
use Rattle.std.specs.Prelude.{bytes_eq, find, is_some, nat_eq, nat_lt, option_to_list}
use Rattle.std.specs.List.{last_or}
use Rattle.std.proofs.lemmas.Bool.{cases_Bool, lt-ltb, ltb-true}
use Rattle.std.proofs.lemmas.Bool.Decides.{nat_tests}
use Rattle.std.proofs.lemmas.Slice.Eq.{bytes_eq-Decides}
use Rattle.mqtt_base.specs.declared.limits.TheConstants.{RETAINED_LIMIT}
use Rattle.mqtt_topic.specs.names.Names.{is_empty}
use Rattle.mqtt_records.specs.declared.messages.message.RetainedMessage.{RetainedMessage}
use Rattle.mqtt_records.specs.declared.state.records.Records.{Records}
use Rattle.mqtt_records.specs.lists.Order.{HasRoomFor, IsAscending, IsBelow, has_row, insert_row, put_row}
use Rattle.mqtt_records.specs.state.Records.{kept_place}
use Rattle.mqtt_records.proofs.lists_lemmas.OrderLemmas.{apart}
use Rattle.mqtt_rules.specs.step.Deeds.{Accept, At, Begin, Deed, Forget, Keep, Message, Origin, after, after_all, series, stored_after}
use Rattle.mqtt_rules.specs.step.Laws.{AreWithin, IsAmong}
use Rattle.mqtt_rules.specs.step.Packets.{is_expired}
use Rattle.mqtt_rules.specs.step.Routing.{CopyTo, accepted_copies, accepted_if, deliver, finds_place, forgets, is_topic, kept_message, next_publication, place_of_kept, publish, retain_by, retained_of}
use Rattle.mqtt_rules.specs.step.State.{Broker, Env, next_of, session_at}
use Rattle.mqtt_rules.specs.step.Tick.{is_stale}
use Rattle.mqtt_rules.proofs.step_lemmas.acts.Leads.{found_among, found_passes}
use Rattle.mqtt_rules.proofs.step_lemmas.fit.StandLaw.{Orders}
use Rattle.mqtt_rules.proofs.step_lemmas.numbers.NumberBirths.{below_next}
use Rattle.mqtt_rules.proofs.step_lemmas.order.OrderedRoom.{at_retained, begin_retained, found_place, place_is_fit}
use Rattle.mqtt_world_model.specs.model.Run.{Acceptance, accepted_by}
use Rattle.mqtt_run_laws.specs.retained.Retained.{BringsIts, IsWhatIsLeft, is_retained_for, left_by, retained_for}
use Rattle.mqtt_run_laws.proofs.retained_lemmas.Brought.{brings_its}
use Rattle.mqtt_run_laws.proofs.retained_lemmas.EachAct.{Says}
use Rattle.mqtt_run_laws.proofs.retained_lemmas.Quiet.{AreQuiet, IsQuiet, quiet_deliveries}
use Rattle.mqtt_run_laws.proofs.retained_lemmas.Tables.{AtMostOne, all_of, none_found, none_pass, put_its, put_other, same_place, take_its, take_other, the_one}

-- ---- the table

below_one : (n : ℕ) (k : RetainedMessage) (ks : List RetainedMessage) → IsAmong k ks → IsBelow kept_place n ks → nat_eq n k.place ≡ false
below_one n k [] among h = absurd among
below_one n k (x ∷ xs) among h = elim among [
  | inl it ↦ let less = h.0 in subst (λ (y : RetainedMessage). nat_eq n y.place ≡ false) it (apart n x.place (λ is. omega (arith, is, less)))
  | inr more ↦ below_one n k xs more h.1
]

-- a message goes to a new place, or to that of one with its topic: for no other topic anything is there
no_other : (test : RetainedMessage → Bool) (P : RetainedMessage → Bool) (ks : List RetainedMessage) (o : Option RetainedMessage) → find test ks ≡ o
    → IsAscending kept_place ks
    → ((k : RetainedMessage) → test k ≡ true → P k ≡ false) → (x : RetainedMessage) → IsAmong x ks → nat_eq (place_of_kept o ks) x.place ≡ true → P x ≡ false
no_other test P ks None found up apart_from x among same =
    let no : true ≡ false = sym same ∙ below_one (next_of kept_place ks) x ks among (below_next kept_place ks) in absurd cc
no_other test P ks (Some k) found up apart_from x among same =
    let it : k ≡ x = same_place k x ks up (found_among test k ks found) among (number_of k.place x.place same) in
    ap P (sym it) ∙ apart_from k (found_passes test k ks found)
  where
    number_of : (m n : ℕ) → nat_eq m n ≡ true → m ≡ n
    number_of m n is = grind (arith, nat_tests)

put_there : (row : RetainedMessage) (ks : List RetainedMessage) → HasRoomFor kept_place RETAINED_LIMIT row.place ks
    → put_row kept_place RETAINED_LIMIT row ks ≡ insert_row kept_place row ks
put_there row ks room = rw room refl

room_more : (x : Bool) (n l m : ℕ) → l ≤ m → (x || nat_lt n l) ≡ true → (x || nat_lt n m) ≡ true
room_more true n l m le e = refl
room_more false n l m le e = let less = ltb-true n l e in lt-ltb n m (omega (arith, less, le))

-- a deed that is quiet leaves the table
table : (d : Deed) → IsQuiet d → (r : Records) → (stored_after d r).retained ≡ r.retained
table (Accept number origin m) q r = absurd q
table (Keep kept) q r = absurd q
table (Forget place) q r = absurd q
table (Begin row will) q r = begin_retained row will r
table (At who part) q r = at_retained part r (session_at who.birth r)
table d q r = refl

-- and accepts nothing
accepts_none : (env : Env) (d : Deed) (b : Broker) → IsQuiet d → accepted_by env d b ≡ None
accepts_none env (Accept number origin m) b q = absurd q
accepts_none env d b q = refl

was_found : (t : Bool) (o : Option (List CopyTo)) (ds : List CopyTo) → accepted_if t o ≡ Some ds → t ≡ true
was_found true o ds is = refl
was_found false o ds is = absurd cc

-- one at most is left
pub at_most_one : (o : Option RetainedMessage) (now : ℕ) (ks : List RetainedMessage) → IsWhatIsLeft o now ks → AtMostOne ks
at_most_one None now ks h = inl h
at_most_one (Some last) now [] h = inl refl
at_most_one (Some last) now (k ∷ []) h = inr (k, refl)
at_most_one (Some last) now (k ∷ j ∷ ks) h = absurd h

-- one that has expired may go
gone : (o : Option RetainedMessage) (now : ℕ) (k : RetainedMessage) → is_expired now k.content ≡ true → IsWhatIsLeft o now (k ∷ []) → IsWhatIsLeft o now []
gone None now k past h = refl
gone (Some last) now k past h = subst (λ (y : RetainedMessage). is_expired now y.content ≡ true) h past

module _ (topic : List ℕ) (before : Option RetainedMessage) where
  -- what is retained is what the last publication left
  abbrev pub Holds : Option Acceptance → Broker → Type 0
  Holds last b = IsWhatIsLeft (left_by before last) b.now (retained_for topic b.records)

  -- the last publication behind some more
  abbrev pub last_in : Option Acceptance → List Acceptance → Option Acceptance
  last_in last xs = last_or last (filter (is_retained_for topic) xs)

  -- each subscription among these deeds brings what is due, and at their end it holds
  abbrev pub Goes : Env → Option Acceptance → List Deed → Broker → Type 0
  Goes env last [] b = Holds last b
  Goes env last (d ∷ ds) b = BringsIts topic (left_by before last) d b × Goes env (last_in last (option_to_list (accepted_by env d b))) ds (after d b)

  -- of deeds, from wherever it holds
  abbrev pub Keeps : Env → List Deed → Broker → Type 0
  Keeps env ds b = (last : Option Acceptance) → Holds last b → Goes env last ds b

  goes_on : (env : Env) (last : Option Acceptance) (xs ys : List Deed) (b : Broker) → Goes env last xs b → Keeps env ys (after_all xs b)
      → Goes env last (xs ++ ys) b
  goes_on env last [] ys b g h = h last g
  goes_on env last (x ∷ xs) ys b g h = (g.0, goes_on env (last_in last (option_to_list (accepted_by env x b))) xs ys (after x b) g.1 h)

  -- ---- deeds that are quiet

  quietly : (env : Env) (ds : List Deed) (b : Broker) → AreQuiet ds → Keeps env ds b
  quietly env [] b q last h = h
  quietly env (d ∷ ds) b q last h =
      let holds : Holds last (after d b) =
      subst (λ (ks : List RetainedMessage). IsWhatIsLeft (left_by before last) b.now (filter (is_topic topic) ks)) (sym (table d q.0 b.records)) h in
      let rest : Goes env last ds (after d b) = quietly env ds (after d b) q.1 last holds in (
        brings_its topic (left_by before last) d b h,
        subst (λ (o : Option Acceptance). Goes env (last_in last (option_to_list o)) ds (after d b)) (sym (accepts_none env d b q.0)) rest,
      )

  -- ---- a publication

  module _ (env : Env) (within : AreWithin env.limits) (number : ℕ) (m : Message) (b : Broker) (up : IsAscending kept_place b.records.retained) where
    abbrev its : Acceptance
    its = record { number = number; message = m; env = env; broker = b }

    abbrev now_last : Option Acceptance → Option Acceptance
    now_last last = last_in last (its ∷ [])

    abbrev kept : RetainedMessage
    kept = kept_message number b.now m (place_of_kept (retained_of m.topic b.records) b.records.retained)

    -- it is of another topic, or not to be retained
    stays_last : (last : Option Acceptance) → is_retained_for topic its ≡ false → now_last last ≡ last
    stays_last last other = rw other refl

    becomes_last : (last : Option Acceptance) → is_retained_for topic its ≡ true → now_last last ≡ Some its
    becomes_last last is = rw is refl

    same_topic : bytes_eq m.topic topic ≡ true → m.topic ≡ topic
    same_topic is = (bytes_eq-Decides m.topic topic).0 is

    another_topic : bytes_eq m.topic topic ≡ false → (k : RetainedMessage) → is_topic m.topic k ≡ true → is_topic topic k ≡ false
    another_topic other k is = subst (λ (t : List ℕ). bytes_eq t topic ≡ false) (sym ((bytes_eq-Decides k.content.topic m.topic).0 is)) other

    -- where a message goes there is room
    room : m.retain ≡ true → is_empty m.payload ≡ false → finds_place env m b.records ≡ true
        → HasRoomFor kept_place RETAINED_LIMIT kept.place b.records.retained
    room is full found =
        let r = b.records in
        let o = retained_of m.topic r in
        let fits = found_place m.retain (is_empty m.payload) (is_some o || nat_lt (length r.retained) env.limits.retained) is full found in
        room_more (has_row kept_place kept.place r.retained) (length r.retained) env.limits.retained RETAINED_LIMIT within.retained
        (place_is_fit env m number b.now r o refl fits)

    abbrev Left : Option Acceptance → List RetainedMessage → Type 0
    Left last ks = IsWhatIsLeft (left_by before last) b.now (filter (is_topic topic) ks)

    -- a message is kept
    keeps_it : (last : Option Acceptance) → Left last b.records.retained → is_empty m.payload ≡ false → is_topic topic kept ≡ true
        → Left (Some its) (insert_row kept_place kept b.records.retained)
    keeps_it last h full is =
        let ks = b.records.retained in
        let same : m.topic ≡ topic = same_topic is in
        let one : AtMostOne (filter (is_topic topic) ks) = at_most_one (left_by before last) b.now (filter (is_topic topic) ks) h in
        let found : find (is_topic topic) ks ≡ retained_of m.topic b.records = ap (λ (t : List ℕ). find (is_topic t) ks) (sym same) in
        let alone : filter (is_topic topic) (insert_row kept_place kept ks) ≡ kept ∷ [] =
        put_its (is_topic topic) kept ks (retained_of m.topic b.records) found up one refl is in
        let left : IsWhatIsLeft (left_by before (Some its)) b.now (kept ∷ []) = rw full refl in
        subst (λ (xs : List RetainedMessage). IsWhatIsLeft (left_by before (Some its)) b.now xs) (sym alone) left

    keeps_other : (last : Option Acceptance) → Left last b.records.retained → is_topic topic kept ≡ false
        → Left last (insert_row kept_place kept b.records.retained)
    keeps_other last h other =
        let ks = b.records.retained in
        let none = all_of (λ (x : RetainedMessage). nat_eq kept.place x.place ≡ true → is_topic topic x ≡ false) ks
        (no_other (is_topic m.topic) (is_topic topic) ks (retained_of m.topic b.records) refl up (another_topic other)) in
        subst (λ (xs : List RetainedMessage). IsWhatIsLeft (left_by before last) b.now xs) (sym (put_other (is_topic topic) kept ks other none)) h

    topic_found : (o : Option RetainedMessage) → bytes_eq m.topic topic ≡ true → retained_of m.topic b.records ≡ o
        → find (is_topic topic) b.records.retained ≡ o
    topic_found o is found = subst (λ (t : List ℕ). find (is_topic t) b.records.retained ≡ o) (same_topic is) found

    -- an empty one takes away what there is
    takes_it : (origin : Origin) (o : Option RetainedMessage) → find (is_topic topic) b.records.retained ≡ o → is_empty m.payload ≡ true
        → AtMostOne (filter (is_topic topic) b.records.retained) → Goes env (Some its) (forgets o) (after (Accept number origin m) b)
    takes_it origin None found empty one =
        let none = none_pass (is_topic topic) b.records.retained (none_found (is_topic topic) b.records.retained found) in
        rw empty none
    takes_it origin (Some k) found empty one =
        let ks = b.records.retained in
        let alone = the_one (is_topic topic) k ks one (found_among (is_topic topic) k ks found) (found_passes (is_topic topic) k ks found) in
        let none = take_its (is_topic topic) k ks alone in
        (tt, rw empty none)

    takes_other : (origin : Origin) (last : Option Acceptance) (o : Option RetainedMessage) → retained_of m.topic b.records ≡ o → bytes_eq m.topic topic ≡ false
        → Left last b.records.retained → Goes env last (forgets o) (after (Accept number origin m) b)
    takes_other origin last None found other h = h
    takes_other origin last (Some k) found other h =
        let ks = b.records.retained in
        let one = at_most_one (left_by before last) b.now (filter (is_topic topic) ks) h in
        let fails = another_topic other k (found_passes (is_topic m.topic) k ks found) in
        let same = take_other (is_topic topic) k ks up (found_among (is_topic m.topic) k ks found) fails one in
        (tt, subst (λ (xs : List RetainedMessage). IsWhatIsLeft (left_by before last) b.now xs) (sym same) h)

    -- what RETAIN does
    retains : (origin : Origin) (t e : Bool) (last : Option Acceptance) → m.retain ≡ t → is_empty m.payload ≡ e → finds_place env m b.records ≡ true
        → Left last b.records.retained
        → Goes env (now_last last) (retain_by t e number m (after (Accept number origin m) b)) (after (Accept number origin m) b)
    retains origin false e last is empty found h =
        let other : is_retained_for topic its ≡ false = rw is refl in
        subst (λ (o : Option Acceptance). Left o b.records.retained) (sym (stays_last last other)) h
    retains origin true true last is empty found h =
        let c = after (Accept number origin m) b in
        let o = retained_of m.topic b.records in
        elim (cases_Bool (bytes_eq m.topic topic)) [
          | inl same ↦
              let its_own : is_retained_for topic its ≡ true = rw (is, same) refl in
              let one = at_most_one (left_by before last) b.now (filter (is_topic topic) b.records.retained) h in
              subst (λ (x : Option Acceptance). Goes env x (forgets o) c) (sym (becomes_last last its_own))
              (takes_it origin o (topic_found o same refl) empty one)
          | inr other ↦
              let not_its : is_retained_for topic its ≡ false = rw (is, other) refl in
              subst (λ (x : Option Acceptance). Goes env x (forgets o) c) (sym (stays_last last not_its)) (takes_other origin last o refl other h)
        ]
    retains origin true false last is full found h =
        let ks = b.records.retained in
        let there : put_row kept_place RETAINED_LIMIT kept ks ≡ insert_row kept_place kept ks = put_there kept ks (room is full found) in
        elim (cases_Bool (bytes_eq m.topic topic)) [
          | inl same ↦
              let its_own : is_retained_for topic its ≡ true = rw (is, same) refl in
              let left = subst (λ (xs : List RetainedMessage). Left (Some its) xs) (sym there) (keeps_it last h full same) in
              subst (λ (x : Option Acceptance). Goes env x (Keep kept ∷ []) (after (Accept number origin m) b)) (sym (becomes_last last its_own)) (tt, left)
          | inr other ↦
              let not_its : is_retained_for topic its ≡ false = rw (is, other) refl in
              let left = subst (λ (xs : List RetainedMessage). Left last xs) (sym there) (keeps_other last h other) in
              subst (λ (x : Option Acceptance). Goes env x (Keep kept ∷ []) (after (Accept number origin m) b)) (sym (stays_last last not_its)) (tt, left)
        ]

  module _ (env : Env) (within : AreWithin env.limits) where
    publishes : (origin : Origin) (m : Message) (ds : List CopyTo) (b : Broker) → Orders b → accepted_copies env m b ≡ Some ds
        → Keeps env (publish env origin m ds b) b
    publishes origin m ds b orders is last h =
        let number = next_publication b.records in
        let c = after (Accept number origin m) b in
        let next = retain_by m.retain (is_empty m.payload) number m c in
        let all = series (map (deliver env) ds) (after_all next c) in
        let found : finds_place env m b.records ≡ true = was_found (finds_place env m b.records) _ ds is in
        let a : Acceptance = record { number = number; message = m; env = env; broker = b } in (
          tt,
          goes_on env (last_in last (a ∷ [])) next all c
              (retains env within number m b orders.retained.ascending origin m.retain (is_empty m.payload) last refl refl found h)
              (quietly env all (after_all next c) (quiet_deliveries env ds (after_all next c))),
        )

    -- ---- a message that has expired goes

    expires : (k : RetainedMessage) (b : Broker) → Orders b → IsAmong k b.records.retained → is_stale b.now k ≡ true → Keeps env (Forget k.place ∷ []) b
    expires k b orders among past last h =
        let ks = b.records.retained in
        let left = left_by before last in
        let one = at_most_one left b.now (filter (is_topic topic) ks) h in
        elim (cases_Bool (is_topic topic k)) [
          | inl its ↦
              let alone = the_one (is_topic topic) k ks one among its in
              let goes : IsWhatIsLeft left b.now [] = gone left b.now k past (subst (λ (xs : List RetainedMessage). IsWhatIsLeft left b.now xs) alone h) in
              (tt, subst (λ (xs : List RetainedMessage). IsWhatIsLeft left b.now xs) (sym (take_its (is_topic topic) k ks alone)) goes)
          | inr other ↦
              let same = take_other (is_topic topic) k ks orders.retained.ascending among other one in
              (tt, subst (λ (xs : List RetainedMessage). IsWhatIsLeft left b.now xs) (sym same) h)
        ]

    -- so it is said of every act
    pub kept_by_all : Says env (Keeps env)
    kept_by_all = record { quiet = quietly env; next = λ xs ys b p q last h. goes_on env last xs ys b (p last h) q; publish = publishes; stale = expires }
