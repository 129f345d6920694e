-- Lemmas on sessions by birth, as a map has them (MQTT 5.0, 3.8, 3.10).
use Rattle.std.proofs.Common.{◌≡◌, ℕ, zero, suc, ◌<◌, ◌≤◌, ◌+◌, Bool, true, false, cond, List, [], ◌∷◌, ◌++◌, length, drop, insert, slice_index_or, slice_get, refl, sym, ap, subst, ◌∙◌, ⊎_elim, eqb-true, nat_lt, nat_eq, Some, None, arith}
use Rattle.std.proofs.lemmas.Bool.{cases_lt}
use Rattle.std.proofs.lemmas.List.{length-map}
use Rattle.std.proofs.lemmas.Bool.Decides.{nat_tests}
use Rattle.std.specs.List.{position_or_len}
use Rattle.std.specs.List.Sorted.{IsPartitionedBy, IsPartitionPoint}
use Rattle.std.specs.Map.{keys_of, lookup, set_value, remove_entry}
use Rattle.indexmap.specs.IndexMap.{insert_entry, move_index}
use Rattle.indexmap.proofs.MapLemmas.{insert_entry-absent, absent_from_lookup}
use Rattle.indexmap.proofs.MoveLemmas.{push_moved}
use Rattle.mqtt_routes.specs.declared.routing.subscription.Subscription.{Subscription}
use Rattle.mqtt_routes.specs.routing.Subscriptions.{Subscriber, Held, subscriber, subscribers, AreAfter, AreInOrder, spot_of, subs_of, with_subs, without, unsubscribed, without_session}

abbrev pub Entries : Type 0
Entries = List (ℕ × Held)

-- ---- births rise

-- sessions born after another were born after those before it
pub after_later : (b c : ℕ) (xs : List Subscriber) → b < c → AreAfter c xs → AreAfter b xs
after_later b c [] l h = tt
after_later b c (x ∷ xs) l h = (omega (arith, l, h.0), after_later b c xs l h.1)

-- sessions born after one birth were born after an equal one
pub after_same : (b c : ℕ) (xs : List Subscriber) → c ≡ b → AreAfter c xs → AreAfter b xs
after_same b c [] e h = tt
after_same b c (x ∷ xs) e h = (omega (arith, e, h.0), after_same b c xs e h.1)

after-with_subs_by : (lt eq : Bool) (c b : ℕ) (subs : List Subscription) (x : Subscriber) (xs : List Subscriber) → c < b → AreAfter c (x ∷ xs) → AreAfter c (with_subs b subs xs) → AreAfter c (cond lt (x ∷ with_subs b subs xs) (cond eq (subscriber b subs ∷ xs) (subscriber b subs ∷ x ∷ xs)))
after-with_subs_by true eq c b subs x xs l h more = (h.0, more)
after-with_subs_by false true c b subs x xs l h more = (l, h.1)
after-with_subs_by false false c b subs x xs l h more = (l, h)

after-with_subs : (c b : ℕ) (subs : List Subscription) (xs : List Subscriber) → c < b → AreAfter c xs → AreAfter c (with_subs b subs xs)
after-with_subs c b subs [] l h = (l, tt)
after-with_subs c b subs (x ∷ xs) l h = after-with_subs_by (nat_lt x.birth b) (nat_eq x.birth b) c b subs x xs l h (after-with_subs c b subs xs l h.1)

order-with_subs_by : (lt eq : Bool) (b : ℕ) (subs : List Subscription) (x : Subscriber) (xs : List Subscriber) → nat_lt x.birth b ≡ lt → nat_eq x.birth b ≡ eq → AreInOrder (x ∷ xs) → AreInOrder (with_subs b subs xs)
    → AreInOrder (cond lt (x ∷ with_subs b subs xs) (cond eq (subscriber b subs ∷ xs) (subscriber b subs ∷ x ∷ xs)))
order-with_subs_by true eq b subs x xs l e h more = let below : x.birth < b = grind (arith, nat_tests) in (after-with_subs x.birth b subs xs below h.0, more)
order-with_subs_by false true b subs x xs l e h more = (subst (λ c. AreAfter c xs) (eqb-true x.birth b e) h.0, h.1)
order-with_subs_by false false b subs x xs l e h more = let above : b < x.birth = grind (arith, nat_tests) in ((above, after_later b x.birth xs above h.0), h)

-- sessions stay in order whatever one subscribes to
pub order-with_subs : (b : ℕ) (subs : List Subscription) (xs : List Subscriber) → AreInOrder xs → AreInOrder (with_subs b subs xs)
order-with_subs b subs [] h = (tt, tt)
order-with_subs b subs (x ∷ xs) h = order-with_subs_by (nat_lt x.birth b) (nat_eq x.birth b) b subs x xs refl refl h (order-with_subs b subs xs h.1)

after-unsubscribed_by : (lt eq : Bool) (c b : ℕ) (text : List ℕ) (x : Subscriber) (xs : List Subscriber) → nat_eq x.birth b ≡ eq → AreAfter c (x ∷ xs) → AreAfter c (unsubscribed b text xs) → AreAfter c (cond lt (x ∷ unsubscribed b text xs) (cond eq (subscriber b (without text x.subs) ∷ xs) (x ∷ xs)))
after-unsubscribed_by true eq c b text x xs e h more = (h.0, more)
after-unsubscribed_by false true c b text x xs e h more = (subst (λ n. c < n) (eqb-true x.birth b e) h.0, h.1)
after-unsubscribed_by false false c b text x xs e h more = h

after-unsubscribed : (c b : ℕ) (text : List ℕ) (xs : List Subscriber) → AreAfter c xs → AreAfter c (unsubscribed b text xs)
after-unsubscribed c b text [] h = tt
after-unsubscribed c b text (x ∷ xs) h = after-unsubscribed_by (nat_lt x.birth b) (nat_eq x.birth b) c b text x xs refl h (after-unsubscribed c b text xs h.1)

order-unsubscribed_by : (lt eq : Bool) (b : ℕ) (text : List ℕ) (x : Subscriber) (xs : List Subscriber) → nat_eq x.birth b ≡ eq → AreInOrder (x ∷ xs) → AreInOrder (unsubscribed b text xs) → AreInOrder (cond lt (x ∷ unsubscribed b text xs) (cond eq (subscriber b (without text x.subs) ∷ xs) (x ∷ xs)))
order-unsubscribed_by true eq b text x xs e h more = (after-unsubscribed x.birth b text xs h.0, more)
order-unsubscribed_by false true b text x xs e h more = (subst (λ c. AreAfter c xs) (eqb-true x.birth b e) h.0, h.1)
order-unsubscribed_by false false b text x xs e h more = h

-- sessions stay in order whatever one unsubscribes from
pub order-unsubscribed : (b : ℕ) (text : List ℕ) (xs : List Subscriber) → AreInOrder xs → AreInOrder (unsubscribed b text xs)
order-unsubscribed b text [] h = tt
order-unsubscribed b text (x ∷ xs) h = order-unsubscribed_by (nat_lt x.birth b) (nat_eq x.birth b) b text x xs refl h (order-unsubscribed b text xs h.1)

after-without_by : (lt eq : Bool) (c b : ℕ) (x : Subscriber) (xs : List Subscriber) → AreAfter c (x ∷ xs) → AreAfter c (without_session b xs) → AreAfter c (cond lt (x ∷ without_session b xs) (cond eq xs (x ∷ xs)))
after-without_by true eq c b x xs h more = (h.0, more)
after-without_by false true c b x xs h more = h.1
after-without_by false false c b x xs h more = h

after-without : (c b : ℕ) (xs : List Subscriber) → AreAfter c xs → AreAfter c (without_session b xs)
after-without c b [] h = tt
after-without c b (x ∷ xs) h = after-without_by (nat_lt x.birth b) (nat_eq x.birth b) c b x xs h (after-without c b xs h.1)

order-without_by : (lt eq : Bool) (b : ℕ) (x : Subscriber) (xs : List Subscriber) → AreInOrder (x ∷ xs) → AreInOrder (without_session b xs) → AreInOrder (cond lt (x ∷ without_session b xs) (cond eq xs (x ∷ xs)))
order-without_by true eq b x xs h more = (after-without x.birth b xs h.0, more)
order-without_by false true b x xs h more = h.1
order-without_by false false b x xs h more = h

-- sessions stay in order without one of them
pub order-without_session : (b : ℕ) (xs : List Subscriber) → AreInOrder xs → AreInOrder (without_session b xs)
order-without_session b [] h = tt
order-without_session b (x ∷ xs) h = order-without_by (nat_lt x.birth b) (nat_eq x.birth b) b x xs h (order-without_session b xs h.1)

-- ---- what the map finds

-- a birth is before, at or after the one that is looked for
pub split : {P : Type 0} (k b : ℕ) → (k < b → P) → (k ≡ b → P) → (b < k → P) → P
split k b before here after = ⊎_elim before (λ from. ⊎_elim after (λ to. here (omega arith)) (cases_lt b k)) (cases_lt k b)

-- a lower birth compares as lower
pub lt-yes : (k b : ℕ) → k < b → nat_lt k b ≡ true
lt-yes k b l = grind (arith, nat_tests)

-- one that isn't lower doesn't
pub lt-no : (k b : ℕ) → b ≤ k → nat_lt k b ≡ false
lt-no k b l = grind (arith, nat_tests)

-- equal births compare as equal
pub eq-yes : (k b : ℕ) → k ≡ b → nat_eq k b ≡ true
eq-yes k b e = grind (arith, nat_tests)

-- a lower birth doesn't compare as equal
pub eq-below : (k b : ℕ) → k < b → nat_eq k b ≡ false
eq-below k b l = grind (arith, nat_tests)

-- a higher birth doesn't compare as equal
pub eq-above : (k b : ℕ) → b < k → nat_eq k b ≡ false
eq-above k b l = grind (arith, nat_tests)

-- no session before the first is there
lookup-after : (b : ℕ) (es : Entries) → AreAfter b (subscribers es) → lookup (nat_eq b) es ≡ None
lookup-after b [] h = refl
lookup-after b (e ∷ es) h = rw (eq-below b e.0 h.0) (lookup-after b es h.1)

remove_entry-after : (b : ℕ) (es : Entries) → AreAfter b (subscribers es) → remove_entry (nat_eq b) es ≡ es
remove_entry-after b [] h = refl
remove_entry-after b (e ∷ es) h = rw (eq-below b e.0 h.0) (ap (λ (xs : Entries). e ∷ xs) (remove_entry-after b es h.1))

module _ (b : ℕ) where
  -- ---- a session that is there

  module _ (old : Held) where
    not_after : (e : ℕ × Held) (es : Entries) → AreInOrder (subscribers (e ∷ es)) → Some old ≡ lookup (nat_eq b) (e ∷ es) → b < e.0 → ⊥
    not_after e es o h l = let none : Some old ≡ None = h ∙ lookup-after b (e ∷ es) (l, after_later b e.0 (subscribers es) l o.0) in cc

    later : (e : ℕ × Held) (es : Entries) → Some old ≡ lookup (nat_eq b) (e ∷ es) → e.0 < b → Some old ≡ lookup (nat_eq b) es
    later e es h l = h ∙ ap (λ t. cond t (Some e.1) (lookup (nat_eq b) es)) (eq-above b e.0 l)

    same : (e : ℕ × Held) (es : Entries) → Some old ≡ lookup (nat_eq b) (e ∷ es) → e.0 ≡ b → old ≡ e.1
    same e es h s = let is : Some old ≡ Some e.1 = h ∙ ap (λ t. cond t (Some e.1) (lookup (nat_eq b) es)) (eq-yes b e.0 (sym s)) in cc

    -- the entry that the map finds has the session's subscriptions
    pub subs_of-found : (es : Entries) → AreInOrder (subscribers es) → Some old ≡ lookup (nat_eq b) es → subs_of b (subscribers es) ≡ old.subs
    subs_of-found [] o h = cc
    subs_of-found (e ∷ es) o h = split e.0 b
        (λ l. rw (lt-yes e.0 b l) (subs_of-found es o.1 (later e es h l)))
        (λ s. rw (lt-no e.0 b (omega (arith, s)), eq-yes e.0 b s) (ap (λ (h : Held). h.subs) (sym (same e es h s))))
        (λ l. absurd (not_after e es o h l))

    -- to set the entry that the map finds is to give the session other subscriptions
    pub with_subs-found : (w : Held) (es : Entries) → AreInOrder (subscribers es) → Some old ≡ lookup (nat_eq b) es → subscribers (set_value (nat_eq b) es w) ≡ with_subs b w.subs (subscribers es)
    with_subs-found w [] o h = cc
    with_subs-found w (e ∷ es) o h = split e.0 b
        (λ l. rw (lt-yes e.0 b l, eq-above b e.0 l) (ap (λ (xs : List Subscriber). subscriber e.0 e.1.subs ∷ xs) (with_subs-found w es o.1 (later e es h l))))
        (λ s. rw (lt-no e.0 b (omega (arith, s)), eq-yes e.0 b s, eq-yes b e.0 (sym s)) (ap (λ n. subscriber n w.subs ∷ subscribers es) s))
        (λ l. absurd (not_after e es o h l))

    same_by : (t : Bool) (e : ℕ × Held) (es : Entries) → Some old ≡ cond t (Some e.1) (lookup (nat_eq b) es) → (Some old ≡ lookup (nat_eq b) es → set_value (nat_eq b) es old ≡ es) → cond t ((e.0, old) ∷ es) (e ∷ set_value (nat_eq b) es old) ≡ e ∷ es
    same_by true e es h more = let is : old ≡ e.1 = cc in ap (λ (x : Held). (e.0, x) ∷ es) is
    same_by false e es h more = ap (λ (xs : Entries). e ∷ xs) (more h)

    -- to set the entry that the map finds as it was changes nothing
    pub set_value-same : (es : Entries) → Some old ≡ lookup (nat_eq b) es → set_value (nat_eq b) es old ≡ es
    set_value-same [] h = refl
    set_value-same (e ∷ es) h = same_by (nat_eq b e.0) e es h (set_value-same es)

    held_by : (t : Bool) (w : Held) (e : ℕ × Held) (es : Entries) → w.subs ≡ old.subs → Some old ≡ cond t (Some e.1) (lookup (nat_eq b) es)
        → (Some old ≡ lookup (nat_eq b) es → subscribers (set_value (nat_eq b) es w) ≡ subscribers es) → subscribers (cond t ((e.0, w) ∷ es) (e ∷ set_value (nat_eq b) es w)) ≡ subscribers (e ∷ es)
    held_by true w e es kept h more = let is : old ≡ e.1 = cc in ap (λ subs. subscriber e.0 subs ∷ subscribers es) (kept ∙ ap (λ (x : Held). x.subs) is)
    held_by false w e es kept h more = ap (λ (xs : List Subscriber). subscriber e.0 e.1.subs ∷ xs) (more h)

    -- a session whose subscriptions stay
    pub set_value-held : (w : Held) (es : Entries) → w.subs ≡ old.subs → Some old ≡ lookup (nat_eq b) es → subscribers (set_value (nat_eq b) es w) ≡ subscribers es
    set_value-held w [] kept h = refl
    set_value-held w (e ∷ es) kept h = held_by (nat_eq b e.0) w e es kept h (set_value-held w es kept)

    -- to set the entry without a filter is to take the session's subscription to it away
    pub unsubscribed-found : (text : List ℕ) (w : Held) (es : Entries) → w.subs ≡ without text old.subs → AreInOrder (subscribers es) → Some old ≡ lookup (nat_eq b) es → subscribers (set_value (nat_eq b) es w) ≡ unsubscribed b text (subscribers es)
    unsubscribed-found text w [] made o h = cc
    unsubscribed-found text w (e ∷ es) made o h = split e.0 b
        (λ l. rw (lt-yes e.0 b l, eq-above b e.0 l) (ap (λ (xs : List Subscriber). subscriber e.0 e.1.subs ∷ xs) (unsubscribed-found text w es made o.1 (later e es h l))))
        (λ s. rw (lt-no e.0 b (omega (arith, s)), eq-yes e.0 b s, eq-yes b e.0 (sym s)) (ap (λ n. subscriber n w.subs ∷ subscribers es) s ∙ ap (λ x. subscriber b x ∷ subscribers es) (made ∙ ap (λ (h : Held). without text h.subs) (same e es h s))))
        (λ l. absurd (not_after e es o h l))

  -- to remove a session's entry from the map is to take the session away
  pub without_session-remove_entry : (es : Entries) → AreInOrder (subscribers es) → subscribers (remove_entry (nat_eq b) es) ≡ without_session b (subscribers es)
  without_session-remove_entry [] o = refl
  without_session-remove_entry (e ∷ es) o = split e.0 b
      (λ l. rw (lt-yes e.0 b l, eq-above b e.0 l) (ap (λ (xs : List Subscriber). subscriber e.0 e.1.subs ∷ xs) (without_session-remove_entry es o.1)))
      (λ s. rw (lt-no e.0 b (omega (arith, s)), eq-yes e.0 b s, eq-yes b e.0 (sym s)) refl)
      (λ l. rw (lt-no e.0 b (omega (arith, l)), eq-above e.0 b l, eq-below b e.0 l) (ap (λ (xs : Entries). subscriber e.0 e.1.subs ∷ subscribers xs) (remove_entry-after b es (after_later b e.0 (subscribers es) l o.0))))

  -- ---- a session that isn't there

  not_here : (e : ℕ × Held) (es : Entries) → lookup (nat_eq b) (e ∷ es) ≡ None → e.0 ≡ b → ⊥
  not_here e es h s = let is : Some e.1 ≡ None = sym (ap (λ t. cond t (Some e.1) (lookup (nat_eq b) es)) (eq-yes b e.0 (sym s))) ∙ h in cc

  none_later : (e : ℕ × Held) (es : Entries) → lookup (nat_eq b) (e ∷ es) ≡ None → e.0 < b → lookup (nat_eq b) es ≡ None
  none_later e es h l = sym (ap (λ t. cond t (Some e.1) (lookup (nat_eq b) es)) (eq-above b e.0 l)) ∙ h

  -- a session that the map doesn't find has no subscriptions
  pub subs_of-none : (es : Entries) → lookup (nat_eq b) es ≡ None → subs_of b (subscribers es) ≡ []
  subs_of-none [] h = refl
  subs_of-none (e ∷ es) h = split e.0 b
      (λ l. rw (lt-yes e.0 b l) (subs_of-none es (none_later e es h l)))
      (λ s. absurd (not_here e es h s))
      (λ l. rw (lt-no e.0 b (omega (arith, l)), eq-above e.0 b l) refl)

  -- a session that the map doesn't find loses none
  pub unsubscribed-none : (text : List ℕ) (es : Entries) → lookup (nat_eq b) es ≡ None → unsubscribed b text (subscribers es) ≡ subscribers es
  unsubscribed-none text [] h = refl
  unsubscribed-none text (e ∷ es) h = split e.0 b
      (λ l. rw (lt-yes e.0 b l) (ap (λ (xs : List Subscriber). subscriber e.0 e.1.subs ∷ xs) (unsubscribed-none text es (none_later e es h l))))
      (λ s. absurd (not_here e es h s))
      (λ l. rw (lt-no e.0 b (omega (arith, l)), eq-above e.0 b l) refl)

  insert-none : (w : Held) (es : Entries) → lookup (nat_eq b) es ≡ None → insert (subscribers es) (spot_of b (subscribers es)) (subscriber b w.subs) ≡ with_subs b w.subs (subscribers es)
  insert-none w [] h = refl
  insert-none w (e ∷ es) h = split e.0 b
      (λ l. rw (lt-yes e.0 b l) (ap (λ (xs : List Subscriber). subscriber e.0 e.1.subs ∷ xs) (insert-none w es (none_later e es h l))))
      (λ s. absurd (not_here e es h s))
      (λ l. rw (lt-no e.0 b (omega (arith, l)), eq-above e.0 b l) refl)

  last-none : (es : Entries) → lookup (nat_eq b) es ≡ None → position_or_len (nat_eq b) (keys_of es) ≡ length es
  last-none [] h = refl
  last-none (e ∷ es) h = split e.0 b
      (λ l. rw (eq-above b e.0 l) (let more = last-none es (none_later e es h l) in omega (arith, more)))
      (λ s. absurd (not_here e es h s))
      (λ l. rw (eq-below b e.0 l) (let more = last-none es (sym (ap (λ t. cond t (Some e.1) (lookup (nat_eq b) es)) (eq-below b e.0 l)) ∙ h) in omega (arith, more)))

  -- a session's place is one of the map, or the one behind all
  pub spot_of-most : (es : Entries) → spot_of b (subscribers es) ≤ length es
  spot_of-most [] = omega arith
  spot_of-most (e ∷ es) = split e.0 b
      (λ l. rw (lt-yes e.0 b l) (let more = spot_of-most es in omega (arith, more)))
      (λ s. rw (lt-no e.0 b (omega (arith, s))) (omega arith))
      (λ l. rw (lt-no e.0 b (omega (arith, l))) (omega arith))

  insert-subscribers : (w : Held) (i : ℕ) (es : Entries) → subscribers (insert es i (b, w)) ≡ insert (subscribers es) i (subscriber b w.subs)
  insert-subscribers w zero [] = refl
  insert-subscribers w (suc i) [] = refl
  insert-subscribers w zero (e ∷ es) = refl
  insert-subscribers w (suc i) (e ∷ es) = ap (λ (xs : List Subscriber). subscriber e.0 e.1.subs ∷ xs) (insert-subscribers w i es)

  -- a new session is put at its place
  pub with_subs-new : (w : Held) (i : ℕ) (es : Entries) → i ≡ spot_of b (subscribers es) → lookup (nat_eq b) es ≡ None
      → subscribers (move_index (insert_entry nat_eq es b w) (position_or_len (nat_eq b) (keys_of es)) i) ≡ with_subs b w.subs (subscribers es)
  with_subs-new w i es is none =
      let within : i ≤ length es = omega (arith, is, spot_of-most es) in
      ap (λ (xs : Entries). subscribers (move_index xs (position_or_len (nat_eq b) (keys_of es)) i)) (insert_entry-absent nat_eq b w es (absent_from_lookup (nat_eq b) es none))
      ∙ ap (λ n. subscribers (move_index (es ++ (b, w) ∷ []) n i)) (last-none es none)
      ∙ ap subscribers (push_moved es (b, w) i within)
      ∙ insert-subscribers w i es
      ∙ ap (λ n. insert (subscribers es) n (subscriber b w.subs)) is
      ∙ insert-none w es none

-- ---- the place of a birth

first_before : (b c : ℕ) (es : Entries) → AreAfter c (subscribers es) → (j d : ℕ) → j < length es → nat_lt (slice_index_or (keys_of es) j d) b ≡ true → nat_lt c b ≡ true
first_before b c [] h j d lt t = absurd (omega (arith, lt))
first_before b c (e ∷ es) h zero d lt t = let before : e.0 < b = grind (arith, nat_tests) in lt-yes c b (omega (arith, before, h.0))
first_before b c (e ∷ es) h (suc j) d lt t = first_before b c es h.1 j d (omega (arith, lt)) t

-- births that rise can be searched by halves
pub partitioned : (b : ℕ) (es : Entries) → AreInOrder (subscribers es) → IsPartitionedBy (λ k. nat_lt k b) (keys_of es)
partitioned b [] o i j d le lt h = absurd (omega (arith, lt))
partitioned b (e ∷ es) o zero zero d le lt h = h
partitioned b (e ∷ es) o zero (suc j) d le lt h = first_before b e.0 es o.0 j d (omega (arith, lt, length-map es (λ (q : ℕ × Held). q.0))) h
partitioned b (e ∷ es) o (suc i) zero d le lt h = absurd (omega (arith, le))
partitioned b (e ∷ es) o (suc i) (suc j) d le lt h = partitioned b es o.1 i j d (omega (arith, le)) (omega (arith, lt)) h

-- the point that the search finds is the place
pub spot_of-point : (b i : ℕ) (es : Entries) → i ≤ length es → IsPartitionPoint (λ k. nat_lt k b ≡ true) (λ k. nat_lt k b ≡ false) (keys_of es) i → i ≡ spot_of b (subscribers es)
spot_of-point b i [] le h = omega (arith, le)
spot_of-point b zero (e ∷ es) le h = rw (h.1 0 b (omega arith) (omega arith)) refl
spot_of-point b (suc i) (e ∷ es) le h =
    let more = spot_of-point b i es (omega (arith, le)) ((λ k d low high. h.0 (suc k) d (omega arith) (omega (arith, high))), (λ k d low high. h.1 (suc k) d (omega (arith, low)) (omega (arith, high)))) in
    rw (h.0 0 b (omega arith) (omega arith)) (omega (arith, more))

-- ---- places

-- there are as many sessions as entries of the map
pub length-subscribers : (es : Entries) → length (subscribers es) ≡ length es
length-subscribers [] = refl
length-subscribers (e ∷ es) = ap suc (length-subscribers es)

-- the session at a place is that of the map's entry there
pub slice_get-subscribers : (i : ℕ) (es : Entries) (e : ℕ × Held) → slice_get es i ≡ Some e → slice_get (subscribers es) i ≡ Some (subscriber e.0 e.1.subs)
slice_get-subscribers i [] e h = cc
slice_get-subscribers zero (x ∷ es) e h = let same : x ≡ e = cc in ap (λ (y : ℕ × Held). Some (subscriber y.0 y.1.subs)) same
slice_get-subscribers (suc i) (x ∷ es) e h = slice_get-subscribers i es e h

-- what is left at a place begins with the session there
pub drop-next : (i : ℕ) (xs : List Subscriber) (x : Subscriber) → slice_get xs i ≡ Some x → drop i xs ≡ x ∷ drop (i + 1) xs
drop-next i [] x h = cc
drop-next zero (y ∷ xs) x h = let same : y ≡ x = cc in ap (λ (z : Subscriber). z ∷ xs) same
drop-next (suc i) (y ∷ xs) x h = drop-next i xs x h ∙ ap (λ n. x ∷ drop n (y ∷ xs)) (let e : suc (i + 1) ≡ suc i + 1 = omega arith in e)

-- behind all sessions none is left
pub drop-all : (i : ℕ) (xs : List Subscriber) → length xs ≤ i → drop i xs ≡ []
drop-all zero [] h = refl
drop-all (suc i) [] h = refl
drop-all zero (x ∷ xs) h = absurd (omega (arith, h))
drop-all (suc i) (x ∷ xs) h = drop-all i xs (omega (arith, h))
