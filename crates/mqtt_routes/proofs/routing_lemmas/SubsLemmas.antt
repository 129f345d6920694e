-- Lemmas on the subscriptions of a session once those of one have changed (MQTT 5.0, 3.8, 3.10).
use Rattle.std.proofs.Common.{slice_get, Some, None, ◌≡◌, ℕ, zero, suc, ◌+◌, ◌<◌, ◌≤◌, Bool, true, false, cond, not, ◌||◌, List, [], ◌∷◌, ◌++◌, length, refl, sym, ap, ◌∙◌, nat_lt, nat_eq, arith}
use Rattle.std.specs.List.{position, position_or_len}
use Rattle.std.proofs.lemmas.Bool.Decides.{nat_tests}
use Rattle.std.proofs.lemmas.Slice.Eq.{bytes_eq-Decides}
use Rattle.mqtt_topic.specs.names.Filters.{matching_part_of}
use Rattle.mqtt_routes.specs.declared.routing.subscription.Subscription.{Subscription}
use Rattle.mqtt_routes.specs.routing.Subscriptions.{Subscriber, subscriber, AreAfter, AreInOrder, subs_of, with_subs, put, without, has_filter, is_to, unsubscribed, without_session}
use Rattle.mqtt_routes.specs.routing.Spots.{matched_at}
use Rattle.mqtt_routes.proofs.routing_lemmas.SpotLemmas.{split, lt-yes, lt-no, eq-yes, eq-below, eq-above}

-- of a session born no later than another nothing stands behind that
pub none_before : (d c : ℕ) (xs : List Subscriber) → c ≤ d → AreAfter d xs → subs_of c xs ≡ []
none_before d c [] l h = refl
none_before d c (x ∷ xs) l h = rw (lt-no x.birth c (let a = h.0 in omega (arith, l, a)), eq-above x.birth c (let a = h.0 in omega (arith, l, a))) refl

none_either : (t : Bool) → (let ss : List Subscription = [] in ss) ≡ cond t [] []
none_either true = refl
none_either false = refl

module _ (b c : ℕ) where
  -- a session gets other subscriptions
  pub subs_of-with_subs : (subs : List Subscription) (xs : List Subscriber) → AreInOrder xs → subs_of c (with_subs b subs xs) ≡ cond (nat_eq c b) subs (subs_of c xs)
  subs_of-with_subs subs [] o = split c b
      (λ l. rw (eq-below c b l, lt-no b c (omega (arith, l)), eq-above b c l) refl)
      (λ s. rw (eq-yes c b s, lt-no b c (omega (arith, s)), eq-yes b c (sym s)) refl)
      (λ l. rw (eq-above c b l, lt-yes b c l) refl)
  subs_of-with_subs subs (x ∷ xs) o = split x.birth b
      (λ l. split x.birth c
      (λ m. rw (lt-yes x.birth b l, lt-yes x.birth c m) (subs_of-with_subs subs xs o.1))
      (λ s. rw (lt-yes x.birth b l, lt-no x.birth c (omega (arith, s)), eq-yes x.birth c s, eq-below c b (omega (arith, l, s))) refl)
      (λ m. rw (lt-yes x.birth b l, lt-no x.birth c (omega (arith, m)), eq-above x.birth c m, eq-below c b (omega (arith, l, m))) refl))
      (λ e. split c b
      (λ l. rw (lt-no x.birth b (omega (arith, e)), eq-yes x.birth b e, eq-below c b l, lt-no b c (omega (arith, l)), eq-above b c l, lt-no x.birth c (omega (arith, l, e)), eq-above x.birth c (omega (arith, l, e))) refl)
      (λ s. rw (lt-no x.birth b (omega (arith, e)), eq-yes x.birth b e, eq-yes c b s, lt-no b c (omega (arith, s)), eq-yes b c (sym s)) refl)
      (λ l. rw (lt-no x.birth b (omega (arith, e)), eq-yes x.birth b e, eq-above c b l, lt-yes b c l, lt-yes x.birth c (omega (arith, l, e))) refl))
      (λ l. split c b
      (λ m. rw (lt-no x.birth b (omega (arith, l)), eq-above x.birth b l, eq-below c b m, lt-no b c (omega (arith, m)), eq-above b c m, lt-no x.birth c (omega (arith, l, m)), eq-above x.birth c (omega (arith, l, m))) refl)
      (λ s. rw (lt-no x.birth b (omega (arith, l)), eq-above x.birth b l, eq-yes c b s, lt-no b c (omega (arith, s)), eq-yes b c (sym s)) refl)
      (λ m. rw (lt-no x.birth b (omega (arith, l)), eq-above x.birth b l, eq-above c b m, lt-yes b c m) refl))

  -- it loses the one to a filter
  pub subs_of-unsubscribed : (text : List ℕ) (xs : List Subscriber) → AreInOrder xs → subs_of c (unsubscribed b text xs) ≡ cond (nat_eq c b) (without text (subs_of b xs)) (subs_of c xs)
  subs_of-unsubscribed text [] o = none_either (nat_eq c b)
  subs_of-unsubscribed text (x ∷ xs) o = split x.birth b
      (λ l. split x.birth c
      (λ m. rw (lt-yes x.birth b l, lt-yes x.birth c m) (subs_of-unsubscribed text xs o.1))
      (λ s. rw (lt-yes x.birth b l, lt-no x.birth c (omega (arith, s)), eq-yes x.birth c s, eq-below c b (omega (arith, l, s))) refl)
      (λ m. rw (lt-yes x.birth b l, lt-no x.birth c (omega (arith, m)), eq-above x.birth c m, eq-below c b (omega (arith, l, m))) refl))
      (λ e. split c b
      (λ l. rw (lt-no x.birth b (omega (arith, e)), eq-yes x.birth b e, eq-below c b l, lt-no b c (omega (arith, l)), eq-above b c l, lt-no x.birth c (omega (arith, l, e)), eq-above x.birth c (omega (arith, l, e))) refl)
      (λ s. rw (lt-no x.birth b (omega (arith, e)), eq-yes x.birth b e, eq-yes c b s, lt-no b c (omega (arith, s)), eq-yes b c (sym s)) refl)
      (λ l. rw (lt-no x.birth b (omega (arith, e)), eq-yes x.birth b e, eq-above c b l, lt-yes b c l, lt-yes x.birth c (omega (arith, l, e))) refl))
      (λ l. split c b
      (λ m. rw (lt-no x.birth b (omega (arith, l)), eq-above x.birth b l, eq-below c b m) refl)
      (λ s. rw (lt-no x.birth b (omega (arith, l)), eq-above x.birth b l, eq-yes c b s, lt-no x.birth c (omega (arith, l, s)), eq-above x.birth c (omega (arith, l, s))) refl)
      (λ m. rw (lt-no x.birth b (omega (arith, l)), eq-above x.birth b l, eq-above c b m) refl))

  -- it leaves
  pub subs_of-without_session : (xs : List Subscriber) → AreInOrder xs → subs_of c (without_session b xs) ≡ cond (nat_eq c b) [] (subs_of c xs)
  subs_of-without_session [] o = none_either (nat_eq c b)
  subs_of-without_session (x ∷ xs) o = split x.birth b
      (λ l. split x.birth c
      (λ m. rw (lt-yes x.birth b l, lt-yes x.birth c m) (subs_of-without_session xs o.1))
      (λ s. rw (lt-yes x.birth b l, lt-no x.birth c (omega (arith, s)), eq-yes x.birth c s, eq-below c b (omega (arith, l, s))) refl)
      (λ m. rw (lt-yes x.birth b l, lt-no x.birth c (omega (arith, m)), eq-above x.birth c m, eq-below c b (omega (arith, l, m))) refl))
      (λ e. split c b
      (λ l. rw (lt-no x.birth b (omega (arith, e)), eq-yes x.birth b e, eq-below c b l, lt-no x.birth c (omega (arith, e, l)), eq-above x.birth c (omega (arith, e, l))) (none_before x.birth c xs (omega (arith, e, l)) o.0))
      (λ s. rw (lt-no x.birth b (omega (arith, e)), eq-yes x.birth b e, eq-yes c b s) (none_before x.birth c xs (omega (arith, e, s)) o.0))
      (λ l. rw (lt-no x.birth b (omega (arith, e)), eq-yes x.birth b e, eq-above c b l, lt-yes x.birth c (omega (arith, e, l))) refl))
      (λ l. split c b
      (λ m. rw (lt-no x.birth b (omega (arith, l)), eq-above x.birth b l, eq-below c b m) refl)
      (λ s. rw (lt-no x.birth b (omega (arith, l)), eq-above x.birth b l, eq-yes c b s, lt-no x.birth c (omega (arith, l, s)), eq-above x.birth c (omega (arith, l, s))) refl)
      (λ m. rw (lt-no x.birth b (omega (arith, l)), eq-above x.birth b l, eq-above c b m) refl))

-- ---- a filter is subscribed again

same_filter : (new s : Subscription) → is_to new.filter s ≡ true → s.filter ≡ new.filter
same_filter new s h = (bytes_eq-Decides s.filter new.filter).0 h

put_length_by : (t : Bool) (new s : Subscription) (ss : List Subscription) → (t || has_filter new.filter ss) ≡ true → (has_filter new.filter ss ≡ true → length (put new ss) ≡ length ss) →
    length (cond t (record new { place = s.place } ∷ ss) (s ∷ put new ss)) ≡ suc (length ss)
put_length_by true new s ss h more = refl
put_length_by false new s ss h more = ap suc (more h)

-- a subscription that replaces one leaves as many as before
pub put_length : (new : Subscription) (ss : List Subscription) → has_filter new.filter ss ≡ true → length (put new ss) ≡ length ss
put_length new [] h = cc
put_length new (s ∷ ss) h = put_length_by (is_to new.filter s) new s ss h (put_length new ss)

put_matched_by : (t : Bool) (new s : Subscription) (ss : List Subscription) (n : ℕ) → is_to new.filter s ≡ t → (t || has_filter new.filter ss) ≡ true → ((m : ℕ) → has_filter new.filter ss ≡ true → matched_at (put new ss) m ≡ matched_at ss m) →
    matched_at (cond t (record new { place = s.place } ∷ ss) (s ∷ put new ss)) n ≡ matched_at (s ∷ ss) n
put_matched_by true new s ss zero is h more = ap matching_part_of (sym (same_filter new s is))
put_matched_by true new s ss (suc n) is h more = refl
put_matched_by false new s ss zero is h more = refl
put_matched_by false new s ss (suc n) is h more = more n h

-- a subscription that replaces one is matched by the same filter at the same number
pub put_matched : (new : Subscription) (ss : List Subscription) (n : ℕ) → has_filter new.filter ss ≡ true → matched_at (put new ss) n ≡ matched_at ss n
put_matched new [] n h = cc
put_matched new (s ∷ ss) n h = put_matched_by (is_to new.filter s) new s ss n refl h (λ m k. put_matched new ss m k)

-- ---- one is added

-- a subscription that comes last leaves those before it at their numbers
pub push_matched : (new : Subscription) (ss : List Subscription) (n : ℕ) → n < length ss → matched_at (ss ++ new ∷ []) n ≡ matched_at ss n
push_matched new [] n l = absurd (omega (arith, l))
push_matched new (s ∷ ss) zero l = refl
push_matched new (s ∷ ss) (suc n) l = push_matched new ss n (omega (arith, l))

-- a subscription that comes last has the last number
pub push_matched_last : (new : Subscription) (ss : List Subscription) → matched_at (ss ++ new ∷ []) (length ss) ≡ matching_part_of new.filter
push_matched_last new [] = refl
push_matched_last new (s ∷ ss) = push_matched_last new ss

-- a subscription that comes last makes one more
pub length_push : (new : Subscription) (ss : List Subscription) → length (ss ++ new ∷ []) ≡ suc (length ss)
length_push new [] = refl
length_push new (s ∷ ss) = ap suc (length_push new ss)

-- ---- one is looked up

-- a subscription is matched, at its number, by the matching part of its filter
pub matched_get : (ss : List Subscription) (n : ℕ) (s : Subscription) → slice_get ss n ≡ Some s → matched_at ss n ≡ matching_part_of s.filter
matched_get [] n s h = cc
matched_get (x ∷ ss) zero s h = let same : x ≡ s = cc in ap (λ (y : Subscription). matching_part_of y.filter) same
matched_get (x ∷ ss) (suc n) s h = matched_get ss n s h

-- at a number that no subscription has there is no text
pub matched_none : (ss : List Subscription) (n : ℕ) → slice_get ss n ≡ None → matched_at ss n ≡ []
matched_none [] n h = refl
matched_none (x ∷ ss) zero h = cc
matched_none (x ∷ ss) (suc n) h = matched_none ss n h

-- ---- one is removed

module _ (text : List ℕ) where
  without_none_by : (t : Bool) (s : Subscription) (ss : List Subscription) → (t || has_filter text ss) ≡ false → (has_filter text ss ≡ false → without text ss ≡ ss) → cond t ss (s ∷ without text ss) ≡ s ∷ ss
  without_none_by true s ss h more = cc
  without_none_by false s ss h more = ap (λ (xs : List Subscription). s ∷ xs) (more h)

  without_none : (ss : List Subscription) → has_filter text ss ≡ false → without text ss ≡ ss
  without_none [] h = refl
  without_none (s ∷ ss) h = without_none_by (is_to text s) s ss h (without_none ss)

  -- none if there is none
  pub unsubscribed_none : (b : ℕ) (xs : List Subscriber) → has_filter text (subs_of b xs) ≡ false → unsubscribed b text xs ≡ xs
  unsubscribed_none b [] h = refl
  unsubscribed_none b (x ∷ xs) h = split x.birth b
      (λ l. rw (lt-yes x.birth b l) (ap (λ (ys : List Subscriber). x ∷ ys)
      (unsubscribed_none b xs (sym (ap (λ t. has_filter text (cond t (subs_of b xs) (cond (nat_eq x.birth b) x.subs []))) (lt-yes x.birth b l)) ∙ h))))
      (λ e. rw (lt-no x.birth b (omega (arith, e)), eq-yes x.birth b e)
      (ap (λ (ss : List Subscription). subscriber b ss ∷ xs) (without_none x.subs
      (sym (ap (λ t. has_filter text (cond t (subs_of b xs) (cond (nat_eq x.birth b) x.subs []))) (lt-no x.birth b (omega (arith, e)))
      ∙ ap (λ t. has_filter text (cond t x.subs [])) (eq-yes x.birth b e)) ∙ h))
      ∙ ap (λ n. subscriber n x.subs ∷ xs) (sym e)))
      (λ l. rw (lt-no x.birth b (omega (arith, l)), eq-above x.birth b l) refl)

  place_by : (t : Bool) (k len a : ℕ) → nat_lt k len ≡ t → cond t (Some k) None ≡ Some a → (k ≡ a) × (a < len)
  place_by true k len a e h = let same : k ≡ a = cc in let l : k < len = grind (arith, nat_tests) in (same, omega (arith, same, l))
  place_by false k len a e h = cc

  -- its number
  pub place_of : (ss : List Subscription) (a : ℕ) → position (is_to text) ss ≡ Some a → (position_or_len (is_to text) ss ≡ a) × (a < length ss)
  place_of ss a h = place_by (nat_lt (position_or_len (is_to text) ss) (length ss)) (position_or_len (is_to text) ss) (length ss) a refl h

  below_by : (t : Bool) (s : Subscription) (ss : List Subscription) (n : ℕ) → n < cond (not t) (1 + position_or_len (is_to text) ss) 0 → ((m : ℕ) → m < position_or_len (is_to text) ss → matched_at (without text ss) m ≡ matched_at ss m) →
      matched_at (cond t ss (s ∷ without text ss)) n ≡ matched_at (s ∷ ss) n
  below_by true s ss n l more = absurd (omega (arith, l))
  below_by false s ss zero l more = refl
  below_by false s ss (suc n) l more = more n (omega (arith, l))

  -- subscriptions before the one that leaves keep their numbers
  pub without_below : (ss : List Subscription) (n : ℕ) → n < position_or_len (is_to text) ss → matched_at (without text ss) n ≡ matched_at ss n
  without_below [] n l = refl
  without_below (s ∷ ss) n l = below_by (is_to text s) s ss n l (without_below ss)

  above_by : (t : Bool) (s : Subscription) (ss : List Subscription) (n : ℕ) → cond (not t) (1 + position_or_len (is_to text) ss) 0 ≤ n → ((m : ℕ) → position_or_len (is_to text) ss ≤ m → matched_at (without text ss) m ≡ matched_at ss (suc m)) →
      matched_at (cond t ss (s ∷ without text ss)) n ≡ matched_at ss n
  above_by true s ss n l more = refl
  above_by false s ss zero l more = absurd (omega (arith, l))
  above_by false s ss (suc n) l more = more n (omega (arith, l))

  -- subscriptions behind the one that leaves have the number before
  pub without_above : (ss : List Subscription) (n : ℕ) → position_or_len (is_to text) ss ≤ n → matched_at (without text ss) n ≡ matched_at ss (suc n)
  without_above [] n l = refl
  without_above (s ∷ ss) n l = above_by (is_to text s) s ss n l (without_above ss)

  long_by : (t : Bool) (s : Subscription) (ss : List Subscription) → cond (not t) (1 + position_or_len (is_to text) ss) 0 < suc (length ss) → (position_or_len (is_to text) ss < length ss → suc (length (without text ss)) ≡ length ss) →
      suc (length (cond t ss (s ∷ without text ss))) ≡ suc (length ss)
  long_by true s ss l more = refl
  long_by false s ss l more = ap suc (more (omega (arith, l)))

  -- one that leaves was one of them
  pub without_long : (ss : List Subscription) → position_or_len (is_to text) ss < length ss → suc (length (without text ss)) ≡ length ss
  without_long [] l = absurd (omega (arith, l))
  without_long (s ∷ ss) l = long_by (is_to text s) s ss l (without_long ss)
