-- Lemmas on a set of retained messages, of which no two are of one topic (MQTT 5.0, 3.3.1.3).
use Rattle.std.proofs.Common.{◌≡◌, ℕ, suc, length, drop, get_or, append_assoc, drop-cons, ◌+◌, ◌<◌, ◌≤◌, ◌&&◌, not, nat_lt, arith, Bool, true, false, cond, ◌||◌, if◌then◌else◌, List, [], ◌∷◌, ◌++◌, refl, sym, ap, ◌∙◌, Some, is_some}
use Rattle.std.proofs.lemmas.Bool.Decides.{nat_tests}
use Rattle.std.specs.Prelude.{find}
use Rattle.std.specs.Cmp.Lexicographic.{bytes_decides}
use Rattle.std.specs.Set.{remove_key, swap_key}
use Rattle.indexmap.specs.IndexSet.{replace_key}
use Rattle.mqtt_topic.specs.names.Matching.{is_match}
use Rattle.mqtt_routes.specs.declared.routing.retained.Kept.{Kept}
use Rattle.mqtt_routes.specs.routing.Retained.{is_of, has_topic, keep, kept_for, forget}
use Rattle.mqtt_routes.specs.routing.Keys.{same_topic}

below_by : (b : Bool) (n limit : ℕ) → nat_lt n limit ≡ b → (not b && not false) ≡ false → n < limit
below_by true n limit e h = grind (arith, nat_tests)
below_by false n limit e h = cc

-- if not all is full and the topic is new, one more fits
pub fits-new : (n limit : ℕ) (has : Bool) → (not (nat_lt n limit) && not has) ≡ false → has ≡ false → n < limit
fits-new n limit true h e = cc
fits-new n limit false h e = below_by (nat_lt n limit) n limit refl h

-- if a message finds a place, there are no more than the limit once it is retained
pub fits : (n limit : ℕ) (has : Bool) → (not (nat_lt n limit) && not has) ≡ false → n ≤ limit → n + (if has then 0 else 1) ≤ limit
fits n limit true h l = omega (arith, l)
fits n limit false h l = let below = fits-new n limit false h refl in omega (arith, below)

module _ {M : Type 0} where
  abbrev pub kept : List ℕ → M → Kept M
  kept topic message = record { topic = topic; message = message }

  -- to remove a topic's key from the set is to forget the message of that topic
  pub forget-remove_key : (text : List ℕ) (ks : List (Kept M)) → remove_key (is_of text) ks ≡ forget text ks
  forget-remove_key text [] = refl
  forget-remove_key text (k ∷ ks) = ap (λ (xs : List (Kept M)). cond (is_of text k) ks (k ∷ xs)) (forget-remove_key text ks)

  push_by : (b : Bool) (text : List ℕ) (message : M) (k old : Kept M) (ks : List (Kept M)) → (has_topic text ks ≡ false → keep text message ks ≡ ks ++ kept text message ∷ []) → (b || has_topic text ks) ≡ false
      → cond b (old ∷ ks) (k ∷ keep text message ks) ≡ k ∷ (ks ++ kept text message ∷ [])
  push_by true text message k old ks more h = cc
  push_by false text message k old ks more h = ap (λ (xs : List (Kept M)). k ∷ xs) (more h)

  keep-push : (text : List ℕ) (message : M) (ks : List (Kept M)) → has_topic text ks ≡ false → keep text message ks ≡ ks ++ kept text message ∷ []
  keep-push text message [] h = refl
  keep-push text message (k ∷ ks) h = push_by (is_of text k) text message k (kept k.topic message) ks (keep-push text message ks) h

  swap_by : (b : Bool) (text : List ℕ) (message : M) (k : Kept M) (ks : List (Kept M)) → is_of text k ≡ b → (has_topic text ks ≡ true → swap_key (is_of text) ks (kept text message) ≡ keep text message ks) → (b || has_topic text ks) ≡ true
      → cond b (kept text message ∷ ks) (k ∷ swap_key (is_of text) ks (kept text message)) ≡ cond b (kept k.topic message ∷ ks) (k ∷ keep text message ks)
  swap_by true text message k ks e more h = ap (λ t. kept t message ∷ ks) (sym ((bytes_decides k.topic text).0 e))
  swap_by false text message k ks e more h = ap (λ (xs : List (Kept M)). k ∷ xs) (more h)

  keep-swap_key : (text : List ℕ) (message : M) (ks : List (Kept M)) → has_topic text ks ≡ true → swap_key (is_of text) ks (kept text message) ≡ keep text message ks
  keep-swap_key text message [] h = cc
  keep-swap_key text message (k ∷ ks) h = swap_by (is_of text k) text message k ks refl (keep-swap_key text message ks) h

  keep_by : (b : Bool) (text : List ℕ) (message : M) (ks : List (Kept M)) → has_topic text ks ≡ b → (if b then swap_key (is_of text) ks (kept text message) else ks ++ kept text message ∷ []) ≡ keep text message ks
  keep_by true text message ks e = keep-swap_key text message ks e
  keep_by false text message ks e = sym (keep-push text message ks e)

  -- what the set has after a message replaced its topic's
  pub keep-replace_key : (text : List ℕ) (message : M) (ks : List (Kept M)) → replace_key same_topic ks (kept text message) ≡ keep text message ks
  keep-replace_key text message ks = keep_by (has_topic text ks) text message ks refl

  has_by : (b : Bool) (text : List ℕ) (k : Kept M) (ks : List (Kept M)) → is_some (find (is_of text) ks) ≡ has_topic text ks → is_some (cond b (Some k) (find (is_of text) ks)) ≡ (b || has_topic text ks)
  has_by true text k ks more = refl
  has_by false text k ks more = more

  -- a message of a topic is found exactly if one is retained
  pub find-has : (text : List ℕ) (ks : List (Kept M)) → is_some (find (is_of text) ks) ≡ has_topic text ks
  find-has text [] = refl
  find-has text (k ∷ ks) = has_by (is_of text k) text k ks (find-has text ks)

  -- a message is looked at after the other
  drops : (i : ℕ) (ks : List (Kept M)) (k : Kept M) → i < length ks → k ≡ get_or ks i k → drop i ks ≡ k ∷ drop (i + 1) ks
  drops i ks k within is =
      let next : i + 1 ≡ suc i = omega arith in
      drop-cons ks i k within ∙ ap (λ (x : Kept M). x ∷ drop (suc i) ks) (sym is) ∙ ap (λ (n : ℕ). k ∷ drop n ks) (sym next)

  kept_by : (b : Bool) (text : List ℕ) (k : Kept M) (ks : List (Kept M)) → is_match text k.topic ≡ b → kept_for text (k ∷ ks) ≡ cond b (k ∷ kept_for text ks) (kept_for text ks)
  kept_by true text k ks is = rw is refl
  kept_by false text k ks is = rw is refl

  -- a message that matches goes behind those found, and the others are looked at next
  pub one_found : (text : List ℕ) (ks found : List (Kept M)) (i : ℕ) (k : Kept M) → i < length ks → k ≡ get_or ks i k → is_match text k.topic ≡ true →
      (found ++ k ∷ []) ++ kept_for text (drop (i + 1) ks) ≡ found ++ kept_for text (drop i ks)
  one_found text ks found i k within is matches =
      append_assoc found (k ∷ []) (kept_for text (drop (i + 1) ks))
      ∙ ap (λ (xs : List (Kept M)). found ++ xs) (sym (kept_by true text k (drop (i + 1) ks) matches))
      ∙ ap (λ (xs : List (Kept M)). found ++ kept_for text xs) (sym (drops i ks k within is))

  -- a message that doesn't match is passed over
  pub one_passed : (text : List ℕ) (ks found : List (Kept M)) (i : ℕ) (k : Kept M) → i < length ks → k ≡ get_or ks i k → is_match text k.topic ≡ false →
      found ++ kept_for text (drop (i + 1) ks) ≡ found ++ kept_for text (drop i ks)
  one_passed text ks found i k within is apart =
      ap (λ (xs : List (Kept M)). found ++ xs) (sym (kept_by false text k (drop (i + 1) ks) apart))
      ∙ ap (λ (xs : List (Kept M)). found ++ kept_for text xs) (sym (drops i ks k within is))
