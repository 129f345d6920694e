-- Questions to a store one after the other, and what was fetched so far.
use Rattle.std.proofs.Common.{◌≡◌, ◌≢◌, ◌⊎◌, ℕ, zero, suc, ◌+◌, ◌%◌, ◌^◌, ◌<◌, ◌≤◌, List, [], ◌∷◌, ◌++◌, length, drop, get_or, refl, sym, ap, subst, ◌∙◌, arith, inl, inr, append_assoc, drop-cons}
use Rattle.std.specs.Prelude.{IsSome, Option, Some, None, option_to_list}
use Rattle.mqtt_flow.specs.ring.AtHand.{content_at}
use Rattle.mqtt_records.specs.messages.Content.{CopyContent}
use Rattle.mqtt_records.specs.declared.state.records.Records.{Records}
use Rattle.mqtt_keep.specs.declared.keeping.keep.Keep.{Ghosts}
use Rattle.mqtt_keep.specs.declared.keeping.keep.KeepError.{KeepError}
use Rattle.mqtt_keep.specs.declared.keeping.keep.KeepError.TheVariants.{Memory, Disk}
use Rattle.mqtt_records.specs.state.Telling.{contents_from, queue_at}
use Rattle.mqtt_broker_looks.specs.at_hand.Hand.{Hand, IsQueueInOrder, SayWhatIsStored, at_hand_of, contents_at, first_at, stored_content}
use Rattle.mqtt_broker_looks.specs.at_hand.Reading.{AreAtHand, AskedAtMost, HasFailed, HasOne, WasAsked, asked}
use Rattle.mqtt_broker_looks.proofs.at_hand_lemmas.Filled.{first_is}

-- ---- counts

asked_on : (j i count : ℕ) → (k : ℕ) × (k ≡ i + j) × (asked j (asked i count) ≡ asked k count)
asked_on zero i count = (i, omega arith, refl)
asked_on (suc j) i count =
    let rest = asked_on j i count in
    let many = rest.1 in
    (suc rest.0, omega (arith, many), ap (λ n. (n + 1) % 2 ^ 64) rest.2)

-- at most so many and then at most so many
asked_more : (m n k a b c : ℕ) → AskedAtMost m a b → AskedAtMost n b c → m + n ≤ k → AskedAtMost k a c
asked_more m n k a b c first next within =
    let both = asked_on next.0 first.0 a in
    let many = both.1 in
    let few = first.1 in
    let more = next.1 in
    (both.0, omega (arith, many, few, more, within), next.2 ∙ (ap (asked next.0) first.2 ∙ both.2))

asked_fewer : (m k a b : ℕ) → AskedAtMost m a b → m ≤ k → AskedAtMost k a b
asked_fewer m k a b first within = let few = first.1 in (first.0, omega (arith, few, within), first.2)

append_nil : (l : List CopyContent) → l ++ [] ≡ l
append_nil [] = refl
append_nil (x ∷ l) = ap (λ (k : List CopyContent). x ∷ k) (append_nil l)

module _ {K : Type 0} (g : Ghosts K) where
  -- ---- one question after the other

  -- none yet
  pub asked_nothing : (k : ℕ) (keep : K) → g.is_loaded keep → WasAsked g k keep keep
  asked_nothing k keep loaded = record {
    same = λ r h. h;
    loaded = loaded;
    crash = λ r left holds may. inl may;
    sound = λ h. h;
    uncounted = refl;
    reads = (zero, omega arith, refl);
  }

  -- at most so many, and then at most so many
  pub asked_then : (m n k : ℕ) (a b c : K) → WasAsked g m a b → WasAsked g n b c → m + n ≤ k → WasAsked g k a c
  asked_then m n k a b c first next within = record {
    same = λ r h. next.same r (first.same r h);
    loaded = next.loaded;
    crash = λ r left holds may. elim (next.crash r left (first.same r holds) may) [ inl before ↦ first.crash r left holds before | inr is ↦ inr is ];
    sound = λ h. first.sound (next.sound h);
    uncounted = next.uncounted ∙ first.uncounted;
    reads = asked_more m n k _ _ _ first.reads next.reads within;
  }

  -- few questions are within as many or more
  pub asked_within : (m k : ℕ) (a b : K) → WasAsked g m a b → m ≤ k → WasAsked g k a b
  asked_within m k a b first within = record {
    same = first.same;
    loaded = first.loaded;
    crash = first.crash;
    sound = first.sound;
    uncounted = first.uncounted;
    reads = asked_fewer m k _ _ first.reads within;
  }

  -- a failure after answers
  pub fails_then : (m n k : ℕ) (a b c : K) (fault : KeepError) → WasAsked g m a b → HasFailed g n b c fault → m + n ≤ k → HasFailed g k a c fault
  fails_then m n k a b c fault first next within = record {
    refused = next.refused;
    memory = λ r h is. next.memory r (first.same r h) is;
    crash = λ r left holds may. elim (next.crash r left (first.same r holds) may) [ inl before ↦ first.crash r left holds before | inr is ↦ inr is ];
    sound = λ h. first.sound (next.sound h);
    cause = λ is same. next.cause is (same ∙ sym first.uncounted);
    reads = asked_more m n k _ _ _ first.reads next.reads within;
  }

  -- want of memory after answers
  pub wants_memory : (m k : ℕ) (a b : K) → WasAsked g m a b → m ≤ k → HasFailed g k a b Memory
  wants_memory m k a b first within = record {
    refused = inl refl;
    memory = λ r h is. (first.loaded, first.same r h);
    crash = first.crash;
    sound = first.sound;
    cause = λ is. absurd cc;
    reads = asked_fewer m k _ _ first.reads within;
  }

  -- one question was answered, or failed
  pub question_answered : (old new : K) → ((r : Records) → g.holds old r → g.holds new r) → g.is_loaded new → ((r left : Records) → g.holds old r → g.leaves new left → g.leaves old left ⊎ (left ≡ r)) → (g.is_sound new → g.is_sound old)
      → g.counted new ≡ g.counted old → g.read_so_far new ≡ (g.read_so_far old + 1) % 2 ^ 64 → WasAsked g 1 old new
  question_answered old new same loaded crash sound uncounted read =
      record { same = same; loaded = loaded; crash = crash; sound = sound; uncounted = uncounted; reads = (1, omega arith, read) }

  -- a read that is refused leaves what a refusal leaves
  pub question_failed : (old new : K) (fault : KeepError) → (fault ≡ Memory) ⊎ (fault ≡ Disk) → ((r : Records) → g.holds old r → fault ≡ Memory → g.is_loaded new × g.holds new r) → ((r left : Records) → g.holds old r → g.leaves new left → g.leaves old left ⊎ (left ≡ r)) → (g.is_sound new → g.is_sound old)
      → (fault ≡ Disk → g.counted new ≢ g.counted old) → g.read_so_far new ≡ (g.read_so_far old + 1) % 2 ^ 64 → HasFailed g 1 old new fault
  question_failed old new fault refused memory crash sound cause read =
      record { refused = refused; memory = memory; crash = crash; sound = sound; cause = cause; reads = (1, omega arith, read) }

  -- ---- one copy

  -- what is at hand
  pub one_at_hand : (birth place : ℕ) (keep : K) (hand : Hand) (content : CopyContent) → g.is_loaded keep → content_at place (at_hand_of birth hand) ≡ Some content → HasOne g birth place keep hand keep hand (Some content)
  one_at_hand birth place keep hand content loaded found = record {
    asked = asked_nothing 1 keep loaded;
    exact = λ r holds order says sound. sym (says birth place content found);
    stored = λ r holds order says sound. says;
  }

  -- what is read: the next 64, of which the first is looked at
  pub one_read : (birth place : ℕ) (old : K) (before : Hand) (new : K) (after : Hand) (one : Option CopyContent) (all : List CopyContent) → WasAsked g 1 old new
      → ((r : Records) → g.holds old r → g.is_sound new → all ≡ contents_from birth place 64 r) → one ≡ first_at place all
      → ((r : Records) (from limit : ℕ) → SayWhatIsStored before r → IsQueueInOrder birth r → all ≡ contents_from birth from limit r → SayWhatIsStored after r)
      → HasOne g birth place old before new after one
  one_read birth place old before new after one all was told first fill = record {
    asked = was;
    exact = λ r holds order says sound. first ∙ (ap (first_at place) (told r holds sound) ∙ first_is place 63 (queue_at birth r) order);
    stored = λ r holds order says sound. fill r place 64 says order (told r holds sound);
  }

  -- ---- one copy after the other

  module _ (birth : ℕ) (places : List ℕ) (old : K) (before : Hand) where
    -- what was fetched at the first i places
    pub record HasFirst (i : ℕ) (now : K) (hand : Hand) (all : List CopyContent) : Type 0 where
      pub asked : WasAsked g i old now
      pub exact : (r : Records) → g.holds old r → IsQueueInOrder birth r → SayWhatIsStored before r → g.is_sound now → all ++ contents_at birth (drop i places) r ≡ contents_at birth places r
      pub stored : (r : Records) → g.holds old r → IsQueueInOrder birth r → SayWhatIsStored before r → g.is_sound now → SayWhatIsStored hand r
      pub at_hand : AreAtHand before birth places → (now ≡ old) × (hand ≡ before) × AreAtHand before birth (drop i places)

    -- at first nothing was asked, and nothing fetched
    pub first_none : g.is_loaded old → HasFirst 0 old before []
    first_none loaded = record {
      asked = asked_nothing 0 old loaded;
      exact = λ r holds order says sound. refl;
      stored = λ r holds order says sound. says;
      at_hand = λ all. (refl, refl, all);
    }

    -- the next place, with what follows
    pub next_place : (i : ℕ) → i < length places → (place : ℕ) → place ≡ get_or places i place → drop i places ≡ place ∷ drop (suc i) places
    next_place i less place is = drop-cons places i place less ∙ ap (λ (n : ℕ). n ∷ drop (suc i) places) (sym is)

    at_front : (place : ℕ) (i : ℕ) (hand : Hand) → drop i places ≡ place ∷ drop (suc i) places → hand ≡ before → AreAtHand before birth (drop i places)
        → IsSome (content_at place (at_hand_of birth hand)) × AreAtHand before birth (drop (suc i) places)
    at_front place i hand front same there =
        let parts = subst (AreAtHand before birth) front there in
        (subst (λ (h : Hand). IsSome (content_at place (at_hand_of birth h))) (sym same) parts.0, parts.1)

    module _ (i j : ℕ) (place : ℕ) (now : K) (hand : Hand) (all : List CopyContent) (t : HasFirst i now hand all) (step : j ≡ suc i) (front : drop i places ≡ place ∷ drop (suc i) places) (next : K) (after : Hand)
        (kept : IsSome (content_at place (at_hand_of birth hand)) → (next ≡ now) × (after ≡ hand)) where
      -- nothing is asked, if all was at hand
      pub still_at_hand : AreAtHand before birth places → (next ≡ old) × (after ≡ before) × AreAtHand before birth (drop j places)
      still_at_hand there =
          let so_far = t.at_hand there in
          let parts = at_front place i hand front so_far.1 so_far.2 in
          let same = kept parts.0 in
          (same.0 ∙ so_far.0, same.1 ∙ so_far.1, subst (λ (k : ℕ). AreAtHand before birth (drop k places)) (sym step) parts.1)

      -- what is stored at this place and those that follow
      rest_is : (r : Records) → contents_at birth (drop i places) r ≡ contents_at birth (place ∷ drop j places) r
      rest_is r = ap (λ (l : List ℕ). contents_at birth l r) (front ∙ ap (λ (k : ℕ). place ∷ drop k places) (sym step))

      -- a copy stands there
      pub first_some : (content : CopyContent) (more : List CopyContent) → HasOne g birth place now hand next after (Some content) → more ≡ all ++ content ∷ [] → HasFirst j next after more
      first_some content more one pushed = record {
        asked = asked_then i 1 j old now next t.asked one.asked (omega (arith, step));
        exact = λ r holds order says sound.
            let before_sound = one.asked.sound sound in
            let at : Some content ≡ stored_content birth place r = one.exact r (t.asked.same r holds) order (t.stored r holds order says before_sound) sound in
            let whole = t.exact r holds order says before_sound in
            let rest : contents_at birth (place ∷ drop j places) r ≡ content ∷ contents_at birth (drop j places) r = rw (← at) refl in
            ap (λ (l : List CopyContent). l ++ contents_at birth (drop j places) r) pushed
            ∙ (append_assoc all (content ∷ []) (contents_at birth (drop j places) r)
            ∙ (ap (λ (l : List CopyContent). all ++ l) (sym rest ∙ sym (rest_is r)) ∙ whole));
        stored = λ r holds order says sound. one.stored r (t.asked.same r holds) order (t.stored r holds order says (one.asked.sound sound)) sound;
        at_hand = still_at_hand;
      }

      -- none does
      pub first_without : HasOne g birth place now hand next after None → HasFirst j next after all
      first_without one = record {
        asked = asked_then i 1 j old now next t.asked one.asked (omega (arith, step));
        exact = λ r holds order says sound.
            let before_sound = one.asked.sound sound in
            let at : None ≡ stored_content birth place r = one.exact r (t.asked.same r holds) order (t.stored r holds order says before_sound) sound in
            let whole = t.exact r holds order says before_sound in
            let rest : contents_at birth (place ∷ drop j places) r ≡ contents_at birth (drop j places) r = rw (← at) refl in
            ap (λ (l : List CopyContent). all ++ l) (sym rest ∙ sym (rest_is r)) ∙ whole;
        stored = λ r holds order says sound. one.stored r (t.asked.same r holds) order (t.stored r holds order says (one.asked.sound sound)) sound;
        at_hand = still_at_hand;
      }

      -- either way
      pub first_next : (one : Option CopyContent) (more : List CopyContent) → HasOne g birth place now hand next after one → more ≡ all ++ option_to_list one → HasFirst j next after more
      first_next (Some content) more one pushed = first_some content more one pushed
      first_next None more one pushed = subst (λ (l : List CopyContent). HasFirst j next after l) (sym (pushed ∙ append_nil all)) (first_without one)

    -- all were fetched
    pub first_all : (i : ℕ) (now : K) (hand : Hand) (all : List CopyContent) → HasFirst i now hand all → i ≡ length places → (r : Records) → g.holds old r → IsQueueInOrder birth r → SayWhatIsStored before r → g.is_sound now
        → all ≡ contents_at birth places r
    first_all i now hand all t whole r holds order says sound =
        sym (append_nil all) ∙ (ap (λ (l : List ℕ). all ++ contents_at birth l r) (sym (drop_whole places i whole)) ∙ t.exact r holds order says sound)
      where
        drop_whole : (l : List ℕ) (k : ℕ) → k ≡ length l → drop {A = ℕ} k l ≡ []
        drop_whole [] k is = subst (λ (n : ℕ). drop {A = ℕ} n [] ≡ []) (sym is) refl
        drop_whole (x ∷ l) k is = subst (λ (n : ℕ). drop {A = ℕ} n (x ∷ l) ≡ []) (sym is) (drop_whole l (length l) refl)
