-- What is answered if a broker is opened, and if it isn't.
use Rattle.std.proofs.Common.{◌≡◌, ◌≢◌, ◌⊎◌, ℕ, refl, ap, sym, subst, ◌∙◌, inl, inr}
use Rattle.std.specs.Prelude.{Result, Ok, Err, OnOk, OnErr}
use Rattle.mqtt_keep.specs.declared.keeping.keep.Keep.{Ghosts}
use Rattle.mqtt_keep.specs.declared.keeping.keep.KeepError.{KeepError}
use Rattle.mqtt_keep.specs.declared.keeping.keep.KeepError.TheVariants.{Memory, Disk, Size, Corrupt, Schema}
use Rattle.mqtt_records.specs.declared.state.records.Records.{Records}
use Rattle.mqtt_rules.specs.declared.step.Capacity.{Capacity}
use Rattle.mqtt_rules.specs.step.Step.{SpentOpening}
use Rattle.mqtt_broker_step.specs.Stepping.{Stepping, at_rest}
use Rattle.mqtt_broker.specs.stored.Closing.{IsStoredAfter, resting}
use Rattle.mqtt_broker.specs.stored.Opening.{IsBegun, IsDue, IsRefused, IsStoredOpening, Opened}

-- ---- results

-- two facts of an answer give a third
pub both_ok : {A E : Type 0} (r : Result A E) {P Q R : Type 0} → (P → Q → R) → OnOk r P → OnOk r Q → OnOk r R
both_ok (Ok a) f p q = f p q
both_ok (Err e) f p q = tt

-- a fact of a refusal gives another
pub err_of : {A E : Type 0} (r : Result A E) {P Q : Type 0} → (P → Q) → OnErr r P → OnErr r Q
err_of (Ok a) f p = tt
err_of (Err e) f p = f p

-- a store that refuses a step has what it had, unless its device failed
pub kept_unless_disk : {P : Type 0} (error : KeepError) → (error ≡ Memory → P) → (error ≡ Size → P) → (error ≡ Corrupt → ⊥) → (error ≡ Schema → ⊥)
    → (error ≡ Disk → ⊥) → P
kept_unless_disk Memory memory size corrupt schema fine = memory refl
kept_unless_disk Disk memory size corrupt schema fine = absurd (fine refl)
kept_unless_disk Size memory size corrupt schema fine = size refl
kept_unless_disk Corrupt memory size corrupt schema fine = absurd (corrupt refl)
kept_unless_disk Schema memory size corrupt schema fine = absurd (schema refl)

-- ---- the step that is at rest again

-- a step at rest under these limits
pub rest_of : (limits : Capacity) (s new : Stepping) → s.limits ≡ limits → new ≡ at_rest s.limits s.broker → new ≡ at_rest limits new.broker
rest_of limits s new same is =
    is ∙ (ap (λ (l : Capacity). at_rest l s.broker) same ∙ ap (λ (t : Stepping). at_rest limits t.broker) (sym is))

-- is at rest under its own
pub rest_again : (limits : Capacity) (new : Stepping) → new ≡ at_rest limits new.broker → new ≡ at_rest new.limits new.broker
rest_again limits new is = is ∙ ap (λ (l : Capacity). at_rest l new.broker) (sym (ap (λ (t : Stepping). t.limits) is))

-- ---- answers

module _ {K : Type 0} (g : Ghosts K) (limits : Capacity) (now : ℕ) (first : K) where
  opened_err : (error : KeepError) (left : K) → IsRefused g limits now first error left → Opened g limits now first (Err (left, error))
  opened_err error left h = record { opened = tt; refused = h }

  -- the store's own load refused
  load_due : (error : KeepError) (left : K) → (g.is_sound left → g.refuses first error) → ((error ≡ Disk) ⊎ (error ≡ Size) → g.counted left ≢ g.counted first) → IsDue g limits now first error left
  load_due Memory left refused cause = tt
  load_due Disk left refused cause = inl (cause (inl refl))
  load_due Size left refused cause = inl (cause (inr refl))
  load_due Corrupt left refused cause = inl refused
  load_due Schema left refused cause = refused

  -- the load is refused, and its refusal is due
  pub refused_load : (error : KeepError) (left : K) → (g.is_sound left → g.refuses first error) → ((error ≡ Disk) ⊎ (error ≡ Size) → g.counted left ≢ g.counted first)
      → ((h : Records) → g.holds first h → g.holds left h) → ((after : Records) → g.leaves left after → g.leaves first after)
      → Opened g limits now first (Err (left, error))
  refused_load error left refused cause same crash = opened_err error left (record {
    due = load_due error left refused cause;
    same = λ fine h held sound. same h held;
    crash = λ after may sound. inl (crash after may);
  })

  -- there is no memory for what was loaded
  pub refused_first : (r : Records) (left : K) → IsBegun g first r left → Opened g limits now first (Err (left, Memory))
  refused_first r left begun = opened_err Memory left (record {
    due = tt;
    same = λ fine h held sound. begun.same h held;
    crash = λ after may sound. inl (begun.crash after may);
  })

  -- the opening isn't done, or isn't stored
  store_due : (r : Records) (loaded left : K) (error : KeepError) → IsBegun g first r loaded → (error ≡ Corrupt → SpentOpening limits r now) → (error ≡ Schema → ⊥)
      → ((error ≡ Disk) ⊎ (error ≡ Size) → g.counted left ≢ g.counted loaded) → IsDue g limits now first error left
  store_due r loaded left Memory begun spent schema cause = tt
  store_due r loaded left Disk begun spent schema cause = inr (record { loaded = loaded; records = r; load = begun.load; counted = cause (inl refl) })
  store_due r loaded left Size begun spent schema cause = inr (record { loaded = loaded; records = r; load = begun.load; counted = cause (inr refl) })
  store_due r loaded left Corrupt begun spent schema cause = inr (record { loaded = loaded; records = r; load = begun.load; spent = spent refl })
  store_due r loaded left Schema begun spent schema cause = absurd (schema refl)

  -- what a crash leaves of an opening
  pub opening_left : (r : Records) (loaded : K) → IsBegun g first r loaded → (after : Records) → g.is_sound loaded
      → g.leaves loaded after ⊎ ((after ≡ r) ⊎ IsStoredAfter limits now r after) → g.leaves first after ⊎ IsStoredOpening g limits now first after
  opening_left r loaded begun after device (inl before) = inl (begun.crash after before)
  opening_left r loaded begun after device (inr (inl is)) = inl (subst (λ (x : Records). g.leaves first x) (sym is) (begun.load.found device))
  opening_left r loaded begun after device (inr (inr stored)) = inr (record { loaded = loaded; records = r; load = begun.load; sound = device; is = stored })

  -- or the store refuses the opening
  pub refused_store : (r : Records) (loaded left : K) (error : KeepError) → IsBegun g first r loaded → (error ≡ Corrupt → SpentOpening limits r now) → (error ≡ Schema → ⊥)
      → ((error ≡ Disk) ⊎ (error ≡ Size) → g.counted left ≢ g.counted loaded) → ((error ≡ Disk → ⊥) → g.holds left r)
      → ((after : Records) → g.leaves left after → g.leaves loaded after ⊎ ((after ≡ r) ⊎ IsStoredAfter limits now r after)) → (g.is_sound left → g.is_sound loaded)
      → Opened g limits now first (Err (left, error))
  refused_store r loaded left error begun spent schema cause same crash sound = opened_err error left (record {
    due = store_due r loaded left error begun spent schema cause;
    same = λ fine h held true_device. subst (λ (x : Records). g.holds left x) (begun.load.exact h held (sound true_device)) (same fine);
    crash = λ after may true_device. opening_left r loaded begun after (sound true_device) (crash after may);
  })

-- ---- what was loaded

-- an opening that begins is at rest on its records
pub begun_of : (limits : Capacity) (now : ℕ) (r : Records) (s : Stepping) → s ≡ resting limits now r → s ≡ resting s.limits now s.broker.records
begun_of limits now r s is =
    is
    ∙ (ap (λ (l : Capacity). resting l now r) (sym (ap (λ (t : Stepping). t.limits) is))
    ∙ ap (λ (x : Records). resting s.limits now x) (sym (ap (λ (t : Stepping). t.broker.records) is)))

-- a load that answers records has begun an opening
pub load_begun : {K : Type 0} (g : Ghosts K) (first loaded : K) (r : Records) → ((h : Records) → g.holds first h → g.is_sound loaded → r ≡ h) → (g.is_sound loaded → g.leaves first r)
    → (g.is_sound loaded → g.is_sound first) → ((h : Records) → g.holds first h → g.holds loaded h)
    → ((after : Records) → g.leaves loaded after → g.leaves first after) → IsBegun g first r loaded
load_begun g first loaded r exact found sound same crash = record { load = record { exact = exact; found = found; sound = sound }; same = same; crash = crash }
