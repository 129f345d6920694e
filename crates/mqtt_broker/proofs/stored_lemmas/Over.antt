-- An opening on rows that say less than its store has: what the store is told, and what is answered.
use Rattle.std.proofs.Common.{◌≡◌, ◌≢◌, ◌⊎◌, ℕ, false, [], ap, sym, subst, ◌∙◌, inl, inr, refl}
use Rattle.std.specs.Prelude.{Ok, Err}
use Rattle.mqtt_keep.specs.declared.keeping.keep.Keep.{Ghosts}
use Rattle.mqtt_keep.specs.declared.keeping.keep.KeepError.{KeepError}
use Rattle.mqtt_keep.specs.declared.keeping.keep.KeepError.TheVariants.{Memory, Disk, Size, Corrupt, Schema}
use Rattle.mqtt_records.specs.declared.state.records.Records.{Records}
use Rattle.mqtt_records.specs.state.Records.{changed_all}
use Rattle.mqtt_records.specs.state.Slim.{all_slim}
use Rattle.mqtt_rules.specs.declared.step.Capacity.{Capacity}
use Rattle.mqtt_rules.specs.step.State.{Broker}
use Rattle.mqtt_rules.specs.step.Step.{SpentOpening, is_spent}
use Rattle.mqtt_rules.specs.alike.Alike.{AlikeRecords}
use Rattle.mqtt_rules.proofs.filling_lemmas.Equivalence.{broker_itself, slim_through}
use Rattle.mqtt_rules.proofs.filling_lemmas.Steps.{opening_spent}
use Rattle.mqtt_broker_step.specs.Stepping.{CanStore, Stepping, at_rest}
use Rattle.mqtt_broker_step.specs.declared.fault.StepFault.{StepFault}
use Rattle.mqtt_broker_step.specs.declared.fault.StepFault.TheVariants.{Spent}
use Rattle.mqtt_broker.proofs.stored_lemmas.Crashed.{left_or}
use Rattle.mqtt_broker.specs.stored.Closing.{DidOpen, IsLeftOpen, IsStoredAfter}
use Rattle.mqtt_broker.specs.stored.Finishing.{HoldsWhole}
use Rattle.mqtt_broker.specs.stored.Over.{AreOfLawful, HasOpened, IsOpeningTold, IsUnopened}
use Rattle.mqtt_broker.proofs.stored_lemmas.Answering.{kept_unless_disk, rest_of}
use Rattle.mqtt_broker.proofs.stored_lemmas.Stamped.{open_alike, open_can_store, open_is, open_left, open_limits, open_makes, open_sound, whole_after}

-- ---- rows that say their topics alone

abbrev bare : Records → Broker
bare r = record { records = r; lines = []; given = 0; now = 0; tellings = [] }

-- are alike to those that say all
pub slim_alike : (slim whole : Records) → slim ≡ all_slim whole → AlikeRecords slim whole
slim_alike slim whole is =
    subst (λ (r : Records). AlikeRecords r whole) (sym is) (slim_through (bare whole) (bare whole) (broker_itself (bare whole))).records

-- ---- a step begins on such rows

module _ {K : Type 0} (g : Ghosts K) (limits : Capacity) (now : ℕ) (whole : Records) (old : K) (s : Stepping) (u : IsUnopened g limits now whole old s) where
  records_are : s.broker.records ≡ u.some
  records_are = ap (λ (t : Stepping). t.broker.records) u.is

  -- on rows of lawful records
  pub begun_lawful : AreOfLawful s.broker.records
  begun_lawful = subst AreOfLawful (sym records_are) (record { whole = whole; alike = u.over.alike; lawful = u.over.lawful })

  -- and does their opening
  pub begun_opens : (t : Stepping) → DidOpen limits now u.some t → HasOpened g limits now whole old t
  begun_opens t did = record { some = u.some; over = u.over; within = u.within; did = did }

  -- if that gives a number above the last, so does the opening of the whole records
  pub begun_spent : (fault : StepFault) (t : Stepping) → IsLeftOpen limits now u.some fault t → fault ≡ Spent → SpentOpening limits whole now
  begun_spent fault t left is =
      let spent = left.spent is in
      record { choice = spent.choice; spent = sym (opening_spent limits spent.choice now u.some whole u.over.alike) ∙ spent.spent }

  -- a refusal before the store is told leaves the store as it is
  pub untold_refused : (error : KeepError) (t : Stepping) → (error ≡ Memory) ⊎ (error ≡ Corrupt)
      → (error ≡ Corrupt → SpentOpening limits whole now) → IsOpeningTold g limits now whole old (Err error) old t
  untold_refused Memory t which spent = record {
    held = tt;
    same = λ fine. u.over.holds;
    spent = λ is. absurd cc;
    schema = λ is. absurd cc;
    cause = λ is. elim is [ inl e ↦ absurd cc | inr e ↦ absurd cc ];
    crash = λ after may. inl may;
    sound = λ sound. sound;
  }
  untold_refused Corrupt t which spent = record {
    held = tt;
    same = λ fine. u.over.holds;
    spent = λ is. spent refl;
    schema = λ is. absurd cc;
    cause = λ is. elim is [ inl e ↦ absurd cc | inr e ↦ absurd cc ];
    crash = λ after may. inl may;
    sound = λ sound. sound;
  }
  untold_refused Disk t (inl e) spent = absurd cc
  untold_refused Disk t (inr e) spent = absurd cc
  untold_refused Size t (inl e) spent = absurd cc
  untold_refused Size t (inr e) spent = absurd cc
  untold_refused Schema t (inl e) spent = absurd cc
  untold_refused Schema t (inr e) spent = absurd cc

-- ---- the store is told

module _ {K : Type 0} (g : Ghosts K) (limits : Capacity) (now : ℕ) (whole : Records) (old : K) (s : Stepping) (o : HasOpened g limits now whole old s) (unspent : is_spent s.rows ≡ false)
    (keep : K) (t : Stepping) (left : (r after : Records) → g.holds old r → CanStore s.rows r → g.leaves keep after → g.leaves old after ⊎ (after ≡ changed_all s.rows r))
    (sound : g.is_sound keep → g.is_sound old) where
  can : CanStore s.rows whole
  can = open_can_store limits now o.some whole o.over.alike s o.did o.within o.over.lawful unspent

  crash : (after : Records) → g.leaves keep after → g.leaves old after ⊎ ((after ≡ whole) ⊎ IsStoredAfter limits now whole after)
  crash after may = left_or (g.leaves old after) (λ is. open_left limits now o.some whole o.over.alike s o.did after unspent (inr is)) (left whole after o.over.holds can may)

  -- it has stored the opening
  pub told_held : ((r : Records) → g.holds old r → CanStore s.rows r → g.is_loaded keep × g.holds keep (changed_all s.rows r)) → t ≡ at_rest s.limits s.broker
      → IsOpeningTold g limits now whole old (Ok tt) keep t
  told_held stored rest =
      let its = stored whole o.over.holds can in
      let after = whole_after limits now o.some whole o.over.alike s o.did in
      let here : HoldsWhole g keep limits s.broker after = record {
        alike = open_alike limits now o.some whole o.over.alike s o.did;
        sound = open_sound limits now o.some whole o.over.alike s o.did o.within o.over.lawful unspent;
        loaded = its.0;
        holds = subst (λ (r : Records). g.holds keep r) (open_makes limits now o.some whole o.over.alike s o.did) its.1;
      } in
      record {
        held = record {
          after = after;
          opening = open_is limits now o.some whole o.over.alike s o.did unspent;
          its = subst (λ (b : Broker). HoldsWhole g keep limits b after) (sym (ap (λ (x : Stepping). x.broker) rest)) here;
          rest = rest_of limits s t (open_limits limits now o.some whole o.over.alike s o.did) rest;
        };
        same = λ fine. tt;
        spent = λ is. absurd cc;
        schema = λ is. absurd cc;
        cause = λ is. elim is [ inl e ↦ absurd cc | inr e ↦ absurd cc ];
        crash = crash;
        sound = sound;
      }

  -- or it refuses
  pub told_refused : (error : KeepError) → ((r : Records) → g.holds old r → CanStore s.rows r → (error ≡ Memory) ⊎ (error ≡ Size) → g.is_loaded keep × g.holds keep r)
      → (error ≡ Corrupt → ⊥) → (error ≡ Schema → ⊥) → ((error ≡ Disk) ⊎ (error ≡ Size) → g.counted keep ≢ g.counted old) → IsOpeningTold g limits now whole old (Err error) keep t
  told_refused error memory corrupt schema cause = record {
    held = tt;
    same = λ fine.
        let kept = memory whole o.over.holds can in
        kept_unless_disk error (λ e. (kept (inl e)).1) (λ e. (kept (inr e)).1) corrupt schema (λ e. fine (ap Err e));
    spent = λ is. let same : error ≡ Corrupt = cc in absurd (corrupt same);
    schema = λ is. let same : error ≡ Schema = cc in schema same;
    cause = λ is. elim is [
      | inl e ↦ let same : error ≡ Disk = cc in cause (inl same)
      | inr e ↦ let same : error ≡ Size = cc in cause (inr same)
    ];
    crash = crash;
    sound = sound;
  }
