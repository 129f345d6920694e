-- Changes are sorted into counters and rows.
use Rattle.std.proofs.Common.{◌≡◌, ◌≤◌, ℕ, List, [], ◌∷◌, ◌∙◌, ap, subst, refl, filter, arith}
use Rattle.std.specs.Prelude.{Option, Some, None}
use Rattle.mqtt_base.specs.declared.limits.TheConstants.{LAST_NUMBER}
use Rattle.mqtt_records.specs.declared.state.records.Records.{Records}
use Rattle.mqtt_records.specs.declared.state.change.Change.{Change}
use Rattle.mqtt_records.specs.declared.state.change.Change.TheVariants.{SetCounter, PutSession, SetSession, RemoveSession, PutWill, RemoveWill, PutSubscription, RemoveSubscription, PutInbound, RemoveInbound, PutCopy, SetCopy, RemoveCopy, PutRetained, RemoveRetained}
use Rattle.mqtt_records.specs.declared.state.change.Counter.{Counter}
use Rattle.mqtt_records.specs.declared.state.change.Counter.TheVariants.{Births, Publications, Subscribes, Autos, Moment}
use Rattle.mqtt_records.specs.declared.state.session.Session.{Session}
use Rattle.mqtt_records.specs.declared.messages.message.RetainedMessage.{RetainedMessage}
use Rattle.mqtt_records.specs.state.Contents.{FitContents}
use Rattle.mqtt_records.specs.state.Records.{FitAll, Fits, changed, changed_all, with_counter}
use Rattle.mqtt_records.specs.state.Saying.{AllSayable}
use Rattle.mqtt_serve.specs.declared.gathered.counts.Counts.{Counts}
use Rattle.mqtt_serve.specs.gathered.Counting.{AllRise, Rises, changes_rows, counts_after_all, newest, with_count, with_counts}

-- ---- a counter

-- a counter that is set over others takes the place of its older value
pub with_counter-counts : (counter : Counter) (value : ℕ) (s : Counts) (r : Records) → with_counter counter value (with_counts s r) ≡ with_counts (with_count counter value s) r
with_counter-counts Births value s r = refl
with_counter-counts Publications value s r = refl
with_counter-counts Subscribes value s r = refl
with_counter-counts Autos value s r = refl
with_counter-counts Moment value s r = refl

-- what doesn't fall below the newest doesn't fall below the old one
rises_over : (count : Option ℕ) (old value : ℕ) → Rises count old → (newest count old ≤ value) × (value ≤ LAST_NUMBER) → Rises (Some value) old
rises_over None old value rises fits = fits
rises_over (Some between) old value rises fits = (omega (arith, rises.0, fits.0), fits.1)

-- a counter that is set over others doesn't fall
pub rise_set : (counter : Counter) (value : ℕ) (s : Counts) (r : Records) → AllRise s r → Fits (SetCounter counter value) (with_counts s r) → AllRise (with_count counter value s) r
rise_set Births value s r rise fits = record { births = rises_over s.births r.births value rise.births fits; publications = rise.publications; subscribes = rise.subscribes; autos = rise.autos; moment = rise.moment }
rise_set Publications value s r rise fits = record { births = rise.births; publications = rises_over s.publications r.publications value rise.publications fits; subscribes = rise.subscribes; autos = rise.autos; moment = rise.moment }
rise_set Subscribes value s r rise fits = record { births = rise.births; publications = rise.publications; subscribes = rises_over s.subscribes r.subscribes value rise.subscribes fits; autos = rise.autos; moment = rise.moment }
rise_set Autos value s r rise fits = record { births = rise.births; publications = rise.publications; subscribes = rise.subscribes; autos = rises_over s.autos r.autos value rise.autos fits; moment = rise.moment }
rise_set Moment value s r rise fits = record { births = rise.births; publications = rise.publications; subscribes = rise.subscribes; autos = rise.autos; moment = rises_over s.moment r.moment value rise.moment fits }

-- ---- rows

-- rows have no part in the counters
rise_rows : (s : Counts) (r : Records) (sessions : List Session) (retained : List RetainedMessage) → AllRise s r → AllRise s (record r { sessions = sessions; retained = retained })
rise_rows s r sessions retained rise = record { births = rise.births; publications = rise.publications; subscribes = rise.subscribes; autos = rise.autos; moment = rise.moment }

-- changes over counters that were set make what their rows make, the counters set behind them
pub record Sorted (changes : List Change) (s : Counts) (r : Records) : Type 0 where
  pub made : changed_all changes (with_counts s r) ≡ with_counts (counts_after_all changes s) (changed_all (filter changes_rows changes) r)
  pub fit : FitAll (filter changes_rows changes) r
  pub sayable : AllSayable (filter changes_rows changes)
  pub contents : FitContents (filter changes_rows changes) r
  pub rise : AllRise (counts_after_all changes s) (changed_all (filter changes_rows changes) r)

-- changes that fit are sorted so
pub sorted : (changes : List Change) (s : Counts) (r : Records) → AllRise s r → FitAll changes (with_counts s r) → AllSayable changes → FitContents changes (with_counts s r) → Sorted changes s r
sorted [] s r rise fit say same = record { made = refl; fit = tt; sayable = tt; contents = tt; rise = rise }
sorted (SetCounter counter value ∷ cs) s r rise fit say same =
    let now = with_counter-counts counter value s r in
    let rest = sorted cs (with_count counter value s) r (rise_set counter value s r rise fit.0)
    (subst (FitAll cs) now fit.1) say.1 (subst (FitContents cs) now same.1) in
    record { made = ap (changed_all cs) now ∙ rest.made; fit = rest.fit; sayable = rest.sayable; contents = rest.contents; rise = rest.rise }
sorted (PutSession row ∷ cs) s r rise fit say same =
    let now = changed (PutSession row) r in
    let rest = sorted cs s now (rise_rows s r now.sessions now.retained rise) fit.1 say.1 same.1 in
    record { made = rest.made; fit = (fit.0, rest.fit); sayable = (say.0, rest.sayable); contents = (same.0, rest.contents); rise = rest.rise }
sorted (SetSession row ∷ cs) s r rise fit say same =
    let now = changed (SetSession row) r in
    let rest = sorted cs s now (rise_rows s r now.sessions now.retained rise) fit.1 say.1 same.1 in
    record { made = rest.made; fit = (fit.0, rest.fit); sayable = (say.0, rest.sayable); contents = (same.0, rest.contents); rise = rest.rise }
sorted (RemoveSession birth ∷ cs) s r rise fit say same =
    let now = changed (RemoveSession birth) r in
    let rest = sorted cs s now (rise_rows s r now.sessions now.retained rise) fit.1 say.1 same.1 in
    record { made = rest.made; fit = (fit.0, rest.fit); sayable = (say.0, rest.sayable); contents = (same.0, rest.contents); rise = rest.rise }
sorted (PutWill birth will ∷ cs) s r rise fit say same =
    let now = changed (PutWill birth will) r in
    let rest = sorted cs s now (rise_rows s r now.sessions now.retained rise) fit.1 say.1 same.1 in
    record { made = rest.made; fit = (fit.0, rest.fit); sayable = (say.0, rest.sayable); contents = (same.0, rest.contents); rise = rest.rise }
sorted (RemoveWill birth ∷ cs) s r rise fit say same =
    let now = changed (RemoveWill birth) r in
    let rest = sorted cs s now (rise_rows s r now.sessions now.retained rise) fit.1 say.1 same.1 in
    record { made = rest.made; fit = (fit.0, rest.fit); sayable = (say.0, rest.sayable); contents = (same.0, rest.contents); rise = rest.rise }
sorted (PutSubscription birth subscription ∷ cs) s r rise fit say same =
    let now = changed (PutSubscription birth subscription) r in
    let rest = sorted cs s now (rise_rows s r now.sessions now.retained rise) fit.1 say.1 same.1 in
    record { made = rest.made; fit = (fit.0, rest.fit); sayable = (say.0, rest.sayable); contents = (same.0, rest.contents); rise = rest.rise }
sorted (RemoveSubscription birth text ∷ cs) s r rise fit say same =
    let now = changed (RemoveSubscription birth text) r in
    let rest = sorted cs s now (rise_rows s r now.sessions now.retained rise) fit.1 say.1 same.1 in
    record { made = rest.made; fit = (fit.0, rest.fit); sayable = (say.0, rest.sayable); contents = (same.0, rest.contents); rise = rest.rise }
sorted (PutInbound birth identifier ∷ cs) s r rise fit say same =
    let now = changed (PutInbound birth identifier) r in
    let rest = sorted cs s now (rise_rows s r now.sessions now.retained rise) fit.1 say.1 same.1 in
    record { made = rest.made; fit = (fit.0, rest.fit); sayable = (say.0, rest.sayable); contents = (same.0, rest.contents); rise = rest.rise }
sorted (RemoveInbound birth identifier ∷ cs) s r rise fit say same =
    let now = changed (RemoveInbound birth identifier) r in
    let rest = sorted cs s now (rise_rows s r now.sessions now.retained rise) fit.1 say.1 same.1 in
    record { made = rest.made; fit = (fit.0, rest.fit); sayable = (say.0, rest.sayable); contents = (same.0, rest.contents); rise = rest.rise }
sorted (PutCopy birth row ∷ cs) s r rise fit say same =
    let now = changed (PutCopy birth row) r in
    let rest = sorted cs s now (rise_rows s r now.sessions now.retained rise) fit.1 say.1 same.1 in
    record { made = rest.made; fit = (fit.0, rest.fit); sayable = (say.0, rest.sayable); contents = (same.0, rest.contents); rise = rest.rise }
sorted (SetCopy birth place phase ∷ cs) s r rise fit say same =
    let now = changed (SetCopy birth place phase) r in
    let rest = sorted cs s now (rise_rows s r now.sessions now.retained rise) fit.1 say.1 same.1 in
    record { made = rest.made; fit = (fit.0, rest.fit); sayable = (say.0, rest.sayable); contents = (same.0, rest.contents); rise = rest.rise }
sorted (RemoveCopy birth place ∷ cs) s r rise fit say same =
    let now = changed (RemoveCopy birth place) r in
    let rest = sorted cs s now (rise_rows s r now.sessions now.retained rise) fit.1 say.1 same.1 in
    record { made = rest.made; fit = (fit.0, rest.fit); sayable = (say.0, rest.sayable); contents = (same.0, rest.contents); rise = rest.rise }
sorted (PutRetained kept ∷ cs) s r rise fit say same =
    let now = changed (PutRetained kept) r in
    let rest = sorted cs s now (rise_rows s r now.sessions now.retained rise) fit.1 say.1 same.1 in
    record { made = rest.made; fit = (fit.0, rest.fit); sayable = (say.0, rest.sayable); contents = (same.0, rest.contents); rise = rest.rise }
sorted (RemoveRetained place ∷ cs) s r rise fit say same =
    let now = changed (RemoveRetained place) r in
    let rest = sorted cs s now (rise_rows s r now.sessions now.retained rise) fit.1 say.1 same.1 in
    record { made = rest.made; fit = (fit.0, rest.fit); sayable = (say.0, rest.sayable); contents = (same.0, rest.contents); rise = rest.rise }
