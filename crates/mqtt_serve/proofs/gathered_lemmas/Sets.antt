-- Counters that were set are written, each by one change.
use Rattle.std.proofs.Common.{◌≡◌, ℕ, List, ◌++◌, ◌∙◌, ap, sym, subst, refl}
use Rattle.std.specs.Prelude.{Option, Some, None}
use Rattle.mqtt_records.specs.declared.state.records.Records.{Records}
use Rattle.mqtt_records.specs.declared.state.change.Change.{Change}
use Rattle.mqtt_records.specs.declared.state.change.Counter.{Counter}
use Rattle.mqtt_records.specs.declared.state.change.Counter.TheVariants.{Births, Publications, Subscribes, Autos, Moment}
use Rattle.mqtt_records.specs.state.Contents.{FitContents}
use Rattle.mqtt_records.specs.state.Records.{FitAll, changed_all, counter_of, with_counter}
use Rattle.mqtt_records.specs.state.Saying.{AllSayable}
use Rattle.mqtt_serve.specs.declared.gathered.counts.Counts.{Counts}
use Rattle.mqtt_serve.specs.gathered.Counting.{AllRise, Rises, newest, set_of, sets_of, with_counts}
use Rattle.mqtt_serve.proofs.gathered_lemmas.Joined.{all_joined, contents_joined, fit_joined, sayable_joined}

-- ---- one counter

-- its change makes its newest value
set_makes : (counter : Counter) (count : Option ℕ) (r : Records) → changed_all (set_of counter count) r ≡ with_counter counter (newest count (counter_of counter r)) r
set_makes Births None r = refl
set_makes Publications None r = refl
set_makes Subscribes None r = refl
set_makes Autos None r = refl
set_makes Moment None r = refl
set_makes counter (Some value) r = refl

set_fits : (counter : Counter) (count : Option ℕ) (r : Records) → Rises count (counter_of counter r) → FitAll (set_of counter count) r
set_fits counter None r rises = tt
set_fits counter (Some value) r rises = (rises, tt)

set_sayable : (counter : Counter) (count : Option ℕ) → AllSayable (set_of counter count)
set_sayable counter None = tt
set_sayable counter (Some value) = (tt, tt)

set_contents : (counter : Counter) (count : Option ℕ) (r : Records) → FitContents (set_of counter count) r
set_contents counter None r = tt
set_contents counter (Some value) r = (tt, tt)

-- ---- one behind the other

-- changes fit, and make these
pub record Sets (changes : List Change) (r now : Records) : Type 0 where
  pub made : changed_all changes r ≡ now
  pub fit : FitAll changes r
  pub sayable : AllSayable changes
  pub contents : FitContents changes r

-- one more counter is set behind those before
and_then : (counter : Counter) (count : Option ℕ) (before : List Change) (r now : Records) → Rises count (counter_of counter now)
    → Sets before r now → Sets (before ++ set_of counter count) r (with_counter counter (newest count (counter_of counter now)) now)
and_then counter count before r now rises h = record {
  made = all_joined before (set_of counter count) r ∙ ap (changed_all (set_of counter count)) h.made ∙ set_makes counter count now;
  fit = fit_joined before (set_of counter count) r h.fit (subst (FitAll (set_of counter count)) (sym h.made) (set_fits counter count now rises));
  sayable = sayable_joined before (set_of counter count) h.sayable (set_sayable counter count);
  contents = contents_joined before (set_of counter count) r h.contents (set_contents counter count _);
}

-- all five make the records whose counters have these values, and fit where none falls
pub sets_made : (s : Counts) (r : Records) → AllRise s r → Sets (sets_of s) r (with_counts s r)
sets_made s r rise =
    and_then Moment s.moment _ r _ rise.moment
    (and_then Autos s.autos _ r _ rise.autos
    (and_then Subscribes s.subscribes _ r _ rise.subscribes
    (and_then Publications s.publications _ r _ rise.publications
    (record {
      made = set_makes Births s.births r;
      fit = set_fits Births s.births r rise.births;
      sayable = set_sayable Births s.births;
      contents = set_contents Births s.births r;
    }))))
