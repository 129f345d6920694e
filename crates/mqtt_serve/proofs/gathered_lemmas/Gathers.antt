-- Changes are gathered, and written.
use Rattle.std.proofs.Common.{◌≡◌, ◌⊎◌, List, [], ◌++◌, ◌∙◌, ap, sym, subst, refl, inl, inr, filter}
use Rattle.mqtt_records.specs.declared.state.records.Records.{Records}
use Rattle.mqtt_records.specs.declared.state.change.Change.{Change}
use Rattle.mqtt_records.specs.state.Contents.{FitContents}
use Rattle.mqtt_records.specs.state.Records.{FitAll, changed_all}
use Rattle.mqtt_records.specs.state.Saying.{AllSayable}
use Rattle.mqtt_serve.specs.declared.gathered.counts.Counts.{Counts}
use Rattle.mqtt_serve.specs.gathered.Counting.{AllRise, changes_rows, counts_after_all, no_counts, sets_of, with_counts}
use Rattle.mqtt_serve.specs.gathered.Gathering.{Holding, NothingWaits, nothing_made}
use Rattle.mqtt_serve.proofs.gathered_lemmas.Sorted.{sorted}
use Rattle.mqtt_serve.proofs.gathered_lemmas.Joined.{all_joined, contents_joined, fit_joined, sayable_joined}
use Rattle.mqtt_serve.proofs.gathered_lemmas.Sets.{sets_made}

-- ---- more is gathered

-- more changes come: their rows behind those that were gathered, and their counters are set
gathers_sorted : {K : Type 0} (holds : K → Records → Type 0) (keep : K) (old more : List Change) (counts : Counts) (r : Records)
    → Holding holds keep old counts r → FitAll more r → AllSayable more → FitContents more r
    → Holding holds keep (old ++ filter changes_rows more) (counts_after_all more counts) (changed_all more r)
gathers_sorted holds keep old more counts r h fit say same =
    let between = changed_all old h.start in
    let rows = filter changes_rows more in
    let its = sorted more counts between h.rise (subst (FitAll more) h.made fit) say (subst (FitContents more) h.made same) in
    let joined = all_joined old rows h.start in
    record {
      start = h.start;
      has = h.has;
      fit = fit_joined old rows h.start h.fit its.fit;
      sayable = sayable_joined old rows h.sayable its.sayable;
      contents = contents_joined old rows h.start h.contents its.contents;
      rise = subst (AllRise (counts_after_all more counts)) (sym joined) its.rise;
      made = ap (changed_all more) h.made ∙ its.made ∙ ap (with_counts (counts_after_all more counts)) (sym joined);
    }

-- it is held as the list and the counters that it has
held_as : {K : Type 0} (holds : K → Records → Type 0) (keep : K) (old new : List Change) (was now : Counts) (r : Records) → new ≡ old → now ≡ was → Holding holds keep old was r → Holding holds keep new now r
held_as holds keep old new was now r list counts h =
    subst (λ (cs : List Change). Holding holds keep cs now r) (sym list) (subst (λ (s : Counts). Holding holds keep old s r) (sym counts) h)

-- more changes come behind those that were gathered, and their counters into the counts
pub gathers : {K : Type 0} (holds : K → Records → Type 0) (keep : K) (old more new : List Change) (counts now : Counts) (r : Records)
    → Holding holds keep old counts r → FitAll more r → AllSayable more → FitContents more r
    → new ≡ old ++ filter changes_rows more → now ≡ counts_after_all more counts → Holding holds keep new now (changed_all more r)
gathers holds keep old more new counts now r h fit say same list is =
    held_as holds keep (old ++ filter changes_rows more) new (counts_after_all more counts) now (changed_all more r) list is (gathers_sorted holds keep old more counts r h fit say same)

-- ---- nothing waits

-- its store has them, and nothing waits
pub emptied : {K : Type 0} (holds : K → Records → Type 0) (keep : K) (changes : List Change) (counts : Counts) (r : Records) → NothingWaits changes counts → holds keep r → Holding holds keep changes counts r
emptied holds keep changes counts r none has =
    held_as holds keep [] changes no_counts counts r none.0 none.1 (record {
      start = r;
      has = has;
      fit = tt;
      sayable = tt;
      contents = tt;
      rise = record { births = tt; publications = tt; subscribes = tt; autos = tt; moment = tt };
      made = refl;
    })

-- nothing waits, so its store has them
pub has_all : {K : Type 0} (holds : K → Records → Type 0) (keep : K) (changes : List Change) (counts : Counts) (r : Records) → NothingWaits changes counts → Holding holds keep changes counts r → holds keep r
has_all holds keep changes counts r none h = subst (holds keep) (sym (h.made ∙ nothing_made changes counts h.start none)) h.has

-- ---- the counters that were set come behind the list

listed_whole : {K : Type 0} (holds : K → Records → Type 0) (keep : K) (changes : List Change) (counts : Counts) (r : Records) → Holding holds keep changes counts r → Holding holds keep (changes ++ sets_of counts) no_counts r
listed_whole holds keep changes counts r h =
    let its = sets_made counts (changed_all changes h.start) h.rise in
    record {
      start = h.start;
      has = h.has;
      fit = fit_joined changes (sets_of counts) h.start h.fit its.fit;
      sayable = sayable_joined changes (sets_of counts) h.sayable its.sayable;
      contents = contents_joined changes (sets_of counts) h.start h.contents its.contents;
      rise = record { births = tt; publications = tt; subscribes = tt; autos = tt; moment = tt };
      made = h.made ∙ sym (all_joined changes (sets_of counts) h.start ∙ its.made);
    }

-- the list makes what list and counters made
pub listed : {K : Type 0} (holds : K → Records → Type 0) (keep : K) (changes list : List Change) (counts now : Counts) (r : Records)
    → list ≡ changes ++ sets_of counts → now ≡ no_counts → Holding holds keep changes counts r → Holding holds keep list now r
listed holds keep changes list counts now r is none h =
    held_as holds keep (changes ++ sets_of counts) list no_counts now r is none (listed_whole holds keep changes counts r h)

-- ---- a store is told a list, no counter set beside it

-- it has what was gathered
pub told_all : {K : Type 0} (holds : K → Records → Type 0) (keep new : K) (list : List Change) (counts : Counts) (r : Records) → counts ≡ no_counts → Holding holds keep list counts r
    → ((start : Records) → holds keep start → FitAll list start → AllSayable list → FitContents list start → holds new (changed_all list start))
    → holds new r
told_all holds keep new list counts r none h told =
    subst (holds new) (sym (h.made ∙ ap (λ (s : Counts). with_counts s (changed_all list h.start)) none)) (told h.start h.has h.fit h.sayable h.contents)

-- it has what it had, and the list waits on
pub waits_on : {K : Type 0} (holds : K → Records → Type 0) (keep new : K) (list : List Change) (counts : Counts) (r : Records) → Holding holds keep list counts r
    → ((start : Records) → holds keep start → FitAll list start → AllSayable list → FitContents list start → holds new start)
    → Holding holds new list counts r
waits_on holds keep new list counts r h told = record {
  start = h.start;
  has = told h.start h.has h.fit h.sayable h.contents;
  fit = h.fit;
  sayable = h.sayable;
  contents = h.contents;
  rise = h.rise;
  made = h.made;
}

-- what a crash leaves of it
pub left_told : {K : Type 0} (holds : K → Records → Type 0) (keep : K) (before : Type 0) (list : List Change) (counts : Counts) (r left : Records) → counts ≡ no_counts → Holding holds keep list counts r
    → ((start : Records) → holds keep start → FitAll list start → AllSayable list → FitContents list start → before ⊎ (left ≡ changed_all list start))
    → before ⊎ (left ≡ r)
left_told holds keep before list counts r left none h told = elim (told h.start h.has h.fit h.sayable h.contents) [
  | inl was ↦ inl was
  | inr is ↦ inr (is ∙ sym (h.made ∙ ap (λ (s : Counts). with_counts s (changed_all list h.start)) none))
]

-- and then of what came behind
pub left_then : (before between : Type 0) (r left : Records) → (between → before ⊎ (left ≡ r)) → between ⊎ (left ≡ r) → before ⊎ (left ≡ r)
left_then before between r left first (inl b) = first b
left_then before between r left first (inr is) = inr is
