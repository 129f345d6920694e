-- What a store has that gathers changes (MQTT 5.0, 4.1).
use Rattle.std.specs.Prelude.{◌≡◌, List, []}
use Rattle.std.proofs.Common.{◌∙◌, ap, sym}
use Rattle.mqtt_records.specs.declared.state.records.Records.{Records}
use Rattle.mqtt_records.specs.declared.state.change.Change.{Change}
use Rattle.mqtt_records.specs.state.Contents.{FitContents}
use Rattle.mqtt_records.specs.state.Records.{FitAll, changed_all}
use Rattle.mqtt_records.specs.state.Saying.{AllSayable}
use Rattle.mqtt_serve.specs.declared.gathered.counts.Counts.{Counts}
use Rattle.mqtt_serve.specs.gathered.Counting.{AllRise, no_counts, with_counts}

-- its store has records that the gathered changes of rows fit; with the counters that were set, none of which falls, they make these
pub record Holding {K : Type 0} (holds : K → Records → Type 0) (keep : K) (changes : List Change) (counts : Counts) (r : Records) : Type 0 where
  pub start : Records
  pub has : holds keep start
  pub fit : FitAll changes start
  pub sayable : AllSayable changes
  pub contents : FitContents changes start
  pub rise : AllRise counts (changed_all changes start)
  pub made : r ≡ with_counts counts (changed_all changes start)

-- nothing waits to be written
abbrev pub NothingWaits : List Change → Counts → Type 0
NothingWaits changes counts = (changes ≡ []) × (counts ≡ no_counts)

-- what then was gathered makes nothing new
pub nothing_made : (changes : List Change) (counts : Counts) (start : Records) → NothingWaits changes counts → with_counts counts (changed_all changes start) ≡ start
nothing_made changes counts start none =
    ap (λ (s : Counts). with_counts s (changed_all changes start)) none.1 ∙ ap (λ (cs : List Change). changed_all cs start) none.0

-- a crash leaves what a settled store has
pub settled_leaves : {K : Type 0} (holds : K → Records → Type 0) (is_settled : K → Type 0) (leaves : K → Records → Type 0)
    → ((keep : K) (left r : Records) → is_settled keep → holds keep r → leaves keep left → left ≡ r)
    → (keep : K) (changes : List Change) (counts : Counts) (left r : Records) → is_settled keep × NothingWaits changes counts → Holding holds keep changes counts r → leaves keep left → left ≡ r
settled_leaves holds is_settled leaves held keep changes counts left r settled h found =
    held keep left h.start settled.0 h.has found ∙ sym (h.made ∙ nothing_made changes counts h.start settled.1)
