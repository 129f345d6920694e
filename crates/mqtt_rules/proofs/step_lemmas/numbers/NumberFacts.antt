-- What deeds make of the counters, and that each number given is the next one.
use Rattle.std.proofs.Common.{◌≡◌, ℕ, List, [], ◌∷◌, Some, None, refl, ap, subst}
use Rattle.std.specs.Prelude.{⊤, suc, filter_map}
use Rattle.mqtt_rules.specs.step.State.{Broker, Env}
use Rattle.mqtt_rules.specs.step.Deeds.{Deed, Accept, Begin, Name, Count, after, after_all}
use Rattle.mqtt_rules.specs.step.Numbers.{CountsOn, birth_given, publication_given, grant_given, name_given}
use Rattle.mqtt_rules.proofs.step_lemmas.numbers.Counters.{Counts, counts_deed}
use Rattle.mqtt_rules.proofs.step_lemmas.acts.Goods.{AreGood}
use Rattle.mqtt_rules.proofs.step_lemmas.acts.Acts.{anyone, finds_anyone}
use Rattle.mqtt_rules.proofs.step_lemmas.acts.ByDeeds.{DeedLaw, MarkLaw}

-- deeds that give the next number
abbrev pub GivesNext : Deed → Broker → Type 0
GivesNext (Accept number origin m) b = number ≡ suc b.records.publications
GivesNext (Begin row will) b = row.birth ≡ suc b.records.births
GivesNext (Name n) b = n ≡ suc b.records.autos
GivesNext (Count n) b = n ≡ suc b.records.subscribes
GivesNext d b = ⊤

-- every deed of every act gives the next number, if it gives any
pub next_law : (env : Env) → DeedLaw env anyone (λ b. ⊤) GivesNext
next_law env = record {
  finds = finds_anyone (λ b. ⊤);
  client_stays = λ client d b k g its. tt;
  kept = λ d b k g. tt;
  accept = λ origin m b k said. refl;
  keep = λ m b k said is full found. tt;
  forget = λ place b k. tt;
  enter = λ who copy b k made. tt;
  leave = λ who e ending b k. tt;
  refuse_will = λ who b k its. tt;
  open_id = λ s id m ds b k h its there new is. tt;
  alone = λ who part b k its is. tt;
  close = λ who b k its. tt;
  finish = λ who b k its. tt;
  resume = λ who expiry will b k its. tt;
  name = λ b k. refl;
  begin_given = λ c b k came taken name is room. refl;
  begin_assigned = λ c b k h came taken room. refl;
  count = λ b k. refl;
  subscribe = λ w s b k h its granted. tt;
  link = λ b k. tt;
  on_line = λ line part b k. tt;
  send = λ line packet b k. tt;
  gone = λ line b k. tt;
}

-- marking a copy gives no number
pub next_mark : MarkLaw (λ b. ⊤) GivesNext
next_mark who place phase b k = tt

-- ---- counting on

from : (n k m : ℕ) (xs : List ℕ) → k ≡ n → CountsOn k xs m → CountsOn n xs m
from n k m xs e h = subst (λ (i : ℕ). CountsOn i xs m) e h

-- births that deeds give count on from the last
pub births_count : (ds : List Deed) (b : Broker) → AreGood GivesNext ds b → CountsOn b.records.births (filter_map birth_given ds) (after_all ds b).records.births
births_count [] b q = refl
births_count (Begin row None ∷ ds) b q = (q.0, births_count ds (after (Begin row None) b) q.1)
births_count (Begin row (Some will) ∷ ds) b q = (q.0, births_count ds (after (Begin row (Some will)) b) q.1)
births_count (d ∷ ds) b q = from b.records.births (after d b).records.births _ (filter_map birth_given ds) (ap (λ (c : Counts). c.births) (counts_deed d b.records)) (births_count ds (after d b) q.1)

-- numbers of publications count on from the last
pub publications_count : (ds : List Deed) (b : Broker) → AreGood GivesNext ds b → CountsOn b.records.publications (filter_map publication_given ds) (after_all ds b).records.publications
publications_count [] b q = refl
publications_count (Accept number origin m ∷ ds) b q = (q.0, publications_count ds (after (Accept number origin m) b) q.1)
publications_count (d ∷ ds) b q = from b.records.publications (after d b).records.publications _ (filter_map publication_given ds) (ap (λ (c : Counts). c.publications) (counts_deed d b.records)) (publications_count ds (after d b) q.1)

-- numbers of granted filters count on from the last
pub grants_count : (ds : List Deed) (b : Broker) → AreGood GivesNext ds b → CountsOn b.records.subscribes (filter_map grant_given ds) (after_all ds b).records.subscribes
grants_count [] b q = refl
grants_count (Count n ∷ ds) b q = (q.0, grants_count ds (after (Count n) b) q.1)
grants_count (d ∷ ds) b q = from b.records.subscribes (after d b).records.subscribes _ (filter_map grant_given ds) (ap (λ (c : Counts). c.subscribes) (counts_deed d b.records)) (grants_count ds (after d b) q.1)

-- numbers of assigned names count on from the last
pub names_count : (ds : List Deed) (b : Broker) → AreGood GivesNext ds b → CountsOn b.records.autos (filter_map name_given ds) (after_all ds b).records.autos
names_count [] b q = refl
names_count (Name n ∷ ds) b q = (q.0, names_count ds (after (Name n) b) q.1)
names_count (d ∷ ds) b q = from b.records.autos (after d b).records.autos _ (filter_map name_given ds) (ap (λ (c : Counts). c.autos) (counts_deed d b.records)) (names_count ds (after d b) q.1)
