-- Numbers, counters and births over a whole step, and over an opening.
use Rattle.std.proofs.Common.{◌≡◌, ℕ, ◌+◌, ◌≤◌, List, [], ◌∷◌, length, arith}
use Rattle.std.specs.Prelude.{⊤}
use Rattle.std.proofs.Math.Nat.{le-max_left, le-min}
use Rattle.mqtt_base.specs.declared.limits.TheConstants.{LAST_NUMBER}
use Rattle.mqtt_records.specs.declared.state.change.Change.{Change}
use Rattle.mqtt_records.specs.declared.state.records.Records.{Records}
use Rattle.mqtt_records.specs.lists.Order.{IsAbove, IsAscending}
use Rattle.mqtt_records.specs.state.Session.{number_of}
use Rattle.mqtt_records.proofs.lists_lemmas.OrderLemmas.{above_less}
use Rattle.mqtt_rules.specs.declared.step.Capacity.{Capacity}
use Rattle.mqtt_rules.specs.step.State.{Broker, capped, MemberChoice}
use Rattle.mqtt_rules.specs.step.Deeds.{Deed, after_all, rows_of_all}
use Rattle.mqtt_rules.specs.step.Step.{Call, deeds, at_moment, env_of, with_moment, done, stepped, opening, unopened, opened}
use Rattle.mqtt_rules.specs.step.Numbers.{CountsOn, CountOn, NoneFell, IsTimed, HasGivenBirths}
use Rattle.mqtt_rules.proofs.step_lemmas.acts.Goods.{AreGood}
use Rattle.mqtt_rules.proofs.step_lemmas.acts.ByDeeds.{leads_deeds, leads_opened}
use Rattle.mqtt_rules.proofs.step_lemmas.numbers.Counters.{moment_stays, now_stays}
use Rattle.mqtt_rules.proofs.step_lemmas.numbers.NumberFacts.{GivesNext, next_law, next_mark, births_count, publications_count, grants_count, names_count}
use Rattle.mqtt_rules.proofs.step_lemmas.numbers.NumberBirths.{given_all}

-- ---- numbers that count on

-- the last number is not below the one before the first
pub counts_grow : (n m : ℕ) (xs : List ℕ) → CountsOn n xs m → n ≤ m
counts_grow n m [] e = omega (arith, e)
counts_grow n m (x ∷ xs) h = let e = h.0 in let more = counts_grow x m xs h.1 in omega (arith, e, more)

-- each number given is above those given before
pub counts_above : (n m : ℕ) (xs : List ℕ) → CountsOn n xs m → IsAbove number_of n xs
counts_above n m [] h = tt
counts_above n m (x ∷ xs) h =
    let e = h.0 in
    (omega (arith, e), above_less number_of n x xs (omega (arith, e)) (counts_above x m xs h.1))

-- numbers given rise
pub counts_ascend : (n m : ℕ) (xs : List ℕ) → CountsOn n xs m → IsAscending number_of xs
counts_ascend n m [] h = tt
counts_ascend n m (x ∷ xs) h = (counts_above x m xs h.1, counts_ascend x m xs h.1)

-- the last number is as far from the first as numbers were given
pub counts_many : (n m : ℕ) (xs : List ℕ) → CountsOn n xs m → m ≡ n + length xs
counts_many n m [] e = omega (arith, e)
counts_many n m (x ∷ xs) h = let e = h.0 in let more = counts_many x m xs h.1 in omega (arith, e, more)

-- ---- the deeds that are done

-- setting the stored moment counts nothing
moment_counts : (rows : List Change) (ds : List Deed) (old : Records) (b : Broker) → CountOn ds old b.records → CountOn ds old (with_moment rows b).records
moment_counts [] ds old b h = h
moment_counts (row ∷ rows) ds old b h = h

count_done : (ds : List Deed) (b : Broker) → AreGood GivesNext ds b → CountOn ds b.records (done ds b).records
count_done ds b q =
    moment_counts (rows_of_all ds b.records) ds b.records (after_all ds b)
    (births_count ds b q, publications_count ds b q, grants_count ds b q, names_count ds b q)

none_fell : (ds : List Deed) (old new : Records) → CountOn ds old new → NoneFell old new
none_fell ds old new h =
    (counts_grow old.births new.births _ h.0, counts_grow old.publications new.publications _ h.1, counts_grow old.subscribes new.subscribes _ h.2, counts_grow old.autos new.autos _ h.3)

moment_given : (rows : List Change) (b : Broker) → HasGivenBirths b.records → HasGivenBirths (with_moment rows b).records
moment_given [] b h = h
moment_given (row ∷ rows) b h = h

given_done : (ds : List Deed) (b : Broker) → AreGood GivesNext ds b → HasGivenBirths b.records → HasGivenBirths (done ds b).records
given_done ds b q h = moment_given (rows_of_all ds b.records) (after_all ds b) (given_all ds b q h)

moment_timed : (rows : List Change) (b : Broker) (m : ℕ) → b.records.moment ≡ m → m ≤ b.now → (m ≤ (with_moment rows b).records.moment) × IsTimed (with_moment rows b)
moment_timed [] b m e h = (omega (arith, e), omega (arith, e, h))
moment_timed (row ∷ rows) b m e h = (h, omega arith)

timed_done : (ds : List Deed) (b : Broker) → IsTimed b → (b.records.moment ≤ (done ds b).records.moment) × IsTimed (done ds b)
timed_done ds b h =
    let stays = now_stays ds b in
    moment_timed (rows_of_all ds b.records) (after_all ds b) b.records.moment (moment_stays ds b) (omega (arith, stays, h))

-- ---- steps

step_next : (limits : Capacity) (choice : MemberChoice) (now : ℕ) (call : Call) (b : Broker) → AreGood GivesNext (deeds limits choice now call b) (at_moment now b)
step_next limits choice now call b = (leads_deeds (env_of limits choice b) (λ c. ⊤) GivesNext (next_law (env_of limits choice b)) next_mark call (at_moment now b) tt).0

-- a step's numbers count on
pub step_counts : (limits : Capacity) (choice : MemberChoice) (now : ℕ) (call : Call) (b : Broker) → CountOn (deeds limits choice now call b) b.records (stepped limits choice now call b).records
step_counts limits choice now call b = count_done (deeds limits choice now call b) (at_moment now b) (step_next limits choice now call b)

-- a step lowers no counter
pub step_fell : (limits : Capacity) (choice : MemberChoice) (now : ℕ) (call : Call) (b : Broker) → NoneFell b.records (stepped limits choice now call b).records
step_fell limits choice now call b = none_fell (deeds limits choice now call b) b.records (stepped limits choice now call b).records (step_counts limits choice now call b)

-- a step lowers no stored moment, and stores none that was not handed in
pub step_timed : (limits : Capacity) (choice : MemberChoice) (now : ℕ) (call : Call) (b : Broker) → IsTimed b
    → (b.records.moment ≤ (stepped limits choice now call b).records.moment) × IsTimed (stepped limits choice now call b)
step_timed limits choice now call b h =
    let more = le-max_left b.now (capped now) in
    timed_done (deeds limits choice now call b) (at_moment now b) (omega (arith, h, more))

-- behind a step each session has a birth that was given
pub step_given : (limits : Capacity) (choice : MemberChoice) (now : ℕ) (call : Call) (b : Broker) → HasGivenBirths b.records → HasGivenBirths (stepped limits choice now call b).records
step_given limits choice now call b h = given_done (deeds limits choice now call b) (at_moment now b) (step_next limits choice now call b) h

-- ---- opening

opening_next : (limits : Capacity) (choice : MemberChoice) (now : ℕ) (r : Records) → AreGood GivesNext (opening (env_of limits choice (unopened now r)) (unopened now r)) (unopened now r)
opening_next limits choice now r =
    let b = unopened now r in
    let env = env_of limits choice b in
    (leads_opened env (λ c. ⊤) GivesNext (next_law env) next_mark b tt).0

-- an opening's numbers count on
pub opening_counts : (limits : Capacity) (choice : MemberChoice) (now : ℕ) (r : Records)
    → CountOn (opening (env_of limits choice (unopened now r)) (unopened now r)) r (opened limits choice now r).records
opening_counts limits choice now r =
    count_done (opening (env_of limits choice (unopened now r)) (unopened now r)) (unopened now r) (opening_next limits choice now r)

-- an opening lowers no counter
pub opening_fell : (limits : Capacity) (choice : MemberChoice) (now : ℕ) (r : Records) → NoneFell r (opened limits choice now r).records
opening_fell limits choice now r = none_fell (opening (env_of limits choice (unopened now r)) (unopened now r)) r (opened limits choice now r).records (opening_counts limits choice now r)

-- an opening lowers no stored moment, and stores none that was not handed in
pub opening_timed : (limits : Capacity) (choice : MemberChoice) (now : ℕ) (r : Records) → r.moment ≤ LAST_NUMBER → (r.moment ≤ (opened limits choice now r).records.moment) × IsTimed (opened limits choice now r)
opening_timed limits choice now r within =
    let counts : r.moment ≤ capped r.moment = le-min (omega arith) within in
    let more = le-max_left (capped r.moment) (capped now) in
    timed_done (opening (env_of limits choice (unopened now r)) (unopened now r)) (unopened now r) (omega (arith, counts, more))

-- behind an opening each session has a birth that was given
pub opening_given : (limits : Capacity) (choice : MemberChoice) (now : ℕ) (r : Records) → HasGivenBirths r → HasGivenBirths (opened limits choice now r).records
opening_given limits choice now r h =
    given_done (opening (env_of limits choice (unopened now r)) (unopened now r)) (unopened now r) (opening_next limits choice now r) h
