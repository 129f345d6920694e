-- For how many copies a queue has room if the oldest that wait give way.
use Rattle.std.proofs.Common.{◌≡◌, ℕ, ◌<◌, ◌+◌, Bool, true, false, cond, not, ◌&&◌, nat_lt, List, [], ◌∷◌, map, refl, ap, sym, ◌∙◌, arith}
use Rattle.std.specs.Prelude.{Option, Some, None, option_map, find}
use Rattle.std.specs.List.{count_by}
use Rattle.std.proofs.lemmas.Bool.{lt-ltb}
use Rattle.mqtt_flow.specs.declared.outbound.entry.Entry.{Entry}
use Rattle.std.proofs.lemmas.List.Sums.{sum_by-cons}
use Rattle.std.proofs.lemmas.List.Folds.{fold-map}
use Rattle.mqtt_flow.specs.declared.outbound.entry.Full.TheVariants.{Drop}
use Rattle.mqtt_flow.specs.outbound.Outbound.{is_waiting, gives_way, staying}
use Rattle.mqtt_records.specs.messages.Queue.{CopyRow}
use Rattle.mqtt_records.specs.state.Session.{copy_place}
use Rattle.mqtt_routes.specs.routing.Intended.{greatest}
use Rattle.mqtt_records.specs.declared.state.session.Session.{Session}
use Rattle.mqtt_rules.specs.step.Outbound.{first_given, is_new, since}
use Rattle.mqtt_rules.specs.step.State.{entry_on, next_of, queue_on}
use Rattle.mqtt_broker_step.specs.Stepping.{Stepping, env_in}
use Rattle.mqtt_broker_queue.specs.queues.Entering.{gives_way_to, staying_of}

abbrev stays : ℕ → List CopyRow → ℕ
stays since queue = staying Drop since (map (entry_on []) queue)

and_true : (a b : Bool) → b ≡ true → (a && b) ≡ a
and_true true b h = h
and_true false b h = refl

-- of rows that stand before a place
abbrev stay_in : ℕ → List CopyRow → ℕ
stay_in since queue = count_by (λ e. not (is_waiting e.phase && nat_lt e.place since)) queue

stay_mapped : (since : ℕ) (queue : List CopyRow) → stay_in since queue ≡ stays since queue
stay_mapped since queue = sym (fold-map (λ n (e : Entry). n + cond (not (gives_way since e)) 1 0) (entry_on []) 0 queue)

-- all stand before the next place
stay_all : (n : ℕ) (queue : List CopyRow) → greatest (map copy_place queue) < n → count_by (λ e. not (gives_way_to None e)) queue ≡ stay_in n queue
stay_all n [] low = refl
stay_all n (e ∷ es) low =
    let rest = stay_all n es (omega (arith, low)) in
    let before : (is_waiting e.phase && nat_lt e.place n) ≡ is_waiting e.phase = and_true (is_waiting e.phase) (nat_lt e.place n) (lt-ltb e.place n (omega (arith, low))) in
    let left = sum_by-cons (λ (y : CopyRow). cond (not (gives_way_to None y)) 1 0) e es in
    let right = sum_by-cons (λ (y : CopyRow). cond (not (is_waiting y.phase && nat_lt y.place n)) 1 0) e es in
    let same : ◌≡◌ {A = ℕ} (cond (not (is_waiting e.phase && nat_lt e.place n)) 1 0) (cond (not (is_waiting e.phase)) 1 0) = ap (λ (b : Bool). cond (not b) 1 0) before in
    omega (arith, rest, left, right, same)

-- the copies that don't give way are those that stay
pub staying_is : (o : Option CopyRow) (queue : List CopyRow) → count_by (λ e. not (gives_way_to (option_map copy_place o) e)) queue ≡ stays (first_given o queue) queue
staying_is None queue = stay_all (next_of copy_place queue) queue (omega arith) ∙ stay_mapped (next_of copy_place queue) queue
staying_is (Some e) queue = stay_mapped e.place queue

-- the copies that don't give way, as they are counted here, are as many as the rules have staying
pub staying_by : (s : Stepping) (x : Session) (first : Option ℕ) (queue : List CopyRow) (n : ℕ) → s.limits.full ≡ Drop → queue ≡ x.queue
    → first ≡ option_map copy_place (find (λ e. is_new s.start.records e.copy) queue) → n ≡ count_by (λ e. not (gives_way_to first e)) queue → n ≡ staying_of s x
staying_by s x first queue n full queue_is first_is n_is =
    n_is
    ∙ (ap (λ (f : Option ℕ). count_by (λ e. not (gives_way_to f e)) queue) first_is
    ∙ (ap (λ (q : List CopyRow). count_by (λ e. not (gives_way_to (option_map copy_place (find (λ e. is_new s.start.records e.copy) q)) e)) q) queue_is
    ∙ (staying_is (find (λ e. is_new s.start.records e.copy) x.queue) x.queue
    ∙ ap (λ f. staying f (since (env_in (λ number sender. []) s) x) (queue_on [] x)) (sym full))))
