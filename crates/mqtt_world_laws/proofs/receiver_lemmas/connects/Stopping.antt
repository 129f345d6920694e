-- The broker stops, before the commit of what it was asked for or after it, and restarts.
use Rattle.std.proofs.Common.{◌≡◌, ℕ, ◌≤◌, Bool, true, false, cond, List, [], ◌∷◌, ◌++◌, map, Option, Some, None, bytes_eq, nat_eq, refl, sym, ap, subst, ◌∙◌, append_assoc, append-nil, arith, inl, inr}
use Rattle.std.specs.List.{AllByRecursion, starts_with}
use Rattle.std.specs.Prelude.{◌≢◌, is_some}
use Rattle.std.proofs.lemmas.Bool.{cases_Bool}
use Rattle.mqtt_base.specs.declared.session.CopyId.{CopyId}
use Rattle.mqtt_packet.specs.declared.codec.packet.Packet.{Packet}
use Rattle.mqtt_packet.specs.declared.codec.packet.Packet.TheVariants as packets
use Rattle.mqtt_topic.specs.names.Aliases.{AliasTable, after_resolve, no_aliases}
use Rattle.mqtt_world_model.specs.model.Ends.{Receiver}
use Rattle.mqtt_world_model.specs.model.Lines.{known_by, restarted}
use Rattle.mqtt_world_model.specs.model.World.{Asking, Setting, World, before, break, call_of, calls_if, happens, linked_at, old_to_broker, pump, receiver_restarted, receiver_told, restart, stop_after, stop_before, stranger, stranger_named, taken_old, taken_up, tick, to_broker}
use Rattle.mqtt_records.specs.state.Session.{auto}
use Rattle.mqtt_rules.proofs.step_lemmas.numbers.Copies.{each_append}
use Rattle.mqtt_rules.proofs.step_lemmas.flight.FlightRows.{all_more}
use Rattle.mqtt_rules.proofs.step_lemmas.numbers.NumberSteps.{opening_fell, step_fell}
use Rattle.mqtt_rules.proofs.step_lemmas.order.OrderedSteps.{opening-ordered, step-ordered}
use Rattle.mqtt_rules.specs.step.State.{Broker, MemberChoice}
use Rattle.mqtt_rules.specs.step.Step.{Call, NewLine, Outcome, at_moment, can_link, opened, stepped, told}
use Rattle.mqtt_rules.specs.declared.step.Capacity.{Capacity}
use Rattle.mqtt_rules.specs.telling.Meaning.{after_reading, after_reading_all, alias_on, on_line}
use Rattle.mqtt_world_laws.proofs.acceptance_lemmas.copies.Differ.{AreApart, differ_join}
use Rattle.mqtt_world_laws.specs.receiver.Own.{IsInStep}
use Rattle.mqtt_world_laws.specs.receiver.Restarts.{AreAlike, reopened, stopped_after}
use Rattle.mqtt_world_laws.specs.receiver.Served.{GoesOn, HasLines, IsCallOfOthers, IsNewCopy, IsServed, IsTidy, RunsFor, RunsWithAll}
use Rattle.mqtt_world_laws.specs.receiver.Tags.{AreNumbered}
use Rattle.mqtt_world_laws.proofs.receiver_lemmas.others.CallsOfOthers.{others_go_on}
use Rattle.mqtt_world_laws.proofs.receiver_lemmas.connects.Restarting.{restart_goes_on}

-- ---- the tables stay in order

-- a step leaves a tidy broker tidy
pub step_tidy : (limits : Capacity) (choice : MemberChoice) (now : ℕ) (call : Call) (b : Broker) → IsTidy limits b → IsTidy limits (stepped limits choice now call b)
step_tidy limits choice now call b t = record {
  ordered = step-ordered limits choice now call b t.ordered;
  within = t.within;
}

-- so does a broker that opens again
pub opening_tidy : (limits : Capacity) (choice : MemberChoice) (now : ℕ) (b : Broker) → IsTidy limits b → IsTidy limits (reopened limits choice now b)
opening_tidy limits choice now b t = record {
  ordered = opening-ordered limits choice now b.records t.ordered;
  within = t.within;
}

-- ---- one after the other

apart_from : (birth before : ℕ) (b c : Broker) (xs ys : List CopyId) → AllByRecursion (IsNewCopy birth before b.records.publications) xs
    → AllByRecursion (IsNewCopy birth b.records.publications c.records.publications) ys → AreApart xs ys
apart_from birth before b c xs ys p q =
    all_more (IsNewCopy birth before b.records.publications) (λ x. AllByRecursion (λ y. x ≢ y) ys) xs
    (λ x h. all_more (IsNewCopy birth b.records.publications c.records.publications) (λ y. x ≢ y) ys
    (λ y g e. let same = ap (λ (id : CopyId). id.publication) e in let less = h.within in let more = g.above in omega (arith, same, less, more)) q) p

-- what goes on further goes on
pub goes_further : (largest : ℕ) (ids : List CopyId) (birth : ℕ) (ns ms : List ℕ) (before : ℕ) (q r : Receiver) (b c : Broker)
    → (g : GoesOn largest ids birth ns before q b) → before ≤ b.records.publications → b.records.publications ≤ c.records.publications
    → GoesOn largest (ids ++ g.more) birth ms b.records.publications r c → GoesOn largest ids birth ms before r c
goes_further largest ids birth ns ms before q r b c g first last h = record {
  more = g.more ++ h.more;
  new = each_append (IsNewCopy birth before c.records.publications) g.more h.more
      (all_more (IsNewCopy birth before b.records.publications) (IsNewCopy birth before c.records.publications) g.more
      (λ x p. record { birth_is = p.birth_is; above = p.above; within = let w = p.within in omega (arith, w, last); cause_is = p.cause_is }) g.new)
      (all_more (IsNewCopy birth b.records.publications c.records.publications) (IsNewCopy birth before c.records.publications) h.more
      (λ x p. record { birth_is = p.birth_is; above = let w = p.above in omega (arith, w, first); within = p.within; cause_is = p.cause_is }) h.new);
  differ = differ_join g.more h.more g.differ h.differ (apart_from birth before b c g.more h.more g.new h.new);
  runs = λ number n.
      subst (λ (all : List CopyId). RunsWithAll number largest all birth r c) (append_assoc ids g.more h.more)
      (h.runs number (subst (AreNumbered number) (sym (append_assoc ids g.more h.more)) n));
  served = h.served;
}

-- ---- after a restart what was told by aliases doesn't matter

resolve_max : (table : AliasTable) (topic : List ℕ) (o : Option ℕ) → (after_resolve table topic o).max ≡ table.max
resolve_max table topic None = refl
resolve_max table [] (Some alias) = refl
resolve_max table (c ∷ cs) (Some alias) = refl

reading_max : (table : AliasTable) (packet : Packet) → (after_reading table packet).max ≡ table.max
reading_max table (packets.Publish p) = resolve_max table p.topic (alias_on p)
reading_max table packet = refl

all_max : (table : AliasTable) (xs : List Packet) → (after_reading_all table xs).max ≡ table.max
all_max table [] = refl
all_max table (x ∷ xs) = all_max (after_reading table x) xs ∙ reading_max table x

known_max : (number : Option ℕ) (wires : List (ℕ × Packet)) (table : AliasTable) → (known_by number wires table).max ≡ table.max
known_max None wires table = refl
known_max (Some n) wires table = all_max table (on_line n wires)

-- a receiver that was told something is after a restart as one that wasn't
told_restarts : (b : Broker) (out : Outcome) (r : Receiver) → receiver_restarted (receiver_told b out r) ≡ receiver_restarted r
told_restarts b out r =
    ap (λ (m : ℕ). record r { line = record (restarted r.line) { known = no_aliases m } }) (known_max r.line.number out.wires r.line.known)

-- ---- after the commit of a call of others

-- a step whose answers are lost leaves the hop going on
pub stopped_goes_on : (largest : ℕ) (ids : List CopyId) (limits : Capacity) (choice : MemberChoice) (now : ℕ) (call : Call) (birth : ℕ) (ns : List ℕ) (r : Receiver) (b : Broker)
    → RunsFor largest ids birth r b → IsServed r.client birth ns b → HasLines ns r → IsTidy limits b → starts_with nat_eq r.client auto ≡ false
    → IsCallOfOthers r.client ns call (at_moment now b)
    → GoesOn largest ids birth [] b.records.publications (receiver_restarted r) (stopped_after limits choice now call b)
stopped_goes_on largest ids limits choice now call birth ns r b f v has tidy plain its =
    let c = stepped limits choice now call b in
    let q = receiver_told c (told limits choice now call b) r in
    let g = others_go_on largest ids limits choice now call birth ns r b f v has tidy plain its in
    subst (λ (x : Receiver). GoesOn largest ids birth [] b.records.publications x (stopped_after limits choice now call b)) (told_restarts c (told limits choice now call b) r)
    (goes_further largest ids birth ns [] b.records.publications q (receiver_restarted q) c (reopened limits choice now c) g
    ((step_fell limits choice now call b).1) ((opening_fell limits choice now c.records).1)
    (restart_goes_on largest (ids ++ g.more) limits choice now birth ns q c g.runs g.served (step_tidy limits choice now call b tidy) plain))

-- ---- what the receivers of the world make of a stop

same_restarted : (f : Receiver → Receiver) → ((r : Receiver) → receiver_restarted (f r) ≡ receiver_restarted r) → (rs : List Receiver) → map receiver_restarted (map f rs) ≡ map receiver_restarted rs
same_restarted f h [] = refl
same_restarted f h (r ∷ rs) =
    let first = h r in
    let rest = same_restarted f h rs in
    λ i. first i ∷ rest i

before_receivers : (set : Setting) (a : Asking) (w : World) → map receiver_restarted (before set a w).receivers ≡ map receiver_restarted w.receivers
before_receivers set (to_broker client) w = same_restarted (λ r. cond (bytes_eq r.client client) (record r { line = taken_up r.line }) r) (λ r. by r (bytes_eq r.client client)) w.receivers
  where
    by : (r : Receiver) (t : Bool) → receiver_restarted (cond t (record r { line = taken_up r.line }) r) ≡ receiver_restarted r
    by r true = refl
    by r false = refl
before_receivers set (old_to_broker client) w = same_restarted (λ r. cond (bytes_eq r.client client) (record r { line = taken_old r.line }) r) (λ r. by r (bytes_eq r.client client)) w.receivers
  where
    by : (r : Receiver) (t : Bool) → receiver_restarted (cond t (record r { line = taken_old r.line }) r) ≡ receiver_restarted r
    by r true = refl
    by r false = refl
before_receivers set (break client) w = refl
before_receivers set (pump client) w = refl
before_receivers set tick w = refl
before_receivers set (stranger name bytes) w = by (is_some (stranger_named name w))
  where
    by : (t : Bool) → map receiver_restarted (linked_at set t name bytes w).receivers ≡ map receiver_restarted w.receivers
    by true = refl
    by false = same_restarted (receiver_told (stepped set.limits set.choice w.now NewLine w.broker) (told set.limits set.choice w.now NewLine w.broker))
        (told_restarts (stepped set.limits set.choice w.now NewLine w.broker) (told set.limits set.choice w.now NewLine w.broker)) w.receivers

called_receivers : (set : Setting) (o : Option Call) (w : World) → map receiver_restarted (calls_if set o w).receivers ≡ map receiver_restarted w.receivers
called_receivers set None w = refl
called_receivers set (Some call) w = same_restarted (receiver_told (stepped set.limits set.choice w.now call w.broker) (told set.limits set.choice w.now call w.broker))
    (told_restarts (stepped set.limits set.choice w.now call w.broker) (told set.limits set.choice w.now call w.broker)) w.receivers

-- behind a stop receivers are as behind a restart
pub receivers_after : (set : Setting) (a : Asking) (w : World) → (happens set (stop_after a) w).receivers ≡ (happens set restart w).receivers
receivers_after set a w = called_receivers set (call_of set a w) (before set a w) ∙ before_receivers set a w

-- ---- before the commit, nothing is stored

linked_records : (limits : Capacity) (choice : MemberChoice) (now : ℕ) (b : Broker) → (stepped limits choice now NewLine b).records ≡ b.records
linked_records limits choice now b = elim (cases_Bool (can_link limits (at_moment now b))) [
  | inl can ↦ rw can refl
  | inr full ↦ rw full refl
]

before_records : (set : Setting) (a : Asking) (w : World) → (before set a w).broker.records ≡ w.broker.records
before_records set (to_broker client) w = refl
before_records set (old_to_broker client) w = refl
before_records set (break client) w = refl
before_records set (pump client) w = refl
before_records set tick w = refl
before_records set (stranger name bytes) w = by (is_some (stranger_named name w))
  where
    by : (t : Bool) → (linked_at set t name bytes w).broker.records ≡ w.broker.records
    by true = refl
    by false = linked_records set.limits set.choice w.now w.broker

before_now : (set : Setting) (a : Asking) (w : World) → (before set a w).now ≡ w.now
before_now set (to_broker client) w = refl
before_now set (old_to_broker client) w = refl
before_now set (break client) w = refl
before_now set (pump client) w = refl
before_now set tick w = refl
before_now set (stranger name bytes) w = by (is_some (stranger_named name w))
  where
    by : (t : Bool) → (linked_at set t name bytes w).now ≡ w.now
    by true = refl
    by false = refl

-- a stop before the commit is like a restart
pub alike_before : (set : Setting) (a : Asking) (w : World) → AreAlike (happens set (stop_before a) w) (happens set restart w)
alike_before set a w =
    let moment = before_now set a w in
    let stored = before_records set a w in
    record { broker = λ i. opened set.limits set.choice (moment i) (stored i); receivers = before_receivers set a w }

-- ---- what a receiver sees if the call was for itself

-- a stop in a step on its own line leaves the hop going on
pub own_stop_goes_on : (largest : ℕ) (ids : List CopyId) (limits : Capacity) (choice : MemberChoice) (now : ℕ) (call : Call) (birth : ℕ) (ns : List ℕ) (q : Receiver) (b : Broker)
    → IsInStep largest ids birth ns q (stepped limits choice now call b) → IsTidy limits b → starts_with nat_eq q.client auto ≡ false
    → GoesOn largest ids birth [] b.records.publications (receiver_restarted q) (stopped_after limits choice now call b)
own_stop_goes_on largest ids limits choice now call birth ns q b stays tidy plain =
    let c = stepped limits choice now call b in
    let alike = append-nil ids in
    let g : GoesOn largest ids birth ns b.records.publications q c = record {
      more = [];
      new = tt;
      differ = tt;
      runs = λ number n. subst (λ (all : List CopyId). RunsWithAll number largest all birth q c) (sym alike) (stays.runs number (subst (AreNumbered number) alike n));
      served = stays.served;
    } in
    goes_further largest ids birth ns [] b.records.publications q (receiver_restarted q) c (reopened limits choice now c) g
    ((step_fell limits choice now call b).1) ((opening_fell limits choice now c.records).1)
    (restart_goes_on largest (ids ++ []) limits choice now birth ns q c g.runs g.served (step_tidy limits choice now call b tidy) plain)
