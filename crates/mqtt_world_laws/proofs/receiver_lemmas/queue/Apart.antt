-- A receiver's copies stay told apart as others enter behind them.
use Rattle.std.proofs.Common.{◌≡◌, ℕ, suc, ◌≤◌, List, ◌∷◌, ◌++◌, map, ap, arith}
use Rattle.std.specs.Prelude.{◌≢◌}
use Rattle.std.specs.List.{AllByRecursion}
use Rattle.mqtt_base.specs.declared.session.CopyId.{CopyId}
use Rattle.mqtt_world_model.specs.model.Ends.{Back, Receiver, Wish, asks_for, wire_back}
use Rattle.mqtt_records.specs.declared.messages.message.RetainedMessage.{RetainedMessage}
use Rattle.mqtt_records.specs.state.Records.{subscribe_in}
use Rattle.mqtt_records.specs.declared.state.records.Records.{Records}
use Rattle.mqtt_records.specs.declared.state.session.Session.{Session}
use Rattle.mqtt_records.specs.lists.Distinct.{AllDiffer}
use Rattle.mqtt_rules.proofs.step_lemmas.numbers.Copies.{each_append}
use Rattle.mqtt_rules.proofs.step_lemmas.flight.FlightRows.{all_more}
use Rattle.mqtt_rules.proofs.step_lemmas.numbers.NumberSteps.{step_fell}
use Rattle.mqtt_rules.specs.step.Numbers.{HasAcceptedNumbers, NoneFell}
use Rattle.mqtt_rules.specs.step.State.{Line as BrokerLine, Broker, MemberChoice}
use Rattle.mqtt_rules.specs.step.Step.{Input, stepped}
use Rattle.mqtt_rules.specs.declared.step.Capacity.{Capacity}
use Rattle.mqtt_world_laws.proofs.acceptance_lemmas.copies.Differ.{AreApart, differ_join}
use Rattle.mqtt_world_laws.specs.receiver.Apart.{AreToldApart, HasCome}
use Rattle.mqtt_world_laws.specs.receiver.Calls.{IsLingering}
use Rattle.mqtt_world_laws.specs.receiver.Handing.{IsListening, receiver_after}
use Rattle.mqtt_world_laws.specs.receiver.Late.{reads_old_wish}
use Rattle.mqtt_world_laws.specs.receiver.Own.{IsBroughtCopy, IsInStep, Subscribed}
use Rattle.mqtt_world_laws.specs.receiver.Served.{IsNewCopy, IsTidy}
use Rattle.mqtt_world_laws.proofs.receiver_lemmas.own.OwnSubscribes.{old_subscribes_apart, subscribes_apart}

-- ---- copies of publications

come_still : (publications subscribes publications2 subscribes2 : ℕ) (ids : List CopyId) → publications ≤ publications2 → subscribes ≤ subscribes2 → AllByRecursion (HasCome publications subscribes) ids
    → AllByRecursion (HasCome publications2 subscribes2) ids
come_still publications subscribes publications2 subscribes2 ids le more h =
    all_more (HasCome publications subscribes) (HasCome publications2 subscribes2) ids
    (λ id x. record { publication = let p = x.publication in omega (arith, p, le); subscribe = let q = x.subscribe in omega (arith, q, more) }) h

-- copies that are told apart stay so while no counter falls
pub apart_still : (ids : List CopyId) (old new : Records) → AreToldApart ids old → NoneFell old new → AreToldApart ids new
apart_still ids old new h fell = record { come = come_still old.publications old.subscribes new.publications new.subscribes ids fell.1 fell.2 h.come; differ = h.differ }

-- so they are with new copies
pub apart_entered : (birth : ℕ) (ids more : List CopyId) (old new : Records) → AreToldApart ids old → NoneFell old new → AllByRecursion (IsNewCopy birth old.publications new.publications) more → AllDiffer more
    → AreToldApart (ids ++ more) new
apart_entered birth ids more old new h fell entered differ =
    let first = come_still old.publications old.subscribes new.publications new.subscribes ids fell.1 fell.2 h.come in
    let then = all_more (IsNewCopy birth old.publications new.publications) (HasCome new.publications new.subscribes) more (λ id x. record { publication = x.within; subscribe = let none = x.cause_is in omega (arith, none) }) entered in
    let others : AreApart ids more = all_more (HasCome old.publications old.subscribes) (λ (x : CopyId). AllByRecursion (λ (y : CopyId). x ≢ y) more) ids
    (λ x come. all_more (IsNewCopy birth old.publications new.publications) (λ (y : CopyId). x ≢ y) more
    (λ y late e. let le = come.publication in let above = late.above in let same = ap (λ (i : CopyId). i.publication) e in absurd (omega (arith, le, above, same))) entered) h.come in
    record { come = each_append (HasCome new.publications new.subscribes) ids more first then; differ = differ_join ids more h.differ differ others }

-- ---- copies of retained messages

-- behind those of before
pub apart_brought : (birth : ℕ) (ids more : List CopyId) (old new : Records) → AreToldApart ids old → NoneFell old new → AllByRecursion (IsBroughtCopy birth (suc old.subscribes)) more → AreToldApart more new
    → AreToldApart (ids ++ more) new
apart_brought birth ids more old new h fell brought apart =
    let first = come_still old.publications old.subscribes new.publications new.subscribes ids fell.1 fell.2 h.come in
    let others : AreApart ids more = all_more (HasCome old.publications old.subscribes) (λ (x : CopyId). AllByRecursion (λ (y : CopyId). x ≢ y) more) ids
    (λ x come. all_more (IsBroughtCopy birth (suc old.subscribes)) (λ (y : CopyId). x ≢ y) more
    (λ y late e. let le = come.subscribe in let is = ap subscribe_in late.cause_is in let same = ap (λ (i : CopyId). subscribe_in i.cause) e in absurd (omega (arith, le, is, same))) brought) h.come in
    record { come = each_append (HasCome new.publications new.subscribes) ids more first apart.come; differ = differ_join ids more h.differ apart.differ others }

-- a subscription leaves copies told apart
pub apart_subscribed : (largest : ℕ) (ids : List CopyId) (limits : Capacity) (choice : MemberChoice) (now birth : ℕ) (ns : List ℕ) (w : Wish) (rest : List Back) (r : Receiver) (l : BrokerLine) (s : Session) (b : Broker)
    → IsInStep largest ids birth ns r b → IsListening r l s b → IsTidy limits b → r.line.up ≡ asks_for w ∷ rest
    → AreToldApart ids b.records → AllDiffer (map (λ (k : RetainedMessage). k.publication) b.records.retained) → HasAcceptedNumbers b.records
    → (x : Subscribed largest ids birth ns (suc b.records.subscribes) (receiver_after limits choice now (Input l.number (wire_back r.client r.window r.aliases (asks_for w))) r b) (stepped limits choice now (Input l.number (wire_back r.client r.window r.aliases (asks_for w))) b))
    × AreToldApart (ids ++ x.more) (stepped limits choice now (Input l.number (wire_back r.client r.window r.aliases (asks_for w))) b).records
apart_subscribed largest ids limits choice now birth ns w rest r l s b k a tidy up apart differ accepted =
    let call = Input l.number (wire_back r.client r.window r.aliases (asks_for w)) in
    let both = subscribes_apart largest ids limits choice now birth ns w rest r l s b k a tidy up in
    let told = both.1 (record { differ = differ; upto = accepted.1 }) in
    (both.0, apart_brought birth ids both.0.more b.records (stepped limits choice now call b).records apart (step_fell limits choice now call b) both.0.new told)

-- also on the old line
pub apart_old_subscribed : (largest : ℕ) (ids : List CopyId) (limits : Capacity) (choice : MemberChoice) (now birth : ℕ) (ns : List ℕ) (w : Wish) (rest : List Back) (r : Receiver) (l : BrokerLine) (s : Session) (b : Broker)
    → IsInStep largest ids birth ns r b → IsLingering r l s b → IsTidy limits b → r.line.old ≡ asks_for w ∷ rest
    → AreToldApart ids b.records → AllDiffer (map (λ (k : RetainedMessage). k.publication) b.records.retained) → HasAcceptedNumbers b.records
    → (x : Subscribed largest ids birth ns (suc b.records.subscribes) (reads_old_wish limits choice now l.number w r b) (stepped limits choice now (Input l.number (wire_back r.client r.window r.aliases (asks_for w))) b))
    × AreToldApart (ids ++ x.more) (stepped limits choice now (Input l.number (wire_back r.client r.window r.aliases (asks_for w))) b).records
apart_old_subscribed largest ids limits choice now birth ns w rest r l s b k a tidy old apart differ accepted =
    let call = Input l.number (wire_back r.client r.window r.aliases (asks_for w)) in
    let both = old_subscribes_apart largest ids limits choice now birth ns w rest r l s b k a tidy old in
    let told = both.1 (record { differ = differ; upto = accepted.1 }) in
    (both.0, apart_brought birth ids both.0.more b.records (stepped limits choice now call b).records apart (step_fell limits choice now call b) both.0.new told)
