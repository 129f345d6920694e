-- Names, open identifiers, filters and groups stay such as packets carry, deed by deed and over a step.
use Rattle.std.proofs.Common.{◌≡◌, ℕ, ◌≤◌, true, false, not, List, [], ◌∷◌, length, nat_eq, bytes_eq, sym, subst, arith}
use Rattle.std.specs.Prelude.{⊤, flat_map}
use Rattle.std.specs.List.{AllByRecursion}
use Rattle.mqtt_base.specs.Values.{FitsText}
use Rattle.mqtt_base.specs.declared.limits.TheConstants.{OPEN_LIMIT, QUEUE_LIMIT, SUBSCRIPTION_LIMIT}
use Rattle.mqtt_base.specs.declared.session.Cause.{Cause}
use Rattle.mqtt_base.specs.declared.session.Cause.TheVariants.{Direct, Share, Retained}
use Rattle.mqtt_keep.specs.lawful.Lawful.{IsGroup}
use Rattle.mqtt_records.specs.state.Session.{birth_of, copy_place, in_phase, number_of, place_of, without_filter}
use Rattle.mqtt_records.specs.declared.state.change.Change.{Change}
use Rattle.mqtt_records.specs.declared.state.records.Records.{Records}
use Rattle.mqtt_records.specs.declared.state.session.Session.{Session}
use Rattle.mqtt_records.specs.declared.state.subscription.Subscription.{Subscription}
use Rattle.mqtt_topic.specs.names.Filters.{begins_share, group_of, is_filter, is_shared_filter}
use Rattle.mqtt_topic.specs.names.Names.{is_empty}
use Rattle.mqtt_rules.specs.declared.step.Capacity.{Capacity}
use Rattle.mqtt_rules.specs.step.Contents.{TakesLawful}
use Rattle.mqtt_rules.specs.step.Deeds.{Whose, Part, Resume, Close, SetExpiry, DropWill, Subscribe, Unsubscribe, Open, Release, Enter, Mark, Leave, Deed, Accept, Begin, Name, Count, At, Finish, Keep, Forget, RefuseWill, Link, On, Send, Gone, after, after_all, new_entry, rows_of_all}
use Rattle.mqtt_rules.specs.step.State.{Broker, MemberChoice, stored}
use Rattle.mqtt_rules.specs.step.Step.{Call, at_moment, deeds, env_of, opened, opening, stepped, unopened, with_moment}
use Rattle.mqtt_rules.proofs.step_lemmas.numbers.Copies.{each_filter, each_map, each_more}
use Rattle.mqtt_rules.proofs.step_lemmas.fit.FitLaw.{all_among}
use Rattle.mqtt_rules.proofs.step_lemmas.flight.FlightRows.{all_at, all_changed, all_put}
use Rattle.mqtt_rules.proofs.step_lemmas.acts.Goods.{AreGood}
use Rattle.mqtt_topic.proofs.names_lemmas.MatchLemmas.{and_both}
use Rattle.mqtt_broker.specs.reopening.Identities.{HaveIdentities}
use Rattle.mqtt_broker.specs.reopening.Texts.{HasFilter, HasTexts, HaveTexts, IsGroupOf}
use Rattle.mqtt_broker.proofs.reopening_lemmas.CopiesActs.{call_good, opening_good}
use Rattle.mqtt_broker.proofs.reopening_lemmas.CopiesKept.{Good, IsOfGroup, filters_in, filters_of}
use Rattle.mqtt_broker.proofs.reopening_lemmas.Differ.{each_given}
use Rattle.mqtt_broker.proofs.reopening_lemmas.EachSession.{Makes, deed_each, part_made}
use Rattle.mqtt_broker.proofs.reopening_lemmas.Origins.{IsFrom, from_call, from_good, from_opening}
use Rattle.mqtt_world_laws.proofs.acceptance_lemmas.copies.Shares.{share_whole}

-- ---- groups of filters that stand

abbrev IsText : List ℕ → Type 0
IsText text = (is_filter text ≡ true) × FitsText text

texts_stand : (ss : List Session) → AllByRecursion HasTexts ss → AllByRecursion IsText (flat_map filters_in ss)
texts_stand ss h = each_given birth_of filters_in IsText ss
    (each_more HasTexts (λ s. AllByRecursion IsText (filters_in s))
    (λ s p. each_map IsText (λ (x : Subscription). x.filter) s.subscriptions (each_more HasFilter (λ x. IsText x.filter) (λ x q. (q.filter, q.fits)) s.subscriptions p.subscriptions)) ss h)

whole_group : (text : List ℕ) → begins_share text ≡ true → is_filter text ≡ true → FitsText text → IsGroup (group_of text)
whole_group text begins valid fits =
    let whole = share_whole text begins in
    record {
      lawful = subst (λ (t : List ℕ). is_shared_filter t ≡ true) whole (and_both (begins_share text) (is_filter text) begins valid);
      fits = subst FitsText whole fits;
    }

group_stands : (r : Records) → HaveTexts r → (c : Cause) → IsOfGroup (filters_of r) c → IsGroupOf c
group_stands r h Direct q = tt
group_stands r h (Share group) q =
    let its = all_among IsText q.0 (filters_of r) (texts_stand r.sessions h) q.1.0 in
    subst IsGroup (sym q.2) (whole_group q.0 q.1.1 its.0 its.1)
group_stands r h (Retained subscribe) q = tt

-- ---- a deed

named_row : (client : List ℕ) → is_empty client ≡ false → 1 ≤ length client
named_row [] e = absurd cc
named_row (c ∷ cs) e = omega arith

-- what a part brings: it comes from a packet, and a copy is of a group that stands
abbrev Brings : Part → Type 0
Brings (Open id) = 1 ≤ id
Brings (Subscribe x) = (is_filter x.filter ≡ true) × FitsText x.filter
Brings (Enter copy) = IsGroupOf copy.id.cause
Brings part = ⊤

made_texts : (part : Part) (s t : Session) → Brings part → HasTexts s → HasTexts t → HasTexts (part_made part s t)
made_texts (Resume expiry will) s t g p h = record { named = p.named; inbound = h.inbound; subscriptions = h.subscriptions; queue = h.queue }
made_texts (Close moment) s t g p h = record { named = p.named; inbound = h.inbound; subscriptions = h.subscriptions; queue = h.queue }
made_texts (SetExpiry expiry) s t g p h = record { named = p.named; inbound = h.inbound; subscriptions = h.subscriptions; queue = h.queue }
made_texts DropWill s t g p h = record { named = h.named; inbound = h.inbound; subscriptions = h.subscriptions; queue = h.queue }
made_texts (Subscribe x) s t g p h = record {
  named = h.named;
  inbound = h.inbound;
  subscriptions = all_put place_of HasFilter SUBSCRIPTION_LIMIT x (without_filter x.filter t.subscriptions) (record { filter = g.0; fits = g.1 })
      (each_filter HasFilter (λ y. not (bytes_eq y.filter x.filter)) t.subscriptions h.subscriptions);
  queue = h.queue;
}
made_texts (Unsubscribe text) s t g p h = record {
  named = h.named;
  inbound = h.inbound;
  subscriptions = each_filter HasFilter (λ y. not (bytes_eq y.filter text)) t.subscriptions h.subscriptions;
  queue = h.queue;
}
made_texts (Open id) s t g p h = record {
  named = h.named;
  inbound = all_put number_of (λ i. 1 ≤ i) OPEN_LIMIT id t.inbound g h.inbound;
  subscriptions = h.subscriptions;
  queue = h.queue;
}
made_texts (Release id) s t g p h = record {
  named = h.named;
  inbound = each_filter (λ i. 1 ≤ i) (λ i. not (nat_eq (number_of i) id)) t.inbound h.inbound;
  subscriptions = h.subscriptions;
  queue = h.queue;
}
made_texts (Enter copy) s t g p h = record {
  named = h.named;
  inbound = h.inbound;
  subscriptions = h.subscriptions;
  queue = all_put copy_place (λ row. IsGroupOf row.copy.id.cause) QUEUE_LIMIT (new_entry copy s.queue) t.queue g h.queue;
}
made_texts (Mark place phase) s t g p h = record {
  named = h.named;
  inbound = h.inbound;
  subscriptions = h.subscriptions;
  queue = all_changed copy_place (λ row. IsGroupOf row.copy.id.cause) place (in_phase phase) t.queue (λ row q. q) h.queue;
}
made_texts (Leave e ending) s t g p h = record {
  named = h.named;
  inbound = h.inbound;
  subscriptions = h.subscriptions;
  queue = each_filter (λ row. IsGroupOf row.copy.id.cause) (λ row. not (nat_eq (copy_place row) e.place)) t.queue h.queue;
}

part_brings : (who : Whose) (part : Part) (b : Broker) → HaveTexts b.records → IsFrom (At who part) → Good (At who part) b → Brings part
part_brings who (Open id) b h from good = from
part_brings who (Subscribe x) b h from good = from
part_brings who (Enter copy) b h from good = group_stands b.records h copy.id.cause good.group
part_brings who (Resume expiry will) b h from good = tt
part_brings who (Close moment) b h from good = tt
part_brings who (SetExpiry expiry) b h from good = tt
part_brings who DropWill b h from good = tt
part_brings who (Unsubscribe text) b h from good = tt
part_brings who (Release id) b h from good = tt
part_brings who (Mark place phase) b h from good = tt
part_brings who (Leave e ending) b h from good = tt

makes : (d : Deed) (b : Broker) → HaveTexts b.records → IsFrom d → Good d b → Makes HasTexts HasTexts (λ t h. h) d b
makes (At who part) b h from good = λ s t there same p. made_texts part s t (part_brings who part b h from good) (all_at birth_of HasTexts who.birth s b.records.sessions h there) p
makes (Begin row will) b h from good = record {
  new = record { named = named_row row.client from; inbound = tt; subscriptions = tt; queue = tt };
  again = λ t same p. record { named = named_row row.client from; inbound = p.inbound; subscriptions = p.subscriptions; queue = p.queue };
  will = λ w t p. record { named = p.named; inbound = p.inbound; subscriptions = p.subscriptions; queue = p.queue };
}
makes (Accept number origin m) b h from good = tt
makes (Name n) b h from good = tt
makes (Count n) b h from good = tt
makes (Finish who) b h from good = tt
makes (Keep kept) b h from good = tt
makes (Forget place) b h from good = tt
makes (RefuseWill who) b h from good = tt
makes (Link n) b h from good = tt
makes (On n part) b h from good = tt
makes (Send n packet) b h from good = tt
makes (Gone n) b h from good = tt

texts_all : (ds : List Deed) (b : Broker) → AreGood (λ d c. IsFrom d) ds b → AreGood Good ds b → HaveTexts b.records → HaveTexts (after_all ds b).records
texts_all [] b from good h = h
texts_all (d ∷ ds) b from good h = texts_all ds (after d b) from.1 good.1 (deed_each HasTexts HasTexts (λ t p. p) d b (makes d b h from.0 good.0) h)

-- ---- a step and an opening

moment_texts : (rows : List Change) (b : Broker) → HaveTexts b.records → HaveTexts (with_moment rows b).records
moment_texts [] b h = h
moment_texts (row ∷ rows) b h = h

-- behind a step all texts are such as may be stored
pub step_texts : (limits : Capacity) (choice : MemberChoice) (now : ℕ) (call : Call) (b : Broker) → TakesLawful call → HaveIdentities (stored b) → HaveTexts (stored b) → HaveTexts (stored (stepped limits choice now call b))
step_texts limits choice now call b taken known h =
    let c = at_moment now b in
    let env = env_of limits choice b in
    let ds = deeds limits choice now call b in
    moment_texts (rows_of_all ds c.records) (after_all ds c) (texts_all ds c (from_good ds c (from_call env call c taken)) (call_good env call c known) h)

-- so they are behind an opening
pub opening_texts : (limits : Capacity) (choice : MemberChoice) (now : ℕ) (r : Records) → HaveIdentities r → HaveTexts r → HaveTexts (stored (opened limits choice now r))
opening_texts limits choice now r known h =
    let b = unopened now r in
    let env = env_of limits choice b in
    let ds = opening env b in
    moment_texts (rows_of_all ds b.records) (after_all ds b) (texts_all ds b (from_good ds b (from_opening env b)) (opening_good env b known) h)
