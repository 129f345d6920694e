-- The copies of one publication differ from one another, and so do those of the retained messages that a filter brings.
use Rattle.std.proofs.Common.{◌≡◌, ℕ, Bool, true, false, not, ◌&&◌, List, [], ◌∷◌, map, filter, Option, Some, None, refl, sym, ap, subst}
use Rattle.std.specs.Prelude.{⊤, ◌≢◌, option_map}
use Rattle.std.specs.List.{AllByRecursion}
use Rattle.mqtt_base.specs.declared.session.Cause.TheVariants.{Retained}
use Rattle.mqtt_base.specs.declared.session.CopyId.{CopyId}
use Rattle.mqtt_records.specs.declared.messages.message.RetainedMessage.{RetainedMessage}
use Rattle.mqtt_records.specs.state.Session.{birth_of}
use Rattle.mqtt_records.specs.declared.state.session.Session.{Session}
use Rattle.mqtt_records.specs.declared.state.subscription.Subscription.{Subscription}
use Rattle.mqtt_routes.specs.routing.Acceptance.{Routed}
use Rattle.mqtt_routes.specs.routing.Retained.{kept_for}
use Rattle.mqtt_routes.specs.routing.Subscriptions.{Subscriber}
use Rattle.mqtt_routes.specs.declared.routing.retained.Kept.{Kept}
use Rattle.mqtt_records.specs.lists.Distinct.{AllDiffer}
use Rattle.mqtt_records.specs.lists.Order.{IsAbove, IsAscending}
use Rattle.mqtt_topic.specs.names.Filters.{begins_share}
use Rattle.mqtt_rules.specs.step.Deeds.{Message}
use Rattle.mqtt_rules.specs.step.Routing.{CopyTo, accepted_copies, accepted_if, answers, copies_to, finds_place, is_queued, next_publication, publication_of, routed_subscription, routing_of, subscriber_of, subscribers}
use Rattle.mqtt_rules.specs.step.State.{Broker, Env}
use Rattle.mqtt_rules.specs.step.Subscribe as sub
use Rattle.mqtt_rules.proofs.step_lemmas.acts.Acts.{brought_to}
use Rattle.mqtt_rules.proofs.step_lemmas.fit.StandLaw.{Orders}
use Rattle.mqtt_world_laws.specs.acceptance.Entries.{queued_ids}
use Rattle.mqtt_world_laws.proofs.acceptance_lemmas.copies.Differ.{differ_filtered}
use Rattle.mqtt_world_laws.proofs.acceptance_lemmas.copies.RoutedApart.{AreStanding, IsApart, IsCauseOf, copies_caused, copies_differ, id_to, ids_to, routed_apart}

-- ---- a publication

births_above : (n : ℕ) (ss : List Session) → IsAbove birth_of n ss → IsAbove (λ (x : Subscriber). x.birth) n (map subscriber_of ss)
births_above n [] h = tt
births_above n (s ∷ ss) h = (h.0, births_above n ss h.1)

-- subscribers are in the order of their births
pub births_ascend : (ss : List Session) → IsAscending birth_of ss → IsAscending (λ (x : Subscriber). x.birth) (map subscriber_of ss)
births_ascend [] h = tt
births_ascend (s ∷ ss) h = (births_above s.birth ss h.0, births_ascend ss h.1)

-- nothing is asked of the filters of groups
abbrev pub Any : List ℕ → Type 0
Any text = ⊤

any_filters : (xs : List Subscription) → AllByRecursion (λ s. Any s.filter) (map routed_subscription xs)
any_filters [] = tt
any_filters (x ∷ xs) = (tt, any_filters xs)

any_sessions : (ss : List Session) → AllByRecursion (AreStanding Any) (map subscriber_of ss)
any_sessions [] = tt
any_sessions (s ∷ ss) = (any_filters s.subscriptions, any_sessions ss)

-- they differ, and each is a direct one or a group's
pub record AreOfOne (ds : List CopyTo) : Type 0 where
  pub differ : AllDiffer (ids_to ds)
  pub caused : AllByRecursion (λ d. IsCauseOf Any d.copy.id.cause) ds

routed_if : (t : Bool) (number now : ℕ) (m : Message) (o : Option Routed) (ds : List CopyTo) → ((x : Routed) → o ≡ Some x → IsApart Any x) → accepted_if t (option_map (copies_to number now m) o) ≡ Some ds → AreOfOne ds
routed_if false number now m o ds h e = absurd cc
routed_if true number now m None ds h e = absurd cc
routed_if true number now m (Some x) ds h e =
    let same : copies_to number now m x ≡ ds = cc in
    let apart = h x refl in
    subst AreOfOne same (record { differ = copies_differ number now m Any x apart; caused = copies_caused number now m Any x apart })

-- copies of a publication differ
pub accepted_differ : (env : Env) (m : Message) (b : Broker) (ds : List CopyTo) → Orders b → accepted_copies env m b ≡ Some ds → AreOfOne ds
accepted_differ env m b ds ordered e =
    let r = b.records in
    routed_if (finds_place env m r) (next_publication r) b.now m (routing_of env m r) ds
    (λ x is. routed_apart Any (answers env r) (publication_of m) (env.choice (next_publication r) m.sender) (subscribers r) x
    (births_ascend r.sessions ordered.sessions.ascending) (any_sessions r.sessions) is) e

-- so do those that are queued
pub queued_differ : (ds : List CopyTo) → AllDiffer (ids_to ds) → AllDiffer (queued_ids ds)
queued_differ ds h = differ_filtered id_to is_queued ds h

-- ---- the retained messages that a filter brings

mapped_twice : {X Y Z : Type 0} (f : Y → Z) (g : X → Y) (xs : List X) → map f (map g xs) ≡ map (λ x. f (g x)) xs
mapped_twice f g [] = refl
mapped_twice f g (x ∷ xs) = ap (λ (ys : List _). f (g x) ∷ ys) (mapped_twice f g xs)

abbrev pub number_of : RetainedMessage → ℕ
number_of k = k.publication

module _ (number : ℕ) (s : Session) (w : sub.Wish) where
  brought_ids : (ks : List RetainedMessage) → AllDiffer (map number_of ks) → AllDiffer (ids_to (map (sub.retained_copy_to s.birth number w) ks))
  brought_ids [] h = tt
  brought_ids (k ∷ ks) h = (others ks h.0, brought_ids ks h.1)
    where
      others : (xs : List RetainedMessage) → AllByRecursion (λ n. k.publication ≢ n) (map number_of xs) → AllByRecursion (λ i. (sub.retained_copy s.birth number w k).id ≢ i) (ids_to (map (sub.retained_copy_to s.birth number w) xs))
      others [] h = tt
      others (x ∷ xs) h = ((λ e. h.0 (ap (λ (i : CopyId). i.publication) e)), others xs h.1)

  brought_if_differ : (t : Bool) (now : ℕ) (ks : List RetainedMessage) → AllDiffer (map number_of ks) → AllDiffer (ids_to (sub.brought_if t now number s w ks))
  brought_if_differ false now ks h = tt
  brought_if_differ true now ks h =
      let all = kept_for w.filter (map sub.kept_of ks) in
      let tabled : AllDiffer (map (λ (y : Kept RetainedMessage). number_of (sub.message_in y)) (map sub.kept_of ks)) =
      subst AllDiffer (sym (mapped_twice (λ (y : Kept RetainedMessage). number_of (sub.message_in y)) sub.kept_of ks)) h in
      let matched : AllDiffer (map (λ (y : Kept RetainedMessage). number_of (sub.message_in y)) all) = differ_filtered (λ (y : Kept RetainedMessage). number_of (sub.message_in y)) _ (map sub.kept_of ks) tabled in
      let messages : AllDiffer (map number_of (map sub.message_in all)) = subst AllDiffer (sym (mapped_twice number_of sub.message_in all)) matched in
      brought_ids (filter (sub.is_brought now s w) (map sub.message_in all)) (differ_filtered number_of (sub.is_brought now s w) (map sub.message_in all) messages)

  -- each is for the filter
  mapped_for : (ks : List RetainedMessage) → AllByRecursion (λ d. d.copy.id.cause ≡ Retained number) (map (sub.retained_copy_to s.birth number w) ks)
  mapped_for [] = tt
  mapped_for (k ∷ ks) = (refl, mapped_for ks)

  brought_if_for : (t : Bool) (now : ℕ) (ks : List RetainedMessage) → AllByRecursion (λ d. d.copy.id.cause ≡ Retained number) (sub.brought_if t now number s w ks)
  brought_if_for false now ks = tt
  brought_if_for true now ks = mapped_for (filter (sub.is_brought now s w) (map sub.message_in (kept_for w.filter (map sub.kept_of ks))))

abbrev brings_retained : sub.Wish → Session → Bool
brings_retained w s = not (begins_share w.filter) && sub.wants_retained w.options.retain_handling (sub.has_filter w.filter s)

-- so do those that a subscription brings
pub brought_differ : (w : sub.Wish) (s : Session) (b : Broker) → AllDiffer (map number_of b.records.retained) → AllDiffer (ids_to (brought_to w s b))
brought_differ w s b h = brought_if_differ (sub.next_number b.records) s w (brings_retained w s) b.now b.records.retained h

-- which are of that subscription
pub brought_for : (w : sub.Wish) (s : Session) (b : Broker) → AllByRecursion (λ d. d.copy.id.cause ≡ Retained (sub.next_number b.records)) (brought_to w s b)
brought_for w s b = brought_if_for (sub.next_number b.records) s w (brings_retained w s) b.now b.records.retained
