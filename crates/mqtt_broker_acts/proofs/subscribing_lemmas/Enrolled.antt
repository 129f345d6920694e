-- A filter is granted its number: its subscription may then be put.
use Rattle.std.proofs.Common.{◌≡◌, ℕ, List, Option, Some, ap, sym, subst, ◌∙◌}
use Rattle.mqtt_base.specs.declared.session.SubscriptionOptions.{SubscriptionOptions}
use Rattle.mqtt_records.specs.declared.state.session.Session.{Session}
use Rattle.mqtt_records.specs.declared.state.subscription.Subscription.{Subscription}
use Rattle.mqtt_records.specs.state.Session.{birth_of}
use Rattle.mqtt_rules.specs.step.State.{session_at}
use Rattle.mqtt_rules.specs.step.Subscribe.{Wish, subscription}
use Rattle.mqtt_rules.proofs.step_lemmas.flight.FlightRows.{all_at}
use Rattle.mqtt_broker_step.specs.Stepping.{Stepping, Did}
use Rattle.mqtt_broker_step.specs.Doing.{counts}
use Rattle.mqtt_broker_step.specs.Subscribing.{HasEachFilterOnce, HaveFiltersOnce, MaySubscribe}
use Rattle.mqtt_broker_step.proofs.FiltersKept.{may_wish}
use Rattle.mqtt_broker_acts.proofs.subscribing_lemmas.Removed.{once_kept}

abbrev pub made : List ℕ → SubscriptionOptions → Option ℕ → Wish
made text options identifier = record { filter = text; options = options; identifier = identifier }

-- what subscribing asks
pub may_enroll : (birth n : ℕ) (x y : Session) (w : Wish) (z : Subscription) (s s1 : Stepping) → HaveFiltersOnce s.broker.records → Did counts s s1 → session_at birth s1.broker.records ≡ Some x
    → session_at birth s1.broker.records ≡ Some y → z ≡ subscription n x w → MaySubscribe z y
may_enroll birth n x y w z s s1 once counted there found made_is =
    let same : Some x ≡ Some y = sym there ∙ found in
    let is : x ≡ y = cc in
    let all : HaveFiltersOnce s1.broker.records = once_kept counts s s1 counted once in
    let its : HasEachFilterOnce y = all_at birth_of HasEachFilterOnce birth y s1.broker.records.sessions all found in
    subst (λ (v : Subscription). MaySubscribe v y) (sym (made_is ∙ ap (λ (v : Session). subscription n v w) is)) (may_wish n y w its)
