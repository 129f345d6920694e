-- What takes back that a subscription is put or removed, as changes of records.
use Rattle.std.proofs.Common.{◌≡◌, ℕ, List, Some, None, refl, ap, sym, ◌∙◌}
use Rattle.std.specs.Prelude.{find}
use Rattle.mqtt_records.specs.lists.Order.{row_at}
use Rattle.mqtt_records.specs.declared.state.change.Change.TheVariants.{PutSubscription, RemoveSubscription}
use Rattle.mqtt_records.specs.declared.state.session.Session.{Session}
use Rattle.mqtt_records.specs.declared.state.subscription.Subscription.{Subscription}
use Rattle.mqtt_records.specs.state.Session.{place_of, with_subscription, without_subscription}
use Rattle.mqtt_rules.specs.step.Laws.{HasTables}
use Rattle.mqtt_rules.specs.step.Subscribe.{is_to, place_of as place_by}
use Rattle.mqtt_broker_step.specs.Backs.{TakesBack}
use Rattle.mqtt_broker_step.specs.Subscribing.{HasEachFilterOnce, MaySubscribe}
use Rattle.mqtt_broker_step.proofs.Backs.{session_back}
use Rattle.mqtt_broker_step.proofs.Filters.{put_again, put_beside, put_gone, removed_again, none_without}

-- the one to the same filter, which text is
pub over_back : (text : List ℕ) (x y : Subscription) (s : Session) → text ≡ x.filter → HasTables s → MaySubscribe x s → find (is_to text) s.subscriptions ≡ Some y
    → TakesBack (PutSubscription s.birth x) (PutSubscription s.birth y) s
over_back text x y s is has may found = λ r there.
    let its : find (is_to x.filter) s.subscriptions ≡ Some y = ap (λ t. find (is_to t) s.subscriptions) (sym is) ∙ found in
    let place : y.place ≡ x.place = ap (place_by x.place) (sym its) ∙ may.place in
    session_back (with_subscription x) (with_subscription y) s r (λ z. refl)
    (ap (λ (zs : List Subscription). let t : Session = record s { subscriptions = zs } in t) (put_again x y s.subscriptions has.subscriptions may.once.differ its place)) there

-- the one at its place
pub beside_back : (text : List ℕ) (x y : Subscription) (s : Session) → text ≡ x.filter → HasTables s → MaySubscribe x s → find (is_to text) s.subscriptions ≡ None → row_at place_of x.place s.subscriptions ≡ Some y
    → TakesBack (PutSubscription s.birth x) (PutSubscription s.birth y) s
beside_back text x y s is has may none found = λ r there.
    let no : find (is_to x.filter) s.subscriptions ≡ None = ap (λ t. find (is_to t) s.subscriptions) (sym is) ∙ none in
    session_back (with_subscription x) (with_subscription y) s r (λ z. refl)
    (ap (λ (zs : List Subscription). let t : Session = record s { subscriptions = zs } in t) (put_beside x y s.subscriptions has.subscriptions may.once.differ no found)) there

-- none
pub new_back : (text : List ℕ) (x : Subscription) (s : Session) → text ≡ x.filter → find (is_to text) s.subscriptions ≡ None → row_at place_of x.place s.subscriptions ≡ None
    → TakesBack (PutSubscription s.birth x) (RemoveSubscription s.birth x.filter) s
new_back text x s is none free = λ r there.
    let no : find (is_to x.filter) s.subscriptions ≡ None = ap (λ t. find (is_to t) s.subscriptions) (sym is) ∙ none in
    session_back (with_subscription x) (without_subscription x.filter) s r (λ z. refl)
    (ap (λ (zs : List Subscription). let t : Session = record s { subscriptions = zs } in t) (put_gone x s.subscriptions no free)) there

-- a removed subscription is put back as it was
pub removal_back : (text f : List ℕ) (y : Subscription) (s : Session) → text ≡ f → HasTables s → HasEachFilterOnce s → find (is_to text) s.subscriptions ≡ Some y
    → TakesBack (RemoveSubscription s.birth f) (PutSubscription s.birth y) s
removal_back text f y s is has once found = λ r there.
    let its : find (is_to f) s.subscriptions ≡ Some y = ap (λ t. find (is_to t) s.subscriptions) (sym is) ∙ found in
    session_back (without_subscription f) (with_subscription y) s r (λ z. refl)
    (ap (λ (zs : List Subscription). let t : Session = record s { subscriptions = zs } in t) (removed_again f y s.subscriptions has.subscriptions once.differ its)) there

-- to remove a filter that no subscription has changes nothing, and to remove it again takes that back
pub none_back : (text f : List ℕ) (s : Session) → text ≡ f → find (is_to text) s.subscriptions ≡ None
    → TakesBack (RemoveSubscription s.birth f) (RemoveSubscription s.birth f) s
none_back text f s is none = λ r there.
    let no : find (is_to f) s.subscriptions ≡ None = ap (λ t. find (is_to t) s.subscriptions) (sym is) ∙ none in
    let same : without_subscription f s ≡ s = ap (λ (zs : List Subscription). let t : Session = record s { subscriptions = zs } in t) (none_without f s.subscriptions no) in
    session_back (without_subscription f) (without_subscription f) s r (λ z. refl) (ap (without_subscription f) same ∙ same) there
