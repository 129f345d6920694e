-- The Wills, the open identifiers and the subscriptions of sessions after a change.
use Rattle.std.proofs.Common.{◌≡◌, ◌≢◌, ◌⊎◌, ℕ, ◌<◌, Bool, true, false, not, bytes_eq, ◌||◌, List, [], ◌∷◌, filter, length, nat_lt, ap, arith, refl, sym, subst, ◌∙◌, inl, inr, true≢false}
use Rattle.std.specs.Prelude.{Some, None}
use Rattle.std.proofs.lemmas.Bool.{cases_Bool, eq-eqb, lt-ltb, or_right}
use Rattle.mqtt_base.specs.declared.limits.TheConstants.{OPEN_LIMIT, SUBSCRIPTION_LIMIT}
use Rattle.mqtt_records.specs.declared.messages.message.Will.{Will}
use Rattle.mqtt_records.specs.declared.state.session.Session.{Session}
use Rattle.mqtt_records.specs.declared.state.subscription.Subscription.{Subscription}
use Rattle.mqtt_records.specs.declared.state.records.Records.{Records}
use Rattle.mqtt_records.specs.declared.state.change.Change.TheVariants.{PutWill, RemoveWill, PutInbound, RemoveInbound, PutSubscription, RemoveSubscription}
use Rattle.mqtt_records.specs.lists.Order.{IsAbove, IsAscending, HasRoomFor, row_at}
use Rattle.mqtt_records.specs.state.Session.{birth_of, number_of, place_of, without_filter, with_will, with_open, without_open, with_subscription, without_subscription}
use Rattle.mqtt_records.specs.state.Records.{changed, Fits, HasSome, TakesSubscription}
use Rattle.mqtt_records.specs.state.Members.{Has, InPart}
use Rattle.mqtt_store_database.specs.item_laws.Members.{will_of, inbound_of, subscriptions_of, IsOrdered, AllOrdered}
use Rattle.mqtt_store_database.proofs.item_laws_lemmas.records.Members.{has_all, inserted_new, inserted_old, removed_new, removed_old, found_has, edited_new, edited_old}
use Rattle.mqtt_store_database.proofs.item_laws_lemmas.records.Queues.{one_session}

has_filter : {X : Type 0} (p : X → Bool) (xs : List X) (x : X) → Has (filter p xs) x → Has xs x × (p x ≡ true)
has_filter p [] x h = absurd h
has_filter p (y ∷ ys) x h = elim (cases_Bool (p y)) [
  | inl stays ↦
      let there : Has (y ∷ filter p ys) x = rw stays at h in
      elim there [ inl here ↦ (inl here, ap p here ∙ stays) | inr later ↦ let it = has_filter p ys x later in (inr it.0, it.1) ]
  | inr goes ↦ let there : Has (filter p ys) x = rw goes at h in let it = has_filter p ys x there in (inr it.0, it.1)
]

filter_has : {X : Type 0} (p : X → Bool) (xs : List X) (x : X) → Has xs x → p x ≡ true → Has (filter p xs) x
filter_has p [] x h passes = absurd h
filter_has p (y ∷ ys) x h passes = elim (cases_Bool (p y)) [
  | inl stays ↦ let there : Has (y ∷ filter p ys) x = elim h [ inl here ↦ inl here | inr later ↦ inr (filter_has p ys x later passes) ] in rw stays there
  | inr goes ↦ rw goes (elim h [ inl here ↦ absurd (true≢false (sym passes ∙ (ap p here ∙ goes))) | inr later ↦ filter_has p ys x later passes ])
]

untrue : (b : Bool) → not b ≡ true → b ≡ false
untrue true h = absurd (true≢false (sym h))
untrue false h = refl

module _ {X : Type 0} (key : X → ℕ) (p : X → Bool) where
  above_filter : (n : ℕ) (xs : List X) → IsAbove key n xs → IsAbove key n (filter p xs)
  above_filter n [] up = tt
  above_filter n (y ∷ ys) up = elim (cases_Bool (p y)) [
    | inl stays ↦ rw stays (up.0, above_filter n ys up.1)
    | inr goes ↦ rw goes (above_filter n ys up.1)
  ]

  ascending_filter : (xs : List X) → IsAscending key xs → IsAscending key (filter p xs)
  ascending_filter [] up = tt
  ascending_filter (y ∷ ys) up = elim (cases_Bool (p y)) [
    | inl stays ↦ rw stays (above_filter (key y) ys up.0, ascending_filter ys up.1)
    | inr goes ↦ rw goes (ascending_filter ys up.1)
  ]

-- a key that no row has
none_has : {X : Type 0} (key : X → ℕ) (k : ℕ) (xs : List X) (x : X) → row_at key k xs ≡ None → Has xs x → key x ≢ k
none_has key k [] x none h same = absurd h
none_has key k (y ∷ ys) x none h same = elim (cases_Bool (Rattle.std.proofs.Common.nat_eq (key y) k)) [
  | inl is ↦ let found : Some y ≡ None = rw is at none in absurd cc
  | inr isnt ↦ elim h [
    | inl here ↦ let yes_is = eq-eqb (key y) k (sym (ap key here) ∙ same) in true≢false (sym yes_is ∙ isnt)
    | inr later ↦ let rest : row_at key k ys ≡ None = rw isnt at none in none_has key k ys x rest later same
  ]
]

module _ (r : Records) (kept : AllOrdered r) where
  ordered : (s : Session) → Has r.sessions s → IsOrdered s
  ordered s h = has_all IsOrdered r.sessions s kept.lists h

  -- what is asked of the session with that birth holds of each that has it
  module _ (birth : ℕ) (P : Session → Type 0) (some : HasSome (row_at birth_of birth r.sessions) P) where
    home : (s : Session) × Has r.sessions s × (s.birth ≡ birth) × P s
    home = found_has birth_of birth r.sessions P some

    asked : (s : Session) → Has r.sessions s → s.birth ≡ birth → P s
    asked s h same = subst P (one_session r.sessions home.0 s kept.sessions home.1 h (home.2 ∙ sym same)) home.3

  -- ---- Wills

  module _ (birth : ℕ) where
    -- after a Will is put, a Will that stands is that one, or one of another session
    pub will_new : (will : Will) (b : ℕ) (x : Will) → InPart will_of (changed (PutWill birth will) r).sessions b x → ((b ≡ birth) × (x ≡ will)) ⊎ (InPart will_of r.sessions b x × b ≢ birth)
    will_new will = edited_new will_of birth (with_will (Some will)) r.sessions kept.sessions (λ s. refl) (λ x. x ≡ will) (λ _. ⊥)
        (λ s x h same there. elim there [ inl here ↦ inl here | inr none ↦ absurd none ])

    -- after a Will is put, that one stands and those of other sessions do
    pub will_old : (will : Will) → Fits (PutWill birth will) r → (b : ℕ) (x : Will) → ((b ≡ birth) × (x ≡ will)) ⊎ (InPart will_of r.sessions b x × b ≢ birth) → InPart will_of (changed (PutWill birth will) r).sessions b x
    will_old will fits = edited_old will_of birth (with_will (Some will)) r.sessions kept.sessions (λ s. refl) (λ x. x ≡ will) (λ _. ⊥)
        (λ s x h same it. elim it [ inl here ↦ inl here | inr old ↦ absurd old.1 ])
        (λ x new. let it = home birth (λ _. Unit {0}) fits in (it.0, it.1, it.2))

    -- after a Will is removed, a Will that stands is one of another session
    pub will_out_new : (b : ℕ) (x : Will) → InPart will_of (changed (RemoveWill birth) r).sessions b x → InPart will_of r.sessions b x × b ≢ birth
    will_out_new b x it = elim (edited_new will_of birth (with_will None) r.sessions kept.sessions (λ s. refl) (λ _. ⊥) (λ _. ⊥) (λ s x h same there. absurd there) b x it) [
      | inl none ↦ absurd none.1
      | inr old ↦ old
    ]

    -- after a Will is removed, those of other sessions stand
    pub will_out_old : (b : ℕ) (x : Will) → InPart will_of r.sessions b x × b ≢ birth → InPart will_of (changed (RemoveWill birth) r).sessions b x
    will_out_old b x it = edited_old will_of birth (with_will None) r.sessions kept.sessions (λ s. refl) (λ _. ⊥) (λ _. ⊥)
        (λ s x h same it. elim it [ inl none ↦ absurd none | inr old ↦ absurd old.1 ]) (λ x none. absurd none) b x (inr it)

  -- ---- open identifiers

  module _ (birth n : ℕ) where
    abbrev Room : Session → Type 0
    Room s = HasRoomFor number_of OPEN_LIMIT n s.inbound

    -- after an identifier is opened, an open one is that, or was open before
    pub open_new : Fits (PutInbound birth n) r → (b x : ℕ) → InPart inbound_of (changed (PutInbound birth n) r).sessions b x → ((b ≡ birth) × (x ≡ n)) ⊎ (InPart inbound_of r.sessions b x × (b ≡ birth → x ≢ n))
    open_new fits = edited_new inbound_of birth (with_open n) r.sessions kept.sessions (λ s. refl) (λ x. x ≡ n) (λ x. x ≢ n)
        (λ s x h same there. inserted_new number_of n s.inbound x (ordered s h).inbound (rw (asked birth Room fits s h same) at there))

    -- after an identifier is opened, that one is open and those before are
    pub open_old : Fits (PutInbound birth n) r → (b x : ℕ) → ((b ≡ birth) × (x ≡ n)) ⊎ (InPart inbound_of r.sessions b x × (b ≡ birth → x ≢ n)) → InPart inbound_of (changed (PutInbound birth n) r).sessions b x
    open_old fits = edited_old inbound_of birth (with_open n) r.sessions kept.sessions (λ s. refl) (λ x. x ≡ n) (λ x. x ≢ n)
        (λ s x h same it. rw (asked birth Room fits s h same) (inserted_old number_of n s.inbound x it))
        (λ x new. let it = home birth Room fits in (it.0, it.1, it.2))

    -- after an identifier is closed, an open one was open before and is another
    pub open_out_new : (b x : ℕ) → InPart inbound_of (changed (RemoveInbound birth n) r).sessions b x → InPart inbound_of r.sessions b x × (b ≡ birth → x ≢ n)
    open_out_new b x it = elim (edited_new inbound_of birth (without_open n) r.sessions kept.sessions (λ s. refl) (λ _. ⊥) (λ x. x ≢ n) (λ s x h same there. inr (removed_new number_of n s.inbound x there)) b x it) [
      | inl none ↦ absurd none.1
      | inr old ↦ old
    ]

    -- after an identifier is closed, the others are still open
    pub open_out_old : (b x : ℕ) → InPart inbound_of r.sessions b x × (b ≡ birth → x ≢ n) → InPart inbound_of (changed (RemoveInbound birth n) r).sessions b x
    open_out_old b x it = edited_old inbound_of birth (without_open n) r.sessions kept.sessions (λ s. refl) (λ _. ⊥) (λ x. x ≢ n)
        (λ s x h same it. elim it [ inl none ↦ absurd none | inr old ↦ removed_old number_of n s.inbound x old.0 old.1 ]) (λ x none. absurd none) b x (inr it)

  -- ---- subscriptions

  module _ (birth : ℕ) (text : List ℕ) where
    abbrev Other : Subscription → Type 0
    Other x = bytes_eq x.filter text ≡ false

    out_new : (subscriptions : List Subscription) (x : Subscription) → Has (without_filter text subscriptions) x → Has subscriptions x × Other x
    out_new subscriptions x there = let it = has_filter (λ s. not (bytes_eq s.filter text)) subscriptions x there in (it.0, untrue _ it.1)

    out_old : (subscriptions : List Subscription) (x : Subscription) → Has subscriptions x → Other x → Has (without_filter text subscriptions) x
    out_old subscriptions x h other = filter_has (λ s. not (bytes_eq s.filter text)) subscriptions x h (ap not other)

    -- after a filter is unsubscribed, a subscription that stands did before and is to another filter
    pub subscription_out_new : (b : ℕ) (x : Subscription) → InPart subscriptions_of (changed (RemoveSubscription birth text) r).sessions b x → InPart subscriptions_of r.sessions b x × (b ≡ birth → Other x)
    subscription_out_new b x it = elim (edited_new subscriptions_of birth (without_subscription text) r.sessions kept.sessions (λ s. refl) (λ _. ⊥) Other (λ s x h same there. inr (out_new s.subscriptions x there)) b x it) [
      | inl none ↦ absurd none.1
      | inr old ↦ old
    ]

    -- after a filter is unsubscribed, subscriptions to other filters stand
    pub subscription_out_old : (b : ℕ) (x : Subscription) → InPart subscriptions_of r.sessions b x × (b ≡ birth → Other x) → InPart subscriptions_of (changed (RemoveSubscription birth text) r).sessions b x
    subscription_out_old b x it = edited_old subscriptions_of birth (without_subscription text) r.sessions kept.sessions (λ s. refl) (λ _. ⊥) Other
        (λ s x h same it. elim it [ inl none ↦ absurd none | inr old ↦ out_old s.subscriptions x old.0 old.1 ]) (λ x none. absurd none) b x (inr it)

  module _ (birth : ℕ) (new : Subscription) (fits : Fits (PutSubscription birth new) r) where
    abbrev Takes : Session → Type 0
    Takes s = TakesSubscription new (without_filter new.filter s.subscriptions)

    abbrev rest : Session → List Subscription
    rest s = without_filter new.filter s.subscriptions

    room : (s : Session) → Takes s → HasRoomFor place_of SUBSCRIPTION_LIMIT new.place (rest s)
    room s takes = or_right _ _ (lt-ltb (length (rest s)) SUBSCRIPTION_LIMIT takes.1)

    -- after a subscription is put, one that stands is that, or to another filter and stood before
    pub subscription_new : (b : ℕ) (x : Subscription) → InPart subscriptions_of (changed (PutSubscription birth new) r).sessions b x
        → ((b ≡ birth) × (x ≡ new)) ⊎ (InPart subscriptions_of r.sessions b x × (b ≡ birth → bytes_eq x.filter new.filter ≡ false))
    subscription_new = edited_new subscriptions_of birth (with_subscription new) r.sessions kept.sessions (λ s. refl) (λ x. x ≡ new) (λ x. bytes_eq x.filter new.filter ≡ false)
        (λ s x h same there.
        let takes = asked birth Takes fits.0 s h same in
        elim (inserted_new place_of new (rest s) x (ascending_filter place_of (λ s. not (bytes_eq s.filter new.filter)) s.subscriptions (ordered s h).subscriptions) (rw (room s takes) at there)) [
          | inl here ↦ inl here
          | inr old ↦ inr (out_new birth new.filter s.subscriptions x old.0)
        ])

    -- after a subscription is put, that one stands and those to other filters do
    pub subscription_old : (b : ℕ) (x : Subscription) → ((b ≡ birth) × (x ≡ new)) ⊎ (InPart subscriptions_of r.sessions b x × (b ≡ birth → bytes_eq x.filter new.filter ≡ false))
        → InPart subscriptions_of (changed (PutSubscription birth new) r).sessions b x
    subscription_old = edited_old subscriptions_of birth (with_subscription new) r.sessions kept.sessions (λ s. refl) (λ x. x ≡ new) (λ x. bytes_eq x.filter new.filter ≡ false)
        (λ s x h same it.
        let takes = asked birth Takes fits.0 s h same in
        rw (room s takes) (inserted_old place_of new (rest s) x (elim it [
          | inl here ↦ inl here
          | inr old ↦ let there = out_old birth new.filter s.subscriptions x old.0 old.1 in inr (there, none_has place_of new.place (rest s) x takes.0 there)
        ])))
        (λ x is. let it = home birth Takes fits.0 in (it.0, it.1, it.2))
