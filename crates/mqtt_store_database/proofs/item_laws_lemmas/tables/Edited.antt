-- The tables of what sessions have, and what their rows can say, if a change leaves them alone.
use Rattle.std.proofs.Common.{◌≡◌, ℕ}
use Rattle.sqlite_trees.specs.Tree.{Trees}
use Rattle.mqtt_records.specs.declared.messages.message.Will.{Will}
use Rattle.mqtt_records.specs.messages.Queue.{CopyRow}
use Rattle.mqtt_records.specs.declared.state.session.Session.{Session}
use Rattle.mqtt_records.specs.declared.state.subscription.Subscription.{Subscription}
use Rattle.mqtt_records.specs.declared.state.records.Records.{Records}
use Rattle.mqtt_records.specs.lists.Order.{IsAscending}
use Rattle.mqtt_records.specs.state.Session.{birth_of, columns_of}
use Rattle.mqtt_records.specs.state.Records.{in_session}
use Rattle.mqtt_records.specs.state.Members.{InPart, InQueue, queue_of}
use Rattle.mqtt_store_database.specs.item_laws.Members.{HasColumns, will_of, subscriptions_of, inbound_of}
use Rattle.mqtt_store_database.specs.item_laws.Items.{IsSessionRow, IsWillRow, IsSubscriptionRow, IsOpenRow}
use Rattle.mqtt_store_database.specs.item_laws.Written.{AreWritten, AreSayable, IsWillOf, IsSubscriptionOf, IsOpenOf, IsSayableWill, IsSayableSubscription}
use Rattle.mqtt_store_database.proofs.item_laws_lemmas.records.Parts.{part_new, part_old, own_new, own_old}
use Rattle.mqtt_store_database.proofs.item_laws_lemmas.tables.Tables.{unchanged}

module _ (r : Records) (birth : ℕ) (f : Session → Session) (up : IsAscending birth_of r.sessions) (keeps : (s : Session) → (f s).birth ≡ s.birth) where
  abbrev after : Records
  after = in_session birth f r

  -- ---- the tables

  module _ (db next : Trees) where
    -- a change that leaves the sessions' own rows alone leaves their table written
    pub sessions_stay : ((s : Session) → columns_of (f s) ≡ columns_of s) → next 2 ≡ db 2 → AreWritten IsSessionRow (HasColumns r) (db 2) → AreWritten IsSessionRow (HasColumns after) (next 2)
    sessions_stay same is w = unchanged IsSessionRow (HasColumns r) (HasColumns after) (db 2) (next 2) is (own_new birth f r.sessions up keeps same) (own_old birth f r.sessions up keeps same) w

    -- a change that leaves Wills alone leaves their table written
    pub wills_stay : ((s : Session) → will_of (f s) ≡ will_of s) → next 4 ≡ db 4 → AreWritten IsWillRow (IsWillOf r) (db 4) → AreWritten IsWillRow (IsWillOf after) (next 4)
    wills_stay same is w = unchanged IsWillRow (IsWillOf r) (IsWillOf after) (db 4) (next 4) is
        (λ x. part_new birth f r.sessions up keeps will_of same x.0 x.1) (λ x. part_old birth f r.sessions up keeps will_of same x.0 x.1) w

    -- a change that leaves subscriptions alone leaves their table written
    pub subscriptions_stay : ((s : Session) → subscriptions_of (f s) ≡ subscriptions_of s) → next 5 ≡ db 5 → AreWritten IsSubscriptionRow (IsSubscriptionOf r) (db 5)
        → AreWritten IsSubscriptionRow (IsSubscriptionOf after) (next 5)
    subscriptions_stay same is w = unchanged IsSubscriptionRow (IsSubscriptionOf r) (IsSubscriptionOf after) (db 5) (next 5) is
        (λ x. part_new birth f r.sessions up keeps subscriptions_of same x.0 x.1) (λ x. part_old birth f r.sessions up keeps subscriptions_of same x.0 x.1) w

    -- a change that leaves open identifiers alone leaves their table written
    pub inbound_stays : ((s : Session) → inbound_of (f s) ≡ inbound_of s) → next 7 ≡ db 7 → AreWritten IsOpenRow (IsOpenOf r) (db 7) → AreWritten IsOpenRow (IsOpenOf after) (next 7)
    inbound_stays same is w = unchanged IsOpenRow (IsOpenOf r) (IsOpenOf after) (db 7) (next 7) is
        (λ x. part_new birth f r.sessions up keeps inbound_of same x.0 x.1) (λ x. part_old birth f r.sessions up keeps inbound_of same x.0 x.1) w

  -- ---- what their rows can say

  module _ (sayable : AreSayable r) where
    -- a change that leaves Wills alone leaves what rows can say of them
    pub wills_said : ((s : Session) → will_of (f s) ≡ will_of s) → (b : ℕ) (x : Will) → InPart will_of after.sessions b x → IsSayableWill x
    wills_said same b x h = sayable.wills b x (part_new birth f r.sessions up keeps will_of same b x h)

    -- a change that leaves subscriptions alone leaves what rows can say of them
    pub subscriptions_said : ((s : Session) → subscriptions_of (f s) ≡ subscriptions_of s) → (b : ℕ) (x : Subscription) → InPart subscriptions_of after.sessions b x → IsSayableSubscription x
    subscriptions_said same b x h = sayable.subscriptions b x (part_new birth f r.sessions up keeps subscriptions_of same b x h)

    -- a change that leaves the queues alone leaves each copy in the queue of its own session
    pub own_said : ((s : Session) → queue_of (f s) ≡ queue_of s) → (b : ℕ) (x : CopyRow) → InQueue after b x → x.copy.id.birth ≡ b
    own_said same b x h = sayable.own b x (part_new birth f r.sessions up keeps queue_of same b x h)
