-- Records without their copies and retained messages.
use Rattle.std.proofs.Common.{◌≡◌, ℕ, List, [], ◌∷◌, map, refl, sym, ap, subst, ◌∙◌, inl, inr}
use Rattle.std.specs.List.{AllByRecursion}
use Rattle.mqtt_records.specs.messages.Queue.{CopyRow}
use Rattle.mqtt_records.specs.declared.state.records.Records.{Records}
use Rattle.mqtt_records.specs.declared.state.session.Columns.{Columns}
use Rattle.mqtt_records.specs.declared.state.session.Session.{Session}
use Rattle.mqtt_records.specs.state.Contents.{StoredMessage, IsMessageOf}
use Rattle.mqtt_records.specs.state.Members.{Has, InPart, InQueue}
use Rattle.mqtt_records.specs.state.Session.{birth_of, columns_of}
use Rattle.mqtt_records.specs.lists.Order.{IsAbove, IsAscending}
use Rattle.mqtt_store_database.specs.item_laws.Members.{HasColumns, will_of, subscriptions_of, IsOrdered, AllOrdered}
use Rattle.mqtt_store_database.specs.item_laws.Written.{AreSayable}
use Rattle.mqtt_store_rows.specs.rows.Gives.{without_queue}
use Rattle.mqtt_store_database.specs.taking_over.Puts.{emptied}

had_map : {X Y : Type 0} (f : X → Y) (xs : List X) (y : Y) → Has (map f xs) y → (x : X) × Has xs x × (y ≡ f x)
had_map f [] y h = absurd h
had_map f (x ∷ xs) y (inl here) = (x, inl refl, here)
had_map f (x ∷ xs) y (inr later) = let it = had_map f xs y later in (it.0, inr it.1, it.2)

has_map : {X Y : Type 0} (f : X → Y) (xs : List X) (x : X) → Has xs x → Has (map f xs) (f x)
has_map f [] x h = absurd h
has_map f (y ∷ ys) x (inl here) = inl (ap f here)
has_map f (y ∷ ys) x (inr later) = inr (has_map f ys x later)

module _ (r : Records) where
  module _ {X : Type 0} (part : Session → List X) (same : (s : Session) → part (without_queue s) ≡ part s) where
    -- what a session has beside its queue it had
    pub part_had : (b : ℕ) (x : X) → InPart part (emptied r).sessions b x → InPart part r.sessions b x
    part_had b x it =
        let s = had_map without_queue r.sessions it.0 it.1 in
        (s.0, s.1, ap birth_of (sym s.2) ∙ it.2, subst (λ (l : List X). Has l x) (same s.0) (subst (λ (u : Session). Has (part u) x) s.2 it.3))

    -- what it had it has
    pub part_has : (b : ℕ) (x : X) → InPart part r.sessions b x → InPart part (emptied r).sessions b x
    part_has b x it = (without_queue it.0, has_map without_queue r.sessions it.0 it.1, it.2, subst (λ (l : List X). Has l x) (sym (same it.0)) it.3)

  -- a session's own row was there
  pub columns_had : (c : Columns) → HasColumns (emptied r) c → HasColumns r c
  columns_had c it = let s = had_map without_queue r.sessions it.0 it.1 in (s.0, s.1, ap columns_of (sym s.2) ∙ it.2)

  -- one that was there is there
  pub columns_has : (c : Columns) → HasColumns r c → HasColumns (emptied r) c
  columns_has c it = (without_queue it.0, has_map without_queue r.sessions it.0 it.1, it.2)

  -- no copy is there
  pub no_copy : (b : ℕ) (x : CopyRow) → InQueue (emptied r) b x → ⊥
  no_copy b x it = let s = had_map without_queue r.sessions it.0 it.1 in subst (λ (u : Session). Has u.queue x) s.2 it.3

  -- nothing is said
  pub nothing_said : (m : StoredMessage) → IsMessageOf (emptied r) m → ⊥
  nothing_said m (inl it) = no_copy it.0 it.1 it.2
  nothing_said m (inr it) = it.1

  -- ---- what holds of records holds still

  still_above : (n : ℕ) (ss : List Session) → IsAbove birth_of n ss → IsAbove birth_of n (map without_queue ss)
  still_above n [] up = tt
  still_above n (s ∷ ss) up = (up.0, still_above n ss up.1)

  still_up : (ss : List Session) → IsAscending birth_of ss → IsAscending birth_of (map without_queue ss)
  still_up [] up = tt
  still_up (s ∷ ss) up = (still_above s.birth ss up.0, still_up ss up.1)

  still_ordered : (ss : List Session) → AllByRecursion IsOrdered ss → AllByRecursion IsOrdered (map without_queue ss)
  still_ordered [] all = tt
  still_ordered (s ∷ ss) all = (record { subscriptions = all.0.subscriptions; inbound = all.0.inbound; queue = tt }, still_ordered ss all.1)

  -- all lists rise
  pub rest_ordered : AllOrdered r → AllOrdered (emptied r)
  rest_ordered all = record { sessions = still_up r.sessions all.sessions; lists = still_ordered r.sessions all.lists }

  -- rows can say what is left
  pub rest_sayable : AreSayable r → AreSayable (emptied r)
  rest_sayable says = record {
    wills = λ b x it. says.wills b x (part_had will_of (λ s. refl) b x it);
    subscriptions = λ b x it. says.subscriptions b x (part_had subscriptions_of (λ s. refl) b x it);
    own = λ b x it. absurd (no_copy b x it);
    copies = λ b x it. absurd (no_copy b x it);
    retained = λ x it. absurd it;
  }
