-- Whether an event is bad, and what it asks of the broker, doesn't depend on what is under way to ends.
use Rattle.std.proofs.Common.{◌≡◌, ℕ, zero, suc, Bool, true, false, cond, not, List, [], ◌∷◌, ◌++◌, length, bytes_eq, Option, Some, None, Ok, Err, refl, sym, ap, ap₂, ◌∙◌}
use Rattle.std.specs.Prelude.{◌||◌, find, is_none, is_some, option_map}
use Rattle.mqtt_packet.specs.declared.codec.packet.Packet.{Packet}
use Rattle.mqtt_packet.specs.declared.codec.packet.Packet.TheVariants.{Connect}
use Rattle.mqtt_flow.specs.inbound.Line.{Link}
use Rattle.mqtt_packet.specs.stream.Front.{first_of}
use Rattle.mqtt_topic.specs.names.Aliases.{AliasTable}
use Rattle.mqtt_rules.specs.step.Piece.{Front}
use Rattle.mqtt_rules.specs.step.State.{Telling}
use Rattle.mqtt_world_model.specs.model.Ends.{Publisher, Receiver}
use Rattle.mqtt_world_model.specs.model.Laws.{fate_by, fate_of}
use Rattle.mqtt_world_model.specs.model.World.{World, Setting, Asking, to_broker, old_to_broker, break, pump, tick, stranger, may_take}
use Rattle.mqtt_world_model.specs.model.World.{Event, publisher, receiver, connect_end, give_up, publish, subscribe, to_end, clock, ask, restart, stop_before, stop_after}
use Rattle.mqtt_world_model.specs.model.World.{publisher_named, receiver_named, stranger_named, is_end, link_by, link_of, may_ask, view_by, view_of, View}
use Rattle.mqtt_world_model.specs.model.World.{is_bad, is_bad_asking, is_bad_name, is_away, has_line, is_message, is_wish, are_bytes, names_end, front_names, bytes_name, bytes_held, held_after}
use Rattle.mqtt_world_model.specs.model.World.{call_of, call_of_stranger, input_on, linked_at, lost_on, pump_on}
use Rattle.mqtt_world_laws.specs.telling.AsSent.{Most}
use Rattle.mqtt_world_laws.specs.telling.Likewise.{AllPublishersAlike, AllReceiversAlike}
use Rattle.mqtt_world_laws.proofs.telling_lemmas.Ends.{publisher_with, receiver_with}

-- ---- who is found by a name, with nothing under way

abbrev no_publisher_downs : Option Publisher → Option Publisher
no_publisher_downs o = option_map (publisher_with []) o

abbrev no_receiver_downs : Option Receiver → Option Receiver
no_receiver_downs o = option_map (receiver_with []) o

found_publisher : (client : List ℕ) (ps ms : List Publisher) → AllPublishersAlike ps ms
    → no_publisher_downs (find (λ p. bytes_eq p.client client) ms) ≡ no_publisher_downs (find (λ p. bytes_eq p.client client) ps)
found_publisher client [] [] h = refl
found_publisher client (p ∷ ps) (m ∷ ms) h =
    let name : bytes_eq m.client client ≡ bytes_eq p.client client = ap (λ (x : Publisher). bytes_eq x.client client) h.0.same in
    rw name (by (bytes_eq p.client client) (found_publisher client ps ms h.1))
  where
    by : (t : Bool) → no_publisher_downs (find (λ p. bytes_eq p.client client) ms) ≡ no_publisher_downs (find (λ p. bytes_eq p.client client) ps)
        → no_publisher_downs (cond t (Some m) (find (λ p. bytes_eq p.client client) ms)) ≡ no_publisher_downs (cond t (Some p) (find (λ p. bytes_eq p.client client) ps))
    by true rest = ap (λ (x : Publisher). Some (publisher_with [] x)) h.0.same
    by false rest = rest
found_publisher client [] (m ∷ ms) h = absurd h
found_publisher client (p ∷ ps) [] h = absurd h

found_receiver : (most : Most) (ts : List Telling) (client : List ℕ) (rs : List Receiver) (ks : List AliasTable) (ms : List Receiver) → AllReceiversAlike most ts rs ks ms
    → no_receiver_downs (find (λ r. bytes_eq r.client client) ms) ≡ no_receiver_downs (find (λ r. bytes_eq r.client client) rs)
found_receiver most ts client [] [] [] h = refl
found_receiver most ts client (r ∷ rs) (k ∷ ks) (m ∷ ms) h =
    let name : bytes_eq m.client client ≡ bytes_eq r.client client = ap (λ (x : Receiver). bytes_eq x.client client) h.0.same in
    rw name (by (bytes_eq r.client client) (found_receiver most ts client rs ks ms h.1))
  where
    by : (t : Bool) → no_receiver_downs (find (λ r. bytes_eq r.client client) ms) ≡ no_receiver_downs (find (λ r. bytes_eq r.client client) rs)
        → no_receiver_downs (cond t (Some m) (find (λ r. bytes_eq r.client client) ms)) ≡ no_receiver_downs (cond t (Some r) (find (λ r. bytes_eq r.client client) rs))
    by true rest = ap (λ (x : Receiver). Some (receiver_with [] x)) h.0.same
    by false rest = rest
found_receiver most ts client [] [] (m ∷ ms) h = absurd h
found_receiver most ts client [] (k ∷ ks) ms h = absurd h
found_receiver most ts client (r ∷ rs) [] ms h = absurd h
found_receiver most ts client (r ∷ rs) (k ∷ ks) [] h = absurd h

-- ---- what doesn't look at that

abbrev IsBlind : {X : Type 0} → (Option Publisher → Option Receiver → X) → Type 0
IsBlind f = (o : Option Publisher) (q : Option Receiver) → f (no_publisher_downs o) (no_receiver_downs q) ≡ f o q

end_blind : IsBlind (λ o q. is_some o || is_some q)
end_blind (Some p) q = refl
end_blind None (Some r) = refl
end_blind None None = refl

none_blind : IsBlind (λ o q. is_none o)
none_blind (Some p) q = refl
none_blind None q = refl

link_blind : IsBlind link_by
link_blind (Some p) q = refl
link_blind None (Some r) = refl
link_blind None None = refl

ask_blind : IsBlind (λ o q. may_ask q)
ask_blind o (Some r) = refl
ask_blind o None = refl

fate_blind : (n : ℕ) → IsBlind (λ o q. fate_by n o)
fate_blind n (Some p) q = refl
fate_blind n None q = refl

view_blind : IsBlind view_by
view_blind (Some p) q = refl
view_blind None (Some r) = refl
view_blind None None = refl

module _ (most : Most) (ts : List Telling) (ks : List AliasTable) (x : World) (ms : List Publisher) (vs : List Receiver)
    (hp : AllPublishersAlike x.publishers ms) (hr : AllReceiversAlike most ts x.receivers ks vs) where
  -- the world of what is meant
  abbrev Other : World
  Other = record x { publishers = ms; receivers = vs }

  blind : {X : Type 0} (f : Option Publisher → Option Receiver → X) → IsBlind f → (client : List ℕ)
      → f (publisher_named client Other) (receiver_named client Other) ≡ f (publisher_named client x) (receiver_named client x)
  blind f b client =
      sym (b (publisher_named client Other) (receiver_named client Other))
      ∙ (ap₂ f (found_publisher client x.publishers ms hp) (found_receiver most ts client x.receivers ks vs hr) ∙ b (publisher_named client x) (receiver_named client x))

  same_end : (client : List ℕ) → is_end client Other ≡ is_end client x
  same_end client = blind (λ o q. is_some o || is_some q) end_blind client

  same_link : (client : List ℕ) → link_of client Other ≡ link_of client x
  same_link client = blind link_by link_blind client

  same_view : (client : List ℕ) → view_of client Other ≡ view_of client x
  same_view client = blind view_by view_blind client

  -- what became of a message is the same
  pub same_fate : (client : List ℕ) (n : ℕ) → fate_of client n Other ≡ fate_of client n x
  same_fate client n = blind (λ o q. fate_by n o) (fate_blind n) client

  names_same : (packet : Packet) → names_end packet Other ≡ names_end packet x
  names_same (Connect c) = same_end c.client_identifier
  names_same packet = refl

  front_same : (f : Front) → front_names f Other ≡ front_names f x
  front_same (Ok None) = refl
  front_same (Ok (Some y)) = names_same y.0
  front_same (Err fault) = refl

  bytes_same : (more : ℕ) (bytes : List ℕ) → bytes_name more bytes Other ≡ bytes_name more bytes x
  bytes_same zero bytes = refl
  bytes_same (suc more) bytes = ap₂ (λ a b. a || b) (front_same (first_of bytes)) (bytes_same more (held_after bytes))

  asking_same : (a : Asking) → is_bad_asking a Other ≡ is_bad_asking a x
  asking_same (to_broker client) = ap not (same_end client)
  asking_same (old_to_broker client) = ap not (same_end client)
  asking_same (break client) = ap (λ (o : Option Link). not (has_line o)) (same_link client)
  asking_same (pump client) = ap not (same_end client)
  asking_same tick = refl
  asking_same (stranger name bytes) =
      let all = bytes_held (stranger_named name x) ++ bytes in
      ap (λ (t : Bool). not (are_bytes bytes) || t) (bytes_same (length all) all)

  -- an event is bad in both worlds or in none
  pub bad_same : (e : Event) → is_bad e Other ≡ is_bad e x
  bad_same (publisher client) = ap (λ (t : Bool). is_bad_name client || t) (same_end client)
  bad_same (receiver client window aliases) = ap (λ (t : Bool). is_bad_name client || (t || not (may_take window aliases))) (same_end client)
  bad_same (connect_end client clean) = ap (λ (o : Option Link). not (is_away o)) (same_link client)
  bad_same (give_up client) = ap (λ (o : Option Link). not (has_line o)) (same_link client)
  bad_same (publish client d) = ap (λ (t : Bool). t || not (is_message d)) (blind (λ o q. is_none o) none_blind client)
  bad_same (subscribe client y) = ap (λ (t : Bool). not t || not (is_wish y)) (blind (λ o q. may_ask q) ask_blind client)
  bad_same (to_end client) = ap not (same_end client)
  bad_same (clock wait) = refl
  bad_same (ask a) = asking_same a
  bad_same restart = refl
  bad_same (stop_before a) = asking_same a
  bad_same (stop_after a) = asking_same a

  -- what is asked of the broker is the same
  pub call_same : (set : Setting) (a : Asking) → call_of set a Other ≡ call_of set a x
  call_same set (to_broker client) = ap (λ (v : View). input_on v.number v.up) (same_view client)
  call_same set (old_to_broker client) = ap (λ (v : View). input_on v.old_number v.old) (same_view client)
  call_same set (break client) = ap (λ (v : View). lost_on v.number) (same_view client)
  call_same set (pump client) = ap (λ (v : View). pump_on v.number) (same_view client)
  call_same set tick = refl
  call_same set (stranger name bytes) = by (is_some (stranger_named name x))
    where
      by : (t : Bool) → call_of_stranger (stranger_named name (linked_at set t name bytes Other)) ≡ call_of_stranger (stranger_named name (linked_at set t name bytes x))
      by true = refl
      by false = refl
