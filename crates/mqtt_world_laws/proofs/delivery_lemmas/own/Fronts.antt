-- What is under way first on a receiver's line: its CONNECT, if the line waits for that, and any other packet if its session is
-- connected; and so on the line that it gave up (MQTT 5.0, 3.1, 3.1.4).
use Rattle.std.proofs.Common.{◌≡◌, ℕ, Bool, false, ◌⊎◌, List, [], ◌∷◌, map, Option, Some, None, sym, ap, subst, ◌∙◌, inl, inr}
use Rattle.std.specs.List.{AllByRecursion}
use Rattle.mqtt_flow.specs.outbound.Receiver.{Answer, HasNoConnect, connect, puback, pubcomp, pubrec}
use Rattle.mqtt_world_model.specs.model.Ends.{Back, Receiver, answers}
use Rattle.mqtt_world_model.specs.model.Hops.{IsNoConnect}
use Rattle.mqtt_world_model.specs.model.Seats.{Former, IsIdle, Present, absent, closed, connected_at, glance_at, joined, late, lingers, over, waiting, waits_there}
use Rattle.mqtt_world_model.proofs.model_lemmas.own.OwnCalls.{waiting_line}
use Rattle.mqtt_rules.specs.step.State.{Line as BrokerLine, Broker, line_at}
use Rattle.mqtt_world_laws.specs.delivery.Standing.{line_like, packet_like}
use Rattle.mqtt_world_laws.proofs.delivery_lemmas.others.Like.{connect_like}

-- the line of this number waits for CONNECT
pub record Awaits (n : Option ℕ) (l : BrokerLine) (b : Broker) : Type 0 where
  pub number : n ≡ Some l.number
  pub line : line_at l.number b ≡ Some l
  pub waits : l.session ≡ None
  pub idle : IsIdle l.number b

-- the session is connected on the line of this number
pub record IsJoined (o : Option ℕ) (k : ℕ) (n : Option ℕ) (b : Broker) : Type 0 where
  pub birth : ℕ
  pub own : o ≡ Some birth
  pub at : n ≡ Some k
  pub there : connected_at k b.lines ≡ Some (Some birth)

-- the packet is a CONNECT, alone, and the line of this number waits for it
pub record Connects (clean : Bool) (x : Back) (rest : List Back) (n : Option ℕ) (b : Broker) : Type 0 where
  pub packet : x ≡ answers (connect clean)
  pub alone : rest ≡ []
  pub line : BrokerLine
  pub awaits : Awaits n line b

awaits_at : (x : Option ℕ) (n : ℕ) (b : Broker) → x ≡ Some n → IsIdle n b → glance_at n b.lines ≡ waits_there → (l : BrokerLine) × Awaits x l b
awaits_at x n b is idle there =
    let y = waiting_line n b there in
    (y.0, record { number = is ∙ ap Some (sym y.4); line = ap (λ (m : ℕ). line_at m b) y.4 ∙ y.1; waits = y.2; idle = subst (λ (m : ℕ). IsIdle m b) (sym y.4) idle })

some_up : (x : Back) (rest xs : List Back) → xs ≡ x ∷ rest → map packet_like xs ≡ [] → ⊥
some_up x rest xs up e = let clash : packet_like x ∷ map packet_like rest ≡ [] = sym (ap (map packet_like) up) ∙ e in absurd cc

connects_at : (clean : Bool) (x : Back) (rest xs : List Back) (y : Option ℕ) (n : ℕ) (b : Broker) → xs ≡ x ∷ rest → xs ≡ answers (connect clean) ∷ [] → y ≡ Some n → IsIdle n b → glance_at n b.lines ≡ waits_there
    → Connects clean x rest y b
connects_at clean x rest xs y n b up alone_is is idle there =
    let both : x ∷ rest ≡ answers (connect clean) ∷ [] = sym up ∙ alone_is in
    let l = awaits_at y n b is idle there in
    record { packet = cc; alone = cc; line = l.0; awaits = l.1 }

-- of its line
pub front : (o : Option ℕ) (k : ℕ) (x : Back) (rest : List Back) (r : Receiver) (b : Broker) → Present o k (line_like r.line) b → r.line.up ≡ x ∷ rest
    → IsJoined o k r.line.number b ⊎ ((clean : Bool) × Connects clean x rest r.line.number b)
front o k x rest r b (absent nothing none) up = absurd (some_up x rest r.line.up up none)
front o k x rest r b (closed n is none idle nothing) up = absurd (some_up x rest r.line.up up none)
front o k x rest r b (waiting n clean is link_is clean_is connects_ down idle there) up = inr (clean, connects_at clean x rest r.line.up r.line.number n b up (connect_like clean r.line.up connects_) is idle there)
front o k x rest r b (joined birth own is there) up = inl (record { birth = birth; own = own; at = is; there = there })

-- of the line that it gave up; if its session is connected no CONNECT is under way there
pub front_there : (o : Option ℕ) (k : ℕ) (x : Back) (rest : List Back) (r : Receiver) (b : Broker) → Former o k (line_like r.line) b → r.line.old ≡ x ∷ rest
    → (IsJoined o k r.line.old_number b × AllByRecursion IsNoConnect (map packet_like r.line.old)) ⊎ Connects false x rest r.line.old_number b
front_there o k x rest r b (over none) old = absurd (some_up x rest r.line.old old none)
front_there o k x rest r b (late n is connects_ idle there) old = inr (connects_at false x rest r.line.old r.line.old_number n b old (connect_like false r.line.old connects_) is idle there)
front_there o k x rest r b (lingers birth own is calm there) old = inl (record { birth = birth; own = own; at = is; there = there }, calm)

-- an answer is none
pub no_connect : (x : Answer) (clean : Bool) → HasNoConnect (x ∷ []) → answers x ≡ answers (connect clean) → ⊥
no_connect (connect c) clean none e = none
no_connect (puback i code) clean none e = absurd cc
no_connect (pubrec i code) clean none e = absurd cc
no_connect (pubcomp i code) clean none e = absurd cc

-- and if a session is connected none is under way
pub calm_front : (clean : Bool) (rest xs : List Back) → xs ≡ answers (connect clean) ∷ rest → AllByRecursion IsNoConnect (map packet_like xs) → ⊥
calm_front clean rest xs up h = let all = subst (λ (zs : List Back). AllByRecursion IsNoConnect (map packet_like zs)) up h in all.0
