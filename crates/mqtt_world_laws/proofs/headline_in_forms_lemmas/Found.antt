-- The same ends are found by a name in both worlds, but for what is under way to them.
use Rattle.std.proofs.Common.{◌≡◌, ℕ, suc, Bool, true, false, cond, List, [], ◌∷◌, length, bytes_eq, Option, Some, None, refl, sym, ap, subst, ◌∙◌}
use Rattle.std.specs.Prelude.{find}
use Rattle.mqtt_topic.specs.names.Aliases.{AliasTable}
use Rattle.mqtt_rules.specs.step.State.{Telling}
use Rattle.mqtt_world_model.specs.model.Lines.{Down}
use Rattle.mqtt_world_model.specs.model.Ends.{Publisher, Receiver}
use Rattle.mqtt_world_model.specs.model.Laws.{contents_by, fate_by, fate_of}
use Rattle.mqtt_world_model.specs.model.Run.{front_of_line, front_of_old}
use Rattle.mqtt_world_model.specs.model.World.{World, publisher_named, receiver_named}
use Rattle.mqtt_world_laws.specs.receiver.Drains.{downs_by, line_stands, ups_by}
use Rattle.mqtt_world_laws.specs.telling.AsSent.{AsSent, Most}
use Rattle.mqtt_world_laws.specs.telling.Likewise.{AllPublishersAlike, AllReceiversAlike, DownMeans}
use Rattle.mqtt_rules.specs.telling.Meaning.{after_reading}
use Rattle.mqtt_world_laws.proofs.telling_lemmas.Ends.{publisher_with, receiver_with}

-- ---- receivers

-- the other one has as many packets under way
pub record IsOther (r q : Receiver) : Type 0 where
  pub downs : List Down
  pub is : q ≡ receiver_with downs r
  pub many : length downs ≡ length r.line.down

abbrev pub Finds : Option Receiver → Option Receiver → Type 0
Finds None q = q ≡ None
Finds (Some r) None = ⊥
Finds (Some r) (Some q) = IsOther r q

as_many : (k : AliasTable) (ds ms : List Down) → DownMeans k ds ms → length ms ≡ length ds
as_many k [] [] h = refl
as_many k [] (m ∷ ms) h = absurd h
as_many k (d ∷ ds) [] h = absurd h
as_many k (d ∷ ds) (m ∷ ms) h = ap (λ (n : ℕ). suc n) (as_many (after_reading k d.packet) ds ms h.2)

finds : (most : Most) (ts : List Telling) (client : List ℕ) (rs : List Receiver) (ks : List AliasTable) (ms : List Receiver) → AllReceiversAlike most ts rs ks ms
    → Finds (find (λ r. bytes_eq r.client client) rs) (find (λ r. bytes_eq r.client client) ms)
finds most ts client [] [] [] h = refl
finds most ts client (r ∷ rs) (k ∷ ks) (m ∷ ms) h =
    let name : bytes_eq m.client client ≡ bytes_eq r.client client = ap (λ (x : Receiver). bytes_eq x.client client) h.0.same in
    rw name (by (bytes_eq r.client client) (finds most ts client rs ks ms h.1))
  where
    by : (t : Bool) → Finds (find (λ r. bytes_eq r.client client) rs) (find (λ r. bytes_eq r.client client) ms)
        → Finds (cond t (Some r) (find (λ r. bytes_eq r.client client) rs)) (cond t (Some m) (find (λ r. bytes_eq r.client client) ms))
    by true rest = record { downs = m.line.down; is = h.0.same; many = as_many k r.line.down m.line.down h.0.means }
    by false rest = rest
finds most ts client [] [] (m ∷ ms) h = absurd h
finds most ts client [] (k ∷ ks) ms h = absurd h
finds most ts client (r ∷ rs) [] ms h = absurd h
finds most ts client (r ∷ rs) (k ∷ ks) [] h = absurd h

-- as many packets are under way to it
pub same_downs : (o q : Option Receiver) → Finds o q → downs_by o ≡ downs_by q
same_downs None q h = sym (ap downs_by h)
same_downs (Some r) None h = absurd h
same_downs (Some r) (Some q) h = sym (ap (λ (x : Receiver). length x.line.down) h.is ∙ h.many)

-- and from it
pub same_ups : (o q : Option Receiver) → Finds o q → ups_by o ≡ ups_by q
same_ups None q h = sym (ap ups_by h)
same_ups (Some r) None h = absurd h
same_ups (Some r) (Some q) h = sym (ap (λ (x : Receiver). length x.line.up) h.is)

-- its line stands in both worlds or in none
pub same_stands : (o q : Option Receiver) (w : World) → Finds o q → line_stands o w ≡ line_stands q w
same_stands None q w h = sym (ap (λ (x : Option Receiver). line_stands x w) h)
same_stands (Some r) None w h = absurd h
same_stands (Some r) (Some q) w h = sym (ap (λ (x : Receiver). line_stands (Some x) w) h.is)

-- what holds of the other one holds of it
pub by_other : (P : Receiver → Type 0) (o : Option Receiver) (r : Receiver) → Finds (Some r) o → ((q : Receiver) → o ≡ Some q → P q)
    → ((downs : List Down) → P (receiver_with downs r) → P r) → P r
by_other P None r h each aside = absurd h
by_other P (Some q) r h each aside = aside h.downs (subst P h.is (each q refl))

-- ---- publishers

abbrev FindsPublisher : Option Publisher → Option Publisher → Type 0
FindsPublisher None q = q ≡ None
FindsPublisher (Some p) q = (downs : List Down) × (q ≡ Some (publisher_with downs p))

finds_publisher : (client : List ℕ) (ps ms : List Publisher) → AllPublishersAlike ps ms
    → FindsPublisher (find (λ p. bytes_eq p.client client) ps) (find (λ p. bytes_eq p.client client) ms)
finds_publisher client [] [] h = refl
finds_publisher client (p ∷ ps) (m ∷ ms) h =
    let name : bytes_eq m.client client ≡ bytes_eq p.client client = ap (λ (x : Publisher). bytes_eq x.client client) h.0.same in
    rw name (by (bytes_eq p.client client) (finds_publisher client ps ms h.1))
  where
    by : (t : Bool) → FindsPublisher (find (λ p. bytes_eq p.client client) ps) (find (λ p. bytes_eq p.client client) ms)
        → FindsPublisher (cond t (Some p) (find (λ p. bytes_eq p.client client) ps)) (cond t (Some m) (find (λ p. bytes_eq p.client client) ms))
    by true rest = (m.line.down, ap (λ (x : Publisher). Some x) h.0.same)
    by false rest = rest
finds_publisher client [] (m ∷ ms) h = absurd h
finds_publisher client (p ∷ ps) [] h = absurd h

-- what doesn't look at what is under way to a publisher is the same
abbrev IsBlind : {X : Type 0} → (Option Publisher → X) → Type 0
IsBlind f = (p : Publisher) (downs : List Down) → f (Some (publisher_with downs p)) ≡ f (Some p)

blind : {X : Type 0} (f : Option Publisher → X) → IsBlind f → (o q : Option Publisher) → FindsPublisher o q → f o ≡ f q
blind f b None q h = sym (ap f h)
blind f b (Some p) q h = sym (ap f h.1 ∙ b p h.0)

module _ (x w : World) (h : AllPublishersAlike x.publishers w.publishers) (client : List ℕ) where
  here : {X : Type 0} (f : Option Publisher → X) → IsBlind f → f (publisher_named client x) ≡ f (publisher_named client w)
  here f b = blind f b (publisher_named client x) (publisher_named client w) (finds_publisher client x.publishers w.publishers h)

  -- what became of a message
  pub same_fate : (n : ℕ) → fate_of client n x ≡ fate_of client n w
  same_fate n = here (fate_by n) (λ p downs. refl)

  -- what its messages carry
  pub same_contents : contents_by (publisher_named client x) ≡ contents_by (publisher_named client w)
  same_contents = here contents_by (λ p downs. refl)

  -- the message whose PUBLISH comes first on its line
  pub same_front : front_of_line (publisher_named client x) ≡ front_of_line (publisher_named client w)
  same_front = here front_of_line (λ p downs. refl)

  -- and on the line that it gave up
  pub same_old_front : front_of_old (publisher_named client x) ≡ front_of_old (publisher_named client w)
  same_old_front = here front_of_old (λ p downs. refl)

-- a receiver of this name is found in both worlds, or in none
pub same_receiver : (most : Most) (s : AsSent) (w : World) (client : List ℕ) → AllReceiversAlike most s.tellings s.world.receivers s.known w.receivers
    → Finds (receiver_named client s.world) (receiver_named client w)
same_receiver most s w client h = finds most s.tellings client s.world.receivers s.known w.receivers h
