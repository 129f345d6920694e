-- Ends that are alike, one by one and in lists.
use Rattle.std.proofs.Common.{◌≡◌, ℕ, Bool, true, false, cond, List, [], ◌∷◌, ◌++◌, map, bytes_eq, refl, sym, ap, subst, ◌∙◌}
use Rattle.mqtt_topic.specs.names.Aliases.{AliasTable}
use Rattle.mqtt_rules.specs.step.State.{Telling}
use Rattle.mqtt_world_model.specs.model.Lines.{Down}
use Rattle.mqtt_world_model.specs.model.Ends.{Publisher, Receiver}
use Rattle.mqtt_world_model.specs.model.Seen.{heard_in}
use Rattle.mqtt_world_laws.specs.telling.AsSent.{Most}
use Rattle.mqtt_world_laws.specs.telling.Likewise.{AllPublishersAlike, AllReceiversAlike, PublishersAlike, ReceiversAlike, with_down}
use Rattle.mqtt_world_laws.proofs.telling_lemmas.Downs.{DownsAlike}

-- an end with other packets under way to it
abbrev pub receiver_with : List Down → Receiver → Receiver
receiver_with ms r = record r { line = with_down ms r.line }

abbrev pub publisher_with : List Down → Publisher → Publisher
publisher_with ms p = record p { line = with_down ms p.line }

-- ---- receivers

module _ (most : Most) (ts : List Telling) where
  -- one is alike to itself with packets under way of the same meaning
  pub kept_receiver : (r : Receiver) (k : AliasTable) (ms : List Down) → DownsAlike most ts r.line.number k r.line.down ms → ReceiversAlike most ts r k (receiver_with ms r)
  kept_receiver r k ms h = record { same = refl; means = h.means; knows = h.knows }

  downs_of : (r : Receiver) (k : AliasTable) (m : Receiver) → ReceiversAlike most ts r k m → DownsAlike most ts r.line.number k r.line.down m.line.down
  downs_of r k m a = record { means = a.means; knows = a.knows }

  -- what holds of it with such packets holds of each that is alike to it
  pub by_receiver : (P : Receiver → Type 0) (r : Receiver) (k : AliasTable) (m : Receiver) → ReceiversAlike most ts r k m
      → ((ms : List Down) → DownsAlike most ts r.line.number k r.line.down ms → P (receiver_with ms r)) → P m
  by_receiver P r k m a each = subst P (sym a.same) (each m.line.down (downs_of r k m a))

-- a change of receivers and of what they know, from what was told before to what was told after
pub record Changes (most : Most) (ts us : List Telling) (f : Receiver → Receiver) (t : Receiver → AliasTable → AliasTable) (g : Receiver → Receiver) : Type 0 where
  pub each : (r : Receiver) (k : AliasTable) (ms : List Down) → DownsAlike most ts r.line.number k r.line.down ms → ReceiversAlike most us (f r) (t r k) (g (receiver_with ms r))

abbrev pub stays_known : Receiver → AliasTable → AliasTable
stays_known r k = k

-- all are changed, and what they know stays
pub receivers_changed : (most : Most) (ts us : List Telling) (f g : Receiver → Receiver) → Changes most ts us f stays_known g
    → (rs : List Receiver) (ks : List AliasTable) (ms : List Receiver) → AllReceiversAlike most ts rs ks ms → AllReceiversAlike most us (map f rs) ks (map g ms)
receivers_changed most ts us f g c [] [] [] h = tt
receivers_changed most ts us f g c (r ∷ rs) (k ∷ ks) (m ∷ ms) h =
    (by_receiver most ts (λ (x : Receiver). ReceiversAlike most us (f r) k (g x)) r k m h.0 (c.each r k), receivers_changed most ts us f g c rs ks ms h.1)
receivers_changed most ts us f g c [] [] (m ∷ ms) h = absurd h
receivers_changed most ts us f g c [] (k ∷ ks) ms h = absurd h
receivers_changed most ts us f g c (r ∷ rs) [] ms h = absurd h
receivers_changed most ts us f g c (r ∷ rs) (k ∷ ks) [] h = absurd h

-- one of this name is changed
pub for_receiver : (most : Most) (ts : List Telling) (client : List ℕ) (f g : Receiver → Receiver) → Changes most ts ts f stays_known g
    → Changes most ts ts (λ r. cond (bytes_eq r.client client) (f r) r) stays_known (λ r. cond (bytes_eq r.client client) (g r) r)
for_receiver most ts client f g c = record { each = λ r k ms h. by r k ms h (bytes_eq r.client client) }
  where
    by : (r : Receiver) (k : AliasTable) (ms : List Down) → DownsAlike most ts r.line.number k r.line.down ms → (t : Bool)
        → ReceiversAlike most ts (cond t (f r) r) k (cond t (g (receiver_with ms r)) (receiver_with ms r))
    by r k ms h true = c.each r k ms h
    by r k ms h false = kept_receiver most ts r k ms h

-- one more
pub receivers_more : (most : Most) (ts : List Telling) (x : Receiver) (y : AliasTable) (z : Receiver) → ReceiversAlike most ts x y z
    → (rs : List Receiver) (ks : List AliasTable) (ms : List Receiver) → AllReceiversAlike most ts rs ks ms → AllReceiversAlike most ts (rs ++ x ∷ []) (ks ++ y ∷ []) (ms ++ z ∷ [])
receivers_more most ts x y z a [] [] [] h = (a, tt)
receivers_more most ts x y z a (r ∷ rs) (k ∷ ks) (m ∷ ms) h = (h.0, receivers_more most ts x y z a rs ks ms h.1)
receivers_more most ts x y z a [] [] (m ∷ ms) h = absurd h
receivers_more most ts x y z a [] (k ∷ ks) ms h = absurd h
receivers_more most ts x y z a (r ∷ rs) [] ms h = absurd h
receivers_more most ts x y z a (r ∷ rs) (k ∷ ks) [] h = absurd h

-- ---- publishers

-- what doesn't look at what is under way, and leaves it there
abbrev pub Carries : (Publisher → Publisher) → Type 0
Carries f = (ms : List Down) (p : Publisher) → f (publisher_with ms p) ≡ publisher_with ms (f p)

left_there : (f : Publisher → Publisher) → Carries f → (p : Publisher) → (f p).line.down ≡ p.line.down
left_there f c p = ap (λ (x : Publisher). x.line.down) (c p.line.down p)

-- one is alike to itself with packets under way of which it hears the same
pub kept_publisher : (p : Publisher) (ms : List Down) → map heard_in p.line.down ≡ map heard_in ms → PublishersAlike p (publisher_with ms p)
kept_publisher p ms heard = record { same = refl; heard = heard }

-- what holds of it with such packets holds of each that is alike to it
pub by_publisher : (P : Publisher → Type 0) (p m : Publisher) → PublishersAlike p m
    → ((ms : List Down) → map heard_in p.line.down ≡ map heard_in ms → P (publisher_with ms p)) → P m
by_publisher P p m a each = subst P (sym a.same) (each m.line.down a.heard)

-- a change of publishers
pub record Alters (f g : Publisher → Publisher) : Type 0 where
  pub each : (p : Publisher) (ms : List Down) → map heard_in p.line.down ≡ map heard_in ms → PublishersAlike (f p) (g (publisher_with ms p))

-- what carries over is one
pub carried : (f : Publisher → Publisher) → Carries f → Alters f f
carried f c = record {
  each = λ p ms heard.
      subst (PublishersAlike (f p)) (sym (c ms p)) (kept_publisher (f p) ms (ap (map heard_in) (left_there f c p) ∙ heard));
}

-- all are changed
pub publishers_changed : (f g : Publisher → Publisher) → Alters f g → (ps ms : List Publisher) → AllPublishersAlike ps ms → AllPublishersAlike (map f ps) (map g ms)
publishers_changed f g c [] [] h = tt
publishers_changed f g c (p ∷ ps) (m ∷ ms) h = (by_publisher (λ (x : Publisher). PublishersAlike (f p) (g x)) p m h.0 (c.each p), publishers_changed f g c ps ms h.1)
publishers_changed f g c [] (m ∷ ms) h = absurd h
publishers_changed f g c (p ∷ ps) [] h = absurd h

-- one of this name is changed
pub for_publisher : (client : List ℕ) (f g : Publisher → Publisher) → Alters f g
    → Alters (λ p. cond (bytes_eq p.client client) (f p) p) (λ p. cond (bytes_eq p.client client) (g p) p)
for_publisher client f g c = record { each = λ p ms h. by p ms h (bytes_eq p.client client) }
  where
    by : (p : Publisher) (ms : List Down) → map heard_in p.line.down ≡ map heard_in ms → (t : Bool) → PublishersAlike (cond t (f p) p) (cond t (g (publisher_with ms p)) (publisher_with ms p))
    by p ms h true = c.each p ms h
    by p ms h false = kept_publisher p ms h

-- one more
pub publishers_more : (x y : Publisher) → PublishersAlike x y → (ps ms : List Publisher) → AllPublishersAlike ps ms → AllPublishersAlike (ps ++ x ∷ []) (ms ++ y ∷ [])
publishers_more x y a [] [] h = (a, tt)
publishers_more x y a (p ∷ ps) (m ∷ ms) h = (h.0, publishers_more x y a ps ms h.1)
publishers_more x y a [] (m ∷ ms) h = absurd h
publishers_more x y a (p ∷ ps) [] h = absurd h
