-- What is under way on a line: packet by packet it means what was meant.
use Rattle.std.proofs.Common.{◌≡◌, ℕ, List, [], ◌∷◌, ◌++◌, map, nat_eq, Option, Some, None, refl, sym, ap, subst, ◌∙◌, inl, inr}
use Rattle.std.proofs.lemmas.Bool.{cases_Bool}
use Rattle.mqtt_packet.specs.declared.codec.packet.Packet.{Packet}
use Rattle.mqtt_packet.specs.declared.codec.packet.Packet.TheVariants as packets
use Rattle.mqtt_topic.specs.names.Aliases.{AliasTable, after_resolve}
use Rattle.mqtt_rules.specs.step.State.{Broker, Telling, told_on}
use Rattle.mqtt_rules.specs.telling.Meaning.{AllMean, Knows, Means, after_reading, after_reading_all, alias_on, on_line}
use Rattle.mqtt_world_model.specs.model.Lines.{Down, copy_in, sent_to}
use Rattle.mqtt_world_laws.specs.telling.AsSent.{Most}
use Rattle.mqtt_world_laws.specs.telling.Likewise.{DownMeans, KnowsOn, after_down}

-- ---- the table's maximum stays

max_resolved : (k : AliasTable) (topic : List ℕ) (alias : Option ℕ) → (after_resolve k topic alias).max ≡ k.max
max_resolved k topic None = refl
max_resolved k [] (Some alias) = refl
max_resolved k (c ∷ cs) (Some alias) = refl

-- whatever packet is read
pub max_after : (k : AliasTable) (x : Packet) → (after_reading k x).max ≡ k.max
max_after k (packets.Publish p) = max_resolved k p.topic (alias_on p)
max_after k x = refl

-- and however many
pub max_down : (k : AliasTable) (ds : List Down) → (after_down k ds).max ≡ k.max
max_down k [] = refl
max_down k (d ∷ ds) = max_down (after_reading k d.packet) ds ∙ max_after k d.packet

-- ---- more that is under way, behind the rest

-- it means what was meant to one who has read the rest
pub down_append : (k : AliasTable) (ds ms es ns : List Down) → DownMeans k ds ms → DownMeans (after_down k ds) es ns → DownMeans k (ds ++ es) (ms ++ ns)
down_append k [] [] es ns h g = g
down_append k [] (m ∷ ms) es ns h g = absurd h
down_append k (d ∷ ds) [] es ns h g = absurd h
down_append k (d ∷ ds) (m ∷ ms) es ns h g = (h.0, h.1, down_append (after_reading k d.packet) ds ms es ns h.2 g)

-- and it is read after the rest
pub after_append : (k : AliasTable) (ds es : List Down) → after_down k (ds ++ es) ≡ after_down (after_down k ds) es
after_append k [] es = refl
after_append k (d ∷ ds) es = after_append (after_reading k d.packet) ds es

-- ---- packets that the broker puts on a line

-- a packet under way, with the copy that it is of
abbrev down_of : ℕ → Broker → Packet → Down
down_of n b packet = record { packet = packet; copy = copy_in n b packet }

on_its_line : (n : ℕ) (b : Broker) (xs : List (ℕ × Packet)) → sent_to (Some n) b xs ≡ map (down_of n b) (on_line n xs)
on_its_line n b [] = refl
on_its_line n b (x ∷ xs) = elim (cases_Bool (nat_eq x.0 n)) [
  | inl here ↦ rw here (ap (λ (ds : List Down). down_of n b x.1 ∷ ds) (on_its_line n b xs))
  | inr other ↦ rw other (on_its_line n b xs)
]

after_sent : (k : AliasTable) (n : ℕ) (b : Broker) (ps : List Packet) → after_down k (map (down_of n b) ps) ≡ after_reading_all k ps
after_sent k n b [] = refl
after_sent k n b (p ∷ ps) = after_sent (after_reading k p) n b ps

-- a PUBLISH in any form is of the copy that it was meant to be
same_copy : (k : AliasTable) (n : ℕ) (b : Broker) (x y : Packet) → Means k x y → copy_in n b x ≡ copy_in n b y
same_copy k n b x (packets.Publish p) h = ap (copy_in n b) h.is
same_copy k n b x y h = ap (copy_in n b) h

sent_means : (k : AliasTable) (n : ℕ) (b : Broker) (ps qs : List Packet) → AllMean k ps qs → DownMeans k (map (down_of n b) ps) (map (down_of n b) qs)
sent_means k n b [] [] h = tt
sent_means k n b [] (q ∷ qs) h = absurd h
sent_means k n b (p ∷ ps) [] h = absurd h
sent_means k n b (p ∷ ps) (q ∷ qs) h = (h.0, same_copy k n b p q h.0, sent_means (after_reading k p) n b ps qs h.1)

-- ---- a line on which more is sent

-- what goes out there means what was meant, and the client knows then what it was told
pub record SentOn (n : ℕ) (k : AliasTable) (xs ys : List (ℕ × Packet)) (tellings : List Telling) : Type 0 where
  pub means : AllMean k (on_line n xs) (on_line n ys)
  pub knows : Knows (after_reading_all k (on_line n xs)) (told_on n tellings)

-- what is under way then
pub record DownsAlike (most : Most) (tellings : List Telling) (o : Option ℕ) (k : AliasTable) (ds ms : List Down) : Type 0 where
  pub means : DownMeans k ds ms
  pub knows : KnowsOn most tellings o k ds

-- whatever line it is, if any
pub sent_alike : (most : Most) (ts us : List Telling) (o : Option ℕ) (k : AliasTable) (b : Broker) (ds ms : List Down) (xs ys : List (ℕ × Packet))
    → DownsAlike most ts o k ds ms → ((n : ℕ) → o ≡ Some n → SentOn n (after_down k ds) xs ys us)
    → DownsAlike most us o k (ds ++ sent_to o b xs) (ms ++ sent_to o b ys)
sent_alike most ts us None k b ds ms xs ys h sent = record { means = down_append k ds ms [] [] h.means tt; knows = tt }
sent_alike most ts us (Some n) k b ds ms xs ys h sent =
    let on = sent n refl in
    let first = on_its_line n b xs in
    let second = on_its_line n b ys in
    let more : DownMeans (after_down k ds) (sent_to (Some n) b xs) (sent_to (Some n) b ys) =
    subst (λ (es : List Down). DownMeans (after_down k ds) es (sent_to (Some n) b ys)) (sym first)
    (subst (DownMeans (after_down k ds) (map (down_of n b) (on_line n xs))) (sym second) (sent_means (after_down k ds) n b (on_line n xs) (on_line n ys) on.means)) in
    let read : after_down k (ds ++ sent_to (Some n) b xs) ≡ after_reading_all (after_down k ds) (on_line n xs) =
    after_append k ds (sent_to (Some n) b xs) ∙ (ap (after_down (after_down k ds)) first ∙ after_sent (after_down k ds) n b (on_line n xs)) in
    record {
      means = down_append k ds ms (sent_to (Some n) b xs) (sent_to (Some n) b ys) h.means more;
      knows = (h.knows.0, subst (λ (t : AliasTable). Knows t (told_on n us)) (sym read) on.knows);
    }
