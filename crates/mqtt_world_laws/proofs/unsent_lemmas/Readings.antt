-- A copy is read at some moment of a run, if it is the first under way to the receiver; whatever else happens, the receiver has
-- read of it what it had (MQTT 5.0, 4.3.2, 4.3.3).
use Rattle.std.proofs.Common.{◌≡◌, ◌⊎◌, ℕ, zero, suc, ◌+◌, ◌<◌, ◌≤◌, Bool, true, false, cond, List, [], ◌∷◌, ◌++◌, map, Option, Some, None, nat_lt, bytes_eq, refl, sym, ap, subst, ◌∙◌, arith, inl, inr}
use Rattle.std.specs.Prelude.{find, if◌then◌else◌, is_some, option_map}
use Rattle.std.specs.List.{cons_option}
use Rattle.std.proofs.lemmas.Bool.{cases_Bool}
use Rattle.std.proofs.lemmas.List.Elements.{filter_map-append}
use Rattle.mqtt_base.specs.declared.session.CopyId.{CopyId}
use Rattle.mqtt_packet.specs.declared.codec.packet.Packet.{Packet}
use Rattle.mqtt_packet.specs.declared.codec.packet.Packet.TheVariants as packets
use Rattle.mqtt_packet.specs.declared.codec.publish.Delivery.{Delivery}
use Rattle.mqtt_packet.specs.declared.codec.publish.Delivery.TheVariants as delivery
use Rattle.mqtt_packet.specs.declared.codec.publish.Publish.{Publish as Publication}
use Rattle.mqtt_flow.specs.inbound.Identifiers.{is_among}
use Rattle.mqtt_flow.specs.inbound.Line.{Link, asked, away, live}
use Rattle.mqtt_rules.specs.step.Step.{Call, NewLine, stepped, told}
use Rattle.mqtt_rules.specs.declared.step.Capacity.{Capacity}
use Rattle.mqtt_world_model.specs.model.Ends.{Back, Entry, Receiver, entry_of, greeted, hears, new_receiver, receiver_connack, receiver_reads, reads_publish}
use Rattle.mqtt_world_model.specs.model.Laws.{copies_in, count_of, handed_count, is_copy, read_count}
use Rattle.mqtt_world_model.specs.model.Lines.{Down, Line, gives_up, left, stands}
use Rattle.mqtt_world_model.specs.model.Run.{Turn, run, setting, turned}
use Rattle.mqtt_world_model.specs.model.World.{Asking, Event, Setting, World, answers_rest, ask, asks, asks_wish, before, break, call_of, call_of_stranger, calls, calls_if, clock, comes, connect_end, first_step, give_up, happens, held_count, is_bad, linked_at, links, next_held, next_line, old_to_broker, publish, publisher, pump, receiver, receiver_named, receiver_restarted, receiver_told, restart, restarts, stop_after, stop_before, stranger, stranger_named, subscribe, taken_old, taken_up, tick, to_broker, to_end}
use Rattle.mqtt_world_laws.proofs.acceptance_lemmas.copies.Counting.{count_append}
use Rattle.mqtt_world_laws.proofs.acceptance_lemmas.publishers.Ends.{find_receiver}
use Rattle.mqtt_world_laws.proofs.receiver_lemmas.queue.Handed.{copy_is}
use Rattle.mqtt_world_laws.proofs.delivery_lemmas.others.Around.{on_back}
use Rattle.mqtt_world_laws.proofs.delivery_lemmas.others.Like.{moves_reading}
use Rattle.mqtt_world_laws.proofs.unsent_lemmas.Sent.{IsNext, IsOfCopy}

-- two numbers
pub less_or_not : (n m : ℕ) → (n < m) ⊎ (m ≤ n)
less_or_not n zero = inr (omega arith)
less_or_not zero (suc m) = inl (omega arith)
less_or_not (suc n) (suc m) = elim (less_or_not n m) [ inl less ↦ inl (omega (arith, less)) | inr not_less ↦ inr (omega (arith, not_less)) ]

-- how often it was read, of either QoS
abbrev pub counts : CopyId → Receiver → ℕ
counts x r = handed_count x r + read_count x r

-- ---- a packet is read

module _ (x : CopyId) where
  one_more : (es : List Entry) (e : Entry) → count_of x (copies_in (es ++ e ∷ [])) ≡ count_of x (copies_in es) + count_of x (copies_in (e ∷ []))
  one_more es e = ap (count_of x) (filter_map-append (λ (z : Entry). z.copy) es (e ∷ [])) ∙ count_append x (copies_in es) (copies_in (e ∷ []))

  counted_copy : (o : Option CopyId) → 1 ≤ count_of x (cons_option o []) → o ≡ Some x
  counted_copy None h = absurd (omega (arith, h))
  counted_copy (Some y) h = elim (cases_Bool (is_copy x y)) [
    | inl its ↦ ap Some (sym (copy_is x y its))
    | inr other ↦ let none : count_of x (y ∷ []) ≡ 0 = rw other refl in absurd (omega (arith, h, none))
  ]

  same_connack : (link : Link) (present : Bool) (code : ℕ) (r : Receiver) → counts x (receiver_connack link present code r) ≡ counts x r
  same_connack away present code r = refl
  same_connack live present code r = refl
  same_connack asked present code r = by (nat_lt 0 code)
    where
      by : (t : Bool) → counts x (cond t (record r { line = left (record r.line { clean = false }) }) (record r { line = greeted r.line; asking = false; kept = if present then r.kept else [] })) ≡ counts x r
      by true = refl
      by false = refl

  publish_next : (t : Bool) (copy : Option CopyId) (p : Publication) (d : Delivery) (r : Receiver) → counts x r < counts x (reads_publish t copy p d r) → IsOfCopy d × (copy ≡ Some x)
  publish_next t copy p delivery.AtMostOnce r h = let less : counts x r < counts x r = h in absurd (omega (arith, less))
  publish_next t copy p (delivery.AtLeastOnce dup i) r h =
      let e = entry_of false copy p in
      let all = one_more r.once e in
      let more : handed_count x r + count_of x (copies_in r.once) < handed_count x r + count_of x (copies_in (r.once ++ e ∷ [])) = h in
      let one : 1 ≤ count_of x (copies_in (e ∷ [])) = omega (arith, all, more) in
      (tt, counted_copy copy one)
  publish_next t copy p (delivery.ExactlyOnce dup i) r h = (tt, by (is_among i r.kept) h)
    where
      e : Entry
      e = entry_of true copy p

      by : (known : Bool) → count_of x (copies_in r.ledger) + read_count x r < count_of x (copies_in (if known then r.ledger else r.ledger ++ e ∷ [])) + read_count x r → copy ≡ Some x
      by true more = absurd (omega (arith, more))
      by false more =
          let all = one_more r.ledger e in
          let one : 1 ≤ count_of x (copies_in (e ∷ [])) = omega (arith, all, more) in
          counted_copy copy one

  record IsPublish (copy : Option CopyId) (packet : Packet) : Type 0 where
    publication : Publication
    is : packet ≡ packets.Publish publication
    of_copy : IsOfCopy publication.delivery
    its : copy ≡ Some x

  hears_next : (t : Bool) (copy : Option CopyId) (packet : Packet) (r : Receiver) → counts x r < counts x (hears t copy packet r) → IsPublish copy packet
  hears_next t copy (packets.Connack a) r h = let same = same_connack r.line.link a.session_present a.reason.0 r in absurd (omega (arith, h, same))
  hears_next t copy (packets.Publish p) r h = let k = publish_next t copy p p.delivery r h in record { publication = p; is = refl; of_copy = k.0; its = k.1 }
  hears_next t copy (packets.Pubrel a) r h = let less : counts x r < counts x r = h in absurd (omega (arith, less))
  hears_next t copy (packets.Suback a) r h = let less : counts x r < counts x r = h in absurd (omega (arith, less))
  hears_next t copy (packets.Disconnect a) r h = let less : counts x r < counts x r = h in absurd (omega (arith, less))
  hears_next t copy packet r h = let less : counts x r < counts x r = h in absurd (omega (arith, less))

  reads_next : (t : Bool) (ds : List Down) (r : Receiver) → r.line.down ≡ ds → counts x r < counts x (receiver_reads t ds r) → IsNext x r
  reads_next t [] r is h = absurd (omega (arith, h))
  reads_next t (d ∷ rest) r is h =
      let k = hears_next t d.copy d.packet (record r { line = record r.line { down = rest } }) h in
      record { down = d; rest = rest; publication = k.publication; front = is; packet = k.is; of_copy = k.of_copy; its = k.its }

-- ---- the receiver of a name

module _ (c : List ℕ) (x : CopyId) where
  abbrev counts_by : Option Receiver → ℕ
  counts_by None = 0
  counts_by (Some r) = counts x r

  -- how often it has read of the copy, if it has come
  abbrev pub count_at : World → ℕ
  count_at w = counts_by (receiver_named c w)

  abbrev named_in : List Receiver → Option Receiver
  named_in rs = find (λ (r : Receiver). bytes_eq r.client c) rs

  abbrev Same : World → World → Type 0
  Same w v = count_at v ≡ count_at w

  same_all : (w v : World) → v.receivers ≡ w.receivers → Same w v
  same_all w v e = ap (λ (rs : List Receiver). counts_by (named_in rs)) e

  counts_mapped : (f : Receiver → Receiver) → ((r : Receiver) → counts x (f r) ≡ counts x r) → (o : Option Receiver) → counts_by (option_map f o) ≡ counts_by o
  counts_mapped f k None = refl
  counts_mapped f k (Some r) = k r

  mapped_same : (w v : World) (f : Receiver → Receiver) → ((r : Receiver) → (f r).client ≡ r.client) → ((r : Receiver) → counts x (f r) ≡ counts x r) → v.receivers ≡ map f w.receivers → Same w v
  mapped_same w v f names k e = ap (λ (rs : List Receiver). counts_by (named_in rs)) e ∙ (ap counts_by (find_receiver c f names w.receivers) ∙ counts_mapped f k (receiver_named c w))

  then_same : (w u v : World) → Same w u → Same u v → Same w v
  then_same w u v p q = q ∙ p

  one_client : (d : List ℕ) (g : Receiver → Receiver) → ((r : Receiver) → (g r).client ≡ r.client) → (r : Receiver) → (cond (bytes_eq r.client d) (g r) r).client ≡ r.client
  one_client d g names r = by (bytes_eq r.client d)
    where
      by : (t : Bool) → (cond t (g r) r).client ≡ r.client
      by true = names r
      by false = refl

  one_counts : (d : List ℕ) (g : Receiver → Receiver) → ((r : Receiver) → counts x (g r) ≡ counts x r) → (r : Receiver) → counts x (cond (bytes_eq r.client d) (g r) r) ≡ counts x r
  one_counts d g k r = by (bytes_eq r.client d)
    where
      by : (t : Bool) → counts x (cond t (g r) r) ≡ counts x r
      by true = k r
      by false = refl

  one_same : (d : List ℕ) (g : Receiver → Receiver) (w v : World) → ((r : Receiver) → (g r).client ≡ r.client) → ((r : Receiver) → counts x (g r) ≡ counts x r) → v.receivers ≡ map (λ r. cond (bytes_eq r.client d) (g r) r) w.receivers → Same w v
  one_same d g w v names k e = mapped_same w v (λ r. cond (bytes_eq r.client d) (g r) r) (one_client d g names) (one_counts d g k) e

  line_same : (d : List ℕ) (g : Line Back → Line Back) (w v : World) → v.receivers ≡ map (λ r. cond (bytes_eq r.client d) (on_back g r) r) w.receivers → Same w v
  line_same d g w v e = one_same d (on_back g) w v (λ r. refl) (λ r. refl) e

  calls_same : (set : Setting) (call : Call) (w : World) → Same w (calls set call w)
  calls_same set call w = mapped_same w (calls set call w) (receiver_told (stepped set.limits set.choice w.now call w.broker) (told set.limits set.choice w.now call w.broker)) (λ r. refl) (λ r. refl) refl

  if_same : (set : Setting) (call : Option Call) (w : World) → Same w (calls_if set call w)
  if_same set None w = refl
  if_same set (Some call) w = calls_same set call w

  restarts_same : (set : Setting) (w : World) → Same w (restarts set w)
  restarts_same set w = mapped_same w (restarts set w) receiver_restarted (λ r. refl) (λ r. refl) refl

  -- ---- what is asked for

  comes_same : (set : Setting) (name bytes : List ℕ) (w : World) → Same w (comes set name bytes w)
  comes_same set name bytes w = by (is_some (stranger_named name w))
    where
      by : (t : Bool) → Same w (linked_at set t name bytes w)
      by true = same_all w (linked_at set true name bytes w) refl
      by false = then_same w (calls set NewLine w) (linked_at set false name bytes w) (calls_same set NewLine w) (same_all (calls set NewLine w) (linked_at set false name bytes w) refl)

  before_same : (set : Setting) (a : Asking) (w : World) → Same w (before set a w)
  before_same set (to_broker d) w = line_same d taken_up w (before set (to_broker d) w) refl
  before_same set (old_to_broker d) w = line_same d taken_old w (before set (old_to_broker d) w) refl
  before_same set (break d) w = refl
  before_same set (pump d) w = refl
  before_same set tick w = refl
  before_same set (stranger name bytes) w = comes_same set name bytes w

  first_same : (set : Setting) (a : Asking) (w : World) → Same w (first_step set a w)
  first_same set a w = then_same w (before set a w) (first_step set a w) (before_same set a w) (if_same set (call_of set a w) (before set a w))

  rest_same : (set : Setting) (more : ℕ) (name : List ℕ) (w : World) → Same w (answers_rest set more name w)
  rest_same set zero name w = refl
  rest_same set (suc more) name w =
      let held = next_held name w in
      let call = call_of_stranger (stranger_named name w) in
      let u = calls_if set call held in
      then_same w u (answers_rest set more name u) (then_same w held u (same_all w held refl) (if_same set call held)) (rest_same set more name u)

  asks_same : (set : Setting) (a : Asking) (w : World) → Same w (asks set a w)
  asks_same set (to_broker d) w = first_same set (to_broker d) w
  asks_same set (old_to_broker d) w = first_same set (old_to_broker d) w
  asks_same set (break d) w = then_same w (first_step set (break d) w) (asks set (break d) w) (first_same set (break d) w) (line_same d left (first_step set (break d) w) (asks set (break d) w) refl)
  asks_same set (pump d) w = first_same set (pump d) w
  asks_same set tick w = first_same set tick w
  asks_same set (stranger name bytes) w =
      let v = comes set name bytes w in
      then_same w v (asks set (stranger name bytes) w) (comes_same set name bytes w) (rest_same set (held_count (stranger_named name v)) name v)

  -- ---- what happens

  links_same : (set : Setting) (o : Option ℕ) (d : List ℕ) (clean : Bool) (w : World) → Same w (links set o d clean w)
  links_same set None d clean w = refl
  links_same set (Some n) d clean w = then_same w (calls set NewLine w) (links set (Some n) d clean w) (calls_same set NewLine w) (line_same d _ (calls set NewLine w) (links set (Some n) d clean w) refl)

  -- one who comes has read nothing
  new_same : (n : Receiver) (rs : List Receiver) → counts x n ≡ 0 → counts_by (named_in (rs ++ n ∷ [])) ≡ counts_by (named_in rs)
  new_same n [] none = elim (cases_Bool (bytes_eq n.client c)) [ inl its ↦ rw its none | inr other ↦ rw other refl ]
  new_same n (r ∷ rs) none = elim (cases_Bool (bytes_eq r.client c)) [ inl its ↦ rw its refl | inr other ↦ rw other (new_same n rs none) ]

  -- the receiver of the name reads it next
  pub record ReadsNext (w : World) : Type 0 where
    pub reader : Receiver
    pub named : receiver_named c w ≡ Some reader
    pub next : IsNext x reader

  nothing_new : (w v : World) → Same w v → count_at w < count_at v → ReadsNext w
  nothing_new w v same h = absurd (omega (arith, same, h))

  reading : (set : Setting) (d : List ℕ) (w : World) → count_at w < count_at (happens set (to_end d) w) → ReadsNext w
  reading set d w h =
      by (receiver_named c w) refl (subst (λ (o : Option Receiver). count_at w < counts_by o) (find_receiver c f (one_client d g (λ r. (moves_reading (stands r.line.number w.broker) r.line.down r).client)) w.receivers) h)
    where
      g : Receiver → Receiver
      g r = receiver_reads (stands r.line.number w.broker) r.line.down r

      f : Receiver → Receiver
      f r = cond (bytes_eq r.client d) (g r) r

      its : (r : Receiver) (t : Bool) → counts x r < counts x (cond t (g r) r) → IsNext x r
      its r true more = reads_next x (stands r.line.number w.broker) r.line.down r refl more
      its r false more = absurd (omega (arith, more))

      by : (o : Option Receiver) → receiver_named c w ≡ o → counts_by o < counts_by (option_map f o) → ReadsNext w
      by None e more = absurd (omega (arith, more))
      by (Some r) e more = record { reader = r; named = e; next = its r (bytes_eq r.client d) more }

  happens_next : (set : Setting) (e : Event) (w : World) → count_at w < count_at (happens set e w) → ReadsNext w
  happens_next set (to_end d) w h = reading set d w h
  happens_next set (publisher d) w h = nothing_new w (happens set (publisher d) w) (same_all w (happens set (publisher d) w) refl) h
  happens_next set (receiver d window aliases) w h = nothing_new w (happens set (receiver d window aliases) w) (new_same (new_receiver d window aliases w.broker.records.births) w.receivers refl) h
  happens_next set (connect_end d clean) w h = nothing_new w (happens set (connect_end d clean) w) (links_same set (next_line set.limits w.broker) d clean w) h
  happens_next set (give_up d) w h = nothing_new w (happens set (give_up d) w) (line_same d (λ l. gives_up l.link l) w (happens set (give_up d) w) refl) h
  happens_next set (publish d a) w h = nothing_new w (happens set (publish d a) w) (same_all w (happens set (publish d a) w) refl) h
  happens_next set (subscribe d a) w h = nothing_new w (happens set (subscribe d a) w) (one_same d (λ r. asks_wish (stands r.line.number w.broker) a r) w (happens set (subscribe d a) w) (λ r. refl) (λ r. refl) refl) h
  happens_next set (clock wait) w h = nothing_new w (happens set (clock wait) w) (same_all w (happens set (clock wait) w) refl) h
  happens_next set (ask a) w h = nothing_new w (happens set (ask a) w) (asks_same set a w) h
  happens_next set restart w h = nothing_new w (happens set restart w) (restarts_same set w) h
  happens_next set (stop_before a) w h = nothing_new w (happens set (stop_before a) w) (then_same w (before set a w) (happens set (stop_before a) w) (before_same set a w) (restarts_same set (before set a w))) h
  happens_next set (stop_after a) w h = nothing_new w (happens set (stop_after a) w) (then_same w (first_step set a w) (happens set (stop_after a) w) (first_same set a w) (restarts_same set (first_step set a w))) h

  turn_next : (limits : Capacity) (t : Turn) (w : World) → count_at w < count_at (turned limits t w) → ReadsNext w
  turn_next limits t w h = by (is_bad t.event w) h
    where
      by : (bad : Bool) → count_at w < count_at (cond bad w (happens (setting limits t) t.event w)) → ReadsNext w
      by true more = absurd (omega (arith, more))
      by false more = happens_next (setting limits t) t.event w more

  -- ---- in a run

  -- a moment of it at which the copy is read next
  pub record IsReadIn (limits : Capacity) (ts : List Turn) (w : World) : Type 0 where
    pub first : List Turn
    pub later : List Turn
    pub are : first ++ later ≡ ts
    pub moment : ReadsNext (run limits first w)

  -- there is one if the receiver has read more of it by the end
  pub is_read : (limits : Capacity) (ts : List Turn) (w : World) → count_at w < count_at (run limits ts w) → IsReadIn limits ts w
  is_read limits [] w h = absurd (omega (arith, h))
  is_read limits (t ∷ ts) w h = by (less_or_not (count_at w) (count_at (turned limits t w))) (λ more. is_read limits ts (turned limits t w) more)
    where
      by : (count_at w < count_at (turned limits t w)) ⊎ (count_at (turned limits t w) ≤ count_at w) → (count_at (turned limits t w) < count_at (run limits ts (turned limits t w)) → IsReadIn limits ts (turned limits t w)) → IsReadIn limits (t ∷ ts) w
      by (inl now) more = record { first = []; later = t ∷ ts; are = refl; moment = turn_next limits t w now }
      by (inr not_yet) more =
          let m = more (omega (arith, h, not_yet)) in
          record { first = t ∷ m.first; later = m.later; are = ap (λ (zs : List Turn). t ∷ zs) m.are; moment = m.moment }
