-- What a publisher does leaves its earlier message ahead, or over: it sends, reads, and leaves, gives up and joins lines (MQTT 5.0, 4.4,
-- 4.6).
use Rattle.std.proofs.Common.{◌≡◌, ℕ, ◌+◌, ◌<◌, ◌≤◌, Bool, true, false, if◌then◌else◌, List, [], ◌∷◌, ◌++◌, length, map, Option, Some, None, nat_eq, nat_lt, refl, sym, ap, subst, ◌∙◌, arith, inl, inr}
use Rattle.std.proofs.lemmas.Bool.{cases_Bool, eqb-true}
use Rattle.std.proofs.lemmas.Cmp.{nat_eq_equiv}
use Rattle.std.proofs.lemmas.List.{length-append, length-map}
use Rattle.mqtt_records.proofs.lists_lemmas.OrderLemmas.{apart}
use Rattle.mqtt_base.specs.declared.session.Qos.{Qos as Quality}
use Rattle.mqtt_base.specs.declared.session.Qos.TheVariants.{AtMostOnce, AtLeastOnce, ExactlyOnce}
use Rattle.mqtt_base.specs.declared.limits.TheConstants.{OPEN_LIMIT}
use Rattle.mqtt_flow.specs.inbound.Identifiers.{free_identifier}
use Rattle.mqtt_flow.specs.inbound.Line.{Link, away, asked, live, sent_on}
use Rattle.mqtt_flow.specs.inbound.Publisher.{Qos, qos_1, qos_2, Fate, CONNECT, ToPublisher, CONNACK, CONNACK_REFUSED, PUBACK, PUBREC, PUBCOMP, DISCONNECT, first_packet, first_fate, in_flight, on_new_session, on_puback, on_pubrec, on_pubcomp, pubrel_for, pubrel_if}
use Rattle.mqtt_rules.specs.step.State.{Broker}
use Rattle.mqtt_world_model.specs.model.Lines.{Down, Line, given_up, gives_up, joined, left, stands}
use Rattle.mqtt_world_model.specs.model.Ends.{Content, Draft, Publisher, Sent, connected, goes, goes_out, heard, numbered, plain, published, publisher_reads, reads, reads_connack, reads_if, send_all, send_one, send_unsent, shake}
use Rattle.mqtt_world_laws.proofs.ordered_lemmas.Answered.{none_waits, puback_answers, pubcomp_answers, pubrec_answers}
use Rattle.mqtt_world_laws.proofs.ordered_lemmas.UnderWay.{GoesFirst, IsAhead, IsOver, Stands, again, first_append, first_none, first_there, goes_again, has_behind, has_more, has_neither, has_publish, is_publish_of, neither, none_again, or_left, waits, waits_before, waits_mapped, waits_past, which}

-- a PUBLISH that goes out has the number of its message
packet_number : (q : Qos) (id k j : ℕ) → is_publish_of j (shake (first_packet q id k)) ≡ nat_eq k j
packet_number qos_1 id k j = refl
packet_number qos_2 id k j = refl

none_sent : (t : Bool) (j : ℕ) (xs ys : List Sent) → has_publish j xs ≡ false → has_publish j ys ≡ false → has_publish j (sent_on t xs ys) ≡ false
none_sent true j xs ys p q = has_neither j xs ys p q
none_sent false j xs ys p q = p

no_release : (t : Bool) (id j : ℕ) → has_publish j (map shake (pubrel_if t id)) ≡ false
no_release true id j = refl
no_release false id j = refl

true_or_false : {X : Type 0} (t : Bool) → t ≡ true → t ≡ false → X
true_or_false t yes_ no_ = let clash : true ≡ false = sym yes_ ∙ no_ in absurd cc

not_live : {X : Type 0} (l : Link) → l ≡ away → l ≡ live → X
not_live l is e = let clash : away ≡ live = sym is ∙ e in absurd cc

-- ---- a publisher that is calm

-- once it is connected no PUBLISH of this message is on its old line
abbrev pub IsLate : ℕ → Publisher → Type 0
IsLate m p = p.line.link ≡ live → has_publish m p.line.old ≡ false

-- nor as the CONNACK comes that it awaits; and its line's number was given
pub record IsCalm (m : ℕ) (p : Publisher) (b : Broker) : Type 0 where
  pub late : IsLate m p
  pub greeted : (d : Down) (rest : List Down) (present : Bool) → p.line.down ≡ d ∷ rest → heard d.packet ≡ Some (CONNACK present) → p.line.link ≡ asked → has_publish m p.line.old ≡ false
  pub given : (j : ℕ) → p.line.number ≡ Some j → j ≤ b.given

-- ---- of two messages of which the first is ahead, or over

module _ (m n : ℕ) (less : m < n) (A : Type 0) (b : Broker) where
  abbrev S : Publisher → Type 0
  S p = Stands m n A p b

  no_longer : (fs gs : List Fate) → (waits m gs ≡ true → waits m fs ≡ true) → waits m fs ≡ false → waits m gs ≡ false
  no_longer fs gs h done = elim (cases_Bool (waits m gs)) [
    | inl is ↦ true_or_false (waits m fs) (h is) done
    | inr not_ ↦ not_
  ]

  -- its handshakes go on, and what goes out is no PUBLISH of the two
  turned : (t : Bool) (fs : List Fate) (ds : List Draft) (xs : List Sent) (p : Publisher) → length fs ≡ length p.fates → (waits m fs ≡ true → waits m p.fates ≡ true)
      → has_publish m xs ≡ false → has_publish n xs ≡ false → S p → S (record p { fates = fs; unsent = ds; line = goes t xs p.line })
  turned t fs ds xs p same on none_m none_n (inl o) =
      let out = o.out in
      inl (record { out = omega (arith, out, same); done = no_longer p.fates fs on o.done; up = none_sent t m p.line.up xs o.up none_m; old = o.old })
  turned true fs ds xs p same on none_m none_n (inr h) =
      inr (
        record {
          up = first_append m n p.line.up xs h.0.up (first_none m n xs none_n);
          old = h.0.old;
          there = λ l o w. has_more m p.line.up xs (h.0.there l o (on w));
          given = h.0.given;
        },
        h.1,
      )
  turned false fs ds xs p same on none_m none_n (inr h) =
      inr (record { up = h.0.up; old = h.0.old; there = λ l o w. h.0.there l o (on w); given = h.0.given }, h.1)

  -- ---- messages go out

  -- it is connected, its line stands or not, and nothing of the first is on the old one
  record Sends (t : Bool) (p : Publisher) : Type 0 where
    link : p.line.link ≡ live
    stand : stands p.line.number b ≡ t
    old : has_publish m p.line.old ≡ false

  numbered_over : (t : Bool) (q : Qos) (c : Content) (rest : List Draft) (p : Publisher) → IsOver m p → IsOver m (numbered t q c rest p)
  numbered_over t q c rest p o =
      let id = free_identifier (in_flight p.fates) in
      let f = first_fate q id in
      let x : Sent = shake (first_packet q id (length p.fates)) in
      let out = o.out in
      let more = length-append p.fates (f ∷ []) in
      record {
        out = omega (arith, out, more);
        done = waits_before m p.fates (f ∷ []) o.out ∙ o.done;
        up = none_sent t m p.line.up (x ∷ []) o.up (neither (is_publish_of m x) false (packet_number q id (length p.fates) m ∙ apart (length p.fates) m (λ same. omega (arith, out, same))) refl);
        old = o.old;
      }

  numbered_ahead : (t : Bool) (q : Qos) (c : Content) (rest : List Draft) (p : Publisher) → Sends t p → IsAhead m n p b → A → S (numbered t q c rest p)
  numbered_ahead false q c rest p s h a = inr (record { up = h.up; old = h.old; there = λ l o w. true_or_false (stands p.line.number b) o s.stand; given = h.given }, a)
  numbered_ahead true q c rest p s h a = elim (cases_Bool (nat_eq k n)) [
    | inl is ↦ elim (cases_Bool (has_publish m p.line.up)) [
      | inl there ↦ inr (record { up = first_there m n p.line.up (x ∷ []) h.up there; old = h.old; there = λ l o w. has_more m p.line.up (x ∷ []) there; given = h.given }, a)
      | inr none ↦ inl (last (eqb-true k n is) none)
    ]
    | inr other ↦ inr (record { up = first_append m n p.line.up (x ∷ []) h.up (inr (packet_number q (free_identifier (in_flight p.fates)) k n ∙ other, tt)); old = h.old; there = λ l o w. under_way w; given = h.given }, a)
  ]
    where
      k : ℕ
      k = length p.fates

      f : Fate
      f = first_fate q (free_identifier (in_flight p.fates))

      x : Sent
      x = shake (first_packet q (free_identifier (in_flight p.fates)) k)

      more : length (p.fates ++ f ∷ []) ≡ k + 1
      more = length-append p.fates (f ∷ [])

      last : k ≡ n → has_publish m p.line.up ≡ false → IsOver m (numbered true q c rest p)
      last is none =
          let out : m < k = omega (arith, less, is) in
          let long = more in
          let done : waits m p.fates ≡ false = elim (cases_Bool (waits m p.fates)) [
            | inl w ↦ true_or_false (has_publish m p.line.up) (h.there s.link s.stand w) none
            | inr not_ ↦ not_
          ] in
          record {
            out = omega (arith, out, long);
            done = waits_before m p.fates (f ∷ []) out ∙ done;
            up = has_neither m p.line.up (x ∷ []) none (neither (is_publish_of m x) false (packet_number q (free_identifier (in_flight p.fates)) k m ∙ apart k m (λ same. omega (arith, out, same))) refl);
            old = s.old;
          }

      under_way : waits m (p.fates ++ f ∷ []) ≡ true → has_publish m (p.line.up ++ x ∷ []) ≡ true
      under_way w = elim (which m k) [
        | inl before ↦ has_more m p.line.up (x ∷ []) (h.there s.link s.stand (sym (waits_before m p.fates (f ∷ []) before) ∙ w))
        | inr le ↦ elim (cases_Bool (nat_eq k m)) [
          | inl its ↦ has_behind m p.line.up (x ∷ []) (or_left (is_publish_of m x) false (packet_number q (free_identifier (in_flight p.fates)) k m ∙ its))
          | inr other ↦
              let long = more in
              let past : k + 1 ≤ m = beyond k m le other in
              true_or_false (waits m (p.fates ++ f ∷ [])) w (waits_past m (p.fates ++ f ∷ []) (omega (arith, long, past)))
        ]
      ]
        where
          beyond : (a c : ℕ) → a ≤ c → nat_eq a c ≡ false → a + 1 ≤ c
          beyond a c le other = elim (which a c) [
            | inl below ↦ omega (arith, below)
            | inr le_ ↦ let same : a ≡ c = omega (arith, le, le_) in true_or_false (nat_eq a c) (ap (nat_eq a) (sym same) ∙ nat_eq_equiv.refl a) other
          ]

  out_stands : (t : Bool) (k : Quality) (c : Content) (rest : List Draft) (p : Publisher) → Sends t p → S p → S (goes_out t k c rest p)
  out_stands t AtMostOnce c rest p s h = turned t p.fates rest (plain c ∷ []) p refl (λ w. w) refl refl h
  out_stands t AtLeastOnce c rest p s (inl o) = inl (numbered_over t qos_1 c rest p o)
  out_stands t AtLeastOnce c rest p s (inr h) = numbered_ahead t qos_1 c rest p s h.0 h.1
  out_stands t ExactlyOnce c rest p s (inl o) = inl (numbered_over t qos_2 c rest p o)
  out_stands t ExactlyOnce c rest p s (inr h) = numbered_ahead t qos_2 c rest p s h.0 h.1

  out_sends : (t : Bool) (k : Quality) (c : Content) (rest : List Draft) (p : Publisher) → Sends t p → Sends t (goes_out t k c rest p)
  out_sends t AtMostOnce c rest p s = record { link = s.link; stand = s.stand; old = s.old }
  out_sends t AtLeastOnce c rest p s = record { link = s.link; stand = s.stand; old = s.old }
  out_sends t ExactlyOnce c rest p s = record { link = s.link; stand = s.stand; old = s.old }

  if_so : (P : Publisher → Type 0) (z : Bool) (p v : Publisher) → P p → P v → P (if z then v else p)
  if_so P true p v h g = g
  if_so P false p v h g = h

  all_stand : (t : Bool) (ds : List Draft) (p : Publisher) → Sends t p → S p → S (send_all t ds p)
  all_stand t [] p s h = h
  all_stand t (d ∷ rest) p s h =
      let may = nat_lt (length (in_flight p.fates)) OPEN_LIMIT in
      let v = goes_out t d.qos d.content rest p in
      all_stand t rest (send_one t d rest p) (if_so (Sends t) may p v s (out_sends t d.qos d.content rest p s)) (if_so S may p v h (out_stands t d.qos d.content rest p s h))

  unsent_stands : (t : Bool) (l : Link) (p : Publisher) → (l ≡ live → Sends t p) → S p → S (send_unsent t l p)
  unsent_stands t away p s h = h
  unsent_stands t asked p s h = h
  unsent_stands t live p s h = all_stand t p.unsent p (s refl) h

  -- ---- it publishes

  -- what waits stands where it goes out
  pub published_stands : (d : Draft) (p : Publisher) → IsLate m p → S p → S (published (stands p.line.number b) d p)
  published_stands d p late h =
      let t = stands p.line.number b in
      unsent_stands t p.line.link (record p { unsent = p.unsent ++ d ∷ [] }) (λ is. record { link = is; stand = refl; old = late is }) (turned false p.fates (p.unsent ++ d ∷ []) [] p refl (λ w. w) refl refl h)

  -- ---- it reads

  resumed : (t : Bool) (p : Publisher) → stands p.line.number b ≡ t → has_publish m p.line.old ≡ false → ((j : ℕ) → p.line.number ≡ Some j → j ≤ b.given) → S p
      → S (record p { line = goes t (again 0 p.fates) (connected p.line) })
  resumed t p stand late given (inl o) = inl (record { out = o.out; done = o.done; up = none_sent t m p.line.up (again 0 p.fates) o.up (none_again m p.fates o.done); old = o.old })
  resumed false p stand late given (inr h) = inr (record { up = h.0.up; old = h.0.old; there = λ l o w. true_or_false (stands p.line.number b) o stand; given = λ l. given }, h.1)
  resumed true p stand late given (inr h) = elim (cases_Bool (waits m p.fates)) [
    | inl w ↦
        let g = goes_again m n p.fates less w in
        inr (record { up = first_append m n p.line.up xs h.0.up g.0; old = h.0.old; there = λ l o v. has_behind m p.line.up xs g.1; given = λ l. given }, h.1)
    | inr done ↦ elim (cases_Bool (has_publish m p.line.up)) [
      | inl there ↦ inr (record { up = first_there m n p.line.up xs h.0.up there; old = h.0.old; there = λ l o v. true_or_false (waits m p.fates) v done; given = λ l. given }, h.1)
      | inr none ↦ elim (which m (length p.fates)) [
        | inl out ↦ inl (record { out = out; done = done; up = has_neither m p.line.up xs none (none_again m p.fates done); old = late })
        | inr le ↦ inr (
          record {
            up = first_append m n p.line.up xs h.0.up (first_none m n xs (none_again n p.fates (waits_past n p.fates (omega (arith, le, less)))));
            old = h.0.old;
            there = λ l o v. true_or_false (waits m p.fates) v done;
            given = λ l. given;
          },
          h.1,
        )
      ]
    ]
  ]
    where
      xs : List Sent
      xs = again 0 p.fates

  renewed : (p : Publisher) → ((j : ℕ) → p.line.number ≡ Some j → j ≤ b.given) → S p → S (record p { fates = map on_new_session p.fates; line = connected p.line })
  renewed p given (inl o) =
      let out = o.out in
      let same = length-map p.fates on_new_session in
      inl (record { out = omega (arith, out, same); done = no_longer p.fates (map on_new_session p.fates) (λ w. absurd (let clash = none_waits m p.fates w in cc)) o.done; up = o.up; old = o.old })
  renewed p given (inr h) = inr (record { up = h.0.up; old = h.0.old; there = λ l o w. absurd (let clash = none_waits m p.fates w in cc); given = λ l. given }, h.1)

  connack_stands : (t : Bool) (l : Link) (present : Bool) (p : Publisher) → p.line.link ≡ l → stands p.line.number b ≡ t → (l ≡ asked → has_publish m p.line.old ≡ false)
      → ((j : ℕ) → p.line.number ≡ Some j → j ≤ b.given) → S p → S (reads_connack t l present p)
  connack_stands t away present p is stand late given h = h
  connack_stands t live present p is stand late given h = h
  connack_stands t asked true p is stand late given h =
      unsent_stands t live (record p { line = goes t (again 0 p.fates) (connected p.line) }) (λ e. record { link = refl; stand = stand; old = late refl }) (resumed t p stand (late refl) given h)
  connack_stands t asked false p is stand late given h =
      unsent_stands t live (record p { fates = map on_new_session p.fates; line = connected p.line }) (λ e. record { link = refl; stand = stand; old = late refl }) (renewed p given h)

  -- it leaves its line
  pub left_stands : (p : Publisher) (l : Line Sent) → l.up ≡ [] → l.old ≡ p.line.old → l.link ≡ away → S p → S (record p { line = l })
  left_stands p l up old link (inl o) = inl (record { out = o.out; done = o.done; up = ap (has_publish m) up; old = ap (has_publish m) old ∙ o.old })
  left_stands p l up old link (inr h) =
      inr (record { up = subst (GoesFirst m n) (sym up) tt; old = subst (GoesFirst m n) (sym old) h.0.old; there = λ e o w. not_live l.link link e; given = λ e. not_live l.link link e }, h.1)

  reads_stand : (packet : ToPublisher) (p : Publisher) → IsLate m p → ((present : Bool) → packet ≡ CONNACK present → p.line.link ≡ asked → has_publish m p.line.old ≡ false)
      → ((j : ℕ) → p.line.number ≡ Some j → j ≤ b.given) → S p → S (reads (stands p.line.number b) packet p)
  reads_stand (CONNACK present) p late greeted given h = connack_stands (stands p.line.number b) p.line.link present p refl refl (greeted present refl) given h
  reads_stand (CONNACK_REFUSED code) p late greeted given h = left_stands p (left (record p.line { clean = false })) refl refl refl h
  reads_stand (PUBACK id code) p late greeted given h =
      unsent_stands (stands p.line.number b) p.line.link (record p { fates = map (on_puback id code) p.fates }) (λ is. record { link = is; stand = refl; old = late is })
      (turned false (map (on_puback id code) p.fates) p.unsent [] p (length-map p.fates (on_puback id code)) (waits_mapped m (on_puback id code) p.fates (puback_answers id code)) refl refl h)
  reads_stand (PUBREC id code) p late greeted given h =
      let t = stands p.line.number b in
      let xs = map shake (pubrel_for id code p.fates) in
      unsent_stands t p.line.link (record p { fates = map (on_pubrec id code) p.fates; line = goes t xs p.line }) (λ is. record { link = is; stand = refl; old = late is })
      (turned t (map (on_pubrec id code) p.fates) p.unsent xs p (length-map p.fates (on_pubrec id code)) (waits_mapped m (on_pubrec id code) p.fates (pubrec_answers id code)) (no_release _ id m) (no_release _ id n) h)
  reads_stand (PUBCOMP id code) p late greeted given h =
      unsent_stands (stands p.line.number b) p.line.link (record p { fates = map (on_pubcomp id) p.fates }) (λ is. record { link = is; stand = refl; old = late is })
      (turned false (map (on_pubcomp id) p.fates) p.unsent [] p (length-map p.fates (on_pubcomp id)) (waits_mapped m (on_pubcomp id) p.fates (pubcomp_answers id)) refl refl h)
  reads_stand (DISCONNECT code) p late greeted given h = left_stands p (left p.line) refl refl refl h

  read_if_stands : (o : Option ToPublisher) (p : Publisher) → IsLate m p → ((present : Bool) → o ≡ Some (CONNACK present) → p.line.link ≡ asked → has_publish m p.line.old ≡ false)
      → ((j : ℕ) → p.line.number ≡ Some j → j ≤ b.given) → S p → S (reads_if (stands p.line.number b) o p)
  read_if_stands None p late greeted given h = h
  read_if_stands (Some packet) p late greeted given h = reads_stand packet p late (λ present is. greeted present (ap Some is)) given h

  -- and what it reads leaves it so
  pub read_stands : (p : Publisher) → IsCalm m p b → S p → S (publisher_reads (stands p.line.number b) p.line.down p)
  read_stands p calm h = by p.line.down refl
    where
      by : (ds : List Down) → p.line.down ≡ ds → S (publisher_reads (stands p.line.number b) ds p)
      by [] is = h
      by (d ∷ rest) is =
          read_if_stands (heard d.packet) (record p { line = record p.line { down = rest } }) calm.late (λ present e link. calm.greeted d rest present is e link) calm.given (held h)
        where
          held : S p → S (record p { line = record p.line { down = rest } })
          held (inl o) = inl (record { out = o.out; done = o.done; up = o.up; old = o.old })
          held (inr x) = inr (record { up = x.0.up; old = x.0.old; there = x.0.there; given = x.0.given }, x.1)

  -- ---- its lines

  -- giving up
  pub given_up_stands : (p : Publisher) → S p → S (record p { line = gives_up p.line.link p.line })
  given_up_stands p h = by p.line.link h
    where
      given : S p → S (record p { line = given_up p.line })
      given (inl o) = inl (record { out = o.out; done = o.done; up = refl; old = o.up })
      given (inr x) = inr (record { up = tt; old = x.0.up; there = λ e o w. not_live away refl e; given = λ e. not_live away refl e }, x.1)

      by : (l : Link) → S p → S (record p { line = gives_up l p.line })
      by away h = h
      by asked h = given h
      by live h = given h

  -- joining
  pub joined_stands : (number : ℕ) (clean : Bool) (p : Publisher) → S p → S (record p { line = joined (shake (CONNECT clean)) number clean p.line })
  joined_stands number clean p (inl o) = inl (record { out = o.out; done = o.done; up = refl; old = o.old })
  joined_stands number clean p (inr h) =
      inr (record { up = inr (refl, tt); old = h.0.old; there = λ e o w. absurd (let clash : asked ≡ live = e in cc); given = λ e. absurd (let clash : asked ≡ live = e in cc) }, h.1)
