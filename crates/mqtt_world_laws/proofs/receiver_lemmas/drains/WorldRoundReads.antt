-- A receiver that is connected and in step reads all that is under way to it: it is so again; what it sees is its hop's receiver
-- reading all.
use Rattle.std.proofs.Common.{◌≡◌, ◌⊎◌, inl, inr, ℕ, zero, suc, ◌≤◌, Bool, true, false, cond, if◌then◌else◌, List, [], ◌∷◌, ◌++◌, length, map, Option, Some, None, nat_lt, refl, sym, ap, subst, ◌∙◌, arith}
use Rattle.std.specs.Prelude.{filter_map, is_some}
use Rattle.mqtt_base.specs.declared.session.CopyId.{CopyId}
use Rattle.mqtt_packet.specs.declared.codec.packet.Packet.{Packet}
use Rattle.mqtt_packet.specs.declared.codec.packet.Packet.TheVariants as packet
use Rattle.mqtt_packet.specs.declared.codec.publish.Delivery.{Delivery}
use Rattle.mqtt_packet.specs.declared.codec.publish.Delivery.TheVariants as delivery
use Rattle.mqtt_packet.specs.declared.codec.publish.Publish.{Publish as Publication}
use Rattle.mqtt_flow.specs.outbound.OutboundWorld.{Lot, Event, World as Hop, run, step, to_end}
use Rattle.mqtt_flow.specs.outbound.Receiver.{Answer, Output}
use Rattle.mqtt_flow.specs.inbound.Line.{Link, away, asked, live, sent_on}
use Rattle.mqtt_world_model.specs.model.Ends.{Back, Receiver, answers, greeted, hears, receiver_connack, receiver_reads, reads_publish}
use Rattle.mqtt_world_model.specs.model.Lines.{Down, is_one_of, left, stands}
use Rattle.mqtt_world_model.specs.model.Seen.{is_linked}
use Rattle.mqtt_rules.specs.step.State.{Broker}
use Rattle.mqtt_world_laws.specs.receiver.Drains.{times}
use Rattle.mqtt_world_laws.specs.receiver.Handing.{IsRun}
use Rattle.mqtt_world_laws.specs.receiver.Own.{IsInStep}
use Rattle.mqtt_world_laws.specs.receiver.Seen.{Numbering, heard_in, seen}
use Rattle.mqtt_world_laws.specs.receiver.Tags.{id_of}
use Rattle.mqtt_world_laws.proofs.receiver_lemmas.own.Doings.{doing_reads, first_reads, reads_by, reads_seen}
use Rattle.mqtt_world_laws.proofs.receiver_lemmas.own.OwnDoings.{Keeps, keeps_reading, reads_in_step}
use Rattle.mqtt_world_laws.proofs.receiver_lemmas.drains.RoundPhases.{ends_back}
use Rattle.mqtt_world_laws.proofs.receiver_lemmas.drains.WorldRoundSteps.{At, connected_again, hop_linked, is_linked_now, reached}

-- ---- what it leaves under way

-- what holds of nothing, and stays so with each answer more behind
pub record Grows (P : List Back → Type 0) : Type 0 where
  pub none : P []
  pub more : (up : List Back) (a : Answer) → P up → P (up ++ answers a ∷ [])

module _ (P : List Back → Type 0) (grows : Grows P) where
  -- after it has read the packet in front of these
  record Took (rest : List Down) (r q : Receiver) : Type 0 where
    pub down : (q.line.down ≡ rest) ⊎ (q.line.down ≡ [])
    pub up : P r.line.up → P q.line.up

  abbrev taken : List Down → Receiver → Receiver
  taken rest r = record r { line = record r.line { down = rest } }

  answers_more : (t : Bool) (up : List Back) (a : Answer) → P up → P (sent_on t up (answers a ∷ []))
  answers_more true up a h = grows.more up a h
  answers_more false up a h = h

  took_connack : (link : Link) (present : Bool) (code : ℕ) (rest : List Down) (r : Receiver) → Took rest r (receiver_connack link present code (taken rest r))
  took_connack away present code rest r = record { down = inl refl; up = λ h. h }
  took_connack live present code rest r = record { down = inl refl; up = λ h. h }
  took_connack asked present code rest r = by (nat_lt 0 code)
    where
      by : (z : Bool) → Took rest r (cond z (record (taken rest r) { line = left (record (taken rest r).line { clean = false }) })
          (record (taken rest r) { line = greeted (taken rest r).line; asking = false; kept = if present then r.kept else [] }))
      by true = record { down = inr refl; up = λ h. grows.none }
      by false = record { down = inl refl; up = λ h. h }

  took_publish : (t : Bool) (copy : Option CopyId) (p : Publication) (d : Delivery) (rest : List Down) (r : Receiver) → Took rest r (reads_publish t copy p d (taken rest r))
  took_publish t copy p delivery.AtMostOnce rest r = record { down = inl refl; up = λ h. h }
  took_publish t copy p (delivery.AtLeastOnce dup i) rest r = record { down = inl refl; up = λ h. answers_more t r.line.up _ h }
  took_publish t copy p (delivery.ExactlyOnce dup i) rest r = record { down = inl refl; up = λ h. answers_more t r.line.up _ h }

  took_packet : (t : Bool) (copy : Option CopyId) (x : Packet) (rest : List Down) (r : Receiver) → Took rest r (hears t copy x (taken rest r))
  took_packet t copy (packet.Connack a) rest r = took_connack r.line.link a.session_present a.reason.0 rest r
  took_packet t copy (packet.Publish p) rest r = took_publish t copy p p.delivery rest r
  took_packet t copy (packet.Pubrel a) rest r = record { down = inl refl; up = λ h. answers_more t r.line.up _ h }
  took_packet t copy (packet.Disconnect a) rest r = record { down = inr refl; up = λ h. grows.none }
  took_packet t copy x rest r = record { down = inl refl; up = λ h. h }

-- ---- it reads one packet

module _ (number : Numbering) (largest window : ℕ) (ids : List CopyId) (birth : ℕ) (ns : List ℕ) (P : List Back → Type 0) (grows : Grows P) (first : Receiver) (b : Broker) where
  -- since it was this one; its line stands at the broker exactly if it is connected there
  pub record Reading (hop : Hop) (r : Receiver) : Type 0 where
    pub in_step : IsInStep largest ids birth ns r b
    pub copies : List Lot
    pub same : map id_of copies ≡ ids
    pub run_is : IsRun number largest copies r b
    pub seen_is : seen number copies r b ≡ hop
    pub agrees : is_linked r.line.number b ≡ stands r.line.number b
    pub number_is : (k : ℕ) → r.line.number ≡ Some k → first.line.number ≡ Some k
    pub old_number : (k : ℕ) → r.line.old_number ≡ Some k → first.line.old_number ≡ Some k
    pub answering : P first.line.up → P r.line.up

  abbrev pub next_read : Receiver → Receiver
  next_read r = receiver_reads (stands r.line.number b) r.line.down r

  reading_up : (t : Bool) (ds : List Down) (r : Receiver) → P r.line.up → P (receiver_reads t ds r).line.up
  reading_up t [] r h = h
  reading_up t (d ∷ rest) r h = (took_packet P grows t d.copy d.packet rest r).up h

  reads_one : (hop : Hop) (r : Receiver) → Reading hop r → Reading (run largest (first_reads number r.line.down) hop) (next_read r)
  reads_one hop r x =
      let t = stands r.line.number b in
      let q = next_read r in
      let k : Keeps r q = keeps_reading t r.line.down r in
      record {
        in_step = reads_in_step largest ids birth ns t r b x.in_step x.agrees;
        copies = x.copies;
        same = x.same;
        run_is = doing_reads number largest x.copies t r b x.run_is x.agrees;
        seen_is = reads_seen number largest x.copies t r b x.run_is x.agrees ∙ ap (run largest (first_reads number r.line.down)) x.seen_is;
        agrees = by q.line.number refl;
        number_is = λ j e. x.number_is j (k.number j e);
        old_number = λ j e. x.old_number j (k.old_number j e);
        answering = λ h. reading_up t r.line.down r (x.answering h);
      }
    where
      by : (o : Option ℕ) → (next_read r).line.number ≡ o → is_linked (next_read r).line.number b ≡ stands (next_read r).line.number b
      by None e = ap (λ (z : Option ℕ). is_linked z b) e ∙ ap (λ (z : Option ℕ). stands z b) (sym e)
      by (Some j) e =
          let same : r.line.number ≡ (next_read r).line.number = (keeps_reading (stands r.line.number b) r.line.down r).number j e ∙ sym e in
          ap (λ (z : Option ℕ). is_linked z b) (sym same) ∙ (x.agrees ∙ ap (λ (z : Option ℕ). stands z b) same)

  -- ---- and all

  abbrev pub all_read : ℕ → Receiver → Receiver
  all_read zero r = r
  all_read (suc k) r = all_read k (next_read r)

  ends_idle : (m : ℕ) (hop : Hop) → hop.down ≡ [] → run largest (times m to_end) hop ≡ hop
  ends_idle zero hop e = refl
  ends_idle (suc m) hop e =
      let idle : step largest hop to_end ≡ hop = rw e refl in
      ap (run largest (times m to_end)) idle ∙ ends_idle m hop e

  downs_are : (hop : Hop) (r : Receiver) → Reading hop r → hop.down ≡ filter_map (heard_in number) r.line.down
  downs_are hop r x = sym (ap (λ (w : Hop). w.down) x.seen_is)

  -- fewer are under way after each
  lesser : (rest ds : List Down) → (ds ≡ rest) ⊎ (ds ≡ []) → (length ds ≤ length rest) × (length (filter_map (heard_in number) ds) ≤ length (filter_map (heard_in number) rest))
  lesser rest ds (inl e) = subst (λ (ks : List Down). (length ks ≤ length rest) × (length (filter_map (heard_in number) ks) ≤ length (filter_map (heard_in number) rest))) (sym e) (omega arith, omega arith)
  lesser rest ds (inr e) = subst (λ (ks : List Down). (length ks ≤ length rest) × (length (filter_map (heard_in number) ks) ≤ length (filter_map (heard_in number) rest))) (sym e) (omega arith, omega arith)

  -- one more, by whether the packet is about copies
  module _ (k : ℕ) (hop : Hop) (r : Receiver) (x : Reading hop r) (few : length r.line.down ≤ suc k)
      (more : (m : ℕ) (w : Hop) (q : Receiver) → Reading w q → length q.line.down ≤ k → length w.down ≤ m → Reading (run largest (times m to_end) w) (all_read k q)) where
    y : Reading (run largest (first_reads number r.line.down) hop) (next_read r)
    y = reads_one hop r x

    low : (d : Down) (rest : List Down) → r.line.down ≡ d ∷ rest
        → (length (next_read r).line.down ≤ length rest) × (length (filter_map (heard_in number) (next_read r).line.down) ≤ length (filter_map (heard_in number) rest))
    low d rest is =
        let t = stands r.line.number b in
        lesser rest (next_read r).line.down (subst (λ (ds : List Down). ((receiver_reads t ds r).line.down ≡ rest) ⊎ ((receiver_reads t ds r).line.down ≡ [])) (sym is) (took_packet P grows t d.copy d.packet rest r).down)

    downs : (d : Down) (rest : List Down) (p : Output) → heard_in number d ≡ Some p → r.line.down ≡ d ∷ rest → length hop.down ≡ suc (length (filter_map (heard_in number) rest))
    downs d rest p e is =
        let heads : filter_map (heard_in number) (d ∷ rest) ≡ p ∷ filter_map (heard_in number) rest = rw e refl in
        ap length (downs_are hop r x ∙ (ap (filter_map (heard_in number)) is ∙ heads))

    heard_by : (d : Down) (rest : List Down) (o : Option Output) (m : ℕ) → heard_in number d ≡ o → r.line.down ≡ d ∷ rest → length hop.down ≤ m → Reading (run largest (times m to_end) hop) (all_read k (next_read r))
    heard_by d rest None m e is le =
        let firsts : first_reads number r.line.down ≡ [] = ap (first_reads number) is ∙ ap reads_by e in
        let z : Reading hop (next_read r) = subst (λ (es : List Event). Reading (run largest es hop) (next_read r)) firsts y in
        let all : length r.line.down ≡ suc (length rest) = ap length is in
        let less = (low d rest is).0 in
        more m hop (next_read r) z (omega (arith, few, all, less)) le
    heard_by d rest (Some p) zero e is le = let some = downs d rest p e is in absurd (omega (arith, some, le))
    heard_by d rest (Some p) (suc m) e is le =
        let firsts : first_reads number r.line.down ≡ to_end ∷ [] = ap (first_reads number) is ∙ ap reads_by e in
        let z : Reading (step largest hop to_end) (next_read r) = subst (λ (es : List Event). Reading (run largest es hop) (next_read r)) firsts y in
        let all : length r.line.down ≡ suc (length rest) = ap length is in
        let less = (low d rest is).0 in
        let under = (low d rest is).1 in
        let some = downs d rest p e is in
        let now : length (step largest hop to_end).down ≡ length (filter_map (heard_in number) (next_read r).line.down) = ap length (downs_are (step largest hop to_end) (next_read r) z) in
        more m (step largest hop to_end) (next_read r) z (omega (arith, few, all, less)) (omega (arith, le, some, now, under))

    reads_more : (m : ℕ) (ds : List Down) → r.line.down ≡ ds → length hop.down ≤ m → Reading (run largest (times m to_end) hop) (all_read k (next_read r))
    reads_more m [] is fewer =
        let same : next_read r ≡ r = ap (λ (ds : List Down). receiver_reads (stands r.line.number b) ds r) is in
        let none : length r.line.down ≡ 0 = ap length is in
        subst (λ (q : Receiver). Reading (run largest (times m to_end) hop) (all_read k q)) (sym same) (more m hop r x (omega (arith, none)) fewer)
    reads_more m (d ∷ rest) is fewer = heard_by d rest (heard_in number d) m refl is fewer

  none_heard : (ds : List Down) → length ds ≤ 0 → filter_map (heard_in number) ds ≡ []
  none_heard [] h = refl
  none_heard (d ∷ ds) h = absurd (omega arith)

  -- reading all that is under way to the receiver is reading it in the hop
  pub reads_all : (k m : ℕ) (hop : Hop) (r : Receiver) → Reading hop r → length r.line.down ≤ k → length hop.down ≤ m → Reading (run largest (times m to_end) hop) (all_read k r)
  reads_all zero m hop r x few fewer = subst (λ (w : Hop). Reading w r) (sym (ends_idle m hop (downs_are hop r x ∙ none_heard r.line.down few))) x
  reads_all (suc k) m hop r x few fewer = reads_more k hop r x few (reads_all k) m r.line.down refl fewer

-- ---- and is connected still

-- after its reading the receiver is at the state that the hop has come to
pub record HasRead (number : Numbering) (largest window : ℕ) (ids : List CopyId) (birth : ℕ) (ns : List ℕ) (P : List Back → Type 0) (hop : Hop) (r q : Receiver) (b : Broker) : Type 0 where
  pub at : At number largest window ids birth ns hop q b
  pub answering : P r.line.up → P q.line.up

-- the receiver's reading in a round is the hop's
pub reads_at : (number : Numbering) (largest window : ℕ) (ids : List CopyId) (birth : ℕ) (ns : List ℕ) (P : List Back → Type 0) (grows : Grows P) (hop : Hop) (r : Receiver) (b : Broker) → At number largest window ids birth ns hop r b
    → HasRead number largest window ids birth ns P (run largest (times (length hop.down) to_end) hop) r (all_read number largest window ids birth ns P grows r b (length r.line.down) r) b
reads_at number largest window ids birth ns P grows hop r b x =
    let c = x.connected in
    let k = length r.line.down in
    let m = length hop.down in
    let q = all_read number largest window ids birth ns P grows r b k r in
    let last = run largest (times m to_end) hop in
    let standing : stands r.line.number b ≡ true = ap (λ (o : Option ℕ). stands o b) c.number ∙ ap is_some c.there in
    let before : Reading number largest window ids birth ns P grows r b hop r = record {
      in_step = c.in_step;
      copies = x.copies;
      same = x.same;
      run_is = x.run_is;
      seen_is = x.seen_is;
      agrees = is_linked_now number largest window ids birth ns r b c ∙ sym standing;
      number_is = λ j e. e;
      old_number = λ j e. e;
      answering = λ h. h;
    } in
    let y = reads_all number largest window ids birth ns P grows r b k m hop r before (omega arith) (omega arith) in
    let linked : is_linked q.line.number b ≡ true = ap (λ (w : Hop). w.linked) y.seen_is ∙ (ends_back largest hop (reached number largest window ids birth ns hop r b x) (hop_linked number largest window ids birth ns hop r b x)).0 in
    record {
      at = record {
        connected = connected_again number largest window ids birth ns ids r q b b c y.in_step (same_number q.line.number y.number_is linked) (apart q.line.old_number y.old_number) linked refl c.fits c.unique c.ordered c.distinct;
        copies = y.copies;
        same = y.same;
        run_is = y.run_is;
        seen_is = y.seen_is;
      };
      answering = y.answering;
    }
  where
    same_number : (o : Option ℕ) → ((j : ℕ) → o ≡ Some j → r.line.number ≡ Some j) → is_linked o b ≡ true → o ≡ r.line.number
    same_number None f h = absurd cc
    same_number (Some j) f h = sym (f j refl)

    apart : (o : Option ℕ) → ((j : ℕ) → o ≡ Some j → r.line.old_number ≡ Some j) → is_one_of o (x.connected.line.number ∷ []) ≡ false
    apart None f = refl
    apart (Some j) f = ap (λ (z : Option ℕ). is_one_of z (x.connected.line.number ∷ [])) (sym (f j refl)) ∙ x.connected.apart
