-- What a receiver does and reads, and the new line that it joins by: it stays in step with the broker, or awaits its session.
use Rattle.std.proofs.Common.{◌≡◌, ℕ, suc, ◌≤◌, ◌<◌, Bool, true, false, cond, if◌then◌else◌, ◌||◌, List, [], ◌∷◌, ◌++◌, Option, Some, None, nat_eq, nat_lt, refl, sym, subst, ◌∙◌, arith, inl, inr}
use Rattle.std.specs.Prelude.{option_map}
use Rattle.std.specs.List.{AllByRecursion}
use Rattle.std.proofs.lemmas.Bool.{cases_Bool, eqb-true}
use Rattle.std.proofs.lemmas.Cmp.{nat_eq_equiv}
use Rattle.mqtt_base.specs.declared.session.CopyId.{CopyId}
use Rattle.mqtt_packet.specs.declared.codec.packet.Packet.{Packet}
use Rattle.mqtt_packet.specs.declared.codec.packet.Packet.TheVariants as packet
use Rattle.mqtt_packet.specs.declared.codec.publish.Delivery.{Delivery}
use Rattle.mqtt_packet.specs.declared.codec.publish.Delivery.TheVariants as delivery
use Rattle.mqtt_packet.specs.declared.codec.publish.Publish.{Publish as Publication}
use Rattle.mqtt_flow.specs.outbound.OutboundWorld.{Lot}
use Rattle.mqtt_flow.specs.inbound.Line.{Link, away, asked, live}
use Rattle.mqtt_world_model.specs.model.Ends.{Receiver, Wish, greeted, hears, new_receiver, receiver_connack, receiver_reads, reads_publish}
use Rattle.mqtt_world_model.specs.model.Hops.{IsOnly, MayGiveUp}
use Rattle.mqtt_world_model.specs.model.Lines.{Down, gives_up, is_one_of, left}
use Rattle.mqtt_world_model.specs.model.Seen.{is_linked}
use Rattle.mqtt_world_model.specs.model.World.{asks_wish}
use Rattle.mqtt_world_model.proofs.model_lemmas.seats.Joins.{new_is}
use Rattle.mqtt_records.specs.lists.Order.{IsBelow}
use Rattle.mqtt_rules.specs.step.Deeds.{Link as Linked, after, fresh_line}
use Rattle.mqtt_rules.specs.step.Lines.{line_number}
use Rattle.mqtt_rules.specs.step.State.{Line as BrokerLine, Broker, MemberChoice, session_named}
use Rattle.mqtt_rules.specs.step.Step.{NewLine, at_moment, stepped}
use Rattle.mqtt_rules.specs.declared.step.Capacity.{Capacity}
use Rattle.mqtt_world_laws.specs.receiver.Entering.{AreKnown, IsReceiving}
use Rattle.mqtt_world_laws.specs.receiver.Handing.{IsRun, MayComeBack, receiver_joined}
use Rattle.mqtt_world_laws.specs.receiver.Own.{IsAwaiting, IsFreeLine, IsInStep}
use Rattle.mqtt_world_laws.specs.receiver.Seen.{Numbering}
use Rattle.mqtt_world_laws.specs.receiver.Served.{HasLines, IsOwnLine, IsServed}
use Rattle.mqtt_world_laws.proofs.receiver_lemmas.own.Doings.{doing_asks, doing_comes, doing_gives_up, doing_reads}
use Rattle.mqtt_world_laws.proofs.receiver_lemmas.own.Joins.{doing_joins, fresh_of_none}

-- ---- what it does leaves its name, and its lines but those that it leaves

-- the receiver keeps its name, and its lines are those that it had, or fewer
pub record Keeps (r q : Receiver) : Type 0 where
  pub client : q.client ≡ r.client
  pub number : (n : ℕ) → q.line.number ≡ Some n → r.line.number ≡ Some n
  pub old_number : (n : ℕ) → q.line.old_number ≡ Some n → r.line.old_number ≡ Some n

abbrev taken : List Down → Receiver → Receiver
taken rest r = record r { line = record r.line { down = rest } }

keeps_connack : (link : Link) (present : Bool) (code : ℕ) (rest : List Down) (r : Receiver) → Keeps r (receiver_connack link present code (taken rest r))
keeps_connack away present code rest r = record { client = refl; number = λ n e. e; old_number = λ n e. e }
keeps_connack live present code rest r = record { client = refl; number = λ n e. e; old_number = λ n e. e }
keeps_connack asked present code rest r = by (nat_lt 0 code)
  where
    by : (z : Bool) → Keeps r (cond z (record (taken rest r) { line = left (record (taken rest r).line { clean = false }) })
        (record (taken rest r) { line = greeted (taken rest r).line; asking = false; kept = if present then r.kept else [] }))
    by true = record { client = refl; number = λ n e. absurd cc; old_number = λ n e. e }
    by false = record { client = refl; number = λ n e. e; old_number = λ n e. e }

keeps_publish : (t : Bool) (copy : Option CopyId) (p : Publication) (d : Delivery) (rest : List Down) (r : Receiver) → Keeps r (reads_publish t copy p d (taken rest r))
keeps_publish t copy p delivery.AtMostOnce rest r = record { client = refl; number = λ n e. e; old_number = λ n e. e }
keeps_publish t copy p (delivery.AtLeastOnce dup i) rest r = record { client = refl; number = λ n e. e; old_number = λ n e. e }
keeps_publish t copy p (delivery.ExactlyOnce dup i) rest r = record { client = refl; number = λ n e. e; old_number = λ n e. e }

keeps_packet : (t : Bool) (copy : Option CopyId) (x : Packet) (rest : List Down) (r : Receiver) → Keeps r (hears t copy x (taken rest r))
keeps_packet t copy (packet.Connack a) rest r = keeps_connack r.line.link a.session_present a.reason.0 rest r
keeps_packet t copy (packet.Publish p) rest r = keeps_publish t copy p p.delivery rest r
keeps_packet t copy (packet.Disconnect a) rest r = record { client = refl; number = λ n e. absurd cc; old_number = λ n e. e }
keeps_packet t copy x rest r = record { client = refl; number = λ n e. e; old_number = λ n e. e }

-- reading keeps its name and lines
pub keeps_reading : (t : Bool) (ds : List Down) (r : Receiver) → Keeps r (receiver_reads t ds r)
keeps_reading t [] r = record { client = refl; number = λ n e. e; old_number = λ n e. e }
keeps_reading t (d ∷ rest) r = keeps_packet t d.copy d.packet rest r

lines_kept : (ns : List ℕ) (r q : Receiver) → Keeps r q → HasLines ns r → HasLines ns q
lines_kept ns r q k h = record { own = λ n e. h.own n (k.number n e); old = λ n e. h.old n (k.old_number n e) }

lines_given_up : (ns : List ℕ) (r : Receiver) → HasLines ns r → HasLines ns (record r { line = gives_up r.line.link r.line })
lines_given_up ns r h = by r.line.link
  where
    by : (link : Link) → HasLines ns (record r { line = gives_up link r.line })
    by away = record { own = h.own; old = h.old }
    by asked = record { own = λ n e. absurd cc; old = h.own }
    by live = record { own = λ n e. absurd cc; old = h.own }

-- ---- at the same broker

abbrev IsDoing : Receiver → Receiver → Broker → Type 0
IsDoing r q b = (number : Numbering) (largest : ℕ) (copies : List Lot) → IsRun number largest copies r b → IsRun number largest copies q b

done_in_step : (largest : ℕ) (ids : List CopyId) (birth : ℕ) (ns : List ℕ) (r q : Receiver) (b : Broker) → IsDoing r q b → q.client ≡ r.client → HasLines ns q → IsInStep largest ids birth ns r b
    → IsInStep largest ids birth ns q b
done_in_step largest ids birth ns r q b does client has k = record {
  runs = λ number numbered.
      let h = k.runs number numbered in
      let x = h.receiving in
      record {
        after = h.after;
        same = h.same;
        run_is = does number largest h.after h.run_is;
        session = h.session;
        birth_is = h.birth_is;
        receiving = record {
          session = x.session;
          client = x.client ∙ sym client;
          only = subst (λ (c : List ℕ). IsOnly c h.session.birth b.records) (sym client) x.only;
          known = x.known;
        };
      };
  served = subst (λ (c : List ℕ). IsServed c birth ns b) (sym client) k.served;
  lines = has;
}

done_awaiting : (largest : ℕ) (ids : List CopyId) (ns : List ℕ) (r q : Receiver) (b : Broker) → IsDoing r q b → HasLines ns q → IsAwaiting largest ids ns r b → IsAwaiting largest ids ns q b
done_awaiting largest ids ns r q b does has k = record {
  runs = λ number numbered. let h = k.runs number numbered in record { after = h.after; same = h.same; run_is = does number largest h.after h.run_is };
  free = k.free;
  given = k.given;
  lines = has;
}

-- reading leaves it in step
pub reads_in_step : (largest : ℕ) (ids : List CopyId) (birth : ℕ) (ns : List ℕ) (t : Bool) (r : Receiver) (b : Broker) → IsInStep largest ids birth ns r b → is_linked r.line.number b ≡ t
    → IsInStep largest ids birth ns (receiver_reads t r.line.down r) b
reads_in_step largest ids birth ns t r b k e =
    let q = receiver_reads t r.line.down r in
    let x = keeps_reading t r.line.down r in
    done_in_step largest ids birth ns r q b (λ number size copies h. doing_reads number size copies t r b h e) x.client (lines_kept ns r q x k.lines) k

-- so does giving up
pub gives_up_in_step : (largest : ℕ) (ids : List CopyId) (birth : ℕ) (ns : List ℕ) (r : Receiver) (b : Broker) → IsInStep largest ids birth ns r b → MayGiveUp r.line.link r.line.clean
    → IsInStep largest ids birth ns (record r { line = gives_up r.line.link r.line }) b
gives_up_in_step largest ids birth ns r b k may =
    done_in_step largest ids birth ns r (record r { line = gives_up r.line.link r.line }) b (λ number size copies h. doing_gives_up number size copies r b h may) refl (lines_given_up ns r k.lines) k

-- and asking for a subscription
pub asks_in_step : (largest : ℕ) (ids : List CopyId) (birth : ℕ) (ns : List ℕ) (t : Bool) (w : Wish) (r : Receiver) (b : Broker) → IsInStep largest ids birth ns r b → IsInStep largest ids birth ns (asks_wish t w r) b
asks_in_step largest ids birth ns t w r b k =
    done_in_step largest ids birth ns r (asks_wish t w r) b (λ number size copies h. doing_asks number size copies t w r b h) refl (record { own = k.lines.own; old = k.lines.old }) k

-- a new receiver waits for its session
pub comes_awaiting : (largest : ℕ) (client : List ℕ) (window aliases since : ℕ) (b : Broker) → session_named client b.records ≡ None → IsAwaiting largest [] [] (new_receiver client window aliases since) b
comes_awaiting largest client window aliases since b none = record {
  runs = λ number numbered. record { after = []; same = refl; run_is = doing_comes number largest client window aliases since b none };
  free = none_own b.lines;
  given = λ n inside. absurd cc;
  lines = record { own = λ n e. absurd cc; old = λ n e. absurd cc };
}
  where
    none_own : (ls : List BrokerLine) → AllByRecursion (IsFreeLine []) ls
    none_own [] = tt
    none_own (l ∷ ls) = ((λ inside. absurd cc), none_own ls)

-- reading leaves it waiting
pub reads_awaiting : (largest : ℕ) (ids : List CopyId) (ns : List ℕ) (t : Bool) (r : Receiver) (b : Broker) → IsAwaiting largest ids ns r b → is_linked r.line.number b ≡ t
    → IsAwaiting largest ids ns (receiver_reads t r.line.down r) b
reads_awaiting largest ids ns t r b k e =
    let q = receiver_reads t r.line.down r in
    done_awaiting largest ids ns r q b (λ number size copies h. doing_reads number size copies t r b h e) (lines_kept ns r q (keeps_reading t r.line.down r) k.lines) k

-- so does giving up
pub gives_up_awaiting : (largest : ℕ) (ids : List CopyId) (ns : List ℕ) (r : Receiver) (b : Broker) → IsAwaiting largest ids ns r b → MayGiveUp r.line.link r.line.clean
    → IsAwaiting largest ids ns (record r { line = gives_up r.line.link r.line }) b
gives_up_awaiting largest ids ns r b k may =
    done_awaiting largest ids ns r (record r { line = gives_up r.line.link r.line }) b (λ number size copies h. doing_gives_up number size copies r b h may) (lines_given_up ns r k.lines) k

-- and asking for a subscription
pub asks_awaiting : (largest : ℕ) (ids : List CopyId) (ns : List ℕ) (t : Bool) (w : Wish) (r : Receiver) (b : Broker) → IsAwaiting largest ids ns r b → IsAwaiting largest ids ns (asks_wish t w r) b
asks_awaiting largest ids ns t w r b k =
    done_awaiting largest ids ns r (asks_wish t w r) b (λ number size copies h. doing_asks number size copies t w r b h) (record { own = k.lines.own; old = k.lines.old }) k

-- ---- a new line

or_true : (x : Bool) {y : Bool} → y ≡ true → (x || y) ≡ true
or_true true e = refl
or_true false e = e

-- one number more
module _ (ns : List ℕ) (m : ℕ) where
  abbrev wider : List ℕ
  wider = m ∷ ns

  widens : (n : ℕ) → is_one_of (Some n) ns ≡ true → is_one_of (Some n) wider ≡ true
  widens n inside = or_true (nat_eq m n) inside

  narrows : (n : ℕ) → nat_eq m n ≡ false → is_one_of (Some n) wider ≡ true → is_one_of (Some n) ns ≡ true
  narrows n other inside = rw other at inside

  wider_given : (given : ℕ) → given ≤ m → ((n : ℕ) → is_one_of (Some n) ns ≡ true → n ≤ given) → (n : ℕ) → is_one_of (Some n) wider ≡ true → n ≤ m
  wider_given given le h n inside = elim (cases_Bool (nat_eq m n)) [
    | inl same ↦ let is = eqb-true m n same in omega (arith, is)
    | inr other ↦ let low = h n (narrows n other inside) in omega (arith, low, le)
  ]

  -- its number is above all others
  unlike : (l : BrokerLine) → line_number l < m → nat_eq m l.number ≡ false
  unlike l less = elim (cases_Bool (nat_eq m l.number)) [
    | inl same ↦ let is = eqb-true m l.number same in absurd (omega (arith, is, less))
    | inr other ↦ other
  ]

  wider_own : (birth : ℕ) (l : BrokerLine) → line_number l < m → IsOwnLine ns birth l → IsOwnLine wider birth l
  wider_own birth l less h = record { alone = λ e. widens l.number (h.alone e); theirs = λ inside. h.theirs (narrows l.number (unlike l less) inside) }

  own_linked : (birth now : ℕ) (ls : List BrokerLine) → IsBelow line_number m ls → AllByRecursion (IsOwnLine ns birth) ls → AllByRecursion (IsOwnLine wider birth) (ls ++ fresh_line m now ∷ [])
  own_linked birth now [] low h = (record { alone = λ e. absurd cc; theirs = λ inside other e. absurd cc }, tt)
  own_linked birth now (l ∷ ls) low h = (wider_own birth l low.0 h.0, own_linked birth now ls low.1 h.1)

  free_linked : (now : ℕ) (ls : List BrokerLine) → IsBelow line_number m ls → AllByRecursion (IsFreeLine ns) ls → AllByRecursion (IsFreeLine wider) (ls ++ fresh_line m now ∷ [])
  free_linked now [] low h = ((λ inside. refl), tt)
  free_linked now (l ∷ ls) low h = ((λ inside. h.0 (narrows l.number (unlike l low.0) inside)), free_linked now ls low.1 h.1)

  lines_joined : (limits : Capacity) (choice : MemberChoice) (now : ℕ) (clean : Bool) (r : Receiver) (b : Broker) → suc b.given ≡ m → HasLines ns r → HasLines wider (receiver_joined limits choice now clean r b)
  lines_joined limits choice now clean r b is h = record {
    own = λ n e. let same : suc b.given ≡ n = cc in let here : m ≡ n = sym is ∙ same in subst (λ (k : ℕ). is_one_of (Some k) wider ≡ true) here first;
    old = λ n e. widens n (h.old n e);
  }
    where
      first : is_one_of (Some m) wider ≡ true
      first = rw (nat_eq_equiv.refl m) refl

-- connecting leaves it in step
pub joins_in_step : (largest : ℕ) (ids : List CopyId) (birth : ℕ) (ns : List ℕ) (limits : Capacity) (choice : MemberChoice) (now : ℕ) (clean : Bool) (r : Receiver) (b : Broker)
    → IsInStep largest ids birth ns r b → MayComeBack limits clean r b
    → IsInStep largest ids birth (suc b.given ∷ ns) (receiver_joined limits choice now clean r b) (stepped limits choice now NewLine b)
joins_in_step largest ids birth ns limits choice now clean r b k may =
    let m = suc b.given in
    let q = receiver_joined limits choice now clean r b in
    let first = at_moment now b in
    let v = k.served in
    let is = new_is limits choice now b may.can in
    let served : IsServed r.client birth (m ∷ ns) (after (Linked m) first) = record {
      sessions = v.sessions;
      lines = own_linked ns m birth first.now b.lines may.given v.lines;
      births = v.births;
      given = wider_given ns m b.given (omega arith) v.given;
    } in
    record {
      runs = λ number numbered.
          let h = k.runs number numbered in
          let x = h.receiving in
          let there : IsReceiving q h.session (after (Linked m) first) = record {
            session = x.session;
            client = x.client;
            only = x.only;
            known = subst (λ (o : Option BrokerLine). AreKnown h.session.queue (option_map (λ (l : BrokerLine). l.went) o)) (sym (fresh_of_none h.session.birth m first.now b.lines)) x.known;
          } in
          record {
            after = h.after;
            same = h.same;
            run_is = doing_joins number largest h.after limits choice now clean r b h.run_is may;
            session = h.session;
            birth_is = h.birth_is;
            receiving = subst (IsReceiving q h.session) (sym is) there;
          };
      served = subst (IsServed r.client birth (m ∷ ns)) (sym is) served;
      lines = lines_joined ns m limits choice now clean r b refl k.lines;
    }

-- or waiting, if it was
pub joins_awaiting : (largest : ℕ) (ids : List CopyId) (ns : List ℕ) (limits : Capacity) (choice : MemberChoice) (now : ℕ) (clean : Bool) (r : Receiver) (b : Broker)
    → IsAwaiting largest ids ns r b → MayComeBack limits clean r b
    → IsAwaiting largest ids (suc b.given ∷ ns) (receiver_joined limits choice now clean r b) (stepped limits choice now NewLine b)
joins_awaiting largest ids ns limits choice now clean r b k may =
    let m = suc b.given in
    let first = at_moment now b in
    let is = new_is limits choice now b may.can in
    record {
      runs = λ number numbered. let h = k.runs number numbered in record { after = h.after; same = h.same; run_is = doing_joins number largest h.after limits choice now clean r b h.run_is may };
      free = subst (λ (x : Broker). AllByRecursion (IsFreeLine (m ∷ ns)) x.lines) (sym is) (free_linked ns m first.now b.lines may.given k.free);
      given = subst (λ (x : Broker). (n : ℕ) → is_one_of (Some n) (m ∷ ns) ≡ true → n ≤ x.given) (sym is) (wider_given ns m b.given (omega arith) k.given);
      lines = lines_joined ns m limits choice now clean r b refl k.lines;
    }
