-- Whatever happens in a world, its ends know what they were told, and no other client takes more aliases on their lines.
use Rattle.std.proofs.Common.{◌≡◌, ◌≢◌, ℕ, zero, suc, ◌^◌, not, ◌&&◌, ◌≤◌, ◌<◌, Bool, true, false, cond, ◌||◌, List, [], ◌∷◌, ◌++◌, map, find, nat_eq, bytes_eq, Option, Some, None, refl, ap, sym, subst, ◌∙◌, arith, inl, inr}
use Rattle.std.specs.Prelude.{is_some, min, option_map, Ok, Err}
use Rattle.std.specs.List.{AllByRecursion}
use Rattle.std.proofs.lemmas.Bool.{cases_Bool, eqb-true, false_from_ne_true, ltb-true}
use Rattle.std.proofs.lemmas.Cmp.{nat_eq_equiv}
use Rattle.std.proofs.lemmas.Slice.Eq.{bytes_eq-Decides}
use Rattle.mqtt_packet.specs.declared.codec.packet.Packet.{Packet}
use Rattle.mqtt_packet.specs.declared.codec.packet.Packet.TheVariants as packets
use Rattle.mqtt_flow.specs.inbound.Publisher.{CONNECT, PUBLISH_1, PUBLISH_2, PUBREL}
use Rattle.mqtt_flow.specs.outbound.Receiver.{connect, puback, pubrec, pubcomp}
use Rattle.mqtt_packet.specs.stream.Front.{first_of}
use Rattle.mqtt_records.specs.declared.state.records.Records.{Records}
use Rattle.mqtt_topic.specs.names.Aliases.{AliasTable, no_aliases}
use Rattle.mqtt_topic.specs.declared.sending.told.TheConstants.{ALIAS_LIMIT}
use Rattle.mqtt_rules.specs.declared.step.Capacity.{Capacity}
use Rattle.mqtt_rules.specs.step.Piece.{Front, call_by}
use Rattle.mqtt_rules.specs.step.State.{Broker, MemberChoice}
use Rattle.mqtt_rules.specs.step.Step.{Call, NewLine, Input, Lost, Pump, can_link, told}
use Rattle.mqtt_rules.specs.granting.Granting.{TakesWithin}
use Rattle.mqtt_rules.specs.granting.Naming.{StoresNamed}
use Rattle.mqtt_rules.proofs.granting_lemmas.Steps.{opening_named}
use Rattle.mqtt_rules.specs.telling.Meaning.{Knows}
use Rattle.mqtt_world_laws.specs.acceptance.Fair.{opened_world}
use Rattle.mqtt_world_model.proofs.model_lemmas.others.Lists.{all_find}
use Rattle.mqtt_world_model.specs.model.Lines.{gives_up, joined, left}
use Rattle.mqtt_world_model.specs.model.Ends.{Back, Content, Publisher, Receiver, Sent, answers, asks_for, new_publisher, new_receiver, plain, publisher_reads, published, receiver_reads, shake, wire, wire_back}
use Rattle.mqtt_world_model.specs.model.Run.{Turn, run, setting, turned}
use Rattle.mqtt_world_model.specs.model.World.{Asking, Event, Setting, Stranger, World, answers_rest, are_aliases, ask, asks, asks_wish, before, break, call_of, call_of_stranger, call_on, calls, calls_if, clock, comes, connect_end, first_step, give_up, happens, held_after, held_count, input_on, is_bad, is_bad_name, is_end, is_open_line, is_window, linked_at, links, may_take, next_held, next_line, old_to_broker, publish, publisher, publisher_named, publisher_restarted, pump, receiver, receiver_named, receiver_restarted, restart, restarts, stop_after, stop_before, stranger, stranger_named, subscribe, taken_old, taken_up, tick, to_broker, to_end, unlinked, view_by, view_of, with_publisher, with_receiver, with_stranger}
use Rattle.mqtt_world_laws.proofs.telling_lemmas.Given.{opening_numbered}
use Rattle.mqtt_world_laws.specs.knowing.Knowing.{AreKnowing, End, HasKnowingEnds, IsItsFormer, IsItsLine, IsKnowing, IsOwn, OnEachEnd, TakesAsEnds, TakesFew, WasGiven, of_publisher, of_receiver}
use Rattle.mqtt_world_laws.proofs.knowing_lemmas.Calls.{IsUntold, called, each_both, each_end, each_told, former_grows, opened_untold}
use Rattle.mqtt_world_laws.proofs.knowing_lemmas.Ends.{Stays, given_off, given_up_stays, off, published_stays, publisher_stays, receiver_stays, still}
use Rattle.mqtt_world_laws.proofs.knowing_lemmas.Reading.{knows_nothing}

-- ---- lists

all_behind : {X : Type 0} (P : X → Type 0) (xs : List X) (x : X) → AllByRecursion P xs → P x → AllByRecursion P (xs ++ x ∷ [])
all_behind P [] x h k = (k, tt)
all_behind P (y ∷ xs) x h k = (h.0, all_behind P xs x h.1 k)

-- what is not found is not there
none_such : {X : Type 0} (test : X → Bool) (xs : List X) → is_some (find test xs) ≡ false → AllByRecursion (λ (x : X). test x ≡ false) xs
none_such test [] e = tt
none_such test (x ∷ xs) e = elim (cases_Bool (test x)) [
  | inl here ↦ let clash : true ≡ false = rw here at e in absurd cc
  | inr other ↦ (other, none_such test xs (rw other at e))
]

not_either : (a b : Bool) → (a || b) ≡ false → (a ≡ false) × (b ≡ false)
not_either true b e = absurd cc
not_either false b e = (refl, e)

-- ---- numbers of aliases, of names and of lines

-- with one more line, whose end takes so many
abbrev pub with_line_taking : ℕ → ℕ → (ℕ → ℕ) → ℕ → ℕ
with_line_taking n count most k = cond (nat_eq k n) count (most k)

-- with one more end
abbrev pub with_end_taking : List ℕ → ℕ → (List ℕ → ℕ) → List ℕ → ℕ
with_end_taking client count takes name = cond (bytes_eq name client) count (takes name)

own_taking : (n count : ℕ) (most : ℕ → ℕ) → with_line_taking n count most n ≡ count
own_taking n count most = let same = nat_eq_equiv.refl n in rw same refl

below_taking : (n count k : ℕ) (most : ℕ → ℕ) → k < n → with_line_taking n count most k ≡ most k
below_taking n count k most less = let other = false_from_ne_true (nat_eq k n) (λ is. let same = eqb-true k n is in absurd (omega (arith, less, same))) in rw other refl

module _ (takes : List ℕ → ℕ) (most : ℕ → ℕ) where
  abbrev Knowing : World → Type 0
  Knowing w = AreKnowing takes most w

  abbrev Ends : Broker → List Stranger → End → Type 0
  Ends b ss e = IsKnowing b ss takes most e

  -- ---- ends that change

  left_end : (b : Broker) (ss : List Stranger) (e : End) → Ends b ss e → Ends b ss (off e)
  left_end b ss e h = record { named = h.named; max = h.max; small = h.small; line = tt; former = h.former }

  given_end : (b : Broker) (ss : List Stranger) (e : End) → Ends b ss e → Ends b ss (given_off e)
  given_end b ss e h = record { named = h.named; max = h.max; small = h.small; line = tt; former = by e.number h.line }
    where
      by : (o : Option ℕ) → IsItsLine b ss most o e.known → IsItsFormer b.given most o e.aliases
      by None k = tt
      by (Some n) k = (k.given, sym h.max ∙ k.takes)

  stays : (b : Broker) (ss : List Stranger) (old new : End) → Stays old new → Ends b ss old → Ends b ss new
  stays b ss old new s h = still (Ends b ss) old new s h (left_end b ss old h) (given_end b ss old h)

  module _ (b : Broker) (ss : List Stranger) (client : List ℕ) where
    publishers_change : (f : Publisher → Publisher) → ((p : Publisher) → Stays (of_publisher p) (of_publisher (f p))) → (ps : List Publisher)
        → AllByRecursion (λ (p : Publisher). Ends b ss (of_publisher p)) ps → AllByRecursion (λ (p : Publisher). Ends b ss (of_publisher p)) (map (λ p. cond (bytes_eq p.client client) (f p) p) ps)
    publishers_change f keeps [] h = tt
    publishers_change f keeps (p ∷ ps) h = (by (bytes_eq p.client client), publishers_change f keeps ps h.1)
      where
        by : (t : Bool) → Ends b ss (of_publisher (cond t (f p) p))
        by true = stays b ss (of_publisher p) (of_publisher (f p)) (keeps p) h.0
        by false = h.0

    receivers_change : (f : Receiver → Receiver) → ((r : Receiver) → Stays (of_receiver r) (of_receiver (f r))) → (rs : List Receiver)
        → AllByRecursion (λ (r : Receiver). Ends b ss (of_receiver r)) rs → AllByRecursion (λ (r : Receiver). Ends b ss (of_receiver r)) (map (λ r. cond (bytes_eq r.client client) (f r) r) rs)
    receivers_change f keeps [] h = tt
    receivers_change f keeps (r ∷ rs) h = (by (bytes_eq r.client client), receivers_change f keeps rs h.1)
      where
        by : (t : Bool) → Ends b ss (of_receiver (cond t (f r) r))
        by true = stays b ss (of_receiver r) (of_receiver (f r)) (keeps r) h.0
        by false = h.0

  -- what an end does leaves all as it was, if it stays on its line, leaves it or gives it up
  changed : (client : List ℕ) (f : Publisher → Publisher) (g : Receiver → Receiver) (w : World) → ((p : Publisher) → Stays (of_publisher p) (of_publisher (f p)))
      → ((r : Receiver) → Stays (of_receiver r) (of_receiver (g r))) → Knowing w → Knowing (with_publisher client f (with_receiver client g w))
  changed client f g w p r h = record {
    ends = (publishers_change w.broker w.strangers client f p w.publishers h.ends.0, receivers_change w.broker w.strangers client g r w.receivers h.ends.1);
    strangers = h.strangers;
    lines = h.lines;
    unused = h.unused;
    names = h.names;
  }

  receiver_changed : (client : List ℕ) (g : Receiver → Receiver) (w : World) → ((r : Receiver) → Stays (of_receiver r) (of_receiver (g r))) → Knowing w → Knowing (with_receiver client g w)
  receiver_changed client g w r h = record {
    ends = (h.ends.0, receivers_change w.broker w.strangers client g r w.receivers h.ends.1);
    strangers = h.strangers;
    lines = h.lines;
    unused = h.unused;
    names = h.names;
  }

  publisher_changed : (client : List ℕ) (f : Publisher → Publisher) (w : World) → ((p : Publisher) → Stays (of_publisher p) (of_publisher (f p))) → Knowing w → Knowing (with_publisher client f w)
  publisher_changed client f w p h = record {
    ends = (publishers_change w.broker w.strangers client f p w.publishers h.ends.0, h.ends.1);
    strangers = h.strangers;
    lines = h.lines;
    unused = h.unused;
    names = h.names;
  }

  -- ---- strangers

  -- an end's line has to do with the numbers of strangers alone
  apart_still : (b c : Broker) (ss ts : List Stranger) (e : End) → ((n : ℕ) → IsOwn b ss most n e.known → IsOwn c ts most n e.known) → b.given ≤ c.given → Ends b ss e → Ends c ts e
  apart_still b c ss ts e f up h = record {
    named = h.named;
    max = h.max;
    small = h.small;
    line = by e.number h.line;
    former = former_grows b.given c.given most e.old_number e.aliases up h.former;
  }
    where
      by : (o : Option ℕ) → IsItsLine b ss most o e.known → IsItsLine c ts most o e.known
      by None k = tt
      by (Some n) k = f n k

module _ (P : Option ℕ → Type 0) (name : List ℕ) (held : Stranger → List ℕ) where
  strangers_hold : (ss : List Stranger) → AllByRecursion (λ (s : Stranger). P s.number) ss
      → AllByRecursion (λ (s : Stranger). P s.number) (map (λ s. cond (bytes_eq s.name name) (record s { held = held s }) s) ss)
  strangers_hold [] h = tt
  strangers_hold (s ∷ ss) h = (by (bytes_eq s.name name), strangers_hold ss h.1)
    where
      by : (t : Bool) → P (cond t (record s { held = held s }) s).number
      by true = h.0
      by false = h.0

abbrev pub holds : (Stranger → List ℕ) → Stranger → Stranger
holds held s = record s { held = held s }

-- ---- a new line

-- a new line brings no CONNECT
few_new : (o : Option ℕ) (most : ℕ) → TakesFew NewLine o most
few_new None most = tt
few_new (Some n) most = tt

-- so it brings none of a client that takes more than the end
pub new_line_takes : (w : World) → TakesAsEnds NewLine w
new_line_takes w = (publishers w.publishers, receivers w.receivers)
  where
    publishers : (ps : List Publisher) → AllByRecursion (λ (p : Publisher). TakesFew NewLine p.line.number p.line.known.max) ps
    publishers [] = tt
    publishers (p ∷ ps) = (few_new p.line.number p.line.known.max, publishers ps)

    receivers : (rs : List Receiver) → AllByRecursion (λ (r : Receiver). TakesFew NewLine r.line.number r.line.known.max) rs
    receivers [] = tt
    receivers (r ∷ rs) = (few_new r.line.number r.line.known.max, receivers rs)

-- ends take as many as before on lines that were given
more_lines : (takes : List ℕ → ℕ) (most : ℕ → ℕ) (n count : ℕ) (w : World) → w.broker.given < n → AreKnowing takes most w → AreKnowing takes (with_line_taking n count most) w
more_lines takes most n count w less h = record {
  ends = each_end (IsKnowing w.broker w.strangers takes most) (IsKnowing w.broker w.strangers takes (with_line_taking n count most)) w.publishers w.receivers one h.ends;
  strangers = h.strangers;
  lines = h.lines;
  unused = h.unused;
  names = h.names;
}
  where
    same : (k : ℕ) → k ≤ w.broker.given → with_line_taking n count most k ≡ most k
    same k low = below_taking n count k most (omega (arith, low, less))

    line : (o : Option ℕ) (known : AliasTable) → IsItsLine w.broker w.strangers most o known → IsItsLine w.broker w.strangers (with_line_taking n count most) o known
    line None known k = tt
    line (Some m) known k = record { knows = k.knows; takes = k.takes ∙ sym (same m k.given); given = k.given; apart = k.apart }

    former : (o : Option ℕ) (aliases : ℕ) → IsItsFormer w.broker.given most o aliases → IsItsFormer w.broker.given (with_line_taking n count most) o aliases
    former None aliases k = tt
    former (Some m) aliases k = (k.0, k.1 ∙ sym (same m k.0))

    one : (e : End) → IsKnowing w.broker w.strangers takes most e → IsKnowing w.broker w.strangers takes (with_line_taking n count most) e
    one e k = record { named = k.named; max = k.max; small = k.small; line = line e.number e.known k.line; former = former e.old_number e.aliases k.former }

module _ (takes : List ℕ → ℕ) (most : ℕ → ℕ) (set : Setting) (w : World) (h : AreKnowing takes most w) where
  abbrev Linked : World
  Linked = calls set NewLine w

  linked : AreKnowing takes most Linked
  linked = called takes most set NewLine w h (new_line_takes w)

  -- the number that it gets was not given before
  given_next : can_link set.limits w.broker ≡ true → Linked.broker.given ≡ suc w.broker.given
  given_next can = rw can refl

  -- nothing was told there
  next_untold : IsUntold (suc w.broker.given) Linked.broker
  next_untold = by (can_link set.limits w.broker) refl
    where
      none : IsUntold (suc w.broker.given) w.broker
      none = h.unused (suc w.broker.given) (omega arith)

      by : (t : Bool) → can_link set.limits w.broker ≡ t → IsUntold (suc w.broker.given) Linked.broker
      by true e = rw e none
      by false e = rw e none

  above : (ss : List Stranger) → AllByRecursion (λ (s : Stranger). WasGiven w.broker.given s.number) ss → AllByRecursion (λ (s : Stranger). s.number ≢ Some (suc w.broker.given)) ss
  above [] k = tt
  above (s ∷ ss) k = (by s.number k.0, above ss k.1)
    where
      by : (o : Option ℕ) → WasGiven w.broker.given o → o ≢ Some (suc w.broker.given)
      by None low e = absurd cc
      by (Some n) low e = let same : n ≡ suc w.broker.given = cc in absurd (omega (arith, low, same))

  -- so it may be an end's, which knows nothing yet
  next_own : (max : ℕ) → max ≡ most (suc w.broker.given) → can_link set.limits w.broker ≡ true → IsOwn Linked.broker w.strangers most (suc w.broker.given) (no_aliases max)
  next_own max is can = let up = given_next can in record {
    knows = subst (Knows (no_aliases max)) (sym next_untold) (knows_nothing max);
    takes = is;
    given = omega (arith, up);
    apart = above w.strangers h.strangers;
  }

-- an end joins by a new line, on which it takes as many aliases as its name says
links_knowing : (takes : List ℕ → ℕ) (most : ℕ → ℕ) (set : Setting) (client : List ℕ) (clean : Bool) (w : World) → AreKnowing takes most w
    → HasKnowingEnds (links set (next_line set.limits w.broker) client clean w)
links_knowing takes most set client clean w h = by (can_link set.limits w.broker) refl
  where
    n : ℕ
    n = suc w.broker.given

    by : (t : Bool) → can_link set.limits w.broker ≡ t → HasKnowingEnds (links set (cond t (Some n) None) client clean w)
    by false e = record { takes = takes; most = most; so = h }
    by true e = record {
      takes = takes;
      most = more;
      so = record {
        ends = (publishers (Linked takes more set w ready).publishers l.ends.0, receivers (Linked takes more set w ready).receivers l.ends.1);
        strangers = l.strangers;
        lines = l.lines;
        unused = l.unused;
        names = l.names;
      };
    }
      where
        more : ℕ → ℕ
        more = with_line_taking n (takes client) most

        ready : AreKnowing takes more w
        ready = more_lines takes most n (takes client) w (omega arith) h

        l : AreKnowing takes more (Linked takes more set w ready)
        l = linked takes more set w ready

        P : End → Type 0
        P x = IsKnowing (Linked takes more set w ready).broker w.strangers takes more x

        joins : (x : End) → bytes_eq x.client client ≡ true → P x → P (record { client = x.client; aliases = x.aliases; number = Some n; old_number = x.old_number; known = no_aliases x.known.max })
        joins x is k =
            let name : x.client ≡ client = (bytes_eq-Decides x.client client).0 is in
            record {
              named = k.named;
              max = k.max;
              small = k.small;
              line = next_own takes more set w ready x.known.max (k.max ∙ (k.named ∙ (ap takes name ∙ sym (own_taking n (takes client) most)))) e;
              former = k.former;
            }

        publishers : (ps : List Publisher) → AllByRecursion (λ (p : Publisher). P (of_publisher p)) ps
            → AllByRecursion (λ (p : Publisher). P (of_publisher p)) (map (λ p. cond (bytes_eq p.client client) (record p { line = joined (shake (CONNECT clean)) n clean p.line }) p) ps)
        publishers [] k = tt
        publishers (p ∷ ps) k = (one (bytes_eq p.client client) refl, publishers ps k.1)
          where
            one : (t : Bool) → bytes_eq p.client client ≡ t → P (of_publisher (cond t (record p { line = joined (shake (CONNECT clean)) n clean p.line }) p))
            one true is = joins (of_publisher p) is k.0
            one false is = k.0

        receivers : (rs : List Receiver) → AllByRecursion (λ (r : Receiver). P (of_receiver r)) rs
            → AllByRecursion (λ (r : Receiver). P (of_receiver r)) (map (λ r. cond (bytes_eq r.client client) (record r { line = joined (answers (connect clean)) n clean r.line }) r) rs)
        receivers [] k = tt
        receivers (r ∷ rs) k = (one (bytes_eq r.client client) refl, receivers rs k.1)
          where
            one : (t : Bool) → bytes_eq r.client client ≡ t → P (of_receiver (cond t (record r { line = joined (answers (connect clean)) n clean r.line }) r))
            one true is = joins (of_receiver r) is k.0
            one false is = k.0

-- ---- the same numbers of aliases from here on

module _ (takes : List ℕ → ℕ) (most : ℕ → ℕ) where
  abbrev Know : World → Type 0
  Know w = AreKnowing takes most w

  abbrev At : Broker → List Stranger → End → Type 0
  At b ss e = IsKnowing b ss takes most e

  -- a stranger holds other bytes
  held_by : (name : List ℕ) (held : Stranger → List ℕ) (w : World) → Know w → Know (with_stranger name (holds held) w)
  held_by name held w h = record {
    ends = each_end (At w.broker w.strangers) (At w.broker (with_stranger name (holds held) w).strangers) w.publishers w.receivers by h.ends;
    strangers = strangers_hold (WasGiven w.broker.given) name held w.strangers h.strangers;
    lines = h.lines;
    unused = h.unused;
    names = h.names;
  }
    where
      by : (e : End) → At w.broker w.strangers e → At w.broker (with_stranger name (holds held) w).strangers e
      by e k =
          apart_still takes most w.broker w.broker w.strangers (with_stranger name (holds held) w).strangers e
          (λ n own. record { knows = own.knows; takes = own.takes; given = own.given; apart = strangers_hold (λ x. x ≢ Some n) name held w.strangers own.apart }) (omega arith) k

  -- bytes come from a stranger for the first time
  linked_first : (set : Setting) (name bytes : List ℕ) (w : World) → Know w → Know (linked_at set false name bytes w)
  linked_first set name bytes w h = at (can_link set.limits w.broker) refl
    where
      new : World
      new = calls set NewLine w

      l : Know (calls set NewLine w)
      l = linked takes most set w h

      at : (t : Bool) → can_link set.limits w.broker ≡ t → Know (record (calls set NewLine w) { strangers = w.strangers ++ record { name = name; number = cond t (Some (suc w.broker.given)) None; held = bytes } ∷ [] })
      at t e =
          let s : Stranger = record { name = name; number = cond t (Some (suc w.broker.given)) None; held = bytes } in
          record {
            ends = each_end (λ x. At (calls set NewLine w).broker w.strangers x × WasGivenTo x) (At (calls set NewLine w).broker (w.strangers ++ s ∷ [])) (calls set NewLine w).publishers (calls set NewLine w).receivers apart both;
            strangers = all_behind (λ (x : Stranger). WasGiven (calls set NewLine w).broker.given x.number) w.strangers s l.strangers (given t e);
            lines = l.lines;
            unused = l.unused;
            names = l.names;
          }
        where
          WasGivenTo : End → Type 0
          WasGivenTo x = WasGiven w.broker.given x.number

          low : (b : Broker) (o : Option ℕ) (known : AliasTable) → IsItsLine b w.strangers most o known → WasGiven b.given o
          low b None known k = tt
          low b (Some n) known k = k.given

          both : OnEachEnd (λ x. At (calls set NewLine w).broker w.strangers x × WasGivenTo x) (calls set NewLine w).publishers (calls set NewLine w).receivers
          both =
              each_both (At (calls set NewLine w).broker w.strangers) WasGivenTo (calls set NewLine w).publishers (calls set NewLine w).receivers l.ends
              (each_told (At w.broker w.strangers) WasGivenTo (calls set NewLine w).broker (told set.limits set.choice w.now NewLine w.broker) w.publishers w.receivers (λ x k. low w.broker x.number x.known k.line) h.ends)

          given : (u : Bool) → can_link set.limits w.broker ≡ u → WasGiven (calls set NewLine w).broker.given (cond u (Some (suc w.broker.given)) None)
          given true can = let up = given_next takes most set w h can in omega (arith, up)
          given false can = tt

          other : (n : ℕ) (u : Bool) → n ≤ w.broker.given → cond u (Some (suc w.broker.given)) None ≢ Some n
          other n true less is = let same : suc w.broker.given ≡ n = cc in absurd (omega (arith, less, same))
          other n false less is = absurd cc

          apart : (x : End) → At (calls set NewLine w).broker w.strangers x × WasGivenTo x
              → At (calls set NewLine w).broker (w.strangers ++ record { name = name; number = cond t (Some (suc w.broker.given)) None; held = bytes } ∷ []) x
          apart x k = record { named = k.0.named; max = k.0.max; small = k.0.small; line = by x.number k.0.line k.1; former = k.0.former }
            where
              by : (o : Option ℕ) → IsItsLine (calls set NewLine w).broker w.strangers most o x.known → WasGiven w.broker.given o
                  → IsItsLine (calls set NewLine w).broker (w.strangers ++ record { name = name; number = cond t (Some (suc w.broker.given)) None; held = bytes } ∷ []) most o x.known
              by None own less = tt
              by (Some n) own less = record {
                knows = own.knows;
                takes = own.takes;
                given = own.given;
                apart = all_behind (λ (y : Stranger). y.number ≢ Some n) w.strangers _ own.apart (other n t less);
              }

  -- or again
  comes_by : (set : Setting) (name bytes : List ℕ) (w : World) → Know w → Know (comes set name bytes w)
  comes_by set name bytes w h = by (is_some (stranger_named name w))
    where
      by : (t : Bool) → Know (linked_at set t name bytes w)
      by true = held_by name (λ s. s.held ++ bytes) w h
      by false = linked_first set name bytes w h

  -- ---- what is asked of the broker

  -- it brings no CONNECT of a client that takes more than the end whose line it is
  abbrev TakesAsLines : Call → Type 0
  TakesAsLines call = (n : ℕ) → TakesWithin n (most n) call

  as_lines : (call : Call) (w : World) → Know w → TakesAsLines call → TakesAsEnds call w
  as_lines call w h fits = each_end (At w.broker w.strangers) (λ e. TakesFew call e.number e.known.max) w.publishers w.receivers (λ e k. one e.number e.known k.line) h.ends
    where
      one : (o : Option ℕ) (known : AliasTable) → IsItsLine w.broker w.strangers most o known → TakesFew call o known.max
      one None known k = tt
      one (Some n) known k = subst (λ (m : ℕ). TakesWithin n m call) (sym k.takes) (fits n)

  -- a packet of an end that takes so many
  abbrev IsOfEnd : ℕ → Packet → Type 0
  IsOfEnd aliases packet = (k n m : ℕ) → (nat_eq k n ≡ true → aliases ≤ m) → TakesWithin n m (Input k packet)

  wire_takes : (client : List ℕ) (contents : List Content) (x : Sent) → IsOfEnd 0 (wire client contents x)
  wire_takes client contents (shake (CONNECT clean)) k n m fits = λ here. omega arith
  wire_takes client contents (shake (PUBLISH_1 id i dup)) k n m fits = tt
  wire_takes client contents (shake (PUBLISH_2 id i dup)) k n m fits = tt
  wire_takes client contents (shake (PUBREL id)) k n m fits = tt
  wire_takes client contents (plain c) k n m fits = tt

  at_most : (low middle high : ℕ) → low ≤ middle → middle ≤ high → low ≤ high
  at_most low middle high a b = omega (arith, a, b)

  back_takes : (client : List ℕ) (window aliases : ℕ) (x : Back) → IsOfEnd aliases (wire_back client window aliases x)
  back_takes client window zero (answers (connect clean)) k n m fits = λ here. omega arith
  back_takes client window (suc more) (answers (connect clean)) k n m fits = λ here. at_most (min (suc more) ALIAS_LIMIT) (suc more) m (omega arith) (fits here)
  back_takes client window aliases (answers (puback i code)) k n m fits = tt
  back_takes client window aliases (answers (pubrec i code)) k n m fits = tt
  back_takes client window aliases (answers (pubcomp i code)) k n m fits = tt
  back_takes client window aliases (asks_for x) k n m fits = tt

  all_of : {U : Type 0} (aliases : ℕ) (f : U → Packet) (xs : List U) → ((x : U) → IsOfEnd aliases (f x)) → AllByRecursion (IsOfEnd aliases) (map f xs)
  all_of aliases f [] h = tt
  all_of aliases f (x ∷ xs) h = (h x, all_of aliases f xs h)

  -- the end takes as many as is said of that line
  abbrev TakesOn : ℕ → Option ℕ → Type 0
  TakesOn aliases o = (k : ℕ) → o ≡ Some k → aliases ≡ most k

  front_takes : (aliases : ℕ) (number : Option ℕ) (packets : List Packet) (call : Call) → TakesOn aliases number → AllByRecursion (IsOfEnd aliases) packets
      → input_on number packets ≡ Some call → TakesAsLines call
  front_takes aliases None packets call on h e = absurd cc
  front_takes aliases (Some k) [] call on h e = absurd cc
  front_takes aliases (Some k) (packet ∷ rest) call on h e =
      let same : Input k packet ≡ call = cc in
      let takes_it : aliases ≡ most k = on k refl in
      subst TakesAsLines same (λ n. h.0 k n (most n) (λ here. let is = ap most (eqb-true k n here) in omega (arith, takes_it, is)))

  number_takes : (b : Broker) (ss : List Stranger) (e : End) → At b ss e → TakesOn e.aliases e.number
  number_takes b ss e h = by e.number h.line
    where
      by : (o : Option ℕ) → IsItsLine b ss most o e.known → TakesOn e.aliases o
      by None own k is = absurd cc
      by (Some n) own k is = let same : n ≡ k = cc in sym h.max ∙ (own.takes ∙ ap most same)

  old_takes : (b : Broker) (ss : List Stranger) (e : End) → At b ss e → TakesOn e.aliases e.old_number
  old_takes b ss e h = by e.old_number h.former
    where
      by : (o : Option ℕ) → IsItsFormer b.given most o e.aliases → TakesOn e.aliases o
      by None own k is = absurd cc
      by (Some n) own k is = let same : n ≡ k = cc in own.1 ∙ ap most same

  its_publisher : (client : List ℕ) (w : World) (p : Publisher) → Know w → publisher_named client w ≡ Some p → At w.broker w.strangers (of_publisher p)
  its_publisher client w p h found = (all_find (λ (x : Publisher). At w.broker w.strangers (of_publisher x)) (λ (x : Publisher). bytes_eq x.client client) p w.publishers h.ends.0 found).0

  its_receiver : (client : List ℕ) (w : World) (r : Receiver) → Know w → receiver_named client w ≡ Some r → At w.broker w.strangers (of_receiver r)
  its_receiver client w r h found = (all_find (λ (x : Receiver). At w.broker w.strangers (of_receiver x)) (λ (x : Receiver). bytes_eq x.client client) r w.receivers h.ends.1 found).0

  -- the first packet of an end's line, or of the one that it gave up
  up_takes : (client : List ℕ) (w : World) (call : Call) → Know w → (o : Option Publisher) (x : Option Receiver) → publisher_named client w ≡ o → receiver_named client w ≡ x
      → input_on (view_by o x).number (view_by o x).up ≡ Some call → TakesAsLines call
  up_takes client w call h (Some p) x is its e =
      front_takes 0 p.line.number (map (wire p.client p.contents) p.line.up) call (number_takes w.broker w.strangers (of_publisher p) (its_publisher client w p h is))
      (all_of 0 (wire p.client p.contents) p.line.up (wire_takes p.client p.contents)) e
  up_takes client w call h None (Some r) is its e =
      front_takes r.aliases r.line.number (map (wire_back r.client r.window r.aliases) r.line.up) call (number_takes w.broker w.strangers (of_receiver r) (its_receiver client w r h its))
      (all_of r.aliases (wire_back r.client r.window r.aliases) r.line.up (back_takes r.client r.window r.aliases)) e
  up_takes client w call h None None is its e = absurd cc

  late_takes : (client : List ℕ) (w : World) (call : Call) → Know w → (o : Option Publisher) (x : Option Receiver) → publisher_named client w ≡ o → receiver_named client w ≡ x
      → input_on (view_by o x).old_number (view_by o x).old ≡ Some call → TakesAsLines call
  late_takes client w call h (Some p) x is its e =
      front_takes 0 p.line.old_number (map (wire p.client p.contents) p.line.old) call (old_takes w.broker w.strangers (of_publisher p) (its_publisher client w p h is))
      (all_of 0 (wire p.client p.contents) p.line.old (wire_takes p.client p.contents)) e
  late_takes client w call h None (Some r) is its e =
      front_takes r.aliases r.line.old_number (map (wire_back r.client r.window r.aliases) r.line.old) call (old_takes w.broker w.strangers (of_receiver r) (its_receiver client w r h its))
      (all_of r.aliases (wire_back r.client r.window r.aliases) r.line.old (back_takes r.client r.window r.aliases)) e
  late_takes client w call h None None is its e = absurd cc

  line_takes : (f : ℕ → Call) (o : Option ℕ) (call : Call) → ((k : ℕ) → TakesAsLines (f k)) → option_map f o ≡ Some call → TakesAsLines call
  line_takes f None call h e = absurd cc
  line_takes f (Some k) call h e = let same : f k ≡ call = cc in subst TakesAsLines same (h k)

  -- a stranger's packet, which comes on its own line
  elsewhere : (k n m : ℕ) (packet : Packet) → (k ≡ n → ⊥) → TakesWithin n m (Input k packet)
  elsewhere k n m (packets.Connect c) other = λ here. absurd (other (eqb-true k n here))
  elsewhere k n m packet other = tt

  some_is : {x y : Call} → Some x ≡ Some y → x ≡ y
  some_is e = cc

  by_takes : (k n m : ℕ) (bytes : List ℕ) (front : Front) (call : Call) → (k ≡ n → ⊥) → call_by k bytes front ≡ Some call → TakesWithin n m call
  by_takes k n m bytes (Ok None) call other e = absurd cc
  by_takes k n m bytes (Ok (Some x)) call other e = subst (TakesWithin n m) (some_is e) (elsewhere k n m x.0 other)
  by_takes k n m bytes (Err fault) call other e = subst (TakesWithin n m) (some_is e) tt

  module _ (call : Call) (w : World) (h : Know w) where
    own_takes : (s : Stranger) (n m : ℕ) → AllByRecursion (λ (x : Stranger). x.number ≢ Some n) w.strangers → (name bytes : List ℕ) → stranger_named name w ≡ Some s
        → call_on s.number bytes ≡ Some call → TakesWithin n m call
    own_takes s n m apart name bytes found e = by s.number refl e
      where
        other : s.number ≢ Some n
        other = (all_find (λ (x : Stranger). x.number ≢ Some n) (λ (x : Stranger). bytes_eq x.name name) s w.strangers apart found).0

        by : (o : Option ℕ) → s.number ≡ o → call_on o bytes ≡ Some call → TakesWithin n m call
        by None is e = absurd cc
        by (Some k) is e = by_takes k n m bytes (first_of bytes) call (λ same. other (is ∙ ap Some same)) e

    -- what a stranger sends comes on the line of no end
    named_by : (name bytes : List ℕ) (s : Stranger) → stranger_named name w ≡ Some s → call_on s.number bytes ≡ Some call → TakesAsEnds call w
    named_by name bytes s found e = each_end (At w.broker w.strangers) (λ x. TakesFew call x.number x.known.max) w.publishers w.receivers (λ x k. one x.number x.known k.line) h.ends
      where
        one : (o : Option ℕ) (known : AliasTable) → IsItsLine w.broker w.strangers most o known → TakesFew call o known.max
        one None known k = tt
        one (Some n) known k = own_takes s n known.max k.apart name bytes found e

    stranger_takes : (name : List ℕ) → call_of_stranger (stranger_named name w) ≡ Some call → TakesAsEnds call w
    stranger_takes name e = by (stranger_named name w) refl e
      where
        by : (o : Option Stranger) → stranger_named name w ≡ o → call_of_stranger o ≡ Some call → TakesAsEnds call w
        by None found e = absurd cc
        by (Some s) found e = named_by name s.held s found e

  -- so it is where a packet was taken off its line before a call, or bytes have come
  before_by : (set : Setting) (a : Asking) (w : World) → Know w → Know (before set a w)
  before_by set (to_broker client) w h = changed takes most client (λ p. record p { line = taken_up p.line }) (λ r. record r { line = taken_up r.line }) w (λ p. inl refl) (λ r. inl refl) h
  before_by set (old_to_broker client) w h = changed takes most client (λ p. record p { line = taken_old p.line }) (λ r. record r { line = taken_old r.line }) w (λ p. inl refl) (λ r. inl refl) h
  before_by set (break client) w h = h
  before_by set (pump client) w h = h
  before_by set tick w h = h
  before_by set (stranger name bytes) w h = comes_by set name bytes w h

  -- what is asked brings no CONNECT on the line of an end that takes more aliases
  asked_by : (set : Setting) (a : Asking) (call : Call) (w : World) → Know w → call_of set a w ≡ Some call → TakesAsEnds call (before set a w)
  asked_by set (to_broker client) call w h e =
      as_lines call (before set (to_broker client) w) (before_by set (to_broker client) w h) (up_takes client w call h (publisher_named client w) (receiver_named client w) refl refl e)
  asked_by set (old_to_broker client) call w h e =
      as_lines call (before set (old_to_broker client) w) (before_by set (old_to_broker client) w h) (late_takes client w call h (publisher_named client w) (receiver_named client w) refl refl e)
  asked_by set (break client) call w h e = as_lines call w h (line_takes Lost (view_of client w).number call (λ k n. tt) e)
  asked_by set (pump client) call w h e = as_lines call w h (line_takes Pump (view_of client w).number call (λ k n. tt) e)
  asked_by set tick call w h e = as_lines call w h (subst TakesAsLines (some_is e) (λ n. tt))
  asked_by set (stranger name bytes) call w h e = stranger_takes call (comes set name bytes w) (comes_by set name bytes w h) name e

  if_called : (set : Setting) (o : Option Call) (w : World) → Know w → ((call : Call) → o ≡ Some call → TakesAsEnds call w) → Know (calls_if set o w)
  if_called set None w h few = h
  if_called set (Some call) w h few = called takes most set call w h (few call refl)

  first_by : (set : Setting) (a : Asking) (w : World) → Know w → Know (first_step set a w)
  first_by set a w h = if_called set (call_of set a w) (before set a w) (before_by set a w h) (λ call e. asked_by set a call w h e)

  rest_by : (set : Setting) (more : ℕ) (name : List ℕ) (w : World) → Know w → Know (answers_rest set more name w)
  rest_by set zero name w h = h
  rest_by set (suc more) name w h =
      let o = call_of_stranger (stranger_named name w) in
      rest_by set more name (calls_if set o (next_held name w))
      (if_called set o (next_held name w) (held_by name (λ s. held_after s.held) w h) (λ call e. stranger_takes call w h name e))

  asks_by : (set : Setting) (a : Asking) (w : World) → Know w → Know (asks set a w)
  asks_by set (to_broker client) w h = first_by set (to_broker client) w h
  asks_by set (old_to_broker client) w h = first_by set (old_to_broker client) w h
  asks_by set (break client) w h =
      changed takes most client (λ p. record p { line = left p.line }) (λ r. record r { line = left r.line }) (first_step set (break client) w) (λ p. inr (inl refl)) (λ r. inr (inl refl))
      (first_by set (break client) w h)
  asks_by set (pump client) w h = first_by set (pump client) w h
  asks_by set tick w h = first_by set tick w h
  asks_by set (stranger name bytes) w h =
      let c = comes set name bytes w in
      rest_by set (held_count (stranger_named name c)) name c (comes_by set name bytes w h)

  -- ---- a restart

  -- no line is left
  restarts_by : (set : Setting) (w : World) → Know w → Know (restarts set w)
  restarts_by set w h = record {
    ends = (publishers w.publishers h.ends.0, receivers w.receivers h.ends.1);
    strangers = strangers w.strangers;
    lines = opening_numbered set.limits set.choice w.now w.broker.records;
    unused = λ n less. opened_untold set.limits set.choice w.now w.broker.records n;
    names = opening_named set.limits set.choice w.now w.broker.records h.names.stored;
  }
    where
      b : Broker
      b = (restarts set w).broker

      ss : List Stranger
      ss = (restarts set w).strangers

      publishers : (ps : List Publisher) → AllByRecursion (λ (p : Publisher). At w.broker w.strangers (of_publisher p)) ps → AllByRecursion (λ (p : Publisher). At b ss (of_publisher p)) (map publisher_restarted ps)
      publishers [] k = tt
      publishers (p ∷ ps) k = (record { named = k.0.named; max = k.0.max; small = k.0.small; line = tt; former = tt }, publishers ps k.1)

      receivers : (rs : List Receiver) → AllByRecursion (λ (r : Receiver). At w.broker w.strangers (of_receiver r)) rs → AllByRecursion (λ (r : Receiver). At b ss (of_receiver r)) (map receiver_restarted rs)
      receivers [] k = tt
      receivers (r ∷ rs) k = (record { named = k.0.named; max = k.0.max; small = k.0.small; line = tt; former = tt }, receivers rs k.1)

      strangers : (xs : List Stranger) → AllByRecursion (λ (s : Stranger). WasGiven b.given s.number) (map unlinked xs)
      strangers [] = tt
      strangers (s ∷ xs) = (tt, strangers xs)

-- ---- a new end

-- no end has its name
abbrev Others : List ℕ → End → Type 0
Others client e = bytes_eq e.client client ≡ false

others_all : (client : List ℕ) (w : World) → is_end client w ≡ false → OnEachEnd (Others client) w.publishers w.receivers
others_all client w none =
    let two = not_either (is_some (publisher_named client w)) (is_some (receiver_named client w)) none in
    (none_such (λ (p : Publisher). bytes_eq p.client client) w.publishers two.0, none_such (λ (r : Receiver). bytes_eq r.client client) w.receivers two.1)

more_ends : (takes : List ℕ → ℕ) (most : ℕ → ℕ) (client : List ℕ) (count : ℕ) (w : World) → is_end client w ≡ false → AreKnowing takes most w → AreKnowing (with_end_taking client count takes) most w
more_ends takes most client count w none h = record {
  ends = each_end (λ e. IsKnowing w.broker w.strangers takes most e × Others client e) (IsKnowing w.broker w.strangers (with_end_taking client count takes) most) w.publishers w.receivers one
      (each_both (IsKnowing w.broker w.strangers takes most) (Others client) w.publishers w.receivers h.ends (others_all client w none));
  strangers = h.strangers;
  lines = h.lines;
  unused = h.unused;
  names = h.names;
}
  where
    one : (e : End) → IsKnowing w.broker w.strangers takes most e × Others client e → IsKnowing w.broker w.strangers (with_end_taking client count takes) most e
    one e k = let other = k.1 in record { named = k.0.named ∙ rw other refl; max = k.0.max; small = k.0.small; line = k.0.line; former = k.0.former }

-- it takes as many as its name says
own_named : (takes : List ℕ → ℕ) (client : List ℕ) (count : ℕ) → count ≡ with_end_taking client count takes client
own_named takes client count = let same = (bytes_eq-Decides client client).1 refl in rw same refl

not_an_end : (a b : Bool) → (a || b) ≡ false → b ≡ false
not_an_end a b e = (not_either a b e).1

not_not : (a : Bool) → not a ≡ false → a ≡ true
not_not true e = refl
not_not false e = absurd cc

both_true : (a b : Bool) → (a && b) ≡ true → b ≡ true
both_true true b e = e
both_true false b e = absurd cc

-- ---- whatever happens

-- whatever it is, ends know what they are told
pub happens_knowing : (set : Setting) (e : Event) (w : World) → is_bad e w ≡ false → HasKnowingEnds w → HasKnowingEnds (happens set e w)
happens_knowing set (publisher client) w good h =
    let m = more_ends h.takes h.most client 0 w (not_an_end (is_bad_name client) (is_end client w) good) h.so in
    record {
      takes = with_end_taking client 0 h.takes;
      most = h.most;
      so = record {
        ends = (
          all_behind (λ (p : Publisher). IsKnowing w.broker w.strangers (with_end_taking client 0 h.takes) h.most (of_publisher p)) w.publishers (new_publisher client) m.ends.0
              (record { named = own_named h.takes client 0; max = refl; small = omega arith; line = tt; former = tt }),
          m.ends.1,
        );
        strangers = m.strangers;
        lines = m.lines;
        unused = m.unused;
        names = m.names;
      };
    }
happens_knowing set (receiver client window aliases) w good h =
    let parts = not_either (is_end client w) (not (may_take window aliases)) (not_either (is_bad_name client) (is_end client w || not (may_take window aliases)) good).1 in
    let fit = parts.1 in
    let m = more_ends h.takes h.most client aliases w parts.0 h.so in
    record {
      takes = with_end_taking client aliases h.takes;
      most = h.most;
      so = record {
        ends = (
          m.ends.0,
          all_behind (λ (r : Receiver). IsKnowing w.broker w.strangers (with_end_taking client aliases h.takes) h.most (of_receiver r)) w.receivers (new_receiver client window aliases w.broker.records.births) m.ends.1
              (record { named = own_named h.takes client aliases; max = refl; small = ltb-true aliases (2 ^ 16) (both_true (is_window window) (are_aliases aliases) (not_not (may_take window aliases) fit)); line = tt; former = tt }),
        );
        strangers = m.strangers;
        lines = m.lines;
        unused = m.unused;
        names = m.names;
      };
    }
happens_knowing set (connect_end client clean) w good h = links_knowing h.takes h.most set client clean w h.so
happens_knowing set (give_up client) w good h = record {
  takes = h.takes;
  most = h.most;
  so = changed h.takes h.most client (λ p. record p { line = gives_up p.line.link p.line }) (λ r. record r { line = gives_up r.line.link r.line }) w
      (λ p. given_up_stays p.client 0 p.line.link p.line) (λ r. given_up_stays r.client r.aliases r.line.link r.line) h.so;
}
happens_knowing set (publish client d) w good h = record {
  takes = h.takes;
  most = h.most;
  so = publisher_changed h.takes h.most client (λ p. published (is_open_line p.line w) d p) w (λ p. inl (published_stays (is_open_line p.line w) d p)) h.so;
}
happens_knowing set (subscribe client x) w good h = record {
  takes = h.takes;
  most = h.most;
  so = receiver_changed h.takes h.most client (λ r. asks_wish (is_open_line r.line w) x r) w (λ r. inl refl) h.so;
}
happens_knowing set (to_end client) w good h = record {
  takes = h.takes;
  most = h.most;
  so = changed h.takes h.most client (λ p. publisher_reads (is_open_line p.line w) p.line.down p) (λ r. receiver_reads (is_open_line r.line w) r.line.down r) w
      (λ p. publisher_stays (is_open_line p.line w) p.line.down p) (λ r. receiver_stays (is_open_line r.line w) r.line.down r) h.so;
}
happens_knowing set (clock wait) w good h = record {
  takes = h.takes;
  most = h.most;
  so = record { ends = h.so.ends; strangers = h.so.strangers; lines = h.so.lines; unused = h.so.unused; names = h.so.names };
}
happens_knowing set (ask a) w good h = record { takes = h.takes; most = h.most; so = asks_by h.takes h.most set a w h.so }
happens_knowing set restart w good h = record { takes = h.takes; most = h.most; so = restarts_by h.takes h.most set w h.so }
happens_knowing set (stop_before a) w good h =
    record { takes = h.takes; most = h.most; so = restarts_by h.takes h.most set (before set a w) (before_by h.takes h.most set a w h.so) }
happens_knowing set (stop_after a) w good h =
    record { takes = h.takes; most = h.most; so = restarts_by h.takes h.most set (first_step set a w) (first_by h.takes h.most set a w h.so) }

turned_knowing : (limits : Capacity) (t : Turn) (w : World) → HasKnowingEnds w → HasKnowingEnds (turned limits t w)
turned_knowing limits t w h = by (is_bad t.event w) refl
  where
    by : (bad : Bool) → is_bad t.event w ≡ bad → HasKnowingEnds (cond bad w (happens (setting limits t) t.event w))
    by true e = h
    by false e = happens_knowing (setting limits t) t.event w e h

-- in a run
pub run_knowing : (limits : Capacity) (ts : List Turn) (w : World) → HasKnowingEnds w → HasKnowingEnds (run limits ts w)
run_knowing limits [] w h = h
run_knowing limits (t ∷ ts) w h = run_knowing limits ts (turned limits t w) (turned_knowing limits t w h)

-- from an opening
pub opened_world_knowing : (limits : Capacity) (choice : MemberChoice) (now : ℕ) (r : Records) → StoresNamed r → HasKnowingEnds (opened_world limits choice now r)
opened_world_knowing limits choice now r stored = record {
  takes = λ client. 0;
  most = λ n. 0;
  so = record {
    ends = (tt, tt);
    strangers = tt;
    lines = opening_numbered limits choice now r;
    unused = λ n less. opened_untold limits choice now r n;
    names = opening_named limits choice now r stored;
  };
}

-- ---- step by step, for some numbers of aliases

-- where a packet was taken off its line before a call, or bytes have come
pub before_knowing : (set : Setting) (a : Asking) (w : World) → HasKnowingEnds w → HasKnowingEnds (before set a w)
before_knowing set a w h = record { takes = h.takes; most = h.most; so = before_by h.takes h.most set a w h.so }

-- what is asked brings no CONNECT on the line of an end that takes more aliases
pub asked_takes : (set : Setting) (a : Asking) (call : Call) (w : World) → HasKnowingEnds w → call_of set a w ≡ Some call → TakesAsEnds call (before set a w)
asked_takes set a call w h e = asked_by h.takes h.most set a call w h.so e

-- what a stranger sends comes on the line of no end
pub named_takes : (call : Call) (w : World) → HasKnowingEnds w → (name bytes : List ℕ) (s : Stranger) → stranger_named name w ≡ Some s → call_on s.number bytes ≡ Some call → TakesAsEnds call w
named_takes call w h name bytes s found e = named_by h.takes h.most call w h.so name bytes s found e

-- a stranger holds other bytes
pub held_knowing : (name : List ℕ) (held : Stranger → List ℕ) (w : World) → HasKnowingEnds w → HasKnowingEnds (with_stranger name (holds held) w)
held_knowing name held w h = record { takes = h.takes; most = h.most; so = held_by h.takes h.most name held w h.so }

-- a stranger comes on a new line
pub stranger_linked : (set : Setting) (name bytes : List ℕ) (w : World) → HasKnowingEnds w → HasKnowingEnds (linked_at set false name bytes w)
stranger_linked set name bytes w h = record { takes = h.takes; most = h.most; so = linked_first h.takes h.most set name bytes w h.so }

-- no line is left by a restart
pub restarts_knowing : (set : Setting) (w : World) → HasKnowingEnds w → HasKnowingEnds (restarts set w)
restarts_knowing set w h = record { takes = h.takes; most = h.most; so = restarts_by h.takes h.most set w h.so }
