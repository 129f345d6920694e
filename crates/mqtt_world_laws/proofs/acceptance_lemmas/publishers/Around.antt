-- One publisher in the world: where it is, and who else is there. No other end and no stranger has a line of its (MQTT
-- 5.0, 4.2).
use Rattle.std.proofs.Common.{◌≡◌, ℕ, ◌≤◌, true, false, ◌⊎◌, List, [], ◌++◌, map, Option, Some, None, bytes_eq, nat_eq, refl, sym, ap, subst, ◌∙◌, arith, inl, inr}
use Rattle.std.specs.Prelude.{⊤, find, option_map, is_some}
use Rattle.std.specs.List.{AllByRecursion}
use Rattle.mqtt_flow.specs.inbound.InboundWorld.{Event as HopEvent, run}
use Rattle.mqtt_rules.specs.declared.step.Capacity.{Capacity}
use Rattle.mqtt_rules.specs.step.State.{Broker}
use Rattle.mqtt_rules.specs.step.Laws.{IsAmong, AreWithin}
use Rattle.mqtt_rules.specs.step.Step.{Call, NewLine, Input, BadInput, Lost, Pump, Tick, stepped, told}
use Rattle.mqtt_world_model.specs.model.Lines.{Line}
use Rattle.mqtt_world_model.specs.model.Ends.{Publisher, Receiver}
use Rattle.mqtt_world_model.specs.model.World.{Stranger, World, Setting, publisher_named, receiver_named, publisher_told, receiver_told, calls, calls_if}
use Rattle.mqtt_world_model.specs.model.Hops.{IsOthers, IsFarCall, IsRun}
use Rattle.mqtt_world_model.specs.model.Seen.{seen}
use Rattle.mqtt_world_model.specs.model.Seats.{Comes, Does, HasPlace, IsApart, IsElsewhere, IsNamed, IsOff, IsSettled, Seat}
use Rattle.mqtt_world_model.proofs.model_lemmas.seats.Places.{step_place}
use Rattle.mqtt_world_model.proofs.model_lemmas.seats.Seats.{run_append}
use Rattle.mqtt_world_model.proofs.model_lemmas.own.OwnCalls.{differs}
use Rattle.mqtt_world_model.proofs.model_lemmas.own.Calls.{others_come}
use Rattle.mqtt_world_model.specs.model.Run.{read_if}
use Rattle.mqtt_world_laws.specs.acceptance.Fair.{IsSteady}
use Rattle.mqtt_world_laws.specs.acceptance.LineNumbers.{HasApart, IsApartFrom}
use Rattle.mqtt_world_laws.specs.acceptance.Spending.{spending}
use Rattle.mqtt_world_laws.proofs.acceptance_lemmas.copies.Steady.{steady_step, given_grows}
use Rattle.mqtt_world_laws.proofs.acceptance_lemmas.publishers.Ends.{all_mapped, all_turned, find_publisher, find_receiver, is_some_mapped, named_publisher, given_later, line_later}

-- ---- whose a line's number is

-- the publisher never had that line
abbrev pub IsOutOf : List ℕ → ℕ → Type 0
IsOutOf his j = IsAmong j his → ⊥

-- it was given, and to another than the publisher
abbrev pub IsFree : List ℕ → ℕ → Option ℕ → Type 0
IsFree his given x = IsApartFrom (IsOutOf his) given x

-- so are those of another end's line
abbrev pub HasFree : {U : Type 0} → List ℕ → ℕ → Line U → Type 0
HasFree his given l = HasApart (IsOutOf his) given l

abbrev pub OtherPublisher : List ℕ → List ℕ → ℕ → Publisher → Type 0
OtherPublisher c his given q = (q.client ≡ c) ⊎ HasFree his given q.line

abbrev pub OtherReceiver : List ℕ → ℕ → Receiver → Type 0
OtherReceiver his given r = HasFree his given r.line

abbrev pub OtherStranger : List ℕ → ℕ → Stranger → Type 0
OtherStranger his given s = IsFree his given s.number

-- his : the numbers of the lines that the publisher had, and 0, which no line has
pub record Around (c : List ℕ) (limits : Capacity) (his : List ℕ) (w : World) : Type 0 where
  pub within : AreWithin limits
  pub steady : IsSteady w.broker
  pub known : (j : ℕ) → IsAmong j his → j ≤ w.broker.given
  pub none : IsAmong 0 his
  pub publishers : AllByRecursion (OtherPublisher c his w.broker.given) w.publishers
  pub receivers : AllByRecursion (OtherReceiver his w.broker.given) w.receivers
  pub strangers : AllByRecursion (OtherStranger his w.broker.given) w.strangers
  pub alone : is_some (publisher_named c w) ≡ true → receiver_named c w ≡ None
  pub place : is_some (publisher_named c w) ≡ true → HasPlace limits c w.broker.records

-- ---- where the publisher is

-- where the publisher is, that its lines are its own, and that what it has seen is a run of its hop
pub record Placed (his : List ℕ) (p : Publisher) (b : Broker) (accepted : List ℕ) : Type 0 where
  pub birth : Option ℕ
  pub line : ℕ
  pub seat : Seat birth line p b
  pub its_line : IsAmong line his
  pub number : (j : ℕ) → p.line.number ≡ Some j → IsAmong j his
  pub old_number : (j : ℕ) → p.line.old_number ≡ Some j → IsAmong j his
  pub apart : IsApart p.line.number p.line.old_number
  pub settled : IsSettled p
  pub named : IsNamed p.client
  pub run : IsRun accepted p b

abbrev pub Him : List ℕ → Broker → List ℕ → Option Publisher → Type 0
Him his b accepted None = accepted ≡ []
Him his b accepted (Some p) = Placed his p b accepted

-- all that holds of the world, with the publisher
pub record Holds (c : List ℕ) (limits : Capacity) (his accepted : List ℕ) (w : World) : Type 0 where
  pub around : Around c limits his w
  pub him : Him his w.broker accepted (publisher_named c w)

-- what a run of the world keeps, with the numbers of the publisher's lines
pub record Stays (c : List ℕ) (limits : Capacity) (accepted : List ℕ) (w : World) : Type 0 where
  pub his : List ℕ
  pub holds : Holds c limits his accepted w

-- ---- all ends changed

-- ends that change leave the world around the publisher as it was
pub around_mapped : (c : List ℕ) (limits : Capacity) (his new_his : List ℕ) (w : World) (b : Broker) (now : ℕ) (f : Publisher → Publisher) (g : Receiver → Receiver) (ss : List Stranger)
    → Around c limits his w → IsSteady b → (HasPlace limits c w.broker.records → HasPlace limits c b.records)
    → ((j : ℕ) → IsAmong j new_his → j ≤ b.given) → IsAmong 0 new_his
    → ((p : Publisher) → (f p).client ≡ p.client) → ((r : Receiver) → (g r).client ≡ r.client)
    → ((p : Publisher) → HasFree his w.broker.given p.line → HasFree new_his b.given (f p).line)
    → ((r : Receiver) → HasFree his w.broker.given r.line → HasFree new_his b.given (g r).line)
    → AllByRecursion (OtherStranger new_his b.given) ss
    → Around c limits new_his (record { broker = b; now = now; publishers = map f w.publishers; receivers = map g w.receivers; strangers = ss })
around_mapped c limits his new_his w b now f g ss a steady keeps known none f_same g_same f_free g_free strangers = record {
  within = a.within;
  steady = steady;
  known = known;
  none = none;
  publishers = all_mapped (OtherPublisher c his w.broker.given) (OtherPublisher c new_his b.given) f w.publishers each a.publishers;
  receivers = all_mapped (OtherReceiver his w.broker.given) (OtherReceiver new_his b.given) g w.receivers g_free a.receivers;
  strangers = strangers;
  alone = λ h. find_receiver c g g_same w.receivers ∙ ap (option_map g) (a.alone (before h));
  place = λ h. keeps (a.place (before h));
}
  where
    -- it was there before
    before : is_some (find (λ (p : Publisher). bytes_eq p.client c) (map f w.publishers)) ≡ true → is_some (publisher_named c w) ≡ true
    before h = sym (is_some_mapped f (publisher_named c w)) ∙ (sym (ap is_some (find_publisher c f f_same w.publishers)) ∙ h)

    each : (q : Publisher) → OtherPublisher c his w.broker.given q → OtherPublisher c new_his b.given (f q)
    each q (inl is) = inl (f_same q ∙ is)
    each q (inr free) = inr (f_free q free)

-- ---- a call

-- a call leaves the world around the publisher as it was
pub calls_around : (c : List ℕ) (set : Setting) (his : List ℕ) (call : Call) (w : World) → Around c set.limits his w → read_if spending set (Some call) w ≡ false
    → Around c set.limits his (calls set call w)
calls_around c set his call w a unspent =
    let b = stepped set.limits set.choice w.now call w.broker in
    let out = told set.limits set.choice w.now call w.broker in
    let up = given_grows set.limits set.choice w.now call w.broker in
    around_mapped c set.limits his his w b w.now (publisher_told b out) (receiver_told b out) w.strangers a
    (steady_step set.limits set.choice w.now call w.broker a.within a.steady unspent) (step_place set.limits set.choice w.now call c w.broker)
    (λ j among. let le = a.known j among in omega (arith, le, up)) a.none (λ p. refl) (λ r. refl)
    (λ p free. line_later (IsOutOf his) w.broker.given b.given p.line (publisher_told b out p).line up refl refl free)
    (λ r free. line_later (IsOutOf his) w.broker.given b.given r.line (receiver_told b out r).line up refl refl free)
    (all_turned (OtherStranger his w.broker.given) (OtherStranger his b.given) w.strangers (λ s free. given_later (IsOutOf his) w.broker.given b.given s.number up free) a.strangers)

-- a call that is on none of an end's lines, and no CONNECT of its client
abbrev pub IsCallApart : (ℕ → Type 0) → List ℕ → Call → Type 0
IsCallApart Out c NewLine = ⊤
IsCallApart Out c (Input m packet) = Out m × IsOthers c packet
IsCallApart Out c (BadInput m is_connect code) = Out m
IsCallApart Out c (Lost m) = Out m
IsCallApart Out c (Pump m) = ⊤
IsCallApart Out c Tick = ⊤

-- on none of his
abbrev pub IsOutside : List ℕ → List ℕ → Call → Type 0
IsOutside his c call = IsCallApart (IsOutOf his) c call

-- a line of its is another than those that are out of its numbers
module _ (Out : ℕ → Type 0) (c : List ℕ) (k : ℕ) (differ : (m : ℕ) → Out m → nat_eq m k ≡ false) where
  -- so the call is far from that line
  pub apart_far : (call : Call) → IsCallApart Out c call → IsFarCall c k call
  apart_far NewLine q = tt
  apart_far (Input m packet) q = (differ m q.0, q.1)
  apart_far (BadInput m is_connect code) q = differ m q
  apart_far (Lost m) q = differ m q
  apart_far (Pump m) q = tt
  apart_far Tick q = tt

  apart_line : (call : Call) → IsCallApart Out c call → IsElsewhere k call
  apart_line NewLine q = tt
  apart_line (Input m packet) q = differ m q.0
  apart_line (BadInput m is_connect code) q = differ m q
  apart_line (Lost m) q = differ m q
  apart_line (Pump m) q = tt
  apart_line Tick q = tt

-- and it is off a line of its, if there is one
pub apart_off : (Out : ℕ → Type 0) (c : List ℕ) (x : Option ℕ) (call : Call) → ((m n : ℕ) → x ≡ Some n → Out m → nat_eq m n ≡ false) → IsCallApart Out c call → IsOff x call
apart_off Out c None call differ q = tt
apart_off Out c (Some n) call differ q = apart_line Out c n (λ m out. differ m n refl out) call q

apart_from : (his : List ℕ) (m k : ℕ) → IsOutOf his m → IsAmong k his → nat_eq m k ≡ false
apart_from his m k h among = differs m k (λ same. h (subst (λ (z : ℕ). IsAmong z his) (sym same) among))

-- ---- he goes on

-- a run goes on behind a call that the hop sees as steps
pub longer : (accepted more : List ℕ) (p q : Publisher) (b c : Broker) (es : List HopEvent) → IsRun accepted p b → seen more q c ≡ run es (seen accepted p b) → IsRun more q c
longer accepted more p q b c es r e = record { events = r.events ++ es; seen_is = e ∙ (ap (run es) r.seen_is ∙ sym (run_append r.events es _)) }

-- a line of the publisher's own is one of its numbers
pub among_line : (his : List ℕ) (p : Publisher) (k n : ℕ) → IsAmong k his → ((j : ℕ) → p.line.number ≡ Some j → IsAmong j his) → ((j : ℕ) → p.line.old_number ≡ Some j → IsAmong j his)
    → (n ≡ k) ⊎ ((p.line.number ≡ Some n) ⊎ (p.line.old_number ≡ Some n)) → IsAmong n his
among_line his p k n its own old (inl e) = subst (λ (z : ℕ). IsAmong z his) (sym e) its
among_line his p k n its own old (inr (inl e)) = own n e
among_line his p k n its own old (inr (inr e)) = old n e

-- no line has no number
none_some : (x : Option ℕ) (j : ℕ) → x ≡ None → x ≡ Some j → ⊥
none_some x j none e = let clash : None ≡ Some j = sym none ∙ e in absurd cc

-- by a call
pub placed_next : (his : List ℕ) (p q : Publisher) (b c : Broker) (accepted more : List ℕ) (placed : Placed his p b accepted) → Comes placed.line p q b c accepted more
    → q.client ≡ p.client → IsSettled q → (q.line.number ≡ p.line.number) ⊎ (q.line.number ≡ None) → q.line.old_number ≡ p.line.old_number → Placed his q c more
placed_next his p q b c accepted more placed x client settled number old = record {
  birth = x.birth;
  line = x.line;
  seat = x.seat;
  its_line = among_line his p placed.line x.line placed.its_line placed.number placed.old_number x.its_line;
  number = λ j is. elim number [
    | inl same ↦ placed.number j (sym same ∙ is)
    | inr none ↦ absurd (none_some q.line.number j none is)
  ];
  old_number = λ j is. placed.old_number j (sym old ∙ is);
  apart = λ j e f. elim number [
    | inl same ↦ placed.apart j (sym same ∙ e) (sym old ∙ f)
    | inr none ↦ none_some q.line.number j none e
  ];
  settled = settled;
  named = subst IsNamed (sym client) placed.named;
  run = longer accepted more p q b c x.events placed.run x.seen_is;
}

-- by its own doings
pub placed_does : (his : List ℕ) (p q : Publisher) (b : Broker) (accepted : List ℕ) (placed : Placed his p b accepted) → Does placed.birth placed.line p q b accepted → Placed his q b accepted
placed_does his p q b accepted placed x = record {
  birth = placed.birth;
  line = placed.line;
  seat = x.seat;
  its_line = placed.its_line;
  number = λ j is. elim x.number [
    | inl same ↦ placed.number j (sym same ∙ is)
    | inr none ↦ absurd (none_some q.line.number j none is)
  ];
  old_number = λ j is. elim x.old_number [
    | inl same ↦ placed.old_number j (sym same ∙ is)
    | inr gave ↦ placed.number j (sym gave.1 ∙ is)
  ];
  apart = λ j e f. elim x.number [
    | inr none ↦ none_some q.line.number j none e
    | inl same ↦ elim x.old_number [
      | inl old ↦ placed.apart j (sym same ∙ e) (sym old ∙ f)
      | inr gave ↦ none_some q.line.number j gave.0 e
    ]
  ];
  settled = x.settled;
  named = subst IsNamed (sym x.client) placed.named;
  run = longer accepted accepted p q b b x.events placed.run x.seen_is;
}

-- ---- a call of others

called : (c : List ℕ) (set : Setting) (now : ℕ) (his : List ℕ) (call : Call) (b : Broker) (accepted : List ℕ) (o : Option Publisher) → ((p : Publisher) → o ≡ Some p → (p.client ≡ c) × IsOutside his c call) → Him his b accepted o
    → Him his (stepped set.limits set.choice now call b) accepted (option_map (publisher_told (stepped set.limits set.choice now call b) (told set.limits set.choice now call b)) o)
called c set now his call b accepted None h him = him
called c set now his call b accepted (Some p) h him =
    let both = h p refl in
    let new = stepped set.limits set.choice now call b in
    let out = subst (λ (z : List ℕ). IsOutside his z call) (sym both.0) both.1 in
    let x = others_come set.limits set.choice now call him.birth him.line p b accepted him.seat him.named (apart_far (IsOutOf his) p.client him.line (λ m h. apart_from his m him.line h him.its_line) call out)
    (apart_off (IsOutOf his) p.client p.line.number call (λ m j e h. apart_from his m j h (him.number j e)) out)
    (apart_off (IsOutOf his) p.client p.line.old_number call (λ m j e h. apart_from his m j h (him.old_number j e)) out) in
    placed_next his p (publisher_told new (told set.limits set.choice now call b) p) b new accepted accepted him x refl him.settled (inl refl) refl

-- its outputs are on the lines
pub named_called : (c : List ℕ) (set : Setting) (call : Call) (w : World)
    → publisher_named c (calls set call w) ≡ option_map (publisher_told (stepped set.limits set.choice w.now call w.broker) (told set.limits set.choice w.now call w.broker)) (publisher_named c w)
named_called c set call w = find_publisher c (publisher_told (stepped set.limits set.choice w.now call w.broker) (told set.limits set.choice w.now call w.broker)) (λ p. refl) w.publishers

-- a call of another's leaves the publisher in step
pub calls_hold : (c : List ℕ) (set : Setting) (his accepted : List ℕ) (call : Call) (w : World) → Holds c set.limits his accepted w → read_if spending set (Some call) w ≡ false
    → (is_some (publisher_named c w) ≡ true → IsOutside his c call) → Holds c set.limits his accepted (calls set call w)
calls_hold c set his accepted call w h unspent out = record {
  around = calls_around c set his call w h.around unspent;
  him = subst (Him his (stepped set.limits set.choice w.now call w.broker) accepted) (sym (named_called c set call w))
      (called c set w.now his call w.broker accepted (publisher_named c w) (λ p e. (named_publisher c p w e, out (ap is_some e))) h.him);
}

-- ---- a call that may be asked for

-- so it is of a call that may be made
pub if_around : (c : List ℕ) (set : Setting) (his : List ℕ) (call : Option Call) (w : World) → Around c set.limits his w → read_if spending set call w ≡ false
    → Around c set.limits his (calls_if set call w)
if_around c set his None w a unspent = a
if_around c set his (Some call) w a unspent = calls_around c set his call w a unspent

-- and of the publisher
pub if_holds : (c : List ℕ) (set : Setting) (his accepted : List ℕ) (call : Option Call) (w : World) → Holds c set.limits his accepted w → read_if spending set call w ≡ false
    → (is_some (publisher_named c w) ≡ true → (x : Call) → call ≡ Some x → IsOutside his c x) → Holds c set.limits his accepted (calls_if set call w)
if_holds c set his accepted None w h unspent out = h
if_holds c set his accepted (Some call) w h unspent out = calls_hold c set his accepted call w h unspent (λ there. out there call refl)

-- and whoever is there after it was there before
pub if_there : (c : List ℕ) (set : Setting) (call : Option Call) (w : World) → is_some (publisher_named c (calls_if set call w)) ≡ is_some (publisher_named c w)
if_there c set None w = refl
if_there c set (Some call) w = ap is_some (named_called c set call w) ∙ is_some_mapped _ (publisher_named c w)
