-- A piece of a stranger who is there, and of one who comes first; what a restart forgets; and a new line, of which no end hears.
use Rattle.std.proofs.Common.{◌≡◌, ℕ, suc, Bool, true, false, cond, List, [], ◌∷◌, ◌++◌, map, Option, Some, None, bytes_eq, refl, sym, ap, ◌∙◌}
use Rattle.std.specs.Prelude.{Ok, is_some, option_map}
use Rattle.std.proofs.lemmas.List.{append-nil, map-append}
use Rattle.mqtt_packet.specs.declared.codec.packet.Packet.{Packet}
use Rattle.mqtt_packet.specs.stream.Front.{first_of}
use Rattle.mqtt_rules.specs.step.Deeds.{Link}
use Rattle.mqtt_rules.specs.step.State.{Broker, MemberChoice}
use Rattle.mqtt_rules.specs.step.Step.{Call, NewLine, Outcome, at_moment, can_link, done, is_opening_spent, opened, outcome_of, stepped, told}
use Rattle.mqtt_rules.specs.declared.step.Capacity.{Capacity}
use Rattle.mqtt_world_model.specs.model.Ends.{Publisher, Receiver}
use Rattle.mqtt_world_model.specs.model.Lines.{Down, Line, is_one_of, known_by, sent_to, told_by, unless_closed}
use Rattle.mqtt_world_model.specs.model.Run.{Reading, read_asked, read_if, read_rest, the_deeds}
use Rattle.mqtt_world_model.specs.model.Tellings.{Telling, silent, telling}
use Rattle.mqtt_world_model.specs.model.World.{Asking, Setting, Stranger, World, ask, before, break, call_of_stranger, call_on, calls, calls_if, comes}
use Rattle.mqtt_world_model.specs.model.World.{held_after, held_count, is_bad, is_bad_asking, linked_at, next_held, next_line, old_to_broker, publisher_restarted}
use Rattle.mqtt_world_model.specs.model.World.{publisher_told, pump, receiver_restarted, receiver_told, restarts, stop_before, stranger, stranger_named}
use Rattle.mqtt_world_model.specs.model.World.{taken_old, taken_up, tick, to_broker, unlinked, with_line, with_stranger}
use Rattle.mqtt_world_model.specs.single_steps.Unrolled.{AreAlike, bytes_come}
use Rattle.mqtt_world_model.proofs.single_steps_lemmas.Answered.{asks_both, come, come_found, comes_both, comes_is, with_strangers}
use Rattle.mqtt_world_model.proofs.single_steps_lemmas.Strangers.{changed, held_by}
use Rattle.mqtt_world_laws.specs.acceptance.Spending.{spending}
use Rattle.mqtt_world.specs.script_laws.Scripted.{Happens}
use Rattle.mqtt_world.specs.script_laws.Turns.{IsPlain, IsReopened, IsTurn, by_choice, newcomer, welcomed}
use Rattle.mqtt_world.proofs.script_laws_lemmas.Pieces.{piece_does, piece_read}
use Rattle.mqtt_world.proofs.script_laws_lemmas.Single.{stops_before}

-- ---- a stranger who is there

unspent_there : (set : Setting) (o : Option Call) (w : World) (ss : List Stranger) → read_if spending set o (with_strangers w ss) ≡ read_if spending set o w
unspent_there set None w ss = refl
unspent_there set (Some call) w ss = refl

deeds_there : (set : Setting) (o : Option Call) (w : World) (ss : List Stranger) → read_if the_deeds set o (with_strangers w ss) ≡ read_if the_deeds set o w
deeds_there set None w ss = refl
deeds_there set (Some call) w ss = refl

-- a piece that comes for a stranger who stands is a turn
pub piece_there : (limits : Capacity) (choice : MemberChoice) (name piece : List ℕ) (s : Stranger) (t : Telling) (w after : World) → stranger_named name w ≡ Some s
    → AreAlike name w → first_of (held_after (bytes_come name piece w)) ≡ Ok None → is_bad (ask (stranger name piece)) w ≡ false
    → read_if spending (by_choice limits choice) (call_on s.number (s.held ++ piece)) w ≡ false
    → after ≡ calls_if (by_choice limits choice) (call_on s.number (s.held ++ piece)) (next_held name (with_stranger name (λ x. record x { held = x.held ++ piece }) w))
    → t ≡ telling (read_if the_deeds (by_choice limits choice) (call_on s.number (s.held ++ piece)) w) → IsTurn limits (ask (stranger name piece)) t w after
piece_there limits choice name piece s t w after there alike one good unspent is told = record {
  choice = choice;
  good = good;
  unspent =
      piece_read spending set refl or_nothing name piece w alike one
      ∙ (asked spending
      ∙ (unspent_there set call w (map (changed name (λ (held : List ℕ). held ++ piece)) w.strangers) ∙ unspent));
  is =
      is
      ∙ sym (piece_does set name piece w alike one
      ∙ (ap (λ (v : World). calls_if set (call_of_stranger (stranger_named name v)) (next_held name v)) come_is
      ∙ ap (λ (o : Option Call). calls_if set o (next_held name (come name piece w))) call_is));
  told =
      told
      ∙ sym (ap telling (piece_read the_deeds set refl append-nil name piece w alike one
      ∙ (asked the_deeds
      ∙ deeds_there set call w (map (changed name (λ (held : List ℕ). held ++ piece)) w.strangers))));
}
  where
    set : Setting
    set = by_choice limits choice

    call : Option Call
    call = call_on s.number (s.held ++ piece)

    or_nothing : (x : Bool) → spending.join x spending.nothing ≡ x
    or_nothing true = refl
    or_nothing false = refl

    come_is : comes set name piece w ≡ come name piece w
    come_is = comes_is set name piece w (ap is_some there)

    call_is : call_of_stranger (stranger_named name (come name piece w)) ≡ call
    call_is = ap call_of_stranger (come_found name piece w ∙ ap (option_map (held_by (λ (held : List ℕ). held ++ piece))) there)

    asked : {X : Type 0} (r : Reading X) → read_if r set (call_of_stranger (stranger_named name (comes set name piece w))) (comes set name piece w)
        ≡ read_if r set call (come name piece w)
    asked r =
        ap (λ (v : World). read_if r set (call_of_stranger (stranger_named name v)) v) come_is
        ∙ ap (λ (o : Option Call). read_if r set o (come name piece w)) call_is

-- ---- one who comes first: as one would who was linked before, and had sent nothing

-- so is the first piece of one who comes first
pub piece_first : (limits : Capacity) (choice : MemberChoice) (name piece : List ℕ) (t : Telling) (w after : World) → stranger_named name w ≡ None
    → is_bad (ask (stranger name piece)) w ≡ false → IsTurn limits (ask (stranger name piece)) t (welcomed (by_choice limits choice) name w) after
    → IsTurn limits (ask (stranger name piece)) t w after
piece_first limits choice name piece t w after none good does = record {
  choice = does.choice;
  good = good;
  unspent = read spending ∙ does.unspent;
  is = does.is ∙ sym (asks_both set name piece w none);
  told = does.told ∙ sym (ap telling (read the_deeds));
}
  where
    set : Setting
    set = by_choice limits does.choice

    read : {X : Type 0} (r : Reading X) → read_asked r set (stranger name piece) w ≡ read_asked r set (stranger name piece) (welcomed set name w)
    read r = ap (λ (v : World). read_rest r set (held_count (stranger_named name v)) name v) (comes_both set name piece w none)

-- ---- what a restart forgets

map_forgets : {X Y : Type 0} (f : X → X) (g : X → Y) (xs : List X) → ((x : X) → g (f x) ≡ g x) → map g (map f xs) ≡ map g xs
map_forgets f g [] h = refl
map_forgets f g (x ∷ xs) h = ap (λ y. y ∷ map g (map f xs)) (h x) ∙ ap (λ ys. g x ∷ ys) (map_forgets f g xs h)

up_forgotten : (set : Setting) (client : List ℕ) (w : World) → restarts set (with_line client taken_up taken_up w) ≡ restarts set w
up_forgotten set client w =
    let publishers = map_forgets _ publisher_restarted w.publishers (λ (p : Publisher). his (bytes_eq p.client client) p) in
    let receivers = map_forgets _ receiver_restarted w.receivers (λ (r : Receiver). its_own (bytes_eq r.client client) r) in
    ap (λ (ps : List Publisher). record (restarts set (with_line client taken_up taken_up w)) { publishers = ps }) publishers
    ∙ ap (λ (rs : List Receiver). record (restarts set w) { receivers = rs }) receivers
  where
    his : (t : Bool) (p : Publisher) → publisher_restarted (cond t (record p { line = taken_up p.line }) p) ≡ publisher_restarted p
    his true p = refl
    his false p = refl

    its_own : (t : Bool) (r : Receiver) → receiver_restarted (cond t (record r { line = taken_up r.line }) r) ≡ receiver_restarted r
    its_own true r = refl
    its_own false r = refl

old_forgotten : (set : Setting) (client : List ℕ) (w : World) → restarts set (with_line client taken_old taken_old w) ≡ restarts set w
old_forgotten set client w =
    let publishers = map_forgets _ publisher_restarted w.publishers (λ (p : Publisher). his (bytes_eq p.client client) p) in
    let receivers = map_forgets _ receiver_restarted w.receivers (λ (r : Receiver). its_own (bytes_eq r.client client) r) in
    ap (λ (ps : List Publisher). record (restarts set (with_line client taken_old taken_old w)) { publishers = ps }) publishers
    ∙ ap (λ (rs : List Receiver). record (restarts set w) { receivers = rs }) receivers
  where
    his : (t : Bool) (p : Publisher) → publisher_restarted (cond t (record p { line = taken_old p.line }) p) ≡ publisher_restarted p
    his true p = refl
    his false p = refl

    its_own : (t : Bool) (r : Receiver) → receiver_restarted (cond t (record r { line = taken_old r.line }) r) ≡ receiver_restarted r
    its_own true r = refl
    its_own false r = refl

-- what a stop before the commit loses is forgotten
pub before_forgotten : (set : Setting) (a : Asking) (w : World) → IsPlain a → restarts set (before set a w) ≡ restarts set w
before_forgotten set (to_broker client) w p = up_forgotten set client w
before_forgotten set (old_to_broker client) w p = old_forgotten set client w
before_forgotten set (break client) w p = refl
before_forgotten set (pump client) w p = refl
before_forgotten set tick w p = refl
before_forgotten set (stranger name bytes) w p = absurd p

-- what is stored is the same before a packet of an end is read
stored_before : (set : Setting) (a : Asking) (w : World) → IsPlain a → ((before set a w).now ≡ w.now) × ((before set a w).broker ≡ w.broker)
stored_before set (to_broker client) w p = (refl, refl)
stored_before set (old_to_broker client) w p = (refl, refl)
stored_before set (break client) w p = (refl, refl)
stored_before set (pump client) w p = (refl, refl)
stored_before set tick w p = (refl, refl)
stored_before set (stranger name bytes) w p = absurd p

-- a stop before the commit of a plain question is a reopening
pub stops_before_plain : (limits : Capacity) (a : Asking) (w after : World) → IsPlain a → is_bad_asking a w ≡ false → IsReopened limits w after
    → Happens limits (stop_before a) silent w after
stops_before_plain limits a w after p good opens =
    let set = by_choice limits opens.choice in
    let same = stored_before set a w p in
    stops_before limits opens.choice a w after good
    (ap (λ (n : ℕ). is_opening_spent limits opens.choice n (before set a w).broker.records) same.0
    ∙ (ap (λ (b : Broker). is_opening_spent limits opens.choice w.now b.records) same.1 ∙ opens.unspent))
    (opens.is ∙ sym (before_forgotten set a w p))

-- a stranger's bytes, and its line
held_forgotten : (name : List ℕ) (f : List ℕ → List ℕ) (ss : List Stranger) → map unlinked (map (changed name f) ss) ≡ map unlinked ss
held_forgotten name f ss = map_forgets (changed name f) unlinked ss (λ (s : Stranger). by (bytes_eq s.name name) s)
  where
    by : (t : Bool) (s : Stranger) → unlinked (cond t (held_by f s) s) ≡ unlinked s
    by true s = refl
    by false s = refl

-- so is one while a stranger who stands asks
pub stops_before_there : (limits : Capacity) (name bytes : List ℕ) (w after : World) → is_some (stranger_named name w) ≡ true
    → is_bad_asking (stranger name bytes) w ≡ false → IsReopened limits w after → Happens limits (stop_before (stranger name bytes)) silent w after
stops_before_there limits name bytes w after there good opens =
    let set = by_choice limits opens.choice in
    let come_is = comes_is set name bytes w there in
    stops_before limits opens.choice (stranger name bytes) w after good
    (ap (λ (v : World). is_opening_spent limits opens.choice v.now v.broker.records) come_is ∙ opens.unspent)
    (opens.is
    ∙ sym (ap (restarts set) come_is
    ∙ ap (λ (ss : List Stranger). record (restarts set w) { strangers = ss }) (held_forgotten name (λ (held : List ℕ). held ++ bytes) w.strangers)))

-- ---- a new line: no end hears of it, and nothing of it is stored

none_closed : (number : Option ℕ) → is_one_of number [] ≡ false
none_closed None = refl
none_closed (Some n) = refl

none_sent : (number : Option ℕ) (b : Broker) → sent_to number b [] ≡ []
none_sent None b = refl
none_sent (Some n) b = refl

none_known : {U : Type 0} (number : Option ℕ) (l : Line U) → known_by number [] l.known ≡ l.known
none_known None l = refl
none_known (Some n) l = refl

nothing_told_by : {U : Type 0} (b : Broker) (out : Outcome) (l : Line U) → out.outputs ≡ [] → out.wires ≡ [] → out.closed ≡ []
    → told_by b out l ≡ l
nothing_told_by {U} b out l none bare shut =
    let closed : is_one_of l.number out.closed ≡ false = ap (is_one_of l.number) shut ∙ none_closed l.number in
    let old_closed : is_one_of l.old_number out.closed ≡ false = ap (is_one_of l.old_number) shut ∙ none_closed l.old_number in
    let downs : l.down ++ sent_to l.number b out.outputs ≡ l.down =
    ap (λ (ds : List Down). l.down ++ ds) (ap (sent_to l.number b) none ∙ none_sent l.number b) ∙ append-nil l.down in
    let knows : known_by l.number out.wires l.known ≡ l.known =
    ap (λ (ps : List (ℕ × Packet)). known_by l.number ps l.known) bare ∙ none_known l.number l in
    λ i. record l {
      up = unless_closed (closed i) l.up;
      down = downs i;
      old = unless_closed (old_closed i) l.old;
      known = knows i;
    }

map_same : {X : Type 0} (f : X → X) (xs : List X) → ((x : X) → f x ≡ x) → map f xs ≡ xs
map_same f [] h = refl
map_same f (x ∷ xs) h = ap (λ y. y ∷ map f xs) (h x) ∙ ap (λ ys. x ∷ ys) (map_same f xs h)

link_out : (can : Bool) (n : ℕ) (b : Broker) → (outcome_of NewLine (cond can (Link n ∷ []) []) b).outputs ≡ []
link_out true n b = refl
link_out false n b = refl

link_closed : (can : Bool) (n : ℕ) (b : Broker) → (outcome_of NewLine (cond can (Link n ∷ []) []) b).closed ≡ []
link_closed true n b = refl
link_closed false n b = refl

link_wires : (can : Bool) (n : ℕ) (b : Broker) → (outcome_of NewLine (cond can (Link n ∷ []) []) b).wires ≡ []
link_wires true n b = refl
link_wires false n b = refl

-- a new line is a call of the broker's
pub line_begins : (set : Setting) (w : World) → calls set NewLine w ≡ record w { broker = stepped set.limits set.choice w.now NewLine w.broker }
line_begins set w =
    let b = stepped set.limits set.choice w.now NewLine w.broker in
    let out = told set.limits set.choice w.now NewLine w.broker in
    let none = link_out (can_link set.limits w.broker) (suc w.broker.given) w.broker in
    let bare = link_wires (can_link set.limits w.broker) (suc w.broker.given) (at_moment w.now w.broker) in
    let shut = link_closed (can_link set.limits w.broker) (suc w.broker.given) w.broker in
    ap (λ (ps : List Publisher). record (calls set NewLine w) { publishers = ps })
    (map_same (publisher_told b out) w.publishers (λ p. ap (λ (l : Line _). record p { line = l }) (nothing_told_by b out p.line none bare shut)))
    ∙ ap (λ (rs : List Receiver). record w { broker = b; receivers = rs })
    (map_same (receiver_told b out) w.receivers (λ r. ap (λ (l : Line _). record r { line = l }) (nothing_told_by b out r.line none bare shut)))

link_stored : (can : Bool) (n : ℕ) (b : Broker) → (done (cond can (Link n ∷ []) []) b).records ≡ b.records
link_stored true n b = refl
link_stored false n b = refl

-- a restart forgets that a stranger came first, but for its name
pub stops_before_first : (limits : Capacity) (name bytes : List ℕ) (w after : World) → stranger_named name w ≡ None
    → is_bad_asking (stranger name bytes) w ≡ false → IsReopened limits (record w { strangers = w.strangers ++ newcomer name None ∷ [] }) after
    → Happens limits (stop_before (stranger name bytes)) silent w after
stops_before_first limits name bytes w after none good opens =
    let set = by_choice limits opens.choice in
    let n = newcomer name (next_line set.limits w.broker) in
    let c : World = record w { broker = stepped limits opens.choice w.now NewLine w.broker; strangers = w.strangers ++ record n { held = bytes } ∷ [] } in
    let come_is : comes set name bytes w ≡ c =
    ap (λ (o : Option Stranger). linked_at set (is_some o) name bytes w) none
    ∙ ap (λ (v : World). record v { strangers = w.strangers ++ record n { held = bytes } ∷ [] }) (line_begins set w) in
    let stored : c.broker.records ≡ w.broker.records = link_stored (can_link set.limits w.broker) (suc w.broker.given) (at_moment w.now w.broker) in
    let left : map unlinked (w.strangers ++ record n { held = bytes } ∷ []) ≡ map unlinked (w.strangers ++ newcomer name None ∷ []) =
    map-append unlinked w.strangers (record n { held = bytes } ∷ []) ∙ sym (map-append unlinked w.strangers (newcomer name None ∷ [])) in
    stops_before limits opens.choice (stranger name bytes) w after good
    (ap (λ (v : World). is_opening_spent limits opens.choice v.now v.broker.records) come_is
    ∙ (ap (is_opening_spent limits opens.choice w.now) stored ∙ opens.unspent))
    (opens.is
    ∙ sym (ap (restarts set) come_is
    ∙ (ap (λ r. record (restarts set c) { broker = opened limits opens.choice w.now r }) stored
    ∙ ap (λ (ss : List Stranger). record (restarts set w) { strangers = ss }) left)))
