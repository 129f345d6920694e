-- The first packet of a line is read: one of the publisher's own, or another end's.
use Rattle.std.proofs.Common.{◌≡◌, ℕ, Bool, false, cond, List, [], ◌∷◌, ◌++◌, drop, map, Option, Some, None, bytes_eq, refl, sym, ap, subst, ◌∙◌, append-nil, inl, inr}
use Rattle.std.specs.Prelude.{option_map, is_some}
use Rattle.std.proofs.lemmas.Bool.{cases_Bool}
use Rattle.std.proofs.lemmas.Slice.Eq.{bytes_eq-Decides}
use Rattle.mqtt_rules.specs.declared.step.Capacity.{Capacity}
use Rattle.mqtt_rules.specs.step.State.{Broker}
use Rattle.mqtt_rules.specs.step.Deeds.{Deed}
use Rattle.mqtt_rules.specs.step.Step.{Input, stepped, told, deeds}
use Rattle.mqtt_world_model.specs.model.Lines.{Line}
use Rattle.mqtt_world_model.specs.model.Ends.{Sent, Publisher, Back, wire, message_in}
use Rattle.mqtt_world_model.specs.model.World.{World, Setting, publisher_named, receiver_named, with_line, with_receiver, publisher_told, calls_if, to_broker, old_to_broker, input_on, view_by, view_of, taken_up, taken_old, call_of, first_step}
use Rattle.mqtt_world_model.specs.model.Run.{front_message, front_of_line, front_of_old, asked_from, each_of, read_if, read_first, the_deeds}
use Rattle.mqtt_world_model.specs.model.Seats.{Comes, Former, HasPlace, Present, absent, closed, joined, late, lingers, over, waiting}
use Rattle.mqtt_world_model.proofs.model_lemmas.own.Calls.{reads_own, reads_old}
use Rattle.mqtt_world_laws.specs.acceptance.Spending.{spending}
use Rattle.mqtt_world_laws.proofs.acceptance_lemmas.copies.Steady.{order_of, sound_of, steady_step}
use Rattle.mqtt_world_laws.proofs.acceptance_lemmas.publishers.Ends.{changed_not, changed_his, IsNotHim, named_publisher, whose_name}
use Rattle.mqtt_world_laws.specs.acceptance.LineNumbers.{HasApart}
use Rattle.mqtt_world_laws.proofs.acceptance_lemmas.publishers.Kept.{kept_apart}
use Rattle.mqtt_world_laws.proofs.acceptance_lemmas.publishers.Around.{IsOutOf, Around, Placed, Him, Holds, placed_next, named_called, if_around, if_holds}
use Rattle.mqtt_world_laws.proofs.acceptance_lemmas.publishers.Others.{foreign, input_outside}
use Rattle.mqtt_world_laws.proofs.acceptance_lemmas.publishers.Changes.{on_line, on_back, line_others, own_around}

-- ---- the two lines of an end, from which a packet is read

-- a packet is taken off a line, whose number stays
pub record Takes {U : Type 0} (f : Line U → Line U) : Type 0 where
  pub number : (l : Line U) → (f l).number ≡ l.number
  pub old_number : (l : Line U) → (f l).old_number ≡ l.old_number
  pub link : (l : Line U) → (f l).link ≡ l.link

-- a packet that the broker reads is taken from its line
pub takes_up : {U : Type 0} → Takes (taken_up {U = U})
takes_up = record { number = λ l. refl; old_number = λ l. refl; link = λ l. refl }

-- or from the old one
pub takes_old : {U : Type 0} → Takes (taken_old {U = U})
takes_old = record { number = λ l. refl; old_number = λ l. refl; link = λ l. refl }

-- a line from which it is taken stays apart
pub takes_apart : {U : Type 0} (Out : ℕ → Type 0) (given : ℕ) (f : Line U → Line U) → Takes f → (l : Line U) → HasApart Out given l → HasApart Out given (f l)
takes_apart Out given f t l h = kept_apart Out given l (f l) (record { number = inl (t.number l); old_number = t.old_number l }) h

-- ---- the publisher's own

-- what is asked of one of the publisher's lines: its number, what is under way there, and what reading it makes of the publisher
pub record Side (set : Setting) (his accepted : List ℕ) (p : Publisher) (b : Broker) (now line : ℕ) (f : Line Sent → Line Sent) (number : Option ℕ) (packets : List Sent) : Type 0 where
  pub nothing : number ≡ None → packets ≡ []
  pub empty : packets ≡ [] → f p.line ≡ p.line
  pub comes : (n : ℕ) (packet : Sent) (rest : List Sent) → number ≡ Some n → packets ≡ packet ∷ rest
      → read_if spending set (Some (Input n (wire p.client p.contents packet))) (record { broker = b; now = now; publishers = []; receivers = []; strangers = [] }) ≡ false
      → Comes line p
      (publisher_told (stepped set.limits set.choice now (Input n (wire p.client p.contents packet)) b) (told set.limits set.choice now (Input n (wire p.client p.contents packet)) b) (record p { line = f p.line })) b
      (stepped set.limits set.choice now (Input n (wire p.client p.contents packet)) b) accepted
      (accepted ++ each_of (message_in packet) (deeds set.limits set.choice now (Input n (wire p.client p.contents packet)) b))

each_none : (o : Option ℕ) → each_of o [] ≡ []
each_none None = refl
each_none (Some n) = refl

module _ (c : List ℕ) (set : Setting) (his accepted : List ℕ) (w : World) (f : Line Sent → Line Sent) (g : Line Back → Line Back) (takes : Takes f) where
  abbrev Taken : World
  Taken = with_line c f g w

  -- what the read packet makes of the publisher
  abbrev pub OwnRead : Publisher → Option ℕ → List Sent → Type 0
  OwnRead p number packets =
      let call = input_on number (map (wire p.client p.contents) packets) in
      Him his (calls_if set call Taken).broker (accepted ++ each_of (front_message packets) (read_if the_deeds set call Taken)) (publisher_named c (calls_if set call Taken))

  -- a packet that is read of a line of its own leaves the publisher placed
  pub own_read : (p : Publisher) (number : Option ℕ) (packets : List Sent) → publisher_named c w ≡ Some p → (placed : Placed his p w.broker accepted)
      → Side set his accepted p w.broker w.now placed.line f number packets
      → read_if spending set (input_on number (map (wire p.client p.contents) packets)) Taken ≡ false → OwnRead p number packets
  own_read p number packets e placed side unspent = by number packets refl refl unspent
    where
      found : publisher_named c Taken ≡ Some (record p { line = f p.line })
      found = changed_his c (on_line f) (with_receiver c (on_back g) w) p (λ x. refl) e

      untouched : packets ≡ [] → (o : Option ℕ) → Him his w.broker (accepted ++ each_of o []) (publisher_named c Taken)
      untouched none o =
          subst (Him his w.broker (accepted ++ each_of o [])) (sym found)
          (subst (λ (l : Line Sent). Placed his (record p { line = l }) w.broker (accepted ++ each_of o [])) (sym (side.empty none))
          (subst (λ (ns : List ℕ). Placed his p w.broker ns) (sym (ap (λ (ns : List ℕ). accepted ++ ns) (each_none o) ∙ append-nil accepted)) placed))

      by : (x : Option ℕ) (xs : List Sent) → number ≡ x → packets ≡ xs → read_if spending set (input_on x (map (wire p.client p.contents) xs)) Taken ≡ false → OwnRead p x xs
      by None xs is xs_is u = untouched (side.nothing is) (front_message xs)
      by (Some n) [] is xs_is u = untouched xs_is None
      by (Some n) (packet ∷ rest) is xs_is u =
          let call = Input n (wire p.client p.contents packet) in
          let new = stepped set.limits set.choice w.now call w.broker in
          let out = told set.limits set.choice w.now call w.broker in
          let q = record p { line = f p.line } in
          let more = accepted ++ each_of (message_in packet) (deeds set.limits set.choice w.now call w.broker) in
          let next = placed_next his p (publisher_told new out q) w.broker new accepted more placed (side.comes n packet rest is xs_is u) refl
          (λ live_. placed.settled (sym (takes.link p.line) ∙ live_)) (inl (takes.number p.line)) (takes.old_number p.line) in
          subst (Him his new more) (sym (named_called c set call Taken ∙ ap (option_map (publisher_told new out)) found)) next

-- ---- the publisher's two lines

none_up : (o : Option ℕ) (k : ℕ) (l : Line Sent) (b : Broker) → Present o k l b → l.number ≡ None → l.up ≡ []
none_up o k l b (absent none up) e = up
none_up o k l b (waiting n clean is link_is clean_is up down idle there) e = let clash : Some n ≡ None = sym is ∙ e in absurd cc
none_up o k l b (closed n is up idle none) e = up
none_up o k l b (joined birth own is there) e = let clash : Some k ≡ None = sym is ∙ e in absurd cc

none_old : (o : Option ℕ) (k : ℕ) (l : Line Sent) (b : Broker) → Former o k l b → l.old_number ≡ None → l.old ≡ []
none_old o k l b (over none) e = none
none_old o k l b (late m is old idle there) e = let clash : Some m ≡ None = sym is ∙ e in absurd cc
none_old o k l b (lingers birth own is calm there) e = let clash : Some k ≡ None = sym is ∙ e in absurd cc

empty_up : (l : Line Sent) → l.up ≡ [] → taken_up l ≡ l
empty_up l e = ap (λ (xs : List Sent). record l { up = xs }) (ap (drop 1) e ∙ sym e)

empty_old : (l : Line Sent) → l.old ≡ [] → taken_old l ≡ l
empty_old l e = ap (λ (xs : List Sent). record l { old = xs }) (ap (drop 1) e ∙ sym e)

his_place : (c : List ℕ) (limits : Capacity) (his : List ℕ) (w : World) (p : Publisher) → Around c limits his w → publisher_named c w ≡ Some p → HasPlace limits p.client w.broker.records
his_place c limits his w p a e = subst (λ (x : List ℕ). HasPlace limits x w.broker.records) (sym (named_publisher c p w e)) (a.place (ap is_some e))

-- a packet on the publisher's line is on its side
pub side_up : (c : List ℕ) (set : Setting) (his accepted : List ℕ) (w : World) (p : Publisher) → Around c set.limits his w → publisher_named c w ≡ Some p → (placed : Placed his p w.broker accepted)
    → Side set his accepted p w.broker w.now placed.line taken_up p.line.number p.line.up
side_up c set his accepted w p a e placed = record {
  nothing = none_up placed.birth placed.line p.line w.broker placed.seat.present;
  empty = empty_up p.line;
  comes = λ n packet rest is up u.
      let call = Input n (wire p.client p.contents packet) in
      let steady = steady_step set.limits set.choice w.now call w.broker a.within a.steady u in
      reads_own set.limits set.choice w.now n placed.birth placed.line packet rest p w.broker accepted placed.seat placed.named (sound_of set.limits p.client w.broker a.within a.steady (his_place c set.limits his w p a e))
      (order_of (stepped set.limits set.choice w.now call w.broker) steady) placed.apart placed.run is up;
}

-- so is one on the old line
pub side_old : (c : List ℕ) (set : Setting) (his accepted : List ℕ) (w : World) (p : Publisher) → Around c set.limits his w → publisher_named c w ≡ Some p → (placed : Placed his p w.broker accepted)
    → Side set his accepted p w.broker w.now placed.line taken_old p.line.old_number p.line.old
side_old c set his accepted w p a e placed = record {
  nothing = none_old placed.birth placed.line p.line w.broker placed.seat.former;
  empty = empty_old p.line;
  comes = λ n packet rest is old u.
      let call = Input n (wire p.client p.contents packet) in
      let steady = steady_step set.limits set.choice w.now call w.broker a.within a.steady u in
      reads_old set.limits set.choice w.now n placed.birth placed.line packet rest p w.broker accepted placed.seat placed.named (sound_of set.limits p.client w.broker a.within a.steady (his_place c set.limits his w p a e))
      (order_of (stepped set.limits set.choice w.now call w.broker) steady) placed.apart is old;
}

-- ---- whoever's it is

asked_none : {X : Type 0} (c d : List ℕ) (w : World) (f : Option Publisher → Option X) → f None ≡ None → IsNotHim c d w → cond (bytes_eq d c) (f (publisher_named c w)) None ≡ None
asked_none c d w f none not_him = elim (cases_Bool (bytes_eq d c)) [
  | inr other ↦ ap (λ (t : Bool). cond t (f (publisher_named c w)) None) other
  | inl its ↦ ap (λ (t : Bool). cond t (f (publisher_named c w)) None) its ∙ by (publisher_named c w) refl ((bytes_eq-Decides d c).0 its)
]
  where
    by : (o : Option Publisher) → publisher_named c w ≡ o → d ≡ c → f (publisher_named c w) ≡ None
    by None e is = ap f e ∙ none
    by (Some p) e is = absurd (not_him (ap is_some e) is)

-- no message of the publisher's is accepted
pub none_accepted : (c : List ℕ) (limits : Capacity) (his accepted : List ℕ) (w : World) (o : Option ℕ) (ds : List Deed) → o ≡ None → Holds c limits his accepted w → Holds c limits his (accepted ++ each_of o ds) w
none_accepted c limits his accepted w o ds e h = subst (λ (ns : List ℕ). Holds c limits his ns w) (sym (ap (λ (x : Option ℕ). accepted ++ each_of x ds) e ∙ append-nil accepted)) h

-- the broker's reading of the publisher's line leaves it in step
pub reads_hold : (c d : List ℕ) (set : Setting) (his accepted : List ℕ) (w : World) → Holds c set.limits his accepted w → read_first spending set (to_broker d) w ≡ false
    → Holds c set.limits his (accepted ++ each_of (asked_from c (to_broker d) w) (read_first the_deeds set (to_broker d) w)) (first_step set (to_broker d) w)
reads_hold c d set his accepted w h unspent = elim (whose_name c d w) [
  | inr not_him ↦ none_accepted c set.limits his accepted (first_step set (to_broker d) w) (asked_from c (to_broker d) w) (read_first the_deeds set (to_broker d) w)
      (asked_none c d w front_of_line refl not_him) (others not_him)
  | inl own ↦ subst Goal (sym own.2) (his_own own.0 own.1 (subst (λ (x : List ℕ). read_first spending set (to_broker x) w ≡ false) own.2 unspent))
]
  where
    Goal : List ℕ → Type 0
    Goal x = Holds c set.limits his (accepted ++ each_of (asked_from c (to_broker x) w) (read_first the_deeds set (to_broker x) w)) (first_step set (to_broker x) w)

    others : IsNotHim c d w → Holds c set.limits his accepted (first_step set (to_broker d) w)
    others not_him =
        let v = view_of d w in
        if_holds c set his accepted (call_of set (to_broker d) w) (with_line d taken_up taken_up w)
        (line_others c d set.limits his accepted w taken_up taken_up (takes_apart (IsOutOf his) w.broker.given taken_up takes_up) (takes_apart (IsOutOf his) w.broker.given taken_up takes_up) not_him h) unspent
        (λ there call is.
        let f = foreign c d set.limits his w h.around (not_him (sym (ap is_some (changed_not c d (on_line taken_up) (with_receiver d (on_back taken_up) w) (λ p. refl) not_him)) ∙ there)) in
        input_outside his c w.broker.given v.number v.up call f.number f.up is)

    his_own : (p : Publisher) → publisher_named c w ≡ Some p → read_first spending set (to_broker c) w ≡ false → Goal c
    his_own p e u =
        let w1 = with_line c taken_up taken_up w in
        let r = receiver_named c w in
        let placed = subst (Him his w.broker accepted) e h.him in
        let cost : read_if spending set (input_on p.line.number (map (wire p.client p.contents) p.line.up)) w1 ≡ false =
        sym (ap (λ (o : Option Publisher). read_if spending set (input_on (view_by o r).number (view_by o r).up) w1) e) ∙ u in
        let him = own_read c set his accepted w taken_up taken_up takes_up p p.line.number p.line.up e placed (side_up c set his accepted w p h.around e placed) cost in
        let asked : asked_from c (to_broker c) w ≡ front_of_line (publisher_named c w) = let it = (bytes_eq-Decides c c).1 refl in ap (λ (t : Bool). cond t (front_of_line (publisher_named c w)) None) it in
        record {
          around = if_around c set his (call_of set (to_broker c) w) w1 (own_around c set.limits his w p (on_line taken_up) (on_back taken_up) (λ q. refl) (λ q. refl) e h.around) u;
          him = subst (λ (o : Option ℕ). Him his (first_step set (to_broker c) w).broker (accepted ++ each_of o (read_first the_deeds set (to_broker c) w)) (publisher_named c (first_step set (to_broker c) w))) (sym asked)
              (subst (λ (o : Option Publisher). Him his (calls_if set (input_on (view_by o r).number (view_by o r).up) w1).broker (accepted ++ each_of (front_of_line o) (read_if the_deeds set (input_on (view_by o r).number (view_by o r).up) w1)) (publisher_named c (calls_if set (input_on (view_by o r).number (view_by o r).up) w1))) (sym e) him);
        }

-- so does that of the old one
pub reads_old_hold : (c d : List ℕ) (set : Setting) (his accepted : List ℕ) (w : World) → Holds c set.limits his accepted w → read_first spending set (old_to_broker d) w ≡ false
    → Holds c set.limits his (accepted ++ each_of (asked_from c (old_to_broker d) w) (read_first the_deeds set (old_to_broker d) w)) (first_step set (old_to_broker d) w)
reads_old_hold c d set his accepted w h unspent = elim (whose_name c d w) [
  | inr not_him ↦ none_accepted c set.limits his accepted (first_step set (old_to_broker d) w) (asked_from c (old_to_broker d) w) (read_first the_deeds set (old_to_broker d) w)
      (asked_none c d w front_of_old refl not_him) (others not_him)
  | inl own ↦ subst Goal (sym own.2) (his_own own.0 own.1 (subst (λ (x : List ℕ). read_first spending set (old_to_broker x) w ≡ false) own.2 unspent))
]
  where
    Goal : List ℕ → Type 0
    Goal x = Holds c set.limits his (accepted ++ each_of (asked_from c (old_to_broker x) w) (read_first the_deeds set (old_to_broker x) w)) (first_step set (old_to_broker x) w)

    others : IsNotHim c d w → Holds c set.limits his accepted (first_step set (old_to_broker d) w)
    others not_him =
        let v = view_of d w in
        if_holds c set his accepted (call_of set (old_to_broker d) w) (with_line d taken_old taken_old w)
        (line_others c d set.limits his accepted w taken_old taken_old (takes_apart (IsOutOf his) w.broker.given taken_old takes_old) (takes_apart (IsOutOf his) w.broker.given taken_old takes_old) not_him h) unspent
        (λ there call is.
        let f = foreign c d set.limits his w h.around (not_him (sym (ap is_some (changed_not c d (on_line taken_old) (with_receiver d (on_back taken_old) w) (λ p. refl) not_him)) ∙ there)) in
        input_outside his c w.broker.given v.old_number v.old call f.old_number f.old is)

    his_own : (p : Publisher) → publisher_named c w ≡ Some p → read_first spending set (old_to_broker c) w ≡ false → Goal c
    his_own p e u =
        let w1 = with_line c taken_old taken_old w in
        let r = receiver_named c w in
        let placed = subst (Him his w.broker accepted) e h.him in
        let cost : read_if spending set (input_on p.line.old_number (map (wire p.client p.contents) p.line.old)) w1 ≡ false =
        sym (ap (λ (o : Option Publisher). read_if spending set (input_on (view_by o r).old_number (view_by o r).old) w1) e) ∙ u in
        let him = own_read c set his accepted w taken_old taken_old takes_old p p.line.old_number p.line.old e placed (side_old c set his accepted w p h.around e placed) cost in
        let asked : asked_from c (old_to_broker c) w ≡ front_of_old (publisher_named c w) = let it = (bytes_eq-Decides c c).1 refl in ap (λ (t : Bool). cond t (front_of_old (publisher_named c w)) None) it in
        record {
          around = if_around c set his (call_of set (old_to_broker c) w) w1 (own_around c set.limits his w p (on_line taken_old) (on_back taken_old) (λ q. refl) (λ q. refl) e h.around) u;
          him = subst (λ (o : Option ℕ). Him his (first_step set (old_to_broker c) w).broker (accepted ++ each_of o (read_first the_deeds set (old_to_broker c) w)) (publisher_named c (first_step set (old_to_broker c) w))) (sym asked)
              (subst (λ (o : Option Publisher). Him his (calls_if set (input_on (view_by o r).old_number (view_by o r).old) w1).broker (accepted ++ each_of (front_of_old o) (read_if the_deeds set (input_on (view_by o r).old_number (view_by o r).old) w1)) (publisher_named c (calls_if set (input_on (view_by o r).old_number (view_by o r).old) w1))) (sym e) him);
        }
