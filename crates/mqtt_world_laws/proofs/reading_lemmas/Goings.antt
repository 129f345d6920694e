-- In every run each packet that the broker reads is lawful, and it goes on sending well (MQTT 5.0, 2.1, 2.2.1, 4.3).
use Rattle.std.proofs.Common.{◌≡◌, ℕ, zero, suc, Bool, true, false, cond, List, [], ◌∷◌, ◌++◌, map, Option, Some, None, bytes_eq, refl, sym, subst}
use Rattle.std.specs.Prelude.{is_some}
use Rattle.std.specs.List.{AllByRecursion}
use Rattle.mqtt_flow.specs.outbound.Receiver.{connect}
use Rattle.mqtt_rules.proofs.step_lemmas.numbers.Copies.{each_append}
use Rattle.mqtt_rules.specs.step.Step.{Call, NewLine, can_link, stepped, told}
use Rattle.mqtt_rules.specs.declared.step.Capacity.{Capacity}
use Rattle.mqtt_world_model.specs.model.Ends.{Receiver, answers, new_receiver, receiver_reads}
use Rattle.mqtt_world_model.specs.model.Lines.{gives_up, joined, left}
use Rattle.mqtt_world_model.specs.model.Run.{Turn, read_asked, read_at, read_first, read_if, read_in, read_opening, read_rest, run, setting, turned}
use Rattle.mqtt_world_model.specs.model.World.{Asking, Event, Setting, Stranger, World, answers_rest, ask, asks, asks_wish, before, break, call_of, call_of_stranger, calls, calls_if, clock, comes, connect_end, end_reads, first_step, give_up, happens, held_after, held_count, is_bad, is_bad_asking, is_open_line, linked_at, links, next_held, next_line, old_to_broker, publish, publisher, publisher_named, pump, receiver, receiver_named, receiver_restarted, receiver_told, restart, restarts, stop_after, stop_before, stranger, stranger_named, subscribe, taken_old, taken_up, tick, to_broker, to_end, unlinked, view_of}
use Rattle.mqtt_world_laws.specs.acceptance.Spending.{run_spends, spending}
use Rattle.mqtt_world_laws.proofs.acceptance_lemmas.publishers.Runs.{either}
use Rattle.mqtt_world_laws.proofs.acceptance_lemmas.copies.Steady.{linking_spends_none}
use Rattle.mqtt_world_laws.specs.causes.Endings.{Asked, asked_over, the_asked}
use Rattle.mqtt_rules.specs.spelling.Sending.{IsAsked, SendsWell}
use Rattle.mqtt_rules.proofs.spelling_lemmas.Steps.{well_reopened, well_spelled, well_stepped}
use Rattle.mqtt_world_model.specs.single_steps.Taken.{IsTakenFrom, IsTakenFromReceiver}
use Rattle.mqtt_world_model.proofs.single_steps_lemmas.TakenEnds.{from_publishers, from_receivers, nobody_sound, turned_sound}
use Rattle.mqtt_world_laws.specs.reading.Going.{AreBytes, GoesWell, HoldsBytes, IsFine}
use Rattle.mqtt_world_laws.specs.reading.Reading.{AllReadLawful, ReadsLawful}
use Rattle.mqtt_world_laws.specs.reading.UnderWay.{IsUninhabited, IsViewTaken, TakesAllUnderWay}
use Rattle.mqtt_world_laws.proofs.reading_lemmas.Backs.{gives_fine, joined_fine, left_fine, new_fine, old_fine, reads_fine, restarted_fine, told_fine, up_fine, wish_fine}
use Rattle.mqtt_world_laws.proofs.reading_lemmas.Asked.{IsBackTaken, IsWell, IsWellIf, after_bytes, bytes_append, found, input_well, lost_well, no_bytes, pump_well, said_bytes, stranger_well, view_taken}

-- the broker sends well, what comes to receivers has a spelling, and what strangers hold is bytes
record IsGoing (w : World) : Type 0 where
  sends : SendsWell w.broker
  receivers : AllByRecursion IsFine w.receivers
  strangers : AllByRecursion HoldsBytes w.strangers

-- what ends have under way is taken, if answers have identifiers
record AreTaken (w : World) : Type 0 where
  publishers : AllByRecursion IsTakenFrom w.publishers
  receivers : AllByRecursion IsTakenFromReceiver w.receivers

abbrev AllLawful : List Asked → Type 0
AllLawful xs = AllByRecursion ReadsLawful xs

-- ---- all of a kind

each : {X : Type 0} (P : X → Type 0) (f : X → X) → ((x : X) → P x → P (f x)) → (xs : List X) → AllByRecursion P xs → AllByRecursion P (map f xs)
each P f g [] h = tt
each P f g (x ∷ xs) h = (g x h.0, each P f g xs h.1)

one_named : {X : Type 0} (P : X → Type 0) (t : Bool) (x y : X) → P x → P y → P (cond t y x)
one_named P true x y h g = g
one_named P false x y h g = h

each_named : (client : List ℕ) (f : Receiver → Receiver) → ((r : Receiver) → IsFine r → IsFine (f r)) → (rs : List Receiver) → AllByRecursion IsFine rs → AllByRecursion IsFine (map (λ r. cond (bytes_eq r.client client) (f r) r) rs)
each_named client f g rs h = each IsFine (λ r. cond (bytes_eq r.client client) (f r) r) (λ r s. one_named IsFine (bytes_eq r.client client) r (f r) s (g r s)) rs h

each_stranger : (name : List ℕ) (f : Stranger → Stranger) → ((s : Stranger) → HoldsBytes s → HoldsBytes (f s)) → (ss : List Stranger) → AllByRecursion HoldsBytes ss → AllByRecursion HoldsBytes (map (λ s. cond (bytes_eq s.name name) (f s) s) ss)
each_stranger name f g ss h = each HoldsBytes (λ s. cond (bytes_eq s.name name) (f s) s) (λ s k. one_named HoldsBytes (bytes_eq s.name name) s (f s) k (g s k)) ss h

both_taken : (rs : List Receiver) → AllByRecursion IsTakenFromReceiver rs → AllByRecursion IsFine rs → AllByRecursion IsBackTaken rs
both_taken [] h k = tt
both_taken (r ∷ rs) h k = (record { taken = h.0; fine = k.0 }, both_taken rs h.1 k.1)

-- whatever an end has under way the broker takes
view_well : (d : List ℕ) (w : World) → AreTaken w → IsGoing w → IsViewTaken (view_of d w)
view_well d w taken h =
    view_taken (publisher_named d w) (receiver_named d w) (found IsTakenFrom (λ p. bytes_eq p.client d) w.publishers taken.publishers)
    (found IsBackTaken (λ r. bytes_eq r.client d) w.receivers (both_taken w.receivers taken.receivers h.receivers))

module _ (set : Setting) where
  -- ---- steps of the broker

  call_going : (call : Call) (w : World) → IsWell call → read_if spending set (Some call) w ≡ false → IsGoing w → IsGoing (calls set call w)
  call_going call w well unspent h =
      let is : IsAsked set.limits set.choice w.now call w.broker = record { taken = well.taken; tells = well.tells; unspent = unspent } in
      let b = stepped set.limits set.choice w.now call w.broker in
      let out = told set.limits set.choice w.now call w.broker in
      let spelled = well_spelled set.limits set.choice w.now call w.broker is h.sends in
      record {
        sends = well_stepped set.limits set.choice w.now call w.broker is h.sends;
        receivers = each IsFine (receiver_told b out) (λ r s. told_fine b out r spelled s) w.receivers h.receivers;
        strangers = h.strangers;
      }

  if_going : (o : Option Call) (w : World) → IsWellIf o → read_if spending set o w ≡ false → IsGoing w → IsGoing (calls_if set o w)
  if_going None w well unspent h = h
  if_going (Some call) w well unspent h = call_going call w well unspent h

  if_lawful : (o : Option Call) (w : World) → IsWellIf o → AllLawful (read_if the_asked set o w)
  if_lawful None w well = tt
  if_lawful (Some call) w well = (well.taken, tt)

  again_going : (w : World) → read_opening spending set w ≡ false → IsGoing w → IsGoing (restarts set w)
  again_going w unspent h = record {
    sends = well_reopened set.limits set.choice w.now w.broker unspent h.sends;
    receivers = each IsFine receiver_restarted (λ r s. restarted_fine r) w.receivers h.receivers;
    strangers = each HoldsBytes unlinked (λ s k. no_bytes) w.strangers h.strangers;
  }

  linking_going : (w : World) → IsGoing w → IsGoing (calls set NewLine w)
  linking_going w h = call_going NewLine w (record { taken = tt; tells = tt }) (linking_spends_none set.limits set.choice w.now w.broker) h

  -- ---- what is asked for

  -- what is read, and what is left
  record Goes (xs : List Asked) (v : World) : Type 0 where
    lawful : AllLawful xs
    going : IsGoing v

  comes_going : (name bytes : List ℕ) (w : World) → AreBytes bytes → IsGoing w → IsGoing (comes set name bytes w)
  comes_going name bytes w said h = by (is_some (stranger_named name w))
    where
      by : (t : Bool) → IsGoing (linked_at set t name bytes w)
      by true = record {
        sends = h.sends;
        receivers = h.receivers;
        strangers = each_stranger name (λ s. record s { held = s.held ++ bytes }) (λ s k. bytes_append s.held bytes k said) w.strangers h.strangers;
      }
      by false =
          let x = linking_going w h in
          let s : Stranger = record { name = name; number = cond (can_link set.limits w.broker) (Some (suc w.broker.given)) None; held = bytes } in
          record { sends = x.sends; receivers = x.receivers; strangers = each_append HoldsBytes w.strangers (s ∷ []) h.strangers (said, tt) }

  before_going : (a : Asking) (w : World) → is_bad_asking a w ≡ false → IsGoing w → IsGoing (before set a w)
  before_going (to_broker d) w good h = record { sends = h.sends; receivers = each_named d (λ r. record r { line = taken_up r.line }) up_fine w.receivers h.receivers; strangers = h.strangers }
  before_going (old_to_broker d) w good h = record { sends = h.sends; receivers = each_named d (λ r. record r { line = taken_old r.line }) old_fine w.receivers h.receivers; strangers = h.strangers }
  before_going (break d) w good h = h
  before_going (pump d) w good h = h
  before_going tick w good h = h
  before_going (stranger name bytes) w good h = comes_going name bytes w (said_bytes name bytes w good) h

  call_well : (a : Asking) (w : World) → is_bad_asking a w ≡ false → AreTaken w → IsGoing w → IsWellIf (call_of set a w)
  call_well (to_broker d) w good taken h = let v = view_of d w in input_well v.number v.up (view_well d w taken h).up
  call_well (old_to_broker d) w good taken h = let v = view_of d w in input_well v.old_number v.old (view_well d w taken h).old
  call_well (break d) w good taken h = lost_well (view_of d w).number
  call_well (pump d) w good taken h = pump_well (view_of d w).number
  call_well tick w good taken h = record { taken = tt; tells = tt }
  call_well (stranger name bytes) w good taken h =
      let v = comes set name bytes w in
      stranger_well (stranger_named name v) (found HoldsBytes (λ s. bytes_eq s.name name) v.strangers (comes_going name bytes w (said_bytes name bytes w good) h).strangers)

  first_goes : (a : Asking) (w : World) → is_bad_asking a w ≡ false → AreTaken w → read_first spending set a w ≡ false → IsGoing w → Goes (read_first the_asked set a w) (first_step set a w)
  first_goes a w good taken unspent h =
      let well = call_well a w good taken h in
      let v = before set a w in
      record { lawful = if_lawful (call_of set a w) v well; going = if_going (call_of set a w) v well unspent (before_going a w good h) }

  same_cost : (name : List ℕ) (v : World) (x : Option Call) → read_if spending set x v ≡ false → read_if spending set x (next_held name v) ≡ false
  same_cost name v None e = refl
  same_cost name v (Some x) e = e

  rest_goes : (more : ℕ) (name : List ℕ) (w : World) → read_rest spending set more name w ≡ false → IsGoing w → Goes (read_rest the_asked set more name w) (answers_rest set more name w)
  rest_goes zero name w unspent h = record { lawful = tt; going = h }
  rest_goes (suc more) name w unspent h =
      let o = call_of_stranger (stranger_named name w) in
      let held = next_held name w in
      let u = calls_if set o held in
      let costs = either (read_if spending set o w) (read_rest spending set more name u) unspent in
      let well = stranger_well (stranger_named name w) (found HoldsBytes (λ s. bytes_eq s.name name) w.strangers h.strangers) in
      let after : IsGoing held = record {
        sends = h.sends;
        receivers = h.receivers;
        strangers = each_stranger name (λ s. record s { held = held_after s.held }) (λ s k. after_bytes s.held k) w.strangers h.strangers;
      }
      in
      let rest = rest_goes more name u costs.1 (if_going o held well (same_cost name w o costs.0) after) in
      record { lawful = each_append ReadsLawful (read_if the_asked set o w) (read_rest the_asked set more name u) (if_lawful o w well) rest.lawful; going = rest.going }

  asked_goes : (a : Asking) (w : World) → is_bad_asking a w ≡ false → AreTaken w → read_asked spending set a w ≡ false → IsGoing w → Goes (read_asked the_asked set a w) (asks set a w)
  asked_goes (to_broker d) w good taken unspent h = first_goes (to_broker d) w good taken unspent h
  asked_goes (old_to_broker d) w good taken unspent h = first_goes (old_to_broker d) w good taken unspent h
  asked_goes (break d) w good taken unspent h =
      let x = first_goes (break d) w good taken unspent h in
      let v = first_step set (break d) w in
      record { lawful = x.lawful; going = record { sends = x.going.sends; receivers = each_named d (λ r. record r { line = left r.line }) left_fine v.receivers x.going.receivers; strangers = x.going.strangers } }
  asked_goes (pump d) w good taken unspent h = first_goes (pump d) w good taken unspent h
  asked_goes tick w good taken unspent h = first_goes tick w good taken unspent h
  asked_goes (stranger name bytes) w good taken unspent h =
      let v = comes set name bytes w in
      rest_goes (held_count (stranger_named name v)) name v unspent (comes_going name bytes w (said_bytes name bytes w good) h)

  -- ---- an event

  links_going : (o : Option ℕ) (d : List ℕ) (clean : Bool) (w : World) → IsGoing w → IsGoing (links set o d clean w)
  links_going None d clean w h = h
  links_going (Some n) d clean w h =
      let v = calls set NewLine w in
      let x = linking_going w h in
      record { sends = x.sends; receivers = each_named d (λ r. record r { line = joined (answers (connect clean)) n clean r.line }) (joined_fine n clean) v.receivers x.receivers; strangers = x.strangers }

  with_receivers : (d : List ℕ) (f : Receiver → Receiver) (w v : World) → ((r : Receiver) → IsFine r → IsFine (f r)) → v.broker ≡ w.broker → v.receivers ≡ map (λ r. cond (bytes_eq r.client d) (f r) r) w.receivers → v.strangers ≡ w.strangers
      → IsGoing w → IsGoing v
  with_receivers d f w v keeps same rs ss h = record {
    sends = subst SendsWell (sym same) h.sends;
    receivers = subst (AllByRecursion IsFine) (sym rs) (each_named d f keeps w.receivers h.receivers);
    strangers = subst (AllByRecursion HoldsBytes) (sym ss) h.strangers;
  }

  happens_goes : (e : Event) (w : World) → is_bad e w ≡ false → AreTaken w → read_in spending set e w ≡ false → IsGoing w → Goes (read_in the_asked set e w) (happens set e w)
  happens_goes (publisher d) w good taken unspent h = record { lawful = tt; going = record { sends = h.sends; receivers = h.receivers; strangers = h.strangers } }
  happens_goes (receiver d window aliases) w good taken unspent h = record {
    lawful = tt;
    going = record { sends = h.sends; receivers = each_append IsFine w.receivers (new_receiver d window aliases w.broker.records.births ∷ []) h.receivers (new_fine d window aliases w.broker.records.births, tt); strangers = h.strangers };
  }
  happens_goes (connect_end d clean) w good taken unspent h = record { lawful = (tt, tt); going = links_going (next_line set.limits w.broker) d clean w h }
  happens_goes (give_up d) w good taken unspent h = record {
    lawful = tt;
    going = with_receivers d (λ r. record r { line = gives_up r.line.link r.line }) w (happens set (give_up d) w) gives_fine refl refl refl h;
  }
  happens_goes (publish d x) w good taken unspent h = record { lawful = tt; going = record { sends = h.sends; receivers = h.receivers; strangers = h.strangers } }
  happens_goes (subscribe d x) w good taken unspent h = record {
    lawful = tt;
    going = with_receivers d (λ r. asks_wish (is_open_line r.line w) x r) w (happens set (subscribe d x) w) (λ r s. wish_fine (is_open_line r.line w) x r s) refl refl refl h;
  }
  happens_goes (to_end d) w good taken unspent h = record {
    lawful = tt;
    going = with_receivers d (λ r. receiver_reads (is_open_line r.line w) r.line.down r) w (end_reads d w) (λ r s. reads_fine (is_open_line r.line w) r.line.down r s.down s) refl refl refl h;
  }
  happens_goes (clock wait) w good taken unspent h = record { lawful = tt; going = record { sends = h.sends; receivers = h.receivers; strangers = h.strangers } }
  happens_goes (ask a) w good taken unspent h = asked_goes a w good taken unspent h
  happens_goes restart w good taken unspent h = record { lawful = (tt, tt); going = again_going w unspent h }
  happens_goes (stop_before a) w good taken unspent h = record { lawful = (tt, tt); going = again_going (before set a w) unspent (before_going a w good h) }
  happens_goes (stop_after a) w good taken unspent h =
      let v = first_step set a w in
      let costs = either (read_first spending set a w) (read_opening spending set v) unspent in
      let x = first_goes a w good taken costs.0 h in
      record { lawful = each_append ReadsLawful (read_first the_asked set a w) (read_opening the_asked set v) x.lawful (tt, tt); going = again_going v costs.1 x.going }

-- ---- a turn, and a run

turn_goes : (limits : Capacity) (t : Turn) (w : World) → AreTaken w → read_at spending (setting limits t) t.event w ≡ false → IsGoing w → Goes (setting limits t) (read_at the_asked (setting limits t) t.event w) (turned limits t w)
turn_goes limits t w taken unspent h = by (is_bad t.event w) refl unspent
  where
    set : Setting
    set = setting limits t

    by : (bad : Bool) → is_bad t.event w ≡ bad → cond bad false (read_in spending set t.event w) ≡ false → Goes set (cond bad [] (read_in the_asked set t.event w)) (cond bad w (happens set t.event w))
    by true is u = record { lawful = tt; going = h }
    by false is u = happens_goes set t.event w is taken u h

taken_of : (w : World) → GoesWell w → AreTaken w
taken_of w h = record { publishers = from_publishers w h.ends; receivers = from_receivers w h.ends }

going_of : (w : World) → GoesWell w → IsGoing w
going_of w h = record { sends = h.sends; receivers = h.receivers; strangers = h.strangers }

goes_at : (limits : Capacity) (t : Turn) (w : World) → GoesWell w → read_at spending (setting limits t) t.event w ≡ false → Goes (setting limits t) (read_at the_asked (setting limits t) t.event w) (turned limits t w)
goes_at limits t w h unspent = turn_goes limits t w (taken_of w h) unspent (going_of w h)

-- what an event makes the broker read is lawful
pub turn_reads : (limits : Capacity) (t : Turn) (w : World) → GoesWell w → read_at spending (setting limits t) t.event w ≡ false → AllByRecursion ReadsLawful (read_at the_asked (setting limits t) t.event w)
turn_reads limits t w h unspent = (goes_at limits t w h unspent).lawful

-- behind an event all goes well still
pub turn_well : (limits : Capacity) (t : Turn) (w : World) → GoesWell w → read_at spending (setting limits t) t.event w ≡ false → GoesWell (turned limits t w)
turn_well limits t w h unspent =
    let going = (goes_at limits t w h unspent).going in
    record { sends = going.sends; ends = turned_sound limits t w h.ends; receivers = going.receivers; strangers = going.strangers }

-- a world in which nobody is goes well, if its broker sends well
pub nobody_well : (w : World) → IsUninhabited w → SendsWell w.broker → GoesWell w
nobody_well w none sends = record {
  sends = sends;
  ends = nobody_sound w none.publishers none.receivers;
  receivers = subst (AllByRecursion IsFine) (sym none.receivers) tt;
  strangers = subst (AllByRecursion HoldsBytes) (sym none.strangers) tt;
}

-- where all goes well the broker takes whatever is under way from an end
pub well_taken : (w : World) → GoesWell w → TakesAllUnderWay w
well_taken w h d = view_well d w (taken_of w h) (going_of w h)

-- a run, and the world that it leaves
pub record GoesOn (limits : Capacity) (ts : List Turn) (w : World) : Type 0 where
  pub lawful : AllReadLawful limits ts w
  pub going : GoesWell (run limits ts w)

-- from where all goes well each run goes on well
pub goes_on : (limits : Capacity) (ts : List Turn) (w : World) → GoesWell w → run_spends limits ts w ≡ false → GoesOn limits ts w
goes_on limits [] w h unspent = record { lawful = tt; going = h }
goes_on limits (t ∷ ts) w h unspent =
    let u = turned limits t w in
    let costs = either (read_at spending (setting limits t) t.event w) (run_spends limits ts u) unspent in
    let rest = goes_on limits ts u (turn_well limits t w h costs.0) costs.1 in
    record { lawful = each_append ReadsLawful (read_at the_asked (setting limits t) t.event w) (asked_over limits ts u) (turn_reads limits t w h costs.0) rest.lawful; going = rest.going }
