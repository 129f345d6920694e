-- Through turns, what is said to each connection is what the answers of their calls say to its line.
use Rattle.std.proofs.Common.{◌≡◌, ◌⊎◌, ℕ, Bool, true, false, List, [], ◌∷◌, ◌++◌, max, Option, Some, None, Result, Ok, Err, refl, sym, ap, subst, ◌∙◌, inl, inr}
use Rattle.std.specs.Prelude.{nat_eq}
use Rattle.std.specs.List.{list_any}
use Rattle.std.proofs.lemmas.List.{append-nil, append_assoc}
use Rattle.mqtt_keep.specs.declared.keeping.keep.Keep.{Ghosts}
use Rattle.mqtt_rules.specs.step.Laws.{IsAmong}
use Rattle.mqtt_broker_step.specs.declared.call.EngineError.{EngineError}
use Rattle.mqtt_broker_step.specs.declared.call.EngineError.TheVariants.{Memory, Stopped, Spent}
use Rattle.mqtt_broker.specs.declared.stored.outcome.Outcome.{Outcome}
use Rattle.mqtt_broker.specs.engine.Serving.{Serving}
use Rattle.mqtt_serve.specs.declared.turns.turn.Pace.{Pace}
use Rattle.mqtt_serve.specs.declared.turns.turn.Pace.TheVariants.{Full}
use Rattle.mqtt_serve.specs.turns.Leaving.{AreCalls, IsCalled, call_after, line_linked, no_call, piece_came, was_asked, was_told}
use Rattle.mqtt_serve.specs.turns.Said.{AreSaid, IsSaid, IsSaidTo, outputs_in, outputs_of, outputs_of_call}
use Rattle.mqtt_serve.specs.turns.Settled.{IsStoredOrPutOff, LetsGoBelow, RunsSettledUntil, ServedTurn, Stretch, Stretches, Together, no_stretch, none_yet, not_begun, one_after, stretch_after, turn_more}
use Rattle.mqtt_serve.specs.turns.Turns.{Accepts, GivenSoFar, Gives, GivesIf, HasItsTurn, HasTurn, Hosting, IsPieced, IsTicked, LosesIf, PumpsIf, Server, ServesAll, ServesBelow, ServesLine, Tells, TickedSoFar, Ticks, TicksBy, TurnsBy, all_given, enough_ticks, given_up, it_is_passed_over, it_is_served, last_tick, line_after, no_line, no_tick, no_turn, nothing_yet, pace_of, piece_after, rested, server, tick_after, turn_after, without_closed}
use Rattle.mqtt_serve.specs.turns.Wires.{Wire, AreLost, LetsGo, Reaches, Reads, WritesAnd, WritesLast, is_standing, letting, lost_if}
use Rattle.mqtt_serve.proofs.turns_lemmas.Said.{Outputs, all_said_then, at_said, closing_said, dropped_said, hears_said, last_said, leaves_said, losing_said, reads_said, related_said, said_then, silent, still_said, writes_said}
use Rattle.mqtt_serve.proofs.turns_lemmas.Since.{broken_held}

-- ---- what reaches connections

reaches_said : (outputs : Outputs) (closed : List ℕ) (x y : Wire) → Reaches outputs closed x y → IsSaid outputs x y
reaches_said outputs closed x y h =
    subst (λ (o : Outputs). IsSaid o x y) (append-nil outputs)
    (said_then outputs [] x h.told y (hears_said x.fate outputs x h.told refl h.hears)
    (subst (IsSaid [] h.told) (sym h.closes) (closing_said (list_any (nat_eq h.told.number) closed) h.told)))

lost_said : (number : ℕ) (old new : List Wire) → AreLost number old new → AreSaid [] old new
lost_said number old new r =
    related_said [] (λ x y. y ≡ lost_if number x) (λ x y e. subst (IsSaid [] x) (sym e) (losing_said (nat_eq x.number number) x)) old new r

told_said : (number : ℕ) (answer : Result Outcome EngineError) (old new : List Wire) → Tells number answer old new → AreSaid (outputs_in answer) old new
told_said number (Ok out) old new told =
    related_said out.outputs.items (Reaches out.outputs.items out.closed.items) (reaches_said out.outputs.items out.closed.items) old new told
told_said number (Err Memory) old new told = lost_said number old new told
told_said number (Err Stopped) old new told = absurd told
told_said number (Err Spent) old new told = absurd told

ticks_said : (answer : Result Outcome EngineError) (old new : List Wire) → TicksBy answer old new → AreSaid (outputs_in answer) old new
ticks_said (Ok out) old new told =
    related_said out.outputs.items (Reaches out.outputs.items out.closed.items) (reaches_said out.outputs.items out.closed.items) old new told
ticks_said (Err Memory) old new told = subst (AreSaid [] old) (sym told) (still_said old)
ticks_said (Err Stopped) old new told = absurd told
ticks_said (Err Spent) old new told = absurd told

-- ---- what is held back goes out

go_said : (went : Bool) (x y : Wire) → LetsGo went x y → IsSaid [] x y
go_said went x y h = leaves_said x.fate x (letting h.held y.out x) y refl refl refl h.leaves

let_go_said : (n : ℕ) (some : Bool) (old new : List Wire) → LetsGoBelow n some old new → AreSaid [] old new
let_go_said n some old new none_yet = still_said old
let_go_said n some old new (one_after {place} {busy} {went} {mid} before last) =
    all_said_then [] [] old mid new (let_go_said place busy old mid before) (at_said (LetsGo went) (go_said went) place mid new last)

module _ {K : Type 0} (g : Ghosts K) where
  -- calls, and what they say
  pub record Says (a b : Server (Serving K)) : Type 0 where
    pub calls : AreCalls g a.engine b.engine
    pub said : AreSaid (outputs_of calls) a.wires b.wires

  -- calls, and then others
  pub calls_then : (a b c : Serving K) → AreCalls g a b → AreCalls g b c → AreCalls g a c
  calls_then a b c first no_call = first
  calls_then a b c first (call_after {t} calls call) = call_after (calls_then a b t first calls) call

  outputs_then : (a b c : Serving K) (first : AreCalls g a b) (next : AreCalls g b c)
      → outputs_of (calls_then a b c first next) ≡ outputs_of first ++ outputs_of next
  unfolding calls_then
  outputs_then a b c first no_call = sym (append-nil (outputs_of first))
  outputs_then a b c first (call_after {t} calls call) =
      ap (λ (o : Outputs). o ++ outputs_of_call call) (outputs_then a b t first calls)
      ∙ append_assoc (outputs_of first) (outputs_of calls) (outputs_of_call call)

  -- one after the other
  pub says_then : (a b c : Server (Serving K)) → Says a b → Says b c → Says a c
  says_then a b c first next = record {
    calls = calls_then a.engine b.engine c.engine first.calls next.calls;
    said = subst (λ (o : Outputs). AreSaid o a.wires c.wires) (sym (outputs_then a.engine b.engine c.engine first.calls next.calls))
        (all_said_then (outputs_of first.calls) (outputs_of next.calls) a.wires b.wires c.wires first.said next.said);
  }

  says_still : (s : Server (Serving K)) → Says s s
  says_still s = record { calls = no_call; said = still_said s.wires }

  one_says : (a b : Server (Serving K)) (call : IsCalled g a.engine b.engine) → AreSaid (outputs_of_call call) a.wires b.wires → Says a b
  one_says a b call said = record { calls = call_after no_call call; said = said }

  -- no call, and nothing is said
  quiet_says : (a b : Server (Serving K)) → b.engine ≡ a.engine → AreSaid [] a.wires b.wires → Says a b
  quiet_says a b same said = subst (λ (e : Serving K). Says a (server e b.wires)) (sym same) (record { calls = no_call; said = said })

  -- ---- in a turn

  pieced : (now number : ℕ) (piece : List ℕ) (taken : ℕ) (again : Bool) (a b : Server (Serving K)) → IsPieced g now number piece taken again a b → Says a b
  pieced now number piece taken again a b h =
      one_says a b (piece_came now number piece h.answer h.called) (told_said number h.answer a.wires b.wires h.told)

  given : (now place number : ℕ) (bytes : List ℕ) (a : Server (Serving K)) (count : ℕ) (others : List ℕ) (b : Server (Serving K))
      → GivenSoFar g now place number bytes a count others b → Says a b
  given now place number bytes a count others b nothing_yet = says_still a
  given now place number bytes a count others b (piece_after {n} {taken} {again} {rest} {mid} so_far piece is stands more) =
      says_then a mid b (given now place number bytes a n rest mid so_far) (pieced now number rest taken again mid b piece)

  gives : (now place number : ℕ) (bytes : List ℕ) (a b : Server (Serving K)) → Gives g now place number bytes a b → Says a b
  gives now place number bytes a b (all_given {n} {rest} {mid} so_far within last) =
      says_then a mid b (given now place number bytes a n rest mid so_far) (pieced now number rest last.taken last.again mid b last.piece)
  gives now place number bytes a b (given_up {n} {rest} {mid} so_far is lost same) =
      says_then a mid b (given now place number bytes a n rest mid so_far) (quiet_says mid b same (lost_said number mid.wires b.wires lost))

  gives_if : (now place number : ℕ) (bytes : List ℕ) (a b : Server (Serving K)) → GivesIf g now place number bytes a b → Says a b
  gives_if now place number [] a b same = subst (Says a) (sym same) (says_still a)
  gives_if now place number (x ∷ bytes) a b h = gives now place number (x ∷ bytes) a b h

  pumps_if : (now number : ℕ) (b : Bool) (s t : Server (Serving K)) → PumpsIf g now number b s t → Says s t
  pumps_if now number false s t same = subst (Says s) (sym same) (says_still s)
  pumps_if now number true s t h = one_says s t (was_asked now _ h.answer h.called) (told_said number h.answer s.wires t.wires h.told)

  loses_if : (now number : ℕ) (b : Bool) (s t : Server (Serving K)) → LosesIf g now number b s t → Says s t
  loses_if now number false s t same = subst (Says s) (sym same) (says_still s)
  loses_if now number true s t h = one_says s t (was_asked now _ h.answer h.called) (told_said number h.answer s.wires t.wires h.told)

  line_served : (now place : ℕ) (moved : Bool) (a b : Server (Serving K)) → ServesLine g now place moved a b → Says a b
  line_served now place moved a b h =
      let heard = server a.engine h.heard in
      let wrote = server h.sent.engine h.written in
      says_then a heard b
      (quiet_says a heard refl (at_said (λ x y. Reads x.fate _ h.bytes x y) (λ x y. reads_said x.fate _ h.bytes x y) place a.wires h.heard h.reads.reads))
      (says_then heard h.given b (gives_if now place h.number h.bytes heard h.given h.gives)
      (says_then h.given h.sent b (pumps_if now h.number _ h.given h.sent h.pumps)
      (says_then h.sent wrote b
      (quiet_says h.sent wrote refl (at_said (WritesAnd h.wrote) (λ x y w. writes_said x.fate x y w.writes) place h.sent.wires h.written h.writes))
      (loses_if now h.number _ wrote b h.loses))))

  turn_had : (pace : Pace) (now place : ℕ) (moved : Bool) (a b : Server (Serving K)) → HasItsTurn g pace now place moved a b → Says a b
  turn_had pace now place moved a b (it_is_served line) = line_served now place moved a b line
  turn_had pace now place moved a b (it_is_passed_over brisk rests) = says_still a

  lines_served : (pace : Pace) (now limit : ℕ) (some : Bool) (a b : Server (Serving K)) → ServesBelow g pace now limit some a b → Says a b
  lines_served pace now limit some a b no_line = says_still a
  lines_served pace now limit some a b (line_after {place} {busy} {moved} {t} before line) =
      says_then a t b (lines_served pace now place busy a t before) (turn_had pace now place moved t b line)

  ticked : (now : ℕ) (again : Bool) (a b : Server (Serving K)) → IsTicked g now again a b → Says a b
  ticked now again a b h = one_says a b (was_asked now _ h.answer h.called) (ticks_said h.answer a.wires b.wires h.told)

  ticked_so_far : (now : ℕ) (a : Server (Serving K)) (count : ℕ) (b : Server (Serving K)) → TickedSoFar g now a count b → Says a b
  ticked_so_far now a count b no_tick = says_still a
  ticked_so_far now a count b (tick_after {n} {mid} before tick) = says_then a mid b (ticked_so_far now a n mid before) (ticked now true mid b tick)

  ticks : (now limit : ℕ) (a b : Server (Serving K)) → Ticks g now limit a b → Says a b
  ticks now limit a b (last_tick {n} {mid} before within tick) = says_then a mid b (ticked_so_far now a n mid before) (ticked now false mid b tick)
  ticks now limit a b (enough_ticks {n} before is) = ticked_so_far now a n b before

  -- each connection has its turn, and then the clock
  pub all_served : (pace : Pace) (now : ℕ) (moved : Bool) (a b : Server (Serving K)) → ServesAll g pace now moved a b → Says a b
  all_served pace now moved a b h =
      says_then a h.served b (lines_served pace now _ moved a h.served h.serves)
      (says_then h.served h.ticked b (ticks now _ h.served h.ticked h.ticks)
      (quiet_says h.ticked b h.same
      (related_said [] (λ x y. WritesLast x.fate x y) (λ x y. last_said x.fate x y) h.ticked.wires b.wires h.writes)))

  -- a connection comes, or none
  pub accepted : (now : ℕ) (came : Bool) (a b : Server (Serving K)) → Accepts g now came a b → Says a b
  accepted now false a b same = subst (Says a) (sym same) (says_still a)
  accepted now true a b (inl h) =
      one_says a b (line_linked now (Some h.number) h.called) (λ w among. by w (either w a.wires (subst (IsAmong w) h.comes among)))
    where
      either : (w : Wire) (ws : List Wire) → IsAmong w (ws ++ h.wire ∷ []) → IsAmong w ws ⊎ (h.wire ≡ w)
      either w [] (inl e) = inr e
      either w [] (inr none) = absurd none
      either w (x ∷ ws) (inl e) = inl (inl e)
      either w (x ∷ ws) (inr rest) = elim (either w ws rest) [
        | inl there ↦ inl (inr there)
        | inr e ↦ inr e
      ]

      by : (w : Wire) → IsAmong w a.wires ⊎ (h.wire ≡ w) → IsSaidTo [] a.wires w
      by w (inl among) = still_said a.wires w among
      by w (inr e) = inr (record {
        before = [];
        behind = [];
        are = refl;
        number = h.number;
        then = h.wire;
        opened = h.opened;
        said = silent h.wire w (ap (λ (v : Wire). v.number) (sym e)) (ap (λ (v : Wire). v.said) (sym e))
            (λ stands. ap (λ (v : Wire). is_standing v.fate) e ∙ stands);
      })
  accepted now true a b (inr (inl h)) = one_says a b (line_linked now None h.called) (subst (AreSaid [] a.wires) (sym h.same) (still_said a.wires))
  accepted now true a b (inr (inr h)) = subst (Says a) (sym h.same) (says_still a)

  -- ---- a turn

  drops_says : (s t : Server (Serving K)) → t ≡ server s.engine (without_closed s.wires) → Says s t
  drops_says s t is = subst (Says s) (sym is) (quiet_says s (server s.engine (without_closed s.wires)) refl (dropped_said s.wires))

  -- then connections that the broker closed are dropped
  pub turn_says : (now : ℕ) (busy : Bool) (h i : Hosting (Serving K)) → HasTurn g now busy h i
      → Says (server h.engine h.links.wires) (server i.engine i.links.wires)
  turn_says now busy h i has =
      let turn = has.turn in
      says_then _ turn.accepted _ (accepted now has.came (server h.engine h.links.wires) turn.accepted turn.accepts)
      (says_then turn.accepted turn.served _ (all_served Full now turn.moved turn.accepted turn.served turn.serves)
      (drops_says turn.served (server i.engine i.links.wires) turn.drops))

  stored_says : (went : Bool) (a b : Server (Serving K)) → IsStoredOrPutOff g went a b → Says a b
  stored_says went a b (inl s) =
      one_says a b (was_told (Ok tt) s.called)
      (subst (AreSaid [] a.wires) (sym s.drops)
      (all_said_then [] [] a.wires s.after (without_closed s.after) (let_go_said _ went a.wires s.after s.lets) (dropped_said s.after)))
  stored_says went a b (inr off) = one_says a b (was_told (Err Memory) off.called) (subst (AreSaid [] a.wires) (sym off.same) (still_said a.wires))

  -- ---- turns one after the other

  rested_wires : (busy : Bool) (h : Hosting (Serving K)) → (rested busy h.links).wires ≡ h.links.wires
  rested_wires true h = refl
  rested_wires false h = refl

  -- whatever a turn is
  module _ (turn : ℕ → Bool → Hosting (Serving K) → Hosting (Serving K) → Type 0)
      (says : (now : ℕ) (busy : Bool) (h i : Hosting (Serving K)) → turn now busy h i
      → Says (server h.engine h.links.wires) (server i.engine i.links.wires)) where
    -- turns say what their calls answer
    pub turns_say : (begin : ℕ) (moments : List ℕ) (at : ℕ) (old new : Hosting (Serving K)) → TurnsBy turn begin moments at old new
        → Says (server old.engine old.links.wires) (server new.engine new.links.wires)
    turns_say begin moments at old new no_turn = says_still (server old.engine old.links.wires)
    turns_say begin moments at old new (turn_after {read} {last} now {busy} {i} j turns has) =
        subst (λ (ws : List Wire). Says (server old.engine old.links.wires) (server j.engine ws)) (sym (rested_wires busy j))
        (says_then _ (server i.engine i.links.wires) _ (turns_say begin read last old i turns) (says (max last now) busy i j has))

  -- ---- stretches of turns that are stored together

  turn_said : (pace : Pace) (now : ℕ) (busy : Bool) (h i : Hosting (Serving K)) → ServedTurn g pace now busy h i
      → Says (server h.engine h.links.wires) (server i.engine i.links.wires)
  turn_said pace now busy h i turn =
      says_then _ turn.accepted _ (accepted now turn.came (server h.engine h.links.wires) turn.accepted turn.accepts)
      (all_served pace now turn.moved turn.accepted (server i.engine i.links.wires) turn.serves)

  together_said : (begin : ℕ) (moments : List ℕ) (at : ℕ) (some : Bool) (old new : Hosting (Serving K)) → Together g begin moments at some old new
      → Says (server old.engine old.links.wires) (server new.engine new.links.wires)
  together_said begin moments at some old new not_begun = says_still (server old.engine old.links.wires)
  together_said begin moments at some old new (turn_more {read} {last} now {busy} {i} turns turn) =
      says_then _ (server i.engine i.links.wires) _ (together_said begin read last true old i turns) (turn_said (pace_of last now) (max last now) busy i new turn)

  -- the steps are stored, and what is held goes out
  stretch_said : (begin : ℕ) (read : List ℕ) (last : ℕ) (busy : Bool) (h i : Hosting (Serving K)) → Stretch g begin read last busy h i
      → Says (server h.engine h.links.wires) (server i.engine i.links.wires)
  stretch_said begin read last busy h i it =
      says_then _ (server it.served.engine it.served.links.wires) _ (together_said begin read last it.moved h it.served it.turns)
      (stored_says it.went (server it.served.engine it.served.links.wires) (server i.engine i.links.wires) it.stores)

  -- stretches say what their calls answer
  pub stretches_say : (begin : ℕ) (moments : List ℕ) (at : ℕ) (old new : Hosting (Serving K)) → Stretches g begin moments at old new
      → Says (server old.engine old.links.wires) (server new.engine new.links.wires)
  stretches_say begin moments at old new no_stretch = says_still (server old.engine old.links.wires)
  stretches_say begin moments at old new (stretch_after {read} {more} {last} {next} {busy} {at_once} {i} j before stretch _) =
      subst (λ (ws : List Wire). Says (server old.engine old.links.wires) (server j.engine ws)) (sym (rested_wires at_once j))
      (says_then _ (server i.engine i.links.wires) _ (stretches_say begin read last old i before) (stretch_said last more next busy i j stretch))

  -- and the stretch that breaks off
  pub until_calls : (begin turns : ℕ) (error : EngineError) (told told_then : Option (List ℕ)) (old new : Hosting (Serving K))
      → RunsSettledUntil g begin turns error told told_then old new → AreCalls g old.engine new.engine
  until_calls begin turns error told told_then old new ran =
      let off = ran.is_so.1 in
      calls_then old.engine off.mid.engine new.engine
      (stretches_say begin off.first off.last old off.mid off.stretches).calls
      (broken_held g off.last off.more error off.mid new off.breaks).calls
