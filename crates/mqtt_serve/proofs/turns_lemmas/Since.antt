-- What a turn calls, and what a crash leaves of it.
use Rattle.std.proofs.Common.{◌≡◌, ◌≢◌, ◌⊎◌, ◌<◌, ℕ, zero, suc, Bool, true, false, List, [], ◌∷◌, length, map, Some, None, Result, Ok, Err, refl, sym, ap, subst, ◌∙◌, inl, inr, arith}
use Rattle.std.specs.Prelude.{slice_get, max}
use Rattle.mqtt_keep.specs.declared.keeping.keep.Keep.{Ghosts}
use Rattle.mqtt_records.specs.declared.state.records.Records.{Records}
use Rattle.mqtt_rules.specs.step.State.{Broker, stored}
use Rattle.mqtt_broker_step.specs.declared.call.EngineError.{EngineError}
use Rattle.mqtt_broker_step.specs.declared.call.EngineError.TheVariants.{Memory, Stopped, Spent}
use Rattle.mqtt_broker.specs.declared.stored.outcome.Outcome.{Outcome}
use Rattle.mqtt_broker.specs.engine.Serving.{Serving}
use Rattle.mqtt_broker.specs.stored.Running.{Running}
use Rattle.mqtt_serve.specs.declared.turns.turn.Pace.{Pace}
use Rattle.mqtt_serve.specs.turns.Breaks.{BreaksAll, BreaksLine}
use Rattle.mqtt_serve.specs.turns.Leaving.{AreCalls, HoldsBack, IsAllStored, IsCalled, IsHeldSince, IsLeftByCall, IsLeftSince, NothingLeaves, WasSaid, call_after, gone, line_linked, no_call, piece_came, was_asked, was_told}
use Rattle.mqtt_serve.specs.turns.Settled.{IsStored, IsStoredOrPutOff, LetsGoBelow, ServedTurn, Stretch, StretchBreaksOff, Stretches, Together, no_stretch, none_yet, not_begun, one_after, stretch_after, turn_more}
use Rattle.mqtt_serve.specs.turns.Turns.{Accepts, GivenSoFar, Gives, GivesIf, HasItsTurn, Hosting, IsPieced, IsTicked, LosesIf, PumpsIf, Server, ServesAll, ServesBelow, ServesLine, Tells, TickedSoFar, Ticks, TicksBy, all_given, enough_ticks, given_up, it_is_passed_over, it_is_served, last_tick, line_after, no_line, no_tick, nothing_yet, pace_of, piece_after, rested, server, tick_after}
use Rattle.mqtt_serve.specs.turns.Wires.{Wire}
use Rattle.mqtt_serve.proofs.turns_lemmas.Silent.{let_go_said, silent_last, silent_lost, silent_read, silent_reached, silent_still, silent_then, silent_written}

module _ {K : Type 0} (g : Ghosts K) where
  -- ---- one after the other

  calls_then : (a b c : Serving K) → AreCalls g a b → AreCalls g b c → AreCalls g a c
  calls_then a b c first no_call = first
  calls_then a b c first (call_after {t} calls call) = call_after (calls_then a b t first calls) call

  -- where nothing is done everything is held back
  pub holds_still : (s : Server (Serving K)) → HoldsBack g s s
  holds_still s = record { calls = no_call; silent = silent_still s.wires }

  -- one after the other
  pub holds_then : (a b c : Server (Serving K)) → HoldsBack g a b → HoldsBack g b c → HoldsBack g a c
  holds_then a b c first next = record {
    calls = calls_then a.engine b.engine c.engine first.calls next.calls;
    silent = silent_then a.wires b.wires c.wires first.silent next.silent;
  }

  -- one call, whose answer reaches the connections
  holds_called : (a b : Server (Serving K)) → IsCalled g a.engine b.engine → NothingLeaves a.wires b.wires → HoldsBack g a b
  holds_called a b call silent = record { calls = call_after no_call call; silent = silent }

  -- no call, and the connections go on
  holds_quiet : (a b : Server (Serving K)) → b.engine ≡ a.engine → NothingLeaves a.wires b.wires → HoldsBack g a b
  holds_quiet a b same silent = record { calls = subst (AreCalls g a.engine) (sym same) no_call; silent = silent }

  -- ---- in a turn

  told_silent : (number : ℕ) (answer : Result Outcome EngineError) (old new : List Wire) → Tells number answer old new → NothingLeaves old new
  told_silent number (Ok out) old new told = silent_reached out.outputs.items out.closed.items old new told
  told_silent number (Err Memory) old new told = silent_lost number old new told
  told_silent number (Err Stopped) old new told = absurd told
  told_silent number (Err Spent) old new told = absurd told

  pieced : (now number : ℕ) (piece : List ℕ) (taken : ℕ) (again : Bool) (a b : Server (Serving K)) → IsPieced g now number piece taken again a b → HoldsBack g a b
  pieced now number piece taken again a b h =
      holds_called a b (piece_came now number piece h.answer h.called) (told_silent number h.answer a.wires b.wires h.told)

  given : (now place number : ℕ) (bytes : List ℕ) (a : Server (Serving K)) (count : ℕ) (others : List ℕ) (b : Server (Serving K))
      → GivenSoFar g now place number bytes a count others b → HoldsBack g a b
  given now place number bytes a count others b nothing_yet = holds_still a
  given now place number bytes a count others b (piece_after {n} {taken} {again} {rest} {mid} so_far piece is stands more) =
      holds_then a mid b (given now place number bytes a n rest mid so_far) (pieced now number rest taken again mid b piece)

  gives : (now place number : ℕ) (bytes : List ℕ) (a b : Server (Serving K)) → Gives g now place number bytes a b → HoldsBack g a b
  gives now place number bytes a b (all_given {n} {rest} {mid} so_far within last) =
      holds_then a mid b (given now place number bytes a n rest mid so_far) (pieced now number rest last.taken last.again mid b last.piece)
  gives now place number bytes a b (given_up {n} {rest} {mid} so_far is lost same) =
      holds_then a mid b (given now place number bytes a n rest mid so_far) (holds_quiet mid b same (silent_lost number mid.wires b.wires lost))

  gives_if : (now place number : ℕ) (bytes : List ℕ) (a b : Server (Serving K)) → GivesIf g now place number bytes a b → HoldsBack g a b
  gives_if now place number [] a b same = subst (HoldsBack g a) (sym same) (holds_still a)
  gives_if now place number (x ∷ bytes) a b h = gives now place number (x ∷ bytes) a b h

  pumps_if : (now number : ℕ) (b : Bool) (s t : Server (Serving K)) → PumpsIf g now number b s t → HoldsBack g s t
  pumps_if now number false s t same = subst (HoldsBack g s) (sym same) (holds_still s)
  pumps_if now number true s t h = holds_called s t (was_asked now _ h.answer h.called) (told_silent number h.answer s.wires t.wires h.told)

  loses_if : (now number : ℕ) (b : Bool) (s t : Server (Serving K)) → LosesIf g now number b s t → HoldsBack g s t
  loses_if now number false s t same = subst (HoldsBack g s) (sym same) (holds_still s)
  loses_if now number true s t h = holds_called s t (was_asked now _ h.answer h.called) (told_silent number h.answer s.wires t.wires h.told)

  line_served : (now place : ℕ) (moved : Bool) (a b : Server (Serving K)) → ServesLine g now place moved a b → HoldsBack g a b
  line_served now place moved a b h =
      let heard = server a.engine h.heard in
      let wrote = server h.sent.engine h.written in
      holds_then a heard b (holds_quiet a heard refl (silent_read place _ h.bytes a.wires h.heard h.reads.reads))
      (holds_then heard h.given b (gives_if now place h.number h.bytes heard h.given h.gives)
      (holds_then h.given h.sent b (pumps_if now h.number _ h.given h.sent h.pumps)
      (holds_then h.sent wrote b (holds_quiet h.sent wrote refl (silent_written place h.wrote h.sent.wires h.written h.writes))
      (loses_if now h.number _ wrote b h.loses))))

  turn_had : (pace : Pace) (now place : ℕ) (moved : Bool) (a b : Server (Serving K)) → HasItsTurn g pace now place moved a b → HoldsBack g a b
  turn_had pace now place moved a b (it_is_served line) = line_served now place moved a b line
  turn_had pace now place moved a b (it_is_passed_over brisk rests) = holds_still a

  lines_served : (pace : Pace) (now limit : ℕ) (some : Bool) (a b : Server (Serving K)) → ServesBelow g pace now limit some a b → HoldsBack g a b
  lines_served pace now limit some a b no_line = holds_still a
  lines_served pace now limit some a b (line_after {place} {busy} {moved} {t} before line) =
      holds_then a t b (lines_served pace now place busy a t before) (turn_had pace now place moved t b line)

  tick_silent : (answer : Result Outcome EngineError) (old new : List Wire) → TicksBy answer old new → NothingLeaves old new
  tick_silent (Ok out) old new told = silent_reached out.outputs.items out.closed.items old new told
  tick_silent (Err Memory) old new told = subst (NothingLeaves old) (sym told) (silent_still old)
  tick_silent (Err Stopped) old new told = absurd told
  tick_silent (Err Spent) old new told = absurd told

  ticked : (now : ℕ) (again : Bool) (a b : Server (Serving K)) → IsTicked g now again a b → HoldsBack g a b
  ticked now again a b h = holds_called a b (was_asked now _ h.answer h.called) (tick_silent h.answer a.wires b.wires h.told)

  ticked_so_far : (now : ℕ) (a : Server (Serving K)) (count : ℕ) (b : Server (Serving K)) → TickedSoFar g now a count b → HoldsBack g a b
  ticked_so_far now a count b no_tick = holds_still a
  ticked_so_far now a count b (tick_after {n} {mid} before tick) = holds_then a mid b (ticked_so_far now a n mid before) (ticked now true mid b tick)

  ticks : (now limit : ℕ) (a b : Server (Serving K)) → Ticks g now limit a b → HoldsBack g a b
  ticks now limit a b (last_tick {n} {mid} before within tick) = holds_then a mid b (ticked_so_far now a n mid before) (ticked now false mid b tick)
  ticks now limit a b (enough_ticks {n} before is) = ticked_so_far now a n b before

  all_served : (pace : Pace) (now : ℕ) (moved : Bool) (a b : Server (Serving K)) → ServesAll g pace now moved a b → HoldsBack g a b
  all_served pace now moved a b h =
      holds_then a h.served b (lines_served pace now _ moved a h.served h.serves)
      (holds_then h.served h.ticked b (ticks now _ h.served h.ticked h.ticks)
      (holds_quiet h.ticked b h.same (silent_last h.ticked.wires b.wires h.writes)))

  accepted : (now : ℕ) (came : Bool) (a b : Server (Serving K)) → Accepts g now came a b → HoldsBack g a b
  accepted now false a b same = subst (HoldsBack g a) (sym same) (holds_still a)
  accepted now true a b (inl h) = record {
    calls = call_after no_call (line_linked now (Some h.number) h.called);
    silent = record { came = h.wire ∷ []; unsent = (h.opened.unsent, tt); same = ap (map gone) h.comes };
  }
  accepted now true a b (inr (inl h)) = record {
    calls = call_after no_call (line_linked now None h.called);
    silent = subst (NothingLeaves a.wires) (sym h.same) (silent_still a.wires);
  }
  accepted now true a b (inr (inr h)) = subst (HoldsBack g a) (sym h.same) (holds_still a)

  turn_held : (pace : Pace) (now : ℕ) (busy : Bool) (h i : Hosting (Serving K)) → ServedTurn g pace now busy h i
      → HoldsBack g (server h.engine h.links.wires) (server i.engine i.links.wires)
  turn_held pace now busy h i turn =
      holds_then (server h.engine h.links.wires) turn.accepted (server i.engine i.links.wires)
      (accepted now turn.came (server h.engine h.links.wires) turn.accepted turn.accepts)
      (all_served pace now turn.moved turn.accepted (server i.engine i.links.wires) turn.serves)

  -- up to the storing of a stretch everything is held back
  pub together_held : (begin : ℕ) (moments : List ℕ) (at : ℕ) (some : Bool) (old new : Hosting (Serving K)) → Together g begin moments at some old new
      → HoldsBack g (server old.engine old.links.wires) (server new.engine new.links.wires)
  together_held begin moments at some old new not_begun = holds_still (server old.engine old.links.wires)
  together_held begin moments at some old new (turn_more {read} {last} now {busy} {i} turns turn) =
      holds_then (server old.engine old.links.wires) (server i.engine i.links.wires) (server new.engine new.links.wires)
      (together_held begin read last true old i turns) (turn_held (pace_of last now) (max last now) busy i new turn)

  -- ---- in a turn that breaks off

  refused_held : (a b : Server (Serving K)) → IsCalled g a.engine b.engine → b.wires ≡ a.wires → HoldsBack g a b
  refused_held a b call same = holds_called a b call (subst (NothingLeaves a.wires) (sym same) (silent_still a.wires))

  line_broken : (now place : ℕ) (error : EngineError) (a b : Server (Serving K)) → BreaksLine g now place error a b → HoldsBack g a b
  line_broken now place error a b (inl h) =
      let heard = server a.engine h.heard in
      holds_then a heard b (holds_quiet a heard refl (silent_read place _ h.bytes a.wires h.heard h.reads.reads))
      (holds_then heard h.breaks.mid b (given now place h.number h.bytes heard h.breaks.n h.breaks.rest h.breaks.mid h.breaks.so_far)
      (refused_held h.breaks.mid b (piece_came now h.number h.breaks.rest (Err error) h.breaks.refused.called) h.breaks.refused.same))
  line_broken now place error a b (inr (inl h)) =
      let heard = server a.engine h.heard in
      holds_then a heard b (holds_quiet a heard refl (silent_read place _ h.bytes a.wires h.heard h.reads.reads))
      (holds_then heard h.given b (gives_if now place h.number h.bytes heard h.given h.gives)
      (refused_held h.given b (was_asked now _ (Err error) h.refused.called) h.refused.same))
  line_broken now place error a b (inr (inr h)) =
      let heard = server a.engine h.heard in
      let wrote = server h.sent.engine h.written in
      holds_then a heard b (holds_quiet a heard refl (silent_read place _ h.bytes a.wires h.heard h.reads.reads))
      (holds_then heard h.given b (gives_if now place h.number h.bytes heard h.given h.gives)
      (holds_then h.given h.sent b (pumps_if now h.number _ h.given h.sent h.pumps)
      (holds_then h.sent wrote b (holds_quiet h.sent wrote refl (silent_written place h.wrote h.sent.wires h.written h.writes))
      (refused_held wrote b (was_asked now _ (Err error) h.refused.called) h.refused.same))))

  all_broken : (pace : Pace) (now : ℕ) (error : EngineError) (a b : Server (Serving K)) → BreaksAll g pace now error a b → HoldsBack g a b
  all_broken pace now error a b (inl h) = holds_then a h.mid b (lines_served pace now h.place h.moved a h.mid h.serves) (line_broken now h.place error h.mid b h.breaks)
  all_broken pace now error a b (inr h) =
      holds_then a h.mid b (lines_served pace now _ h.moved a h.mid h.serves)
      (holds_then h.mid h.breaks.mid b (ticked_so_far now h.mid h.breaks.n h.breaks.mid h.breaks.so_far)
      (refused_held h.breaks.mid b (was_asked now _ (Err error) h.breaks.refused.called) h.breaks.refused.same))

  -- through a stretch that breaks off everything is held back
  pub broken_held : (begin : ℕ) (read : List ℕ) (error : EngineError) (old new : Hosting (Serving K)) → StretchBreaksOff g begin read error old new
      → HoldsBack g (server old.engine old.links.wires) (server new.engine new.links.wires)
  broken_held begin read error old new (inl h) =
      let turn = h.breaks in
      holds_then _ (server h.mid.engine h.mid.links.wires) _ (together_held begin h.first h.last true old h.mid h.turns)
      (holds_then _ turn.accepted _ (accepted (max h.last h.now) turn.came _ turn.accepted turn.accepts)
      (all_broken (pace_of h.last h.now) (max h.last h.now) error turn.accepted _ turn.breaks))
  broken_held begin read error old new (inr h) =
      holds_then _ (server h.served.engine h.served.links.wires) _ (together_held begin read h.last h.moved old h.served h.turns)
      (refused_held _ _ (was_told (Err error) h.stores.called) h.stores.same)

  -- ---- what a crash leaves

  sound_before : (a b : Serving K) → IsCalled g a b → g.is_sound b.running.keep → g.is_sound a.running.keep
  sound_before a b (line_linked now result called) sound = subst (λ (r : Running K). g.is_sound r.keep) called.same sound
  sound_before a b (piece_came now number piece result called) sound = called.sound sound
  sound_before a b (was_asked now call result called) sound = called.called.sound sound
  sound_before a b (was_told result called) sound = called.called.sound sound

  running_or_not : (s : Bool) → (s ≡ true) ⊎ (s ≡ false)
  running_or_not true = inl refl
  running_or_not false = inr refl

  crash_of_call : (a b : Serving K) (call : IsCalled g a b) (left : Records) → g.is_sound b.running.keep → g.leaves b.running.keep left
      → g.leaves a.running.keep left ⊎ IsLeftByCall call left
  crash_of_call a b (line_linked now result called) left sound may = inl (subst (λ (r : Running K). g.leaves r.keep left) called.same may)
  crash_of_call a b (piece_came now number piece result called) left sound may = elim (running_or_not a.running.stopped) [
    | inl stopped ↦ inl (subst (λ (s : Serving K). g.leaves s.running.keep left) (called.still stopped).1 may)
    | inr runs ↦ (called.truly sound).crash runs left may
  ]
  crash_of_call a b (was_asked now call result called) left sound may = elim (running_or_not a.running.stopped) [
    | inl stopped ↦ inl (subst (λ (r : Running K). g.leaves r.keep left) (called.called.still stopped).1 may)
    | inr runs ↦ (called.called.truly sound).crash runs left may
  ]
  crash_of_call a b (was_told result called) left sound may = elim (running_or_not a.running.stopped) [
    | inl stopped ↦ inl (subst (λ (r : Running K). g.leaves r.keep left) (called.called.still stopped).1 may)
    | inr runs ↦ (called.called.truly sound).crash runs left may
  ]

  module _ (leaves_held : (keep : K) (left r : Records) → g.is_settled keep → g.holds keep r → g.leaves keep left → left ≡ r) where
    -- of an engine whose steps are all stored
    pub crash_settled : (s : Serving K) (left : Records) → IsAllStored g s → g.is_sound s.running.keep → g.leaves s.running.keep left → left ≡ stored s.running.broker
    crash_settled s left all sound may = leaves_held s.running.keep left s.running.broker.records (all sound).settled (all sound).holds may

    -- and of calls since then
    pub crash_since : (a b : Serving K) (calls : AreCalls g a b) (left : Records) → IsAllStored g a → g.is_sound b.running.keep → g.leaves b.running.keep left
        → IsLeftSince calls left
    crash_since a b no_call left all sound may = crash_settled a left all sound may
    crash_since a b (call_after {t} calls call) left all sound may = elim (crash_of_call t b call left sound may) [
      | inl before ↦ inl (crash_since a t calls left all (sound_before t b call sound) before)
      | inr by ↦ inr by
    ]

  -- ---- once the steps are stored

  -- once its steps are stored an engine has nothing that waits to be written
  pub all_stored : (went : Bool) (a b : Server (Serving K)) → IsStored g went a b → IsAllStored g b.engine
  all_stored went a b h sound =
      let called = h.called.called in
      let truly = called.truly sound in
      record {
        runs = called.runs (λ e. cc);
        holds = subst (g.holds b.engine.running.keep) (sym (ap (λ (x : Broker). x.records) (truly.broker (λ e. cc)))) (truly.holds (λ e. cc));
        settled = called.settled;
      }

  there_too : (k : ℕ) (xs ys : List Wire) (y : Wire) → length xs ≡ length ys → slice_get ys k ≡ Some y → (x : Wire) × (slice_get xs k ≡ Some x)
  there_too k [] [] y len at = absurd cc
  there_too k [] (z ∷ ys) y len at = absurd cc
  there_too k (x ∷ xs) [] y len at = absurd cc
  there_too zero (x ∷ xs) (z ∷ ys) y len at = (x, refl)
  there_too (suc k) (x ∷ xs) (z ∷ ys) y len at = there_too k xs ys y (omega (arith, len)) at

  let_go_len : (n : ℕ) (some : Bool) (xs ys : List Wire) → LetsGoBelow n some xs ys → length xs ≡ length ys
  let_go_len n some xs ys none_yet = refl
  let_go_len n some xs ys (one_after {place} {busy} {mid} before last) = let_go_len place busy xs mid before ∙ last.len

  let_go_below : (n : ℕ) (some : Bool) (xs ys : List Wire) → LetsGoBelow n some xs ys → (k : ℕ) (w : Wire) → k < n → slice_get ys k ≡ Some w → WasSaid w
  let_go_below n some xs ys none_yet k w below at = absurd (omega (arith, below))
  let_go_below n some xs ys (one_after {place} {busy} {went} {mid} before last) k w below at = elim (here k) [
    | inl is ↦
        let at_place = subst (λ m. slice_get ys m ≡ Some w) is at in
        let was = there_too place mid ys w last.len at_place in
        let_go_said went was.0 w (last.here was.0 w was.1 at_place)
    | inr other ↦ let_go_below place busy xs mid before k w (omega (arith, below, other)) (sym (last.elsewhere k other) ∙ at)
  ]
    where
      here : (k : ℕ) → (k ≡ place) ⊎ (k ≢ place)
      here k = grind (arith)

  within : (k : ℕ) (x : Wire) (zs : List Wire) → slice_get zs k ≡ Some x → k < length zs
  within k x [] at = cc
  within zero x (z ∷ zs) at = omega arith
  within (suc k) x (z ∷ zs) at = omega (arith, within k x zs at)

  -- what left a connection was said to it
  pub stored_said : (went : Bool) (a b : Server (Serving K)) (stores : IsStored g went a b) (k : ℕ) (w : Wire) → slice_get stores.after k ≡ Some w → WasSaid w
  stored_said went a b stores k w at =
      let_go_below (length a.wires) went a.wires stores.after stores.lets k w
      (omega (arith, within k w stores.after at, let_go_len (length a.wires) went a.wires stores.after stores.lets)) at

  -- ---- stretches one after the other

  stretch_since : (begin : ℕ) (read : List ℕ) (last : ℕ) (busy : Bool) (h i : Hosting (Serving K)) → IsHeldSince g (server h.engine h.links.wires)
      → Stretch g begin read last busy h i → IsHeldSince g (server i.engine i.links.wires)
  stretch_since begin read last busy h i since stretch = go stretch.stores
    where
      served : Hosting (Serving K)
      served = stretch.served

      go : IsStoredOrPutOff g stretch.went (server served.engine served.links.wires) (server i.engine i.links.wires) → IsHeldSince g (server i.engine i.links.wires)
      go (inl s) = record {
        then = server i.engine i.links.wires;
        stored = all_stored stretch.went (server served.engine served.links.wires) (server i.engine i.links.wires) s;
        holds = holds_still (server i.engine i.links.wires);
      }
      go (inr off) = record {
        then = since.then;
        stored = since.stored;
        holds = holds_then since.then (server h.engine h.links.wires) (server i.engine i.links.wires) since.holds
            (holds_then (server h.engine h.links.wires) (server served.engine served.links.wires) (server i.engine i.links.wires)
            (together_held begin read last stretch.moved h served stretch.turns)
            (refused_held (server served.engine served.links.wires) (server i.engine i.links.wires) (was_told (Err Memory) off.called) off.same));
      }

  rested_wires : (busy : Bool) (h : Hosting (Serving K)) → (rested busy h.links).wires ≡ h.links.wires
  rested_wires true h = refl
  rested_wires false h = refl

  -- so it is after any number of them
  pub stretches_since : (begin : ℕ) (moments : List ℕ) (at : ℕ) (old new : Hosting (Serving K)) → IsAllStored g old.engine
      → Stretches g begin moments at old new → IsHeldSince g (server new.engine new.links.wires)
  stretches_since begin moments at old new all no_stretch =
      record { then = server old.engine old.links.wires; stored = all; holds = holds_still (server old.engine old.links.wires) }
  stretches_since begin moments at old new all (stretch_after {read} {more} {last} {next} {busy} {at_once} {i} j before stretch _) =
      subst (λ (ws : List Wire). IsHeldSince g (server j.engine ws)) (sym (rested_wires at_once j))
      (stretch_since last more next busy i j (stretches_since begin read last old i all before) stretch)
