-- Bytes that are given to the broker on a line that holds nothing, and begin with a packet or a fault of which nothing is left,
-- are one call (MQTT 5.0, 2.1, 4.13).
use Rattle.std.proofs.Common.{◌≡◌, ℕ, ◌-◌, ◌≤◌, min, length, Bool, true, false, cond, not, List, [], ◌∷◌, ◌++◌, drop, filter, filter_map, take, Option, Some, None, nat_eq, IfOk, OnOk, refl, sym, ap, subst, ◌∙◌, arith}
use Rattle.std.specs.Prelude.{Result, Ok, Err}
use Rattle.std.specs.List.{AllByRecursion}
use Rattle.std.proofs.Math.Seq.{take-length}
use Rattle.std.proofs.lemmas.Bool.{eqb-true}
use Rattle.std.proofs.lemmas.Cmp.{nat_eq_equiv}
use Rattle.mqtt_base.specs.declared.limits.TheConstants.{LAST_NUMBER, PACKET_LIMIT}
use Rattle.mqtt_packet.specs.declared.codec.packet.Packet.{Packet}
use Rattle.mqtt_packet.specs.parts.Faults.{answer_to}
use Rattle.mqtt_packet.specs.codec.Packets.{HasSpelling}
use Rattle.mqtt_packet.specs.stream.Front.{first_of, size_at}
use Rattle.mqtt_packet.specs.stream.Stream.{Framing}
use Rattle.mqtt_keep.specs.declared.keeping.keep.Keep.{Ghosts}
use Rattle.mqtt_world_model.specs.model.Tellings.{Telling}
use Rattle.mqtt_world_model.specs.model.World.{held_after, held_by}
use Rattle.mqtt_broker.specs.stored.Calling.{Tells}
use Rattle.mqtt_rules.proofs.step_lemmas.acts.OnLines.{found_number}
use Rattle.mqtt_broker.specs.declared.stored.outcome.Outcome.{Outcome}
use Rattle.mqtt_broker.specs.engine.Piece.{IsPieceAnswered, IsPieceAnsweredForLines, PieceCalled, for_broker}
use Rattle.mqtt_rules.specs.step.Piece.{Front, PieceStep, Pieced, begins_connect, bytes_taken, code_of, call_by, call_on, fed, first_call, held_on, is_spent_if, stepped_if, told_if, without_by, without_first}
use Rattle.mqtt_rules.specs.step.State.{Broker, Env, Line, MemberChoice, line_at}
use Rattle.mqtt_rules.specs.step.Step.{BadInput, Call, Input, at_moment, deeds, env_of, is_step_spent, nothing_told, on_fault, stepped, told, Outcome as Answer}
use Rattle.mqtt_rules.specs.step.Deeds.{closing}
use Rattle.mqtt_rules.specs.declared.step.Capacity.{Capacity}
use Rattle.mqtt_broker_step.specs.declared.call.EngineError.{EngineError}
use Rattle.mqtt_broker.specs.engine.Serving.{Serving, has_closed, without_closed}
use Rattle.mqtt_broker.specs.engine.Framers.{HeldLine, changed_at, framing_at, framing_of, in_framing, line_of}
use Rattle.mqtt_records.specs.lists.Order.{row_at}
use Rattle.mqtt_world.specs.declared.scene.over.Over.{Over}
use Rattle.mqtt_world.specs.clients.Ends.{Ends}
use Rattle.mqtt_world_laws.specs.knowing.Knowing.{AllIsUnderstood, IsUnderstood, OnEachEnd}
use Rattle.mqtt_world.specs.clients.Telling.{AreSpelled, ends_told}
use Rattle.mqtt_world.specs.scene.Scenes.{Calls, HoldNone, IsPlayable, IsTrulyCall, Played}
use Rattle.mqtt_world.proofs.scene_lemmas.Answered.{kept_none, none_held, spent_capped, stepped_capped, told_capped, told_count}

-- ---- what a line holds

nothing_first : first_of [] ≡ Ok None
unfolding first_of size_at
nothing_first = refl

all_taken : (piece xs : List ℕ) → xs ≡ [] → length piece ≤ PACKET_LIMIT → xs ++ take (bytes_taken xs piece) piece ≡ piece
all_taken piece xs none within = subst (λ (ys : List ℕ). ys ++ take (bytes_taken ys piece) piece ≡ piece) (sym none) at
  where
    count : (n : ℕ) → n ≤ PACKET_LIMIT → min n (PACKET_LIMIT - 0) ≡ n
    count n le = omega (arith, le)

    at : take (bytes_taken [] piece) piece ≡ piece
    at = rw nothing_first (ap (λ (n : ℕ). take n piece) (count (length piece) within) ∙ take-length piece)

none_in : (line : ℕ) (hs : List HeldLine) → HoldNone hs → (framing_of (row_at line_of line hs)).held ≡ []
none_in line [] h = refl
none_in line (x ∷ hs) h = one (nat_eq x.line line) (none_in line hs h.1)
  where
    one : (t : Bool) → (framing_of (row_at line_of line hs)).held ≡ [] → (framing_of (cond t (Some x) (row_at line_of line hs))).held ≡ []
    one true rest = h.0
    one false rest = rest

changed_none : (line : ℕ) (f : Framing) (hs : List HeldLine) → f.held ≡ [] → HoldNone hs → HoldNone (changed_at line (λ x. f) hs)
changed_none line f [] none h = tt
changed_none line f (x ∷ hs) none h = one (nat_eq x.line line) (changed_none line f hs none h.1)
  where
    one : (t : Bool) → HoldNone (changed_at line (λ x. f) hs) → HoldNone (cond t (in_framing (λ x. f) x ∷ hs) (x ∷ changed_at line (λ x. f) hs))
    one true rest = (none, h.1)
    one false rest = (h.0, rest)

-- the line's own is kept no longer, and no other was changed
gone_none : (line : ℕ) (f : Framing) (keeps : HeldLine → Bool) (hs : List HeldLine) → ((x : HeldLine) → x.line ≡ line → keeps x ≡ false) → HoldNone hs → HoldNone (filter keeps (changed_at line (λ x. f) hs))
gone_none line f keeps [] goes h = tt
gone_none line f keeps (x ∷ hs) goes h = one (nat_eq x.line line) refl (gone_none line f keeps hs goes h.1)
  where
    one : (t : Bool) → nat_eq x.line line ≡ t → HoldNone (filter keeps (changed_at line (λ x. f) hs)) → HoldNone (filter keeps (cond t (in_framing (λ x. f) x ∷ hs) (x ∷ changed_at line (λ x. f) hs)))
    one true e rest = rw (goes (in_framing (λ x. f) x) (eqb-true x.line line e)) (none_held keeps hs h.1)
    one false e rest = kept_none (keeps x) x (filter keeps (changed_at line (λ x. f) hs)) h.0 rest

-- ---- a fault closes its line

fault_told : (env : Env) (l : Line) (is_connect : Bool) (code : ℕ) (session : Option ℕ) (b : Broker) → has_closed (filter_map closing (on_fault env l is_connect code session b)) l.number ≡ true
fault_told env l true code None b = rw (nat_eq_equiv.refl l.number) refl
fault_told env l false code None b = rw (nat_eq_equiv.refl l.number) refl
fault_told env l true code (Some birth) b = rw (nat_eq_equiv.refl l.number) refl
fault_told env l false code (Some birth) b = rw (nat_eq_equiv.refl l.number) refl

fault_closed : (limits : Capacity) (choice : MemberChoice) (now line : ℕ) (is_connect : Bool) (code : ℕ) (b : Broker) (l : Line) → line_at line b ≡ Some l
    → has_closed (told limits choice now (BadInput line is_connect code) b).closed line ≡ true
fault_closed limits choice now line is_connect code b l there =
    subst (λ (n : ℕ). has_closed (told limits choice now (BadInput line is_connect code) b).closed n ≡ true) (found_number line l b.lines there)
    (rw there (fault_told (env_of limits choice b) l is_connect code l.session (at_moment now b)))

-- ---- the step of a piece is that of its call

abbrev with_told : Broker → Ends → List (ℕ × Packet) → List (ℕ × Packet) → List ℕ → Ends
with_told b e wires outputs closed = ends_told b (record nothing_told { outputs = outputs; wires = wires; closed = closed }) e

module _ {K : Type 0} (g : Ghosts K) (now line : ℕ) (call : Call) (piece : List ℕ) (old new : Played K) (out : Outcome) where
  abbrev limits : Capacity
  limits = old.engine.running.limits

  abbrev b : Broker
  b = old.engine.running.broker

  abbrev m : ℕ
  m = min now LAST_NUMBER

  -- what is known of a piece that is answered: for some choice the state and the answer are those of the call
  record IsCallOf (choice : MemberChoice) (broker : Broker) (answer : Answer) : Type 0 where
    unspent : is_step_spent limits choice m call b ≡ false
    broker_is : broker ≡ stepped limits choice m call b
    outputs : answer.outputs ≡ (told limits choice m call b).outputs
    wires : answer.wires ≡ (told limits choice m call b).wires
    closed : answer.closed ≡ (told limits choice m call b).closed
    reports : answer.reports ≡ (told limits choice m call b).reports

  abbrev framing : Framing
  framing = framing_at line old.engine.held

  asked : (l : Line) → line_at line b ≡ Some l → HoldNone old.engine.held → length piece ≤ PACKET_LIMIT → first_call line piece ≡ Some call → call_on (line_at line b) piece framing ≡ Some call
  asked l there none within asks =
      ap (λ (o : Option Line). call_on o piece framing) there
      ∙ ap (λ (xs : List ℕ). first_call l.number xs) (all_taken piece framing.held (none_in line old.engine.held none) within)
      ∙ ap (λ (n : ℕ). first_call n piece) (found_number line l b.lines there)
      ∙ asks

  of_linked : (after_ : Pieced) (s : PieceStep limits b m line piece framing after_) → call_on (line_at line b) piece framing ≡ Some call → IsCallOf s.choice after_.broker after_.out
  of_linked after_ s asks = record {
    unspent = sym (ap (λ (o : Option Call). is_spent_if limits s.choice m o b) asks) ∙ s.unspent;
    broker_is = ap (λ (x : Pieced). x.broker) s.is ∙ ap (λ (o : Option Call). stepped_if limits s.choice m o b) asks;
    outputs = ap (λ (x : Pieced). x.out.outputs) s.is ∙ ap (λ (o : Option Call). (told_if limits s.choice m o b).outputs) asks;
    wires = ap (λ (x : Pieced). x.out.wires) s.is ∙ ap (λ (o : Option Call). (told_if limits s.choice m o b).wires) asks;
    closed = ap (λ (x : Pieced). x.out.closed) s.is ∙ ap (λ (o : Option Call). (told_if limits s.choice m o b).closed) asks;
    reports = ap (λ (x : Pieced). x.out.reports) s.is ∙ ap (λ (o : Option Call). (told_if limits s.choice m o b).reports) asks;
  }

  -- on a line that is not linked nothing is done
  of_unlinked : (after_ : Pieced) (s : PieceStep limits b m line piece framing after_) → line_at line b ≡ None → first_call line piece ≡ Some call → IsCallOf s.choice after_.broker after_.out
  of_unlinked after_ s none asks = by (first_of piece) refl
    where
      nothing : (c : Call) → c ≡ call → (deeds limits s.choice m c b ≡ []) → IsCallOf s.choice after_.broker after_.out
      nothing c same none_done =
          let ds : deeds limits s.choice m call b ≡ [] = subst (λ (x : Call). deeds limits s.choice m x b ≡ []) same none_done in
          let quiet = ap (λ (o : Option Line). call_on o piece framing) none in
          record {
            unspent = rw ds refl;
            broker_is = ap (λ (x : Pieced). x.broker) s.is ∙ ap (λ (o : Option Call). stepped_if limits s.choice m o b) quiet ∙ sym (rw ds refl);
            outputs = ap (λ (x : Pieced). x.out.outputs) s.is ∙ ap (λ (o : Option Call). (told_if limits s.choice m o b).outputs) quiet ∙ sym (rw ds refl);
            wires = ap (λ (x : Pieced). x.out.wires) s.is ∙ ap (λ (o : Option Call). (told_if limits s.choice m o b).wires) quiet ∙ sym (rw ds refl);
            closed = ap (λ (x : Pieced). x.out.closed) s.is ∙ ap (λ (o : Option Call). (told_if limits s.choice m o b).closed) quiet ∙ sym (rw ds refl);
            reports = ap (λ (x : Pieced). x.out.reports) s.is ∙ ap (λ (o : Option Call). (told_if limits s.choice m o b).reports) quiet ∙ sym (rw ds refl);
          }

      some_inj : {x y : Call} → Some x ≡ Some y → x ≡ y
      some_inj e = cc

      by : (front : Front) → first_of piece ≡ front → IsCallOf s.choice after_.broker after_.out
      by (Ok None) e = let clash : None ≡ Some call = sym (ap (call_by line piece) e) ∙ asks in absurd cc
      by (Ok (Some x)) e = nothing (Input line x.0) (some_inj (sym (ap (call_by line piece) e) ∙ asks)) (rw none refl)
      by (Err fault) e = nothing (BadInput line _ _) (some_inj (sym (ap (call_by line piece) e) ∙ asks)) (rw none refl)

  of_any : (after_ : Pieced) (s : PieceStep limits b m line piece framing after_) → HoldNone old.engine.held → length piece ≤ PACKET_LIMIT → first_call line piece ≡ Some call → IsCallOf s.choice after_.broker after_.out
  of_any after_ s none within asks = by (line_at line b) refl
    where
      by : (o : Option Line) → line_at line b ≡ o → IsCallOf s.choice after_.broker after_.out
      by None e = of_unlinked after_ s e asks
      by (Some l) e = of_linked after_ s (asked l e none within asks)

  -- ---- its line holds nothing then

  closed_if : (choice : MemberChoice) (closed : List ℕ) (l : Line) (is_connect : Bool) (code : ℕ) → line_at line b ≡ Some l → BadInput line is_connect code ≡ call → closed ≡ (told limits choice m call b).closed → has_closed closed line ≡ true
  closed_if choice closed l is_connect code there same is =
      subst (λ (cs : List ℕ). has_closed cs line ≡ true) (sym is)
      (subst (λ (c : Call). has_closed (told limits choice m c b).closed line ≡ true) same (fault_closed limits choice m line is_connect code b l there))

  same_call : {x y : Call} → Some x ≡ Some y → x ≡ y
  same_call e = cc

  not_true : {t : Bool} → t ≡ true → not t ≡ false
  not_true e = rw e refl

  clear_after : (after_ : Pieced) (s : PieceStep limits b m line piece framing after_) → HoldNone old.engine.held → length piece ≤ PACKET_LIMIT → held_after piece ≡ [] → first_call line piece ≡ Some call → out.closed.items ≡ after_.out.closed
      → HoldNone (without_closed out.closed.items (changed_at line (λ x. after_.framing) old.engine.held))
  clear_after after_ s none within left asks closed_is = by (line_at line b) refl
    where
      keeps : HeldLine → Bool
      keeps h = not (has_closed out.closed.items h.line)

      emptied : after_.framing.held ≡ [] → HoldNone (filter keeps (changed_at line (λ x. after_.framing) old.engine.held))
      emptied e = none_held keeps (changed_at line (λ x. after_.framing) old.engine.held) (changed_none line after_.framing old.engine.held e none)

      F : Framing
      F = fed piece framing

      F_held : F.held ≡ piece
      F_held = all_taken piece framing.held (none_in line old.engine.held none) within

      on : (l : Line) → line_at line b ≡ Some l → (front : Front) → first_of piece ≡ front → HoldNone (filter keeps (changed_at line (λ x. after_.framing) old.engine.held))
      on l there (Ok None) e = let clash : None ≡ Some call = sym (ap (call_by line piece) e) ∙ asks in absurd cc
      on l there (Ok (Some x)) e =
          let at : after_.framing ≡ without_first F = ap (λ (y : Pieced). y.framing) s.is ∙ ap (λ (o : Option Line). held_on o piece framing) there in
          let rest : (without_first F).held ≡ drop x.1 F.held = ap (λ (front : Front). (without_by front F).held) (ap first_of F_held ∙ e) in
          let gone : drop x.1 piece ≡ [] = sym (ap (λ (front : Front). held_by front piece) e) ∙ left in
          emptied (ap (λ (f : Framing). f.held) at ∙ rest ∙ ap (λ (ys : List ℕ). drop x.1 ys) F_held ∙ gone)
      on l there (Err fault) e =
          let same : BadInput line (begins_connect piece) (code_of (answer_to fault)) ≡ call = same_call (sym (ap (call_by line piece) e) ∙ asks) in
          let its : has_closed out.closed.items line ≡ true = closed_if s.choice out.closed.items l (begins_connect piece) (code_of (answer_to fault)) there same (closed_is ∙ (of_linked after_ s (asked l there none within asks)).closed) in
          gone_none line after_.framing keeps old.engine.held (λ h at. not_true (ap (has_closed out.closed.items) at ∙ its)) none

      by : (o : Option Line) → line_at line b ≡ o → HoldNone (filter keeps (changed_at line (λ x. after_.framing) old.engine.held))
      by None e = emptied (ap (λ (y : Pieced). y.framing.held) s.is ∙ ap (λ (o : Option Line). (held_on o piece framing).held) e ∙ none_in line old.engine.held none)
      by (Some l) e = on l e (first_of piece) refl

  -- ---- so it is that call

  truly_given : (t : Telling) (mid : Serving K) → IsPieceAnswered m line piece old.engine out mid → HoldNone old.engine.held → length piece ≤ PACKET_LIMIT → first_call line piece ≡ Some call → new.engine ≡ mid
      → ((answer : Answer) → Tells answer out → AreSpelled answer → AllIsUnderstood answer old.ends.publishers old.ends.receivers → new.ends ≡ ends_told mid.running.broker answer old.ends)
      → ((answer : Answer) → Tells answer out → t ≡ record { reports = answer.reports; out = length answer.wires })
      → IsTrulyCall now call old t new
  truly_given t mid a none within asks same ends tells =
      let choice = a.step.choice in
      let x : IsCallOf choice a.after.broker a.after.out = of_any a.after a.step none within asks in
      let now_told : told limits choice m call b ≡ told limits choice now call b = told_capped limits choice now call b in
      let outputs : a.after.out.outputs ≡ (told limits choice now call b).outputs = x.outputs ∙ ap (λ (y : Answer). y.outputs) now_told in
      let wires : a.after.out.wires ≡ (told limits choice now call b).wires = x.wires ∙ ap (λ (y : Answer). y.wires) now_told in
      let closed : a.after.out.closed ≡ (told limits choice now call b).closed = x.closed ∙ ap (λ (y : Answer). y.closed) now_told in
      let reports : a.after.out.reports ≡ (told limits choice now call b).reports = x.reports ∙ ap (λ (y : Answer). y.reports) now_told in
      let mid_is : mid.running.broker ≡ stepped limits choice now call b = a.broker ∙ x.broker_is ∙ stepped_capped limits choice now call b in
      let to : Broker = stepped limits choice now call b in
      record {
        choice = choice;
        unspent = sym (spent_capped limits choice now call b) ∙ x.unspent;
        broker = ap (λ (e : Serving K). e.running.broker) same ∙ mid_is;
        ends = λ spelled goes.
            let first = ends a.after.out a.tells (subst (λ (os : List (ℕ × Packet)). AllByRecursion (λ (y : ℕ × Packet). HasSpelling y.1) os) (sym outputs) spelled)
            (subst (λ (ws : List (ℕ × Packet)). OnEachEnd (λ e. IsUnderstood ws a.after.out.outputs e.number e.known) old.ends.publishers old.ends.receivers) (sym wires)
            (subst (λ (os : List (ℕ × Packet)). OnEachEnd (λ e. IsUnderstood (told limits choice now call b).wires os e.number e.known) old.ends.publishers old.ends.receivers) (sym outputs) goes)) in
            first ∙ ap (λ (z : Broker). ends_told z a.after.out old.ends) mid_is
            ∙ ap (λ (ws : List (ℕ × Packet)). with_told to old.ends ws a.after.out.outputs a.after.out.closed) wires
            ∙ ap (λ (os : List (ℕ × Packet)). with_told to old.ends (told limits choice now call b).wires os a.after.out.closed) outputs
            ∙ ap (λ (cs : List ℕ). with_told to old.ends (told limits choice now call b).wires (told limits choice now call b).outputs cs) closed;
        told_is = tells a.after.out a.tells
            ∙ ap (λ (ws : List (ℕ × Packet)). record { reports = a.after.out.reports; out = length ws }) wires
            ∙ ap (λ rs. record { reports = rs; out = length (told limits choice now call b).wires }) reports
            ∙ told_count limits choice now call b;
      }

-- the same engine and ends, with another broker
abbrev beside : {K : Type 0} → Broker → Played K → Played K
beside b s = record s { engine = for_broker b s.engine }

-- whatever the device returned, the lines hold nothing then
clear_given : {K : Type 0} (g : Ghosts K) (now line : ℕ) (call : Call) (piece : List ℕ) (old new : Played K) (out : Outcome) (mid : Serving K)
    → IsPieceAnsweredForLines (min now LAST_NUMBER) line piece old.engine out mid → HoldNone old.engine.held → length piece ≤ PACKET_LIMIT → held_after piece ≡ [] → first_call line piece ≡ Some call
    → HoldNone mid.held
clear_given g now line call piece old new out mid x none within left asks =
    let a = x.answered in
    subst HoldNone (sym a.held) (clear_after g now line call piece (beside x.before old) new out a.after a.step none within left asks a.tells.closed)

-- bytes that are one call, given on a line that holds nothing, are that call of the scene
given : {K : Type 0} (g : Ghosts K) (now line : ℕ) (call : Call) (piece : List ℕ) (old new : Played K) (out : Outcome) (moment : ℕ) (mid : Serving K) (result : Result Outcome EngineError) (r : Result Telling Over)
    → IsPlayable g old → held_after piece ≡ [] → length piece ≤ PACKET_LIMIT → first_call line piece ≡ Some call
    → moment ≡ min now LAST_NUMBER → result ≡ Ok out → PieceCalled g moment line piece old.engine result mid → new.engine ≡ mid
    → ((answer : Answer) → Tells answer out → AreSpelled answer → AllIsUnderstood answer old.ends.publishers old.ends.receivers → OnOk r (new.ends ≡ ends_told mid.running.broker answer old.ends))
    → ((answer : Answer) → Tells answer out → IfOk r (λ (t : Telling). t ≡ record { reports = answer.reports; out = length answer.wires }))
    → IfOk r (λ (t : Telling). Calls g now call old t new)
given g now line call piece old new out moment mid result (Err fault) playable left within asks moment_is is called same ends tells = tt
given {K} g now line call piece old new out moment mid result (Ok t) playable left within asks moment_is is called same ends tells =
    let at : PieceCalled g (min now LAST_NUMBER) line piece old.engine (Ok out) mid =
    subst (λ (x : Result Outcome EngineError). PieceCalled g (min now LAST_NUMBER) line piece old.engine x mid) is
    (subst (λ (n : ℕ). PieceCalled g n line piece old.engine result mid) moment_is called) in
    let as_mid : g.is_sound new.engine.running.keep → g.is_sound mid.running.keep = λ sound. subst (λ (e : Serving K). g.is_sound e.running.keep) same sound in
    record {
      truly = λ sound. truly_given g now line call piece old new out t mid (at.truly (as_mid sound)).step playable.clear within asks same ends tells;
      limits = ap (λ (e : Serving K). e.running.limits) same ∙ at.limits;
      sound = λ sound. at.sound (as_mid sound);
      playable = record {
        runs = ap (λ (e : Serving K). e.running.stopped) same ∙ at.runs (λ stops. absurd (cc));
        stored = λ sound. subst (λ (e : Serving K). g.holds e.running.keep e.running.broker.records) (sym same) (at.truly (as_mid sound)).stored;
        clear = subst HoldNone (sym (ap (λ (e : Serving K). e.held) same))
            (clear_given g now line call piece old new out mid at.answered playable.clear within left asks);
      };
    }

-- and of a scene as it is seen
pub given_in : {K : Type 0} (g : Ghosts K) (now moment line : ℕ) (call : Call) (piece : List ℕ) (old new : Played K) (engine mid : Serving K) (ends : Ends) (out : Outcome) (result : Result Outcome EngineError) (r : Result Telling Over)
    → old ≡ record { engine = engine; ends = ends }
    → IsPlayable g old → held_after piece ≡ [] → length piece ≤ PACKET_LIMIT → first_call line piece ≡ Some call
    → moment ≡ min now LAST_NUMBER → result ≡ Ok out → PieceCalled g moment line piece engine result mid → new.engine ≡ mid
    → ((answer : Answer) → Tells answer out → AreSpelled answer → AllIsUnderstood answer ends.publishers ends.receivers → OnOk r (new.ends ≡ ends_told mid.running.broker answer ends))
    → ((answer : Answer) → Tells answer out → IfOk r (λ (t : Telling). t ≡ record { reports = answer.reports; out = length answer.wires }))
    → IfOk r (λ (t : Telling). Calls g now call old t new)
given_in {K} g now moment line call piece old new engine mid ends out result r view playable left within asks moment_is is called same reached tells =
    subst (λ (o : Played K). IfOk r (λ (t : Telling). Calls g now call o t new)) (sym view)
    (given g now line call piece (record { engine = engine; ends = ends }) new out moment mid result r (subst (IsPlayable g) view playable) left within asks moment_is is called same reached tells)
