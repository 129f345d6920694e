-- What the first bytes of a line ask, done by the engine, is the step of a piece.
use Rattle.std.proofs.Common.{◌≡◌, ℕ, ◌<◌, ◌≤◌, Bool, true, false, cond, List, [], ◌∷◌, length, Option, Some, None, refl, sym, ap, subst, ◌∙◌, ◌⊎◌, inl}
use Rattle.std.specs.Prelude.{◌≢◌, ◌&&◌, Result, Ok, Err, IsErrOf, is_some, map, suc}
use Rattle.mqtt_packet.specs.parts.Faults.{answer_to}
use Rattle.mqtt_packet.specs.stream.Front.{first_of}
use Rattle.mqtt_packet.specs.stream.Stream.{Framing, empty}
use Rattle.mqtt_keep.specs.declared.keeping.keep.Keep.{Ghosts}
use Rattle.mqtt_records.specs.declared.state.records.Records.{Records}
use Rattle.mqtt_records.specs.lists.Order.{IsBelow, has_row}
use Rattle.mqtt_rules.specs.declared.step.Capacity.{Capacity}
use Rattle.mqtt_rules.specs.step.Piece.{Front, begins_connect, bytes_taken, call_by, call_on, code_of, fed, first_call, held_on, is_spent_if, is_whole, pieced, stepped_if, taken_on, told_if, without_first}
use Rattle.mqtt_rules.specs.step.State.{Broker, Line, MemberChoice, line_at, stored}
use Rattle.mqtt_rules.specs.step.Step.{BadInput, Call, Input, at_moment, bytes_out, nothing_told, Outcome as Told}
use Rattle.mqtt_rules.proofs.step_lemmas.acts.OnLines.{found_number}
use Rattle.mqtt_broker_step.specs.declared.call.EngineError.{EngineError}
use Rattle.mqtt_broker_step.specs.declared.call.EngineError.TheVariants.{Memory, Stopped, Spent}
use Rattle.mqtt_broker.specs.engine.Framers.{HeldLine, changed_at, framing_at, line_of}
use Rattle.mqtt_broker.specs.declared.stored.outcome.Outcome.{Outcome}
use Rattle.mqtt_broker.specs.stored.Calling.{IsAnswered, KeepsLines, Tells}
use Rattle.mqtt_broker.specs.stored.Running.{Running}
use Rattle.mqtt_broker.specs.engine.Asking.{CalledIf, Rested}
use Rattle.mqtt_broker.specs.engine.Piece.{IsLeftByAny, IsPieceAnswered, IsPieceAnsweredForLines, IsSpentBy, PieceCalled}
use Rattle.mqtt_broker.specs.engine.Serving.{IsOfLines, Serving, serving, without_closed}
use Rattle.mqtt_broker.proofs.engine_lemmas.Framings.{fed_long, framing_changed, none_ended, numbers_stay, taken_within, unchanged, whole_left}
use Rattle.mqtt_broker.proofs.engine_lemmas.Lent.{returned, returned_same}
use Rattle.mqtt_broker.proofs.engine_lemmas.Left.{is_linked}
use Rattle.mqtt_broker.proofs.engine_lemmas.Serving.{not_refused, of_lines_called, of_lines_kept, rested_lines}
use Rattle.mqtt_broker.proofs.engine_lemmas.Unlinked.{IsOld}

-- ---- the step, whatever is asked

-- some choice of the members leads to the state, and this is told of it, but for what was taken and what is to come
pub record IsDone (limits : Capacity) (old : Broker) (now : ℕ) (call : Option Call) (out : Outcome) (new : Broker) : Type 0 where
  pub choice : MemberChoice
  pub unspent : is_spent_if limits choice now call old ≡ false
  pub new_is : new ≡ stepped_if limits choice now call old
  pub outputs : out.outputs.items ≡ bytes_out (told_if limits choice now call old)
  pub closed : out.closed.items ≡ (told_if limits choice now call old).closed
  pub reports : out.reports.items ≡ (told_if limits choice now call old).reports

-- for a broker with the same lines there is such a step
pub record IsDoneForLines (limits : Capacity) (old : Broker) (now : ℕ) (call : Option Call) (out : Outcome) (new : Broker) : Type 0 where
  pub before : Broker
  pub after : Broker
  pub begins : KeepsLines old before
  pub done : IsDone limits before now call out after
  pub ends : KeepsLines after new

done_by : (limits : Capacity) (old : Broker) (now : ℕ) (call : Call) (out : Outcome) (new : Broker) → IsAnswered limits old now call out new → IsDone limits old now (Some call) out new
done_by limits old now call out new h =
    let s = h.step in
    let tells = h.tells in record {
      choice = s.choice;
      unspent = s.unspent;
      new_is = s.new_is;
      outputs = tells.outputs ∙ ap bytes_out s.out_is;
      closed = tells.closed ∙ ap (λ (t : Told). t.closed) s.out_is;
      reports = tells.reports ∙ ap (λ (t : Told). t.reports) s.out_is;
    }

rested_done : {K : Type 0} (now : ℕ) (old : Running K) (out : Outcome) (new : Running K) → Rested now old (Ok out) new → IsDone old.limits old.broker now None out new.broker
rested_done now old out new h = record {
  choice = λ number sender. [];
  unspent = refl;
  new_is = ap (λ (r : Running _). r.broker) h.told.1;
  outputs = h.told.0.outputs;
  closed = h.told.0.closed;
  reports = h.told.0.reports;
}

-- a call that was answered, or none, is such a step, if the device is sound
pub done_of : {K : Type 0} (g : Ghosts K) (now : ℕ) (call : Option Call) (old : Running K) (out : Outcome) (new : Running K)
    → CalledIf g now call old (Ok out) new → g.is_sound new.keep → IsDone old.limits old.broker now call out new.broker
done_of g now None old out new h sound = rested_done now old out new h
done_of g now (Some call) old out new h sound = done_by old.limits old.broker now call out new.broker (h.truly sound).step

-- and for a broker with the same lines it is one anyhow
pub done_for_lines : {K : Type 0} (g : Ghosts K) (now : ℕ) (call : Option Call) (old : Running K) (out : Outcome) (new : Running K)
    → CalledIf g now call old (Ok out) new → IsDoneForLines old.limits old.broker now call out new.broker
done_for_lines g now None old out new h =
    record { before = old.broker; after = new.broker; begins = (refl, refl); done = rested_done now old out new h; ends = (refl, refl) }
done_for_lines g now (Some call) old out new h =
    let a = h.answered in
    record { before = a.before; after = a.after; begins = a.begins; done = done_by old.limits a.before now call out a.after a.answered; ends = a.ends }

-- below a number, by their numbers
below_numbers : (n : ℕ) (xs ys : List HeldLine) → map line_of xs ≡ map line_of ys → IsBelow line_of n ys → IsBelow line_of n xs
below_numbers n [] [] e low = tt
below_numbers n [] (y ∷ ys) e low = tt
below_numbers n (x ∷ xs) [] e low = absurd cc
below_numbers n (x ∷ xs) (y ∷ ys) e low =
    let first : y.line ≡ x.line = cc in
    let more : map line_of xs ≡ map line_of ys = cc in
    (subst (λ (k : ℕ). k < n) first low.0, below_numbers n xs ys more low.1)

-- ---- what is asked

asked_old : (line : ℕ) (bytes : List ℕ) (r : Front) (call : Call) → call_by line bytes r ≡ Some call → IsOld call
asked_old line bytes (Ok None) call e = absurd cc
asked_old line bytes (Ok (Some x)) call e = let is : Input line x.0 ≡ call = cc in subst IsOld is tt
asked_old line bytes (Err fault) call e = let is : BadInput line (begins_connect bytes) (code_of (answer_to fault)) ≡ call = cc in subst IsOld is tt

module _ (line : ℕ) (piece : List ℕ) (b : Broker) (held : List HeldLine) (lines : IsOfLines held b) (linked : has_row line_of line held ≡ true) where
  abbrev its : Framing
  its = framing_at line held

  standing : (l : Line) × (line_at line b ≡ Some l)
  standing = by (line_at line b) refl (sym (is_linked line held b lines) ∙ linked)
    where
      by : (o : Option Line) → line_at line b ≡ o → is_some o ≡ true → (l : Line) × (line_at line b ≡ Some l)
      by None is e = absurd cc
      by (Some l) is e = (l, is)

  -- what the bytes ask is what the rules say that they ask
  pub asked_is : call_on (line_at line b) piece its ≡ first_call line (fed piece its).held
  asked_is =
      ap (λ (o : Option Line). call_on o piece its) standing.1
      ∙ ap (λ (n : ℕ). first_call n (fed piece its).held) (found_number line standing.0 b.lines standing.1)

  -- what the line holds then
  pub held_is : held_on (line_at line b) piece its ≡ without_first (fed piece its)
  held_is = ap (λ (o : Option Line). held_on o piece its) standing.1

  -- as many bytes are taken as fit
  pub taken_is : taken_on (line_at line b) piece its ≡ bytes_taken its.held piece
  taken_is = ap (λ (o : Option Line). taken_on o piece its) standing.1

  -- the lines that hold bytes are those that are linked, whatever this one holds
  pub changed_lines : (f : Framing → Framing) → IsOfLines (changed_at line f held) b
  changed_lines f =
      let same : map line_of (changed_at line f held) ≡ map line_of held = numbers_stay line f held in record {
        linked = same ∙ lines.linked;
        given = below_numbers (suc b.given) (changed_at line f held) held same lines.given;
      }

cond_and : (x y : Bool) → cond x y false ≡ (x && y)
cond_and true y = refl
cond_and false y = refl

-- what each line holds once what the line's bytes ask with the piece behind them is answered
abbrev answered_at : ℕ → List ℕ → List HeldLine → List HeldLine
answered_at line piece held = changed_at line (λ f. without_first (fed piece (framing_at line held))) held

-- the answer is that of the rules
piece_answered : {K : Type 0} (now line : ℕ) (piece : List ℕ) (old new : Running K) (held : List HeldLine) → IsOfLines held old.broker → has_row line_of line held ≡ true
    → (told : Outcome) (count : ℕ) (again : Bool) → IsDone old.limits old.broker now (call_on (line_at line old.broker) piece (framing_at line held)) told new.broker
    → IsOfLines (without_closed told.closed.items (answered_at line piece held)) new.broker
    → count ≡ bytes_taken (framing_at line held).held piece
    → again ≡ is_whole (first_of (framing_at line (without_closed told.closed.items (answered_at line piece held))).held)
    → IsPieceAnswered now line piece (serving old held) (record told { taken = count; again = again }) (serving new (without_closed told.closed.items (answered_at line piece held)))
piece_answered now line piece old new held lines linked told count again done after taken whole =
    let its = framing_at line held in
    let call = call_on (line_at line old.broker) piece its in
    let all = answered_at line piece held in
    let rest = without_first (fed piece its) in
    let framing_then : framing_at line all ≡ rest = framing_changed line (λ f. rest) held linked in
    let held_by : held_on (line_at line old.broker) piece its ≡ rest = held_is line piece old.broker held lines linked in
    record {
      after = pieced old.limits done.choice now line piece its old.broker;
      step = record { choice = done.choice; unspent = done.unspent; is = refl };
      broker = done.new_is;
      tells = record {
        outputs = done.outputs;
        closed = done.closed;
        reports = done.reports;
        taken = taken ∙ sym (taken_is line piece old.broker held lines linked);
        again =
            whole
            ∙ whole_left told.closed.items line all (is_some (line_at line new.broker)) (is_linked line (without_closed told.closed.items all) new.broker after)
            ∙ cond_and (is_some (line_at line new.broker)) (is_whole (first_of (framing_at line all).held))
            ∙ ap (λ (b : Broker). is_some (line_at line b) && is_whole (first_of (framing_at line all).held)) done.new_is
            ∙ ap (λ (f : Framing). is_some (line_at line (stepped_if old.limits done.choice now call old.broker)) && is_whole (first_of f.held)) (framing_then ∙ sym held_by);
      };
      held = ap (λ (f : Framing). without_closed told.closed.items (changed_at line (λ framing. f) held)) (sym held_by);
    }

-- what is answered for an engine's broker is answered for its lines
for_its_lines : {K : Type 0} (now line : ℕ) (piece : List ℕ) (old : Serving K) (out : Outcome) (new : Serving K) → IsPieceAnswered now line piece old out new
    → IsPieceAnsweredForLines now line piece old out new
for_its_lines now line piece old out new h = record { before = old.running.broker; after = new.running.broker; begins = (refl, refl); answered = h; ends = (refl, refl) }

module _ {K : Type 0} (g : Ghosts K) (now line : ℕ) (piece : List ℕ) (old new : Running K) (held : List HeldLine)
    (lines : IsOfLines held old.broker) (linked : has_row line_of line held ≡ true) where
  abbrev its_framing : Framing
  its_framing = framing_at line held

  abbrev its_held : List HeldLine
  its_held = answered_at line piece held

  abbrev its_call : Option Call
  its_call = call_on (line_at line old.broker) piece its_framing

  lines_if : (call : Option Call) (told : Outcome) (hs : List HeldLine) → ((c : Call) → call ≡ Some c → IsOld c) → CalledIf g now call old (Ok told) new → IsOfLines hs old.broker
      → IsOfLines (without_closed told.closed.items hs) new.broker
  lines_if None told hs is h up =
      subst (λ (xs : List HeldLine). IsOfLines xs new.broker) (sym (ap (λ closed. without_closed closed hs) h.told.0.closed ∙ none_ended hs)) (rested_lines now old new hs h.told.1 up)
  lines_if (Some c) told hs is h up =
      of_lines_called g now c old new hs (without_closed told.closed.items hs) (Ok told) (is c refl) h refl tt up

  -- for a broker with the same lines it is answered so
  for_lines : (call : Option Call) (told : Outcome) (count : ℕ) (again : Bool) → its_call ≡ call → ((c : Call) → call ≡ Some c → IsOld c) → CalledIf g now call old (Ok told) new
      → count ≡ bytes_taken its_framing.held piece
      → again ≡ is_whole (first_of (framing_at line (without_closed told.closed.items its_held)).held)
      → IsPieceAnsweredForLines now line piece (serving old held) (record told { taken = count; again = again }) (serving new (without_closed told.closed.items its_held))
  for_lines call told count again same is h taken whole =
      let a = done_for_lines g now call old told new h in
      let rest = without_closed told.closed.items its_held in
      let up = lines_if call told its_held is h (changed_lines line piece old.broker held lines linked (λ f. without_first (fed piece (framing_at line held)))) in
      let asked : call_on (line_at line a.before) piece its_framing ≡ call =
      ap (λ (ls : List Line). call_on (line_at line (record old.broker { lines = ls })) piece its_framing) a.begins.0 ∙ same in
      record {
        before = a.before;
        after = a.after;
        begins = a.begins;
        answered = piece_answered now line piece (record old { broker = a.before }) (record new { broker = a.after }) held (of_lines_kept held old.broker a.before a.begins lines) linked
            told count again (subst (λ (o : Option Call). IsDone old.limits a.before now o told a.after) (sym asked) a.done)
            (of_lines_kept rest new.broker a.after (sym a.ends.0, sym a.ends.1) up) taken whole;
        ends = a.ends;
      }

  module _ (running : old.stopped ≡ false) (holds : g.is_sound old.keep → g.holds old.keep old.broker.records) where
    sound_if : (call : Option Call) (r : Result Outcome EngineError) → CalledIf g now call old r new → g.is_sound new.keep → g.is_sound old.keep
    sound_if None (Ok told) h s = subst (λ (r : Running K). g.is_sound r.keep) h.told.1 s
    sound_if None (Err e) h s = subst (λ (r : Running K). g.is_sound r.keep) h.memory.1 s
    sound_if (Some c) r h s = h.sound s

    stored_if : (call : Option Call) (told : Outcome) → CalledIf g now call old (Ok told) new → g.is_sound new.keep → g.holds new.keep new.broker.records
    stored_if None told h sound = subst (λ (r : Running K). g.holds r.keep r.broker.records) (sym h.told.1) (holds (sound_if None (Ok told) h sound))
    stored_if (Some c) told h sound = (h.truly sound).stored

    runs_if : (call : Option Call) (r : Result Outcome EngineError) → CalledIf g now call old r new → (IsErrOf r Stopped → ⊥) → new.stopped ≡ false
    runs_if None (Ok told) h other = ap (λ (r : Running K). r.stopped) h.told.1 ∙ running
    runs_if None (Err e) h other = ap (λ (r : Running K). r.stopped) h.memory.1 ∙ running
    runs_if (Some c) r h other = h.runs other

    limits_if : (call : Option Call) (r : Result Outcome EngineError) → CalledIf g now call old r new → new.limits ≡ old.limits
    limits_if None (Ok told) h = ap (λ (r : Running K). r.limits) h.told.1
    limits_if None (Err e) h = ap (λ (r : Running K). r.limits) h.memory.1
    limits_if (Some c) r h = h.limits

    crash_if : (call : Option Call) (r : Result Outcome EngineError) → CalledIf g now call old r new → g.is_sound new.keep → (left : Records) → g.leaves new.keep left
        → g.leaves old.keep left ⊎ IsLeftByAny old.limits old.broker now call left
    crash_if None (Ok told) h sound left may = inl (subst (λ (r : Running K). g.leaves r.keep left) h.told.1 may)
    crash_if None (Err e) h sound left may = inl (subst (λ (r : Running K). g.leaves r.keep left) h.memory.1 may)
    crash_if (Some c) r h sound left may = (h.truly sound).crash running left may

    not_running : {X : Type 0} → old.stopped ≡ true → X
    not_running s = let clash : true ≡ false = sym s ∙ running in absurd cc

    -- Ok
    pub piece_ok : (call : Option Call) (told : Outcome) (count : ℕ) (again : Bool) → its_call ≡ call → ((c : Call) → call ≡ Some c → IsOld c) → CalledIf g now call old (Ok told) new
        → count ≡ bytes_taken its_framing.held piece
        → again ≡ is_whole (first_of (framing_at line (without_closed told.closed.items its_held)).held)
        → PieceCalled g now line piece (serving old held) (Ok (record told { taken = count; again = again })) (serving new (without_closed told.closed.items its_held))
    piece_ok call told count again same is h taken whole =
        let after = lines_if call told its_held is h (changed_lines line piece old.broker held lines linked (λ f. without_first (fed piece its_framing))) in
        let out : Outcome = record told { taken = count; again = again } in
        record {
          truly = λ sound. record {
            step = piece_answered now line piece old new held lines linked told count again
                (subst (λ (o : Option Call). IsDone old.limits old.broker now o told new.broker) (sym same) (done_of g now call old told new h sound)) after taken whole;
            stored = stored_if call told h sound;
            same = λ other. tt;
            kept = λ other. tt;
            spent = λ e. absurd (not_refused out Spent e);
            crash = λ run left may. subst (λ (o : Option Call). g.leaves old.keep left ⊎ IsLeftByAny old.limits old.broker now o left) (sym same) (crash_if call (Ok told) h sound left may);
          };
          answered = for_lines call told count again same is h taken whole;
          lines = tt;
          kept = tt;
          runs = λ other. runs_if call (Ok told) h (λ e. not_refused told Stopped e);
          limits = limits_if call (Ok told) h;
          stopped = λ e. absurd (not_refused out Stopped e);
          cause = λ e. absurd (not_refused out Stopped e);
          still = λ s. not_running s;
          sound = sound_if call (Ok told) h;
        }

    same_if : (call : Option Call) (error : EngineError) → CalledIf g now call old (Err error) new → g.is_sound new.keep
        → (IsErrOf {T = Outcome} (Err error) Stopped → ⊥) → new.broker ≡ old.broker
    same_if None error h sound other = ap (λ (r : Running K). r.broker) h.memory.1
    same_if (Some c) error h sound other = (h.truly sound).same other

    kept_if : (call : Option Call) (error : EngineError) → CalledIf g now call old (Err error) new → g.is_sound new.keep
        → (IsErrOf {T = Outcome} (Err error) Stopped → ⊥) → g.holds new.keep old.broker.records
    kept_if None error h sound other = subst (λ (r : Running K). g.holds r.keep old.broker.records) (sym h.memory.1) (holds (sound_if None (Err error) h sound))
    kept_if (Some c) error h sound other = (h.truly sound).kept other

    same_lines_if : (call : Option Call) (error : EngineError) → CalledIf g now call old (Err error) new → KeepsLines old.broker new.broker
    same_lines_if None error h = (ap (λ (r : Running K). r.broker.lines) h.memory.1, ap (λ (r : Running K). r.broker.given) h.memory.1)
    same_lines_if (Some c) error h = h.lines

    no_other : (error : EngineError) → error ≡ Memory → IsErrOf {T = Outcome} (Err error) Spent → ⊥
    no_other error is e = absurd cc

    no_stop : (error : EngineError) → error ≡ Memory → IsErrOf {T = Outcome} (Err error) Stopped → ⊥
    no_stop error is e = absurd cc

    spent_if : (call : Option Call) (error : EngineError) → CalledIf g now call old (Err error) new → g.is_sound new.keep → IsErrOf {T = Outcome} (Err error) Spent
        → IsSpentBy old.limits old.broker now call
    spent_if None error h sound e = absurd (no_other error h.memory.0 e)
    spent_if (Some c) error h sound e = (h.truly sound).spent e

    stopped_if : (call : Option Call) (error : EngineError) → CalledIf g now call old (Err error) new → IsErrOf {T = Outcome} (Err error) Stopped
        → (new.stopped ≡ true) × ((g.counted new.keep ≢ g.counted old.keep) ⊎ (g.is_sound new.keep → ⊥))
    stopped_if None error h e = absurd (no_stop error h.memory.0 e)
    stopped_if (Some c) error h e = (h.stopped e, h.cause e running)

    -- otherwise
    pub piece_err : (call : Option Call) (error : EngineError) (rest : List HeldLine) → its_call ≡ call → CalledIf g now call old (Err error) new → rest ≡ held
        → PieceCalled g now line piece (serving old held) (Err error) (serving new rest)
    piece_err call error rest same h kept = record {
      truly = λ sound. record {
        step = tt;
        stored = tt;
        same = same_if call error h sound;
        kept = kept_if call error h sound;
        spent = λ e. subst (λ (o : Option Call). IsSpentBy old.limits old.broker now o) (sym same) (spent_if call error h sound e);
        crash = λ run left may. subst (λ (o : Option Call). g.leaves old.keep left ⊎ IsLeftByAny old.limits old.broker now o left) (sym same) (crash_if call (Err error) h sound left may);
      };
      answered = tt;
      lines = same_lines_if call error h;
      kept = kept;
      runs = runs_if call (Err error) h;
      limits = limits_if call (Err error) h;
      stopped = λ e. (stopped_if call error h e).0;
      cause = λ e run. (stopped_if call error h e).1;
      still = λ s. not_running s;
      sound = sound_if call (Err error) h;
    }

    -- a call that is refused leaves the lines that hold bytes
    pub lines_err : (call : Option Call) (error : EngineError) (rest : List HeldLine) → CalledIf g now call old (Err error) new → rest ≡ held → IsOfLines rest new.broker
    lines_err call error rest h kept =
        subst (λ (hs : List HeldLine). IsOfLines hs new.broker) (sym kept) (of_lines_kept held old.broker new.broker (same_lines_if call error h) lines)

    -- and one that is answered those that it didn't close
    pub lines_ok : (call : Option Call) (told : Outcome) → ((c : Call) → call ≡ Some c → IsOld c) → CalledIf g now call old (Ok told) new → IsOfLines (without_closed told.closed.items its_held) new.broker
    lines_ok call told is h = lines_if call told its_held is h (changed_lines line piece old.broker held lines linked (λ f. without_first (fed piece its_framing)))

-- ---- want of memory before anything was asked, and a line that isn't linked

module _ {K : Type 0} (g : Ghosts K) (now : ℕ) (old : Running K) (running : old.stopped ≡ false) (holds : g.is_sound old.keep → g.holds old.keep old.broker.records) where
  -- whatever is asked
  pub memory_refuses : (call : Option Call) → CalledIf g now call old (Err Memory) old
  memory_refuses None = record { told = tt; memory = (refl, refl) }
  memory_refuses (Some call) = record {
    truly = λ sound. record {
      step = tt;
      stored = tt;
      same = λ other. refl;
      kept = λ other. holds sound;
      spent = λ e. absurd cc;
      crash = λ run left may. inl may;
    };
    answered = tt;
    lines = (refl, refl);
    runs = λ other. running;
    limits = refl;
    stopped = λ e. absurd cc;
    cause = λ e. absurd cc;
    still = λ s. let clash : true ≡ false = sym s ∙ running in absurd cc;
    sound = λ s. s;
  }

-- ---- a piece on a line that is linked, from what its calls ensure: what the line holds is lent, changed and put back

-- as many bytes as were taken can be given back
pub back_fits : (piece : List ℕ) (f : Framing) (count : ℕ) → count ≡ bytes_taken f.held piece → count ≤ length (fed piece f).held
back_fits piece f count taken = subst (λ (n : ℕ). n ≤ length (fed piece f).held) (sym taken) (fed_long piece f)

-- no more bytes are taken than came
pub taken_fits : (piece : List ℕ) (f : Framing) (count : ℕ) → count ≡ bytes_taken f.held piece → count ≤ length piece
taken_fits piece f count taken = subst (λ (n : ℕ). n ≤ length piece) (sym taken) (taken_within f.held piece)

module _ {K : Type 0} (g : Ghosts K) (now line : ℕ) (piece : List ℕ) (old new : Running K) (held lent put : List HeldLine) (f last : Framing)
    (lines : IsOfLines held old.broker) (linked : has_row line_of line held ≡ true) (running : old.stopped ≡ false) (holds : g.is_sound old.keep → g.holds old.keep old.broker.records)
    (was : framing_at line held ≡ f) (lent_as : lent ≡ changed_at line (λ x. empty) held) (put_as : put ≡ changed_at line (λ x. last) lent) where
  abbrev asked : Option Call
  asked = first_call line (fed piece f).held

  asked_as : call_on (line_at line old.broker) piece (framing_at line held) ≡ asked
  asked_as = asked_is line piece old.broker held lines linked ∙ ap (λ (x : Framing). first_call line (fed piece x).held) was

  asked_so : (c : Call) → asked ≡ Some c → IsOld c
  asked_so c e = asked_old line (fed piece f).held (first_of (fed piece f).held) c e

  -- an answered piece is a step on what the line's bytes ask, and the lines that hold bytes are those that are linked
  pub piece_done : (told out : Outcome) (rest : List HeldLine) (count : ℕ) → CalledIf g now asked old (Ok told) new
      → count ≡ bytes_taken f.held piece
      → last ≡ without_first (fed piece f)
      → rest ≡ without_closed told.closed.items put
      → out ≡ record told { taken = count; again = is_whole (first_of (framing_at line rest).held) }
      → PieceCalled g now line piece (serving old held) (Ok out) (serving new rest) × IsOfLines rest new.broker
  piece_done told out rest count called taken last_as left_as out_as =
      let its_last = changed_at line (λ x. without_first (fed piece (framing_at line held))) held in
      let all = without_closed told.closed.items its_last in
      let put_is : put ≡ its_last =
      returned line last held lent put lent_as put_as
      ∙ ap (λ (x : Framing). changed_at line (λ y. x) held) (last_as ∙ ap (λ (x : Framing). without_first (fed piece x)) (sym was)) in
      let rest_as : rest ≡ all = left_as ∙ ap (without_closed told.closed.items) put_is in
      let again = is_whole (first_of (framing_at line rest).held) in
      let main = piece_ok g now line piece old new held lines linked running holds asked told count again asked_as asked_so called
      (taken ∙ ap (λ (x : Framing). bytes_taken x.held piece) (sym was)) (ap (λ (hs : List HeldLine). is_whole (first_of (framing_at line hs).held)) rest_as) in (
        subst (λ (hs : List HeldLine). PieceCalled g now line piece (serving old held) (Ok out) (serving new hs)) (sym rest_as)
            (subst (λ (o : Outcome). PieceCalled g now line piece (serving old held) (Ok o) (serving new all)) (sym out_as) main),
        subst (λ (hs : List HeldLine). IsOfLines hs new.broker) (sym rest_as) (lines_ok g now line piece old new held lines linked running holds asked told asked_so called),
      )

  -- a refused piece leaves what each line held, and the same lines
  pub piece_refused : (error : EngineError) → CalledIf g now asked old (Err error) new → last ≡ f
      → PieceCalled g now line piece (serving old held) (Err error) (serving new put) × IsOfLines put new.broker
  piece_refused error called last_as =
      let kept : put ≡ held = returned_same line last held lent put lent_as put_as (last_as ∙ sym was) in (
        piece_err g now line piece old new held lines linked running holds asked error put asked_as called kept,
        lines_err g now line piece old new held lines linked running holds asked error put called kept,
      )

-- ---- a piece on a line that isn't

module _ {K : Type 0} (g : Ghosts K) (now line : ℕ) (piece : List ℕ) (old : Running K) (held : List HeldLine)
    (running : old.stopped ≡ false) (holds : g.is_sound old.keep → g.holds old.keep old.broker.records)
    (none : line_at line old.broker ≡ None) where
  abbrev no_members : MemberChoice
  no_members = λ number sender. []

  abbrev unasked : Option Call
  unasked = call_on (line_at line old.broker) piece (framing_at line held)

  unasked_is : unasked ≡ None
  unasked_is = ap (λ (o : Option Line). call_on o piece (framing_at line held)) none

  abbrev its_rest : Running K
  its_rest = record old { broker = at_moment now old.broker }

  passed_answer : (out : Outcome) → Tells nothing_told out → IsPieceAnswered now line piece (serving old held) out (serving its_rest held)
  passed_answer out told =
      let framing = held_on (line_at line old.broker) piece (framing_at line held) in
      let same : framing ≡ framing_at line held = ap (λ (o : Option Line). held_on o piece (framing_at line held)) none in record {
        after = pieced old.limits no_members now line piece (framing_at line held) old.broker;
        step = record {
          choice = no_members;
          unspent = ap (λ (o : Option Call). is_spent_if old.limits no_members now o old.broker) unasked_is;
          is = refl;
        };
        broker = sym (ap (λ (o : Option Call). stepped_if old.limits no_members now o old.broker) unasked_is);
        tells = record {
          outputs = told.outputs ∙ sym (ap (λ (o : Option Call). bytes_out (told_if old.limits no_members now o old.broker)) unasked_is);
          closed = told.closed ∙ sym (ap (λ (o : Option Call). (told_if old.limits no_members now o old.broker).closed) unasked_is);
          reports = told.reports ∙ sym (ap (λ (o : Option Call). (told_if old.limits no_members now o old.broker).reports) unasked_is);
          taken = told.taken ∙ sym (ap (λ (o : Option Line). taken_on o piece (framing_at line held)) none);
          again =
              told.again
              ∙ sym (ap (λ (o : Option Line). is_some o && is_whole (first_of framing.held)) none)
              ∙ sym (ap (λ (o : Option Call). is_some (line_at line (stepped_if old.limits no_members now o old.broker)) && is_whole (first_of framing.held)) unasked_is);
        };
        held =
            sym (ap (λ closed. without_closed closed (changed_at line (λ f. framing) held)) told.closed
            ∙ none_ended (changed_at line (λ f. framing) held)
            ∙ unchanged line (λ f. framing) held same);
      }

  -- a piece on a line that isn't linked does nothing but that time goes on
  pub passed_piece : (out : Outcome) (new : Running K) → Tells nothing_told out → new ≡ its_rest → PieceCalled g now line piece (serving old held) (Ok out) (serving new held)
  passed_piece out new told is = subst (λ (r : Running K). PieceCalled g now line piece (serving old held) (Ok out) (serving r held)) (sym is) (record {
    truly = λ sound. record {
      step = passed_answer out told;
      stored = holds sound;
      same = λ other. tt;
      kept = λ other. tt;
      spent = λ e. absurd (not_refused out Spent e);
      crash = λ run left may. inl may;
    };
    answered = for_its_lines now line piece (serving old held) out (serving its_rest held) (passed_answer out told);
    lines = tt;
    kept = tt;
    runs = λ other. running;
    limits = refl;
    stopped = λ e. absurd (not_refused out Stopped e);
    cause = λ e. absurd (not_refused out Stopped e);
    still = λ s. let clash : true ≡ false = sym s ∙ running in absurd cc;
    sound = λ s. s;
  })

-- ---- what a crash leaves

-- what was stored before is what whatever is asked may leave
pub left_before : (limits : Capacity) (b : Broker) (now : ℕ) (call : Option Call) (left : Records) → left ≡ stored b → IsLeftByAny limits b now call left
left_before limits b now None left is = is
left_before limits b now (Some call) left is = inl is
