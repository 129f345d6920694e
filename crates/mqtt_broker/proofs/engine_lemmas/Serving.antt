-- What calls of the engine make of the lines and of what they hold.
use Rattle.std.proofs.Common.{◌≡◌, ℕ, suc, true, false, List, Option, Some, None, map, refl, sym, ap, subst, ◌∙◌, arith, inl}
use Rattle.std.specs.Prelude.{Result, Ok, Err, IfOk, OnErr, IsErrOf, is_some}
use Rattle.mqtt_keep.specs.declared.keeping.keep.Keep.{Ghosts}
use Rattle.mqtt_records.specs.declared.state.records.Records.{Records}
use Rattle.mqtt_records.specs.lists.Order.{IsBelow, has_row}
use Rattle.mqtt_rules.specs.step.Lines.{line_number}
use Rattle.mqtt_rules.specs.step.State.{Broker, Line, line_at}
use Rattle.mqtt_rules.specs.step.Step.{Call, at_moment, nothing_told}
use Rattle.mqtt_broker_step.specs.declared.call.EngineError.{EngineError}
use Rattle.mqtt_broker_step.specs.declared.call.EngineError.TheVariants.{Stopped, Spent}
use Rattle.mqtt_broker_looks.specs.at_hand.Reading.{AskedAtMost}
use Rattle.mqtt_broker.specs.engine.Framers.{HeldLine, line_of}
use Rattle.mqtt_broker.specs.declared.stored.outcome.Outcome.{Outcome}
use Rattle.mqtt_broker.specs.stored.Calling.{Called, IsOn, KeepsLines, Tells}
use Rattle.mqtt_broker.specs.stored.Running.{Running}
use Rattle.mqtt_broker.proofs.stored_lemmas.Called.{answered_for_lines}
use Rattle.mqtt_broker.proofs.stored_lemmas.Linked.{passed_over}
use Rattle.mqtt_broker.specs.engine.Serving.{IsOfLines, Served, serving, without_closed}
use Rattle.mqtt_broker.proofs.engine_lemmas.Framings.{none_ended}
use Rattle.mqtt_broker.proofs.engine_lemmas.Left.{is_linked, of_lines_moment, of_lines_step}
use Rattle.mqtt_broker.proofs.engine_lemmas.Unlinked.{IsOld}

-- ---- which lines are linked

-- a line without a row of bytes isn't linked
pub unlinked_line : (line : ℕ) (held : List HeldLine) (b : Broker) → IsOfLines held b → has_row line_of line held ≡ false → line_at line b ≡ None
unlinked_line line held b h e = by (line_at line b) (sym (is_linked line held b h) ∙ e)
  where
    by : (o : Option Line) → is_some o ≡ false → o ≡ None
    by None e = refl
    by (Some l) e = absurd cc

-- and one with a row is
pub linked_line : (line : ℕ) (held : List HeldLine) (b : Broker) → IsOfLines held b → has_row line_of line held ≡ true → line_at line b ≡ None → ⊥
linked_line line held b h e none = let clash : true ≡ false = sym e ∙ is_linked line held b h ∙ ap is_some none in absurd cc

-- ---- a call on a line that isn't linked

-- an answer is no refusal
pub not_refused : (out : Outcome) (error : EngineError) → IsErrOf {T = Outcome} (Ok out) error → ⊥
not_refused out error e = absurd cc

module _ {K : Type 0} (g : Ghosts K) (now : ℕ) (old : Running K) (running : old.stopped ≡ false) (holds : g.is_sound old.keep → g.holds old.keep old.broker.records) where
  abbrev rested : Running K
  rested = record old { broker = at_moment now old.broker }

  passed_by : (line : ℕ) (call : Call) (out : Outcome) → line_at line old.broker ≡ None → IsOn line call → Tells nothing_told out → Called g now call old (Ok out) rested
  passed_by line call out none on told =
      let its = passed_over old.limits now line old.broker (at_moment now old.broker) out none refl told call on in
      record {
        truly = λ sound. record {
          step = its;
          stored = holds sound;
          same = λ other. tt;
          kept = λ other. tt;
          spent = λ e. absurd (not_refused out Spent e);
          crash = λ run left may. inl may;
        };
        answered = answered_for_lines old.limits old.broker now call out (at_moment now old.broker) its;
        lines = tt;
        runs = λ other. running;
        limits = refl;
        stopped = λ e. absurd (not_refused out Stopped e);
        cause = λ e. absurd (not_refused out Stopped e);
        still = λ s. let clash : true ≡ false = sym s ∙ running in absurd cc;
        sound = λ s. s;
      }

  -- a call on a line that isn't linked does nothing but that time goes on
  pub passed_served : (line : ℕ) (call : Call) (held : List HeldLine) (new : Running K) (out : Outcome) → line_at line old.broker ≡ None → IsOn line call → Tells nothing_told out → new ≡ rested
      → Served g now call (serving old held) (Ok out) (serving new held)
  passed_served line call held new out none on told is = record {
    called = subst (λ (r : Running K). Called g now call old (Ok out) r) (sym is) (passed_by line call out none on told);
    held = sym (ap (λ closed. without_closed closed held) told.closed ∙ none_ended held);
    kept = tt;
  }

-- as time goes on the lines that hold bytes are those that are linked
pub rested_lines : {K : Type 0} (now : ℕ) (old new : Running K) (held : List HeldLine) → new ≡ record old { broker = at_moment now old.broker } → IsOfLines held old.broker → IsOfLines held new.broker
rested_lines now old new held is h = subst (λ (b : Broker). IsOfLines held b) (sym (ap (λ (r : Running _). r.broker) is)) (of_lines_moment now held old.broker h)

-- a call that tells nothing leaves what lines hold
pub told_served : {K : Type 0} (g : Ghosts K) (now : ℕ) (call : Call) (old new : Running K) (held : List HeldLine) (out : Outcome) → Tells nothing_told out → Called g now call old (Ok out) new
    → Served g now call (serving old held) (Ok out) (serving new held)
told_served g now call old new held out told called = record {
  called = called;
  held = sym (ap (λ closed. without_closed closed held) told.closed ∙ none_ended held);
  kept = tt;
}

-- ---- any other call

-- if the lines stay the bytes that they hold are theirs still
pub of_lines_kept : (held : List HeldLine) (old new : Broker) → KeepsLines old new → IsOfLines held old → IsOfLines held new
of_lines_kept held old new same h = record {
  linked = h.linked ∙ sym (ap (map line_number) same.0);
  given = subst (λ (n : ℕ). IsBelow line_of (suc n) held) (sym same.1) h.given;
}

-- and so after each call
pub of_lines_called : {K : Type 0} (g : Ghosts K) (now : ℕ) (call : Call) (old new : Running K) (held rest : List HeldLine) (r : Result Outcome EngineError) → IsOld call → Called g now call old r new
    → IfOk r (λ out. rest ≡ without_closed out.closed.items held) → OnErr r (rest ≡ held) → IsOfLines held old.broker → IsOfLines rest new.broker
of_lines_called g now call old new held rest (Ok out) is h ok err lines =
    let a = h.answered in
    let closed = a.answered.told.closed in
    subst (λ (hs : List HeldLine). IsOfLines hs new.broker) (sym (ok ∙ ap (λ ns. without_closed ns held) a.answered.tells.closed))
    (of_lines_kept (without_closed closed held) a.after new.broker a.ends
    (of_lines_step old.limits a.before now call a.answered.told a.after held is a.answered.step (of_lines_kept held old.broker a.before a.begins lines)))
of_lines_called g now call old new held rest (Err e) is h ok err lines =
    subst (λ (hs : List HeldLine). IsOfLines hs new.broker) (sym err) (of_lines_kept held old.broker new.broker h.lines lines)

-- ---- how often the store is asked

-- a store that stays as it is wasn't asked
pub asked_never : {K : Type 0} (count : K → ℕ) (limit : ℕ) (old new : K) → new ≡ old → AskedAtMost limit (count old) (count new)
asked_never count limit old new same = (0, omega arith, ap count same)
