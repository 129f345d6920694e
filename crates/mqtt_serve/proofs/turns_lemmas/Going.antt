-- Turns that were had so far.
use Rattle.std.proofs.Common.{◌≡◌, ℕ, ◌+◌, ◌<◌, max, Bool, List, [], ◌∷◌, ◌++◌, length, Option, Some, None, ap, sym, refl, subst, ◌∙◌}
use Rattle.std.proofs.lemmas.List.{append-nil, length-append}
use Rattle.mqtt_broker_step.specs.declared.call.EngineError.{EngineError}
use Rattle.mqtt_link.specs.Links.{and_then}
use Rattle.mqtt_serve.proofs.turns_lemmas.Joined.{and_then_append}
use Rattle.mqtt_serve.specs.turns.Breaks.{RunsUntilBy}
use Rattle.mqtt_serve.specs.turns.Turns.{Hosting, hosting, rested, TurnsBy, no_turn, turn_after}

-- so many turns were had, up to a moment
pub record RunsTo {E : Type 0} (turn : ℕ → Bool → Hosting E → Hosting E → Type 0) (begin turns last : ℕ) (told told_then : Option (List ℕ))
    (old new : Hosting E) : Type 0 where
  pub read : List ℕ
  pub count : length read ≡ turns
  pub told_is : told_then ≡ and_then told read
  pub turns_on : TurnsBy turn begin read last old new

-- whatever a turn is
module _ {E : Type 0} {turn : ℕ → Bool → Hosting E → Hosting E → Type 0} where
  -- no turn was had yet
  pub runs_start : {begin : ℕ} {told : Option (List ℕ)} {h : Hosting E} → RunsTo turn begin 0 begin told told h h
  runs_start {begin} {told} = record { read = []; count = refl; told_is = go told; turns_on = no_turn }
    where
      go : (told : Option (List ℕ)) → told ≡ and_then told []
      go None = refl
      go (Some bytes) = ap Some (sym (append-nil bytes))

  -- one turn more was had
  pub runs_next : {begin turns last next : ℕ} (now : ℕ) {busy : Bool} {told told_then told_now : Option (List ℕ)} {old h i j : Hosting E}
      → RunsTo turn begin turns last told told_then old h → told_now ≡ and_then told_then (now ∷ []) → next ≡ max last now → turn next busy h i
      → j ≡ hosting i.engine (rested busy i.links) → RunsTo turn begin (turns + 1) next told told_now old j
  runs_next {begin} {turns} {last} {next} now {busy} {told} {told_then} {told_now} {old} {h} {i} {j} before read is goes rests =
      rw (rests, is) (record {
        read = before.read ++ now ∷ [];
        count = length-append before.read (now ∷ []) ∙ ap (λ n. n + 1) before.count;
        told_is = read ∙ ap (λ t. and_then t (now ∷ [])) before.told_is ∙ sym (and_then_append told before.read (now ∷ []));
        turns_on = turn_after now i before.turns_on (subst (λ n. turn n busy h i) is goes);
      })

  -- the next turn broke off
  pub runs_until : {breaks_off : ℕ → EngineError → Hosting E → Hosting E → Type 0} {begin turns limit last next : ℕ} (now : ℕ) {error : EngineError}
      {told told_then told_now : Option (List ℕ)} {old h i : Hosting E}
      → RunsTo turn begin turns last told told_then old h → turns < limit → told_now ≡ and_then told_then (now ∷ [])
      → next ≡ max last now → breaks_off next error h i → RunsUntilBy turn breaks_off begin limit error told told_now old i
  runs_until {breaks_off} {begin} {turns} {limit} {last} {next} now {error} {told} {told_then} {told_now} {old} {h} {i} before within read is breaks =
      record {
        read = before.read;
        last = last;
        now = now;
        mid = h;
        count = subst (λ n. n < limit) (sym before.count) within;
        told_is = read ∙ ap (λ t. and_then t (now ∷ [])) before.told_is ∙ sym (and_then_append told before.read (now ∷ []));
        turns_on = before.turns_on;
        breaks = subst (λ n. breaks_off n error h i) is breaks;
      }
