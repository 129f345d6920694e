-- What is asked of a broker that is given what came on a line, and what it tells (MQTT 5.0, 2.1, 4.1, 4.13).
use Rattle.std.proofs.Common.{◌≡◌, ◌+◌, ℕ, suc, Bool, true, false, eqb, List, [], ◌∷◌, ◌++◌, length, Option, Some, None, refl, sym, ap, subst, ◌∙◌, true≢false, arith, append_assoc, OnOk}
use Rattle.std.specs.Prelude.{Result, Ok, Err}
use Rattle.std.proofs.lemmas.Bool.{eqb-true}
use Rattle.std.proofs.lemmas.List.{append-nil}
use Rattle.mqtt_packet.specs.parts.Faults.{answer_to}
use Rattle.mqtt_packet.specs.stream.Front.{first_of}
use Rattle.mqtt_keep.specs.declared.keeping.keep.Keep.{Ghosts}
use Rattle.mqtt_broker.specs.engine.Framers.{AreBytes}
use Rattle.mqtt_broker.proofs.engine_lemmas.HeldBytes.{first_taken, nothing_asked}
use Rattle.mqtt_world_model.specs.model.Tellings.{Telling, silent}
use Rattle.mqtt_world_model.specs.model.World.{World, call_on, held_after, held_by}
use Rattle.mqtt_rules.specs.step.Piece.{Front, begins_connect, call_by, code_of, first_call}
use Rattle.mqtt_rules.specs.step.Step.{BadInput, Call, Input}
use Rattle.mqtt_rules.specs.declared.step.Report.{Report}
use Rattle.mqtt_world.specs.script_laws.Turns.{both_tell}
use Rattle.mqtt_world_laws.specs.knowing.Knowing.{TakesAsEnds}
use Rattle.mqtt_world.specs.scene.Events.{TakesPacket}
use Rattle.mqtt_world.specs.scene.Hearing.{Asks, Hears, IsTrulyAsked, TakesAsEndsIf}
use Rattle.mqtt_world.specs.scene.Scenes.{Calls, IsPlayable, IsTrulyCall, Played}
use Rattle.mqtt_world.proofs.scene_lemmas.Eventful.{any_choice, reached_after, world_called}

-- ---- what is told, one behind the other

-- if nothing is told behind something, that is all that is told
pub tells_none : (t : Telling) → t ≡ both_tell t silent
tells_none t =
    let same : t.out + 0 ≡ t.out = omega arith in
    sym (ap (λ (rs : List Report). record { reports = rs; out = t.out + 0 }) (append-nil t.reports)
    ∙ ap (λ (n : ℕ). record { reports = t.reports; out = n }) same)

-- so it is if nothing was told before it
pub none_tells : (t : Telling) → t ≡ both_tell silent t
none_tells t =
    let same : 0 + t.out ≡ t.out = omega arith in
    sym (ap (λ (n : ℕ). record { reports = t.reports; out = n }) same)

-- what is told is told in its order, whichever parts of it are joined first
pub tells_after : (a b c : Telling) → both_tell (both_tell a b) c ≡ both_tell a (both_tell b c)
tells_after a b c =
    let sum : a.out + b.out + c.out ≡ a.out + (b.out + c.out) = omega arith in
    ap (λ (rs : List Report). record { reports = rs; out = a.out + b.out + c.out }) (append_assoc a.reports b.reports c.reports)
    ∙ ap (λ (n : ℕ). record { reports = a.reports ++ (b.reports ++ c.reports); out = n }) sum

-- ---- what bytes ask for

none_asked : (line : Option ℕ) → call_on line [] ≡ None
none_asked None = refl
none_asked (Some n) = nothing_asked n

-- if nothing is left of some bytes they ask for something
some_asked : (line : ℕ) (bytes : List ℕ) → AreBytes bytes → held_after bytes ≡ [] → (bytes ≡ [] → ⊥)
    → (call : Call) × (first_call line bytes ≡ Some call) × TakesPacket call
some_asked line bytes each left some = by (first_of bytes) refl
  where
    by : (f : Front) → first_of bytes ≡ f → (call : Call) × (first_call line bytes ≡ Some call) × TakesPacket call
    by (Ok None) e = absurd (some (sym (ap (λ (f : Front). held_by f bytes) e) ∙ left))
    by (Ok (Some x)) e = (Input line x.0, ap (call_by line bytes) e, first_taken bytes x.0 x.1 each e)
    by (Err fault) e = (BadInput line (begins_connect bytes) (code_of (answer_to fault)), ap (call_by line bytes) e, (fault, refl))

-- what is asked brings no CONNECT of a client that takes more aliases than the line's end, if no call does that it may come to
pub takes_if : (o : Option Call) (w : World) → ((call : Call) → o ≡ Some call → TakesAsEnds call w) → TakesAsEndsIf o w
takes_if None w h = tt
takes_if (Some call) w h = h call refl

module _ {K : Type 0} (g : Ghosts K) (now : ℕ) where
  -- if nothing is asked of the broker, nothing changes, and nothing is told
  pub asks_nothing : (s : Played K) → IsPlayable g s → Asks g now None s silent s
  asks_nothing s playable = record {
    truly = λ sound. record {
      choice = any_choice;
      reached = λ reached. reached;
      unspent = λ ss. refl;
      told = λ ss. refl;
      done = λ spells reached ss knowing few. refl;
    };
    playable = playable;
    limits = refl;
    sound = λ sound. sound;
  }

  truly_asked : (call : Call) (old new : Played K) (t : Telling) → TakesPacket call → IsTrulyCall now call old t new → IsTrulyAsked now (Some call) old t new
  truly_asked call old new t takes c = record {
    choice = c.choice;
    reached = reached_after g now call old new t takes c;
    unspent = λ ss. c.unspent;
    told = λ ss. c.told_is;
    done = λ spells reached ss knowing few. world_called g now call old new t ss reached takes c spells knowing few;
  }

  asks_call : (call : Call) (old new : Played K) (t : Telling) → TakesPacket call → Calls g now call old t new → Asks g now (Some call) old t new
  asks_call call old new t takes c = record {
    truly = λ sound. truly_asked call old new t takes (c.truly sound);
    playable = c.playable;
    limits = c.limits;
    sound = c.sound;
  }

  -- nothing came, or there is no line
  pub heard_nothing : (call : Option Call) (s : Played K) (t : Telling) → IsPlayable g s → call ≡ None → Hears g now call s t t s
  heard_nothing call s t playable none = record {
    t = silent;
    asks = subst (λ (o : Option Call). Asks g now o s silent s) (sym none) (asks_nothing s playable);
    told = tells_none t;
  }

  -- if no bytes came, nothing is asked of the broker
  pub heard_no_bytes : (line : Option ℕ) (bytes : List ℕ) (s : Played K) (t : Telling) → IsPlayable g s → bytes ≡ [] → Hears g now (call_on line bytes) s t t s
  heard_no_bytes line bytes s t playable none =
      heard_nothing (call_on line bytes) s t playable (ap (λ (xs : List ℕ). call_on line xs) none ∙ none_asked line)

  -- if bytes came of which nothing is left, they ask for a call, and the broker hears it
  pub heard_call : {X E : Type 0} (r : Result X E) (line : ℕ) (bytes : List ℕ) (old new : Played K) (before after more : Telling)
      → AreBytes bytes → held_after bytes ≡ [] → (bytes ≡ [] → ⊥)
      → ((call : Call) → first_call line bytes ≡ Some call → Calls g now call old more new)
      → OnOk r (after ≡ both_tell before more) → OnOk r (Hears g now (first_call line bytes) old before after new)
  heard_call (Err e) line bytes old new before after more each left some called told = tt
  heard_call (Ok x) line bytes old new before after more each left some called told =
      let a = some_asked line bytes each left some in
      record {
        t = more;
        asks = subst (λ (o : Option Call). Asks g now o old more new) (sym a.1) (asks_call a.0 old new more a.2 (called a.0 a.1));
        told = told;
      }

-- ---- bytes, of which there are some or none

-- if the length is seen to be 0, there are no bytes
pub none_of : (bytes : List ℕ) (empty : Bool) → empty ≡ eqb (length bytes) 0 → empty ≡ true → bytes ≡ []
none_of [] empty is none = refl
none_of (x ∷ xs) empty is none = let clash : suc (length xs) ≡ 0 = eqb-true (suc (length xs)) 0 (sym is ∙ none) in absurd (omega arith)

-- if it is not, there are some
pub some_of : (bytes : List ℕ) (empty : Bool) → empty ≡ eqb (length bytes) 0 → empty ≡ false → bytes ≡ [] → ⊥
some_of bytes empty is some none = true≢false (sym (ap (λ (xs : List ℕ). eqb (length xs) 0) none) ∙ (sym is ∙ some))
