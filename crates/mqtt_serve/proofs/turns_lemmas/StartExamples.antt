-- Any fair calls of a broker are calls of an engine, here over a store that is its records; and two starts: a copy goes out in the first, and once
-- more in the second, in which it is taken (MQTT 5.0, 4.1, 4.3.3, 4.4).
use Rattle.std.proofs.Common.{◌≡◌, true, false, List, [], ◌∷◌, map, Ok, refl, ◌∙◌, inl, inr, arith}
use Rattle.std.specs.Prelude.{⊤}
use Rattle.std.specs.Str.{is_utf8, chars}
use Rattle.std.proofs.Math.Utf8.{encode}
use Rattle.mqtt_base.specs.Values.{varint}
use Rattle.mqtt_base.specs.declared.session.Qos.TheVariants.{ExactlyOnce}
use Rattle.mqtt_keep.specs.declared.keeping.keep.Keep.{Ghosts}
use Rattle.mqtt_records.specs.declared.state.records.Records.{Records}
use Rattle.mqtt_records.specs.messages.Filling.{Fillings}
use Rattle.mqtt_records.specs.state.Records.{nothing}
use Rattle.mqtt_rules.specs.step.Laws.{AreWithin, Asked, Event, after_events}
use Rattle.mqtt_rules.specs.step.Packets.{pubcomp, pubrec}
use Rattle.mqtt_rules.specs.step.State.{Broker, stored}
use Rattle.mqtt_rules.specs.step.Step.{Call, Input, NewLine, Pump, is_opening_spent, is_step_spent, opened, stepped, told, Outcome as Told}
use Rattle.mqtt_rules.proofs.step_lemmas.examples.Play.{first, hello, sends, topic, usual, wants}
use Rattle.mqtt_world_model.proofs.model_lemmas.examples.Scripts.{p1, r1}
use Rattle.mqtt_world_laws.specs.of_calls.Calls.{SpendNone}
use Rattle.mqtt_broker.specs.declared.stored.outcome.Outcome.{Outcome}
use Rattle.mqtt_broker.specs.engine.Serving.{Serving, serving}
use Rattle.mqtt_broker.specs.stored.Calling.{IsAnswered, Tells}
use Rattle.mqtt_serve.specs.turns.Leaving.{AreCalls, IsCalled, call_after, no_call, was_asked}
use Rattle.mqtt_serve.specs.turns.Settled.{SettleServed}
use Rattle.mqtt_serve.specs.turns.Starts.{AreStarts, HasStarted, KeepAllSoFar, no_start, served}
use Rattle.mqtt_serve.specs.turns.Turns.{Begins}
use Rattle.mqtt_serve.proofs.turns_lemmas.Starts.{so_far_keep}

-- ---- a store that is its records, and writes all at once

-- nothing is told of copies
pub no_fillings : Fillings
no_fillings birth place = record { identifiers = []; properties = []; payload = [] }

abbrev pub kept : Ghosts Records
kept = record {
  holds = λ keep r. keep ≡ r;
  is_loaded = λ keep. ⊤;
  is_sound = λ keep. ⊤;
  leaves = λ keep left. left ≡ keep;
  is_settled = λ keep. ⊤;
  counted = λ keep. 0;
  refuses = λ keep error. ⊥;
  fillings = λ keep. no_fillings;
  read_so_far = λ keep. 0;
}

-- what may be left of it are its records
pub kept_leaves : (keep left r : Records) → ⊤ → keep ≡ r → left ≡ keep → left ≡ r
kept_leaves keep left r settled holds leaves = leaves ∙ holds

-- an engine over it, with this broker
abbrev pub engine : Broker → Serving Records
engine b = serving (record { keep = b.records; limits = usual; broker = b; stopped = false }) []

not_true : false ≡ true → ⊥
not_true e = cc

usual_within : AreWithin usual
usual_within = record { queue = omega arith; sessions = omega arith; retained = omega arith }

-- a call at moment 0
abbrev pub asked : Call → Event
asked call = Asked usual first 0 call

-- however answers are put down
module _ (put : Told → Outcome) (tells : (t : Told) → Tells t (put t)) where
  -- ---- fair calls are calls of the engine

  was_called : (call : Call) (b : Broker) → is_step_spent usual first 0 call b ≡ false → IsCalled kept (engine b) (engine (stepped usual first 0 call b))
  was_called call b unspent =
      let t = told usual first 0 call b in
      let answer : IsAnswered usual b 0 call (put t) (stepped usual first 0 call b) = record {
        told = t;
        tells = tells t;
        step = record { choice = first; unspent = unspent; new_is = refl; out_is = refl };
      } in
      was_asked 0 call (Ok (put t)) (record {
        called = record {
          truly = λ sound. record {
            step = answer;
            stored = refl;
            same = λ e. tt;
            kept = λ e. tt;
            spent = λ e. cc;
            crash = λ runs left may. inr (inr (record { choice = first; unspent = unspent; is = may }));
          };
          answered = record {
            before = b;
            after = stepped usual first 0 call b;
            begins = (refl, refl);
            answered = answer;
            ends = (refl, refl);
          };
          lines = tt;
          runs = λ e. refl;
          limits = refl;
          stopped = λ e. cc;
          cause = λ e. cc;
          still = λ stopped. absurd (not_true stopped);
          sound = λ sound. sound;
        };
        held = refl;
        kept = tt;
      })

  all_called : (cs : List Call) (a : Serving Records) (b : Broker) → AreCalls kept a (engine b) → SpendNone (map asked cs) b
      → AreCalls kept a (engine (after_events (map asked cs) b))
  all_called [] a b before fair = before
  all_called (c ∷ cs) a b before fair = all_called cs a (stepped usual first 0 c b) (call_after before (was_called c b fair.0.1)) fair.1

  -- ---- a start, and these calls

  settled : (b : Broker) → SettleServed kept (engine b) (Ok tt) (engine b)
  settled b = record {
    called = record {
      truly = λ sound. record { broker = λ e. refl; holds = λ e. refl; crash = λ runs left may. inl may };
      settled = tt;
      lines = (refl, refl);
      moment = refl;
      limits = refl;
      runs = λ e. refl;
      stopped = λ e. cc;
      cause = λ e. cc;
      uncounted = λ e. refl;
      still = λ stopped. absurd (not_true stopped);
      spent = λ e. cc;
      reads = refl;
      sound = λ sound. sound;
    };
    held = refl;
  }

  begins : (r : Records) → is_opening_spent usual first 0 r ≡ false → Begins kept usual 0 r (engine (opened usual first 0 r))
  begins r unspent = record {
    records = r;
    exact = λ held holds sound. holds;
    found = λ sound. refl;
    after = opened usual first 0 r;
    opening = record { choice = first; unspent = unspent; new_is = refl };
    lines = (refl, refl);
    whole = λ sound. refl;
    limits_are = refl;
    holds = λ sound. refl;
    silent = refl;
  }

  -- any start on these records, and any calls that spend no number
  pub starts : (r : Records) (cs : List Call) → is_opening_spent usual first 0 r ≡ false → SpendNone (map asked cs) (opened usual first 0 r)
      → HasStarted kept usual r (engine (after_events (map asked cs) (opened usual first 0 r)))
  unfolding begins
  starts r cs unspent fair = record {
    keep = r;
    begin = 0;
    start = engine (opened usual first 0 r);
    first = engine (opened usual first 0 r);
    begins = begins r unspent;
    finds = refl;
    settles = settled (opened usual first 0 r);
    calls = all_called cs (engine (opened usual first 0 r)) (opened usual first 0 r) no_call fair;
  }

  -- ---- two starts

  -- r1 subscribes and p1 publishes; the copy goes out
  abbrev pub sent_first : List Call
  sent_first =
      NewLine ∷ Input 1 (hello r1) ∷ Input 1 (wants 1 topic ExactlyOnce) ∷ NewLine ∷ Input 2 (hello p1) ∷ Input 2 (sends 10) ∷ Pump 1 ∷ []

  -- what that leaves
  abbrev pub left_first : Records
  left_first = stored (after_events (map asked sent_first) (opened usual first 0 nothing))

  -- no number is spent
  pub first_fair : SpendNone (map asked sent_first) (opened usual first 0 nothing)
  unfolding varint is_utf8 chars encode
  first_fair = (
    (usual_within, refl),
    (
      (usual_within, refl),
      (
        (usual_within, refl),
        (
          (usual_within, refl),
          ((usual_within, refl), ((usual_within, refl), ((usual_within, refl), tt))),
        ),
      ),
    ),
  )

  -- so far the first start
  pub after_first : AreStarts kept left_first
  after_first =
      served usual left_first usual_within no_start
      (record {
        last = engine (after_events (map asked sent_first) (opened usual first 0 nothing));
        started = starts nothing sent_first refl first_fair;
        sound = tt;
        leaves = refl;
      })

  -- r1 comes again; the copy goes out once more, and is taken
  abbrev pub taken_then : List Call
  taken_then = NewLine ∷ Input 1 (hello r1) ∷ Pump 1 ∷ Input 1 (pubrec 1 0) ∷ Input 1 (pubcomp 1 0) ∷ []

  -- nor by the opening
  pub then_unspent : is_opening_spent usual first 0 left_first ≡ false
  unfolding varint is_utf8 chars encode
  then_unspent = refl

  -- nor by the calls
  pub then_fair : SpendNone (map asked taken_then) (opened usual first 0 left_first)
  unfolding varint is_utf8 chars encode
  then_fair = ((usual_within, refl), ((usual_within, refl), ((usual_within, refl), ((usual_within, refl), ((usual_within, refl), tt)))))

  -- the second start
  abbrev pub second : HasStarted kept usual left_first (engine (after_events (map asked taken_then) (opened usual first 0 left_first)))
  second = starts left_first taken_then then_unspent then_fair

  -- the law holds of them
  pub both_keep_all : KeepAllSoFar after_first second
  both_keep_all = so_far_keep kept kept_leaves usual left_first _ after_first second usual_within tt refl
