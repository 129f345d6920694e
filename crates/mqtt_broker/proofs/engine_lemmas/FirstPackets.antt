-- What a line holds, by what its bytes begin with.
use Rattle.std.proofs.Common.{◌≡◌, ℕ, Bool, true, false, List, length, min, Some, None, refl, ap, sym, ◌∙◌, arith, append-nil}
use Rattle.std.specs.Prelude.{Ok, Err}
use Rattle.mqtt_packet.specs.declared.parts.fault.Fault.{Fault}
use Rattle.mqtt_packet.specs.stream.Front.{first_of}
use Rattle.mqtt_packet.specs.stream.Stream.{Framing, after}
use Rattle.mqtt_packet.proofs.stream_lemmas.Fronts.{first_within}
use Rattle.mqtt_rules.specs.step.Piece.{Front, bytes_taken, call_by, fed, first_call, is_whole, without_by, without_first}
use Rattle.mqtt_rules.specs.step.Step.{BadInput}
use Rattle.mqtt_broker.specs.engine.Framers.{BeginsWith}

-- behind a fault no byte is taken
pub none_taken : (held piece : List ℕ) (fault : Fault) → first_of held ≡ Err fault → 0 ≡ bytes_taken held piece
none_taken held piece fault e = rw e refl

-- so a piece changes nothing there
pub nothing_fed : (f : Framing) (piece : List ℕ) (fault : Fault) → first_of f.held ≡ Err fault → f ≡ fed piece f
nothing_fed f piece fault e = rw e (ap (λ (bytes : List ℕ). let x : Framing = record f { held = bytes } in x) (sym (append-nil f.held)))

-- the first packet is taken away with its size
pub skipped : (f : Framing) (size : ℕ) → BeginsWith size f.held → after (min size (length f.held)) f ≡ without_first f
skipped f size begins =
    let within = first_within f.held begins.0 size begins.1 in
    let same : min size (length f.held) ≡ size = omega (arith, within.0) in
    ap (λ n. after n f) same ∙ sym (ap (λ (r : Front). without_by r f) begins.1)

-- something is whole unless nothing stands
pub whole_unless : (b : Bool) (r : Front) → (b ≡ false → r ≡ Ok None) → (r ≡ Ok None → b ≡ false) → b ≡ is_whole r
whole_unless true (Ok None) waits whole = whole refl
whole_unless true (Ok (Some x)) waits whole = refl
whole_unless true (Err fault) waits whole = refl
whole_unless false r waits whole = sym (ap is_whole (waits refl))

-- if no packet is asked for, nothing is dropped
pub none_kept : (line : ℕ) (f : Framing) → None ≡ first_call line f.held → without_first f ≡ f
none_kept line f e = by (first_of f.held) e
  where
    by : (r : Front) → None ≡ call_by line f.held r → without_by r f ≡ f
    by (Ok None) e = refl
    by (Ok (Some x)) e = absurd cc
    by (Err fault) e = refl

-- nor is anything dropped if a fault is asked for
pub bad_kept : (line : ℕ) (is_connect : Bool) (code : ℕ) (f : Framing) → Some (BadInput line is_connect code) ≡ first_call line f.held → without_first f ≡ f
bad_kept line is_connect code f e = by (first_of f.held) e
  where
    by : (r : Front) → Some (BadInput line is_connect code) ≡ call_by line f.held r → without_by r f ≡ f
    by (Ok None) e = refl
    by (Ok (Some x)) e = absurd cc
    by (Err fault) e = refl
