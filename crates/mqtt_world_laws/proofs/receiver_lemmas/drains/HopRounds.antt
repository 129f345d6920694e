-- What a hop's run says of what is under way.
use Rattle.std.proofs.Common.{◌≡◌, inl, inr, ℕ, Bool, true, List, [], ◌∷◌, map, subst}
use Rattle.mqtt_base.specs.declared.session.Phase.{Phase}
use Rattle.mqtt_base.specs.declared.session.Phase.TheVariants.{Waiting, Sent, Released, Oversize}
use Rattle.mqtt_flow.specs.outbound.Receiver.{Body}
use Rattle.mqtt_flow.specs.outbound.OutboundWorld.{Lot, standing, past, Event, body, run, start}
use Rattle.mqtt_flow.proofs.outbound_lemmas.outbound.LivesWorld as lives
use Rattle.mqtt_flow.proofs.outbound_lemmas.outbound.ReceiverReads.{begins}
use Rattle.mqtt_flow.proofs.outbound_lemmas.outbound.SessionLives.{life, life_by, seen}
use Rattle.mqtt_flow.proofs.outbound_lemmas.outbound.SessionSteps.{run_leads, sound_start}
use Rattle.mqtt_world_laws.specs.receiver.Rounds.{Has, is_due, is_due_by, IsUnderWay}
use Rattle.mqtt_world_laws.proofs.receiver_lemmas.queue.UnderWay as due
use Rattle.mqtt_world_laws.proofs.receiver_lemmas.queue.UnderWay.{Open, Owed, run_open, run_owed}

due_by : (i : ℕ) (phase : Phase) (here : Bool) (b : Body) → is_due_by i here phase ≡ true → due.is_due i (life_by phase here b) ≡ true
due_by i Waiting here b e = absurd (cc)
due_by i (Sent j) here b e = e
due_by i (Released j order) here b e = e
due_by i (Oversize j order) here b e = e

due_lives : (i : ℕ) (ls : List Lot) → Has (is_due i) ls → Has (due.is_due i) (map life ls)
due_lives i [] h = h
due_lives i (standing e m ∷ ls) (inl x) = inl (due_by i e.phase e.here (body e m) x)
due_lives i (past ending e m ∷ ls) (inl x) = absurd (cc)
due_lives i (standing e m ∷ ls) (inr h) = inr (due_lives i ls h)
due_lives i (past ending e m ∷ ls) (inr h) = inr (due_lives i ls h)

-- nothing is due at first
none_due : Owed lives.start
none_due h i x = absurd x

-- on a linked line each copy of which something is due has it, or its answer, under way
pub all_under_way : (largest : ℕ) (es : List Event) → (run largest es start).linked ≡ true → IsUnderWay (run largest es start)
all_under_way largest es h i x =
    let l = run_leads largest es start (sound_start largest) begins in
    let w = run largest es start in
    let o : Owed (seen w) = subst Owed l.same (run_owed l.events lives.start begins none_due) in
    o h i (due_lives i w.copies x)

none_parting : Open lives.start
none_parting h x = absurd x

-- nothing under way to the receiver ends its line
pub none_ends : (largest : ℕ) (es : List Event) → Open (seen (run largest es start))
none_ends largest es =
    let l = run_leads largest es start (sound_start largest) begins in
    subst Open l.same (run_open l.events lives.start begins none_parting)
