-- The ledger only grows.
use Rattle.std.proofs.Common.{◌≡◌, ⊎_elim, ℕ, ◌≤◌, Bool, true, false, List, [], ◌∷◌, ◌++◌, refl, ap, ◌∙◌, arith}
use Rattle.mqtt_flow.specs.inbound.Identifiers.{is_among}
use Rattle.mqtt_flow.specs.inbound.Line.{Link, away, asked, live}
use Rattle.mqtt_flow.specs.outbound.Receiver.{Body, Output, connack, no_connack, publish, pubrel, disconnect, Handed, handed, read_publish, read_connack, down_comes}
use Rattle.mqtt_flow.specs.outbound.OutboundCourse.{Grows}
use Rattle.mqtt_flow.proofs.outbound_lemmas.outbound.LivesWorld.{World, Event, enter, finish, pump, to_broker, old_to_broker, to_end, give_up, break_line, make_line, close, close_old, restart, step, run}
use Rattle.mqtt_flow.proofs.inbound_lemmas.Identifiers.{test_cases}
use Rattle.mqtt_flow.proofs.outbound_lemmas.outbound.Carried.{Quiet, silent, ups_quiet, olds_quiet, pump_quiet, enter_quiet, gives_quiet, joins_quiet}

-- a list that stays has grown by nothing
pub grows_same : (hs : List Handed) → Grows hs hs
grows_same [] = tt
grows_same (h ∷ hs) = (refl, grows_same hs)

grows_push : (hs : List Handed) (x : Handed) → Grows hs (hs ++ x ∷ [])
grows_push [] x = tt
grows_push (h ∷ hs) x = (refl, grows_push hs x)

grows_on : (hs ks ls : List Handed) → Grows hs ks → Grows ks ls → Grows hs ls
grows_on [] ks ls a b = tt
grows_on (h ∷ hs) [] ls a b = absurd a
grows_on (h ∷ hs) (k ∷ ks) [] a b = absurd b
grows_on (h ∷ hs) (k ∷ ks) (l ∷ ls) a b = (b.0 ∙ a.0, grows_on hs ks ls a.1 b.1)

-- a copy that was read stays read
pub grows_handed : (n : ℕ) (hs ks : List Handed) → Grows hs ks → handed n hs ≤ handed n ks
grows_handed n [] ks a = omega arith
grows_handed n (h ∷ hs) [] a = absurd a
grows_handed n (h ∷ hs) (k ∷ ks) a =
    let same : k.copy ≡ h.copy = ap (λ (x : Handed). x.copy) a.0 in
    rw same (omega (arith, grows_handed n hs ks a.1))

-- both lists grow
abbrev pub Growing : World → World → Type 0
Growing w w' = Grows w.ledger w'.ledger × Grows w.reads w'.reads

still : (w w' : World) → Quiet w w' → Growing w w'
still w w' q = (rw q.0 (grows_same w.ledger), rw q.1 (grows_same w.reads))

growing_same : (w : World) → Growing w w
growing_same w = still w w (silent w)

reading : (t : Bool) (i n : ℕ) (b : Body) (rest : List Output) (w : World) → Growing w (read_publish t i n b rest w)
reading true i n b rest w = (
  ⊎_elim
      (λ (e : is_among i w.kept ≡ true). rw e (grows_same w.ledger))
      (λ (e : is_among i w.kept ≡ false). rw e (grows_push w.ledger (record { copy = n; body = b })))
      (test_cases (is_among i w.kept)),
  grows_same w.reads,
)
reading false i n b rest w = (grows_same w.ledger, grows_push w.reads (record { copy = n; body = b }))

connected : (l : Link) (p : Bool) (rest : List Output) (w : World) → Growing w (read_connack l p rest w)
connected away p rest w = growing_same w
connected asked p rest w = growing_same w
connected live p rest w = growing_same w

down_growing : (down : List Output) (w : World) → Growing w (down_comes down w)
down_growing [] w = growing_same w
down_growing (connack p ∷ rest) w = connected w.link p rest w
down_growing (no_connack ∷ rest) w = growing_same w
down_growing (publish i n dup b ∷ rest) w = reading b.twice i n b rest w
down_growing (pubrel i code ∷ rest) w = growing_same w
down_growing (disconnect ∷ rest) w = growing_same w

step_growing : (w : World) (e : Event) → Growing w (step w e)
step_growing w (enter b) = still w (step w (enter b)) (enter_quiet w.stands b w)
step_growing w (finish l n) = growing_same w
step_growing w (pump k) = still w (step w (pump k)) (pump_quiet k w)
step_growing w (to_broker r order) = still w (step w (to_broker r order)) (ups_quiet r order w.up w)
step_growing w (old_to_broker r) = still w (step w (old_to_broker r)) (olds_quiet r w.old w)
step_growing w to_end = down_growing w.down w
step_growing w give_up = still w (step w give_up) (gives_quiet w.clean w.link w)
step_growing w break_line = growing_same w
step_growing w (make_line c) = still w (step w (make_line c)) (joins_quiet w.link c w)
step_growing w close = growing_same w
step_growing w close_old = growing_same w
step_growing w restart = growing_same w

-- in a run what was read stays read, and more comes behind it
pub run_growing : (es : List Event) (w : World) → Growing w (run es w)
run_growing [] w = growing_same w
run_growing (e ∷ es) w =
    let on = step_growing w e in
    let rest = run_growing es (step w e) in
    (grows_on w.ledger (step w e).ledger (run es (step w e)).ledger on.0 rest.0, grows_on w.reads (step w e).reads (run es (step w e)).reads on.1 rest.1)
