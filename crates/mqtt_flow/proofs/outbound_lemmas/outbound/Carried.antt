-- The ledger has what the copies carry.
use Rattle.std.proofs.Common.{◌≡◌, inl, inr, ⊎_elim, ℕ, Bool, true, false, List, [], ◌∷◌, ◌++◌, refl, sym, ap, ◌∙◌, subst, Option, Some, None, slice_get, option_map}
use Rattle.mqtt_flow.specs.inbound.Identifiers.{is_among}
use Rattle.mqtt_flow.specs.inbound.Line.{Link, away, asked, live}
use Rattle.mqtt_flow.specs.outbound.Receiver.{Body, Output, connack, no_connack, publish, pubrel, disconnect, Answer, connect, puback, pubrec, pubcomp, Handed, read_publish, read_connack, down_comes, gives_up, joins}
use Rattle.mqtt_flow.proofs.outbound_lemmas.outbound.Lives.{sent, Life, body_of, find, Reply, wrong, says, puback_reply, pubrec_reply, pubcomp_reply}
use Rattle.mqtt_flow.proofs.outbound_lemmas.outbound.LivesWorld.{World, Event, enter, finish, pump, to_broker, old_to_broker, to_end, give_up, break_line, make_line, close, close_old, restart, enters_in, pump_one, connects, connects_old, replied, replied_old, up_comes, old_comes, step, run, start}
use Rattle.mqtt_flow.proofs.outbound_lemmas.outbound.LivesCourse.{Goes_on, Carries}
use Rattle.mqtt_flow.proofs.inbound_lemmas.Identifiers.{test_cases}
use Rattle.mqtt_flow.proofs.outbound_lemmas.outbound.Stages.{At, Stage, Good, Blank, no_line, is_asked, was_shut, effective}
use Rattle.mqtt_flow.proofs.outbound_lemmas.outbound.ReceiverReads.{publish_came, the_copy, keeps, begins}
use Rattle.mqtt_flow.proofs.outbound_lemmas.outbound.Course.{next_body, step_on}

body_on : (f g : Option Life) (b : Body) → Goes_on f g → option_map body_of f ≡ Some b → option_map body_of g ≡ Some b
body_on None g b x h = absurd (cc)
body_on (Some f) None b x h = absurd x
body_on (Some f) (Some g) b x h = ap Some (next_body f g x) ∙ h

carries_on : (fs gs : List Life) (hs : List Handed) → ((n : ℕ) → Goes_on (slice_get fs n) (slice_get gs n)) → Carries fs hs → Carries gs hs
carries_on fs gs [] h c = tt
carries_on fs gs (x ∷ hs) h c = (body_on (slice_get fs x.copy) (slice_get gs x.copy) x.body (h x.copy) c.0, carries_on fs gs hs h c.1)

carries_push : (fs : List Life) (hs : List Handed) (x : Handed) → Carries fs hs → option_map body_of (slice_get fs x.copy) ≡ Some x.body → Carries fs (hs ++ x ∷ [])
carries_push fs [] x c h = (h, tt)
carries_push fs (y ∷ hs) x c h = (c.0, carries_push fs hs x c.1 h)

-- nothing is read
abbrev pub Quiet : World → World → Type 0
Quiet w w' = (w'.ledger ≡ w.ledger) × (w'.reads ≡ w.reads)

-- if nothing happens nothing is read
pub silent : (w : World) → Quiet w w
silent w = (refl, refl)

replying : (r : Reply) (rest : List Answer) (cs : List Life) (w : World) → Quiet w (replied r rest cs w)
replying wrong rest cs w = silent w
replying (says ps) rest cs w = silent w

replying_old : (r : Reply) (rest : List Answer) (cs : List Life) (w : World) → Quiet w (replied_old r rest cs w)
replying_old wrong rest cs w = silent w
replying_old (says ps) rest cs w = silent w

connecting : (s c r : Bool) (order : List ℕ) (rest : List Answer) (w : World) → Quiet w (connects s c r order rest w)
connecting false c true order rest w = silent w
connecting false c false order rest w = silent w
connecting true true r order rest w = silent w
connecting true false r order rest w = silent w

connecting_old : (s c r : Bool) (rest : List Answer) (w : World) → Quiet w (connects_old s c r rest w)
connecting_old false c true rest w = silent w
connecting_old false c false rest w = silent w
connecting_old true true r rest w = silent w
connecting_old true false r rest w = silent w

-- if the broker reads the receiver's line nothing is read by the receiver
pub ups_quiet : (r : Bool) (order : List ℕ) (up : List Answer) (w : World) → Quiet w (up_comes r order up w)
ups_quiet r order [] w = silent w
ups_quiet r order (connect c ∷ rest) w = connecting w.stands c r order rest w
ups_quiet r order (puback i code ∷ rest) w = replying (puback_reply (find i w.copies)) rest _ w
ups_quiet r order (pubrec i code ∷ rest) w = replying (pubrec_reply i code (find i w.copies)) rest _ w
ups_quiet r order (pubcomp i code ∷ rest) w = replying (pubcomp_reply (find i w.copies)) rest _ w

-- if the broker reads the line that was given up nothing is read by the receiver
pub olds_quiet : (r : Bool) (old : List Answer) (w : World) → Quiet w (old_comes r old w)
olds_quiet r [] w = silent w
olds_quiet r (connect c ∷ rest) w = connecting_old w.stands c r rest w
olds_quiet r (puback i code ∷ rest) w = replying_old (puback_reply (find i w.copies)) rest _ w
olds_quiet r (pubrec i code ∷ rest) w = replying_old (pubrec_reply i code (find i w.copies)) rest _ w
olds_quiet r (pubcomp i code ∷ rest) w = replying_old (pubcomp_reply (find i w.copies)) rest _ w

-- a pump alone makes the receiver read nothing
pub pump_quiet : (i : ℕ) (w : World) → Quiet w (pump_one i w)
pump_quiet i w = silent w

connack_quiet : (l : Link) (p : Bool) (rest : List Output) (w : World) → Quiet w (read_connack l p rest w)
connack_quiet away p rest w = silent w
connack_quiet asked p rest w = silent w
connack_quiet live p rest w = silent w

-- a copy that enters makes the receiver read nothing
pub enter_quiet : (s : Bool) (b : Body) (w : World) → Quiet w (enters_in s b w)
enter_quiet true b w = silent w
enter_quiet false b w = silent w

-- a receiver that gives its line up reads nothing
pub gives_quiet : (c : Bool) (l : Link) (w : World) → Quiet w (gives_up c l w)
gives_quiet true l w = silent w
gives_quiet false away w = silent w
gives_quiet false asked w = silent w
gives_quiet false live w = silent w

-- a receiver that joins by a new line reads nothing
pub joins_quiet : (l : Link) (c : Bool) (w : World) → Quiet w (joins l c w)
joins_quiet away c w = silent w
joins_quiet asked c w = silent w
joins_quiet live c w = silent w

abbrev pub Carried : World → Type 0
Carried w = Carries w.copies w.ledger × Carries w.copies w.reads

-- the copy of a PUBLISH under way carries what it says
publish_copy : (i n : ℕ) (dup : Bool) (b : Body) (rest : List Output) (w : World) → w.down ≡ publish i n dup b ∷ rest → Good w → option_map body_of (slice_get w.copies n) ≡ Some b
publish_copy i n dup b rest w u (inl inv) =
    let each : (j : ℕ) → (s : Stage) × At j w.copies w.linked w.old w.up (publish i n dup b ∷ rest) (effective w.link w.down w.kept) w.reads s = subst (λ d. (j : ℕ) → (s : Stage) × At j w.copies w.linked w.old w.up d (effective w.link w.down w.kept) w.reads s) u inv.each in
    let c = publish_came (each i).0 (each i).1 in
    ap (option_map body_of) (the_copy i n (sent c.here) b w.copies c.holds)
publish_copy i n dup b rest w u (inr f) = absurd (go f.lines)
  where
    go : Blank w.link w.linked w.up w.down → ⊥
    go (no_line h v d x) = let z = sym u ∙ d in cc
    go (is_asked h v d x) = let z = sym u ∙ d in cc
    go (was_shut h v d x) = let z = sym u ∙ d in cc

reading : (t : Bool) (i n : ℕ) (b : Body) (rest : List Output) (w : World) → option_map body_of (slice_get w.copies n) ≡ Some b → Carried w → Carried (read_publish t i n b rest w)
reading true i n b rest w h c = (
  ⊎_elim
      (λ (e : is_among i w.kept ≡ true). rw e c.0)
      (λ (e : is_among i w.kept ≡ false). rw e (carries_push w.copies w.ledger (record { copy = n; body = b }) c.0 h))
      (test_cases (is_among i w.kept)),
  c.1,
)
reading false i n b rest w h c = (c.0, carries_push w.copies w.reads (record { copy = n; body = b }) c.1 h)

quietly : (w w' : World) → ((n : ℕ) → Goes_on (slice_get w.copies n) (slice_get w'.copies n)) → Quiet w w' → Carried w → Carried w'
quietly w w' on q c = (rw q.0 (carries_on w.copies w'.copies w.ledger on c.0), rw q.1 (carries_on w.copies w'.copies w.reads on c.1))

down_carry : (down : List Output) (w : World) → w.down ≡ down → Good w → Carried w → Carried (down_comes down w)
down_carry [] w u g c = c
down_carry (connack p ∷ rest) w u g c = connack_carry w.link
  where
    connack_carry : (l : Link) → Carried (read_connack l p rest w)
    connack_carry away = c
    connack_carry asked = c
    connack_carry live = c
down_carry (no_connack ∷ rest) w u g c = c
down_carry (publish i n dup b ∷ rest) w u g c = reading b.twice i n b rest w (publish_copy i n dup b rest w u g) c
down_carry (pubrel i code ∷ rest) w u g c = c
down_carry (disconnect ∷ rest) w u g c = c

carry : (w : World) (e : Event) → Good w → Carried w → Carried (step w e)
carry w (enter b) g c = quietly w (step w (enter b)) (step_on w (enter b)) (enter_quiet w.stands b w) c
carry w (finish l n) g c = quietly w (step w (finish l n)) (step_on w (finish l n)) (silent w) c
carry w (pump k) g c = quietly w (step w (pump k)) (step_on w (pump k)) (pump_quiet k w) c
carry w (to_broker r order) g c = quietly w (step w (to_broker r order)) (step_on w (to_broker r order)) (ups_quiet r order w.up w) c
carry w (old_to_broker r) g c = quietly w (step w (old_to_broker r)) (step_on w (old_to_broker r)) (olds_quiet r w.old w) c
carry w to_end g c = down_carry w.down w refl g c
carry w give_up g c = quietly w (step w give_up) (step_on w give_up) (gives_quiet w.clean w.link w) c
carry w break_line g c = c
carry w (make_line d) g c = quietly w (step w (make_line d)) (step_on w (make_line d)) (joins_quiet w.link d w) c
carry w close g c = c
carry w close_old g c = c
carry w restart g c = quietly w (step w restart) (step_on w restart) (silent w) c

-- if what was read is what the copies carry, it is so after any run
pub carried : (es : List Event) (w : World) → Good w → Carried w → Carried (run es w)
carried [] w g c = c
carried (e ∷ es) w g c = carried es (step w e) (keeps w e g) (carry w e g c)

-- what was read in a run from the start is what the copies carry
pub carried_all : (es : List Event) → Carried (run es start)
carried_all es = carried es start begins (tt, tt)
