-- Where the handshake of one identifier stands: its message, the packets that may be under way, whether it is open.
use Rattle.std.proofs.Common.{◌≡◌, ◌⊎◌, inl, inr, ⊎_elim, ℕ, suc, ◌≤◌, Bool, true, false, cond, List, [], ◌∷◌, ◌++◌, length, nat_eq, if◌then◌else◌, filter, sym, ◌∙◌, subst, Option, Some, None, slice_get, eqb-true, arith}
use Rattle.std.specs.List.{list_any}
use Rattle.mqtt_base.specs.declared.limits.TheConstants.{OPEN_LIMIT}
use Rattle.mqtt_base.specs.Codes.{is_success}
use Rattle.mqtt_flow.specs.inbound.Identifiers.{is_among}
use Rattle.mqtt_flow.specs.inbound.Line.{Link, away, asked, live}
use Rattle.mqtt_flow.specs.inbound.Publisher.{Finish, completed, refused, forgotten, Fate, sent_1, ended_1, sent, released, ended, FromPublisher, CONNECT, PUBLISH_1, PUBLISH_2, PUBREL, ToPublisher, CONNACK, CONNACK_REFUSED, PUBACK, PUBREC, PUBCOMP, DISCONNECT, in_flight}
use Rattle.mqtt_flow.specs.inbound.InboundWorld.{World, count_of}
use Rattle.mqtt_flow.proofs.inbound_lemmas.Identifiers.{test_cases}

-- a packet is about identifier i
abbrev pub up_about : ℕ → FromPublisher → Bool
up_about i (CONNECT clean) = false
up_about i (PUBLISH_1 j n dup) = nat_eq i j
up_about i (PUBLISH_2 j n dup) = nat_eq i j
up_about i (PUBREL j) = nat_eq i j

abbrev pub down_about : ℕ → ToPublisher → Bool
down_about i (CONNACK present) = false
down_about i (CONNACK_REFUSED code) = false
down_about i (PUBACK j code) = nat_eq i j
down_about i (PUBREC j code) = nat_eq i j
down_about i (PUBCOMP j code) = nat_eq i j
down_about i (DISCONNECT code) = false

abbrev pub ups : ℕ → List FromPublisher → List FromPublisher
ups i ps = filter (up_about i) ps

abbrev pub downs : ℕ → List ToPublisher → List ToPublisher
downs i ps = filter (down_about i) ps

-- what a message in flight waits for
pub data Mark : Type 0 where
  for_puback : Mark
  for_pubrec : Mark
  for_pubcomp : Mark

-- the messages in flight under identifier i, with their numbers
abbrev pub holding : ℕ → ℕ → Fate → List (ℕ × Mark)
holding i n (sent_1 j) = if nat_eq i j then (n, for_puback) ∷ [] else []
holding i n (ended_1 by) = []
holding i n (sent j) = if nat_eq i j then (n, for_pubrec) ∷ [] else []
holding i n (released j) = if nat_eq i j then (n, for_pubcomp) ∷ [] else []
holding i n (ended by) = []

abbrev pub held : ℕ → ℕ → List Fate → List (ℕ × Mark)
held i n [] = []
held i n (f ∷ fs) = holding i n f ++ held i (suc n) fs

-- the stages of an identifier
pub data Stage : Type 0 where
  free : Stage
  publishing_1 : (n : ℕ) (dup : Bool) → Stage  -- a QoS 1 PUBLISH may be under way
  acknowledging : (n code : ℕ) → Stage  -- a PUBACK may be under way
  publishing : (n : ℕ) (dup is_among : Bool) → Stage  -- a QoS 2 PUBLISH may be under way
  receiving : (n code : ℕ) → Stage  -- a PUBREC may be under way
  releasing : (n : ℕ) (is_among : Bool) → Stage  -- a PUBREL may be under way
  completing : (n code : ℕ) → Stage  -- a PUBCOMP may be under way

abbrev pub held_of : Stage → List (ℕ × Mark)
held_of free = []
held_of (publishing_1 n dup) = (n, for_puback) ∷ []
held_of (acknowledging n code) = (n, for_puback) ∷ []
held_of (publishing n dup o) = (n, for_pubrec) ∷ []
held_of (receiving n code) = (n, for_pubrec) ∷ []
held_of (releasing n o) = (n, for_pubcomp) ∷ []
held_of (completing n code) = (n, for_pubcomp) ∷ []

abbrev pub up_of : ℕ → Stage → List FromPublisher
up_of i free = []
up_of i (publishing_1 n dup) = PUBLISH_1 i n dup ∷ []
up_of i (acknowledging n code) = []
up_of i (publishing n dup o) = PUBLISH_2 i n dup ∷ []
up_of i (receiving n code) = []
up_of i (releasing n o) = PUBREL i ∷ []
up_of i (completing n code) = []

abbrev pub down_of : ℕ → Stage → List ToPublisher
down_of i free = []
down_of i (publishing_1 n dup) = []
down_of i (acknowledging n code) = PUBACK i code ∷ []
down_of i (publishing n dup o) = []
down_of i (receiving n code) = PUBREC i code ∷ []
down_of i (releasing n o) = []
down_of i (completing n code) = PUBCOMP i code ∷ []

-- a PUBREC that tells success was sent with the identifier open, another with it closed
abbrev pub open_of : Stage → Bool
open_of free = false
open_of (publishing_1 n dup) = false
open_of (acknowledging n code) = false
open_of (publishing n dup o) = o
open_of (receiving n code) = is_success code
open_of (releasing n o) = o
open_of (completing n code) = false

-- a PUBACK that tells success follows an acceptance
abbrev pub Fits : List ℕ → Stage → Type 0
Fits accepted free = Unit {0}
Fits accepted (publishing_1 n dup) = Unit {0}
Fits accepted (acknowledging n code) = is_success code ≡ true → 1 ≤ count_of n accepted
Fits accepted (publishing n dup o) = Unit {0}
Fits accepted (receiving n code) = Unit {0}
Fits accepted (releasing n o) = Unit {0}
Fits accepted (completing n code) = Unit {0}

-- what may be under way is, or has been lost
abbrev pub AtMost : {P : Type 0} → List P → List P → Type 0
AtMost xs ys = (xs ≡ []) ⊎ (xs ≡ ys)

-- identifier i is at stage s: at most one packet about it is under way, in one direction
pub record At (i : ℕ) (fates : List Fate) (old up : List FromPublisher) (down : List ToPublisher) (ids accepted : List ℕ) (s : Stage) : Type 0 where
  pub holds : held i 0 fates ≡ held_of s
  pub of_old : AtMost (ups i old) (up_of i s)
  pub of_up : AtMost (ups i up) (up_of i s)
  pub of_down : AtMost (downs i down) (down_of i s)
  pub open_is : is_among i ids ≡ open_of s
  pub fits : Fits accepted s

-- how often a message was accepted, by how its handshake ended
abbrev pub EndTold_1 : ℕ → Finish → Type 0
EndTold_1 c completed = 1 ≤ c
EndTold_1 c refused = Unit {0}
EndTold_1 c forgotten = Unit {0}

abbrev pub EndTold : ℕ → Finish → Type 0
EndTold c completed = c ≡ 1
EndTold c refused = c ≡ 0
EndTold c forgotten = c ≤ 1

-- and by its fate: a sent one as often as its identifier is open
abbrev pub Told : List ℕ → ℕ → Option Fate → Type 0
Told ids c None = c ≡ 0
Told ids c (Some (sent_1 i)) = Unit {0}
Told ids c (Some (ended_1 by)) = EndTold_1 c by
Told ids c (Some (sent i)) = c ≡ cond (is_among i ids) 1 0
Told ids c (Some (released i)) = c ≡ 1
Told ids c (Some (ended by)) = EndTold c by

-- a CONNECT
abbrev pub is_connect : FromPublisher → Bool
is_connect (CONNECT clean) = true
is_connect (PUBLISH_1 i n dup) = false
is_connect (PUBLISH_2 i n dup) = false
is_connect (PUBREL i) = false

-- a line that was given up holds no CONNECT, or one with Clean Start 0 alone
abbrev pub IsOld : List FromPublisher → Type 0
IsOld old = (list_any is_connect old ≡ false) ⊎ (old ≡ CONNECT false ∷ [])

-- once the session was connected on another line, at most that CONNECT
abbrev pub IsLate : List FromPublisher → Type 0
IsLate old = (old ≡ []) ⊎ (old ≡ CONNECT false ∷ [])

-- after CONNACK only DISCONNECT, while the publisher has not read it
abbrev pub IsQuiet : List ToPublisher → Type 0
IsQuiet [] = Unit {0}
IsQuiet (CONNACK present ∷ ps) = ⊥
IsQuiet (CONNACK_REFUSED code ∷ ps) = ⊥
IsQuiet (PUBACK i code ∷ ps) = ⊥
IsQuiet (PUBREC i code ∷ ps) = ⊥
IsQuiet (PUBCOMP i code ∷ ps) = ⊥
IsQuiet (DISCONNECT code ∷ ps) = IsQuiet ps

-- the lines, by how far the publisher has come
pub data Calm (link : Link) (clean linked stands : Bool) (up : List FromPublisher) (down : List ToPublisher) (old : List FromPublisher) (fates : List Fate) : Type 0 where
  is_away : link ≡ away → linked ≡ false → up ≡ [] → down ≡ [] → Calm link clean linked stands up down old fates
  is_asking : link ≡ asked → linked ≡ false → up ≡ CONNECT clean ∷ [] → down ≡ [] → Calm link clean linked stands up down old fates
  is_shut : link ≡ asked → linked ≡ false → up ≡ [] → down ≡ [] → Calm link clean linked stands up down old fates
  is_turned : (code : ℕ) → link ≡ asked → linked ≡ false → up ≡ [] → down ≡ CONNACK_REFUSED code ∷ [] → Calm link clean linked stands up down old fates
  is_answered : (present : Bool) (rest : List ToPublisher) → link ≡ asked → up ≡ [] → down ≡ CONNACK present ∷ rest → IsQuiet rest → IsLate old → (present ≡ true) ⊎ (in_flight fates ≡ []) → stands ≡ true → Calm link clean linked stands up down old fates
  is_live : link ≡ live → list_any is_connect up ≡ false → IsLate old → stands ≡ true → Calm link clean linked stands up down old fates

-- the invariant: each identifier has its stage, each message was accepted as its fate tells, and the lines are calm
pub record Norm (w : World) : Type 0 where
  pub each : (i : ℕ) → (s : Stage) × At i w.fates w.old w.up w.down w.ids w.accepted s
  pub told : (n : ℕ) → Told w.ids (count_of n w.accepted) (slice_get w.fates n)
  pub calm : Calm w.link w.clean w.linked w.stands w.up w.down w.old w.fates
  pub within : length w.ids ≤ OPEN_LIMIT
  pub begun : w.stands ≡ false → (in_flight w.fates ≡ []) × (w.ids ≡ [])
  pub olds : IsOld w.old

-- after a Clean Start was read, until its CONNACK is
abbrev pub Weak : ℕ → Option Fate → Type 0
Weak c None = c ≡ 0
Weak c (Some (sent_1 i)) = Unit {0}
Weak c (Some (ended_1 by)) = EndTold_1 c by
Weak c (Some (sent i)) = c ≤ 1
Weak c (Some (released i)) = c ≤ 1
Weak c (Some (ended by)) = EndTold c by

-- how the lines stand while a Clean Start is carried through
pub data Blank (link : Link) (linked : Bool) (up : List FromPublisher) (down : List ToPublisher) : Type 0 where
  blank_away : link ≡ away → linked ≡ false → up ≡ [] → down ≡ [] → Blank link linked up down
  blank_asking : link ≡ asked → linked ≡ false → up ≡ CONNECT true ∷ [] → down ≡ [] → Blank link linked up down
  blank_shut : link ≡ asked → linked ≡ false → up ≡ [] → down ≡ [] → Blank link linked up down
  blank_answered : (rest : List ToPublisher) → link ≡ asked → up ≡ [] → down ≡ CONNACK false ∷ rest → IsQuiet rest → Blank link linked up down

-- what is known after a Clean Start was read, until its CONNACK is: nothing is open, nothing else is under way
pub record Fresh (w : World) : Type 0 where
  pub of_ids : w.ids ≡ []
  pub late : IsLate w.old
  pub lines : Blank w.link w.linked w.up w.down
  pub weak : (n : ℕ) → Weak (count_of n w.accepted) (slice_get w.fates n)
  pub pending : w.clean ≡ true
  pub begun : w.stands ≡ true

abbrev pub Good : World → Type 0
Good w = Norm w ⊎ Fresh w

-- at most nothing is nothing
pub at_most_none : {P : Type 0} {xs : List P} → AtMost xs [] → xs ≡ []
at_most_none (inl e) = e
at_most_none (inr e) = e

-- "at most" goes on from one to the next
pub at_most_more : {P : Type 0} {xs ys zs : List P} → AtMost xs ys → AtMost ys zs → AtMost xs zs
at_most_more (inl e) h = inl e
at_most_more (inr e) (inl h) = inl (e ∙ h)
at_most_more (inr e) (inr h) = inr (e ∙ h)

-- if at most so much is and something is, it is all of that
pub at_head : {P : Type 0} {xs ys : List P} {p : P} → AtMost (p ∷ xs) ys → p ∷ xs ≡ ys
at_head (inl e) = absurd (cc)
at_head (inr e) = e

-- an identifier that a step does not name stays at its stage
pub same_stage : {i : ℕ} {f f' : List Fate} {a a' b b' : List FromPublisher} {d d' : List ToPublisher} {o o' acc : List ℕ} {s : Stage} → At i f a b d o acc s → held i 0 f' ≡ held i 0 f → AtMost (ups i a') (ups i a) → AtMost (ups i b') (ups i b) → AtMost (downs i d') (downs i d) → is_among i o' ≡ is_among i o → At i f' a' b' d' o' acc s
same_stage at hf ha hb hd ho = record {
  holds = hf ∙ at.holds;
  of_old = at_most_more ha at.of_old;
  of_up = at_most_more hb at.of_up;
  of_down = at_most_more hd at.of_down;
  open_is = ho ∙ at.open_is;
  fits = at.fits;
}

-- each as often at least
abbrev pub IsMore : List ℕ → List ℕ → Type 0
IsMore acc acc' = (n : ℕ) → count_of n acc ≤ count_of n acc'

fits_more : (s : Stage) (acc acc' : List ℕ) → IsMore acc acc' → Fits acc s → Fits acc' s
fits_more free acc acc' g h = tt
fits_more (publishing_1 n dup) acc acc' g h = tt
fits_more (acknowledging n code) acc acc' g h = λ e. let more = g n in let one = h e in omega arith
fits_more (publishing n dup o) acc acc' g h = tt
fits_more (receiving n code) acc acc' g h = tt
fits_more (releasing n o) acc acc' g h = tt
fits_more (completing n code) acc acc' g h = tt

-- what holds of an identifier holds behind more acceptances
pub more_accepted : {i : ℕ} {f : List Fate} {a b : List FromPublisher} {d : List ToPublisher} {o acc : List ℕ} (acc' : List ℕ) (s : Stage) → IsMore acc acc' → At i f a b d o acc s → At i f a b d o acc' s
more_accepted {acc = acc} acc' s g at = record {
  holds = at.holds;
  of_old = at.of_old;
  of_up = at.of_up;
  of_down = at.of_down;
  open_is = at.open_is;
  fits = fits_more s acc acc' g at.fits;
}

-- what holds of one identifier and of all others holds of each
pub by_id : (P : ℕ → Type 0) (i j : ℕ) → P i → (nat_eq j i ≡ false → P j) → P j
by_id P i j p q = ⊎_elim (λ (e : nat_eq j i ≡ true). subst P (sym (eqb-true j i e)) p) q (test_cases (nat_eq j i))
