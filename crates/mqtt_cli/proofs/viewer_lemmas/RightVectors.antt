-- What a framer finds of a frame, piece by piece, and vectors that are judged one after the other.
use Rattle.std.proofs.Common.{◌≡◌, ◌≢◌, ◌↔◌, ℕ, suc, ◌+◌, ◌<◌, ◌≤◌, Bool, false, List, [], ◌∷◌, ◌++◌, length, take, drop, None, Some, Result, Ok, Err, IfOk, IsTrue, refl, ap, sym, ◌∙◌, subst, arith, inl, inr, append_assoc, append-nil, length-append, length-drop}
use Rattle.std.proofs.lemmas.List.{take-append-drop, take-append-le}
use Rattle.mqtt_packet.specs.declared.parts.fault.Fault.{Fault}
use Rattle.mqtt_packet.specs.declared.parts.fault.Fault.TheVariants.{Memory}
use Rattle.mqtt_base.specs.declared.limits.TheConstants.{PACKET_LIMIT}
use Rattle.mqtt_packet.specs.declared.codec.packet.Packet.{Packet}
use Rattle.mqtt_packet.specs.stream.Front.{first_of}
use Rattle.mqtt_packet.specs.stream.Stream.{Framing, Gives as GivesNext}
use Rattle.mqtt_packet.proofs.stream_lemmas.Fronts.{first_stays, first_within, found_packet, found_size}
use Rattle.mqtt_packet.proofs.stream_lemmas.Cuts.{fault_stays}
use Rattle.mqtt_cli.proofs.viewer_lemmas.Lines.{nothing_first}
use Rattle.mqtt_cli.specs.viewer.Vectors.{AreJudged, FindsWhole, IsRight, IsShown}
use Rattle.mqtt_cli.specs.declared.viewer.vectors_table.Gives.{Gives}
use Rattle.mqtt_cli.specs.declared.viewer.vectors_table.Gives.TheVariants.{Packet as Known, Refusal}
use Rattle.mqtt_cli.specs.declared.viewer.vectors_table.Vector.{Vector}

-- ---- a frame, piece by piece

-- the frame is what is held and what is to come, and nothing whole is held
pub record WaitsFor (frame held rest : List ℕ) : Type 0 where
  pub parts : held ++ rest ≡ frame
  pub waits : first_of held ≡ Ok None
  pub room : length held < PACKET_LIMIT

-- at first a framer waits for the whole frame
pub waits_first : (frame : List ℕ) (f : Framing) → f ≡ record { held = []; place = 0 } → WaitsFor frame f.held frame
waits_first frame f e =
    let held : f.held ≡ [] = ap (λ (g : Framing). g.held) e in
    record {
      parts = ap (λ (xs : List ℕ). xs ++ frame) held;
      waits = ap first_of held ∙ nothing_first;
      room = let none : length f.held ≡ 0 = ap length held in omega arith;
    }

-- one more piece came
pub fed_parts : (frame held rest piece new after : List ℕ) (k n : ℕ) → WaitsFor frame held rest → piece ≡ take k rest → n ≤ length piece
    → new ≡ held ++ take n piece → after ≡ drop n rest → new ++ after ≡ frame
fed_parts frame held rest piece new after k n w is_piece short is_new is_after =
    let long : n ≤ length (take k rest) = omega (arith, short, ap length is_piece) in
    let less : take n (take k rest) ≡ take n rest = sym (take-append-le n (take k rest) (drop k rest) long) ∙ ap (take n) (take-append-drop k rest) in
    let came : new ≡ held ++ take n rest = is_new ∙ ap (λ (xs : List ℕ). held ++ take n xs) is_piece ∙ ap (λ (xs : List ℕ). held ++ xs) less in
    ap (λ (xs : List ℕ). xs ++ after) came ∙ ap (λ (xs : List ℕ). (held ++ take n rest) ++ xs) is_after
    ∙ append_assoc held (take n rest) (drop n rest) ∙ ap (λ (xs : List ℕ). held ++ xs) (take-append-drop n rest) ∙ w.parts

-- what stands in what came stands in the frame
pub packet_stands : (frame held rest : List ℕ) (packet : Packet) (n : ℕ) → held ++ rest ≡ frame → first_of held ≡ Ok (Some (packet, n))
    → first_of frame ≡ Ok (Some (packet, n))
packet_stands frame held rest packet n e f =
    elim (first_stays held rest) [
      | inl w ↦ absurd cc
      | inr s ↦ sym (ap first_of e) ∙ s ∙ f
    ]

-- a fault in what is held is one of the frame
pub fault_stands : (frame held rest : List ℕ) (fault : Fault) → held ++ rest ≡ frame → first_of held ≡ Err fault → first_of frame ≡ Err fault
fault_stands frame held rest fault e f = sym (ap first_of e) ∙ fault_stays held rest fault f

-- the frame is the packet if nothing is left behind it, held or to come
pub is_whole : (frame held rest : List ℕ) (packet : Packet) (n : ℕ) → held ++ rest ≡ frame → first_of held ≡ Ok (Some (packet, n))
    → length rest ≡ 0 → length (drop n held) ≡ 0 → first_of frame ≡ Ok (Some (packet, length frame))
is_whole frame held rest packet n e f none gone =
    let within = first_within held packet n f in
    let all : n ≡ length frame = omega (arith, within.0, none, gone, length-drop n held, length-append held rest, ap length e) in
    subst (λ (k : ℕ). first_of frame ≡ Ok (Some (packet, k))) all (packet_stands frame held rest packet n e f)

-- and is not if something is
pub is_part : (frame held rest : List ℕ) (packet : Packet) (n : ℕ) → held ++ rest ≡ frame → first_of held ≡ Ok (Some (packet, n))
    → 0 < length rest + length (drop n held) → (other : Packet) → first_of frame ≢ Ok (Some (other, length frame))
is_part frame held rest packet n e f more other = λ whole.
    let within = first_within held packet n f in
    let same : n ≡ length frame = ap found_size (sym (packet_stands frame held rest packet n e f) ∙ whole) in
    absurd (omega (arith, within.0, more, same, length-drop n held, length-append held rest, ap length e))

-- what is found of the frame

-- a packet that leaves nothing is the frame's
pub whole_given : (frame rest : List ℕ) (f g : Framing) (x : Packet × ℕ) → f.held ++ rest ≡ frame → GivesNext f (Some x) g
    → length rest + length g.held ≡ 0 → first_of frame ≡ Ok (Some (x.0, length frame))
whole_given frame rest f g x parts (n, first, place, gone) none =
    is_whole frame f.held rest x.0 n parts first (omega (arith, none)) (omega (arith, none, ap (λ (h : Framing). length h.held) gone))

-- one that leaves something is not all of it
pub part_given : (frame rest : List ℕ) (f g : Framing) (x : Packet × ℕ) → f.held ++ rest ≡ frame → GivesNext f (Some x) g
    → 0 < length rest + length g.held → FindsWhole frame (Ok None)
part_given frame rest f g x parts (n, first, place, gone) more =
    let stands = packet_stands frame f.held rest x.0 n parts first in
    let left : 0 < length rest + length (drop n f.held) = omega (arith, more, ap (λ (h : Framing). length h.held) gone) in
    (is_part frame f.held rest x.0 n parts first left, λ fault bad. cc (sym stands ∙ bad))

-- a fault that is met is the frame's
pub fault_found : (frame held rest : List ℕ) (fault : Fault) → held ++ rest ≡ frame → (fault ≢ Memory → first_of held ≡ Err fault)
    → FindsWhole frame (Err fault)
fault_found frame held rest fault e stands = λ due. fault_stands frame held rest fault e (stands due)

-- ---- one vector

-- a frame that is refused is right if that is what its vector says
pub refused_right : (frame : List ℕ) (g : Gives) (fault : Fault) (right : Bool) → FindsWhole frame (Err fault) → fault ≢ Memory
    → (IsTrue right ↔ (g ≡ Refusal fault)) → (IsTrue right ↔ IsRight frame g)
refused_right frame (Known line shortest) fault right found due is =
    let stands : first_of frame ≡ Err fault = found due in
    ((λ t. absurd (cc (is.0 t))), (λ r. let (packet, first, shown) = r in absurd (cc (sym stands ∙ first))))
refused_right frame (Refusal known) fault right found due is =
    let stands : first_of frame ≡ Err fault = found due in (
      (λ t. let same : known ≡ fault = cc (is.0 t) in subst (λ (f : Fault). first_of frame ≡ Err f) (sym same) stands),
      (λ r. is.1 (let same : known ≡ fault = cc (sym stands ∙ r) in ap (λ (f : Fault). Refusal f) same)),
    )

-- one that is not whole is not
pub none_right : (frame : List ℕ) (g : Gives) → FindsWhole frame (Ok None) → (IsTrue false ↔ IsRight frame g)
none_right frame (Known line shortest) found = ((λ t. absurd cc), (λ r. let (packet, first, shown) = r in absurd (found.0 packet first)))
none_right frame (Refusal known) found = ((λ t. absurd cc), (λ r. absurd (found.1 known r)))

shown_right_by : (frame : List ℕ) (g : Gives) (packet : Packet) (right : Bool) → FindsWhole frame (Ok (Some packet))
    → (IsTrue right ↔ IsShown g (length frame) packet) → (IsTrue right ↔ IsRight frame g)
shown_right_by frame (Known line shortest) packet right found is = (
  (λ t. (packet, found, is.0 t)),
  (λ r. let (other, first, shown) = r in is.1 (subst (λ (p : Packet). IsShown (Known line shortest) (length frame) p) (ap (found_packet packet) (sym first ∙ found)) shown)),
)
shown_right_by frame (Refusal known) packet right found is = ((λ t. absurd (is.0 t)), (λ r. absurd (cc (sym found ∙ r))))

-- one that is shown is right if it shows what its vector says
pub shown_right : {E : Type 0} (frame : List ℕ) (g : Gives) (packet : Packet) (r : Result Bool E) → FindsWhole frame (Ok (Some packet))
    → IfOk r (λ right. IsTrue right ↔ IsShown g (length frame) packet) → IfOk r (λ right. IsTrue right ↔ IsRight frame g)
shown_right frame g packet (Ok right) found is = shown_right_by frame g packet right found is
shown_right frame g packet (Err e) found is = tt

-- ---- vectors, one after the other

-- those that were judged come first
pub record JudgedSoFar (vectors : List Vector) (rights : List Bool) (rest : List Vector) : Type 0 where
  pub done : List Vector
  pub parts : vectors ≡ done ++ rest
  pub judged : AreJudged done rights

-- at first no vector is judged
pub judged_first : (vectors : List Vector) → JudgedSoFar vectors [] vectors
judged_first vectors = record { done = []; parts = refl; judged = tt }

judged_more : (vectors : List Vector) (rights : List Bool) (vector : Vector) (right : Bool) → AreJudged vectors rights
    → (IsTrue right ↔ IsRight vector.frame.now vector.gives) → AreJudged (vectors ++ vector ∷ []) (rights ++ right ∷ [])
judged_more [] [] vector right a is = (is, tt)
judged_more [] (r ∷ rights) vector right a is = absurd a
judged_more (v ∷ vectors) [] vector right a is = absurd a
judged_more (v ∷ vectors) (r ∷ rights) vector right a is = (a.0, judged_more vectors rights vector right a.1 is)

-- one that is judged leaves those behind it
pub judged_next : (vectors : List Vector) (rights : List Bool) (vector : Vector) (rest : List Vector) (right : Bool)
    → JudgedSoFar vectors rights (vector ∷ rest) → (IsTrue right ↔ IsRight vector.frame.now vector.gives) → JudgedSoFar vectors (rights ++ right ∷ []) rest
judged_next vectors rights vector rest right j is =
    record {
      done = j.done ++ vector ∷ [];
      parts = j.parts ∙ sym (append_assoc j.done (vector ∷ []) rest);
      judged = judged_more j.done rights vector right j.judged is;
    }

-- behind the last all are judged
pub judged_all : (vectors : List Vector) (rights : List Bool) → JudgedSoFar vectors rights [] → AreJudged vectors rights
judged_all vectors rights j = subst (λ (vs : List Vector). AreJudged vs rights) (sym (j.parts ∙ append-nil j.done)) j.judged

-- there is one answer a vector
pub judged_count : (vectors : List Vector) (rights : List Bool) → AreJudged vectors rights → length rights ≡ length vectors
judged_count [] [] a = refl
judged_count [] (r ∷ rights) a = absurd a
judged_count (v ∷ vectors) [] a = absurd a
judged_count (v ∷ vectors) (r ∷ rights) a = ap (λ (k : ℕ). suc k) (judged_count vectors rights a.1)

-- also at the end
pub judged_end : (vectors : List Vector) (rights : List Bool) (rest : List Vector) → length rest ≡ 0 → JudgedSoFar vectors rights rest → length rights ≡ length vectors
judged_end vectors rights rest none j = omega (arith, none, judged_count j.done rights j.judged, ap length j.parts, length-append j.done rest)
