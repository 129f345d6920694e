-- Whom the CONNECTs of bytes name.
use Rattle.std.proofs.Common.{◌≡◌, ℕ, suc, Bool, true, false, ◌||◌, List, [], ◌∷◌, ◌++◌, length, drop, Option, Some, None, refl, sym, ap, ◌∙◌}
use Rattle.std.proofs.Common.{arith, length-drop}
use Rattle.std.specs.Prelude.{is_err, option_to_list, Ok, Err}
use Rattle.std.proofs.lemmas.List.Folds.{list_any-append}
use Rattle.mqtt_packet.specs.declared.parts.fault.Fault.{Fault}
use Rattle.mqtt_packet.specs.declared.codec.packet.Packet.{Packet}
use Rattle.mqtt_packet.specs.stream.Front.{first_of}
use Rattle.mqtt_packet.proofs.stream_lemmas.Fronts.{first_within}
use Rattle.mqtt_rules.specs.step.Piece.{Front}
use Rattle.mqtt_world_model.specs.model.World.{World, bytes_name, front_names, held_after, held_by as held_behind, is_end, names_end}
use Rattle.mqtt_world_model.proofs.single_steps_lemmas.Answered.{nothing_first}
use Rattle.mqtt_world_model.proofs.single_steps_lemmas.Good.{enough_looks, none_named}
use Rattle.mqtt_world_ends.specs.strangers.Fronts.{Decides, NamesFirst, NamesThese, is_end_among}

either_none : (a : Bool) → (a || false) ≡ a
either_none true = refl
either_none false = refl

either_assoc : (a b c : Bool) → (a || b || c) ≡ (a || (b || c))
either_assoc true b c = refl
either_assoc false b c = refl

-- one look more
pub one_look : (bytes : List ℕ) (w : World)
    → bytes_name (length bytes) bytes w ≡ (front_names (first_of bytes) w || bytes_name (length bytes) (held_after bytes) w)
one_look bytes w = enough_looks (length bytes) (suc (length bytes)) bytes w (omega arith) (omega arith)

-- if nothing is whole
none_names : (bytes : List ℕ) → first_of bytes ≡ Ok None → NamesFirst bytes None
none_names bytes e w = none_named (length bytes) bytes w e

-- and if a fault is at the front
fault_names : (bytes : List ℕ) (fault : Fault) → first_of bytes ≡ Err fault → NamesFirst bytes None
fault_names bytes fault e w =
    let left : held_after bytes ≡ [] = ap (λ (f : Front). held_behind f bytes) e in
    one_look bytes w
    ∙ (ap (λ (f : Front). front_names f w || bytes_name (length bytes) (held_after bytes) w) e
    ∙ (ap (λ (xs : List ℕ). bytes_name (length bytes) xs w) left ∙ none_named (length bytes) [] w nothing_first))

packet_names : (bytes : List ℕ) (packet : Packet) (n : ℕ) (name : Option (List ℕ)) → first_of bytes ≡ Ok (Some (packet, n))
    → ((w : World) → names_end packet w ≡ is_end_among (option_to_list name) w) → NamesFirst bytes (Some (n, name))
packet_names bytes packet n name e names =
    let size = first_within bytes packet n e in (
      size.1,
      size.0,
      λ w.
          let left : held_after bytes ≡ drop n bytes = ap (λ (f : Front). held_behind f bytes) e in
          one_look bytes w
          ∙ (ap (λ (f : Front). front_names f w || bytes_name (length bytes) (held_after bytes) w) e
          ∙ (ap (λ (xs : List ℕ). names_end packet w || bytes_name (length bytes) xs w) left
          ∙ (ap (λ (t : Bool). names_end packet w || t)
          (enough_looks (length bytes) (length (drop n bytes)) (drop n bytes) w (omega (arith, length-drop n bytes)) (omega arith))
          ∙ ap (λ (t : Bool). t || bytes_name (length (drop n bytes)) (drop n bytes) w) (names w)))),
    )

-- by the first of the bytes, which decide

-- if no packet is whole none is named
pub none_found : (held bytes : List ℕ) → Decides held bytes → first_of held ≡ Ok None → NamesFirst bytes None
none_found held bytes d e = none_names bytes (d.same ∙ e)

-- nor if one is faulty
pub fault_found : (held bytes : List ℕ) → Decides held bytes → is_err (first_of held) ≡ true → NamesFirst bytes None
fault_found held bytes d e = by (first_of held) refl
  where
    by : (f : Front) → first_of held ≡ f → NamesFirst bytes None
    by (Ok x) is = let clash : false ≡ true = sym (ap is_err is) ∙ e in absurd cc
    by (Err fault) is = fault_names bytes fault (d.same ∙ is)

-- a whole packet names whom its CONNECT names
pub packet_found : (held bytes : List ℕ) (packet : Packet) (n : ℕ) (name : Option (List ℕ)) → Decides held bytes
    → first_of held ≡ Ok (Some (packet, n)) → ((w : World) → names_end packet w ≡ is_end_among (option_to_list name) w)
    → NamesFirst bytes (Some (n, name))
packet_found held bytes packet n name d e names = packet_names bytes packet n name (d.same ∙ e) names

-- an end of one name is one of a list of one
pub one_name : (name : List ℕ) (w : World) → is_end name w ≡ is_end_among (name ∷ []) w
one_name name w = sym (either_none (is_end name w))

-- ---- all of them, one after the other

-- the names so far, and those of the rest
abbrev pub NamesSoFar : List ℕ → List (List ℕ) → List ℕ → Type 0
NamesSoFar bytes names rest =
    (w : World) → bytes_name (length bytes) bytes w ≡ (is_end_among names w || bytes_name (length rest) rest w)

-- at first nobody is named
pub no_names_yet : (bytes : List ℕ) → NamesSoFar bytes [] bytes
no_names_yet bytes w = refl

-- behind the last packet all are named
pub names_done : (bytes rest : List ℕ) (names : List (List ℕ)) → NamesSoFar bytes names rest → NamesFirst rest None → NamesThese bytes names
names_done bytes rest names so_far none w =
    so_far w ∙ (ap (λ (t : Bool). is_end_among names w || t) (none w) ∙ either_none (is_end_among names w))

-- a further packet names one more
pub more_named : (bytes rest : List ℕ) (names : List (List ℕ)) (n : ℕ) (name : Option (List ℕ)) → NamesSoFar bytes names rest
    → NamesFirst rest (Some (n, name)) → NamesSoFar bytes (names ++ option_to_list name) (drop n rest)
more_named bytes rest names n name so_far first w =
    let left = bytes_name (length (drop n rest)) (drop n rest) w in
    let more = option_to_list name in
    so_far w
    ∙ (ap (λ (t : Bool). is_end_among names w || t) (first.2 w)
    ∙ (sym (either_assoc (is_end_among names w) (is_end_among more w) left)
    ∙ ap (λ (t : Bool). t || left) (sym (list_any-append (λ (x : List ℕ). is_end x w) names more))))
