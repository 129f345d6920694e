-- A stranger's bytes, whoever looks on: they are cut into packets, none of which is a CONNECT of an end (MQTT 5.0, 3.1.3.1).
use Rattle.std.proofs.Common.{◌≡◌, ℕ, zero, suc, Bool, true, false, cond, not, List, [], ◌∷◌, ◌++◌, length, map, Option, Some, None, bytes_eq, refl, sym, ap, subst, ◌∙◌, inl, inr}
use Rattle.std.specs.Prelude.{option_map, find, is_some, Ok, Err}
use Rattle.std.specs.List.{AllByRecursion}
use Rattle.std.proofs.lemmas.Bool.{cases_Bool}
use Rattle.std.proofs.lemmas.Slice.Eq.{bytes_eq-Decides}
use Rattle.mqtt_packet.specs.declared.codec.packet.Packet.{Packet}
use Rattle.mqtt_packet.specs.declared.codec.packet.Packet.TheVariants.{Connect}
use Rattle.mqtt_packet.specs.stream.Front.{first_of}
use Rattle.mqtt_packet.specs.stream.Front as fronts
use Rattle.mqtt_rules.specs.step.State.{Broker}
use Rattle.mqtt_rules.specs.step.Deeds.{Link, Deed, after_all, rows_of_all}
use Rattle.mqtt_packet.specs.parts.Faults.{answer_to}
use Rattle.mqtt_rules.specs.step.Piece.{Front, begins_connect, code_of, call_by}
use Rattle.mqtt_rules.specs.step.Step.{Call, NewLine, Input, BadInput, can_link, at_moment, deeds, stepped}
use Rattle.mqtt_world_model.specs.model.World.{Stranger, World, Setting, stranger_named, is_end, calls_if, call_on, held_after, linked_at, comes, call_of_stranger, next_held, answers_rest, held_count, names_end, front_names, bytes_name, bytes_held, are_bytes, is_bad_asking, stranger}
use Rattle.mqtt_world_model.specs.model.Hops.{IsOthers}
use Rattle.mqtt_world_model.proofs.model_lemmas.others.Frame.{kept_given}
use Rattle.mqtt_world_model.specs.model.Run.{read_if, read_rest}
use Rattle.mqtt_world_model.proofs.model_lemmas.others.Lists.{all_find}
use Rattle.mqtt_world_laws.specs.acceptance.LineNumbers.{IsApartFrom}
use Rattle.mqtt_world_laws.specs.acceptance.Spending.{spending}
use Rattle.mqtt_world_laws.proofs.acceptance_lemmas.publishers.Ends.{all_mapped, find_last, either}

-- ---- lists of strangers

-- the strangers of a name are changed
abbrev pub changed : List ℕ → (Stranger → Stranger) → Stranger → Stranger
changed name f s = cond (bytes_eq s.name name) (f s) s

-- the first of them is found changed
pub find_changed : (name : List ℕ) (f : Stranger → Stranger) (ss : List Stranger) → ((s : Stranger) → (f s).name ≡ s.name)
    → find (λ (s : Stranger). bytes_eq s.name name) (map (changed name f) ss) ≡ option_map f (find (λ (s : Stranger). bytes_eq s.name name) ss)
find_changed name f [] h = refl
find_changed name f (s ∷ ss) h = elim (cases_Bool (bytes_eq s.name name)) [
  | inl its ↦
      let new : bytes_eq (f s).name name ≡ true = ap (λ (x : List ℕ). bytes_eq x name) (h s) ∙ its in
      rw its (rw new refl)
  | inr other ↦ rw (other, other) (find_changed name f ss h)
]

-- what holds of all still does
pub all_changed : (P : Stranger → Type 0) (name : List ℕ) (f : Stranger → Stranger) (ss : List Stranger) → ((s : Stranger) → P s → P (f s)) → AllByRecursion P ss → AllByRecursion P (map (changed name f) ss)
all_changed P name f ss h a = all_mapped P P (changed name f) ss (λ s q. by (bytes_eq s.name name) s q) a
  where
    by : (t : Bool) (s : Stranger) → P s → P (cond t (f s) s)
    by true s q = h s q
    by false s q = q

-- ---- its bytes

-- the line that it comes on is the next one
pub linked_given : (set : Setting) (now : ℕ) (b : Broker) → can_link set.limits b ≡ true → (stepped set.limits set.choice now NewLine b).given ≡ suc b.given
linked_given set now b can =
    let ds = deeds set.limits set.choice now NewLine b in
    let begin = at_moment now b in
    let is : ds ≡ Link (suc b.given) ∷ [] = ap (λ (t : Bool). cond t (Link (suc b.given) ∷ []) []) can in
    kept_given (rows_of_all ds begin.records) (after_all ds begin) ∙ ap (λ (xs : List Deed). (after_all xs begin).given) is

-- what is held of its bytes then
pub comes_held : (set : Setting) (name bytes : List ℕ) (w : World) → bytes_held (stranger_named name (comes set name bytes w)) ≡ bytes_held (stranger_named name w) ++ bytes
comes_held set name bytes w = by (stranger_named name w) refl
  where
    by : (o : Option Stranger) → stranger_named name w ≡ o → bytes_held (stranger_named name (linked_at set (is_some (stranger_named name w)) name bytes w)) ≡ bytes_held (stranger_named name w) ++ bytes
    by None e =
        let x : Stranger = record { name = name; number = cond (can_link set.limits w.broker) (Some (suc w.broker.given)) None; held = bytes } in
        ap (λ (o : Option Stranger). bytes_held (stranger_named name (linked_at set (is_some o) name bytes w))) e
        ∙ (ap bytes_held (find_last (λ (s : Stranger). bytes_eq s.name name) x w.strangers ((bytes_eq-Decides name name).1 refl) e) ∙ sym (ap (λ (o : Option Stranger). bytes_held o ++ bytes) e))
    by (Some s) e =
        ap (λ (o : Option Stranger). bytes_held (stranger_named name (linked_at set (is_some o) name bytes w))) e
        ∙ (ap bytes_held (find_changed name (λ (x : Stranger). record x { held = x.held ++ bytes }) w.strangers (λ x. refl) ∙ ap (option_map (λ (x : Stranger). record x { held = x.held ++ bytes })) e)
        ∙ sym (ap (λ (o : Option Stranger). bytes_held o ++ bytes) e))

-- ---- its packets

-- an end of the name is there, so none is its CONNECT
packet_others : (c : List ℕ) (packet : Packet) (w : World) → is_end c w ≡ true → names_end packet w ≡ false → IsOthers c packet
packet_others c (Connect x) w there h = λ is.
    let clash : true ≡ false = sym there ∙ (ap (λ (name : List ℕ). is_end name w) (sym is) ∙ h) in
    absurd cc
packet_others c packet w there h = tt

-- each is a call of others for that end: the stranger's line is out of its numbers
module _ (c : List ℕ) (Out : ℕ → Type 0) (Outside : Call → Type 0) (inputs : (n : ℕ) (packet : Packet) → Out n → IsOthers c packet → Outside (Input n packet)) (bad : (n : ℕ) (t : Bool) (code : ℕ) → Out n → Outside (BadInput n t code)) where
  -- what its bytes begin with
  front_outside : (given n : ℕ) (bytes : List ℕ) (w : World) (f : Front) (call : Call) → is_end c w ≡ true → IsApartFrom Out given (Some n) → front_names f w ≡ false → call_by n bytes f ≡ Some call → Outside call
  front_outside given n bytes w (Ok None) call there free h e = absurd cc
  front_outside given n bytes w (Ok (Some x)) call there free h e =
      let is : Input n x.0 ≡ call = cc in
      subst Outside is (inputs n x.0 (free n refl).0 (packet_others c x.0 w there h))
  front_outside given n bytes w (Err fault) call there free h e =
      let is : BadInput n (begins_connect bytes) (code_of (answer_to fault)) ≡ call = cc in
      subst Outside is (bad n (begins_connect bytes) (code_of (answer_to fault)) (free n refl).0)

  -- of a stranger that is there
  held_outside : (given : ℕ) (w : World) (s : Stranger) (call : Call) → is_end c w ≡ true → IsApartFrom Out given s.number → front_names (first_of s.held) w ≡ false → call_of_stranger (Some s) ≡ Some call → Outside call
  held_outside given w s call there free h e = by s.number free e
    where
      by : (x : Option ℕ) → IsApartFrom Out given x → call_on x s.held ≡ Some call → Outside call
      by None f e = absurd cc
      by (Some n) f e = front_outside given n s.held w (first_of s.held) call there f h e

  -- the next of them; w is the world in which the bytes came
  pub packet_outside : (given : ℕ) (name : List ℕ) (w v : World) → is_end c w ≡ true → AllByRecursion (λ (s : Stranger). IsApartFrom Out given s.number) v.strangers
      → front_names (first_of (bytes_held (stranger_named name v))) w ≡ false → (x : Call) → call_of_stranger (stranger_named name v) ≡ Some x → Outside x
  packet_outside given name w v there all good x is = by (stranger_named name v) refl
    where
      by : (o : Option Stranger) → stranger_named name v ≡ o → Outside x
      by None e = let clash : None ≡ Some x = sym (ap call_of_stranger e) ∙ is in absurd cc
      by (Some s) e =
          let free = (all_find (λ (z : Stranger). IsApartFrom Out given z.number) (λ (z : Stranger). bytes_eq z.name name) s v.strangers all e).0 in
          held_outside given w s x there free (sym (ap (λ (z : Option Stranger). front_names (first_of (bytes_held z)) w) e) ∙ good) (sym (ap call_of_stranger e) ∙ is)

-- what is held of a stranger has no part in what a call reads
pub same_cost : (set : Setting) (name : List ℕ) (v : World) (x : Option Call) → read_if spending set x v ≡ false → read_if spending set x (next_held name v) ≡ false
same_cost set name v None e = refl
same_cost set name v (Some x) e = e

-- nothing is cut off nothing
nothing_held : held_after [] ≡ []
unfolding first_of fronts.size_at
nothing_held = refl

-- the next packet is cut off
held_once : (name : List ℕ) (v : World) → bytes_held (stranger_named name (next_held name v)) ≡ held_after (bytes_held (stranger_named name v))
held_once name v = ap bytes_held (find_changed name (λ (s : Stranger). record s { held = held_after s.held }) v.strangers (λ s. refl)) ∙ by (stranger_named name v)
  where
    by : (o : Option Stranger) → bytes_held (option_map (λ (s : Stranger). record s { held = held_after s.held }) o) ≡ held_after (bytes_held o)
    by None = sym nothing_held
    by (Some s) = refl

-- what is held of its bytes after the next packet
pub held_next : (set : Setting) (name : List ℕ) (v : World) (x : Option Call) → bytes_held (stranger_named name (calls_if set x (next_held name v))) ≡ held_after (bytes_held (stranger_named name v))
held_next set name v None = held_once name v
held_next set name v (Some x) = held_once name v

-- all of them, one after the other: what a world keeps with each it keeps with all
pub rest_keeps : (set : Setting) (name : List ℕ) (w : World) (Keeps : World → Type 0)
    → ((v : World) → Keeps v → front_names (first_of (bytes_held (stranger_named name v))) w ≡ false → read_if spending set (call_of_stranger (stranger_named name v)) v ≡ false
    → Keeps (calls_if set (call_of_stranger (stranger_named name v)) (next_held name v)))
    → (more : ℕ) (v : World) → Keeps v → bytes_name more (bytes_held (stranger_named name v)) w ≡ false → read_rest spending set more name v ≡ false → Keeps (answers_rest set more name v)
rest_keeps set name w Keeps next zero v h good unspent = h
rest_keeps set name w Keeps next (suc more) v h good unspent =
    let call = call_of_stranger (stranger_named name v) in
    let u = next_held name v in
    let both = either (front_names (first_of (bytes_held (stranger_named name v))) w) (bytes_name more (held_after (bytes_held (stranger_named name v))) w) good in
    let costs = either (read_if spending set call v) (read_rest spending set more name (calls_if set call u)) unspent in
    rest_keeps set name w Keeps next more (calls_if set call u) (next v h both.0 costs.0) (ap (λ (bytes : List ℕ). bytes_name more bytes w) (held_next set name v call) ∙ both.1) costs.1

-- none of all that is held with them is a CONNECT of an end, if the bytes may be sent
pub good_bytes : (name bytes : List ℕ) (w : World) → is_bad_asking (stranger name bytes) w ≡ false
    → bytes_name (length (bytes_held (stranger_named name w) ++ bytes)) (bytes_held (stranger_named name w) ++ bytes) w ≡ false
good_bytes name bytes w good =
    let all = bytes_held (stranger_named name w) ++ bytes in
    (either (not (are_bytes bytes)) (bytes_name (length all) all w) good).1

-- nor of all that is held once they are there
pub good_then : (set : Setting) (name bytes : List ℕ) (w : World) → is_bad_asking (stranger name bytes) w ≡ false
    → bytes_name (held_count (stranger_named name (comes set name bytes w))) (bytes_held (stranger_named name (comes set name bytes w))) w ≡ false
good_then set name bytes w good =
    let s = stranger_named name (comes set name bytes w) in
    ap (λ (n : ℕ). bytes_name n (bytes_held s) w) (count_is s) ∙ (ap (λ (xs : List ℕ). bytes_name (length xs) xs w) (comes_held set name bytes w) ∙ good_bytes name bytes w good)
  where
    count_is : (o : Option Stranger) → held_count o ≡ length (bytes_held o)
    count_is None = refl
    count_is (Some s) = refl

-- nothing is held of a stranger that is asked for nothing
pub first_good : (bytes : List ℕ) (w : World) → bytes_name (length bytes) bytes w ≡ false → front_names (first_of bytes) w ≡ false
unfolding first_of fronts.size_at
first_good [] w good = refl
first_good (x ∷ xs) w good = (either (front_names (first_of (x ∷ xs)) w) (bytes_name (length xs) (held_after (x ∷ xs)) w) good).0
