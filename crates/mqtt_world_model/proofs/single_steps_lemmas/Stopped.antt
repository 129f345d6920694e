-- A restart behind a step, and a stop after its commit.
use Rattle.std.proofs.Common.{◌≡◌, ℕ, zero, suc, Bool, true, false, cond, ◌||◌, List, [], ◌∷◌, ◌++◌, length, map, drop}
use Rattle.std.proofs.Common.{Option, Some, None, bytes_eq, refl, sym, ap, subst, ◌∙◌, arith, inl, inr, append_assoc, length-append}
use Rattle.std.specs.Prelude.{◌⊎◌, option_map, is_some, Ok, Err}
use Rattle.std.proofs.lemmas.List.{drop-append-le}
use Rattle.mqtt_packet.specs.stream.Front.{first_of}
use Rattle.mqtt_packet.proofs.stream_lemmas.Fronts.{first_stays, first_within}
use Rattle.mqtt_rules.specs.step.Piece.{Front, call_by}
use Rattle.mqtt_rules.specs.step.Step.{Call}
use Rattle.mqtt_world_model.specs.model.Ends.{Publisher, Receiver}
use Rattle.mqtt_world_model.specs.model.Lines.{left}
use Rattle.mqtt_world_model.specs.model.World.{Asking, Setting, Stranger, World, asks, break, bytes_held, bytes_name, call_of_stranger}
use Rattle.mqtt_world_model.specs.model.World.{call_on, calls_if, comes, first_step, front_names, held_after, held_by as held_behind, held_count, is_bad_asking}
use Rattle.mqtt_world_model.specs.model.World.{old_to_broker, publisher_restarted, pump, receiver_restarted, restarts, stranger}
use Rattle.mqtt_world_model.specs.model.World.{stranger_named, tick, to_broker, unlinked, with_line}
use Rattle.mqtt_world_model.specs.single_steps.Unrolled.{AreAlike, IsDecided, IsFound, IsOneStep, bytes_come}
use Rattle.mqtt_world_model.proofs.single_steps_lemmas.Strangers.{changed, found_holds, held_by}
use Rattle.mqtt_world_model.proofs.single_steps_lemmas.Answered.{Holds, come, come_count, come_found, come_holds, comes_both, comes_is, comes_welcomed}
use Rattle.mqtt_world_model.proofs.single_steps_lemmas.Answered.{enough, next_holds, next_world, nothing_first, still, welcomed, welcomed_found}
use Rattle.mqtt_world_model.proofs.single_steps_lemmas.Answered.{welcomed_holds, with_strangers}
use Rattle.mqtt_world_model.proofs.single_steps_lemmas.Good.{bytes_good, either_false, enough_looks, good_bytes, none_named, said_parts}

-- ---- what a restart forgets

map_forgets : {X Y : Type 0} (f : X → X) (g : X → Y) (xs : List X) → ((x : X) → g (f x) ≡ g x) → map g (map f xs) ≡ map g xs
map_forgets f g [] h = refl
map_forgets f g (x ∷ xs) h =
    ap (λ y. y ∷ map g (map f xs)) (h x) ∙ ap (λ ys. g x ∷ ys) (map_forgets f g xs h)

-- that an end has left its line
left_forgotten : (set : Setting) (client : List ℕ) (w : World) → restarts set (with_line client left left w) ≡ restarts set w
left_forgotten set client w =
    let publishers = map_forgets _ publisher_restarted w.publishers (λ (p : Publisher). his (bytes_eq p.client client) p) in
    let receivers = map_forgets _ receiver_restarted w.receivers (λ (r : Receiver). its_own (bytes_eq r.client client) r) in
    ap (λ (ps : List Publisher). record (restarts set (with_line client left left w)) { publishers = ps }) publishers
    ∙ ap (λ (rs : List Receiver). record (restarts set w) { receivers = rs }) receivers
  where
    his : (t : Bool) (p : Publisher) → publisher_restarted (cond t (record p { line = left p.line }) p) ≡ publisher_restarted p
    his true p = refl
    his false p = refl

    its_own : (t : Bool) (r : Receiver) → receiver_restarted (cond t (record r { line = left r.line }) r) ≡ receiver_restarted r
    its_own true r = refl
    its_own false r = refl

-- what strangers hold
held_forgotten : (name : List ℕ) (f : List ℕ → List ℕ) (ss : List Stranger) → map unlinked (map (changed name f) ss) ≡ map unlinked ss
held_forgotten name f ss = map_forgets (changed name f) unlinked ss (λ (s : Stranger). by (bytes_eq s.name name) s)
  where
    by : (t : Bool) (s : Stranger) → unlinked (cond t (held_by f s) s) ≡ unlinked s
    by true s = refl
    by false s = refl

strangers_forgotten : (set : Setting) (call : Option Call) (w : World) (ss ts : List Stranger) → map unlinked ss ≡ map unlinked ts
    → restarts set (calls_if set call (with_strangers w ss)) ≡ restarts set (calls_if set call (with_strangers w ts))
strangers_forgotten set None w ss ts e = ap (λ (xs : List Stranger). record (restarts set w) { strangers = xs }) e
strangers_forgotten set (Some call) w ss ts e =
    ap (λ (xs : List Stranger). record (restarts set (calls_if set (Some call) w)) { strangers = xs }) e

-- ---- bytes of which one packet at most is whole

-- a stranger holds the bytes that have come
pub comes_holds : (set : Setting) (name bytes : List ℕ) (w : World) → AreAlike name w
    → Holds name (bytes_come name bytes w) (comes set name bytes w)
    × (held_count (stranger_named name (comes set name bytes w)) ≡ length (bytes_come name bytes w))
comes_holds set name bytes w alike = by (stranger_named name w) refl
  where
    Wanted : List ℕ → World → Type 0
    Wanted held v = Holds name (held ++ bytes) v × (held_count (stranger_named name v) ≡ length (held ++ bytes))

    by : (o : Option Stranger) → stranger_named name w ≡ o → Wanted (bytes_held (stranger_named name w)) (comes set name bytes w)
    by None none =
        let v = welcomed set name w in
        let holds = welcomed_holds set name w none in
        let there : is_some (stranger_named name v) ≡ true = ap is_some (welcomed_found set name w none) in
        subst (λ (u : World). Wanted (bytes_held (stranger_named name w)) u) (sym (comes_welcomed set name bytes w none))
        (subst (λ (x : Option Stranger). Wanted (bytes_held x) (come name bytes v)) (sym none)
        (come_holds name [] bytes v holds, come_count name [] bytes v holds there))
    by (Some s) is =
        let held = bytes_held (stranger_named name w) in
        subst (λ (u : World). Wanted held u) (sym (comes_is set name bytes w (ap is_some is)))
        (come_holds name held bytes w alike, come_count name held bytes w alike (ap is_some is))

answered_once : (set : Setting) (name bytes : List ℕ) (w : World) → AreAlike name w
    → first_of (held_after (bytes_come name bytes w)) ≡ Ok None
    → asks set (stranger name bytes) w ≡ next_world set name (comes set name bytes w)
answered_once set name bytes w alike none =
    let c = comes set name bytes w in
    let all = bytes_come name bytes w in
    let is = comes_holds set name bytes w alike in
    let n = held_count (stranger_named name c) in
    enough set name all c n (suc n) is.0 (omega (arith, is.1)) (omega (arith, is.1))
    ∙ still set name (held_after all) (next_world set name c) n (next_holds set name all c is.0) none

-- ---- a step, and a restart behind it

-- a restart behind the first of one step is a restart behind all
pub restarts_behind : (set : Setting) (a : Asking) (w : World) → IsOneStep a w → restarts set (first_step set a w) ≡ restarts set (asks set a w)
restarts_behind set (to_broker client) w one = refl
restarts_behind set (old_to_broker client) w one = refl
restarts_behind set (break client) w one = sym (left_forgotten set client (first_step set (break client) w))
restarts_behind set (pump client) w one = refl
restarts_behind set tick w one = refl
restarts_behind set (stranger name bytes) w one =
    let c = comes set name bytes w in
    let call = call_of_stranger (stranger_named name c) in
    sym (ap (restarts set) (answered_once set name bytes w one.0 one.1)
    ∙ strangers_forgotten set call c (map (changed name held_after) c.strangers) c.strangers (held_forgotten name held_after c.strangers))

-- ---- what is behind the first packet

found_call : (n : ℕ) (front more : List ℕ) (f : Front) → first_of front ≡ f → IsFound f → call_by n (front ++ more) f ≡ call_by n front f
found_call n front more (Ok None) is found = absurd found
found_call n front more (Ok (Some x)) is found = refl
found_call n [] more (Err fault) is found =
    let none : Ok None ≡ Err fault = sym nothing_first ∙ is in
    absurd cc
found_call n (b ∷ front) more (Err fault) is found = refl

decided_call : (n : Option ℕ) (front more : List ℕ) → IsDecided front → call_on n (front ++ more) ≡ call_on n front
decided_call None front more found = refl
decided_call (Some n) front more found = by (first_stays front more)
  where
    by : (first_of front ≡ Ok None) ⊎ (first_of (front ++ more) ≡ first_of front) → call_on (Some n) (front ++ more) ≡ call_on (Some n) front
    by (inl none) = absurd (subst IsFound none found)
    by (inr same) = ap (call_by n (front ++ more)) same ∙ found_call n front more (first_of front) refl found

call_both : (o : Option Stranger) (held part more : List ℕ) → ((s : Stranger) → o ≡ Some s → s.held ≡ held) → IsDecided (held ++ part)
    → call_of_stranger (option_map (held_by (λ (old : List ℕ). old ++ (part ++ more))) o)
    ≡ call_of_stranger (option_map (held_by (λ (old : List ℕ). old ++ part)) o)
call_both None held part more is found = refl
call_both (Some s) held part more is found =
    let same = is s refl in
    let decided : IsDecided (s.held ++ part) = subst (λ (old : List ℕ). IsDecided (old ++ part)) (sym same) found in
    ap (call_on s.number) (sym (append_assoc s.held part more)) ∙ decided_call s.number (s.held ++ part) more decided

first_there : (set : Setting) (name held part more : List ℕ) (w : World) → Holds name held w → is_some (stranger_named name w) ≡ true
    → IsDecided (held ++ part)
    → restarts set (first_step set (stranger name (part ++ more)) w) ≡ restarts set (first_step set (stranger name part) w)
first_there set name held part more w h there found =
    let longer = λ (old : List ℕ). old ++ (part ++ more) in
    let shorter = λ (old : List ℕ). old ++ part in
    let call = call_of_stranger (stranger_named name (come name part w)) in
    let same : call_of_stranger (stranger_named name (come name (part ++ more) w)) ≡ call =
    ap call_of_stranger (come_found name (part ++ more) w)
    ∙ (call_both (stranger_named name w) held part more (λ s is. found_holds name held s w.strangers h is) found
    ∙ sym (ap call_of_stranger (come_found name part w))) in
    ap (λ (v : World). restarts set (calls_if set (call_of_stranger (stranger_named name v)) v)) (comes_is set name (part ++ more) w there)
    ∙ (ap (λ (x : Option Call). restarts set (calls_if set x (come name (part ++ more) w))) same
    ∙ (strangers_forgotten set call w (map (changed name longer) w.strangers) (map (changed name shorter) w.strangers)
    (held_forgotten name longer w.strangers ∙ sym (held_forgotten name shorter w.strangers))
    ∙ sym (ap (λ (v : World). restarts set (calls_if set (call_of_stranger (stranger_named name v)) v)) (comes_is set name part w there))))

-- the first step of a stranger's bytes is that of their first part
pub first_alone : (set : Setting) (name part more : List ℕ) (w : World) → AreAlike name w → IsDecided (bytes_come name part w)
    → restarts set (first_step set (stranger name (part ++ more)) w) ≡ restarts set (first_step set (stranger name part) w)
first_alone set name part more w alike found = by (stranger_named name w) refl
  where
    both : (bytes : List ℕ) → stranger_named name w ≡ None → first_step set (stranger name bytes) w ≡ first_step set (stranger name bytes) (welcomed set name w)
    both bytes none = ap (λ (v : World). calls_if set (call_of_stranger (stranger_named name v)) v) (comes_both set name bytes w none)

    by : (o : Option Stranger) → stranger_named name w ≡ o
        → restarts set (first_step set (stranger name (part ++ more)) w) ≡ restarts set (first_step set (stranger name part) w)
    by None none =
        let decided : IsDecided part = subst (λ (x : Option Stranger). IsDecided (bytes_held x ++ part)) none found in
        let there : is_some (stranger_named name (welcomed set name w)) ≡ true = ap is_some (welcomed_found set name w none) in
        ap (restarts set) (both (part ++ more) none)
        ∙ (first_there set name [] part more (welcomed set name w) (welcomed_holds set name w none) there decided
        ∙ sym (ap (restarts set) (both part none)))
    by (Some s) is = first_there set name (bytes_held (stranger_named name w)) part more w alike (ap is_some is) found

-- ---- what begins with bytes that name an end names it

front_part : (n : ℕ) (bytes more : List ℕ) (w : World) → bytes_name n (bytes ++ more) w ≡ false → bytes_name n bytes w ≡ false
front_part zero bytes more w good = refl
front_part (suc n) bytes more w good = elim (first_stays bytes more) [
  | inl none ↦ none_named (suc n) bytes w none
  | inr same ↦
      let both = either_false (front_names (first_of bytes) w) (bytes_name n (held_behind (first_of bytes) (bytes ++ more)) w)
      (sym (ap (λ (f : Front). front_names f w || bytes_name n (held_behind f (bytes ++ more)) w) same) ∙ good) in
      ap (λ (t : Bool). t || bytes_name n (held_after bytes) w) both.0 ∙ behind_by (front_part n) bytes more w (first_of bytes) refl both.1
]
  where
    behind_by : ((xs ys : List ℕ) (v : World) → bytes_name n (xs ++ ys) v ≡ false → bytes_name n xs v ≡ false)
        → (xs ys : List ℕ) (v : World) (f : Front) → first_of xs ≡ f → bytes_name n (held_behind f (xs ++ ys)) v ≡ false
        → bytes_name n (held_behind f xs) v ≡ false
    behind_by less xs ys v (Ok None) is e = less xs ys v e
    behind_by less xs ys v (Ok (Some x)) is e =
        let size = first_within xs x.0 x.1 is in
        less (drop x.1 xs) ys v (sym (ap (λ (zs : List ℕ). bytes_name n zs v) (drop-append-le x.1 xs ys size.0)) ∙ e)
    behind_by less xs ys v (Err fault) is e = none_named n [] v nothing_first

none_in_part : (held part more : List ℕ) (w : World) → bytes_name (length (held ++ (part ++ more))) (held ++ (part ++ more)) w ≡ false
    → bytes_name (length (held ++ part)) (held ++ part) w ≡ false
none_in_part held part more w good =
    let front = held ++ part in
    let joined : front ++ more ≡ held ++ (part ++ more) = append_assoc held part more in
    let n = length (front ++ more) in
    let whole : bytes_name n (front ++ more) w ≡ false = ap (λ (xs : List ℕ). bytes_name (length xs) xs w) joined ∙ good in
    enough_looks (length front) n front w (omega arith) (omega (arith, length-append front more)) ∙ front_part n front more w whole

-- the first part of what is not bad to send is not bad to send
pub good_part : (name part more : List ℕ) (w : World) → is_bad_asking (stranger name (part ++ more)) w ≡ false → is_bad_asking (stranger name part) w ≡ false
good_part name part more w good =
    let both = good_bytes name (part ++ more) w good in
    bytes_good name part w (said_parts part more both.0).0 (none_in_part (bytes_held (stranger_named name w)) part more w both.1)
