-- Bytes of a stranger in one event and in two.
use Rattle.std.proofs.Common.{◌≡◌, ◌≤◌, ◌<◌, ◌-◌, ℕ, zero, suc, Bool, true, cond, List, [], ◌∷◌, ◌++◌, length, map, drop}
use Rattle.std.proofs.Common.{Option, Some, None, refl, sym, ap, subst, ◌∙◌, arith, inl, inr, append_assoc, length-append, length-drop}
use Rattle.std.specs.Prelude.{◌⊎◌, option_map, is_some, Ok, Err}
use Rattle.std.specs.List.{AllByRecursion}
use Rattle.std.proofs.lemmas.List.{drop_all, drop-append-le}
use Rattle.mqtt_packet.specs.declared.codec.packet.Packet.{Packet}
use Rattle.mqtt_packet.specs.stream.Front.{first_of}
use Rattle.mqtt_packet.specs.stream.Front as fronts
use Rattle.mqtt_packet.proofs.stream_lemmas.Fronts.{first_stays, first_within}
use Rattle.mqtt_rules.specs.step.Piece.{Front, call_by}
use Rattle.mqtt_rules.specs.step.Step.{Call, Input, NewLine, can_link}
use Rattle.mqtt_world_model.specs.model.World.{Stranger, World, Setting, stranger_named, calls, calls_if, call_of_stranger, call_on, next_held}
use Rattle.mqtt_world_model.specs.model.World.{answers_rest, asks, bytes_held, comes, held_after, held_by as held_behind, held_count, linked_at, stranger}
use Rattle.mqtt_world_model.specs.single_steps.Unrolled.{AreAlike, HoldsThese, IsWhole, bytes_come}
use Rattle.mqtt_world_model.proofs.single_steps_lemmas.Strangers.{changed, change_one_more, find_changed, find_one_more, found_holds, held_by}
use Rattle.mqtt_world_model.proofs.single_steps_lemmas.Strangers.{holds_changed, holds_one_more, none_holds, same_changes, same_held, twice_changed}

abbrev pub with_strangers : World → List Stranger → World
with_strangers w ss = record w { strangers = ss }

-- whoever has the name holds these bytes
abbrev pub Holds : List ℕ → List ℕ → World → Type 0
Holds name held w = AllByRecursion (HoldsThese name held) w.strangers

-- of nothing there is no first packet
pub nothing_first : first_of [] ≡ Ok None
unfolding first_of fronts.size_at
nothing_first = refl

-- a call that may be made leaves the strangers
pub if_strangers : (set : Setting) (call : Option Call) (w : World) → (calls_if set call w).strangers ≡ w.strangers
if_strangers set None w = refl
if_strangers set (Some call) w = refl

-- a call that may be made goes the same with other strangers
pub if_with : (set : Setting) (call : Option Call) (w : World) (ss : List Stranger)
    → calls_if set call (with_strangers w ss) ≡ with_strangers (calls_if set call w) ss
if_with set None w ss = refl
if_with set (Some call) w ss = refl

-- ---- what is asked for by what is held

-- nothing is asked for if nothing is whole
none_by : (o : Option Stranger) (held : List ℕ) → ((s : Stranger) → o ≡ Some s → s.held ≡ held) → first_of held ≡ Ok None → call_of_stranger o ≡ None
none_by None held is e = refl
none_by (Some s) held is e = by s.number
  where
    same : first_of s.held ≡ Ok None
    same = ap first_of (is s refl) ∙ e

    by : (n : Option ℕ) → call_on n s.held ≡ None
    by None = refl
    by (Some n) = ap (λ (f : Front). call_by n s.held f) same

-- if no packet is whole a stranger calls nothing
pub nothing_asked : (name held : List ℕ) (w : World) → Holds name held w → first_of held ≡ Ok None
    → call_of_stranger (stranger_named name w) ≡ None
nothing_asked name held w h e = none_by (stranger_named name w) held (λ s is. found_holds name held s w.strangers h is) e

-- and nothing is taken from what it holds
pub nothing_left : (name held : List ℕ) (w : World) → Holds name held w → held_after held ≡ held → next_held name w ≡ w
nothing_left name held w h e = ap (with_strangers w) (same_held name held held_after w.strangers h e)

stays_held : (held : List ℕ) → first_of held ≡ Ok None → held_after held ≡ held
stays_held held e = ap (λ (f : Front). held_behind f held) e

-- nothing is left to be answered
pub still : (set : Setting) (name held : List ℕ) (w : World) (more : ℕ) → Holds name held w → first_of held ≡ Ok None
    → answers_rest set more name w ≡ w
still set name held w zero h e = refl
still set name held w (suc more) h e =
    ap (λ (call : Option Call). answers_rest set more name (calls_if set call (next_held name w))) (nothing_asked name held w h e)
    ∙ (ap (answers_rest set more name) (nothing_left name held w h (stays_held held e)) ∙ still set name held w more h e)

-- ---- enough steps are enough

-- the world behind the first of them
abbrev pub next_world : Setting → List ℕ → World → World
next_world set name w = calls_if set (call_of_stranger (stranger_named name w)) (next_held name w)

-- behind an answer the stranger holds what was behind the packet
pub next_holds : (set : Setting) (name held : List ℕ) (w : World) → Holds name held w → Holds name (held_after held) (next_world set name w)
next_holds set name held w h = by (call_of_stranger (stranger_named name w))
  where
    by : (call : Option Call) → Holds name (held_after held) (calls_if set call (next_held name w))
    by None = holds_changed name held held_after w.strangers h
    by (Some call) = holds_changed name held held_after w.strangers h

-- what is left is less
pub less_by : (held : List ℕ) (f : Front) (more : ℕ) → first_of held ≡ f → length held ≤ suc more
    → (f ≡ Ok None → ⊥) → length (held_after held) ≤ more
less_by held (Ok None) more is within found = absurd (found refl)
less_by held (Ok (Some x)) more is within found =
    let left : held_after held ≡ drop x.1 held = ap (λ (f : Front). held_behind f held) is in
    let size = first_within held x.0 x.1 is in
    let long : length (held_after held) ≡ length held - x.1 = ap length left ∙ length-drop x.1 held in
    omega (arith, long, size.0, size.1, within)
less_by held (Err fault) more is within found =
    let left : length (held_after held) ≡ 0 = ap (λ (f : Front). length (held_behind f held)) is in
    omega (arith, left)

-- if nothing is held there is no packet
pub none_longer : (held : List ℕ) → length held ≤ 0 → first_of held ≡ Ok None
none_longer [] e = nothing_first
none_longer (b ∷ held) e = absurd (omega arith)

-- either there is a first packet or a fault, or there is none
pub is_none_first : (f : Front) → (f ≡ Ok None) ⊎ (f ≡ Ok None → ⊥)
is_none_first (Ok None) = inl refl
is_none_first (Ok (Some x)) = inr (λ e. absurd cc)
is_none_first (Err fault) = inr (λ e. absurd cc)

-- more looks than bytes change nothing
pub enough : (set : Setting) (name held : List ℕ) (w : World) (m n : ℕ) → Holds name held w → length held ≤ m → length held ≤ n
    → answers_rest set m name w ≡ answers_rest set n name w
enough set name held w zero n h a b = sym (still set name held w n h (none_longer held a))
enough set name held w (suc m) zero h a b = still set name held w (suc m) h (none_longer held b)
enough set name held w (suc m) (suc n) h a b = elim (is_none_first (first_of held)) [
  | inl e ↦ still set name held w (suc m) h e ∙ sym (still set name held w (suc n) h e)
  | inr e ↦
      enough set name (held_after held) (next_world set name w) m n (next_holds set name held w h)
      (less_by held (first_of held) m refl a e) (less_by held (first_of held) n refl b e)
]

-- ---- if the stranger is there

-- the world in which bytes have come
abbrev pub come : List ℕ → List ℕ → World → World
come name bytes w = with_strangers w (map (changed name (λ (held : List ℕ). held ++ bytes)) w.strangers)

-- bytes that come for a stranger that stands are held by it
pub comes_is : (set : Setting) (name bytes : List ℕ) (w : World) → is_some (stranger_named name w) ≡ true
    → comes set name bytes w ≡ come name bytes w
comes_is set name bytes w there = ap (λ (t : Bool). linked_at set t name bytes w) there

-- behind what it held
pub come_holds : (name held bytes : List ℕ) (w : World) → Holds name held w → Holds name (held ++ bytes) (come name bytes w)
come_holds name held bytes w h = holds_changed name held (λ (old : List ℕ). old ++ bytes) w.strangers h

-- and that is how it is found
pub come_found : (name bytes : List ℕ) (w : World)
    → stranger_named name (come name bytes w) ≡ option_map (held_by (λ (held : List ℕ). held ++ bytes)) (stranger_named name w)
come_found name bytes w = find_changed name (λ (held : List ℕ). held ++ bytes) w.strangers

-- so many bytes are held
count_by_find : (o : Option Stranger) (held : List ℕ) → is_some o ≡ true → ((s : Stranger) → o ≡ Some s → s.held ≡ held) → held_count o ≡ length held
count_by_find None held there is = absurd cc
count_by_find (Some s) held there is = ap length (is s refl)

still_there : (f : List ℕ → List ℕ) (o : Option Stranger) → is_some o ≡ true → is_some (option_map (held_by f) o) ≡ true
still_there f None e = e
still_there f (Some s) e = refl

-- it still stands
pub come_there : (name bytes : List ℕ) (w : World) → is_some (stranger_named name w) ≡ true → is_some (stranger_named name (come name bytes w)) ≡ true
come_there name bytes w there = ap is_some (come_found name bytes w) ∙ still_there (λ (held : List ℕ). held ++ bytes) (stranger_named name w) there

-- and it holds as many more
pub come_count : (name held bytes : List ℕ) (w : World) → Holds name held w → is_some (stranger_named name w) ≡ true
    → held_count (stranger_named name (come name bytes w)) ≡ length (held ++ bytes)
come_count name held bytes w h there =
    let v = come name bytes w in
    count_by_find (stranger_named name v) (held ++ bytes) (come_there name bytes w there)
    (λ s is. found_holds name (held ++ bytes) s v.strangers (come_holds name held bytes w h) is)

-- what is asked for when they have come
pub asks_is : (set : Setting) (name held bytes : List ℕ) (w : World) → Holds name held w → is_some (stranger_named name w) ≡ true
    → asks set (stranger name bytes) w ≡ answers_rest set (length (held ++ bytes)) name (come name bytes w)
asks_is set name held bytes w h there =
    ap (λ (v : World). answers_rest set (held_count (stranger_named name v)) name v) (comes_is set name bytes w there)
    ∙ ap (λ (n : ℕ). answers_rest set n name (come name bytes w)) (come_count name held bytes w h there)

-- the call that a packet at the front asks for, whatever is behind it
abbrev front_call : Packet → Option Stranger → Option Call
front_call packet None = None
front_call packet (Some s) = option_map (λ (n : ℕ). Input n packet) s.number

call_is_by : (packet : Packet) (o : Option Stranger) (f : List ℕ → List ℕ) (size : ℕ)
    → ((s : Stranger) → o ≡ Some s → first_of (f s.held) ≡ Ok (Some (packet, size)))
    → call_of_stranger (option_map (held_by f) o) ≡ front_call packet o
call_is_by packet None f size is = refl
call_is_by packet (Some s) f size is = by s.number
  where
    by : (n : Option ℕ) → call_on n (f s.held) ≡ option_map (λ (k : ℕ). Input k packet) n
    by None = refl
    by (Some n) = ap (λ (x : Front). call_by n (f s.held) x) (is s refl)

come_call : (name held bytes : List ℕ) (packet : Packet) (size : ℕ) (w : World) → Holds name held w
    → first_of (held ++ bytes) ≡ Ok (Some (packet, size))
    → call_of_stranger (stranger_named name (come name bytes w)) ≡ front_call packet (stranger_named name w)
come_call name held bytes packet size w h e =
    ap call_of_stranger (come_found name bytes w)
    ∙ call_is_by packet (stranger_named name w) (λ (old : List ℕ). old ++ bytes) size
    (λ s is. ap (λ (old : List ℕ). first_of (old ++ bytes)) (found_holds name held s w.strangers h is) ∙ e)

-- the world when the packet that has come is answered, in which more bytes are held
abbrev answered : Setting → List ℕ → Packet → List ℕ → World → World
answered set name packet more w =
    with_strangers (calls_if set (front_call packet (stranger_named name w)) w) (map (changed name (λ (held : List ℕ). more)) w.strangers)

next_is : (set : Setting) (name held bytes more : List ℕ) (packet : Packet) (size : ℕ) (w : World) → Holds name held w
    → first_of (held ++ bytes) ≡ Ok (Some (packet, size)) → drop size (held ++ bytes) ≡ more
    → next_world set name (come name bytes w) ≡ answered set name packet more w
next_is set name held bytes more packet size w h e left =
    let v = come name bytes w in
    let call = front_call packet (stranger_named name w) in
    let adds = λ (old : List ℕ). old ++ bytes in
    let behind : held_after (held ++ bytes) ≡ more = ap (λ (f : Front). held_behind f (held ++ bytes)) e ∙ left in
    let strangers : map (changed name held_after) v.strangers ≡ map (changed name (λ (old : List ℕ). more)) w.strangers =
    twice_changed name adds held_after w.strangers
    ∙ same_changes name held (λ (old : List ℕ). held_after (old ++ bytes)) (λ (old : List ℕ). more) w.strangers h behind in
    ap (λ (x : Option Call). calls_if set x (next_held name v)) (come_call name held bytes packet size w h e)
    ∙ (ap (λ (ss : List Stranger). calls_if set call (with_strangers w ss)) strangers
    ∙ if_with set call w (map (changed name (λ (old : List ℕ). more)) w.strangers))

constant_holds : (name held more : List ℕ) (set : Setting) (packet : Packet) (w : World) → Holds name held w → Holds name more (answered set name packet more w)
constant_holds name held more set packet w h = holds_changed name held (λ (old : List ℕ). more) w.strangers h

answers_by : (set : Setting) (name held part : List ℕ) (packet : Packet) (w : World) (n : ℕ) → Holds name held w
    → first_of (held ++ part) ≡ Ok (Some (packet, length (held ++ part))) → 0 < n → drop (length (held ++ part)) (held ++ part) ≡ []
    → answers_rest set n name (come name part w) ≡ answered set name packet [] w
answers_by set name held part packet w zero h e some none = absurd (omega arith)
answers_by set name held part packet w (suc n) h e some none =
    ap (answers_rest set n name) (next_is set name held part [] packet (length (held ++ part)) w h e none)
    ∙ still set name [] (answered set name packet [] w) n (constant_holds name held [] set packet w h) nothing_first

-- one whole packet is answered
pub answers_there : (set : Setting) (name held part : List ℕ) (packet : Packet) (w : World) → Holds name held w
    → is_some (stranger_named name w) ≡ true → first_of (held ++ part) ≡ Ok (Some (packet, length (held ++ part)))
    → asks set (stranger name part) w ≡ answered set name packet [] w
answers_there set name held part packet w h there e =
    let front = held ++ part in
    let size = first_within front packet (length front) e in
    asks_is set name held part w h there
    ∙ answers_by set name held part packet w (length front) h e size.1 (drop_all (length front) front (omega arith))

-- a packet is not there and missing
pub not_both : (f : Front) (packet : Packet) (n : ℕ) → f ≡ Ok None → f ≡ Ok (Some (packet, n)) → ⊥
not_both (Ok None) packet n none e = absurd cc
not_both (Ok (Some x)) packet n none e = absurd cc
not_both (Err fault) packet n none e = absurd cc

-- in one event and in two
pub splits_there : (set : Setting) (name held part more : List ℕ) (packet : Packet) (w : World) → Holds name held w
    → is_some (stranger_named name w) ≡ true → first_of (held ++ part) ≡ Ok (Some (packet, length (held ++ part)))
    → asks set (stranger name (part ++ more)) w ≡ asks set (stranger name more) (asks set (stranger name part) w)
splits_there set name held part more packet w h there e =
    let front = held ++ part in
    let size = first_within front packet (length front) e in
    let joined : front ++ more ≡ held ++ (part ++ more) = append_assoc held part more in
    let whole : first_of (held ++ (part ++ more)) ≡ Ok (Some (packet, length front)) =
    ap first_of (sym joined) ∙ stays_so (first_stays front more) in
    let none : drop (length front) front ≡ [] = drop_all (length front) front (omega arith) in
    let behind : drop (length front) (held ++ (part ++ more)) ≡ more = ap (drop (length front)) (sym joined) ∙ (drop-append-le (length front) front more (omega arith) ∙ ap (λ (bytes : List ℕ). bytes ++ more) none) in
    let one = at_once (length (held ++ (part ++ more))) (omega (arith, ap length joined, length-append front more, size.1)) (omega (arith, ap length joined, length-append front more)) whole behind in
    let v = answered set name packet [] w in
    let v_there : is_some (stranger_named name v) ≡ true = ap is_some (find_changed name (λ (old : List ℕ). []) w.strangers) ∙ still_there (λ (old : List ℕ). []) (stranger_named name w) there in
    let v_holds = constant_holds name held [] set packet w h in
    let second : asks set (stranger name more) v ≡ answers_rest set (length more) name (come name more v) = asks_is set name [] more v v_holds v_there in
    let same : come name more v ≡ answered set name packet more w =
    ap (with_strangers v) (twice_changed name (λ (old : List ℕ). []) (λ (old : List ℕ). old ++ more) w.strangers) in
    asks_is set name held (part ++ more) w h there
    ∙ (one ∙ sym (ap (asks set (stranger name more)) (answers_there set name held part packet w h there e)
    ∙ (second ∙ ap (answers_rest set (length more) name) same)))
  where
    stays_so : (first_of (held ++ part) ≡ Ok None) ⊎ (first_of (held ++ part ++ more) ≡ first_of (held ++ part)) → first_of (held ++ part ++ more) ≡ Ok (Some (packet, length (held ++ part)))
    stays_so (inl none) = absurd (not_both (first_of (held ++ part)) packet (length (held ++ part)) none e)
    stays_so (inr same) = same ∙ e

    at_once : (n : ℕ) → 0 < n → length more < n → first_of (held ++ (part ++ more)) ≡ Ok (Some (packet, length (held ++ part)))
        → drop (length (held ++ part)) (held ++ (part ++ more)) ≡ more
        → answers_rest set n name (come name (part ++ more) w) ≡ answers_rest set (length more) name (answered set name packet more w)
    at_once zero some long whole behind = absurd (omega arith)
    at_once (suc n) some long whole behind =
        ap (answers_rest set n name) (next_is set name held (part ++ more) more packet (length (held ++ part)) w h whole behind)
        ∙ enough set name more (answered set name packet more w) n (length more) (constant_holds name held more set packet w h) (omega arith) (omega arith)

-- ---- if it comes for the first time

-- the world in which it is linked, and nothing of it has come
abbrev pub newcomer : Setting → List ℕ → World → Stranger
newcomer set name w = record { name = name; number = cond (can_link set.limits w.broker) (Some (suc w.broker.given)) None; held = [] }

abbrev pub welcomed : Setting → List ℕ → World → World
welcomed set name w = with_strangers (calls set NewLine w) (w.strangers ++ newcomer set name w ∷ [])

-- a stranger who comes first is found
pub welcomed_found : (set : Setting) (name : List ℕ) (w : World) → stranger_named name w ≡ None
    → stranger_named name (welcomed set name w) ≡ Some (newcomer set name w)
welcomed_found set name w none = find_one_more name (newcomer set name w) w.strangers refl none

-- and holds nothing
pub welcomed_holds : (set : Setting) (name : List ℕ) (w : World) → stranger_named name w ≡ None → Holds name [] (welcomed set name w)
welcomed_holds set name w none = holds_one_more name [] (newcomer set name w) w.strangers (none_holds name [] w.strangers none) refl

-- the first bytes of a stranger come behind its welcome
pub comes_welcomed : (set : Setting) (name bytes : List ℕ) (w : World) → stranger_named name w ≡ None
    → comes set name bytes w ≡ come name bytes (welcomed set name w)
comes_welcomed set name bytes w none =
    ap (λ (o : Option Stranger). linked_at set (is_some o) name bytes w) none
    ∙ ap (with_strangers (calls set NewLine w)) (sym (change_one_more name (λ (held : List ℕ). held ++ bytes) (newcomer set name w) w.strangers refl none))

-- it is as if it had been there
pub comes_both : (set : Setting) (name bytes : List ℕ) (w : World) → stranger_named name w ≡ None
    → comes set name bytes w ≡ comes set name bytes (welcomed set name w)
comes_both set name bytes w none =
    comes_welcomed set name bytes w none ∙ sym (comes_is set name bytes (welcomed set name w) (ap is_some (welcomed_found set name w none)))

-- what it asks first is asked behind its welcome
pub asks_both : (set : Setting) (name bytes : List ℕ) (w : World) → stranger_named name w ≡ None
    → asks set (stranger name bytes) w ≡ asks set (stranger name bytes) (welcomed set name w)
asks_both set name bytes w none = ap (λ (v : World). answers_rest set (held_count (stranger_named name v)) name v) (comes_both set name bytes w none)

-- ---- in either case

-- bytes that end with a whole packet may come in two parts
pub splits : (set : Setting) (name part more : List ℕ) (w : World) → AreAlike name w → IsWhole (bytes_come name part w)
    → asks set (stranger name (part ++ more)) w ≡ asks set (stranger name more) (asks set (stranger name part) w)
splits set name part more w alike whole = by (stranger_named name w) refl
  where
    by : (o : Option Stranger) → stranger_named name w ≡ o
        → asks set (stranger name (part ++ more)) w ≡ asks set (stranger name more) (asks set (stranger name part) w)
    by None none =
        let v = welcomed set name w in
        let found : first_of part ≡ Ok (Some (whole.0, length part)) =
        subst (λ (x : Option Stranger). first_of (bytes_held x ++ part) ≡ Ok (Some (whole.0, length (bytes_held x ++ part)))) none whole.1 in
        asks_both set name (part ++ more) w none
        ∙ (splits_there set name [] part more whole.0 v (welcomed_holds set name w none) (ap is_some (welcomed_found set name w none)) found
        ∙ sym (ap (asks set (stranger name more)) (asks_both set name part w none)))
    by (Some s) is =
        splits_there set name (bytes_held (stranger_named name w)) part more whole.0 w alike (ap is_some is) whole.1

-- nothing is held behind a whole packet
holds_nothing : (name : List ℕ) (w : World) → Holds name [] w → bytes_held (stranger_named name w) ≡ []
holds_nothing name w h = by (stranger_named name w) refl
  where
    by : (o : Option Stranger) → stranger_named name w ≡ o → bytes_held o ≡ []
    by None is = refl
    by (Some s) is = found_holds name [] s w.strangers h is

-- behind a whole packet the stranger holds nothing
pub none_behind : (set : Setting) (name part : List ℕ) (w : World) → AreAlike name w → IsWhole (bytes_come name part w)
    → bytes_held (stranger_named name (asks set (stranger name part) w)) ≡ []
none_behind set name part w alike whole = by (stranger_named name w) refl
  where
    there : (held : List ℕ) (v : World) → Holds name held v → is_some (stranger_named name v) ≡ true
        → first_of (held ++ part) ≡ Ok (Some (whole.0, length (held ++ part)))
        → bytes_held (stranger_named name (asks set (stranger name part) v)) ≡ []
    there held v h is e =
        ap (λ (u : World). bytes_held (stranger_named name u)) (answers_there set name held part whole.0 v h is e)
        ∙ holds_nothing name (answered set name whole.0 [] v) (constant_holds name held [] set whole.0 v h)

    by : (o : Option Stranger) → stranger_named name w ≡ o → bytes_held (stranger_named name (asks set (stranger name part) w)) ≡ []
    by None none =
        let found : first_of part ≡ Ok (Some (whole.0, length part)) =
        subst (λ (x : Option Stranger). first_of (bytes_held x ++ part) ≡ Ok (Some (whole.0, length (bytes_held x ++ part)))) none whole.1 in
        ap (λ (u : World). bytes_held (stranger_named name u)) (asks_both set name part w none)
        ∙ there [] (welcomed set name w) (welcomed_holds set name w none) (ap is_some (welcomed_found set name w none)) found
    by (Some s) is = there (bytes_held (stranger_named name w)) w alike (ap is_some is) whole.1

-- ---- they stay alike

rest_alike : (set : Setting) (name held : List ℕ) (w : World) (more : ℕ) → Holds name held w
    → (left : List ℕ) × Holds name left (answers_rest set more name w)
rest_alike set name held w zero h = (held, h)
rest_alike set name held w (suc more) h = rest_alike set name (held_after held) (next_world set name w) more (next_holds set name held w h)

-- who holds something is alike with itself
pub alike_by : (name held : List ℕ) (w : World) → Holds name held w → AreAlike name w
alike_by name held w h = by (stranger_named name w) refl
  where
    by : (o : Option Stranger) → stranger_named name w ≡ o → AreAlike name w
    by None none = none_holds name (bytes_held (stranger_named name w)) w.strangers none
    by (Some s) is =
        let same : held ≡ bytes_held (stranger_named name w) = sym (ap bytes_held is ∙ found_holds name held s w.strangers h is) in
        subst (λ (bytes : List ℕ). Holds name bytes w) same h

-- what a stranger asks leaves those of its name alike
pub asks_alike : (set : Setting) (name bytes : List ℕ) (w : World) → AreAlike name w → AreAlike name (asks set (stranger name bytes) w)
asks_alike set name bytes w alike = by (stranger_named name w) refl
  where
    there : (held : List ℕ) (v : World) → Holds name held v → AreAlike name (answers_rest set (held_count (stranger_named name (come name bytes v))) name (come name bytes v))
    there held v h =
        let rest = rest_alike set name (held ++ bytes) (come name bytes v) (held_count (stranger_named name (come name bytes v))) (come_holds name held bytes v h) in
        alike_by name rest.0 (answers_rest set (held_count (stranger_named name (come name bytes v))) name (come name bytes v)) rest.1

    by : (o : Option Stranger) → stranger_named name w ≡ o → AreAlike name (asks set (stranger name bytes) w)
    by None none =
        subst (λ (v : World). AreAlike name (answers_rest set (held_count (stranger_named name v)) name v)) (sym (comes_welcomed set name bytes w none))
        (there [] (welcomed set name w) (welcomed_holds set name w none))
    by (Some s) is =
        subst (λ (v : World). AreAlike name (answers_rest set (held_count (stranger_named name v)) name v)) (sym (comes_is set name bytes w (ap is_some is)))
        (there (bytes_held (stranger_named name w)) w alike)
