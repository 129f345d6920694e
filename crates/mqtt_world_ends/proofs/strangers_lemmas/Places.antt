-- Strangers by their places and their names.
use Rattle.std.proofs.Common.{◌≡◌, ◌≤◌, ◌<◌, ◌+◌, ◌-◌, ℕ, zero, suc, Bool, true, false, cond, List, [], ◌∷◌, ◌++◌, length, map, take, set, get_or, Option, Some, None, bytes_eq}
use Rattle.std.proofs.Common.{refl, sym, ap, subst, ◌∙◌, add-one, arith, inl, inr, length-append}
use Rattle.std.specs.Prelude.{Ok}
use Rattle.std.specs.List.{AllByRecursion}
use Rattle.std.proofs.lemmas.Bool.{cases_Bool}
use Rattle.std.proofs.lemmas.List.{take_all}
use Rattle.std.proofs.lemmas.Slice.Eq.{bytes_eq-Decides}
use Rattle.mqtt_packet.specs.stream.Front.{first_of}
use Rattle.mqtt_world_model.specs.model.World.{Stranger, World, bytes_held, held_after, unlinked}
use Rattle.mqtt_world_model.specs.single_steps.Unrolled.{AreAllAlike, HoldNoPacket, HoldsThese}
use Rattle.mqtt_world_model.proofs.single_steps_lemmas.Answered.{nothing_first}
use Rattle.mqtt_world_model.proofs.single_steps_lemmas.Strangers.{changed, held_by, name_stays, none_holds, same_changes, twice_changed}
use Rattle.mqtt_world_ends.specs.strangers.Fronts.{AsksFor, BeginsFaulty, BeginsWhole}
use Rattle.mqtt_world_ends.specs.strangers.Strangers.{AreDistinct, AreKept, AreWaiting, Become, Comes, IsPlace, held_of, if_named, in_world, named, newcomer, takes_piece}
use Rattle.mqtt_world_ends.proofs.strangers_lemmas.Pieces.{ends_later, faulty_given, faulty_held, faulty_piece, none_left, partial_piece, whole_given, whole_held, whole_piece}

-- ---- a place

found_step : (name : List ℕ) (s : Stranger) (ss : List Stranger) → named name (s ∷ ss) ≡ None
    → (bytes_eq s.name name ≡ false) × (named name ss ≡ None)
found_step name s ss none = by (bytes_eq s.name name) refl
  where
    by : (t : Bool) → bytes_eq s.name name ≡ t → (bytes_eq s.name name ≡ false) × (named name ss ≡ None)
    by true is =
        let clash : Some s ≡ None = sym (ap (λ (t : Bool). cond t (Some s) (named name ss)) is) ∙ none in
        absurd cc
    by false is = (is, sym (ap (λ (t : Bool). cond t (Some s) (named name ss)) is) ∙ none)

-- none is behind another place
pub none_further : (name : List ℕ) (ss : List Stranger) (place : ℕ) (other : Stranger) → place < length ss → named name (take place ss) ≡ None
    → bytes_eq (get_or ss place other).name name ≡ false → named name (take (place + 1) ss) ≡ None
none_further name ss place other within none differs =
    ap (λ (n : ℕ). named name (take n ss)) (add-one place) ∙ by ss place within none differs
  where
    by : (ss : List Stranger) (place : ℕ) → place < length ss → named name (take place ss) ≡ None
        → bytes_eq (get_or ss place other).name name ≡ false → named name (take (suc place) ss) ≡ None
    by [] place within none differs = absurd (omega arith)
    by (s ∷ ss) zero within none differs = ap (λ (t : Bool). cond t (Some s) None) differs
    by (s ∷ ss) (suc place) within none differs =
        let step = found_step name s (take place ss) none in
        ap (λ (t : Bool). cond t (Some s) (named name (take (suc place) ss))) step.0
        ∙ by ss place (omega arith) step.1 differs

-- ---- the one of a name changes

-- a change of one who does not stand changes nobody
pub none_changed : (name : List ℕ) (f : List ℕ → List ℕ) (ss : List Stranger) → named name ss ≡ None → map (if_named name f) ss ≡ ss
none_changed name f [] none = refl
none_changed name f (s ∷ ss) none =
    let step = found_step name s ss none in
    ap (λ (t : Bool). cond t (held_by f s) s ∷ map (if_named name f) ss) step.0
    ∙ ap (λ (xs : List Stranger). s ∷ xs) (none_changed name f ss step.1)

same_name : (a b : List ℕ) → bytes_eq a b ≡ true → a ≡ b
same_name a b is = (bytes_eq-Decides a b).0 is

-- setting one at his place is changing the one of his name
pub set_is_change : (name : List ℕ) (f : List ℕ → List ℕ) (ss : List Stranger) (place : ℕ) (other : Stranger) → AreDistinct ss
    → IsPlace name ss place → set ss place (held_by f (get_or ss place other)) ≡ map (if_named name f) ss
set_is_change name f ss place other distinct p = by ss place distinct p.within p.before (p.here other)
  where
    by : (ss : List Stranger) (place : ℕ) → AreDistinct ss → place < length ss → named name (take place ss) ≡ None
        → bytes_eq (get_or ss place other).name name ≡ true
        → set ss place (held_by f (get_or ss place other)) ≡ map (if_named name f) ss
    by [] place distinct within before here = absurd (omega arith)
    by (s ∷ ss) zero distinct within before here =
        let none : named name ss ≡ None = ap (λ (x : List ℕ). named x ss) (sym (same_name s.name name here)) ∙ distinct.0 in
        ap (λ (xs : List Stranger). held_by f s ∷ xs) (sym (none_changed name f ss none))
        ∙ sym (ap (λ (t : Bool). cond t (held_by f s) s ∷ map (if_named name f) ss) here)
    by (s ∷ ss) (suc place) distinct within before here =
        let step = found_step name s (take place ss) before in
        ap (λ (xs : List Stranger). s ∷ xs) (by ss place distinct.1 (omega arith) step.1 here)
        ∙ sym (ap (λ (t : Bool). cond t (held_by f s) s ∷ map (if_named name f) ss) step.0)

-- ---- what always holds

-- whoever has a name holds what the one of that name does
pub distinct_hold : (name : List ℕ) (ss : List Stranger) → AreDistinct ss → AllByRecursion (HoldsThese name (held_of name ss)) ss
distinct_hold name [] distinct = tt
distinct_hold name (s ∷ ss) distinct = elim (cases_Bool (bytes_eq s.name name)) [
  | inl is ↦
      let none : named name ss ≡ None = ap (λ (x : List ℕ). named x ss) (sym (same_name s.name name is)) ∙ distinct.0 in
      let held : held_of name (s ∷ ss) ≡ s.held = ap (λ (t : Bool). bytes_held (cond t (Some s) (named name ss))) is in
      (λ same. sym held, none_holds name (held_of name (s ∷ ss)) ss none)
  | inr differs ↦
      let held : held_of name (s ∷ ss) ≡ held_of name ss = ap (λ (t : Bool). bytes_held (cond t (Some s) (named name ss))) differs in (
        λ same. let clash : true ≡ false = sym same ∙ differs in absurd cc,
        subst (λ (x : List ℕ). AllByRecursion (HoldsThese name x) ss) (sym held) (distinct_hold name ss distinct.1),
      )
]

waits_named : (name : List ℕ) (ss : List Stranger) → AreWaiting ss → first_of (held_of name ss) ≡ Ok None
waits_named name [] waiting = nothing_first
waits_named name (s ∷ ss) waiting = by (waits_named name ss waiting.1) (bytes_eq s.name name)
  where
    by : first_of (held_of name ss) ≡ Ok None → (t : Bool) → first_of (bytes_held (cond t (Some s) (named name ss))) ≡ Ok None
    by rest true = waiting.0
    by rest false = rest

-- strangers that are kept are alike
pub all_alike : (ss : List Stranger) (w : World) → AreKept ss → AreAllAlike (in_world ss w)
all_alike ss w kept name = distinct_hold name ss kept.distinct

-- and hold no whole packet
pub no_packet : (ss : List Stranger) (w : World) → AreKept ss → HoldNoPacket (in_world ss w)
no_packet ss w kept name = waits_named name ss kept.waiting

-- ---- and stays so

none_renamed : (f : Stranger → Stranger) → ((s : Stranger) → (f s).name ≡ s.name) → (name : List ℕ) (ss : List Stranger)
    → named name ss ≡ None → named name (map f ss) ≡ None
none_renamed f same name [] none = refl
none_renamed f same name (s ∷ ss) none =
    let step = found_step name s ss none in
    ap (λ (t : Bool). cond t (Some (f s)) (named name (map f ss))) (ap (λ (x : List ℕ). bytes_eq x name) (same s) ∙ step.0)
    ∙ none_renamed f same name ss step.1

distinct_renamed : (f : Stranger → Stranger) → ((s : Stranger) → (f s).name ≡ s.name) → (ss : List Stranger) → AreDistinct ss → AreDistinct (map f ss)
distinct_renamed f same [] distinct = tt
distinct_renamed f same (s ∷ ss) distinct = (
  ap (λ (x : List ℕ). named x (map f ss)) (same s) ∙ none_renamed f same s.name ss distinct.0,
  distinct_renamed f same ss distinct.1,
)

waiting_held : (name left : List ℕ) (ss : List Stranger) → first_of left ≡ Ok None → AreWaiting ss → AreWaiting (map (if_named name (λ (x : List ℕ). left)) ss)
waiting_held name left [] none waiting = tt
waiting_held name left (s ∷ ss) none waiting = (by (bytes_eq s.name name), waiting_held name left ss none waiting.1)
  where
    by : (t : Bool) → first_of (cond t (held_by (λ (x : List ℕ). left) s) s).held ≡ Ok None
    by true = none
    by false = waiting.0

-- who holds no whole packet may be kept
pub kept_held : (name left : List ℕ) (ss : List Stranger) → first_of left ≡ Ok None → AreKept ss → AreKept (map (if_named name (λ (x : List ℕ). left)) ss)
kept_held name left ss none kept = record {
  distinct = distinct_renamed (if_named name (λ (x : List ℕ). left)) (name_stays name (λ (x : List ℕ). left)) ss kept.distinct;
  waiting = waiting_held name left ss none kept.waiting;
}

unlinked_wait : (ss : List Stranger) → AreWaiting (map unlinked ss)
unlinked_wait [] = tt
unlinked_wait (s ∷ ss) = (nothing_first, unlinked_wait ss)

-- so may all behind a restart
pub kept_unlinked : (ss : List Stranger) → AreKept ss → AreKept (map unlinked ss)
kept_unlinked ss kept = record {
  distinct = distinct_renamed unlinked (λ s. refl) ss kept.distinct;
  waiting = unlinked_wait ss;
}

none_behind : (name : List ℕ) (s : Stranger) (ss : List Stranger) → bytes_eq s.name name ≡ false → named name ss ≡ None → named name (ss ++ s ∷ []) ≡ None
none_behind name s [] differs none = ap (λ (t : Bool). cond t (Some s) None) differs
none_behind name s (x ∷ ss) differs none =
    let step = found_step name x ss none in
    ap (λ (t : Bool). cond t (Some x) (named name (ss ++ s ∷ []))) step.0 ∙ none_behind name s ss differs step.1

other_way : (a b : List ℕ) → bytes_eq a b ≡ false → bytes_eq b a ≡ false
other_way a b differs = elim (cases_Bool (bytes_eq b a)) [
  | inl is ↦
      let clash : true ≡ false = sym ((bytes_eq-Decides a b).1 (sym (same_name b a is))) ∙ differs in
      absurd cc
  | inr other ↦ other
]

distinct_more : (s : Stranger) (ss : List Stranger) → named s.name ss ≡ None → AreDistinct ss → AreDistinct (ss ++ s ∷ [])
distinct_more s [] none distinct = (refl, tt)
distinct_more s (x ∷ ss) none distinct =
    let step = found_step s.name x ss none in (
      none_behind x.name s ss (other_way x.name s.name step.0) distinct.0,
      distinct_more s ss step.1 distinct.1,
    )

waiting_more : (s : Stranger) (ss : List Stranger) → first_of s.held ≡ Ok None → AreWaiting ss → AreWaiting (ss ++ s ∷ [])
waiting_more s [] none waiting = (none, tt)
waiting_more s (x ∷ ss) none waiting = (waiting.0, waiting_more s ss none waiting.1)

-- and one more of a new name
pub kept_more : (name : List ℕ) (line : Option ℕ) (ss : List Stranger) → named name ss ≡ None → AreKept ss → AreKept (ss ++ newcomer name line ∷ [])
kept_more name line ss none kept = record {
  distinct = distinct_more (newcomer name line) ss none kept.distinct;
  waiting = waiting_more (newcomer name line) ss nothing_first kept.waiting;
}

-- and nobody
pub kept_none : AreKept []
kept_none = record { distinct = tt; waiting = tt }

-- ---- a piece comes

-- a piece that is taken leaves what is behind it
pub piece_taken : (name piece left : List ℕ) (ss : List Stranger) → AreDistinct ss → held_after (held_of name ss ++ piece) ≡ left
    → Become (takes_piece name piece) ss (map (if_named name (λ (x : List ℕ). left)) ss)
piece_taken name piece left ss distinct is w =
    let adds = λ (x : List ℕ). x ++ piece in
    let same : map (if_named name (λ (x : List ℕ). left)) ss ≡ map (if_named name held_after) (map (if_named name adds) ss) =
    sym (twice_changed name adds held_after ss
    ∙ same_changes name (held_of name ss) (λ (x : List ℕ). held_after (x ++ piece)) (λ (x : List ℕ). left) ss (distinct_hold name ss distinct) is) in
    ap (λ (xs : List Stranger). record w { strangers = xs }) same

-- bytes that end no packet come and are held
pub partial_comes : (name bytes : List ℕ) (ss : List Stranger) (all : List ℕ) → AreKept ss → all ≡ held_of name ss ++ bytes
    → first_of all ≡ Ok None → Comes name bytes ss (map (if_named name (λ (x : List ℕ). all)) ss) (length bytes) None
partial_comes name bytes ss all kept is none =
    let held = held_of name ss in
    let same : take (length bytes) bytes ≡ bytes = take_all (length bytes) bytes (omega arith) in
    let e : first_of (held ++ bytes) ≡ Ok None = ap first_of (sym is) ∙ none in
    let come : held ++ take (length bytes) bytes ≡ all = ap (λ (xs : List ℕ). held ++ xs) same ∙ sym is in
    record {
      within = omega arith;
      next = partial_piece held bytes e;
      asks = ap first_of come ∙ none;
      becomes = piece_taken name (take (length bytes) bytes) all ss kept.distinct (ap held_after come ∙ none_left all none);
    }

-- it ends behind what was held
pub size_past : (name bytes : List ℕ) (ss : List Stranger) (all : List ℕ) (n : ℕ) → AreKept ss → all ≡ held_of name ss ++ bytes
    → BeginsWhole all n → length all - length bytes ≤ n
size_past name bytes ss all n kept is b =
    let held = held_of name ss in
    let whole = subst (λ (xs : List ℕ). BeginsWhole xs n) is b in
    omega (arith, ends_later held bytes n (waits_named name ss kept.waiting) whole, ap length is, length-append held bytes)

-- bytes that end one come and are asked
pub whole_comes : (name bytes : List ℕ) (ss : List Stranger) (all : List ℕ) (n : ℕ) → AreKept ss → all ≡ held_of name ss ++ bytes
    → BeginsWhole all n
    → Comes name bytes ss (map (if_named name (λ (x : List ℕ). [])) ss) (n - (length all - length bytes)) (Some (take n all))
whole_comes name bytes ss all n kept is b =
    let held = held_of name ss in
    let none = waits_named name ss kept.waiting in
    let whole = subst (λ (xs : List ℕ). BeginsWhole xs n) is b in
    let long = ends_later held bytes n none whole in
    let size : length all - length bytes ≡ length held = omega (arith, ap length is, length-append held bytes) in
    subst (λ (k : ℕ). Comes name bytes ss (map (if_named name (λ (x : List ℕ). [])) ss) (n - k) (Some (take n all))) (sym size)
    (record {
      within = omega (arith, whole.inside, length-append held bytes, long);
      next = whole_piece held bytes n none whole;
      asks =
          subst (λ (xs : List ℕ). AsksFor (held ++ take (n - length held) bytes) (take n xs)) (sym is)
          (whole_given held bytes n none whole);
      becomes = piece_taken name (take (n - length held) bytes) [] ss kept.distinct (whole_held held bytes n none whole);
    })

-- bytes that end a faulty one come and are refused
pub faulty_comes : (name bytes : List ℕ) (ss : List Stranger) (all : List ℕ) (n : ℕ) → AreKept ss → all ≡ held_of name ss ++ bytes
    → BeginsFaulty all n → Comes name bytes ss (map (if_named name (λ (x : List ℕ). [])) ss) (length bytes) (Some (take n all))
faulty_comes name bytes ss all n kept is b =
    let held = held_of name ss in
    let same : take (length bytes) bytes ≡ bytes = take_all (length bytes) bytes (omega arith) in
    let come : held ++ take (length bytes) bytes ≡ all = ap (λ (xs : List ℕ). held ++ xs) same ∙ sym is in
    let bad = subst (λ (xs : List ℕ). BeginsFaulty xs n) is b in
    record {
      within = omega arith;
      next = faulty_piece held bytes n bad;
      asks = subst (λ (xs : List ℕ). AsksFor xs (take n all)) (sym come) (faulty_given all n b);
      becomes =
          piece_taken name (take (length bytes) bytes) [] ss kept.distinct
          (ap held_after (come ∙ is) ∙ faulty_held held bytes n bad);
    }

-- the same by other names
pub came_by : (name bytes : List ℕ) (old new ss changed : List Stranger) (taken n : ℕ) (given asked : Option (List ℕ)) → ss ≡ old
    → new ≡ changed → taken ≡ n → given ≡ asked → Comes name bytes ss changed n asked → Comes name bytes old new taken given
came_by name bytes old new ss changed taken n given asked a b c d comes =
    subst (λ (xs : List Stranger). Comes name bytes xs new taken given) a
    (subst (λ (ys : List Stranger). Comes name bytes ss ys taken given) (sym b)
    (subst (λ (k : ℕ). Comes name bytes ss changed k given) (sym c)
    (subst (λ (o : Option (List ℕ)). Comes name bytes ss changed n o) (sym d) comes)))

-- who is made to hold no whole packet is kept
pub kept_by : (name left : List ℕ) (new ss : List Stranger) → new ≡ map (if_named name (λ (x : List ℕ). left)) ss
    → first_of left ≡ Ok None → AreKept ss → AreKept new
kept_by name left new ss is none kept = subst AreKept (sym is) (kept_held name left ss none kept)
