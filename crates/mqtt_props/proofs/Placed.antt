-- Properties that are read each with its place are those that are read and then placed (MQTT 5.0, 2.2.2.2).
use Rattle.std.proofs.Common.{◌≡◌, ℕ, zero, suc, ◌+◌, ◌≤◌, Bool, true, false, cond, ltb, not, ◌&&◌, List, [], ◌∷◌, length, take, drop, Result, Ok, Err, refl, sym, ap, ◌∙◌}
use Rattle.std.proofs.lemmas.Bool.{le-ltb}
use Rattle.mqtt_base.specs.Reading.{◌>>=◌, varint_at}
use Rattle.mqtt_base.specs.Items.{items_in, items_at, items_of, or_none, IsOk}
use Rattle.mqtt_props.specs.declared.fault.PropFault.{PropFault}
use Rattle.mqtt_props.specs.declared.fault.PropFault.TheVariants.{Malformed, Twice, BadValue}
use Rattle.mqtt_props.specs.declared.place.Place.{Place}
use Rattle.mqtt_props.specs.Table.{may_stand}
use Rattle.mqtt_props.specs.Properties.{Prop}
use Rattle.mqtt_props.specs.Reading.{malformed, prop_at, props_at, props_of, block_at}
use Rattle.mqtt_props.specs.Laws.{all_may_stand, placed_at, none_repeats, values_are_lawful, judge, laws_of, lawful_at, layout_at}
use Rattle.mqtt_props.proofs.Blocks.{block_found}

-- the properties, if they may stand there
abbrev placed : Place → Result (List Prop) PropFault → Result (List Prop) PropFault
placed place (Ok ps) = cond (all_may_stand place ps) (Ok ps) (Err Malformed)
placed place (Err e) = Err Malformed

chosen_ok : {A B : Type 0} (b : Bool) (x y : A) (f : A → B) → Ok x ≡ cond b (Ok y) (Err Malformed) → Ok (f x) ≡ cond b (Ok (f y)) (Err Malformed)
chosen_ok {A} {B} true x y f h = ap (λ (z : A). Ok (f z)) (cc h)
chosen_ok false x y f h = absurd (cc h)

chosen_err : {A B : Type 0} (b : Bool) (y : A) (f : A → B) → Err Malformed ≡ cond b (Ok y) (Err Malformed) → Err Malformed ≡ cond b (Ok (f y)) (Err Malformed)
chosen_err true y f h = absurd (cc h)
chosen_err false y f h = refl

grow : (place : Place) (p : Prop) (t r : Result (List Prop) PropFault) → may_stand p.name place ≡ true → malformed t ≡ placed place r
    → malformed (t >>= λ xs. Ok (p ∷ xs)) ≡ placed place (r >>= λ xs. Ok (p ∷ xs))
grow place p (Err e) (Err f) may h = refl
grow place p (Err e) (Ok ps) may h = rw may (chosen_err (all_may_stand place ps) ps (λ xs. p ∷ xs) h)
grow place p (Ok xs) (Err f) may h = absurd (cc h)
grow place p (Ok xs) (Ok ps) may h = rw may (chosen_ok (all_may_stand place ps) xs ps (λ ys. p ∷ ys) h)

stop : (place : Place) (p : Prop) (r : Result (List Prop) PropFault) → may_stand p.name place ≡ false → Err Malformed ≡ placed place (r >>= λ xs. Ok (p ∷ xs))
stop place p (Err f) may = refl
stop place p (Ok ps) may = rw may refl

one : (place : Place) (b : Bool) (x : Prop × List ℕ) (t r : List ℕ → Result (List Prop) PropFault) → may_stand x.0.name place ≡ b → malformed (t x.1) ≡ placed place (r x.1)
    → malformed (cond b (Ok x) (Err Malformed) >>= λ y. t y.1 >>= λ xs. Ok (y.0 ∷ xs)) ≡ placed place (r x.1 >>= λ xs. Ok (x.0 ∷ xs))
one place true x t r may h = grow place x.0 (t x.1) (r x.1) may h
one place false x t r may h = stop place x.0 (r x.1) may

step : (place : Place) (read : Result (Prop × List ℕ) PropFault) (t r : List ℕ → Result (List Prop) PropFault) → ((bytes : List ℕ) → malformed (t bytes) ≡ placed place (r bytes))
    → malformed ((read >>= λ x. cond (may_stand x.0.name place) (Ok x) (Err Malformed)) >>= λ y. t y.1 >>= λ xs. Ok (y.0 ∷ xs)) ≡ placed place (read >>= λ x. r x.1 >>= λ xs. Ok (x.0 ∷ xs))
step place (Err e) t r h = refl
step place (Ok x) t r h = one place (may_stand x.0.name place) x t r refl (h x.1)

items_placed : (place : Place) (k : ℕ) (bytes : List ℕ) → malformed (items_in Malformed (placed_at place) k bytes) ≡ placed place (items_in Malformed prop_at k bytes)
unfolding items_in placed_at
items_placed place k [] = refl
items_placed place zero (b ∷ bytes) = refl
items_placed place (suc k) (b ∷ bytes) =
    step place (prop_at (b ∷ bytes)) (λ rest. items_in Malformed (placed_at place) k rest) (λ rest. items_in Malformed prop_at k rest) (λ rest. items_placed place k rest)

props_placed : (place : Place) (bytes : List ℕ) → malformed (items_at Malformed (placed_at place) bytes) ≡ placed place (props_at bytes)
unfolding items_at
props_placed place bytes = items_placed place (length bytes) bytes

-- ---- what a test of them tells

abbrev AllPlaced : Place → Result (List Prop) PropFault → Type 0
AllPlaced place r = IsOk r × (all_may_stand place (or_none r) ≡ true)

chosen_true : (b : Bool) (ps xs : List Prop) → Ok xs ≡ cond b (Ok ps) (Err Malformed) → b ≡ true
chosen_true true ps xs h = refl
chosen_true false ps xs h = absurd (cc h)

all_placed : (place : Place) (t r : Result (List Prop) PropFault) → malformed t ≡ placed place r → IsOk t → AllPlaced place r
all_placed place (Err e) r h ok = absurd ok
all_placed place (Ok xs) (Err e) h ok = absurd (cc h)
all_placed place (Ok xs) (Ok ps) h ok = (tt, chosen_true (all_may_stand place ps) ps xs h)

-- bytes that are such properties
pub placed_found : (place : Place) (bytes : List ℕ) → IsOk (items_at Malformed (placed_at place) bytes) → IsOk (props_at bytes) × (all_may_stand place (props_of bytes) ≡ true)
unfolding items_of
placed_found place bytes ok = all_placed place (items_at Malformed (placed_at place) bytes) (props_at bytes) (props_placed place bytes) ok

none_placed : (place : Place) (t r : Result (List Prop) PropFault) (e : PropFault) → malformed t ≡ placed place r → t ≡ Err e → placed place r ≡ Err Malformed
none_placed place t r e h is = sym h ∙ ap (λ (q : Result (List Prop) PropFault). malformed q) is

chosen_none : {A B : Type 0} (b : Bool) (x : A) (y : B) → cond b (Ok x) (Err Malformed) ≡ Err Malformed → cond b (Ok y) (Err Malformed) ≡ Err Malformed
chosen_none true x y h = absurd (cc h)
chosen_none false x y h = refl

abbrev behind : List ℕ → Result (List Prop) PropFault → Result (List Prop × List ℕ) PropFault
behind rest r = r >>= λ ps. Ok (ps, rest)

no_layout : (place : Place) (r : Result (List Prop) PropFault) (rest : List ℕ) → placed place r ≡ Err Malformed
    → (malformed (behind rest r) >>= λ x. cond (all_may_stand place x.0) (Ok x) (Err Malformed)) ≡ Err Malformed
no_layout place (Err e) rest h = refl
no_layout place (Ok ps) rest h =
    let both : List Prop × List ℕ = (ps, rest) in
    chosen_none (all_may_stand place ps) ps both h

-- ---- blocks

-- a length and so many bytes of properties that may stand there are a layout
pub layout_is : (place : Place) (bytes rest : List ℕ) (len taken : ℕ) → rest ≡ drop taken bytes → varint_at bytes ≡ Ok (len, drop taken bytes) → len ≤ length rest → IsOk (items_at Malformed (placed_at place) (take len rest))
    → layout_at place bytes ≡ Ok (props_of (take len rest), drop (taken + len) bytes)
unfolding layout_at
layout_is place bytes rest len taken e read le ok =
    let found = placed_found place (take len rest) ok in
    rw (block_found bytes rest len taken e read le found.0, found.1) refl

-- if one of them may not, they are none
pub layout_is_none : (place : Place) (bytes rest : List ℕ) (len taken : ℕ) (e : PropFault) → rest ≡ drop taken bytes → varint_at bytes ≡ Ok (len, drop taken bytes) → len ≤ length rest → items_at Malformed (placed_at place) (take len rest) ≡ Err e
    → layout_at place bytes ≡ Err Malformed
unfolding layout_at block_at
layout_is_none place bytes rest len taken f e read le bad =
    let long : ltb (length (drop taken bytes)) len ≡ false = le-ltb _ _ (rw (← e) le) in
    let none : placed place (props_at (take len (drop taken bytes))) ≡ Err Malformed = rw (← e) (none_placed place (items_at Malformed (placed_at place) (take len rest)) (props_at (take len rest)) f (props_placed place (take len rest)) bad) in
    rw (read, long) (no_layout place (props_at (take len (drop taken bytes))) (drop len (drop taken bytes)) none)

-- the laws are tested where the layout is read
by_choice : (place : Place) (a : Bool) (y : List Prop × List ℕ) (laws : Result (Unit {0}) PropFault) → laws ≡ laws_of place y.0
    → (cond (not a) (Err Malformed) (laws >>= λ u. Ok y.0) >>= λ ps. Ok (ps, y.1)) ≡ (cond a (Ok y) (Err Malformed) >>= λ x. laws_of place x.0 >>= λ u. Ok x)
by_choice place true y (Ok u) e = rw (← e) refl
by_choice place true y (Err f) e = rw (← e) refl
by_choice place false y laws e = refl

abbrev passed : Result (Unit {0}) PropFault
passed = Ok tt

abbrev listed : List Prop → Result (List Prop) PropFault
listed ps = Ok ps

judge_is : (a n v : Bool) (ps : List Prop) → cond (not a) (Err Malformed) (cond (not n) (Err Twice) (cond (not v) (Err BadValue) (listed ps))) ≡ cond (not a) (Err Malformed) (cond (not n) (Err Twice) (cond (not v) (Err BadValue) passed) >>= λ u. listed ps)
judge_is true true true ps = refl
judge_is true true false ps = refl
judge_is true false v ps = refl
judge_is false n v ps = refl

by_layout : (place : Place) (r : Result (List Prop × List ℕ) PropFault)
    → (malformed r >>= λ y. judge place y.0 >>= λ ps. Ok (ps, y.1)) ≡ ((malformed r >>= λ y. cond (all_may_stand place y.0) (Ok y) (Err Malformed)) >>= λ x. laws_of place x.0 >>= λ u. Ok x)
by_layout place (Err e) = refl
by_layout place (Ok y) =
    ap (λ (j : Result (List Prop) PropFault). j >>= λ ps. Ok (ps, y.1)) (judge_is (all_may_stand place y.0) (none_repeats place y.0) (values_are_lawful y.0) y.0)
    ∙ by_choice place (all_may_stand place y.0) y (laws_of place y.0) refl

-- a block is lawful by its layout and by the laws of its place
pub lawful_by_layout : (place : Place) (bytes : List ℕ) → lawful_at place bytes ≡ (layout_at place bytes >>= λ x. laws_of place x.0 >>= λ u. Ok x)
unfolding lawful_at layout_at
lawful_by_layout place bytes = by_layout place (block_at bytes)
