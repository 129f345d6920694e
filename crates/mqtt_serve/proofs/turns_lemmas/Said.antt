-- What is said to each connection is what the answers of calls say to its line.
use Rattle.std.proofs.Common.{◌≡◌, ◌≢◌, ◌⊎◌, ◌<◌, ℕ, zero, suc, Bool, true, false, cond, List, [], ◌∷◌, ◌++◌, length, take, drop, not, Option, Some, None, refl, sym, ap, subst, ◌∙◌, inl, inr, arith}
use Rattle.std.specs.Prelude.{slice_get}
use Rattle.std.proofs.lemmas.List.{append-nil, append_assoc}
use Rattle.mqtt_link.specs.Links.{and_then}
use Rattle.mqtt_rules.specs.step.Laws.{IsAmong}
use Rattle.mqtt_serve.specs.declared.turns.connection.Fate.{Fate}
use Rattle.mqtt_serve.specs.declared.turns.connection.Fate.TheVariants.{Stands, Lost, Closed}
use Rattle.mqtt_serve.specs.turns.Related.{Related, RelatedAt}
use Rattle.mqtt_serve.specs.turns.Said.{AreSaid, IsSaid, IsSaidTo}
use Rattle.mqtt_serve.specs.turns.Turns.{without_closed}
use Rattle.mqtt_serve.specs.turns.Wires.{Wire, Hears, Leaves, Reads, Writes, WritesLast, bytes_if, bytes_to, ending, is_closed, is_standing, lost, writing}

-- outputs, each with its line
abbrev pub Outputs : Type 0
Outputs = List (ℕ × List ℕ)

-- ---- bytes

and_then_none : (told : Option (List ℕ)) → and_then told [] ≡ told
and_then_none None = refl
and_then_none (Some bytes) = ap Some (append-nil bytes)

and_then_more : (told : Option (List ℕ)) (a b : List ℕ) → and_then told (a ++ b) ≡ and_then (and_then told a) b
and_then_more None a b = refl
and_then_more (Some bytes) a b = ap Some (sym (append_assoc bytes a b))

bytes_both : (n : ℕ) (xs ys : Outputs) → bytes_to n (xs ++ ys) ≡ bytes_to n xs ++ bytes_to n ys
bytes_both n [] ys = refl
bytes_both n (x ∷ xs) ys = ap (λ (bs : List ℕ). bytes_if n x ++ bs) (bytes_both n xs ys) ∙ sym (append_assoc (bytes_if n x) (bytes_to n xs) (bytes_to n ys))

front_and_rest : (k : ℕ) (xs : Outputs) → take k xs ++ drop k xs ≡ xs
front_and_rest zero xs = refl
front_and_rest (suc k) [] = refl
front_and_rest (suc k) (x ∷ xs) = ap (λ (ys : Outputs). x ∷ ys) (front_and_rest k xs)

stands_or_not : (b : Bool) → (b ≡ true) ⊎ (b ≡ false)
stands_or_not true = inl refl
stands_or_not false = inr refl

not_both : (b : Bool) → b ≡ true → b ≡ false → ⊥
not_both true is not = cc
not_both false is not = cc

-- ---- one connection

-- where nothing is said: it is as it was, or stands no longer
pub silent : (x y : Wire) → y.number ≡ x.number → y.said ≡ x.said → (is_standing y.fate ≡ true → is_standing x.fate ≡ true) → IsSaid [] x y
silent x y number said stood = record {
  number = number;
  unsaid = [];
  said = ap (λ (o : Option (List ℕ)). and_then o []) (sym said);
  all = λ is. refl;
  stood = stood;
  still = λ not. said;
}

-- to one that doesn't stand nothing is said
unheard : (outputs : Outputs) (x y : Wire) → is_standing x.fate ≡ false → is_standing y.fate ≡ false → y.number ≡ x.number → y.said ≡ x.said
    → IsSaid outputs x y
unheard outputs x y was is number said = record {
  number = number;
  unsaid = bytes_to x.number outputs;
  said = ap (λ (o : Option (List ℕ)). and_then o (bytes_to x.number outputs)) (sym said);
  all = λ stands. absurd (not_both (is_standing y.fate) stands is);
  stood = λ stands. absurd (not_both (is_standing y.fate) stands is);
  still = λ not. said;
}

-- one after the other
pub said_then : (o p : Outputs) (x y z : Wire) → IsSaid o x y → IsSaid p y z → IsSaid (o ++ p) x z
said_then o p x y z first next = by (stands_or_not (is_standing y.fate))
  where
    n : ℕ
    n = x.number

    both : and_then x.said (bytes_to n (o ++ p)) ≡ and_then (and_then y.said first.unsaid) (bytes_to n p)
    both =
        ap (and_then x.said) (bytes_both n o p) ∙ and_then_more x.said (bytes_to n o) (bytes_to n p)
        ∙ ap (λ (t : Option (List ℕ)). and_then t (bytes_to n p)) first.said

    by : (is_standing y.fate ≡ true) ⊎ (is_standing y.fate ≡ false) → IsSaid (o ++ p) x z
    by (inl stands) = record {
      number = next.number ∙ first.number;
      unsaid = next.unsaid;
      said = both ∙ ap (λ (u : List ℕ). and_then (and_then y.said u) (bytes_to n p)) (first.all stands)
          ∙ ap (λ (t : Option (List ℕ)). and_then t (bytes_to n p)) (and_then_none y.said)
          ∙ ap (λ (k : ℕ). and_then y.said (bytes_to k p)) (sym first.number) ∙ next.said;
      all = next.all;
      stood = λ is. first.stood (next.stood is);
      still = λ not. absurd (not_both (is_standing x.fate) (first.stood stands) not);
    }
    by (inr gone) = record {
      number = next.number ∙ first.number;
      unsaid = first.unsaid ++ bytes_to n p;
      said = both ∙ sym (and_then_more y.said first.unsaid (bytes_to n p))
          ∙ ap (λ (t : Option (List ℕ)). and_then t (first.unsaid ++ bytes_to n p)) (sym (next.still gone));
      all = λ is. absurd (not_both (is_standing y.fate) (next.stood is) gone);
      stood = λ is. absurd (not_both (is_standing y.fate) (next.stood is) gone);
      still = λ not. next.still gone ∙ first.still not;
    }

-- what it hears was said to it
pub hears_said : (fate : Fate) (outputs : Outputs) (x y : Wire) → x.fate ≡ fate → Hears fate outputs x y → IsSaid outputs x y
hears_said Stands outputs x y is (inl e) = rw e (record {
  number = refl;
  unsaid = [];
  said = sym (and_then_none (and_then x.said (bytes_to x.number outputs)));
  all = λ stands. refl;
  stood = λ stands. ap is_standing is;
  still = λ not. absurd (not_both (is_standing x.fate) (ap is_standing is) not);
})
hears_said Stands outputs x y is (inr cut) =
    let front = bytes_to x.number (take cut.count outputs) in
    let rest = bytes_to x.number (drop cut.count outputs) in
    rw cut.is (record {
      number = refl;
      unsaid = rest;
      said = ap (λ (o : Outputs). and_then x.said (bytes_to x.number o)) (sym (front_and_rest cut.count outputs))
          ∙ ap (and_then x.said) (bytes_both x.number (take cut.count outputs) (drop cut.count outputs)) ∙ and_then_more x.said front rest;
      all = λ stands. cc;
      stood = λ stands. cc;
      still = λ not. absurd (not_both (is_standing x.fate) (ap is_standing is) not);
    })
hears_said Lost outputs x y is e = rw e (unheard outputs x x (ap is_standing is) (ap is_standing is) refl refl)
hears_said Closed outputs x y is e = rw e (unheard outputs x x (ap is_standing is) (ap is_standing is) refl refl)

-- one that closes, or is lost, is read, is written to, or lets go hears nothing
pub closing_said : (b : Bool) (x : Wire) → IsSaid [] x (cond b (record x { fate = Closed }) x)
closing_said true x = silent x (record x { fate = Closed }) refl refl (λ stands. cc)
closing_said false x = silent x x refl refl (λ stands. stands)

-- nor is anything said here
pub losing_said : (b : Bool) (x : Wire) → IsSaid [] x (cond b (lost x) x)
losing_said true x = silent x (lost x) refl refl (λ stands. cc)
losing_said false x = silent x x refl refl (λ stands. stands)

-- nor is anything said here
pub reads_said : (fate : Fate) (room : ℕ) (bytes : List ℕ) (x y : Wire) → Reads fate room bytes x y → IsSaid [] x y
reads_said Stands room bytes x y (inl e) = rw e (silent x _ refl refl (λ stands. stands))
reads_said Stands room bytes x y (inr e) = rw e.1 (silent x _ refl refl (λ stands. cc))
reads_said Lost room bytes x y e = rw e.1 (silent x x refl refl (λ stands. stands))
reads_said Closed room bytes x y e = rw e.1 (silent x x refl refl (λ stands. stands))

-- nor is anything said here
pub writes_said : (fate : Fate) (x y : Wire) → Writes fate x y → IsSaid [] x y
writes_said Stands x y (inl e) = subst (IsSaid [] x) (sym e) (silent x (writing y.waits x) refl refl (λ stands. stands))
writes_said Stands x y (inr e) = subst (IsSaid [] x) (sym e) (silent x (lost (ending (writing y.waits x))) refl refl (λ stands. cc))
writes_said Lost x y e = subst (IsSaid [] x) (sym e) (silent x x refl refl (λ stands. stands))
writes_said Closed x y (inl e) = subst (IsSaid [] x) (sym e) (silent x (writing y.waits x) refl refl (λ stands. stands))
writes_said Closed x y (inr e) = subst (IsSaid [] x) (sym e) (silent x (ending (writing y.waits x)) refl refl (λ stands. stands))

-- nor is anything said here
pub last_said : (fate : Fate) (x y : Wire) → WritesLast fate x y → IsSaid [] x y
last_said Stands x y e = rw e (silent x x refl refl (λ stands. stands))
last_said Lost x y e = rw e (silent x x refl refl (λ stands. stands))
last_said Closed x y h = writes_said Closed x y h

-- nor is anything said here
pub leaves_said : (fate : Fate) (x went y : Wire) → went.number ≡ x.number → went.said ≡ x.said → went.fate ≡ x.fate → Leaves fate went y → IsSaid [] x y
leaves_said fate x went y number said same leaves = by fate leaves
  where
    as_it_was : y ≡ went → IsSaid [] x y
    as_it_was e = rw e (silent x went number said (λ stands. ap is_standing (sym same) ∙ stands))

    ended : (fate : Fate) → Leaves fate went y → IsSaid [] x y
    ended Stands (inl e) = as_it_was e
    ended Stands (inr e) = silent x y (ap (λ (w : Wire). w.number) e ∙ number) (ap (λ (w : Wire). w.said) e ∙ said)
        (λ stands. absurd (not_both (is_standing y.fate) stands (ap (λ (w : Wire). is_standing w.fate) e)))
    ended Lost (inl e) = as_it_was e
    ended Lost (inr e) = silent x y (ap (λ (w : Wire). w.number) e ∙ number) (ap (λ (w : Wire). w.said) e ∙ said)
        (λ stands. ap is_standing (sym same) ∙ ap (λ (w : Wire). is_standing w.fate) (sym e) ∙ stands)
    ended Closed (inl e) = as_it_was e
    ended Closed (inr e) = silent x y (ap (λ (w : Wire). w.number) e ∙ number) (ap (λ (w : Wire). w.said) e ∙ said)
        (λ stands. ap is_standing (sym same) ∙ ap (λ (w : Wire). is_standing w.fate) (sym e) ∙ stands)

    by : (fate : Fate) → Leaves fate went y → IsSaid [] x y
    by = ended

-- ---- all connections

among_at : (k : ℕ) (x : Wire) (xs : List Wire) → slice_get xs k ≡ Some x → IsAmong x xs
among_at k x [] at = cc
among_at zero x (y ∷ xs) at = inl (some_same at)
  where
    some_same : {a b : Wire} → Some a ≡ Some b → a ≡ b
    some_same e = cc
among_at (suc k) x (y ∷ xs) at = inr (among_at k x xs at)

-- a member has a place, and at that place the other list has one too
pub record IsAt (x : Wire) (xs : List Wire) : Type 0 where
  pub place : ℕ
  pub at : slice_get xs place ≡ Some x
  pub within : place < length xs

at_among : (x : Wire) (xs : List Wire) → IsAmong x xs → IsAt x xs
at_among x [] h = absurd h
at_among x (y ∷ xs) (inl e) = record { place = 0; at = ap Some e; within = omega arith }
at_among x (y ∷ xs) (inr h) =
    let rest = at_among x xs h in
    let less = rest.within in
    record { place = suc rest.place; at = rest.at; within = omega (arith, less) }

there_too : (k : ℕ) (xs : List Wire) → k < length xs → (x : Wire) × (slice_get xs k ≡ Some x)
there_too k [] less = absurd (omega (arith, less))
there_too zero (x ∷ xs) less = (x, refl)
there_too (suc k) (x ∷ xs) less = there_too k xs (omega (arith, less))

module _ (outputs : Outputs) (R : Wire → Wire → Type 0) (one : (x y : Wire) → R x y → IsSaid outputs x y) where
  -- to connections that are related place by place
  pub related_said : (old new : List Wire) → Related R old new → AreSaid outputs old new
  related_said old new r w among =
      let here = at_among w new among in
      let less = here.within in
      let len = r.len in
      let within : here.place < length old = omega (arith, less, len) in
      let was = there_too here.place old within in
      inl (record { then = was.0; among = among_at here.place was.0 old was.1; said = one was.0 w (r.below here.place was.0 w within was.1 here.at) })

-- at one place alone, and nothing is said to any
pub at_said : (R : Wire → Wire → Type 0) → ((x y : Wire) → R x y → IsSaid [] x y) → (place : ℕ) (old new : List Wire) → RelatedAt R place old new
    → AreSaid [] old new
at_said R one place old new r w among =
    let here = at_among w new among in
    let less = here.within in
    let len = r.len in
    let within : here.place < length old = omega (arith, less, len) in
    let was = there_too here.place old within in
    elim (apart here.place) [
      | inl is ↦ inl (record {
        then = was.0;
        among = among_at here.place was.0 old was.1;
        said = one was.0 w (r.here was.0 w (subst (λ (k : ℕ). slice_get old k ≡ Some was.0) is was.1) (subst (λ (k : ℕ). slice_get new k ≡ Some w) is here.at));
      })
      | inr other ↦ inl (record {
        then = w;
        among = among_at here.place w old (sym (r.elsewhere here.place other) ∙ here.at);
        said = silent w w refl refl (λ stands. stands);
      })
    ]
  where
    apart : (k : ℕ) → (k ≡ place) ⊎ (k ≢ place)
    apart k = grind (arith)

-- nothing is done
pub still_said : (old : List Wire) → AreSaid [] old old
still_said old w among = inl (record { then = w; among = among; said = silent w w refl refl (λ stands. stands) })

one_kept : (b : Bool) (w x : Wire) (kept ws : List Wire) → (IsAmong w kept → IsAmong w ws) → IsAmong w (cond (not b) (x ∷ kept) kept) → IsAmong w (x ∷ ws)
one_kept true w x kept ws f h = inr (f h)
one_kept false w x kept ws f (inl e) = inl e
one_kept false w x kept ws f (inr h) = inr (f h)

kept_among : (w : Wire) (ws : List Wire) → IsAmong w (without_closed ws) → IsAmong w ws
kept_among w [] h = h
kept_among w (x ∷ ws) h = one_kept (is_closed x.fate) w x (without_closed ws) ws (kept_among w ws) h

-- some are dropped
pub dropped_said : (old : List Wire) → AreSaid [] old (without_closed old)
dropped_said old w among = still_said old w (kept_among w old among)

-- one after the other
pub all_said_then : (o p : Outputs) (a b c : List Wire) → AreSaid o a b → AreSaid p b c → AreSaid (o ++ p) a c
all_said_then o p a b c first next w among = by (next w among)
  where
    earlier : (y : Wire) → IsSaid p y w → IsSaidTo o a y → IsSaidTo (o ++ p) a w
    earlier y said (inl there) = inl (record { then = there.then; among = there.among; said = said_then o p there.then y w there.said said })
    earlier y said (inr come) = inr (record {
      before = come.before;
      behind = come.behind ++ p;
      are = ap (λ (xs : Outputs). xs ++ p) come.are ∙ append_assoc come.before come.behind p;
      number = come.number;
      then = come.then;
      opened = come.opened;
      said = said_then come.behind p come.then y w come.said said;
    })

    by : IsSaidTo p b w → IsSaidTo (o ++ p) a w
    by (inl there) = earlier there.then there.said (first there.then there.among)
    by (inr come) = inr (record {
      before = o ++ come.before;
      behind = come.behind;
      are = ap (λ (xs : Outputs). o ++ xs) come.are ∙ sym (append_assoc o come.before come.behind);
      number = come.number;
      then = come.then;
      opened = come.opened;
      said = come.said;
    })
