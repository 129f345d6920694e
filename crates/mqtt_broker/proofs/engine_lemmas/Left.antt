-- The lines that stand after a call: those before it without the ones that closed, and the one that was linked.
use Rattle.std.proofs.Common.{◌≡◌, ℕ, suc, Bool, cond, not, List, [], ◌∷◌, filter, map, nat_eq, refl, sym, ap, subst, ◌∙◌, inl, inr}
use Rattle.std.specs.Prelude.{filter_map, find, is_some}
use Rattle.std.proofs.lemmas.Bool.{cases_Bool}
use Rattle.mqtt_records.specs.declared.state.change.Change.{Change}
use Rattle.mqtt_records.specs.lists.Order.{IsBelow, has_row}
use Rattle.mqtt_rules.specs.declared.step.Capacity.{Capacity}
use Rattle.mqtt_rules.specs.step.Deeds.{Resume, Close, SetExpiry, DropWill, Subscribe, Unsubscribe, Open, Release, Enter, Mark, Leave, Part, LinePart, Hear, Greet, SetAlias, Went, Deed, Accept, Begin, Name, Count, At, Finish, Keep, Forget, RefuseWill, Link, On, Send, Gone, line_after, on_line, without_place, lines_at, after, after_all, closing, rows_of_all}
use Rattle.mqtt_rules.specs.step.Lines.{line_number}
use Rattle.mqtt_rules.specs.step.State.{Line, Broker, MemberChoice, is_of, line_at}
use Rattle.mqtt_rules.specs.step.Step.{Call, Outcome, BrokerStep, at_moment, deeds, stepped, told, with_moment, env_of}
use Rattle.mqtt_rules.proofs.step_lemmas.acts.Goods.{AreGood}
use Rattle.mqtt_rules.proofs.step_lemmas.numbers.NumberBirths.{below_filter}
use Rattle.mqtt_broker.specs.engine.Framers.{HeldLine, line_of}
use Rattle.mqtt_broker.specs.engine.Serving.{IsOfLines, has_closed, without_closed}
use Rattle.mqtt_broker.proofs.engine_lemmas.Unlinked.{IsUnlinked, IsOld, un_call}

-- ---- numbers without those of lines that closed

-- numbers without those of lines that closed
abbrev pub left : List ℕ → List ℕ → List ℕ
left closed ns = filter (λ n. not (has_closed closed n)) ns

-- if none closed, all are left
pub none_closed : (ns : List ℕ) → left [] ns ≡ ns
none_closed [] = refl
none_closed (n ∷ ns) = ap (λ ms. n ∷ ms) (none_closed ns)

-- one line more that closed
one_more : (n : ℕ) (closed ns : List ℕ) → left closed (filter (λ k. not (nat_eq k n)) ns) ≡ left (n ∷ closed) ns
one_more n closed [] = refl
one_more n closed (k ∷ ns) = elim (cases_Bool (nat_eq k n)) [
  | inl here ↦ rw here (one_more n closed ns)
  | inr other ↦ rw other (ap (λ ms. cond (not (has_closed closed k)) (k ∷ ms) ms) (one_more n closed ns))
]

-- kept by their keys
pub kept_keys : {X : Type 0} (key : X → ℕ) (test : ℕ → Bool) (xs : List X) → map key (filter (λ x. test (key x)) xs) ≡ filter test (map key xs)
kept_keys key test [] = refl
kept_keys key test (x ∷ xs) = elim (cases_Bool (test (key x))) [
  | inl stays ↦ rw stays (ap (λ ks. key x ∷ ks) (kept_keys key test xs))
  | inr goes ↦ rw goes (kept_keys key test xs)
]

mapped_keys : {X : Type 0} (key : X → ℕ) (f : X → X) (xs : List X) → ((x : X) → key (f x) ≡ key x) → map key (map f xs) ≡ map key xs
mapped_keys key f [] same = refl
mapped_keys key f (x ∷ xs) same = rw (same x) (ap (λ ks. key x ∷ ks) (mapped_keys key f xs same))

-- ---- what a deed leaves of the lines

abbrev numbers : Broker → List ℕ
numbers b = map line_number b.lines

same_number : (now : ℕ) (part : LinePart) (l : Line) → (line_after now part l).number ≡ l.number
same_number now Hear l = refl
same_number now (Greet birth keep_alive window largest most) l = refl
same_number now (SetAlias alias topic) l = refl
same_number now (Went place) l = refl

numbers_on : (now n : ℕ) (part : LinePart) (ls : List Line) → map line_number (on_line now n part ls) ≡ map line_number ls
numbers_on now n part [] = refl
numbers_on now n part (l ∷ ls) = elim (cases_Bool (nat_eq l.number n)) [
  | inl here ↦ rw here (ap (λ k. k ∷ map line_number ls) (same_number now part l))
  | inr other ↦ rw other (ap (λ ks. l.number ∷ ks) (numbers_on now n part ls))
]

number_without : (birth place : ℕ) (l : Line) → (without_place birth place l).number ≡ l.number
number_without birth place l = elim (cases_Bool (is_of l.session birth)) [ inl its ↦ rw its refl | inr other ↦ rw other refl ]

numbers_at : (birth : ℕ) (part : Part) (ls : List Line) → map line_number (lines_at birth part ls) ≡ map line_number ls
numbers_at birth (Leave e ending) ls = mapped_keys line_number (without_place birth e.place) ls (number_without birth e.place)
numbers_at birth (Resume expiry will) ls = refl
numbers_at birth (Close moment) ls = refl
numbers_at birth (SetExpiry expiry) ls = refl
numbers_at birth DropWill ls = refl
numbers_at birth (Subscribe s) ls = refl
numbers_at birth (Unsubscribe filter) ls = refl
numbers_at birth (Open id) ls = refl
numbers_at birth (Release id) ls = refl
numbers_at birth (Enter copy) ls = refl
numbers_at birth (Mark place phase) ls = refl

numbers_deed : (d : Deed) (ds : List Deed) (b : Broker) → IsUnlinked d b → left (filter_map closing ds) (numbers (after d b)) ≡ left (filter_map closing (d ∷ ds)) (numbers b)
numbers_deed (Link n) ds b un = absurd un
numbers_deed (On n part) ds b un = ap (left (filter_map closing ds)) (numbers_on b.now n part b.lines)
numbers_deed (Gone n) ds b un =
    ap (left (filter_map closing ds)) (kept_keys line_number (λ k. not (nat_eq k n)) b.lines) ∙ one_more n (filter_map closing ds) (numbers b)
numbers_deed (At who part) ds b un = ap (left (filter_map closing ds)) (numbers_at who.birth part b.lines)
numbers_deed (Accept number origin m) ds b un = refl
numbers_deed (Begin row will) ds b un = refl
numbers_deed (Name n) ds b un = refl
numbers_deed (Count n) ds b un = refl
numbers_deed (Finish who) ds b un = refl
numbers_deed (Keep kept) ds b un = refl
numbers_deed (Forget place) ds b un = refl
numbers_deed (RefuseWill who) ds b un = refl
numbers_deed (Send line packet) ds b un = refl

given_deed : (d : Deed) (b : Broker) → IsUnlinked d b → (after d b).given ≡ b.given
given_deed (Link n) b un = absurd un
given_deed d b un = refl

-- ---- what deeds leave

-- deeds that link no line leave those that they don't close
pub numbers_all : (ds : List Deed) (b : Broker) → AreGood IsUnlinked ds b → numbers (after_all ds b) ≡ left (filter_map closing ds) (numbers b)
numbers_all [] b un = sym (none_closed (numbers b))
numbers_all (d ∷ ds) b un = numbers_all ds (after d b) un.1 ∙ numbers_deed d ds b un.0

-- and no number is given
pub given_all : (ds : List Deed) (b : Broker) → AreGood IsUnlinked ds b → (after_all ds b).given ≡ b.given
given_all [] b un = refl
given_all (d ∷ ds) b un = given_all ds (after d b) un.1 ∙ given_deed d b un.0

-- to store the moment changes no line
pub moment_lines : (rows : List Change) (b : Broker) → (with_moment rows b).lines ≡ b.lines
moment_lines [] b = refl
moment_lines (row ∷ rows) b = refl

moment_given : (rows : List Change) (b : Broker) → (with_moment rows b).given ≡ b.given
moment_given [] b = refl
moment_given (row ∷ rows) b = refl

-- ---- what a step leaves

module _ (limits : Capacity) (choice : MemberChoice) (now : ℕ) (call : Call) (b : Broker) (old : IsOld call) where
  abbrev its : List Deed
  its = deeds limits choice now call b

  un : AreGood IsUnlinked its (at_moment now b)
  un = un_call (env_of limits choice b) call (at_moment now b) old

  -- a step leaves the lines of which it isn't told that they closed
  pub step_numbers : numbers (stepped limits choice now call b) ≡ left (told limits choice now call b).closed (numbers b)
  step_numbers = ap (map line_number) (moment_lines (rows_of_all its b.records) (after_all its (at_moment now b))) ∙ numbers_all its (at_moment now b) un

  -- and gives no number
  pub step_given : (stepped limits choice now call b).given ≡ b.given
  step_given = moment_given (rows_of_all its b.records) (after_all its (at_moment now b)) ∙ given_all its (at_moment now b) un

-- ---- what the lines hold

-- what is held goes with the lines that closed
pub held_left : (closed : List ℕ) (held : List HeldLine) → map line_of (without_closed closed held) ≡ left closed (map line_of held)
held_left closed held = kept_keys line_of (λ n. not (has_closed closed n)) held

-- at a later moment the lines that hold bytes are those that are linked
pub of_lines_moment : (now : ℕ) (held : List HeldLine) (b : Broker) → IsOfLines held b → IsOfLines held (at_moment now b)
of_lines_moment now held b h = record { linked = h.linked; given = h.given }

-- and so after a step, without those that it closed
pub of_lines_step : (limits : Capacity) (old : Broker) (now : ℕ) (call : Call) (out : Outcome) (new : Broker) (held : List HeldLine) → IsOld call
    → BrokerStep limits old now call out new → IsOfLines held old → IsOfLines (without_closed out.closed held) new
of_lines_step limits old now call out new held is s h =
    let closed = (told limits s.choice now call old).closed in
    let same : out.closed ≡ closed = ap (λ (o : Outcome). o.closed) s.out_is in
    subst (λ (b : Broker). IsOfLines (without_closed out.closed held) b) (sym s.new_is)
    (subst (λ (ns : List ℕ). IsOfLines (without_closed ns held) (stepped limits s.choice now call old)) (sym same) (record {
      linked = held_left closed held ∙ ap (left closed) h.linked ∙ sym (step_numbers limits s.choice now call old is);
      given =
          subst (λ (n : ℕ). IsBelow line_of (suc n) (without_closed closed held)) (sym (step_given limits s.choice now call old is))
          (below_filter line_of (suc old.given) (λ h. not (has_closed closed h.line)) held h.given);
    }))

-- ---- which lines are linked

has_line : (n : ℕ) (hs : List HeldLine) (ls : List Line) → map line_of hs ≡ map line_number ls → has_row line_of n hs ≡ is_some (find (λ (l : Line). nat_eq l.number n) ls)
has_line n [] [] e = refl
has_line n [] (l ∷ ls) e = absurd cc
has_line n (h ∷ hs) [] e = absurd cc
has_line n (h ∷ hs) (l ∷ ls) e =
    let first : h.line ≡ l.number = cc in
    let more : map line_of hs ≡ map line_number ls = cc in
    elim (cases_Bool (nat_eq l.number n)) [
      | inl here ↦ rw (first, here) refl
      | inr other ↦ rw (first, other) (has_line n hs ls more)
    ]

-- a line has a row of bytes exactly if it is linked
pub is_linked : (n : ℕ) (held : List HeldLine) (b : Broker) → IsOfLines held b → has_row line_of n held ≡ is_some (line_at n b)
is_linked n held b h = has_line n held b.lines h.linked
