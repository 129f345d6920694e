-- A copy that is put and then comes into a phase is put in it.
use Rattle.std.proofs.Common.{◌≡◌, ℕ, ◌-◌, true, List, [], ◌∷◌, ◌++◌, length, take, get_or, refl, sym, ap, subst, ◌∙◌, append_assoc, arith, length-append}
use Rattle.std.specs.Prelude.{slice_set}
use Rattle.mqtt_base.specs.declared.session.Phase.{Phase}
use Rattle.mqtt_records.specs.declared.state.change.Change.{Change}
use Rattle.mqtt_records.specs.declared.state.change.Change.TheVariants.{PutCopy, SetCopy}
use Rattle.mqtt_records.specs.declared.state.records.Records.{Records}
use Rattle.mqtt_records.specs.messages.Queue.{CopyRow}
use Rattle.mqtt_records.specs.state.Contents.{FitContents}
use Rattle.mqtt_records.specs.state.Records.{FitAll, changed, changed_all}
use Rattle.mqtt_records.specs.state.Session.{in_phase}
use Rattle.mqtt_serve.specs.declared.gathered.counts.Counts.{Counts}
use Rattle.mqtt_serve.specs.gathered.Counting.{AllRise, with_counts}
use Rattle.mqtt_serve.specs.gathered.Gathering.{Holding}
use Rattle.mqtt_serve.specs.gathered.Joining.{AllApart, IsPutAt, IsSentAt, Puts, StandFor, is_apart, put_in}
use Rattle.mqtt_serve.proofs.gathered_lemmas.Joined.{all_joined, contents_first, fit_parted, sayable_first}
use Rattle.mqtt_serve.proofs.gathered_lemmas.Phases.{all_fit, all_pass, all_said, put_sent, put_sent_fits}

-- ---- what stands for what

-- changes stand for themselves
pub themselves : (cs : List Change) → StandFor cs cs
themselves cs = record { fit = λ r f. f; sayable = λ f. f; contents = λ r f s. s; made = λ r f. refl }

-- what stands for what stands for changes stands for these
pub stand_then : (cs ds es : List Change) → StandFor cs ds → StandFor ds es → StandFor cs es
stand_then cs ds es m n = record {
  fit = λ r f. n.fit r (m.fit r f);
  sayable = λ f. n.sayable (m.sayable f);
  contents = λ r f s. n.contents r (m.fit r f) (m.contents r f s);
  made = λ r f. n.made r (m.fit r f) ∙ m.made r f;
}

-- behind the same changes too
stand_behind : (xs cs ds : List Change) → StandFor cs ds → StandFor (xs ++ cs) (xs ++ ds)
stand_behind [] cs ds m = m
stand_behind (x ∷ xs) cs ds m =
    let rest = stand_behind xs cs ds m in record {
      fit = λ r f. (f.0, rest.fit (changed x r) f.1);
      sayable = λ f. (f.0, rest.sayable f.1);
      contents = λ r f s. (s.0, rest.contents (changed x r) f.1 s.1);
      made = λ r f. rest.made (changed x r) f.1;
    }

-- a copy put in a phase stands for one that is put, and comes into it behind changes that have no part in it
put_as_sent : (birth place : ℕ) (phase : Phase) (row : CopyRow) (ys : List Change) → row.place ≡ place → AllApart birth place ys
    → StandFor (PutCopy birth row ∷ (ys ++ SetCopy birth place phase ∷ [])) (PutCopy birth (in_phase phase row) ∷ ys)
put_as_sent birth place phase row ys is apart =
    let set : List Change = SetCopy birth place phase ∷ [] in
    record {
      fit = λ r f.
          let parts = fit_parted ys set (changed (PutCopy birth row) r) f.1 in (
            put_sent_fits birth place phase row r f.0 parts.1.0.1,
            subst (FitAll ys) (put_sent birth place phase row r is f.0) (all_fit birth place phase ys (changed (PutCopy birth row) r) apart parts.0),
          );
      sayable = λ f. (f.0, sayable_first ys set f.1);
      contents = λ r f s. (
        s.0,
        subst (FitContents ys) (put_sent birth place phase row r is f.0)
            (all_said birth place phase ys (changed (PutCopy birth row) r) apart (contents_first ys set (changed (PutCopy birth row) r) s.1)),
      );
      made = λ r f.
          ap (changed_all ys) (sym (put_sent birth place phase row r is f.0))
          ∙ (sym (all_pass birth place phase ys (changed (PutCopy birth row) r) apart)
          ∙ sym (all_joined ys set (changed (PutCopy birth row) r)));
    }

-- ---- places in a list

take_front : {X : Type 0} (xs ys : List X) → take (length xs) (xs ++ ys) ≡ xs
take_front [] ys = refl
take_front (x ∷ xs) ys = ap (λ (zs : List _). x ∷ zs) (take_front xs ys)

all_but_last : {X : Type 0} (xs : List X) (x : X) → take (length (xs ++ x ∷ []) - 1) (xs ++ x ∷ []) ≡ xs
all_but_last xs x =
    let len = length-append xs (x ∷ []) in
    let one : length (x ∷ []) ≡ 1 = refl in
    let less : length (xs ++ x ∷ []) - 1 ≡ length xs = omega (arith, len, one) in
    ap (λ n. take n (xs ++ x ∷ [])) less ∙ take_front xs (x ∷ [])

get_there : {X : Type 0} (xs ys : List X) (x d : X) → get_or (xs ++ x ∷ ys) (length xs) d ≡ x
get_there [] ys x d = refl
get_there (y ∷ xs) ys x d = get_there xs ys x d

set_there : {X : Type 0} (xs ys : List X) (x d : X) → slice_set (xs ++ x ∷ ys) (length xs) d ≡ xs ++ d ∷ ys
set_there [] ys x d = refl
set_there (y ∷ xs) ys x d = ap (λ (zs : List _). y ∷ zs) (set_there xs ys x d)

-- ---- the last change is taken into an earlier one

-- the list without it has what came before it
left_is : (old popped : List Change) (at : ℕ) (phase : Phase) (sent : IsSentAt old at phase) → popped ≡ take (length old - 1) old → popped ≡ sent.earlier
left_is old popped at phase sent left = left ∙ (ap (λ (cs : List Change). take (length cs - 1) cs) sent.made ∙ all_but_last sent.earlier (SetCopy sent.birth sent.place phase))

-- with the copy put in the phase it stands for the list before
pub joined_at : (old popped : List Change) (at : ℕ) (phase : Phase) (was now : Change) → IsSentAt old at phase → popped ≡ take (length old - 1) old → was ≡ get_or popped at was → now ≡ put_in phase was
    → StandFor old (slice_set popped at now)
joined_at old popped at phase was now sent left there is =
    let put = sent.put in
    let set : List Change = SetCopy sent.birth sent.place phase ∷ [] in
    let it : Change = PutCopy sent.birth put.row in
    let whole : popped ≡ put.before ++ it ∷ put.behind = left_is old popped at phase sent left ∙ put.made in
    let got : was ≡ it = there
    ∙ (ap (λ n. get_or popped n was) put.there
    ∙ (ap (λ (cs : List Change). get_or cs (length put.before) was) whole ∙ get_there put.before put.behind it was)) in
    let now_is : now ≡ PutCopy sent.birth (in_phase phase put.row) = is ∙ ap (put_in phase) got in
    let made : slice_set popped at now ≡ put.before ++ PutCopy sent.birth (in_phase phase put.row) ∷ put.behind = ap (λ (cs : List Change). slice_set cs at now) whole
    ∙ (ap (λ n. slice_set (put.before ++ it ∷ put.behind) n now) put.there
    ∙ (set_there put.before put.behind it now ∙ ap (λ (c : Change). put.before ++ c ∷ put.behind) now_is)) in
    let from : old ≡ put.before ++ it ∷ (put.behind ++ set) = sent.made ∙ (ap (λ (cs : List Change). cs ++ set) put.made ∙ append_assoc put.before (it ∷ put.behind) set) in
    subst (λ (cs : List Change). StandFor cs (slice_set popped at now)) (sym from)
    (subst (StandFor (put.before ++ it ∷ (put.behind ++ set))) (sym made)
    (stand_behind put.before (it ∷ (put.behind ++ set)) (PutCopy sent.birth (in_phase phase put.row) ∷ put.behind)
    (put_as_sent sent.birth sent.place phase put.row put.behind put.placed put.apart)))

-- ---- a look back

-- the changes behind have no part in the copy
pub record AreBehind (birth place : ℕ) (changes rest : List Change) : Type 0 where
  pub behind : List Change
  pub made : changes ≡ rest ++ behind
  pub apart : AllApart birth place behind

append_none : {X : Type 0} (xs : List X) → xs ++ [] ≡ xs
append_none [] = refl
append_none (x ∷ xs) = ap (λ (zs : List _). x ∷ zs) (append_none xs)

-- none is behind all
pub none_behind : (birth place : ℕ) (changes : List Change) → AreBehind birth place changes changes
none_behind birth place changes = record { behind = []; made = sym (append_none changes); apart = tt }

-- one more is behind
pub one_behind : (birth place : ℕ) (changes rest before : List Change) (c : Change) → AreBehind birth place changes rest → rest ≡ before ++ c ∷ [] → is_apart birth place c ≡ true → AreBehind birth place changes before
one_behind birth place changes rest before c h last apart = record {
  behind = c ∷ h.behind;
  made = h.made ∙ (ap (λ (cs : List Change). cs ++ h.behind) last ∙ append_assoc before (c ∷ []) h.behind);
  apart = (apart, h.apart);
}

-- the next one puts the copy
pub put_behind : (birth place : ℕ) (changes rest before : List Change) (c : Change) (at : ℕ) → AreBehind birth place changes rest → rest ≡ before ++ c ∷ [] → Puts birth place c → at ≡ length before
    → IsPutAt birth place changes at
put_behind birth place changes rest before c at h last puts there = record {
  before = before;
  row = puts.row;
  behind = h.behind;
  made = h.made ∙ (ap (λ (cs : List Change). cs ++ h.behind) last ∙ (append_assoc before (c ∷ []) h.behind ∙ ap (λ (d : Change). before ++ d ∷ h.behind) puts.is));
  there = there;
  placed = puts.placed;
  apart = h.apart;
}

-- ---- what is gathered

-- what waits may be any list that stands for it
pub stands_for : {K : Type 0} (holds : K → Records → Type 0) (keep : K) (old new : List Change) (counts : Counts) (r : Records) → StandFor old new → Holding holds keep old counts r → Holding holds keep new counts r
stands_for holds keep old new counts r m h =
    let same = m.made h.start h.fit in record {
      start = h.start;
      has = h.has;
      fit = m.fit h.start h.fit;
      sayable = m.sayable h.sayable;
      contents = m.contents h.start h.fit h.contents;
      rise = subst (AllRise counts) (sym same) h.rise;
      made = h.made ∙ ap (with_counts counts) (sym same);
    }
