-- What an Ok says, and what was written in two parts.
use Rattle.std.proofs.Common.{◌∙◌, ap, ℕ, List, [], ◌++◌, Option, Some, None, Result, Ok, Err, OnOk}
use Rattle.std.proofs.lemmas.List.{append_assoc, append-nil}
use Rattle.std.specs.Io.KnownBytes.{Appends}
use Rattle.mqtt_serve.specs.serving.Announcing.{Announces, listening}

-- a fact that doesn't rest on the answer is one of Ok
pub always : {A E : Type 0} {P : Type 0} (r : Result A E) → P → OnOk r P
always (Ok x) p = p
always (Err e) p = tt

-- what follows from a fact of Ok is one too
pub further : {A E : Type 0} {P Q : Type 0} (r : Result A E) → (P → Q) → OnOk r P → OnOk r Q
further (Ok x) step p = step p
further (Err e) step p = tt

-- the line with the address, and then more
pub announced : (old mid new : Option (List ℕ)) (more : List ℕ) → Announces old mid [] → Appends mid new more → Announces old new more
announced None mid new more h k = record { address = h.address; wrote = tt }
announced (Some xs) None new more h k = absurd h.wrote
announced (Some xs) (Some ys) None more h k = absurd k
announced (Some xs) (Some ys) (Some zs) more h k =
    let line = ap (λ (l : List ℕ). xs ++ l) (append-nil (listening h.address)) in
    record {
      address = h.address;
      wrote = k ∙ ap (λ (l : List ℕ). l ++ more) (h.wrote ∙ line) ∙ append_assoc xs (listening h.address) more;
    }
