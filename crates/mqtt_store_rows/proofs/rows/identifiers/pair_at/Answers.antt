use Rattle.std.proofs.Common.{◌≡◌, ◌<◌, ◌^◌, ℕ, List, ◌∷◌, ◌++◌, drop, sym, ap, ◌∙◌, arith}
use Rattle.std.specs.Prelude.{Result, Ok, Err}
use Rattle.mqtt_base.specs.Reading.{varint_at}
use Rattle.mqtt_base.specs.Values.{varint}
use Rattle.mqtt_base.specs.declared.fault.ReadFault.{ReadFault}
use Rattle.mqtt_base.proofs.Varints.{varint_rereads}
use Rattle.mqtt_store_rows.proofs.rows_lemmas.PairLemmas.{pair_is}
use Rattle.mqtt_store_rows.proofs.rows.identifiers.pair_at.Goals as goal

-- what is read behind the first byte of a pair
read_again : (bytes behind rest : List ℕ) (first n : ℕ) → bytes ≡ first ∷ behind → bytes ≡ 11 ∷ (varint n ++ rest) → n < 2 ^ 28 → varint_at behind ≡ Ok (n, rest)
read_again bytes behind rest first n parts is less =
    let same : behind ≡ varint n ++ rest = cc in
    ap varint_at same ∙ varint_rereads n rest less

abbrev read_number : Result (ℕ × List ℕ) ReadFault → ℕ
read_number (Ok x) = x.0
read_number (Err fault) = 0

same_read : (n m : ℕ) (xs ys : List ℕ) (r : Result (ℕ × List ℕ) ReadFault) → r ≡ Ok (n, xs) → r ≡ Ok (m, ys) → n ≡ m
same_read n m xs ys r h k = ap read_number (sym h ∙ k)

not_read : (n : ℕ) (xs : List ℕ) (e : ReadFault) (r : Result (ℕ × List ℕ) ReadFault) → r ≡ Ok (n, xs) → r ≡ Err e → ⊥
not_read n xs e r h k = let both : Ok (n, xs) ≡ Err e = sym h ∙ k in absurd cc

pub returns-then-identifier-eq0 : goal.returns-then-identifier-eq0
returns-then-identifier-eq0 c n rest is range =
    let again = read_again c.args.bytes.now c.in_ok-first.rest.now rest c.in_ok-first.first.now n c.in_ok-first.ensures.cases.0 is range.1 in
    let same : n ≡ c.in-Ok.identifier = same_read n c.in-Ok.identifier rest (drop c.in-Ok.taken c.in_ok-first.rest.now) (varint_at c.in_ok-first.rest.now) again c.in-Ok.ensures.exact.1 in
    let none = c.if-identifier-eq0.true in
    let some = range.0 in
    absurd (omega (arith, same, none, some))

pub returns-else-identifier-eq0 : goal.returns-else-identifier-eq0
returns-else-identifier-eq0 c =
    let other = c.if-identifier-eq0.false in (
      pair_is c.args.bytes.now c.in_ok-first.rest.now c.in_ok-first.first.now c.in-Ok.identifier c.in-Ok.taken c.in_ok-first.ensures.cases.0 (c.if-first-id.false ∙ c.id.ensures.exact) c.in-Ok.ensures.exact.0 c.in-Ok.ensures.found,
      (omega (arith, other), c.in-Ok.ensures.below),
    )

pub returns-in-Err : goal.returns-in-Err
returns-in-Err c n rest is range =
    let again = read_again c.args.bytes.now c.in_ok-first.rest.now rest c.in_ok-first.first.now n c.in_ok-first.ensures.cases.0 is range.1 in
    not_read n rest c.in-Err.field-0 (varint_at c.in_ok-first.rest.now) again c.in-Err.ensures.exact
