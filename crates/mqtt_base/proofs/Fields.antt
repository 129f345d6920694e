-- A field that is read is the field that was written, and what was written is read again.
use Rattle.std.proofs.Common.{◌≡◌, ℕ, ◌^◌, ◌<◌, ◌≤◌, true, false, cond, ltb, List, [], ◌∷◌, ◌++◌, length, take, drop, Result, Ok, Err, IfOk, refl, sym, ap, subst, ◌∙◌, arith}
use Rattle.std.specs.Int.{Width, w16, w32, byte_len, from_be_bytes, to_be_bytes}
use Rattle.std.proofs.lemmas.Bool.{ltb-false, le-ltb}
use Rattle.std.proofs.lemmas.List.{take_at, drop_at, take-append-drop, length-append, length-take}
use Rattle.std.proofs.lemmas.Nat.{be_bytes_2, be_bytes_4, from_be_bytes-to_be_bytes_2, from_be_bytes-to_be_bytes_4}
use Rattle.mqtt_base.specs.declared.fault.ReadFault.{ReadFault}
use Rattle.mqtt_base.specs.declared.fault.ReadFault.TheVariants.{Short, BadText}
use Rattle.mqtt_base.specs.Values.{two_bytes, blob, is_text, FitsText, IsBinary, IsText}
use Rattle.mqtt_base.specs.Reading.{Reads, u8_at, number_at, blob_at, text_at}
use Rattle.mqtt_base.proofs.Steps.{IsBytes, IsBytes-drop, IsBytes-take, IsBytes-rest, bind_ok, unless_ok, when_ok, ok_is, Takes, Takes-then, front_is}

-- numbers below the limit go into so many bytes and back, and so many bytes into a number and back
pub record IsWide (w : Width) (limit : ℕ) : Type 0 where
  pub len : (n : ℕ) → length (to_be_bytes w n) ≡ byte_len w
  pub back : (bytes : List ℕ) → length bytes ≡ byte_len w → IsBytes bytes → to_be_bytes w (from_be_bytes w bytes) ≡ bytes
  pub again : (n : ℕ) → n < limit → from_be_bytes w (to_be_bytes w n) ≡ n
  pub below : (bytes : List ℕ) → IsBytes bytes → from_be_bytes w bytes < limit

-- two bytes hold numbers below 2^16
pub wide16 : IsWide w16 (2 ^ 16)
wide16 = record {
  len = λ n. refl;
  back = λ bytes len fits. be_bytes_2 bytes _ len fits refl;
  again = λ n lt. from_be_bytes-to_be_bytes_2 n lt;
  below = λ bytes fits. omega (arith, fits 0, fits 1);
}

-- four bytes hold numbers below 2^32
pub wide32 : IsWide w32 (2 ^ 32)
wide32 = record {
  len = λ n. refl;
  back = λ bytes len fits. be_bytes_4 bytes _ len fits refl;
  again = λ n lt. from_be_bytes-to_be_bytes_4 n lt;
  below = λ bytes fits. omega (arith, fits 0, fits 1, fits 2, fits 3);
}

-- a number that was read is the bytes that were taken
pub number_takes : (w : Width) (limit : ℕ) (wide : IsWide w limit) (bytes : List ℕ) (x : ℕ × List ℕ) → IsBytes bytes → number_at w bytes ≡ Ok x → Takes bytes (to_be_bytes w x.0) x.1 × (x.0 < limit)
number_takes w limit wide bytes x fits e =
    let made : ℕ × List ℕ = (from_be_bytes w (take (byte_len w) bytes), drop (byte_len w) bytes) in
    let g = unless_ok (ltb (length bytes) (byte_len w)) Short (Ok made) x e in
    let long : byte_len w ≤ length bytes = ltb-false _ _ g.0 in
    let front : to_be_bytes w made.0 ≡ take (byte_len w) bytes = wide.back (take (byte_len w) bytes) (omega (arith, length-take (byte_len w) bytes)) (IsBytes-take (byte_len w) bytes fits) in
    subst (λ (y : ℕ × List ℕ). Takes bytes (to_be_bytes w y.0) y.1 × (y.0 < limit)) (ok_is made x g.1)
    (record { parts = rw front (sym (take-append-drop (byte_len w) bytes)); rest_fits = IsBytes-drop (byte_len w) bytes fits }, wide.below (take (byte_len w) bytes) (IsBytes-take (byte_len w) bytes fits))

-- a number that was written is read back
pub number_again : (w : Width) (limit : ℕ) (wide : IsWide w limit) (n : ℕ) (rest : List ℕ) → n < limit → number_at w (to_be_bytes w n ++ rest) ≡ Ok (n, rest)
number_again w limit wide n rest lt =
    let len = wide.len n in
    let long : ltb (length (to_be_bytes w n ++ rest)) (byte_len w) ≡ false = le-ltb _ _ (omega (arith, length-append (to_be_bytes w n) rest)) in
    rw (long, take_at (to_be_bytes w n) rest (byte_len w) len, drop_at (to_be_bytes w n) rest (byte_len w) len, wide.again n lt) refl

-- ---- binary and text

-- binary data that was read is the bytes that were taken
pub blob_takes : (bytes : List ℕ) (x : List ℕ × List ℕ) → IsBytes bytes → blob_at bytes ≡ Ok x → Takes bytes (blob x.0) x.1 × (length x.0 < 2 ^ 16)
unfolding blob_at
blob_takes bytes x fits e =
    let b = bind_ok (number_at w16 bytes) (λ n. cond (ltb (length n.1) n.0) (Err Short) (Ok (take n.0 n.1, drop n.0 n.1))) x e in
    let n = b.0 in
    let t = number_takes w16 (2 ^ 16) wide16 bytes n fits b.1 in
    let made : List ℕ × List ℕ = (take n.0 n.1, drop n.0 n.1) in
    let g = unless_ok (ltb (length n.1) n.0) Short (Ok made) x b.2 in
    let long : n.0 ≤ length n.1 = ltb-false _ _ g.0 in
    let len : length (take n.0 n.1) ≡ n.0 = omega (arith, length-take n.0 n.1) in
    let second : Takes n.1 (take n.0 n.1) (drop n.0 n.1) = record { parts = sym (take-append-drop n.0 n.1); rest_fits = IsBytes-drop n.0 n.1 t.0.rest_fits } in
    let both = Takes-then bytes (two_bytes n.0) n.1 (take n.0 n.1) (drop n.0 n.1) t.0 second in
    let whole : Takes bytes (blob (take n.0 n.1)) (drop n.0 n.1) = subst (λ (k : ℕ). Takes bytes (two_bytes k ++ take n.0 n.1) (drop n.0 n.1)) (sym len) both in
    subst (λ (p : List ℕ × List ℕ). Takes bytes (blob p.0) p.1 × (length p.0 < 2 ^ 16)) (ok_is made x g.1) (whole, omega (arith, t.1))

-- binary data that was written is read back
pub blob_again : (text rest : List ℕ) → length text < 2 ^ 16 → blob_at (blob text ++ rest) ≡ Ok (text, rest)
unfolding blob_at
blob_again text rest lt =
    let long : ltb (length (text ++ rest)) (length text) ≡ false = le-ltb _ _ (omega (arith, length-append text rest)) in
    rw (number_again w16 (2 ^ 16) wide16 (length text) (text ++ rest) lt, long, take_at text rest (length text) refl, drop_at text rest (length text) refl) refl

-- a text that was read is the bytes that were taken
pub text_takes : (bytes : List ℕ) (x : List ℕ × List ℕ) → IsBytes bytes → text_at bytes ≡ Ok x → Takes bytes (blob x.0) x.1 × (length x.0 < 2 ^ 16) × (is_text x.0 ≡ true)
unfolding text_at
text_takes bytes x fits e =
    let b = bind_ok (blob_at bytes) (λ t. cond (is_text t.0) (Ok t) (Err BadText)) x e in
    let t = blob_takes bytes b.0 fits b.1 in
    let g = when_ok (is_text b.0.0) BadText (Ok b.0) x b.2 in
    subst (λ (p : List ℕ × List ℕ). Takes bytes (blob p.0) p.1 × (length p.0 < 2 ^ 16) × (is_text p.0 ≡ true)) (ok_is b.0 x g.1) (t.0, t.1, g.0)

-- a text that was written is read back
pub text_again : (text rest : List ℕ) → length text < 2 ^ 16 → is_text text ≡ true → text_at (blob text ++ rest) ≡ Ok (text, rest)
unfolding text_at
text_again text rest lt good = rw (blob_again text rest lt, good) refl

-- ---- one byte

-- a byte that was read is the byte that was taken
pub byte_takes : (bytes : List ℕ) (x : ℕ × List ℕ) → IsBytes bytes → u8_at bytes ≡ Ok x → Takes bytes (x.0 ∷ []) x.1 × (x.0 < 256)
byte_takes [] x fits e = absurd cc
byte_takes (b ∷ bytes) x fits e =
    subst (λ (y : ℕ × List ℕ). Takes (b ∷ bytes) (y.0 ∷ []) y.1 × (y.0 < 256)) (ok_is (b, bytes) x e) (record { parts = refl; rest_fits = IsBytes-rest b bytes fits }, fits 0)

-- what a function that reads so many bytes has read
pub text_is : (bytes text : List ℕ) (n : ℕ) → IsBytes bytes → n ≤ length bytes → text_at bytes ≡ Ok (text, drop n bytes) → FitsText text × (take n bytes ≡ blob text)
text_is bytes text n fits le e =
    let t = text_takes bytes (text, drop n bytes) fits e in
    ((t.1, t.2), sym (front_is bytes (blob text) n le t.0.parts))

-- a text that was read fits its field, and what was taken spells it
pub text_was : {X : Type 0} (view : X → List ℕ) (bytes : List ℕ) (r : Result (X × ℕ) ReadFault) → IsBytes bytes → Reads view r bytes (text_at bytes) → IfOk r (λ x. FitsText (view x.0) × (take x.1 bytes ≡ blob (view x.0)))
text_was {X} view bytes (Ok x) fits read = text_is bytes (view x.0) x.1 fits read.0 read.1
text_was {X} view bytes (Err e) fits read = tt

-- binary data that was read fits its field, and what was taken spells it
pub blob_was : {X : Type 0} (view : X → List ℕ) (bytes : List ℕ) (r : Result (X × ℕ) ReadFault) → IsBytes bytes → Reads view r bytes (blob_at bytes) → IfOk r (λ x. IsBinary (view x.0) (take x.1 bytes))
blob_was {X} view bytes (Ok x) fits read =
    let t = blob_takes bytes (view x.0, drop x.1 bytes) fits read.1 in
    (t.1, sym (front_is bytes (blob (view x.0)) x.1 read.0 t.0.parts))
blob_was {X} view bytes (Err e) fits read = tt

-- what is spelled so is read
pub binary_again : (d v rest : List ℕ) → IsBinary d v → blob_at (v ++ rest) ≡ Ok (d, rest)
binary_again d v rest is = ap (λ (b : List ℕ). blob_at (b ++ rest)) is.1 ∙ blob_again d rest is.0

-- a text in any spelling is read back
pub spelled_again : (t v rest : List ℕ) → IsText t v → text_at (v ++ rest) ≡ Ok (t, rest)
spelled_again t v rest is = ap (λ (b : List ℕ). text_at (b ++ rest)) is.1 ∙ text_again t rest is.0.0 is.0.1
