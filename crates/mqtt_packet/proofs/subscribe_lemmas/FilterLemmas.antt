-- A filter that is read is the filter that was written, and what was written is read again.
use Rattle.std.proofs.Common.{◌≡◌, ℕ, List, ◌++◌, length, Ok, ap, arith}
use Rattle.std.proofs.lemmas.List.{length-append}
use Rattle.mqtt_base.specs.Values.{two_bytes, blob, FitsText}
use Rattle.mqtt_base.specs.Reading.{text_at}
use Rattle.mqtt_base.proofs.Steps.{IsBytes, Takes}
use Rattle.mqtt_base.proofs.Fields.{text_takes, text_again}
use Rattle.mqtt_base.proofs.Items.{Reads}
use Rattle.mqtt_packet.specs.parts.Reading.{malformed}
use Rattle.mqtt_packet.specs.subscribe.Filters.{filter_at}
use Rattle.mqtt_packet.proofs.parts_lemmas.Parts.{malformed_ok}

filter_takes : (bytes : List ℕ) (x : List ℕ × List ℕ) → IsBytes bytes → filter_at bytes ≡ Ok x → Takes bytes (blob x.0) x.1 × FitsText x.0
unfolding filter_at
filter_takes bytes x fits e =
    let t = text_takes bytes x fits (malformed_ok (text_at bytes) x e) in
    (t.0, (t.1, t.2))

filter_again : (f rest : List ℕ) → FitsText f → filter_at (blob f ++ rest) ≡ Ok (f, rest)
unfolding filter_at
filter_again f rest h = ap malformed (text_again f rest h.0 h.1)

-- a filter is read as it is written
pub filter_reads : Reads filter_at blob FitsText
filter_reads = record {
  takes = filter_takes;
  again = filter_again;
  some = λ f. omega (arith, length-append (two_bytes (length f)) f);
}
