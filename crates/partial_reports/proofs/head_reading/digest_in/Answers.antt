use Rattle.std.proofs.Common.{◌∙◌, ap, List, ℕ}
use Rattle.std.specs.Result.{result_ok}
use Rattle.hex.specs.Hex.{decode_sized, encode_lower}
use Rattle.hex.proofs.HexLemmas.{decode_sized-encode_lower}
use Rattle.partial_reports.proofs.head_reading.digest_in.Goals as goal

pub returns-in_err-digits : goal.returns-in_err-digits
returns-in_err-digits c = λ digest is e. absurd (c.in_err-digits.ensures.begins (encode_lower digest) e)

pub returns : goal.returns
returns c =
    λ digest is e. c.ok.ensures.value
    ∙ ap result_ok
    (c.from_hex.ensures
    ∙ ap (λ (l : List ℕ). decode_sized l 32) (c.in_ok-digits.ensures.begins (encode_lower digest) e)
    ∙ decode_sized-encode_lower digest 32 is.size is.bytes)
