-- A text that is put together from its parts. Our own.
use Rattle.std.proofs.Common.{◌≡◌, ℕ, ◌+◌, ◌≤◌, List, [], ◌++◌, Option, Some, None, length, take, drop, option_map}
use Rattle.std.proofs.Common.{refl, sym, ap, ◌∙◌, arith}
use Rattle.std.proofs.lemmas.List.{take_all}
use Rattle.std.proofs.Math.Seq.{take-add}
use Rattle.wire.specs.Parts.{Gives}

-- before the first part
pub no_part : (text : Option (List ℕ)) (total : ℕ) → Some total ≡ option_map length text
    → option_map (take 0) text ≡ Some []
no_part None total has = cc
no_part (Some bytes) total has = refl

-- one part more
pub part_more : (text : Option (List ℕ)) (at n : ℕ) (out part : List ℕ) → option_map (take at) text ≡ Some out
    → Gives text at part → length part ≡ n
    → option_map (take (at + n)) text ≡ Some (out ++ part)
part_more None at n out part so_far gives many = cc
part_more (Some bytes) at n out part so_far gives many =
    let before : take at bytes ≡ out = cc in
    let last : take n (drop at bytes) ≡ part = ap (λ (k : ℕ). take k (drop at bytes)) (sym many) ∙ sym gives in
    ap Some (take-add at n bytes ∙ ap (λ (front : List ℕ). front ++ take n (drop at bytes)) before
    ∙ ap (λ (back : List ℕ). out ++ back) last)

-- after the last part
pub all_parts : (text : Option (List ℕ)) (total at : ℕ) (out : List ℕ) → Some total ≡ option_map length text
    → total ≤ at
    → option_map (take at) text ≡ Some out → Some out ≡ text
all_parts None total at out has past so_far = cc
all_parts (Some bytes) total at out has past so_far =
    let many : total ≡ length bytes = cc in
    let whole : take at bytes ≡ bytes = take_all at bytes (omega (arith, many)) in
    sym so_far ∙ ap Some whole
