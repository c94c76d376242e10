-- What is written one item after another.
use Rattle.std.proofs.Common.{◌≡◌, ◌<◌, ◌+◌, ◌++◌, ℕ, List, length, take, drop, get_or}
use Rattle.std.proofs.lemmas.List.{get_or_default}
use Rattle.std.specs.List.{flat_map}
use Rattle.ssb_reports.proofs.Rows.{flat_map-around}

pub next_text : {A : Type 0} (text : A → List ℕ) (items : List A) (i : ℕ) (d : A) → i < length items
    → flat_map text items ≡ flat_map text (take i items)
    ++ (text (get_or items i d) ++ flat_map text (drop (i + 1) items))
next_text text items i d within =
    flat_map-around text items i (get_or items i d) within (get_or_default items i d (get_or items i d) within)
