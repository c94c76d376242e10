use Rattle.std.proofs.Common.{◌≡◌, ◌<◌, ℕ, List, [], length, get_or, arith, sym, ap, ◌∙◌}
use Rattle.dictionary.specs.Columns.{text_of_code}
use Rattle.column_segment.specs.Decoded.{codes_in}
use Rattle.column_segment.proofs.Parts.{at-map, code_at, is_text, length_codes, no_text}
use Rattle.column_segment.proofs.rows.text_at.Goals as goal

pub unreachable-requires : goal.unreachable-requires
unreachable-requires c =
    let codes : List ℕ = codes_in c.args.bytes.now c.args.rows c.args.coded.now.at in
    let code : c.from_le_bytes-code.result ≡ get_or codes c.args.row 0 =
    code_at c.args.bytes.now c.args.rows c.args.coded.now.at c.args.row _ _ _ _ c.requires.within
    c.split_at.ensures.back c.split_at-2.ensures.front c.split_at-2.ensures.front_len c.as_chunks.ensures.front
    c.from_le_bytes-code.ensures in
    let below =
    c.requires.codes.below c.args.row 0
    (omega (arith, length_codes c.args.bytes.now c.args.rows c.args.coded.now.at, c.requires.within)) in
    no_text c.args.coded.now.texts.texts c.from.result (omega (arith, c.from.ensures, code, below))
    c.in-None.ensures.text

pub returns-clause-ok : goal.returns-clause-ok
returns-clause-ok c =
    let texts : List (List ℕ) = c.args.coded.now.texts.texts in
    let codes : List ℕ = codes_in c.args.bytes.now c.args.rows c.args.coded.now.at in
    let code : c.from_le_bytes-code.result ≡ get_or codes c.args.row 0 =
    code_at c.args.bytes.now c.args.rows c.args.coded.now.at c.args.row _ _ _ _ c.requires.within
    c.split_at.ensures.back c.split_at-2.ensures.front c.split_at-2.ensures.front_len c.as_chunks.ensures.front
    c.from_le_bytes-code.ensures in
    let there : c.args.row < length codes =
    omega (arith, length_codes c.args.bytes.now c.args.rows c.args.coded.now.at, c.requires.within) in
    let below = c.requires.codes.below c.args.row 0 there in
    c.in_ok-from_slice-in-Some.ensures.ok
    ∙ is_text texts c.from.result c.in-Some.text.now (omega (arith, c.from.ensures, code, below)) c.in-Some.ensures.text
    ∙ ap (text_of_code texts) (c.from.ensures ∙ code) ∙ sym (at-map (text_of_code texts) codes c.args.row 0 [] there)
