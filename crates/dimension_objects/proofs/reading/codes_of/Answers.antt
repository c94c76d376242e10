use Rattle.std.proofs.Common.{◌≡◌, ◌<◌, ◌*◌, ◌∙◌, ℕ, List, [], sym, subst, arith, length, append-nil, slice_index}
use Rattle.dictionary.specs.Columns.{codes_spelling}
use Rattle.dimension_objects.specs.Columns.{ReadsCodes}
use Rattle.dimension_objects.proofs.ReadingLemmas.{read_fit, read_spelled, written}
use Rattle.dimension_objects.proofs.reading.codes_of.Goals as goal

pub returns : goal.returns
returns c =
    let codes : List ℕ = c.read_u16_into.new.dst in
    let count : length c.read_u16_into.new.dst ≡ c.args.count =
    omega (arith, c.read_u16_into.auto.dst, c.as_mut_slice.ensures.len, c.in_ok-codes.ensures.len) in
    let small : (k : ℕ) → slice_index c.args.part.now k < 256 = λ k. (c.type_inv.part k).fits in
    let long : length c.args.part.now ≡ 2 * length c.read_u16_into.new.dst = omega (arith, c.requires, count) in
    let read : ReadsCodes c.args.count c.args.part.now [] codes = record {
      many = count;
      fit = read_fit 2 codes c.args.part.now small c.read_u16_into.ensures;
      spelled = sym (read_spelled 2 codes c.args.part.now long small c.read_u16_into.ensures)
          ∙ sym (append-nil (codes_spelling codes));
    } in
    subst (ReadsCodes c.args.count c.args.part.now [])
    (sym (written _ codes _ (omega (arith, count, c.in_ok-codes.ensures.len)))) read
