use Rattle.std.proofs.Common.{◌≡◌, ◌<◌, ◌*◌, ◌∙◌, ℕ, List, [], sym, subst, arith, length, append-nil, slice_index}
use Rattle.dimension_objects.specs.Spelled.{keys_spelling}
use Rattle.dimension_objects.specs.Columns.{ReadsKeys}
use Rattle.dimension_objects.proofs.ReadingLemmas.{read_fit, read_spelled, written}
use Rattle.dimension_objects.proofs.reading.keys_of.Goals as goal

pub returns : goal.returns
returns c =
    let keys : List ℕ = c.read_u32_into.new.dst in
    let count : length c.read_u32_into.new.dst ≡ c.args.count =
    omega (arith, c.read_u32_into.auto.dst, c.as_mut_slice.ensures.len, c.in_ok-keys.ensures.len) in
    let small : (k : ℕ) → slice_index c.args.part.now k < 256 = λ k. (c.type_inv.part k).fits in
    let long : length c.args.part.now ≡ 4 * length c.read_u32_into.new.dst = omega (arith, c.requires, count) in
    let read : ReadsKeys c.args.count c.args.part.now [] keys = record {
      many = count;
      fit = read_fit 4 keys c.args.part.now small c.read_u32_into.ensures;
      spelled = sym (read_spelled 4 keys c.args.part.now long small c.read_u32_into.ensures)
          ∙ sym (append-nil (keys_spelling keys));
    } in
    subst (ReadsKeys c.args.count c.args.part.now [])
    (sym (written _ keys _ (omega (arith, count, c.in_ok-keys.ensures.len)))) read
