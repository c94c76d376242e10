use Rattle.std.proofs.Common.{◌≡◌, ◌∙◌, List, ℕ, length}
use Rattle.std.specs.Vec.{with_items}
use Rattle.std.proofs.lemmas.List.{with_items_is}
use Rattle.stored_rows.proofs.TextPartLemmas.{rest_read}
use Rattle.stored_rows.proofs.text_part.read_rest.Goals as goal

pub returns-clause-found : goal.returns-clause-found
returns-clause-found g c keeps =
    let part : List ℕ = c.read_part.new.to in
    let long : length part ≡ c.in_ok-bytes.bytes.len = c.read_part.auto.to ∙ c.as_mut_slice.ensures.len in
    rest_read (g.S.Source.texts c.args.source.now c.args.id) c.args.at c.in-Some.count part
    (with_items c.in_ok-bytes.bytes part).items
    (c.in-Some.ensures.text (c.in_ok-read_part.ensures.run.stays.word keeps))
    (c.in_ok-read_part.ensures.bytes keeps)
    (long ∙ c.in_ok-bytes.ensures.len) (with_items_is c.in_ok-bytes.bytes part long)
