use Rattle.std.proofs.Common.{List, ℕ, subst}
use Rattle.std.specs.List.{flat_map}
use Rattle.std.proofs.lemmas.Result.{on_ok_weaker}
use Rattle.wire.specs.Spelling.{spelling}
use Rattle.dictionary.specs.Dictionary.{Adds}
use Rattle.column_segment.proofs.Coded.{coded_more}
use Rattle.column_segment.proofs.Gathered.{flat_more}
use Rattle.column_segment.proofs.coding.Coding.push.Goals as goal

pub returns-clause-ok : goal.returns-clause-ok
returns-clause-ok c =
    let texts = c.args.self.now.texts in
    let text = c.args.text.now in
    let codes : List (List ℕ) = c.args.self.now.codes.items in
    let more : List (List ℕ) = c.put_code.new.to.items in
    let adds = subst (λ code. Adds texts text code c.add.new.self) c.in-Some.is c.in_ok-code.ensures.ok in
    on_ok_weaker c.put_code.result
    (λ put column are. coded_more column text texts c.add.new.self (flat_map (λ code. code) codes)
    (flat_map (λ code. code) more) c.in-Some.code are adds c.in_ok-code.ensures.few
    (flat_more codes more (spelling 2 c.in-Some.code) put))
    c.put_code.ensures.ok
