use Rattle.std.proofs.Common.{◌++◌, take, subst, arith}
use Rattle.column_segment.specs.Encoding.{HaveTexts}
use Rattle.column_segment.proofs.Gathered.{length_after, one_after, room_left}
use Rattle.column_segment.proofs.encoding.push_texts.Goals as goal

pub push-requires : goal.push-requires
push-requires c =
    let before = c.requires.few in
    let rows = c.args.rows.now in
    let place = c.loop-place.place in
    record {
      room = room_left (before.0 ++ take place rows) c.loop-place.texts (c.loop-place.invariant before.0 before.1)
          (omega (arith, length_after before.0 rows place (omega arith), before.2, c.loop-place-test.true));
    }

pub loop-place-preserved : goal.loop-place-preserved
loop-place-preserved c = λ before have.
    let rows = c.args.rows.now in
    let place = c.loop-place.place in
    subst (λ l. HaveTexts l c.push.new.self)
    (one_after before rows place c.index-rows-place.result (omega arith) c.index-rows-place.is)
    (c.in_ok-push.ensures.ok (before ++ take place rows) (c.loop-place.invariant before have))
