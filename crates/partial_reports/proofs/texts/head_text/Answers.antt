use Rattle.std.proofs.Common.{codes}
use Rattle.std.specs.List.{flat_map}
use Rattle.partial_reports.specs.Head.{dimensions_text, part_text, word_text}
use Rattle.partial_reports.proofs.TextsLemmas.{five_parts}
use Rattle.partial_reports.proofs.texts.head_text.Goals as goal

pub returns-clause-ok : goal.returns-clause-ok
returns-clause-ok c =
    five_parts _ _ _ _ _ _ (codes "ssbcube partial report 1\n") (part_text c.args.head.now)
    (dimensions_text c.args.digest.now) (flat_map word_text c.args.head.now.words) (codes "\n")
    c.new-out.ensures.items c.in_ok-push_bytes.ensures.ok c.in_ok-push_part.ensures.ok
    c.in_ok-push_dimensions.ensures.ok (rw c.as_slice.ensures at c.in_ok-push_words.ensures.ok)
    c.in_ok-push_bytes-2.ensures.ok
