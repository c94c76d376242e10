use Rattle.std.proofs.Common.{◌∙◌, ap}
use Rattle.std.specs.List.{list_all}
use Rattle.std.proofs.lemmas.Bool.{both_ways}
use Rattle.partial_reports.specs.Members.{is_plain_member}
use Rattle.partial_reports.proofs.ReadableLemmas.{members_plain}
use Rattle.partial_reports.proofs.readable.check_readable.Goals as goal

pub returns-then-not-are_plain-clause-refused : goal.returns-then-not-are_plain-clause-refused
returns-then-not-are_plain-clause-refused c = λ is.
    both_ways c.are_plain.result c.if-not-are_plain.true
    (c.are_plain.ensures ∙ ap (list_all is_plain_member) c.as_slice.ensures
    ∙ members_plain c.args.line.now.key is.plain)
