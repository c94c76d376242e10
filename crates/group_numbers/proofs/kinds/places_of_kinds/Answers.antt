use Rattle.std.proofs.Common.{◌∙◌, ap, length}
use Rattle.std.specs.List.{range_with_len}
use Rattle.std.proofs.lemmas.Result.{IfOk-weaker}
use Rattle.dimensions.specs.Coded.{texts_at_places}
use Rattle.dimensions.specs.Shown.{rows_on}
use Rattle.group_numbers.proofs.KindsLemmas.{days_are_kinds, in_first_order, kinds_of_codes, some_column}
use Rattle.group_numbers.proofs.kinds.places_of_kinds.Goals as goal

pub codes-requires : goal.codes-requires
codes-requires c = some_column c.args.axis

pub texts-requires : goal.texts-requires
texts-requires c = some_column c.args.axis

pub first_places-requires : goal.first_places-requires
first_places-requires c =
    in_first_order (texts_at_places c.args.axis 0 (rows_on c.args.dims.now c.args.axis)) c.codes.result.now c.len.result
    c.codes.ensures.codes
    (c.len.ensures.count ∙ ap length c.texts.ensures.texts)

pub returns-in-Date-clause-places : goal.returns-in-Date-clause-places
returns-in-Date-clause-places c =
    IfOk-weaker c.all_places.result _ _
    (λ places is. days_are_kinds c.args.dims.now c.args.axis places.items c.in-Date.is
    (is ∙ ap (range_with_len 0) c.row_count.ensures.count)) c.all_places.ensures

pub returns-in_default-clause-places : goal.returns-in_default-clause-places
returns-in_default-clause-places c =
    IfOk-weaker c.first_places.result _ _
    (λ places hold. kinds_of_codes c.args.dims.now c.args.axis c.codes.result.now places.items c.in_default.not-Date
    c.codes.ensures.codes hold) c.first_places.ensures
