use Rattle.std.proofs.Common.{◌≡◌, None, Some, inl, inr, codes, rules, lit<}
use Rattle.std.proofs.lemmas.Str.Pattern.{strip_suffix_char}
use Rattle.query_words.proofs.Refusals.{not_closed, reads_brackets}
use Rattle.query_words.proofs.Shapes.{taken_in}
use Rattle.query_words.proofs.aggregates.aggregate.Goals as goal

pub returns-in_default-taken : goal.returns-in_default-taken
returns-in_default-taken c =
    let unequal : c.in-Some.name.now ≡ codes "count" → ⊥ = search rules in
    inr (
      inl (
        λ name. elim name as (λ _. ⊥) [ inl e ↦ unequal e | inr t ↦ c.in_default-taken.ensures t.0 t.1 ],
        inr
            (c.in-Some.sign, c.in-Some.rest.now, c.in-Some.ensures),
      ),
      λ agg spelled. let parts = taken_in c.args.word.now c.in-Some.name.now c.in-Some.sign c.in-Some.rest.now agg
          c.in-Some.ensures
          spelled in c.in_default-taken.ensures parts.taken parts.name_is,
    )

pub returns-in-None : goal.returns-in-None
returns-in-None c = not_closed c.args.word c.in-Some.name.now c.in-Some.sign c.in-Some.rest.now c.of-in-None.result
    c.in-Some.ensures
    c.if-sign-eq58.false (strip_suffix_char 41 c.in-Some.rest.now None c.in-None.ensures.cases (lit< tt))
    c.of-in-None.ensures

pub returns-in-Some-strip_suffix : goal.returns-in-Some-strip_suffix
returns-in-Some-strip_suffix c = reads_brackets c.args.word.now c.in-Some.name.now c.in-Some.sign c.in-Some.rest.now
    c.in-Some-taken.taken
    c.in-Some-strip_suffix.name.now c.of_measure-in-Some-strip_suffix.result c.in-Some.ensures c.in-Some-taken.ensures
    c.if-sign-eq58.false
    (strip_suffix_char 41 c.in-Some.rest.now (Some c.in-Some-strip_suffix.name) c.in-Some-strip_suffix.ensures.cases
    (lit< tt)) c.of_measure-in-Some-strip_suffix.ensures
