use Rattle.std.proofs.Common.{◌≡◌, inl, inr, codes, refl, rules}
use Rattle.query_words.proofs.Shapes.{bare_count}
use Rattle.query_words.proofs.aggregates.bare.Goals as goal

pub returns-in-None : goal.returns-in-None
returns-in-None c =
    let unequal : c.args.word.now ≡ codes "count" → ⊥ = search rules in
    inr (
      inl (λ name. elim name as (λ _. ⊥) [ inl e ↦ unequal e | inr t ↦ c.in-None.ensures t.0 t.1 ], inl refl),
      λ agg spelled. unequal (bare_count c.args.word.now agg c.requires spelled),
    )
