use Rattle.std.proofs.Common.{subst, ◌∙◌, sym, ap, arith, map, is_some}
use Rattle.std.proofs.lemmas.List.{length-map}
use Rattle.std.specs.Str.{bytes_eq}
use Rattle.dictionary.specs.Dictionary.{Texts}
use Rattle.dictionary.specs.Dictionary.{EachOnce}
use Rattle.dictionary.proofs.CallerLemmas.{EachOnce-push, list_any-map}
use Rattle.dictionary.proofs.Items.{position-map, Adds-seen, Adds-full, Adds-new, map-insert_key}
use Rattle.dictionary.proofs.dictionary.Dictionary.add_unkept.Goals as goal

pub returns-in-Some-clause-ok : goal.returns-in-Some-clause-ok
returns-in-Some-clause-ok c =
    let old : Texts = record { texts = map (λ v. v.items) c.self.inside.texts.keys; limit = c.self.inside.limit } in
    rw (← c.self.view_is)
    (Adds-seen old c.args.text.now c.in-Some.place
    (position-map (bytes_eq c.args.text.now) (λ v. v.items) c.self.inside.texts.keys
    ∙ sym c.get_index_of.ensures.index ∙ c.in-Some.is))

pub returns-then-next-self-clause-ok : goal.returns-then-next-self-clause-ok
returns-then-next-self-clause-ok c =
    let old : Texts = record { texts = map (λ v. v.items) c.self.inside.texts.keys; limit = c.self.inside.limit } in
    rw (← c.self.view_is)
    (Adds-full old c.args.text.now (position-map (bytes_eq c.args.text.now) (λ v. v.items) c.self.inside.texts.keys
    ∙ sym c.get_index_of.ensures.index ∙ c.in_default.is)
    (omega (
      arith,
      length-map c.self.inside.texts.keys (λ v. v.items),
      c.len-next.ensures.len,
      c.if-next-self.true,
    )))

pub returns-clause-ok : goal.returns-clause-ok
returns-clause-ok c =
    let old : Texts = record { texts = map (λ v. v.items) c.self.inside.texts.keys; limit = c.self.inside.limit } in
    let count = length-map c.self.inside.texts.keys (λ v. v.items) in
    let absent = sym c.get_index_of.ensures.found ∙ ap is_some c.in_default.is in
    let texts = ap (map (λ v. v.items)) c.in_ok-insert.ensures.keys
    ∙ map-insert_key bytes_eq (λ v. v.items) c.self.inside.texts.keys c.in_ok-text.text c.args.text.now
    c.in_ok-text.ensures.items absent in
    rw (← c.self.view_is)
    (Adds-new old c.args.text.now c.len-next.result _
    (position-map (bytes_eq c.args.text.now) (λ v. v.items) c.self.inside.texts.keys
    ∙ sym c.get_index_of.ensures.index ∙ c.in_default.is)
    (omega (arith, count, c.len-next.ensures.len)) (omega (arith, count, c.len-next.ensures.len, c.if-next-self.false))
    (ap (λ l. record { texts = l; limit = c.self.inside.limit }) texts))

pub invariant_of-self-2 : goal.invariant_of-self-2
invariant_of-self-2 c =
    let absent = sym c.get_index_of.ensures.found ∙ ap is_some c.in_default.is in
    let texts = ap (map (λ v. v.items)) c.in_ok-insert.ensures.keys
    ∙ map-insert_key bytes_eq (λ v. v.items) c.self.inside.texts.keys c.in_ok-text.text c.args.text.now
    c.in_ok-text.ensures.items absent in
    let l = c.in_ok-insert.ensures.len in
    let room = c.if-next-self.false in
    let count = c.len-next.ensures.len in (
      grind arith,
      c.self.invariant.1,
      subst EachOnce (sym texts)
          (EachOnce-push (map (λ v. v.items) c.self.inside.texts.keys) c.args.text.now c.self.invariant.2
          (list_any-map (bytes_eq c.args.text.now) (λ v. v.items) c.self.inside.texts.keys ∙ absent)),
    )
