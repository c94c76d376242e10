use Rattle.std.proofs.Common.{◌≡◌, ◌+◌, ◌++◌, ◌∷◌, take, drop, suc, ap, sym, ◌∙◌, arith}
use Rattle.std.proofs.lemmas.List.{set_split}
use Rattle.extents.proofs.Gap.{gap-of}
use Rattle.extents.proofs.free.put_rest.Goals as goal

-- what is left is where the run was
pub returns-else-rest-eq0 : goal.returns-else-rest-eq0
returns-else-rest-eq0 c =
    let xs = c.args.runs.now.items in
    let next : suc c.args.place ≡ c.args.place + 1 = omega arith in
    let some = gap-of c.args.rest (omega arith) in
    set_split xs c.args.place c.args.rest (omega (arith, c.args.runs.now.ok.0, c.requires))
    ∙ ap (λ n. take c.args.place xs ++ c.args.rest ∷ drop n xs) next
    ∙ ap (λ g. take c.args.place xs ++ (g ++ drop (c.args.place + 1) xs)) (sym some)
