-- One call more: the code looks at neither argument, and makes a value of no bytes.
use Rattle.file_device.proofs.CallsLemmas.{pure_i, group, done, vstruct, vnil, [], ftrue, flft, agg, no_more, ◌∷◌, refl}
use Rattle.file_device.proofs.CallsLemmas.{proved, ‵, ◌⊛◌, ◌$◌, ◌∵◌, !, qed, keep, move, split, join, suffices, enter}
use Rattle.file_device.proofs.CallsLemmas.{returns, alloc_all, pass_all, free_all, look_at, sets, nothing, named, yes}
use Rattle.file_device.proofs.CallsLemmas.{ShrRef, shr_vals, shr_Tells, plain, shr_ref_to, Stays, walk_of, says}
use Rattle.file_device.proofs.CallsLemmas.{stay_dropped, Goes-dropped, ends_at}
use Rattle.file_device.specs.contracts.calls.Calls.then as f
use Rattle.file_device.specs.declared.calls.Calls.{Calls}
use Rattle.file_device.specs.contracts.calls.Calls.{the_row as C}
use Rattle.sector_device.specs.contracts.event.Event.{the_row as E}
use Rattle.file_device.proofs.calls.Calls.then.Statement.{statement}
use Rattle.file_device.proofs.calls.Calls.then.Code as code

abbrev stayed : Stays f.ended.signature.params f.ended.kept
stayed = (stay_dropped _ yes, (stay_dropped _ yes, tt))

pub then_spec : {M : Type 1} → statement M
then_spec 𝓤 𝓛 𝓜 𝓡 wired =
    let c = f.clauses 𝓛 𝓜.mem 𝓡.returns in let W = walk_of 𝓛 f.ended stayed c in
    let earlier = Goes-dropped 𝓛 2 (shr_ref_to (0 ∷ []) tt (plain (λ _. C))) yes (λ κs x w. refl) in
    let next = Goes-dropped 𝓛 2 (shr_ref_to (1 ∷ []) tt (plain (λ _. E))) yes (λ κs x w. refl) in
    proved 𝓛 f.ended stayed c 𝓜 𝓡 (earlier, (next, tt)) f.Key.name code.function (code.unfolded 𝓤 𝓛.H 𝓜 𝓡 wired)
    (λ κs. (shr_vals, (shr_vals, tt))) (λ κs. (shr_Tells (named 0) κs.0 C, (shr_Tells (named 1) κs.1.0 E, tt)))
    (λ κs qs bounds a _ are.
    let longer : Calls = record { made = a.1.0.now ∷ a.0.now.made } in
    let tokens = ‵ (flft κs.0 qs.0) ⊛ (‵ (flft κs.1.0 qs.1.0) ⊛ ‵ ftrue) in
    let borrows =
    ‵ ((ShrRef (named 0) κs.0 C).own_val a.0 (shr_vals a.0)) ⊛
    (‵ ((ShrRef (named 1) κs.1.0 E).own_val a.1.0 (shr_vals a.1.0)) ⊛ ‵ ftrue) in
    let y : W.Ghost = ((κs, qs, bounds, a, (shr_vals a.0, (shr_vals a.1.0, tt))), tt) in
    qed 𝓛 ((tokens ⊛ borrows) ∷ ‵ ftrue ∷ []) ∵ split ! $ keep ! (0 ∷ []) $
    -- [the tokens of both borrows]
    enter ! _ _ _ _ _ $ alloc_all ! (λ l. pass_all ! refl ((tt, tt), ((tt, tt), tt)) $
    sets ! (agg ! (no_more !)) refl (tt, tt) $
    returns ! (look_at ! 0 refl) $ free_all ! refl $
    suffices ! _ (ends_at 𝓛 f.ended stayed c y (vstruct vnil) longer (tt, (tt, tt)) (tt, (tt, tt))) $ says ! refl $
    pure_i ! (C.own_val longer (vstruct vnil ∷ [])) (λ vss. (tt, tt), tt) ((tt, (refl, tt)), tt) $
    -- nothing is left of the arguments
    nothing ! $ nothing ! $ join ! $ nothing ! $ join ! $ move ! (2 ∷ []) $ group ! 3 $ done !))
