-- No call: the code makes a value of no bytes.
use Rattle.file_device.proofs.CallsLemmas.{pure_i, group, done, vstruct, vnil, [], ftrue, agg, no_more, ◌∷◌, refl}
use Rattle.file_device.proofs.CallsLemmas.{proved, ‵, raw, ◌$◌, ◌∵◌, !, qed, drop, suffices, enter, returns, alloc_all}
use Rattle.file_device.proofs.CallsLemmas.{pass_all, free_all, look_at, sets, nothing, on_entry, Stays, walk_of, says}
use Rattle.file_device.proofs.CallsLemmas.{ends_at}
use Rattle.file_device.specs.contracts.calls.Calls.none as f
use Rattle.file_device.specs.declared.calls.Calls.{Calls}
use Rattle.file_device.specs.contracts.calls.Calls.{the_row as C}
use Rattle.file_device.proofs.calls.Calls.none.Statement.{statement}
use Rattle.file_device.proofs.calls.Calls.none.Code as code

abbrev stayed : Stays f.ended.signature.params f.ended.kept
stayed = tt

pub none_spec : {M : Type 1} → statement M
none_spec 𝓤 𝓛 𝓜 𝓡 wired =
    let c = f.clauses 𝓛 𝓜.mem 𝓡.returns in let W = walk_of 𝓛 f.ended stayed c in
    proved 𝓛 f.ended stayed c 𝓜 𝓡 tt f.Key.name code.function (code.unfolded 𝓤 𝓛.H 𝓜 𝓡 wired) (λ κs. tt) (λ κs. tt)
    (λ κs qs bounds a _ are.
    let empty : Calls = record { made = [] } in
    let y : W.Ghost = ((κs, qs, bounds, tt, tt), tt) in
    qed 𝓛 (raw (on_entry 𝓛 f.signature κs qs a y.0.4) ∷ ‵ ftrue ∷ []) ∵ drop ! $ drop ! $
    enter ! _ _ _ _ _ $ alloc_all ! (λ l. pass_all ! refl tt $
    sets ! (agg ! (no_more !)) refl (tt, tt) $
    returns ! (look_at ! 0 refl) $ free_all ! refl $
    suffices ! _ (ends_at 𝓛 f.ended stayed c y (vstruct vnil) empty tt tt) $ says ! refl $
    -- a value of no bytes owns nothing, whatever calls it represents
    pure_i ! (C.own_val empty (vstruct vnil ∷ [])) (λ vss. (tt, tt), tt) ((tt, (refl, tt)), tt) $
    nothing ! $ nothing ! $ group ! 3 $ done !))
