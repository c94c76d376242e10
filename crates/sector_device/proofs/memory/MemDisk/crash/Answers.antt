use Rattle.std.proofs.Common.{◌≡◌, ◌++◌, List, [], ℕ, length, take, drop, reverse, sym, subst, ap, ◌∙◌, arith}
use Rattle.std.proofs.lemmas.Grind.{common_steps}
use Rattle.sector_device.specs.Memory.{content, candidates, MayHold, AreWhole}
use Rattle.sector_device.specs.Picks.{named}
use Rattle.sector_device.specs.declared.change.Change.{Change}
use Rattle.sector_device.proofs.PickSteps.{restarted_whole}
use Rattle.sector_device.proofs.memory.MemDisk.crash.Goals as goal

pub invariant_of-result-clause-whole : goal.invariant_of-result-clause-whole
invariant_of-result-clause-whole c =
    let old = c.args.self.sectors.items in
    let log = reverse c.args.self.log.items in
    let new = c.take_picks.new.sectors in
    let same : take c.args.self.sectors.len (new ++ drop (length new) old) ≡ new = grind (arith, common_steps) in
    let empty : reverse c.clear.new.self.items ≡ [] = ap reverse c.clear.ensures.items in
    let held : (i : ℕ) → MayHold old log i (content new i) = λ i.
    subst (λ (l : List Change). MayHold old (reverse l) i (content new i)) c.deref.ensures.value
    (subst (λ (s : List (List ℕ)). MayHold s (reverse c.deref.result.now) i (content new i)) c.deref_mut.ensures.value
    (c.take_picks.ensures.image i)) in
    let long : length new ≡ length old = c.take_picks.auto.sectors ∙ ap length c.deref_mut.ensures.value in
    subst (λ (s : List (List ℕ)). AreWhole s (reverse c.clear.new.self.items)) (sym same)
    (subst (λ (l : List Change). AreWhole new l) (sym empty) (restarted_whole old new log long c.args.self.whole held))

pub invariant_of-result-clause-roomy : goal.invariant_of-result-clause-roomy
invariant_of-result-clause-roomy c =
    let old = c.args.self.room.items in
    let new = c.take_picks.new.room in
    let same : take c.args.self.room.len (new ++ drop (length new) old) ≡ new = grind (arith, common_steps) in
    ap length same ∙ c.take_picks.auto.room ∙ ap length c.deref_mut-2.ensures.value ∙ c.args.self.roomy

pub returns-clause-image : goal.returns-clause-image
returns-clause-image c i =
    let old = c.args.self.sectors.items in
    let new = c.take_picks.new.sectors in
    let same : take c.args.self.sectors.len (new ++ drop (length new) old) ≡ new = grind (arith, common_steps) in
    subst (λ (s : List (List ℕ)). MayHold old (reverse c.args.self.log.items) i (content s i)) (sym same)
    (subst (λ (l : List Change). MayHold old (reverse l) i (content new i)) c.deref.ensures.value
    (subst (λ (s : List (List ℕ)). MayHold s (reverse c.deref.result.now) i (content new i)) c.deref_mut.ensures.value
    (c.take_picks.ensures.image i)))

pub returns-clause-named : goal.returns-clause-named
returns-clause-named c i lt =
    let old = c.args.self.sectors.items in
    let new = c.take_picks.new.sectors in
    let same : take c.args.self.sectors.len (new ++ drop (length new) old) ≡ new = grind (arith, common_steps) in
    let Names : List (List ℕ) → List Change → Type 0 =
    λ s l. content new i ≡ named (λ k. reverse (candidates s (reverse l) k)) c.args.picks.now i in
    ap (λ (s : List (List ℕ)). content s i) same
    ∙ subst (λ (l : List Change). Names old l) c.deref.ensures.value
    (subst (λ (s : List (List ℕ)). Names s c.deref.result.now) c.deref_mut.ensures.value
    (c.take_picks.ensures.named i (omega (arith, lt, ap length c.deref_mut.ensures.value))))
