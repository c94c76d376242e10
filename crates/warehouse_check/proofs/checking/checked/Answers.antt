use Rattle.std.proofs.Common.{sym, subst, rules}
use Rattle.std.proofs.lemmas.Result.{IfOk-weaker, err_from_is_err_and}
use Rattle.object_store.specs.Content.{Content}
use Rattle.object_store.specs.Store.{IsStill, content_of}
use Rattle.warehouse_objects.specs.Represents.{IsLaidOut}
use Rattle.warehouse_objects.proofs.CallerLemmas.{laid_of}
use Rattle.object_store.proofs.SourceLemmas.{still_then}
use Rattle.warehouse_objects.proofs.OneMoreRead.{has_read, reads_more, reads_nothing, same_error, then_reads}
use Rattle.warehouse_check.proofs.Loop.{never_both}
use Rattle.stored_cuboids.proofs.Represented.{kept_cuboids_are_sound}
use Rattle.warehouse_check.proofs.checking.checked.Goals as goal

pub returns-in_err-has_own_ship_modes-clause-reads : goal.returns-in_err-has_own_ship_modes-clause-reads
returns-in_err-has_own_ship_modes-clause-reads g c =
    let p = err_from_is_err_and c.from_residual-in_err-has_own_ship_modes.result
    c.from_residual-in_err-has_own_ship_modes.ensures.1 in
    rw (p.1, p.2) (same_error g.D.Sectors c.args.store.now c.has_own_ship_modes.new.store _
    (then_reads g.D.Sectors c.args.store.now c.check_batches.new.store c.has_own_ship_modes.new.store
    (c.in_ok-found.ensures.reads.stays (λ is. cc)) _ c.requires.fine c.check_batches.ensures.reads.leaves
    c.in_err-has_own_ship_modes.ensures.reads))

pub returns-then-not-branch-2-clause-reads : goal.returns-then-not-branch-2-clause-reads
returns-then-not-branch-2-clause-reads g c =
    let still = c.in_ok-found.ensures.reads.stays (λ is. cc) in
    has_read g.D.Sectors c.args.store.now c.has_own_ship_modes.new.store _ (λ is. cc)
    (still_then g.D.Sectors c.args.store.now c.check_batches.new.store c.has_own_ship_modes.new.store still
    (c.in_ok-has_own_ship_modes.ensures.reads.stays (λ is. cc)))
    (reads_more g.D.Sectors c.args.store.now c.check_batches.new.store c.has_own_ship_modes.new.store still
    c.check_batches.ensures.reads.leaves c.has_own_ship_modes.ensures.reads.leaves)

pub returns-clause-cuboids : goal.returns-clause-cuboids
returns-clause-cuboids g c =
    let still : IsStill g.D.Sectors c.args.store.now c.has_own_ship_modes.new.store =
    still_then g.D.Sectors c.args.store.now c.check_batches.new.store c.has_own_ship_modes.new.store
    (c.in_ok-found.ensures.reads.stays (λ is. cc)) (c.in_ok-has_own_ship_modes.ensures.reads.stays (λ is. cc)) in
    IfOk-weaker c.check_cuboids.result _ _ (λ found answer none k w laid rooted same.
    let there =
    subst (λ (x : Content). IsLaidOut x w) (sym (still.content (c.check_cuboids.ensures.reads.leaves.word k)))
    laid in
    (answer k w there rooted same).0 none) c.check_cuboids.ensures.answer

pub returns-clause-found : goal.returns-clause-found
returns-clause-found g c =
    let still : IsStill g.D.Sectors c.args.store.now c.has_own_ship_modes.new.store =
    still_then g.D.Sectors c.args.store.now c.check_batches.new.store c.has_own_ship_modes.new.store
    (c.in_ok-found.ensures.reads.stays (λ is. cc)) (c.in_ok-has_own_ship_modes.ensures.reads.stays (λ is. cc)) in
    let content = content_of g.D.Sectors c.args.store.now in
    IfOk-weaker c.check_cuboids.result _ _ (λ found answer is k w represents rooted same.
    let there =
    subst (λ (x : Content). IsLaidOut x w) (sym (still.content (c.check_cuboids.ensures.reads.leaves.word k)))
    (laid_of content w represents) in
    never_both found ((answer k w there rooted same).1 (kept_cuboids_are_sound content w represents)) is)
    c.check_cuboids.ensures.answer

pub returns-clause-refused : goal.returns-clause-refused
returns-clause-refused g c = λ is k w represents rooted same.
    let still : IsStill g.D.Sectors c.args.store.now c.has_own_ship_modes.new.store =
    still_then g.D.Sectors c.args.store.now c.check_batches.new.store c.has_own_ship_modes.new.store
    (c.in_ok-found.ensures.reads.stays (λ e. cc)) (c.in_ok-has_own_ship_modes.ensures.reads.stays (λ e. cc)) in
    let content = content_of g.D.Sectors c.args.store.now in
    let there =
    subst (λ (x : Content). IsLaidOut x w) (sym (still.content (c.check_cuboids.ensures.reads.leaves.word k)))
    (laid_of content w represents) in
    c.check_cuboids.ensures.refused is k w there rooted same

pub returns-clause-reads : goal.returns-clause-reads
returns-clause-reads g c =
    let still = c.in_ok-found.ensures.reads.stays (λ is. cc) in
    then_reads g.D.Sectors c.args.store.now c.has_own_ship_modes.new.store c.check_cuboids.new.store
    (still_then g.D.Sectors c.args.store.now c.check_batches.new.store c.has_own_ship_modes.new.store still
    (c.in_ok-has_own_ship_modes.ensures.reads.stays (λ is. cc))) c.check_cuboids.result c.requires.fine
    (reads_more g.D.Sectors c.args.store.now c.check_batches.new.store c.has_own_ship_modes.new.store still
    c.check_batches.ensures.reads.leaves c.has_own_ship_modes.ensures.reads.leaves) c.check_cuboids.ensures.reads

pub returns-in_err-has_its_objects-clause-reads : goal.returns-in_err-has_its_objects-clause-reads
returns-in_err-has_its_objects-clause-reads g c =
    reads_nothing g.D.Sectors g.met.D.Sectors.only_now c.args.store.now c.requires.fine _ (λ is. search rules)

pub returns-then-not-branch-clause-reads : goal.returns-then-not-branch-clause-reads
returns-then-not-branch-clause-reads g c =
    reads_nothing g.D.Sectors g.met.D.Sectors.only_now c.args.store.now c.requires.fine _ (λ is. search rules)
