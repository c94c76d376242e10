use Rattle.std.proofs.Common.{◌≡◌, ◌+◌, ◌<◌, true, List, [], ◌∷◌, ◌++◌, take, vec_len, vec_capacity, is_ok, cond, refl}
use Rattle.std.proofs.Common.{sym, ◌∙◌, ap, subst, add-one, arith}
use Rattle.std.proofs.lemmas.List.{take_all}
use Rattle.std.proofs.lemmas.Option.{slice_get_read}
use Rattle.warehouse.specs.declared.command.Command.{Command}
use Rattle.warehouse.specs.declared.command.Reply.{Reply}
use Rattle.warehouse.specs.Session.{has_failed}
use Rattle.warehouse.specs.Running.{Phase, at, broken, none_running, RanAll}
use Rattle.warehouse.specs.Slots.{HoldsWith}
use Rattle.warehouse.proofs.Whole.{take_next, whole}
use Rattle.warehouse.proofs.RunningLemmas.{ran_more, runs_on, begins_with, session_holds}
use Rattle.warehouse.proofs.SessionLemmas.{leaves_at}
use Rattle.warehouse.proofs.running.run.Goals as goal

pub loop-command-init : goal.loop-command-init
loop-command-init g c = record {
  count = c.in-Ok-with_capacity.ensures.len;
  room = c.in-Ok-with_capacity.ensures.capacity;
  ran = λ w holds k. (
    at w,
    subst
        (λ (replies : List Reply). RanAll g.D.Sectors c.args.session.now (at w) [] replies c.args.session.now (at w))
        (sym c.in-Ok-with_capacity.ensures.items) (refl, refl),
    begins_with g.D.Sectors c.args.session.now w
        c.in-Ok.slots.queries.items c.in-Ok.ensures.ok holds,
  );
  stuck = λ failed. (
    subst (λ (replies : List Reply). RanAll g.D.Sectors c.args.session.now broken [] replies c.args.session.now
        broken) (sym c.in-Ok-with_capacity.ensures.items) (refl, refl),
    failed,
  );
}

pub loop-command-preserved : goal.loop-command-preserved
loop-command-preserved g c =
    let so_far = c.loop-command.invariant in
    let first = c.args.session.now in
    let mid = c.loop-command.session in
    let new = c.perform-reply.new.session in
    let command = c.command-item.result in
    let reply = c.perform-reply.result in
    let room : vec_len c.loop-command.replies < vec_capacity c.loop-command.replies =
    omega (arith, so_far.count, so_far.room, c.loop-command-test.true) in
    let good : is_ok c.push.result ≡ true = c.push.ensures.succeeds room in
    let items : c.push.new.self.items ≡ c.loop-command.replies.items ++ reply ∷ [] =
    c.push.ensures.items ∙ ap (λ b. cond b (c.loop-command.replies.items ++ reply ∷ []) c.loop-command.replies.items)
    good in
    let len : vec_len c.push.new.self ≡ vec_len c.loop-command.replies + 1 =
    c.push.ensures.len ∙ ap (λ b. cond b (vec_len c.loop-command.replies + 1) (vec_len c.loop-command.replies)) good in
    let front : take (c.loop-command.command-index + 1) c.args.commands.now
    ≡ take c.loop-command.command-index c.args.commands.now ++ command ∷ [] =
    ap (λ i. take i c.args.commands.now) (add-one c.loop-command.command-index)
    ∙ take_next c.args.commands.now c.loop-command.command-index command
    (slice_get_read c.args.commands.now _ c.loop-command.command-index command refl c.loop-command-test.true
    c.command-item.is) in record {
      count = len ∙ ap (λ n. n + 1) so_far.count;
      room = omega (arith, so_far.room, c.push.ensures.capacity);
      ran = λ w holds k.
          let was = so_far.ran w holds (c.perform-reply.ensures.word k) in
          subst (λ (replies : List Reply). (after : Phase)
          × RanAll g.D.Sectors first (at w) (take (c.loop-command.command-index + 1) c.args.commands.now) replies
          new after × HoldsWith g.D.Sectors new c.perform-reply.new.slots.queries.items after) (sym items)
          (subst (λ (commands : List Command). (after : Phase)
          × RanAll g.D.Sectors first (at w) commands (c.loop-command.replies.items ++ reply ∷ []) new after
          × HoldsWith g.D.Sectors new c.perform-reply.new.slots.queries.items after) (sym front)
          (runs_on g.D.Sectors first mid new (at w) was.0 command reply
          (take c.loop-command.command-index c.args.commands.now) c.loop-command.replies.items
          c.loop-command.slots.queries.items c.perform-reply.new.slots.queries.items was.2
          (λ v slots here are of. c.perform-reply.ensures.ran v slots here are of k) c.perform-reply.ensures.broken
          was.1));
      stuck = λ failed.
          let was = so_far.stuck failed in
          let one = c.perform-reply.ensures.broken was.1 in (
            subst (λ (replies : List Reply). RanAll g.D.Sectors first broken
                (take (c.loop-command.command-index + 1) c.args.commands.now) replies new broken) (sym items)
                (subst (λ (commands : List Command). RanAll g.D.Sectors first broken commands
                (c.loop-command.replies.items ++ reply ∷ []) new broken) (sym front)
                (ran_more g.D.Sectors first mid new broken broken broken command reply
                (take c.loop-command.command-index c.args.commands.now) c.loop-command.replies.items was.0 one)),
            ap (λ x. has_failed x) one.1 ∙ was.1,
          );
    }

pub returns-clause-ran : goal.returns-clause-ran
returns-clause-ran g c w holds k =
    let all = c.loop-command.invariant.ran w holds k in (
      all.0,
      subst (λ (commands : List Command). RanAll g.D.Sectors c.args.session.now (at w) commands
          c.loop-command.replies.items c.loop-command.session all.0)
          (take_all c.loop-command.command-index c.args.commands.now (omega (arith, c.loop-command-test.false))) all.1,
      session_holds g.D.Sectors c.loop-command.session c.loop-command.slots.queries.items all.0 all.2,
    )

pub returns-clause-found : goal.returns-clause-found
returns-clause-found g c w holds k =
    let all = c.loop-command.invariant.ran w holds k in
    whole g.D.Sectors c.args.session.now c.loop-command.session w none_running all.0 c.args.commands.now
    c.loop-command.replies.items
    (subst (λ (commands : List Command). RanAll g.D.Sectors c.args.session.now (at w) commands
    c.loop-command.replies.items c.loop-command.session all.0)
    (take_all c.loop-command.command-index c.args.commands.now (omega (arith, c.loop-command-test.false))) all.1)
    (leaves_at g.D.Sectors g.met.D.Sectors.only_now c.args.session.now w holds)

pub returns-clause-failed : goal.returns-clause-failed
returns-clause-failed g c failed =
    subst (λ (commands : List Command). RanAll g.D.Sectors c.args.session.now broken commands
    c.loop-command.replies.items c.loop-command.session broken)
    (take_all c.loop-command.command-index c.args.commands.now (omega (arith, c.loop-command-test.false)))
    (c.loop-command.invariant.stuck failed).0
