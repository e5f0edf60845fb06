use Rattle.std.specs.Prelude.{Option, Some, None, is_some}
use mathlib.Core.Path.{refl, sym, ap, ◌∙◌, ◌≡◌}
use mathlib.Core.Bool.{true≢false}
use native.Mathlib.Omega.{arith}
use Rattle.leaf.specs.declared.Answer.{Answer}
use Rattle.states.proofs.AmountLaws.{small_with_more}
use Rattle.search.proofs.Steps.{starts_in_time, ready_taken, stands_taken, dead_when_taken_open, dead_when_taken_until, ready_back, fresh_back, stands_back, dead_when_back, dead_when_unfinished}
use Rattle.facts.specs.FactSet.{difference, single}
use Rattle.facts.proofs.SetLaws.{in_difference_parts}
use Rattle.states.proofs.CandidateLaws.{subset_at_most}
use Rattle.times.proofs.Singles.{less_without}
use Rattle.search.proofs.Completeness.{dead_past_barred, dead_either, dead_until}
use Rattle.search.proofs.Counted.{found_when_finished, none_of}
use Rattle.search.proofs.regress.+attempt_choose_regress.Goals as goal

pub attempt-take-next-requires : goal.attempt-take-next-requires
attempt-take-next-requires t c =
    let h = c.requires in
    let ready = h.0 in
    let lent = ready.safe.lent in
    let few = lent.amounts.few in
    let known = h.1 in
    let fits = starts_in_time h.2 in
    let small = small_with_more _ 32 _ ready.safe.known.few ready.safe.small in (
      lent.set_count,
      lent.amounts.number_count,
      omega arith,
      h.2.room refl,
      lent.amounts.short _ known,
      omega arith,
      small,
    )

pub attempt-all_needed-requires : goal.attempt-all_needed-requires
attempt-all_needed-requires t c =
    let h = c.requires in
    let next = ready_taken _ _ _ c.args.frame c.args.st h.0 _ h.1 h.2 _ c.take-next.ensures in
    (next.safe.lent.set_count, next.safe.known, next.safe.lent.amounts.few, next.safe.since)

pub attempt-returns-then-not-all_needed : goal.attempt-returns-then-not-all_needed
attempt-returns-then-not-all_needed t c =
    let h = c.requires in
    let taken = c.take-next.ensures in
    let next = ready_taken _ _ _ c.args.frame c.args.st h.0 _ h.1 h.2 _ taken in
    record {
      found = λ a e. cc;
      dead = λ e J task stands.
          dead_when_taken_until _ _ _ c.args.frame c.args.st h.0 _ h.1 h.2 _ taken J _ task stands _
          (c.all_needed.ensures (c.if-not-all_needed.true) _ _ next.safe.known J
          task.described
          (stands_taken _ _ _ c.args.frame c.args.st h.0 _ h.1 h.2 _ taken J _ task stands));
    }

pub attempt-start_of-start-requires : goal.attempt-start_of-start-requires
attempt-start_of-start-requires t c =
    let h = c.requires in
    let lent = h.0.safe.lent in
    let few = lent.amounts.few in
    let known = h.1 in
    let fits = starts_in_time h.2 in
    (lent.amounts.number_count, omega arith, omega arith)

pub attempt-all_reached-requires : goal.attempt-all_reached-requires
attempt-all_reached-requires t c =
    let h = c.requires in
    let next = ready_taken _ _ _ c.args.frame c.args.st h.0 _ h.1 h.2 _ c.take-next.ensures in
    let fits = starts_in_time h.2 in
    let start = c.start_of-start.ensures in
    (next.safe.lent, next.safe.known, next.time_count, next.facts, next.origin, omega arith)

pub attempt-returns-then-not-all_reached : goal.attempt-returns-then-not-all_reached
attempt-returns-then-not-all_reached t c =
    let h = c.requires in
    let taken = c.take-next.ensures in
    let later = h.3 in
    let next = ready_taken _ _ _ c.args.frame c.args.st h.0 _ h.1 h.2 _ taken in
    record {
      found = λ a e. cc;
      dead = λ e J task stands.
          dead_when_taken_until _ _ _ c.args.frame c.args.st h.0 _ h.1 h.2 _ taken J _ task stands _
          (c.all_reached.ensures (c.if-not-all_reached.true) J task.described
          task.timely next.kept (let in_time = stands.in_time in omega arith)
          (stands_taken _ _ _ c.args.frame c.args.st h.0 _ h.1 h.2 _ taken J _ task stands));
    }

pub attempt-choose-requires : goal.attempt-choose-requires
attempt-choose-requires t c =
    let h = c.requires in
    let taken = c.take-next.ensures in
    let minute = taken.minute in
    let few = h.0.safe.lent.amounts.few in
    let known = h.1 in
    let next = ready_taken _ _ _ c.args.frame c.args.st h.0 _ h.1 h.2 _ taken in
    let later = h.3 in
    (omega arith, (next, omega arith))

pub attempt-returns : goal.attempt-returns
attempt-returns t c =
    let h = c.requires in
    let taken = c.take-next.ensures in
    record {
      found = c.choose.ensures.found;
      dead = λ e J task stands.
          dead_when_taken_open _ _ _ c.args.frame c.args.st h.0 _ h.1 h.2 _ taken J _ task stands _
          (c.choose.ensures.dead e J task
          (stands_taken _ _ _ c.args.frame c.args.st h.0 _ h.1 h.2 _ taken J _ task stands));
    }

pub choose-event-last-requires : goal.choose-event-last-requires
choose-event-last-requires t c =
    let h = c.requires in (h.0.safe.known.few, h.1, h.0.safe.pools)

pub choose-candidates-left-requires : goal.choose-candidates-left-requires
choose-candidates-left-requires t c =
    let h = c.requires in let l = h.1 in (h.0.safe, omega arith)

pub choose-loop-frame-init : goal.choose-loop-frame-init
choose-loop-frame-init t c =
    let found = c.candidates-left.ensures in (
      subset_at_most _ _ found.within,
      found.may,
      λ J task stands dead.
          dead_past_barred J c.args.frame c.args.st task.described.actions _ _
          (λ a known undecided out.
          let few = c.requires.0.safe.lent.amounts.few in
          found.barred a (omega arith) known undecided out J task.described stands)
          dead,
    )

pub choose-in_time-requires : goal.choose-in_time-requires
choose-in_time-requires t c =
    let h = c.requires in
    let ready = h.0 in
    let event = c.event-last.ensures in
    let inv = c.loop-frame.invariant in (
      ready.safe.lent,
      ready.safe.known,
      ready.time_count,
      ready.facts,
      (λ a member. let may = inv.1 a member in let fits = starts_in_time may.1 in (may.0, omega arith)),
      h.1,
      ready.kept_known,
      ready.origin,
      event.0,
      event.1,
    )

pub choose-back-before-requires : goal.choose-back-before-requires
choose-back-before-requires t c =
    let h = c.requires in (h.0.safe.lent, h.0.safe.known)

pub choose-regress-requires : goal.choose-regress-requires
choose-regress-requires t c =
    let h = c.requires in
    let e = c.event-last.ensures in
    let b = c.back-before.ensures in
    let earlier = e.1 in
    let there = b.minute in (
      omega arith,
      (
        ready_back _ _ _ c.args.frame c.args.st h.0 _ _ b e.0 e.1 e.2,
        fresh_back _ _ _ c.args.frame c.args.st h.0 _ _ b e.0 e.1 e.2,
      ),
    )

pub choose-returns-then-left-eq0 : goal.choose-returns-then-left-eq0
choose-returns-then-left-eq0 t c =
    let h = c.requires in
    let event = c.event-last.ensures in
    let b = c.back-before.ensures in
    let inv = c.loop-frame.invariant in
    let none : c.loop-frame.left ≡ 0 = omega arith in
    record {
      found = c.regress.ensures.found;
      dead = λ e J task stands.
          inv.2 J task stands
          (rw none
          (dead_when_back _ _ _ c.args.frame c.args.st h.0 _ _ b event.0 event.1 event.2 J _ task stands
          (c.regress.ensures.dead e J task
          (stands_back _ _ _ c.args.frame c.args.st h.0 _ _ b event.0 event.1 event.2 J _ task
          stands))));
    }

pub choose-single-requires : goal.choose-single-requires
choose-single-requires t c = c.pick-i.ensures.0

pub choose-attempt-answer-requires : goal.choose-attempt-answer-requires
choose-attempt-answer-requires t c =
    let h = c.requires in
    let inv = c.loop-frame.invariant in
    let most = inv.0 in
    let member = c.pick-i.ensures.1 in
    let may = inv.1 _ member in
    let e = c.difference-left.ensures.0 ∙ ap (difference c.loop-frame.left) c.single.ensures in
    let less = less_without c.loop-frame.left c.pick-i.result member in
    (omega arith, (h.0, may.0, may.1, h.1))

pub choose-returns-then-is_some : goal.choose-returns-then-is_some
choose-returns-then-is_some t c =
    record {
      found = c.attempt-answer.ensures.found;
      dead = λ e. let z = rw e at c.is_some.ensures in cc;
    }

pub choose-loop-frame-smaller : goal.choose-loop-frame-smaller
choose-loop-frame-smaller t c =
    let e = c.difference-left.ensures.0 ∙ ap (difference c.loop-frame.left) c.single.ensures in
    let less = less_without c.loop-frame.left c.pick-i.result c.pick-i.ensures.1 in omega arith

pub choose-loop-frame-preserved : goal.choose-loop-frame-preserved
choose-loop-frame-preserved t c =
    let inv = c.loop-frame.invariant in
    let most = inv.0 in
    let i = c.pick-i.result in
    let e : c.difference-left.result ≡ difference c.loop-frame.left (single i) =
    c.difference-left.ensures.0 ∙ ap (difference c.loop-frame.left) c.single.ensures in
    let less = less_without c.loop-frame.left i c.pick-i.ensures.1 in (
      omega arith,
      (λ a member. inv.1 a (in_difference_parts c.loop-frame.left (single i) a (rw e at member)).0),
      λ J task stands dead.
          inv.2 J task stands
          (dead_either J c.args.frame c.args.st c.loop-frame.left i
          (rw (← e) (c.attempt-answer.ensures.dead (none_of _ (sym c.is_some.ensures ∙ c.if-is_some.false)) J task stands))
          (rw (← e) dead)),
    )

pub choose-returns : goal.choose-returns
choose-returns t c =
    record {
      found = λ a e. cc;
      dead = λ e J task stands.
          c.loop-frame.invariant.2 J task stands
          (c.in_time.ensures c.event-last.ensures.2 c.loop-frame-test.false J task.described task.timely
          c.requires.0.kept stands);
    }

pub regress-finish-requires : goal.regress-finish-requires
regress-finish-requires t c =
    c.requires.0.safe.known.few

pub regress-returns-then-st-frame : goal.regress-returns-then-st-frame
regress-returns-then-st-frame t c =
    let h = c.requires.0 in
    record {
      found = λ a e J have count.
          found_when_finished J _ c.args.frame _ _ h.kept h.safe.known h.starts c.finish.ensures a e have count;
      dead = λ e J task stands.
          dead_when_unfinished J _ _ _ _ c.args.frame c.args.st _ h task c.finish.ensures (omega arith) e;
    }

pub regress-suffices-requires : goal.regress-suffices-requires
regress-suffices-requires t c =
    (c.requires.0.safe, c.requires.1, c.requires.0.not_before)

pub regress-returns-then-not-suffices : goal.regress-returns-then-not-suffices
regress-returns-then-not-suffices t c =
    record {
      found = λ a e. cc;
      dead = λ e J task stands.
          c.suffices.ensures (c.if-not-suffices.true) J task.described
          task.marked c.requires.0.kept stands;
    }

pub regress-all-undecided-requires : goal.regress-all-undecided-requires
regress-all-undecided-requires t c =
    c.requires.0.safe.lent.amounts.few

pub regress-choose-requires : goal.regress-choose-requires
regress-choose-requires t c =
    (omega arith, (c.requires.0, omega arith))

pub regress-returns : goal.regress-returns
regress-returns t c =
    record {
      found = c.choose.ensures.found;
      dead = λ e J task stands.
          dead_until J c.args.frame c.args.st task.described.actions c.all-undecided.result c.all-undecided.ensures
          (c.choose.ensures.dead e J task stands);
    }
